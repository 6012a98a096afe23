-- Reports of worked examples.
use Rattle.std.specs.Prelude.{ℕ, List, [], ◌∷◌, codes, Option, Some, None}
use Rattle.decomposition.specs.declared.Mode.TheVariants.{Exact}
use Rattle.decomposition.specs.declared.Token.TheVariants.{Gap, Step}
use Rattle.report_terms.specs.declared.refusal.Why.TheVariants.{Unconserved}
use Rattle.graph_text.specs.Labels.{LabelLists}
use Rattle.report_terms.specs.declared.report.Mark.TheVariants.{Optimal, Infeasible, Bounds}
use Rattle.report_terms.specs.declared.report.Cert.{Cert}
use Rattle.report_terms.specs.declared.report.Cert.TheVariants.{Wide}
use Rattle.report_terms.specs.declared.report.Trail.{Trail}
use Rattle.report_terms.specs.declared.report.Solved.{Solved}
use Rattle.report_terms.specs.declared.report.Body.TheVariants.{Refused, Solved as SolvedBody}
use Rattle.report_terms.specs.declared.report.Report.{Report}

-- the labels of one edge, and of two paths of two edges each
abbrev pub one_edge : LabelLists
one_edge = record { names = codes "s" ∷ codes "t" ∷ []; edges = (0, 1) ∷ [] }

abbrev pub two_sides : LabelLists
two_sides = record { names = codes "s" ∷ codes "a" ∷ codes "b" ∷ codes "t" ∷ []; edges = (0, 1) ∷ (0, 2) ∷ (1, 3) ∷ (2, 3) ∷ [] }

-- the report on a block, named one, that has a path of weight 5
abbrev pub optimal_report : Report
optimal_report = record {
  index = 1;
  name = codes "one";
  mode = Exact;
  body = SolvedBody (record {
    mark = Optimal;
    lower = Some 1;
    upper = Some 1;
    paths = (0 ∷ [], 5) ∷ [];
    cert = Wide (0 ∷ []);
    trail = None;
    safe = None;
  });
}

-- the report on a block that is refused, for its line 3
abbrev pub refused_report : Report
refused_report = record { index = 1; name = codes "x"; mode = Exact; body = Refused (record { line = 3; why = Unconserved }) }

-- the report on a block without a name for which this was found
abbrev pub report_on : Solved → Report
report_on s = record { index = 2; name = []; mode = Exact; body = SolvedBody s }

-- a path on each of two sides
abbrev pub both_sides : Solved
both_sides = record {
  mark = Optimal;
  lower = Some 2;
  upper = Some 2;
  paths = (0 ∷ 2 ∷ [], 3) ∷ (1 ∷ 3 ∷ [], 2) ∷ [];
  cert = Wide (0 ∷ 1 ∷ []);
  trail = None;
  safe = None;
}

-- the report that has these paths of two sides, one with these safe runs, and one with this trail
abbrev pub sides_report : List (List ℕ × ℕ) → Report
sides_report paths = report_on (record both_sides { paths = paths })

abbrev pub safe_report : List (List ℕ) → Report
safe_report runs = report_on (record both_sides { safe = Some runs })

abbrev pub trail_report : Option Trail → Report
trail_report trail = report_on (record both_sides { trail = trail })

-- no path carries the flow, so the gap closes the box; one path leaves the source by one of two edges
abbrev pub no_slot : Trail
no_slot = record { decision = record { slots = 0; limit = Some 0 }; tokens = Gap ∷ [] }

abbrev pub one_slot : Trail
one_slot = record { decision = record { slots = 1; limit = Some 0 }; tokens = Step 0 ∷ [] }

-- the report that leaves open whether fewer than two paths suffice
abbrev pub open_report : ℕ → Cert → Option Trail → Report
open_report lower cert trail = report_on (record both_sides { mark = Bounds; lower = Some lower; cert = cert; trail = trail })

-- the report that there is no answer, and why
abbrev pub infeasible_report : Cert → Report
infeasible_report cert =
    report_on (record { mark = Infeasible; lower = None; upper = None; paths = []; cert = cert; trail = None; safe = None })
