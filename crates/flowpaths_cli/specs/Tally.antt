-- The counts of reports, and the four lines that tell them.
use Rattle.std.specs.Prelude.{ℕ, ◌+◌, ◌*◌, ◌^◌, ◌<◌, ◌≤◌, List, ◌++◌, length, count_by, sum_by, codes, decimal}
use Rattle.graph_text.specs.Reading.{most_edges, most_constraints}
use Rattle.report_terms.specs.declared.report.Report.{Report}
use Rattle.flowpaths_cli.specs.declared.tally.Tally.{Tally}
use Rattle.flowpaths_cli.specs.Marks.{is_best, paths_of}
use Rattle.flowpaths_cli.specs.Right.{is_open}

-- how many reports there are, how many are of graphs whose paths are best, how many leave the optimum open, and the sum of the numbers of paths
abbrev pub tally_of : List Report → Tally
tally_of reports = record {
  blocks = length reports;
  optimal = count_by (λ r. is_best r.body) reports;
  bounds = count_by (λ r. is_open r.body) reports;
  paths = sum_by (λ r. paths_of r.body) reports;
}

-- the four lines of the counts
abbrev pub lines_of : Tally → List ℕ
lines_of t =
    codes "blocks " ++ decimal t.blocks ++ codes "\noptimal " ++ decimal t.optimal ++ codes "\nbounds " ++ decimal t.bounds ++ codes "\npaths "
    ++ decimal t.paths ++ codes "\n"

-- the most paths that a report of the exact model has: one for each edge, and one for each constraint
abbrev pub most_told : ℕ
most_told = most_edges + most_constraints

-- the counts of fewer than 2^32 reports, of so many paths each at most
pub record IsWithin (t : Tally) : Type 0 where
  pub blocks : t.blocks < 2 ^ 32
  pub optimal : t.optimal ≤ t.blocks
  pub bounds : t.bounds ≤ t.blocks
  pub paths : t.paths ≤ most_told * t.blocks
