-- Right reports for graphs without runs to be covered: each is of a graph with best paths or an open optimum, and has at least the fewest paths.
use Rattle.std.proofs.Common.{◌≡◌, ◌≤◌, ◌+◌, ℕ, List, [], ◌∷◌, length, Bool, true, false, cond, Option, Some, None, Result, Ok, Err, refl, sym, ap, subst, ◌∙◌, arith}
use Rattle.std.specs.Prelude.{All, IsOkAnd, count_by, sum, sum_by, unwrap_or}
use Rattle.std.proofs.lemmas.Bool.{true≢false}
use Rattle.std.proofs.lemmas.List.Elements.{All-head, All-tail}
use Rattle.std.proofs.lemmas.List.Sums.{sum_by-cons}
use Rattle.std.proofs.lemmas.Option.{none-some}
use Rattle.decomposition.specs.declared.Mode.{Mode}
use Rattle.decomposition.specs.declared.Mode.TheVariants.{Exact}
use Rattle.decomposition.specs.Instance.{Instance, Meets, objective, IsOptimal}
use Rattle.demo_text.specs.Accepted.{IsPlain}
use Rattle.graph_text.specs.Blocks.{TextBlock}
use Rattle.graph_text.specs.Reading.{read, instance_of}
use Rattle.graph_text.specs.declared.block.RawGraph.{RawGraph}
use Rattle.report_terms.specs.declared.refusal.Refusal.{Refusal}
use Rattle.report_terms.specs.declared.report.Report.{Report}
use Rattle.report_terms.specs.declared.report.Solved.{Solved}
use Rattle.report_terms.specs.declared.report.Body.{Body}
use Rattle.report_terms.specs.declared.report.Body.TheVariants.{Refused, Solved as SolvedBody}
use Rattle.report_terms.specs.declared.report.Mark.{Mark}
use Rattle.report_terms.specs.declared.report.Mark.TheVariants.{Optimal, Infeasible, Bounds}
use Rattle.flowpaths_cli.specs.declared.settings.Settings.{Settings}
use Rattle.flow_solver.specs.Booking.{AreBookedFor, BookedFit, IsKnownWhereBookedFit}
use Rattle.flowpaths_cli.specs.Generated.{IsFewest, AreFewest}
use Rattle.flowpaths_cli.specs.Marks.{is_best_mark, is_best, paths_of}
use Rattle.flow_solver.specs.Right.{ArePathsFor, IsMarked}
use Rattle.flowpaths_cli.specs.Right.{BodyRight, is_open_mark, is_open}
use Rattle.flowpaths_cli.specs.Run.{AreReports}

-- where no run must be covered, nothing is booked, and that fits
nothing-booked : (i : Instance) → i.rules ≡ [] → AreBookedFor i []
nothing-booked i none = subst (λ rules. AreBookedFor (record i { rules = rules }) []) (sym none) refl

nothing-fits : (mode : Mode) (i : Instance) → mode ≡ Exact → BookedFit mode i []
nothing-fits mode i exact = subst (λ m. BookedFit m i []) (sym exact) (λ e inside. omega arith)

-- so some number of paths is known
some-known : (mode : Mode) (i : Instance) (upper : Option ℕ) → mode ≡ Exact → i.rules ≡ [] → IsKnownWhereBookedFit mode i upper → (u : ℕ) × (upper ≡ Some u)
some-known mode i None exact none known = absurd (known refl [] (nothing-booked i none) (nothing-fits mode i exact))
some-known mode i (Some u) exact none known = (u, refl)

-- what a mark says where a number of paths is known
record IsDecisive (i : Instance) (mark : Mark) (u : ℕ) : Type 0 where
  one : cond (is_best_mark mark) 1 0 + cond (is_open_mark mark) 1 0 ≡ 1
  best : is_open_mark mark ≡ false → (n : ℕ) → IsFewest i n → u ≤ n

decisive : (s : Settings) (i : Instance) (solved : Solved) (u : ℕ) (mark : Mark) → s.mode ≡ Exact → solved.upper ≡ Some u → objective Exact i solved.paths ≡ u →
    IsMarked s.nodes s.mode i solved mark → (mark ≡ Optimal → IsOptimal s.mode i solved.paths) → IsDecisive i mark u
decisive s i solved u Optimal exact upper value marked optimal = record {
  one = refl;
  best = λ closed n fewest.
      let least : IsOptimal Exact i solved.paths = subst (λ m. IsOptimal m i solved.paths) exact (optimal refl) in
      omega (arith, least.least fewest.paths fewest.meets, fewest.counted, value);
}
decisive s i solved u Infeasible exact upper value marked optimal = absurd (none-some u (sym marked.upper ∙ upper))
decisive s i solved u Bounds exact upper value marked optimal = record { one = refl; best = λ closed n fewest. absurd (true≢false closed) }

-- what a right body says of a graph without runs
record IsDecided (read : Result RawGraph Refusal) (body : Body) : Type 0 where
  one : cond (is_best body) 1 0 + cond (is_open body) 1 0 ≡ 1
  least : (n : ℕ) → IsOkAnd read (λ graph. IsFewest (instance_of graph) n) → n ≤ paths_of body
  best : is_open body ≡ false → (n : ℕ) → IsOkAnd read (λ graph. IsFewest (instance_of graph) n) → paths_of body ≤ n

body-decided : (s : Settings) (read : Result RawGraph Refusal) (body : Body) → s.mode ≡ Exact → IsOkAnd read (λ graph. graph.runs ≡ []) → BodyRight s read body → IsDecided read body
body-decided s (Err refusal) body exact plain right = absurd plain
body-decided s (Ok graph) (Refused r) exact plain right = absurd right
body-decided s (Ok graph) (SolvedBody solved) exact plain right =
    let i = instance_of graph in
    let known = some-known s.mode i solved.upper exact plain right.known in
    let u = known.0 in
    let paths : Meets s.mode i solved.paths × (objective s.mode i solved.paths ≡ u) = subst (λ upper. ArePathsFor s.mode i upper solved.paths) known.1 right.paths in
    let meets : Meets Exact i solved.paths = subst (λ m. Meets m i solved.paths) exact paths.0 in
    let value : objective Exact i solved.paths ≡ u = subst (λ m. objective m i solved.paths ≡ u) exact paths.1 in
    let decides : IsDecisive i solved.mark u = decisive s i solved u solved.mark exact known.1 value right.marked right.optimal in
    let number : unwrap_or solved.upper 0 ≡ u = ap (λ upper. unwrap_or upper 0) known.1 in
    record {
      one = decides.one;
      least = λ n fewest. omega (arith, fewest.least solved.paths meets, value, number);
      best = λ closed n fewest. omega (arith, decides.best closed n fewest, number);
    }

-- the same over all blocks
pub record AreDecided (shown : List TextBlock) (reports : List Report) : Type 0 where
  pub marks : count_by (λ r. is_best r.body) reports + count_by (λ r. is_open r.body) reports ≡ length shown
  pub least : (numbers : List ℕ) → AreFewest shown numbers → sum numbers ≤ sum_by (λ r. paths_of r.body) reports
  pub best : count_by (λ r. is_open r.body) reports ≡ 0 → (numbers : List ℕ) → AreFewest shown numbers → sum_by (λ r. paths_of r.body) reports ≤ sum numbers

closed-from : (b : Bool) (rest : ℕ) → cond b 1 0 + rest ≡ 0 → b ≡ false
closed-from true rest h = absurd (omega (arith, h))
closed-from false rest h = refl

module _ (s : Settings) (exact : s.mode ≡ Exact) where
  pub all-decided : (shown : List TextBlock) (reports : List Report) (text : List ℕ) → All IsPlain shown → AreReports s shown reports text → AreDecided shown reports
  all-decided [] [] text plain right = record {
    marks = refl;
    least = none;
    best = λ closed. none-back;
  } where
    none : (numbers : List ℕ) → AreFewest [] numbers → sum numbers ≤ 0
    none [] h = omega arith
    none (n ∷ numbers) h = absurd h

    none-back : (numbers : List ℕ) → AreFewest [] numbers → 0 ≤ sum numbers
    none-back numbers h = omega arith
  all-decided [] (report ∷ reports) text plain right = absurd right
  all-decided (block ∷ shown) [] text plain right = absurd right
  all-decided (block ∷ shown) (report ∷ reports) text plain right =
      let rest = all-decided shown reports right.1 (All-tail IsPlain block shown plain) right.4 in
      let body : BodyRight s (read Exact block) report.body = subst (λ m. BodyRight s (read m block) report.body) exact right.3.body_is in
      let here = body-decided s (read Exact block) report.body exact (All-head IsPlain block shown plain) body in
      let best = sum_by-cons (λ (r : Report). cond (is_best r.body) 1 0) report reports in
      let open_ = sum_by-cons (λ (r : Report). cond (is_open r.body) 1 0) report reports in
      let paths = sum_by-cons (λ (r : Report). paths_of r.body) report reports in
      record {
        marks = omega (arith, rest.marks, here.one, best, open_);
        least = least here rest paths;
        best = λ none.
            let closed = closed-from (is_open report.body) (count_by (λ r. is_open r.body) reports) (sym open_ ∙ none) in
            best_of here rest paths closed (omega (arith, open_, none));
      }
    where
      least : IsDecided (read Exact block) report.body → AreDecided shown reports → sum_by (λ (r : Report). paths_of r.body) (report ∷ reports) ≡ paths_of report.body + sum_by (λ (r : Report). paths_of r.body) reports →
          (numbers : List ℕ) → AreFewest (block ∷ shown) numbers → sum numbers ≤ sum_by (λ (r : Report). paths_of r.body) (report ∷ reports)
      least here rest paths [] h = absurd h
      least here rest paths (n ∷ numbers) h = omega (arith, here.least n h.0, rest.least numbers h.1, paths, sum_by-cons (λ (k : ℕ). k) n numbers)

      best_of : IsDecided (read Exact block) report.body → AreDecided shown reports → sum_by (λ (r : Report). paths_of r.body) (report ∷ reports) ≡ paths_of report.body + sum_by (λ (r : Report). paths_of r.body) reports →
          is_open report.body ≡ false → count_by (λ r. is_open r.body) reports ≡ 0 →
          (numbers : List ℕ) → AreFewest (block ∷ shown) numbers → sum_by (λ (r : Report). paths_of r.body) (report ∷ reports) ≤ sum numbers
      best_of here rest paths closed none [] h = absurd h
      best_of here rest paths closed none (n ∷ numbers) h = omega (arith, here.best closed n h.0, rest.best none numbers h.1, paths, sum_by-cons (λ (k : ℕ). k) n numbers)
