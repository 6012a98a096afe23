-- Counts of right reports.
use Rattle.std.proofs.Common.{◌≡◌, ◌≤◌, ◌<◌, ◌+◌, ℕ, zero, suc, List, [], ◌∷◌, ◌++◌, length, take, drop, Option, Some, None, Result, Ok, Err, refl, sym, ap, subst, ◌∙◌, arith, length-append, append-nil}
use Rattle.std.specs.Prelude.{IfOk, unwrap_or}
use Rattle.std.proofs.lemmas.List.Sums.{count_by-le-length, sum_by_push}
use Rattle.std.proofs.lemmas.List.{take-append-drop}
use Rattle.block_runs.specs.Answering.{Finishes, IsCutAtEnd}
use Rattle.decomposition.specs.declared.Mode.{Mode}
use Rattle.decomposition.specs.declared.Mode.TheVariants.{Exact}
use Rattle.decomposition.specs.Graph.{edge_count}
use Rattle.decomposition.specs.Instance.{Instance, objective}
use Rattle.flow_io.specs.Outside.{Adds, AddsPrefix}
use Rattle.flow_io.specs.declared.status.Status.{Status}
use Rattle.flow_io.specs.declared.status.Status.TheVariants.{Clean, Partial}
use Rattle.graph_text.specs.Accepted.{IsAccepted}
use Rattle.graph_text.specs.Blocks.{TextBlock}
use Rattle.graph_text.specs.Reading.{most_edges, most_constraints, instance_of}
use Rattle.graph_text.specs.declared.block.RawGraph.{RawGraph}
use Rattle.report_terms.specs.declared.refusal.Refusal.{Refusal}
use Rattle.report_terms.specs.declared.report.Report.{Report}
use Rattle.report_terms.specs.declared.report.Body.{Body}
use Rattle.report_terms.specs.declared.report.Body.TheVariants.{Refused, Solved as SolvedBody}
use Rattle.flowpaths_cli.specs.declared.generated.Counting.{Counting}
use Rattle.flowpaths_cli.specs.declared.settings.Settings.{Settings}
use Rattle.flowpaths_cli.specs.declared.tally.Tally.{Tally}
use Rattle.flowpaths_cli.specs.Generated.{IsTallied, AreTallied, HasCounted, IsToldWith}
use Rattle.flowpaths_cli.specs.Marks.{is_best, paths_of}
use Rattle.flow_solver.specs.Right.{ArePathsFor, AreFew}
use Rattle.flowpaths_cli.specs.Right.{AreBuilt, BodyRight, IsReportOf, is_open}
use Rattle.flowpaths_cli.specs.Run.{AreReports}
use Rattle.flowpaths_cli.specs.Tally.{most_told, tally_of, lines_of, IsWithin}
use Rattle.flowpaths_cli.proofs.Reports.{reports-more}

-- one report for each block
pub length-reports : (s : Settings) (shown : List TextBlock) (reports : List Report) (text : List ℕ) → AreReports s shown reports text → length reports ≡ length shown
length-reports s [] [] text h = refl
length-reports s [] (report ∷ reports) text h = absurd h
length-reports s (block ∷ shown) [] text h = absurd h
length-reports s (block ∷ shown) (report ∷ reports) text h = ap suc (length-reports s shown reports h.1 h.4)

-- the counts are in their ranges
pub tallied-within : (s : Settings) (t : Tally) → AreTallied s t → IsWithin t
tallied-within s t (shown, short, is) =
    let same = length-reports s shown is.reports is.text is.right in
    let blocks : t.blocks ≡ length is.reports = ap (λ (u : Tally). u.blocks) is.counts in
    record {
      blocks = omega (arith, blocks, same, short);
      optimal = omega (arith, blocks, ap (λ (u : Tally). u.optimal) is.counts, count_by-le-length (λ (r : Report). is_best r.body) is.reports);
      bounds = omega (arith, blocks, ap (λ (u : Tally). u.bounds) is.counts, count_by-le-length (λ (r : Report). is_open r.body) is.reports);
      paths = omega (arith, blocks, is.few);
    }

-- a right body in the exact model has few paths
few-upper : (mode : Mode) (i : Instance) (upper : Option ℕ) (paths : List (List ℕ × ℕ)) → mode ≡ Exact → ArePathsFor mode i upper paths → AreFew mode i paths
    → edge_count i.graph ≤ most_edges → length i.rules ≤ most_constraints → unwrap_or upper 0 ≤ most_told
few-upper mode i None paths exact right few edges rules = omega arith
few-upper mode i (Some upper) paths exact right few edges rules =
    let bound : length paths ≤ edge_count i.graph + length i.rules = subst (λ m. AreFew m i paths) exact few in
    let same : length paths ≡ upper = subst (λ m. objective m i paths ≡ upper) exact right.1 in
    omega (arith, bound, same, edges, rules)

pub paths-few : (s : Settings) (read : Result RawGraph Refusal) (body : Body) → s.mode ≡ Exact → IfOk read (IsAccepted s.mode) → BodyRight s read body → paths_of body ≤ most_told
paths-few s (Err refusal) (Refused r) exact valid right = omega arith
paths-few s (Err refusal) (SolvedBody solved) exact valid right = absurd right
paths-few s (Ok graph) (Refused r) exact valid right = absurd right
paths-few s (Ok graph) (SolvedBody solved) exact valid right =
    few-upper s.mode (instance_of graph) solved.upper solved.paths exact right.paths right.few valid.few_edges valid.few_runs

-- one report more
tallied-more : (s : Settings) (shown : List TextBlock) (old new : Tally) (block : TextBlock) (report : Report) (piece : List ℕ) → IsTallied s shown old →
    IsReportOf s block report piece → paths_of report.body ≤ most_told → ((reports : List Report) → old ≡ tally_of reports → new ≡ tally_of (reports ++ report ∷ [])) →
    IsTallied s (shown ++ block ∷ []) new
tallied-more s shown old new block report piece is one small counted =
    let counts = counted is.reports is.counts in
    record {
      reports = is.reports ++ report ∷ [];
      text = is.text ++ piece;
      right = reports-more s shown is.reports is.text block report piece is.right one;
      counts = counts;
      few = omega (
        arith,
        is.few,
        small,
        ap (λ (u : Tally). u.paths) counts,
        ap (λ (u : Tally). u.paths) is.counts,
        sum_by_push (λ (r : Report). paths_of r.body) is.reports report,
        length-append is.reports (report ∷ []),
      );
    }

pub counted-more : (first now : Counting) (new : Tally) (shown : List TextBlock) (text : List ℕ) (block : TextBlock) (report : Report) (piece : List ℕ) → HasCounted first now shown text →
    IsReportOf now.settings.now block report piece → paths_of report.body ≤ most_told → ((reports : List Report) → now.tally ≡ tally_of reports → new ≡ tally_of (reports ++ report ∷ [])) →
    HasCounted first (record { settings = now.settings; tally = new }) (shown ++ block ∷ []) (text ++ [])
counted-more first now new shown text block report piece h one small counted = record {
  built = h.built;
  exact = h.exact;
  settings_are = h.settings_are;
  tallied = tallied-more first.settings.now shown now.tally new block report piece h.tallied (subst (λ s. IsReportOf s block report piece) h.settings_are one) small counted;
  nothing = append-nil text ∙ h.nothing;
}

-- nothing is counted yet
pub counted-nothing : (first : Counting) → AreBuilt first.settings.now → first.settings.now.mode ≡ Exact → first.tally ≡ tally_of [] → HasCounted first first [] []
counted-nothing first built exact none = record {
  built = built;
  exact = exact;
  settings_are = refl;
  tallied = record { reports = []; text = []; right = refl; counts = none; few = omega (arith, ap (λ (u : Tally). u.paths) none) };
  nothing = refl;
}

-- all graphs are counted, and the lines are written, or a beginning of them
told-with : (first now : Counting) (shown : List TextBlock) (text lines : List ℕ) (status : Status) → HasCounted first now shown text → lines ≡ lines_of now.tally →
    (now.tally.bounds ≡ 0 → status ≡ Clean) → (0 < now.tally.bounds → status ≡ Partial) → IsToldWith first.settings.now status shown (text ++ lines)
told-with first now shown text lines status h are clean partial = record {
  tally = now.tally;
  tallied = h.tallied;
  lines = ap (λ t. t ++ lines) h.nothing ∙ are;
  clean = clean;
  partial = partial;
}

pub told-all : (now : Counting) (lines : List ℕ) (status : Status) (before after : Option (List ℕ)) → lines ≡ lines_of now.tally →
    (now.tally.bounds ≡ 0 → status ≡ Clean) → (0 < now.tally.bounds → status ≡ Partial) → Adds before after lines →
    Finishes {W = Counting} (λ first shown text. HasCounted first now shown text) (λ first shown text. IsToldWith first.settings.now status shown text) before after
told-all now lines status before after are clean partial adds = (lines, adds, λ first shown text h. told-with first now shown text lines status h are clean partial)

told-status : (bounds : ℕ) → (status : Status) × (bounds ≡ 0 → status ≡ Clean) × (0 < bounds → status ≡ Partial)
told-status zero = (Clean, λ e. refl, λ some. absurd (omega (arith, some)))
told-status (suc n) = (Partial, λ e. absurd (omega (arith, e)), λ some. refl)

pub told-cut : (now : Counting) (lines : List ℕ) (before after : Option (List ℕ)) → lines ≡ lines_of now.tally → AddsPrefix before after lines →
    IsCutAtEnd {W = Counting} (λ first shown text. HasCounted first now shown text) (λ first status shown text. IsToldWith first.settings.now status shown text) before after
told-cut now lines before after are adds =
    let told = told-status now.tally.bounds in (
      take adds.0 lines,
      drop adds.0 lines,
      told.0,
      adds.2,
      λ first shown text h.
          subst (λ l. IsToldWith first.settings.now told.0 shown (text ++ l)) (sym (take-append-drop adds.0 lines))
          (told-with first now shown text lines told.0 h are told.1 told.2),
    )
