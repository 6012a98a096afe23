-- The numbers of blocks and of texts at the end of a check.
use Rattle.std.proofs.Common.{◌≡◌, ◌≢◌, ◌<◌, ◌^◌, ◌==◌, ℕ, List, [], ◌++◌, length, take, drop, false, Option, sym, ap, subst, ◌∙◌, eq-eqb}
use Rattle.std.proofs.lemmas.Bool.{cond-true, cond-false, eqb-true, false_from_ne_true}
use Rattle.std.proofs.lemmas.List.{take-append-drop}
use Rattle.std.specs.List.{list_any}
use Rattle.std.specs.Prelude.{not}
use Rattle.flow_io.specs.Outside.{Adds, AddsPrefix}
use Rattle.flow_io.specs.declared.status.Status.TheVariants.{Refused}
use Rattle.flow_io.proofs.Adding.{Adds-nothing}
use Rattle.graph_text.specs.Blocks.{TextBlock}
use Rattle.program_runs.proofs.Statuses.{done-by}
use Rattle.block_runs.specs.Answering.{HasCome, Finishes, IsCutAtEnd}
use Rattle.flowcheck_cli.specs.CheckLines.{outcome_lines, counts_line, counts_line_if_other, status_of, is_yes, is_unread}
use Rattle.flowcheck_cli.specs.ReportTexts.{report_texts}
use Rattle.flowcheck_cli.specs.Run.{IsDone, AreAllLines}
use Rattle.flowcheck_cli.specs.Checking.{Checks}
use Rattle.flowcheck_cli.specs.declared.checking.Checking.{Checking}

-- a status of outcomes is that of a run that came to its end
pub checked-done : (c : Checking) → HasCome {W = Checking} (λ first shown text. Checks first c shown text) → IsDone c.status
checked-done c (first, shown, text, h) =
    subst IsDone (sym h.checked.status_is) (done-by (list_any is_unread h.outcomes) (list_any (λ outcome. not (is_yes outcome)) h.outcomes))

-- there are few reports
pub few-reports : (c : Checking) → HasCome {W = Checking} (λ first shown text. Checks first c shown text) → length c.reports.now < 2 ^ 30
few-reports c (first, shown, text, h) = subst (λ r. length r < 2 ^ 30) (sym h.reports_are) h.begun.short

-- how many texts there are
abbrev pub texts_of : Checking → ℕ
texts_of c = length (report_texts c.reports.now)

same_texts : (first c : Checking) (shown : List TextBlock) (text : List ℕ) → Checks first c shown text → texts_of c ≡ texts_of first
same_texts first c shown text h = ap (λ r. length (report_texts r)) h.reports_are

-- where the numbers are equal nothing more is printed
pub told-same : (c : Checking) (told : Option (List ℕ)) → c.blocks ≡ texts_of c →
    Finishes {W = Checking} (λ first shown text. Checks first c shown text) (λ first shown text. AreAllLines first.reports.now c.status shown text) told told
told-same c told same = (
  [],
  Adds-nothing told,
  λ first shown text h.
      let lines = outcome_lines shown h.outcomes in
      let n = length shown in
      let equal : n ≡ texts_of first = sym h.checked.blocks_are ∙ same ∙ same_texts first c shown text h in
      let line : counts_line_if_other n (texts_of first) ≡ [] = cond-true (n == texts_of first) [] (counts_line n (texts_of first)) (eq-eqb n (texts_of first) equal) in (
        h.outcomes,
        record { outcomes_are = h.checked.outcomes_are; lines_are = ap (λ t. t ++ []) h.text_is ∙ ap (λ l. lines ++ l) (sym line) },
        h.checked.status_is ∙ sym (cond-true (n == texts_of first) (status_of h.outcomes) Refused (eq-eqb n (texts_of first) equal)),
      ),
)

-- where they differ a line tells both
other_all : (c first : Checking) (shown : List TextBlock) (text : List ℕ) → (c.blocks ≢ texts_of c) → Checks first c shown text →
    AreAllLines first.reports.now Refused shown (text ++ counts_line c.blocks (texts_of c))
other_all c first shown text other h =
    let n = length shown in
    let texts = same_texts first c shown text h in
    let differ : (n == texts_of first) ≡ false =
    false_from_ne_true (n == texts_of first) (λ same. other (h.checked.blocks_are ∙ eqb-true n (texts_of first) same ∙ sym texts)) in
    let line : counts_line c.blocks (texts_of c) ≡ counts_line_if_other n (texts_of first) =
    ap (λ k. counts_line k (texts_of c)) h.checked.blocks_are ∙ ap (λ k. counts_line n k) texts
    ∙ sym (cond-false (n == texts_of first) [] (counts_line n (texts_of first)) differ) in (
      h.outcomes,
      record {
        outcomes_are = h.checked.outcomes_are;
        lines_are = ap (λ t. t ++ counts_line c.blocks (texts_of c)) h.text_is ∙ ap (λ l. outcome_lines shown h.outcomes ++ l) line;
      },
      sym (cond-false (n == texts_of first) (status_of h.outcomes) Refused differ),
    )

pub told-other : (c : Checking) (was now : Option (List ℕ)) → (c.blocks ≢ texts_of c) → Adds was now (counts_line c.blocks (texts_of c)) →
    Finishes {W = Checking} (λ first shown text. Checks first c shown text) (λ first shown text. AreAllLines first.reports.now Refused shown text) was now
told-other c was now other adds = (counts_line c.blocks (texts_of c), adds, λ first shown text h. other_all c first shown text other h)

-- that line is cut off
pub told-cut : (c : Checking) (was now : Option (List ℕ)) → (c.blocks ≢ texts_of c) → AddsPrefix was now (counts_line c.blocks (texts_of c)) →
    IsCutAtEnd {W = Checking} (λ first shown text. Checks first c shown text) (λ first status shown text. AreAllLines first.reports.now status shown text) was now
told-cut c was now other adds =
    let piece = counts_line c.blocks (texts_of c) in
    let n = adds.0 in (
      take n piece,
      drop n piece,
      Refused,
      adds.2,
      λ first shown text h.
          subst (λ p. AreAllLines first.reports.now Refused shown (text ++ p)) (sym (take-append-drop n piece)) (other_all c first shown text other h),
    )
