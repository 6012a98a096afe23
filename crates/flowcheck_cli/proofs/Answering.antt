-- Reports that are right are answered by yes alone.
use Rattle.std.proofs.Common.{◌≡◌, ◌+◌, ℕ, false, List, [], ◌∷◌, ◌++◌, length, refl, sym, ap, ap₂, ◌∙◌, subst, inl, inr, append-nil, arith, eq-eqb}
use Rattle.std.specs.Prelude.{◌==◌, All, None, Result, Ok, Err, cond, not}
use Rattle.std.specs.List.{list_any}
use Rattle.std.proofs.lemmas.Bool.{cond-false, cond-true}
use Rattle.std.proofs.lemmas.List.Elements.{All-head, All-tail}
use Rattle.decomposition.specs.declared.Mode.{Mode}
use Rattle.flow_io.specs.declared.status.Status.TheVariants.{Clean, Partial, Refused as SomeRefused}
use Rattle.graph_text.specs.Blocks.{TextBlock, IsTextBlock, blocks}
use Rattle.graph_text.specs.Labels.{AreLabels}
use Rattle.graph_text.specs.Reader.{handed}
use Rattle.graph_text.specs.Reading.{read}
use Rattle.graph_text.specs.declared.block.Block.{Block}
use Rattle.graph_text.specs.declared.block.RawGraph.{RawGraph}
use Rattle.report_terms.specs.declared.refusal.Refusal.{Refusal}
use Rattle.graph_text.proofs.Accepting.{graphs_are_accepted}
use Rattle.graph_text.proofs.Naming.{AreLabels-empty}
use Rattle.graph_text.proofs.TextBlocks.{blocks-each}
use Rattle.report_reading.specs.BadLines.{first_bad_line, IsTextOf}
use Rattle.report_terms.specs.declared.report.Body.{Body}
use Rattle.report_terms.specs.declared.report.Body.TheVariants.{Refused, Solved as SolvedBody}
use Rattle.report_terms.specs.declared.report.Report.{Report}
use Rattle.report_reading.proofs.Complete.{bad_lines_are_of_no_report, texts_are_of_one_report}
use Rattle.report_texts.specs.Laws.{Labelled, IsWritten, text_in}
use Rattle.report_texts.proofs.Cutting.{first_texts_are_cut_off}
use Rattle.report_texts.proofs.Models.{models_are_told}
use Rattle.flowcheck_cli.specs.CheckLines.{AreOutcomes, counts_line, counts_line_if_other, is_unread, is_yes, outcome_line, outcome_lines, status_of, status_of_all}
use Rattle.program_runs.specs.HandedBlocks.{labels_of}
use Rattle.flowcheck_cli.specs.Outcomes.{BodyFailsAt, IsOutcome, IsRightBody, IsRightReport, ReportFailsAt}
use Rattle.flowcheck_cli.specs.ReportTexts.{line_count, model_in, report_texts}
use Rattle.flowcheck_cli.specs.RightReports.{AreRightReports, all_yes, yes_lines, RightReportsAreAnsweredYes, RightReportsAreClean}
use Rattle.flowcheck_cli.specs.declared.outcome.Outcome.{Outcome}
use Rattle.flowcheck_cli.specs.declared.outcome.Outcome.TheVariants.{Yes, No, Unread}

-- the labels of a block
labels-read : (mode : Mode) (block : TextBlock) (r : Result RawGraph Refusal) → IsTextBlock block → read mode block ≡ r → AreLabels (labels_of r)
labels-read mode block (Ok graph) is e = (graphs_are_accepted mode block graph is.no_feeds e).labels
labels-read mode block (Err refusal) is e = AreLabels-empty [] [] refl refl

labels-are : (mode : Mode) (block : TextBlock) → IsTextBlock block → AreLabels (labels_of (read mode block))
labels-are mode block is = labels-read mode block (read mode block) is refl

-- a right body does not fail, nor does a right report
body-right : (mode : Mode) (asked : Result RawGraph Refusal) (body : Body) (n : ℕ) → IsRightBody mode asked body → BodyFailsAt mode asked body n → ⊥
body-right mode (Err refusal) body n right fails = fails.0 right
body-right mode (Ok graph) (Refused refusal) n right fails = right
body-right mode (Ok graph) (SolvedBody s) n right fails = fails.fails (right fails.line)

report-right : (mode : Mode) (block : Block) (report : Report) (n : ℕ) → IsRightReport mode block report → ReportFailsAt mode block report n → ⊥
report-right mode block report n right (inl at_block) = elim at_block.0 [ inl index ↦ index right.names.index_is | inr name ↦ name right.names.name_is ]
report-right mode block report n right (inr (inl at_model)) = at_model.other right.mode_is
report-right mode block report n right (inr (inr in_body)) = body-right mode block.body report.body n right.body in_body.body

-- the outcome for the text of a right report is yes
only-yes : (mode : Mode) (block : TextBlock) (at : ℕ) (text : List ℕ) (report : Report) (outcome : Outcome) → IsTextBlock block → IsTextOf (labels_of (read mode block)) report text
    → IsRightReport mode (handed mode block) report → IsOutcome mode block at text outcome → outcome ≡ Yes
only-yes mode block at text report Yes is spelled right h = refl
only-yes mode block at text report (No line) is spelled right (other, also, (n, fails, line_is)) =
    let same : other ≡ report = texts_are_of_one_report (labels_of (read mode block)) other report text (labels-are mode block is) also spelled in
    absurd (report-right mode (handed mode block) report n right (subst (λ r. ReportFailsAt mode (handed mode block) r n) same fails))
only-yes mode block at text report (Unread line why) is spelled right (n, bad, line_is) =
    let none : first_bad_line (labels_of (read mode block)) text ≡ None =
    (bad_lines_are_of_no_report (labels_of (read mode block)) text (labels-are mode block is)).1 (report, spelled) in
    absurd (let no' : ⊥ = cc in no')

-- the first text of a text of right reports, and the model that it names
record FirstText (mode : Mode) (text first rest : List ℕ) : Type 0 where
  cut : report_texts text ≡ first ∷ report_texts rest
  told : model_in text ≡ mode

first-text : (mode : Mode) (block : TextBlock) (report : Report) (text first rest : List ℕ) → IsTextBlock block → text ≡ first ++ rest
    → IsTextOf (labels_of (read mode block)) report first → IsRightReport mode (handed mode block) report → FirstText mode text first rest
first-text mode block report text first rest is joined spelled right =
    let entry : Labelled = record { labels = labels_of (read mode block); report = report } in
    let written : IsWritten entry = record { labels = labels-are mode block is; regular = spelled.regular } in
    let whole : text ≡ text_in entry ++ rest = joined ∙ ap (λ t. t ++ rest) spelled.text_is in
    record {
      cut = ap report_texts whole ∙ first_texts_are_cut_off entry rest written ∙ ap (λ t. t ∷ report_texts rest) (sym spelled.text_is);
      told = ap model_in whole ∙ models_are_told entry rest written ∙ right.mode_is;
    }

-- what is answered for some blocks and some texts: a yes for each block, and as many texts as blocks
record AnsweredYes (mode : Mode) (at : ℕ) (shown : List TextBlock) (texts : List (List ℕ)) (outcomes : List Outcome) : Type 0 where
  only : AreOutcomes mode at shown texts outcomes → outcomes ≡ all_yes shown
  each : outcomes ≡ all_yes shown → AreOutcomes mode at shown texts outcomes
  count : length shown ≡ length texts

answered : (mode : Mode) (at : ℕ) (shown : List TextBlock) (reports : List Report) (text : List ℕ) (outcomes : List Outcome) → All IsTextBlock shown
    → AreRightReports mode shown reports text → AnsweredYes mode at shown (report_texts text) outcomes
answered mode at [] [] text outcomes are right = record { only = λ h. h; each = λ h. h; count = ap (λ t. length (report_texts t)) (sym right) }
answered mode at [] (report ∷ reports) text outcomes are right = absurd right
answered mode at (block ∷ shown) [] text outcomes are right = absurd right
answered mode at (block ∷ shown) (report ∷ reports) text outcomes are (first, rest, joined, spelled, right, more) =
    let is = All-head IsTextBlock block shown are in
    let others = All-tail IsTextBlock block shown are in
    let f = first-text mode block report text first rest is joined spelled right in
    let next = at + line_count first in
    let counted = (answered mode next shown reports rest [] others more).count in
    let here : AnsweredYes mode at (block ∷ shown) (first ∷ report_texts rest) outcomes = record {
      only = λ (outcome, behind, are_these, one, all).
          are_these
          ∙ ap₂ (λ (x : Outcome) (xs : List Outcome). x ∷ xs) (only-yes mode block at first report outcome is spelled right one) ((answered mode next shown reports rest behind others more).only all);
      each = λ h. (Yes, all_yes shown, h, (report, spelled, right), (answered mode next shown reports rest (all_yes shown) others more).each refl);
      count = omega (arith, counted);
    } in
    subst (λ texts. AnsweredYes mode at (block ∷ shown) texts outcomes) (sym f.cut) here

-- the same under the model that the text names
answered-told : (mode : Mode) (shown : List TextBlock) (reports : List Report) (text : List ℕ) (outcomes : List Outcome) → All IsTextBlock shown
    → AreRightReports mode shown reports text → AnsweredYes (model_in text) 1 shown (report_texts text) outcomes
answered-told mode [] [] text outcomes are right = answered (model_in text) 1 [] [] text outcomes are right
answered-told mode [] (report ∷ reports) text outcomes are right = absurd right
answered-told mode (block ∷ shown) [] text outcomes are right = absurd right
answered-told mode (block ∷ shown) (report ∷ reports) text outcomes are right =
    let f = first-text mode block report text right.0 right.1 (All-head IsTextBlock block shown are) right.2 right.3 right.4 in
    subst (λ m. AnsweredYes m 1 (block ∷ shown) (report_texts text) outcomes) (sym f.told) (answered mode 1 (block ∷ shown) (report ∷ reports) text outcomes are right)

-- the lines of yes for each block
lines-yes : (shown : List TextBlock) → outcome_lines shown (all_yes shown) ≡ yes_lines shown
lines-yes [] = refl
lines-yes (block ∷ shown) = ap (λ lines. outcome_line block.index Yes ++ lines) (lines-yes shown)

-- all that is printed for them
printed-yes : (shown : List TextBlock) (n : ℕ) → length shown ≡ n → outcome_lines shown (all_yes shown) ++ counts_line_if_other (length shown) n ≡ yes_lines shown
printed-yes shown n same =
    ap (λ lines. outcome_lines shown (all_yes shown) ++ lines) (cond-true (length shown == n) [] (counts_line (length shown) n) (eq-eqb (length shown) n same))
    ∙ append-nil (outcome_lines shown (all_yes shown))
    ∙ lines-yes shown

pub right_reports_are_answered_yes : RightReportsAreAnsweredYes
right_reports_are_answered_yes mode graphs text reports outcomes printed right =
    let shown = blocks graphs in
    let n = length (report_texts text) in
    let a = answered-told mode shown reports text outcomes (blocks-each graphs) right in
    let lines = printed-yes shown n a.count in (
      λ is.
          let all = a.only is.outcomes_are in
          (all, is.lines_are ∙ ap (λ os. outcome_lines shown os ++ counts_line_if_other (length shown) n) all ∙ lines),
      λ (all, printed_is). record {
        outcomes_are = a.each all;
        lines_are = printed_is ∙ sym (ap (λ os. outcome_lines shown os ++ counts_line_if_other (length shown) n) all ∙ lines);
      },
    )

none-unread : (shown : List TextBlock) → list_any is_unread (all_yes shown) ≡ false
none-unread [] = refl
none-unread (block ∷ shown) = none-unread shown

none-other : (shown : List TextBlock) → list_any (λ outcome. not (is_yes outcome)) (all_yes shown) ≡ false
none-other [] = refl
none-other (block ∷ shown) = none-other shown

status-yes : (shown : List TextBlock) (n : ℕ) → length shown ≡ n → status_of_all (length shown) n (all_yes shown) ≡ Clean
status-yes shown n same =
    let outcomes = all_yes shown in
    let other = list_any (λ outcome. not (is_yes outcome)) outcomes in
    cond-true (length shown == n) (status_of outcomes) SomeRefused (eq-eqb (length shown) n same)
    ∙ cond-false (list_any is_unread outcomes) SomeRefused (cond other Partial Clean) (none-unread shown)
    ∙ cond-false other Partial Clean (none-other shown)

pub right_reports_are_clean : RightReportsAreClean
right_reports_are_clean mode graphs text reports right =
    status-yes (blocks graphs) (length (report_texts text)) (answered-told mode (blocks graphs) reports text [] (blocks-each graphs) right).count
