-- The text of a report is cut off from what stands behind it.
use Rattle.std.proofs.Common.{◌≡◌, ℕ, suc, true, false, List, [], ◌∷◌, ◌++◌, refl, ap, ◌∙◌, arith, append_assoc}
use Rattle.std.specs.Prelude.{not, ◌&&◌, nat_le, codes, flat_map}
use Rattle.std.proofs.lemmas.Bool.{and_parts, not-true}
use Rattle.graph_text.specs.Labels.{LabelLists}
use Rattle.report_terms.specs.NetFacts.{is_mode}
use Rattle.report_reading.specs.ReportText.{begins_blank, ends_blank, fits, is_name, is_regular, is_regular_body}
use Rattle.report_terms.specs.declared.report.Report.{Report}
use Rattle.report_texts.specs.Laws.{text_in, FirstTextsAreCutOff, TextsAreCutBack}
use Rattle.report_texts.specs.ReportTexts.{end_line, report_texts, texts_in}
use Rattle.report_texts.proofs.EndedLines.{has_feed, ended_lines-line}
use Rattle.report_texts.proofs.EndLines.{front_of, before-end}

-- what makes a report regular, as far as its name and its model go
pub record HeadParts (r : Report) : Type 0 where
  pub name : has_feed r.name ≡ false
  pub mode : is_mode r.mode ≡ true

pub head-parts : (labels : LabelLists) (r : Report) → is_regular labels r ≡ true → HeadParts r
head-parts labels r h =
    let body = is_regular_body labels r.body in
    let a = and_parts (nat_le 1 r.index && fits r.index) (is_name r.name && (is_mode r.mode && body)) h in
    let b = and_parts (is_name r.name) (is_mode r.mode && body) a.1 in
    let c = and_parts (is_mode r.mode) body b.1 in
    record {
      name = not-true _ (and_parts (not (has_feed r.name)) (not (begins_blank r.name) && not (ends_blank r.name)) b.0).0;
      mode = c.0;
    }

texts-end : (rest : List ℕ) → report_texts (end_line ++ rest) ≡ end_line ∷ report_texts rest
texts-end rest = ap texts_in (ended_lines-line (codes "end") rest refl)

pub first_texts_are_cut_off : FirstTextsAreCutOff
first_texts_are_cut_off entry rest written =
    let front = front_of entry.labels entry.report in
    let before = before-end entry.labels entry.report written.labels (head-parts entry.labels entry.report written.regular).name in
    ap report_texts (append_assoc front end_line rest) ∙ before.on (end_line ++ rest) end_line (report_texts rest) (texts-end rest)

pub texts_are_cut_back : TextsAreCutBack
texts_are_cut_back [] written = refl
texts_are_cut_back (entry ∷ entries) written =
    first_texts_are_cut_off entry (flat_map text_in entries) (written 0 entry (omega arith))
    ∙ ap (λ texts. text_in entry ∷ texts) (texts_are_cut_back entries (λ k d there. written (suc k) d (omega (arith, there))))
