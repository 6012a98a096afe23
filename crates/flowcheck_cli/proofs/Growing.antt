-- Outcomes and lines that grow by one block after another.
use Rattle.std.proofs.Common.{◌≡◌, ℕ, ◌+◌, ◌≤◌, ◌<◌, ◌^◌, List, [], ◌∷◌, ◌++◌, length, take, drop, Option, refl, sym, ◌∙◌, ap, subst, append_assoc, append-nil, length-append, arith}
use Rattle.std.proofs.lemmas.List.{take-append-drop}
use Rattle.flow_io.specs.Outside.{AddsPrefix}
use Rattle.flow_io.specs.declared.status.Status.TheVariants.{Clean}
use Rattle.decomposition.specs.declared.Mode.{Mode}
use Rattle.graph_text.specs.Blocks.{TextBlock}
use Rattle.graph_text.specs.declared.block.Block.{Block}
use Rattle.program_runs.specs.HandedBlocks.{IsHandedFor}
use Rattle.block_runs.specs.Answering.{IsCutOff, IsRightAndMayBeCut}
use Rattle.flowcheck_cli.specs.CheckLines.{AreOutcomes, ArePrinted, outcome_lines, outcome_line, status_of}
use Rattle.flowcheck_cli.specs.Outcomes.{IsOutcome}
use Rattle.flowcheck_cli.specs.ReportTexts.{Left, report_texts, model_in, line_count}
use Rattle.flowcheck_cli.specs.Run.{AreLines}
use Rattle.flowcheck_cli.specs.Checking.{texts_behind, line_behind, IsShort, Checks}
use Rattle.flowcheck_cli.specs.declared.checking.Checking.{Checking}
use Rattle.flowcheck_cli.specs.declared.outcome.Outcome.{Outcome}

-- no list has a first text and is empty
no_text : (text : List ℕ) (rest : List (List ℕ)) {P : Type 0} → [] ≡ text ∷ rest → P
no_text text rest e = absurd (let no' : ⊥ = cc in no')

-- one block more that has a text
outcomes-more : (mode : Mode) (at : ℕ) (shown : List TextBlock) (texts : List (List ℕ)) (outcomes : List Outcome) (block : TextBlock) (text : List ℕ) (rest : List (List ℕ)) (outcome : Outcome) →
    AreOutcomes mode at shown texts outcomes → texts_behind shown texts ≡ text ∷ rest → IsOutcome mode block (line_behind at shown texts) text outcome →
    AreOutcomes mode at (shown ++ block ∷ []) texts (outcomes ++ outcome ∷ [])
outcomes-more mode at [] texts outcomes block text rest outcome are left is =
    let here : AreOutcomes mode at (block ∷ []) (text ∷ rest) (outcome ∷ []) = (outcome, [], refl, is, refl) in
    let all : outcome ∷ [] ≡ outcomes ++ outcome ∷ [] = ap (λ o. o ++ outcome ∷ []) (sym are) in
    subst (AreOutcomes mode at (block ∷ []) texts) all (subst (λ ts. AreOutcomes mode at (block ∷ []) ts (outcome ∷ [])) (sym left) here)
outcomes-more mode at (first ∷ shown) [] outcomes block text rest outcome are left is = no_text text rest left
outcomes-more mode at (first ∷ shown) (one ∷ texts) outcomes block text rest outcome are left is =
    (are.0, are.1 ++ outcome ∷ [], ap (λ o. o ++ outcome ∷ []) are.2, are.3, outcomes-more mode (at + line_count one) shown texts are.1 block text rest outcome are.4 left is)

-- one block more that has no text
outcomes-same : (mode : Mode) (at : ℕ) (shown : List TextBlock) (texts : List (List ℕ)) (outcomes : List Outcome) (block : TextBlock) →
    AreOutcomes mode at shown texts outcomes → texts_behind shown texts ≡ [] → AreOutcomes mode at (shown ++ block ∷ []) texts outcomes
outcomes-same mode at [] texts outcomes block are left = subst (λ ts. AreOutcomes mode at (block ∷ []) ts outcomes) (sym left) are
outcomes-same mode at (first ∷ shown) [] outcomes block are left = are
outcomes-same mode at (first ∷ shown) (one ∷ texts) outcomes block are left =
    (are.0, are.1, are.2, are.3, outcomes-same mode (at + line_count one) shown texts are.1 block are.4 left)

-- the lines of the one and of the other
lines-more : (mode : Mode) (at : ℕ) (shown : List TextBlock) (texts : List (List ℕ)) (outcomes : List Outcome) (block : TextBlock) (text : List ℕ) (rest : List (List ℕ)) (outcome : Outcome) →
    AreOutcomes mode at shown texts outcomes → texts_behind shown texts ≡ text ∷ rest →
    outcome_lines (shown ++ block ∷ []) (outcomes ++ outcome ∷ []) ≡ outcome_lines shown outcomes ++ outcome_line block.index outcome
lines-more mode at [] texts outcomes block text rest outcome are left =
    ap (λ o. outcome_lines (block ∷ []) (o ++ outcome ∷ [])) are ∙ append-nil (outcome_line block.index outcome)
lines-more mode at (first ∷ shown) [] outcomes block text rest outcome are left = no_text text rest left
lines-more mode at (first ∷ shown) (one ∷ texts) outcomes block text rest outcome are left =
    ap (λ o. outcome_lines (first ∷ (shown ++ block ∷ [])) (o ++ outcome ∷ [])) are.2
    ∙ ap (λ l. outcome_line first.index are.0 ++ l) (lines-more mode (at + line_count one) shown texts are.1 block text rest outcome are.4 left)
    ∙ sym (append_assoc (outcome_line first.index are.0) (outcome_lines shown are.1) (outcome_line block.index outcome))
    ∙ ap (λ o. outcome_lines (first ∷ shown) o ++ outcome_line block.index outcome) (sym are.2)

lines-same : (mode : Mode) (at : ℕ) (shown : List TextBlock) (texts : List (List ℕ)) (outcomes : List Outcome) (block : TextBlock) →
    AreOutcomes mode at shown texts outcomes → texts_behind shown texts ≡ [] → outcome_lines (shown ++ block ∷ []) outcomes ≡ outcome_lines shown outcomes
lines-same mode at [] texts outcomes block are left =
    let none : outcomes ≡ [] = subst (λ ts. AreOutcomes mode at [] ts outcomes) left are in ap (outcome_lines (block ∷ [])) none
lines-same mode at (first ∷ shown) [] outcomes block are left =
    ap (outcome_lines (first ∷ (shown ++ block ∷ []))) are ∙ sym (ap (outcome_lines (first ∷ shown)) are)
lines-same mode at (first ∷ shown) (one ∷ texts) outcomes block are left =
    ap (outcome_lines (first ∷ (shown ++ block ∷ []))) are.2
    ∙ ap (λ l. outcome_line first.index are.0 ++ l) (lines-same mode (at + line_count one) shown texts are.1 block are.4 left)
    ∙ ap (outcome_lines (first ∷ shown)) (sym are.2)

-- the texts that are left, and their line
behind-more : (at : ℕ) (shown : List TextBlock) (texts : List (List ℕ)) (block : TextBlock) (text : List ℕ) (rest : List (List ℕ)) → texts_behind shown texts ≡ text ∷ rest →
    (texts_behind (shown ++ block ∷ []) texts ≡ rest) × (line_behind at (shown ++ block ∷ []) texts ≡ line_behind at shown texts + line_count text)
behind-more at [] texts block text rest left =
    (ap (texts_behind (block ∷ [])) left, ap (line_behind at (block ∷ [])) left)
behind-more at (first ∷ shown) [] block text rest left = no_text text rest left
behind-more at (first ∷ shown) (one ∷ texts) block text rest left = behind-more (at + line_count one) shown texts block text rest left

behind-same : (at : ℕ) (shown : List TextBlock) (texts : List (List ℕ)) (block : TextBlock) → texts_behind shown texts ≡ [] →
    (texts_behind (shown ++ block ∷ []) texts ≡ []) × (line_behind at (shown ++ block ∷ []) texts ≡ line_behind at shown texts)
behind-same at [] texts block left =
    (ap (texts_behind (block ∷ [])) left, ap (line_behind at (block ∷ [])) left)
behind-same at (first ∷ shown) [] block left = (refl, refl)
behind-same at (first ∷ shown) (one ∷ texts) block left = behind-same (at + line_count one) shown texts block left

-- a block is handed out with its number
pub index-handed : (mode : Mode) (asked : TextBlock) (block : Block) → IsHandedFor mode asked block → block.index ≡ asked.index
index-handed mode asked block handed = let index : Block → ℕ = λ b. b.index in sym (ap index handed.is_handed)

-- nothing is checked yet
pub checks-nothing : (c : Checking) → c.mode ≡ model_in c.reports.now → c.rest ≡ record { line = 1; bytes = c.reports.now } → c.blocks ≡ 0 → c.status ≡ Clean →
    length c.reports.now < 2 ^ 30 → Checks c c [] []
checks-nothing c mode rest blocks status short = record {
  begun = record { mode_is = mode; short = short };
  reports_are = refl;
  left_short = subst (λ (r : Left). r.line + length r.bytes ≤ 2 ^ 30) (sym rest) (omega (arith, short));
  outcomes = [];
  checked = record {
    mode_is = mode;
    outcomes_are = refl;
    status_is = status;
    blocks_are = blocks;
    texts_left = sym (ap (λ (r : Left). report_texts r.bytes) rest);
    line_is = sym (ap (λ (r : Left). r.line) rest);
  };
  text_is = refl;
}

-- one block more that has a text, and its line
one_more : (first old : Checking) (shown : List TextBlock) (before : List ℕ) (block : TextBlock) (text : List ℕ) (rest : List (List ℕ)) (outcome : Outcome) (h : Checks first old shown before) →
    IsOutcome old.mode block old.rest.line text outcome → report_texts old.rest.bytes ≡ text ∷ rest →
    ArePrinted first.reports.now (shown ++ block ∷ []) (h.outcomes ++ outcome ∷ []) (before ++ outcome_line block.index outcome)
one_more first old shown before block text rest outcome h is texts =
    let reports = first.reports.now in
    let left = h.checked.texts_left ∙ texts in
    let placed : IsOutcome (model_in reports) block (line_behind 1 shown (report_texts reports)) text outcome =
    subst (λ m. IsOutcome m block (line_behind 1 shown (report_texts reports)) text outcome) h.checked.mode_is
    (subst (λ at. IsOutcome old.mode block at text outcome) (sym h.checked.line_is) is) in
    record {
      outcomes_are = outcomes-more (model_in reports) 1 shown (report_texts reports) h.outcomes block text rest outcome h.checked.outcomes_are left placed;
      lines_are = ap (λ t. t ++ outcome_line block.index outcome) h.text_is
          ∙ sym (lines-more (model_in reports) 1 shown (report_texts reports) h.outcomes block text rest outcome h.checked.outcomes_are left);
    }

-- how many blocks there are with one more
one_longer : (shown : List TextBlock) (block : TextBlock) (n : ℕ) → n ≡ length shown → n + 1 ≡ length (shown ++ block ∷ [])
one_longer shown block n is = omega (arith, is, length-append shown (block ∷ []))

pub checks-more : (first old new : Checking) (shown : List TextBlock) (before : List ℕ) (block : TextBlock) (text : List ℕ) (outcome : Outcome) (index : ℕ) → index ≡ block.index →
    Checks first old shown before → IsOutcome old.mode block old.rest.line text outcome →
    report_texts old.rest.bytes ≡ text ∷ report_texts new.rest.bytes → new.rest.line ≡ old.rest.line + line_count text → IsShort new →
    new.reports.now ≡ old.reports.now → new.mode ≡ old.mode → new.blocks ≡ old.blocks + 1 →
    ((outcomes : List Outcome) → old.status ≡ status_of outcomes → new.status ≡ status_of (outcomes ++ outcome ∷ [])) →
    Checks first new (shown ++ block ∷ []) (before ++ outcome_line index outcome)
checks-more first old new shown before block text outcome index named h is texts line short reports mode number status =
    let all = report_texts first.reports.now in
    let more = one_more first old shown before block text (report_texts new.rest.bytes) outcome h is texts in
    let behind = behind-more 1 shown all block text (report_texts new.rest.bytes) (h.checked.texts_left ∙ texts) in
    record {
      begun = h.begun;
      reports_are = reports ∙ h.reports_are;
      left_short = short;
      outcomes = h.outcomes ++ outcome ∷ [];
      checked = record {
        mode_is = mode ∙ h.checked.mode_is;
        outcomes_are = more.outcomes_are;
        status_is = status h.outcomes h.checked.status_is;
        blocks_are = number ∙ one_longer shown block old.blocks h.checked.blocks_are;
        texts_left = behind.0;
        line_is = behind.1 ∙ ap (λ at. at + line_count text) h.checked.line_is ∙ sym line;
      };
      text_is = ap (λ k. before ++ outcome_line k outcome) named ∙ more.lines_are;
    }

-- one block more that has no text
pub checks-same : (first old new : Checking) (shown : List TextBlock) (before : List ℕ) (block : TextBlock) →
    Checks first old shown before → report_texts old.rest.bytes ≡ [] → new.rest ≡ old.rest →
    new.reports.now ≡ old.reports.now → new.mode ≡ old.mode → new.blocks ≡ old.blocks + 1 → new.status ≡ old.status →
    Checks first new (shown ++ block ∷ []) (before ++ [])
checks-same first old new shown before block h none rest reports mode number status =
    let all = report_texts first.reports.now in
    let left = h.checked.texts_left ∙ none in
    let behind = behind-same 1 shown all block left in
    let asked = model_in first.reports.now in
    record {
      begun = h.begun;
      reports_are = reports ∙ h.reports_are;
      left_short = subst (λ (r : Left). r.line + length r.bytes ≤ 2 ^ 30) (sym rest) h.left_short;
      outcomes = h.outcomes;
      checked = record {
        mode_is = mode ∙ h.checked.mode_is;
        outcomes_are = outcomes-same asked 1 shown all h.outcomes block h.checked.outcomes_are left;
        status_is = status ∙ h.checked.status_is;
        blocks_are = number ∙ one_longer shown block old.blocks h.checked.blocks_are;
        texts_left = behind.0 ∙ sym (ap (λ (r : Left). report_texts r.bytes) rest ∙ none);
        line_is = behind.1 ∙ h.checked.line_is ∙ sym (ap (λ (r : Left). r.line) rest);
      };
      text_is = append-nil before ∙ h.text_is ∙ sym (lines-same asked 1 shown all h.outcomes block h.checked.outcomes_are left);
    }

-- a line that is cut off
pub checks-cut : (old : Checking) (block : Block) (text : List ℕ) (rest : List (List ℕ)) (outcome : Outcome) (was now : Option (List ℕ)) →
    ((asked : TextBlock) → IsHandedFor old.mode asked block → IsOutcome old.mode asked old.rest.line text outcome) →
    report_texts old.rest.bytes ≡ text ∷ rest → AddsPrefix was now (outcome_line block.index outcome) →
    IsCutOff {W = Checking} old.mode block (λ first shown text. Checks first old shown text)
    (IsRightAndMayBeCut {W = Checking} (λ _. Unit {0}) (λ w shown text. AreLines w.reports.now shown text)) was now
checks-cut old block text rest outcome was now is texts adds =
    let piece = outcome_line block.index outcome in
    let n = adds.0 in (
      take n piece,
      drop n piece,
      adds.2,
      λ asked handed first shown before h.
          let more = one_more first old shown before asked text rest outcome h (is asked handed) texts in
          let joined : before ++ (take n piece ++ drop n piece) ≡ before ++ outcome_line asked.index outcome =
          ap (λ p. before ++ p) (take-append-drop n piece ∙ ap (λ k. outcome_line k outcome) (index-handed old.mode asked block handed)) in
          (tt, (h.outcomes ++ outcome ∷ [], record { outcomes_are = more.outcomes_are; lines_are = joined ∙ more.lines_are })),
    )
