use Rattle.std.proofs.Common.{◌≡◌, ◌<◌, ℕ, List, not, false, length, get_or, sym, ap, ◌∙◌, arith}
use Rattle.std.proofs.lemmas.Bool.{and_left, and_right, and_from, lt-ltb, le-ltb}
use Rattle.std.proofs.lemmas.List.{get_or_default}
use Rattle.std.proofs.lemmas.Result.{on_ok_weaker, IfErr-weaker}
use Rattle.std.specs.Borrow.{Bor}
use Rattle.graph_text.specs.Lines.{is_content_line}
use Rattle.graph_text.specs.Reading.{most_bytes}
use Rattle.graph_text.proofs.EdgeFields.{field-at}
use Rattle.node_weights.specs.Draft.{HasFields, texts}
use Rattle.node_weights.proofs.Causes.{ignored, cause-ignored, cause-long}
use Rattle.node_weights.proofs.Growing.{HoldsLines-ignored}
use Rattle.node_weights.proofs.draft.NodeDraft.take_line.Goals as goal
use Rattle.node_weights.proofs.draft.NodeDraft.take_line.Goals.{After-drop-fields}

pub returns-then-is_blank_text-clause-ok : goal.returns-then-is_blank_text-clause-ok
returns-then-is_blank_text-clause-ok c = λ lines holds number.
    let blank = sym c.is_blank_text.ensures ∙ c.if-is_blank_text.true in
    let content : is_content_line c.args.line.now ≡ false = and_left _ _ (ap not blank) in
    record {
      none = cause-ignored lines c.args.line.now content (and_left _ _ (ap not blank));
      holds = HoldsLines-ignored lines c.args.line.now c.args.self.now (ignored c.args.line.now content) holds;
    }

pub returns-then-line-gt-MOST_BYTES-clause-err : goal.returns-then-line-gt-MOST_BYTES-clause-err
returns-then-line-gt-MOST_BYTES-clause-err c = λ lines holds.
    cause-long lines c.args.line.now (sym c.is_blank_text.ensures ∙ c.if-is_blank_text.false) (lt-ltb most_bytes (length c.args.line.now) (omega arith))

pub returns-then-is_hash_text-clause-ok : goal.returns-then-is_hash_text-clause-ok
returns-then-is_hash_text-clause-ok c = λ lines holds number.
    let content : is_content_line c.args.line.now ≡ false = and_right _ _ (ap not (sym c.is_hash_text.ensures ∙ c.if-is_hash_text.true)) in
    record {
      none = cause-ignored lines c.args.line.now content (and_right _ _ (le-ltb most_bytes (length c.args.line.now) (omega arith)));
      holds = HoldsLines-ignored lines c.args.line.now c.args.self.now (ignored c.args.line.now content) holds;
    }

pub take_fields-requires : goal.take_fields-requires
take_fields-requires c = λ k d within.
    let fields = c.in_ok-fields.fields.items in
    let inside : k < length fields = omega (arith, within, ap (λ (fs : List (Bor (List ℕ))). length fs) c.deref.ensures.value) in
    rw c.deref.ensures.value
    (field-at fields c.args.line.now c.in_ok-fields.ensures k (get_or fields k d) c.requires inside (get_or_default fields k d (get_or fields k d) inside))

has_fields : (c : After-drop-fields) → HasFields (texts c.deref.result.now) c.args.line.now
has_fields c = record {
  fields_are = sym c.in_ok-fields.ensures ∙ ap texts (sym c.deref.ensures.value);
  content = and_from _ _ (ap not (sym c.is_blank_text.ensures ∙ c.if-is_blank_text.false)) (ap not (sym c.is_hash_text.ensures ∙ c.if-is_hash_text.false));
  short = le-ltb most_bytes (length c.args.line.now) (omega arith);
}

pub returns-clause-ok : goal.returns-clause-ok
returns-clause-ok c =
    on_ok_weaker c.take_fields.result (λ takes. λ lines holds number. takes lines c.args.line.now holds number (has_fields c)) c.take_fields.ensures.ok

pub returns-clause-err : goal.returns-clause-err
returns-clause-err c =
    IfErr-weaker c.take_fields.result _ _ (λ fault is. λ lines holds. is lines c.args.line.now holds (has_fields c)) c.take_fields.ensures.err
