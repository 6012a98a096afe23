use Rattle.std.proofs.Common.{sym, ap, ◌∙◌}
use Rattle.std.specs.Prelude.{codes}
use Rattle.std.proofs.lemmas.Result.{on_ok_weaker, IfErr-weaker}
use Rattle.node_weights.specs.NodeText.{is_word_and_two}
use Rattle.node_weights.proofs.Causes.{cause-bad}
use Rattle.node_weights.proofs.Fields.{other_count, with_word, other_word}
use Rattle.node_weights.proofs.draft.NodeDraft.take_fields.Goals as goal

pub returns-then-fields-ne3-clause-err : goal.returns-then-fields-ne3-clause-err
returns-then-fields-ne3-clause-err c = λ lines line holds has.
    cause-bad lines line has.content has.short
    (ap (is_word_and_two (codes "node")) has.fields_are ∙ other_count (codes "node") c.args.fields.now c.if-fields-ne3.true)
    (ap (is_word_and_two (codes "edge")) has.fields_are ∙ other_count (codes "edge") c.args.fields.now c.if-fields-ne3.true)

pub returns-then-eq-clause-ok : goal.returns-then-eq-clause-ok
returns-then-eq-clause-ok c =
    on_ok_weaker c.add_node.result
    (λ added. λ lines line holds number has.
    added lines line holds (with_word (codes "node") c.as_slice.result.now c.args.fields.now _ c.if-fields-ne3.false c.as_slice.ensures line (sym c.eq.ensures ∙ c.if-eq.true) has))
    c.add_node.ensures.ok

pub returns-then-eq-clause-err : goal.returns-then-eq-clause-err
returns-then-eq-clause-err c =
    IfErr-weaker c.add_node.result _ _
    (λ fault is. λ lines line holds has.
    is lines line holds (with_word (codes "node") c.as_slice.result.now c.args.fields.now _ c.if-fields-ne3.false c.as_slice.ensures line (sym c.eq.ensures ∙ c.if-eq.true) has))
    c.add_node.ensures.err

pub returns-then-eq-2-clause-ok : goal.returns-then-eq-2-clause-ok
returns-then-eq-2-clause-ok c =
    on_ok_weaker c.add_edge.result
    (λ added. λ lines line holds number has.
    added lines line holds number (with_word (codes "edge") c.as_slice-2.result.now c.args.fields.now _ c.if-fields-ne3.false c.as_slice-2.ensures line (sym c.eq-2.ensures ∙ c.if-eq-2.true) has))
    c.add_edge.ensures.ok

pub returns-then-eq-2-clause-err : goal.returns-then-eq-2-clause-err
returns-then-eq-2-clause-err c =
    IfErr-weaker c.add_edge.result _ _
    (λ fault is. λ lines line holds has.
    is lines line holds (with_word (codes "edge") c.as_slice-2.result.now c.args.fields.now _ c.if-fields-ne3.false c.as_slice-2.ensures line (sym c.eq-2.ensures ∙ c.if-eq-2.true) has))
    c.add_edge.ensures.err

pub returns-clause-err : goal.returns-clause-err
returns-clause-err c = λ lines line holds has.
    cause-bad lines line has.content has.short
    (ap (is_word_and_two (codes "node")) has.fields_are ∙ other_word (codes "node") c.as_slice.result.now c.args.fields.now _ c.if-fields-ne3.false c.as_slice.ensures (sym c.eq.ensures ∙ c.if-eq.false))
    (ap (is_word_and_two (codes "edge")) has.fields_are ∙ other_word (codes "edge") c.as_slice-2.result.now c.args.fields.now _ c.if-fields-ne3.false c.as_slice-2.ensures (sym c.eq-2.ensures ∙ c.if-eq-2.false))
