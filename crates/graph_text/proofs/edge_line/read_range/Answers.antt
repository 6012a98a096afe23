use Rattle.std.proofs.Common.{Some, None, ltb, ◌∙◌, refl}
use Rattle.std.proofs.lemmas.Bool.{cond-true, cond-false, lt-ltb, le-ltb}
use Rattle.report_terms.specs.declared.refusal.Why.TheVariants.{BadRange}
use Rattle.graph_text.proofs.EdgeFields.{no-weights, range-is, with-weights}
use Rattle.graph_text.proofs.edge_line.read_range.Goals as goal

pub returns-in_default-clause-err : goal.returns-in_default-clause-err
returns-in_default-clause-err c =
    no-weights c.args.mode c.args.fields.now c.weights_of.result _ c.if-fields-weights_of.false c.weights_of.ensures None _ c.in_default.ensures refl refl

pub returns-then-hi-lo-clause-err : goal.returns-then-hi-lo-clause-err
returns-then-hi-lo-clause-err c =
    let lo = c.in-Some.lo in
    let hi = c.in-Some-parse_weight.hi in
    with-weights c.args.mode c.args.fields.now c.weights_of.result _ c.if-fields-weights_of.false c.weights_of.ensures lo hi c.in-Some.ensures c.in-Some-parse_weight.ensures
    ∙ cond-true (ltb hi lo) (Some BadRange) None (lt-ltb hi lo c.if-hi-lo.true)

pub returns-clause-ok : goal.returns-clause-ok
returns-clause-ok c =
    let lo = c.in-Some.lo in
    let hi = c.in-Some-parse_weight.hi in (
      with-weights c.args.mode c.args.fields.now c.weights_of.result _ c.if-fields-weights_of.false c.weights_of.ensures lo hi c.in-Some.ensures c.in-Some-parse_weight.ensures
          ∙ cond-false (ltb hi lo) (Some BadRange) None (le-ltb hi lo c.if-hi-lo.false),
      range-is c.args.mode c.args.fields.now c.weights_of.result _ c.if-fields-weights_of.false c.weights_of.ensures lo hi c.in-Some.ensures c.in-Some-parse_weight.ensures,
    )
