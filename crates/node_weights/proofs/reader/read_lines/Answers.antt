use Rattle.std.proofs.Common.{Err, ap, ◌∙◌, sym}
use Rattle.std.proofs.lemmas.Bool.{eqb-true}
use Rattle.node_weights.proofs.Refusals.{IsReadTo-next, IsReadTo-refused, IsReadTo-end}
use Rattle.node_weights.proofs.reader.read_lines.Goals as goal

pub returns-in-Err-Bad-clause-err : goal.returns-in-Err-Bad-clause-err
returns-in-Err-Bad-clause-err c =
    let to = c.loop-rest.invariant in
    let is = rw c.in-Err-Bad.field-0-is at c.in-Err-Bad.ensures.err in
    IsReadTo-refused c.args.text.now c.loop-rest.rest.now c.split_line.result.1.now c.split_line.result.0.now c.loop-rest.number c.loop-rest.draft to c.split_line.ensures.lines
    c.in-Err-Bad.why (is to.before to.holds)
    ∙ ap (λ w. Err (c.loop-rest.number, w)) (sym c.in-Err-Bad.why-is)

pub loop-rest-preserved : goal.loop-rest-preserved
loop-rest-preserved c =
    let to = c.loop-rest.invariant in
    IsReadTo-next c.args.text.now c.loop-rest.rest.now c.split_line.result.1.now c.split_line.result.0.now c.loop-rest.number c.loop-rest.draft to c.split_line.ensures.lines
    c.take_line.new.self c.split_line.ensures.less (c.in-Ok.ensures.ok to.before to.holds to.numbered)

pub returns-clause-ok : goal.returns-clause-ok
returns-clause-ok c =
    IsReadTo-end c.args.text.now c.loop-rest.rest.now c.loop-rest.number c.loop-rest.draft (eqb-true _ _ (sym c.is_empty.ensures ∙ c.loop-rest-test.false)) c.loop-rest.invariant
