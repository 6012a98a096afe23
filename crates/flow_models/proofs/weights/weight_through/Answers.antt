use Rattle.std.proofs.Common.{◌≡◌, sym, ap, ◌∙◌, arith}
use Rattle.std.proofs.lemmas.Bool.{cond-true, cond-false}
use Rattle.decomposition.specs.Graph.{has_edge}
use Rattle.decomposition.specs.Answer.{entry_at}
use Rattle.flow_models.proofs.Weighing.{weight_on_more}
use Rattle.flow_models.proofs.weights.weight_through.Goals as goal
use Rattle.flow_models.proofs.weights.weight_through.Goals.{then-has_edge, else-has_edge}

pub loop-i-preserved : goal.loop-i-preserved
loop-i-preserved c =
    let e = c.args.e in
    let entry = entry_at c.args.answer.now c.loop-i.i in
    let has = has_edge entry.0 e in
    let more = weight_on_more c.args.answer.now e c.loop-i.i (omega arith) in
    let test : has ≡ c.has_edge.result = ap (λ p. has_edge p e) (sym (c.as_slice.ensures ∙ c.path.ensures)) ∙ sym c.has_edge.ensures in
    elim c.if-has_edge.branch [
      | then-has_edge w ↦
          let same = cond-true has entry.1 0 (test ∙ w.if-has_edge.true) in (
            omega (arith, more, same, w.sum-is, w.from-sum.ensures, w.weight.ensures.value, c.loop-i.invariant.0),
            omega (arith, w.sum-is, w.from-sum.ensures, w.weight.type_inv, c.loop-i.invariant.1),
          )
      | else-has_edge w ↦
          let same = cond-false has entry.1 0 (test ∙ w.if-has_edge.false) in
          (omega (arith, more, same, w.sum-is, c.loop-i.invariant.0), omega (arith, w.sum-is, c.loop-i.invariant.1))
    ]
