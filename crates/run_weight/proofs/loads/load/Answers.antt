use Rattle.std.proofs.Common.{◌≡◌, sym, ap, ◌∙◌, arith}
use Rattle.std.proofs.lemmas.Bool.{cond-true, cond-false}
use Rattle.decomposition.specs.Graph.{contains_run}
use Rattle.decomposition.specs.Answer.{entry_at}
use Rattle.run_weight.proofs.LoadSums.{load-more}
use Rattle.run_weight.proofs.loads.load.Goals as goal
use Rattle.run_weight.proofs.loads.load.Goals.{then-stands_in, else-stands_in}

pub loop-i-preserved : goal.loop-i-preserved
loop-i-preserved c =
    let run = c.args.run.now in
    let entry = entry_at c.args.answer.now c.loop-i.i in
    let has = contains_run entry.0 run in
    let more = load-more c.args.answer.now run c.loop-i.i (omega arith) in
    let test : has ≡ c.stands_in.result = ap (λ p. contains_run p run) (sym (c.as_slice.ensures ∙ c.path.ensures)) ∙ sym c.stands_in.ensures in
    elim c.if-stands_in.branch [
      | then-stands_in w ↦
          let same = cond-true has entry.1 0 (test ∙ w.if-stands_in.true) in (
            omega (arith, more, same, w.sum-is, w.from-sum.ensures, w.weight.ensures.value, c.loop-i.invariant.0),
            omega (arith, w.sum-is, w.from-sum.ensures, w.weight.type_inv, c.loop-i.invariant.1),
          )
      | else-stands_in w ↦
          let same = cond-false has entry.1 0 (test ∙ w.if-stands_in.false) in
          (omega (arith, more, same, w.sum-is, c.loop-i.invariant.0), omega (arith, w.sum-is, c.loop-i.invariant.1))
    ]
