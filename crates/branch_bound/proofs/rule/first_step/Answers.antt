use Rattle.std.proofs.Common.{◌∙◌, sym}
use Rattle.decomposition.specs.declared.Token.TheVariants.{Step}
use Rattle.refute_tree.specs.Front.{may_take}
use Rattle.branch_bound.proofs.Choosing.{first_from-fails}
use Rattle.branch_bound.proofs.rule.first_step.Goals as goal

pub loop-k-preserved : goal.loop-k-preserved
loop-k-preserved c =
    first_from-fails (λ k. may_take c.args.front.now (Step k)) c.loop-k.k c.args.slots c.loop-k-test.true (sym c.if-can_step.ensures) ∙ c.loop-k.invariant
