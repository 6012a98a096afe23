use Rattle.std.proofs.Common.{◌≡◌, ◌-◌}
use Rattle.decomposition.specs.declared.Token.TheVariants.{Step}
use Rattle.decomposition.specs.Tokens.{first_from}
use Rattle.refute_tree.specs.Front.{may_take}
use Rattle.branch_bound.proofs.rule.first_step.Given as goal

abbrev pub invariant-loop-k : goal.invariant-loop-k
invariant-loop-k l = first_from (λ k. may_take l.front (Step k)) l.k (l.slots - l.k) ≡ first_from (λ k. may_take l.front (Step k)) 0 l.slots
