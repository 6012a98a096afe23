use Rattle.std.proofs.Common.{◌≡◌, ◌-◌}
use Rattle.decomposition.specs.declared.Token.TheVariants.{Split}
use Rattle.decomposition.specs.Tokens.{first_from}
use Rattle.refute_tree.specs.Front.{may_take}
use Rattle.branch_bound.proofs.rule.first_split.Given as goal

abbrev pub invariant-loop-k : goal.invariant-loop-k
invariant-loop-k l = first_from (λ k. may_take l.front (Split k)) l.k (l.slots - l.k) ≡ first_from (λ k. may_take l.front (Split k)) 0 l.slots
