use Rattle.std.proofs.Common.{◌≡◌, ◌<◌, ℕ, false}
use Rattle.decomposition.specs.Boxes.{misses}
use Rattle.flow_models.specs.Problem.{instance}
use Rattle.refute_tree.specs.OneBox.{place_of}
use Rattle.refute_tree.proofs.closing.closing_token.Given as goal

-- no rule so far is missed
abbrev pub invariant-loop-rule : goal.invariant-loop-rule
invariant-loop-rule l = (c : ℕ) → c < l.rule → misses (instance l.net l.problem) (place_of l.one).box c ≡ false
