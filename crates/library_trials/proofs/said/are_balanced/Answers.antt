use Rattle.std.proofs.Common.{ℕ, List, Option, slice_index, subst, ◌∙◌}
use Rattle.std.specs.Prelude.{IfNone}
use Rattle.decomposition.specs.Flow.{IsBalanced}
use Rattle.decomposition.specs.Instance.{range_at}
use Rattle.cert_check.proofs.Lows.{lows, lows-at, balanced-same}
use Rattle.library_trials.proofs.said.are_balanced.Goals as goal

pub returns-in-None : goal.returns-in-None
returns-in-None c =
    let g = c.args.net.now in
    let ranges = c.args.ranges.now in
    let found : IsBalanced g (slice_index c.deref-2.result.now)
    = subst (λ (o : Option ℕ). IfNone o (IsBalanced g (slice_index c.deref-2.result.now))) c.in-None.is c.in_ok-unbalanced.ensures.balanced in
    λ balanced.
    balanced-same g (slice_index (lows ranges)) (λ e. (range_at ranges e).lo) (lows-at ranges)
    (subst (λ (ws : List ℕ). IsBalanced g (slice_index ws)) (c.deref-2.ensures.value ∙ c.in_ok-flow.ensures) found)
