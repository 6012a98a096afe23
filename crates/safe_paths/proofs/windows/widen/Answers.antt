use Rattle.std.proofs.Common.{◌≡◌, ◌+◌, refl, slice_index, ap₂, subst, arith, inl, inr}
use Rattle.std.proofs.lemmas.Bool.{cases_lt, both_ways}
use Rattle.decomposition.specs.SafeRuns.{IsSafeFor}
use Rattle.safe_paths.specs.Windows.{IsWindow, part}
use Rattle.safe_paths.proofs.Growing.{safe-single}
use Rattle.safe_paths.proofs.windows.widen.Goals as goal

pub loop-wide-init : goal.loop-wide-init
loop-wide-init c = (c.requires.window, refl, c.requires.safe)

pub longer-next-requires-clause-window : goal.longer-next-requires-clause-window
longer-next-requires-clause-window c = c.loop-wide.invariant.0

pub is_safe-requires-clause-some : goal.is_safe-requires-clause-some
is_safe-requires-clause-some c = let window : IsWindow _ _ _ c.loop-wide.wide = c.loop-wide.invariant.0 in omega (arith, window.ordered)

-- one edge alone is safe, so where the window cannot be made longer it is not empty
pub returns-then-not-is_safe-clause-some : goal.returns-then-not-is_safe-clause-some
returns-then-not-is_safe-clause-some c =
    let wide = c.loop-wide.wide in
    let window : IsWindow _ _ _ wide = c.loop-wide.invariant.0 in
    elim (cases_lt wide.from wide.to) [
      | inl some ↦ some
      | inr none ↦
          let from : wide.from ≡ c.longer-next.result.from = omega (arith, c.longer-next.ensures.from) in
          let to : wide.from + 1 ≡ c.longer-next.result.to = omega (arith, c.longer-next.ensures.to, window.ordered) in
          let single = safe-single c.args.net.now c.args.flow.now c.args.at.now c.args.path.now c.requires.path wide.from (omega (arith, c.loop-wide-test.true, window.ordered)) in
          absurd (both_ways c.is_safe.result c.if-not-is_safe.true (c.is_safe.ensures.1 (subst (IsSafeFor c.args.net.now (slice_index c.args.flow.now)) (ap₂ (part c.args.path.now) from to) single)))
    ]

pub returns-then-not-is_safe-clause-safe : goal.returns-then-not-is_safe-clause-safe
returns-then-not-is_safe-clause-safe c = c.loop-wide.invariant.2 (returns-then-not-is_safe-clause-some c)
