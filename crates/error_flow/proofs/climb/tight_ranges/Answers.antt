use Rattle.std.proofs.Common.{◌≡◌, ◌+◌, slice_index, refl, sym, subst, arith, to_z, of_z, w64}
use Rattle.std.proofs.lemmas.Int.{ints}
use Rattle.error_flow.specs.Certificate.{level_at, rise}
use Rattle.error_flow.specs.Tight.{AreTightBefore}
use Rattle.error_flow.proofs.Climbing.{allowed-small, tight-more, tight-at}
use Rattle.error_flow.proofs.climb.tight_ranges.Goals as goal

pub rise-up-requires-clause-small : goal.rise-up-requires-clause-small
rise-up-requires-clause-small c =
    allowed-small c.args.net.now c.args.levels.now c.edges-e-end.ensures.net c.requires.one_level_each (omega (arith, c.edges-e-end.ensures.few, c.edges-e-end.ensures.edges)) c.requires.allowed

pub loop-e-preserved : goal.loop-e-preserved
loop-e-preserved c =
    let level = level_at c.args.levels.now in
    let read : to_z w64 (of_z w64 c.rise-up.result) ≡ rise c.args.net.now level c.loop-e.e = omega (arith, ints, c.rise-up.ensures) in
    subst (AreTightBefore (c.loop-e.e + 1) c.args.net.now (slice_index c.args.weights.now) level) (sym c.in_ok-push.ensures.items)
    (tight-more c.loop-e.e c.args.net.now (slice_index c.args.weights.now) level c.loop-e.ranges.items c.tight_range.result c.loop-e.invariant
    (tight-at _ _ _ _ _ _ c.tight_range.result c.requires.all read refl c.tight_range.ensures))
