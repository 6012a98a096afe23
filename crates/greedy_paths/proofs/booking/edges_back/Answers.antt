use Rattle.std.proofs.Common.{◌≡◌, ◌++◌, ◌∷◌, [], length, length-append, sym, ap, subst, arith}
use Rattle.greedy_paths.specs.Booking.{ComesFromSource}
use Rattle.greedy_paths.proofs.Following.{LeadsBack-length, LeadsBack-all}
use Rattle.greedy_paths.proofs.booking.edges_back.Goals as goal

pub loop-next-smaller : goal.loop-next-smaller
loop-next-smaller c =
    let back = c.loop-next.back.items in
    let e = c.in-Some.e in
    let begun = rw c.in-Some.is at c.loop-next.invariant in
    let is : c.push.new.self.items ≡ back ++ e ∷ [] = c.in_ok-push.ensures.items in
    omega (arith, LeadsBack-length c.args.net.now c.args.into.now c.args.v c.requires.net c.requires.listed back e begun, ap length is, length-append back (e ∷ []))

pub returns : goal.returns
returns c =
    subst (ComesFromSource c.args.net.now c.args.into.now c.args.v) (sym c.reverse.ensures.items)
    (LeadsBack-all c.args.net.now c.args.into.now c.args.v c.requires.listed c.loop-next.back.items (rw c.in_default.is at c.loop-next.invariant))
