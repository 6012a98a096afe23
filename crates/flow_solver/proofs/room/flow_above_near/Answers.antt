-- The raised ranges have a flow or none, or cannot be raised.
use Rattle.std.proofs.Common.{sym, subst}
use Rattle.std.specs.Prelude.{MatchOption}
use Rattle.flow_solver.specs.Room.{AreRaised, IsPassed}
use Rattle.flow_solver.proofs.Raising.{above_if_ok, passed-none, raised-bounded}
use Rattle.flow_solver.proofs.room.flow_above_near.Goals as goal

pub flow_within-requires-clause-bounded : goal.flow_within-requires-clause-bounded
flow_within-requires-clause-bounded c =
    let least = c.args.least.now in
    let are = subst (λ r. MatchOption r (IsPassed c.args.ranges.now least) (AreRaised c.args.ranges.now least)) c.in-Some.is c.in_ok-raised.ensures in
    raised-bounded c.args.ranges.now least c.as_slice.result.now c.requires.bounded (subst (AreRaised c.args.ranges.now least) (sym c.as_slice.ensures) are)

pub returns-in-Some : goal.returns-in-Some
returns-in-Some c =
    let least = c.args.least.now in
    let are = subst (λ r. MatchOption r (IsPassed c.args.ranges.now least) (AreRaised c.args.ranges.now least)) c.in-Some.is c.in_ok-raised.ensures in
    above_if_ok c.args.net.now c.args.ranges.now c.as_slice.result.now least c.flow_within.result c.requires.one_each
    (subst (AreRaised c.args.ranges.now least) (sym c.as_slice.ensures) are) c.flow_within.ensures

pub returns-in-None : goal.returns-in-None
returns-in-None c = passed-none c.args.net.now c.args.ranges.now c.args.least.now c.requires.one_each
    (subst (λ r. MatchOption r (IsPassed c.args.ranges.now c.args.least.now) (AreRaised c.args.ranges.now c.args.least.now)) c.in-None.is c.in_ok-raised.ensures)
