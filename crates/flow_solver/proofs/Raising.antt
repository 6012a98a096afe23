-- Ranges whose lower bounds are raised to given numbers, as the units of booked paths.
use Rattle.std.proofs.Common.{◌≡◌, ℕ, ◌≤◌, ◌<◌, List, true, ◌&&◌, nat_le, Option, Some, None, Result, Ok, Err, length, refl, arith, leb-true, le-leb}
use Rattle.std.specs.List.{list_all}
use Rattle.std.specs.Prelude.{IfOk, MatchOption, slice_index}
use Rattle.std.proofs.lemmas.Bool.{and_from, and_parts}
use Rattle.decomposition.specs.declared.Range.{Range}
use Rattle.decomposition.specs.declared.Side.TheVariants.{Entering, Leaving}
use Rattle.decomposition.specs.Answer.{weight_on}
use Rattle.decomposition.specs.Graph.{Graph, IsNet, edge_count}
use Rattle.decomposition.specs.Instance.{distance, error, range_at}
use Rattle.decomposition.proofs.Cuts.{cuts_refute, within}
use Rattle.decomposition.proofs.Open.{all-from_places}
use Rattle.decomposition.proofs.Root.{all-place}
use Rattle.decomposition.proofs.Sums.{sum_below-nil}
use Rattle.greedy_paths.specs.Units.{AreUnits}
use Rattle.lower_flow.specs.declared.found.FlowOrCut.{FlowOrCut}
use Rattle.lower_flow.specs.declared.found.FlowOrCut.TheVariants.{Flow, InCut, OutCut}
use Rattle.lower_flow.specs.Found.{IsFlowOrCut}
use Rattle.flow_solver.specs.Right.{NothingIsWithin}
use Rattle.flow_solver.specs.Room.{AreRaised, HasNoneAbove, HasNoRoomFor, HasRoomFor, IsFlowAbove, IsFlowIn, IsPassed, ranged}

abbrev none : Range
none = record { lo = 0; hi = 0 }

-- raised ranges are ranges
pub raised-bounded : (ranges : List Range) (least : List ℕ) (raised : List Range) → list_all (λ (r : Range). nat_le r.lo r.hi && nat_le r.hi 1000000000000) ranges ≡ true → AreRaised ranges least raised
    → list_all (λ (r : Range). nat_le r.lo r.hi && nat_le r.hi 1000000000000) raised ≡ true
raised-bounded ranges least raised bounded are =
    all-from_places (λ (r : Range). nat_le r.lo r.hi && nat_le r.hi 1000000000000) raised none
    (λ e there.
    let inside : e < length ranges = omega (arith, there, are.count) in
    let both = and_parts _ _ (all-place (λ (r : Range). nat_le r.lo r.hi && nat_le r.hi 1000000000000) ranges none e bounded inside) in
    let low = leb-true (range_at ranges e).lo (range_at ranges e).hi both.0 in
    let high = leb-true (range_at ranges e).hi 1000000000000 both.1 in
    and_from (nat_le (range_at raised e).lo (range_at raised e).hi) (nat_le (range_at raised e).hi 1000000000000)
    (le-leb _ _ (omega (arith, are.low e inside, are.high e inside, are.fits e inside, low))) (le-leb _ _ (omega (arith, are.high e inside, high))))

-- a flow within the raised ranges is at least the numbers
pub raised-above : (g : Graph) (ranges raised : List Range) (least flow : List ℕ) → length ranges ≡ edge_count g → AreRaised ranges least raised → IsFlowIn g raised flow → IsFlowAbove g ranges least flow
raised-above g ranges raised least flow one_each are (long, f) = record {
  within = (
    long,
    record {
      balanced = f.balanced;
      low = λ e inside. omega (arith, f.low e inside, are.low e (omega (arith, inside, one_each)));
      high = λ e inside. omega (arith, f.high e inside, are.high e (omega (arith, inside, one_each)));
    },
  );
  above = λ e inside. omega (arith, f.low e inside, are.low e (omega (arith, inside, one_each)));
}

-- there is none where the number of an edge passes its upper bound
pub passed-none : (g : Graph) (ranges : List Range) (least : List ℕ) → length ranges ≡ edge_count g → IsPassed ranges least → HasNoneAbove g ranges least
passed-none g ranges least one_each (e, there, passed) a answer zero_error above =
    let inside : e < edge_count g = omega (arith, there, one_each) in
    omega (arith, passed, above e inside, (within (ranged g ranges) a e zero_error inside).1)

-- weighted paths within the ranges that put as much on the edges lie within the raised ranges
above-raised : (g : Graph) (ranges raised : List Range) (least : List ℕ) (a : List (List ℕ × ℕ)) → length ranges ≡ edge_count g → AreRaised ranges least raised
    → error (ranged g ranges) a ≡ 0 → ((e : ℕ) → e < edge_count g → slice_index least e ≤ weight_on a e) → error (ranged g raised) a ≡ 0
above-raised g ranges raised least a one_each are zero_error above =
    sum_below-nil (λ e. distance (range_at raised e) (weight_on a e)) (edge_count g)
    (λ e inside.
    let both = within (ranged g ranges) a e zero_error inside in
    let there : e < length ranges = omega (arith, inside, one_each) in
    omega (arith, both.0, both.1, are.low e there, are.high e there, above e inside))

-- so there are none where nothing lies within the raised ranges
nothing-none : (g : Graph) (ranges raised : List Range) (least : List ℕ) → length ranges ≡ edge_count g → AreRaised ranges least raised → NothingIsWithin (ranged g raised) → HasNoneAbove g ranges least
nothing-none g ranges raised least one_each are none a answer zero_error above = none a answer (above-raised g ranges raised least a one_each are zero_error above)

-- nothing lies within ranges that have no flow
pub no_flow : (g : Graph) (ranges : List Range) (r : FlowOrCut) → IsNet g → IsFlowOrCut g ranges r → ((flow : List ℕ) → r ≡ Flow flow → ⊥) → NothingIsWithin (ranged g ranges)
no_flow g ranges (Flow flow) net is not_flow = absurd (not_flow flow refl)
no_flow g ranges (InCut xs) net is not_flow = λ a answer zero_error. cuts_refute (ranged g ranges) Entering xs a net is.0 answer zero_error
no_flow g ranges (OutCut xs) net is not_flow = λ a answer zero_error. cuts_refute (ranged g ranges) Leaving xs a net is.0 answer zero_error

-- a flow within the raised ranges, or none, tells whether there is one that is at least the numbers
above_of : (g : Graph) (ranges raised : List Range) (least : List ℕ) (found : Option (List ℕ)) → length ranges ≡ edge_count g → AreRaised ranges least raised
    → MatchOption found (NothingIsWithin (ranged g raised)) (IsFlowIn g raised) → MatchOption found (HasNoneAbove g ranges least) (IsFlowAbove g ranges least)
above_of g ranges raised least None one_each are is = nothing-none g ranges raised least one_each are is
above_of g ranges raised least (Some flow) one_each are is = raised-above g ranges raised least flow one_each are is

-- the same, where there was memory
pub above_if_ok : {E : Type 0} (g : Graph) (ranges raised : List Range) (least : List ℕ) (r : Result (Option (List ℕ)) E) → length ranges ≡ edge_count g → AreRaised ranges least raised
    → IfOk r (λ found. MatchOption found (NothingIsWithin (ranged g raised)) (IsFlowIn g raised)) → IfOk r (λ found. MatchOption found (HasNoneAbove g ranges least) (IsFlowAbove g ranges least))
above_if_ok g ranges raised least (Ok found) one_each are is = above_of g ranges raised least found one_each are is
above_if_ok g ranges raised least (Err e) one_each are is = tt

-- a flow that is at least the units of booked paths has room for them
pub above-room : (g : Graph) (ranges : List Range) (least : List ℕ) (booked : List (List ℕ × ℕ)) (flow : List ℕ) → ((e : ℕ) → e < edge_count g → weight_on booked e ≤ slice_index least e)
    → IsFlowAbove g ranges least flow → HasRoomFor g ranges booked flow
above-room g ranges least booked flow units is = record { within = is.within; units = λ e inside. omega (arith, units e inside, is.above e inside) }

-- so what has none above the units has no room
room_of : (g : Graph) (ranges : List Range) (units : List ℕ) (booked : List (List ℕ × ℕ)) (found : Option (List ℕ)) → AreUnits g booked units
    → MatchOption found (HasNoneAbove g ranges units) (IsFlowAbove g ranges units) → MatchOption found (HasNoRoomFor g ranges booked) (HasRoomFor g ranges booked)
room_of g ranges units booked None counts is = λ a answer zero_error above. is a answer zero_error (λ e inside. omega (arith, counts.each e inside, above e inside))
room_of g ranges units booked (Some flow) counts is = above-room g ranges units booked flow (λ e inside. omega (arith, counts.each e inside)) is

-- the same, where there was memory
pub room_if_ok : {E : Type 0} (g : Graph) (ranges : List Range) (units : List ℕ) (booked : List (List ℕ × ℕ)) (r : Result (Option (List ℕ)) E) → AreUnits g booked units
    → IfOk r (λ found. MatchOption found (HasNoneAbove g ranges units) (IsFlowAbove g ranges units)) → IfOk r (λ found. MatchOption found (HasNoRoomFor g ranges booked) (HasRoomFor g ranges booked))
room_if_ok g ranges units booked (Ok found) counts is = room_of g ranges units booked found counts is
room_if_ok g ranges units booked (Err e) counts is = tt
