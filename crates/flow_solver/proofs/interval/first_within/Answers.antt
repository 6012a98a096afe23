-- The flow has room for the paths that are booked by the upper bounds, or nothing within the ranges has.
use Rattle.std.proofs.Common.{◌≡◌, ◌≤◌, ◌==◌, ℕ, List, Some, true, length, slice_index, ◌∙◌, sym, subst, ⊎_elim}
use Rattle.std.specs.List.{list_all}
use Rattle.std.specs.Prelude.{All, MatchOption}
use Rattle.decomposition.specs.Answer.{Covers}
use Rattle.decomposition.specs.declared.Mode.TheVariants.{Interval}
use Rattle.flow_models.specs.Problem.{instance}
use Rattle.greedy_paths.specs.Booking.{AreBooked}
use Rattle.greedy_paths.proofs.Building.{built_on_booked_is_first}
use Rattle.greedy_paths.proofs.OneList.{booked_paths_are_one_list}
use Rattle.lower_flow.specs.Found.{IsFlowOrCut}
use Rattle.flow_solver.specs.Firsts.{IsBeginning}
use Rattle.flow_solver.specs.Right.{NothingIsWithin}
use Rattle.flow_solver.specs.Room.{HasNoRoomFor, HasRoomFor, IsFlowIn}
use Rattle.flow_solver.proofs.Beginnings.{booked_ones, flow_in, flow_small, flow_within, interval_known, interval_unknown}
use Rattle.flow_solver.proofs.Bounded.{highs, highs_small}
use Rattle.flow_solver.proofs.interval.first_within.Goals as goal
use Rattle.flow_solver.proofs.interval.first_within.Goals.{After-as_slice-in-Some, After-as_slice-in-Some-2, In-Flow}

pub book-requires-clause-small : goal.book-requires-clause-small
book-requires-clause-small c =
    let i = instance c.args.net.now c.args.problem.now in
    subst (λ (ws : List ℕ). All (λ w. w ≤ 1000000000000) ws) (sym (c.deref.ensures.value ∙ c.in_ok-guide.ensures)) (highs_small Interval i c.requires.valid)

pub flow_with_room-requires-clause-units : goal.flow_with_room-requires-clause-units
flow_with_room-requires-clause-units c = booked_ones c.args.net.now (slice_index c.deref.result.now) c.args.problem.now.rules c.in_ok-booked.booked c.in_ok-booked.ensures.booked

pub thin_flow-requires-clause-units : goal.thin_flow-requires-clause-units
thin_flow-requires-clause-units c = booked_ones c.args.net.now (slice_index c.deref.result.now) c.args.problem.now.rules c.in_ok-booked.booked c.in_ok-booked.ensures.booked

pub thin_flow-requires-clause-room : goal.thin_flow-requires-clause-room
thin_flow-requires-clause-room c =
    let g = c.args.net.now in
    let ranges = c.args.problem.now.ranges in
    let booked = c.in_ok-booked.booked in
    subst (λ found. MatchOption found (HasNoRoomFor g ranges booked) (HasRoomFor g ranges booked)) c.in-Some.is c.in_ok-flow-2.ensures

pub answer_over-requires-clause-units : goal.answer_over-requires-clause-units
answer_over-requires-clause-units c =
    subst (λ (booked : List (List ℕ × ℕ)). list_all (λ entry. entry.1 == 1) booked ≡ true) (sym c.in_ok-copy_of-in-Some.ensures)
    (booked_ones c.args.net.now (slice_index c.deref.result.now) c.args.problem.now.rules c.in_ok-booked.booked c.in_ok-booked.ensures.booked)

pub answer_over-requires-in-Some-clause-units : goal.answer_over-requires-in-Some-clause-units
answer_over-requires-in-Some-clause-units c = booked_ones c.args.net.now (slice_index c.deref.result.now) c.args.problem.now.rules c.in_ok-booked.booked c.in_ok-booked.ensures.booked

-- the flow that was found has room for the booked paths
room : (c : After-as_slice-in-Some) → HasRoomFor c.args.net.now c.args.problem.now.ranges c.in_ok-booked.booked c.as_slice-in-Some.result.now
room c =
    let g = c.args.net.now in
    let ranges = c.args.problem.now.ranges in
    let booked = c.in_ok-booked.booked in
    let told = subst (λ found. MatchOption found (HasNoRoomFor g ranges booked) (HasRoomFor g ranges booked)) c.in-Some.is c.in_ok-flow-2.ensures in
    subst (HasRoomFor g ranges booked) (sym c.as_slice-in-Some.ensures) told

-- and so has the other one
thin_room : (c : After-as_slice-in-Some-2) → HasRoomFor c.args.net.now c.args.problem.now.ranges c.in_ok-booked.booked c.as_slice-in-Some-2.result.now
thin_room c = subst (HasRoomFor c.args.net.now c.args.problem.now.ranges c.in_ok-booked.booked) (sym c.as_slice-in-Some-2.ensures) c.in_ok-thin-in-Some.ensures

-- some weighted paths lie within the ranges
some_within : (c : In-Flow) → NothingIsWithin (instance c.args.net.now c.args.problem.now) → ⊥
some_within c =
    let i = instance c.args.net.now c.args.problem.now in
    let told = subst (IsFlowOrCut i.graph c.as_slice.result.now) c.in-Flow.is c.in_ok-flow.ensures in
    flow_within i (slice_index c.in-Flow.flow) c.requires.valid.net (flow_in i c.in-Flow.flow (subst (λ ranges. IsFlowIn i.graph ranges c.in-Flow.flow) c.as_slice.ensures told))

pub answer_over-requires-clause-small : goal.answer_over-requires-clause-small
answer_over-requires-clause-small c =
    let i = instance c.args.net.now c.args.problem.now in
    let has = room (goal.at.answer_over-requires-clause-small c).After-as_slice-in-Some in
    flow_small Interval i c.as_slice-in-Some.result.now c.requires.valid has.within.0 (flow_in i c.as_slice-in-Some.result.now has.within)

pub answer_over-requires-in-Some-clause-small : goal.answer_over-requires-in-Some-clause-small
answer_over-requires-in-Some-clause-small c =
    let i = instance c.args.net.now c.args.problem.now in
    let has = thin_room (goal.at.answer_over-requires-in-Some-clause-small c).After-as_slice-in-Some-2 in
    flow_small Interval i c.as_slice-in-Some-2.result.now c.requires.valid has.within.0 (flow_in i c.as_slice-in-Some-2.result.now has.within)

pub returns-in-Some : goal.returns-in-Some
returns-in-Some c =
    let i = instance c.args.net.now c.args.problem.now in
    let flow = c.as_slice-in-Some.result.now in
    let thin = c.as_slice-in-Some-2.result.now in
    let has = room (goal.at.returns-in-Some c).After-as_slice-in-Some in
    let also = thin_room (goal.at.returns-in-Some c).After-as_slice-in-Some-2 in
    let told = c.in_ok-other-in-Some.ensures in
    let thinly = c.in_ok-first-in-Some.ensures in
    let is = c.deref.ensures.value ∙ c.in_ok-guide.ensures in
    let booked = c.in_ok-booked.booked in
    let copy = c.in_ok-copy_of-in-Some.field-0 in
    let same = c.in_ok-copy_of-in-Some.ensures in
    let are = subst (λ (ws : List ℕ). AreBooked i.graph (slice_index ws) i.rules booked) is c.in_ok-booked.ensures.booked in (
      ⊎_elim
          (λ (it : c.shorter.result ≡ c.in_ok-other-in-Some.other).
          subst (λ (a : List (List ℕ × ℕ)). IsBeginning Interval i (Some a)) (sym it)
          (interval_known built_on_booked_is_first i flow copy c.in_ok-other-in-Some.other c.requires.valid has.within.0 (flow_in i flow has.within)
          (subst (λ (b : List (List ℕ × ℕ)). AreBooked i.graph (slice_index (highs i.ranges)) i.rules b) (sym same) are)
          (subst (λ (b : List (List ℕ × ℕ)). Covers i.rules b) (sym same) c.in_ok-booked.ensures.covers)
          (subst (λ (b : List (List ℕ × ℕ)). length b ≤ length i.rules) (sym same) c.in_ok-booked.ensures.few)
          told.sums told.order told.few told.keeps told.built))
          (λ (it : c.shorter.result ≡ c.in_ok-first-in-Some.first).
          subst (λ (a : List (List ℕ × ℕ)). IsBeginning Interval i (Some a)) (sym it)
          (interval_known built_on_booked_is_first i thin booked c.in_ok-first-in-Some.first c.requires.valid also.within.0 (flow_in i thin also.within) are c.in_ok-booked.ensures.covers c.in_ok-booked.ensures.few
          thinly.sums thinly.order thinly.few thinly.keeps thinly.built))
          c.shorter.ensures.either,
      some_within (goal.at.returns-in-Some c).In-Flow,
    )

pub returns : goal.returns
returns c =
    let i = instance c.args.net.now c.args.problem.now in
    let booked = c.in_ok-booked.booked in
    let is = c.deref.ensures.value ∙ c.in_ok-guide.ensures in (
      interval_unknown booked_paths_are_one_list i booked c.requires.valid
          (subst (λ (ws : List ℕ). AreBooked i.graph (slice_index ws) i.rules booked) is c.in_ok-booked.ensures.booked)
          (subst (λ found. MatchOption found (HasNoRoomFor i.graph i.ranges booked) (HasRoomFor i.graph i.ranges booked)) c.in-None.is c.in_ok-flow-2.ensures),
      some_within (goal.at.returns c).In-Flow,
    )
