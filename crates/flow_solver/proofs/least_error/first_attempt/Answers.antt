-- The booked paths are those of the weights, and what is added to them fits; where there are too many, nothing is asked of the search.
use Rattle.std.proofs.Common.{◌≡◌, ◌≤◌, ℕ, List, slice_index, ◌∙◌, sym, subst, arith}
use Rattle.std.specs.Prelude.{All}
use Rattle.decomposition.specs.declared.Mode.TheVariants.{Abs}
use Rattle.decomposition.proofs.FewPaths.{error-same}
use Rattle.flow_models.specs.Problem.{instance}
use Rattle.greedy_paths.specs.Booking.{AreBooked}
use Rattle.greedy_paths.proofs.OneList.{booked_paths_are_one_list}
use Rattle.flow_solver.specs.Booking.{upper_bound}
use Rattle.flow_solver.specs.Widened.{IsWidened}
use Rattle.flow_solver.proofs.Beginnings.{booked_ones, both_same}
use Rattle.cert_check.proofs.Lows.{lows, lows-at}
use Rattle.flow_solver.proofs.Bounded.{lows_small}
use Rattle.flow_solver.proofs.Halving.{booked_error, too_many_if_ok}
use Rattle.flow_solver.proofs.Widening.{widened_found, widened_nearer, widened_total}
use Rattle.flow_solver.proofs.least_error.first_attempt.Goals as goal
use Rattle.flow_solver.proofs.least_error.first_attempt.Goals.{In_ok-booked, In_ok-paths}

-- the weights are both bounds of the ranges
high : (c : In_ok-booked) → (e : ℕ) → slice_index (lows c.args.problem.now.ranges) e ≡ upper_bound (instance c.args.net.now c.args.problem.now) e
high c e = lows-at c.args.problem.now.ranges e ∙ both_same c.args.problem.now.ranges c.requires.valid.fits e

booked : (c : In_ok-booked) → AreBooked c.args.net.now (slice_index (lows c.args.problem.now.ranges)) c.args.problem.now.rules c.in_ok-booked.booked
booked c =
    subst (λ (ws : List ℕ). AreBooked c.args.net.now (slice_index ws) c.args.problem.now.rules c.in_ok-booked.booked) (c.deref.ensures.value ∙ c.in_ok-weights.ensures) c.in_ok-booked.ensures.booked

-- the paths that are added to the booked ones
widened : (c : In_ok-paths) → IsWidened c.args.net.now (slice_index (lows c.args.problem.now.ranges)) c.in_ok-booked.booked c.args.k c.in_ok-paths.paths
widened c =
    subst (λ (ws : List ℕ). IsWidened c.args.net.now (slice_index ws) c.in_ok-booked.booked c.args.k c.in_ok-paths.paths) (c.deref-then-len-k.ensures.value ∙ c.in_ok-weights.ensures) c.in_ok-paths.ensures.widened

pub book-requires-clause-small : goal.book-requires-clause-small
book-requires-clause-small c =
    let i = instance c.args.net.now c.args.problem.now in
    subst (λ (ws : List ℕ). All (λ w. w ≤ 1000000000000) ws) (sym (c.deref.ensures.value ∙ c.in_ok-weights.ensures)) (lows_small (Abs c.args.k) i c.requires.valid)

pub with_widest-requires-clause-small : goal.with_widest-requires-clause-small
with_widest-requires-clause-small c =
    let i = instance c.args.net.now c.args.problem.now in
    subst (λ (ws : List ℕ). All (λ w. w ≤ 1000000000000) ws) (sym (c.deref-then-len-k.ensures.value ∙ c.in_ok-weights.ensures)) (lows_small (Abs c.args.k) i c.requires.valid)

pub with_widest-requires-clause-units : goal.with_widest-requires-clause-units
with_widest-requires-clause-units c = booked_ones c.args.net.now (slice_index c.deref.result.now) c.args.problem.now.rules c.in_ok-booked.booked c.in_ok-booked.ensures.booked

pub tidy-requires : goal.tidy-requires
tidy-requires c =
    let i = instance c.args.net.now c.args.problem.now in
    let total = widened_total c.args.k i (slice_index (lows i.ranges)) c.in_ok-booked.booked c.in_ok-paths.paths c.requires.valid (high (goal.at.tidy-requires c).In_ok-booked) (widened (goal.at.tidy-requires c).In_ok-paths)
    (booked (goal.at.tidy-requires c).In_ok-booked) c.in_ok-paths.ensures.few (omega (arith, c.len.ensures.len)) c.requires.few in
    omega (arith, total, c.requires.few)

pub returns-then-len-k-clause-attempts : goal.returns-then-len-k-clause-attempts
returns-then-len-k-clause-attempts c =
    let i = instance c.args.net.now c.args.problem.now in
    let at = goal.at.returns-then-len-k-clause-attempts c in
    widened_found c.args.k i (slice_index (lows i.ranges)) c.in_ok-booked.booked c.in_ok-paths.paths c.requires.valid (high at.In_ok-booked) (widened at.In_ok-paths)
    (booked at.In_ok-booked) c.in_ok-paths.ensures.few (omega (arith, c.len.ensures.len)) c.requires.few
    c.in_ok-tidy.field-0 c.in_ok-booked.ensures.covers c.in_ok-tidy.ensures.paths c.in_ok-tidy.ensures.merged c.in_ok-tidy.ensures.sums c.in_ok-tidy.ensures.order

pub returns-then-len-k-clause-booked : goal.returns-then-len-k-clause-booked
returns-then-len-k-clause-booked c =
    let i = instance c.args.net.now c.args.problem.now in
    let at = goal.at.returns-then-len-k-clause-booked c in
    let nearer = widened_nearer c.args.k i (slice_index (lows i.ranges)) c.in_ok-booked.booked c.in_ok-paths.paths c.requires.valid (high at.In_ok-booked) (widened at.In_ok-paths) in
    booked_error booked_paths_are_one_list c.args.k i (slice_index (lows i.ranges)) c.in_ok-booked.booked c.in_ok-tidy.field-0 c.requires.valid (high at.In_ok-booked) (booked at.In_ok-booked)
    (omega (arith, error-same i c.in_ok-paths.paths c.in_ok-tidy.field-0 (λ e inside. c.in_ok-tidy.ensures.sums e), nearer))

pub returns-clause-booked : goal.returns-clause-booked
returns-clause-booked c =
    let i = instance c.args.net.now c.args.problem.now in
    let at = goal.at.returns-clause-booked c in
    too_many_if_ok booked_paths_are_one_list c.args.k i (slice_index (lows i.ranges)) c.in_ok-booked.booked c.attempt_any.result c.requires.valid (high at.In_ok-booked) (booked at.In_ok-booked) (omega (arith, c.len.ensures.len))
