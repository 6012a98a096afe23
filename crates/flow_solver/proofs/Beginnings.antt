-- Where the searches for few paths begin: at a first answer, or at none where the booked paths do not fit.
use Rattle.std.proofs.Common.{◌≡◌, ◌==◌, ℕ, ◌+◌, ◌≤◌, ◌<◌, List, [], ◌∷◌, Option, Some, None, true, length, refl, sym, ap, ap₂, subst, ◌∙◌, arith, eqb-true}
use Rattle.std.specs.Prelude.{All, IfSome, IsSomeAnd, slice_index}
use Rattle.std.specs.List.{list_all}
use Rattle.std.proofs.lemmas.Grind.{get_or_default_zero, same_number_lists}
use Rattle.std.proofs.lemmas.List.{length-map}
use Rattle.decomposition.specs.declared.Mode.{Mode}
use Rattle.decomposition.specs.declared.Mode.TheVariants.{Exact, Interval, Abs}
use Rattle.decomposition.specs.declared.Range.{Range}
use Rattle.decomposition.specs.Graph.{Graph, IsNet, edge_count}
use Rattle.decomposition.specs.Answer.{Covers, IsInReportOrder, weight_on}
use Rattle.decomposition.specs.FirstAnswer.{with_unit}
use Rattle.decomposition.specs.Flow.{Decomposes}
use Rattle.decomposition.specs.Instance.{FitsModel, Instance, IsFlowWithin, IsInstance, distance, error, lower_bound, range, range_at}
use Rattle.decomposition.proofs.Excess.{error-from_decomposes}
use Rattle.decomposition.proofs.FewPaths.{flows_decompose}
use Rattle.decomposition.proofs.Root.{all-parts}
use Rattle.decomposition.proofs.Sums.{sum_below-nil}
use Rattle.greedy_paths.specs.Booking.{AreBooked}
use Rattle.greedy_paths.specs.Built.{IsBuiltOn}
use Rattle.greedy_paths.specs.Laws.{BookedPathsAreOneList, BuiltOnBookedIsFirst}
use Rattle.flow_solver.specs.Booking.{IsAtMostFirst, IsKnownWhereBookedFit, upper_bound}
use Rattle.flow_solver.specs.Firsts.{IsBeginning, IsFirstOfFlow, count_known}
use Rattle.flow_solver.specs.Right.{CountsPaths, NothingIsWithin}
use Rattle.flow_solver.specs.Room.{HasNoRoomFor, IsFlowIn}
use Rattle.cert_check.proofs.Lows.{lows, lows-at}
use Rattle.flow_solver.proofs.Bounded.{bounds, highs, highs-at, within_small}
use Rattle.flow_solver.proofs.PathsOnce.{paths_once}

-- where both bounds of each edge are equal, the lower bounds are the upper ones
lows_are_highs : (rs : List Range) → list_all (λ (r : Range). r.lo == r.hi) rs ≡ true → lows rs ≡ highs rs
lows_are_highs [] h = refl
lows_are_highs (r ∷ rs) h =
    let parts = all-parts (λ (r : Range). r.lo == r.hi) r rs h in
    ap₂ (λ (x : ℕ) (xs : List ℕ). x ∷ xs) (eqb-true r.lo r.hi parts.0) (lows_are_highs rs parts.1)

pub both_same : (rs : List Range) → list_all (λ (r : Range). r.lo == r.hi) rs ≡ true → (e : ℕ) → (range_at rs e).lo ≡ (range_at rs e).hi
both_same rs h e = sym (lows-at rs e) ∙ (ap (λ (xs : List ℕ). slice_index xs e) (lows_are_highs rs h) ∙ highs-at rs e)

-- a decomposition of the lower bounds is one of the instance
lows_made : (i : Instance) (a : List (List ℕ × ℕ)) → Decomposes i.graph (slice_index (lows i.ranges)) a → Decomposes i.graph (lower_bound i) a
lows_made i a made = record { answer = made.answer; sums = λ e inside. made.sums e inside ∙ lows-at i.ranges e }

-- a first answer of the weights of an exact graph, or none
exact_beginning : BookedPathsAreOneList → (i : Instance) (first : Option (List (List ℕ × ℕ))) → IsInstance Exact i → IsFirstOfFlow i.graph (slice_index (lows i.ranges)) i.rules first → IsBeginning Exact i first
exact_beginning one i (Some a) valid is =
    let none = error-from_decomposes i valid a (lows_made i a is.made) in
    record {
      known = record { meets = (is.made.answer, is.covers, none); order = is.order; once = paths_once a is.first.merged.once; small = within_small Exact i a valid is.made.answer none };
      few = is.few;
      at_most = λ b first. is.least (lower_bound i) b (lows-at i.ranges) first;
      fits = λ no_upper booked books fit. let no' : ⊥ = cc in no';
    }
exact_beginning one i None valid is = record {
  known = tt;
  few = tt;
  at_most = λ b first. absurd (is.no_first (lower_bound i) b (lows-at i.ranges) first);
  fits = λ no_upper booked books fit.
      let same : (e : ℕ) → slice_index (lows i.ranges) e ≡ upper_bound i e = λ e. lows-at i.ranges e ∙ both_same i.ranges valid.fits.0 e in
      let equal : is.booked ≡ booked = one i.graph (slice_index (lows i.ranges)) (upper_bound i) i.rules is.booked booked same valid.runs is.books books in
      is.passed (λ e inside. omega (arith, subst (λ ps. weight_on (with_unit ps) e ≤ upper_bound i e) (sym equal) (fit e inside), same e));
}

-- the same, where the lower bounds stand as another list
pub exact_beginning_of : BookedPathsAreOneList → (i : Instance) (flow : List ℕ) (first : Option (List (List ℕ × ℕ))) → flow ≡ lows i.ranges → IsInstance Exact i → IsFirstOfFlow i.graph (slice_index flow) i.rules first → IsBeginning Exact i first
exact_beginning_of one i flow first are valid is = exact_beginning one i first valid (subst (λ (ws : List ℕ). IsFirstOfFlow i.graph (slice_index ws) i.rules first) are is)

-- paths that make up a flow within the ranges lie within them
pub error-from_within : (i : Instance) (flow : ℕ → ℕ) (a : List (List ℕ × ℕ)) → IsFlowWithin i flow → Decomposes i.graph flow a → error i a ≡ 0
error-from_within i flow a inside_ranges made =
    sum_below-nil (λ e. distance (range i e) (weight_on a e)) (edge_count i.graph)
    (λ e inside. omega (arith, made.sums e inside, inside_ranges.low e inside, inside_ranges.high e inside))

-- so where there is such a flow, some weighted paths do
pub flow_within : (i : Instance) (flow : ℕ → ℕ) → IsNet i.graph → IsFlowWithin i flow → NothingIsWithin i → ⊥
flow_within i flow net inside_ranges none =
    let made = flows_decompose i.graph flow net inside_ranges.balanced in
    none made.0 made.1.answer (error-from_within i flow made.0 inside_ranges made.1)

-- the rules play no part in what a flow within the ranges is
pub flow_in : (i : Instance) (flow : List ℕ) → IsFlowIn i.graph i.ranges flow → IsFlowWithin i (slice_index flow)
flow_in i flow (long, f) = record { balanced = f.balanced; low = f.low; high = f.high }

-- where both bounds of each edge are equal, a flow within them is the list of both
flow_is_highs : (i : Instance) (flow : List ℕ) → IsInstance Interval i → FitsModel Exact i → length flow ≡ edge_count i.graph → IsFlowWithin i (slice_index flow) → flow ≡ highs i.ranges
flow_is_highs i flow valid fits long inside_ranges =
    same_number_lists flow (highs i.ranges) (omega (arith, long, valid.ranged, length-map i.ranges (λ (r : Range). r.hi)))
    (λ e there.
    let inside : e < edge_count i.graph = omega (arith, there, long) in
    omega (arith, inside_ranges.low e inside, inside_ranges.high e inside, both_same i.ranges fits.0 e, highs-at i.ranges e))

-- booked paths have weight 1
ones : (ps : List (List ℕ)) → list_all (λ (entry : List ℕ × ℕ). entry.1 == 1) (with_unit ps) ≡ true
ones [] = refl
ones (p ∷ ps) = ones ps

pub booked_ones : (g : Graph) (f : ℕ → ℕ) (rules : List (List ℕ)) (booked : List (List ℕ × ℕ)) → AreBooked g f rules booked → list_all (λ (entry : List ℕ × ℕ). entry.1 == 1) booked ≡ true
booked_ones g f rules booked (ps, is, books) = subst (λ (xs : List (List ℕ × ℕ)). list_all (λ (entry : List ℕ × ℕ). entry.1 == 1) xs ≡ true) (sym is) (ones ps)

-- a flow within the ranges is no greater than a weight of a text
pub flow_small : (mode : Mode) (i : Instance) (flow : List ℕ) → IsInstance mode i → length flow ≡ edge_count i.graph → IsFlowWithin i (slice_index flow) → All (λ w. w ≤ 1000000000000) flow
flow_small mode i flow valid long inside_ranges k d there =
    let inside : k < edge_count i.graph = omega (arith, there, long) in
    omega (arith, get_or_default_zero flow k d there, inside_ranges.high k inside, (bounds mode i valid k (omega (arith, inside, valid.ranged))).1)

-- an answer over a flow that has room for the booked paths
pub interval_known : BuiltOnBookedIsFirst → (i : Instance) (flow : List ℕ) (booked a : List (List ℕ × ℕ)) → IsInstance Interval i → length flow ≡ edge_count i.graph → IsFlowWithin i (slice_index flow)
    → AreBooked i.graph (slice_index (highs i.ranges)) i.rules booked → Covers i.rules booked → length booked ≤ length i.rules
    → Decomposes i.graph (slice_index flow) a → IsInReportOrder a → length a ≤ edge_count i.graph + length booked → ((rules : List (List ℕ)) → Covers rules booked → Covers rules a)
    → IsBuiltOn i.graph (slice_index flow) booked a → IsBeginning Interval i (Some a)
interval_known least i flow booked a valid long inside_ranges are covers few made order short keeps built =
    let none = error-from_within i (slice_index flow) a inside_ranges made in
    record {
      known = record { meets = (made.answer, keeps i.rules covers, none); order = order; once = paths_once a built.merged.once; small = within_small Interval i a valid made.answer none };
      few = omega (arith, short, few);
      at_most = λ fits b first.
          let is = flow_is_highs i flow valid fits long inside_ranges in
          let same : (e : ℕ) → slice_index flow e ≡ slice_index (highs i.ranges) e = λ e. ap (λ (xs : List ℕ). slice_index xs e) is in
          let low : (e : ℕ) → slice_index flow e ≡ lower_bound i e = λ e. same e ∙ (highs-at i.ranges e ∙ sym (both_same i.ranges fits.0 e)) in
          least i.graph (slice_index flow) (slice_index (highs i.ranges)) i.rules booked a same valid.runs are built (lower_bound i) b low first;
      fits = λ no_upper listed books fit. let no' : ⊥ = cc in no';
    }

-- where no weighted paths within the ranges have room for the booked paths
pub interval_unknown : BookedPathsAreOneList → (i : Instance) (booked : List (List ℕ × ℕ)) → IsInstance Interval i
    → AreBooked i.graph (slice_index (highs i.ranges)) i.rules booked → HasNoRoomFor i.graph i.ranges booked → IsBeginning Interval i None
interval_unknown one i booked valid (listed, is, books) no_room = record {
  known = tt;
  few = tt;
  at_most = λ fits b first.
      let same : (e : ℕ) → slice_index (highs i.ranges) e ≡ lower_bound i e = λ e. highs-at i.ranges e ∙ sym (both_same i.ranges fits.0 e) in
      let equal : listed ≡ first.booked = one i.graph (slice_index (highs i.ranges)) (lower_bound i) i.rules listed first.booked same valid.runs books first.books in
      let made = flows_decompose i.graph (lower_bound i) valid.net fits.1 in
      let exact : IsInstance Exact i = record { net = valid.net; ranged = valid.ranged; bounded = valid.bounded; runs = valid.runs; distinct = valid.distinct; fits = fits } in
      absurd (no_room made.0 made.1.answer (error-from_decomposes i exact made.0 made.1)
      (λ e inside. omega (arith, made.1.sums e inside, first.fits e inside, ap (λ xs. weight_on xs e) (is ∙ ap with_unit equal))));
  fits = λ no_upper others other_books (a, room).
      let equal : listed ≡ others = one i.graph (slice_index (highs i.ranges)) (upper_bound i) i.rules listed others (highs-at i.ranges) valid.runs books other_books in
      no_room a room.answer room.within (λ e inside. omega (arith, room.units e inside, ap (λ xs. weight_on xs e) (is ∙ ap with_unit equal)));
}

-- fewer paths than at the beginning are no worse than the first answer
pub first-kept : (mode : Mode) (i : Instance) (first : Option (List (List ℕ × ℕ))) (count : Option ℕ) → CountsPaths mode → IfSome first (λ a. IsSomeAnd count (λ n. n ≤ length a))
    → IsAtMostFirst mode i (count_known first) → IsAtMostFirst mode i count
first-kept Exact i None count counts fewer at_most = λ b is. absurd (at_most b is)
first-kept Interval i None count counts fewer at_most = λ fits b is. absurd (at_most fits b is)
first-kept Exact i (Some a) (Some n) counts fewer at_most = λ b is. omega (arith, fewer, at_most b is)
first-kept Interval i (Some a) (Some n) counts fewer at_most = λ fits b is. omega (arith, fewer, at_most fits b is)
first-kept Exact i (Some a) None counts fewer at_most = absurd fewer
first-kept Interval i (Some a) None counts fewer at_most = absurd fewer
first-kept (Abs k) i first count counts fewer at_most = absurd counts

-- and an answer that was known stays known
pub fits-kept : (mode : Mode) (i : Instance) (first : Option (List (List ℕ × ℕ))) (count : Option ℕ) → IfSome first (λ a. IsSomeAnd count (λ n. n ≤ length a))
    → IsKnownWhereBookedFit mode i (count_known first) → IsKnownWhereBookedFit mode i count
fits-kept mode i None count fewer known none = known refl
fits-kept mode i (Some a) (Some n) fewer known none = absurd (let no' : ⊥ = cc in no')
fits-kept mode i (Some a) None fewer known none = absurd fewer
