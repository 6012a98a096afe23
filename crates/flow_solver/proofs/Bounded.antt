-- The bounds of a valid instance, and what weighted paths within them weigh.
use Rattle.std.proofs.Common.{◌≡◌, ◌==◌, ℕ, zero, suc, ◌+◌, ◌*◌, ◌<◌, ◌≤◌, ◌^◌, List, [], ◌∷◌, true, ◌&&◌, cond, nat_le, length, get_or, refl, sym, arith, leb-true, true≢false, eq-eqb}
use Rattle.std.specs.Prelude.{All, map, slice_index}
use Rattle.std.specs.List.{list_all}
use Rattle.std.proofs.lemmas.Bool.{and_parts, cond-true}
use Rattle.std.proofs.lemmas.List.{length-map, get_or-map as get_or-map_in}
use Rattle.std.proofs.lemmas.List.Sums.{get_or-le-sum_by}
use Rattle.std.proofs.Math.ListN.{get_or-map}
use Rattle.decomposition.specs.declared.Mode.{Mode}
use Rattle.decomposition.specs.declared.Range.{Range}
use Rattle.decomposition.specs.Graph.{Graph, IsPath, is_path, edge_count, tail, has_edge}
use Rattle.decomposition.specs.Answer.{IsAnswer, weight_on, sum_below}
use Rattle.decomposition.specs.Instance.{Instance, IsInstance, cap, distance, error, greatest_hi, range, range_at}
use Rattle.decomposition.proofs.Cuts.{within}
use Rattle.decomposition.proofs.Members.{any-here}
use Rattle.decomposition.proofs.Merging.{weight_on-where}
use Rattle.decomposition.proofs.Root.{all-place, all-parts}
use Rattle.decomposition.proofs.Sums.{sum_below-le}
use Rattle.decomposition.proofs.Walks.{walk-cons}
use Rattle.cert_check.proofs.Lows.{lows}

-- no upper bound is above the greatest weight of a text
greatest-le : (rs : List Range) → list_all (λ (r : Range). nat_le r.lo r.hi && nat_le r.hi 1000000000000) rs ≡ true → greatest_hi rs ≤ 1000000000000
greatest-le [] h = omega arith
greatest-le (r ∷ rs) h =
    let parts = all-parts (λ (r : Range). nat_le r.lo r.hi && nat_le r.hi 1000000000000) r rs h in
    let here = leb-true r.hi 1000000000000 (and_parts (nat_le r.lo r.hi) (nat_le r.hi 1000000000000) parts.0).1 in
    omega (arith, here, greatest-le rs parts.1)

pub cap_small : (mode : Mode) (i : Instance) → IsInstance mode i → cap i ≤ 1000000000000
cap_small mode i valid = greatest-le i.ranges valid.bounded

-- the bounds of an edge
pub bounds : (mode : Mode) (i : Instance) → IsInstance mode i → (e : ℕ) → e < length i.ranges → ((range_at i.ranges e).lo ≤ (range_at i.ranges e).hi) × ((range_at i.ranges e).hi ≤ 1000000000000)
bounds mode i valid e there =
    let r = range_at i.ranges e in
    let both = and_parts (nat_le r.lo r.hi) (nat_le r.hi 1000000000000) (all-place (λ (r : Range). nat_le r.lo r.hi && nat_le r.hi 1000000000000) i.ranges (record { lo = 0; hi = 0 }) e valid.bounded there) in
    (leb-true r.lo r.hi both.0, leb-true r.hi 1000000000000 both.1)

-- the upper bounds as a list
abbrev pub highs : List Range → List ℕ
highs ranges = map (λ r. r.hi) ranges

pub highs-at : (ranges : List Range) (e : ℕ) → slice_index (highs ranges) e ≡ (range_at ranges e).hi
highs-at ranges e = get_or-map (λ (r : Range). r.hi) ranges e (record { lo = 0; hi = 0 })

pub lows_small : (mode : Mode) (i : Instance) → IsInstance mode i → All (λ w. w ≤ 1000000000000) (lows i.ranges)
lows_small mode i valid k d there =
    let inside : k < length i.ranges = omega (arith, there, length-map i.ranges (λ (r : Range). r.lo)) in
    let both = bounds mode i valid k inside in
    omega (arith, both.0, both.1, get_or-map_in (λ (r : Range). r.lo) i.ranges k (record { lo = 0; hi = 0 }) d inside)

pub highs_small : (mode : Mode) (i : Instance) → IsInstance mode i → All (λ w. w ≤ 1000000000000) (highs i.ranges)
highs_small mode i valid k d there =
    let inside : k < length i.ranges = omega (arith, there, length-map i.ranges (λ (r : Range). r.hi)) in
    omega (arith, (bounds mode i valid k inside).1, get_or-map_in (λ (r : Range). r.hi) i.ranges k (record { lo = 0; hi = 0 }) d inside)

-- a path has an edge of the graph
some_edge : (g : Graph) (p : List ℕ) → IsPath g p → (e : ℕ) × (e < edge_count g) × (has_edge p e ≡ true)
some_edge g [] h = absurd (true≢false (sym h))
some_edge g (e ∷ es) h =
    let run = (and_parts _ _ (and_parts _ _ h).1).0 in
    (e, (walk-cons g (tail g e) e es run).inside, any-here (λ f. e == f) e es (eq-eqb e e refl))

-- an entry weighs at most what all entries put on an edge of its path
entry-le : (a : List (List ℕ × ℕ)) (k e : ℕ) (d : List ℕ × ℕ) → k < length a → has_edge (get_or a k d).0 e ≡ true → (get_or a k d).1 ≤ weight_on a e
entry-le a k e d there has =
    let part = get_or-le-sum_by (λ (entry : List ℕ × ℕ). cond (has_edge entry.0 e) entry.1 0) a k d there in
    omega (arith, part, cond-true (has_edge (get_or a k d).0 e) (get_or a k d).1 0 has, weight_on-where a e)

-- so the entries weigh at most the most that any edge has
pub entries_small : (g : Graph) (most : ℕ) (a : List (List ℕ × ℕ)) → IsAnswer g a → ((e : ℕ) → e < edge_count g → weight_on a e ≤ most) → All (λ entry. entry.1 ≤ most) a
entries_small g most a answer small k d there =
    let path = (and_parts _ _ (all-place (λ (entry : List ℕ × ℕ). is_path g entry.0 && nat_le 1 entry.1) a d k answer there)).0 in
    let edge = some_edge g (get_or a k d).0 path in
    omega (arith, entry-le a k edge.0 d there edge.2, small edge.0 edge.1)

-- the entries of weighted paths within the ranges fit 64 bits
pub within_small : (mode : Mode) (i : Instance) (a : List (List ℕ × ℕ)) → IsInstance mode i → IsAnswer i.graph a → error i a ≡ 0 → All (λ entry. entry.1 < 2 ^ 64) a
within_small mode i a valid answer none k d there =
    let small = entries_small i.graph 1000000000000 a answer (λ e inside. omega (arith, (within i a e none inside).1, (bounds mode i valid e (omega (arith, inside, valid.ranged))).1)) in
    omega (arith, small k d there)

-- the sum of equal numbers
sum_below-const : (c n : ℕ) → sum_below (λ e. c) n ≡ n * c
sum_below-const c zero = omega arith
sum_below-const c (suc n) = omega (arith, sum_below-const c n)

-- the error where no edge has more than so much weight
pub error-le : (mode : Mode) (i : Instance) (a : List (List ℕ × ℕ)) (most : ℕ) → IsInstance mode i → ((e : ℕ) → weight_on a e ≤ most) → error i a ≤ edge_count i.graph * (1000000000000 + most)
error-le mode i a most valid light =
    let each = sum_below-le (λ e. distance (range i e) (weight_on a e)) (λ e. 1000000000000 + most) (edge_count i.graph)
    (λ e inside. let both = bounds mode i valid e (omega (arith, inside, valid.ranged)) in omega (arith, both.0, both.1, light e)) in
    omega (arith, each, sum_below-const (1000000000000 + most) (edge_count i.graph))
