-- Steps of the climb: what the levels, the ranges and the marks keep.
use Rattle.std.proofs.Common.{◌≡◌, ℕ, zero, suc, ◌+◌, ◌*◌, ◌<◌, ◌≤◌, ◌&&◌, ◌||◌, ◌==◌, Bool, true, false, nat_le, nat_lt, List, [], ◌∷◌, ◌++◌, length, length-append, slice_index, slice_index_or, slice_set, cond, refl, sym, ap, subst, ◌∙◌, inl, inr, arith, le-leb, ltb-true, eq-eqb, ne_eqb, get_or-set_same, get_or-set_other}
use Rattle.std.specs.Prelude.{All, ℤ, pos, ◌+ℤ◌, ◌≤ℤ◌}
use Rattle.std.specs.List.{list_all}
use Rattle.std.proofs.lemmas.Int.{ints}
use Rattle.std.proofs.lemmas.Bool.{and_from, and_parts, cases_eq, or_right}
use Rattle.std.proofs.lemmas.List.{get_or_default}
use Rattle.std.proofs.Math.ListN.{get_or-append}
use Rattle.std.proofs.Math.Seq.{get_or-append_seam}
use Rattle.decomposition.specs.declared.Range.{Range}
use Rattle.decomposition.specs.Graph.{Graph, IsNet, edge_count, tail, head}
use Rattle.decomposition.specs.Answer.{sum_below}
use Rattle.decomposition.specs.Flow.{IsBalanced}
use Rattle.decomposition.specs.Instance.{range_at, IsFlowWithin}
use Rattle.decomposition.specs.Certificates.{has_vertex}
use Rattle.decomposition.proofs.Sums.{sum_below-same, sum_below-nil, le-sum_below}
use Rattle.decomposition.proofs.Balance.{cond-zero}
use Rattle.decomposition.proofs.Root.{all-place}
use Rattle.decomposition.proofs.Open.{all-from_places}
use Rattle.dag_net.specs.Marks.{is_set}
use Rattle.dag_net.proofs.Marks.{set-here, set-other}
use Rattle.lower_flow.specs.Limits.{most_wide_units}
use Rattle.lower_flow.specs.Found.{with_ranges}
use Rattle.error_flow.specs.Limits.{most_edges, most_weight}
use Rattle.error_flow.specs.Nearest.{apart, change}
use Rattle.error_flow.specs.Certificate.{level_at, rise, bound, AreAllowed, IsSmallLevel, ProvesNearest}
use Rattle.error_flow.specs.Tight.{total_of, IsTight, AreTight, AreTightBefore, IsTightFlow}
use Rattle.error_flow.proofs.Shares.{tight-bounds}
use Rattle.error_flow.proofs.Tight.{tight-bound, tight-most}
use Rattle.error_flow.proofs.Depths.{allowed-near}
use Rattle.error_flow.proofs.Bounding.{levels_bound}

-- allowed levels are not too great
pub allowed-small : (g : Graph) (levels : List ℤ) → IsNet g → length levels ≡ g.vertices → edge_count g ≤ most_edges → AreAllowed g (level_at levels) → All IsSmallLevel levels
allowed-small g levels net count few allowed k d h =
    let near = allowed-near g (level_at levels) net allowed k (omega arith) in
    let same : slice_index_or levels k d ≡ level_at levels k = get_or_default levels k d (pos 0) h in
    (omega (arith, ints, near.low, same), omega (arith, ints, near.high, same))

-- levels of 0 are allowed
pub allowed-zero : (g : Graph) (levels : List ℤ) → ((v : ℕ) → level_at levels v ≡ pos 0) → AreAllowed g (level_at levels)
allowed-zero g levels none = record { ends = λ v h end. none v; gentle = λ e h. omega (arith, ints, none (head g e), none (tail g e)) }

-- the sum of the weights is not too great
sum-few : (weights : List ℕ) (n : ℕ) → n ≤ length weights → All (λ weight. weight ≤ most_weight) weights → sum_below (slice_index weights) n ≤ n * most_weight
sum-few weights zero h bounded = omega arith
sum-few weights (suc n) h bounded =
    let here : slice_index weights n ≤ most_weight = bounded n 0 (omega arith) in
    omega (arith, sum-few weights n (omega arith) bounded, here)

pub total-few : (g : Graph) (weights : List ℕ) → length weights ≡ edge_count g → edge_count g ≤ most_edges → All (λ weight. weight ≤ most_weight) weights → total_of g (slice_index weights) ≤ most_wide_units
total-few g weights count few bounded = omega (arith, sum-few weights (edge_count g) (omega arith) bounded)

-- no bound is above the sum of the weights, by which the flow that is 0 changes them
pub bound-most : (g : Graph) (weight : ℕ → ℕ) (level : ℕ → ℤ) → IsNet g → AreAllowed g level → bound g weight level ≤ℤ pos (total_of g weight)
bound-most g weight level net allowed =
    let balanced : IsBalanced g (λ e. 0)
    = λ v inner. omega (arith, sum_below-nil (λ e. cond (head g e == v) 0 0) (edge_count g) (λ e h. cond-zero (head g e == v)), sum_below-nil (λ e. cond (tail g e == v) 0 0) (edge_count g) (λ e h. cond-zero (tail g e == v))) in
    let all : change g weight (λ e. 0) ≡ total_of g weight = sum_below-same (λ e. apart (weight e) 0) weight (edge_count g) (λ e h. omega arith) in
    omega (arith, ints, levels_bound g weight level (λ e. 0) net allowed balanced, all)

-- a tight range, as it is read
pub tight-at : (total total' : ℕ) (up up' : ℤ) (w w' : ℕ) (r : Range) → total ≡ total' → up ≡ up' → w ≡ w' → IsTight total up w r → IsTight total' up' w' r
tight-at total total' up up' w w' r p q s h =
    subst (λ t. IsTight t up' w' r) p (subst (λ u. IsTight total u w' r) q (subst (λ x. IsTight total up x r) s h))

-- one range more
pub tight-more : (n : ℕ) (g : Graph) (weight : ℕ → ℕ) (level : ℕ → ℤ) (ranges : List Range) (r : Range) → AreTightBefore n g weight level ranges
    → IsTight (total_of g weight) (rise g level n) (weight n) r → AreTightBefore (n + 1) g weight level (ranges ++ r ∷ [])
tight-more n g weight level ranges r so_far is = record {
  count = omega (arith, length-append ranges (r ∷ []), so_far.count);
  each = λ e there. elim (cases_eq e n) [
    | inl same ↦
        let at : range_at (ranges ++ r ∷ []) e ≡ r
        = subst (λ m. range_at (ranges ++ r ∷ []) m ≡ r) (so_far.count ∙ sym same) (get_or-append_seam ranges r [] (record { lo = 0; hi = 0 })) in
        subst (λ x. IsTight (total_of g weight) (rise g level e) (weight e) x) (sym at) (subst (λ m. IsTight (total_of g weight) (rise g level m) (weight m) r) (sym same) is)
    | inr other ↦
        subst (λ x. IsTight (total_of g weight) (rise g level e) (weight e) x)
        (sym (get_or-append ranges (r ∷ []) (record { lo = 0; hi = 0 }) e (omega (arith, there, other, so_far.count))))
        (so_far.each e (omega (arith, there, other)))
  ];
}

-- tight ranges are not too great
pub tight-bounded : (g : Graph) (weight : ℕ → ℕ) (level : ℕ → ℤ) (ranges : List Range) → AreAllowed g level → AreTight g weight level ranges → total_of g weight ≤ most_wide_units
    → list_all (λ (r : Range). nat_le r.lo r.hi && nat_le r.hi most_wide_units) ranges ≡ true
tight-bounded g weight level ranges allowed tight few =
    all-from_places (λ (r : Range). nat_le r.lo r.hi && nat_le r.hi most_wide_units) ranges (record { lo = 0; hi = 0 })
    (λ k h.
    let there : k < edge_count g = omega (arith, h, tight.count) in
    let bounds = tight-bounds (total_of g weight) (rise g level k) (weight k) (range_at ranges k) (tight.each k there) (allowed.gentle k there) (le-sum_below weight (edge_count g) k there) in
    and_from _ _ (le-leb _ _ bounds.0) (le-leb _ _ (omega (arith, bounds.2, few))))

-- a flow within tight ranges
pub tight-flow : (g : Graph) (weight : ℕ → ℕ) (level : ℕ → ℤ) (flow : List ℕ) (ranges : List Range) → IsNet g → AreAllowed g level → AreTight g weight level ranges
    → (length flow ≡ edge_count g) × IsFlowWithin (with_ranges g ranges) (slice_index flow) → IsTightFlow g weight level flow
tight-flow g weight level flow ranges net allowed tight found = record {
  count = found.0;
  balanced = found.1.balanced;
  reached = tight-bound g weight level (slice_index flow) ranges net allowed tight found.1;
  most = tight-most g weight level (slice_index flow) ranges allowed tight found.1;
}

-- what such a flow and its levels prove
pub tight-proves : (g : Graph) (weights flow : List ℕ) (levels : List ℤ) (total : ℕ) → IsNet g → edge_count g ≤ most_edges → length levels ≡ g.vertices
    → total_of g (slice_index weights) ≤ most_wide_units → AreAllowed g (level_at levels) → IsTightFlow g (slice_index weights) (level_at levels) flow
    → total ≡ change g (slice_index weights) (slice_index flow) → ProvesNearest g weights flow levels total
tight-proves g weights flow levels total net few count little allowed tight is = record {
  one_number_each = tight.count;
  one_level_each = count;
  small_numbers = λ k d h. omega (arith, get_or_default flow k d 0 h, tight.most k (omega (arith, h, tight.count)), little);
  small_levels = allowed-small g levels net count few allowed;
  balanced = tight.balanced;
  ends = allowed.ends;
  gentle = allowed.gentle;
  change = sym is;
  bound = tight.reached ∙ ap pos (sym is);
}

pub tight-most_all : (g : Graph) (weights flow : List ℕ) (levels : List ℤ) → IsTightFlow g (slice_index weights) (level_at levels) flow → All (λ units. units ≤ total_of g (slice_index weights)) flow
tight-most_all g weights flow levels tight k d h = omega (arith, get_or_default flow k d 0 h, tight.most k (omega (arith, h, tight.count)))

-- the vertices of a cut are vertices
pub cut-inside : (n : ℕ) (test : ℕ → Bool) (xs : List ℕ) → list_all (λ v. nat_lt v n && test v) xs ≡ true → All (λ v. v < n) xs
cut-inside n test xs all k d h =
    ltb-true _ _ (and_parts _ _ (all-place (λ v. nat_lt v n && test v) xs d k all h)).0

-- one vertex more of a list
has-more : (xs : List ℕ) (x v : ℕ) → has_vertex (xs ++ x ∷ []) v ≡ (has_vertex xs v || (v == x))
has-more [] x v = or_false (v == x)
  where
    or_false : (b : Bool) → (b || false) ≡ b
    or_false true = refl
    or_false false = refl
has-more (y ∷ xs) x v = ap (λ b. (v == y) || b) (has-more xs x v) ∙ or_assoc (v == y) (has_vertex xs v) (v == x)
  where
    or_assoc : (a b c : Bool) → (a || (b || c)) ≡ ((a || b) || c)
    or_assoc true b c = refl
    or_assoc false b c = refl

pub marks-more : (marks : List Bool) (xs : List ℕ) (x : ℕ) → x < length marks → ((v : ℕ) → is_set marks v ≡ has_vertex xs v) → (v : ℕ) → is_set (slice_set marks x true) v ≡ has_vertex (xs ++ x ∷ []) v
marks-more marks xs x h so_far v =
    elim (cases_eq v x) [
      | inl same ↦
          ap (λ u. is_set (slice_set marks x true) u) same ∙ set-here marks x h ∙ sym (has-more xs x v ∙ or_right (has_vertex xs v) (v == x) (eq-eqb v x same))
      | inr other ↦ set-other marks x v other ∙ so_far v ∙ sym (has-more xs x v ∙ or_none (has_vertex xs v) (v == x) (ne_eqb v x other))
    ]
  where
    or_none : (a b : Bool) → b ≡ false → (a || b) ≡ a
    or_none true b h = refl
    or_none false b h = h

-- one level more that is changed, or is not
module _ (levels old : List ℤ) (v : ℕ) (by : ℤ) (moved : ℕ → Bool) (done : (u : ℕ) → u < v → level_at levels u ≡ level_at old u +ℤ cond (moved u) by (pos 0)) (rest : (u : ℕ) → v ≤ u → level_at levels u ≡ level_at old u) where
  pub shift-more : (new : List ℤ) (value : ℤ) → v < length levels → moved v ≡ true → value ≡ level_at levels v +ℤ by → new ≡ slice_set levels v value
      → ((u : ℕ) → u < v + 1 → level_at new u ≡ level_at old u +ℤ cond (moved u) by (pos 0)) × ((u : ℕ) → v + 1 ≤ u → level_at new u ≡ level_at old u)
  shift-more new value h hit is written = (
    λ u below. elim (cases_eq u v) [
      | inl same ↦
          ap (λ xs. level_at xs u) written
          ∙ ap (λ x. level_at (slice_set levels v value) x) same
          ∙ get_or-set_same levels v value (pos 0) h
          ∙ is
          ∙ ap (λ z. z +ℤ by) (rest v (omega arith))
          ∙ sym (ap (λ x. level_at old x +ℤ cond (moved x) by (pos 0)) same ∙ ap (λ b. level_at old v +ℤ cond b by (pos 0)) hit)
      | inr other ↦ ap (λ xs. level_at xs u) written ∙ get_or-set_other levels v u value (pos 0) other ∙ done u (omega (arith, other, below))
    ],
    λ u above. ap (λ xs. level_at xs u) written ∙ get_or-set_other levels v u value (pos 0) (λ same. omega (arith, same, above)) ∙ rest u (omega (arith, above)),
  )

  pub shift-same : (new : List ℤ) → moved v ≡ false → new ≡ levels
      → ((u : ℕ) → u < v + 1 → level_at new u ≡ level_at old u +ℤ cond (moved u) by (pos 0)) × ((u : ℕ) → v + 1 ≤ u → level_at new u ≡ level_at old u)
  shift-same new miss is = (
    λ u below. elim (cases_eq u v) [
      | inl same ↦
          ap (λ xs. level_at xs u) is
          ∙ rest u (omega (arith, same))
          ∙ no_more (level_at old u)
          ∙ sym (ap (λ b. level_at old u +ℤ cond b by (pos 0)) (ap moved same ∙ miss))
      | inr other ↦ ap (λ xs. level_at xs u) is ∙ done u (omega (arith, other, below))
    ],
    λ u above. ap (λ xs. level_at xs u) is ∙ rest u (omega (arith, above)),
  )
    where
      no_more : (z : ℤ) → z ≡ z +ℤ pos 0
      no_more z = omega (arith, ints)
