-- A closed set of vertices is a cut: what has its far end in the set is more than what has its near end there.
use Rattle.std.proofs.Common.{◌≡◌, ℕ, zero, suc, ◌+◌, ◌-◌, ◌<◌, ◌≤◌, ◌==◌, Bool, true, false, not, ◌&&◌, nat_lt, cond, List, [], ◌∷◌, slice_index, refl, sym, ap, ◌∙◌, arith, inl, inr, eq-eqb, ne_eqb, ltb-true}
use Rattle.std.specs.List.{list_all}
use Rattle.std.proofs.lemmas.Bool.{cases_Bool, both_ways, and_parts, and_from, not_from_false}
use Rattle.decomposition.specs.declared.Range.{Range}
use Rattle.decomposition.specs.declared.Side.{Side}
use Rattle.decomposition.specs.declared.Side.TheVariants.{Entering, Leaving}
use Rattle.decomposition.specs.Graph.{Graph, IsNet, edge_count, tail, head, is_source, is_sink, is_inner}
use Rattle.decomposition.specs.Answer.{sum_below}
use Rattle.decomposition.specs.Instance.{range_at}
use Rattle.decomposition.specs.Certificates.{has_vertex, is_entering, is_leaving, IsCut}
use Rattle.decomposition.proofs.Sums.{sum_below-same, sum_below-one, sum_below-nil, sum_below-add, sum_below-lt}
use Rattle.decomposition.proofs.Balance.{cond-zero, cond-add, inner-parts}
use Rattle.decomposition.proofs.Cuts.{sides, sides', has-all}
use Rattle.decomposition.proofs.Nets.{inside-from_net}
use Rattle.decomposition.proofs.Root.{all-cons, all-parts}
use Rattle.lower_flow.specs.Residual.{near, far, flow_at, surplus, lack, IsRanged, residual}
use Rattle.dag_net.specs.Marks.{is_set}
use Rattle.lower_flow.specs.Search.{IsClosed}
use Rattle.lower_flow.specs.Clearing.{AreMarked}
use Rattle.lower_flow.specs.Found.{with_ranges}

-- the flow at the vertices that pass a test, one vertex after another, is that of the edges whose end passes it
by_vertex : (n : ℕ) (test : ℕ → Bool) (end flow : ℕ → ℕ) (m : ℕ) → ((e : ℕ) → e < m → end e < n)
    → sum_below (λ v. cond (test v) (sum_below (λ e. cond (end e == v) (flow e) 0) m) 0) n ≡ sum_below (λ e. cond (test (end e)) (flow e) 0) m
by_vertex n test end flow zero inside = sum_below-nil (λ v. cond (test v) 0 0) n (λ v l. cond-zero (test v))
by_vertex n test end flow (suc m) inside =
    omega (
      arith,
      by_vertex n test end flow m (λ e l. inside e (omega arith)),
      sum_below-one (λ v. cond (test v) (sum_below (λ e. cond (end e == v) (flow e) 0) m + cond (end m == v) (flow m) 0) 0) (λ v. cond (test v) (sum_below (λ e. cond (end e == v) (flow e) 0) m) 0)
          (cond (test (end m)) (flow m) 0) (end m) n (inside m (omega arith))
          (rw (eq-eqb (end m) (end m) refl) (cond-add (test (end m)) (sum_below (λ e. cond (end e == end m) (flow e) 0) m) (flow m)))
          (λ v other. rw (ne_eqb (end m) v (λ same. other (sym same))) (nothing (test v) (sum_below (λ e. cond (end e == v) (flow e) 0) m))),
    )
  where
    nothing : (b : Bool) (x : ℕ) → cond b (x + 0) 0 ≡ cond b x 0
    nothing true x = omega arith
    nothing false x = refl

and_swap : (a b : Bool) → (a && b) ≡ (b && a)
and_swap true true = refl
and_swap true false = refl
and_swap false true = refl
and_swap false false = refl

module _ (g : Graph) (net : IsNet g) (ranges : List Range) (side : Side) (flow : List ℕ) (ranged : IsRanged g ranges flow) (inside : ℕ → Bool)
    (closed : IsClosed (residual g ranges side (slice_index flow)) inside) where
  ends_inside : (side : Side) (e : ℕ) → e < edge_count g → (near g side e < g.vertices) × (far g side e < g.vertices)
  ends_inside Entering e h = inside-from_net g net e h
  ends_inside Leaving e h = let ends = inside-from_net g net e h in (ends.1, ends.0)

  -- a vertex of the set is inner, and has no deficit
  pub inner-inside : (v : ℕ) → v < g.vertices → inside v ≡ true → (is_inner g v ≡ true) × (flow_at g (near g side) (slice_index flow) v ≤ flow_at g (far g side) (slice_index flow) v)
  inner-inside v h in' =
      let full : lack g side (slice_index flow) v ≡ 0 = closed.full v h in' in
      elim (cases_Bool (is_inner g v)) [
        | inl inner ↦ let none : flow_at g (near g side) (slice_index flow) v - flow_at g (far g side) (slice_index flow) v ≡ 0 = rw inner at full in (inner, omega arith)
        | inr outer ↦ let none : ◌≡◌ {A = ℕ} 18446744073709551615 0 = rw outer at full in absurd (omega arith)
      ]

  -- more of the flow has its far end in the set than has its near end there
  more : (a : ℕ) → a < g.vertices → 0 < surplus g side (slice_index flow) a
      → sum_below (λ e. cond (inside (near g side e)) (slice_index flow e) 0) (edge_count g) < sum_below (λ e. cond (inside (far g side e)) (slice_index flow e) 0) (edge_count g)
  more a h much =
      let begins : inside a ≡ true = closed.started a h much in
      let inner : is_inner g a ≡ true = (inner-inside a h begins).0 in
      let above : 0 < flow_at g (far g side) (slice_index flow) a - flow_at g (near g side) (slice_index flow) a = rw inner at much in
      omega (
        arith,
        by_vertex g.vertices inside (near g side) (slice_index flow) (edge_count g) (λ e l. (ends_inside side e l).0),
        by_vertex g.vertices inside (far g side) (slice_index flow) (edge_count g) (λ e l. (ends_inside side e l).1),
        sum_below-lt (λ v. cond (inside v) (flow_at g (near g side) (slice_index flow) v) 0) (λ v. cond (inside v) (flow_at g (far g side) (slice_index flow) v) 0) g.vertices a h
            (rw begins (omega arith))
            (λ v l. elim (cases_Bool (inside v)) [ inl in' ↦ rw in' (inner-inside v l in').1 | inr out ↦ rw out (omega arith) ]),
      )

  -- the upper bounds of the edges with their near end alone in the set sum to less than the lower bounds of those with their far end alone there
  pub bounds-cross : (a : ℕ) → a < g.vertices → 0 < surplus g side (slice_index flow) a
      → sum_below (λ e. cond (inside (near g side e) && not (inside (far g side e))) (range_at ranges e).hi 0) (edge_count g)
      < sum_below (λ e. cond (not (inside (near g side e)) && inside (far g side e)) (range_at ranges e).lo 0) (edge_count g)
  bounds-cross a h much =
      let f = slice_index flow in
      let out : ℕ → Bool = λ e. inside (near g side e) && not (inside (far g side e)) in
      let into : ℕ → Bool = λ e. not (inside (near g side e)) && inside (far g side e) in
      let within : ℕ → Bool = λ e. inside (near g side e) && inside (far g side e) in
      omega (
        arith,
        more a h much,
        sum_below-add (λ e. cond (into e) (f e) 0) (λ e. cond (within e) (f e) 0) (edge_count g),
        sum_below-same (λ e. cond (into e) (f e) 0 + cond (within e) (f e) 0) (λ e. cond (inside (far g side e)) (f e) 0) (edge_count g) (λ e l. sides (inside (near g side e)) (inside (far g side e)) (f e)),
        sum_below-add (λ e. cond (out e) (f e) 0) (λ e. cond (within e) (f e) 0) (edge_count g),
        sum_below-same (λ e. cond (out e) (f e) 0 + cond (within e) (f e) 0) (λ e. cond (inside (near g side e)) (f e) 0) (edge_count g) (λ e l. sides' (inside (near g side e)) (inside (far g side e)) (f e)),
        sum_below-same (λ e. cond (out e) (f e) 0) (λ e. cond (out e) (range_at ranges e).hi 0) (edge_count g) high,
        sum_below-same (λ e. cond (into e) (f e) 0) (λ e. cond (into e) (range_at ranges e).lo 0) (edge_count g) low,
      )
    where
      high : (e : ℕ) → e < edge_count g → cond (inside (near g side e) && not (inside (far g side e))) (slice_index flow e) 0 ≡ cond (inside (near g side e) && not (inside (far g side e))) (range_at ranges e).hi 0
      high e l = elim (cases_Bool (inside (near g side e) && not (inside (far g side e)))) [
        | inl hit ↦
            let parts = and_parts (inside (near g side e)) (not (inside (far g side e))) hit in
            let full : (range_at ranges e).hi - slice_index flow e ≡ 0 = closed.onward e l parts.0 parts.1 in
            rw hit (omega (arith, ranged.high e l))
        | inr free ↦ rw free refl
      ]

      low : (e : ℕ) → e < edge_count g → cond (not (inside (near g side e)) && inside (far g side e)) (slice_index flow e) 0 ≡ cond (not (inside (near g side e)) && inside (far g side e)) (range_at ranges e).lo 0
      low e l = elim (cases_Bool (not (inside (near g side e)) && inside (far g side e))) [
        | inl hit ↦
            let parts = and_parts (not (inside (near g side e))) (inside (far g side e)) hit in
            let full : slice_index flow e - (range_at ranges e).lo ≡ 0 = closed.back e l parts.1 parts.0 in
            rw hit (omega (arith, ranged.low e l))
        | inr free ↦ rw free refl
      ]

-- a set is a cut where it is closed
module _ (g : Graph) (marked : List Bool) (xs : List ℕ) (those : AreMarked marked g.vertices xs) where
  has-marked : (v : ℕ) → v < g.vertices → has_vertex xs v ≡ is_set marked v
  has-marked v h =
      elim (cases_Bool (is_set marked v)) [
        | inl hit ↦ those.all v h hit ∙ sym hit
        | inr free ↦ elim (cases_Bool (has_vertex xs v)) [
          | inl listed ↦
              let both : (nat_lt v g.vertices && is_set marked v) ≡ true = has-all (λ u. nat_lt u g.vertices && is_set marked u) xs v those.listed listed in
              absurd (both_ways _ free (and_parts (nat_lt v g.vertices) (is_set marked v) both).1)
          | inr none ↦ none ∙ sym free
        ]
      ]

  all-other : (test : ℕ → Bool) → ((v : ℕ) → v < g.vertices → is_set marked v ≡ true → test v ≡ true) → (ys : List ℕ) → list_all (λ v. nat_lt v g.vertices && is_set marked v) ys ≡ true
      → list_all (λ v. nat_lt v g.vertices && test v) ys ≡ true
  all-other test up [] listed = refl
  all-other test up (y ∷ ys) listed =
      let parts = all-parts (λ v. nat_lt v g.vertices && is_set marked v) y ys listed in
      let here = and_parts (nat_lt y g.vertices) (is_set marked y) parts.0 in
      all-cons (λ v. nat_lt v g.vertices && test v) y ys (and_from (nat_lt y g.vertices) (test y) here.0 (up y (ltb-true y g.vertices here.0) here.1)) (all-other test up ys parts.1)

pub IsCut-closed : (side : Side) (g : Graph) → IsNet g → (ranges : List Range) (flow : List ℕ) → IsRanged g ranges flow → (marked : List Bool) → IsClosed (residual g ranges side (slice_index flow)) (is_set marked)
    → (a : ℕ) → a < g.vertices → 0 < surplus g side (slice_index flow) a → (xs : List ℕ) → AreMarked marked g.vertices xs → IsCut (with_ranges g ranges) side xs
IsCut-closed Entering g net ranges flow ranged marked closed a h much xs those = (
  all-other g marked xs those (λ v. not (is_sink g v))
      (λ v l hit. not_from_false _ (inner-parts g v (inner-inside g net ranges Entering flow ranged (is_set marked) closed v l hit).0).1) xs those.listed,
  omega (
    arith,
    bounds-cross g net ranges Entering flow ranged (is_set marked) closed a h much,
    sum_below-same (λ e. cond (is_leaving g xs e) (range_at ranges e).hi 0) (λ e. cond (is_set marked (tail g e) && not (is_set marked (head g e))) (range_at ranges e).hi 0) (edge_count g)
        (λ e l. let ends = inside-from_net g net e l in ap (λ b. cond (b && not (has_vertex xs (head g e))) (range_at ranges e).hi 0) (has-marked g marked xs those (tail g e) ends.0) ∙ ap (λ b. cond (is_set marked (tail g e) && not b) (range_at ranges e).hi 0) (has-marked g marked xs those (head g e) ends.1)),
    sum_below-same (λ e. cond (is_entering g xs e) (range_at ranges e).lo 0) (λ e. cond (not (is_set marked (tail g e)) && is_set marked (head g e)) (range_at ranges e).lo 0) (edge_count g)
        (λ e l. let ends = inside-from_net g net e l in ap (λ b. cond (not b && has_vertex xs (head g e)) (range_at ranges e).lo 0) (has-marked g marked xs those (tail g e) ends.0) ∙ ap (λ b. cond (not (is_set marked (tail g e)) && b) (range_at ranges e).lo 0) (has-marked g marked xs those (head g e) ends.1)),
  ),
)
IsCut-closed Leaving g net ranges flow ranged marked closed a h much xs those = (
  all-other g marked xs those (λ v. not (is_source g v))
      (λ v l hit. not_from_false _ (inner-parts g v (inner-inside g net ranges Leaving flow ranged (is_set marked) closed v l hit).0).0) xs those.listed,
  omega (
    arith,
    bounds-cross g net ranges Leaving flow ranged (is_set marked) closed a h much,
    sum_below-same (λ e. cond (is_entering g xs e) (range_at ranges e).hi 0) (λ e. cond (is_set marked (head g e) && not (is_set marked (tail g e))) (range_at ranges e).hi 0) (edge_count g)
        (λ e l. let ends = inside-from_net g net e l in ap (λ b. cond (not b && has_vertex xs (head g e)) (range_at ranges e).hi 0) (has-marked g marked xs those (tail g e) ends.0) ∙ ap (λ b. cond (not (is_set marked (tail g e)) && b) (range_at ranges e).hi 0) (has-marked g marked xs those (head g e) ends.1) ∙ ap (λ b. cond b (range_at ranges e).hi 0) (and_swap (not (is_set marked (tail g e))) (is_set marked (head g e)))),
    sum_below-same (λ e. cond (is_leaving g xs e) (range_at ranges e).lo 0) (λ e. cond (not (is_set marked (head g e)) && is_set marked (tail g e)) (range_at ranges e).lo 0) (edge_count g)
        (λ e l. let ends = inside-from_net g net e l in ap (λ b. cond (b && not (has_vertex xs (head g e))) (range_at ranges e).lo 0) (has-marked g marked xs those (tail g e) ends.0) ∙ ap (λ b. cond (is_set marked (tail g e) && not b) (range_at ranges e).lo 0) (has-marked g marked xs those (head g e) ends.1) ∙ ap (λ b. cond b (range_at ranges e).lo 0) (and_swap (is_set marked (tail g e)) (not (is_set marked (head g e))))),
  ),
)
