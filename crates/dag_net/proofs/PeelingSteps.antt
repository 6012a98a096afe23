-- One edge taken away, and what is left when no more can be.
use Rattle.std.proofs.Common.{◌≡◌, ◌≢◌, ◌==◌, ℕ, zero, suc, ◌+◌, ◌<◌, ◌≤◌, ◌&&◌, ◌||◌, ◌++◌, ◌∷◌, [], List, Bool, true, false, not, eqb, nat_lt, cond, ltb-true, length, length-append, get_or, slice_index, slice_set, take, refl, sym, ap, subst, ◌∙◌, inl, inr, arith, get_or-set_same, get_or-set_other, eq-eqb, eqb-true}
use Rattle.std.specs.Prelude.{All}
use Rattle.std.specs.List.{IsDistinct}
use Rattle.std.proofs.lemmas.Bool.{cases_Bool, cases_eq, cases_lt, ne_eqb, cond-false, and_parts, or_cases, or_right, both_ways, not-true}
use Rattle.std.proofs.lemmas.Cmp.{nat_eq_equiv}
use Rattle.std.proofs.lemmas.List.{length-set, get_or_append_left, get_or-take, length-take-le}
use Rattle.std.proofs.lemmas.List.Folds.{list_any-append}
use Rattle.std.proofs.lemmas.Bool.Decides.{Decides-eqb}
use Rattle.std.proofs.lemmas.Map.Keys.{IsDistinct-push}
use Rattle.std.proofs.lemmas.Map.Made.{AllPairs-from_IsDistinct}
use Rattle.std.proofs.lemmas.Map.Steps.{length-le_from_distinct_below, le-length_from_below}
use Rattle.std.proofs.Math.Seq.{get_or-append_seam, take-length}
use Rattle.decomposition.specs.Graph.{Graph, IsNet, edge_count, tail, head, is_walk_from}
use Rattle.decomposition.proofs.Members.{any-place, any-from_place, any-append_left, any-append_right, any-here}
use Rattle.decomposition.proofs.Sums.{le-sum_below, sum_below-same, sum_below-one, sum_below-positive}
use Rattle.decomposition.proofs.Walks.{walk-from_step, walk-length}
use Rattle.decomposition.proofs.Nets.{edge_number}
use Rattle.dag_net.specs.Build.{IsInside}
use Rattle.dag_net.specs.Order.{IsOrder}
use Rattle.dag_net.specs.Peeling.{is_listed, entering, Peels, PeelsTo}

-- no number is below a lesser one
pub not_less : (d e : ℕ) → e ≤ d → nat_lt d e ≡ false
not_less d e h = elim (cases_Bool (nat_lt d e)) [ inl less ↦ absurd (omega (arith, ltb-true d e less)) | inr is ↦ is ]

-- what is gone counts edge by edge alone
pub Peels-same : (g : Graph) (gone later : ℕ → Bool) (waiting order : List ℕ) → ((d : ℕ) → d < edge_count g → gone d ≡ later d) → Peels g gone waiting order → Peels g later waiting order
Peels-same g gone later waiting order same p = record {
  room = p.room;
  counts = λ v h. p.counts v h ∙ sum_below-same (λ d. cond ((head g d == v) && not (gone d)) 1 0) (λ d. cond ((head g d == v) && not (later d)) 1 0) (edge_count g) (λ d there. ap (λ b. cond ((head g d == v) && not b) 1 0) (same d there));
  listed = p.listed;
  below = p.below;
  distinct = p.distinct;
  forward = p.forward;
  begun = λ d there is. p.begun d there (same d there ∙ is);
}

-- a vertex is in a list with one more exactly where it was, or is that one
pub listed-other : (order : List ℕ) (u v : ℕ) → v ≢ u → is_listed (order ++ u ∷ []) v ≡ is_listed order v
listed-other order u v other =
    list_any-append (λ w. v == w) order (u ∷ [])
    ∙ elim (cases_Bool (is_listed order v)) [ inl h ↦ rw h refl | inr h ↦ rw (h, ne_eqb v u other) refl ]

module _ (g : Graph) (gone : ℕ → Bool) (waiting order : List ℕ) (p : Peels g gone waiting order) (d w : ℕ) (there : d < edge_count g) (left : gone d ≡ false) (tail_listed : is_listed order (tail g d) ≡ true) (inside : head g d < g.vertices) (one_less : w + 1 ≡ slice_index waiting (head g d)) where
  abbrev term : (ℕ → Bool) → ℕ → ℕ → ℕ
  term taken v x = cond ((head g x == v) && not (taken x)) 1 0

  abbrev later : ℕ → Bool
  later x = gone x || (x == d)

  later-other : (x : ℕ) → x ≢ d → gone x ≡ later x
  later-other x other = elim (cases_Bool (gone x)) [ inl h ↦ rw h refl | inr h ↦ rw (h, ne_eqb x d other) refl ]

  later-here : later d ≡ true
  later-here = or_right (gone d) (d == d) (eq-eqb d d refl)

  counts-here : entering g gone (head g d) ≡ entering g later (head g d) + 1
  counts-here =
      let enters : (head g d == head g d) ≡ true = eq-eqb (head g d) (head g d) refl in
      let before : term gone (head g d) d ≡ 1 = rw (enters, left) refl in
      let after : term later (head g d) d ≡ 0 = rw (enters, later-here) refl in
      sum_below-one (term gone (head g d)) (term later (head g d)) 1 d (edge_count g) there (omega (arith, before, after))
      (λ x other. ap (λ b. cond ((head g x == head g d) && not b) 1 0) (later-other x other))

  counts-other : (v : ℕ) → v ≢ head g d → entering g gone v ≡ entering g later v
  counts-other v other =
      sum_below-same (term gone v) (term later v) (edge_count g)
      (λ x _. elim (cases_eq x d) [
        | inl same ↦
            let apart : (head g x == v) ≡ false = ne_eqb (head g x) v (λ e. other (sym e ∙ ap (head g) same)) in
            rw apart refl
        | inr apart ↦ ap (λ b. cond ((head g x == v) && not b) 1 0) (later-other x apart)
      ])

  counts-new : (v : ℕ) → v < g.vertices → slice_index (slice_set waiting (head g d) w) v ≡ entering g later v
  counts-new v h =
      elim (cases_eq v (head g d)) [
        | inl same ↦ omega (arith, ap (slice_index (slice_set waiting (head g d) w)) same, get_or-set_same waiting (head g d) w 0 (omega (arith, p.room)), p.counts (head g d) inside, counts-here, ap (entering g later) same)
        | inr other ↦ get_or-set_other waiting (head g d) v w 0 other ∙ p.counts v h ∙ counts-other v other
      ]

  -- the vertex was not listed
  unlisted : is_listed order (head g d) ≡ false
  unlisted = p.listed (head g d) inside ∙ ne_eqb (slice_index waiting (head g d)) 0 (λ none. omega arith)

  -- some edge is left that enters the vertex
  pub Peels-waits : w ≢ 0 → Peels g later (slice_set waiting (head g d) w) order
  Peels-waits more = record {
    room = length-set waiting (head g d) w ∙ p.room;
    counts = counts-new;
    listed = λ v h. elim (cases_eq v (head g d)) [
      | inl same ↦
          let now : slice_index (slice_set waiting (head g d) w) v ≡ w = ap (slice_index (slice_set waiting (head g d) w)) same ∙ get_or-set_same waiting (head g d) w 0 (omega (arith, p.room)) in
          ap (is_listed order) same ∙ unlisted ∙ sym (ne_eqb (slice_index (slice_set waiting (head g d) w) v) 0 (λ none. more (sym now ∙ none)))
      | inr other ↦ p.listed v h ∙ ap (λ x. x == 0) (sym (get_or-set_other waiting (head g d) v w 0 other))
    ];
    below = p.below;
    distinct = p.distinct;
    forward = p.forward;
    begun = λ x h is. elim (or_cases (gone x) (x == d) is) [ inl was ↦ p.begun x h was | inr same ↦ subst (λ z. is_listed order (tail g z) ≡ true) (sym (eqb-true x d same)) tail_listed ];
  }

  later-begun : (x : ℕ) → x < edge_count g → later x ≡ true → is_listed order (tail g x) ≡ true
  later-begun x h is = elim (or_cases (gone x) (x == d) is) [ inl was ↦ p.begun x h was | inr same ↦ subst (λ z. is_listed order (tail g z) ≡ true) (sym (eqb-true x d same)) tail_listed ]

  -- each edge that enters the vertex is gone
  all-gone : w ≡ 0 → (x : ℕ) → x < edge_count g → head g x ≡ head g d → later x ≡ true
  all-gone last x h enters =
      elim (cases_Bool (later x)) [
        | inl is ↦ is
        | inr stays ↦
            let one : term later (head g d) x ≡ 1 = rw (eq-eqb (head g x) (head g d) enters, stays) refl in
            absurd (omega (arith, le-sum_below (term later (head g d)) (edge_count g) x h, one, p.counts (head g d) inside, counts-here))
      ]

  -- no edge is left that enters the vertex
  pub Peels-lists : w ≡ 0 → Peels g later (slice_set waiting (head g d) w) (order ++ head g d ∷ [])
  Peels-lists last = record {
    room = length-set waiting (head g d) w ∙ p.room;
    counts = counts-new;
    listed = λ v h. elim (cases_eq v (head g d)) [
      | inl same ↦
          let now : slice_index (slice_set waiting (head g d) w) v ≡ 0 = ap (slice_index (slice_set waiting (head g d) w)) same ∙ get_or-set_same waiting (head g d) w 0 (omega (arith, p.room)) ∙ last in
          any-append_right (λ z. v == z) order (head g d ∷ []) (any-here (λ z. v == z) (head g d) [] (eq-eqb v (head g d) same))
          ∙ sym (eq-eqb (slice_index (slice_set waiting (head g d) w) v) 0 now)
      | inr other ↦ listed-other order (head g d) v other ∙ p.listed v h ∙ ap (λ x. x == 0) (sym (get_or-set_other waiting (head g d) v w 0 other))
    ];
    below = λ v is. elim (cases_eq v (head g d)) [
      | inl same ↦ subst (λ z. z < g.vertices) (sym same) inside
      | inr other ↦ p.below v (sym (listed-other order (head g d) v other) ∙ is)
    ];
    distinct = IsDistinct-push nat_eq_equiv order (head g d) p.distinct unlisted;
    forward = λ x j h within at. elim (cases_lt j (length order)) [
      | inl lt ↦
          let old = p.forward x j h lt (sym (get_or_append_left order (head g d ∷ []) 0 j lt) ∙ at) in
          (old.0, old.1, get_or_append_left order (head g d ∷ []) 0 old.0 (omega (arith, old.1)) ∙ old.2)
      | inr ge ↦
          let end : j ≡ length order = omega (arith, within, length-append order (head g d ∷ [])) in
          let is : head g x ≡ head g d = sym at ∙ ap (λ k. get_or (order ++ head g d ∷ []) k 0) end ∙ get_or-append_seam order (head g d) [] 0 in
          let place = any-place (λ z. tail g x == z) order 0 (later-begun x h (all-gone last x h is)) in
          (place.0, omega (arith, place.1), get_or_append_left order (head g d ∷ []) 0 place.0 place.1 ∙ sym (eqb-true (tail g x) (get_or order place.0 0) place.2))
    ];
    begun = λ x h is. any-append_left (λ z. tail g x == z) order (head g d ∷ []) (later-begun x h is);
  }

-- all edges that leave listed vertices are gone, and some vertex is not listed
module _ (g : Graph) (gone : ℕ → Bool) (waiting order : List ℕ) (p : Peels g gone waiting order) (all : (d : ℕ) → d < edge_count g → is_listed order (tail g d) ≡ true → gone d ≡ true) (inside : (d : ℕ) → d < edge_count g → tail g d < g.vertices) where
  -- an edge enters such a vertex from another one
  entered : (v : ℕ) → v < g.vertices → is_listed order v ≡ false → (d : ℕ) × (d < edge_count g) × (head g d ≡ v) × (is_listed order (tail g d) ≡ false)
  entered v h free =
      let waits : 1 ≤ slice_index waiting v
      = elim (cases_lt 0 (slice_index waiting v)) [ inl more ↦ omega arith | inr none ↦ absurd (both_ways (is_listed order v) free (p.listed v h ∙ eq-eqb (slice_index waiting v) 0 (omega arith))) ] in
      let found = sum_below-positive (λ d. cond ((head g d == v) && not (gone d)) 1 0) (edge_count g) (omega (arith, p.counts v h)) in
      let test = (head g found.0 == v) && not (gone found.0) in
      elim (cases_Bool test) [
        | inl is ↦
            let parts = and_parts (head g found.0 == v) (not (gone found.0)) is in
            let other : is_listed order (tail g found.0) ≡ false
            = elim (cases_Bool (is_listed order (tail g found.0))) [
              | inl listed ↦ absurd (both_ways (gone found.0) (not-true (gone found.0) parts.1) (all found.0 found.1 listed))
              | inr apart ↦ apart
            ] in
            (found.0, found.1, eqb-true (head g found.0) v parts.0, other)
        | inr fails ↦ absurd (omega (arith, found.2, cond-false {A = ℕ} test 1 0 fails))
      ]

  -- so walks from such vertices grow without end
  pub endless : IsNet g → (k u : ℕ) (es : List ℕ) → is_walk_from g u es ≡ true → u < g.vertices → is_listed order u ≡ false → edge_count g < k + length es → ⊥
  endless net zero u es walk h free long = omega (arith, walk-length g net u es walk)
  endless net (suc k) u es walk h free long =
      let e = entered u h free in
      endless net k (tail g e.0) (e.0 ∷ es)
      (walk-from_step g (tail g e.0) e.0 es (record { inside = e.1; leaves = refl; rest = subst (λ x. is_walk_from g x es ≡ true) (sym e.2) walk }))
      (inside e.0 e.1) e.3 (omega arith)

-- no more vertices are listed than there are
pub Peels-few : (g : Graph) (gone : ℕ → Bool) (waiting order : List ℕ) → Peels g gone waiting order → length order ≤ g.vertices
Peels-few g gone waiting order p = length-le_from_distinct_below order g.vertices p.distinct p.below

-- what is listed is a vertex
pub below-place : (g : Graph) (gone : ℕ → Bool) (waiting order : List ℕ) (k : ℕ) → Peels g gone waiting order → k < length order → slice_index order k < g.vertices
below-place g gone waiting order k p h = p.below (slice_index order k) (any-from_place (λ w. slice_index order k == w) order 0 k h (eq-eqb (slice_index order k) (slice_index order k) refl))

-- a vertex at a place is none of those before it
pub fresh-place : (order : List ℕ) (k : ℕ) → IsDistinct eqb order → k < length order → is_listed (take k order) (slice_index order k) ≡ false
fresh-place order k distinct within =
    elim (cases_Bool (is_listed (take k order) (slice_index order k))) [
      | inl listed ↦
          let at = any-place (λ w. slice_index order k == w) (take k order) 0 listed in
          let before : at.0 < k = omega (arith, at.1, length-take-le k order (omega arith)) in
          let same : slice_index order k ≡ slice_index order at.0 = eqb-true (slice_index order k) (get_or (take k order) at.0 0) at.2 ∙ get_or-take k order at.0 0 before in
          absurd (AllPairs-from_IsDistinct Decides-eqb order distinct at.0 k 0 before within (sym same))
      | inr free ↦ free
    ]

-- the vertices are in order where all are listed
pub IsOrder-from_peels : (g : Graph) (waiting order : List ℕ) → PeelsTo g (length order) waiting order → g.vertices ≤ length order → IsOrder g order
IsOrder-from_peels g waiting order p full = record {
  count = omega (arith, Peels-few g (λ d. is_listed (take (length order) order) (tail g d)) waiting order p);
  below = λ k d h. p.below (get_or order k d) (any-from_place (λ w. get_or order k d == w) order d k h (eq-eqb (get_or order k d) (get_or order k d) refl));
  complete = λ v h. elim (cases_Bool (is_listed order v)) [
    | inl listed ↦
        let at = any-place (λ w. v == w) order v listed in
        (at.0, at.1, sym (eqb-true v (get_or order at.0 v) at.2))
    | inr free ↦ absurd (omega (arith, too_many v h free))
  ];
  distinct = AllPairs-from_IsDistinct Decides-eqb order p.distinct;
  forward = λ i j before h e.
      let d = edge_number g (slice_index order j) (slice_index order i) e in
      let at = p.forward d.0 i d.1 (omega arith) (sym d.3) in
      AllPairs-from_IsDistinct Decides-eqb order p.distinct at.0 j 0 (omega (arith, at.1)) (omega arith) (at.2 ∙ d.2);
} where
  too_many : (v : ℕ) → v < g.vertices → is_listed order v ≡ false → suc (length order) ≤ g.vertices
  too_many v h free =
      let more = length-le_from_distinct_below (order ++ v ∷ []) g.vertices (IsDistinct-push nat_eq_equiv order v p.distinct free)
      (λ q is. elim (cases_eq q v) [ inl same ↦ subst (λ z. z < g.vertices) (sym same) h | inr other ↦ p.below q (sym (listed-other order v q other) ∙ is) ]) in
      omega (arith, more, length-append order (v ∷ []))

-- where not all are listed there is no order
pub none-from_peels : (g : Graph) (waiting order : List ℕ) → PeelsTo g (length order) waiting order → length order < g.vertices → All (IsInside g.vertices) g.edges → ¬ IsNet g
none-from_peels g waiting order p few inside net =
    let all = le-length_from_below order g.vertices (λ q h. elim (cases_Bool (is_listed order q)) [
      | inl listed ↦ listed
      | inr free ↦
          absurd (endless g (λ d. is_listed (take (length order) order) (tail g d)) waiting order p
          (λ d there listed. rw (take-length order) listed)
          (λ d there. (inside d (0, 0) there).0) net (edge_count g + 1) q [] refl h free (omega arith))
    ]) in
    omega (arith, all)
