-- What leaves a run, by sums along it: at each vertex between two edges, all that leaves it but the run's next edge.
use Rattle.std.proofs.Common.{◌≡◌, ℕ, ◌+◌, List, [], ◌∷◌, cond, Bool, true, false, not, ◌&&◌, ◌||◌, ◌==◌, eqb, refl, sym, ap, ◌∙◌, arith, inl, inr, true≢false, eqb-true, eq-eqb, subst}
use Rattle.std.specs.List.{list_any}
use Rattle.std.proofs.lemmas.Bool.{cases_Bool, both_ways, false_from_ne_true, ne_eqb}
use Rattle.std.proofs.lemmas.List.Sums.{sum_by-cons}
use Rattle.decomposition.specs.Graph.{Graph, IsNet, edge_count, tail, head, is_walk_from, has_edge}
use Rattle.decomposition.specs.Answer.{sum_below}
use Rattle.decomposition.specs.Flow.{flow_out_of}
use Rattle.decomposition.specs.SafeRuns.{inner_vertices, leaves_run, leaving}
use Rattle.decomposition.proofs.Sums.{sum_below-same, sum_below-add, sum_below-one, sum_below-nil}
use Rattle.decomposition.proofs.Members.{any-cons, any-here, any-there}
use Rattle.decomposition.proofs.Walks.{IsStep, walk-cons}
use Rattle.decomposition.proofs.Excess.{tail_apart, same_tail}
use Rattle.safe_paths.specs.Sums.{carried, passed}

-- an inner vertex of a walk is left by an edge behind the first
inner_tail : (g : Graph) (v e : ℕ) (es : List ℕ) (n : ℕ) → is_walk_from g v (e ∷ es) ≡ true → list_any (λ u. n == u) (inner_vertices g (e ∷ es)) ≡ true
    → (f : ℕ) × (has_edge es f ≡ true) × (tail g f ≡ n)
inner_tail g v e [] n walk h = absurd (true≢false (sym h))
inner_tail g v e (f ∷ fs) n walk h =
    let s : IsStep g v e (f ∷ fs) = walk-cons g v e (f ∷ fs) walk in
    let t : IsStep g (head g e) f fs = walk-cons g (head g e) f fs s.rest in
    elim (any-cons (λ u. n == u) (head g e) (inner_vertices g (f ∷ fs)) h) [
      | inl here ↦ (f, any-here (λ y. eqb f y) f fs (eq-eqb f f refl), t.leaves ∙ sym (eqb-true n (head g e) here))
      | inr there ↦
          let found : (d : ℕ) × (has_edge fs d ≡ true) × (tail g d ≡ n) = inner_tail g (head g e) f fs n s.rest there in
          (found.0, any-there (λ y. eqb found.0 y) f fs found.1, found.2)
    ]

-- an edge leaves the longer run, or is the next edge, where it leaves the shorter one, or leaves the vertex between
same_terms : (t a b d e : Bool) (w : ℕ) → (t ≡ true → (a ≡ false) × (d ≡ false) × (b ≡ e)) → (t ≡ false → e ≡ false) → (a ≡ true → d ≡ false)
    → cond ((t || a) && not (d || b)) w 0 + cond e w 0 ≡ cond (a && not b) w 0 + cond t w 0
same_terms true a b d e w at other inner = let h : (a ≡ false) × (d ≡ false) × (b ≡ e) = at refl in rw (h.0, h.1, h.2) (ends e) where
  ends : (e : Bool) → cond (not e) w 0 + cond e w 0 ≡ 0 + cond true w 0
  ends true = omega arith
  ends false = omega arith
same_terms false true b d e w at other inner = rw (inner refl, other refl) (omega arith)
same_terms false false b d e w at other inner = rw (other refl) (omega arith)

module _ (g : Graph) (net : IsNet g) (flow : ℕ → ℕ) where
  module _ (d e : ℕ) (es : List ℕ) (walk : is_walk_from g (tail g d) (d ∷ (e ∷ es)) ≡ true) where
    first : IsStep g (tail g d) d (e ∷ es)
    first = walk-cons g (tail g d) d (e ∷ es) walk

    next : IsStep g (head g d) e es
    next = walk-cons g (head g d) e es first.rest

    has_next : has_edge (e ∷ es) e ≡ true
    has_next = any-here (λ y. eqb e y) e es (eq-eqb e e refl)

    apart : (x : ℕ) → tail g x ≡ head g d → list_any (λ u. tail g x == u) (inner_vertices g (e ∷ es)) ≡ false
    apart x at =
        false_from_ne_true _
        (λ inner.
        let f = inner_tail g (head g d) e es (tail g x) first.rest inner in
        tail_apart g net e f.0 es next.inside next.rest f.1 (f.2 ∙ at ∙ sym next.leaves))

    not_first : (x : ℕ) → tail g x ≡ head g d → (x == d) ≡ false
    not_first x at = ne_eqb x d (λ same. tail_apart g net d e (e ∷ es) first.inside first.rest has_next (next.leaves ∙ sym at ∙ ap (tail g) same))

    first_outside : (x : ℕ) → list_any (λ u. tail g x == u) (inner_vertices g (e ∷ es)) ≡ true → (x == d) ≡ false
    first_outside x inner =
        ne_eqb x d
        (λ same.
        let f = inner_tail g (head g d) e es (tail g x) first.rest inner in
        tail_apart g net d f.0 (e ∷ es) first.inside first.rest (any-there (λ y. eqb f.0 y) e es f.1) (f.2 ∙ ap (tail g) same))

    only_next : (x : ℕ) → tail g x ≡ head g d → has_edge (e ∷ es) x ≡ (x == e)
    only_next x at =
        elim (cases_Bool (x == e)) [
          | inl same ↦ any-here (λ y. eqb x y) e es same ∙ sym same
          | inr other ↦
              false_from_ne_true _
              (λ has. both_ways _ other (eq-eqb x e (same_tail g net (head g d) x e (e ∷ es) first.rest has has_next (at ∙ sym next.leaves))))
              ∙ sym other
        ]

    term : (x : ℕ) → cond (leaves_run g (d ∷ (e ∷ es)) x) (flow x) 0 + cond (x == e) (flow x) 0 ≡ cond (leaves_run g (e ∷ es) x) (flow x) 0 + cond (tail g x == head g d) (flow x) 0
    term x =
        same_terms (tail g x == head g d) (list_any (λ u. tail g x == u) (inner_vertices g (e ∷ es))) (has_edge (e ∷ es) x) (x == d) (x == e) (flow x)
        (λ h. let at : tail g x ≡ head g d = eqb-true (tail g x) (head g d) h in (apart x at, not_first x at, only_next x at))
        (λ h. ne_eqb x e (λ same. both_ways _ h (eq-eqb (tail g x) (head g d) (ap (tail g) same ∙ next.leaves))))
        (first_outside x)

    next_alone : sum_below (λ x. cond (x == e) (flow x) 0) (edge_count g) ≡ flow e
    next_alone =
        omega (
          arith,
          sum_below-one (λ x. cond (x == e) (flow x) 0) (λ x. 0) (flow e) e (edge_count g) next.inside (rw (eq-eqb e e refl) (omega arith)) (λ j other. rw (ne_eqb j e other) refl),
          sum_below-nil (λ x. 0) (edge_count g) (λ k l. refl),
        )

    -- one more edge at the beginning
    leaving-cons : leaving g flow (d ∷ (e ∷ es)) + flow e ≡ leaving g flow (e ∷ es) + flow_out_of g flow (head g d)
    leaving-cons =
        omega (
          arith,
          next_alone,
          sum_below-add (λ x. cond (leaves_run g (d ∷ (e ∷ es)) x) (flow x) 0) (λ x. cond (x == e) (flow x) 0) (edge_count g),
          sum_below-add (λ x. cond (leaves_run g (e ∷ es) x) (flow x) 0) (λ x. cond (tail g x == head g d) (flow x) 0) (edge_count g),
          sum_below-same (λ x. cond (leaves_run g (d ∷ (e ∷ es)) x) (flow x) 0 + cond (x == e) (flow x) 0)
              (λ x. cond (leaves_run g (e ∷ es) x) (flow x) 0 + cond (tail g x == head g d) (flow x) 0) (edge_count g) (λ x l. term x),
        )

  -- what leaves a run and what its edges behind the first carry is all that leaves its inner vertices
  pub leaving-sums : (e : ℕ) (es : List ℕ) → is_walk_from g (tail g e) (e ∷ es) ≡ true → leaving g flow (e ∷ es) + carried flow es ≡ passed g flow es
  leaving-sums e [] walk = omega (arith, sum_below-nil (λ x. 0) (edge_count g) (λ k l. refl))
  leaving-sums d (e ∷ es) walk =
      let s : IsStep g (tail g d) d (e ∷ es) = walk-cons g (tail g d) d (e ∷ es) walk in
      let t : IsStep g (head g d) e es = walk-cons g (head g d) e es s.rest in
      let rest : is_walk_from g (tail g e) (e ∷ es) ≡ true = subst (λ v. is_walk_from g v (e ∷ es) ≡ true) (sym t.leaves) s.rest in
      omega (
        arith,
        leaving-cons d e es walk,
        leaving-sums e es rest,
        ap (flow_out_of g flow) t.leaves,
        sum_by-cons flow e es,
        sum_by-cons (λ x. flow_out_of g flow (tail g x)) e es,
      )
