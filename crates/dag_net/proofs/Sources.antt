-- The vertices that no edge enters, with which taking away begins.
use Rattle.std.proofs.Common.{◌≡◌, ◌≢◌, ◌==◌, ℕ, ◌+◌, ◌&&◌, ◌++◌, ◌∷◌, [], List, Bool, true, false, nat_lt, cond, true≢false, ltb-true, lt-ltb, length, slice_index, refl, sym, ap, ◌∙◌, inl, inr, arith, eq-eqb, eqb-true}
use Rattle.std.specs.List.{IsDistinct}
use Rattle.std.proofs.lemmas.Bool.{cases_Bool, cases_eq, cases_lt, ne_eqb, and_from, and_parts}
use Rattle.std.proofs.lemmas.Cmp.{nat_eq_equiv}
use Rattle.std.proofs.lemmas.Map.Keys.{IsDistinct-push}
use Rattle.decomposition.specs.Graph.{Graph, edge_count, head}
use Rattle.decomposition.proofs.Members.{any-from_place, any-append_right, any-here}
use Rattle.decomposition.proofs.Sums.{le-sum_below, sum_below-same}
use Rattle.dag_net.specs.Peeling.{is_listed, PeelsTo, IsEnteringCount, AreSourcesBelow}
use Rattle.dag_net.proofs.PeelingSteps.{not_less, listed-other}

-- sources found one by one
pub AreSourcesBelow-none : (counts : List ℕ) → AreSourcesBelow counts 0 []
unfolding IsDistinct
AreSourcesBelow-none counts = record { listed = λ v. ap (λ b. b && (slice_index counts v == 0)) (sym (not_less v 0 (omega arith))); distinct = tt }

below_more : (u v : ℕ) → u ≢ v → nat_lt u v ≡ nat_lt u (v + 1)
below_more u v other = elim (cases_lt u v) [ inl less ↦ lt-ltb u v less ∙ sym (lt-ltb u (v + 1) (omega arith)) | inr more ↦ not_less u v more ∙ sym (not_less u (v + 1) (omega arith)) ]

pub AreSourcesBelow-more : (counts : List ℕ) (v : ℕ) (found : List ℕ) → slice_index counts v ≡ 0 → AreSourcesBelow counts v found → AreSourcesBelow counts (v + 1) (found ++ v ∷ [])
AreSourcesBelow-more counts v found none s = record {
  listed = λ u. elim (cases_eq u v) [
    | inl same ↦
        any-append_right (λ w. u == w) found (v ∷ []) (any-here (λ w. u == w) v [] (eq-eqb u v same))
        ∙ sym (and_from (nat_lt u (v + 1)) (slice_index counts u == 0) (lt-ltb u (v + 1) (omega arith)) (eq-eqb (slice_index counts u) 0 (ap (slice_index counts) same ∙ none)))
    | inr other ↦ listed-other found v u other ∙ s.listed u ∙ ap (λ b. b && (slice_index counts u == 0)) (below_more u v other)
  ];
  distinct = IsDistinct-push nat_eq_equiv found v s.distinct (s.listed v ∙ ap (λ b. b && (slice_index counts v == 0)) (not_less v v (omega arith)));
}

pub AreSourcesBelow-skip : (counts : List ℕ) (v : ℕ) (found : List ℕ) → slice_index counts v ≢ 0 → AreSourcesBelow counts v found → AreSourcesBelow counts (v + 1) found
AreSourcesBelow-skip counts v found some s = record {
  listed = λ u. elim (cases_eq u v) [
    | inl same ↦
        let none : (slice_index counts u == 0) ≡ false = ne_eqb (slice_index counts u) 0 (λ is. some (ap (slice_index counts) (sym same) ∙ is)) in
        s.listed u ∙ both_false (nat_lt u v) (nat_lt u (v + 1)) (slice_index counts u == 0) none
    | inr other ↦ s.listed u ∙ ap (λ b. b && (slice_index counts u == 0)) (below_more u v other)
  ];
  distinct = s.distinct;
} where
  both_false : (a b c : Bool) → c ≡ false → (a && c) ≡ (b && c)
  both_false true true c none = refl
  both_false true false c none = none
  both_false false true c none = sym none
  both_false false false c none = refl

-- no vertex is taken yet
pub Peels-first : (g : Graph) (waiting order : List ℕ) → IsEnteringCount g waiting → AreSourcesBelow waiting (length waiting) order → PeelsTo g 0 waiting order
Peels-first g waiting order counted sources = record {
  room = counted.room;
  counts = λ v h. counted.at v h ∙ sum_below-same (λ d. cond (head g d == v) 1 0) (λ d. cond ((head g d == v) && true) 1 0) (edge_count g)
      (λ d _. elim (cases_Bool (head g d == v)) [ inl is ↦ rw is refl | inr is ↦ rw is refl ]);
  listed = λ v h. sources.listed v ∙ ap (λ b. b && (slice_index waiting v == 0)) (lt-ltb v (length waiting) (omega (arith, counted.room)));
  below = λ v is. omega (arith, counted.room, ltb-true v (length waiting) (and_parts (nat_lt v (length waiting)) (slice_index waiting v == 0) (sym (sources.listed v) ∙ is)).0);
  distinct = sources.distinct;
  forward = λ d j there within at.
      let v = head g d in
      let listed : is_listed order v ≡ true = any-from_place (λ w. v == w) order 0 j within (eq-eqb v (slice_index order j) (sym at)) in
      let parts = and_parts (nat_lt v (length waiting)) (slice_index waiting v == 0) (sym (sources.listed v) ∙ listed) in
      let one : ◌≡◌ {A = ℕ} (cond (head g d == v) 1 0) 1 = rw (eq-eqb v v refl) refl in
      absurd (omega (
        arith,
        eqb-true (slice_index waiting v) 0 parts.1,
        counted.at v (omega (arith, counted.room, ltb-true v (length waiting) parts.0)),
        le-sum_below (λ e. cond (head g e == v) 1 0) (edge_count g) d there,
        one,
      ));
  begun = λ d there is. absurd (true≢false (sym is));
}
