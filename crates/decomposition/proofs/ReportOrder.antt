-- The orders of edge lists and of entries, and lists in order.
use Rattle.std.proofs.Common.{◌≡◌, ◌≢◌, ◌==◌, ℕ, zero, suc, ◌<◌, ◌∷◌, [], List, Bool, true, not, ◌&&◌, nat_lt, length, get_or, refl, sym, inl, inr, arith, true≢false, eqb-true}
use Rattle.std.specs.Ordering.{nat_cmp, is_lt}
use Rattle.std.specs.Cmp.Lexicographic.{slice_cmp}
use Rattle.std.specs.declared.cmp.Ordering.{Ordering}
use Rattle.std.proofs.lemmas.Bool.{or_cases, or_left, or_right, and_from, and_parts}
use Rattle.std.proofs.lemmas.Bool.Decides.{nat_tests}
use Rattle.std.proofs.lemmas.Cmp.{same_from_slice_cmp}
use Rattle.decomposition.specs.Graph.{is_list_le, is_list_before}
use Rattle.decomposition.specs.Answer.{is_ordered}

-- an edge list that is not less than another is one that the other comes before
pub is_list_le-cmp : (q p : List ℕ) (o : Ordering) → o ≡ slice_cmp nat_cmp q p → not (is_lt o) ≡ is_list_le p q
is_list_le-cmp =
    same_from_slice_cmp nat_cmp (λ o. not (is_lt o)) (λ q p. is_list_le p q) refl (λ _ _. refl) (λ _ _. refl)
    (λ x y xs ys o h. grind (arith, nat_tests))

-- of two edge lists that are not the same, the one that comes before stands before
pub is_list_before-from_le : (p q : List ℕ) → is_list_le p q ≡ true → p ≢ q → is_list_before p q ≡ true
is_list_before-from_le [] [] le apart = absurd (apart refl)
is_list_before-from_le [] (f ∷ q) le apart = refl
is_list_before-from_le (e ∷ p) [] le apart = absurd (true≢false (sym le))
is_list_before-from_le (e ∷ p) (f ∷ q) le apart =
    elim (or_cases (nat_lt e f) ((e == f) && is_list_le p q) le) [
      | inl less ↦ or_left (nat_lt e f) ((e == f) && is_list_before p q) less
      | inr same ↦
          let parts = and_parts (e == f) (is_list_le p q) same in
          let equal : e ≡ f = eqb-true e f parts.0 in
          let rest : is_list_before p q ≡ true = is_list_before-from_le p q parts.1 (λ (is : p ≡ q). apart (cc)) in
          or_right (nat_lt e f) ((e == f) && is_list_before p q) (and_from (e == f) (is_list_before p q) parts.0 rest)
    ]

-- a list is in order where each entry stands before the next one
pub is_ordered-from_places : {X : Type 0} (before : X → X → Bool) (xs : List X) (d : X) → ((k : ℕ) → suc k < length xs → before (get_or xs k d) (get_or xs (suc k) d) ≡ true) → is_ordered before xs ≡ true
is_ordered-from_places before [] d each = refl
is_ordered-from_places before (x ∷ []) d each = refl
is_ordered-from_places before (x ∷ y ∷ xs) d each =
    and_from (before x y) (is_ordered before (y ∷ xs)) (each 0 (omega arith)) (is_ordered-from_places before (y ∷ xs) d (λ k h. each (suc k) (omega arith)))

pub is_ordered-place : {X : Type 0} (before : X → X → Bool) (xs : List X) (d : X) (k : ℕ) → is_ordered before xs ≡ true → suc k < length xs → before (get_or xs k d) (get_or xs (suc k) d) ≡ true
is_ordered-place before [] d k ordered h = absurd (omega arith)
is_ordered-place before (x ∷ []) d k ordered h = absurd (omega arith)
is_ordered-place before (x ∷ y ∷ xs) d zero ordered h = (and_parts (before x y) (is_ordered before (y ∷ xs)) ordered).0
is_ordered-place before (x ∷ y ∷ xs) d (suc k) ordered h = is_ordered-place before (y ∷ xs) d k (and_parts (before x y) (is_ordered before (y ∷ xs)) ordered).1 (omega arith)
