-- Sets of keys that stand for edge lists, ordered by them: what an insertion keeps and adds, and that the lists rise.
use Rattle.std.proofs.Common.{◌≡◌, ◌≢◌, ◌⊎◌, ℕ, zero, suc, List, [], ◌∷◌, ◌++◌, map, true, not, nat_eq, refl, sym, ap, ◌∙◌, subst, arith, inl, inr}
use Rattle.std.specs.Prelude.{Contains, ◌↔◌}
use Rattle.std.specs.Cmp.Lexicographic.{slice_cmp, pointwise}
use Rattle.std.specs.Ordering.{nat_cmp, is_eq, is_lt, match_ordering, ordering_reverse}
use Rattle.std.specs.List.Sorted.{IsStrictlySortedBy}
use Rattle.std.specs.BTreeSet.{insert_key}
use Rattle.std.specs.declared.cmp.Ordering.{Ordering}
use Rattle.std.specs.declared.cmp.Ordering.TheVariants.{Less, Equal, Greater}
use Rattle.std.proofs.lemmas.Bool.Decides.{nat_tests}
use Rattle.std.proofs.lemmas.Cmp.{same_from_slice_cmp, nat_list_cmp_total, tied_itself}
use Rattle.std.proofs.lemmas.Slice.Eq.{bytes_eq-Decides}
use Rattle.std.proofs.lemmas.List.Elements.{Contains-append_left, Contains-push, Contains-push_cases}
use Rattle.decomposition.specs.Graph.{is_list_le, IsRising}
use Rattle.decomposition.proofs.ReportOrder.{is_list_le-cmp}

-- what a list has, by its first entry and the others
here : {X : Type 0} (x : X) (xs : List X) (r : X) → x ≡ r → Contains (x ∷ xs) r
here x xs r same = (0, omega arith, same)

there : {X : Type 0} (x : X) (xs : List X) (r : X) → Contains xs r → Contains (x ∷ xs) r
there x xs r c = (suc c.0, omega (arith, c.1), c.2)

either : {X : Type 0} (x : X) (xs : List X) (r : X) → Contains (x ∷ xs) r → (x ≡ r) ⊎ Contains xs r
either x xs r (zero, inside, is) = inl is
either x xs r (suc k, inside, is) = inr (k, omega arith, is)

-- lists that compare as equal are the same
same_from_equal : (p q : List ℕ) → slice_cmp nat_cmp p q ≡ Equal → p ≡ q
same_from_equal p q equal =
    let tested : is_eq (slice_cmp nat_cmp p q) ≡ pointwise nat_eq p q
    = same_from_slice_cmp nat_cmp is_eq (pointwise nat_eq) refl (λ _ _. refl) (λ _ _. refl) (λ x y xs ys o h. grind (arith, nat_tests)) p q (slice_cmp nat_cmp p q) refl in
    (bytes_eq-Decides p q).0 (sym tested ∙ ap is_eq equal)

module _ {K : Type 0} (f : K → List ℕ) where
  -- keys are ordered by their lists
  abbrev pub by_list : K → K → Ordering
  by_list x y = slice_cmp nat_cmp (f x) (f y)

  keeps-at : (o : Ordering) (k x : K) (xs rest : List K) (r : List ℕ) → Contains (map f (x ∷ xs)) r → (Contains (map f xs) r → Contains (map f rest) r) → Contains (map f (match_ordering o (k ∷ x ∷ xs) (x ∷ xs) (x ∷ rest))) r
  keeps-at Less k x xs rest r c up = there (f k) (map f (x ∷ xs)) r c
  keeps-at Equal k x xs rest r c up = c
  keeps-at Greater k x xs rest r c up = elim (either (f x) (map f xs) r c) [ inl same ↦ here (f x) (map f rest) r same | inr behind ↦ there (f x) (map f rest) r (up behind) ]

  insert-keeps : (ks : List K) (k : K) (r : List ℕ) → Contains (map f ks) r → Contains (map f (insert_key by_list ks k)) r
  insert-keeps [] k r c = there (f k) [] r c
  insert-keeps (x ∷ xs) k r c = keeps-at (by_list k x) k x xs (insert_key by_list xs k) r c (insert-keeps xs k r)

  has-at : (o : Ordering) (k x : K) (xs rest : List K) → (o ≡ Equal → f k ≡ f x) → Contains (map f rest) (f k) → Contains (map f (match_ordering o (k ∷ x ∷ xs) (x ∷ xs) (x ∷ rest))) (f k)
  has-at Less k x xs rest equal c = here (f k) (map f (x ∷ xs)) (f k) refl
  has-at Equal k x xs rest equal c = here (f x) (map f xs) (f k) (sym (equal refl))
  has-at Greater k x xs rest equal c = there (f x) (map f rest) (f k) c

  insert-has : (ks : List K) (k : K) → Contains (map f (insert_key by_list ks k)) (f k)
  insert-has [] k = here (f k) [] (f k) refl
  insert-has (x ∷ xs) k = has-at (by_list k x) k x xs (insert_key by_list xs k) (same_from_equal (f k) (f x)) (insert-has xs k)

  only-at : (o : Ordering) (k x : K) (xs rest : List K) (r : List ℕ) → Contains (map f (match_ordering o (k ∷ x ∷ xs) (x ∷ xs) (x ∷ rest))) r
      → (Contains (map f rest) r → Contains (map f xs) r ⊎ (f k ≡ r)) → Contains (map f (x ∷ xs)) r ⊎ (f k ≡ r)
  only-at Less k x xs rest r c down = elim (either (f k) (map f (x ∷ xs)) r c) [ inl same ↦ inr same | inr behind ↦ inl behind ]
  only-at Equal k x xs rest r c down = inl c
  only-at Greater k x xs rest r c down =
      elim (either (f x) (map f rest) r c) [
        | inl same ↦ inl (here (f x) (map f xs) r same)
        | inr behind ↦ elim (down behind) [ inl old ↦ inl (there (f x) (map f xs) r old) | inr new ↦ inr new ]
      ]

  insert-only : (ks : List K) (k : K) (r : List ℕ) → Contains (map f (insert_key by_list ks k)) r → Contains (map f ks) r ⊎ (f k ≡ r)
  insert-only [] k r c = elim (either (f k) [] r c) [ inl same ↦ inr same | inr behind ↦ inl behind ]
  insert-only (x ∷ xs) k r c = only-at (by_list k x) k x xs (insert_key by_list xs k) r c (insert-only xs k r)

  rises : (x y : K) → by_list x y ≡ Less → (is_list_le (f x) (f y) ≡ true) × (f x ≢ f y)
  rises x y less =
      let back : slice_cmp nat_cmp (f y) (f x) ≡ Greater = nat_list_cmp_total.antisymm (f y) (f x) ∙ ap ordering_reverse less in (
        sym (is_list_le-cmp (f y) (f x) (slice_cmp nat_cmp (f y) (f x)) refl) ∙ ap (λ o. not (is_lt o)) back,
        λ same. let tied : slice_cmp nat_cmp (f x) (f y) ≡ Equal = subst (λ q. slice_cmp nat_cmp (f x) q ≡ Equal) same (tied_itself nat_list_cmp_total (f x)) in cc,
      )

  -- the lists of keys in order rise
  pub IsRising-keys : (ks : List K) → IsStrictlySortedBy by_list ks → IsRising (map f ks)
  unfolding IsStrictlySortedBy
  IsRising-keys [] sorted = tt
  IsRising-keys (x ∷ []) sorted = tt
  IsRising-keys (x ∷ (y ∷ ys)) sorted =
      let up = rises x y sorted.0.0 in
      (up.0, up.1, IsRising-keys (y ∷ ys) sorted.1)

  -- one key more, and one run more of a list
  pub insert-more : (ks new : List K) (k : K) (runs more : List (List ℕ)) (run : List ℕ) → new ≡ insert_key by_list ks k → more ≡ runs ++ run ∷ [] → f k ≡ run
      → ((r : List ℕ) → Contains (map f ks) r ↔ Contains runs r) → (r : List ℕ) → Contains (map f new) r ↔ Contains more r
  insert-more ks new k runs more run keys is same so_far r =
      let now = ap (map f) keys in (
        λ h. subst (λ l. Contains l r) (sym is) (elim (insert-only ks k r (subst (λ l. Contains l r) now h)) [
          | inl old ↦ Contains-append_left runs (run ∷ []) r ((so_far r).0 old)
          | inr new ↦ subst (Contains (runs ++ run ∷ [])) (sym same ∙ new) (Contains-push runs run)
        ]),
        λ h. subst (λ l. Contains l r) (sym now) (elim (Contains-push_cases runs run r (subst (λ l. Contains l r) is h)) [
          | inl old ↦ insert-keeps ks k r ((so_far r).1 old)
          | inr new ↦ subst (Contains (map f (insert_key by_list ks k))) (same ∙ new) (insert-has ks k)
        ]),
      )
