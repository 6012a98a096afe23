-- Equal paths made one.
use Rattle.std.proofs.Common.{◌≡◌, ℕ, suc, ◌+◌, ◌<◌, ◌≤◌, ◌++◌, ◌∷◌, [], List, cond, nat_lt, length, get_or, slice_set, refl, sym, ap, ◌∙◌, inl, inr, arith, Bool, lt-ltb, ◌||◌}
use Rattle.std.specs.Prelude.{All, ◌==◌}
use Rattle.std.specs.List.{IsDistinct, list_any}
use Rattle.std.specs.List.Sorted.{IsPermutation}
use Rattle.std.specs.Cmp.Lexicographic.{pointwise}
use Rattle.std.proofs.lemmas.Bool.{cases_Bool, cond-true, cond-false}
use Rattle.std.proofs.lemmas.Cmp.{nat_list_eq_equiv}
use Rattle.std.proofs.lemmas.List.Elements.{All-set, All-push, All-contains, Contains-append_left, Contains-append_right, Contains-get_or}
use Rattle.std.proofs.lemmas.List.Sorted.{sum_by-IsPermutation, All-permutation}
use Rattle.std.proofs.lemmas.List.Sums.{sum_by-set, sum_by_push, sum_by-cons}
use Rattle.std.proofs.lemmas.Map.Keys.{IsDistinct-IsPermutation}
use Rattle.decomposition.specs.Graph.{has_edge}
use Rattle.decomposition.specs.Answer.{weight_on}
use Rattle.decomposition.specs.Answer.{IsMerged}
use Rattle.decomposition.proofs.Members.{any-here}
use Rattle.decomposition.proofs.Open.{all-from_places}
use Rattle.dag_net.proofs.Lists.{Contains-head}
use Rattle.decomposition.specs.Answer.{HaveSamePaths}
use Rattle.dag_net.specs.Merge.{weight_where, AddsWeight, Merges}
use Rattle.decomposition.specs.Answer.{same_path}
use Rattle.decomposition.proofs.Merging.{weight_on-where, weight_of-where}

module _ (entries : List (List ℕ × ℕ)) (path : List ℕ) (weight : ℕ) where
  -- more weight in an entry of the path
  pub AddsWeight-set : (i : ℕ) (x : List ℕ × ℕ) → i < length entries → x ≡ get_or entries i x → x.0 ≡ path → AddsWeight entries (slice_set entries i (x.0, x.1 + weight)) path weight
  AddsWeight-set i x there read same = record {
    sums = λ test.
        let set = sum_by-set (λ (entry : List ℕ × ℕ). cond (test entry.0) entry.1 0) entries i (x.0, x.1 + weight) x there in
        let here : cond (test (get_or entries i x).0) (get_or entries i x).1 0 ≡ cond (test x.0) x.1 0 = ap (λ (entry : List ℕ × ℕ). cond (test entry.0) entry.1 0) (sym read) in
        let on_path : test path ≡ test x.0 = ap test (sym same) in
        elim (cases_Bool (test x.0)) [
          | inl hit ↦ omega (arith, set, here, cond-true (test x.0) x.1 0 hit, cond-true (test x.0) (x.1 + weight) 0 hit, cond-true (test path) weight 0 (on_path ∙ hit))
          | inr free ↦ omega (arith, set, here, cond-false (test x.0) x.1 0 free, cond-false (test x.0) (x.1 + weight) 0 free, cond-false (test path) weight 0 (on_path ∙ free))
        ];
    total_more = omega (arith, sum_by-set (λ (entry : List ℕ × ℕ). entry.1) entries i (x.0, x.1 + weight) x there, ap (λ (entry : List ℕ × ℕ). entry.1) read);
    positive = λ w h. All-set (λ entry. 1 ≤ entry.1) entries i (x.0, x.1 + weight) (omega arith) h;
  }

  -- a new entry for the path
  pub AddsWeight-push : AddsWeight entries (entries ++ (path, weight) ∷ []) path weight
  AddsWeight-push = record {
    sums = λ test. sum_by_push (λ (entry : List ℕ × ℕ). cond (test entry.0) entry.1 0) entries (path, weight);
    total_more = sum_by_push (λ (entry : List ℕ × ℕ). entry.1) entries (path, weight);
    positive = λ w h. All-push (λ entry. 1 ≤ entry.1) entries (path, weight) h w;
  }

-- the same entries in another order
pub Merges-permuted : (old new moved : List (List ℕ × ℕ)) → Merges old new → IsPermutation new moved → Merges old moved
Merges-permuted old new moved m p = record {
  sums = λ test. sum_by-IsPermutation (λ entry. cond (test entry.0) entry.1 0) new moved p ∙ m.sums test;
  total_kept = sum_by-IsPermutation (λ entry. entry.1) new moved p ∙ m.total_kept;
  once = IsDistinct-IsPermutation same_path (λ x y. nat_list_eq_equiv.symm x.0 y.0) new moved p m.once;
  positive = λ h. All-permutation (λ entry. 1 ≤ entry.1) new moved p (m.positive h);
}

-- what is merged from entries in another order
pub Merges-of_permuted : (old moved new : List (List ℕ × ℕ)) → IsPermutation old moved → Merges moved new → Merges old new
Merges-of_permuted old moved new p m = record {
  sums = λ test. m.sums test ∙ sum_by-IsPermutation (λ entry. cond (test entry.0) entry.1 0) old moved p;
  total_kept = m.total_kept ∙ sum_by-IsPermutation (λ entry. entry.1) old moved p;
  once = m.once;
  positive = λ h. m.positive (All-permutation (λ entry. 1 ≤ entry.1) old moved p h);
}

-- what is merged adds up to what was merged and the entry
pub Merges-more : (old merged new : List (List ℕ × ℕ)) (path : List ℕ) (weight : ℕ) → Merges old merged → AddsWeight merged new path weight → IsDistinct same_path new → Merges (old ++ (path, weight) ∷ []) new
Merges-more old merged new path weight m a once = record {
  sums = λ test. omega (arith, a.sums test, m.sums test, sum_by_push (λ (entry : List ℕ × ℕ). cond (test entry.0) entry.1 0) old (path, weight));
  total_kept = omega (arith, a.total_more, m.total_kept, sum_by_push (λ (entry : List ℕ × ℕ). entry.1) old (path, weight));
  once = once;
  positive = λ h.
      a.positive
      (All-contains (λ entry. 1 ≤ entry.1) (old ++ (path, weight) ∷ []) (path, weight) h (Contains-append_right old ((path, weight) ∷ []) (path, weight) (Contains-head (path, weight) [])))
      (m.positive (λ k d there. All-contains (λ entry. 1 ≤ entry.1) (old ++ (path, weight) ∷ []) (get_or old k d) h (Contains-append_left old ((path, weight) ∷ []) (get_or old k d) (Contains-get_or old k d there))));
}

pub Merges-none : Merges [] []
unfolding IsDistinct
Merges-none = record { sums = λ test. refl; total_kept = refl; once = tt; positive = λ h. h }

-- the same in the words of answers
pub IsMerged-from_Merges : (old new : List (List ℕ × ℕ)) → Merges old new → All (λ entry. 1 ≤ entry.1) new → IsMerged old new
IsMerged-from_Merges old new m positive = record {
  once = m.once;
  positive = all-from_places (λ a. nat_lt 0 a.1) new ([], 0) (λ k h. lt-ltb _ _ (positive k ([], 0) h));
  same = λ p. weight_of-where new p ∙ m.sums (λ q. pointwise (λ d e. d == e) q p) ∙ sym (weight_of-where old p);
}

pub weight_on-Merges : (old new : List (List ℕ × ℕ)) → Merges old new → (e : ℕ) → weight_on new e ≡ weight_on old e
weight_on-Merges old new m e = weight_on-where new e ∙ m.sums (λ p. has_edge p e) ∙ sym (weight_on-where old e)

-- some path passes exactly where the weight of those that pass is above 0
any-weight : (test : List ℕ → Bool) (xs : List (List ℕ × ℕ)) → All (λ entry. 1 ≤ entry.1) xs → list_any (λ entry. test entry.0) xs ≡ nat_lt 0 (weight_where test xs)
any-weight test [] h = refl
any-weight test (x ∷ xs) h =
    let more = sum_by-cons (λ (entry : List ℕ × ℕ). cond (test entry.0) entry.1 0) x xs in
    let heavy : 1 ≤ x.1 = h 0 x (omega arith) in
    elim (cases_Bool (test x.0)) [
      | inl hit ↦
          let weighs : 0 < weight_where test (x ∷ xs) = omega (arith, more, cond-true (test x.0) x.1 0 hit) in
          any-here (λ (entry : List ℕ × ℕ). test entry.0) x xs hit ∙ sym (lt-ltb 0 (weight_where test (x ∷ xs)) weighs)
      | inr free ↦
          let same : weight_where test (x ∷ xs) ≡ weight_where test xs = omega (arith, more, cond-false (test x.0) x.1 0 free) in
          ap (λ b. b || list_any (λ (entry : List ℕ × ℕ). test entry.0) xs) free
          ∙ any-weight test xs (λ k d there. h (suc k) d (omega arith)) ∙ ap (nat_lt 0) (sym same)
    ]

pub HaveSamePaths-Merges : (old new : List (List ℕ × ℕ)) → Merges old new → All (λ entry. 1 ≤ entry.1) old → HaveSamePaths old new
HaveSamePaths-Merges old new m positive test =
    any-weight test new (m.positive positive) ∙ ap (nat_lt 0) (m.sums test) ∙ sym (any-weight test old positive)
