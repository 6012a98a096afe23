-- Runs without repeats.
use Rattle.std.proofs.Common.{◌≡◌, ℕ, ◌+◌, ◌<◌, ◌≤◌, take, get_or, refl, sym, ap, ◌∙◌, arith, inl, inr, cond, Bool, true, false, not, ◌||◌, ◌==◌, List, [], ◌∷◌, ◌++◌, length}
use Rattle.std.specs.Prelude.{filter}
use Rattle.std.specs.List.{list_any, list_all, IsDistinct, AllByRecursion}
use Rattle.std.specs.Cmp.Lexicographic.{pointwise, slice_cmp}
use Rattle.std.specs.Ordering.{nat_cmp, is_eq}
use Rattle.std.specs.declared.cmp.Ordering.{Ordering}
use Rattle.std.proofs.lemmas.Bool.{cases_Bool, cond-true, cond-false}
use Rattle.std.proofs.lemmas.Bool.Decides.{nat_tests}
use Rattle.std.proofs.lemmas.Cmp.{same_from_slice_cmp}
use Rattle.std.proofs.lemmas.List.{append-nil, take_more}
use Rattle.std.proofs.lemmas.List.Folds.{list_any_more}
use Rattle.std.proofs.lemmas.List.Elements.{filter-append}
use Rattle.decomposition.proofs.Root.{all-cons, all-parts}
use Rattle.subpath_rules.specs.Rules.{same_run, distinct_runs}

-- one list more: it is new, or it stands before
pub distinct_runs-push : (rs : List (List ℕ)) (r : List ℕ) → distinct_runs (rs ++ r ∷ []) ≡ cond (list_any (λ x. same_run x r) rs) (distinct_runs rs) (distinct_runs rs ++ r ∷ [])
distinct_runs-push [] r = refl
distinct_runs-push (x ∷ xs) r =
    let others : List (List ℕ) → List (List ℕ) = λ l. filter (λ s. not (same_run x s)) l in
    let before : distinct_runs (xs ++ r ∷ []) ≡ cond (list_any (λ y. same_run y r) xs) (distinct_runs xs) (distinct_runs xs ++ r ∷ []) = distinct_runs-push xs r in
    elim (cases_Bool (list_any (λ y. same_run y r) xs)) [
      | inl seen ↦
          let rest : distinct_runs (xs ++ r ∷ []) ≡ distinct_runs xs = rw seen at before in
          elim (cases_Bool (same_run x r)) [
            | inl same ↦ rw (seen, same) (ap (λ l. x ∷ others l) rest)
            | inr other ↦ rw (seen, other) (ap (λ l. x ∷ others l) rest)
          ]
      | inr new ↦
          let rest : distinct_runs (xs ++ r ∷ []) ≡ distinct_runs xs ++ r ∷ [] = rw new at before in
          let parts : others (distinct_runs (xs ++ r ∷ [])) ≡ others (distinct_runs xs) ++ others (r ∷ [])
          = ap others rest ∙ filter-append (λ s. not (same_run x s)) (distinct_runs xs) (r ∷ []) in
          elim (cases_Bool (same_run x r)) [
            | inl same ↦
                let none = rw same at parts in
                rw (new, same) (ap (λ l. x ∷ l) (none ∙ append-nil (others (distinct_runs xs))))
            | inr other ↦
                let one = rw other at parts in
                rw (new, other) (ap (λ l. x ∷ l) one)
          ]
    ]

pub all-filter : {X : Type 0} (test keep : X → Bool) (xs : List X) → list_all test xs ≡ true → list_all test (filter keep xs) ≡ true
all-filter test keep [] h = refl
all-filter test keep (x ∷ xs) h =
    let parts : (test x ≡ true) × (list_all test xs ≡ true) = all-parts test x xs h in
    elim (cases_Bool (keep x)) [
      | inl kept ↦ rw kept (all-cons test x (filter keep xs) parts.0 (all-filter test keep xs parts.1))
      | inr left ↦ rw left (all-filter test keep xs parts.1)
    ]

-- what all lists pass, those without repeats pass
pub all-distinct_runs : (test : List ℕ → Bool) (rs : List (List ℕ)) → list_all test rs ≡ true → list_all test (distinct_runs rs) ≡ true
all-distinct_runs test [] h = refl
all-distinct_runs test (r ∷ rs) h =
    let parts : (test r ≡ true) × (list_all test rs ≡ true) = all-parts test r rs h in
    all-cons test r (filter (λ s. not (same_run r s)) (distinct_runs rs)) parts.0 (all-filter test (λ s. not (same_run r s)) (distinct_runs rs) (all-distinct_runs test rs parts.1))

length-filter : {X : Type 0} (keep : X → Bool) (xs : List X) → length (filter keep xs) ≤ length xs
length-filter keep [] = omega arith
length-filter keep (x ∷ xs) =
    elim (cases_Bool (keep x)) [ inl kept ↦ rw kept (omega (arith, length-filter keep xs)) | inr left ↦ rw left (omega (arith, length-filter keep xs)) ]

pub length-distinct_runs : (rs : List (List ℕ)) → length (distinct_runs rs) ≤ length rs
length-distinct_runs [] = omega arith
length-distinct_runs (r ∷ rs) = omega (arith, length-filter (λ s. not (same_run r s)) (distinct_runs rs), length-distinct_runs rs)

-- what a filter keeps is apart as it was, and from what the filter takes out
apart-filter : (r : List ℕ) (keep : List ℕ → Bool) (rs : List (List ℕ)) → AllByRecursion (λ s. same_run r s ≡ false) rs → AllByRecursion (λ s. same_run r s ≡ false) (filter keep rs)
apart-filter r keep [] apart = tt
apart-filter r keep (s ∷ rs) apart =
    elim (cases_Bool (keep s)) [ inl kept ↦ rw kept (apart.0, apart-filter r keep rs apart.1) | inr left ↦ rw left (apart-filter r keep rs apart.1) ]

apart-others : (r : List ℕ) (rs : List (List ℕ)) → AllByRecursion (λ s. same_run r s ≡ false) (filter (λ s. not (same_run r s)) rs)
apart-others r [] = tt
apart-others r (s ∷ rs) =
    elim (cases_Bool (same_run r s)) [ inl same ↦ rw same (apart-others r rs) | inr other ↦ rw other (other, apart-others r rs) ]

IsDistinct-filter : (keep : List ℕ → Bool) (rs : List (List ℕ)) → IsDistinct same_run rs → IsDistinct same_run (filter keep rs)
unfolding IsDistinct
IsDistinct-filter keep [] distinct = tt
IsDistinct-filter keep (r ∷ rs) distinct =
    elim (cases_Bool (keep r)) [
      | inl kept ↦ rw kept (apart-filter r keep rs distinct.0, IsDistinct-filter keep rs distinct.1)
      | inr left ↦ rw left (IsDistinct-filter keep rs distinct.1)
    ]

-- no two of the lists without repeats are the same
pub IsDistinct-distinct_runs : (rs : List (List ℕ)) → IsDistinct (pointwise (λ d e. d == e)) (distinct_runs rs)
unfolding IsDistinct
IsDistinct-distinct_runs [] = tt
IsDistinct-distinct_runs (r ∷ rs) =
    (apart-others r (distinct_runs rs), IsDistinct-filter (λ s. not (same_run r s)) (distinct_runs rs) (IsDistinct-distinct_runs rs))

-- two lists compare as equal where they have the same entries
same_run-cmp : (r s : List ℕ) (o : Ordering) → o ≡ slice_cmp nat_cmp r s → is_eq o ≡ same_run r s
same_run-cmp = same_from_slice_cmp nat_cmp is_eq same_run refl (λ _ _. refl) (λ _ _. refl) (λ x y xs ys o h. grind (arith, nat_tests))

either : (a b : Bool) → cond a true b ≡ (b || a)
either true true = refl
either true false = refl
either false true = refl
either false false = refl

-- a list is among the first i + 1 lists where it is the next one, or among the first i
pub seen-more : (rs : List (List ℕ)) (i : ℕ) → i < length rs → (run q : List ℕ) → run ≡ get_or rs i []
    → cond (is_eq (slice_cmp nat_cmp run q)) true (list_any (λ r. same_run r q) (take i rs)) ≡ list_any (λ r. same_run r q) (take (i + 1) rs)
seen-more rs i there run q is =
    ap (λ b. cond b true (list_any (λ r. same_run r q) (take i rs))) (same_run-cmp run q (slice_cmp nat_cmp run q) refl)
    ∙ either (same_run run q) (list_any (λ r. same_run r q) (take i rs))
    ∙ ap (λ r. list_any (λ r. same_run r q) (take i rs) || same_run r q) is
    ∙ sym (list_any_more (λ r. same_run r q) rs i [] there)

once-more : (rs : List (List ℕ)) (i : ℕ) → i < length rs → (run : List ℕ) → run ≡ get_or rs i []
    → distinct_runs (take (i + 1) rs) ≡ cond (list_any (λ x. same_run x run) (take i rs)) (distinct_runs (take i rs)) (distinct_runs (take i rs) ++ run ∷ [])
once-more rs i there run is =
    ap distinct_runs (take_more rs i [] there)
    ∙ ap (λ r. distinct_runs (take i rs ++ r ∷ [])) (sym is)
    ∙ distinct_runs-push (take i rs) run

-- the next list is new, or it stands before
pub once-new : (rs : List (List ℕ)) (i : ℕ) → i < length rs → (run : List ℕ) → run ≡ get_or rs i [] → list_any (λ x. same_run x run) (take i rs) ≡ false
    → distinct_runs (take (i + 1) rs) ≡ distinct_runs (take i rs) ++ run ∷ []
once-new rs i there run is new = once-more rs i there run is ∙ cond-false (list_any (λ x. same_run x run) (take i rs)) (distinct_runs (take i rs)) (distinct_runs (take i rs) ++ run ∷ []) new

pub once-seen : (rs : List (List ℕ)) (i : ℕ) → i < length rs → (run : List ℕ) → run ≡ get_or rs i [] → list_any (λ x. same_run x run) (take i rs) ≡ true
    → distinct_runs (take (i + 1) rs) ≡ distinct_runs (take i rs)
once-seen rs i there run is seen = once-more rs i there run is ∙ cond-true (list_any (λ x. same_run x run) (take i rs)) (distinct_runs (take i rs)) (distinct_runs (take i rs) ++ run ∷ []) seen
