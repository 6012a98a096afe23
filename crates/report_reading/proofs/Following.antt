-- The last entry of a list, and the orders of a report.
use Rattle.std.proofs.Common.{◌≡◌, ℕ, suc, ◌-◌, ◌<◌, Bool, true, ◌||◌, ◌&&◌, nat_lt, List, [], ◌∷◌, ◌++◌, length, get_or, refl, sym, ap, ◌∙◌, arith}
use Rattle.std.specs.Prelude.{Some, ◌==◌}
use Rattle.std.specs.Ordering.{nat_cmp, is_lt, ordering_then}
use Rattle.std.specs.Cmp.Lexicographic.{slice_cmp}
use Rattle.std.specs.declared.cmp.Ordering.{Ordering}
use Rattle.std.specs.declared.cmp.Ordering.TheVariants.{Less, Equal, Greater}
use Rattle.std.proofs.lemmas.Bool.{and_from, and_parts, lt-ltb, le-ltb, eq-eqb, ne_eqb}
use Rattle.std.proofs.lemmas.Cmp.{ranked}
use Rattle.decomposition.specs.Graph.{is_list_before}
use Rattle.decomposition.specs.Answer.{is_ordered}
use Rattle.report_reading.specs.ListSteps.{last_of, may_follow}

pub last_of-place : {X : Type 0} (xs : List X) (d : X) → 0 < length xs → last_of xs ≡ Some (get_or xs (length xs - 1) d)
last_of-place [] d some = absurd (omega (arith, some))
last_of-place (x ∷ []) d some = refl
last_of-place (x ∷ y ∷ xs) d some =
    let e : length (x ∷ y ∷ xs) - 1 ≡ suc (length (y ∷ xs) - 1) = omega arith in
    last_of-place (y ∷ xs) d (omega arith) ∙ ap (λ k. Some (get_or (x ∷ y ∷ xs) k d)) (sym e)

-- an ordered list with one more that may follow is ordered
pub is_ordered-push : {X : Type 0} (before : X → X → Bool) (xs : List X) (x : X) → is_ordered before xs ≡ true →
    may_follow before (last_of xs) x ≡ true → is_ordered before (xs ++ x ∷ []) ≡ true
is_ordered-push before [] x ordered follows = refl
is_ordered-push before (y ∷ []) x ordered follows = and_from (before y x) true follows refl
is_ordered-push before (y ∷ z ∷ xs) x ordered follows =
    let parts = and_parts (before y z) (is_ordered before (z ∷ xs)) ordered in
    and_from (before y z) (is_ordered before (z ∷ (xs ++ x ∷ []))) parts.0 (is_ordered-push before (z ∷ xs) x parts.1 follows)

-- the last entry, by its place
pub may_follow-last : {X : Type 0} (before : X → X → Bool) (xs : List X) (d x : X) → 0 < length xs →
    before (get_or xs (length xs - 1) d) x ≡ may_follow before (last_of xs) x
may_follow-last before xs d x some = ap (λ o. may_follow before o x) (sym (last_of-place xs d some))

-- by the order of the first entries
by_first : (e f : ℕ) (p q : List ℕ) (o : Ordering) → o ≡ nat_cmp e f → is_lt (slice_cmp nat_cmp p q) ≡ is_list_before p q →
    is_lt (ordering_then o (slice_cmp nat_cmp p q)) ≡ (nat_lt e f || ((e == f) && is_list_before p q))
by_first e f p q Less is rest = sym (ap (λ b. b || ((e == f) && is_list_before p q)) (lt-ltb e f (ranked e f Less is)))
by_first e f p q Equal is rest =
    rest
    ∙ sym (ap (λ b. b || ((e == f) && is_list_before p q)) (le-ltb e f (omega (arith, ranked e f Equal is)))
    ∙ ap (λ b. b && is_list_before p q) (eq-eqb e f (ranked e f Equal is)))
by_first e f p q Greater is rest =
    sym (ap (λ b. b || ((e == f) && is_list_before p q)) (le-ltb e f (omega (arith, ranked e f Greater is)))
    ∙ ap (λ b. b && is_list_before p q) (ne_eqb e f (λ same. omega (arith, same, ranked e f Greater is))))

-- the order of edge lists is that of slices
pub is_list_before-cmp : (p q : List ℕ) → is_lt (slice_cmp nat_cmp p q) ≡ is_list_before p q
is_list_before-cmp [] [] = refl
is_list_before-cmp [] (f ∷ q) = refl
is_list_before-cmp (e ∷ p) [] = refl
is_list_before-cmp (e ∷ p) (f ∷ q) = by_first e f p q (nat_cmp e f) refl (is_list_before-cmp p q)
