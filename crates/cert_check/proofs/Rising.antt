-- Rising lists with the same runs are one list.
use Rattle.std.proofs.Common.{◌≡◌, ◌≢◌, ◌⊎◌, ℕ, zero, suc, List, [], ◌∷◌, Bool, true, Option, Some, IsTrue, refl, sym, ◌∙◌, subst, arith, inl, inr}
use Rattle.std.specs.Prelude.{Contains, ◌↔◌}
use Rattle.std.specs.Cmp.Lexicographic.{slice_cmp}
use Rattle.std.specs.Ordering.{nat_cmp, is_lt}
use Rattle.std.specs.declared.cmp.Ordering.{Ordering}
use Rattle.std.specs.declared.cmp.Ordering.TheVariants.{Less, Equal, Greater}
use Rattle.std.proofs.lemmas.Bool.Decides.{nat_tests}
use Rattle.std.proofs.lemmas.Cmp.{same_from_slice_cmp, nat_list_cmp_total, tied_itself}
use Rattle.decomposition.specs.Graph.{is_list_le, is_list_before, IsRising}
use Rattle.decomposition.specs.declared.Mode.{Mode}
use Rattle.decomposition.specs.declared.Mode.TheVariants.{Exact}
use Rattle.decomposition.specs.Instance.{Instance}
use Rattle.decomposition.specs.SafeRuns.{IsSafe, AreMaximal}
use Rattle.decomposition.proofs.ReportOrder.{is_list_before-from_le}
use Rattle.cert_check.specs.Accepted.{SafeFits}

abbrev Before : List ℕ → List ℕ → Type 0
Before p q = slice_cmp nat_cmp p q ≡ Less

is_lt-cmp : (p q : List ℕ) (o : Ordering) → o ≡ slice_cmp nat_cmp p q → is_lt o ≡ is_list_before p q
is_lt-cmp = same_from_slice_cmp nat_cmp is_lt (λ p q. is_list_before p q) refl (λ _ _. refl) (λ _ _. refl) (λ x y xs ys o h. grind (arith, nat_tests))

less_is : (o : Ordering) → is_lt o ≡ true → o ≡ Less
less_is Less h = refl
less_is Equal h = cc
less_is Greater h = cc

before_from : (p q : List ℕ) → is_list_le p q ≡ true → p ≢ q → Before p q
before_from p q le apart = less_is (slice_cmp nat_cmp p q) (is_lt-cmp p q (slice_cmp nat_cmp p q) refl ∙ is_list_before-from_le p q le apart)

not_before_itself : (p : List ℕ) → Before p p → ⊥
not_before_itself p before = let tied : slice_cmp nat_cmp p p ≡ Equal = tied_itself nat_list_cmp_total p in cc

either : (p : List ℕ) (ps : List (List ℕ)) (r : List ℕ) → Contains (p ∷ ps) r → (p ≡ r) ⊎ Contains ps r
either p ps r (zero, inside, is) = inl is
either p ps r (suc k, inside, is) = inr (k, omega arith, is)

there : (p : List ℕ) (ps : List (List ℕ)) (r : List ℕ) → Contains ps r → Contains (p ∷ ps) r
there p ps r (k, inside, is) = (suc k, omega arith, is)

none : (r : List ℕ) → Contains [] r → ⊥
none r (k, inside, is) = absurd (omega arith)

tail_rises : (p : List ℕ) (ps : List (List ℕ)) → IsRising (p ∷ ps) → IsRising ps
tail_rises p [] rising = tt
tail_rises p (q ∷ ps) rising = rising.2

-- the first run comes before the others
first_before : (p : List ℕ) (ps : List (List ℕ)) (r : List ℕ) → IsRising (p ∷ ps) → Contains ps r → Before p r
first_before p [] r rising has = absurd (none r has)
first_before p (q ∷ ps) r rising has =
    let next : Before p q = before_from p q rising.0 rising.1 in
    elim (either q ps r has) [
      | inl is ↦ subst (Before p) is next
      | inr behind ↦ nat_list_cmp_total.trans p q r next (first_before q ps r rising.2 behind)
    ]

-- a run behind the first of a rising list stands behind the first of another with the same runs
behind : (p : List ℕ) (ps : List (List ℕ)) (q : List ℕ) (qs : List (List ℕ)) (r : List ℕ) → IsRising (p ∷ ps) → p ≡ q → Contains (q ∷ qs) r → Contains ps r → Contains qs r
behind p ps q qs r rising same now has =
    elim (either q qs r now) [
      | inl is ↦ absurd (not_before_itself p (subst (Before p) (sym (same ∙ is)) (first_before p ps r rising has)))
      | inr there ↦ there
    ]

same_first : (p : List ℕ) (ps : List (List ℕ)) (q : List ℕ) (qs : List (List ℕ)) → IsRising (p ∷ ps) → IsRising (q ∷ qs) → Contains (q ∷ qs) p → Contains (p ∷ ps) q → p ≡ q
same_first p ps q qs up down has had =
    elim (either q qs p has) [
      | inl is ↦ sym is
      | inr later ↦ elim (either p ps q had) [
        | inl is ↦ is
        | inr sooner ↦ absurd (not_before_itself p (nat_list_cmp_total.trans p q p (first_before p ps q up sooner) (first_before q qs p down later)))
      ]
    ]

same_lists : (ps qs : List (List ℕ)) → IsRising ps → IsRising qs → ((r : List ℕ) → Contains ps r → Contains qs r) → ((r : List ℕ) → Contains qs r → Contains ps r) → ps ≡ qs
same_lists [] [] up down to from = refl
same_lists [] (q ∷ qs) up down to from = absurd (none q (from q (zero, omega arith, refl)))
same_lists (p ∷ ps) [] up down to from = absurd (none p (to p (zero, omega arith, refl)))
same_lists (p ∷ ps) (q ∷ qs) up down to from =
    let first : p ≡ q = same_first p ps q qs up down (to p (zero, omega arith, refl)) (from q (zero, omega arith, refl)) in
    let rest : ps ≡ qs = same_lists ps qs (tail_rises p ps up) (tail_rises q qs down)
    (λ r has. behind p ps q qs r up first (to r (there p ps r has)) has)
    (λ r has. behind q qs p ps r down (sym first) (from r (there q qs r has)) has) in
    cc

-- a property has one list of maximal runs
maximal_is : (P : List ℕ → Type 0) (runs others : List (List ℕ)) → AreMaximal P runs → AreMaximal P others → runs ≡ others
maximal_is P runs others m n = same_lists runs others m.rising n.rising (λ r has. n.all r (m.each r has)) (λ r has. m.all r (n.each r has))

-- runs that are the maximal ones of a list
pub listed_tells : (mode : Mode) (i : Instance) (safe : Option (List (List ℕ))) (runs maximal : List (List ℕ)) (same : Bool) → safe ≡ Some runs → mode ≡ Exact → AreMaximal (IsSafe i) maximal
    → IsTrue same ↔ (runs ≡ maximal) → IsTrue same ↔ SafeFits mode i safe
listed_tells mode i safe runs maximal same there exact found says = (
  λ same. subst (SafeFits mode i) (sym there) (exact, subst (AreMaximal (IsSafe i)) (sym (says.0 same)) found),
  λ fit.
      let listed : SafeFits mode i (Some runs) = subst (SafeFits mode i) there fit in
      says.1 (maximal_is (IsSafe i) runs maximal listed.1 found),
)
