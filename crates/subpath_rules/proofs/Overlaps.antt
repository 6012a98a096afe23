-- Lists that are equal as far as both go, and lists that begin with or contain others.
use Rattle.std.proofs.Common.{◌⊎◌, ◌≡◌, ℕ, zero, suc, min, refl, sym, ap, arith, inl, inr, true, ◌&&◌, ◌==◌, nat_eq, List, [], ◌∷◌, ◌++◌, length, take, true≢false, eqb-true, eq-eqb}
use Rattle.std.specs.Cmp.Lexicographic.{pointwise}
use Rattle.std.proofs.lemmas.Bool.{and_parts, and_from, or_cases, or_left, or_right}
use Rattle.decomposition.specs.Graph.{begins_with, contains_run}
use Rattle.decomposition.proofs.Extremes.{contains_run-begins}
use Rattle.subpath_rules.specs.Follows.{agree, Overlaps}

-- two beginnings of one list are equal as far as both go
pub agree-from_append : (xs ys us vs : List ℕ) → xs ++ ys ≡ us ++ vs → agree xs us ≡ true
agree-from_append [] ys us vs same = refl
agree-from_append (x ∷ xs) ys [] vs same = refl
agree-from_append (x ∷ xs) ys (u ∷ us) vs same =
    let heads : x ≡ u = cc in
    let tails : xs ++ ys ≡ us ++ vs = cc in
    and_from (x == u) (agree xs us) (eq-eqb x u heads) (agree-from_append xs ys us vs tails)

-- of two lists that are equal as far as both go, one begins with the other
pub agree-cases : (xs us : List ℕ) → agree xs us ≡ true → ((ys : List ℕ) × (xs ≡ us ++ ys)) ⊎ ((vs : List ℕ) × (us ≡ xs ++ vs))
agree-cases [] us h = inr (us, refl)
agree-cases (x ∷ xs) [] h = inl (x ∷ xs, refl)
agree-cases (x ∷ xs) (u ∷ us) h =
    let parts : ((x == u) ≡ true) × (agree xs us ≡ true) = and_parts (x == u) (agree xs us) h in
    let heads : x ≡ u = eqb-true x u parts.0 in
    elim (agree-cases xs us parts.1) [
      | inl more ↦
          let whole : x ∷ xs ≡ u ∷ (us ++ more.0) = let tails = more.1 in cc in
          inl (more.0, whole)
      | inr more ↦
          let whole : u ∷ us ≡ x ∷ (xs ++ more.0) = let tails = more.1 in cc in
          inr (more.0, whole)
    ]

-- a run that stands in a list begins within the first part of the list, or behind it
pub cut : (walk rest before run after : List ℕ) → walk ++ rest ≡ before ++ (run ++ after) → Overlaps walk run ⊎ ((zs : List ℕ) × (before ≡ walk ++ zs))
cut [] rest before run after same = inr (before, refl)
cut (w ∷ ws) rest [] run after same = inl (0, omega arith, agree-from_append (w ∷ ws) rest run after same)
cut (w ∷ ws) rest (x ∷ before) run after same =
    let heads : w ≡ x = cc in
    let tails : ws ++ rest ≡ before ++ (run ++ after) = cc in
    elim (cut ws rest before run after tails) [
      | inl within ↦ inl (suc within.0, omega (arith, within.1), within.2)
      | inr beyond ↦
          let whole : x ∷ before ≡ w ∷ (ws ++ beyond.0) = let rest_is = beyond.1 in cc in
          inr (beyond.0, whole)
    ]

-- of two beginnings of one list, one begins with the other
pub either_first : (a b c d : List ℕ) → a ++ b ≡ c ++ d → ((z : List ℕ) × (c ≡ a ++ z) × (b ≡ z ++ d)) ⊎ ((z : List ℕ) × (a ≡ c ++ z) × (d ≡ z ++ b))
either_first [] b c d same = inl (c, refl, same)
either_first (x ∷ a) b [] d same = inr (x ∷ a, refl, sym same)
either_first (x ∷ a) b (y ∷ c) d same =
    let heads : x ≡ y = cc in
    let tails : a ++ b ≡ c ++ d = cc in
    elim (either_first a b c d tails) [
      | inl more ↦
          let whole : y ∷ c ≡ x ∷ (a ++ more.0) = let is = more.1 in cc in
          inl (more.0, whole, more.2)
      | inr more ↦
          let whole : x ∷ a ≡ y ∷ (c ++ more.0) = let is = more.1 in cc in
          inr (more.0, whole, more.2)
    ]

pub begins_with-self : (xs : List ℕ) → begins_with xs xs ≡ true
begins_with-self [] = refl
begins_with-self (x ∷ xs) = and_from (x == x) (begins_with xs xs) (eq-eqb x x refl) (begins_with-self xs)

-- a longer list begins with the same, and contains the same runs
pub begins_with-longer : (xs ys fs : List ℕ) → begins_with xs fs ≡ true → begins_with (xs ++ ys) fs ≡ true
begins_with-longer xs ys [] h = refl
begins_with-longer [] ys (f ∷ fs) h = absurd (true≢false (sym h))
begins_with-longer (x ∷ xs) ys (f ∷ fs) h =
    let parts : ((x == f) ≡ true) × (begins_with xs fs ≡ true) = and_parts (x == f) (begins_with xs fs) h in
    and_from (x == f) (begins_with (xs ++ ys) fs) parts.0 (begins_with-longer xs ys fs parts.1)

pub contains_run-longer : (xs ys : List ℕ) (f : ℕ) (fs : List ℕ) → contains_run xs (f ∷ fs) ≡ true → contains_run (xs ++ ys) (f ∷ fs) ≡ true
contains_run-longer [] ys f fs h = absurd (true≢false (sym h))
contains_run-longer (x ∷ xs) ys f fs h =
    elim (or_cases (begins_with (x ∷ xs) (f ∷ fs)) (contains_run xs (f ∷ fs)) h) [
      | inl here ↦ or_left (begins_with (x ∷ (xs ++ ys)) (f ∷ fs)) (contains_run (xs ++ ys) (f ∷ fs)) (begins_with-longer (x ∷ xs) ys (f ∷ fs) here)
      | inr there ↦ or_right (begins_with (x ∷ (xs ++ ys)) (f ∷ fs)) (contains_run (xs ++ ys) (f ∷ fs)) (contains_run-longer xs ys f fs there)
    ]

pub contains_run-later : (xs ys fs : List ℕ) → contains_run ys fs ≡ true → contains_run (xs ++ ys) fs ≡ true
contains_run-later [] ys fs h = h
contains_run-later (x ∷ xs) ys fs h = or_right (begins_with (x ∷ (xs ++ ys)) fs) (contains_run (xs ++ ys) fs) (contains_run-later xs ys fs h)

pub contains_run-self : (fs : List ℕ) → contains_run fs fs ≡ true
contains_run-self fs = contains_run-begins fs fs (begins_with-self fs)

-- the comparison of the parts that both have
pub agree-pointwise : (xs ys : List ℕ) (n : ℕ) → n ≡ min (length xs) (length ys) → pointwise nat_eq (take n xs) (take n ys) ≡ agree xs ys
agree-pointwise [] ys zero count = refl
agree-pointwise [] ys (suc n) count = absurd (omega arith)
agree-pointwise (x ∷ xs) [] zero count = refl
agree-pointwise (x ∷ xs) [] (suc n) count = absurd (omega arith)
agree-pointwise (x ∷ xs) (y ∷ ys) zero count = absurd (omega arith)
agree-pointwise (x ∷ xs) (y ∷ ys) (suc n) count = ap (λ b. (x == y) && b) (agree-pointwise xs ys n (omega arith))
