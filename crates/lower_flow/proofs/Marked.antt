-- The list of the marked vertices, one after the other.
use Rattle.std.proofs.Common.{◌≡◌, ℕ, ◌+◌, ◌<◌, Bool, true, false, ◌&&◌, ◌==◌, nat_lt, List, [], ◌∷◌, ◌++◌, refl, subst, arith, inl, inr, ltb-true, lt-ltb, eq-eqb}
use Rattle.std.specs.List.{list_all}
use Rattle.std.proofs.lemmas.Bool.{cases_eq, both_ways, and_parts, and_from}
use Rattle.decomposition.specs.Answer.{is_ordered}
use Rattle.decomposition.proofs.FewPaths.{all-append}
use Rattle.decomposition.proofs.Members.{any-here, any-append_left, any-append_right}
use Rattle.decomposition.proofs.Root.{all-cons, all-parts}
use Rattle.dag_net.specs.Marks.{is_set}
use Rattle.lower_flow.specs.Clearing.{AreMarked}

-- the list stays as it is at a vertex that is not marked, and has one that is marked at its end
module _ (marked : List Bool) (n : ℕ) (xs : List ℕ) (those : AreMarked marked n xs) where
  wider : (ys : List ℕ) → list_all (λ v. nat_lt v n && is_set marked v) ys ≡ true → list_all (λ v. nat_lt v (n + 1) && is_set marked v) ys ≡ true
  wider [] listed = refl
  wider (y ∷ ys) listed =
      let parts = all-parts (λ v. nat_lt v n && is_set marked v) y ys listed in
      let here = and_parts (nat_lt y n) (is_set marked y) parts.0 in
      let lt : y < n = ltb-true y n here.0 in
      all-cons (λ v. nat_lt v (n + 1) && is_set marked v) y ys (and_from (nat_lt y (n + 1)) (is_set marked y) (lt-ltb y (n + 1) (omega arith)) here.1) (wider ys parts.1)

  pub AreMarked-other : is_set marked n ≡ false → AreMarked marked (n + 1) xs
  AreMarked-other free = record {
    listed = wider xs those.listed;
    all = λ v h hit. elim (cases_eq v n) [ inl same ↦ absurd (both_ways _ free (subst (λ u. is_set marked u ≡ true) same hit)) | inr other ↦ those.all v (omega arith) hit ];
    rising = those.rising;
  }

  longer : (ys : List ℕ) → list_all (λ v. nat_lt v n && is_set marked v) ys ≡ true → is_ordered nat_lt ys ≡ true → is_ordered nat_lt (ys ++ n ∷ []) ≡ true
  longer [] listed rising = refl
  longer (y ∷ []) listed rising = let parts = all-parts (λ v. nat_lt v n && is_set marked v) y [] listed in and_from (nat_lt y n) true (and_parts (nat_lt y n) (is_set marked y) parts.0).0 refl
  longer (y ∷ z ∷ ys) listed rising =
      let parts = all-parts (λ v. nat_lt v n && is_set marked v) y (z ∷ ys) listed in
      let both = and_parts (nat_lt y z) (is_ordered nat_lt (z ∷ ys)) rising in
      and_from (nat_lt y z) (is_ordered nat_lt (z ∷ (ys ++ n ∷ []))) both.0 (longer (z ∷ ys) parts.1 both.1)

  pub AreMarked-more : is_set marked n ≡ true → AreMarked marked (n + 1) (xs ++ n ∷ [])
  AreMarked-more hit = record {
    listed = all-append (λ v. nat_lt v (n + 1) && is_set marked v) xs (n ∷ []) (wider xs those.listed)
        (all-cons (λ v. nat_lt v (n + 1) && is_set marked v) n [] (and_from (nat_lt n (n + 1)) (is_set marked n) (lt-ltb n (n + 1) (omega arith)) hit) refl);
    all = λ v h is. elim (cases_eq v n) [
      | inl same ↦ any-append_right (λ w. v == w) xs (n ∷ []) (any-here (λ w. v == w) n [] (eq-eqb v n same))
      | inr other ↦ any-append_left (λ w. v == w) xs (n ∷ []) (those.all v (omega arith) is)
    ];
    rising = longer xs those.listed those.rising;
  }
