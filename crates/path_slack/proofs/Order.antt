-- The order of entries in a report.
use Rattle.std.proofs.Common.{◌≡◌, ◌≢◌, ◌==◌, ℕ, List, Bool, ◌&&◌, ◌||◌, nat_lt, refl, arith}
use Rattle.std.specs.Ordering.{nat_cmp, is_lt}
use Rattle.std.specs.Cmp.Lexicographic.{slice_cmp}
use Rattle.std.specs.declared.cmp.Ordering.{Ordering}
use Rattle.std.proofs.lemmas.Bool.Decides.{nat_tests}
use Rattle.std.proofs.lemmas.Cmp.{same_from_slice_cmp}
use Rattle.decomposition.specs.Graph.{is_list_before}

-- an edge list that is less than another stands before it
pub is_list_before-cmp : (p q : List ℕ) (o : Ordering) → o ≡ slice_cmp nat_cmp p q → is_lt o ≡ is_list_before p q
is_list_before-cmp =
    same_from_slice_cmp nat_cmp is_lt (λ p q. is_list_before p q) refl (λ _ _. refl) (λ _ _. refl)
    (λ x y xs ys o h. grind (arith, nat_tests))

-- the comparison of weights alone decides where they differ
pub by_first : (a b : ℕ) (rest : Bool) → a ≢ b → nat_lt b a ≡ (nat_lt b a || ((a == b) && rest))
by_first a b rest apart = grind (arith, nat_tests)

pub by_second : (a b : ℕ) (rest : Bool) → a ≡ b → rest ≡ (nat_lt b a || ((a == b) && rest))
by_second a b rest same = grind (arith, nat_tests)
