-- A cut, with the side as a variable.
use Rattle.std.proofs.Common.{◌≡◌, ◌<◌, ℕ, Bool, true, false, List, ◌&&◌, not, nat_lt, IsTrue, ltb-true, subst}
use Rattle.std.specs.Prelude.{◌↔◌}
use Rattle.std.specs.List.{list_all}
use Rattle.std.proofs.lemmas.Bool.{lt-ltb, both_ways}
use Rattle.decomposition.specs.declared.Side.{Side}
use Rattle.decomposition.specs.declared.Side.TheVariants.{Entering, Leaving}
use Rattle.decomposition.specs.Instance.{Instance}
use Rattle.decomposition.specs.Certificates.{sum_of_lo, sum_of_hi, IsCut}
use Rattle.cert_check.specs.Cut.{opposite, crosses, is_end}

-- the vertices at which flow must go on
abbrev pub all_go_on : Instance → Side → List ℕ → Bool
all_go_on i side xs = list_all (λ v. nat_lt v i.graph.vertices && not (is_end i.graph side v)) xs

-- a cut in parts: flow goes on at each vertex, and the sums tell that it cannot
cut_parts : (i : Instance) (side : Side) (xs : List ℕ) →
    IsCut i side xs ↔ (IsTrue (all_go_on i side xs) × (sum_of_hi i (crosses i.graph (opposite side) xs) < sum_of_lo i (crosses i.graph side xs)))
cut_parts i Entering xs = (λ cut. cut, λ cut. cut)
cut_parts i Leaving xs = (λ cut. cut, λ cut. cut)

-- where flow goes on at each vertex, the sums tell whether the vertices are a cut
pub cut-decides : (i : Instance) (side other : Side) (xs : List ℕ) (hi lo : ℕ) → all_go_on i side xs ≡ true → other ≡ opposite side →
    hi ≡ sum_of_hi i (crosses i.graph other xs) → lo ≡ sum_of_lo i (crosses i.graph side xs) → IsTrue (nat_lt hi lo) ↔ IsCut i side xs
cut-decides i side other xs hi lo go_on is most least =
    let hi_is : hi ≡ sum_of_hi i (crosses i.graph (opposite side) xs) = subst (λ s. hi ≡ sum_of_hi i (crosses i.graph s xs)) is most in (
      λ less. (cut_parts i side xs).1 (go_on, rw (← hi_is, ← least) (ltb-true hi lo less)),
      λ cut. lt-ltb hi lo (rw (hi_is, least) ((cut_parts i side xs).0 cut).1),
    )

-- where it does not, they are none
pub no_cut : (i : Instance) (side : Side) (xs : List ℕ) (r : Bool) → all_go_on i side xs ≡ false → r ≡ false → IsTrue r ↔ IsCut i side xs
no_cut i side xs r ends none =
    (λ says. absurd (both_ways r none says), λ cut. absurd (both_ways (all_go_on i side xs) ends ((cut_parts i side xs).0 cut).0))
