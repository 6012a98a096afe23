-- What a search is asked below an upper bound, in the models that count paths.
use Rattle.std.proofs.Common.{◌≡◌, ◌⊎◌, ℕ, Option, Some, Bool, IsTrue, sym, subst, inl, inr}
use Rattle.std.specs.Prelude.{◌↔◌}
use Rattle.decomposition.specs.declared.Mode.{Mode}
use Rattle.decomposition.specs.declared.Mode.TheVariants.{Exact, Interval, Abs}
use Rattle.decomposition.specs.declared.Decision.{Decision}
use Rattle.decomposition.specs.Instance.{Instance}
use Rattle.decomposition.specs.Certificates.{decision_below}
use Rattle.cert_check.specs.Accepted.{IsAsked}

-- it is asked for less than the bound
pub asked_below : (mode : Mode) (i : Instance) (lower upper : Option ℕ) (u : ℕ) (d : Decision) (r : Bool) → (mode ≡ Exact) ⊎ (mode ≡ Interval) → upper ≡ Some u
    → IsTrue r ↔ (d ≡ decision_below mode i u) → IsTrue r ↔ IsAsked mode i lower upper d
asked_below mode i lower upper u d r counts is says = subst (λ o. IsTrue r ↔ IsAsked mode i lower o d) (sym is) (at mode counts says) where
  at : (m : Mode) → (m ≡ Exact) ⊎ (m ≡ Interval) → IsTrue r ↔ (d ≡ decision_below m i u) → IsTrue r ↔ IsAsked m i lower (Some u) d
  at Exact counts says = says
  at Interval counts says = says
  at (Abs k) (inl exact) says = cc
  at (Abs k) (inr interval) says = cc
