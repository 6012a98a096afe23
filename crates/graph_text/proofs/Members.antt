-- Members of lists, and of what a filter keeps.
use Rattle.std.proofs.Common.{◌≡◌, zero, suc, ◌∷◌, ◌⊎◌, List, [], Bool, true, filter, sym, ap, subst, ◌∙◌, arith, inl, inr}
use Rattle.std.specs.Prelude.{Contains}
use Rattle.std.proofs.lemmas.Bool.{false≢true, cond_both}
use Rattle.dag_net.proofs.Lists.{Contains-head}

Contains-cons : {X : Type 0} (y : X) (ys : List X) (x : X) → Contains ys x → Contains (y ∷ ys) x
Contains-cons y ys x (k, lt, e) = (suc k, omega arith, e)

-- a member of a longer list is its head or a member of the rest
pub Contains-cons_cases : {X : Type 0} (y : X) (ys : List X) (x : X) → Contains (y ∷ ys) x → (y ≡ x) ⊎ Contains ys x
Contains-cons_cases y ys x (zero, lt, e) = inl e
Contains-cons_cases y ys x (suc k, lt, e) = inr (k, omega arith, e)

-- a filter keeps each element that passes
pub Contains-filter : {X : Type 0} (p : X → Bool) (xs : List X) (x : X) → Contains xs x → p x ≡ true → Contains (filter p xs) x
Contains-filter p [] x h t = absurd (omega (arith, h.1))
Contains-filter p (y ∷ ys) x h t =
    cond_both (p y) (y ∷ filter p ys) (filter p ys) (λ zs. Contains zs x)
    (λ passes. elim (Contains-cons_cases y ys x h) [
      | inl e ↦ subst (Contains (y ∷ filter p ys)) e (Contains-head y (filter p ys))
      | inr rest ↦ Contains-cons y (filter p ys) x (Contains-filter p ys x rest t)
    ])
    (λ fails. elim (Contains-cons_cases y ys x h) [
      | inl e ↦ absurd (false≢true (sym fails ∙ ap p e ∙ t))
      | inr rest ↦ Contains-filter p ys x rest t
    ])
