-- The weights of entries, one more at a time.
use Rattle.std.proofs.Common.{◌≡◌, ℕ, ◌+◌, ◌-◌, ◌<◌, ◌≤◌, List, [], ◌∷◌, ◌++◌, length, length-append, cond, Bool, true, false, refl, sym, ap, ◌∙◌, subst, arith, inl, inr}
use Rattle.std.specs.Prelude.{All}
use Rattle.std.proofs.lemmas.Bool.{cases_lt}
use Rattle.std.proofs.lemmas.List.Sums.{sum_by_push}
use Rattle.std.proofs.lemmas.List.Elements.{All-push}
use Rattle.decomposition.specs.Graph.{has_edge}
use Rattle.decomposition.specs.Answer.{weight_on, total_weight}
use Rattle.decomposition.proofs.Merging.{weight_on-where}
use Rattle.run_weight.specs.Sorting.{Adds}

pub weight_on-push : (a : List (List ℕ × ℕ)) (p : List ℕ) (w e : ℕ) → weight_on (a ++ (p, w) ∷ []) e ≡ weight_on a e + cond (has_edge p e) w 0
weight_on-push a p w e =
    omega (arith, weight_on-where (a ++ (p, w) ∷ []) e, weight_on-where a e, sum_by_push (λ (entry : List ℕ × ℕ). cond (has_edge entry.0 e) entry.1 0) a (p, w))

pub total_weight-push : (a : List (List ℕ × ℕ)) (p : List ℕ) (w : ℕ) → total_weight (a ++ (p, w) ∷ []) ≡ total_weight a + w
total_weight-push a p w = sum_by_push (λ (entry : List ℕ × ℕ). entry.1) a (p, w)

no_weight : (b : Bool) (w : ℕ) → w ≡ 0 → cond b w 0 ≡ 0
no_weight true w is = is
no_weight false w is = refl

module _ (old new : List (List ℕ × ℕ)) (p : List ℕ) (w : ℕ) (added : Adds old p w new) where
  pub Adds-All : (P : List ℕ × ℕ → Type 0) → All P old → (0 < w → P (p, w)) → All P new
  Adds-All P all here =
      elim (cases_lt 0 w) [
        | inl some ↦ subst (All P) (sym (added.some some)) (All-push P old (p, w) all (here some))
        | inr none ↦ subst (All P) (sym (added.none (omega (arith, none)))) all
      ]

  pub Adds-weight_on : (e : ℕ) → weight_on new e ≡ weight_on old e + cond (has_edge p e) w 0
  Adds-weight_on e =
      elim (cases_lt 0 w) [
        | inl some ↦ ap (λ a. weight_on a e) (added.some some) ∙ weight_on-push old p w e
        | inr none ↦ let is : w ≡ 0 = omega (arith, none) in omega (arith, ap (λ a. weight_on a e) (added.none is), no_weight (has_edge p e) w is)
      ]

  pub Adds-total_weight : total_weight new ≡ total_weight old + w
  Adds-total_weight =
      elim (cases_lt 0 w) [
        | inl some ↦ ap total_weight (added.some some) ∙ total_weight-push old p w
        | inr none ↦ let is : w ≡ 0 = omega (arith, none) in omega (arith, ap total_weight (added.none is), is)
      ]

  pub Adds-length : length new ≤ length old + 1
  Adds-length =
      elim (cases_lt 0 w) [
        | inl some ↦ omega (arith, ap length (added.some some), length-append old ((p, w) ∷ []))
        | inr none ↦ let is : w ≡ 0 = omega (arith, none) in omega (arith, ap length (added.none is))
      ]

-- what holds of one unit holds of so many
pub scaled : (a b c d : Bool) (w : ℕ) → cond a 1 0 + cond b 1 0 ≡ cond c 1 0 + cond d 1 0 → cond a w 0 + cond b w 0 ≡ cond c w 0 + cond d w 0
scaled true true true true w h = omega (arith, h)
scaled true true true false w h = omega (arith, h)
scaled true true false true w h = omega (arith, h)
scaled true true false false w h = omega (arith, h)
scaled true false true true w h = omega (arith, h)
scaled true false true false w h = omega (arith, h)
scaled true false false true w h = omega (arith, h)
scaled true false false false w h = omega (arith, h)
scaled false true true true w h = omega (arith, h)
scaled false true true false w h = omega (arith, h)
scaled false true false true w h = omega (arith, h)
scaled false true false false w h = omega (arith, h)
scaled false false true true w h = omega (arith, h)
scaled false false true false w h = omega (arith, h)
scaled false false false true w h = omega (arith, h)
scaled false false false false w h = omega (arith, h)

pub in_two : (b : Bool) (w part : ℕ) → part ≤ w → cond b (w - part) 0 + cond b part 0 ≡ cond b w 0
in_two true w part low = omega (arith, low)
in_two false w part low = omega arith
