-- Numbers that rise, with a larger one behind them.
use Rattle.std.proofs.Common.{◌≡◌, ℕ, suc, ◌+◌, ◌<◌, ◌^◌, List, [], ◌∷◌, ◌++◌, true, nat_lt, length, length-append, get_or, refl, sym, subst, inl, inr, arith, lt-ltb}
use Rattle.std.specs.Prelude.{All}
use Rattle.std.proofs.Math.ListN.{get_or-append}
use Rattle.std.proofs.Math.Seq.{get_or-append_seam}
use Rattle.std.proofs.lemmas.Bool.{and_from, and_parts, cases_eq}
use Rattle.decomposition.specs.Answer.{is_ordered}
use Rattle.report_terms.specs.NetFacts.{AreRisingRules}
use Rattle.flow_solver.specs.Crowds.{RisesBelow}

rising-push : (xs : List ℕ) (n : ℕ) → is_ordered nat_lt xs ≡ true → All (λ x. x < n) xs → is_ordered nat_lt (xs ++ n ∷ []) ≡ true
rising-push [] n rising below = refl
rising-push (x ∷ []) n rising below = and_from (nat_lt x n) true (lt-ltb x n (below 0 0 (omega arith))) refl
rising-push (x ∷ (y ∷ xs)) n rising below =
    let parts = and_parts (nat_lt x y) (is_ordered nat_lt (y ∷ xs)) rising in
    and_from (nat_lt x y) (is_ordered nat_lt (y ∷ (xs ++ n ∷ []))) parts.0 (rising-push (y ∷ xs) n parts.1 (λ k d there. below (suc k) d (omega (arith, there))))

below-push : (xs : List ℕ) (n : ℕ) → All (λ x. x < n) xs → All (λ x. x < n + 1) (xs ++ n ∷ [])
below-push xs n below k d there =
    elim (cases_eq k (length xs)) [
      | inl is ↦ let here : get_or (xs ++ n ∷ []) k d ≡ n = subst (λ m. get_or (xs ++ n ∷ []) m d ≡ n) (sym is) (get_or-append_seam xs n [] d) in omega (arith, here)
      | inr other ↦
          let inside : k < length xs = omega (arith, there, other, length-append xs (n ∷ [])) in
          omega (arith, below k d inside, get_or-append xs (n ∷ []) d k inside)
    ]

-- what rises below a number, with that number behind it
pub rises-push : (n : ℕ) (xs : List ℕ) → RisesBelow n xs → RisesBelow (n + 1) (xs ++ n ∷ [])
rises-push n xs rises = record { rising = rising-push xs n rises.rising rises.below; below = below-push xs n rises.below }

-- what rises below a number rises below the next
pub rises-more : (n : ℕ) (xs : List ℕ) → RisesBelow n xs → RisesBelow (n + 1) xs
rises-more n xs rises = record { rising = rises.rising; below = λ k d there. omega (arith, rises.below k d there) }

-- rules that rise below a number of 32 bits fit a report
pub rising_rules : (n : ℕ) (rules : List ℕ) → n < 2 ^ 32 → length rules < 2 ^ 64 → RisesBelow n rules → AreRisingRules rules
rising_rules n rules few short rises = record { places = λ k d there. omega (arith, few, rises.below k d there); rising = rises.rising; few = short }
