-- The first space of bytes, and blanks at their ends.
use Rattle.std.proofs.Common.{◌≡◌, ℕ, suc, ◌-◌, ◌<◌, ◌≤◌, Bool, true, false, not, cond, ltb, List, [], ◌∷◌, length, get_or, refl, ap, ◌∙◌, inl, inr, arith}
use Rattle.std.specs.Prelude.{Some, None, ◌⊎◌}
use Rattle.std.specs.List.{position, position_or_len}
use Rattle.std.proofs.lemmas.Bool.{cases_Bool, cond-true, ltb-false}
use Rattle.std.proofs.lemmas.List.Sums.{prefix_len-le-length}
use Rattle.graph_text.specs.Lines.{is_blank}
use Rattle.report_reading.specs.ReportText.{ends_blank}

pub ends_blank-last : (bytes : List ℕ) → 0 < length bytes → is_blank (get_or bytes (length bytes - 1) 0) ≡ ends_blank bytes
ends_blank-last [] some = absurd (omega (arith, some))
ends_blank-last (b ∷ []) some = refl
ends_blank-last (b ∷ c ∷ bytes) some =
    let e : length (b ∷ c ∷ bytes) - 1 ≡ suc (length (c ∷ bytes) - 1) = omega arith in
    ap (λ k. is_blank (get_or (b ∷ c ∷ bytes) k 0)) e ∙ ends_blank-last (c ∷ bytes) (omega arith)

pub place-found : (p : ℕ → Bool) (xs : List ℕ) (i : ℕ) → Some i ≡ position p xs → i ≡ position_or_len p xs
place-found p xs i h = by (ltb (position_or_len p xs) (length xs)) h where
  by : (b : Bool) → Some i ≡ cond b (Some (position_or_len p xs)) None → i ≡ position_or_len p xs
  by true e = cc
  by false e = absurd (cc)

pub place-missing : (p : ℕ → Bool) (xs : List ℕ) → None ≡ position p xs → length xs ≡ position_or_len p xs
place-missing p xs h = by (cases_Bool (ltb (position_or_len p xs) (length xs))) where
  at_most : position_or_len p xs ≤ length xs
  at_most = prefix_len-le-length (λ x. not (p x)) xs

  by : (ltb (position_or_len p xs) (length xs) ≡ true) ⊎ (ltb (position_or_len p xs) (length xs) ≡ false) → length xs ≡ position_or_len p xs
  by (inl passes) = absurd (let e : None ≡ Some (position_or_len p xs) = h ∙ cond-true _ (Some (position_or_len p xs)) None passes in cc)
  by (inr past) = omega (arith, ltb-false _ _ past, at_most)
