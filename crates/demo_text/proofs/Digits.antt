-- The digits of numbers.
use Rattle.std.proofs.Common.{◌≡◌, ℕ, ◌<◌, ◌^◌, nat_eq, sym, ap, ◌∙◌, ⊎_elim}
use Rattle.std.specs.Prelude.{decimal}
use Rattle.std.specs.Str.{bytes_eq}
use Rattle.std.proofs.lemmas.Bool.{eq-eqb, ne_eqb, cases_eq, false_from_ne_true}
use Rattle.std.proofs.lemmas.Fmt.{decimal_injective}
use Rattle.std.proofs.lemmas.Slice.Eq.{bytes_eq-Decides}

-- numbers below 2^64 are equal where their digits are
pub same_digits : (i j : ℕ) → i < 2 ^ 64 → j < 2 ^ 64 → nat_eq i j ≡ bytes_eq (decimal i) (decimal j)
same_digits i j low high =
    ⊎_elim
    (λ e. eq-eqb i j e ∙ sym ((bytes_eq-Decides (decimal i) (decimal j)).1 (ap decimal e)))
    (λ other. ne_eqb i j other ∙ sym (false_from_ne_true (bytes_eq (decimal i) (decimal j)) (λ same. other (decimal_injective i j low high ((bytes_eq-Decides (decimal i) (decimal j)).0 same)))))
    (cases_eq i j)
