-- What the digits of a number are read as: a count, and a weight.
use Rattle.std.proofs.Common.{◌≡◌, ℕ, zero, suc, ◌+◌, ◌-◌, ◌*◌, ◌%◌, ◌<◌, ◌≤◌, ◌^◌, Bool, true, not, leb, ltb, ◌&&◌, List, [], ◌∷◌, length, get_or, position, Some, None, refl, sym, ap, ◌∙◌, arith, length-append}
use Rattle.std.specs.Prelude.{◌==◌, nat_le, decimal}
use Rattle.std.specs.List.{list_all, position_or_len}
use Rattle.std.proofs.lemmas.Bool.{and_parts, and_from, cond-true, cond-false, false_from_ne_true, le-leb, leb-true, eqb-true, ltb-true, ne_eqb}
use Rattle.std.proofs.lemmas.Fmt.{decimal_by_steps, length-decimal-le}
use Rattle.std.proofs.lemmas.List.Folds.{list_all-append}
use Rattle.std.proofs.lemmas.List.Sums.{fold-append, passes_at_first}
use Rattle.std.proofs.Math.Nat.{div-add-mod}
use Rattle.std.proofs.lemmas.Nat.{mod_below}
use Rattle.graph_text.specs.Reading.{are_digits, number_of, weight_in, is_count, most_weight}
use Rattle.graph_text.proofs.Weights.{weight_in-whole}

abbrev is_digit : ℕ → Bool
is_digit b = nat_le 48 b && nat_le b 57

-- digits that spell a number
record Spells (n : ℕ) (digits : List ℕ) : Type 0 where
  some : 0 < length digits
  each : list_all is_digit digits ≡ true
  value : number_of digits ≡ n

digit : (d : ℕ) → d < 10 → is_digit (48 + d) ≡ true
digit d small = and_from (nat_le 48 (48 + d)) (nat_le (48 + d) 57) (le-leb 48 (48 + d) (omega arith)) (le-leb (48 + d) 57 (omega arith))

spells : (n : ℕ) → n < 2 ^ 64 → Spells n (decimal n)
spells n low =
    decimal_by_steps Spells
    (λ d small. record {
      some = omega arith;
      each = and_from (is_digit (48 + d)) true (digit d small) refl;
      value = omega arith;
    })
    (λ m ds large is. record {
      some = omega (arith, is.some, length-append ds ((48 + m % 10) ∷ []));
      each = list_all-append is_digit ds ((48 + m % 10) ∷ [])
          ∙ and_from (list_all is_digit ds) (is_digit (48 + m % 10) && true) is.each (and_from (is_digit (48 + m % 10)) true (digit (m % 10) (mod_below m 10 (omega arith))) refl);
      value = fold-append (λ n d. 10 * n + (d - 48)) 0 ds ((48 + m % 10) ∷ [])
          ∙ (let last : 10 * number_of ds + (48 + m % 10 - 48) ≡ m = omega (arith, is.value, div-add-mod m 10) in last);
    }) n low

passes-at : (p : ℕ → Bool) (xs : List ℕ) (k d : ℕ) → k < length xs → list_all p xs ≡ true → p (get_or xs k d) ≡ true
passes-at p [] k d within h = absurd (omega arith)
passes-at p (x ∷ xs) zero d within h = (and_parts (p x) (list_all p xs) h).0
passes-at p (x ∷ xs) (suc k) d within h = passes-at p xs k d (omega arith) (and_parts (p x) (list_all p xs) h).1

no_point : (digits : List ℕ) → list_all is_digit digits ≡ true → None ≡ position (λ b. b == 46) digits
no_point digits each =
    sym (cond-false (ltb (position_or_len (λ b. b == 46) digits) (length digits)) (Some (position_or_len (λ b. b == 46) digits)) None
    (false_from_ne_true _
    (λ t.
    let at = position_or_len (λ b. b == 46) digits in
    let within : at < length digits = ltb-true at (length digits) t in
    let point : get_or digits at 0 ≡ 46 = eqb-true (get_or digits at 0) 46 (passes_at_first (λ b. b == 46) digits 0 within) in
    let high : 48 ≤ get_or digits at 0 = leb-true 48 (get_or digits at 0) (and_parts (nat_le 48 (get_or digits at 0)) (nat_le (get_or digits at 0) 57) (passes-at is_digit digits at 0 within each)).0 in
    omega arith)))

are_digits-decimal : (n : ℕ) → n < 2 ^ 64 → are_digits (decimal n) ≡ true
are_digits-decimal n low =
    let is = spells n low in
    let some : length (decimal n) ≡ 0 → ⊥ = λ e. omega (arith, is.some) in
    and_from (not (length (decimal n) == 0)) (list_all is_digit (decimal n)) (ap not (ne_eqb (length (decimal n)) 0 some)) is.each

-- the weight that the digits of a number are
pub weight_in-decimal : (n : ℕ) → n ≤ 1000000000000 → weight_in (decimal n) ≡ Some n
weight_in-decimal n small =
    let low : n < 2 ^ 64 = omega arith in
    let is = spells n low in
    weight_in-whole (decimal n) (no_point (decimal n) is.each)
    ∙ cond-true (are_digits (decimal n) && leb (number_of (decimal n)) most_weight) (Some (number_of (decimal n))) None
    (and_from (are_digits (decimal n)) (leb (number_of (decimal n)) most_weight) (are_digits-decimal n low) (le-leb (number_of (decimal n)) most_weight (omega (arith, is.value))))
    ∙ ap Some is.value

-- the digits of a number are a count
pub is_count-decimal : (n : ℕ) → n < 2 ^ 16 → is_count (decimal n ∷ []) ≡ true
is_count-decimal n small =
    and_from (are_digits (decimal n)) (nat_le (length (decimal n)) 19) (are_digits-decimal n (omega arith))
    (le-leb (length (decimal n)) 19 (length-decimal-le 19 n (omega arith) (omega arith) (omega arith)))
