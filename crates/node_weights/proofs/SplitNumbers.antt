-- The digits of a number are a weight, and they are a count.
use Rattle.std.proofs.Common.{◌≡◌, ℕ, suc, zero, ◌<◌, ◌≤◌, ◌^◌, true, false, not, refl, leb, ltb, ◌&&◌, ◌||◌, List, [], ◌∷◌, length, get_or, position, Some, None, sym, ap, ◌∙◌, arith}
use Rattle.std.specs.Prelude.{◌==◌, nat_le, decimal}
use Rattle.std.specs.List.{position_or_len}
use Rattle.std.proofs.lemmas.Bool.{and_parts, and_from, cond-true, cond-false, le-leb, leb-true, le-ltb, ne_eqb}
use Rattle.std.proofs.lemmas.Fmt.{digits_decimal, length-decimal-le}
use Rattle.std.proofs.lemmas.List.Sums.{position_or_len_is}
use Rattle.graph_text.specs.Lines.{begins_with_hash}
use Rattle.graph_text.specs.Reading.{are_digits, number_of, weight_in, is_count, most_weight}
use Rattle.graph_text.proofs.Weights.{weight_in-whole}
use Rattle.report_reading.specs.LineFields.{begins_with_zero}
use Rattle.report_reading.proofs.Taken.{cond-some}
use Rattle.report_reading.proofs.Spelled.{digits_only, own}
use Rattle.report_reading.proofs.Written.{number-written}

-- digits have no point
digit-no_point : (ds : List ℕ) (k d : ℕ) → k < length ds → digits_only ds ≡ true → (get_or ds k d == 46) ≡ false
digit-no_point [] k d within h = absurd (omega (arith, within))
digit-no_point (b ∷ ds) zero d within h =
    let low : 48 ≤ b = leb-true 48 b (and_parts (nat_le 48 b) (nat_le b 57) (and_parts (nat_le 48 b && nat_le b 57) (digits_only ds) h).0).0 in
    ne_eqb b 46 (λ e. omega arith)
digit-no_point (b ∷ ds) (suc k) d within h = digit-no_point ds k d (omega arith) (and_parts (nat_le 48 b && nat_le b 57) (digits_only ds) h).1

no_point : (ds : List ℕ) → digits_only ds ≡ true → None ≡ position (λ b. b == 46) ds
no_point ds h =
    let none : position_or_len (λ b. b == 46) ds ≡ length ds =
    position_or_len_is (λ b. b == 46) ds (length ds) 0 (omega arith) (λ k within. digit-no_point ds k 0 within h) (λ within. absurd (omega (arith, within))) in
    sym (cond-false (ltb (position_or_len (λ b. b == 46) ds) (length ds)) (Some (position_or_len (λ b. b == 46) ds)) None (le-ltb (position_or_len (λ b. b == 46) ds) (length ds) (omega arith)))

-- the digits of a number spell it
digits-spell : (n : ℕ) → n < 2 ^ 64 → (are_digits (decimal n) ≡ true) × (number_of (decimal n) ≡ n)
digits-spell n small =
    let f = decimal n in
    let range = nat_le 0 (number_of f) && nat_le (number_of f) n in
    let plain = (length f == 1) || not (begins_with_zero f) in
    let c = cond-some (are_digits f && (plain && range)) (number_of f) n (number-written 0 n n (omega arith) (omega arith) small) in
    ((and_parts (are_digits f) (plain && range) c.0).0, c.1)

pub spelled-weight : (n : ℕ) → n ≤ most_weight → weight_in (decimal n) ≡ Some n
spelled-weight n small =
    let low : n < 2 ^ 64 = omega arith in
    let spell = digits-spell n low in
    weight_in-whole (decimal n) (no_point (decimal n) (digits_decimal own n low))
    ∙ cond-true (are_digits (decimal n) && leb (number_of (decimal n)) most_weight) (Some (number_of (decimal n))) None
    (and_from (are_digits (decimal n)) (leb (number_of (decimal n)) most_weight) spell.0 (le-leb (number_of (decimal n)) most_weight (omega (arith, spell.1))))
    ∙ ap Some spell.1

pub spelled-count : (n : ℕ) → n < 2 ^ 16 → is_count (decimal n ∷ []) ≡ true
spelled-count n small =
    and_from (are_digits (decimal n)) (nat_le (length (decimal n)) 19) (digits-spell n (omega arith)).0
    (le-leb (length (decimal n)) 19 (length-decimal-le 19 n (omega arith) (omega arith) (omega arith)))

-- digits do not begin as a comment
digits-no_hash : (ds : List ℕ) → digits_only ds ≡ true → begins_with_hash ds ≡ false
digits-no_hash [] h = refl
digits-no_hash (b ∷ ds) h =
    let low : 48 ≤ b = leb-true 48 b (and_parts (nat_le 48 b) (nat_le b 57) (and_parts (nat_le 48 b && nat_le b 57) (digits_only ds) h).0).0 in
    ne_eqb b 35 (λ e. omega arith)

pub decimal-no_hash : (n : ℕ) → n < 2 ^ 64 → begins_with_hash (decimal n) ≡ false
decimal-no_hash n small = digits-no_hash (decimal n) (digits_decimal own n small)
