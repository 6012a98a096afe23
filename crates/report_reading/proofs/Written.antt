-- What is written in a report is read as it was.
use Rattle.std.proofs.Common.{◌≡◌, ℕ, ◌+◌, ◌-◌, ◌^◌, ◌<◌, ◌≤◌, true, false, not, nat_le, nat_lt, ◌||◌, ◌&&◌, List, [], ◌∷◌, length, get_or, refl, sym, ap, ◌∙◌, inl, inr, arith}
use Rattle.std.specs.Prelude.{Option, Some, None, decimal, codes, ◌==◌}
use Rattle.std.specs.List.{list_any}
use Rattle.std.specs.Option.{option_map, option_and_then}
use Rattle.std.specs.Str.{bytes_eq}
use Rattle.std.proofs.lemmas.Bool.{and_parts, and_from, or_from, or_left, or_right, cases_eq, cond-true, cond-false, leb-true, ltb-true, le-leb, ne_eqb, not_from_false, false_from_ne_true, both_ways}
use Rattle.std.proofs.lemmas.Slice.Eq.{bytes_eq-Decides}
use Rattle.std.proofs.lemmas.Fmt.{decimal_nonempty, first_decimal, decimal_digit, digits_decimal, digits_value-decimal}
use Rattle.decomposition.specs.declared.Decision.{Decision}
use Rattle.graph_text.specs.Reading.{are_digits, number_of}
use Rattle.graph_text.specs.Lines.{is_blank}
use Rattle.graph_text.specs.Labels.{is_field}
use Rattle.report_reading.specs.ReportText.{number_or_none, fits_or_none, is_place}
use Rattle.report_reading.specs.LineFields.{begins_with_zero, greatest, number_in, limit_in, place_in, decision_in}
use Rattle.report_reading.proofs.Spelled.{digits_only, own}

-- digits are no blanks
digits-clean : (f : List ℕ) → digits_only f ≡ true → list_any (λ b. is_blank b || (b == 10)) f ≡ false
digits-clean [] h = refl
digits-clean (b ∷ f) h =
    let parts = and_parts (nat_le 48 b && nat_le b 57) (digits_only f) h in
    let low = leb-true 48 b (and_parts (nat_le 48 b) (nat_le b 57) parts.0).0 in
    or_from (is_blank b || (b == 10)) (list_any (λ b. is_blank b || (b == 10)) f)
    (or_from (is_blank b) (b == 10) (or_from (b == 32) (b == 9) (ne_eqb b 32 (λ e. omega (arith, e, low))) (ne_eqb b 9 (λ e. omega (arith, e, low)))) (ne_eqb b 10 (λ e. omega (arith, e, low))))
    (digits-clean f parts.1)

decimal-digits : (n : ℕ) → n < 2 ^ 64 → digits_only (decimal n) ≡ true
decimal-digits n small = digits_decimal own n small

decimal-some : (n : ℕ) → n < 2 ^ 64 → not (length (decimal n) == 0) ≡ true
decimal-some n small = not_from_false _ (ne_eqb (length (decimal n)) 0 (λ e. omega (arith, e, decimal_nonempty n small)))

pub decimal-field : (n : ℕ) → n < 2 ^ 64 → is_field (decimal n) ≡ true
decimal-field n small =
    and_from (not (length (decimal n) == 0)) (not (list_any (λ b. is_blank b || (b == 10)) (decimal n))) (decimal-some n small)
    (not_from_false _ (digits-clean (decimal n) (decimal-digits n small)))

-- a text that does not begin with a zero
no_zero : (f : List ℕ) → 48 < get_or f 0 0 → begins_with_zero f ≡ false
no_zero [] h = absurd (omega (arith, h))
no_zero (b ∷ f) h = ap (λ t. t && true) (ne_eqb 48 b (λ e. omega (arith, e, h)))

plain : (n : ℕ) → n < 2 ^ 64 → (length (decimal n) == 1 || not (begins_with_zero (decimal n))) ≡ true
plain n small =
    elim (cases_eq n 0) [
      | inl zero_is ↦
          or_left (length (decimal n) == 1) _ (ap (λ (f : List ℕ). length f == 1) (decimal_digit n (omega (arith, zero_is))))
      | inr some ↦ or_right (length (decimal n) == 1) _ (not_from_false _ (no_zero (decimal n) (first_decimal n (omega arith) small)))
    ]

pub number-written : (least most n : ℕ) → least ≤ n → n ≤ most → n < 2 ^ 64 → number_in least most (decimal n) ≡ Some n
number-written least most n low high small =
    let f = decimal n in
    let value : number_of f ≡ n = digits_value-decimal own n small in
    let range = nat_le least (number_of f) && nat_le (number_of f) most in
    cond-true _ (Some (number_of f)) None
    (and_from (are_digits f) ((length f == 1 || not (begins_with_zero f)) && range)
    (and_from (not (length f == 0)) (digits_only f) (decimal-some n small) (decimal-digits n small))
    (and_from (length f == 1 || not (begins_with_zero f)) range (plain n small)
    (and_from (nat_le least (number_of f)) (nat_le (number_of f) most) (le-leb _ _ (omega (arith, value, low))) (le-leb _ _ (omega (arith, value, high))))))
    ∙ ap (λ x. Some x) value

pub bound-field : (bound : Option ℕ) → fits_or_none bound ≡ true → is_field (number_or_none bound) ≡ true
bound-field None h = refl
bound-field (Some n) h = decimal-field n (ltb-true n (2 ^ 64) h)

pub limit-written : (bound : Option ℕ) → fits_or_none bound ≡ true → limit_in (number_or_none bound) ≡ Some bound
limit-written None h = refl
limit-written (Some n) h =
    let small = ltb-true n (2 ^ 64) h in
    let other : bytes_eq (decimal n) (codes "none") ≡ false =
    false_from_ne_true _ (λ same. both_ways (digits_only (codes "none")) refl (ap digits_only (sym ((bytes_eq-Decides (decimal n) (codes "none")).0 same)) ∙ decimal-digits n small)) in
    cond-false _ (Some None) (option_map (λ n. Some n) (number_in 0 greatest (decimal n))) other
    ∙ ap (option_map (λ n. Some n)) (number-written 0 greatest n (omega arith) (omega (arith, small)) small)

pub place-written : (n : ℕ) → is_place n ≡ true → place_in (decimal (n + 1)) ≡ Some n
place-written n h =
    let most = leb-true (n + 1) 4294967295 h in
    ap (option_map (λ k. k - 1)) (number-written 1 4294967295 (n + 1) (omega arith) most (omega (arith, most)))
    ∙ ap (λ k. Some k) (let back : n + 1 - 1 ≡ n = omega arith in back)

pub decision-written : (d : Decision) → nat_lt d.slots (2 ^ 32) ≡ true → fits_or_none d.limit ≡ true →
    decision_in (decimal d.slots) (number_or_none d.limit) ≡ Some d
decision-written d slots limit =
    let few = ltb-true d.slots (2 ^ 32) slots in
    ap (option_and_then (λ s. option_map (λ l. (let x : Decision = record { slots = s; limit = l } in x)) (limit_in (number_or_none d.limit))))
    (number-written 0 4294967295 d.slots (omega arith) (omega (arith, few)) (omega (arith, few)))
    ∙ ap (option_map (λ l. (let x : Decision = record { slots = d.slots; limit = l } in x))) (limit-written d.limit limit)
