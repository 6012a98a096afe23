-- Numbers are spelled as a report spells them.
use Rattle.std.proofs.Common.{◌≡◌, ℕ, ◌+◌, ◌-◌, ◌*◌, ◌^◌, ◌<◌, ◌≤◌, Bool, true, false, not, nat_le, nat_lt, ◌||◌, ◌&&◌, List, [], ◌∷◌, length, get_or, sym, ap, ◌∙◌, inl, inr, arith, rules}
use Rattle.std.specs.Prelude.{Option, Some, None, decimal, codes, ◌==◌, ◌⊎◌}
use Rattle.std.specs.List.{list_all, fold}
use Rattle.std.specs.Option.{option_map}
use Rattle.std.specs.Str.{bytes_eq}
use Rattle.std.proofs.lemmas.Bool.{and_parts, or_cases, cases_Bool, cond-true, cond-false, leb-true, eqb-true, eq-eqb, lt-ltb, le-leb, both_ways, not-true}
use Rattle.std.proofs.lemmas.Slice.Eq.{bytes_eq-Decides}
use Rattle.std.proofs.lemmas.Str.Parse.{IsNumeralModel, numerals_by_fold}
use Rattle.std.proofs.lemmas.Fmt.{decimal-digits_value}
use Rattle.decomposition.specs.declared.Decision.{Decision}
use Rattle.graph_text.specs.Reading.{are_digits, number_of}
use Rattle.report_reading.specs.ReportText.{number_or_none, fits_or_none, is_place}
use Rattle.report_reading.specs.LineFields.{begins_with_zero, greatest, number_in, limit_in, place_in, decision_in}
use Rattle.report_reading.proofs.Taken.{cond-some, map-some, and_then-some}

abbrev pub digits_only : List ℕ → Bool
digits_only bytes = list_all (λ b. nat_le 48 b && nat_le b 57) bytes

abbrev pub value_from : ℕ → List ℕ → ℕ
value_from n digits = fold (λ n d. 10 * n + (d - 48)) n digits

pub own : IsNumeralModel (λ ds. digits_only ds ≡ true) (value_from 0)
own = numerals_by_fold (λ ds. digits_only ds ≡ true) (search rules) value_from (search rules)

-- a field without a leading zero, that begins with a zero, is that zero
one_zero : (field : List ℕ) → (length field == 1 || not (begins_with_zero field)) ≡ true → get_or field 0 0 ≡ 48 → length field ≡ 1
one_zero [] plain zero = absurd (omega (arith, zero))
one_zero (b ∷ bs) plain zero =
    elim (or_cases (length (b ∷ bs) == 1) (not (begins_with_zero (b ∷ bs))) plain) [
      | inl one ↦ eqb-true (length (b ∷ bs)) 1 one
      | inr other ↦ absurd (both_ways (begins_with_zero (b ∷ bs)) (not-true _ other) (ap (λ t. t && true) (eq-eqb 48 b (sym zero))))
    ]

-- a number that a field spells, as a report spells it
pub record Spells (least most : ℕ) (field : List ℕ) (n : ℕ) : Type 0 where
  pub spelled : field ≡ decimal n
  pub least_is : least ≤ n
  pub most_is : n ≤ most

pub number-spelled : (least most : ℕ) (field : List ℕ) (n : ℕ) → most < 2 ^ 64 → number_in least most field ≡ Some n → Spells least most field n
number-spelled least most field n small h =
    let range = nat_le least (number_of field) && nat_le (number_of field) most in
    let plain = length field == 1 || not (begins_with_zero field) in
    let c = cond-some (are_digits field && (plain && range)) (number_of field) n h in
    let a = and_parts (are_digits field) (plain && range) c.0 in
    let b = and_parts plain range a.1 in
    let d = and_parts (nat_le least (number_of field)) (nat_le (number_of field) most) b.1 in
    let e = and_parts (not (length field == 0)) (digits_only field) a.0 in
    let low : least ≤ number_of field = leb-true _ _ d.0 in
    let high : number_of field ≤ most = leb-true _ _ d.1 in
    let some : 0 < length field = not_empty field e.0 in
    let is : decimal (number_of field) ≡ field = decimal-digits_value own field e.1 some (one_zero field b.0) (omega arith) in
    record { spelled = sym is ∙ ap decimal c.1; least_is = omega (arith, c.1); most_is = omega (arith, c.1) } where
      not_empty : (f : List ℕ) → not (length f == 0) ≡ true → 0 < length f
      not_empty [] t = absurd (cc)
      not_empty (x ∷ xs) t = omega arith

pub limit-spelled : (field : List ℕ) (bound : Option ℕ) → limit_in field ≡ Some bound → (field ≡ number_or_none bound) × (fits_or_none bound ≡ true)
limit-spelled field bound h = by (cases_Bool (bytes_eq field (codes "none"))) where
  by : (bytes_eq field (codes "none") ≡ true) ⊎ (bytes_eq field (codes "none") ≡ false) → (field ≡ number_or_none bound) × (fits_or_none bound ≡ true)
  by (inl none) =
      let e : None ≡ bound = cc (sym (cond-true _ (Some None) (option_map (λ n. Some n) (number_in 0 greatest field)) none) ∙ h) in
      ((bytes_eq-Decides field (codes "none")).0 none ∙ ap number_or_none e, ap fits_or_none (sym e))
  by (inr some) =
      let m = map-some (λ n. Some n) (number_in 0 greatest field) bound (sym (cond-false _ (Some None) (option_map (λ n. Some n) (number_in 0 greatest field)) some) ∙ h) in
      let s = number-spelled 0 greatest field m.0 (omega arith) m.1 in
      (s.spelled ∙ ap number_or_none m.2, sym (ap fits_or_none m.2) ∙ lt-ltb m.0 (2 ^ 64) (omega (arith, s.most_is)))

pub place-spelled : (field : List ℕ) (n : ℕ) → place_in field ≡ Some n → (field ≡ decimal (n + 1)) × (is_place n ≡ true)
place-spelled field n h =
    let m = map-some (λ n. n - 1) (number_in 1 4294967295 field) n h in
    let s = number-spelled 1 4294967295 field m.0 (omega arith) m.1 in
    let e : m.0 ≡ n + 1 = omega (arith, m.2, s.least_is) in
    (s.spelled ∙ ap decimal e, le-leb (n + 1) 4294967295 (omega (arith, s.most_is, e)))

-- what the slots and the limit of a decision spell
pub record SpellsDecision (slots limit : List ℕ) (d : Decision) : Type 0 where
  pub slots_is : slots ≡ decimal d.slots
  pub few_slots : nat_lt d.slots (2 ^ 32) ≡ true
  pub limit_is : limit ≡ number_or_none d.limit
  pub limit_fits : fits_or_none d.limit ≡ true

pub decision-spelled : (slots limit : List ℕ) (d : Decision) → decision_in slots limit ≡ Some d → SpellsDecision slots limit d
decision-spelled slots limit d h =
    let a = and_then-some (λ s. option_map (λ l. (let x : Decision = record { slots = s; limit = l } in x)) (limit_in limit)) (number_in 0 4294967295 slots) d h in
    let b = map-some (λ l. (let x : Decision = record { slots = a.0; limit = l } in x)) (limit_in limit) d a.2 in
    let s = number-spelled 0 4294967295 slots a.0 (omega arith) a.1 in
    let l = limit-spelled limit b.0 b.1 in
    let slots_of : a.0 ≡ d.slots = ap (λ (x : Decision). x.slots) b.2 in
    let limit_of : b.0 ≡ d.limit = ap (λ (x : Decision). x.limit) b.2 in
    record {
      slots_is = s.spelled ∙ ap decimal slots_of;
      few_slots = lt-ltb d.slots (2 ^ 32) (omega (arith, s.most_is, slots_of));
      limit_is = l.0 ∙ ap number_or_none limit_of;
      limit_fits = sym (ap fits_or_none limit_of) ∙ l.1;
    }
