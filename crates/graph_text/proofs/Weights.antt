-- The value of a weight, by the place of its point.
use Rattle.std.proofs.Common.{◌≡◌, ℕ, ◌+◌, ◌-◌, ◌*◌, ◌<◌, ◌≤◌, Bool, true, false, not, cond, leb, ltb, ◌||◌, ◌&&◌, List, [], ◌∷◌, length, drop, take, get_or, Option, None, Some, position, refl, sym, ap, ◌∙◌, ⊎_elim, arith, take-append-drop}
use Rattle.std.specs.Prelude.{◌==◌}
use Rattle.std.specs.List.{list_any, position_or_len, after_first, fold}
use Rattle.std.proofs.lemmas.Bool.{cases_Bool, cond-true, cond-false, ltb-false, ltb-true, lt-leb}
use Rattle.std.proofs.lemmas.List.{take_all, take_more}
use Rattle.std.proofs.lemmas.List.Folds.{list_any_none, list_any_at}
use Rattle.std.proofs.lemmas.List.Sums.{fold-append, fails_before_first, passes_at_first}
use Rattle.std.proofs.lemmas.Option.{none-some, cond_some}
use Rattle.graph_text.specs.Reading.{are_digits, are_zeros, number_of, weight_in, most_weight}

-- digits behind others make a number no smaller
number_from-le : (n : ℕ) (digits : List ℕ) → n ≤ fold (λ n d. 10 * n + (d - 48)) n digits
number_from-le n [] = omega arith
number_from-le n (d ∷ digits) = omega (arith, number_from-le (10 * n + (d - 48)) digits)

pub number_of-take-le : (digits : List ℕ) (k : ℕ) → number_of (take k digits) ≤ number_of digits
number_of-take-le digits k =
    let e : number_of digits ≡ fold (λ n d. 10 * n + (d - 48)) (number_of (take k digits)) (drop k digits) =
    ap number_of (sym (take-append-drop k digits)) ∙ fold-append (λ n d. 10 * n + (d - 48)) 0 (take k digits) (drop k digits) in
    omega (arith, number_from-le (number_of (take k digits)) (drop k digits))

-- one digit more
pub number_of-more : (digits : List ℕ) (k : ℕ) → k < length digits → number_of (take (k + 1) digits) ≡ 10 * number_of (take k digits) + (get_or digits k 0 - 48)
number_of-more digits k within =
    ap number_of (take_more digits k 0 within) ∙ fold-append (λ n d. 10 * n + (d - 48)) 0 (take k digits) (get_or digits k 0 ∷ [])

-- some of the digits already spell too great a number
pub too_great : (digits : List ℕ) (k : ℕ) → most_weight < number_of (take k digits) → None ≡ cond (leb (number_of digits) most_weight) (Some (number_of digits)) None
too_great digits k over =
    let le = number_of-take-le digits k in
    let over_all : most_weight < number_of digits = omega arith in
    sym (cond-false _ _ _ (lt-leb (number_of digits) most_weight over_all))

-- the weight that digits alone spell
abbrev pub whole : List ℕ → Option ℕ
whole digits = cond (are_digits digits && leb (number_of digits) most_weight) (Some (number_of digits)) None

-- the weight of a field by its part before the point, whether it has one, and whether zeros stand after it
abbrev pub weight_by : List ℕ → Bool → Bool → Option ℕ
weight_by digits pointed zeros = cond ((are_digits digits && (not pointed || zeros)) && leb (number_of digits) most_weight) (Some (number_of digits)) None

good : (digits : List ℕ) (form : Bool) → form ≡ true → cond ((are_digits digits && form) && leb (number_of digits) most_weight) (Some (number_of digits)) None ≡ whole digits
good digits form e =
    ap (λ f. cond ((are_digits digits && f) && leb (number_of digits) most_weight) (Some (number_of digits)) None) e
    ∙ ap (λ f. cond (f && leb (number_of digits) most_weight) (Some (number_of digits)) None) (and-true (are_digits digits))
  where
    and-true : (x : Bool) → (x && true) ≡ x
    and-true true = refl
    and-true false = refl

bad : (digits : List ℕ) (form : Bool) → form ≡ false → cond ((are_digits digits && form) && leb (number_of digits) most_weight) (Some (number_of digits)) None ≡ None
bad digits form e =
    ap (λ f. cond ((are_digits digits && f) && leb (number_of digits) most_weight) (Some (number_of digits)) None) e
    ∙ ap (λ f. cond (f && leb (number_of digits) most_weight) (Some (number_of digits)) None) (and-false (are_digits digits))
  where
    and-false : (x : Bool) → (x && false) ≡ false
    and-false true = refl
    and-false false = refl

module _ (field : List ℕ) where
  -- no point
  pub weight_in-whole : None ≡ position (λ b. b == 46) field → weight_in field ≡ whole field
  weight_in-whole is =
      ap (λ digits. weight_by digits (list_any (λ b. b == 46) field) (are_zeros (after_first (λ b. b == 46) field))) (take_all _ field all)
      ∙ good field _ (ap (λ p. not p || are_zeros (after_first (λ b. b == 46) field)) none)
    where
      all : length field ≤ position_or_len (λ b. b == 46) field
      all = ⊎_elim (λ t. absurd (none-some _ (is ∙ cond-true _ _ _ t))) (λ f. ltb-false _ _ f) (cases_Bool (ltb (position_or_len (λ b. b == 46) field) (length field)))

      none : list_any (λ b. b == 46) field ≡ false
      none = list_any_none (λ b. b == 46) field (λ k d within. fails_before_first (λ b. b == 46) field k d (omega (arith, all)))

  module _ (point : ℕ) (is : Some point ≡ position (λ b. b == 46) field) where
    at_point : (position_or_len (λ b. b == 46) field ≡ point) × (list_any (λ b. b == 46) field ≡ true)
    at_point =
        let found = cond_some (ltb (position_or_len (λ b. b == 46) field) (length field)) (position_or_len (λ b. b == 46) field) point (sym is) in
        let within = ltb-true (position_or_len (λ b. b == 46) field) (length field) found.0 in
        (found.1, list_any_at (λ b. b == 46) field (position_or_len (λ b. b == 46) field) 0 within (passes_at_first (λ b. b == 46) field 0 within))

    at : weight_in field ≡ weight_by (take point field) true (are_zeros (drop (point + 1) field))
    at =
        ap (λ n. weight_by (take n field) (list_any (λ b. b == 46) field) (are_zeros (drop (n + 1) field))) at_point.0
        ∙ ap (λ p. weight_by (take point field) p (are_zeros (drop (point + 1) field))) at_point.1

    -- a point with zeros behind it
    pub weight_in-pointed : are_zeros (drop (point + 1) field) ≡ true → weight_in field ≡ whole (take point field)
    weight_in-pointed zeros = at ∙ good (take point field) (false || are_zeros (drop (point + 1) field)) zeros

    -- a point with something else behind it
    pub weight_in-broken : are_zeros (drop (point + 1) field) ≡ false → weight_in field ≡ None
    weight_in-broken zeros = at ∙ bad (take point field) (false || are_zeros (drop (point + 1) field)) zeros
