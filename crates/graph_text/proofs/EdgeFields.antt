-- What the weights of an edge line say of its fields.
use Rattle.std.proofs.Common.{◌≡◌, ℕ, ◌+◌, ◌-◌, ◌<◌, ◌≤◌, ◌==◌, ◌∷◌, [], List, map, take, length, get_or, ltb, Bool, true, false, not, ◌&&◌, cond, Option, Some, None, refl, sym, ap, subst, ◌∙◌, arith, ⊎_elim}
use Rattle.std.specs.Borrow.{Bor}
use Rattle.std.specs.List.{All, list_all, list_any}
use Rattle.std.specs.Prelude.{IsTrue}
use Rattle.std.specs.Option.{is_some, unwrap_or}
use Rattle.std.proofs.lemmas.Bool.{cond-true, cond-false, eq-eqb, eqb-true, cases_Bool}
use Rattle.std.proofs.lemmas.List.{get_or-map, length-map, take-map}
use Rattle.decomposition.specs.declared.Mode.{Mode}
use Rattle.decomposition.specs.declared.Mode.TheVariants.{Exact, Interval, Abs}
use Rattle.decomposition.specs.declared.Range.{Range}
use Rattle.report_terms.specs.declared.refusal.Why.TheVariants.{BadFields, BadWeight, BadRange}
use Rattle.graph_text.specs.LineFaults.{weights_in, fault_of_fields}
use Rattle.graph_text.specs.Labels.{is_field}
use Rattle.graph_text.specs.Lines.{fields_of}
use Rattle.graph_text.proofs.Splitting.{fields_are_fields}
use Rattle.graph_text.specs.Reading.{Line, ends_of, range_of, is_weight, value_of, weight_in, weights_of, range_in}

twice : (b : Bool) → (b && true) ≡ (b && b)
twice true = refl
twice false = refl

right_true : (a b : Bool) → (a && (b && true)) ≡ (a && b)
right_true true true = refl
right_true true false = refl
right_true false b = refl

-- the weights are the third field and the last one
abbrev AreWeights : Mode → List (List ℕ) → Type 0
AreWeights mode texts =
    let x = get_or texts 2 [] in
    let y = get_or texts (length texts - 1) [] in
    (list_all is_weight (weights_in mode texts) ≡ (is_weight x && is_weight y)) × (range_in (weights_in mode texts) ≡ record { lo = value_of x; hi = value_of y })

one_weight : (texts : List (List ℕ)) → length texts ≡ 3 → AreWeights Exact texts
one_weight [] h = absurd (omega arith)
one_weight (a ∷ []) h = absurd (omega arith)
one_weight (a ∷ b ∷ []) h = absurd (omega arith)
one_weight (a ∷ b ∷ w ∷ []) h = (twice (is_weight w), refl)
one_weight (a ∷ b ∷ w ∷ x ∷ xs) h = absurd (omega arith)

two_weights : (texts : List (List ℕ)) → length texts ≡ 4 → AreWeights Interval texts
two_weights [] h = absurd (omega arith)
two_weights (a ∷ []) h = absurd (omega arith)
two_weights (a ∷ b ∷ []) h = absurd (omega arith)
two_weights (a ∷ b ∷ w ∷ []) h = absurd (omega arith)
two_weights (a ∷ b ∷ w ∷ x ∷ []) h = (right_true (is_weight w) (is_weight x), refl)
two_weights (a ∷ b ∷ w ∷ x ∷ y ∷ xs) h = absurd (omega arith)

are_weights : (mode : Mode) (texts : List (List ℕ)) → length texts ≡ 2 + weights_of mode → AreWeights mode texts
are_weights Exact texts h = one_weight texts h
are_weights Interval texts h = two_weights texts h
are_weights (Abs k) texts h = one_weight texts h

fault-weights : (mode : Mode) (texts : List (List ℕ)) (sound : Bool) → length texts ≡ 2 + weights_of mode → list_all is_weight (weights_in mode texts) ≡ sound
    → fault_of_fields mode texts ≡ cond (not sound) (Some BadWeight) (cond (ltb (range_in (weights_in mode texts)).hi (range_in (weights_in mode texts)).lo) (Some BadRange) None)
fault-weights mode texts sound h e =
    let range = range_in (weights_in mode texts) in
    let rest = λ (b : Bool). cond (not b) (Some BadWeight) (cond (ltb range.hi range.lo) (Some BadRange) None) in
    cond-false (not (length texts == 2 + weights_of mode)) (Some BadFields) (rest (list_all is_weight (weights_in mode texts))) (ap not (eq-eqb (length texts) (2 + weights_of mode) h))
    ∙ ap rest e

module _ (mode : Mode) (fields : List (Bor (List ℕ))) (m : ℕ) (d : Bor (List ℕ)) (long : length fields ≡ 2 + m) (m_is : m ≡ weights_of mode) where
  abbrev texts : List (List ℕ)
  texts = map (λ (field : Bor (List ℕ)). field.now) fields

  abbrev first : Option ℕ
  first = weight_in (get_or fields 2 d).now

  abbrev last : Option ℕ
  last = weight_in (get_or fields (length fields - 1) d).now

  texts_long : length texts ≡ 2 + weights_of mode
  texts_long = length-map fields (λ (field : Bor (List ℕ)). field.now) ∙ long ∙ ap (λ n. 2 + n) m_is

  some_weight : (k : Mode) → 1 ≤ weights_of k
  some_weight Exact = omega arith
  some_weight Interval = omega arith
  some_weight (Abs k) = omega arith

  first_is : get_or texts 2 [] ≡ (get_or fields 2 d).now
  first_is = get_or-map (λ (field : Bor (List ℕ)). field.now) fields 2 d [] (omega (arith, some_weight mode))

  last_is : get_or texts (length texts - 1) [] ≡ (get_or fields (length fields - 1) d).now
  last_is =
      ap (λ n. get_or texts (n - 1) []) (length-map fields (λ (field : Bor (List ℕ)). field.now))
      ∙ get_or-map (λ (field : Bor (List ℕ)). field.now) fields (length fields - 1) d [] (omega (arith, some_weight mode))

  sound_is : list_all is_weight (weights_in mode texts) ≡ (is_some first && is_some last)
  sound_is =
      (are_weights mode texts texts_long).0
      ∙ ap (λ x. is_weight x && is_weight (get_or texts (length texts - 1) [])) first_is
      ∙ ap (λ x. is_some first && is_weight x) last_is

  -- a field that is no weight
  pub no-weights : (x y : Option ℕ) → x ≡ first → y ≡ last → (is_some x && is_some y) ≡ false → fault_of_fields mode texts ≡ Some BadWeight
  no-weights x y p q e =
      fault-weights mode texts false texts_long
      (sound_is ∙ sym (ap (λ o. is_some o && is_some y) p ∙ ap (λ o. is_some first && is_some o) q) ∙ e)

  lo_is : (lo : ℕ) → Some lo ≡ first → value_of (get_or texts 2 []) ≡ lo
  lo_is lo p = ap value_of first_is ∙ sym (ap (λ o. unwrap_or o 0) p)

  hi_is : (hi : ℕ) → Some hi ≡ last → value_of (get_or texts (length texts - 1) []) ≡ hi
  hi_is hi q = ap value_of last_is ∙ sym (ap (λ o. unwrap_or o 0) q)

  -- two weights give the range
  pub range-is : (lo hi : ℕ) → Some lo ≡ first → Some hi ≡ last → ◌≡◌ {A = Range} (record { lo = lo; hi = hi }) (range_in (weights_in mode texts))
  range-is lo hi p q =
      sym ((are_weights mode texts texts_long).1 ∙ (λ i. record { lo = lo_is lo p i; hi = hi_is hi q i }))

  pub with-weights : (lo hi : ℕ) → Some lo ≡ first → Some hi ≡ last → fault_of_fields mode texts ≡ cond (ltb hi lo) (Some BadRange) None
  with-weights lo hi p q =
      fault-weights mode texts true texts_long (sound_is ∙ sym (ap (λ o. is_some o && is_some (Some hi)) p ∙ ap (λ o. is_some first && is_some o) q))
      ∙ sym (ap (λ (r : Range). cond (ltb r.hi r.lo) (Some BadRange) None) (range-is lo hi p q))

-- fields without a fault are as many as they must be
faultless-length : (mode : Mode) (texts : List (List ℕ)) → fault_of_fields mode texts ≡ None → length texts ≡ 2 + weights_of mode
faultless-length mode texts e =
    let range = range_in (weights_in mode texts) in
    let rest = cond (not (list_all is_weight (weights_in mode texts))) (Some BadWeight) (cond (ltb range.hi range.lo) (Some BadRange) None) in
    ⊎_elim
    (λ (t : (length texts == 2 + weights_of mode) ≡ true). eqb-true (length texts) (2 + weights_of mode) t)
    (λ (f : (length texts == 2 + weights_of mode) ≡ false).
    let wrong : Some BadFields ≡ None = sym (cond-true (not (length texts == 2 + weights_of mode)) (Some BadFields) rest (ap not f)) ∙ e in cc)
    (cases_Bool (length texts == 2 + weights_of mode))

module _ (fields : List (Bor (List ℕ))) (text : List ℕ) (are : map (λ (field : Bor (List ℕ)). field.now) fields ≡ fields_of text) where
  -- each of them is a field
  pub field-at : (i : ℕ) (x : Bor (List ℕ)) → list_any (λ b. b == 10) text ≡ false → i < length fields → x ≡ get_or fields i x → IsTrue (is_field x.now)
  field-at i x one_line within read =
      let all : All (λ f. IsTrue (is_field f)) (map (λ (field : Bor (List ℕ)). field.now) fields) = subst (All (λ f. IsTrue (is_field f))) (sym are) (fields_are_fields text one_line) in
      subst (λ f. IsTrue (is_field f))
      (get_or-map (λ (field : Bor (List ℕ)). field.now) fields i x x.now within ∙ sym (ap (λ (field : Bor (List ℕ)). field.now) read))
      (all i x.now (omega (arith, length-map fields (λ (field : Bor (List ℕ)). field.now))))

  -- the first two are the ends of the line
  pub ends-are : (line : Line) (x y : Bor (List ℕ)) → line.fields ≡ fields_of text → 2 ≤ length fields → x ≡ get_or fields 0 x → y ≡ get_or fields 1 y → ends_of line ≡ x.now ∷ y.now ∷ []
  ends-are line x y same long first second =
      ap (take 2) (same ∙ sym are) ∙ take-map (λ (field : Bor (List ℕ)). field.now) 2 fields ∙ by fields long first second
    where
      by : (fields : List (Bor (List ℕ))) → 2 ≤ length fields → x ≡ get_or fields 0 x → y ≡ get_or fields 1 y → map (λ (field : Bor (List ℕ)). field.now) (take 2 fields) ≡ x.now ∷ y.now ∷ []
      by [] long first second = absurd (omega arith)
      by (a ∷ []) long first second = absurd (omega arith)
      by (a ∷ b ∷ fields) long first second = λ i. (sym first i).now ∷ (sym second i).now ∷ []

  -- their range is that of the line
  pub range-of : (mode : Mode) (line : Line) → line.fields ≡ fields_of text → range_of mode line ≡ range_in (weights_in mode (map (λ (field : Bor (List ℕ)). field.now) fields))
  range-of mode line same = ap (λ x. range_in (weights_in mode x)) (same ∙ sym are)

pub two-at-least : (mode : Mode) (fields : List (Bor (List ℕ))) → fault_of_fields mode (map (λ (field : Bor (List ℕ)). field.now) fields) ≡ None → 2 ≤ length fields
two-at-least mode fields e =
    omega (arith, faultless-length mode (map (λ (field : Bor (List ℕ)). field.now) fields) e, length-map fields (λ (field : Bor (List ℕ)). field.now))
