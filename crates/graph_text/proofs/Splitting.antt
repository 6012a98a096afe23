-- The fields of a line: the parts between its blanks that are not empty, and what its first bytes show of them.
use Rattle.std.proofs.Common.{◌≡◌, ℕ, suc, ◌+◌, ◌<◌, Bool, true, false, not, cond, ◌||◌, ◌&&◌, List, [], ◌∷◌, filter, length, drop, take, get_or, refl, sym, ap, subst, ◌∙◌, ⊎_elim, arith}
use Rattle.std.specs.Prelude.{All, IsTrue, ◌==◌}
use Rattle.std.specs.List.{list_any, slice_split, prefix_len}
use Rattle.std.specs.Str.{bytes_eq}
use Rattle.std.specs.Prelude.{nat_eq, reverse}
use Rattle.std.specs.List.{starts_with}
use Rattle.std.specs.Cmp.{nat_eq_equiv}
use Rattle.std.proofs.Common.{lit<}
use Rattle.std.proofs.lemmas.List.{take_more, reverse-append}
use Rattle.std.proofs.lemmas.Bool.{cases_Bool, cond-true, cond-false, cond_both, or_parts, or_from, or_cases, and_parts, and_from, and_left, and_right, not-true, ne_eqb, eqb-true}
use Rattle.std.proofs.lemmas.List.Elements.{All-nil, All-cons, All-head, All-tail}
use Rattle.graph_text.specs.Labels.{is_field}
use Rattle.graph_text.specs.Lines.{is_blank, onto_first, fields_from, fields_of, are_no_fields, are_hash_fields, are_run_fields, begins_with_hash}
use Rattle.graph_text.specs.Blocks.{after_blanks}

-- whether a list has an element
abbrev pub is_filled : List ℕ → Bool
is_filled field = not (length field == 0)

-- a text up to its first blank
abbrev pub front : List ℕ → List ℕ
front [] = []
front (b ∷ text) = cond (is_blank b) [] (b ∷ front text)

filled-cons : (b : ℕ) (first : List ℕ) → is_filled (b ∷ first) ≡ true
filled-cons b first = let differs : suc (length first) ≡ 0 → ⊥ = λ e. omega arith in ap not (ne_eqb (suc (length first)) 0 differs)

-- what a byte that is no blank makes of the fields behind it
onto_fields : (b : ℕ) (first : List ℕ) (others : List (List ℕ)) (begins : Bool) (fields : List (List ℕ))
    → begins ≡ is_filled first → fields ≡ filter is_filled (first ∷ others)
    → cond begins (onto_first b fields) ((b ∷ []) ∷ fields) ≡ (b ∷ first) ∷ filter is_filled others
onto_fields b [] others begins fields e f = cond-false _ _ _ e ∙ ap (λ gs. (b ∷ []) ∷ gs) f
onto_fields b (x ∷ first) others begins fields e f =
    cond-true _ _ _ (e ∙ filled-cons x first) ∙ ap (λ gs. onto_first b gs) (f ∙ cond-true _ _ _ (filled-cons x first))

-- a text as its parts between blanks, and as its fields
record Splits (text : List ℕ) : Type 0 where
  others : List (List ℕ)
  parts : slice_split is_blank text ≡ front text ∷ others
  begins : (fields_from text).0 ≡ is_filled (front text)
  fields : (fields_from text).1 ≡ filter is_filled (front text ∷ others)

module _ (b : ℕ) (text : List ℕ) where
  fields_after_blank : is_blank b ≡ true → fields_from (b ∷ text) ≡ (false, (fields_from text).1)
  fields_after_blank t = cond-true _ _ _ t

  fields_at_other : is_blank b ≡ false
      → fields_from (b ∷ text) ≡ (true, cond (fields_from text).0 (onto_first b (fields_from text).1) ((b ∷ []) ∷ (fields_from text).1))
  fields_at_other f = cond-false _ _ _ f

  splits_blank : is_blank b ≡ true → Splits text → Splits (b ∷ text)
  splits_blank t before =
      let e : front (b ∷ text) ≡ [] = cond-true _ _ _ t in
      record {
        others = front text ∷ before.others;
        parts = cond-true _ _ _ t ∙ ap (λ ps. [] ∷ ps) before.parts ∙ ap (λ f. f ∷ front text ∷ before.others) (sym e);
        begins = ap (λ (p : Bool × List (List ℕ)). p.0) (fields_after_blank t) ∙ ap is_filled (sym e);
        fields =
            ap (λ (p : Bool × List (List ℕ)). p.1) (fields_after_blank t) ∙ before.fields
            ∙ ap (λ f. filter is_filled (f ∷ front text ∷ before.others)) (sym e);
      }

  splits_other : is_blank b ≡ false → Splits text → Splits (b ∷ text)
  splits_other f before =
      let e : front (b ∷ text) ≡ b ∷ front text = cond-false _ _ _ f in
      record {
        others = before.others;
        parts = cond-false _ _ _ f ∙ ap (λ ps. onto_first b ps) before.parts ∙ ap (λ p. p ∷ before.others) (sym e);
        begins = ap (λ (p : Bool × List (List ℕ)). p.0) (fields_at_other f) ∙ sym (filled-cons b (front text)) ∙ ap is_filled (sym e);
        fields =
            ap (λ (p : Bool × List (List ℕ)). p.1) (fields_at_other f)
            ∙ onto_fields b (front text) before.others (fields_from text).0 (fields_from text).1 before.begins before.fields
            ∙ sym (cond-true _ _ _ (filled-cons b (front text)))
            ∙ ap (λ p. filter is_filled (p ∷ before.others)) (sym e);
      }

splits : (text : List ℕ) → Splits text
splits [] = record { others = []; parts = refl; begins = refl; fields = refl }
splits (b ∷ text) = ⊎_elim (λ t. splits_blank b text t (splits text)) (λ f. splits_other b text f (splits text)) (cases_Bool (is_blank b))

-- the fields are the parts between blanks that are not empty
pub fields_by_split : (text : List ℕ) → fields_of text ≡ filter is_filled (slice_split is_blank text)
fields_by_split text = let s = splits text in s.fields ∙ ap (λ ps. filter is_filled ps) (sym s.parts)

-- the fields of a text that begins with a byte that is no blank
fields_of-other : (b : ℕ) (text : List ℕ) → is_blank b ≡ false → (others : List (List ℕ)) × (fields_of (b ∷ text) ≡ (b ∷ front text) ∷ others)
fields_of-other b text f =
    let s = splits text in (
      filter is_filled s.others,
      ap (λ (p : Bool × List (List ℕ)). p.1) (fields_at_other b text f)
          ∙ onto_fields b (front text) s.others (fields_from text).0 (fields_from text).1 s.begins s.fields,
    )

-- the blanks at the beginning of a text
pub after_blanks-blank : (b : ℕ) (text : List ℕ) → is_blank b ≡ true → after_blanks (b ∷ text) ≡ after_blanks text
after_blanks-blank b text t =
    let e : prefix_len is_blank (b ∷ text) ≡ suc (prefix_len is_blank text) = cond-true _ _ _ t ∙ omega arith in
    ap (λ n. drop (length (take n (b ∷ text))) (b ∷ text)) e

pub after_blanks-other : (b : ℕ) (text : List ℕ) → is_blank b ≡ false → after_blanks (b ∷ text) ≡ b ∷ text
after_blanks-other b text f =
    let e : prefix_len is_blank (b ∷ text) ≡ 0 = cond-false _ _ _ f in
    ap (λ n. drop (length (take n (b ∷ text))) (b ∷ text)) e

-- a test of the fields that a text shows from its first byte on that is no blank
kind : {X : Type 0} (of_fields : List (List ℕ) → X) (of_rest : List ℕ → X) → of_fields [] ≡ of_rest []
    → ((b : ℕ) (text : List ℕ) (others : List (List ℕ)) → is_blank b ≡ false → of_fields ((b ∷ front text) ∷ others) ≡ of_rest (b ∷ text))
    → (text : List ℕ) → of_fields (fields_of text) ≡ of_rest (after_blanks text)
kind of_fields of_rest none some [] = none
kind of_fields of_rest none some (b ∷ text) =
    ⊎_elim
    (λ t. ap of_fields (ap (λ (p : Bool × List (List ℕ)). p.1) (fields_after_blank b text t)) ∙ kind of_fields of_rest none some text ∙ ap of_rest (sym (after_blanks-blank b text t)))
    (λ f. let fields = fields_of-other b text f in ap of_fields fields.1 ∙ some b text fields.0 f ∙ ap of_rest (sym (after_blanks-other b text f)))
    (cases_Bool (is_blank b))

pub blank_kind : (text : List ℕ) → are_no_fields (fields_of text) ≡ (length (after_blanks text) == 0)
blank_kind = kind are_no_fields (λ rest. length rest == 0) refl (λ b text others f. let e = filled-cons b text in sym (not-true (suc (length text) == 0) e))

pub hash_kind : (text : List ℕ) → are_hash_fields (fields_of text) ≡ begins_with_hash (after_blanks text)
hash_kind = kind are_hash_fields begins_with_hash refl (λ b text others f. refl)

and-true : (x : Bool) → (x && true) ≡ x
and-true true = refl
and-true false = refl

-- whether the first field is `#S` in a text that begins with no blank
abbrev pub begins_run : List ℕ → Bool
begins_run [] = false
begins_run (b ∷ []) = false
begins_run (b ∷ c ∷ []) = (b == 35) && (c == 83)
begins_run (b ∷ c ∷ d ∷ text) = (b == 35) && ((c == 83) && is_blank d)

pub run_kind : (text : List ℕ) → are_run_fields (fields_of text) ≡ begins_run (after_blanks text)
run_kind = kind are_run_fields begins_run refl (λ b text others f. by b text)
  where
    last : (d : ℕ) (text : List ℕ) → bytes_eq (front (d ∷ text)) [] ≡ is_blank d
    last d text = ⊎_elim (λ t. ap (λ f. bytes_eq f []) (cond-true (is_blank d) [] _ t) ∙ sym t) (λ f. ap (λ f. bytes_eq f []) (cond-false (is_blank d) [] _ f) ∙ sym f) (cases_Bool (is_blank d))

    second : (c : ℕ) (text : List ℕ) → bytes_eq (front (c ∷ text)) (83 ∷ []) ≡ ((c == 83) && bytes_eq (front text) [])
    second c text = ⊎_elim (λ t. ap (λ f. bytes_eq f (83 ∷ [])) (cond-true (is_blank c) [] _ t) ∙ sym (and_left _ _ (other t))) (λ f. ap (λ f. bytes_eq f (83 ∷ [])) (cond-false (is_blank c) [] _ f)) (cases_Bool (is_blank c))
      where
        other : is_blank c ≡ true → (c == 83) ≡ false
        other t = ⊎_elim (λ e. ne_eqb c 83 (differs 32 (eqb-true c 32 e) (lit< tt))) (λ e. ne_eqb c 83 (differs 9 (eqb-true c 9 e) (lit< tt))) (or_cases (c == 32) (c == 9) t)
          where
            differs : (n : ℕ) → c ≡ n → n < 83 → c ≡ 83 → ⊥
            differs n e small is = omega arith

    by : (b : ℕ) (text : List ℕ) → bytes_eq (b ∷ front text) (35 ∷ 83 ∷ []) ≡ begins_run (b ∷ text)
    by b [] = and_right _ _ refl
    by b (c ∷ []) = ap (λ s. (b == 35) && s) (second c [] ∙ and-true (c == 83))
    by b (c ∷ d ∷ text) = ap (λ s. (b == 35) && s) (second c (d ∷ text) ∙ ap (λ s. (c == 83) && s) (last d text))

-- what a text shows by `starts_with`
is-eqb : (a b : ℕ) → (a == b) ≡ (b == a)
is-eqb a b = nat_eq_equiv.symm a b

pub begins_with_hash-starts_with : (rest : List ℕ) → starts_with nat_eq rest (35 ∷ []) ≡ begins_with_hash rest
begins_with_hash-starts_with [] = refl
begins_with_hash-starts_with (b ∷ rest) = and-true (35 == b) ∙ is-eqb 35 b

pub begins_run-starts_with : (rest : List ℕ) → begins_run rest ≡ (starts_with nat_eq rest (35 ∷ 83 ∷ []) && ((length rest == 2) || is_blank (get_or rest 2 0)))
begins_run-starts_with [] = refl
begins_run-starts_with (b ∷ []) = sym (and_left _ _ (and_right (35 == b) false refl))
begins_run-starts_with (b ∷ c ∷ []) =
    ap (λ x. x && (c == 83)) (is-eqb b 35) ∙ ap (λ x. (35 == b) && x) (is-eqb c 83 ∙ sym (and-true (83 == c))) ∙ sym (and-true ((35 == b) && ((83 == c) && true)))
begins_run-starts_with (b ∷ c ∷ d ∷ rest) =
    ap (λ x. x && ((c == 83) && is_blank d)) (is-eqb b 35) ∙ ap (λ x. (35 == b) && (x && is_blank d)) (is-eqb c 83)
    ∙ by (35 == b) (83 == c) (is_blank d)
    ∙ ap (λ x. ((35 == b) && ((83 == c) && true)) && (x || is_blank d)) (sym long)
  where
    by : (x y z : Bool) → (x && (y && z)) ≡ ((x && (y && true)) && (false || z))
    by true true z = refl
    by true false z = refl
    by false y z = refl

    long : (suc (suc (suc (length rest))) == 2) ≡ false
    long = let differs : suc (suc (suc (length rest))) ≡ 2 → ⊥ = λ e. omega arith in ne_eqb (suc (suc (suc (length rest)))) 2 differs

pub run_kind-at : (text rest : List ℕ) → rest ≡ after_blanks text
    → are_run_fields (fields_of text) ≡ (starts_with nat_eq rest (35 ∷ 83 ∷ []) && ((length rest == 2) || is_blank (get_or rest 2 0)))
run_kind-at text rest is = run_kind text ∙ ap begins_run (sym is) ∙ begins_run-starts_with rest

-- one blank more at the end of a text
pub after_blanks-reverse_more : (rest : List ℕ) (n : ℕ) → n < length rest → is_blank (get_or rest n 0) ≡ true
    → after_blanks (reverse (take (n + 1) rest)) ≡ after_blanks (reverse (take n rest))
after_blanks-reverse_more rest n within t =
    ap (λ xs. after_blanks (reverse xs)) (take_more rest n 0 within)
    ∙ ap after_blanks (reverse-append (take n rest) (get_or rest n 0 ∷ []))
    ∙ after_blanks-blank (get_or rest n 0) (reverse (take n rest)) t

-- a field of a line without a line feed is a field
onto_first-fields : (b : ℕ) (fields : List (List ℕ)) → is_blank b ≡ false → (b == 10) ≡ false → All (λ f. IsTrue (is_field f)) fields → All (λ f. IsTrue (is_field f)) (onto_first b fields)
onto_first-fields b [] blank feed each = All-cons (λ f. IsTrue (is_field f)) (b ∷ []) [] (alone b blank feed) (All-nil (λ f. IsTrue (is_field f)))
  where
    alone : (b : ℕ) → is_blank b ≡ false → (b == 10) ≡ false → IsTrue (is_field (b ∷ []))
    alone b blank feed = ap not (or_from _ _ (or_from _ _ blank feed) refl)
onto_first-fields b (field ∷ fields) blank feed each =
    All-cons (λ f. IsTrue (is_field f)) (b ∷ field) fields
    (and_from _ _ (filled-cons b field) (ap not (or_from _ _ (or_from _ _ blank feed) (not-true _ (and_parts _ _ (All-head (λ f. IsTrue (is_field f)) field fields each)).1))))
    (All-tail (λ f. IsTrue (is_field f)) field fields each)

pub fields_are_fields : (text : List ℕ) → list_any (λ b. b == 10) text ≡ false → All (λ f. IsTrue (is_field f)) (fields_of text)
fields_are_fields [] none = All-nil (λ f. IsTrue (is_field f))
fields_are_fields (b ∷ text) none =
    let feed : ((b == 10) ≡ false) × (list_any (λ b. b == 10) text ≡ false) = or_parts (b == 10) _ none in
    let rest : All (λ f. IsTrue (is_field f)) (fields_of text) = fields_are_fields text feed.1 in
    ⊎_elim
    (λ t. subst (All (λ f. IsTrue (is_field f))) (sym (ap (λ (p : Bool × List (List ℕ)). p.1) (fields_after_blank b text t))) rest)
    (λ f. subst (All (λ f. IsTrue (is_field f))) (sym (ap (λ (p : Bool × List (List ℕ)). p.1) (fields_at_other b text f)))
    (cond_both (fields_from text).0 _ _ (All (λ f. IsTrue (is_field f)))
    (λ _. onto_first-fields b (fields_of text) f feed.0 rest)
    (λ _. All-cons (λ f. IsTrue (is_field f)) (b ∷ []) (fields_of text) (ap not (or_from _ _ (or_from _ _ f feed.0) refl)) rest)))
    (cases_Bool (is_blank b))
