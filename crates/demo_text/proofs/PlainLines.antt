-- Lines without control bytes, and words without blanks: what a text of them is cut into.
use Rattle.std.proofs.Common.{◌≡◌, ℕ, ◌+◌, ◌%◌, ◌<◌, ◌^◌, Bool, true, false, cond, ◌&&◌, List, [], ◌∷◌, ◌++◌, map, length, refl, sym, ap, ◌∙◌, arith, append_assoc, append-nil, length-append}
use Rattle.std.specs.Prelude.{All, ◌==◌, nat_lt, codes, decimal}
use Rattle.std.specs.List.{list_all}
use Rattle.std.proofs.lemmas.Bool.{cond-false, and_parts, and_from, or_from, ne_eqb, ltb-true, lt-ltb}
use Rattle.std.proofs.lemmas.Fmt.{decimal_by_steps}
use Rattle.std.proofs.lemmas.List.Elements.{All-head, All-tail}
use Rattle.std.proofs.lemmas.List.Folds.{list_all-append}
use Rattle.graph_text.specs.Lines.{spelled_lines, onto_first, without_return, lines_of, is_blank, fields_from, fields_of}
use Rattle.demo_text.specs.Demo.{text_of}

-- no byte of a line is a line feed or a carriage return
abbrev pub IsLine : List ℕ → Type 0
IsLine line = list_all (λ b. nat_lt 13 b) line ≡ true

spelled-line : (line rest : List ℕ) → IsLine line → spelled_lines (line ++ 10 ∷ rest) ≡ line ∷ spelled_lines rest
spelled-line [] rest h = refl
spelled-line (b ∷ line) rest h =
    let p = and_parts (nat_lt 13 b) (list_all (λ b. nat_lt 13 b) line) h in
    let high : 13 < b = ltb-true 13 b p.0 in
    cond-false (b == 10) ([] ∷ spelled_lines (line ++ 10 ∷ rest)) (onto_first b (spelled_lines (line ++ 10 ∷ rest))) (ne_eqb b 10 (λ e. omega arith))
    ∙ ap (onto_first b) (spelled-line line rest p.1)

without_return-line : (line : List ℕ) → IsLine line → without_return line ≡ line
without_return-line [] h = refl
without_return-line (b ∷ []) h =
    let high : 13 < b = ltb-true 13 b (and_parts (nat_lt 13 b) true h).0 in
    cond-false (b == 13) [] (b ∷ []) (ne_eqb b 13 (λ e. omega arith))
without_return-line (b ∷ c ∷ bytes) h = ap (λ l. b ∷ l) (without_return-line (c ∷ bytes) (and_parts (nat_lt 13 b) (list_all (λ b. nat_lt 13 b) (c ∷ bytes)) h).1)

-- the lines of a text are those that it was made of
pub lines_of-text : (lines : List (List ℕ)) → All IsLine lines → lines_of (text_of lines) ≡ lines
lines_of-text [] each = refl
lines_of-text (line ∷ lines) each =
    let here : IsLine line = All-head IsLine line lines each in
    ap (λ bytes. map without_return (spelled_lines bytes)) (append_assoc line (10 ∷ []) (text_of lines))
    ∙ ap (map without_return) (spelled-line line (text_of lines) here)
    ∙ ap (λ l. l ∷ lines_of (text_of lines)) (without_return-line line here)
    ∙ ap (λ ls. line ∷ ls) (lines_of-text lines (All-tail IsLine line lines each))

-- a word: bytes above `#`, at least one
pub record IsWord (word : List ℕ) : Type 0 where
  pub some : 0 < length word
  pub bytes : list_all (λ b. nat_lt 35 b) word ≡ true

not_blank : (b : ℕ) → 35 < b → is_blank b ≡ false
not_blank b high = or_from (b == 32) (b == 9) (ne_eqb b 32 (λ e. omega arith)) (ne_eqb b 9 (λ e. omega arith))

-- one more byte of a field
onto : ℕ → Bool × List (List ℕ) → Bool × List (List ℕ)
onto b r = (true, cond r.0 (onto_first b r.1) ((b ∷ []) ∷ r.1))

fields-byte : (b : ℕ) (bytes : List ℕ) → 35 < b → fields_from (b ∷ bytes) ≡ onto b (fields_from bytes)
unfolding onto
fields-byte b bytes high = cond-false (is_blank b) (false, (fields_from bytes).1) (onto b (fields_from bytes)) (not_blank b high)

fields-bytes : (b : ℕ) (word after : List ℕ) → list_all (λ b. nat_lt 35 b) (b ∷ word) ≡ true → (fields_from after).0 ≡ false
    → fields_from (b ∷ word ++ after) ≡ (true, (b ∷ word) ∷ (fields_from after).1)
unfolding onto
fields-bytes b [] after h apart =
    fields-byte b after (ltb-true 35 b (and_parts (nat_lt 35 b) true h).0)
    ∙ (let step : Bool → Bool × List (List ℕ) = λ t. (true, cond t (onto_first b (fields_from after).1) ((b ∷ []) ∷ (fields_from after).1)) in ap step apart)
fields-bytes b (c ∷ word) after h apart =
    let p = and_parts (nat_lt 35 b) (list_all (λ b. nat_lt 35 b) (c ∷ word)) h in
    fields-byte b (c ∷ word ++ after) (ltb-true 35 b p.0) ∙ ap (onto b) (fields-bytes c word after p.1 apart)

-- a word in front of what does not go on with it
pub fields-word : (word after : List ℕ) → IsWord word → (fields_from after).0 ≡ false → fields_from (word ++ after) ≡ (true, word ∷ (fields_from after).1)
fields-word [] after is apart = absurd (omega (arith, is.some))
fields-word (b ∷ word) after is apart = fields-bytes b word after is.bytes apart

pub fields-last : (word : List ℕ) → IsWord word → fields_from word ≡ (true, word ∷ [])
fields-last word is = ap fields_from (sym (append-nil word)) ∙ fields-word word [] is refl

spaced : (u v w : List ℕ) → u ++ 32 ∷ [] ++ v ++ 32 ∷ [] ++ w ≡ u ++ (32 ∷ (v ++ (32 ∷ w)))
spaced u v w =
    append_assoc (u ++ 32 ∷ [] ++ v) (32 ∷ []) w
    ∙ append_assoc (u ++ 32 ∷ []) v (32 ∷ w)
    ∙ append_assoc u (32 ∷ []) (v ++ (32 ∷ w))

-- the fields of three words with spaces between them
pub fields-three : (u v w : List ℕ) → IsWord u → IsWord v → IsWord w → fields_of (u ++ codes " " ++ v ++ codes " " ++ w) ≡ u ∷ v ∷ w ∷ []
fields-three u v w iu iv iw =
    let rest : Bool × List (List ℕ) → List (List ℕ) = λ r. r.1 in
    ap fields_of (spaced u v w) ∙ ap rest (fields-word u (32 ∷ (v ++ (32 ∷ w))) iu refl)
    ∙ ap (λ r. u ∷ rest r) (fields-word v (32 ∷ w) iv refl)
    ∙ ap (λ r. u ∷ v ∷ rest r) (fields-last w iw)

pub fields-one : (word : List ℕ) → IsWord word → fields_of word ≡ word ∷ []
fields-one word is = let rest : Bool × List (List ℕ) → List (List ℕ) = λ r. r.1 in ap rest (fields-last word is)

-- a word is a line
pub IsLine-word : (word : List ℕ) → list_all (λ b. nat_lt 35 b) word ≡ true → IsLine word
IsLine-word [] h = refl
IsLine-word (b ∷ word) h =
    let p = and_parts (nat_lt 35 b) (list_all (λ b. nat_lt 35 b) word) h in
    let high : 35 < b = ltb-true 35 b p.0 in
    and_from (nat_lt 13 b) (list_all (λ b. nat_lt 13 b) word) (lt-ltb 13 b (omega arith)) (IsLine-word word p.1)

pub IsLine-append : (xs ys : List ℕ) → IsLine xs → IsLine ys → IsLine (xs ++ ys)
IsLine-append xs ys h k = list_all-append (λ b. nat_lt 13 b) xs ys ∙ and_from (list_all (λ b. nat_lt 13 b) xs) (list_all (λ b. nat_lt 13 b) ys) h k

-- digits are a word
pub IsWord-decimal : (n : ℕ) → n < 2 ^ 64 → IsWord (decimal n)
IsWord-decimal n low =
    decimal_by_steps (λ n ds. IsWord ds)
    (λ d small. record { some = omega arith; bytes = and_from (nat_lt 35 (48 + d)) true (lt-ltb 35 (48 + d) (omega arith)) refl })
    (λ d ds large is. record {
      some = omega (arith, is.some, length-append ds ((48 + d % 10) ∷ []));
      bytes = list_all-append (λ b. nat_lt 35 b) ds ((48 + d % 10) ∷ [])
          ∙ and_from (list_all (λ b. nat_lt 35 b) ds) (nat_lt 35 (48 + d % 10) && true) is.bytes (and_from (nat_lt 35 (48 + d % 10)) true (lt-ltb 35 (48 + d % 10) (omega arith)) refl);
    }) n low
