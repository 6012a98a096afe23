-- A line has the words and the number of fields that were tested, and is its fields with a space between each two.
use Rattle.std.proofs.Common.{◌≡◌, ℕ, ◌<◌, ◌≤◌, Bool, true, false, nat_le, ◌||◌, List, [], ◌∷◌, ◌++◌, length, drop, refl, sym, ap, ◌∙◌, cond, arith}
use Rattle.std.specs.Prelude.{◌==◌}
use Rattle.std.specs.List.{list_any, slice_split, starts_with, join_with_byte}
use Rattle.std.specs.Str.{bytes_eq}
use Rattle.std.proofs.lemmas.Bool.{and_parts, eqb-true, leb-true}
use Rattle.std.proofs.lemmas.List.Splits.{join_with_byte-slice_split}
use Rattle.std.proofs.lemmas.Slice.Eq.{bytes_eq-Decides}
use Rattle.report_reading.specs.ReportText.{line}
use Rattle.report_reading.specs.LineFields.{spaced_fields, field_at, has_words, has_words_and_more}

-- the line of the fields of a line is that line
pub line-spaced : (l : List ℕ) → 0 < length (spaced_fields l) → line (spaced_fields l) ≡ l ++ 10 ∷ []
line-spaced l some =
    let fields = slice_split (λ b. b == 32) l in
    by (list_any (λ b. b == 9) l || list_any (λ field. length field == 0) fields) fields (join_with_byte-slice_split 32 l) some where
      by : (bad : Bool) (fields : List (List ℕ)) → join_with_byte 32 fields ≡ l → 0 < length (cond bad [] fields) → line (cond bad [] fields) ≡ l ++ 10 ∷ []
      by true fields joined h = absurd (omega (arith, h))
      by false fields joined h = ap (λ x. x ++ 10 ∷ []) joined

-- fields that begin with a word, with two and with three words
begins-one : (w : List ℕ) (fields : List (List ℕ)) → starts_with bytes_eq fields (w ∷ []) ≡ true → fields ≡ w ∷ drop 1 fields
begins-one w [] h = absurd (cc)
begins-one w (f ∷ fields) h = ap (λ x. x ∷ fields) (sym ((bytes_eq-Decides w f).0 (and_parts (bytes_eq w f) true h).0))

begins-two : (v w : List ℕ) (fields : List (List ℕ)) → starts_with bytes_eq fields (v ∷ w ∷ []) ≡ true → fields ≡ v ∷ w ∷ drop 2 fields
begins-two v w [] h = absurd (cc)
begins-two v w (f ∷ fields) h =
    let parts = and_parts (bytes_eq v f) (starts_with bytes_eq fields (w ∷ [])) h in
    ap (λ x. x ∷ fields) (sym ((bytes_eq-Decides v f).0 parts.0)) ∙ ap (λ rest. v ∷ rest) (begins-one w fields parts.1)

begins-three : (u v w : List ℕ) (fields : List (List ℕ)) → starts_with bytes_eq fields (u ∷ v ∷ w ∷ []) ≡ true → fields ≡ u ∷ v ∷ w ∷ drop 3 fields
begins-three u v w [] h = absurd (cc)
begins-three u v w (f ∷ fields) h =
    let parts = and_parts (bytes_eq u f) (starts_with bytes_eq fields (v ∷ w ∷ [])) h in
    ap (λ x. x ∷ fields) (sym ((bytes_eq-Decides u f).0 parts.0)) ∙ ap (λ rest. u ∷ rest) (begins-two v w fields parts.1)

-- lists of so many fields
pub none-left : (fields : List (List ℕ)) → length fields ≡ 0 → fields ≡ []
none-left [] h = refl
none-left (f ∷ fields) h = absurd (omega (arith, h))

one-left : (fields : List (List ℕ)) → length fields ≡ 1 → fields ≡ field_at fields 0 ∷ []
one-left [] h = absurd (omega (arith, h))
one-left (f ∷ fields) h = ap (λ rest. f ∷ rest) (none-left fields (omega (arith, h)))

two-left : (fields : List (List ℕ)) → length fields ≡ 2 → fields ≡ field_at fields 0 ∷ field_at fields 1 ∷ []
two-left [] h = absurd (omega (arith, h))
two-left (f ∷ fields) h = ap (λ rest. f ∷ rest) (one-left fields (omega (arith, h)))

three-left : (fields : List (List ℕ)) → length fields ≡ 3 → fields ≡ field_at fields 0 ∷ field_at fields 1 ∷ field_at fields 2 ∷ []
three-left [] h = absurd (omega (arith, h))
three-left (f ∷ fields) h = ap (λ rest. f ∷ rest) (two-left fields (omega (arith, h)))

-- the test of one word
split-words : (words : List (List ℕ)) (count : ℕ) (fields : List (List ℕ)) → has_words words count fields ≡ true →
    (length fields ≡ count) × (starts_with bytes_eq fields words ≡ true)
split-words words count fields h =
    let parts = and_parts (length fields == count) (starts_with bytes_eq fields words) h in
    (eqb-true (length fields) count parts.0, parts.1)

pub words-1-1 : (w : List ℕ) (fields : List (List ℕ)) → has_words (w ∷ []) 1 fields ≡ true → fields ≡ w ∷ []
words-1-1 w [] h = absurd (cc)
words-1-1 w (f ∷ fields) h =
    let s = split-words (w ∷ []) 1 (f ∷ fields) h in
    begins-one w (f ∷ fields) s.1 ∙ ap (λ rest. w ∷ rest) (none-left fields (omega (arith, s.0)))

pub words-1-2 : (w : List ℕ) (fields : List (List ℕ)) → has_words (w ∷ []) 2 fields ≡ true → fields ≡ w ∷ field_at fields 1 ∷ []
words-1-2 w [] h = absurd (cc)
words-1-2 w (f ∷ fields) h =
    let s = split-words (w ∷ []) 2 (f ∷ fields) h in
    begins-one w (f ∷ fields) s.1 ∙ ap (λ rest. w ∷ rest) (one-left fields (omega (arith, s.0)))

pub words-1-3 : (w : List ℕ) (fields : List (List ℕ)) → has_words (w ∷ []) 3 fields ≡ true → fields ≡ w ∷ field_at fields 1 ∷ field_at fields 2 ∷ []
words-1-3 w [] h = absurd (cc)
words-1-3 w (f ∷ fields) h =
    let s = split-words (w ∷ []) 3 (f ∷ fields) h in
    begins-one w (f ∷ fields) s.1 ∙ ap (λ rest. w ∷ rest) (two-left fields (omega (arith, s.0)))

pub words-1-4 : (w : List ℕ) (fields : List (List ℕ)) → has_words (w ∷ []) 4 fields ≡ true →
    fields ≡ w ∷ field_at fields 1 ∷ field_at fields 2 ∷ field_at fields 3 ∷ []
words-1-4 w [] h = absurd (cc)
words-1-4 w (f ∷ fields) h =
    let s = split-words (w ∷ []) 4 (f ∷ fields) h in
    begins-one w (f ∷ fields) s.1 ∙ ap (λ rest. w ∷ rest) (three-left fields (omega (arith, s.0)))

pub words-2-2 : (v w : List ℕ) (fields : List (List ℕ)) → has_words (v ∷ w ∷ []) 2 fields ≡ true → fields ≡ v ∷ w ∷ []
words-2-2 v w [] h = absurd (cc)
words-2-2 v w (f ∷ []) h = absurd (cc)
words-2-2 v w (f ∷ g ∷ fields) h =
    let s = split-words (v ∷ w ∷ []) 2 (f ∷ g ∷ fields) h in
    begins-two v w (f ∷ g ∷ fields) s.1 ∙ ap (λ rest. v ∷ w ∷ rest) (none-left fields (omega (arith, s.0)))

pub words-2-3 : (v w : List ℕ) (fields : List (List ℕ)) → has_words (v ∷ w ∷ []) 3 fields ≡ true → fields ≡ v ∷ w ∷ field_at fields 2 ∷ []
words-2-3 v w [] h = absurd (cc)
words-2-3 v w (f ∷ []) h = absurd (cc)
words-2-3 v w (f ∷ g ∷ fields) h =
    let s = split-words (v ∷ w ∷ []) 3 (f ∷ g ∷ fields) h in
    begins-two v w (f ∷ g ∷ fields) s.1 ∙ ap (λ rest. v ∷ w ∷ rest) (one-left fields (omega (arith, s.0)))

pub words-2-5 : (v w : List ℕ) (fields : List (List ℕ)) → has_words (v ∷ w ∷ []) 5 fields ≡ true →
    fields ≡ v ∷ w ∷ field_at fields 2 ∷ field_at fields 3 ∷ field_at fields 4 ∷ []
words-2-5 v w [] h = absurd (cc)
words-2-5 v w (f ∷ []) h = absurd (cc)
words-2-5 v w (f ∷ g ∷ fields) h =
    let s = split-words (v ∷ w ∷ []) 5 (f ∷ g ∷ fields) h in
    begins-two v w (f ∷ g ∷ fields) s.1 ∙ ap (λ rest. v ∷ w ∷ rest) (three-left fields (omega (arith, s.0)))

pub words-3-4 : (u v w : List ℕ) (fields : List (List ℕ)) → has_words (u ∷ v ∷ w ∷ []) 4 fields ≡ true → fields ≡ u ∷ v ∷ w ∷ field_at fields 3 ∷ []
words-3-4 u v w [] h = absurd (cc)
words-3-4 u v w (f ∷ []) h = absurd (cc)
words-3-4 u v w (f ∷ g ∷ []) h = absurd (cc)
words-3-4 u v w (f ∷ g ∷ e ∷ fields) h =
    let s = split-words (u ∷ v ∷ w ∷ []) 4 (f ∷ g ∷ e ∷ fields) h in
    begins-three u v w (f ∷ g ∷ e ∷ fields) s.1 ∙ ap (λ rest. u ∷ v ∷ w ∷ rest) (one-left fields (omega (arith, s.0)))

-- a line that goes on with names: two of them or more
pub words-run : (w : List ℕ) (fields : List (List ℕ)) → has_words_and_more (w ∷ []) 3 fields ≡ true → (fields ≡ w ∷ drop 1 fields) × (2 ≤ length (drop 1 fields))
words-run w [] h = absurd (cc)
words-run w (f ∷ fields) h =
    let parts = and_parts (nat_le 3 (length (f ∷ fields))) (starts_with bytes_eq (f ∷ fields) (w ∷ [])) h in
    (begins-one w (f ∷ fields) parts.1, omega (arith, leb-true 3 (length (f ∷ fields)) parts.0))

pub words-path : (w : List ℕ) (fields : List (List ℕ)) → has_words_and_more (w ∷ []) 4 fields ≡ true →
    (fields ≡ w ∷ field_at fields 1 ∷ drop 2 fields) × (2 ≤ length (drop 2 fields))
words-path w [] h = absurd (cc)
words-path w (f ∷ []) h = absurd (no-more (and_parts (nat_le 4 1) (starts_with bytes_eq (f ∷ []) (w ∷ [])) h).0) where
  no-more : false ≡ true → ⊥
  no-more e = cc
words-path w (f ∷ g ∷ fields) h =
    let parts = and_parts (nat_le 4 (length (f ∷ g ∷ fields))) (starts_with bytes_eq (f ∷ g ∷ fields) (w ∷ [])) h in
    (begins-one w (f ∷ g ∷ fields) parts.1, omega (arith, leb-true 4 (length (f ∷ g ∷ fields)) parts.0))
