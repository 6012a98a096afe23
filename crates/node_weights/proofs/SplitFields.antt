-- Fields with a space between each two are the fields of their line, and the lines of a text are those that it was made of.
use Rattle.std.proofs.Common.{◌≡◌, ℕ, ◌<◌, ◌≤◌, ◌^◌, Bool, true, false, not, cond, nat_le, ◌&&◌, ◌||◌, List, [], ◌∷◌, ◌++◌, map, length, refl, sym, ap, ◌∙◌, arith, append_assoc, append-nil}
use Rattle.std.specs.Prelude.{◌==◌, decimal}
use Rattle.std.specs.List.{list_any, list_all, join_with_byte}
use Rattle.std.proofs.lemmas.Bool.{cond-false, and_parts, or_parts, or_from, not-true, ne_eqb, leb-true}
use Rattle.std.proofs.lemmas.Fmt.{decimal_nonempty, digits_decimal}
use Rattle.std.proofs.lemmas.List.Folds.{list_any-append}
use Rattle.graph_text.specs.Lines.{spelled_lines, onto_first, without_return, lines_of, is_blank, fields_from, fields_of}
use Rattle.graph_text.specs.Labels.{is_field}
use Rattle.report_reading.specs.ReportText.{line}
use Rattle.report_reading.proofs.Spelled.{digits_only, own}

-- a field has a byte, and no blank and no line feed
record IsPlain (f : List ℕ) : Type 0 where
  some : 0 < length f
  no_blank : list_any is_blank f ≡ false
  no_feed : list_any (λ b. b == 10) f ≡ false

plain-bytes : (f : List ℕ) → list_any (λ b. is_blank b || (b == 10)) f ≡ false → (list_any is_blank f ≡ false) × (list_any (λ b. b == 10) f ≡ false)
plain-bytes [] h = (refl, refl)
plain-bytes (b ∷ f) h =
    let parts = or_parts (is_blank b || (b == 10)) (list_any (λ b. is_blank b || (b == 10)) f) h in
    let here = or_parts (is_blank b) (b == 10) parts.0 in
    let rest = plain-bytes f parts.1 in
    (or_from (is_blank b) (list_any is_blank f) here.0 rest.0, or_from (b == 10) (list_any (λ b. b == 10) f) here.1 rest.1)

plain : (f : List ℕ) → is_field f ≡ true → IsPlain f
plain f h =
    let parts = and_parts (not (length f == 0)) (not (list_any (λ b. is_blank b || (b == 10)) f)) h in
    let bytes = plain-bytes f (not-true _ parts.1) in
    record { some = not_empty f parts.0; no_blank = bytes.0; no_feed = bytes.1 }
  where
    not_empty : (f : List ℕ) → not (length f == 0) ≡ true → 0 < length f
    not_empty [] t = absurd (cc)
    not_empty (x ∷ xs) t = omega arith

-- one more byte of a field
onto : ℕ → Bool × List (List ℕ) → Bool × List (List ℕ)
onto b r = (true, cond r.0 (onto_first b r.1) ((b ∷ []) ∷ r.1))

fields-byte : (b : ℕ) (bytes : List ℕ) → is_blank b ≡ false → fields_from (b ∷ bytes) ≡ onto b (fields_from bytes)
unfolding onto
fields-byte b bytes other = cond-false (is_blank b) (false, (fields_from bytes).1) (onto b (fields_from bytes)) other

-- a field in front of what does not go on with it
fields-bytes : (b : ℕ) (f after : List ℕ) → list_any is_blank (b ∷ f) ≡ false → (fields_from after).0 ≡ false
    → fields_from (b ∷ f ++ after) ≡ (true, (b ∷ f) ∷ (fields_from after).1)
unfolding onto
fields-bytes b [] after h apart =
    fields-byte b after (or_parts (is_blank b) false h).0
    ∙ (let step : Bool → Bool × List (List ℕ) = λ t. (true, cond t (onto_first b (fields_from after).1) ((b ∷ []) ∷ (fields_from after).1)) in ap step apart)
fields-bytes b (c ∷ f) after h apart =
    let parts = or_parts (is_blank b) (list_any is_blank (c ∷ f)) h in
    fields-byte b (c ∷ f ++ after) parts.0 ∙ ap (onto b) (fields-bytes c f after parts.1 apart)

fields-field : (f after : List ℕ) → IsPlain f → (fields_from after).0 ≡ false → fields_from (f ++ after) ≡ (true, f ∷ (fields_from after).1)
fields-field [] after is apart = absurd (omega (arith, is.some))
fields-field (b ∷ f) after is apart = fields-bytes b f after is.no_blank apart

-- the fields of joined fields
pub fields-joined : (f : List ℕ) (fs : List (List ℕ)) → list_all is_field (f ∷ fs) ≡ true → fields_of (join_with_byte 32 (f ∷ fs)) ≡ f ∷ fs
fields-joined f [] good =
    let rest : Bool × List (List ℕ) → List (List ℕ) = λ r. r.1 in
    ap fields_of (sym (append-nil f)) ∙ ap rest (fields-field f [] (plain f (and_parts (is_field f) true good).0) refl)
fields-joined f (g ∷ fs) good =
    let rest : Bool × List (List ℕ) → List (List ℕ) = λ r. r.1 in
    let parts = and_parts (is_field f) (list_all is_field (g ∷ fs)) good in
    ap rest (fields-field f (32 ∷ join_with_byte 32 (g ∷ fs)) (plain f parts.0) refl) ∙ ap (λ fields. f ∷ fields) (fields-joined g fs parts.1)

-- joined fields have no line feed
pub joined-no_feed : (fs : List (List ℕ)) → list_all is_field fs ≡ true → list_any (λ b. b == 10) (join_with_byte 32 fs) ≡ false
joined-no_feed [] good = refl
joined-no_feed (f ∷ []) good = (plain f (and_parts (is_field f) true good).0).no_feed
joined-no_feed (f ∷ g ∷ fs) good =
    let parts = and_parts (is_field f) (list_all is_field (g ∷ fs)) good in
    list_any-append (λ b. b == 10) f (32 ∷ join_with_byte 32 (g ∷ fs))
    ∙ or_from (list_any (λ b. b == 10) f) (list_any (λ b. b == 10) (32 ∷ join_with_byte 32 (g ∷ fs))) (plain f parts.0).no_feed (joined-no_feed (g ∷ fs) parts.1)

-- bytes, some, that do not end with a carriage return
pub record EndsPlain (bytes : List ℕ) : Type 0 where
  pub some : 0 < length bytes
  pub kept : without_return bytes ≡ bytes

ends-cons : (b : ℕ) (bytes : List ℕ) → EndsPlain bytes → EndsPlain (b ∷ bytes)
ends-cons b [] ends = absurd (omega (arith, ends.some))
ends-cons b (c ∷ bytes) ends = record { some = omega arith; kept = ap (λ bs. b ∷ bs) ends.kept }

ends-append : (front bytes : List ℕ) → EndsPlain bytes → EndsPlain (front ++ bytes)
ends-append [] bytes ends = ends
ends-append (b ∷ front) bytes ends = ends-cons b (front ++ bytes) (ends-append front bytes ends)

-- joined fields end as the last of them
pub ends-joined : (fs : List (List ℕ)) (last : List ℕ) → EndsPlain last → EndsPlain (join_with_byte 32 (fs ++ last ∷ []))
ends-joined [] last ends = ends
ends-joined (f ∷ []) last ends = ends-append f (32 ∷ last) (ends-cons 32 last ends)
ends-joined (f ∷ g ∷ fs) last ends =
    let behind = join_with_byte 32 ((g ∷ fs) ++ last ∷ []) in
    ends-append f (32 ∷ behind) (ends-cons 32 behind (ends-joined (g ∷ fs) last ends))

-- digits end so
digits-kept : (ds : List ℕ) → digits_only ds ≡ true → without_return ds ≡ ds
digits-kept [] h = refl
digits-kept (d ∷ []) h =
    let low : 48 ≤ d = leb-true 48 d (and_parts (nat_le 48 d) (nat_le d 57) (and_parts (nat_le 48 d && nat_le d 57) true h).0).0 in
    cond-false (d == 13) [] (d ∷ []) (ne_eqb d 13 (λ e. omega arith))
digits-kept (d ∷ c ∷ ds) h = ap (λ bs. d ∷ bs) (digits-kept (c ∷ ds) (and_parts (nat_le 48 d && nat_le d 57) (digits_only (c ∷ ds)) h).1)

pub ends-decimal : (n : ℕ) → n < 2 ^ 64 → EndsPlain (decimal n)
ends-decimal n small = record { some = decimal_nonempty n small; kept = digits-kept (decimal n) (digits_decimal own n small) }

-- the fields of a line that can be read back
pub record IsReadable (fields : List (List ℕ)) : Type 0 where
  pub good : list_all is_field fields ≡ true
  pub ends : EndsPlain (join_with_byte 32 fields)

spelled-line : (bytes rest : List ℕ) → list_any (λ b. b == 10) bytes ≡ false → spelled_lines (bytes ++ 10 ∷ rest) ≡ bytes ∷ spelled_lines rest
spelled-line [] rest h = refl
spelled-line (b ∷ bytes) rest h =
    let parts = or_parts (b == 10) (list_any (λ b. b == 10) bytes) h in
    cond-false (b == 10) ([] ∷ spelled_lines (bytes ++ 10 ∷ rest)) (onto_first b (spelled_lines (bytes ++ 10 ∷ rest))) parts.0
    ∙ ap (onto_first b) (spelled-line bytes rest parts.1)

-- a text in front of which a line stands
pub lines-line : (fields : List (List ℕ)) (rest : List ℕ) → IsReadable fields → lines_of (line fields ++ rest) ≡ join_with_byte 32 fields ∷ lines_of rest
lines-line fields rest is =
    ap (λ bytes. map without_return (spelled_lines bytes)) (append_assoc (join_with_byte 32 fields) (10 ∷ []) rest)
    ∙ ap (map without_return) (spelled-line (join_with_byte 32 fields) rest (joined-no_feed fields is.good))
    ∙ ap (λ l. l ∷ lines_of rest) is.ends.kept
