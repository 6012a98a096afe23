-- Lines of fields are cut into these fields.
use Rattle.std.proofs.Common.{◌≡◌, ℕ, true, false, not, ◌||◌, List, [], ◌∷◌, ◌++◌, length, refl, ap, ◌∙◌, append_assoc}
use Rattle.std.specs.Prelude.{◌==◌}
use Rattle.std.specs.List.{list_any, list_all, slice_split, onto_first, join_with_byte}
use Rattle.std.proofs.lemmas.Bool.{and_parts, or_parts, or_from, not-true, eq-eqb, cond-false}
use Rattle.std.proofs.lemmas.List.Folds.{list_any-append}
use Rattle.std.proofs.lemmas.List.Splits.{slice_split-cons_yes, slice_split-cons_no}
use Rattle.graph_text.specs.Lines.{is_blank}
use Rattle.graph_text.specs.Labels.{is_field}
use Rattle.report_reading.specs.ReportText.{line}
use Rattle.report_reading.specs.LineFields.{spaced_fields}
use Rattle.report_reading.specs.BadLines.{text_lines}

-- bytes without such a byte are one part
split-none : (c : ℕ) (f : List ℕ) → list_any (λ b. b == c) f ≡ false → slice_split (λ b. b == c) f ≡ f ∷ []
split-none c [] h = refl
split-none c (b ∷ f) h =
    let parts = or_parts (b == c) (list_any (λ x. x == c) f) h in
    slice_split-cons_no (λ x. x == c) b f parts.0 ∙ ap (onto_first b) (split-none c f parts.1)

-- the first such byte ends the first part
pub split-at : (c : ℕ) (f rest : List ℕ) → list_any (λ b. b == c) f ≡ false → slice_split (λ b. b == c) (f ++ c ∷ rest) ≡ f ∷ slice_split (λ b. b == c) rest
split-at c [] rest h = slice_split-cons_yes (λ x. x == c) c rest (eq-eqb c c refl)
split-at c (b ∷ f) rest h =
    let parts = or_parts (b == c) (list_any (λ x. x == c) f) h in
    slice_split-cons_no (λ x. x == c) b (f ++ c ∷ rest) parts.0 ∙ ap (onto_first b) (split-at c f rest parts.1)

-- a field has no space, no tab and no line feed
pub record IsClean (f : List ℕ) : Type 0 where
  pub space : list_any (λ b. b == 32) f ≡ false
  pub tab : list_any (λ b. b == 9) f ≡ false
  pub feed : list_any (λ b. b == 10) f ≡ false

clean : (f : List ℕ) → list_any (λ b. is_blank b || (b == 10)) f ≡ false → IsClean f
clean [] h = record { space = refl; tab = refl; feed = refl }
clean (b ∷ f) h =
    let parts = or_parts (is_blank b || (b == 10)) (list_any (λ b. is_blank b || (b == 10)) f) h in
    let one = or_parts (is_blank b) (b == 10) parts.0 in
    let two = or_parts (b == 32) (b == 9) one.0 in
    let rest = clean f parts.1 in
    record {
      space = or_from (b == 32) (list_any (λ b. b == 32) f) two.0 rest.space;
      tab = or_from (b == 9) (list_any (λ b. b == 9) f) two.1 rest.tab;
      feed = or_from (b == 10) (list_any (λ b. b == 10) f) one.1 rest.feed;
    }

pub field-clean : (f : List ℕ) → is_field f ≡ true → IsClean f
field-clean f h =
    clean f (not-true _ (and_parts (not (length f == 0)) (not (list_any (λ b. is_blank b || (b == 10)) f)) h).1)

field-some : (f : List ℕ) → is_field f ≡ true → (length f == 0) ≡ false
field-some f h = not-true _ (and_parts (not (length f == 0)) (not (list_any (λ b. is_blank b || (b == 10)) f)) h).0

-- fields joined by spaces have no tab and no line feed, and are cut at the spaces
record IsJoined (fs : List (List ℕ)) : Type 0 where
  parts : slice_split (λ b. b == 32) (join_with_byte 32 fs) ≡ fs
  pub tab : list_any (λ b. b == 9) (join_with_byte 32 fs) ≡ false
  pub feed : list_any (λ b. b == 10) (join_with_byte 32 fs) ≡ false
  some : list_any (λ field. length field == 0) fs ≡ false

joined : (f : List ℕ) (fs : List (List ℕ)) → list_all is_field (f ∷ fs) ≡ true → IsJoined (f ∷ fs)
joined f [] h =
    let one = (and_parts (is_field f) true h).0 in
    let c = field-clean f one in
    record { parts = split-none 32 f c.space; tab = c.tab; feed = c.feed; some = or_from (length f == 0) false (field-some f one) refl }
joined f (g ∷ fs) h =
    let all = and_parts (is_field f) (list_all is_field (g ∷ fs)) h in
    let c = field-clean f all.0 in
    let rest = joined g fs all.1 in
    let behind = join_with_byte 32 (g ∷ fs) in
    record {
      parts = split-at 32 f behind c.space ∙ ap (λ x. f ∷ x) rest.parts;
      tab = list_any-append (λ b. b == 9) f (32 ∷ behind) ∙ or_from (list_any (λ b. b == 9) f) (list_any (λ b. b == 9) (32 ∷ behind)) c.tab (or_from (32 == 9) (list_any (λ b. b == 9) behind) refl rest.tab);
      feed = list_any-append (λ b. b == 10) f (32 ∷ behind) ∙ or_from (list_any (λ b. b == 10) f) (list_any (λ b. b == 10) (32 ∷ behind)) c.feed (or_from (32 == 10) (list_any (λ b. b == 10) behind) refl rest.feed);
      some = or_from (length f == 0) (list_any (λ field. length field == 0) (g ∷ fs)) (field-some f all.0) rest.some;
    }

-- the fields of a line of fields
pub spaced_fields-join : (f : List ℕ) (fs : List (List ℕ)) → list_all is_field (f ∷ fs) ≡ true → spaced_fields (join_with_byte 32 (f ∷ fs)) ≡ f ∷ fs
spaced_fields-join f fs good =
    let j = joined f fs good in
    let l = join_with_byte 32 (f ∷ fs) in
    let parts = slice_split (λ b. b == 32) l in
    cond-false _ [] parts
    (or_from (list_any (λ b. b == 9) l) (list_any (λ field. length field == 0) parts) j.tab (ap (list_any (λ field. length field == 0)) j.parts ∙ j.some))
    ∙ j.parts

-- a text that begins with a line of fields has it as its first line
pub text_lines-line : (f : List ℕ) (fs : List (List ℕ)) (rest : List ℕ) → list_all is_field (f ∷ fs) ≡ true →
    text_lines (line (f ∷ fs) ++ rest) ≡ join_with_byte 32 (f ∷ fs) ∷ text_lines rest
text_lines-line f fs rest good =
    ap text_lines (append_assoc (join_with_byte 32 (f ∷ fs)) (10 ∷ []) rest)
    ∙ split-at 10 (join_with_byte 32 (f ∷ fs)) rest (joined f fs good).feed
