-- A text whose lines are all taken is the text of the report that they tell.
use Rattle.std.proofs.Common.{◌≡◌, ℕ, ◌+◌, true, false, nat_le, ◌&&◌, cond, List, [], ◌∷◌, ◌++◌, length, refl, sym, ap, ◌∙◌, subst, append-nil, append_assoc, arith}
use Rattle.std.specs.Prelude.{Result, Ok, Err, ◌==◌}
use Rattle.std.specs.List.{join_with_byte}
use Rattle.std.proofs.lemmas.Bool.{and_from, cond-false, ne_eqb}
use Rattle.std.proofs.lemmas.List.Splits.{join_with_byte-slice_split}
use Rattle.graph_text.specs.Labels.{LabelLists}
use Rattle.report_reading.specs.declared.draft.Draft.{Draft}
use Rattle.report_reading.specs.declared.draft.Place.{Place}
use Rattle.report_reading.specs.declared.draft.Place.TheVariants.{Graph, Model, Third, Lower, Upper, PathOrCert, Item, TrailHead, TrailToken, SafeOrEnd, Run, End, Nothing}
use Rattle.report_reading.specs.declared.read_fault.ReadWhy.{ReadWhy}
use Rattle.report_terms.specs.NetFacts.{is_mode}
use Rattle.report_reading.specs.ReportText.{text_of, fits, is_name, is_regular, is_regular_body}
use Rattle.report_reading.specs.BadLines.{step, at_last, numbered, read_from, text_lines, empty_draft, drafted, drafted_body, IsTextOf}
use Rattle.report_reading.proofs.ReadSoFar.{text_at, IsFitAt, IsDone, ReadsTo}
use Rattle.report_reading.proofs.Extending.{step-extends}

-- the report of a draft at its end is regular
done-regular : (labels : LabelLists) (d : Draft) → IsDone labels d → is_regular labels (drafted d) ≡ true
done-regular labels d is =
    let body = is_regular_body labels (drafted_body d.refusal d.solved) in
    and_from (nat_le 1 d.index && fits d.index) (is_name d.name && (is_mode d.mode && body)) is.modelled.headed.index
    (and_from (is_name d.name) (is_mode d.mode && body) is.modelled.headed.name (and_from (is_mode d.mode) body is.modelled.mode is.body))

-- the end of a text that is taken
record Closes (d e : Draft) (rest : List ℕ) : Type 0 where
  place_is : d.place ≡ Nothing
  rest_is : rest ≡ []
  same : d ≡ e

empty-rest : (rest : List ℕ) (n : ℕ) (why : ReadWhy) (d e : Draft) →
    (let r : Result Draft (ℕ × ReadWhy) = cond (length rest == 0) (Ok d) (Err (n, why)) in r ≡ Ok e) → (rest ≡ []) × (d ≡ e)
empty-rest [] n why d e h = (refl, cc)
empty-rest (b ∷ rest) n why d e h =
    let some : (length (b ∷ rest) == 0) ≡ false = ne_eqb (length (b ∷ rest)) 0 (λ none. omega (arith, none)) in
    let taken : Result Draft (ℕ × ReadWhy) = Ok d in
    let bad : Result Draft (ℕ × ReadWhy) = Err (n, why) in
    absurd (cc (sym (cond-false (length (b ∷ rest) == 0) taken bad some) ∙ h))

closes : (d e : Draft) (rest : List ℕ) (n : ℕ) → at_last d rest n d.place ≡ Ok e → Closes d e rest
closes d e rest n h = by d.place refl h where
  by : (p : Place) → d.place ≡ p → at_last d rest n p ≡ Ok e → Closes d e rest
  by Graph is h = absurd (cc)
  by Model is h = absurd (cc)
  by Third is h = absurd (cc)
  by Lower is h = absurd (cc)
  by Upper is h = absurd (cc)
  by PathOrCert is h = absurd (cc)
  by (Item k) is h = absurd (cc)
  by TrailHead is h = absurd (cc)
  by (TrailToken k) is h = absurd (cc)
  by SafeOrEnd is h = absurd (cc)
  by (Run k) is h = absurd (cc)
  by End is h = absurd (cc)
  by Nothing is h = let r = empty-rest rest n _ d e h in record { place_is = is; rest_is = r.0; same = r.1 }

taken : (n : ℕ) (rest : Draft → Result Draft (ℕ × ReadWhy)) (r : Result Draft ReadWhy) (e : Draft) → numbered n rest r ≡ Ok e →
    (d : Draft) × (r ≡ Ok d) × (rest d ≡ Ok e)
taken n rest (Ok d) e h = (d, refl, h)
taken n rest (Err why) e h = absurd (cc)

-- what is read so far, and the last line, which is empty
at_end : (labels : LabelLists) (text rest : List ℕ) (n : ℕ) (d e : Draft) → ReadsTo labels text d → at_last d rest n d.place ≡ Ok e →
    IsTextOf labels (drafted e) (text ++ rest)
at_end labels text rest n d e reads h =
    let c = closes d e rest n h in
    let done : IsDone labels d = subst (IsFitAt labels d) c.place_is reads.fit in
    let is : text ++ rest ≡ text_of labels (drafted d) = ap (λ r. text ++ r) c.rest_is ∙ append-nil text ∙ reads.text_is ∙ ap (text_at labels d) c.place_is in
    subst (λ x. IsTextOf labels (drafted x) (text ++ rest)) c.same (record { regular = done-regular labels d done; text_is = is })

-- what is read so far, and the lines behind it
pub reads-on : (labels : LabelLists) (text : List ℕ) (lines : List (List ℕ)) (n : ℕ) (d e : Draft) → ReadsTo labels text d →
    read_from labels lines n d ≡ Ok e → IsTextOf labels (drafted e) (text ++ join_with_byte 10 lines)
reads-on labels text [] n d e reads h = at_end labels text [] n d e reads h
reads-on labels text (rest ∷ []) n d e reads h = at_end labels text rest n d e reads h
reads-on labels text (l ∷ next ∷ lines) n d e reads h =
    let t = taken n (read_from labels (next ∷ lines) (n + 1)) (step labels d l) e h in
    let s = step-extends labels d t.0 l d.place reads.fit t.1 in
    let one = text ++ (l ++ 10 ∷ []) in
    let reads_one : ReadsTo labels one t.0 = record { text_is = ap (λ x. x ++ (l ++ 10 ∷ [])) reads.text_is ∙ s.text_is; fit = s.fit } in
    let behind = join_with_byte 10 (next ∷ lines) in
    let split : one ++ behind ≡ text ++ (l ++ 10 ∷ behind) =
    append_assoc text (l ++ 10 ∷ []) behind ∙ ap (λ x. text ++ x) (append_assoc l (10 ∷ []) behind) in
    subst (IsTextOf labels (drafted e)) split (reads-on labels one (next ∷ lines) (n + 1) t.0 e reads_one t.2)

-- a text that is read is the text of the report that was drafted
pub text-read : (labels : LabelLists) (text : List ℕ) (e : Draft) → read_from labels (text_lines text) 1 empty_draft ≡ Ok e →
    IsTextOf labels (drafted e) text
text-read labels text e h =
    let start : ReadsTo labels [] empty_draft =
    record { text_is = refl; fit = record { no_refusal = refl; no_paths = refl; no_trail = refl; no_safe = refl } } in
    subst (IsTextOf labels (drafted e)) (join_with_byte-slice_split 10 text) (reads-on labels [] (text_lines text) 1 empty_draft e start h)
