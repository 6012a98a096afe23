-- Reading a text line by line.
use Rattle.std.proofs.Common.{◌≡◌, ℕ, ◌+◌, ◌<◌, List, [], ◌∷◌, length, take, drop, refl, sym, ap, ◌∙◌, subst, arith}
use Rattle.std.specs.Prelude.{Option, Some, None, Result, Ok, Err, ◌==◌}
use Rattle.std.specs.List.{position}
use Rattle.std.proofs.lemmas.List.Quantifiers.{position-Some}
use Rattle.std.proofs.lemmas.List.Splits.{slice_split_none, slice_split_first, length-slice_split}
use Rattle.std.proofs.lemmas.List.Sums.{fails_before_first}
use Rattle.graph_text.specs.Labels.{LabelLists}
use Rattle.report_reading.specs.declared.draft.Draft.{Draft}
use Rattle.report_reading.specs.declared.read_fault.ReadWhy.{ReadWhy}
use Rattle.report_reading.specs.declared.read_fault.ReadFault.{ReadFault}
use Rattle.report_reading.specs.declared.read_fault.ReadFault.TheVariants.{Refused, Memory}
use Rattle.report_reading.specs.BadLines.{step, at_last, numbered, read_from, text_lines, bad_line, bad_at, RefusesAs}
use Rattle.report_reading.proofs.Blanks.{place-found, place-missing}

-- a text with a line feed is a line and the lines behind it
first_line : (text : List ℕ) (i : ℕ) → position (λ b. b == 10) text ≡ Some i → text_lines text ≡ take i text ∷ text_lines (drop (i + 1) text)
first_line text i h =
    let e = place-found (λ b. b == 10) text i (sym h) in
    let there = (position-Some (λ b. b == 10) text i 0 h).0 in
    slice_split_first (λ b. b == 10) text 0 (subst (λ k. k < length text) e there)
    ∙ ap (λ k. take k text ∷ text_lines (drop (k + 1) text)) (sym e)

-- a text without one is a line that is not ended
pub last_line : (text : List ℕ) → position (λ b. b == 10) text ≡ None → text_lines text ≡ text ∷ []
last_line text h =
    let all = place-missing (λ b. b == 10) text (sym h) in
    slice_split_none (λ b. b == 10) text (λ k d within. fails_before_first (λ b. b == 10) text k d (omega (arith, all)))

-- there is always a line
pub some_line : (text : List ℕ) → 0 < length (text_lines text)
some_line text = omega (arith, length-slice_split (λ b. b == 10) text)

pub read_from-cons : (labels : LabelLists) (l : List ℕ) (lines : List (List ℕ)) (n : ℕ) (d : Draft) → 0 < length lines →
    read_from labels (l ∷ lines) n d ≡ numbered n (read_from labels lines (n + 1)) (step labels d l)
read_from-cons labels l [] n d some = absurd (omega (arith, some))
read_from-cons labels l (next ∷ lines) n d some = refl

-- what the first line of a text does to the reading of it
read-first : (labels : LabelLists) (text : List ℕ) (n i : ℕ) (d : Draft) → position (λ b. b == 10) text ≡ Some i →
    read_from labels (text_lines text) n d
    ≡ numbered n (read_from labels (text_lines (drop (i + 1) text)) (n + 1)) (step labels d (take i text))
read-first labels text n i d h =
    ap (λ lines. read_from labels lines n d) (first_line text i h)
    ∙ read_from-cons labels (take i text) (text_lines (drop (i + 1) text)) n d (some_line (drop (i + 1) text))

-- a line that is taken leaves the lines behind it
pub read-next : (labels : LabelLists) (text line rest : List ℕ) (n i : ℕ) (d e : Draft) → position (λ b. b == 10) text ≡ Some i →
    line ≡ take i text → rest ≡ drop (i + 1) text → step labels d line ≡ Ok e →
    read_from labels (text_lines text) n d ≡ read_from labels (text_lines rest) (n + 1) e
read-next labels text line rest n i d e h is_line is_rest taken =
    read-first labels text n i d h
    ∙ ap (λ l. numbered n (read_from labels (text_lines (drop (i + 1) text)) (n + 1)) (step labels d l)) (sym is_line)
    ∙ ap (λ r. numbered n (read_from labels (text_lines (drop (i + 1) text)) (n + 1)) r) taken
    ∙ ap (λ r. read_from labels (text_lines r) (n + 1) e) (sym is_rest)

bad-numbered : (n : ℕ) (rest : Draft → Result Draft (ℕ × ReadWhy)) (r : Result Draft ReadWhy) (bad : ℕ × ReadWhy) → bad_at n r ≡ Some bad →
    bad_line (numbered n rest r) ≡ Some bad
bad-numbered n rest (Ok d) bad h = absurd (cc)
bad-numbered n rest (Err why) bad h = h

-- a fault of the first bad line is one of another that is the same
RefusesAs-same : (one other : Option (ℕ × ReadWhy)) (fault : ReadFault) → ((bad : ℕ × ReadWhy) → one ≡ Some bad → other ≡ Some bad) →
    RefusesAs one fault → RefusesAs other fault
RefusesAs-same one other (Refused r) same h = same (r.line, r.why) h
RefusesAs-same one other Memory same h = tt

-- a line that is not taken is the first bad one
pub RefusesAs-first : (labels : LabelLists) (text line : List ℕ) (n i : ℕ) (d : Draft) (all : Result Draft (ℕ × ReadWhy)) (fault : ReadFault) →
    all ≡ read_from labels (text_lines text) n d → position (λ b. b == 10) text ≡ Some i → line ≡ take i text →
    RefusesAs (bad_at n (step labels d line)) fault → RefusesAs (bad_line all) fault
RefusesAs-first labels text line n i d all fault same h is_line refuses =
    RefusesAs-same (bad_at n (step labels d line)) (bad_line all) fault
    (λ bad is.
    ap bad_line (same ∙ read-first labels text n i d h)
    ∙ bad-numbered n (read_from labels (text_lines (drop (i + 1) text)) (n + 1)) (step labels d (take i text)) bad
    (ap (λ l. bad_at n (step labels d l)) (sym is_line) ∙ is))
    refuses

-- a text without a line feed is the last line
pub read-last : (labels : LabelLists) (text : List ℕ) (n : ℕ) (d : Draft) → position (λ b. b == 10) text ≡ None →
    read_from labels (text_lines text) n d ≡ at_last d text n d.place
read-last labels text n d h = ap (λ lines. read_from labels lines n d) (last_line text h)

-- the place of a line feed is in the text
pub feed-within : (text : List ℕ) (i : ℕ) → position (λ b. b == 10) text ≡ Some i → i < length text
feed-within text i h = (position-Some (λ b. b == 10) text i 0 h).0
