-- The first bad line of a text counts from 1, and is a line of the text or the one behind it.
use Rattle.std.proofs.Common.{◌≡◌, ℕ, ◌+◌, ◌≤◌, List, [], ◌∷◌, length, subst, arith, ◌==◌}
use Rattle.std.specs.Prelude.{Option, Some, Result, Ok, Err, IfErr, IfSome}
use Rattle.std.proofs.lemmas.List.Sums.{count_by-le-length}
use Rattle.std.proofs.lemmas.List.Splits.{length-slice_split}
use Rattle.graph_text.specs.Labels.{LabelLists}
use Rattle.report_reading.specs.declared.read_fault.ReadWhy.{ReadWhy}
use Rattle.report_reading.specs.BadLines.{step, at_last, numbered, read_from, text_lines, empty_draft, bad_line, first_bad_line}

-- the type of a value
abbrev pub type_of : {A : Type 0} → A → Type 0
type_of {A = A} x = A

-- drafts of reports, and the places that a line has in one
abbrev pub Drafted : Type 0
Drafted = type_of empty_draft

abbrev pub Placed : Type 0
Placed = type_of empty_draft.place

-- the number of a bad line is at least n, and at most n and as many as there are lines
abbrev pub IsBetween : ℕ → ℕ → ℕ × ReadWhy → Type 0
IsBetween n lines bad = (n ≤ bad.0) × (bad.0 ≤ n + lines)

last-between : (d : Drafted) (rest : List ℕ) (n lines : ℕ) (place : Placed) → IfErr (at_last d rest n place) (IsBetween n lines)
last-between d rest n lines place = grind arith

-- what follows of a fault, where there is one
if_err : {X E : Type 0} {P Q : E → Type 0} (r : Result X E) → ((e : E) → P e → Q e) → IfErr r P → IfErr r Q
if_err (Ok x) follows holds = tt
if_err (Err e) follows holds = follows e holds

-- a line, and those behind it
next-between : (n lines : ℕ) (rest : Drafted → Result Drafted (ℕ × ReadWhy)) (taken : Result Drafted ReadWhy) →
    ((d : Drafted) → IfErr (rest d) (IsBetween (n + 1) lines)) → IfErr (numbered n rest taken) (IsBetween n (lines + 1))
next-between n lines rest (Ok d) behind = if_err (rest d) (λ bad at. (omega (arith, at.0), omega (arith, at.1))) (behind d)
next-between n lines rest (Err why) behind = (omega arith, omega arith)

lines-between : (labels : LabelLists) (lines : List (List ℕ)) (n : ℕ) (d : Drafted) → IfErr (read_from labels lines n d) (IsBetween n (length lines))
lines-between labels [] n d = last-between d [] n 0 d.place
lines-between labels (rest ∷ []) n d = last-between d rest n 1 d.place
lines-between labels (l ∷ next ∷ lines) n d =
    if_err (numbered n (read_from labels (next ∷ lines) (n + 1)) (step labels d l)) (λ bad at. (at.0, omega (arith, at.1)))
    (next-between n (length (next ∷ lines)) (read_from labels (next ∷ lines) (n + 1)) (step labels d l) (λ e. lines-between labels (next ∷ lines) (n + 1) e))

line-between : (r : Result Drafted (ℕ × ReadWhy)) (lines m : ℕ) (why : ReadWhy) → IfErr r (IsBetween 1 lines) → bad_line r ≡ Some (m, why) →
    (1 ≤ m) × (m ≤ 1 + lines)
line-between (Ok d) lines m why all is = absurd (cc)
line-between (Err bad) lines m why all is =
    subst (λ (o : Option (ℕ × ReadWhy)). IfSome o (λ b. (1 ≤ b.0) × (b.0 ≤ 1 + lines))) is all

pub bad-place : (labels : LabelLists) (text : List ℕ) (m : ℕ) (why : ReadWhy) → first_bad_line labels text ≡ Some (m, why) →
    (1 ≤ m) × (m ≤ length text + 2)
bad-place labels text m why is =
    let at = line-between (read_from labels (text_lines text) 1 empty_draft) (length (text_lines text)) m why (lines-between labels (text_lines text) 1 empty_draft) is in
    (at.0, omega (arith, at.1, length-slice_split (λ b. b == 10) text, count_by-le-length (λ b. b == 10) text))
