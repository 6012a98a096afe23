-- A text leads from one draft to another.
use Rattle.std.proofs.Common.{◌≡◌, ℕ, ◌+◌, Bool, true, List, [], ◌∷◌, ◌++◌, length, refl, sym, ap, subst, ◌∙◌, append_assoc, append-nil, add-one}
use Rattle.std.specs.Prelude.{Result, Ok, flat_map}
use Rattle.std.proofs.lemmas.Bool.{and_parts}
use Rattle.decomposition.specs.Answer.{is_ordered}
use Rattle.std.specs.List.{list_all, join_with_byte}
use Rattle.graph_text.specs.Labels.{LabelLists, is_field}
use Rattle.report_reading.specs.declared.draft.Draft.{Draft}
use Rattle.report_reading.specs.declared.read_fault.ReadWhy.{ReadWhy}
use Rattle.report_reading.specs.ReportText.{line}
use Rattle.report_reading.specs.LineFields.{spaced_fields}
use Rattle.report_reading.specs.ListSteps.{last_of, may_follow}
use Rattle.report_reading.specs.BadLines.{step, numbered, read_from, text_lines}
use Rattle.report_reading.proofs.GoodFields.{spaced_fields-join, text_lines-line}
use Rattle.report_reading.proofs.ReadingOn.{some_line, read_from-cons}

-- whatever stands behind the text, it is read from the second draft on
pub record Goes (labels : LabelLists) (d : Draft) (text : List ℕ) (e : Draft) : Type 0 where
  pub on : (n : ℕ) (rest : List ℕ) → (m : ℕ) × (read_from labels (text_lines (text ++ rest)) n d ≡ read_from labels (text_lines rest) m e)

pub goes-none : (labels : LabelLists) (d : Draft) → Goes labels d [] d
goes-none labels d = record { on = λ n rest. (n, refl) }

pub goes-then : {labels : LabelLists} {d e f : Draft} {t u : List ℕ} → Goes labels d t e → Goes labels e u f → Goes labels d (t ++ u) f
goes-then {labels} {d} {e} {f} {t} {u} one two =
    record {
      on = λ n rest.
          let a = one.on n (u ++ rest) in
          let b = two.on a.0 rest in
          (b.0, ap (λ x. read_from labels (text_lines x) n d) (append_assoc t u rest) ∙ a.1 ∙ b.1);
    }

pub goes-line : (labels : LabelLists) (d e : Draft) (f : List ℕ) (fs : List (List ℕ)) → list_all is_field (f ∷ fs) ≡ true →
    step labels d (join_with_byte 32 (f ∷ fs)) ≡ Ok e → Goes labels d (line (f ∷ fs)) e
goes-line labels d e f fs good h =
    record {
      on = λ n rest. (
        n + 1,
        ap (λ ls. read_from labels ls n d) (text_lines-line f fs rest good)
            ∙ read_from-cons labels (join_with_byte 32 (f ∷ fs)) (text_lines rest) n d (some_line rest)
            ∙ ap (numbered n (read_from labels (text_lines rest) (n + 1))) h,
      );
    }

-- a line by its fields
pub goes-fields : (labels : LabelLists) (d e : Draft) (taken : List (List ℕ) → Result Draft ReadWhy) (f : List ℕ) (fs : List (List ℕ)) →
    ((l : List ℕ) → step labels d l ≡ taken (spaced_fields l)) → list_all is_field (f ∷ fs) ≡ true → taken (f ∷ fs) ≡ Ok e →
    Goes labels d (line (f ∷ fs)) e
goes-fields labels d e taken f fs is good h =
    goes-line labels d e f fs good (is (join_with_byte 32 (f ∷ fs)) ∙ ap taken (spaced_fields-join f fs good) ∙ h)

-- each entry of a list may follow those that were read
abbrev pub AllFollow : {X : Type 0} → (List X → X → Type 0) → List X → List X → Type 0
AllFollow may done [] = Unit {0}
AllFollow may done (x ∷ xs) = may done x × AllFollow may (done ++ x ∷ []) xs

-- a list, line by line: the draft with the entries so far, and so many lines to come
pub goes-list : {X : Type 0} (labels : LabelLists) (draft : ℕ → List X → Draft) (text : X → List ℕ) (may : List X → X → Type 0) →
    ((done : List X) (x : X) (n : ℕ) → may done x → Goes labels (draft (n + 1) done) (text x) (draft n (done ++ x ∷ []))) →
    (xs done : List X) → AllFollow may done xs → Goes labels (draft (length xs) done) (flat_map text xs) (draft 0 (done ++ xs))
goes-list labels draft text may one [] done follow =
    subst (λ (ys : List _). Goes labels (draft 0 done) [] (draft 0 ys)) (sym (append-nil done)) (goes-none labels (draft 0 done))
goes-list labels draft text may one (x ∷ xs) done follow =
    let rest = goes-list labels draft text may one xs (done ++ x ∷ []) follow.1 in
    let first = subst (λ k. Goes labels (draft k done) (text x) (draft (length xs) (done ++ x ∷ []))) (add-one (length xs)) (one done x (length xs) follow.0) in
    subst (λ (ys : List _). Goes labels (draft (length (x ∷ xs)) done) (flat_map text (x ∷ xs)) (draft 0 ys)) (append_assoc done (x ∷ []) xs)
    (goes-then first rest)

-- ordered entries that pass a test follow those that were read
pub record MayFollow {X : Type 0} (test : X → Bool) (before : X → X → Bool) (done : List X) (x : X) : Type 0 where
  pub pass : test x ≡ true
  pub follows : may_follow before (last_of done) x ≡ true

follows-last : {X : Type 0} (before : X → X → Bool) (done : List X) (x : X) (xs : List X) → is_ordered before (done ++ x ∷ xs) ≡ true →
    may_follow before (last_of done) x ≡ true
follows-last before [] x xs h = refl
follows-last before (y ∷ []) x xs h = (and_parts (before y x) (is_ordered before (x ∷ xs)) h).0
follows-last before (y ∷ z ∷ done) x xs h = follows-last before (z ∷ done) x xs (and_parts (before y z) (is_ordered before (z ∷ (done ++ x ∷ xs))) h).1

pub all-follow : {X : Type 0} (test : X → Bool) (before : X → X → Bool) (xs done : List X) → list_all test xs ≡ true →
    is_ordered before (done ++ xs) ≡ true → AllFollow (MayFollow test before) done xs
all-follow test before [] done all ordered = tt
all-follow test before (x ∷ xs) done all ordered =
    let parts = and_parts (test x) (list_all test xs) all in (
      record { pass = parts.0; follows = follows-last before done x xs ordered },
      all-follow test before xs (done ++ x ∷ []) parts.1 (ap (is_ordered before) (append_assoc done (x ∷ []) xs) ∙ ordered),
    )
