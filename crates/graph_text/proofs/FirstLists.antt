-- Which `#S` lines are the first of their lists, after one more line.
use Rattle.std.proofs.Common.{◌≡◌, ◌∷◌, ◌++◌, [], List, ℕ, Bool, true, false, not, cond, ◌&&◌, ◌||◌, refl, sym, ap, ◌∙◌, filter, ⊎_elim}
use Rattle.std.specs.Bool.{Decides}
use Rattle.std.specs.Cmp.Lexicographic.{pointwise}
use Rattle.std.specs.List.{All, list_any}
use Rattle.std.specs.Str.{bytes_eq}
use Rattle.std.proofs.lemmas.Bool.{cases_Bool, cond-true, cond-false}
use Rattle.std.proofs.lemmas.List.{append-nil}
use Rattle.std.proofs.lemmas.List.Elements.{All-cons, All-head, All-tail, All-filter, filter-append}
use Rattle.std.proofs.lemmas.Map.Views.{any-filter_same}
use Rattle.std.proofs.lemmas.Slice.Eq.{bytes_eq-Decides, slice_eq-Decides}
use Rattle.graph_text.specs.Lines.{are_run_fields}
use Rattle.graph_text.specs.Reading.{Line, run_lines, listed, same_fields, is_short, first_listed, constraint_lines}
use Rattle.graph_text.proofs.LineByLine.{runs-other, runs-more}

same_fields-pointwise : (xs ys : List (List ℕ)) → same_fields xs ys ≡ pointwise bytes_eq xs ys
same_fields-pointwise [] [] = refl
same_fields-pointwise [] (y ∷ ys) = refl
same_fields-pointwise (x ∷ xs) [] = refl
same_fields-pointwise (x ∷ xs) (y ∷ ys) = ap (λ b. bytes_eq x y && b) (same_fields-pointwise xs ys)

-- lists of fields that are equal field by field are equal
pub same_fields-Decides : (xs ys : List (List ℕ)) → Decides (same_fields xs ys) (xs ≡ ys)
same_fields-Decides xs ys = slice_eq-Decides bytes_eq-Decides xs ys (same_fields xs ys) (same_fields-pointwise xs ys)

-- a filter loses nothing that a second one keeps
pub filter_twice : {X : Type 0} (p q : X → Bool) → ((x : X) → q x ≡ false → p x ≡ false) → (xs : List X) → filter p (filter q xs) ≡ filter p xs
filter_twice p q loses [] = refl
filter_twice p q loses (x ∷ xs) =
    ⊎_elim
    (λ t. ap (filter p) (cond-true (q x) (x ∷ filter q xs) (filter q xs) t) ∙ ap (λ ys. cond (p x) (x ∷ ys) ys) (filter_twice p q loses xs))
    (λ f. ap (filter p) (cond-false (q x) (x ∷ filter q xs) (filter q xs) f) ∙ filter_twice p q loses xs ∙ sym (cond-false (p x) (x ∷ filter p xs) (filter p xs) (loses x f)))
    (cases_Bool (q x))

-- whether a line of these lists the vertices of another
abbrev pub is_listed : List Line → Line → Bool
is_listed lines l = list_any (λ k. same_fields (listed k) (listed l)) lines

-- the lines that list other vertices than this one
abbrev pub others : Line → List Line → List Line
others k lines = filter (λ l. not (same_fields (listed k) (listed l))) lines

module _ (k l : Line) (firsts : List Line) where
  listed-others : is_listed (others k firsts) l ≡ (not (same_fields (listed k) (listed l)) && is_listed firsts l)
  listed-others =
      any-filter_same (λ x. same_fields (listed x) (listed l)) (λ x. not (same_fields (listed k) (listed x))) (not (same_fields (listed k) (listed l)))
      (λ x t. ap (λ xs. not (same_fields (listed k) xs)) ((same_fields-Decides (listed x) (listed l)).0 t)) firsts

  last-other : (t : Bool) → same_fields (listed k) (listed l) ≡ t → others k (l ∷ []) ≡ cond (not t) (l ∷ []) []
  last-other t e = ap (λ b. cond (not b) (l ∷ []) []) e

  new-other : (t m : Bool) → same_fields (listed k) (listed l) ≡ t → others k (cond m [] (l ∷ [])) ≡ cond (t || (not t && m)) [] (l ∷ [])
  new-other true true e = refl
  new-other false true e = refl
  new-other true false e = last-other true e
  new-other false false e = last-other false e

-- one more line stands among the first ones, where none of them lists its vertices
pub first_listed-push : (lines : List Line) (l : Line) → first_listed (lines ++ l ∷ []) ≡ first_listed lines ++ cond (is_listed (first_listed lines) l) [] (l ∷ [])
first_listed-push [] l = refl
first_listed-push (k ∷ lines) l =
    let firsts = first_listed lines in
    ap (λ xs. k ∷ others k xs) (first_listed-push lines l)
    ∙ ap (λ xs. k ∷ xs) (filter-append (λ x. not (same_fields (listed k) (listed x))) firsts (cond (is_listed firsts l) [] (l ∷ [])))
    ∙ ap (λ xs. k ∷ (others k firsts ++ xs)) (new-other k l firsts (same_fields (listed k) (listed l)) (is_listed firsts l) refl)
    ∙ ap (λ b. k ∷ (others k firsts ++ cond (same_fields (listed k) (listed l) || b) [] (l ∷ []))) (sym (listed-others k l firsts))

pub first_listed-All : (P : Line → Type 0) (lines : List Line) → All P lines → All P (first_listed lines)
first_listed-All P [] each = each
first_listed-All P (l ∷ lines) each =
    All-cons P l (filter (λ k. not (same_fields (listed l) (listed k))) (first_listed lines)) (All-head P l lines each)
    (All-filter (λ k. not (same_fields (listed l) (listed k))) P (first_listed lines) (first_listed-All P lines (All-tail P l lines each)))

pub constraints-All : (P : Line → Type 0) (lines : List Line) → All P lines → All P (constraint_lines lines)
constraints-All P lines each =
    first_listed-All P (filter (λ l. not (is_short l)) (run_lines lines))
    (All-filter (λ l. not (is_short l)) P (run_lines lines) (All-filter (λ l. are_run_fields l.fields) P lines each))

-- the constraints after a line that is no `#S` line, and after one that is
pub constraints-other : (lines : List Line) (l : Line) → are_run_fields l.fields ≡ false → constraint_lines (lines ++ l ∷ []) ≡ constraint_lines lines
constraints-other lines l e = ap (λ runs. first_listed (filter (λ k. not (is_short k)) runs)) (runs-other lines l e)

pub constraints-run : (lines : List Line) (l : Line) → are_run_fields l.fields ≡ true → constraint_lines (lines ++ l ∷ []) ≡ constraint_lines lines ++ cond (is_short l || is_listed (constraint_lines lines) l) [] (l ∷ [])
constraints-run lines l e =
    ap (λ runs. first_listed (filter (λ k. not (is_short k)) runs)) (runs-more lines l e)
    ∙ ap first_listed (filter-append (λ k. not (is_short k)) (run_lines lines) (l ∷ []))
    ∙ by (is_short l)
  where
    by : (short : Bool) → first_listed (filter (λ k. not (is_short k)) (run_lines lines) ++ cond (not short) (l ∷ []) []) ≡ constraint_lines lines ++ cond (short || is_listed (constraint_lines lines) l) [] (l ∷ [])
    by true = ap first_listed (append-nil (filter (λ k. not (is_short k)) (run_lines lines))) ∙ sym (append-nil (constraint_lines lines))
    by false = first_listed-push (filter (λ k. not (is_short k)) (run_lines lines)) l
