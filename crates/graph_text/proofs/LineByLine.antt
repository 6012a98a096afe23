-- How the parts of a block change by one more line.
use Rattle.std.proofs.Common.{◌≡◌, ℕ, ◌-◌, ◌<◌, ◌==◌, ◌∷◌, ◌++◌, [], List, length, take, drop, Bool, true, false, not, ◌&&◌, Option, refl, sym, ap, ◌∙◌, filter, arith, ⊎_elim}
use Rattle.std.specs.List.{list_any}
use Rattle.std.proofs.lemmas.Bool.{cond-true, cond-false, cases_Bool, ne_eqb}
use Rattle.std.proofs.lemmas.List.{append-nil, drop_at, length_push, take-append-le, drop-append-le}
use Rattle.std.proofs.lemmas.List.Elements.{filter-append}
use Rattle.decomposition.specs.declared.Mode.{Mode}
use Rattle.report_terms.specs.declared.refusal.Why.TheVariants.{LongLine, BadCount, BadFields, BadWeight, BadRange, RepeatedEdge, TooManyEdges, TooManyConstraints, ShortConstraint}
use Rattle.report_terms.specs.declared.refusal.Refusal.{Refusal}
use Rattle.graph_text.specs.Lines.{are_no_fields, are_hash_fields, are_run_fields}
use Rattle.graph_text.specs.ShownLine.{IsBlank, IsHash, IsContent}
use Rattle.graph_text.specs.Reading.{Line, most_edges, most_constraints, filled_lines, content_lines, run_lines, count_lines, edge_lines, last_filled, long_lines, bad_fields, bad_weights, bad_ranges, repeats, constraint_lines, short_lines, is_count, refused, earliest, or_else}
use Rattle.graph_text.specs.Draft.{is_content, settled_refusals}
use Rattle.graph_text.proofs.Earliest.{Grows, Grows-append}

-- a filter of one more element, which passes or fails
filter_pass : {X : Type 0} (p : X → Bool) (xs : List X) (x : X) → p x ≡ true → filter p (xs ++ x ∷ []) ≡ filter p xs ++ x ∷ []
filter_pass p xs x e = filter-append p xs (x ∷ []) ∙ ap (λ ys. filter p xs ++ ys) (cond-true (p x) (x ∷ []) [] e)

filter_fail : {X : Type 0} (p : X → Bool) (xs : List X) (x : X) → p x ≡ false → filter p (xs ++ x ∷ []) ≡ filter p xs
filter_fail p xs x e =
    filter-append p xs (x ∷ [])
    ∙ ap (λ ys. filter p xs ++ ys) (cond-false (p x) (x ∷ []) [] e)
    ∙ append-nil (filter p xs)

pub filled-blank : (lines : List Line) (l : Line) → IsBlank l → filled_lines (lines ++ l ∷ []) ≡ filled_lines lines
filled-blank lines l b = filter_fail (λ l. not (are_no_fields l.fields)) lines l (ap not b.none)

pub filled-some : (lines : List Line) (l : Line) → are_no_fields l.fields ≡ false → filled_lines (lines ++ l ∷ []) ≡ filled_lines lines ++ l ∷ []
filled-some lines l e = filter_pass (λ l. not (are_no_fields l.fields)) lines l (ap not e)

pub content-blank : (lines : List Line) (l : Line) → IsBlank l → content_lines (lines ++ l ∷ []) ≡ content_lines lines
content-blank lines l b = ap (filter (λ l. not (are_hash_fields l.fields))) (filled-blank lines l b)

pub content-hash : (lines : List Line) (l : Line) → IsHash l → content_lines (lines ++ l ∷ []) ≡ content_lines lines
content-hash lines l h =
    ap (filter (λ l. not (are_hash_fields l.fields))) (filled-some lines l h.some)
    ∙ filter_fail (λ l. not (are_hash_fields l.fields)) (filled_lines lines) l (ap not h.hash)

pub content-more : (lines : List Line) (l : Line) → IsContent l → content_lines (lines ++ l ∷ []) ≡ content_lines lines ++ l ∷ []
content-more lines l h =
    ap (filter (λ l. not (are_hash_fields l.fields))) (filled-some lines l h.some)
    ∙ filter_pass (λ l. not (are_hash_fields l.fields)) (filled_lines lines) l (ap not h.no_hash)

-- the content lines pass the test of one
both-any : {X : Type 0} (p q : X → Bool) (xs : List X) → list_any (λ x. p x && q x) xs ≡ not (length (filter q (filter p xs)) == 0)
both-any p q [] = refl
both-any p q (x ∷ xs) =
    ⊎_elim
    (λ (first : p x ≡ true).
    ⊎_elim
    (λ (second : q x ≡ true).
    rw (first, second) (sym (ap not (ne_eqb (length (x ∷ filter q (filter p xs))) 0 (λ e. omega arith)))))
    (λ (second : q x ≡ false). rw (first, second) (both-any p q xs))
    (cases_Bool (q x)))
    (λ (first : p x ≡ false). rw first (both-any p q xs))
    (cases_Bool (p x))

pub content-any : (lines : List Line) → list_any is_content lines ≡ not (length (content_lines lines) == 0)
content-any lines =
    both-any (λ (l : Line). not (are_no_fields l.fields)) (λ l. not (are_hash_fields l.fields)) lines

-- the last line that is not blank
pub last-more : (lines : List Line) (l : Line) → are_no_fields l.fields ≡ false → last_filled (lines ++ l ∷ []) ≡ l ∷ []
last-more lines l e =
    ap (λ f. drop (length f - 1) f) (filled-some lines l e)
    ∙ drop_at (filled_lines lines) (l ∷ []) (length (filled_lines lines ++ l ∷ []) - 1) (omega (arith, length_push (filled_lines lines) l))

pub last-blank : (lines : List Line) (l : Line) → IsBlank l → last_filled (lines ++ l ∷ []) ≡ last_filled lines
last-blank lines l b = ap (λ f. drop (length f - 1) f) (filled-blank lines l b)

-- the first `#S` line
pub runs-other : (lines : List Line) (l : Line) → are_run_fields l.fields ≡ false → run_lines (lines ++ l ∷ []) ≡ run_lines lines
runs-other lines l e = filter_fail (λ l. are_run_fields l.fields) lines l e

pub runs-more : (lines : List Line) (l : Line) → are_run_fields l.fields ≡ true → run_lines (lines ++ l ∷ []) ≡ run_lines lines ++ l ∷ []
runs-more lines l e = filter_pass (λ l. are_run_fields l.fields) lines l e

-- the count line, and the edge lines
pub count-first : (lines : List Line) (l : Line) → IsContent l → content_lines lines ≡ [] → (count_lines (lines ++ l ∷ []) ≡ l ∷ []) × (edge_lines (lines ++ l ∷ []) ≡ [])
count-first lines l h e =
    let more : content_lines (lines ++ l ∷ []) ≡ l ∷ [] = content-more lines l h ∙ ap (λ c. c ++ l ∷ []) e in
    (ap (take 1) more, ap (drop 1) more)

pub edge-more : (lines : List Line) (l : Line) → IsContent l → 0 < length (content_lines lines) → (count_lines (lines ++ l ∷ []) ≡ count_lines lines) × (edge_lines (lines ++ l ∷ []) ≡ edge_lines lines ++ l ∷ [])
edge-more lines l h e =
    let more = content-more lines l h in (
      ap (take 1) more ∙ take-append-le 1 (content_lines lines) (l ∷ []) (omega arith),
      ap (drop 1) more ∙ drop-append-le 1 (content_lines lines) (l ∷ []) (omega arith),
    )

-- what the refusals grow by, kind by kind
pub record GrowsBy (line : ℕ) (mode : Mode) (lines lines' : List Line) (long count fields weight range repeat many crowd short : Option Refusal) : Type 0 where
  pub long_grows : Grows line (earliest (refused LongLine (long_lines lines))) (earliest (refused LongLine (long_lines lines'))) long
  pub count_grows : Grows line (earliest (refused BadCount (filter (λ l. not (is_count l.fields)) (count_lines lines)))) (earliest (refused BadCount (filter (λ l. not (is_count l.fields)) (count_lines lines')))) count
  pub fields_grow : Grows line (earliest (refused BadFields (bad_fields mode lines))) (earliest (refused BadFields (bad_fields mode lines'))) fields
  pub weights_grow : Grows line (earliest (refused BadWeight (bad_weights mode lines))) (earliest (refused BadWeight (bad_weights mode lines'))) weight
  pub ranges_grow : Grows line (earliest (refused BadRange (bad_ranges mode lines))) (earliest (refused BadRange (bad_ranges mode lines'))) range
  pub repeats_grow : Grows line (earliest (refused RepeatedEdge (repeats (edge_lines lines)))) (earliest (refused RepeatedEdge (repeats (edge_lines lines')))) repeat
  pub many_grow : Grows line (earliest (refused TooManyEdges (take 1 (drop most_edges (edge_lines lines))))) (earliest (refused TooManyEdges (take 1 (drop most_edges (edge_lines lines'))))) many
  pub crowd_grows : Grows line (earliest (refused TooManyConstraints (take 1 (drop most_constraints (constraint_lines lines))))) (earliest (refused TooManyConstraints (take 1 (drop most_constraints (constraint_lines lines'))))) crowd
  pub short_grows : Grows line (earliest (refused ShortConstraint (short_lines lines))) (earliest (refused ShortConstraint (short_lines lines'))) short

pub Grows-all : (line : ℕ) (mode : Mode) (lines lines' : List Line) (m n o p q r s t u : Option Refusal) → GrowsBy line mode lines lines' m n o p q r s t u → Grows line (earliest (settled_refusals mode lines)) (earliest (settled_refusals mode lines')) (or_else (or_else (or_else (or_else (or_else (or_else (or_else (or_else m n) o) p) q) r) s) t) u)
Grows-all line mode lines lines' m n o p q r s t u g =
    let long = λ (x : List Line). refused LongLine (long_lines x) in
    let count = λ (x : List Line). refused BadCount (filter (λ l. not (is_count l.fields)) (count_lines x)) in
    let fields = λ (x : List Line). refused BadFields (bad_fields mode x) in
    let weight = λ (x : List Line). refused BadWeight (bad_weights mode x) in
    let range = λ (x : List Line). refused BadRange (bad_ranges mode x) in
    let repeat = λ (x : List Line). refused RepeatedEdge (repeats (edge_lines x)) in
    let many = λ (x : List Line). refused TooManyEdges (take 1 (drop most_edges (edge_lines x))) in
    let crowd = λ (x : List Line). refused TooManyConstraints (take 1 (drop most_constraints (constraint_lines x))) in
    let short = λ (x : List Line). refused ShortConstraint (short_lines x) in
    let two = λ (x : List Line). long x ++ count x in
    let three = λ (x : List Line). two x ++ fields x in
    let four = λ (x : List Line). three x ++ weight x in
    let five = λ (x : List Line). four x ++ range x in
    let six = λ (x : List Line). five x ++ repeat x in
    let seven = λ (x : List Line). six x ++ many x in
    let eight = λ (x : List Line). seven x ++ crowd x in
    let to_two = or_else m n in
    let to_three = or_else to_two o in
    let to_four = or_else to_three p in
    let to_five = or_else to_four q in
    let to_six = or_else to_five r in
    let to_seven = or_else to_six s in
    Grows-append line (eight lines) (short lines) (eight lines') (short lines') (or_else to_seven t) u
    (Grows-append line (seven lines) (crowd lines) (seven lines') (crowd lines') to_seven t
    (Grows-append line (six lines) (many lines) (six lines') (many lines') to_six s
    (Grows-append line (five lines) (repeat lines) (five lines') (repeat lines') to_five r
    (Grows-append line (four lines) (range lines) (four lines') (range lines') to_four q
    (Grows-append line (three lines) (weight lines) (three lines') (weight lines') to_three p
    (Grows-append line (two lines) (fields lines) (two lines') (fields lines') to_two o
    (Grows-append line (long lines) (count lines) (long lines') (count lines') m n g.long_grows g.count_grows)
    g.fields_grow)
    g.weights_grow)
    g.ranges_grow)
    g.repeats_grow)
    g.many_grow)
    g.crowd_grows)
    g.short_grows
