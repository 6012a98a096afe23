-- How the refusals that stay change by one more line: blank, a `#` line, a count line or an edge line.
use Rattle.std.proofs.Common.{◌≡◌, ℕ, ◌+◌, ◌<◌, ◌==◌, ◌&&◌, ◌||◌, ◌∷◌, ◌++◌, [], List, length, map, take, drop, Bool, true, false, not, cond, ltb, Option, Some, None, refl, sym, ap, subst, ◌∙◌, filter, arith, ⊎_elim}
use Rattle.std.specs.List.{All, list_any, list_all}
use Rattle.std.proofs.lemmas.Bool.{cond-true, cond-false, cases_order, ne_eqb, eq-eqb}
use Rattle.std.proofs.lemmas.List.{append-nil, drop_at, drop_all, take-append-le, drop-append-le, length_push, length-drop, length-map}
use Rattle.std.proofs.lemmas.List.Elements.{All-filter, All-take, All-drop, All-append, All-tail, All-nil, filter-append}
use Rattle.decomposition.specs.declared.Mode.{Mode}
use Rattle.report_terms.specs.declared.refusal.Why.{Why}
use Rattle.report_terms.specs.declared.refusal.Why.TheVariants.{LongLine, BadCount, BadFields, BadWeight, BadRange, RepeatedEdge, TooManyEdges, TooManyConstraints, ShortConstraint}
use Rattle.report_terms.specs.declared.refusal.Refusal.{Refusal}
use Rattle.graph_text.specs.Lines.{are_no_fields, are_hash_fields, are_run_fields}
use Rattle.graph_text.specs.Reading.{Line, most_bytes, most_edges, most_constraints, listed, is_short, short_lines, run_lines, constraint_lines, filled_lines, content_lines, count_lines, edge_lines, long_lines, repeats, is_count, is_weight, weights_of, last_fields, range_of, same_fields, ends_of, refused, earliest, or_else}
use Rattle.graph_text.specs.Draft.{settled_refusals}
use Rattle.graph_text.specs.LineFaults.{fault_of_comment, fault_of_count, fault_of_edge, fault_of_run, or_fault, refusal_at}
use Rattle.graph_text.specs.ShownLine.{IsBlank, IsHash, IsComment, IsRunLine, IsContent}
use Rattle.graph_text.proofs.Earliest.{Grows, Grows-kind, Grows-same, Grows-repeats, refusal_if}
use Rattle.graph_text.proofs.FirstLists.{is_listed, constraints-All, constraints-other, constraints-run}
use Rattle.graph_text.proofs.KindsOfLines.{no_run-blank, no_run-content}
use Rattle.graph_text.proofs.LineByLine.{filled-blank, filled-some, content-hash, count-first, edge-more, runs-other, runs-more, GrowsBy, Grows-all}
use Rattle.graph_text.proofs.Places.{list_any-map}

filled-below : (n : ℕ) (lines : List Line) → All (λ k. k.number < n) lines → All (λ k. k.number < n) (filled_lines lines)
filled-below n lines h = All-filter (λ l. not (are_no_fields l.fields)) (λ (k : Line). k.number < n) lines h

content-below : (n : ℕ) (lines : List Line) → All (λ k. k.number < n) lines → All (λ k. k.number < n) (content_lines lines)
content-below n lines h =
    All-filter (λ l. not (are_hash_fields l.fields)) (λ (k : Line). k.number < n) (filled_lines lines) (filled-below n lines h)

edges-below : (n : ℕ) (lines : List Line) → All (λ k. k.number < n) lines → All (λ k. k.number < n) (edge_lines lines)
edges-below n lines h = All-drop (λ (k : Line). k.number < n) 1 (content_lines lines) (content-below n lines h)

repeats-below : (n : ℕ) (lines : List Line) → All (λ k. k.number < n) lines → All (λ k. k.number < n) (repeats lines)
repeats-below n [] h = All-nil (λ (k : Line). k.number < n)
repeats-below n (l ∷ lines) h =
    let rest = All-tail (λ (k : Line). k.number < n) l lines h in
    let same = λ (x : Line). same_fields (ends_of l) (ends_of x) in
    All-append (λ (k : Line). k.number < n) (filter same lines) (repeats lines)
    (All-filter same (λ (k : Line). k.number < n) lines rest) (repeats-below n lines rest)

crowd-below : (n : ℕ) (lines : List Line) → All (λ k. k.number < n) lines → All (λ k. k.number < n) (take 1 (drop most_constraints (constraint_lines lines)))
crowd-below n lines h =
    All-take (λ (k : Line). k.number < n) 1 (drop most_constraints (constraint_lines lines))
    (All-drop (λ (k : Line). k.number < n) most_constraints (constraint_lines lines) (constraints-All (λ k. k.number < n) lines h))

short-below : (n : ℕ) (lines : List Line) → All (λ k. k.number < n) lines → All (λ k. k.number < n) (short_lines lines)
short-below n lines h =
    All-filter is_short (λ (k : Line). k.number < n) (run_lines lines) (All-filter (λ l. are_run_fields l.fields) (λ (k : Line). k.number < n) lines h)

-- a list of refused lines that is the old one with the new line where that passes
kind-more : (why : Why) (old new : List Line) (l : Line) (test : Bool) → All (λ k. k.number < l.number) old → new ≡ old ++ cond test (l ∷ []) [] → Grows l.number (earliest (refused why old)) (earliest (refused why new)) (refusal_if why l test)
kind-more why old new l test h e =
    subst (λ (x : List Line). Grows l.number (earliest (refused why old)) (earliest (refused why x)) (refusal_if why l test)) (sym e)
    (Grows-kind why old l test h)

kind-same : (why : Why) (old new : List Line) (l : Line) → All (λ k. k.number < l.number) old → new ≡ old → Grows l.number (earliest (refused why old)) (earliest (refused why new)) None
kind-same why old new l h e =
    subst (λ (x : List Line). Grows l.number (earliest (refused why old)) (earliest (refused why x)) None) (sym e)
    (Grows-same why old l h)

long-more : (lines : List Line) (l : Line) → All (λ k. k.number < l.number) lines → are_no_fields l.fields ≡ false → Grows l.number (earliest (refused LongLine (long_lines lines))) (earliest (refused LongLine (long_lines (lines ++ l ∷ [])))) (refusal_if LongLine l (ltb most_bytes l.bytes))
long-more lines l h e =
    let long = λ (x : Line). ltb most_bytes x.bytes in
    kind-more LongLine (long_lines lines) (long_lines (lines ++ l ∷ [])) l (long l)
    (All-filter long (λ (k : Line). k.number < l.number) (filled_lines lines) (filled-below l.number lines h))
    (ap (filter long) (filled-some lines l e) ∙ filter-append long (filled_lines lines) (l ∷ []))

-- a test of the edge lines
edges-more : (why : Why) (test : Line → Bool) (lines : List Line) (l : Line) → All (λ k. k.number < l.number) lines → edge_lines (lines ++ l ∷ []) ≡ edge_lines lines ++ l ∷ [] → Grows l.number (earliest (refused why (filter test (edge_lines lines)))) (earliest (refused why (filter test (edge_lines (lines ++ l ∷ []))))) (refusal_if why l (test l))
edges-more why test lines l h e =
    kind-more why (filter test (edge_lines lines)) (filter test (edge_lines (lines ++ l ∷ []))) l (test l)
    (All-filter test (λ (k : Line). k.number < l.number) (edge_lines lines) (edges-below l.number lines h))
    (ap (filter test) e ∙ filter-append test (edge_lines lines) (l ∷ []))

edges-same : (why : Why) (test : Line → Bool) (lines : List Line) (l : Line) → All (λ k. k.number < l.number) lines → edge_lines (lines ++ l ∷ []) ≡ edge_lines lines → Grows l.number (earliest (refused why (filter test (edge_lines lines)))) (earliest (refused why (filter test (edge_lines (lines ++ l ∷ []))))) None
edges-same why test lines l h e =
    kind-same why (filter test (edge_lines lines)) (filter test (edge_lines (lines ++ l ∷ []))) l
    (All-filter test (λ (k : Line). k.number < l.number) (edge_lines lines) (edges-below l.number lines h))
    (ap (filter test) e)

repeats-more : (lines : List Line) (l : Line) → All (λ k. k.number < l.number) lines → edge_lines (lines ++ l ∷ []) ≡ edge_lines lines ++ l ∷ [] → Grows l.number (earliest (refused RepeatedEdge (repeats (edge_lines lines)))) (earliest (refused RepeatedEdge (repeats (edge_lines (lines ++ l ∷ []))))) (refusal_if RepeatedEdge l (list_any (λ k. same_fields (ends_of k) (ends_of l)) (edge_lines lines)))
repeats-more lines l h e =
    subst (λ (x : List Line). Grows l.number (earliest (refused RepeatedEdge (repeats (edge_lines lines)))) (earliest (refused RepeatedEdge (repeats x))) (refusal_if RepeatedEdge l (list_any (λ k. same_fields (ends_of k) (ends_of l)) (edge_lines lines)))) (sym e)
    (Grows-repeats RepeatedEdge (edge_lines lines) l (edges-below l.number lines h))

-- the line after n others is the first one past them
past-more : (n : ℕ) (edges : List Line) (l : Line) → take 1 (drop n (edges ++ l ∷ [])) ≡ take 1 (drop n edges) ++ cond (length edges == n) (l ∷ []) []
past-more n edges l =
    ⊎_elim
    (λ (e : length edges ≡ n).
    ap (take 1) (drop_at edges (l ∷ []) n e)
    ∙ sym (ap (λ x. take 1 x ++ cond (length edges == n) (l ∷ []) []) (drop_all n edges (omega arith)) ∙ cond-true (length edges == n) (l ∷ []) [] (eq-eqb (length edges) n e)))
    (λ h.
    ⊎_elim
    (λ (less : length edges < n).
    ap (take 1) (drop_all n (edges ++ l ∷ []) (omega (arith, length_push edges l)))
    ∙ sym (ap (λ x. take 1 x ++ cond (length edges == n) (l ∷ []) []) (drop_all n edges (omega arith)) ∙ cond-false (length edges == n) (l ∷ []) [] (ne_eqb (length edges) n (λ e. omega arith))))
    (λ (more : n < length edges).
    ap (take 1) (drop-append-le n edges (l ∷ []) (omega arith))
    ∙ take-append-le 1 (drop n edges) (l ∷ []) (omega (arith, length-drop n edges))
    ∙ sym (ap (λ x. take 1 (drop n edges) ++ x) (cond-false (length edges == n) (l ∷ []) [] (ne_eqb (length edges) n (λ e. omega arith))) ∙ append-nil (take 1 (drop n edges))))
    h)
    (cases_order (length edges) n)

many-more : (lines : List Line) (l : Line) → All (λ k. k.number < l.number) lines → edge_lines (lines ++ l ∷ []) ≡ edge_lines lines ++ l ∷ [] → Grows l.number (earliest (refused TooManyEdges (take 1 (drop most_edges (edge_lines lines))))) (earliest (refused TooManyEdges (take 1 (drop most_edges (edge_lines (lines ++ l ∷ [])))))) (refusal_if TooManyEdges l (length (edge_lines lines) == most_edges))
many-more lines l h e =
    kind-more TooManyEdges (take 1 (drop most_edges (edge_lines lines))) (take 1 (drop most_edges (edge_lines (lines ++ l ∷ [])))) l (length (edge_lines lines) == most_edges)
    (All-take (λ (k : Line). k.number < l.number) 1 (drop most_edges (edge_lines lines)) (All-drop (λ (k : Line). k.number < l.number) most_edges (edge_lines lines) (edges-below l.number lines h)))
    (ap (λ x. take 1 (drop most_edges x)) e ∙ past-more most_edges (edge_lines lines) l)

-- the `#S` lines after a line that is none
crowd-same : (lines : List Line) (l : Line) → All (λ k. k.number < l.number) lines → are_run_fields l.fields ≡ false → Grows l.number (earliest (refused TooManyConstraints (take 1 (drop most_constraints (constraint_lines lines))))) (earliest (refused TooManyConstraints (take 1 (drop most_constraints (constraint_lines (lines ++ l ∷ [])))))) None
crowd-same lines l h e =
    kind-same TooManyConstraints (take 1 (drop most_constraints (constraint_lines lines))) (take 1 (drop most_constraints (constraint_lines (lines ++ l ∷ [])))) l
    (crowd-below l.number lines h) (ap (λ c. take 1 (drop most_constraints c)) (constraints-other lines l e))

short-same : (lines : List Line) (l : Line) → All (λ k. k.number < l.number) lines → are_run_fields l.fields ≡ false → Grows l.number (earliest (refused ShortConstraint (short_lines lines))) (earliest (refused ShortConstraint (short_lines (lines ++ l ∷ [])))) None
short-same lines l h e =
    kind-same ShortConstraint (short_lines lines) (short_lines (lines ++ l ∷ [])) l (short-below l.number lines h) (ap (filter is_short) (runs-other lines l e))

-- a new list of vertices is one too many after so many others
crowd-more : (lines : List Line) (l : Line) → All (λ k. k.number < l.number) lines → are_run_fields l.fields ≡ true → Grows l.number (earliest (refused TooManyConstraints (take 1 (drop most_constraints (constraint_lines lines))))) (earliest (refused TooManyConstraints (take 1 (drop most_constraints (constraint_lines (lines ++ l ∷ [])))))) (refusal_if TooManyConstraints l (not (is_short l || is_listed (constraint_lines lines) l) && (length (constraint_lines lines) == most_constraints)))
crowd-more lines l h e =
    kind-more TooManyConstraints (take 1 (drop most_constraints (constraint_lines lines))) (take 1 (drop most_constraints (constraint_lines (lines ++ l ∷ [])))) l
    (not (is_short l || is_listed (constraint_lines lines) l) && (length (constraint_lines lines) == most_constraints)) (crowd-below l.number lines h)
    (ap (λ c. take 1 (drop most_constraints c)) (constraints-run lines l e) ∙ by (is_short l || is_listed (constraint_lines lines) l) (constraint_lines lines))
  where
    by : (old : Bool) (lists : List Line) → take 1 (drop most_constraints (lists ++ cond old [] (l ∷ []))) ≡ take 1 (drop most_constraints lists) ++ cond (not old && (length lists == most_constraints)) (l ∷ []) []
    by true lists = ap (λ c. take 1 (drop most_constraints c)) (append-nil lists) ∙ sym (append-nil (take 1 (drop most_constraints lists)))
    by false lists = past-more most_constraints lists l

short-more : (lines : List Line) (l : Line) → All (λ k. k.number < l.number) lines → are_run_fields l.fields ≡ true → Grows l.number (earliest (refused ShortConstraint (short_lines lines))) (earliest (refused ShortConstraint (short_lines (lines ++ l ∷ [])))) (refusal_if ShortConstraint l (is_short l))
short-more lines l h e =
    kind-more ShortConstraint (short_lines lines) (short_lines (lines ++ l ∷ [])) l (is_short l) (short-below l.number lines h)
    (ap (filter is_short) (runs-more lines l e) ∙ filter-append is_short (run_lines lines) (l ∷ []))

-- a blank line changes nothing
pub settled-blank : (mode : Mode) (lines : List Line) (l : Line) → IsBlank l → earliest (settled_refusals mode (lines ++ l ∷ [])) ≡ earliest (settled_refusals mode lines)
settled-blank mode lines l b = rw (filled-blank lines l b, runs-other lines l (no_run-blank l.fields b.none))

same-edges : (mode : Mode) (lines : List Line) (l : Line) → All (λ k. k.number < l.number) lines → edge_lines (lines ++ l ∷ []) ≡ edge_lines lines → (long count crowd short : Option Refusal)
    → Grows l.number (earliest (refused LongLine (long_lines lines))) (earliest (refused LongLine (long_lines (lines ++ l ∷ [])))) long
    → Grows l.number (earliest (refused BadCount (filter (λ l. not (is_count l.fields)) (count_lines lines)))) (earliest (refused BadCount (filter (λ l. not (is_count l.fields)) (count_lines (lines ++ l ∷ []))))) count
    → Grows l.number (earliest (refused TooManyConstraints (take 1 (drop most_constraints (constraint_lines lines))))) (earliest (refused TooManyConstraints (take 1 (drop most_constraints (constraint_lines (lines ++ l ∷ [])))))) crowd
    → Grows l.number (earliest (refused ShortConstraint (short_lines lines))) (earliest (refused ShortConstraint (short_lines (lines ++ l ∷ [])))) short
    → GrowsBy l.number mode lines (lines ++ l ∷ []) long count None None None None None crowd short
same-edges mode lines l h e long count crowd short g k c s = record {
  long_grows = g;
  count_grows = k;
  fields_grow = edges-same BadFields (λ l. not (length l.fields == 2 + weights_of mode)) lines l h e;
  weights_grow = edges-same BadWeight (λ l. not (list_all is_weight (last_fields mode l))) lines l h e;
  ranges_grow = edges-same BadRange (λ l. let r = range_of mode l in ltb r.hi r.lo) lines l h e;
  repeats_grow = kind-same RepeatedEdge (repeats (edge_lines lines)) (repeats (edge_lines (lines ++ l ∷ []))) l (repeats-below l.number (edge_lines lines) (edges-below l.number lines h)) (ap repeats e);
  many_grow = kind-same TooManyEdges (take 1 (drop most_edges (edge_lines lines))) (take 1 (drop most_edges (edge_lines (lines ++ l ∷ [])))) l
      (All-take (λ (k : Line). k.number < l.number) 1 (drop most_edges (edge_lines lines)) (All-drop (λ (k : Line). k.number < l.number) most_edges (edge_lines lines) (edges-below l.number lines h)))
      (ap (λ x. take 1 (drop most_edges x)) e);
  crowd_grows = c;
  short_grows = s;
}

comment_chain : (l : Line) (a : Bool) → or_else (or_else (or_else (or_else (or_else (or_else (or_else (or_else (refusal_if LongLine l a) None) None) None) None) None) None) None) None ≡ refusal_at l.number (cond a (Some LongLine) None)
comment_chain l true = refl
comment_chain l false = refl

run_chain : (l : Line) (a b c d : Bool) → or_else (or_else (or_else (or_else (or_else (or_else (or_else (or_else (refusal_if LongLine l a) None) None) None) None) None) None) (refusal_if TooManyConstraints l (not (b || c) && d))) (refusal_if ShortConstraint l b) ≡ refusal_at l.number (cond a (Some LongLine) (cond b (Some ShortConstraint) (cond c None (cond d (Some TooManyConstraints) None))))
run_chain l true b c d = refl
run_chain l false true c d = refl
run_chain l false false true d = refl
run_chain l false false false true = refl
run_chain l false false false false = refl

count_chain : (l : Line) (a b : Bool) → or_else (or_else (or_else (or_else (or_else (or_else (or_else (or_else (refusal_if LongLine l a) (refusal_if BadCount l b)) None) None) None) None) None) None) None ≡ refusal_at l.number (cond a (Some LongLine) (cond b (Some BadCount) None))
count_chain l true b = refl
count_chain l false true = refl
count_chain l false false = refl

edge_chain : (l : Line) (a b c d e f : Bool) → or_else (or_else (or_else (or_else (or_else (or_else (or_else (or_else (refusal_if LongLine l a) None) (refusal_if BadFields l b)) (refusal_if BadWeight l c)) (refusal_if BadRange l d)) (refusal_if RepeatedEdge l e)) (refusal_if TooManyEdges l f)) None) None ≡ refusal_at l.number (cond a (Some LongLine) (or_fault (cond b (Some BadFields) (cond c (Some BadWeight) (cond d (Some BadRange) None))) (cond e (Some RepeatedEdge) (cond f (Some TooManyEdges) None))))
edge_chain l true b c d e f = refl
edge_chain l false true c d e f = refl
edge_chain l false false true d e f = refl
edge_chain l false false false true e f = refl
edge_chain l false false false false true f = refl
edge_chain l false false false false false true = refl
edge_chain l false false false false false false = refl

-- what a `#` line grows the refusals by
hash-grows : (mode : Mode) (lines : List Line) (l : Line) → All (λ k. k.number < l.number) lines → IsHash l → (crowd short : Option Refusal)
    → Grows l.number (earliest (refused TooManyConstraints (take 1 (drop most_constraints (constraint_lines lines))))) (earliest (refused TooManyConstraints (take 1 (drop most_constraints (constraint_lines (lines ++ l ∷ [])))))) crowd
    → Grows l.number (earliest (refused ShortConstraint (short_lines lines))) (earliest (refused ShortConstraint (short_lines (lines ++ l ∷ [])))) short
    → GrowsBy l.number mode lines (lines ++ l ∷ []) (refusal_if LongLine l (ltb most_bytes l.bytes)) None None None None None None crowd short
hash-grows mode lines l h hash crowd short c s =
    let test = λ (x : Line). not (is_count x.fields) in
    let same = content-hash lines l hash in
    same-edges mode lines l h (ap (drop 1) same) (refusal_if LongLine l (ltb most_bytes l.bytes)) None crowd short (long-more lines l h hash.some)
    (kind-same BadCount (filter test (count_lines lines)) (filter test (count_lines (lines ++ l ∷ []))) l
    (All-filter test (λ (k : Line). k.number < l.number) (count_lines lines) (All-take (λ (k : Line). k.number < l.number) 1 (content_lines lines) (content-below l.number lines h)))
    (ap (λ c. filter test (take 1 c)) same)) c s

-- a `#` line that is no `#S` line is refused where it is long
pub settled-comment : (mode : Mode) (lines : List Line) (l : Line) → All (λ k. k.number < l.number) lines → IsComment l → earliest (settled_refusals mode (lines ++ l ∷ [])) ≡ or_else (earliest (settled_refusals mode lines)) (refusal_at l.number (fault_of_comment l))
settled-comment mode lines l h comment =
    let grows = Grows-all l.number mode lines (lines ++ l ∷ []) (refusal_if LongLine l (ltb most_bytes l.bytes)) None None None None None None None None
    (hash-grows mode lines l h comment.is_hash None None (crowd-same lines l h comment.no_run) (short-same lines l h comment.no_run)) in
    grows.same ∙ ap (or_else (earliest (settled_refusals mode lines))) (comment_chain l (ltb most_bytes l.bytes))

-- the fault of a `#S` line by its tests
run_fault : (constraints : List Line) (l : Line) → cond (ltb most_bytes l.bytes) (Some LongLine) (cond (is_short l) (Some ShortConstraint) (cond (is_listed constraints l) None (cond (length constraints == most_constraints) (Some TooManyConstraints) None))) ≡ fault_of_run (map listed constraints) l
run_fault constraints l =
    λ i. cond (ltb most_bytes l.bytes) (Some LongLine) (cond (is_short l) (Some ShortConstraint)
    (cond (sym (list_any-map (λ list. same_fields list (listed l)) listed constraints) i) None
    (cond (sym (length-map constraints listed) i == most_constraints) (Some TooManyConstraints) None)))

-- a `#S` line is refused for what is wrong with it after the others
pub settled-run : (mode : Mode) (lines : List Line) (l : Line) → All (λ k. k.number < l.number) lines → IsRunLine l → earliest (settled_refusals mode (lines ++ l ∷ [])) ≡ or_else (earliest (settled_refusals mode lines)) (refusal_at l.number (fault_of_run (map listed (constraint_lines lines)) l))
settled-run mode lines l h is =
    let long = ltb most_bytes l.bytes in
    let again = is_listed (constraint_lines lines) l in
    let many = length (constraint_lines lines) == most_constraints in
    let crowd = refusal_if TooManyConstraints l (not (is_short l || again) && many) in
    let short = refusal_if ShortConstraint l (is_short l) in
    let grows = Grows-all l.number mode lines (lines ++ l ∷ []) (refusal_if LongLine l long) None None None None None None crowd short
    (hash-grows mode lines l h is.is_hash crowd short (crowd-more lines l h is.run) (short-more lines l h is.run)) in
    grows.same
    ∙ ap (or_else (earliest (settled_refusals mode lines))) (run_chain l long (is_short l) again many ∙ ap (refusal_at l.number) (run_fault (constraint_lines lines) l))

-- the first content line is refused where it is long or no count
pub settled-count : (mode : Mode) (lines : List Line) (l : Line) → All (λ k. k.number < l.number) lines → IsContent l → content_lines lines ≡ [] → earliest (settled_refusals mode (lines ++ l ∷ [])) ≡ or_else (earliest (settled_refusals mode lines)) (refusal_at l.number (fault_of_count l))
settled-count mode lines l h content none =
    let test = λ (x : Line). not (is_count x.fields) in
    let no_run = no_run-content l.fields content.no_hash in
    let first = count-first lines l content none in
    let old : filter test (count_lines lines) ≡ [] = ap (λ c. filter test (take 1 c)) none in
    let long = refusal_if LongLine l (ltb most_bytes l.bytes) in
    let count = refusal_if BadCount l (test l) in
    let grows = Grows-all l.number mode lines (lines ++ l ∷ []) long count None None None None None None None
    (same-edges mode lines l h (first.1 ∙ sym (ap (drop 1) none)) long count None None (long-more lines l h content.some)
    (kind-more BadCount (filter test (count_lines lines)) (filter test (count_lines (lines ++ l ∷ []))) l (test l)
    (All-filter test (λ (k : Line). k.number < l.number) (count_lines lines) (All-take (λ (k : Line). k.number < l.number) 1 (content_lines lines) (content-below l.number lines h)))
    (ap (filter test) first.0 ∙ sym (ap (λ c. c ++ cond (test l) (l ∷ []) []) old)))
    (crowd-same lines l h no_run) (short-same lines l h no_run)) in
    grows.same ∙ ap (or_else (earliest (settled_refusals mode lines))) (count_chain l (ltb most_bytes l.bytes) (test l))

-- a later content line is refused for what is wrong with it as an edge line
pub settled-edge : (mode : Mode) (lines : List Line) (l : Line) → All (λ k. k.number < l.number) lines → IsContent l → 0 < length (content_lines lines) → earliest (settled_refusals mode (lines ++ l ∷ [])) ≡ or_else (earliest (settled_refusals mode lines)) (refusal_at l.number (fault_of_edge mode (edge_lines lines) l))
settled-edge mode lines l h content some =
    let count = λ (x : Line). not (is_count x.fields) in
    let fields = λ (x : Line). not (length x.fields == 2 + weights_of mode) in
    let weight = λ (x : Line). not (list_all is_weight (last_fields mode x)) in
    let range = λ (x : Line). let r = range_of mode x in ltb r.hi r.lo in
    let repeat = list_any (λ k. same_fields (ends_of k) (ends_of l)) (edge_lines lines) in
    let many = length (edge_lines lines) == most_edges in
    let more = edge-more lines l content some in
    let grows = Grows-all l.number mode lines (lines ++ l ∷ []) (refusal_if LongLine l (ltb most_bytes l.bytes)) None
    (refusal_if BadFields l (fields l)) (refusal_if BadWeight l (weight l)) (refusal_if BadRange l (range l)) (refusal_if RepeatedEdge l repeat) (refusal_if TooManyEdges l many) None None
    (record {
      long_grows = long-more lines l h content.some;
      count_grows = kind-same BadCount (filter count (count_lines lines)) (filter count (count_lines (lines ++ l ∷ []))) l
          (All-filter count (λ (k : Line). k.number < l.number) (count_lines lines) (All-take (λ (k : Line). k.number < l.number) 1 (content_lines lines) (content-below l.number lines h)))
          (ap (filter count) more.0);
      fields_grow = edges-more BadFields fields lines l h more.1;
      weights_grow = edges-more BadWeight weight lines l h more.1;
      ranges_grow = edges-more BadRange range lines l h more.1;
      repeats_grow = repeats-more lines l h more.1;
      many_grow = many-more lines l h more.1;
      crowd_grows = crowd-same lines l h (no_run-content l.fields content.no_hash);
      short_grows = short-same lines l h (no_run-content l.fields content.no_hash);
    }) in
    grows.same
    ∙ ap (or_else (earliest (settled_refusals mode lines)))
    (edge_chain l (ltb most_bytes l.bytes) (fields l) (weight l) (range l) repeat many)
