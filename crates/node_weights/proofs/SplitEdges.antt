-- The lines of named edges, as the interval model reads them.
use Rattle.std.proofs.Common.{◌≡◌, ℕ, ◌+◌, ◌-◌, ◌≤◌, Bool, true, false, not, ◌&&◌, List, [], ◌∷◌, ◌++◌, map, filter, length, drop, take, refl, ap, ◌∙◌, arith}
use Rattle.std.specs.Prelude.{All, ◌==◌, nat_lt, flat_map, decimal, is_some, unwrap_or, Some}
use Rattle.std.specs.List.{list_all, IsDistinct, join_with_byte}
use Rattle.std.specs.Str.{bytes_eq}
use Rattle.std.proofs.lemmas.Bool.{and_from, cond-true, cond-false, le-ltb}
use Rattle.std.proofs.lemmas.List.Elements.{All-nil, All-cons, All-head, All-tail, All-from_recursion}
use Rattle.std.proofs.lemmas.Map.Keys.{IsDistinct-head, IsDistinct-tail}
use Rattle.decomposition.specs.declared.Mode.TheVariants.{Interval}
use Rattle.decomposition.specs.declared.Range.{Range}
use Rattle.graph_text.specs.Labels.{is_field}
use Rattle.graph_text.specs.Lines.{are_no_fields, are_hash_fields, are_run_fields, begins_with_hash}
use Rattle.graph_text.specs.Reading.{Line, line_at, numbered_lines, ends_of, last_fields, same_fields, repeats, is_weight, weight_in, most_weight, range_of, range_in, edge_of, vertex_of}
use Rattle.graph_text.proofs.KindsOfLines.{no_run-content}
use Rattle.report_reading.proofs.Written.{decimal-field}
use Rattle.node_weights.specs.SplitText.{NamedEdge, edge_fields}
use Rattle.node_weights.proofs.SplitNumbers.{spelled-weight}
use Rattle.node_weights.proofs.SplitFields.{fields-joined, IsReadable, ends-decimal, ends-joined}

-- lists from which a filter takes all, or nothing
pub filter-all : {X : Type 0} (p : X → Bool) (xs : List X) → All (λ x. p x ≡ true) xs → filter p xs ≡ xs
filter-all p [] each = refl
filter-all p (x ∷ xs) each =
    cond-true (p x) (x ∷ filter p xs) (filter p xs) (All-head (λ x. p x ≡ true) x xs each)
    ∙ ap (λ ys. x ∷ ys) (filter-all p xs (All-tail (λ x. p x ≡ true) x xs each))

pub filter-none : {X : Type 0} (p : X → Bool) (xs : List X) → All (λ x. p x ≡ false) xs → filter p xs ≡ []
filter-none p [] each = refl
filter-none p (x ∷ xs) each =
    cond-false (p x) (x ∷ filter p xs) (filter p xs) (All-head (λ x. p x ≡ false) x xs each)
    ∙ filter-none p xs (All-tail (λ x. p x ≡ false) x xs each)

-- an edge whose line can be read back
pub record IsGoodEdge (e : NamedEdge) : Type 0 where
  pub tail_field : is_field e.tail ≡ true
  pub head_field : is_field e.head ≡ true
  pub no_hash : begins_with_hash e.tail ≡ false
  pub rising : e.least ≤ e.most
  pub small : e.most ≤ most_weight

-- the line of an edge
abbrev pub edge_text : NamedEdge → List ℕ
edge_text e = join_with_byte 32 (edge_fields e)

-- the fields of the line of an edge are fields, and the line ends with digits
pub edge-readable : (e : NamedEdge) → IsGoodEdge e → IsReadable (edge_fields e)
edge-readable e is =
    let rising = is.rising in
    let small = is.small in
    let numbers : list_all is_field (decimal e.least ∷ decimal e.most ∷ []) ≡ true =
    and_from (is_field (decimal e.least)) (is_field (decimal e.most) && true) (decimal-field e.least (omega arith))
    (and_from (is_field (decimal e.most)) true (decimal-field e.most (omega arith)) refl) in
    record {
      good = and_from (is_field e.tail) (is_field e.head && list_all is_field (decimal e.least ∷ decimal e.most ∷ [])) is.tail_field
          (and_from (is_field e.head) (list_all is_field (decimal e.least ∷ decimal e.most ∷ [])) is.head_field numbers);
      ends = ends-joined (e.tail ∷ e.head ∷ decimal e.least ∷ []) (decimal e.most) (ends-decimal e.most (omega arith));
    }

-- a line of the fields of an edge
pub record IsEdgeLine (l : Line) : Type 0 where
  pub edge : NamedEdge
  pub good : IsGoodEdge edge
  pub fields : l.fields ≡ edge_fields edge

-- the tests of an edge line
module _ (l : Line) (is : IsEdgeLine l) where
  pub edge-filled : are_no_fields l.fields ≡ false
  edge-filled = ap are_no_fields is.fields

  pub edge-no_hash : are_hash_fields l.fields ≡ false
  edge-no_hash = ap are_hash_fields is.fields ∙ is.good.no_hash

  pub edge-no_run : are_run_fields l.fields ≡ false
  edge-no_run = no_run-content l.fields edge-no_hash

  pub edge-fields : not (length l.fields == 4) ≡ false
  edge-fields = ap (λ (fields : List (List ℕ)). not (length fields == 4)) is.fields

  edge-values : (weight_in (decimal is.edge.least) ≡ Some is.edge.least) × (weight_in (decimal is.edge.most) ≡ Some is.edge.most)
  edge-values =
      let rising = is.good.rising in
      let small = is.good.small in
      (spelled-weight is.edge.least (omega arith), spelled-weight is.edge.most small)

  pub edge-weights : not (list_all is_weight (last_fields Interval l)) ≡ false
  edge-weights =
      ap (λ (fields : List (List ℕ)). not (list_all is_weight (drop (length fields - 2) fields))) is.fields
      ∙ (λ i. not (is_some (edge-values.0 i) && (is_some (edge-values.1 i) && true)))

  pub edge-range : range_of Interval l ≡ record { lo = is.edge.least; hi = is.edge.most }
  edge-range =
      ap (λ (fields : List (List ℕ)). range_in (drop (length fields - 2) fields)) is.fields
      ∙ (λ i. record { lo = unwrap_or (edge-values.0 i) 0; hi = unwrap_or (edge-values.1 i) 0 })

  pub edge-rising : (let r = range_of Interval l in nat_lt r.hi r.lo) ≡ false
  edge-rising = ap (λ (r : Range). nat_lt r.hi r.lo) edge-range ∙ le-ltb is.edge.most is.edge.least is.good.rising

-- the names of the ends of an edge, its edge by numbers, and its range
abbrev pub both_ends : NamedEdge → List (List ℕ)
both_ends e = e.tail ∷ e.head ∷ []

abbrev pub numbers_of : List (List ℕ) → NamedEdge → ℕ × ℕ
numbers_of names e = (vertex_of names e.tail, vertex_of names e.head)

abbrev pub range_on : NamedEdge → Range
range_on e = record { lo = e.least; hi = e.most }

abbrev pub same_names : NamedEdge → NamedEdge → Bool
same_names e f = bytes_eq e.tail f.tail && bytes_eq e.head f.head

-- the lines of good edges
abbrev pub lines_from : ℕ → List NamedEdge → List Line
lines_from n es = numbered_lines n (map edge_text es)

line-fields : (n : ℕ) (e : NamedEdge) → IsGoodEdge e → (line_at (n, edge_text e)).fields ≡ edge_fields e
line-fields n e is = fields-joined e.tail (e.head ∷ decimal e.least ∷ decimal e.most ∷ []) (edge-readable e is).good

pub edge_lines-each : (n : ℕ) (es : List NamedEdge) → All IsGoodEdge es → All IsEdgeLine (lines_from n es)
edge_lines-each n [] each = All-nil IsEdgeLine
edge_lines-each n (e ∷ es) each =
    let is = All-head IsGoodEdge e es each in
    All-cons IsEdgeLine (line_at (n, edge_text e)) (lines_from (n + 1) es) (record { edge = e; good = is; fields = line-fields n e is })
    (edge_lines-each (n + 1) es (All-tail IsGoodEdge e es each))

-- the names, the edges and the ranges that the lines give
pub lines-ends : (n : ℕ) (es : List NamedEdge) → All IsGoodEdge es → flat_map ends_of (lines_from n es) ≡ flat_map both_ends es
lines-ends n [] each = refl
lines-ends n (e ∷ es) each =
    (λ i. take 2 (line-fields n e (All-head IsGoodEdge e es each) i) ++ lines-ends (n + 1) es (All-tail IsGoodEdge e es each) i)

pub lines-edges : (names : List (List ℕ)) (n : ℕ) (es : List NamedEdge) → All IsGoodEdge es → map (edge_of names) (lines_from n es) ≡ map (numbers_of names) es
lines-edges names n [] each = refl
lines-edges names n (e ∷ es) each =
    let edge : List (List ℕ) → ℕ × ℕ = λ fields. edge_of names (record { number = 0; bytes = 0; fields = fields }) in
    (λ i. edge (line-fields n e (All-head IsGoodEdge e es each) i) ∷ lines-edges names (n + 1) es (All-tail IsGoodEdge e es each) i)

pub lines-ranges : (n : ℕ) (es : List NamedEdge) → All IsGoodEdge es → map (range_of Interval) (lines_from n es) ≡ map range_on es
lines-ranges n [] each = refl
lines-ranges n (e ∷ es) each =
    let is = All-head IsGoodEdge e es each in
    (λ i. edge-range (line_at (n, edge_text e)) (record { edge = e; good = is; fields = line-fields n e is }) i ∷ lines-ranges (n + 1) es (All-tail IsGoodEdge e es each) i)

-- no edge is repeated
repeats-none : (n : ℕ) (e : NamedEdge) (line : Line) → ends_of line ≡ both_ends e → (es : List NamedEdge) → All IsGoodEdge es
    → All (λ f. same_names e f ≡ false) es → filter (λ l. same_fields (ends_of line) (ends_of l)) (lines_from n es) ≡ []
repeats-none n e line ends [] each other = refl
repeats-none n e line ends (f ∷ es) each other =
    let here : ends_of (line_at (n, edge_text f)) ≡ both_ends f = ap (take 2) (line-fields n f (All-head IsGoodEdge f es each)) in
    let test : same_fields (ends_of line) (ends_of (line_at (n, edge_text f))) ≡ false =
    (λ i. same_fields (ends i) (here i)) ∙ and-end (bytes_eq e.tail f.tail) (bytes_eq e.head f.head) ∙ All-head (λ f. same_names e f ≡ false) f es other in
    cond-false _ _ _ test ∙ repeats-none (n + 1) e line ends es (All-tail IsGoodEdge f es each) (All-tail (λ f. same_names e f ≡ false) f es other)
  where
    and-end : (a b : Bool) → (a && (b && true)) ≡ (a && b)
    and-end a true = refl
    and-end a false = refl

pub lines-once : (n : ℕ) (es : List NamedEdge) → All IsGoodEdge es → IsDistinct same_names es → repeats (lines_from n es) ≡ []
lines-once n [] each once = refl
lines-once n (e ∷ es) each once =
    let ends : ends_of (line_at (n, edge_text e)) ≡ both_ends e = ap (take 2) (line-fields n e (All-head IsGoodEdge e es each)) in
    let rest = All-tail IsGoodEdge e es each in
    (λ i. repeats-none (n + 1) e (line_at (n, edge_text e)) ends es rest (All-from_recursion (λ f. same_names e f ≡ false) es (IsDistinct-head same_names e es once)) i
    ++ lines-once (n + 1) es rest (IsDistinct-tail same_names e es once) i)
