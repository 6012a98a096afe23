-- A refusal of a block names a line of the block.
use Rattle.std.specs.Prelude.{ℕ, zero, suc, ◌+◌, ◌-◌, ◌<◌, ◌≤◌, ◌==◌, ◌||◌, not, nat_lt, List, [], ◌∷◌, length, take, drop, Bool, filter, Option, Some, None, All, IfErr, IfSome, slice_index_or}
use Rattle.std.specs.List.{list_all, enumerate_from}
use Rattle.std.proofs.Common.{arith}
use Rattle.std.proofs.lemmas.Bool.{cond_both}
use Rattle.std.proofs.lemmas.List.Elements.{All-nil, All-cons, All-head, All-tail, All-map, All-filter, All-take, All-drop, All-append}
use Rattle.decomposition.specs.declared.Mode.{Mode}
use Rattle.decomposition.specs.declared.Mode.TheVariants.{Exact, Interval, Abs}
use Rattle.decomposition.specs.Graph.{tail, head, below}
use Rattle.report_terms.specs.declared.refusal.Why.{Why}
use Rattle.report_terms.specs.declared.refusal.Why.TheVariants.{LongLine, BadCount, BadFields, BadWeight, BadRange, RepeatedEdge, TooManyEdges, TooManyConstraints, ShortConstraint, Cycle, UnknownEdge, Unconserved}
use Rattle.report_terms.specs.declared.refusal.Refusal.{Refusal}
use Rattle.graph_text.specs.declared.block.RawGraph.{RawGraph}
use Rattle.graph_text.specs.Lines.{are_no_fields, are_hash_fields, are_run_fields}
use Rattle.graph_text.specs.Blocks.{TextBlock, IsTextBlock}
use Rattle.graph_text.specs.Reading.{Line, numbered_lines, filled_lines, content_lines, run_lines, count_lines, edge_lines, most_bytes, most_edges, most_constraints, listed, is_short, short_lines, constraint_lines, has_unknown, unknown_lines, weights_of, is_weight, last_fields, range_of, is_count, same_fields, ends_of, refused, long_lines, last_filled, bad_counts, bad_fields, bad_weights, bad_ranges, repeats, line_refusals, earliest, lines_where, closes_cycle, cycle_lines, is_unbalanced, lines_naming, unconserved_lines, or_else, refusal_of, err_or, read_lines, read, raw_graph_of}
use Rattle.graph_text.proofs.FirstLists.{constraints-All}
use Rattle.graph_text.proofs.Earliest.{earliest-All}
use Rattle.graph_text.proofs.Steps.{numbered_lines-below}

-- what holds of the number of each line holds of the line that a refusal names
module _ (P : ℕ → Type 0) where
  abbrev OfLine : Line → Type 0
  OfLine line = P line.number

  abbrev OfRefusal : Refusal → Type 0
  OfRefusal refusal = P refusal.line

  refused-each : (why : Why) (lines : List Line) → All OfLine lines → All OfRefusal (refused why lines)
  refused-each why lines each = All-map OfRefusal (λ (l : Line). record { line = l.number; why = why }) lines each

  filled_lines-each : (lines : List Line) → All OfLine lines → All OfLine (filled_lines lines)
  filled_lines-each lines each = All-filter (λ (l : Line). not (are_no_fields l.fields)) OfLine lines each

  content_lines-each : (lines : List Line) → All OfLine lines → All OfLine (content_lines lines)
  content_lines-each lines each = All-filter (λ (l : Line). not (are_hash_fields l.fields)) OfLine (filled_lines lines) (filled_lines-each lines each)

  edge_lines-each : (lines : List Line) → All OfLine lines → All OfLine (edge_lines lines)
  edge_lines-each lines each = All-drop OfLine 1 (content_lines lines) (content_lines-each lines each)

  bad_counts-each : (lines : List Line) → All OfLine lines → All OfLine (bad_counts lines)
  bad_counts-each lines each =
      cond_both (length (content_lines lines) == 0) (last_filled lines) (filter (λ (l : Line). not (is_count l.fields)) (count_lines lines)) (All OfLine)
      (λ none. All-drop OfLine (length (filled_lines lines) - 1) (filled_lines lines) (filled_lines-each lines each))
      (λ some. All-filter (λ (l : Line). not (is_count l.fields)) OfLine (count_lines lines) (All-take OfLine 1 (content_lines lines) (content_lines-each lines each)))

  repeats-each : (lines : List Line) → All OfLine lines → All OfLine (repeats lines)
  repeats-each [] each = All-nil OfLine
  repeats-each (line ∷ lines) each =
      let others = All-tail OfLine line lines each in
      let same = λ (l : Line). same_fields (ends_of line) (ends_of l) in
      All-append OfLine (filter same lines) (repeats lines) (All-filter same OfLine lines others) (repeats-each lines others)

  line_refusals-each : (mode : Mode) (lines : List Line) → All OfLine lines → All OfRefusal (line_refusals mode lines)
  line_refusals-each mode lines each =
      let filled = filled_lines-each lines each in
      let edges = edge_lines-each lines each in
      let long = refused-each LongLine (long_lines lines) (All-filter (λ (l : Line). nat_lt most_bytes l.bytes) OfLine (filled_lines lines) filled) in
      let counts = refused-each BadCount (bad_counts lines) (bad_counts-each lines each) in
      let fields = refused-each BadFields (bad_fields mode lines) (All-filter (λ (l : Line). not (length l.fields == 2 + weights_of mode)) OfLine (edge_lines lines) edges) in
      let weights = refused-each BadWeight (bad_weights mode lines) (All-filter (λ (l : Line). not (list_all is_weight (last_fields mode l))) OfLine (edge_lines lines) edges) in
      let ranges = refused-each BadRange (bad_ranges mode lines) (All-filter (λ (l : Line). nat_lt (range_of mode l).hi (range_of mode l).lo) OfLine (edge_lines lines) edges) in
      let again = refused-each RepeatedEdge (repeats (edge_lines lines)) (repeats-each (edge_lines lines) edges) in
      let many = refused-each TooManyEdges (take 1 (drop most_edges (edge_lines lines))) (All-take OfLine 1 (drop most_edges (edge_lines lines)) (All-drop OfLine most_edges (edge_lines lines) edges)) in
      let runs = All-filter (λ (l : Line). are_run_fields l.fields) OfLine lines each in
      let crowd = refused-each TooManyConstraints (take 1 (drop most_constraints (constraint_lines lines))) (All-take OfLine 1 (drop most_constraints (constraint_lines lines)) (All-drop OfLine most_constraints (constraint_lines lines) (constraints-All OfLine lines each))) in
      let short = refused-each ShortConstraint (short_lines lines) (All-filter is_short OfLine (run_lines lines) runs) in
      let more = All-append OfRefusal in
      more _ _ (more _ _ (more _ _ (more _ _ (more _ _ (more _ _ (more _ _ (more _ _ long counts) fields) weights) ranges) again) many) crowd) short

  enumerate_from-each : (n : ℕ) (lines : List Line) → All OfLine lines → All (λ (p : ℕ × Line). OfLine p.1) (enumerate_from n lines)
  enumerate_from-each n [] each = All-nil (λ (p : ℕ × Line). OfLine p.1)
  enumerate_from-each n (line ∷ lines) each =
      All-cons (λ (p : ℕ × Line). OfLine p.1) (n, line) (enumerate_from (n + 1) lines) (All-head OfLine line lines each)
      (enumerate_from-each (n + 1) lines (All-tail OfLine line lines each))

  lines_where-each : (test : ℕ → Bool) (lines : List Line) → All OfLine lines → All OfLine (lines_where test lines)
  lines_where-each test lines each =
      let passes = λ (p : ℕ × Line). test p.0 in
      All-map OfLine (λ (p : ℕ × Line). p.1) (filter passes (enumerate_from 0 (edge_lines lines)))
      (All-filter passes (λ (p : ℕ × Line). OfLine p.1) (enumerate_from 0 (edge_lines lines)) (enumerate_from-each 0 (edge_lines lines) (edge_lines-each lines each)))

  unknown_lines-each : (graph : RawGraph) (lines : List Line) → All OfLine lines → All OfLine (unknown_lines graph lines)
  unknown_lines-each graph lines each =
      All-filter (λ (l : Line). has_unknown graph.labels.names graph.labels.edges (listed l)) OfLine (run_lines lines)
      (All-filter (λ (l : Line). are_run_fields l.fields) OfLine lines each)

  lines_naming-each : (graph : RawGraph) (lines : List Line) (vs : List ℕ) → All OfLine lines → All OfLine (lines_naming graph lines vs)
  lines_naming-each graph lines [] each = All-nil OfLine
  lines_naming-each graph lines (v ∷ vs) each = lines_where-each (λ e. (tail graph.net e == v) || (head graph.net e == v)) lines each

  unconserved_lines-each : (mode : Mode) (graph : RawGraph) (lines : List Line) → All OfLine lines → All OfLine (unconserved_lines mode graph lines)
  unconserved_lines-each Exact graph lines each = lines_naming-each graph lines (filter (is_unbalanced graph) (below graph.net.vertices)) each
  unconserved_lines-each Interval graph lines each = All-nil OfLine
  unconserved_lines-each (Abs k) graph lines each = All-nil OfLine

  or_else-some : (first other : Option Refusal) → IfSome first OfRefusal → IfSome other OfRefusal → IfSome (or_else first other) OfRefusal
  or_else-some None other p q = q
  or_else-some (Some r) other p q = p

  earliest-refused : (why : Why) (lines : List Line) → All OfLine lines → IfSome (earliest (refused why lines)) OfRefusal
  earliest-refused why lines each = earliest-All OfRefusal (refused why lines) (refused-each why lines each)

  refusal_of-each : (mode : Mode) (lines : List Line) (graph : RawGraph) → All OfLine lines → IfSome (refusal_of mode lines graph) OfRefusal
  refusal_of-each mode lines graph each =
      or_else-some _ _ (earliest-All OfRefusal (line_refusals mode lines) (line_refusals-each mode lines each))
      (or_else-some _ _ (earliest-refused Cycle (cycle_lines graph lines) (lines_where-each (closes_cycle graph.net) lines each))
      (or_else-some _ _ (earliest-refused UnknownEdge (unknown_lines graph lines) (unknown_lines-each graph lines each))
      (earliest-refused Unconserved (unconserved_lines mode graph lines) (unconserved_lines-each mode graph lines each))))

  err_or-some : (refusal : Option Refusal) (graph : RawGraph) → IfSome refusal OfRefusal → IfErr (err_or refusal graph) OfRefusal
  err_or-some None graph h = tt
  err_or-some (Some r) graph h = h

  pub read_lines-each : (mode : Mode) (lines : List Line) → All OfLine lines → IfErr (read_lines mode lines) OfRefusal
  read_lines-each mode lines each =
      let graph = raw_graph_of mode lines in
      err_or-some (refusal_of mode lines graph) graph (refusal_of-each mode lines graph each)

-- a line of a block has the number of its first line or a later one
numbered_lines-from : (n : ℕ) (lines : List (List ℕ)) → All (λ (l : Line). n ≤ l.number) (numbered_lines n lines)
numbered_lines-from n [] k d h = absurd (omega (arith, h))
numbered_lines-from n (line ∷ lines) zero d h = omega arith
numbered_lines-from n (line ∷ lines) (suc k) d h =
    let later : n + 1 ≤ (slice_index_or (numbered_lines (n + 1) lines) k d).number = numbered_lines-from (n + 1) lines k d (omega (arith, h)) in
    omega (arith, later)

-- a refusal names a line of the block
pub refusal-within : (mode : Mode) (block : TextBlock) → IfErr (read mode block) (λ r. (block.line ≤ r.line) × (r.line < block.line + length block.lines))
refusal-within mode block =
    read_lines-each (λ n. (block.line ≤ n) × (n < block.line + length block.lines)) mode (numbered_lines block.line block.lines)
    (λ k d h. (numbered_lines-from block.line block.lines k d h, numbered_lines-below block.line block.lines k d h))

-- and lines count from 1
pub refusal-line : (mode : Mode) (block : TextBlock) → IsTextBlock block → IfErr (read mode block) (λ r. 1 ≤ r.line)
refusal-line mode block is =
    read_lines-each (λ n. 1 ≤ n) mode (numbered_lines block.line block.lines)
    (λ k d h. let later = numbered_lines-from block.line block.lines k d h in omega (arith, is.line_from, later))
