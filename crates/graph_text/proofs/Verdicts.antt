-- What lines are read as, by what is known of them once they have all come.
use Rattle.std.proofs.Common.{◌≡◌, ℕ, ◌<◌, ◌≤◌, true, false, List, [], ◌∷◌, map, length, get_or, refl, sym, ap, ◌∙◌, arith}
use Rattle.std.specs.Prelude.{All, Option, Some, None, Ok, Err}
use Rattle.std.proofs.lemmas.List.{get_or-map}
use Rattle.decomposition.specs.declared.Mode.{Mode}
use Rattle.decomposition.specs.declared.Mode.TheVariants.{Exact, Interval, Abs}
use Rattle.decomposition.specs.Graph.{IsNet, edge_count}
use Rattle.decomposition.specs.Flow.{IsFirstUnbalanced, IsBalanced}
use Rattle.dag_net.specs.Build.{FollowsNet, ClosesCycle}
use Rattle.report_terms.specs.declared.refusal.Why.TheVariants.{Cycle, UnknownEdge, Unconserved}
use Rattle.report_terms.specs.declared.refusal.Refusal.{Refusal}
use Rattle.graph_text.specs.declared.block.RawGraph.{RawGraph}
use Rattle.graph_text.specs.Constraints.{listing_of, first_unknown}
use Rattle.graph_text.specs.Draft.{settled_refusals}
use Rattle.graph_text.specs.LineFaults.{without_count}
use Rattle.graph_text.specs.Reading.{Line, filled_lines, content_lines, constraint_lines, edge_lines, last_filled, edge_of, names_of, refused, earliest, or_else, err_or, line_refusals, cycle_lines, unknown_lines, unconserved_lines, raw_graph_of, read_lines}
use Rattle.graph_text.proofs.GraphOfLines.{AreSound-from_settled, edges_inside}
use Rattle.graph_text.proofs.Finishing.{Rises, edge_lines-rise, line_refusals-content, line_refusals-last, cycle_lines-none, cycle_lines-first, weight_of, names_vertex, unconserved_lines-none, unconserved_lines-first, inner_inside}
use Rattle.graph_text.proofs.UnknownEdges.{unknown_refusal, unknown_lines-first}
use Rattle.std.proofs.lemmas.List.{length-map}

-- the numbers of lines
abbrev numbers : List Line → List ℕ
numbers lines = map (λ l. l.number) lines

module _ (mode : Mode) (lines : List Line) where
  verdict : (line cycle unknown flow : Option Refusal) → earliest (line_refusals mode lines) ≡ line → earliest (refused Cycle (cycle_lines (raw_graph_of mode lines) lines)) ≡ cycle
      → earliest (refused UnknownEdge (unknown_lines (raw_graph_of mode lines) lines)) ≡ unknown
      → earliest (refused Unconserved (unconserved_lines mode (raw_graph_of mode lines) lines)) ≡ flow
      → read_lines mode lines ≡ err_or (or_else line (or_else cycle (or_else unknown flow))) (raw_graph_of mode lines)
  verdict line cycle unknown flow e f g h = λ i. err_or (or_else (e i) (or_else (f i) (or_else (g i) (h i)))) (raw_graph_of mode lines)

  -- A refusal that stays decides, where there is a content line,
  pub read-settled : 0 < length (content_lines lines) → (r : Refusal) → earliest (settled_refusals mode lines) ≡ Some r → read_lines mode lines ≡ Err r
  read-settled some r is = verdict (Some r) _ _ _ (ap earliest (line_refusals-content mode lines some) ∙ is) refl refl refl

  -- and where there is none the last line that is not blank is refused, unless such a refusal counts before it.
  pub read-no_count : content_lines lines ≡ [] → (n : ℕ) → numbers (last_filled lines) ≡ n ∷ [] → All (λ l. l.number ≤ n) (filled_lines lines)
      → read_lines mode lines ≡ Err (without_count (earliest (settled_refusals mode lines)) n)
  read-no_count none n last low = verdict (Some (without_count (earliest (settled_refusals mode lines)) n)) _ _ _ (line_refusals-last mode lines none n low last) refl refl refl

  module _ (some : 0 < length (content_lines lines)) (settled : earliest (settled_refusals mode lines) ≡ None) where
    abbrev graph : RawGraph
    graph = raw_graph_of mode lines

    each : edge_count graph.net ≡ length (edge_lines lines)
    each = length-map (edge_lines lines) (edge_of (names_of lines))

    none : earliest (line_refusals mode lines) ≡ None
    none = ap earliest (line_refusals-content mode lines some) ∙ settled

    number : (e : ℕ) (d : Line) → e < length (edge_lines lines) → (get_or (edge_lines lines) e d).number ≡ get_or (numbers (edge_lines lines)) e 0
    number e d within = sym (get_or-map (λ (l : Line). l.number) (edge_lines lines) e d 0 within)

    no_line : Line
    no_line = record { number = 0; bytes = 0; fields = [] }

    -- The first edge that closes a cycle is refused.
    pub read-cycle : (e : ℕ) → FollowsNet graph.net e → ClosesCycle graph.net e → Rises (edge_lines lines)
        → read_lines mode lines ≡ Err (record { line = get_or (numbers (edge_lines lines)) e 0; why = Cycle })
    read-cycle e follows closes rises =
        verdict None (Some (record { line = get_or (numbers (edge_lines lines)) e 0; why = Cycle })) _ _ none
        (cycle_lines-first graph lines each e no_line follows closes rises
        ∙ ap (λ n. Some (record { line = n; why = Cycle })) (number e no_line (omega (arith, follows.there, each)))) refl refl

    module _ (net : IsNet graph.net) where
      no_cycle : earliest (refused Cycle (cycle_lines graph lines)) ≡ None
      no_cycle = ap (λ ls. earliest (refused Cycle ls)) (cycle_lines-none graph lines each net)

      -- The first list with two neighbours that are no edge is refused.
      pub read-unknown : Rises lines → (n : ℕ) → first_unknown graph.labels (map listing_of (constraint_lines lines)) ≡ Some n → read_lines mode lines ≡ Err (record { line = n; why = UnknownEdge })
      read-unknown rises n is =
          verdict None None (Some (record { line = n; why = UnknownEdge })) _ none no_cycle (unknown_lines-first graph lines rises ∙ ap unknown_refusal is) refl

      known : Rises lines → first_unknown graph.labels (map listing_of (constraint_lines lines)) ≡ None → earliest (refused UnknownEdge (unknown_lines graph lines)) ≡ None
      known rises is = unknown_lines-first graph lines rises ∙ ap unknown_refusal is

      -- The first line that names the first unbalanced inner vertex is refused.
      pub read-unbalanced : Rises lines → first_unknown graph.labels (map listing_of (constraint_lines lines)) ≡ None → mode ≡ Exact → (v : ℕ) → IsFirstUnbalanced graph.net (weight_of graph lines) v
          → (e : ℕ) → e < edge_count graph.net → names_vertex graph lines v e ≡ true → ((f : ℕ) → f < e → names_vertex graph lines v f ≡ false)
          → read_lines mode lines ≡ Err (record { line = get_or (numbers (edge_lines lines)) e 0; why = Unconserved })
      read-unbalanced rises linked exact v first e within there before =
          let vertex : v < graph.net.vertices = inner_inside graph.net (edges_inside mode lines (AreSound-from_settled mode lines settled)) v first.inner in
          verdict None None None (Some (record { line = get_or (numbers (edge_lines lines)) e 0; why = Unconserved })) none no_cycle (known rises linked)
          (ap (λ m. earliest (refused Unconserved (unconserved_lines m graph lines))) exact
          ∙ unconserved_lines-first graph lines v vertex first e no_line (omega (arith, within, each)) there before (edge_lines-rise lines rises)
          ∙ ap (λ n. Some (record { line = n; why = Unconserved })) (number e no_line (omega (arith, within, each))))

      -- A net is read, where its flow is balanced or need not be.
      pub read-graph : Rises lines → first_unknown graph.labels (map listing_of (constraint_lines lines)) ≡ None → (mode ≡ Exact → IsBalanced graph.net (weight_of graph lines)) → read_lines mode lines ≡ Ok graph
      read-graph rises linked balanced = verdict None None None None none no_cycle (known rises linked) (by mode refl)
        where
          by : (m : Mode) → m ≡ mode → earliest (refused Unconserved (unconserved_lines mode graph lines)) ≡ None
          by Exact e = ap (λ m. earliest (refused Unconserved (unconserved_lines m graph lines))) (sym e) ∙ ap (λ ls. earliest (refused Unconserved ls)) (unconserved_lines-none graph lines (balanced (sym e)))
          by Interval e = ap (λ m. earliest (refused Unconserved (unconserved_lines m graph lines))) (sym e)
          by (Abs k) e = ap (λ m. earliest (refused Unconserved (unconserved_lines m graph lines))) (sym e)
