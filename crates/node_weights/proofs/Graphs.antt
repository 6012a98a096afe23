-- The graph of a draft, and the places of its edges among the lines.
use Rattle.std.proofs.Common.{◌≡◌, ℕ, suc, ◌+◌, ◌≤◌, ◌==◌, true, false, List, [], ◌∷◌, filter, length, get_or, Some, None, leb, refl, sym, ap, subst, ◌∙◌, ⊎_elim, arith}
use Rattle.std.specs.Prelude.{All, ◌&&◌, unwrap_or}
use Rattle.std.specs.List.{enumerate_from, before_first}
use Rattle.std.proofs.lemmas.Bool.{cases_Bool, cond-true, cond-false, and_parts, leb-true}
use Rattle.std.proofs.lemmas.List.{length-map}
use Rattle.std.proofs.lemmas.List.Elements.{All-map}
use Rattle.decomposition.specs.Graph.{graph_of}
use Rattle.graph_text.specs.Reading.{value_of, number_of, is_weight_form, most_weight}
use Rattle.node_weights.specs.declared.draft.NodeDraft.{NodeDraft}
use Rattle.node_weights.specs.NodeText.{is_edge_line, edge_lines, node_lines, names_on, edge_on, second, third, net_of, graph_on}
use Rattle.node_weights.specs.Draft.{HoldsLines}

-- a value is no greater than a weight may be
pub value-small : (field : List ℕ) → value_of field ≤ most_weight
value-small field =
    let value = number_of (before_first (λ b. b == 46) field) in
    let fits = is_weight_form field && leb value most_weight in
    ⊎_elim
    (λ (t : fits ≡ true).
    let is : value_of field ≡ value = ap (λ o. unwrap_or o 0) (cond-true fits (Some value) None t) in
    let small : value ≤ most_weight = leb-true value most_weight (and_parts (is_weight_form field) (leb value most_weight) t).1 in
    subst (λ n. n ≤ most_weight) (sym is) small)
    (λ (f : fits ≡ false).
    let is : value_of field ≡ 0 = ap (λ o. unwrap_or o 0) (cond-false fits (Some value) None f) in
    omega (arith, is))
    (cases_Bool fits)

-- as many numbers as edge lines
numbers-count : (n : ℕ) (lines : List (List ℕ)) → length (filter (λ (p : ℕ × List ℕ). is_edge_line p.1) (enumerate_from n lines)) ≡ length (edge_lines lines)
numbers-count n [] = refl
numbers-count n (line ∷ lines) =
    ⊎_elim
    (λ t.
    ap (λ ps. length ps) (cond-true (is_edge_line line) ((n, line) ∷ filter (λ (p : ℕ × List ℕ). is_edge_line p.1) (enumerate_from (n + 1) lines)) (filter (λ (p : ℕ × List ℕ). is_edge_line p.1) (enumerate_from (n + 1) lines)) t)
    ∙ ap suc (numbers-count (n + 1) lines)
    ∙ sym (ap (λ ls. length ls) (cond-true (is_edge_line line) (line ∷ edge_lines lines) (edge_lines lines) t)))
    (λ f.
    ap (λ ps. length ps) (cond-false (is_edge_line line) ((n, line) ∷ filter (λ (p : ℕ × List ℕ). is_edge_line p.1) (enumerate_from (n + 1) lines)) (filter (λ (p : ℕ × List ℕ). is_edge_line p.1) (enumerate_from (n + 1) lines)) f)
    ∙ numbers-count (n + 1) lines
    ∙ sym (ap (λ ls. length ls) (cond-false (is_edge_line line) (line ∷ edge_lines lines) (edge_lines lines) f)))
    (cases_Bool (is_edge_line line))

module _ (lines : List (List ℕ)) (draft : NodeDraft) (holds : HoldsLines lines draft) where
  -- as many weights as names
  pub weights-count : length draft.weights.items ≡ length draft.labels.names
  weights-count =
      ap (λ ws. length ws) holds.weights
      ∙ length-map (node_lines lines) (λ line. value_of (third line))
      ∙ sym (length-map (node_lines lines) second)
      ∙ ap (λ ns. length ns) (sym holds.names)

  -- each weight is small
  pub weights-small : All (λ w. w ≤ most_weight) draft.weights.items
  weights-small =
      subst (All (λ w. w ≤ most_weight)) (sym holds.weights)
      (All-map (λ w. w ≤ most_weight) (λ line. value_of (third line)) (node_lines lines) (λ k d within. value-small (third (get_or (node_lines lines) k d))))

  -- as many numbers of lines as edges
  pub numbers-edges : length draft.edge_numbers.items ≡ length draft.labels.edges
  numbers-edges =
      ap (λ ns. length ns) holds.numbers
      ∙ length-map (filter (λ (p : ℕ × List ℕ). is_edge_line p.1) (enumerate_from 1 lines)) (λ (p : ℕ × List ℕ). p.0)
      ∙ numbers-count 1 lines
      ∙ sym (length-map (edge_lines lines) (edge_on (names_on lines)))
      ∙ ap (λ es. length es) (sym holds.edges)

  -- the net of the draft
  pub net-is : (vertices : ℕ) (edges : List (ℕ × ℕ)) → vertices ≡ length draft.labels.names → edges ≡ draft.labels.edges → graph_of vertices edges ≡ net_of (graph_on lines)
  net-is vertices edges v e = λ i. graph_of ((v ∙ ap (λ ns. length ns) holds.names) i) ((e ∙ holds.edges) i)

  -- the graph of the draft
  pub graph-is : graph_on lines ≡ record { names = draft.labels.names; weights = draft.weights.items; edges = draft.labels.edges }
  graph-is = λ i. record { names = sym holds.names i; weights = sym holds.weights i; edges = sym holds.edges i }
