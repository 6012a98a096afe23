-- What a draft holds after one more line.
use Rattle.std.proofs.Common.{◌≡◌, ℕ, ◌+◌, Bool, true, false, List, [], ◌∷◌, ◌++◌, map, length, filter, get_or, Contains, sym, ap, subst, ◌∙◌, arith}
use Rattle.std.specs.Prelude.{All, codes}
use Rattle.std.specs.List.{enumerate_from}
use Rattle.std.proofs.lemmas.Bool.{cond-true, cond-false}
use Rattle.std.proofs.lemmas.List.{append-nil, map_push, length_push}
use Rattle.std.proofs.lemmas.List.Elements.{All-push, All-weaker, Contains-append_left, filter-append}
use Rattle.graph_text.specs.Labels.{LabelLists, with_name}
use Rattle.graph_text.specs.Lines.{fields_of, is_content_line}
use Rattle.graph_text.specs.Reading.{value_of, vertex_of}
use Rattle.graph_text.proofs.Mentions.{map_agree}
use Rattle.graph_text.proofs.Naming.{vertex_of-kept, with_name-new}
use Rattle.node_weights.specs.declared.draft.NodeDraft.{NodeDraft}
use Rattle.node_weights.specs.NodeText.{is_node_line, is_edge_line, content_lines, node_lines, edge_lines, names_on, weights_on, edge_on, edges_on, edge_numbers, second, third, has_node, is_word_and_two}
use Rattle.node_weights.specs.Draft.{HoldsLines, IsEdgeAmong}
use Rattle.node_weights.proofs.Causes.{IsIgnored, are_content}

module _ {X : Type 0} (p : X → Bool) (xs : List X) (x : X) where
  filter-takes : p x ≡ true → filter p (xs ++ x ∷ []) ≡ filter p xs ++ x ∷ []
  filter-takes t = filter-append p xs (x ∷ []) ∙ ap (λ ys. filter p xs ++ ys) (cond-true (p x) (x ∷ []) [] t)

  filter-leaves : p x ≡ false → filter p (xs ++ x ∷ []) ≡ filter p xs
  filter-leaves f = filter-append p xs (x ∷ []) ∙ ap (λ ys. filter p xs ++ ys) (cond-false (p x) (x ∷ []) [] f) ∙ append-nil (filter p xs)

enumerate_from-push : {X : Type 0} (n : ℕ) (xs : List X) (x : X) → enumerate_from n (xs ++ x ∷ []) ≡ enumerate_from n xs ++ (n + length xs, x) ∷ []
enumerate_from-push n [] x = let e : n ≡ n + 0 = omega arith in ap (λ k. (k, x) ∷ []) e
enumerate_from-push n (y ∷ xs) x =
    let e : n + 1 + length xs ≡ n + length (y ∷ xs) = omega arith in
    ap (λ ps. (n, y) ∷ ps) (enumerate_from-push (n + 1) xs x ∙ ap (λ k. enumerate_from (n + 1) xs ++ (k, x) ∷ []) e)

-- the numbers of the edge lines after one more line
abbrev is_edge_at : ℕ × List ℕ → Bool
is_edge_at p = is_edge_line p.1

module _ (lines : List (List ℕ)) (line : List ℕ) where
  numbers-edge : is_edge_line line ≡ true → edge_numbers (lines ++ line ∷ []) ≡ edge_numbers lines ++ (length lines + 1) ∷ []
  numbers-edge t =
      let e : 1 + length lines ≡ length lines + 1 = omega arith in
      ap (λ ps. map (λ (p : ℕ × List ℕ). p.0) (filter is_edge_at ps)) (enumerate_from-push 1 lines line)
      ∙ ap (λ ps. map (λ (p : ℕ × List ℕ). p.0) ps) (filter-takes is_edge_at (enumerate_from 1 lines) (1 + length lines, line) t)
      ∙ map_push (λ (p : ℕ × List ℕ). p.0) (filter is_edge_at (enumerate_from 1 lines)) (1 + length lines, line)
      ∙ ap (λ n. edge_numbers lines ++ n ∷ []) e

  numbers-other : is_edge_line line ≡ false → edge_numbers (lines ++ line ∷ []) ≡ edge_numbers lines
  numbers-other f =
      ap (λ ps. map (λ (p : ℕ × List ℕ). p.0) (filter is_edge_at ps)) (enumerate_from-push 1 lines line)
      ∙ ap (λ ps. map (λ (p : ℕ × List ℕ). p.0) ps) (filter-leaves is_edge_at (enumerate_from 1 lines) (1 + length lines, line) f)

  -- an ignored line changes nothing
  pub HoldsLines-ignored : (draft : NodeDraft) → IsIgnored line → HoldsLines lines draft → HoldsLines (lines ++ line ∷ []) draft
  HoldsLines-ignored draft is holds =
      let nodes : node_lines (lines ++ line ∷ []) ≡ node_lines lines = filter-leaves is_node_line lines line is.node in
      let edges : edge_lines (lines ++ line ∷ []) ≡ edge_lines lines = filter-leaves is_edge_line lines line is.edge in
      record {
        names = holds.names ∙ ap (λ ls. map second ls) (sym nodes);
        weights = holds.weights ∙ ap (λ ls. map (λ l. value_of (third l)) ls) (sym nodes);
        edges = holds.edges ∙ (λ i. map (edge_on (map second (sym nodes i))) (sym edges i));
        numbers = holds.numbers ∙ sym (numbers-other is.edge);
        counted = ap (λ ls. length ls) (filter-leaves is_content_line lines line is.content) ∙ holds.counted;
        known = subst (λ ls. All (λ l. Contains (names_on (lines ++ line ∷ [])) (second l) × Contains (names_on (lines ++ line ∷ [])) (third l)) ls) (sym edges)
            (subst (λ ls. All (λ l. Contains (map second ls) (second l) × Contains (map second ls) (third l)) (edge_lines lines)) (sym nodes) holds.known);
      }

-- the kinds of a line by its fields
module _ (line a b : List ℕ) where
  node-kinds : fields_of line ≡ codes "node" ∷ a ∷ b ∷ [] → (is_content_line line ≡ true) × (is_node_line line ≡ true) × (is_edge_line line ≡ false) × (second line ≡ a) × (third line ≡ b)
  node-kinds e = (
    ap are_content e,
    ap (is_word_and_two (codes "node")) e,
    ap (is_word_and_two (codes "edge")) e,
    ap (λ fs. get_or fs 1 []) e,
    ap (λ fs. get_or fs 2 []) e,
  )

  edge-kinds : fields_of line ≡ codes "edge" ∷ a ∷ b ∷ [] → (is_content_line line ≡ true) × (is_node_line line ≡ false) × (is_edge_line line ≡ true) × (second line ≡ a) × (third line ≡ b)
  edge-kinds e = (
    ap are_content e,
    ap (is_word_and_two (codes "node")) e,
    ap (is_word_and_two (codes "edge")) e,
    ap (λ fs. get_or fs 1 []) e,
    ap (λ fs. get_or fs 2 []) e,
  )

-- both names of an edge line are among these
abbrev KnownBy : List (List ℕ) → List ℕ → Type 0
KnownBy names l = Contains names (second l) × Contains names (third l)

-- one more node line, of a new name
module _ (lines : List (List ℕ)) (line name field : List ℕ) (fields : fields_of line ≡ codes "node" ∷ name ∷ field ∷ [])
    (new : has_node lines name ≡ false) (draft after : NodeDraft) (holds : HoldsLines lines draft) where
  abbrev with_node : List (List ℕ)
  with_node = lines ++ line ∷ []

  nodes-more : node_lines with_node ≡ node_lines lines ++ line ∷ []
  nodes-more = filter-takes is_node_line lines line (node-kinds line name field fields).1

  edges-same : edge_lines with_node ≡ edge_lines lines
  edges-same = filter-leaves is_edge_line lines line (node-kinds line name field fields).2

  names-more : names_on with_node ≡ names_on lines ++ name ∷ []
  names-more =
      ap (λ ls. map second ls) nodes-more ∙ map_push second (node_lines lines) line
      ∙ ap (λ n. names_on lines ++ n ∷ []) (node-kinds line name field fields).3

  known-more : All (KnownBy (names_on with_node)) (edge_lines with_node)
  known-more =
      subst (λ ls. All (KnownBy (names_on with_node)) ls) (sym edges-same)
      (subst (λ ns. All (KnownBy ns) (edge_lines lines)) (sym names-more)
      (All-weaker (KnownBy (names_on lines)) (KnownBy (names_on lines ++ name ∷ []))
      (λ l h. (Contains-append_left (names_on lines) (name ∷ []) (second l) h.0, Contains-append_left (names_on lines) (name ∷ []) (third l) h.1))
      (edge_lines lines) holds.known))

  kept : (n : List ℕ) → Contains (names_on lines) n → vertex_of (names_on lines) n ≡ vertex_of (names_on with_node) n
  kept n there =
      sym (vertex_of-kept (names_on lines) name n there)
      ∙ ap (λ ns. vertex_of ns n) (with_name-new (names_on lines) name new ∙ sym names-more)

  edges-kept : edges_on lines ≡ edges_on with_node
  edges-kept =
      map_agree (edge_on (names_on lines)) (edge_on (names_on with_node)) (edge_lines lines)
      (All-weaker (KnownBy (names_on lines)) (λ l. ◌≡◌ {A = ℕ × ℕ} (edge_on (names_on lines) l) (edge_on (names_on with_node) l))
      (λ l h. λ i. (kept (second l) h.0 i, kept (third l) h.1 i)) (edge_lines lines) holds.known)
      ∙ ap (λ ls. map (edge_on (names_on with_node)) ls) (sym edges-same)

  pub HoldsLines-node : after.labels ≡ record { names = with_name draft.labels.names name; edges = draft.labels.edges }
      → after.weights.items ≡ draft.weights.items ++ value_of field ∷ [] → after.edge_numbers.items ≡ draft.edge_numbers.items
      → HoldsLines with_node after
  HoldsLines-node labels weights numbers =
      let names : after.labels.names ≡ names_on lines ++ name ∷ [] =
      ap (λ (l : LabelLists). l.names) labels ∙ ap (λ ns. with_name ns name) holds.names ∙ with_name-new (names_on lines) name new in
      let edges : after.labels.edges ≡ draft.labels.edges = ap (λ (l : LabelLists). l.edges) labels in
      record {
        names = names ∙ sym names-more;
        weights = weights ∙ ap (λ ws. ws ++ value_of field ∷ []) holds.weights
            ∙ ap (λ f. weights_on lines ++ value_of f ∷ []) (sym (node-kinds line name field fields).4)
            ∙ sym (map_push (λ l. value_of (third l)) (node_lines lines) line)
            ∙ ap (λ ls. map (λ l. value_of (third l)) ls) (sym nodes-more);
        edges = edges ∙ holds.edges ∙ edges-kept;
        numbers = numbers ∙ holds.numbers ∙ sym (numbers-other lines line (node-kinds line name field fields).2);
        counted =
            let content : length (content_lines with_node) ≡ length (content_lines lines) + 1 =
            ap (λ ls. length ls) (filter-takes is_content_line lines line (node-kinds line name field fields).0) ∙ length_push (content_lines lines) line in
            let one_more : length after.labels.names ≡ length draft.labels.names + 1 =
            ap (λ ns. length ns) (names ∙ ap (λ ns. ns ++ name ∷ []) (sym holds.names)) ∙ length_push draft.labels.names name in
            let same : length after.labels.edges ≡ length draft.labels.edges = ap (λ es. length es) edges in
            omega (arith, holds.counted);
        known = known-more;
      }

-- one more edge line, between vertices that are there
module _ (lines : List (List ℕ)) (line tail head : List ℕ) (fields : fields_of line ≡ codes "edge" ∷ tail ∷ head ∷ [])
    (draft after : NodeDraft) (holds : HoldsLines lines draft) where
  abbrev with_edge : List (List ℕ)
  with_edge = lines ++ line ∷ []

  nodes-same : node_lines with_edge ≡ node_lines lines
  nodes-same = filter-leaves is_node_line lines line (edge-kinds line tail head fields).1

  edges-more : edge_lines with_edge ≡ edge_lines lines ++ line ∷ []
  edges-more = filter-takes is_edge_line lines line (edge-kinds line tail head fields).2

  names-same : names_on with_edge ≡ names_on lines
  names-same = ap (λ ls. map second ls) nodes-same

  edges_on-more : edges_on with_edge ≡ edges_on lines ++ edge_on (names_on lines) line ∷ []
  edges_on-more = (λ i. map (edge_on (names-same i)) (edges-more i)) ∙ map_push (edge_on (names_on lines)) (edge_lines lines) line

  pub HoldsLines-edge : (edge : ℕ × ℕ) → IsEdgeAmong draft.labels tail head edge
      → after.labels ≡ record { names = draft.labels.names; edges = draft.labels.edges ++ edge ∷ [] }
      → after.weights.items ≡ draft.weights.items → after.edge_numbers.items ≡ draft.edge_numbers.items ++ (length lines + 1) ∷ []
      → HoldsLines with_edge after
  HoldsLines-edge edge among labels weights numbers =
      let names : after.labels.names ≡ draft.labels.names = ap (λ (l : LabelLists). l.names) labels in
      let edges : after.labels.edges ≡ draft.labels.edges ++ edge ∷ [] = ap (λ (l : LabelLists). l.edges) labels in
      let edge_is : ◌≡◌ {A = ℕ × ℕ} edge (edge_on (names_on lines) line) =
      λ i. (
        (among.tail_is ∙ (λ j. vertex_of (holds.names j) (sym (edge-kinds line tail head fields).3 j))) i,
        (among.head_is ∙ (λ j. vertex_of (holds.names j) (sym (edge-kinds line tail head fields).4 j))) i,
      ) in
      record {
        names = names ∙ holds.names ∙ sym names-same;
        weights = weights ∙ holds.weights ∙ ap (λ ls. map (λ l. value_of (third l)) ls) (sym nodes-same);
        edges = edges ∙ (λ i. holds.edges i ++ edge_is i ∷ []) ∙ sym edges_on-more;
        numbers = numbers ∙ ap (λ ns. ns ++ (length lines + 1) ∷ []) holds.numbers ∙ sym (numbers-edge lines line (edge-kinds line tail head fields).2);
        counted =
            let content : length (content_lines with_edge) ≡ length (content_lines lines) + 1 =
            ap (λ ls. length ls) (filter-takes is_content_line lines line (edge-kinds line tail head fields).0) ∙ length_push (content_lines lines) line in
            let same : length after.labels.names ≡ length draft.labels.names = ap (λ ns. length ns) names in
            let one_more : length after.labels.edges ≡ length draft.labels.edges + 1 = ap (λ es. length es) edges ∙ length_push draft.labels.edges edge in
            omega (arith, holds.counted);
        known = subst (λ ls. All (KnownBy (names_on with_edge)) ls) (sym edges-more)
            (subst (λ ns. All (KnownBy ns) (edge_lines lines ++ line ∷ [])) (sym names-same)
            (All-push (KnownBy (names_on lines)) (edge_lines lines) line holds.known (
              subst (Contains (names_on lines)) (sym (edge-kinds line tail head fields).3) (subst (λ ns. Contains ns tail) holds.names among.tail_there),
              subst (Contains (names_on lines)) (sym (edge-kinds line tail head fields).4) (subst (λ ns. Contains ns head) holds.names among.head_there),
            )));
      }
