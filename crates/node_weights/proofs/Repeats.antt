-- What the labels of a draft say of names and edges on its lines.
use Rattle.std.proofs.Common.{◌≡◌, ℕ, ◌<◌, Bool, true, false, not, ◌&&◌, ◌||◌, List, [], ◌∷◌, length, get_or, Contains, Some, None, refl, sym, ap, subst, ◌∙◌, ⊎_elim}
use Rattle.std.specs.Prelude.{All, ◌==◌, codes}
use Rattle.std.specs.List.{list_any}
use Rattle.std.specs.Str.{bytes_eq}
use Rattle.std.proofs.lemmas.Bool.{cases_Bool, eqb-true, eq-eqb, false_from_ne_true, true≢false}
use Rattle.std.proofs.lemmas.List.Elements.{All-head, All-tail, All-weaker}
use Rattle.std.proofs.lemmas.Map.Made.{is_member-Decides}
use Rattle.std.proofs.lemmas.Slice.Eq.{bytes_eq-Decides}
use Rattle.decomposition.specs.Graph.{same_ends}
use Rattle.decomposition.proofs.Nets.{same_ends-Decides}
use Rattle.graph_text.specs.Labels.{LabelLists}
use Rattle.graph_text.specs.Reading.{is_weight, vertex_of}
use Rattle.graph_text.proofs.Places.{list_any-map, place_of_contained}
use Rattle.node_weights.specs.declared.draft.NodeDraft.{NodeDraft}
use Rattle.node_weights.specs.declared.node_fault.NodeWhy.TheVariants.{BadWeight, RepeatedNode, UnknownNode, RepeatedEdge, TooMany}
use Rattle.node_weights.specs.NodeText.{edge_lines, names_on, edge_on, edges_on, second, third, has_node, has_edge, cause_after}
use Rattle.node_weights.specs.Draft.{HoldsLines, IsEdgeAmong, HasFields}
use Rattle.node_weights.proofs.Causes.{picked, is_full, cause-node, cause-edge}

list_any-agree : {X : Type 0} (p q : X → Bool) (xs : List X) → All (λ x. p x ≡ q x) xs → list_any p xs ≡ list_any q xs
list_any-agree p q [] same = refl
list_any-agree p q (x ∷ xs) same =
    ap (λ b. b || list_any p xs) (All-head (λ x. p x ≡ q x) x xs same)
    ∙ ap (λ b. q x || b) (list_any-agree p q xs (All-tail (λ x. p x ≡ q x) x xs same))

-- names are the same exactly where their numbers are
module _ (names : List (List ℕ)) (a b : List ℕ) (a_there : Contains names a) (b_there : Contains names b) where
  same_name : vertex_of names a ≡ vertex_of names b → a ≡ b
  same_name e =
      sym (place_of_contained bytes_eq-Decides names a [] a_there).1 ∙ ap (λ n. get_or names n []) e
      ∙ (place_of_contained bytes_eq-Decides names b [] b_there).1

  same_number : bytes_eq a b ≡ (vertex_of names a == vertex_of names b)
  same_number =
      ⊎_elim
      (λ t. (bytes_eq-Decides a b).1 (same_name (eqb-true _ _ t)) ∙ sym t)
      (λ f. false_from_ne_true (bytes_eq a b) (λ t. true≢false (sym (eq-eqb _ _ (ap (vertex_of names) ((bytes_eq-Decides a b).0 t))) ∙ f)) ∙ sym f)
      (cases_Bool (vertex_of names a == vertex_of names b))

module _ (lines : List (List ℕ)) (draft : NodeDraft) (holds : HoldsLines lines draft) where
  -- the names of the vertices are those of the node lines
  pub named : (name : List ℕ) → Contains draft.labels.names name → has_node lines name ≡ true
  named name there = (is_member-Decides bytes_eq-Decides (names_on lines) name).1 (subst (λ ns. Contains ns name) holds.names there)

  pub is_named : (name : List ℕ) → has_node lines name ≡ true → Contains draft.labels.names name
  is_named name t = subst (λ ns. Contains ns name) (sym holds.names) ((is_member-Decides bytes_eq-Decides (names_on lines) name).0 t)

  pub unnamed : (name : List ℕ) → ¬ Contains draft.labels.names name → has_node lines name ≡ false
  unnamed name none = false_from_ne_true (has_node lines name) (λ t. none (is_named name t))

  module _ (tail head : List ℕ) (edge : ℕ × ℕ) (among : IsEdgeAmong draft.labels tail head edge) where
    abbrev names : List (List ℕ)
    names = names_on lines

    tail_there : Contains names tail
    tail_there = subst (λ ns. Contains ns tail) holds.names among.tail_there

    head_there : Contains names head
    head_there = subst (λ ns. Contains ns head) holds.names among.head_there

    edge_is : ◌≡◌ {A = ℕ × ℕ} edge (vertex_of names tail, vertex_of names head)
    edge_is = λ i. ((among.tail_is ∙ ap (λ ns. vertex_of ns tail) holds.names) i, (among.head_is ∙ ap (λ ns. vertex_of ns head) holds.names) i)

    -- the edge stands among the edges exactly where an edge line has these ends
    by_ends : has_edge lines tail head ≡ list_any (same_ends edge) (edges_on lines)
    by_ends =
        list_any-agree (λ line. bytes_eq tail (second line) && bytes_eq head (third line)) (λ line. same_ends (vertex_of names tail, vertex_of names head) (edge_on names line)) (edge_lines lines)
        (All-weaker (λ line. Contains names (second line) × Contains names (third line))
        (λ line. (bytes_eq tail (second line) && bytes_eq head (third line)) ≡ same_ends (vertex_of names tail, vertex_of names head) (edge_on names line))
        (λ line known. λ i. same_number names tail (second line) tail_there known.0 i && same_number names head (third line) head_there known.1 i)
        (edge_lines lines) holds.known)
        ∙ sym (list_any-map (same_ends (vertex_of names tail, vertex_of names head)) (edge_on names) (edge_lines lines))
        ∙ ap (λ e. list_any (same_ends e) (edges_on lines)) (sym edge_is)

    pub has-edge : Contains draft.labels.edges edge → has_edge lines tail head ≡ true
    has-edge there = by_ends ∙ (is_member-Decides same_ends-Decides (edges_on lines) edge).1 (subst (λ es. Contains es edge) holds.edges there)

    pub has-no_edge : ¬ Contains draft.labels.edges edge → has_edge lines tail head ≡ false
    has-no_edge none =
        by_ends ∙ false_from_ne_true (list_any (same_ends edge) (edges_on lines))
        (λ t. none (subst (λ es. Contains es edge) (sym holds.edges) ((is_member-Decides same_ends-Decides (edges_on lines) edge).0 t)))

-- the vertices of an edge
pub ends-within : (labels : LabelLists) (tail head : List ℕ) (edge : ℕ × ℕ) → IsEdgeAmong labels tail head edge → (edge.0 < length labels.names) × (edge.1 < length labels.names)
ends-within labels tail head edge among = (
  subst (λ n. n < length labels.names) (sym among.tail_is) (place_of_contained bytes_eq-Decides labels.names tail [] among.tail_there).0,
  subst (λ n. n < length labels.names) (sym among.head_is) (place_of_contained bytes_eq-Decides labels.names head [] among.head_there).0,
)

-- the causes of a node line
module _ (lines : List (List ℕ)) (line name weight : List ℕ) (has : HasFields (codes "node" ∷ name ∷ weight ∷ []) line) where
  by_node : (w r f : Bool) → is_weight weight ≡ w → has_node lines name ≡ r → is_full lines ≡ f → cause_after lines line ≡ picked false false (not w) r false false f
  by_node w r f p q s = cause-node lines line name weight has ∙ (λ i. picked false false (not (p i)) (q i) false false (s i))

  pub node-weight : is_weight weight ≡ false → cause_after lines line ≡ Some BadWeight
  node-weight p = by_node false (has_node lines name) (is_full lines) p refl refl

  pub node-repeated : is_weight weight ≡ true → has_node lines name ≡ true → cause_after lines line ≡ Some RepeatedNode
  node-repeated p q = by_node true true (is_full lines) p q refl

  pub node-many : is_weight weight ≡ true → has_node lines name ≡ false → is_full lines ≡ true → cause_after lines line ≡ Some TooMany
  node-many p q s = by_node true false true p q s

  pub node-none : is_weight weight ≡ true → has_node lines name ≡ false → is_full lines ≡ false → cause_after lines line ≡ None
  node-none p q s = by_node true false false p q s

-- the causes of an edge line
module _ (lines : List (List ℕ)) (line tail head : List ℕ) (has : HasFields (codes "edge" ∷ tail ∷ head ∷ []) line) where
  by_edge : (n r f : Bool) → (has_node lines tail && has_node lines head) ≡ n → has_edge lines tail head ≡ r → is_full lines ≡ f
      → cause_after lines line ≡ picked false false false false (not n) r f
  by_edge n r f p q s = cause-edge lines line tail head has ∙ (λ i. picked false false false false (not (p i)) (q i) (s i))

  pub edge-unknown : (has_node lines tail && has_node lines head) ≡ false → cause_after lines line ≡ Some UnknownNode
  edge-unknown p = by_edge false (has_edge lines tail head) (is_full lines) p refl refl

  pub edge-repeated : (has_node lines tail && has_node lines head) ≡ true → has_edge lines tail head ≡ true → cause_after lines line ≡ Some RepeatedEdge
  edge-repeated p q = by_edge true true (is_full lines) p q refl

  pub edge-many : (has_node lines tail && has_node lines head) ≡ true → has_edge lines tail head ≡ false → is_full lines ≡ true → cause_after lines line ≡ Some TooMany
  edge-many p q s = by_edge true false true p q s

  pub edge-none : (has_node lines tail && has_node lines head) ≡ true → has_edge lines tail head ≡ false → is_full lines ≡ false → cause_after lines line ≡ None
  edge-none p q s = by_edge true false false p q s
