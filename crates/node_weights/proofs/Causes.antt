-- The cause for which a line is refused, by the kind of the line.
use Rattle.std.proofs.Common.{◌≡◌, ℕ, Bool, true, false, not, ◌&&◌, List, [], ◌∷◌, length, filter, Option, Some, None, refl, sym, ap, ◌∙◌}
use Rattle.std.specs.Prelude.{◌==◌, nat_lt, option_map, codes, get_or}
use Rattle.std.specs.Str.{bytes_eq}
use Rattle.std.proofs.lemmas.Bool.{and_left, and_right, and_from, not-false, false_from_ne_true, true≢false}
use Rattle.std.proofs.lemmas.Slice.Eq.{bytes_eq-Decides}
use Rattle.graph_text.specs.Lines.{fields_of, are_no_fields, are_hash_fields, begins_with_hash, is_blank_line, is_content_line}
use Rattle.graph_text.specs.Reading.{most_bytes, is_weight}
use Rattle.node_weights.specs.declared.node_fault.NodeWhy.{NodeWhy}
use Rattle.node_weights.specs.declared.node_fault.NodeWhy.TheVariants.{LongLine, BadLine, BadWeight, RepeatedNode, UnknownNode, RepeatedEdge, TooMany}
use Rattle.node_weights.specs.NodeText.{most_lines, is_word_and_two, is_node_line, is_edge_line, content_lines, second, third, has_node, has_edge, first, cause_after}
use Rattle.node_weights.specs.Draft.{HasFields}

-- of seven causes the first that is there
abbrev pub picked : (long bad weight repeated unknown edge many : Bool) → Option NodeWhy
picked long bad weight repeated unknown edge many =
    option_map (λ (cause : NodeWhy × Bool). cause.0) (first (filter (λ (cause : NodeWhy × Bool). cause.1)
    ((LongLine, long) ∷ (BadLine, bad) ∷ (BadWeight, weight) ∷ (RepeatedNode, repeated) ∷ (UnknownNode, unknown) ∷ (RepeatedEdge, edge) ∷ (TooMany, many) ∷ [])))

-- the fields of a line that is neither blank nor a `#` line
abbrev pub are_content : List (List ℕ) → Bool
are_content fields = not (are_no_fields fields) && not (are_hash_fields fields)

-- whether as many lines are not ignored as may be
abbrev pub is_full : List (List ℕ) → Bool
is_full before = length (content_lines before) == most_lines

-- the cause by the fields
abbrev pub cause_by : List (List ℕ) → List (List ℕ) → Bool → Option NodeWhy
cause_by before fields long =
    let node = is_word_and_two (codes "node") fields in
    let edge = is_word_and_two (codes "edge") fields in
    let u = get_or fields 1 [] in
    let v = get_or fields 2 [] in
    picked (not (are_no_fields fields) && long) (are_content fields && (not node && not edge)) (node && not (is_weight v)) (node && has_node before u)
    (edge && not (has_node before u && has_node before v)) (edge && has_edge before u v) (are_content fields && is_full before)

cause-by : (before : List (List ℕ)) (line : List ℕ) → cause_after before line ≡ cause_by before (fields_of line) (nat_lt most_bytes (length line))
unfolding cause_after
cause-by before line = refl

-- a node line
pub cause-node : (before : List (List ℕ)) (line name weight : List ℕ) → HasFields (codes "node" ∷ name ∷ weight ∷ []) line
    → cause_after before line ≡ picked false false (not (is_weight weight)) (has_node before name) false false (is_full before)
cause-node before line name weight has = cause-by before line ∙ (λ i. cause_by before (has.fields_are i) (has.short i))

-- an edge line
pub cause-edge : (before : List (List ℕ)) (line tail head : List ℕ) → HasFields (codes "edge" ∷ tail ∷ head ∷ []) line
    → cause_after before line ≡ picked false false false false (not (has_node before tail && has_node before head)) (has_edge before tail head) (is_full before)
cause-edge before line tail head has = cause-by before line ∙ (λ i. cause_by before (has.fields_are i) (has.short i))

-- words that begin no `#` line
module _ (word : List ℕ) (plain : begins_with_hash word ≡ false) where
  pub word-ignored : (fields : List (List ℕ)) → are_content fields ≡ false → is_word_and_two word fields ≡ false
  word-ignored [] h = refl
  word-ignored (a ∷ []) h = refl
  word-ignored (a ∷ b ∷ []) h = refl
  word-ignored (a ∷ b ∷ c ∷ []) h =
      false_from_ne_true (bytes_eq a word)
      (λ t. true≢false (sym (not-false (begins_with_hash a) h) ∙ ap begins_with_hash ((bytes_eq-Decides a word).0 t) ∙ plain))
  word-ignored (a ∷ b ∷ c ∷ d ∷ ds) h = refl

-- a line that is ignored
pub record IsIgnored (line : List ℕ) : Type 0 where
  pub content : is_content_line line ≡ false
  pub node : is_node_line line ≡ false
  pub edge : is_edge_line line ≡ false

pub ignored : (line : List ℕ) → is_content_line line ≡ false → IsIgnored line
ignored line content = record {
  content = content;
  node = word-ignored (codes "node") refl (fields_of line) content;
  edge = word-ignored (codes "edge") refl (fields_of line) content;
}

-- a line whose fields are no node and no edge has no other cause than its length and its form
module _ (before : List (List ℕ)) (line : List ℕ) where
  abbrev long : Bool
  long = not (is_blank_line line) && nat_lt most_bytes (length line)

  abbrev u : List ℕ
  u = second line

  abbrev v : List ℕ
  v = third line

  by_parts : (l b n e m : Bool) → long ≡ l → (is_content_line line && (not n && not e)) ≡ b → is_node_line line ≡ n → is_edge_line line ≡ e → (is_content_line line && is_full before) ≡ m
      → cause_after before line ≡ picked l b (n && not (is_weight v)) (n && has_node before u) (e && not (has_node before u && has_node before v)) (e && has_edge before u v) m
  by_parts l b n e m p q r s t =
      cause-by before line
      ∙ (λ i. picked (p i) (is_content_line line && (not (r i) && not (s i))) (r i && not (is_weight v)) (r i && has_node before u) (s i && not (has_node before u && has_node before v)) (s i && has_edge before u v) (t i))
      ∙ ap (λ x. picked l x (n && not (is_weight v)) (n && has_node before u) (e && not (has_node before u && has_node before v)) (e && has_edge before u v) m) q

  pub cause-ignored : is_content_line line ≡ false → long ≡ false → cause_after before line ≡ None
  cause-ignored content short =
      let is = ignored line content in
      by_parts false false false false false short (and_left _ _ content) is.node is.edge (and_left _ _ content)

  pub cause-bad : is_content_line line ≡ true → nat_lt most_bytes (length line) ≡ false → is_node_line line ≡ false → is_edge_line line ≡ false → cause_after before line ≡ Some BadLine
  cause-bad content short node edge =
      by_parts false true false false (is_content_line line && is_full before) (and_right _ _ short) (and_from _ _ content refl) node edge refl

  pub cause-long : is_blank_line line ≡ false → nat_lt most_bytes (length line) ≡ true → cause_after before line ≡ Some LongLine
  cause-long filled is_long =
      by_parts true (is_content_line line && (not (is_node_line line) && not (is_edge_line line))) (is_node_line line) (is_edge_line line) (is_content_line line && is_full before)
      (and_from (not (is_blank_line line)) (nat_lt most_bytes (length line)) (ap not filled) is_long) refl refl refl refl
