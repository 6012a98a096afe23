-- The ends of edges, gathered one after another.
use Rattle.std.proofs.Common.{◌≡◌, ℕ, ◌+◌, ◌<◌, Bool, true, false, cond, List, [], ◌∷◌, ◌++◌, map, length, take, get_or, sym, ap, ◌∙◌, append_assoc}
use Rattle.std.specs.Prelude.{flat_map}
use Rattle.std.specs.List.{list_any}
use Rattle.std.specs.Str.{bytes_eq}
use Rattle.std.proofs.lemmas.Grind.{flat_map-append}
use Rattle.std.proofs.lemmas.List.{take_more, map_push}
use Rattle.graph_text.specs.Labels.{with_name}
use Rattle.graph_text.specs.Reading.{distinct}
use Rattle.graph_text.proofs.Naming.{names_inserted}
use Rattle.graph_text.proofs.Mentions.{distinct-push}
use Rattle.demo_text.specs.declared.edge.Edge.{Edge}
use Rattle.demo_text.specs.declared.vertex.Vertex.{Vertex}
use Rattle.demo_text.specs.Demo.{name_of, ends_of, both_ends}

-- what the code finds among the vertices
pub vertex_there : (known slice : List Vertex) (vertex : Vertex) (b : Bool) → slice ≡ known → b ≡ list_any (λ other. bytes_eq (name_of vertex) (name_of other)) slice → b ≡ true
    → map name_of known ≡ with_name (map name_of known) (name_of vertex)
vertex_there known slice vertex b same is true_is =
    ap (λ t. map name_of (cond t known (known ++ vertex ∷ []))) (sym true_is ∙ is ∙ ap (list_any (λ other. bytes_eq (name_of vertex) (name_of other))) same)
    ∙ names_inserted name_of known vertex

pub vertex_new : (known slice : List Vertex) (vertex : Vertex) (b : Bool) → slice ≡ known → b ≡ list_any (λ other. bytes_eq (name_of vertex) (name_of other)) slice → b ≡ false
    → map name_of (known ++ vertex ∷ []) ≡ with_name (map name_of known) (name_of vertex)
vertex_new known slice vertex b same is false_is =
    ap (λ t. map name_of (cond t known (known ++ vertex ∷ []))) (sym false_is ∙ is ∙ ap (list_any (λ other. bytes_eq (name_of vertex) (name_of other))) same)
    ∙ names_inserted name_of known vertex

-- both ends of one more edge
pub ends_more : (edges : List Edge) (i : ℕ) (d : Edge) (old middle new : List (List ℕ)) → i < length edges
    → old ≡ distinct (flat_map both_ends (map ends_of (take i edges)))
    → middle ≡ with_name old (name_of (get_or edges i d).tail) → new ≡ with_name middle (name_of (get_or edges i d).head)
    → new ≡ distinct (flat_map both_ends (map ends_of (take (i + 1) edges)))
ends_more edges i d old middle new within is first second =
    let edge = get_or edges i d in
    let names = flat_map both_ends (map ends_of (take i edges)) in
    let tail = name_of edge.tail in
    let head = name_of edge.head in
    second ∙ ap (λ ns. with_name ns head) (first ∙ ap (λ ns. with_name ns tail) is ∙ sym (distinct-push names tail))
    ∙ sym (distinct-push (names ++ tail ∷ []) head)
    ∙ ap distinct
    (append_assoc names (tail ∷ []) (head ∷ [])
    ∙ sym (flat_map-append both_ends (map ends_of (take i edges)) (ends_of edge ∷ []))
    ∙ ap (flat_map both_ends) (sym (map_push ends_of (take i edges) edge))
    ∙ ap (λ es. flat_map both_ends (map ends_of es)) (sym (take_more edges i d within)))
