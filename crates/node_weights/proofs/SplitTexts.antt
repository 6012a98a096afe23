-- The text of a split graph, told line by line.
use Rattle.std.proofs.Common.{◌≡◌, ℕ, ◌+◌, ◌<◌, ◌≤◌, true, false, true≢false, ⊎_elim, List, [], ◌∷◌, ◌++◌, length, take, get_or, refl, sym, ap, ◌∙◌, arith, append_assoc}
use Rattle.std.specs.Prelude.{◌*◌, flat_map, map, max, codes, decimal}
use Rattle.std.specs.List.{range_with_len}
use Rattle.report_reading.specs.ReportText.{line}
use Rattle.std.proofs.lemmas.Grind.{flat_map-append}
use Rattle.std.proofs.lemmas.List.{map-append, map_push, take_more, flat_map_more}
use Rattle.std.proofs.lemmas.List.FromFn.{map-range_with_len_more}
use Rattle.std.proofs.lemmas.Bool.{cases_Bool}
use Rattle.std.proofs.lemmas.Map.Keys.{ge_from_not_lt, le_from_is_le}
use Rattle.std.specs.declared.cmp.Ordering.{Ordering}
use Rattle.std.specs.declared.cmp.Ordering.TheVariants.{Less, Equal, Greater}
use Rattle.std.specs.Ordering.{nat_cmp, is_lt, is_le, ord_max}
use Rattle.graph_text.proofs.Places.{map-map}
use Rattle.node_routes.specs.Split.{heaviest}
use Rattle.node_weights.specs.NodeText.{NodeLists}
use Rattle.node_weights.specs.SplitText.{named_vertex, named_link, edge_fields, split_text}

-- the heaviest with one weight more
pub heaviest-push : (ws : List ℕ) (w : ℕ) → heaviest (ws ++ w ∷ []) ≡ max (heaviest ws) w
heaviest-push [] w = omega arith
heaviest-push (v ∷ ws) w = omega (arith, heaviest-push ws w)

-- the greater of two numbers, as code finds it
less_is_le : (o : Ordering) → is_lt o ≡ true → is_le o ≡ true
less_is_le Less lt = refl
less_is_le Equal lt = absurd (true≢false (sym lt))
less_is_le Greater lt = absurd (true≢false (sym lt))

pub max_is : (a b : ℕ) → ord_max nat_cmp a b ≡ max a b
max_is a b =
    ⊎_elim
    (λ (lt : is_lt (nat_cmp b a) ≡ true). let le : b ≤ a = le_from_is_le b a (less_is_le (nat_cmp b a) lt) in rw lt (omega arith))
    (λ (ge : is_lt (nat_cmp b a) ≡ false). let le : a ≤ b = ge_from_not_lt b a ge in rw ge (omega arith))
    (cases_Bool (is_lt (nat_cmp b a)))

-- the lines of the first vertices, and of some edges
abbrev pub vertex_lines : NodeLists → ℕ → List ℕ
vertex_lines g n = flat_map line (map (λ v. edge_fields (named_vertex g v)) (range_with_len 0 n))

abbrev pub link_lines : NodeLists → List (ℕ × ℕ) → List ℕ
link_lines g edges = flat_map line (map (λ e. edge_fields (named_link g e)) edges)

-- with one more of them
pub vertex_lines-more : (g : NodeLists) (text : List ℕ) (v : ℕ) → (text ++ vertex_lines g v) ++ line (edge_fields (named_vertex g v)) ≡ text ++ vertex_lines g (v + 1)
vertex_lines-more g text v =
    let fields : ℕ → List (List ℕ) = λ u. edge_fields (named_vertex g u) in
    flat_map_more line text (map fields (range_with_len 0 v)) (fields v)
    ∙ ap (λ ls. text ++ flat_map line ls) (sym (map-range_with_len_more fields 0 v v (omega arith)))

pub link_lines-more : (g : NodeLists) (text : List ℕ) (edges : List (ℕ × ℕ)) (i : ℕ) (d : ℕ × ℕ) → i < length edges →
    (text ++ link_lines g (take i edges)) ++ line (edge_fields (named_link g (get_or edges i d))) ≡ text ++ link_lines g (take (i + 1) edges)
link_lines-more g text edges i d there =
    let fields : ℕ × ℕ → List (List ℕ) = λ e. edge_fields (named_link g e) in
    flat_map_more line text (map fields (take i edges)) (fields (get_or edges i d))
    ∙ ap (λ ls. text ++ flat_map line ls) (sym (map_push fields (take i edges) (get_or edges i d)) ∙ ap (map fields) (sym (take_more edges i d there)))

-- the text is its first two lines, the lines of the vertices, and those of the edges
pub split_text-parts : (g : NodeLists) →
    ((line (codes "#" ∷ codes "nodes" ∷ []) ++ line (decimal (2 * length g.names) ∷ [])) ++ vertex_lines g (length g.names)) ++ link_lines g g.edges ≡ split_text g
unfolding split_text
split_text-parts g =
    let head = line (codes "#" ∷ codes "nodes" ∷ []) in
    let count = line (decimal (2 * length g.names) ∷ []) in
    let vertices = map (named_vertex g) (range_with_len 0 (length g.names)) in
    let links = map (named_link g) g.edges in
    append_assoc (head ++ count) (vertex_lines g (length g.names)) (link_lines g g.edges)
    ∙ append_assoc head count (vertex_lines g (length g.names) ++ link_lines g g.edges)
    ∙ ap (λ x. head ++ (count ++ x))
    ((λ i. flat_map line (sym (map-map edge_fields (named_vertex g) (range_with_len 0 (length g.names))) i) ++ flat_map line (sym (map-map edge_fields (named_link g) g.edges) i))
    ∙ sym (flat_map-append line (map edge_fields vertices) (map edge_fields links))
    ∙ ap (flat_map line) (sym (map-append edge_fields vertices links)))
