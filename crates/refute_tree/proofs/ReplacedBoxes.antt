-- What a legal token asks of the box that it replaces.
use Rattle.std.proofs.Common.{◌≡◌, ℕ, true, not, ◌&&◌, nat_lt, nat_le, eqb, List, length, Option, sym, ap, ◌∙◌, ltb-true, true≢false}
use Rattle.std.specs.List.{list_any}
use Rattle.std.proofs.lemmas.Bool.{and_parts}
use Rattle.decomposition.specs.declared.Token.{Token}
use Rattle.decomposition.specs.declared.Token.TheVariants.{Gap, Miss, Split, Step}
use Rattle.decomposition.specs.Graph.{IsNet, edge_count}
use Rattle.decomposition.specs.Instance.{Instance}
use Rattle.decomposition.specs.Boxes.{Slot, slot_at, lower_at, upper_at}
use Rattle.decomposition.specs.Tokens.{is_legal, is_finished, can_branch, next_edges}
use Rattle.decomposition.proofs.Keeps.{some_next}
use Rattle.refute_tree.specs.Kept.{Replaces}

-- a legal token may replace a box
pub replaces : (i : Instance) (limit : Option ℕ) (b : List Slot) (t : Token) → IsNet i.graph → is_legal i limit b t ≡ true → Replaces i.graph b t
replaces i limit b Gap net legal = tt
replaces i limit b (Miss c) net legal = tt
replaces i limit b (Split k) net legal =
    let parts : (nat_lt k (length b) ≡ true) × ((nat_lt (lower_at b k) (upper_at b k) && can_branch i limit b) ≡ true) = and_parts (nat_lt k (length b)) _ legal in
    let less : nat_lt (lower_at b k) (upper_at b k) ≡ true = (and_parts (nat_lt (lower_at b k) (upper_at b k)) (can_branch i limit b) parts.1).0 in
    (ltb-true k (length b) parts.0, ltb-true (lower_at b k) (upper_at b k) less)
replaces i limit b (Step k) net legal =
    let parts : (nat_lt k (length b) ≡ true) × ((nat_le 1 (upper_at b k) && (not (is_finished i.graph (slot_at b k).walk) && can_branch i limit b)) ≡ true) = and_parts (nat_lt k (length b)) _ legal in
    let others : (not (is_finished i.graph (slot_at b k).walk) && can_branch i limit b) ≡ true = (and_parts (nat_le 1 (upper_at b k)) _ parts.1).1 in
    let last : (not (is_finished i.graph (slot_at b k).walk) ≡ true) × (can_branch i limit b ≡ true) = and_parts _ _ others in
    let edges : nat_lt 0 (edge_count i.graph) ≡ true = (and_parts (nat_lt 0 (edge_count i.graph)) _ last.1).0 in
    let next : (e : ℕ) × (list_any (λ y. eqb e y) (next_edges i.graph (slot_at b k).walk) ≡ true) = some_next i.graph net (slot_at b k).walk (ltb-true 0 (edge_count i.graph) edges) last.0 in
    (ltb-true k (length b) parts.0, λ none. true≢false (sym next.1 ∙ ap (list_any (λ y. eqb next.0 y)) none))
