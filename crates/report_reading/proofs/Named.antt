-- The edges that names tell.
use Rattle.std.proofs.Common.{◌≡◌, ℕ, suc, ◌+◌, ◌-◌, ◌<◌, ◌≤◌, List, [], ◌∷◌, ◌++◌, length, drop, get_or, refl, sym, ap, ◌∙◌, append_assoc, append-nil, add-one, arith, drop-cons}
use Rattle.std.specs.Prelude.{Option, Some, None}
use Rattle.std.specs.Option.{option_map, option_and_then}
use Rattle.graph_text.specs.Labels.{LabelLists}
use Rattle.report_reading.specs.LineFields.{edge_in, edges_in}

-- edges before others, and one more before those
map-more : (edges : List ℕ) (e : ℕ) (rest : Option (List ℕ)) →
    option_map (λ es. edges ++ es) (option_map (λ es. e ∷ es) rest) ≡ option_map (λ es. (edges ++ e ∷ []) ++ es) rest
map-more edges e None = refl
map-more edges e (Some es) = ap (λ x. Some x) (sym (append_assoc edges (e ∷ []) es))

and_then-some : (labels : LabelLists) (a b : List ℕ) (names : List (List ℕ)) (e : ℕ) → edge_in labels a b ≡ Some e →
    edges_in labels (a ∷ b ∷ names) ≡ option_map (λ es. e ∷ es) (edges_in labels (b ∷ names))
and_then-some labels a b names e found = ap (λ o. option_and_then (λ x. option_map (λ es. x ∷ es) (edges_in labels (b ∷ names))) o) found

and_then-none : (labels : LabelLists) (a b : List ℕ) (names : List (List ℕ)) → edge_in labels a b ≡ None → edges_in labels (a ∷ b ∷ names) ≡ None
and_then-none labels a b names none = ap (λ o. option_and_then (λ x. option_map (λ es. x ∷ es) (edges_in labels (b ∷ names))) o) none

drop-two : (names : List (List ℕ)) (i : ℕ) → 1 ≤ i → i < length names →
    drop (i - 1) names ≡ get_or names (i - 1) [] ∷ get_or names i [] ∷ drop (i + 1) names
drop-two names i one there =
    let e : suc (i - 1) ≡ i = omega arith in
    drop-cons names (i - 1) [] (omega arith)
    ∙ ap (λ k. get_or names (i - 1) [] ∷ drop k names) e
    ∙ ap (λ rest. get_or names (i - 1) [] ∷ rest) (drop-cons names i [] there ∙ ap (λ k. get_or names i [] ∷ drop k names) (sym (add-one i)))

drop-one : (names : List (List ℕ)) (i : ℕ) → i < length names → drop i names ≡ get_or names i [] ∷ drop (i + 1) names
drop-one names i there = drop-cons names i [] there ∙ ap (λ k. get_or names i [] ∷ drop k names) (sym (add-one i))

-- one name more
pub edges_in-more : (labels : LabelLists) (names : List (List ℕ)) (edges : List ℕ) (i e : ℕ) → 1 ≤ i → i < length names →
    edge_in labels (get_or names (i - 1) []) (get_or names i []) ≡ Some e →
    edges_in labels names ≡ option_map (λ es. edges ++ es) (edges_in labels (drop (i - 1) names)) →
    edges_in labels names ≡ option_map (λ es. (edges ++ e ∷ []) ++ es) (edges_in labels (drop i names))
edges_in-more labels names edges i e one there found so_far =
    so_far
    ∙ ap (λ o. option_map (λ es. edges ++ es) (edges_in labels o)) (drop-two names i one there)
    ∙ ap (λ o. option_map (λ es. edges ++ es) o) (and_then-some labels (get_or names (i - 1) []) (get_or names i []) (drop (i + 1) names) e found)
    ∙ map-more edges e (edges_in labels (get_or names i [] ∷ drop (i + 1) names))
    ∙ ap (λ ns. option_map (λ es. (edges ++ e ∷ []) ++ es) (edges_in labels ns)) (sym (drop-one names i there))

-- two neighbours that are no edge
pub edges_in-none : (labels : LabelLists) (names : List (List ℕ)) (edges : List ℕ) (i : ℕ) → 1 ≤ i → i < length names →
    edge_in labels (get_or names (i - 1) []) (get_or names i []) ≡ None →
    edges_in labels names ≡ option_map (λ es. edges ++ es) (edges_in labels (drop (i - 1) names)) →
    None ≡ edges_in labels names
edges_in-none labels names edges i one there none so_far =
    sym (so_far
    ∙ ap (λ o. option_map (λ es. edges ++ es) (edges_in labels o)) (drop-two names i one there)
    ∙ ap (λ o. option_map (λ es. edges ++ es) o) (and_then-none labels (get_or names (i - 1) []) (get_or names i []) (drop (i + 1) names) none))

-- the last name
few : (labels : LabelLists) (names : List (List ℕ)) → length names ≤ 1 → edges_in labels names ≡ Some []
few labels [] h = refl
few labels (name ∷ []) h = refl
few labels (a ∷ b ∷ names) h = absurd (omega (arith, h))

pub edges_in-all : (labels : LabelLists) (names : List (List ℕ)) (edges : List ℕ) (i : ℕ) → length (drop (i - 1) names) ≤ 1 →
    edges_in labels names ≡ option_map (λ es. edges ++ es) (edges_in labels (drop (i - 1) names)) →
    Some edges ≡ edges_in labels names
edges_in-all labels names edges i h so_far =
    sym (so_far ∙ ap (λ o. option_map (λ es. edges ++ es) o) (few labels (drop (i - 1) names) h) ∙ ap (λ x. Some x) (append-nil edges))
