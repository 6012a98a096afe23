-- The fields of a line of a report text, and what they spell.
use Rattle.std.specs.Prelude.{ℕ, ◌-◌, ◌==◌, List, [], ◌∷◌, length, map, Bool, not, ◌&&◌, ◌||◌, nat_eq, nat_le, if◌then◌else◌, Option, Some, None, codes, slice_index_or}
use Rattle.std.specs.Borrow.{Bor}
use Rattle.std.specs.List.{list_any, slice_split, starts_with, position, find}
use Rattle.std.specs.Option.{option_map, option_and_then}
use Rattle.std.specs.Str.{bytes_eq}
use Rattle.decomposition.specs.declared.Decision.{Decision}
use Rattle.decomposition.specs.Graph.{same_ends}
use Rattle.report_terms.specs.declared.refusal.Why.{Why}
use Rattle.report_terms.specs.declared.refusal.Why.TheVariants.{LongLine, BadCount, BadFields, BadWeight, BadRange, RepeatedEdge, TooManyEdges, TooManyConstraints, ShortConstraint, Cycle, UnknownEdge, Unconserved}
use Rattle.graph_text.specs.Labels.{LabelLists}
use Rattle.graph_text.specs.Reading.{are_digits, number_of}
use Rattle.report_reading.specs.ReportText.{why_word}

-- fields that are borrowed, as bytes
abbrev pub texts : List (Bor (List ℕ)) → List (List ℕ)
texts fields = map (λ (field : Bor (List ℕ)). field.now) fields

-- the fields of a line, one space between each two; a line with a tab, or with a space too many, has none
abbrev pub spaced_fields : List ℕ → List (List ℕ)
spaced_fields l =
    let fields = slice_split (λ b. b == 32) l in
    if list_any (λ b. b == 9) l || list_any (λ field. length field == 0) fields then [] else fields

-- the field at a place, counted from 0
abbrev pub field_at : List (List ℕ) → ℕ → List ℕ
field_at fields i = slice_index_or fields i []

-- whether so many fields begin with these words
abbrev pub has_words : List (List ℕ) → ℕ → List (List ℕ) → Bool
has_words words count fields = (length fields == count) && starts_with bytes_eq fields words

-- whether at least so many fields begin with these words
abbrev pub has_words_and_more : List (List ℕ) → ℕ → List (List ℕ) → Bool
has_words_and_more words least fields = nat_le least (length fields) && starts_with bytes_eq fields words

-- whether a field begins with a zero
abbrev pub begins_with_zero : List ℕ → Bool
begins_with_zero field = starts_with nat_eq field (48 ∷ [])

-- the greatest number that fits 64 bits
abbrev pub greatest : ℕ
greatest = 18446744073709551615

-- the number of a field: digits without a leading zero, and neither below the least nor above the most
abbrev pub number_in : ℕ → ℕ → List ℕ → Option ℕ
number_in least most field =
    if are_digits field
    && ((length field == 1 || not (begins_with_zero field)) && (nat_le least (number_of field) && nat_le (number_of field) most))
    then Some (number_of field)
    else None

-- a number, or none
abbrev pub limit_in : List ℕ → Option (Option ℕ)
limit_in field = if bytes_eq field (codes "none") then Some None else option_map (λ n. Some n) (number_in 0 greatest field)

-- a slot or a rule: counted from 1 in the text, from 0 otherwise
abbrev pub place_in : List ℕ → Option ℕ
place_in field = option_map (λ n. n - 1) (number_in 1 4294967295 field)

-- a decision, from its slots and its limit
abbrev pub decision_in : List ℕ → List ℕ → Option Decision
decision_in slots limit =
    option_and_then (λ s. option_map (λ l. record { slots = s; limit = l }) (limit_in limit)) (number_in 0 4294967295 slots)

-- all refusals of a block
abbrev pub all_whys : List Why
all_whys =
    LongLine ∷ BadCount ∷ BadFields ∷ BadWeight ∷ BadRange ∷ RepeatedEdge ∷ TooManyEdges ∷ TooManyConstraints ∷ ShortConstraint ∷ Cycle ∷ UnknownEdge ∷ Unconserved ∷ []

-- the refusal that has this word
abbrev pub why_in : List ℕ → Option Why
why_in word = find (λ why. bytes_eq (why_word why) word) all_whys

-- the vertex of a name
abbrev pub vertex_in : LabelLists → List ℕ → Option ℕ
vertex_in labels name = position (bytes_eq name) labels.names

-- the edge from the vertex of one name to that of another
abbrev pub edge_in : LabelLists → List ℕ → List ℕ → Option ℕ
edge_in labels tail head =
    option_and_then (λ u. option_and_then (λ v. position (same_ends (u, v)) labels.edges) (vertex_in labels head)) (vertex_in labels tail)

-- the edges along names, one from each to the next
abbrev pub edges_in : LabelLists → List (List ℕ) → Option (List ℕ)
edges_in labels [] = Some []
edges_in labels (name ∷ []) = Some []
edges_in labels (name ∷ next ∷ names) =
    let rest = edges_in labels (next ∷ names) in
    option_and_then (λ e. option_map (λ es. e ∷ es) rest) (edge_in labels name next)
