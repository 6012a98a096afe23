-- Lines that are added field by field, and texts that are added line by line.
use Rattle.std.proofs.Common.{◌≡◌, ℕ, ◌+◌, add-one, ◌<◌, List, [], ◌∷◌, ◌++◌, length, take, get_or, sym, ap, ◌∙◌, append_assoc, append-nil}
use Rattle.std.specs.Prelude.{flat_map, map}
use Rattle.std.specs.Borrow.{Bor}
use Rattle.std.specs.List.{join_with_byte}
use Rattle.std.proofs.lemmas.List.{flat_map_more, take_more}
use Rattle.decomposition.specs.Graph.{below}
use Rattle.report_reading.specs.ReportText.{line}

-- a field with a space before it
abbrev pub spaced : Bor (List ℕ) → List ℕ
spaced f = 32 ∷ f.now

-- one field more
pub field_more : (text : List ℕ) (fields : List (Bor (List ℕ))) (i : ℕ) (d : Bor (List ℕ)) → i < length fields →
    ((text ++ flat_map spaced (take i fields)) ++ 32 ∷ []) ++ (get_or fields i d).now ≡ text ++ flat_map spaced (take (i + 1) fields)
field_more text fields i d there =
    append_assoc (text ++ flat_map spaced (take i fields)) (32 ∷ []) (get_or fields i d).now
    ∙ flat_map_more spaced text (take i fields) (get_or fields i d)
    ∙ ap (λ fs. text ++ flat_map spaced fs) (sym (take_more fields i d there))

join-fields : (word : List ℕ) (fields : List (Bor (List ℕ))) → join_with_byte 32 (word ∷ map (λ (f : Bor (List ℕ)). f.now) fields) ≡ word ++ flat_map spaced fields
join-fields word [] = sym (append-nil word)
join-fields word (f ∷ fields) = ap (λ x. word ++ (32 ∷ x)) (join-fields f.now fields)

-- a line is its word, its other fields with a space before each, and a line feed
pub line-of : (text word : List ℕ) (fields : List (Bor (List ℕ))) →
    ((text ++ word) ++ flat_map spaced fields) ++ 10 ∷ [] ≡ text ++ line (word ∷ map (λ (f : Bor (List ℕ)). f.now) fields)
line-of text word fields =
    ap (λ x. x ++ 10 ∷ []) (append_assoc text word (flat_map spaced fields) ∙ ap (λ x. text ++ x) (sym (join-fields word fields)))
    ∙ append_assoc text (join_with_byte 32 (word ∷ map (λ (f : Bor (List ℕ)). f.now) fields)) (10 ∷ [])

-- one item more
pub items_more : (f : ℕ → List ℕ) (text : List ℕ) (n : ℕ) → (text ++ flat_map f (below n)) ++ f n ≡ text ++ flat_map f (below (n + 1))
items_more f text n = flat_map_more f text (below n) n ∙ ap (λ es. text ++ flat_map f es) (sym (ap below (add-one n)))
