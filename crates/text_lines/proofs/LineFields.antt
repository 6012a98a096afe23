-- Lines that are added field by field, and texts that are added line by line.
use Rattle.std.proofs.Common.{◌≡◌, ℕ, ◌+◌, add-one, ◌<◌, List, [], ◌∷◌, ◌++◌, length, take, get_or, sym, ap, ◌∙◌, append_assoc, append-nil}
use Rattle.std.specs.Prelude.{flat_map, map}
use Rattle.std.specs.Borrow.{Bor}
use Rattle.std.specs.List.{join_with_byte}
use Rattle.std.proofs.lemmas.List.{flat_map_more, take_more}
use Rattle.decomposition.specs.Graph.{below}
use Rattle.report_reading.specs.ReportText.{line}
use Rattle.text_lines.specs.TextLines.{spaced}

-- a borrowed field with a space before it
abbrev pub spaced_now : Bor (List ℕ) → List ℕ
spaced_now f = spaced f.now

-- a space and a field more
pub field_after_space : (text field : List ℕ) → (text ++ 32 ∷ []) ++ field ≡ text ++ spaced field
field_after_space text field = append_assoc text (32 ∷ []) field

-- one entry more of those that are told one after another
pub entry_more : {X : Type 0} (f : X → List ℕ) (text : List ℕ) (xs : List X) (i : ℕ) (d : X) → i < length xs →
    (text ++ flat_map f (take i xs)) ++ f (get_or xs i d) ≡ text ++ flat_map f (take (i + 1) xs)
entry_more f text xs i d there =
    flat_map_more f text (take i xs) (get_or xs i d) ∙ ap (λ ys. text ++ flat_map f ys) (sym (take_more xs i d there))

-- a line is its word, its other fields with a space before each, and a line feed
pub join-fields : (word : List ℕ) (fields : List (List ℕ)) → join_with_byte 32 (word ∷ fields) ≡ word ++ flat_map spaced fields
join-fields word [] = sym (append-nil word)
join-fields word (f ∷ fields) = ap (λ x. word ++ (32 ∷ x)) (join-fields f fields)

join-borrowed : (word : List ℕ) (fields : List (Bor (List ℕ))) → join_with_byte 32 (word ∷ map (λ (f : Bor (List ℕ)). f.now) fields) ≡ word ++ flat_map spaced_now fields
join-borrowed word [] = sym (append-nil word)
join-borrowed word (f ∷ fields) = ap (λ x. word ++ (32 ∷ x)) (join-borrowed f.now fields)

pub line-of : (text word : List ℕ) (fields : List (Bor (List ℕ))) →
    ((text ++ word) ++ flat_map spaced_now fields) ++ 10 ∷ [] ≡ text ++ line (word ∷ map (λ (f : Bor (List ℕ)). f.now) fields)
line-of text word fields =
    ap (λ x. x ++ 10 ∷ []) (append_assoc text word (flat_map spaced_now fields) ∙ ap (λ x. text ++ x) (sym (join-borrowed word fields)))
    ∙ append_assoc text (join_with_byte 32 (word ∷ map (λ (f : Bor (List ℕ)). f.now) fields)) (10 ∷ [])

-- one number more
pub items_more : (f : ℕ → List ℕ) (text : List ℕ) (n : ℕ) → (text ++ flat_map f (below n)) ++ f n ≡ text ++ flat_map f (below (n + 1))
items_more f text n = flat_map_more f text (below n) n ∙ ap (λ es. text ++ flat_map f es) (sym (ap below (add-one n)))
