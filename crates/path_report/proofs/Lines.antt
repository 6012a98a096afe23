-- A line, word by word.
use Rattle.std.proofs.Common.{◌≡◌, ℕ, ◌<◌, List, [], ◌∷◌, ◌++◌, length, get_or, sym, ◌∙◌, ap, append-nil, append_assoc, arith}
use Rattle.std.specs.Prelude.{flat_map, map, codes, decimal}
use Rattle.std.specs.List.{join_with_byte}
use Rattle.std.proofs.lemmas.List.Folds.{flat_map-map}
use Rattle.decomposition.specs.declared.Side.{Side}
use Rattle.graph_text.specs.Labels.{LabelLists, name_at, tail_at, head_at}
use Rattle.report_reading.specs.Names.{names_along}
use Rattle.report_reading.specs.ReportText.{line, side_word, path_line, run_line}
use Rattle.path_report.specs.Sending.{spaced}

join-fields : (word : List ℕ) (fields : List (List ℕ)) → join_with_byte 32 (word ∷ fields) ≡ word ++ flat_map spaced fields
join-fields word [] = sym (append-nil word)
join-fields word (f ∷ fields) = ap (λ x. word ++ (32 ∷ x)) (join-fields f fields)

-- a line is its word, its other fields with a space before each, and a line feed
pub line-of : {X : Type 0} (field : X → List ℕ) (word : List ℕ) (xs : List X) →
    (word ++ flat_map (λ x. spaced (field x)) xs) ++ 10 ∷ [] ≡ line (word ∷ map field xs)
line-of field word xs =
    ap (λ x. x ++ 10 ∷ []) (ap (λ x. word ++ x) (sym (flat_map-map spaced field xs)) ∙ sym (join-fields word (map field xs)))

-- the line of a path, by its parts
pub path_line-parts : (labels : LabelLists) (path : List ℕ) (weight : ℕ) →
    ((codes "path" ++ spaced (decimal weight)) ++ flat_map spaced (names_along labels path)) ++ 10 ∷ [] ≡ path_line labels (path, weight)
path_line-parts labels path weight =
    ap (λ x. x ++ 10 ∷ [])
    (append_assoc (codes "path") (spaced (decimal weight)) (flat_map spaced (names_along labels path))
    ∙ sym (join-fields (codes "path") (decimal weight ∷ names_along labels path)))

-- the line of a run, by its parts
pub run_line-parts : (labels : LabelLists) (run : List ℕ) →
    (codes "run" ++ flat_map spaced (names_along labels run)) ++ 10 ∷ [] ≡ run_line labels run
run_line-parts labels run = ap (λ x. x ++ 10 ∷ []) (sym (join-fields (codes "run") (names_along labels run)))

-- the line of an entry, by its path and its weight
pub path_line-entry : (labels : LabelLists) (entry : List ℕ × ℕ) (path : List ℕ) (weight : ℕ) → path ≡ entry.0 → weight ≡ entry.1 →
    path_line labels (path, weight) ≡ path_line labels entry
path_line-entry labels entry path weight p w =
    ap (λ x. line (codes "path" ∷ decimal x ∷ names_along labels path)) w
    ∙ ap (λ x. line (codes "path" ∷ decimal entry.1 ∷ names_along labels x)) p

-- the names along a run: that of the first tail, and those of the heads
pub names_along-run : (labels : LabelLists) (run : List ℕ) → 0 < length run →
    spaced (name_at labels (tail_at labels (get_or run 0 0))) ++ flat_map (λ e. spaced (name_at labels (head_at labels e))) run
    ≡ flat_map spaced (names_along labels run)
names_along-run labels [] some = absurd (omega (arith, some))
names_along-run labels (e ∷ run) some =
    ap (λ x. spaced (name_at labels (tail_at labels e)) ++ x)
    (sym (flat_map-map (λ v. spaced (name_at labels v)) (head_at labels) (e ∷ run))
    ∙ sym (flat_map-map spaced (name_at labels) (map (head_at labels) (e ∷ run))))

-- the first line of a cut, by its fields
pub cut_line-fields : {word digits : List ℕ} (side : Side) (count : ℕ) → word ≡ side_word side → digits ≡ decimal count →
    line (codes "cert" ∷ codes "cut" ∷ word ∷ digits ∷ []) ≡ line (codes "cert" ∷ codes "cut" ∷ side_word side ∷ decimal count ∷ [])
cut_line-fields side count w d = cc

-- the first line of a crowd, by its fields
pub crowd_line-fields : {tail head digits : List ℕ} (labels : LabelLists) (e count : ℕ) → tail ≡ name_at labels (tail_at labels e) →
    head ≡ name_at labels (head_at labels e) → digits ≡ decimal count →
    line (codes "cert" ∷ codes "crowd" ∷ tail ∷ head ∷ digits ∷ [])
    ≡ line (codes "cert" ∷ codes "crowd" ∷ name_at labels (tail_at labels e) ∷ name_at labels (head_at labels e) ∷ decimal count ∷ [])
crowd_line-fields labels e count t h d = cc
