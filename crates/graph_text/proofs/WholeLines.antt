-- No line of a block has a line feed in it.
use Rattle.std.proofs.Common.{◌≡◌, ℕ, ◌+◌, Bool, false, not, ◌||◌, ◌&&◌, List, [], ◌∷◌, length, refl}
use Rattle.std.specs.Prelude.{All, ◌==◌}
use Rattle.std.specs.List.{list_any}
use Rattle.std.proofs.lemmas.Bool.{cond_both, or_from, or_parts}
use Rattle.std.proofs.lemmas.List.Elements.{All-nil, All-cons, All-head, All-tail, All-map, All-drop, All-weaker}
use Rattle.graph_text.specs.Accepted.{HasWholeLines, BlocksHaveWholeLines}
use Rattle.graph_text.specs.Lines.{onto_first, spelled_lines, without_return, lines_of, is_hash_line, is_content_line}
use Rattle.graph_text.specs.Blocks.{join_first, groups, all_but_last, is_graph, graphs, numbered, lead, groups_of}

-- no byte is a line feed
abbrev pub IsWhole : List ℕ → Type 0
IsWhole line = list_any (λ b. b == 10) line ≡ false

without_return-whole : (line : List ℕ) → IsWhole line → IsWhole (without_return line)
without_return-whole [] whole = refl
without_return-whole (b ∷ []) whole = cond_both (b == 13) [] (b ∷ []) IsWhole (λ _. refl) (λ _. whole)
without_return-whole (b ∷ c ∷ bytes) whole =
    let parts = or_parts (b == 10) (list_any (λ b. b == 10) (c ∷ bytes)) whole in
    or_from (b == 10) _ parts.0 (without_return-whole (c ∷ bytes) parts.1)

onto_first-whole : (b : ℕ) (lines : List (List ℕ)) → (b == 10) ≡ false → All IsWhole lines → All IsWhole (onto_first b lines)
onto_first-whole b [] feed whole = All-cons IsWhole (b ∷ []) [] (or_from (b == 10) false feed refl) (All-nil IsWhole)
onto_first-whole b (line ∷ lines) feed whole =
    All-cons IsWhole (b ∷ line) lines (or_from (b == 10) _ feed (All-head IsWhole line lines whole)) (All-tail IsWhole line lines whole)

spelled_lines-whole : (bytes : List ℕ) → All IsWhole (spelled_lines bytes)
spelled_lines-whole [] = All-nil IsWhole
spelled_lines-whole (b ∷ bytes) =
    cond_both (b == 10) ([] ∷ spelled_lines bytes) (onto_first b (spelled_lines bytes)) (All IsWhole)
    (λ _. All-cons IsWhole [] (spelled_lines bytes) refl (spelled_lines-whole bytes))
    (λ f. onto_first-whole b (spelled_lines bytes) f (spelled_lines-whole bytes))

pub lines_of-whole : (bytes : List ℕ) → All IsWhole (lines_of bytes)
lines_of-whole bytes =
    All-map IsWhole without_return (spelled_lines bytes) (All-weaker IsWhole (λ line. IsWhole (without_return line)) without_return-whole (spelled_lines bytes) (spelled_lines-whole bytes))

-- all lines of a group
abbrev AreWhole : List (List ℕ) → Type 0
AreWhole group = All IsWhole group

join_first-whole : (line : List ℕ) (gs : List (List (List ℕ))) → IsWhole line → All AreWhole gs → All AreWhole (join_first line gs)
join_first-whole line [] here whole = All-cons AreWhole (line ∷ []) [] (All-cons IsWhole line [] here (All-nil IsWhole)) (All-nil AreWhole)
join_first-whole line (group ∷ gs) here whole =
    All-cons AreWhole (line ∷ group) gs (All-cons IsWhole line group here (All-head AreWhole group gs whole)) (All-tail AreWhole group gs whole)

groups-whole : (filled : Bool) (lines : List (List ℕ)) → All IsWhole lines → All AreWhole (groups filled lines)
groups-whole filled [] whole = All-nil AreWhole
groups-whole filled (line ∷ lines) whole =
    let begins = is_hash_line line && filled in
    let rest : All AreWhole (join_first line (groups (is_content_line line || (filled && not begins)) lines)) =
    join_first-whole line (groups (is_content_line line || (filled && not begins)) lines) (All-head IsWhole line lines whole)
    (groups-whole (is_content_line line || (filled && not begins)) lines (All-tail IsWhole line lines whole)) in
    cond_both begins ([] ∷ join_first line (groups (is_content_line line || (filled && not begins)) lines)) (join_first line (groups (is_content_line line || (filled && not begins)) lines)) (All AreWhole)
    (λ _. All-cons AreWhole [] _ (All-nil IsWhole) rest) (λ _. rest)

graphs-whole : (gs : List (List (List ℕ))) → All AreWhole gs → All AreWhole (graphs gs)
graphs-whole [] whole = whole
graphs-whole (group ∷ []) whole = cond_both (is_graph group) (group ∷ []) [] (All AreWhole) (λ _. whole) (λ _. All-nil AreWhole)
graphs-whole (group ∷ next ∷ rest) whole =
    All-cons AreWhole group (graphs (next ∷ rest)) (All-head AreWhole group (next ∷ rest) whole) (graphs-whole (next ∷ rest) (All-tail AreWhole group (next ∷ rest) whole))

all_but_last-whole : (gs : List (List (List ℕ))) → All AreWhole gs → All AreWhole (all_but_last gs)
all_but_last-whole [] whole = whole
all_but_last-whole (group ∷ []) whole = All-nil AreWhole
all_but_last-whole (group ∷ next ∷ rest) whole =
    All-cons AreWhole group (all_but_last (next ∷ rest)) (All-head AreWhole group (next ∷ rest) whole) (all_but_last-whole (next ∷ rest) (All-tail AreWhole group (next ∷ rest) whole))

numbered-whole : (index line : ℕ) (gs : List (List (List ℕ))) → All AreWhole gs → All HasWholeLines (numbered index line gs)
numbered-whole index line [] whole = All-nil HasWholeLines
numbered-whole index line (group ∷ gs) whole =
    All-cons HasWholeLines (record { index = index; line = line; lines = group }) (numbered (index + 1) (line + length group) gs)
    (All-head AreWhole group gs whole) (numbered-whole (index + 1) (line + length group) gs (All-tail AreWhole group gs whole))

groups_of-whole : (bytes : List ℕ) → All AreWhole (groups_of bytes)
groups_of-whole bytes = groups-whole false _ (All-drop IsWhole (length (lead bytes)) (lines_of bytes) (lines_of-whole bytes))

pub blocks_have_whole_lines : BlocksHaveWholeLines
blocks_have_whole_lines bytes = (
  numbered-whole 1 _ (graphs (groups_of bytes)) (graphs-whole (groups_of bytes) (groups_of-whole bytes)),
  numbered-whole 1 _ (all_but_last (groups_of bytes)) (all_but_last-whole (groups_of bytes) (groups_of-whole bytes)),
)
