-- The blocks of a graph text, cut from the whole list of its lines.
use Rattle.std.specs.Prelude.{◌≡◌, ℕ, ◌+◌, ◌==◌, ◌≤◌, List, [], ◌∷◌, length, drop, reverse, Bool, false, not, ◌&&◌, ◌||◌, nat_le, if◌then◌else◌, take_while, All}
use Rattle.std.specs.List.{list_any}
use Rattle.graph_text.specs.Lines.{lines_of, is_blank, is_blank_line, is_hash_line, is_run_line, is_content_line}

-- A block: its number, the number of its first line, and its lines.
pub record TextBlock : Type 0 where
  pub index : ℕ
  pub line : ℕ
  pub lines : List (List ℕ)

-- a line goes onto the first group of those behind it
abbrev pub join_first : List ℕ → List (List (List ℕ)) → List (List (List ℕ))
join_first line [] = (line ∷ []) ∷ []
join_first line (group ∷ groups) = (line ∷ group) ∷ groups

-- The lines, cut before each `#` line that a content line of the same group stands before.
-- `filled` says whether a content line of the first group stands before these lines.
abbrev pub groups : Bool → List (List ℕ) → List (List (List ℕ))
groups filled [] = []
groups filled (line ∷ lines) =
    let begins = is_hash_line line && filled in
    let rest = join_first line (groups (is_content_line line || (filled && not begins)) lines) in
    if begins then [] ∷ rest else rest

-- all groups but the last
abbrev pub all_but_last : List (List (List ℕ)) → List (List (List ℕ))
all_but_last [] = []
all_but_last (group ∷ []) = []
all_but_last (group ∷ next ∷ rest) = group ∷ all_but_last (next ∷ rest)

-- whether a group of lines is a graph: it has a content line or a `#S` line
abbrev pub is_graph : List (List ℕ) → Bool
is_graph group = list_any is_content_line group || list_any is_run_line group

-- all groups but a last one that is no graph
abbrev pub graphs : List (List (List ℕ)) → List (List (List ℕ))
graphs [] = []
graphs (group ∷ []) = if is_graph group then group ∷ [] else []
graphs (group ∷ next ∷ rest) = group ∷ graphs (next ∷ rest)

-- groups as blocks, from this number and this line on
abbrev pub numbered : ℕ → ℕ → List (List (List ℕ)) → List TextBlock
numbered index line [] = []
numbered index line (group ∷ rest) =
    record { index = index; line = line; lines = group } ∷ numbered (index + 1) (line + length group) rest

-- the blank lines at the beginning of an input, which are in no block
abbrev pub lead : List ℕ → List (List ℕ)
lead bytes = take_while is_blank_line (lines_of bytes)

-- the lines from the first one that is not blank on, in groups
abbrev pub groups_of : List ℕ → List (List (List ℕ))
groups_of bytes = groups false (drop (length (lead bytes)) (lines_of bytes))

-- the blocks of a whole input
abbrev pub blocks : List ℕ → List TextBlock
blocks bytes = numbered 1 (length (lead bytes) + 1) (graphs (groups_of bytes))

-- the blocks of an input for which the `#` that begins the next block stands in it
abbrev pub complete : List ℕ → List TextBlock
complete bytes = numbered 1 (length (lead bytes) + 1) (all_but_last (groups_of bytes))

-- bytes without blanks at the beginning, and at both ends
abbrev pub after_blanks : List ℕ → List ℕ
after_blanks bytes = drop (length (take_while is_blank bytes)) bytes

abbrev pub trimmed : List ℕ → List ℕ
trimmed bytes = reverse (after_blanks (reverse (after_blanks bytes)))

-- the name that a line gives a block that begins with it: what stands after its `#`
abbrev pub name_in : List ℕ → List ℕ
name_in line =
    if is_hash_line line && (not (is_run_line line) && nat_le (length line) 65536)
    then trimmed (drop 1 (after_blanks line)) else []

-- the name of a block of these lines
abbrev pub name_of_lines : List (List ℕ) → List ℕ
name_of_lines [] = []
name_of_lines (line ∷ lines) = name_in line

abbrev pub name_of : TextBlock → List ℕ
name_of block = name_of_lines block.lines

-- a block of a text: its numbers count from 1, and no line of it has a line feed
pub record IsTextBlock (block : TextBlock) : Type 0 where
  pub index_from : 1 ≤ block.index
  pub line_from : 1 ≤ block.line
  pub no_feeds : All (λ line. list_any (λ b. b == 10) line ≡ false) block.lines
