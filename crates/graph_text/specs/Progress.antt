-- What a text leaves to a reader that has taken it: the block in progress and the line in progress.
use Rattle.std.specs.Prelude.{ℕ, ◌+◌, ◌-◌, ◌==◌, List, [], ◌∷◌, ◌++◌, length, take, count_by, Bool, ◌&&◌, if◌then◌else◌}
use Rattle.std.specs.List.{after_last, list_all, list_any}
use Rattle.graph_text.specs.Lines.{without_return, is_blank, is_blank_line, is_content_line}
use Rattle.graph_text.specs.Blocks.{TextBlock, groups_of, complete, is_graph}

-- How many blocks are complete, the number of the line in progress, the bytes of that line so far, and the lines of
-- the block in progress that have ended.
pub record Progress : Type 0 where
  pub blocks : ℕ
  pub line : ℕ
  pub open_line : List ℕ
  pub ended : List (List ℕ)

-- whether a byte ends a line
abbrev pub is_feed : ℕ → Bool
is_feed b = b == 10

-- the last of some groups of lines
abbrev pub last_group : List (List (List ℕ)) → List (List ℕ)
last_group [] = []
last_group (group ∷ []) = group
last_group (group ∷ next ∷ rest) = last_group (next ∷ rest)

-- a list of lines without its last one, where the line in progress has bytes
abbrev pub without_open : List ℕ → List (List ℕ) → List (List ℕ)
without_open [] lines = lines
without_open (b ∷ bytes) lines = take (length lines - 1) lines

-- what a text leaves
abbrev pub left_by : List ℕ → Progress
left_by bytes = record {
  blocks = length (complete bytes);
  line = count_by is_feed bytes + 1;
  open_line = after_last is_feed bytes;
  ended = without_open (after_last is_feed bytes) (last_group (groups_of bytes));
}

-- whether a byte completes the block in progress: it is a `#` before which its line has blanks alone, behind a content line
abbrev pub triggers : Progress → ℕ → Bool
triggers p b = (b == 35) && (list_all is_blank p.open_line && list_any is_content_line p.ended)

-- the lines of a block in progress with one more, but none while all are blank
abbrev pub with_line : List (List ℕ) → List ℕ → List (List ℕ)
with_line [] line = if is_blank_line line then [] else line ∷ []
with_line (first ∷ lines) line = (first ∷ lines) ++ line ∷ []

-- what is left after one byte more
abbrev pub after_byte : Progress → ℕ → Progress
after_byte p b =
    if b == 10 then record { blocks = p.blocks; line = p.line + 1; open_line = []; ended = with_line p.ended (without_return p.open_line) }
    else if triggers p b then record { blocks = p.blocks + 1; line = p.line; open_line = p.open_line ++ b ∷ []; ended = [] }
    else record { blocks = p.blocks; line = p.line; open_line = p.open_line ++ b ∷ []; ended = p.ended }

-- the block in progress, of these lines
abbrev pub block_in : Progress → List (List ℕ) → TextBlock
block_in p lines = record { index = p.blocks + 1; line = p.line - length p.ended; lines = lines }

-- the block that a byte completes, if it does
abbrev pub completed : Progress → ℕ → List TextBlock
completed p b = if triggers p b then block_in p p.ended ∷ [] else []

-- the lines of the block in progress where the text ends: the line in progress counts if it has bytes
abbrev pub with_open : List ℕ → List (List ℕ) → List (List ℕ)
with_open [] lines = lines
with_open (b ∷ bytes) lines = with_line lines (without_return (b ∷ bytes))

-- the block in progress where the text ends, if it is a graph
abbrev pub last_block : Progress → List TextBlock
last_block p = let lines = with_open p.open_line p.ended in if is_graph lines then block_in p lines ∷ [] else []
