-- What a cutter of a text holds of it, and the blocks that it completes.
use Rattle.std.specs.Prelude.{◌≡◌, ◌⊎◌, ℕ, ◌+◌, ◌-◌, ◌<◌, List, [], ◌∷◌, ◌++◌, length, take, drop, Bool, not, ◌&&◌, if◌then◌else◌, Option, Some, None, IsTrue, false}
use Rattle.std.specs.List.{list_all, list_any, take_while}
use Rattle.decomposition.specs.declared.Mode.{Mode}
use Rattle.graph_text.specs.declared.block.Block.{Block}
use Rattle.graph_text.specs.declared.cutter.Cutter.{Cutter}
use Rattle.graph_text.specs.Lines.{without_return, is_blank, begins_with_hash, is_hash_line, is_run_line, is_content_line}
use Rattle.graph_text.specs.Blocks.{TextBlock, complete, name_of, name_of_lines, after_blanks, trimmed}
use Rattle.graph_text.specs.Draft.{Drafts}
use Rattle.graph_text.specs.OpenLine.{HoldsLine}
use Rattle.graph_text.specs.Progress.{Progress, left_by, with_line}
use Rattle.graph_text.specs.Reading.{numbered_lines, read}

-- The block in progress begins at the line of this number, and has these lines.
pub record HoldsBlock (cutter : Cutter) (first : ℕ) (lines : List (List ℕ)) : Type 0 where
  pub name_is : cutter.name ≡ name_of_lines lines
  pub drafts : Drafts cutter.mode (numbered_lines first lines) cutter.draft

-- The cutter holds what a text leaves: of the line in progress as much as counts, and of the block in progress its
-- name and a draft of its lines.
pub record Holds (cutter : Cutter) (left : Progress) : Type 0 where
  pub blocks_are : cutter.blocks ≡ left.blocks
  pub line_is : cutter.line ≡ left.line
  pub ended_are : cutter.ended ≡ length left.ended
  pub open_line_is : HoldsLine cutter.open_line left.open_line
  pub block_is : HoldsBlock cutter (left.line - length left.ended) left.ended

-- each complete block, and each line of the block in progress that has ended, has a line of its own before the line in progress
abbrev pub IsCounted : Cutter → Type 0
IsCounted cutter = cutter.blocks + cutter.ended < cutter.line

-- whether a `#` after blanks completes the block in progress: it has a content line, and the line in progress is blank so far
abbrev pub MayComplete : Progress → Type 0
MayComplete left = IsTrue (list_all is_blank left.open_line && list_any is_content_line left.ended)

-- a first byte of these bytes that is no blank does not complete the block in progress
abbrev pub NoMark : Progress → List ℕ → Type 0
NoMark left rest = MayComplete left → begins_with_hash (after_blanks rest) ≡ false

-- the bytes begin with these: blanks and a `#`
pub record IsMark (rest mark : List ℕ) : Type 0 where
  pub front : take (length mark) rest ≡ mark
  pub hash : mark ≡ take_while is_blank rest ++ 35 ∷ []

-- what is left when a block is completed by blanks and a `#`
abbrev pub next_begun : Progress → List ℕ → Progress
next_begun left mark = record { blocks = left.blocks + 1; line = left.line; open_line = left.open_line ++ mark; ended = [] }

-- these bytes more have come, and completed no block
pub record GoesOn (cutter : Cutter) (bytes more : List ℕ) : Type 0 where
  pub holds : Holds cutter (left_by (bytes ++ more))
  pub same : complete (bytes ++ more) ≡ complete bytes

-- all but the block in progress is as it was
pub record KeepsPlace (old new : Cutter) : Type 0 where
  pub mode_kept : new.mode ≡ old.mode
  pub blocks_kept : new.blocks ≡ old.blocks
  pub line_kept : new.line ≡ old.line
  pub open_line_kept : new.open_line ≡ old.open_line
  pub ended_kept : new.ended ≡ old.ended

-- The line in progress was given to the block in progress, where it is a line of it.
pub record Adds (cutter : Cutter) (left : Progress) (is_added : Bool) : Type 0 where
  pub lines_are : with_line left.ended (without_return left.open_line) ≡ (if is_added then left.ended ++ without_return left.open_line ∷ [] else left.ended)
  pub block_is : HoldsBlock cutter (left.line - length left.ended) (with_line left.ended (without_return left.open_line))

-- the name that a first line gives its block, from what is shown of the line
abbrev pub name_shown : Bool → List ℕ → List ℕ
name_shown is_long text = if not is_long && (is_hash_line text && not (is_run_line text)) then trimmed (drop 1 (after_blanks text)) else []

-- a block as it is handed out, with what it is read as
abbrev pub handed : Mode → TextBlock → Block
handed mode block = record { index = block.index; line = block.line; name = name_of block; body = read mode block }

-- A block is completed: it is the one by which the second list is longer.
pub record Completes (mode : Mode) (before after : List TextBlock) (completed : Option Block) : Type 0 where
  pub block : TextBlock
  pub one_more : after ≡ before ++ block ∷ []
  pub hands : completed ≡ Some (handed mode block)

-- No block is completed, and the two lists are equal.
pub record Continues (before after : List TextBlock) (completed : Option Block) : Type 0 where
  pub same : after ≡ before
  pub none : completed ≡ None

-- After the bytes the first n bytes of the piece were taken: up to and with the first `#` that completes a block, or all of them.
pub record Cuts (old new : Cutter) (bytes piece : List ℕ) (n : ℕ) (completed : Option Block) : Type 0 where
  pub holds : Holds new (left_by (bytes ++ take n piece))
  pub outcome : (Continues (complete bytes) (complete (bytes ++ take n piece)) completed × (n ≡ length piece))
      ⊎ Completes old.mode (complete bytes) (complete (bytes ++ take n piece)) completed
  pub first : (m : ℕ) → m < n → complete (bytes ++ take m piece) ≡ complete bytes
