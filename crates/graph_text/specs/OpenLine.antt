-- What a line in progress stands for: its bytes so far.
use Rattle.std.specs.Prelude.{◌≡◌, ℕ, ◌-◌, ◌^◌, List, length, take, min}
use Rattle.graph_text.specs.declared.open_line.OpenLine.{OpenLine}
use Rattle.graph_text.specs.Blocks.{after_blanks}

-- the most bytes of a line that are kept: more than a line may have that is not too long, with its carriage return
abbrev pub most_kept : ℕ
most_kept = 65538

-- The line in progress has these bytes: they are counted, and kept from the first one on that is no blank.
pub record HoldsLine (open_line : OpenLine) (bytes : List ℕ) : Type 0 where
  pub counted : open_line.length ≡ min (length bytes) (2 ^ 64 - 1)
  pub kept : open_line.text.items ≡ take most_kept (after_blanks bytes)
