-- From what was added to what is said of it where the output tells.
use Rattle.std.specs.Prelude.{ℕ, List, Option, Some, None}
use Rattle.flow_io.specs.Outside.{Adds}
use Rattle.program_runs.specs.Writing.{WhereWritten}

-- a text that was added is where the output tells
pub where_written : (P : List ℕ → Type 0) (before now : Option (List ℕ)) (text : List ℕ) → Adds before now text → P text → WhereWritten before now P
where_written P None now text adds holds = tt
where_written P (Some start) now text adds holds = (text, adds, holds)
