-- What a run of the top call took and wrote, and what it tells of its answer.
pub use Rattle.program_runs.specs.Inputs.{Seen, WhereSeen, taken, TakesFirst, IsDone}
pub use Rattle.program_runs.specs.Writing.{WhereWritten, Notes}
pub use Rattle.block_runs.specs.Run.{HasEnded}
use Rattle.std.specs.Prelude.{◌≡◌, ◌⊎◌, ◌^◌, ℕ, List, [], ◌++◌, length, codes}
use Rattle.flow_io.specs.declared.status.Status.{Status}
use Rattle.flow_io.specs.declared.status.Status.TheVariants.{Clean, Partial, Refused, Words, Fault, Memory, Long}
use Rattle.flownodes_cli.specs.RightTexts.{IsOutput, BeginsOutput}
use Rattle.flownodes_cli.specs.Words.{Asked}

-- what a run with this status took of its input
pub record Reads (call : Asked) (status : Status) (seen : Seen) : Type 0 where
  pub first : TakesFirst call.file seen
  pub ended : IsDone status → HasEnded call.file seen
  pub long : status ≡ Long → length (taken call.file seen) ≡ 2 ^ 30
  pub verdict : IsDone status → (text : List ℕ) × IsOutput call.split seen.held status text

-- what a run with this status wrote: nothing where memory was wanting, the input was too long or not read to its end, and after a fault a beginning of a right output
pub record Writes (call : Asked) (status : Status) (seen : Seen) (text : List ℕ) : Type 0 where
  pub done : IsDone status → IsOutput call.split seen.held status text
  pub memory : status ≡ Memory → text ≡ []
  pub long : status ≡ Long → text ≡ []
  pub fault : status ≡ Fault → (text ≡ []) ⊎ (HasEnded call.file seen × BeginsOutput call.split seen.held text)

-- the line of each answer for `notes`
abbrev pub note_of : Status → List ℕ
note_of Clean = []
note_of Partial = []
note_of Refused = []
note_of Words = codes "usage: flownodes [--split] [FILE]\n"
note_of Fault = codes "flownodes: read or write fault\n"
note_of Memory = codes "flownodes: out of memory\n"
note_of Long = codes "flownodes: input too long\n"
