-- What a run of the top call took and wrote, and what it tells of its answer.
pub use Rattle.block_runs.specs.Run.{WhereSeen, WhereWritten, Notes, Reads, Writes}
pub use Rattle.plain_words.specs.FileWords.{texts, file_in}
use Rattle.std.specs.Prelude.{ℕ, List, [], codes}
use Rattle.flow_io.specs.declared.status.Status.{Status}
use Rattle.flow_io.specs.declared.status.Status.TheVariants.{Clean, Partial, Refused, Words, Fault, Memory, Long}

-- the line of each answer for `notes`
abbrev pub note_of : Status → List ℕ
note_of Clean = []
note_of Partial = []
note_of Refused = []
note_of Words = codes "usage: flowruns [FILE]\n"
note_of Fault = codes "flowruns: read or write fault\n"
note_of Memory = codes "flowruns: out of memory\n"
note_of Long = codes "flowruns: input too long\n"
