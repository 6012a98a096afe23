-- What a run tells of its answer.
pub use Rattle.program_runs.specs.Writing.{Notes}
use Rattle.std.specs.Prelude.{ℕ, List, [], codes}
use Rattle.flow_io.specs.declared.status.Status.{Status}
use Rattle.flow_io.specs.declared.status.Status.TheVariants.{Clean, Partial, Refused, Words, Fault, Memory, Long}

-- the line of each answer for `notes`
abbrev pub note_of : Status → List ℕ
note_of Clean = []
note_of Partial = []
note_of Refused = []
note_of Words = codes "usage: flowcheck GRAPH REPORT\n"
note_of Fault = codes "flowcheck: read or write fault\n"
note_of Memory = codes "flowcheck: out of memory\n"
note_of Long = codes "flowcheck: input too long\n"
