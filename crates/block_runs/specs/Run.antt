-- What a run over an input took and wrote, where the inputs and the output tell it.
pub use Rattle.program_runs.specs.Inputs.{Seen, WhereSeen, left_of, taken, TakesFirst, IsDone}
pub use Rattle.program_runs.specs.Writing.{WhereWritten, Notes}
use Rattle.std.specs.Prelude.{◌≡◌, ◌^◌, ◌<◌, ℕ, List, [], length, Some, IsSome}
use Rattle.flow_io.specs.declared.status.Status.{Status}
use Rattle.flow_io.specs.declared.status.Status.TheVariants.{Fault, Memory, Long}
use Rattle.graph_text.specs.Blocks.{TextBlock, blocks, complete}
use Rattle.program_runs.specs.HandedBlocks.{blocks_at}
use Rattle.block_runs.specs.Texts.{IsFirst, BeginsAt}

-- the input is the selected one, nothing is left of it, and fewer than 2^30 bytes of it were taken
pub record HasEnded (file : List ℕ) (seen : Seen) : Type 0 where
  pub nothing_left : left_of file seen.last ≡ Some []
  pub short : length (taken file seen) < 2 ^ 30

-- what a run with this status took of its input
pub record Reads (whole : Status → List TextBlock → List ℕ → Type 0) (file : List ℕ) (status : Status) (seen : Seen) : Type 0 where
  pub first : TakesFirst file seen
  pub selected : status ≡ Memory → IsSome (left_of file seen.last)
  pub ended : IsDone status → HasEnded file seen
  pub long : status ≡ Long → length (taken file seen) ≡ 2 ^ 30
  pub verdict : IsDone status → (text : List ℕ) × whole status (blocks (taken file seen)) text

-- what a run with this status wrote
pub record Writes (right : List TextBlock → List ℕ → Type 0) (whole : Status → List TextBlock → List ℕ → Type 0) (file : List ℕ) (status : Status)
    (out_rose : Type 0) (seen : Seen) (text : List ℕ) : Type 0 where
  pub done : IsDone status → whole status (blocks (taken file seen)) text
  pub long : status ≡ Long → right (complete (taken file seen)) text
  pub fault : status ≡ Fault → BeginsAt right whole (taken file seen) (left_of file seen.last) text
  pub written : status ≡ Fault → (out_rose → ⊥) → right (complete (taken file seen)) text
  pub memory : status ≡ Memory → IsFirst right (blocks_at (taken file seen) (left_of file seen.last)) text
