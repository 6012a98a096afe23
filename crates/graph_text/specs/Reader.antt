-- What a reader of blocks stands for, and what its calls do to that.
use Rattle.std.specs.Prelude.{◌≡◌, ◌⊎◌, ℕ, ◌<◌, List, [], ◌++◌, length, take, Bool, true, false, Option, None}
use Rattle.decomposition.specs.declared.Mode.{Mode}
use Rattle.graph_text.specs.declared.block.Block.{Block}
use Rattle.graph_text.specs.declared.reader.BlockReader.{BlockReader}
use Rattle.graph_text.specs.Blocks.{blocks, complete}
use Rattle.graph_text.specs.Progress.{left_by}
use Rattle.graph_text.specs.Cutter.{Holds}
pub use Rattle.graph_text.specs.Cutter.{handed, Completes, Continues}

-- the model that blocks are read for
abbrev pub mode_of : BlockReader → Mode
mode_of reader = reader.cutter.mode

-- the number of the line in progress
abbrev pub line_of : BlockReader → ℕ
line_of reader = reader.cutter.line

-- the complete block that waits to be taken
abbrev pub waiting_of : BlockReader → Option Block
waiting_of reader = reader.waiting

-- whether memory was wanting in `feed` or `finish`
abbrev pub has_failed : BlockReader → Bool
has_failed reader = reader.has_failed

-- whether `finish` has answered Ok
abbrev pub has_finished : BlockReader → Bool
has_finished reader = reader.has_finished

-- The reader stands for these bytes: it holds what they leave. The block that waits is apart from this.
pub record StandsFor (reader : BlockReader) (bytes : List ℕ) : Type 0 where
  pub holds : Holds reader.cutter (left_by bytes)

-- A reader that stood for these bytes took the first n bytes of the piece: up to and with the first `#` that completes
-- a block, or all of them.
pub record Feeds (old new : BlockReader) (bytes piece : List ℕ) (n : ℕ) : Type 0 where
  pub stands : StandsFor new (bytes ++ take n piece)
  pub outcome : (Continues (complete bytes) (complete (bytes ++ take n piece)) (waiting_of new) × (n ≡ length piece))
      ⊎ Completes (mode_of old) (complete bytes) (complete (bytes ++ take n piece)) (waiting_of new)
  pub first : (m : ℕ) → m < n → complete (bytes ++ take m piece) ≡ complete bytes

-- A reader that stood for these bytes was told that the input has ended.
abbrev pub Ends : BlockReader → BlockReader → List ℕ → Type 0
Ends old new bytes =
    Continues (complete bytes) (blocks bytes) (waiting_of new)
    ⊎ Completes (mode_of old) (complete bytes) (blocks bytes) (waiting_of new)

-- a reader for this model that has taken nothing
pub record IsNew (mode : Mode) (reader : BlockReader) : Type 0 where
  pub mode_is : mode_of reader ≡ mode
  pub empty : StandsFor reader []
  pub none : waiting_of reader ≡ None
  pub works : has_failed reader ≡ false
  pub goes_on : has_finished reader ≡ false

-- the reader has failed, and no block waits
pub record HasFailed (reader : BlockReader) : Type 0 where
  pub failed : has_failed reader ≡ true
  pub none : waiting_of reader ≡ None

-- the block that waited was taken, and nothing else changed
pub record IsTaken (old new : BlockReader) : Type 0 where
  pub none : waiting_of new ≡ None
  pub stands : (bytes : List ℕ) → StandsFor old bytes → StandsFor new bytes
  pub mode_kept : mode_of new ≡ mode_of old
  pub line_kept : line_of new ≡ line_of old
  pub failed_kept : has_failed new ≡ has_failed old
  pub finished_kept : has_finished new ≡ has_finished old
