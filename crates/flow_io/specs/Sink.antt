-- What an output in memory is seen as, and what its writes do.
use Rattle.std.specs.Prelude.{ℕ, ◌-◌, ◌==◌, nat_lt, min, List, ◌++◌, length, Bool, ◌||◌, ◌&&◌}
use Rattle.std.specs.List.{list_any}
use Rattle.flow_io.specs.Counter.{counted}

-- `room` is the room that is left. Writes are counted from 0.
pub record Sink : Type 0 where
  pub chunk : ℕ
  pub room : ℕ
  pub bytes : List ℕ
  pub failing : List ℕ
  pub calls : ℕ
  pub faults : ℕ

-- the next write fails, where it is one of this piece: it is to fail, or there is no room for a byte of the piece
abbrev pub write_fails : Sink → List ℕ → Bool
write_fails s piece = list_any (λ call. call == s.calls) s.failing || (s.room == 0 && nat_lt 0 (length piece))

-- how many bytes of a piece a write takes that does not fail
abbrev pub count_taken : Sink → List ℕ → ℕ
count_taken s piece = min (length piece) (min s.chunk s.room)

-- after a write that took these bytes
abbrev pub written_to : List ℕ → Sink → Sink
written_to bytes s = record s { room = s.room - length bytes; bytes = s.bytes ++ bytes; calls = counted s.calls }

-- after a write that failed
abbrev pub failed_write : Sink → Sink
failed_write s = record s { calls = counted s.calls; faults = counted s.faults }
