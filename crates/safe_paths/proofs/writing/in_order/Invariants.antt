use Rattle.std.proofs.Common.{List, ℕ, map, take}
use Rattle.std.specs.Prelude.{◌↔◌, Contains}
use Rattle.safe_paths.specs.Places.{runs_at}
use Rattle.safe_paths.proofs.writing.in_order.Given as goal

-- the set has the runs at the places so far
abbrev pub invariant-loop-place : goal.invariant-loop-place
invariant-loop-place l = (r : List ℕ) → Contains (map (λ run. run.now) l.runs.keys) r ↔ Contains (runs_at l.answer (take l.place-index l.places)) r
