use Rattle.std.proofs.Common.{◌≡◌, ◌<◌, slice_index}
use Rattle.decomposition.specs.SafeRuns.{IsSafeFor, IsMaximal}
use Rattle.safe_paths.specs.Windows.{IsWindow, window_run}
use Rattle.safe_paths.specs.Places.{Finds}
use Rattle.safe_paths.proofs.places.search_path.Given as goal

-- the window begins here, its run is safe, if it is not empty, and all that stand before are found
abbrev pub invariant-loop-from : goal.invariant-loop-from
invariant-loop-from l =
    IsWindow l.net (slice_index l.flow) l.path l.window
    × (l.window.from ≡ l.from)
    × (l.window.from < l.window.to → IsSafeFor l.net (slice_index l.flow) (window_run l.path l.window))
    × Finds (IsMaximal (IsSafeFor l.net (slice_index l.flow))) l.answer l.k l.from l.places.items
