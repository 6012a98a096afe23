use Rattle.std.proofs.Common.{◌≡◌, ◌<◌, ◌-◌, length, slice_index}
use Rattle.decomposition.specs.SafeRuns.{IsSafeFor}
use Rattle.safe_paths.specs.Windows.{IsWindow, window_run}
use Rattle.safe_paths.proofs.windows.widen.Given as goal

-- the window begins where it began, and its run is safe, if it is not empty
abbrev pub invariant-loop-wide : goal.invariant-loop-wide
invariant-loop-wide l =
    IsWindow l.net (slice_index l.flow) l.path l.wide
    × (l.wide.from ≡ l.fn.window.from)
    × (l.wide.from < l.wide.to → IsSafeFor l.net (slice_index l.flow) (window_run l.path l.wide))

abbrev pub decreases-loop-wide : goal.decreases-loop-wide
decreases-loop-wide l = length l.path - l.wide.to
