use Rattle.std.proofs.Common.{◌≡◌, ℕ, List, take, Bor}
use Rattle.std.specs.BTreeSet.{contains}
use Rattle.std.specs.Ordering.{nat_cmp}
use Rattle.std.specs.Cmp.Lexicographic.{slice_cmp}
use Rattle.path_slack.proofs.Distinct.{has_path, AreDistinct}
use Rattle.path_slack.proofs.ordered.are_distinct.Given as goal

-- the paths so far are seen, and none of them twice
abbrev pub invariant-loop-i : goal.invariant-loop-i
invariant-loop-i l =
    ((q : Bor (List ℕ)) → contains (λ x y. slice_cmp nat_cmp x.now y.now) l.seen q ≡ has_path (take l.i l.paths) q.now)
    × AreDistinct (take l.i l.paths)
