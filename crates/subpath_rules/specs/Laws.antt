-- Laws on runs that lie on one path, each the contract of a function.
use Rattle.std.specs.Prelude.{◌≡◌, ℕ, ◌⊎◌, ◌↔◌, List, [], IsTrue}
use Rattle.decomposition.specs.Graph.{Graph, IsNet, IsRun, RunsShareAPath, paths}
use Rattle.decomposition.specs.Boxes.{may_contain}
use Rattle.decomposition.specs.Reach.{IsBegun}
use Rattle.subpath_rules.specs.Follows.{Follows}

-- a walk may contain a run where it is empty, or the run follows on it
abbrev pub MayContainByReach : Type 0
MayContainByReach =
    (g : Graph) (walk run : List ℕ) → IsNet g → IsBegun g walk → IsRun g run →
    IsTrue (may_contain (paths g) walk run) ↔ ((walk ≡ []) ⊎ Follows g walk run)

-- two runs lie on one path where the one follows on the other
abbrev pub RunsShareByReach : Type 0
RunsShareByReach =
    (g : Graph) (r s : List ℕ) → IsNet g → IsRun g r → IsRun g s → RunsShareAPath g r s ↔ (Follows g r s ⊎ Follows g s r)
