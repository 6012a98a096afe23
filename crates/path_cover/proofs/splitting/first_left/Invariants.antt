use Rattle.std.proofs.Common.{◌≡◌, ◌<◌, ℕ, slice_index}
use Rattle.std.specs.Prelude.{IsTrue}
use Rattle.decomposition.specs.Graph.{tail, is_source}
use Rattle.path_cover.proofs.splitting.first_left.Given as goal

abbrev pub invariant-loop-e : goal.invariant-loop-e
invariant-loop-e l = (d : ℕ) → d < l.e → IsTrue (is_source l.net (tail l.net d)) → slice_index l.rest d ≡ 0
