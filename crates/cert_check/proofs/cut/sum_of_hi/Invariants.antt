use Rattle.std.proofs.Common.{◌≡◌, ◌≤◌, ◌*◌, cond}
use Rattle.decomposition.specs.Answer.{sum_below}
use Rattle.decomposition.specs.Instance.{range_at}
use Rattle.cert_check.specs.Cut.{crosses}
use Rattle.cert_check.proofs.cut.sum_of_hi.Given as goal

abbrev pub invariant-loop-e : goal.invariant-loop-e
invariant-loop-e l =
    (l.sum ≡ sum_below (λ e. cond (crosses l.net l.side l.vertices e) (range_at l.p.ranges e).hi 0) l.e)
    × (l.sum ≤ 18446744073709551615 * l.e)
