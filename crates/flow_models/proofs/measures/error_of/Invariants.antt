use Rattle.std.proofs.Common.{◌≡◌, ◌≤◌, ◌*◌}
use Rattle.decomposition.specs.Answer.{sum_below, weight_on}
use Rattle.decomposition.specs.Instance.{distance, range_at}
use Rattle.flow_models.proofs.measures.error_of.Given as goal

abbrev pub invariant-loop-e : goal.invariant-loop-e
invariant-loop-e l =
    (l.error ≡ sum_below (λ e. distance (range_at l.p.ranges e) (weight_on l.a e)) l.e)
    × (l.error ≤ 158456325028528675187087900672 * l.e)
