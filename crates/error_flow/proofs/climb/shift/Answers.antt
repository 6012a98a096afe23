use Rattle.std.proofs.Common.{◌<◌, ◌&&◌, sym, ◌∙◌, arith}
use Rattle.std.proofs.lemmas.Int.{ints}
use Rattle.decomposition.specs.Graph.{is_inner}
use Rattle.dag_net.specs.Marks.{is_set}
use Rattle.error_flow.specs.Certificate.{level_at}
use Rattle.error_flow.proofs.Depths.{allowed-near}
use Rattle.error_flow.proofs.Climbing.{shift-more, shift-same}
use Rattle.error_flow.proofs.climb.shift.Goals as goal
use Rattle.error_flow.proofs.climb.shift.Goals.{then-is_moved, else-is_moved}

pub overflow_add-levels : goal.overflow_add-levels
overflow_add-levels c =
    let there : c.loop-v.v < c.args.net.now.vertices = omega arith in
    let near = allowed-near c.args.net.now (level_at c.args.levels.now) c.vertices-v-end.ensures.net c.requires.allowed c.loop-v.v there in
    let same = c.loop-v.invariant.1 c.loop-v.v (omega arith) in
    omega (arith, ints, near.low, near.high, same, c.requires.few)

pub loop-v-preserved : goal.loop-v-preserved
loop-v-preserved c =
    let there : c.loop-v.v < c.args.net.now.vertices = omega arith in
    let near = allowed-near c.args.net.now (level_at c.args.levels.now) c.vertices-v-end.ensures.net c.requires.allowed c.loop-v.v there in
    let same = c.loop-v.invariant.1 c.loop-v.v (omega arith) in
    elim c.if-is_moved.branch [
      | then-is_moved w ↦
          shift-more c.loop-v.levels c.args.levels.now c.loop-v.v _ (λ u. is_set c.args.marks.now u && is_inner c.args.net.now u) c.loop-v.invariant.0 c.loop-v.invariant.1 _ _ (omega arith)
          (sym c.is_moved.ensures ∙ w.if-is_moved.true) (omega (arith, ints, near.low, near.high, same, c.requires.few)) w.levels-is
      | else-is_moved w ↦
          shift-same c.loop-v.levels c.args.levels.now c.loop-v.v _ (λ u. is_set c.args.marks.now u && is_inner c.args.net.now u) c.loop-v.invariant.0 c.loop-v.invariant.1 _
          (sym c.is_moved.ensures ∙ w.if-is_moved.false) w.levels-is
    ]
