use Rattle.std.proofs.Common.{◌+◌, sym, subst, ◌∙◌}
use Rattle.lower_flow.specs.Clearing.{AreMarked}
use Rattle.lower_flow.proofs.Marked.{AreMarked-other, AreMarked-more}
use Rattle.lower_flow.proofs.clearing.marked_vertices.Goals as goal
use Rattle.lower_flow.proofs.clearing.marked_vertices.Goals.{then-marked-v+in_ok-push, else-marked-v}

pub loop-v-preserved : goal.loop-v-preserved
loop-v-preserved c =
    let marked = c.args.marked.now in
    let v = c.loop-v.v in
    elim c.if-marked-v.branch [
      | then-marked-v+in_ok-push w ↦ subst (AreMarked marked (v + 1)) (sym (w.vertices-is ∙ w.in_ok-push.ensures.ok)) (AreMarked-more marked v c.loop-v.vertices c.loop-v.invariant w.if-marked-v.true)
      | else-marked-v w ↦ subst (AreMarked marked (v + 1)) (sym w.vertices-is) (AreMarked-other marked v c.loop-v.vertices c.loop-v.invariant w.if-marked-v.false)
    ]
