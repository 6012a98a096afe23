use Rattle.std.proofs.Common.{◌+◌, ◌&&◌, ℕ, Bool, sym, subst, ◌∙◌}
use Rattle.path_cover.specs.Cut.{leaves, AreThose}
use Rattle.dag_net.specs.Marks.{is_set}
use Rattle.path_cover.proofs.Crossing.{AreThose-other, AreThose-more}
use Rattle.path_cover.proofs.covers.leaving.Goals as goal
use Rattle.path_cover.proofs.covers.leaving.Goals.{then-is_leaving+in_ok-push, else-is_leaving}

pub loop-e-preserved : goal.loop-e-preserved
loop-e-preserved c =
    let test : ℕ → Bool = λ e. is_set c.args.needed.now e && leaves c.args.net.now (is_set c.args.marked.now) e in
    let e = c.loop-e.e in
    elim c.if-is_leaving.branch [
      | then-is_leaving+in_ok-push w ↦
          subst (AreThose test (e + 1)) (sym (w.edges-is ∙ w.in_ok-push.ensures.ok)) (AreThose-more test e c.loop-e.edges c.loop-e.invariant (sym c.is_leaving.ensures ∙ w.if-is_leaving.true))
      | else-is_leaving w ↦ subst (AreThose test (e + 1)) (sym w.edges-is) (AreThose-other test e c.loop-e.edges c.loop-e.invariant (sym c.is_leaving.ensures ∙ w.if-is_leaving.false))
    ]
