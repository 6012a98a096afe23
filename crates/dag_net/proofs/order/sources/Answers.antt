use Rattle.std.proofs.Common.{◌+◌, sym, ap, subst, ◌∙◌}
use Rattle.dag_net.specs.Peeling.{AreSourcesBelow}
use Rattle.dag_net.proofs.Sources.{AreSourcesBelow-none, AreSourcesBelow-more, AreSourcesBelow-skip}
use Rattle.dag_net.proofs.order.sources.Goals as goal
use Rattle.dag_net.proofs.order.sources.Goals.{then-count-eq0+in_ok-push, else-count-eq0}

pub loop-v-init : goal.loop-v-init
loop-v-init c = subst (AreSourcesBelow c.args.counts.now 0) (sym c.new-found.ensures.items) (AreSourcesBelow-none c.args.counts.now)

pub loop-v-preserved : goal.loop-v-preserved
loop-v-preserved c =
    let counts = c.args.counts.now in
    let v = c.loop-v.v in
    let found = c.loop-v.found.items in
    elim c.if-count-eq0.branch [
      | then-count-eq0+in_ok-push w ↦
          subst (AreSourcesBelow counts (v + 1)) (sym (ap (λ m. m.items) w.found-is ∙ w.in_ok-push.ensures.items)) (AreSourcesBelow-more counts v found w.if-count-eq0.true c.loop-v.invariant)
      | else-count-eq0 w ↦ subst (AreSourcesBelow counts (v + 1)) (sym (ap (λ m. m.items) w.found-is)) (AreSourcesBelow-skip counts v found w.if-count-eq0.false c.loop-v.invariant)
    ]
