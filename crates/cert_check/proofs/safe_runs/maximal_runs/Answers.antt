use Rattle.std.proofs.Common.{ℕ, ◌≤◌, List, slice_index, subst, sym, ◌∙◌}
use Rattle.std.specs.Prelude.{All, IfOk}
use Rattle.std.proofs.lemmas.Result.{IfOk-weaker}
use Rattle.decomposition.specs.Flow.{IsBalanced}
use Rattle.decomposition.specs.SafeRuns.{IsSafe, IsSafeFor, AreMaximal}
use Rattle.flow_models.specs.Problem.{instance}
use Rattle.cert_check.proofs.Lows.{lows, lows_small, lows_balanced, lows_maximal}
use Rattle.cert_check.proofs.safe_runs.maximal_runs.Goals as goal

pub decomposed-requires-clause-small : goal.decomposed-requires-clause-small
decomposed-requires-clause-small c =
    subst (λ (ws : List ℕ). All (λ w. w ≤ 1000000000000) ws) (sym (c.deref.ensures.value ∙ c.in_ok-flow.ensures))
    (lows_small (instance c.args.net.now c.args.p.now) c.requires.valid)

pub decomposed-requires-clause-balanced : goal.decomposed-requires-clause-balanced
decomposed-requires-clause-balanced c =
    subst (λ (ws : List ℕ). IsBalanced c.args.net.now (slice_index ws)) (sym (c.deref.ensures.value ∙ c.in_ok-flow.ensures))
    (lows_balanced (instance c.args.net.now c.args.p.now) c.requires.valid)

pub maximal_safe-requires-clause-small : goal.maximal_safe-requires-clause-small
maximal_safe-requires-clause-small c =
    subst (λ (ws : List ℕ). All (λ w. w ≤ 1000000000000) ws) (sym (c.deref-2.ensures.value ∙ c.in_ok-flow.ensures))
    (lows_small (instance c.args.net.now c.args.p.now) c.requires.valid)

pub returns : goal.returns
returns c =
    let i = instance c.args.net.now c.args.p.now in
    IfOk-weaker c.maximal_safe.result (AreMaximal (IsSafeFor i.graph (slice_index (lows i.ranges)))) (AreMaximal (IsSafe i))
    (lows_maximal i c.requires.valid)
    (subst (λ (ws : List ℕ). IfOk c.maximal_safe.result (AreMaximal (IsSafeFor i.graph (slice_index ws)))) (c.deref-2.ensures.value ∙ c.in_ok-flow.ensures) c.maximal_safe.ensures)
