use Rattle.std.proofs.Common.{ap, ◌∙◌, arith, ◌≡◌}
use Rattle.demo_text.specs.Demo.{paths_after, after_paths}
use Rattle.demo_text.proofs.PathsDrawn.{paths_more, state_more}
use Rattle.demo_text.proofs.path.draw_paths.Goals as goal

pub loop-preserved : goal.loop-preserved
loop-preserved c = (
  c.in_ok-push.ensures.items ∙ paths_more c.loop.counter c.args.draws.now c.loop.paths.items c.loop.draws _ c.loop.invariant.0 c.loop.invariant.1 c.from_draws.ensures.path,
  c.from_draws.ensures.draws ∙ state_more c.loop.counter c.args.draws.now c.loop.draws c.loop.invariant.1,
)

pub returns-clause-paths : goal.returns-clause-paths
returns-clause-paths c = let all : c.loop.counter ≡ c.args.count = omega (arith, c.loop-test.false, c.loop.auto.counter-end) in c.loop.invariant.0 ∙ ap (λ n. paths_after n c.args.draws.now) all

pub returns-clause-draws : goal.returns-clause-draws
returns-clause-draws c = let all : c.loop.counter ≡ c.args.count = omega (arith, c.loop-test.false, c.loop.auto.counter-end) in c.loop.invariant.1 ∙ ap (λ n. after_paths n c.args.draws.now) all
