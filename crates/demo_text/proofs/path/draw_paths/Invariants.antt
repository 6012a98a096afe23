use Rattle.std.proofs.Common.{◌≡◌}
use Rattle.demo_text.specs.Demo.{paths_after, after_paths}
use Rattle.demo_text.proofs.path.draw_paths.Given as goal

abbrev pub invariant-loop : goal.invariant-loop
invariant-loop l = (l.paths.items ≡ paths_after l.counter l.initial.draws) × (l.draws ≡ after_paths l.counter l.initial.draws)
