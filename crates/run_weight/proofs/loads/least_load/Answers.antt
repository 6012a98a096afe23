use Rattle.std.proofs.Common.{rules, ◌<◌, slice_index, sym, subst}
use Rattle.std.specs.Prelude.{◌↔◌}
use Rattle.decomposition.specs.SafeRuns.{IsSafeFor}
use Rattle.run_weight.specs.Loads.{IsLeastLoad}
use Rattle.run_weight.proofs.Attaining.{IsLeastLoad-excess, safe-by_load}
use Rattle.run_weight.proofs.loads.least_load.Goals as goal

pub returns-clause-excess : goal.returns-clause-excess
returns-clause-excess c = search rules

pub returns-clause-least : goal.returns-clause-least
returns-clause-least c =
    let g = c.args.net.now in
    let flow = slice_index c.args.flow.now in
    subst (IsLeastLoad g flow c.args.run.now) (sym (returns-clause-excess c)) (IsLeastLoad-excess g flow c.args.run.now c.edges.ensures.net c.requires.balanced c.requires.run)

pub returns-clause-safe : goal.returns-clause-safe
returns-clause-safe c =
    let g = c.args.net.now in
    let flow = slice_index c.args.flow.now in
    subst (λ w. (0 < w) ↔ IsSafeFor g flow c.args.run.now) (sym (returns-clause-excess c)) (safe-by_load g flow c.args.run.now c.edges.ensures.net c.requires.balanced c.requires.run)
