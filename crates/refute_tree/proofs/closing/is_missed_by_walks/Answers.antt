use Rattle.std.proofs.Common.{length, List, ℕ, not, sym, ap, ◌∙◌}
use Rattle.std.proofs.lemmas.Bool.{iff_false}
use Rattle.decomposition.specs.Graph.{paths}
use Rattle.decomposition.specs.Boxes.{misses_over}
use Rattle.subpath_rules.proofs.Deciding.{rule-run}
use Rattle.refute_tree.specs.OneBox.{place_of}
use Rattle.refute_tree.proofs.Missing.{IsAsked, ahead-not_missed, missed-unless_on_way}
use Rattle.refute_tree.proofs.closing.is_missed_by_walks.Goals as goal
use Rattle.refute_tree.proofs.closing.is_missed_by_walks.Goals.{After-run-run}

asked : (c : After-run-run) → IsAsked c.args.net.now c.args.one.now c.args.sums.now c.run-run.result.now
asked c = record {
  box = c.requires.kept;
  bounds = c.requires.sums.bounds;
  is_run = rule-run c.args.net.now c.args.problem.now.rules c.args.rule c.run-run.result.now c.requires.rules c.requires.rule c.run-run.ensures;
}

pub returns-then-not-is_ahead : goal.returns-then-not-is_ahead
returns-then-not-is_ahead c =
    let g = c.args.net.now in
    let b = (place_of c.args.one.now).box in
    missed-unless_on_way g c.args.one.now c.args.sums.now c.run-run.result.now c.is_on_way.result (asked (goal.at.returns-then-not-is_ahead c).After-run-run)
    (iff_false c.is_ahead.ensures c.if-not-is_ahead.true) c.is_on_way.ensures
    ∙ ap (λ (r : List ℕ). misses_over (paths g) b r (length b)) c.run-run.ensures

pub returns-else-not-is_ahead : goal.returns-else-not-is_ahead
returns-else-not-is_ahead c =
    let g = c.args.net.now in
    let b = (place_of c.args.one.now).box in
    let way = c.is_ahead.ensures.0 c.if-not-is_ahead.false in
    ap not c.if-not-is_ahead.false
    ∙ sym (ahead-not_missed g c.args.one.now c.args.sums.now c.run-run.result.now (asked (goal.at.returns-else-not-is_ahead c).After-run-run) way)
    ∙ ap (λ (r : List ℕ). misses_over (paths g) b r (length b)) c.run-run.ensures
