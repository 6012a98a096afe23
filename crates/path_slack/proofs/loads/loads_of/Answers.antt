use Rattle.std.proofs.Common.{◌≡◌, ℕ, ◌+◌, ◌<◌, cond, length, slice_index, sym, ◌∙◌, ap, subst, arith}
use Rattle.std.proofs.lemmas.List.{with_items_is}
use Rattle.decomposition.specs.Graph.{IsPath, has_edge}
use Rattle.greedy_paths.proofs.Decomposing.{path-inside, path-once}
use Rattle.slack_terms.specs.declared.slack_path.SlackPath.{SlackPath}
use Rattle.slack_terms.specs.Answers.{weights_of, slacks_of}
use Rattle.slack_terms.proofs.Bounds.{length-weights}
use Rattle.path_slack.proofs.Sums.{AreSumsUp, AreSumsUp-more, entry-path, length-slacks, weights-entry, slacks-entry}
use Rattle.path_slack.proofs.loads.loads_of.Goals as goal
use Rattle.path_slack.proofs.loads.loads_of.Goals.{After-as_slice-path}

-- the edges at hand are a path
path : (c : After-as_slice-path) → c.loop-i.i < length c.args.paths.now → IsPath c.args.net.now c.as_slice-path.result.now
path c there =
    subst (IsPath c.args.net.now) (sym (c.as_slice-path.ensures ∙ ap (λ (e : SlackPath). e.path) c.get-entry.ensures))
    (entry-path c.args.net.now c.args.paths.now c.loop-i.i c.requires.answer there)

pub add_along-requires-clause-inside : goal.add_along-requires-clause-inside
add_along-requires-clause-inside c =
    let is = path (goal.at.add_along-requires-clause-inside c).After-as_slice-path (omega arith) in
    λ k d h. omega (arith, path-inside c.args.net.now c.as_slice-path.result.now is k d h, ap length c.deref_mut.ensures.value, c.loop-i.invariant.0.so_far.count)

pub add_along-requires-clause-once : goal.add_along-requires-clause-once
add_along-requires-clause-once c =
    path-once c.args.net.now c.as_slice-path.result.now c.edges-edges.ensures.net (path (goal.at.add_along-requires-clause-once c).After-as_slice-path (omega arith))

pub add_along-requires-in-loop-i-clause-inside : goal.add_along-requires-in-loop-i-clause-inside
add_along-requires-in-loop-i-clause-inside c =
    let is = path (goal.at.add_along-requires-in-loop-i-clause-inside c).After-as_slice-path (omega arith) in
    λ k d h. omega (arith, path-inside c.args.net.now c.as_slice-path.result.now is k d h, ap length c.deref_mut-in-loop-i.ensures.value, c.loop-i.invariant.1.so_far.count)

pub add_along-requires-in-loop-i-clause-once : goal.add_along-requires-in-loop-i-clause-once
add_along-requires-in-loop-i-clause-once c =
    path-once c.args.net.now c.as_slice-path.result.now c.edges-edges.ensures.net (path (goal.at.add_along-requires-in-loop-i-clause-once c).After-as_slice-path (omega arith))

pub loop-i-preserved : goal.loop-i-preserved
loop-i-preserved c =
    let g = c.args.net.now in
    let paths = c.args.paths.now in
    let i = c.loop-i.i in
    let entry = c.get-entry.result.now in
    let edges = c.as_slice-path.result.now in
    let weights = c.add_along.new.sums in
    let slacks = c.add_along-in-loop-i.new.sums in
    let more_weight : (e : ℕ) → slice_index weights e ≡ slice_index c.loop-i.weights.items e + cond (has_edge edges e) entry.weight 0
    = subst (λ old. (e : ℕ) → slice_index weights e ≡ slice_index old e + cond (has_edge edges e) entry.weight 0) c.deref_mut.ensures.value c.add_along.ensures in
    let more_slack : (e : ℕ) → slice_index slacks e ≡ slice_index c.loop-i.slacks.items e + cond (has_edge edges e) entry.slack 0
    = subst (λ old. (e : ℕ) → slice_index slacks e ≡ slice_index old e + cond (has_edge edges e) entry.slack 0) c.deref_mut-in-loop-i.ensures.value c.add_along-in-loop-i.ensures in (
      subst (AreSumsUp g (weights_of paths) (i + 1)) (sym (with_items_is c.loop-i.weights weights (omega arith)))
          (AreSumsUp-more g (weights_of paths) i edges c.loop-i.weights.items weights entry.weight (omega (arith, length-weights paths)) (weights-entry paths i entry edges c.get-entry.ensures c.as_slice-path.ensures) (omega arith)
          (omega (arith, ap length c.deref_mut.ensures.value)) more_weight c.loop-i.invariant.0),
      subst (AreSumsUp g (slacks_of paths) (i + 1)) (sym (with_items_is c.loop-i.slacks slacks (omega arith)))
          (AreSumsUp-more g (slacks_of paths) i edges c.loop-i.slacks.items slacks entry.slack (omega (arith, length-slacks paths)) (slacks-entry paths i entry edges c.get-entry.ensures c.as_slice-path.ensures) (omega arith)
          (omega (arith, ap length c.deref_mut-in-loop-i.ensures.value)) more_slack c.loop-i.invariant.1),
    )
