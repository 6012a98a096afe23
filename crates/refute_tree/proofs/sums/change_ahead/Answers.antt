use Rattle.std.proofs.Common.{◌≡◌, ◌+◌, ◌-◌, ◌∙◌, ◌≤◌, ℕ, true, ap, sym, subst, arith, slice_index}
use Rattle.decomposition.specs.Graph.{tail}
use Rattle.decomposition.specs.Reach.{reaches}
use Rattle.refute_tree.proofs.SumsWeights.{ChangesBelow, changes_next, changes_none, reaches-by_answer}
use Rattle.refute_tree.proofs.sums.change_ahead.Goals as goal
use Rattle.refute_tree.proofs.sums.change_ahead.Goals.{After-reaches, then-reaches, else-reaches}

-- the net's answer is that of the test
answered : (c : After-reaches) → reaches c.args.net.now c.args.from (tail c.args.net.now c.loop-e.e) ≡ c.reaches.result
answered c = reaches-by_answer c.args.net.now c.edges-e-end.ensures.net c.args.from (tail c.args.net.now c.loop-e.e) c.tail.result c.reaches.result c.tail.ensures.tail c.reaches.ensures

-- what is taken off is there
fits : (c : After-reaches) → c.reaches.result ≡ true → c.args.less ≤ slice_index c.loop-e.weights c.loop-e.e
fits c passes = omega (arith, c.loop-e.invariant.rest c.loop-e.e (omega arith), c.requires.there c.loop-e.e (omega (arith, c.requires.room, c.edges-e-end.ensures.edges)) (answered c ∙ passes))

pub overflow_sub-rest : goal.overflow_sub-rest
overflow_sub-rest c = omega (arith, fits (goal.at.overflow_sub-rest c).After-reaches c.if-reaches.true)

pub loop-e-preserved : goal.loop-e-preserved
loop-e-preserved c =
    let g = c.args.net.now in
    let e = c.loop-e.e in
    let old = c.args.weights.now in
    let now = c.loop-e.weights in
    let less = c.args.less in
    let more = c.args.more in
    let test = λ (d : ℕ). reaches g c.args.from (tail g d) in
    let answer : test e ≡ c.reaches.result = answered (goal.at.loop-e-preserved c).After-reaches in
    elim c.if-reaches.branch [
      | then-reaches w ↦
          subst (ChangesBelow test less more (e + 1) old) (sym w.weights-is)
          (changes_next test less more e old now c.loop-e.invariant (slice_index now e - w.from.result + w.from-then-reaches.result) (omega arith) (answer ∙ w.if-reaches.true)
          (fits (goal.at.loop-e-preserved c).After-reaches w.if-reaches.true)
          (ap (λ x. slice_index now e - x + w.from-then-reaches.result) w.from.ensures ∙ ap (λ x. slice_index now e - less + x) w.from-then-reaches.ensures))
      | else-reaches w ↦
          subst (ChangesBelow test less more (e + 1) old) (sym w.weights-is) (changes_none test less more e old now c.loop-e.invariant (answer ∙ w.if-reaches.false))
    ]
