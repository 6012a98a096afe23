use Rattle.std.proofs.Common.{◌<◌, ◌^◌, ◌++◌, ℕ, List, slice_index, sym, ◌∙◌, subst, arith}
use Rattle.decomposition.specs.Answer.{IsMerged, HaveSamePaths, total_weight}
use Rattle.run_weight.specs.Exits.{ArePlacesAlong}
use Rattle.run_weight.specs.Sorting.{HasWeights}
use Rattle.run_weight.proofs.Lightened.{IsLightest-settled, Decomposes-settled, total-small}
use Rattle.run_weight.proofs.lightening.lighten.Goals as goal

pub settle-requires-clause-sorted : goal.settle-requires-clause-sorted
settle-requires-clause-sorted c = c.in_ok-sorting.ensures.sorted c.deref.result.now

pub tidy-requires : goal.tidy-requires
tidy-requires c =
    let g = c.args.net.now in
    let run = c.args.run.now in
    let flow = slice_index c.args.flow.now in
    let s = c.settle.new.self in
    let places = c.deref.result.now in
    let listed = subst (ArePlacesAlong g run) (sym c.deref.ensures.value) c.in_ok-places.ensures in
    let weights : HasWeights c.args.answer.now s = λ e. c.in_ok-settle.ensures.weights e ∙ c.in_ok-sorting.ensures.weights e in
    let made = Decomposes-settled g c.edges.ensures.net run c.requires.run flow places c.args.answer.now s listed c.in_ok-settle.ensures.sorted weights c.in_ok-settle.ensures.none_left c.requires.answer in
    subst (λ (l : List (List ℕ × ℕ)). total_weight l < 2 ^ 64) (sym c.in_ok-lightened.ensures)
    (total-small g c.args.flow.now (s.carriers.items ++ s.settled.items) made c.requires.small (omega (arith, c.edges.ensures.edges, c.edges.ensures.few)))

pub returns-clause-lightest : goal.returns-clause-lightest
returns-clause-lightest c =
    let g = c.args.net.now in
    let run = c.args.run.now in
    let flow = slice_index c.args.flow.now in
    let s = c.settle.new.self in
    let places = c.deref.result.now in
    let listed = subst (ArePlacesAlong g run) (sym c.deref.ensures.value) c.in_ok-places.ensures in
    let weights : HasWeights c.args.answer.now s = λ e. c.in_ok-settle.ensures.weights e ∙ c.in_ok-sorting.ensures.weights e in
    let t = c.in_ok-tidied.tidied in
    IsLightest-settled g c.edges.ensures.net run c.requires.run flow places c.args.answer.now s listed c.in_ok-settle.ensures.sorted weights c.in_ok-settle.ensures.none_left c.requires.answer t
    (subst (λ (l : List (List ℕ × ℕ)). IsMerged l t) c.in_ok-lightened.ensures c.in_ok-tidied.ensures.merged)
    (subst (λ (l : List (List ℕ × ℕ)). HaveSamePaths l t) c.in_ok-lightened.ensures c.in_ok-tidied.ensures.paths)
