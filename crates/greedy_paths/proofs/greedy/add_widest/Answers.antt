use Rattle.std.proofs.Common.{◌≡◌, ◌≢◌, ℕ, ◌<◌, ◌≤◌, ◌++◌, ◌∷◌, [], List, length, slice_index, sym, ap, subst, arith}
use Rattle.std.specs.Prelude.{All, AllPairs}
use Rattle.std.specs.Vec.{with_items}
use Rattle.std.proofs.lemmas.List.{with_items_is}
use Rattle.decomposition.specs.Graph.{IsPath}
use Rattle.decomposition.specs.Flow.{rest_after}
use Rattle.decomposition.specs.FirstAnswer.{IsWidest, path_width}
use Rattle.decomposition.proofs.FewPaths.{positive_count}
use Rattle.greedy_paths.proofs.Decomposing.{path-inside, path-once, path-enough, fewer_left, LeavesRest, LeavesRest-start, LeavesRest-more, LeavesRest-all}
use Rattle.greedy_paths.proofs.greedy.add_widest.Goals as goal
use Rattle.greedy_paths.proofs.greedy.add_widest.Goals.{After-as_slice, After-take_off}

-- the path that is taken is the widest of what is left
found : (c : After-as_slice) → IsWidest c.args.net.now (slice_index c.loop-answer.rest.items) c.in-Some.path × (c.in-Some.width ≡ path_width (slice_index c.loop-answer.rest.items) c.in-Some.path)
found c =
    subst (λ rest. IsWidest c.args.net.now (slice_index rest) c.in-Some.path × (c.in-Some.width ≡ path_width (slice_index rest) c.in-Some.path)) c.deref.ensures.value
    (rw c.in-Some.is at c.in_ok-path.ensures.found)

-- and its width is taken off
after : (c : After-take_off) → (e : ℕ) → slice_index c.take_off.new.rest e ≡ rest_after (slice_index c.loop-answer.rest.items) c.in-Some.path c.in-Some.width e
after c =
    subst (λ path. (e : ℕ) → slice_index c.take_off.new.rest e ≡ rest_after (slice_index c.loop-answer.rest.items) path c.in-Some.width e) c.as_slice.ensures
    (subst (λ rest. (e : ℕ) → slice_index c.take_off.new.rest e ≡ rest_after (slice_index rest) c.as_slice.result.now c.in-Some.width e) c.deref_mut.ensures.value c.take_off.ensures)

pub loop-answer-init : goal.loop-answer-init
loop-answer-init c = LeavesRest-start c.args.net.now c.args.rest.items c.args.answer c.requires

pub take_off-requires-clause-inside : goal.take_off-requires-clause-inside
take_off-requires-clause-inside c =
    let g = c.args.net.now in
    let is = found (goal.at.take_off-requires-clause-inside c).After-as_slice in
    subst (All (λ e. e < length c.deref_mut.result.now)) (sym c.as_slice.ensures)
    (λ k d h. omega (arith, path-inside g c.in-Some.path is.0.path k d h, ap length c.deref_mut.ensures.value, c.loop-answer.invariant.count))

pub take_off-requires-clause-once : goal.take_off-requires-clause-once
take_off-requires-clause-once c =
    let is = found (goal.at.take_off-requires-clause-once c).After-as_slice in
    subst (AllPairs (λ d e. d ≢ e)) (sym c.as_slice.ensures) (path-once c.args.net.now c.in-Some.path c.in_ok-path.ensures.net is.0.path)

pub take_off-requires-clause-enough : goal.take_off-requires-clause-enough
take_off-requires-clause-enough c =
    let is = found (goal.at.take_off-requires-clause-enough c).After-as_slice in
    subst (All (λ e. c.in-Some.width ≤ slice_index c.deref_mut.result.now e)) (sym c.as_slice.ensures)
    (subst (λ rest. All (λ e. c.in-Some.width ≤ slice_index rest e) c.in-Some.path) (sym c.deref_mut.ensures.value)
    (path-enough c.args.net.now c.in-Some.path (slice_index c.loop-answer.rest.items) c.in-Some.width is.1))

pub loop-answer-smaller : goal.loop-answer-smaller
loop-answer-smaller c =
    let g = c.args.net.now in
    let rest = c.loop-answer.rest.items in
    let is = found (goal.at.loop-answer-smaller c).After-as_slice in
    let items = with_items_is c.loop-answer.rest c.take_off.new.rest (omega arith) in
    subst (λ new. positive_count g (slice_index new) < positive_count g (slice_index rest)) (sym items)
    (fewer_left g (slice_index rest) (slice_index c.take_off.new.rest) c.in-Some.path c.in-Some.width is.0 is.1 (after (goal.at.loop-answer-smaller c).After-take_off))

pub loop-answer-preserved : goal.loop-answer-preserved
loop-answer-preserved c =
    let g = c.args.net.now in
    let flow = c.args.rest.items in
    let begun = c.args.answer in
    let rest = c.loop-answer.rest.items in
    let new = c.take_off.new.rest in
    let is = found (goal.at.loop-answer-preserved c).After-as_slice in
    let items = with_items_is c.loop-answer.rest new (omega arith) in
    subst (λ answer. LeavesRest g flow begun answer (with_items c.loop-answer.rest new).items) (sym c.in_ok-push.ensures.ok)
    (subst (LeavesRest g flow begun (c.loop-answer.answer ++ (c.in-Some.path, c.in-Some.width) ∷ [])) (sym items)
    (LeavesRest-more g flow begun c.loop-answer.answer rest new c.in-Some.path c.in-Some.width c.loop-answer.invariant (omega (arith, ap length c.deref_mut.ensures.value)) is.0 is.1
    (after (goal.at.loop-answer-preserved c).After-take_off)))

pub returns-clause-widest : goal.returns-clause-widest
returns-clause-widest c =
    let none = subst (λ rest. (p : List ℕ) → IsPath c.args.net.now p → path_width (slice_index rest) p ≡ 0) c.deref.ensures.value (rw c.in_default.is at c.in_ok-path.ensures.found) in
    LeavesRest-all c.args.net.now c.args.rest.items c.args.answer c.loop-answer.answer c.loop-answer.rest.items c.loop-answer.invariant none
