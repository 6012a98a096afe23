-- The widest path of what is left is added, and fits under the weights.
use Rattle.std.proofs.Common.{◌≡◌, ◌≢◌, ℕ, ◌+◌, ◌<◌, ◌^◌, List, [], ◌∷◌, ◌++◌, cond, length, length-append, slice_index, slice_index_or, sym, ap, subst, arith}
use Rattle.std.specs.Prelude.{All, AllPairs}
use Rattle.std.specs.Vec.{with_items}
use Rattle.std.proofs.lemmas.List.{with_items_is}
use Rattle.decomposition.specs.FirstAnswer.{IsWidest, path_width}
use Rattle.decomposition.specs.Graph.{IsPath, has_edge}
use Rattle.greedy_paths.proofs.Decomposing.{path-inside, path-once}
use Rattle.flow_solver.specs.Room.{IsLeftOf}
use Rattle.flow_solver.specs.Widened.{IsWidened}
use Rattle.flow_solver.proofs.Widening.{IsWidened-none, IsWidening, IsWidening-more, width-fits_under}
use Rattle.flow_solver.proofs.widened.with_widest.Goals as goal
use Rattle.flow_solver.proofs.widened.with_widest.Goals.{After-as_slice, After-add_along, else-loop-alloc-test, then-loop-alloc-test+in_ok-left+in_ok-path+in_default}

-- the path is the widest of what is left of the weights
found : (c : After-as_slice) → IsWidest c.args.net.now (slice_index c.in_ok-left.left.items) c.in-Some.path × (c.in-Some.width ≡ path_width (slice_index c.in_ok-left.left.items) c.in-Some.path)
found c =
    subst (λ left. IsWidest c.args.net.now (slice_index left) c.in-Some.path × (c.in-Some.width ≡ path_width (slice_index left) c.in-Some.path)) c.deref-in-loop-alloc.ensures.value
    (rw c.in-Some.is at c.in_ok-path.ensures.found)

left : (c : After-as_slice) → IsLeftOf (length c.args.weights.now) c.args.weights.now c.loop-alloc.sums.items c.in_ok-left.left.items
left c = subst (λ sums. IsLeftOf (length c.args.weights.now) c.args.weights.now sums c.in_ok-left.left.items) c.deref.ensures.value c.in_ok-left.ensures

-- its width is added on its edges
added : (c : After-add_along) → (e : ℕ) → slice_index c.add_along.new.sums e ≡ slice_index c.loop-alloc.sums.items e + cond (has_edge c.in-Some.path e) c.in-Some.width 0
added c =
    subst (λ path. (e : ℕ) → slice_index c.add_along.new.sums e ≡ slice_index c.loop-alloc.sums.items e + cond (has_edge path e) c.in-Some.width 0) c.as_slice.ensures
    (subst (λ sums. (e : ℕ) → slice_index c.add_along.new.sums e ≡ slice_index sums e + cond (has_edge c.as_slice.result.now e) c.in-Some.width 0) c.deref_mut.ensures.value c.add_along.ensures)

pub add_along-requires-clause-inside : goal.add_along-requires-clause-inside
add_along-requires-clause-inside c =
    let is = found (goal.at.add_along-requires-clause-inside c).After-as_slice in
    subst (All (λ e. e < length c.deref_mut.result.now)) (sym c.as_slice.ensures)
    (λ k d h. omega (arith, path-inside c.args.net.now c.in-Some.path is.0.path k d h, ap length c.deref_mut.ensures.value, c.loop-alloc.invariant.0.units.count))

pub add_along-requires-clause-once : goal.add_along-requires-clause-once
add_along-requires-clause-once c =
    let is = found (goal.at.add_along-requires-clause-once c).After-as_slice in
    subst (AllPairs (λ d e. d ≢ e)) (sym c.as_slice.ensures) (path-once c.args.net.now c.in-Some.path c.in_ok-path.ensures.net is.0.path)

pub add_along-requires-clause-room : goal.add_along-requires-clause-room
add_along-requires-clause-room c =
    let g = c.args.net.now in
    let ws = c.args.weights.now in
    let path = c.in-Some.path in
    let is = found (goal.at.add_along-requires-clause-room c).After-as_slice in
    let are = left (goal.at.add_along-requires-clause-room c).After-as_slice in
    let fits = width-fits_under g ws c.loop-alloc.paths c.loop-alloc.sums.items c.in_ok-left.left.items path c.in-Some.width c.requires.one_each are is.0 is.1 in
    subst (All (λ e. slice_index c.deref_mut.result.now e + c.in-Some.width < 2 ^ 64)) (sym c.as_slice.ensures)
    (λ k d h.
    let e : ℕ = slice_index_or path k d in
    let there : e < length ws = omega (arith, path-inside g path is.0.path k d h, c.requires.one_each) in
    omega (arith, fits k d h, c.requires.small e 0 there, ap (λ (sums : List ℕ). slice_index sums e) c.deref_mut.ensures.value))

pub loop-alloc-preserved : goal.loop-alloc-preserved
loop-alloc-preserved c =
    let g = c.args.net.now in
    let ws = c.args.weights.now in
    let booked = c.args.booked in
    let paths = c.loop-alloc.paths in
    let sums = c.loop-alloc.sums.items in
    let new = c.add_along.new.sums in
    let is = found (goal.at.loop-alloc-preserved c).After-as_slice in
    let are = left (goal.at.loop-alloc-preserved c).After-as_slice in
    let items = with_items_is c.loop-alloc.sums new (omega arith) in
    let more = IsWidening-more g ws paths sums c.in_ok-left.left.items c.in-Some.path c.in-Some.width c.requires.one_each are is.0 is.1 booked new c.loop-alloc.invariant.0 (added (goal.at.loop-alloc-preserved c).After-add_along)
    (omega (arith, ap length c.deref_mut.ensures.value)) in (
      subst (λ a. IsWidening g ws booked a (with_items c.loop-alloc.sums new).items) (sym c.in_ok-push.ensures.ok)
          (subst (IsWidening g ws booked (paths ++ (c.in-Some.path, c.in-Some.width) ∷ [])) (sym items) more),
      omega (arith, ap length c.in_ok-push.ensures.ok, length-append paths ((c.in-Some.path, c.in-Some.width) ∷ []), c.len.ensures.len),
    )

-- there are k paths, or no path is left
pub returns-clause-widened : goal.returns-clause-widened
returns-clause-widened c =
    let g = c.args.net.now in
    let ws = c.args.weights.now in
    let booked = c.args.booked in
    let paths = c.loop-alloc.paths in
    elim c.loop-alloc-test.branch [
      | else-loop-alloc-test w ↦
          let all : length paths ≡ c.args.k = omega (arith, w.loop-alloc-test, c.len.ensures.len, c.loop-alloc.invariant.1) in
          subst (λ k. IsWidened g (slice_index ws) booked k paths) all c.loop-alloc.invariant.0.widened
      | then-loop-alloc-test+in_ok-left+in_ok-path+in_default w ↦
          let are = subst (λ sums. IsLeftOf (length ws) ws sums w.in_ok-left.left.items) w.deref.ensures.value w.in_ok-left.ensures in
          let none = subst (λ left. (p : List ℕ) → IsPath g p → path_width (slice_index left) p ≡ 0) w.deref-in-loop-alloc.ensures.value (rw w.in_default.is at w.in_ok-path.ensures.found) in
          IsWidened-none g ws booked paths c.loop-alloc.sums.items w.in_ok-left.left.items c.requires.one_each are c.loop-alloc.invariant.0 c.args.k c.loop-alloc.invariant.1 none
    ]
