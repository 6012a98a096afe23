use Rattle.std.proofs.Common.{◌≡◌, ℕ, List, ◌+◌, ◌<◌, cond, length, slice_index, sym, ◌∙◌, ap, subst, arith}
use Rattle.std.specs.Prelude.{slice_index_or}
use Rattle.std.proofs.lemmas.List.{with_items_is}
use Rattle.decomposition.specs.Graph.{IsPath, has_edge}
use Rattle.decomposition.specs.Answer.{entry_at}
use Rattle.greedy_paths.proofs.Decomposing.{path-inside, path-once}
use Rattle.greedy_paths.proofs.Counting.{entry-path, entry-unit, CountsUnits, CountsUnits-more}
use Rattle.greedy_paths.proofs.units.units_on.Goals as goal
use Rattle.greedy_paths.proofs.units.units_on.Goals.{After-as_slice}

-- the edges at hand are the path of the entry at hand
path_is : (c : After-as_slice) → c.as_slice.result.now ≡ (entry_at c.args.booked.now c.loop-i.i).0
path_is c = c.as_slice.ensures ∙ c.path.ensures

path : (c : After-as_slice) → c.loop-i.i < length c.args.booked.now → IsPath c.args.net.now c.as_slice.result.now
path c there = subst (IsPath c.args.net.now) (sym (path_is c)) (entry-path c.args.net.now c.args.booked.now c.loop-i.i c.requires.answer there)

pub add_along-requires-clause-inside : goal.add_along-requires-clause-inside
add_along-requires-clause-inside c =
    let is = path (goal.at.add_along-requires-clause-inside c).After-as_slice (omega arith) in
    λ k d h. omega (arith, path-inside c.args.net.now c.as_slice.result.now is k d h, ap length c.deref_mut.ensures.value, c.loop-i.invariant.of_entries.count)

pub add_along-requires-clause-once : goal.add_along-requires-clause-once
add_along-requires-clause-once c =
    path-once c.args.net.now c.as_slice.result.now c.edges.ensures.net (path (goal.at.add_along-requires-clause-once c).After-as_slice (omega arith))

pub add_along-requires-clause-room : goal.add_along-requires-clause-room
add_along-requires-clause-room c = λ k d h.
    let e : ℕ = slice_index_or c.as_slice.result.now k d in
    omega (arith, c.loop-i.invariant.small e, ap (λ (units : List ℕ). slice_index units e) c.deref_mut.ensures.value, c.requires.few)

pub loop-i-preserved : goal.loop-i-preserved
loop-i-preserved c =
    let g = c.args.net.now in
    let booked = c.args.booked.now in
    let i = c.loop-i.i in
    let new = c.add_along.new.sums in
    let there : i < length booked = omega arith in
    let more : (e : ℕ) → slice_index new e ≡ slice_index c.loop-i.units.items e + cond (has_edge c.as_slice.result.now e) 1 0
    = subst (λ old. (e : ℕ) → slice_index new e ≡ slice_index old e + cond (has_edge c.as_slice.result.now e) 1 0) c.deref_mut.ensures.value c.add_along.ensures in
    subst (CountsUnits g booked (i + 1)) (sym (with_items_is c.loop-i.units new (omega arith)))
    (CountsUnits-more g booked i c.as_slice.result.now c.loop-i.units.items new there (path_is (goal.at.loop-i-preserved c).After-as_slice) (entry-unit g booked i c.requires.units there)
    (omega (arith, ap length c.deref_mut.ensures.value)) more c.loop-i.invariant)
