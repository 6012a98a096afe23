use Rattle.std.proofs.Common.{◌^◌, ◌≡◌, length, slice_index, sym, ap, subst, refl, arith}
use Rattle.std.proofs.lemmas.List.{get_or_read, with_items_is}
use Rattle.decomposition.specs.Graph.{edge_count, has_edge}
use Rattle.link_cells.specs.Links.{walk_of}
use Rattle.refute_tree.specs.Sums.{AreWithin, ChangesWhere}
use Rattle.refute_tree.specs.declared.sums.Weights.{Weights}
use Rattle.std.specs.Vec.{with_item, with_items}
use Rattle.refute_tree.proofs.SumsTotals.{sum_where-part, totals-lower}
use Rattle.refute_tree.proofs.SumsBoxes.{totals-small}
use Rattle.refute_tree.proofs.SumsWalks.{begun-distinct, begun-inside}
use Rattle.refute_tree.proofs.sums.Weights.set_lower.Goals as goal
use Rattle.refute_tree.proofs.sums.Weights.set_lower.Goals.{After-deref_mut}

-- the bound that is kept
was-is : (c : After-deref_mut) → c.index-was.result.now ≡ slice_index c.args.self.now.lowers.items c.args.slot
was-is c = get_or_read c.args.self.now.lowers.items c.args.slot c.index-was.result.now (omega (arith, c.requires.slot, c.requires.totals.room.lowers, c.args.self.now.lowers.ok.0)) c.index-was.ensures 0

room : (c : After-deref_mut) → length c.deref_mut.result.now ≡ edge_count c.args.net.now
room c = omega (arith, c.deref_mut.ensures.len, c.requires.totals.room.low)

pub change_along-requires-clause-once : goal.change_along-requires-clause-once
change_along-requires-clause-once c = begun-distinct c.args.net.now c.requires.net _ c.requires.begun

pub change_along-requires-clause-inside : goal.change_along-requires-clause-inside
change_along-requires-clause-inside c = λ e has. omega (arith, begun-inside c.args.net.now _ c.requires.begun e has, room (goal.at.change_along-requires-clause-inside c).After-deref_mut)

pub change_along-requires-clause-small : goal.change_along-requires-clause-small
change_along-requires-clause-small c =
    let small = totals-small c.args.net.now c.requires.net c.args.links.now c.args.self.now c.requires.totals in
    subst (AreWithin (2 ^ 97)) (sym c.deref_mut.ensures.value) (λ e l. omega (arith, small.low e l))

pub change_along-requires-clause-there : goal.change_along-requires-clause-there
change_along-requires-clause-there c = λ e l has.
    let at = (goal.at.change_along-requires-clause-there c).After-deref_mut in
    let links = c.args.links.now.links in
    let totals = c.requires.totals in
    let part = sum_where-part (λ k. has_edge (walk_of links k) e) c.args.self.now.lowers.items c.args.links.now.slots c.args.slot c.requires.slot has in
    omega (arith, was-is at, part, totals.low e (omega (arith, l, room at)), ap (λ xs. slice_index xs e) c.deref_mut.ensures.value)

pub returns-clause-totals : goal.returns-clause-totals
returns-clause-totals c =
    let at = (goal.at.returns-clause-totals c).After-deref_mut in
    let old : Weights = c.args.self.now in
    let along = c.change_along.new.weights in
    let new : Weights = record old { lowers = with_item old.lowers c.args.slot c.args.lower; low = with_items old.low along } in
    let walk = walk_of c.args.links.now.links c.args.slot in
    let changes : ChangesWhere (has_edge walk) (slice_index old.lowers.items c.args.slot) c.args.lower old.low.items new.low.items
    = subst (λ n. ChangesWhere (has_edge walk) n c.args.lower old.low.items new.low.items) (was-is at)
    (subst (λ xs. ChangesWhere (has_edge walk) c.index-was.result.now c.args.lower old.low.items xs) (sym (with_items_is old.low along (omega (arith, c.deref_mut.ensures.len))))
    (subst (λ xs. ChangesWhere (has_edge walk) c.index-was.result.now c.args.lower xs along) c.deref_mut.ensures.value c.change_along.ensures)) in
    totals-lower c.args.net.now c.args.links.now c.args.slot c.args.lower old new c.requires.totals c.requires.slot (omega arith)
    (record { uppers = refl; lowers = refl; high = refl; room = refl; low = λ e h. changes e (omega (arith, h, c.requires.totals.room.low, old.low.ok.0)); everywhere = refl })
