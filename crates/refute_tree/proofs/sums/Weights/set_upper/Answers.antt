use Rattle.std.proofs.Common.{◌^◌, ◌≡◌, ◌+◌, ◌-◌, ◌∙◌, true, slice_index, sym, ap, subst, refl, arith}
use Rattle.std.specs.Vec.{with_item, with_items}
use Rattle.std.proofs.lemmas.List.{get_or_read, with_items_is}
use Rattle.decomposition.specs.Graph.{paths}
use Rattle.decomposition.specs.Boxes.{may_have}
use Rattle.link_cells.specs.Links.{walk_of}
use Rattle.refute_tree.specs.Sums.{AreWithin, ChangesWhere, leads_to, is_empty}
use Rattle.refute_tree.specs.declared.sums.Weights.{Weights}
use Rattle.refute_tree.proofs.SumsTotals.{sum_where-part, totals-upper}
use Rattle.refute_tree.proofs.SumsBoxes.{totals-small}
use Rattle.refute_tree.proofs.SumsWalks.{not_empty}
use Rattle.refute_tree.proofs.sums.Weights.set_upper.Goals as goal
use Rattle.refute_tree.proofs.sums.Weights.set_upper.Goals.{After-index-was, After-deref_mut}

-- the bound that is kept
was-is : (c : After-index-was) → c.index-was.result.now ≡ slice_index c.args.self.now.uppers.items c.args.slot
was-is c = get_or_read c.args.self.now.uppers.items c.args.slot c.index-was.result.now (omega (arith, c.requires.slot, c.requires.totals.room.uppers, c.args.self.now.uppers.ok.0)) c.index-was.ensures 0

-- what is on every edge has the bound of an empty walk, and is small
pub overflow_sub-rest : goal.overflow_sub-rest
overflow_sub-rest c =
    let links = c.args.links.now.links in
    let empty : is_empty (walk_of links c.args.slot) ≡ true = ap is_empty c.in-None.ensures in
    let part = sum_where-part (λ k. is_empty (walk_of links k)) c.args.self.now.uppers.items c.args.links.now.slots c.args.slot c.requires.slot empty in
    omega (arith, c.from.ensures, was-is (goal.at.overflow_sub-rest c).After-index-was, part, c.requires.totals.everywhere)

pub overflow_add-self : goal.overflow_add-self
overflow_add-self c =
    let small = totals-small c.args.net.now c.requires.net c.args.links.now c.args.self.now c.requires.totals in
    omega (arith, small.everywhere, c.from-in-None.ensures, c.ranges.upper.fits)

pub change_high-requires-clause-small : goal.change_high-requires-clause-small
change_high-requires-clause-small c =
    let small = totals-small c.args.net.now c.requires.net c.args.links.now c.args.self.now c.requires.totals in
    subst (AreWithin (2 ^ 96)) (sym c.deref_mut.ensures.value) (λ e l. omega (arith, small.high e l))

pub change_high-requires-clause-there : goal.change_high-requires-clause-there
change_high-requires-clause-there c = λ e l may.
    let at = (goal.at.change_high-requires-clause-there c).After-index-was in
    let g = c.args.net.now in
    let links = c.args.links.now.links in
    let totals = c.requires.totals in
    let last = c.in-Some.ensures in
    let leads = (not_empty g (walk_of links c.args.slot) last.0 c.in-Some.last last.1).1 e in
    let part = sum_where-part (λ k. leads_to g (walk_of links k) e) c.args.self.now.uppers.items c.args.links.now.slots c.args.slot c.requires.slot (leads ∙ may) in
    omega (arith, was-is at, part, totals.high e (omega (arith, l, c.deref_mut.ensures.len, totals.room.high)), ap (λ xs. slice_index xs e) c.deref_mut.ensures.value)

pub returns-in-Some-clause-totals : goal.returns-in-Some-clause-totals
returns-in-Some-clause-totals c =
    let at = (goal.at.returns-in-Some-clause-totals c).After-index-was in
    let g = c.args.net.now in
    let old : Weights = c.args.self.now in
    let high = c.change_high.new.high in
    let new : Weights = record old { uppers = with_item old.uppers c.args.slot c.args.upper; high = with_items old.high high } in
    let walk = walk_of c.args.links.now.links c.args.slot in
    let was = slice_index old.uppers.items c.args.slot in
    let last = c.in-Some.ensures in
    let some = not_empty g walk last.0 c.in-Some.last last.1 in
    let changes : ChangesWhere (may_have (paths g) walk) was c.args.upper old.high.items new.high.items
    = subst (λ n. ChangesWhere (may_have (paths g) walk) n c.args.upper old.high.items new.high.items) (was-is at)
    (subst (λ xs. ChangesWhere (may_have (paths g) walk) c.index-was.result.now c.args.upper old.high.items xs) (sym (with_items_is old.high high (omega (arith, c.deref_mut.ensures.len))))
    (subst (λ xs. ChangesWhere (may_have (paths g) walk) c.index-was.result.now c.args.upper xs high) c.deref_mut.ensures.value c.change_high.ensures)) in
    totals-upper g c.args.links.now c.args.slot c.args.upper old new c.requires.totals c.requires.slot (omega arith)
    (record {
      uppers = refl;
      lowers = refl;
      low = refl;
      room = refl;
      high = λ e h. rw (some.1 e) (changes e (omega (arith, h, c.requires.totals.room.high, old.high.ok.0)));
      everywhere = rw some.0 refl;
    })

pub returns-in-None-clause-totals : goal.returns-in-None-clause-totals
returns-in-None-clause-totals c =
    let at = (goal.at.returns-in-None-clause-totals c).After-index-was in
    let g = c.args.net.now in
    let old : Weights = c.args.self.now in
    let new : Weights = record old { uppers = with_item old.uppers c.args.slot c.args.upper; everywhere = old.everywhere - c.from.result + c.from-in-None.result } in
    let links = c.args.links.now.links in
    let none = c.in-None.ensures in
    let part = sum_where-part (λ k. is_empty (walk_of links k)) old.uppers.items c.args.links.now.slots c.args.slot c.requires.slot (ap is_empty none) in
    totals-upper g c.args.links.now c.args.slot c.args.upper old new c.requires.totals c.requires.slot (omega arith)
    (record {
      uppers = refl;
      lowers = refl;
      low = refl;
      room = refl;
      high = λ e h. rw none refl;
      everywhere = rw none (omega (arith, was-is at, part, c.requires.totals.everywhere, c.from.ensures, c.from-in-None.ensures));
    })
