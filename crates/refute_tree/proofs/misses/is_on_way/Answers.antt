use Rattle.std.proofs.Common.{true≢false, ◌<◌, length, slice_index, ap, sym, subst, arith}
use Rattle.std.proofs.lemmas.Bool.{iff_false}
use Rattle.std.proofs.lemmas.List.{get_or_read}
use Rattle.decomposition.proofs.Runs.{run-length}
use Rattle.link_cells.specs.Links.{walk_of}
use Rattle.subpath_rules.specs.Follows.{Overlaps}
use Rattle.refute_tree.proofs.Missing.{next-link, falls, passed-more, none-on_way}
use Rattle.refute_tree.proofs.Overlapping.{begun-once}
use Rattle.refute_tree.proofs.Taking.{walk_begun}
use Rattle.refute_tree.proofs.misses.is_on_way.Goals as goal
use Rattle.refute_tree.proofs.misses.is_on_way.Goals.{else-index-ge1-via-then-index-ge1+else-overlaps, else-index-ge1-via-else-index-ge1}

pub slot_of-slot-requires : goal.slot_of-slot-requires
slot_of-slot-requires c =
    record { cell = (next-link c.args.sums.now.uppers.items c.args.one.now.links.links c.args.run.now c.loop-at.at c.in-Some.cell c.loop-at.invariant c.in-Some.is).0 }

pub overlaps-requires-clause-few : goal.overlaps-requires-clause-few
overlaps-requires-clause-few c =
    let g = c.args.net.now in
    let walk = walk_of c.args.one.now.links.links c.slot_of-slot.result in
    omega (arith, (begun-once g walk c.requires.kept.net (walk_begun g c.args.one.now c.slot_of-slot.result c.requires.kept (omega arith))).1)

pub overlaps-requires-clause-once : goal.overlaps-requires-clause-once
overlaps-requires-clause-once c =
    let g = c.args.net.now in
    let walk = walk_of c.args.one.now.links.links c.slot_of-slot.result in
    (begun-once g walk c.requires.kept.net (walk_begun g c.args.one.now c.slot_of-slot.result c.requires.kept (omega arith))).0

pub next_on-at-requires : goal.next_on-at-requires
next_on-at-requires c =
    record { cell = (next-link c.args.sums.now.uppers.items c.args.one.now.links.links c.args.run.now c.loop-at.at c.in-Some.cell c.loop-at.invariant c.in-Some.is).0 }

pub loop-at-smaller : goal.loop-at-smaller
loop-at-smaller c = falls c.args.one.now.links.links _ c.in-Some.cell c.loop-at.at c.next_on-at.result c.in-Some.is c.next_on-at.ensures

pub loop-at-preserved : goal.loop-at-preserved
loop-at-preserved c =
    let links = c.args.one.now.links.links in
    passed-more c.args.sums.now.uppers.items links c.args.run.now c.loop-at.at c.next_on-at.result c.in-Some.cell c.loop-at.invariant c.in-Some.is c.next_on-at.ensures
    (λ may over. elim c.else-index-ge1.branch [
      | else-index-ge1-via-then-index-ge1+else-overlaps w ↦ iff_false w.overlaps.ensures w.if-overlaps.false (subst (λ k. Overlaps (walk_of links k) c.args.run.now) (sym c.slot_of-slot.ensures.slot) over)
      | else-index-ge1-via-else-index-ge1 w ↦
          let there : c.slot_of-slot.result < length c.args.sums.now.uppers.items = omega (arith, c.slot_of-slot.ensures.inside, c.requires.room, c.requires.kept.slots, c.args.sums.now.uppers.ok.0) in
          let upper = get_or_read c.args.sums.now.uppers.items c.slot_of-slot.result c.index.result.now there c.index.ensures 0 in
          omega (arith, upper, may, ap (slice_index c.args.sums.now.uppers.items) c.slot_of-slot.ensures.slot, w.if-index-ge1.false)
    ])

pub returns : goal.returns
returns c = (
  λ t. absurd (true≢false (sym t)),
  λ way. absurd (none-on_way c.args.sums.now.uppers.items c.args.one.now.links c.args.run.now c.loop-at.at (run-length c.args.net.now c.args.run.now c.requires.run) c.loop-at.invariant c.in_default.is way),
)
