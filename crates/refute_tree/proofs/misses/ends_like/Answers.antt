use Rattle.std.proofs.Common.{◌≡◌, ◌-◌, ◌++◌, ◌∷◌, [], length, refl, sym, ap, ◌∙◌, arith}
use Rattle.std.proofs.lemmas.List.{length_push}
use Rattle.link_cells.specs.Links.{slot_in, edge_in, latest_of, walk_of, walk_to}
use Rattle.link_cells.proofs.Linking.{to_before}
use Rattle.refute_tree.proofs.Overlapping.{take-front, ends-same, ends-differ}
use Rattle.refute_tree.proofs.Walking.{some_left, live_at, less_live, whole_at}
use Rattle.refute_tree.proofs.misses.ends_like.Goals as goal
use Rattle.refute_tree.proofs.misses.ends_like.Goals.{else-left-run-via-then-left-run+else-edge_of-run, else-left-run-via-else-left-run}

pub unwrap-cell-requires : goal.unwrap-cell-requires
unwrap-cell-requires c = some_left c.args.links.now.links c.loop-left.at (omega (arith, c.loop-left.invariant.counted, c.requires.count))

pub edge_of-requires : goal.edge_of-requires
edge_of-requires c = record { cell = live_at c.args.links.now.links c.loop-left.at c.unwrap-cell.result c.unwrap-cell.ensures c.loop-left.invariant.live }

pub cell_before-at-requires : goal.cell_before-at-requires
cell_before-at-requires c = record { cell = live_at c.args.links.now.links c.loop-left.at c.unwrap-cell.result c.unwrap-cell.ensures c.loop-left.invariant.live }

pub returns-then-edge_of-run : goal.returns-then-edge_of-run
returns-then-edge_of-run c =
    let links = c.args.links.now.links in
    let walk = walk_of links c.args.slot in
    let at = walk_to links c.loop-left.at in
    let p = c.unwrap-cell.result in
    let before = to_before links p _ (live_at links c.loop-left.at p c.unwrap-cell.ensures c.loop-left.invariant.live) refl in
    let below = walk_to links (latest_of links (slot_in links p) p) in
    let whole : at ≡ below ++ edge_in links p ∷ [] = whole_at links c.loop-left.at p below c.unwrap-cell.ensures before in
    let long = ap length whole ∙ length_push below (edge_in links p) in
    let place = c.loop-left.invariant.counted in
    sym (ends-differ walk below c.args.run.now (edge_in links p) (length at) (c.loop-left.left - 1) (length walk - c.args.count)
    (sym whole ∙ c.loop-left.invariant.rest) (omega arith) c.if-left-run.true (λ same. c.if-edge_of-run.true (c.edge_of.ensures ∙ same)))

pub loop-left-preserved : goal.loop-left-preserved
loop-left-preserved c =
    let links = c.args.links.now.links in
    let walk = walk_of links c.args.slot in
    let at = walk_to links c.loop-left.at in
    let below = walk_to links c.cell_before-at.result in
    let d = edge_in links c.unwrap-cell.result in
    let whole : at ≡ below ++ d ∷ [] = whole_at links c.loop-left.at c.unwrap-cell.result below c.unwrap-cell.ensures c.cell_before-at.ensures.walk in
    let is = sym whole ∙ c.loop-left.invariant.rest in
    let long = ap length whole ∙ length_push below d in
    let place = c.loop-left.invariant.counted in
    record {
      live = less_live links c.unwrap-cell.result c.cell_before-at.result (live_at links c.loop-left.at c.unwrap-cell.result c.unwrap-cell.ensures c.loop-left.invariant.live) c.cell_before-at.ensures.before;
      within = omega arith;
      counted = omega arith;
      rest = take-front walk below d (length at) is;
      same = ends-same walk below c.args.run.now d (length at) (c.loop-left.left - 1) c.loop-left.left is (omega arith) c.loop-left.invariant.same
          (λ inside. elim c.else-left-run.branch [
            | else-left-run-via-then-left-run+else-edge_of-run w ↦ sym w.edge_of.ensures ∙ w.if-edge_of-run.false
            | else-left-run-via-else-left-run w ↦ absurd (omega arith)
          ]);
    }
