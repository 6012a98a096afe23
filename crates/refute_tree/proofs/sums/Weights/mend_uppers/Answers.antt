use Rattle.std.proofs.Common.{◌≡◌, ◌<◌, ◌+◌, ℕ, length, min, get_or, slice_index, ap, sym, subst, ◌∙◌, arith, rules}
use Rattle.decomposition.specs.Boxes.{Slot, slot_at, upper_at}
use Rattle.refute_tree.specs.OneBox.{box_of}
use Rattle.refute_tree.proofs.SumsBoxes.{begun-at}
use Rattle.refute_tree.proofs.SumsBounds.{length-box, slot_at-box, upper_at-next, set_next}
use Rattle.refute_tree.proofs.sums.Weights.mend_uppers.Goals as goal
use Rattle.refute_tree.proofs.sums.Weights.mend_uppers.Goals.{After-min-least}

pub set_upper-requires-clause-begun : goal.set_upper-requires-clause-begun
set_upper-requires-clause-begun c = begun-at c.args.net.now c.args.ranges.now c.args.links.now.links c.loop-k.k (omega arith) c.requires.begun

-- the least hi up to the slot is its upper bound
is-upper : (c : After-min-least) → c.min-least.result ≡ upper_at (box_of c.args.ranges.now c.args.links.now.links) c.loop-k.k
is-upper c =
    let b = box_of c.args.ranges.now c.args.links.now.links in
    let k = c.loop-k.k in
    let slot = slot_at-box c.args.ranges.now c.args.links.now.links k (record { lo = 0; hi = 0 }) c.loop-k-test.true in
    let hi : (slot_at b k).hi ≡ (get_or c.args.ranges.now k (record { lo = 0; hi = 0 })).hi = ap (λ (s : Slot). s.hi) slot in
    let small : (get_or c.args.ranges.now k (record { lo = 0; hi = 0 })).hi < 18446744073709551616 = search rules in
    c.min-least.ensures ∙ ap (λ n. min c.loop-k.least n) (sym hi) ∙ c.loop-k.invariant.least c.loop-k-test.true (omega arith)

pub loop-k-preserved : goal.loop-k-preserved
loop-k-preserved c =
    let is = is-upper (goal.at.loop-k-preserved c).After-min-least in
    let b = box_of c.args.ranges.now c.args.links.now.links in
    let old = c.loop-k.self in
    let k = c.loop-k.k in
    let there : k < length old.uppers.items = omega (arith, c.loop-k-test.true, c.requires.slots, c.loop-k.invariant.totals.room.uppers, old.uppers.ok.0) in
    record {
      least = λ h small. upper_at-next b k c.min-least.result is (omega (arith, length-box c.args.ranges.now c.args.links.now.links));
      done = subst (λ xs. (j : ℕ) → j < k + 1 → slice_index xs j ≡ upper_at b j) (sym c.set_upper.ensures.uppers) (set_next (upper_at b) old.uppers.items k c.min-least.result there is c.loop-k.invariant.done);
      totals = c.set_upper.ensures.totals;
    }

pub returns-clause-uppers : goal.returns-clause-uppers
returns-clause-uppers c = λ k inside. c.loop-k.invariant.done k (omega (arith, inside, length-box c.args.ranges.now c.args.links.now.links))
