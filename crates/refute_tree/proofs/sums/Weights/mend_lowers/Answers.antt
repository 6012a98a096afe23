use Rattle.std.proofs.Common.{◌≡◌, ◌-◌, ◌<◌, ◌≤◌, ℕ, length, max, get_or, slice_index, ap, sym, subst, refl, ◌∙◌, arith}
use Rattle.decomposition.specs.Boxes.{Slot, slot_at, lower_at}
use Rattle.refute_tree.specs.OneBox.{box_of}
use Rattle.refute_tree.proofs.SumsBoxes.{begun-at}
use Rattle.refute_tree.proofs.SumsBounds.{length-box, slot_at-box, lower_at-past, lower_at-before, set_before}
use Rattle.refute_tree.proofs.sums.Weights.mend_lowers.Goals as goal
use Rattle.refute_tree.proofs.sums.Weights.mend_lowers.Goals.{After-max-greatest}

pub loop-k-init : goal.loop-k-init
loop-k-init c = record {
  greatest = sym (lower_at-past (box_of c.args.ranges.now c.args.links.now.links) _ (omega (arith, length-box c.args.ranges.now c.args.links.now.links)));
  done = λ j from to. absurd (omega arith);
  totals = c.requires.totals;
  uppers = refl;
}

pub set_lower-requires-clause-begun : goal.set_lower-requires-clause-begun
set_lower-requires-clause-begun c = begun-at c.args.net.now c.args.ranges.now c.args.links.now.links (c.loop-k.k - 1) (omega arith) c.requires.begun

-- the greatest lo from the slot on is its lower bound
is-lower : (c : After-max-greatest) → c.max-greatest.result ≡ lower_at (box_of c.args.ranges.now c.args.links.now.links) (c.loop-k.k - 1)
is-lower c =
    let links = c.args.links.now.links in
    let b = box_of c.args.ranges.now links in
    let k = c.loop-k.k - 1 in
    let slot = slot_at-box c.args.ranges.now links k (record { lo = 0; hi = 0 }) (omega arith) in
    let lo : (slot_at b k).lo ≡ (get_or c.args.ranges.now k (record { lo = 0; hi = 0 })).lo = ap (λ (s : Slot). s.lo) slot in
    c.max-greatest.ensures ∙ ap (λ n. max c.loop-k.greatest n) (sym lo)
    ∙ lower_at-before b c.loop-k.k c.loop-k.greatest c.loop-k.invariant.greatest c.loop-k-test.true (omega (arith, length-box c.args.ranges.now links))

pub loop-k-preserved : goal.loop-k-preserved
loop-k-preserved c =
    let is = is-lower (goal.at.loop-k-preserved c).After-max-greatest in
    let b = box_of c.args.ranges.now c.args.links.now.links in
    let old = c.loop-k.self in
    let k = c.loop-k.k - 1 in
    let there : k < length old.lowers.items = omega (arith, c.loop-k-test.true, c.requires.slots, c.loop-k.invariant.totals.room.lowers, old.lowers.ok.0) in
    record {
      greatest = is;
      done = subst (λ xs. (j : ℕ) → k ≤ j → j < length c.args.ranges.now → slice_index xs j ≡ lower_at b j) (sym c.set_lower.ensures.lowers)
          (set_before (lower_at b) old.lowers.items (length c.args.ranges.now) c.loop-k.k k c.max-greatest.result (omega arith) there is c.loop-k.invariant.done);
      totals = c.set_lower.ensures.totals;
      uppers = c.set_lower.ensures.uppers ∙ c.loop-k.invariant.uppers;
    }

pub returns-clause-lowers : goal.returns-clause-lowers
returns-clause-lowers c = λ k inside. c.loop-k.invariant.done k (omega arith) (omega (arith, inside, length-box c.args.ranges.now c.args.links.now.links))
