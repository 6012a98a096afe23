use Rattle.std.proofs.Common.{◌≡◌, ◌∙◌, ap, slice_index, arith, get_or-set_same}
use Rattle.refute_tree.specs.declared.sums.Weights.{Weights}
use Rattle.refute_tree.proofs.SumsTotals.{totals-freed}
use Rattle.refute_tree.proofs.sums.Weights.clear.Goals as goal

pub returns : goal.returns
returns c = λ l changes.
    let old : Weights = c.args.self.now in
    let mid : Weights = c.set_upper.new.self in
    let new : Weights = c.set_lower.new.self in
    let k = c.args.slot in
    let lower : slice_index new.lowers.items k ≡ 0
    = ap (λ xs. slice_index xs k) c.set_lower.ensures.lowers ∙ get_or-set_same mid.lowers.items k 0 0 (omega (arith, c.requires.slot, c.set_upper.ensures.totals.room.lowers, mid.lowers.ok.0)) in
    let upper : slice_index new.uppers.items k ≡ 0
    = ap (λ v. slice_index v.items k) c.set_lower.ensures.uppers ∙ ap (λ xs. slice_index xs k) c.set_upper.ensures.uppers
    ∙ get_or-set_same old.uppers.items k 0 0 (omega (arith, c.requires.slot, c.requires.totals.room.uppers, old.uppers.ok.0)) in
    totals-freed c.args.net.now c.args.links.now l k new lower upper changes c.set_lower.ensures.totals
