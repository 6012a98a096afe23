use Rattle.std.proofs.Common.{◌≡◌, ◌∙◌, ap, replicate, sym, refl, rules, arith}
use Rattle.refute_tree.proofs.SumsTotals.{totals-none}
use Rattle.refute_tree.proofs.sums.Weights.with_room.Goals as goal

pub returns : goal.returns
returns c = λ g l edges slots.
    let uppers : c.in_ok-vec.field-0.items ≡ replicate c.args.slots 0 = search rules in
    let lowers : c.in_ok-vec-2.field-0.items ≡ replicate c.args.slots 0 = search rules in
    let low : c.in_ok-vec-3.field-0.items ≡ replicate c.args.edges 0 = search rules in
    let high : c.in_ok-vec-4.field-0.items ≡ replicate c.args.edges 0 = search rules in
    totals-none g l (record { uppers = c.in_ok-vec.field-0; lowers = c.in_ok-vec-2.field-0; low = c.in_ok-vec-3.field-0; high = c.in_ok-vec-4.field-0; everywhere = 0; gap = 0 }) (omega (arith, slots))
    (uppers ∙ ap (λ n. replicate n 0) (sym slots)) (lowers ∙ ap (λ n. replicate n 0) (sym slots)) (low ∙ ap (λ n. replicate n 0) (sym edges)) (high ∙ ap (λ n. replicate n 0) (sym edges)) refl
