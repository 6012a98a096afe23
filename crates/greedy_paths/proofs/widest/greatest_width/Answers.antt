use Rattle.std.proofs.Common.{◌≡◌, ◌+◌, true, false, slice_index, sym, ◌∙◌, subst, arith}
use Rattle.decomposition.specs.Graph.{edge_count, is_source}
use Rattle.greedy_paths.specs.Widths.{IsWidthFrom}
use Rattle.greedy_paths.proofs.Widening.{max_is}
use Rattle.greedy_paths.proofs.Finding.{WidestBefore, WidestBefore-source, WidestBefore-other, IsGreatestWidth-from}
use Rattle.greedy_paths.proofs.widest.greatest_width.Goals as goal
use Rattle.greedy_paths.proofs.widest.greatest_width.Goals.{then-is_source, else-is_source}

pub loop-e-preserved : goal.loop-e-preserved
loop-e-preserved c =
    let g = c.args.net.now in
    let rest = slice_index c.args.rest.now in
    let e = c.loop-e.e in
    let v = c.tail-v.result in
    elim c.if-is_source.branch [
      | then-is_source w ↦
          let source = subst (λ u. is_source g u ≡ true) c.tail-v.ensures.tail (sym c.is_source.ensures ∙ w.if-is_source.true) in
          let from = subst (λ u. IsWidthFrom g rest u (slice_index c.args.widths.now v)) c.tail-v.ensures.tail (c.requires.widths.each v c.tail-v.ensures.vertex) in
          WidestBefore-source g rest e c.loop-e.width c.if-is_source.width (slice_index c.args.widths.now v) (omega arith) source from (omega (arith, max_is c.loop-e.width (slice_index c.args.widths.now v))) c.loop-e.invariant
      | else-is_source w ↦
          let other = subst (λ u. is_source g u ≡ false) c.tail-v.ensures.tail (sym c.is_source.ensures ∙ w.if-is_source.false) in
          subst (WidestBefore g rest (e + 1)) (sym w.width-is) (WidestBefore-other g rest e c.loop-e.width other c.loop-e.invariant)
    ]

pub returns-clause-greatest : goal.returns-clause-greatest
returns-clause-greatest c =
    let all : c.loop-e.e ≡ edge_count c.args.net.now = omega arith in
    IsGreatestWidth-from c.args.net.now (slice_index c.args.rest.now) c.loop-e.width (λ d. omega (arith, c.type_inv.rest d)) (rw all at c.loop-e.invariant)
