use Rattle.std.proofs.Common.{◌∙◌, sym, ap, arith}
use Rattle.std.specs.Str.{bytes_eq}
use Rattle.flowcheck_cli.proofs.Models.{abs-line}
use Rattle.flowcheck_cli.proofs.model.mode_of_line.Goals as goal

pub returns-then-eq-2 : goal.returns-then-eq-2
returns-then-eq-2 c =
    sym
    (abs-line c.args.line.now c.loop-k.k (omega (arith, c.loop-k-test.true))
    (sym (c.eq.ensures ∙ ap (bytes_eq c.args.line.now) c.as_slice.ensures) ∙ c.if-eq.false)
    c.loop-k.invariant
    (sym (c.eq-in-loop-k.ensures ∙ ap (bytes_eq c.args.line.now) (c.as_slice-in-loop-k.ensures ∙ c.abs_line.ensures)) ∙ c.if-eq-2.true))
