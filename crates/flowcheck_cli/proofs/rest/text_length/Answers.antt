use Rattle.std.proofs.Common.{◌≡◌, ◌-◌, ◌<◌, ◌∙◌, ℕ, List, sym, ap, arith, length, take, drop, length-drop}
use Rattle.std.specs.Str.{bytes_eq}
use Rattle.std.proofs.lemmas.List.{take_rest, length-take-le}
use Rattle.flowcheck_cli.proofs.TextCuts.{begins-after, ends-after}
use Rattle.flowcheck_cli.proofs.rest.text_length.Goals as goal

pub returns-then-eq-clause-texts : goal.returns-then-eq-clause-texts
returns-then-eq-clause-texts c some =
    let bytes = c.args.bytes.now in
    let n = c.loop-length.length in
    let m = c.line_length.result in
    let rest : List ℕ = take (length bytes - n) (drop n bytes) in
    let is : rest ≡ drop n bytes = take_rest bytes n in
    let long : 0 < length rest = omega (arith, ap length is, length-drop n bytes, c.loop-length-test.true) in
    ends-after bytes rest n m _ is (length-take-le m rest c.line_length.ensures.within) c.loop-length.invariant.1 (c.line_length.ensures.lines long)
    (sym (c.eq.ensures ∙ ap (bytes_eq (take m rest)) c.as_slice.ensures) ∙ c.if-eq.true)

pub loop-length-preserved : goal.loop-length-preserved
loop-length-preserved c =
    let bytes = c.args.bytes.now in
    let n = c.loop-length.length in
    let m = c.line_length.result in
    let rest : List ℕ = take (length bytes - n) (drop n bytes) in
    let is : rest ≡ drop n bytes = take_rest bytes n in
    let longer = length-drop n bytes in
    let long : 0 < length rest = omega (arith, ap length is, longer, c.loop-length-test.true) in
    let same = length-take-le m rest c.line_length.ensures.within in (
      omega (arith, same, ap length is, longer, c.loop-length-test.true, c.line_length.ensures.within),
      begins-after bytes rest n m _ is same c.loop-length.invariant.1 (c.line_length.ensures.lines long) (c.line_length.ensures.some long) c.line_length.ensures.within
          (sym (c.eq.ensures ∙ ap (bytes_eq (take m rest)) c.as_slice.ensures) ∙ c.if-eq.false),
    )
