use Rattle.std.proofs.Common.{◌≡◌, ◌<◌, ◌^◌, sym, ap, ◌∙◌, arith}
use Rattle.std.specs.Prelude.{Some}
use Rattle.std.proofs.lemmas.Bool.{cond-true, lt-ltb}
use Rattle.std.proofs.lemmas.List.{take_all}
use Rattle.graph_text.specs.Reading.{number_of}
use Rattle.report_reading.proofs.GreatNumbers.{too_great}
use Rattle.report_reading.proofs.numbers.value_of.Goals as goal

pub returns-in_default : goal.returns-in_default
returns-in_default c =
    too_great c.args.digits.now c.loop-digit.digit-index c.loop-digit.value (omega arith) c.loop-digit.invariant.0 (omega (arith, c.in_default.ensures))

pub returns-in_default-checked_add : goal.returns-in_default-checked_add
returns-in_default-checked_add c =
    too_great c.args.digits.now c.loop-digit.digit-index c.loop-digit.value (omega arith) c.loop-digit.invariant.0
    (omega (arith, c.in-Some.ensures, c.in_default-checked_add.ensures))

pub returns : goal.returns
returns c =
    let all : c.loop-digit.value ≡ number_of c.args.digits.now =
    c.loop-digit.invariant.0 ∙ ap number_of (take_all c.loop-digit.digit-index c.args.digits.now (omega arith)) in
    let small : number_of c.args.digits.now < 2 ^ 64 = omega (arith, all, c.loop-digit.invariant.1) in
    ap (λ n. Some n) all ∙ sym (cond-true _ _ _ (lt-ltb _ _ small))
