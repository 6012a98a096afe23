use Rattle.std.proofs.Common.{◌∙◌, sym, arith}
use Rattle.std.specs.Prelude.{◌==◌}
use Rattle.std.proofs.lemmas.List.Quantifiers.{position-Some}
use Rattle.std.proofs.lemmas.List.Sums.{fails_before_first}
use Rattle.report_reading.proofs.Blanks.{place-missing}
use Rattle.flowcheck_cli.proofs.TextCuts.{line-cut, line-whole}
use Rattle.flowcheck_cli.proofs.rest.line_length.Goals as goal

pub returns-in-Some-clause-lines : goal.returns-in-Some-clause-lines
returns-in-Some-clause-lines c some =
    let at = position-Some (λ b. b == 10) c.args.bytes.now c.in-Some.place 0 (sym c.line_end.ensures ∙ c.in-Some.is) in
    line-cut c.args.bytes.now c.in-Some.place at.2 at.0 at.1

pub returns-in-None-clause-lines : goal.returns-in-None-clause-lines
returns-in-None-clause-lines c some =
    let all = place-missing (λ b. b == 10) c.args.bytes.now (sym (sym c.line_end.ensures ∙ c.in-None.is)) in
    line-whole c.args.bytes.now some (λ k within. fails_before_first (λ b. b == 10) c.args.bytes.now k 0 (omega (arith, all, within)))
