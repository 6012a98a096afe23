use Rattle.std.proofs.Common.{ℕ, List, length, take, drop, ◌-◌, sym, ap, ◌∙◌}
use Rattle.std.specs.Prelude.{Result, Ok}
use Rattle.std.proofs.lemmas.List.{take_rest}
use Rattle.report_reading.specs.declared.read_fault.ReadWhy.{ReadWhy}
use Rattle.report_reading.specs.declared.read_fault.ReadWhy.TheVariants.{BadForm, BadNumber}
use Rattle.report_reading.specs.LineFields.{greatest, number_in}
use Rattle.report_reading.proofs.Taken.{must-true, must-false, given-none, given-some}
use Rattle.report_reading.proofs.GraphLine.{graph-named}
use Rattle.report_reading.proofs.head_lines.graph_in.Goals as goal

pub returns-then-not-may_be_named-clause-err : goal.returns-then-not-may_be_named-clause-err
returns-then-not-may_be_named-clause-err c =
    let l = c.args.line.now in
    graph-named l (take (length l - 6) (drop 6 l)) c.before_space-index.result.now c.after_space-name.result.now
    (record { rest_is = take_rest l 6; index_is = c.before_space-index.ensures; name_is = c.after_space-name.ensures })
    (sym c.starts_with.ensures.value ∙ c.if-not-starts_with.false)
    (sym c.is_filled.ensures ∙ c.if-not-is_filled.false)
    ∙ must-false BadForm _ _ (sym c.may_be_named.ensures ∙ c.if-not-may_be_named.true)

pub returns-in-None-clause-err : goal.returns-in-None-clause-err
returns-in-None-clause-err c =
    let l = c.args.line.now in
    graph-named l (take (length l - 6) (drop 6 l)) c.before_space-index.result.now c.after_space-name.result.now
    (record { rest_is = take_rest l 6; index_is = c.before_space-index.ensures; name_is = c.after_space-name.ensures })
    (sym c.starts_with.ensures.value ∙ c.if-not-starts_with.false)
    (sym c.is_filled.ensures ∙ c.if-not-is_filled.false)
    ∙ must-true BadForm _ _ (sym c.may_be_named.ensures ∙ c.if-not-may_be_named.false)
    ∙ given-none BadNumber _ _ (sym c.number_in.ensures ∙ c.in-None.is)

pub returns-in_ok-from_slice-in-Some-clause-ok : goal.returns-in_ok-from_slice-in-Some-clause-ok
returns-in_ok-from_slice-in-Some-clause-ok c =
    let l = c.args.line.now in
    let name = c.after_space-name.result.now in
    let rest : ℕ → Result (ℕ × List ℕ) ReadWhy = λ n. Ok (n, name) in
    graph-named l (take (length l - 6) (drop 6 l)) c.before_space-index.result.now name
    (record { rest_is = take_rest l 6; index_is = c.before_space-index.ensures; name_is = c.after_space-name.ensures })
    (sym c.starts_with.ensures.value ∙ c.if-not-starts_with.false)
    (sym c.is_filled.ensures ∙ c.if-not-is_filled.false)
    ∙ must-true BadForm _ _ (sym c.may_be_named.ensures ∙ c.if-not-may_be_named.false)
    ∙ given-some BadNumber (number_in 1 greatest c.before_space-index.result.now) c.in-Some.number rest (sym c.number_in.ensures ∙ c.in-Some.is)
    ∙ ap (λ (given_name : List ℕ). (let r : Result (ℕ × List ℕ) ReadWhy = Ok (c.in-Some.number, given_name) in r)) (sym (c.from_vec.ensures ∙ c.in_ok-from_slice-in-Some.ensures.items))
