use Rattle.std.proofs.Common.{sym, subst}
use Rattle.std.specs.Prelude.{IfSome}
use Rattle.flow_io.specs.Outside.{Rose}
use Rattle.flowcheck_cli.specs.Run.{WhereBothSeen, WhereWritten, Reads, Writes}
use Rattle.flowcheck_cli.specs.Words.{texts}
use Rattle.flowcheck_cli.proofs.Accounts.{named_differ, some_not_none}
use Rattle.flowcheck_cli.proofs.call.run.Goals as goal

pub run_inputs-requires-clause-differ : goal.run_inputs-requires-clause-differ
run_inputs-requires-clause-differ g c = named_differ (texts c.args.words.now) _ c.in-Some.ensures

pub run_inputs-requires-clause-may_ask : goal.run_inputs-requires-clause-may_ask
run_inputs-requires-clause-may_ask g c =
    subst (λ o. IfSome o (λ names. g.I.Inputs.may_ask c.args.inputs.now names.graph × g.I.Inputs.may_ask c.args.inputs.now names.report)) c.in-Some.ensures c.requires

pub returns-in-Some-clause-reads : goal.returns-in-Some-clause-reads
returns-in-Some-clause-reads g c =
    subst (λ o. IfSome o (λ names. WhereBothSeen (g.I.Inputs.holds c.args.inputs.now names.graph) (g.I.Inputs.holds c.args.inputs.now names.report) (g.I.Inputs.selected c.run_inputs.new.inputs)
    (Reads names c.run_inputs.result))) (sym c.in-Some.ensures) c.run_inputs.ensures.reads

pub returns-in-Some-clause-writes : goal.returns-in-Some-clause-writes
returns-in-Some-clause-writes g c =
    subst (λ o. IfSome o (λ names. WhereBothSeen (g.I.Inputs.holds c.args.inputs.now names.graph) (g.I.Inputs.holds c.args.inputs.now names.report) (g.I.Inputs.selected c.run_inputs.new.inputs)
    (λ seen. WhereWritten (g.O.Output.written c.args.out.now) (g.O.Output.written c.run_inputs.new.out)
    (Writes names c.run_inputs.result (Rose (g.O.Output.faults c.args.out.now) (g.O.Output.faults c.run_inputs.new.out)) seen)))) (sym c.in-Some.ensures) c.run_inputs.ensures.writes

pub returns-in-Some-clause-words : goal.returns-in-Some-clause-words
returns-in-Some-clause-words g c = (λ is. absurd (c.run_inputs.ensures.not_words is), λ none. absurd (some_not_none _ _ c.in-Some.ensures none))

pub returns-in-Some-clause-untouched : goal.returns-in-Some-clause-untouched
returns-in-Some-clause-untouched g c none = absurd (some_not_none _ _ c.in-Some.ensures none)
