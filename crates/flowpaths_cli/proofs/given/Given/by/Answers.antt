use Rattle.std.proofs.Common.{◌≡◌, ◌∙◌, ap, codes, rules}
use Rattle.std.specs.Option.{option_copied}
use Rattle.flowpaths_cli.specs.Values.{is_true_text}
use Rattle.flowpaths_cli.specs.Words.{texts, values_of}
use Rattle.flowpaths_cli.proofs.Parsed.{no_fault, some_fault, value_read}
use Rattle.flowpaths_cli.proofs.given.Given.by.Goals as goal

pub returns-in_err-matches-clause-words : goal.returns-in_err-matches-clause-words
returns-in_err-matches-clause-words c =
    some_fault _ (texts c.args.words.now) c.in_err-matches.field-0.0 c.from_residual-in_err-matches.result c.in_ok-command.ensures c.in_err-matches.ensures.kinds
    c.from_residual-in_err-matches.ensures.1

pub returns-clause-taken : goal.returns-clause-taken
returns-clause-taken c = no_fault _ (texts c.args.words.now) c.in_ok-command.ensures c.in_ok-matches.ensures.kinds

pub returns-clause-values : goal.returns-clause-values
unfolding values_of
returns-clause-values c =
    let words = texts c.args.words.now in
    let model = value_read _ words c.in_ok-matches.matches (codes "model") _ c.in_ok-command.ensures c.in_ok-matches.ensures.matches c.get_str.ensures in
    let paths = value_read _ words c.in_ok-matches.matches (codes "paths") _ c.in_ok-command.ensures c.in_ok-matches.ensures.matches c.get_str-2.ensures in
    let nodes = value_read _ words c.in_ok-matches.matches (codes "nodes") _ c.in_ok-command.ensures c.in_ok-matches.ensures.matches c.get_str-3.ensures in
    let flag = value_read _ words c.in_ok-matches.matches (codes "safe") _ c.in_ok-command.ensures c.in_ok-matches.ensures.matches c.get_str-4.ensures in
    let safe : c.is_some_and.result ≡ is_true_text (option_copied c.get_str-4.result) = search rules in
    let demo = value_read _ words c.in_ok-matches.matches (codes "demo") _ c.in_ok-command.ensures c.in_ok-matches.ensures.matches c.get_str-5.ensures in
    let file = value_read _ words c.in_ok-matches.matches (codes "file") _ c.in_ok-command.ensures c.in_ok-matches.ensures.matches c.get_str-6.ensures in
    λ i. record { model = model i; paths = paths i; nodes = nodes i; safe = (safe ∙ ap is_true_text flag) i; demo = demo i; file = file i }
