use Rattle.std.proofs.Common.{◌∙◌, sym}
use Rattle.flowpaths_cli.specs.Values.{values_in}
use Rattle.flowpaths_cli.proofs.WordSettings.{are-built}
use Rattle.flowpaths_cli.proofs.settings.Settings.of_words.Goals as goal

pub returns-clause-built : goal.returns-clause-built
returns-clause-built c =
    are-built (values_in c.in_ok-given.given) c.in_ok-settings.settings (sym c.is_refused.ensures ∙ c.if-is_refused.false) c.in_ok-settings.ensures
