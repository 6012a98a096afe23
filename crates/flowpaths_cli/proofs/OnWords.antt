-- What a proof unfolds to compute the settings of words that are written out.
use Rattle.std.specs.Prelude.{⊤}
use Rattle.clap.proofs.OnLiterals.{clap_on_literals}
use Rattle.flowpaths_cli.specs.Words.{faults_of, values_of, settings_of}

unfoldable pub words_on_literals : ⊤
unfolding clap_on_literals faults_of values_of settings_of
words_on_literals = tt
