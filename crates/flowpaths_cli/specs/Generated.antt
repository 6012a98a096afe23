-- What a run over a generated text writes.
use Rattle.std.specs.Prelude.{◌≡◌, ℕ, ◌+◌, ◌*◌, ◌^◌, ◌<◌, ◌≤◌, List, [], ◌∷◌, ◌++◌, length, sum, IsOkAnd}
use Rattle.std.proofs.Common.{ap}
use Rattle.decomposition.specs.declared.Mode.TheVariants.{Exact}
use Rattle.decomposition.specs.Instance.{Instance, Meets, objective, IsLowerBound}
use Rattle.demo_text.specs.Demo.{demo_text}
use Rattle.flow_io.specs.declared.status.Status.{Status}
use Rattle.flow_io.specs.declared.status.Status.TheVariants.{Clean, Partial, Refused, Words, Fault, Memory, Long}
use Rattle.graph_text.specs.Blocks.{TextBlock, blocks}
use Rattle.graph_text.specs.Reading.{read, instance_of}
use Rattle.report_terms.specs.declared.report.Report.{Report}
use Rattle.flowpaths_cli.specs.declared.generated.Counting.{Counting}
use Rattle.flowpaths_cli.specs.declared.settings.Settings.{Settings}
use Rattle.flowpaths_cli.specs.declared.tally.Tally.{Tally}
use Rattle.flowpaths_cli.specs.Right.{AreBuilt}
use Rattle.flowpaths_cli.specs.Run.{AreReports}
use Rattle.flowpaths_cli.specs.Tally.{most_told, tally_of, lines_of}

-- right reports for these blocks, one for each, were made, and these are their counts
pub record IsTallied (s : Settings) (shown : List TextBlock) (t : Tally) : Type 0 where
  pub reports : List Report
  pub text : List ℕ
  pub right : AreReports s shown reports text
  pub counts : t ≡ tally_of reports
  pub few : t.paths ≤ most_told * length reports

-- the counts are those of right reports for fewer than 2^32 blocks
abbrev pub AreTallied : Settings → Tally → Type 0
AreTallied s t = (shown : List TextBlock) × (length shown < 2 ^ 32) × IsTallied s shown t

-- from the first state to the second these blocks were counted in the exact model, and nothing was written
pub record HasCounted (first now : Counting) (shown : List TextBlock) (text : List ℕ) : Type 0 where
  pub built : AreBuilt first.settings.now
  pub exact : first.settings.now.mode ≡ Exact
  pub settings_are : now.settings.now ≡ first.settings.now
  pub tallied : IsTallied first.settings.now shown now.tally
  pub nothing : text ≡ []

pub model_stays : (first now : Counting) (shown : List TextBlock) (text : List ℕ) → HasCounted first now shown text → now.settings.now.mode ≡ first.settings.now.mode
model_stays first now shown text h = ap (λ (s : Settings). s.mode) h.settings_are

-- the text is the lines of the counts of right reports for these blocks, and the status says whether an optimum is left open
pub record IsToldWith (s : Settings) (status : Status) (shown : List TextBlock) (text : List ℕ) : Type 0 where
  pub tally : Tally
  pub tallied : IsTallied s shown tally
  pub lines : text ≡ lines_of tally
  pub clean : tally.bounds ≡ 0 → status ≡ Clean
  pub partial : 0 < tally.bounds → status ≡ Partial

-- the fewest paths that make up the flow of an instance: some answer has so many, and none has fewer
pub record IsFewest (i : Instance) (n : ℕ) : Type 0 where
  pub paths : List (List ℕ × ℕ)
  pub meets : Meets Exact i paths
  pub counted : objective Exact i paths ≡ n
  pub least : IsLowerBound Exact i n

-- the fewest paths of the graph that a block is read as
abbrev pub IsFewestOf : TextBlock → ℕ → Type 0
IsFewestOf block n = IsOkAnd (read Exact block) (λ graph. IsFewest (instance_of graph) n)

-- the fewest paths of each of the blocks
abbrev pub AreFewest : List TextBlock → List ℕ → Type 0
AreFewest [] [] = Unit {0}
AreFewest [] (n ∷ numbers) = ⊥
AreFewest (block ∷ others) [] = ⊥
AreFewest (block ∷ others) (n ∷ numbers) = IsFewestOf block n × AreFewest others numbers

-- One right report for each of the blocks, in order, and their counts: of each graph the paths are best or the optimum is left open, and there
-- are at least as many paths as the fewest of all graphs together, and just as many where no optimum is left open.
pub record AreCounted (s : Settings) (shown : List TextBlock) (reports : List Report) (t : Tally) : Type 0 where
  pub text : List ℕ
  pub right : AreReports s shown reports text
  pub counts : t ≡ tally_of reports
  pub marks : t.optimal + t.bounds ≡ length shown
  pub least : (numbers : List ℕ) → AreFewest shown numbers → sum numbers ≤ t.paths
  pub best : t.bounds ≡ 0 → (numbers : List ℕ) → AreFewest shown numbers → sum numbers ≡ t.paths

-- right reports for the 40 blocks of the text of a seed, and their counts
pub record IsSolved (s : Settings) (seed : ℕ) (t : Tally) : Type 0 where
  pub reports : List Report
  pub counted : AreCounted s (blocks (demo_text seed)) reports t
  pub forty : t.blocks ≡ 40

-- such a run may end with every graph solved, at a fault of the output, and for want of memory
abbrev pub EndsSolved : Status → Type 0 → Type 0
EndsSolved Clean out_rose = Unit {0}
EndsSolved Partial out_rose = Unit {0}
EndsSolved Refused out_rose = ⊥
EndsSolved Words out_rose = ⊥
EndsSolved Fault out_rose = out_rose
EndsSolved Memory out_rose = Unit {0}
EndsSolved Long out_rose = ⊥

-- what such a run wrote: the lines of the counts, or a beginning of them where a fault came, and nothing where memory was wanting
pub record WritesCounts (s : Settings) (seed : ℕ) (status : Status) (text : List ℕ) : Type 0 where
  pub clean : status ≡ Clean → (t : Tally) × IsSolved s seed t × (t.bounds ≡ 0) × (text ≡ lines_of t)
  pub partial : status ≡ Partial → (t : Tally) × IsSolved s seed t × (1 ≤ t.bounds) × (text ≡ lines_of t)
  pub fault : status ≡ Fault → (t : Tally) × IsSolved s seed t × (rest : List ℕ) × (text ++ rest ≡ lines_of t)
  pub memory : status ≡ Memory → text ≡ []
