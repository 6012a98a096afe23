-- What a run over a generated text counts and writes.
use Rattle.std.proofs.Common.{◌≡◌, ◌<◌, ◌≤◌, ◌^◌, ℕ, List, [], length, Option, Some, None, refl, sym, ap, subst, ◌∙◌, ⊎_elim, arith, append-nil, inl, inr}
use Rattle.std.specs.Prelude.{All, IfSome, IfNone}
use Rattle.std.proofs.lemmas.Bool.{cases_lt}
use Rattle.decomposition.specs.declared.Mode.TheVariants.{Exact}
use Rattle.demo_text.specs.Demo.{demo_text}
use Rattle.demo_text.proofs.DemoBlocks.{blocks_are_accepted}
use Rattle.flow_io.specs.declared.status.Status.{Status}
use Rattle.flow_io.specs.declared.status.Status.TheVariants.{Clean, Partial, Refused, Words, Fault, Memory, Long}
use Rattle.graph_text.specs.Blocks.{TextBlock, blocks}
use Rattle.program_runs.proofs.Writing.{where_written}
use Rattle.block_runs.specs.Texts.{BeginsEnd}
use Rattle.block_runs.specs.Underway.{EndsText}
use Rattle.demo_text.specs.Accepted.{IsPlain}
use Rattle.report_terms.specs.declared.report.Report.{Report}
use Rattle.flowpaths_cli.specs.declared.settings.Settings.{Settings}
use Rattle.flowpaths_cli.specs.declared.tally.Tally.{Tally}
use Rattle.flowpaths_cli.specs.Generated.{IsTallied, AreCounted, IsSolved, EndsSolved, IsToldWith, WritesCounts}
use Rattle.flowpaths_cli.specs.Run.{WhereWritten}
use Rattle.flowpaths_cli.proofs.SolvedGraphs.{all-decided}
use Rattle.flowpaths_cli.proofs.Tallies.{length-reports}

-- the counts of right reports for 40 blocks without runs to be covered
record AreSolved (s : Settings) (shown : List TextBlock) (t : Tally) : Type 0 where
  reports : List Report
  counted : AreCounted s shown reports t
  forty : t.blocks ≡ 40

solved-shown : (s : Settings) (shown : List TextBlock) (t : Tally) → s.mode ≡ Exact → All IsPlain shown → length shown ≡ 40 → IsTallied s shown t → AreSolved s shown t
solved-shown s shown t exact plain many is =
    let all = all-decided s exact shown is.reports is.text plain is.right in
    let optimal = ap (λ (u : Tally). u.optimal) is.counts in
    let bounds = ap (λ (u : Tally). u.bounds) is.counts in
    let paths = ap (λ (u : Tally). u.paths) is.counts in
    record {
      reports = is.reports;
      counted = record {
        text = is.text;
        right = is.right;
        counts = is.counts;
        marks = omega (arith, all.marks, optimal, bounds);
        least = λ numbers fewest. omega (arith, all.least numbers fewest, paths);
        best = λ closed numbers fewest. omega (arith, all.least numbers fewest, all.best (sym bounds ∙ closed) numbers fewest, paths);
      };
      forty = omega (arith, ap (λ (u : Tally). u.blocks) is.counts, length-reports s shown is.reports is.text is.right, many);
    }

-- the counts of right reports for the blocks of the text
solved-from : (s : Settings) (seed : ℕ) (t : Tally) → s.mode ≡ Exact → IsTallied s (blocks (demo_text seed)) t → IsSolved s seed t
solved-from s seed t exact is =
    let accepted = blocks_are_accepted seed in
    let made = solved-shown s (blocks (demo_text seed)) t exact accepted.1 accepted.0 is in
    record { reports = made.reports; counted = made.counted; forty = made.forty }

few-of : (text all : List ℕ) → text ≡ all → length (blocks all) ≡ 40 → length (blocks text) < 2 ^ 32
few-of text all same many = subst (λ bytes. length (blocks bytes) < 2 ^ 32) (sym same) (subst (λ n. n < 2 ^ 32) (sym many) (omega arith))

pub few-blocks : (text : List ℕ) (seed : ℕ) → text ≡ demo_text seed → length (blocks text) < 2 ^ 32
few-blocks text seed same = few-of text (demo_text seed) same (blocks_are_accepted seed).0

solved-text : (s : Settings) (seed : ℕ) (text : List ℕ) (t : Tally) → s.mode ≡ Exact → text ≡ demo_text seed → IsTallied s (blocks text) t → IsSolved s seed t
solved-text s seed text t exact same is = solved-from s seed t exact (subst (λ bytes. IsTallied s (blocks bytes) t) same is)

-- the status of a run that told all counts
told-clean : (s : Settings) (shown : List TextBlock) (text : List ℕ) (told : IsToldWith s Clean shown text) → told.tally.bounds ≡ 0
told-clean s shown text told =
    ⊎_elim (λ some. absurd (let f : Clean ≡ Partial = told.partial some in let no' : ⊥ = cc in no')) (λ few. omega arith) (cases_lt 0 told.tally.bounds)

told-partial : (s : Settings) (shown : List TextBlock) (text : List ℕ) (told : IsToldWith s Partial shown text) → 1 ≤ told.tally.bounds
told-partial s shown text told =
    ⊎_elim (λ some. omega arith) (λ few. let none : told.tally.bounds ≡ 0 = omega arith in absurd (let f : Partial ≡ Clean = told.clean none in let no' : ⊥ = cc in no')) (cases_lt 0 told.tally.bounds)

told-refused : (s : Settings) (shown : List TextBlock) (text : List ℕ) → IsToldWith s Refused shown text → ⊥
told-refused s shown text told =
    ⊎_elim (λ some. let f : Refused ≡ Partial = told.partial some in let no' : ⊥ = cc in no')
    (λ few. let none : told.tally.bounds ≡ 0 = omega arith in let f : Refused ≡ Clean = told.clean none in let no' : ⊥ = cc in no') (cases_lt 0 told.tally.bounds)

-- what a run over a text tells in which no answer is cut off
abbrev TellsText : Settings → List ℕ → Status → Option (List ℕ) → Option (List ℕ) → Type 0
TellsText s bytes status before now =
    EndsText (λ shown text. ⊥ × (text ≡ [])) (λ shown text. text ≡ []) (λ status shown text. IsToldWith s status shown text) bytes status before now

pub ends-told : (s : Settings) (bytes : List ℕ) (status : Status) (before now : Option (List ℕ)) (rose : Type 0) → TellsText s bytes status before now → (status ≡ Fault → rose) → EndsSolved status rose
ends-told s bytes Clean before now rose ends rises = tt
ends-told s bytes Partial before now rose ends rises = tt
ends-told s bytes Refused before now rose ends rises = let wrote = ends.done tt in told-refused s (blocks bytes) wrote.0 wrote.1
ends-told s bytes Words before now rose ends rises = ends.not_words refl
ends-told s bytes Fault before now rose ends rises = rises refl
ends-told s bytes Memory before now rose ends rises = tt
ends-told s bytes Long before now rose ends rises = ends.not_long refl

module _ (s : Settings) (seed : ℕ) where
  -- nothing was written
  counts-none : (text : List ℕ) → text ≡ [] → WritesCounts s seed Memory text
  counts-none text none = record {
    clean = λ e. absurd (let f : Memory ≡ Clean = e in cc);
    partial = λ e. absurd (let f : Memory ≡ Partial = e in cc);
    fault = λ e. absurd (let f : Memory ≡ Fault = e in cc);
    memory = λ e. none;
  }

  pub writes-nothing : (told : Option (List ℕ)) → WhereWritten told told (WritesCounts s seed Memory)
  writes-nothing None = tt
  writes-nothing (Some bytes) = ([], ap Some (sym (append-nil bytes)), counts-none [] refl)

  -- what was written after each status
  module _ (bytes : List ℕ) (exact : s.mode ≡ Exact) (same : bytes ≡ demo_text seed) where
    counts-clean : (text : List ℕ) → IsToldWith s Clean (blocks bytes) text → WritesCounts s seed Clean text
    counts-clean text told = record {
      clean = λ e. (told.tally, solved-text s seed bytes told.tally exact same told.tallied, told-clean s (blocks bytes) text told, told.lines);
      partial = λ e. absurd (let f : Clean ≡ Partial = e in cc);
      fault = λ e. absurd (let f : Clean ≡ Fault = e in cc);
      memory = λ e. absurd (let f : Clean ≡ Memory = e in cc);
    }

    counts-partial : (text : List ℕ) → IsToldWith s Partial (blocks bytes) text → WritesCounts s seed Partial text
    counts-partial text told = record {
      clean = λ e. absurd (let f : Partial ≡ Clean = e in cc);
      partial = λ e. (told.tally, solved-text s seed bytes told.tally exact same told.tallied, told-partial s (blocks bytes) text told, told.lines);
      fault = λ e. absurd (let f : Partial ≡ Fault = e in cc);
      memory = λ e. absurd (let f : Partial ≡ Memory = e in cc);
    }

    counts-fault : (text : List ℕ) → BeginsEnd (λ shown text. ⊥ × (text ≡ [])) (λ status shown text. IsToldWith s status shown text) (blocks bytes) text → WritesCounts s seed Fault text
    counts-fault text (inl h) = absurd h.1.1.0
    counts-fault text (inr h) = record {
      clean = λ e. absurd (let f : Fault ≡ Clean = e in cc);
      partial = λ e. absurd (let f : Fault ≡ Partial = e in cc);
      fault = λ e. (h.2.tally, solved-text s seed bytes h.2.tally exact same h.2.tallied, h.0, h.2.lines);
      memory = λ e. absurd (let f : Fault ≡ Memory = e in cc);
    }

    pub writes-told : (status : Status) (before now : Option (List ℕ)) → TellsText s bytes status before now → WhereWritten before now (WritesCounts s seed status)
    writes-told Clean before now ends = let wrote = ends.done tt in where_written _ before now wrote.0 wrote.2 (counts-clean wrote.0 wrote.1)
    writes-told Partial before now ends = let wrote = ends.done tt in where_written _ before now wrote.0 wrote.2 (counts-partial wrote.0 wrote.1)
    writes-told Refused before now ends = let wrote = ends.done tt in absurd (told-refused s (blocks bytes) wrote.0 wrote.1)
    writes-told Words before now ends = absurd (ends.not_words refl)
    writes-told Fault before now ends = let wrote = ends.fault refl in where_written _ before now wrote.0 wrote.2 (counts-fault wrote.0 wrote.1)
    writes-told Memory before now ends = let wrote = ends.memory refl in where_written _ before now wrote.0 wrote.2 (counts-none wrote.0 wrote.1.1)
    writes-told Long before now ends = absurd (ends.not_long refl)

-- where memory was wanting to read the words, nothing else happened
pub memory-generated : {X : Type 0} (settings : Option Settings) (inputs : X) (out_rose : Type 0)
    → IfSome settings (λ s. IfSome s.demo (λ seed. (inputs ≡ inputs) × EndsSolved Memory out_rose))
memory-generated None inputs out_rose = tt
memory-generated (Some s) inputs out_rose = if_some s.demo where
  if_some : (o : Option ℕ) → IfSome o (λ seed. (inputs ≡ inputs) × EndsSolved Memory out_rose)
  if_some None = tt
  if_some (Some n) = (refl, tt)

pub memory-counts : (settings : Option Settings) (told : Option (List ℕ)) → IfSome settings (λ s. IfSome s.demo (λ seed. WhereWritten told told (WritesCounts s seed Memory)))
memory-counts None told = tt
memory-counts (Some s) told = if_some s.demo where
  if_some : (o : Option ℕ) → IfSome o (λ seed. WhereWritten told told (WritesCounts s seed Memory))
  if_some None = tt
  if_some (Some seed) = writes-nothing s seed told

-- what holds of a seed, by whether there is one
pub without-seed : (demo : Option ℕ) (seed : ℕ) (P : Type 0) → demo ≡ Some seed → IfNone demo P
without-seed None seed P is = absurd (let e : ◌≡◌ {A = Option ℕ} None (Some seed) = is in cc)
without-seed (Some n) seed P is = tt

pub with-seed : (demo : Option ℕ) (seed : ℕ) (P : ℕ → Type 0) → demo ≡ Some seed → P seed → IfSome demo P
with-seed None seed P is holds = tt
with-seed (Some n) seed P is holds = let same : seed ≡ n = cc in subst P same holds
