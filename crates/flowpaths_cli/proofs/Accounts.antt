-- From what a run took and wrote to what is said of it where the inputs and the output tell.
use Rattle.std.proofs.Common.{◌≡◌, ◌⊎◌, ℕ, List, [], ◌++◌, Option, Some, None, refl, sym, subst, inl, inr}
use Rattle.std.specs.Prelude.{IfSome, IfNone}
use Rattle.flow_io.specs.Outside.{Selected}
use Rattle.flow_io.proofs.Adding.{Adds-nothing}
use Rattle.flow_io.specs.declared.status.Status.{Status}
use Rattle.flow_io.specs.declared.status.Status.TheVariants.{Memory}
use Rattle.graph_text.specs.Blocks.{blocks}
use Rattle.program_runs.proofs.FirstBlocks.{first-all}
use Rattle.program_runs.proofs.Writing.{where_written}
use Rattle.block_runs.specs.Run.{Writes as WritesBlocks}
use Rattle.block_runs.specs.Texts.{BeginsAt}
use Rattle.flowpaths_cli.specs.declared.settings.Settings.{Settings}
use Rattle.flowpaths_cli.specs.Run.{Seen, WhereSeen, WhereWritten, left_of, taken, blocks_at, IsOutput, IsOutputWith, BeginsOutput, Writes}

-- where all blocks are reported, a beginning of the whole output is one of an output
begins-as : (s : Settings) (bytes : List ℕ) (left : Option (List ℕ)) (text : List ℕ) → BeginsAt (IsOutput s) (IsOutputWith s) bytes left text → BeginsOutput s (blocks_at bytes left) text
begins-as s bytes left text (inl h) = h
begins-as s bytes left text (inr h) =
    let all : BeginsOutput s (blocks bytes) text = (h.1.0, first-all (λ l. IsOutput s l (text ++ h.1.0)) (blocks bytes) (h.1.2.0, h.1.2.1)) in
    subst (λ l. BeginsOutput s (blocks_at bytes l) text) (sym h.0) all

writes-as : (s : Settings) (status : Status) (rose : Type 0) (seen : Seen) (text : List ℕ) → WritesBlocks (IsOutput s) (IsOutputWith s) s.file status rose seen text → Writes s status rose seen text
writes-as s status rose seen text w = record {
  done = w.done;
  long = w.long;
  fault = λ e. begins-as s (taken s.file seen) (left_of s.file seen.last) text (w.fault e);
  written = w.written;
  memory = w.memory;
}

-- so what is written for blocks is written of reports
pub writes-seen : (s : Settings) (status : Status) (held : Option (List ℕ)) (last : Option (Option Selected)) (before now : Option (List ℕ)) (rose : Type 0) →
    WhereSeen held last (λ seen. WhereWritten before now (WritesBlocks (IsOutput s) (IsOutputWith s) s.file status rose seen)) →
    WhereSeen held last (λ seen. WhereWritten before now (Writes s status rose seen))
writes-seen s status None last before now rose h = tt
writes-seen s status (Some held) None before now rose h = tt
writes-seen s status (Some held) (Some last) None now rose h = tt
writes-seen s status (Some held) (Some last) (Some start) now rose h = (h.0, h.1, writes-as s status rose (record { held = held; last = last }) h.0 h.2)

-- a run that wants memory before it asks for its input
memory-at : (s : Settings) (rose : Type 0) (seen : Seen) → Writes s Memory rose seen []
memory-at s rose seen = record {
  done = λ h. absurd h;
  long = λ e. absurd (let no' : ⊥ = cc in no');
  fault = λ e. absurd (let no' : ⊥ = cc in no');
  written = λ e _. absurd (let no' : ⊥ = cc in no');
  memory = λ _. (0, ([], refl));
}

memory-seen : (s : Settings) (held : Option (List ℕ)) (last : Option (Option Selected)) (told : Option (List ℕ)) (rose : Type 0) →
    WhereSeen held last (λ seen. WhereWritten told told (Writes s Memory rose seen))
memory-seen s None last told rose = tt
memory-seen s (Some whole) None told rose = tt
memory-seen s (Some whole) (Some last) told rose =
    where_written _ told told [] (Adds-nothing told) (memory-at s rose (record { held = whole; last = last }))

if_none : (T : Type 0) (o : Option T) (P : Type 0) → P → IfNone o P
if_none T None P holds = holds
if_none T (Some x) P holds = tt

-- what was read, where memory was wanting for the words, and after the words were read
pub early-reads : (settings : Option Settings) (Early : Type 0) (Later : Settings → Type 0) → Early → IfSome settings (λ s. IfNone s.demo (Early ⊎ Later s))
early-reads None Early Later early = tt
early-reads (Some s) Early Later early = if_none _ s.demo _ (inl early)

weaken_none : (T : Type 0) (o : Option T) (P Q : Type 0) → (P → Q) → IfNone o P → IfNone o Q
weaken_none T None P Q weaken holds = weaken holds
weaken_none T (Some x) P Q weaken holds = tt

pub later-reads : (settings : Option Settings) (s : Settings) (Early : Type 0) (Later : Settings → Type 0) → settings ≡ Some s → IfNone s.demo (Later s) →
    IfSome settings (λ s. IfNone s.demo (Early ⊎ Later s))
later-reads settings s Early Later is later =
    subst (λ o. IfSome o (λ s. IfNone s.demo (Early ⊎ Later s))) (sym is) (weaken_none _ s.demo (Later s) (Early ⊎ Later s) inr later)

-- the same, where the words name an input
pub memory-writes : (settings : Option Settings) (held : Settings → Option (List ℕ)) (last : Option (Option Selected)) (told : Option (List ℕ)) (rose : Type 0) →
    IfSome settings (λ s. IfNone s.demo (WhereSeen (held s) last (λ seen. WhereWritten told told (Writes s Memory rose seen))))
memory-writes None held last told rose = tt
memory-writes (Some s) held last told rose = if_none _ s.demo _ (memory-seen s (held s) last told rose)
