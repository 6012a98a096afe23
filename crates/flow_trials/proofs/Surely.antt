-- From what a run took of inputs that never fail to how it may end.
use Rattle.std.proofs.Common.{◌≡◌, ◌⊎◌, ◌-◌, ◌<◌, ◌≤◌, ◌^◌, ℕ, List, [], ◌++◌, length, true, false, Option, Some, None, refl, sym, ap, subst, arith, inl, inr, length-append, length-take}
use Rattle.std.specs.Prelude.{max, is_some, IfSome, IfNone, IsNone}
use Rattle.flow_io.specs.Memory.{TwoInputs, held_by}
use Rattle.flow_io.specs.Outside.{Selected, Rose}
use Rattle.flow_io.specs.declared.status.Status.{Status}
use Rattle.flow_io.specs.declared.status.Status.TheVariants.{Clean, Partial, Refused, Words, Fault, Memory, Long}
use Rattle.flowcheck_cli.specs.Run.{BothSeen, graph_seen, report_seen, Reads as ChecksRead}
use Rattle.flowcheck_cli.specs.Words.{InputNames}
use Rattle.flowpaths_cli.specs.Generated.{EndsSolved}
use Rattle.flowpaths_cli.specs.Run.{Reads}
use Rattle.flowpaths_cli.specs.declared.settings.Settings.{Settings}
use Rattle.program_runs.specs.Inputs.{Seen, left_of, taken, bytes_without, TakesFirst}
use Rattle.flow_trials.specs.Sure.{EndsSurely}

-- a count of 0 did not rise
never_rose : Rose 0 0 → ⊥
never_rose rose = omega (arith, rose)

neither_rose : (Rose 0 0 ⊎ Rose 0 0) → ⊥
neither_rose (inl rose) = never_rose rose
neither_rose (inr rose) = never_rose rose

-- what a right option denies
not_none : {T : Type 0} (x : T) → IsNone (Some x) → ⊥
not_none x none = let no' : ⊥ = cc in no'

-- no more bytes were taken than the input holds
few_taken : (held : List ℕ) (left : Option (List ℕ)) → length (bytes_without held left) ≤ length held
few_taken held None = omega arith
few_taken held (Some left) = omega (arith, length-take (length held - length left) held)

-- an input of which nothing is left was taken whole
taken_whole : (file : List ℕ) (seen : Seen) → TakesFirst file seen → left_of file seen.last ≡ Some [] → length (taken file seen) < 2 ^ 30 → length seen.held < 2 ^ 30
taken_whole file seen first none short =
    let all : seen.held ≡ taken file seen ++ [] = subst (λ left. IfSome left (λ bytes. seen.held ≡ taken file seen ++ bytes)) none first.rest in
    omega (arith, short, ap length all, length-append (taken file seen) [])

read_surely : (s : Settings) (status : Status) (seen : Seen) → Reads s status seen → (status ≡ Words → ⊥) → (status ≡ Fault → ⊥) → EndsSurely (length seen.held) status
read_surely s Clean seen reads words fault = taken_whole s.file seen reads.first (reads.ended tt).nothing_left (reads.ended tt).short
read_surely s Partial seen reads words fault = taken_whole s.file seen reads.first (reads.ended tt).nothing_left (reads.ended tt).short
read_surely s Refused seen reads words fault = taken_whole s.file seen reads.first (reads.ended tt).nothing_left (reads.ended tt).short
read_surely s Words seen reads words fault = absurd (words refl)
read_surely s Fault seen reads words fault = absurd (fault refl)
read_surely s Memory seen reads words fault = tt
read_surely s Long seen reads words fault = omega (arith, reads.long refl, few_taken seen.held (left_of s.file seen.last))

weaken_none : (T : Type 0) (o : Option T) (P Q : Type 0) → (P → Q) → IfNone o P → IfNone o Q
weaken_none T None P Q weaken holds = weaken holds
weaken_none T (Some x) P Q weaken holds = tt

weaken_some : (T : Type 0) (o : Option T) (P Q : T → Type 0) → ((x : T) → P x → Q x) → IfSome o P → IfSome o Q
weaken_some T None P Q weaken holds = tt
weaken_some T (Some x) P Q weaken holds = weaken x holds

-- what two inputs hold by a name
abbrev held_in : TwoInputs → List ℕ → List ℕ
held_in inputs name = held_by inputs.first_name inputs.first inputs.second_name inputs.second name

-- the names that may be asked for
abbrev MayAsk : TwoInputs → List ℕ → Type 0
MayAsk inputs name = (name ≡ inputs.first_name) ⊎ (name ≡ inputs.second_name)

paths_at : (o : Option Settings) (status : Status) (inputs : TwoInputs) (last : Option Selected) (Early : Type 0) → (status ≡ Words → IsNone o) → (status ≡ Fault → ⊥) → (Early → status ≡ Memory) →
    IfSome o (λ s. IfNone s.demo (Early ⊎ Reads s status (record { held = held_in inputs s.file; last = last }))) → IfSome o (λ s. IfNone s.demo (EndsSurely (length (held_in inputs s.file)) status))
paths_at None status inputs last Early words fault early reads = tt
paths_at (Some s) status inputs last Early words fault early reads =
    weaken_none _ s.demo _ _
    (λ one. elim one [
      | inl at ↦ subst (EndsSurely (length (held_in inputs s.file))) (sym (early at)) tt
      | inr read ↦ read_surely s status (record { held = held_in inputs s.file; last = last }) read (λ is. not_none s (words is)) fault
    ]) reads

-- how a run over two inputs may end
pub paths_surely : (o : Option Settings) (status : Status) (inputs made : TwoInputs) (last : Option Selected) (Early : Type 0) → inputs ≡ made → (status ≡ Words → IsNone o) →
    (status ≡ Fault → Rose 0 0 ⊎ Rose 0 0) → (Early → status ≡ Memory) →
    IfSome o (λ s. IfNone s.demo (Early ⊎ Reads s status (record { held = held_in inputs s.file; last = last }))) → IfSome o (λ s. IfNone s.demo (EndsSurely (length (held_in made s.file)) status))
paths_surely o status inputs made last Early same words fault early reads =
    subst (λ (i : TwoInputs). IfSome o (λ s. IfNone s.demo (EndsSurely (length (held_in i s.file)) status))) same
    (paths_at o status inputs last Early words (λ is. neither_rose (fault is)) early reads)

pub paths_may_ask : (o : Option Settings) (inputs made : TwoInputs) → inputs ≡ made → IfSome o (λ s. IfNone s.demo (MayAsk made s.file)) → IfSome o (λ s. IfNone s.demo (MayAsk inputs s.file))
paths_may_ask o inputs made same may = subst (λ (i : TwoInputs). IfSome o (λ s. IfNone s.demo (MayAsk i s.file))) (sym same) may

solved_surely : (status : Status) → EndsSolved status (Rose 0 0) → EndsSolved status ⊥
solved_surely Clean ends = tt
solved_surely Partial ends = tt
solved_surely Refused ends = ends
solved_surely Words ends = ends
solved_surely Fault ends = never_rose ends
solved_surely Memory ends = tt
solved_surely Long ends = ends

-- how a run over a generated text may end
pub generated_surely : (o : Option Settings) (status : Status) (Same : Type 0) → IfSome o (λ s. IfSome s.demo (λ seed. Same × EndsSolved status (Rose 0 0))) → IfSome o (λ s. IfSome s.demo (λ seed. EndsSolved status ⊥))
generated_surely o status Same ends =
    weaken_some _ o _ _ (λ s at. weaken_some _ s.demo _ _ (λ seed both. solved_surely status both.1) at) ends

checked_surely : (names : InputNames) (status : Status) (seen : BothSeen) → ChecksRead names status seen → (status ≡ Words → ⊥) → (status ≡ Fault → ⊥) →
    EndsSurely (max (length seen.graphs) (length seen.reports)) status
checked_surely names Clean seen reads words fault = omega (arith, (reads.ended tt).1, reads.reports_first (ap is_some (reads.ended tt).0))
checked_surely names Partial seen reads words fault = omega (arith, (reads.ended tt).1, reads.reports_first (ap is_some (reads.ended tt).0))
checked_surely names Refused seen reads words fault = omega (arith, (reads.ended tt).1, reads.reports_first (ap is_some (reads.ended tt).0))
checked_surely names Words seen reads words fault = absurd (words refl)
checked_surely names Fault seen reads words fault = absurd (fault refl)
checked_surely names Memory seen reads words fault = tt
checked_surely names Long seen reads words fault = elim (reads.long refl) [
  | inl all ↦ omega (arith, all, few_taken seen.reports (left_of names.report seen.last))
  | inr all ↦ omega (arith, all, few_taken seen.graphs (left_of names.graph seen.last))
]

checks_at : (o : Option InputNames) (status : Status) (inputs : TwoInputs) (last : Option Selected) → (status ≡ Words → IsNone o) → (status ≡ Fault → ⊥) →
    IfSome o (λ names. ChecksRead names status (record { graphs = held_in inputs names.graph; reports = held_in inputs names.report; last = last })) →
    IfSome o (λ names. EndsSurely (max (length (held_in inputs names.graph)) (length (held_in inputs names.report))) status)
checks_at None status inputs last words fault reads = tt
checks_at (Some names) status inputs last words fault reads =
    checked_surely names status (record { graphs = held_in inputs names.graph; reports = held_in inputs names.report; last = last }) reads (λ is. not_none names (words is)) fault

-- how a check over two inputs may end
pub checks_surely : (o : Option InputNames) (status : Status) (inputs made : TwoInputs) (last : Option Selected) → inputs ≡ made → (status ≡ Words → IsNone o) → (status ≡ Fault → Rose 0 0 ⊎ Rose 0 0) →
    IfSome o (λ names. ChecksRead names status (record { graphs = held_in inputs names.graph; reports = held_in inputs names.report; last = last })) →
    IfSome o (λ names. EndsSurely (max (length (held_in made names.graph)) (length (held_in made names.report))) status)
checks_surely o status inputs made last same words fault reads =
    subst (λ (i : TwoInputs). IfSome o (λ names. EndsSurely (max (length (held_in i names.graph)) (length (held_in i names.report))) status)) same
    (checks_at o status inputs last words (λ is. neither_rose (fault is)) reads)

pub checks_may_ask : (o : Option InputNames) (inputs made : TwoInputs) → inputs ≡ made → IfSome o (λ names. MayAsk made names.graph × MayAsk made names.report) → IfSome o (λ names. MayAsk inputs names.graph × MayAsk inputs names.report)
checks_may_ask o inputs made same may = subst (λ (i : TwoInputs). IfSome o (λ names. MayAsk i names.graph × MayAsk i names.report)) (sym same) may
