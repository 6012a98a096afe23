-- What a run took of its input, and what it then wrote.
use Rattle.std.proofs.Common.{◌≡◌, ◌⊎◌, ◌≤◌, ◌<◌, ◌^◌, ℕ, List, [], ◌++◌, length, Option, Result, Ok, Err, refl, sym, subst, ◌∙◌, arith, inl, inr}
use Rattle.std.specs.Prelude.{IfOk}
use Rattle.flow_io.specs.Outside.{Selected, Took}
use Rattle.flow_io.specs.declared.status.Status.{Status}
use Rattle.flow_io.specs.declared.status.Status.TheVariants.{Fault, Memory, Long}
use Rattle.flow_io.proofs.Adding.{Adds-nothing}
use Rattle.flow_io.proofs.Reading.{Took-nothing}
use Rattle.graph_text.specs.Blocks.{TextBlock, blocks, complete}
use Rattle.block_runs.specs.declared.stop.Stop.{Stop}
use Rattle.block_runs.specs.declared.stop.Stop.TheVariants.{Memory as OutOfMemory, Fault as Failed}
use Rattle.program_runs.specs.Inputs.{IsDone, IsAtEnd}
use Rattle.block_runs.specs.Texts.{Wrote, IsFirst, Begins, BeginsEnd}
use Rattle.block_runs.specs.Underway.{EndsRight, EndsText, status_at}
use Rattle.program_runs.proofs.FirstBlocks.{OfFirst, first-all, first-at}
use Rattle.block_runs.proofs.Texts.{wrote-as, begins-all, begins-right, begins-end_right}

-- what holds of some first ones of the complete blocks of a text holds of some first ones of all its blocks
first-whole : (P : List TextBlock → Type 0) (bytes : List ℕ) → OfFirst P (complete bytes) → OfFirst P (blocks bytes)
first-whole P bytes h = first-at P bytes [] h

-- a run that wanted memory
right-memory : (right : List TextBlock → List ℕ → Type 0) (whole : Status → List TextBlock → List ℕ → Type 0) (bytes : List ℕ) (first last : Option (Option Selected)) (before now : Option (List ℕ)) (rose : Type 0) →
    Took first last bytes → length bytes ≤ 2 ^ 30 → (Wrote (IsFirst right (complete bytes)) before now ⊎ (IsAtEnd last × Wrote (IsFirst right (blocks bytes)) before now)) →
    EndsRight right whole Memory first last before now rose
right-memory right whole bytes first last before now rose took most wrote = record {
  bytes = bytes;
  took = took;
  most = most;
  not_words = λ e. absurd (let no' : ⊥ = cc in no');
  done = λ h. absurd h;
  long = λ e. absurd (let no' : ⊥ = cc in no');
  fault = λ e. absurd (let no' : ⊥ = cc in no');
  written = λ e _. absurd (let no' : ⊥ = cc in no');
  memory = λ _. wrote;
}

-- a run that met a fault
right-failed : (right : List TextBlock → List ℕ → Type 0) (whole : Status → List TextBlock → List ℕ → Type 0) (bytes : List ℕ) (first last : Option (Option Selected)) (before now : Option (List ℕ)) (rose : Type 0) →
    Took first last bytes → length bytes ≤ 2 ^ 30 → (Wrote (Begins right (complete bytes)) before now ⊎ (IsAtEnd last × Wrote (BeginsEnd right whole (blocks bytes)) before now)) →
    ((rose → ⊥) → Wrote (right (complete bytes)) before now) → EndsRight right whole Fault first last before now rose
right-failed right whole bytes first last before now rose took most begins written = record {
  bytes = bytes;
  took = took;
  most = most;
  not_words = λ e. absurd (let no' : ⊥ = cc in no');
  done = λ h. absurd h;
  long = λ e. absurd (let no' : ⊥ = cc in no');
  fault = λ _. begins;
  written = λ _. written;
  memory = λ e. absurd (let no' : ⊥ = cc in no');
}

-- a run that could not begin
pub right-nothing : (right : List TextBlock → List ℕ → Type 0) (whole : Status → List TextBlock → List ℕ → Type 0) (first : Option (Option Selected)) (before : Option (List ℕ)) (rose : Type 0) →
    right [] [] → EndsRight right whole Memory first first before before rose
right-nothing right whole first before rose none =
    right-memory right whole [] first first before before rose (Took-nothing first) (omega arith) (inl ([], (0, none), Adds-nothing before))

-- a run whose read failed
pub right-fault : (right : List TextBlock → List ℕ → Type 0) (whole : Status → List TextBlock → List ℕ → Type 0) (bytes : List ℕ) (first last : Option (Option Selected)) (before now : Option (List ℕ)) (rose : Type 0) →
    Took first last bytes → length bytes ≤ 2 ^ 30 → Wrote (right (complete bytes)) before now → EndsRight right whole Fault first last before now rose
right-fault right whole bytes first last before now rose took most wrote =
    right-failed right whole bytes first last before now rose took most
    (inl (wrote-as before now (λ text h. begins-all right (complete bytes) text (first-all (λ l. right l text) (complete bytes) h)) wrote)) (λ _. wrote)

-- a run that came to its limit
pub right-long : (right : List TextBlock → List ℕ → Type 0) (whole : Status → List TextBlock → List ℕ → Type 0) (bytes : List ℕ) (first last : Option (Option Selected)) (before now : Option (List ℕ)) (rose : Type 0) →
    Took first last bytes → length bytes ≡ 2 ^ 30 → Wrote (right (complete bytes)) before now → EndsRight right whole Long first last before now rose
right-long right whole bytes first last before now rose took all wrote = record {
  bytes = bytes;
  took = took;
  most = omega (arith, all);
  not_words = λ e. absurd (let no' : ⊥ = cc in no');
  done = λ h. absurd h;
  long = λ _. (all, wrote);
  fault = λ e. absurd (let no' : ⊥ = cc in no');
  written = λ e _. absurd (let no' : ⊥ = cc in no');
  memory = λ e. absurd (let no' : ⊥ = cc in no');
}

-- a run that came to the end of its input
pub right-end : (may : Type 0) (right : List TextBlock → List ℕ → Type 0) (whole : Status → List TextBlock → List ℕ → Type 0) (outcome : Result Status Stop) (bytes : List ℕ) (first last : Option (Option Selected)) (before now : Option (List ℕ)) (rose : Type 0) →
    Took first last bytes → IsAtEnd last → length bytes < 2 ^ 30 →
    IfOk outcome (λ status. IsDone status × Wrote (whole status (blocks bytes)) before now) → (outcome ≡ Err OutOfMemory → Wrote (IsFirst right (blocks bytes)) before now) →
    (outcome ≡ Err Failed → Wrote (BeginsEnd (λ l t. may × right l t) whole (blocks bytes)) before now) → (outcome ≡ Err Failed → rose) →
    EndsRight right whole (status_at outcome) first last before now rose
right-end may right whole (Ok status) bytes first last before now rose took end few wrote memory cut rises = record {
  bytes = bytes;
  took = took;
  most = omega (arith, few);
  not_words = λ e. absurd (subst IsDone e wrote.0);
  done = λ _. (end, few, wrote.1);
  long = λ e. absurd (subst IsDone e wrote.0);
  fault = λ e. absurd (subst IsDone e wrote.0);
  written = λ e _. absurd (subst IsDone e wrote.0);
  memory = λ e. absurd (subst IsDone e wrote.0);
}
right-end may right whole (Err OutOfMemory) bytes first last before now rose took end few wrote memory cut rises =
    right-memory right whole bytes first last before now rose took (omega (arith, few)) (inr (end, memory refl))
right-end may right whole (Err Failed) bytes first last before now rose took end few wrote memory cut rises =
    right-failed right whole bytes first last before now rose took (omega (arith, few)) (inr (end, wrote-as before now (begins-end_right may right whole (blocks bytes)) (cut refl))) (λ quiet. absurd (quiet (rises refl)))

-- a run that stopped within a piece
pub right-stop : (may : Type 0) (right : List TextBlock → List ℕ → Type 0) (whole : Status → List TextBlock → List ℕ → Type 0) (stop : Stop) (status : Status) (bytes : List ℕ) (first last : Option (Option Selected)) (before now : Option (List ℕ)) (rose : Type 0) →
    Took first last bytes → length bytes ≤ 2 ^ 30 → (stop ≡ OutOfMemory → status ≡ Memory) → (stop ≡ Failed → status ≡ Fault) →
    (stop ≡ OutOfMemory → Wrote (IsFirst right (complete bytes)) before now) → (stop ≡ Failed → Wrote (Begins (λ l t. may × right l t) (complete bytes)) before now) → (stop ≡ Failed → rose) →
    EndsRight right whole status first last before now rose
right-stop may right whole OutOfMemory status bytes first last before now rose took most if_memory if_fault memory cut rises =
    subst (λ st. EndsRight right whole st first last before now rose) (sym (if_memory refl)) (right-memory right whole bytes first last before now rose took most (inl (memory refl)))
right-stop may right whole Failed status bytes first last before now rose took most if_memory if_fault memory cut rises =
    subst (λ st. EndsRight right whole st first last before now rose) (sym (if_fault refl))
    (right-failed right whole bytes first last before now rose took most (inl (wrote-as before now (begins-right may right (complete bytes)) (cut refl))) (λ quiet. absurd (quiet (rises refl))))

-- a run that ended with a fault was stopped by one
pub ended-fault : (outcome : Result Status Stop) → IfOk outcome IsDone → status_at outcome ≡ Fault → outcome ≡ Err Failed
ended-fault (Ok status) done is = absurd (subst IsDone is done)
ended-fault (Err OutOfMemory) done is = absurd (let no' : ⊥ = cc in no')
ended-fault (Err Failed) done is = refl

-- a run that was stopped and answers a fault was stopped by one
pub stopped-fault : (stop : Stop) (status : Status) (rose : Type 0) → (stop ≡ OutOfMemory → status ≡ Memory) → status ≡ Fault → (stop ≡ Failed → rose) → rose
stopped-fault OutOfMemory status rose if_memory faulty rises = let same : Memory ≡ Fault = sym (if_memory refl) ∙ faulty in absurd (let no' : ⊥ = cc in no')
stopped-fault Failed status rose if_memory faulty rises = rises refl

-- a run over a text that wanted memory
pub text-memory : (cut right : List TextBlock → List ℕ → Type 0) (whole : Status → List TextBlock → List ℕ → Type 0) (bytes : List ℕ) (before now : Option (List ℕ)) →
    Wrote (IsFirst right (blocks bytes)) before now → EndsText cut right whole bytes Memory before now
text-memory cut right whole bytes before now wrote = record {
  not_words = λ e. absurd (let no' : ⊥ = cc in no');
  not_long = λ e. absurd (let no' : ⊥ = cc in no');
  done = λ h. absurd h;
  fault = λ e. absurd (let no' : ⊥ = cc in no');
  memory = λ _. wrote;
}

-- one that met a fault
pub text-failed : (cut right : List TextBlock → List ℕ → Type 0) (whole : Status → List TextBlock → List ℕ → Type 0) (bytes : List ℕ) (before now : Option (List ℕ)) →
    Wrote (BeginsEnd cut whole (blocks bytes)) before now → EndsText cut right whole bytes Fault before now
text-failed cut right whole bytes before now wrote = record {
  not_words = λ e. absurd (let no' : ⊥ = cc in no');
  not_long = λ e. absurd (let no' : ⊥ = cc in no');
  done = λ h. absurd h;
  fault = λ _. wrote;
  memory = λ e. absurd (let no' : ⊥ = cc in no');
}

-- one that stopped within the text
pub text-stop : (cut right : List TextBlock → List ℕ → Type 0) (whole : Status → List TextBlock → List ℕ → Type 0) (stop : Stop) (bytes : List ℕ) (before now : Option (List ℕ)) →
    (stop ≡ OutOfMemory → Wrote (IsFirst right (complete bytes)) before now) → (stop ≡ Failed → Wrote (Begins cut (complete bytes)) before now) →
    EndsText cut right whole bytes (status_at (Err stop)) before now
text-stop cut right whole OutOfMemory bytes before now memory cuts =
    text-memory cut right whole bytes before now (wrote-as before now (λ text. first-whole (λ l. right l text) bytes) (memory refl))
text-stop cut right whole Failed bytes before now memory cuts =
    text-failed cut right whole bytes before now (wrote-as before now (λ text h. inl (h.0, first-whole (λ l. cut l (text ++ h.0)) bytes h.1)) (cuts refl))

-- one that came to its end
pub text-end : (cut right : List TextBlock → List ℕ → Type 0) (whole : Status → List TextBlock → List ℕ → Type 0) (outcome : Result Status Stop) (bytes : List ℕ) (before now : Option (List ℕ)) →
    IfOk outcome (λ status. IsDone status × Wrote (whole status (blocks bytes)) before now) → (outcome ≡ Err OutOfMemory → Wrote (IsFirst right (blocks bytes)) before now) →
    (outcome ≡ Err Failed → Wrote (BeginsEnd cut whole (blocks bytes)) before now) → EndsText cut right whole bytes (status_at outcome) before now
text-end cut right whole (Ok status) bytes before now wrote memory cuts = record {
  not_words = λ e. absurd (subst IsDone e wrote.0);
  not_long = λ e. absurd (subst IsDone e wrote.0);
  done = λ _. wrote.1;
  fault = λ e. absurd (subst IsDone e wrote.0);
  memory = λ e. absurd (subst IsDone e wrote.0);
}
text-end cut right whole (Err OutOfMemory) bytes before now wrote memory cuts = text-memory cut right whole bytes before now (memory refl)
text-end cut right whole (Err Failed) bytes before now wrote memory cuts = text-failed cut right whole bytes before now (cuts refl)
