-- From what the answer to a text writes to what is said of a run.
use Rattle.std.proofs.Common.{◌≡◌, ◌<◌, ◌^◌, ℕ, List, [], ◌++◌, length, take, drop, Bool, true, false, Option, Some, None, Err, refl, sym, ap, subst, ◌∙◌, inl, inr, append-nil}
use Rattle.std.specs.Prelude.{Result, Ok, IfOk}
use Rattle.std.proofs.lemmas.List.{take-append-drop}
use Rattle.block_runs.specs.Texts.{Wrote}
use Rattle.block_runs.specs.Whole.{IsStopped}
use Rattle.flow_io.specs.Outside.{Selected, Adds, AddsPrefix}
use Rattle.flow_io.specs.declared.status.Status.{Status}
use Rattle.flow_io.specs.declared.status.Status.TheVariants.{Clean, Partial, Refused, Words, Fault, Memory, Long}
use Rattle.flow_io.proofs.Adding.{Adds-nothing}
use Rattle.program_runs.proofs.Writing.{where_written}
use Rattle.flownodes_cli.specs.Answering.{Answered, Begins, Told}
use Rattle.flownodes_cli.specs.RightTexts.{IsOutput, IsOutputFor, IsAnswerTo}
use Rattle.node_weights.specs.NodeText.{NodeLists, read}
use Rattle.node_weights.specs.SplitText.{split_text}
use Rattle.flownodes_cli.specs.Run.{Seen, WhereSeen, WhereWritten, TakesFirst, HasEnded, IsDone, Reads, Writes, taken}
use Rattle.flownodes_cli.specs.Words.{Asked}

-- what is told of an input in three ways is told in one
pub where_all : (P Q R S : Seen → Type 0) (held : Option (List ℕ)) (last : Option (Option Selected)) →
    WhereSeen held last P → WhereSeen held last Q → WhereSeen held last R → ((seen : Seen) → P seen → Q seen → R seen → S seen) → WhereSeen held last S
where_all P Q R S None last p q r all = tt
where_all P Q R S (Some held) None p q r all = tt
where_all P Q R S (Some held) (Some last) p q r all = all (record { held = held; last = last }) p q r

-- the text of a status that is done was written whole
pub answered-done : (right : Status → List ℕ → Type 0) (status : Status) (before now : Option (List ℕ)) → IsDone status → Wrote (right status) before now → Answered right status before now
answered-done right Clean before now done wrote = record { not_words = λ e. let no' : ⊥ = cc in no'; not_long = λ e. let no' : ⊥ = cc in no'; done = λ _. wrote; fault = λ e. absurd (let no' : ⊥ = cc in no'); memory = λ e. absurd (let no' : ⊥ = cc in no') }
answered-done right Partial before now done wrote = record { not_words = λ e. let no' : ⊥ = cc in no'; not_long = λ e. let no' : ⊥ = cc in no'; done = λ _. wrote; fault = λ e. absurd (let no' : ⊥ = cc in no'); memory = λ e. absurd (let no' : ⊥ = cc in no') }
answered-done right Refused before now done wrote = record { not_words = λ e. let no' : ⊥ = cc in no'; not_long = λ e. let no' : ⊥ = cc in no'; done = λ _. wrote; fault = λ e. absurd (let no' : ⊥ = cc in no'); memory = λ e. absurd (let no' : ⊥ = cc in no') }
answered-done right Words before now done wrote = absurd done
answered-done right Fault before now done wrote = absurd done
answered-done right Memory before now done wrote = absurd done
answered-done right Long before now done wrote = absurd done

-- a beginning of a right text was written before a fault
pub answered-fault : (right : Status → List ℕ → Type 0) (before now : Option (List ℕ)) → Wrote (Begins right) before now → Answered right Fault before now
answered-fault right before now wrote = record {
  not_words = λ e. let no' : ⊥ = cc in no';
  not_long = λ e. let no' : ⊥ = cc in no';
  done = λ done. absurd done;
  fault = λ _. wrote;
  memory = λ e. absurd (let no' : ⊥ = cc in no');
}

-- nothing was written where memory was wanting
pub answered-memory : (right : Status → List ℕ → Type 0) (before : Option (List ℕ)) → Answered right Memory before before
answered-memory right before = record {
  not_words = λ e. let no' : ⊥ = cc in no';
  not_long = λ e. let no' : ⊥ = cc in no';
  done = λ done. absurd done;
  fault = λ e. absurd (let no' : ⊥ = cc in no');
  memory = λ _. ([], refl, Adds-nothing before);
}

-- the text was written, or a beginning of it
pub answered-text : (text : List ℕ) (status : Status) (before now : Option (List ℕ)) → IsDone status → Adds before now text → Answered (Told text status) status before now
answered-text text status before now done adds = answered-done (Told text status) status before now done (text, (refl, refl), adds)

pub answered-prefix : (text : List ℕ) (status : Status) (before now : Option (List ℕ)) → AddsPrefix before now text → Answered (Told text status) Fault before now
answered-prefix text status before now adds =
    answered-fault (Told text status) before now (take adds.0 text, (drop adds.0 text, status, (take-append-drop adds.0 text, refl)), adds.2)

-- what is right in one way is right in another
wrote_in : (P Q : List ℕ → Type 0) (before now : Option (List ℕ)) → ((text : List ℕ) → P text → Q text) → Wrote P before now → Wrote Q before now
wrote_in P Q before now turned wrote = (wrote.0, turned wrote.0 wrote.1, wrote.2)

pub answered-in : (P Q : Status → List ℕ → Type 0) (status : Status) (before now : Option (List ℕ)) →
    ((any : Status) (text : List ℕ) → P any text → Q any text) → Answered P status before now → Answered Q status before now
answered-in P Q status before now turned told = record {
  not_words = told.not_words;
  not_long = told.not_long;
  done = λ done. wrote_in (P status) (Q status) before now (turned status) (told.done done);
  fault = λ is. wrote_in (Begins P) (Begins Q) before now (λ text begins. (begins.0, begins.1, turned begins.1 (text ++ begins.0) begins.2)) (told.fault is);
  memory = told.memory;
}

-- what was written, by what the answer wrote
pub writes-answered : (call : Asked) (status : Status) (before now : Option (List ℕ)) (bytes : List ℕ) (seen : Seen) →
    seen.held ≡ bytes → HasEnded call.file seen → Answered (IsOutput call.split bytes) status before now → WhereWritten before now (Writes call status seen)
writes-answered call status before now bytes seen is ended told = by status refl
  where
    right : Status → List ℕ → Type 0
    right = IsOutput call.split seen.held

    here : Answered right status before now
    here = subst (λ b. Answered (IsOutput call.split b) status before now) (sym is) told

    whole : (text : List ℕ) → IsDone status → (status ≡ Fault → ⊥) → (status ≡ Memory → ⊥) → (status ≡ Long → ⊥) → right status text → Writes call status seen text
    whole text done not_fault not_memory not_long holds = record {
      done = λ _. holds;
      memory = λ e. absurd (not_memory e);
      long = λ e. absurd (not_long e);
      fault = λ e. absurd (not_fault e);
    }

    all : IsDone status → (status ≡ Fault → ⊥) → (status ≡ Memory → ⊥) → (status ≡ Long → ⊥) → WhereWritten before now (Writes call status seen)
    all done not_fault not_memory not_long =
        let wrote = here.done done in where_written _ before now wrote.0 wrote.2 (whole wrote.0 done not_fault not_memory not_long wrote.1)

    by : (s : Status) → status ≡ s → WhereWritten before now (Writes call status seen)
    by Clean e = all (subst IsDone (sym e) tt) (λ f. let no' : ⊥ = cc in no') (λ f. let no' : ⊥ = cc in no') (λ f. let no' : ⊥ = cc in no')
    by Partial e = all (subst IsDone (sym e) tt) (λ f. let no' : ⊥ = cc in no') (λ f. let no' : ⊥ = cc in no') (λ f. let no' : ⊥ = cc in no')
    by Refused e = all (subst IsDone (sym e) tt) (λ f. let no' : ⊥ = cc in no') (λ f. let no' : ⊥ = cc in no') (λ f. let no' : ⊥ = cc in no')
    by Words e = absurd (here.not_words e)
    by Fault e =
        let wrote = here.fault e in
        where_written _ before now wrote.0 wrote.2 (record {
          done = λ done. absurd (let d : IsDone Fault = subst IsDone e done in d);
          memory = λ f. absurd (let no' : ⊥ = cc in no');
          long = λ f. absurd (let no' : ⊥ = cc in no');
          fault = λ _. inr (ended, wrote.1);
        })
    by Memory e =
        let wrote = here.memory e in
        where_written _ before now wrote.0 wrote.2 (record {
          done = λ done. absurd (let d : IsDone Memory = subst IsDone e done in d);
          memory = λ _. wrote.1;
          long = λ f. absurd (let no' : ⊥ = cc in no');
          fault = λ f. absurd (let no' : ⊥ = cc in no');
        })
    by Long e = absurd (here.not_long e)

-- what was read, by what the answer wrote
pub reads-answered : (call : Asked) (status : Status) (before now : Option (List ℕ)) (bytes : List ℕ) (seen : Seen) →
    TakesFirst call.file seen → seen.held ≡ bytes → HasEnded call.file seen → Answered (IsOutput call.split bytes) status before now → Reads call status seen
reads-answered call status before now bytes seen first is ended told = record {
  first = first;
  ended = λ _. ended;
  long = λ e. absurd (told.not_long e);
  verdict = λ done. let wrote = told.done done in (wrote.0, subst (λ b. IsOutput call.split b status wrote.0) (sym is) wrote.1);
}

-- a run that stopped before the end of its input
stopped_not_done : (status : Status) → IsStopped status → IsDone status → ⊥
stopped_not_done Clean stop done = stop
stopped_not_done Partial stop done = stop
stopped_not_done Refused stop done = stop
stopped_not_done Words stop done = stop
stopped_not_done Fault stop done = done
stopped_not_done Memory stop done = done
stopped_not_done Long stop done = done

pub stopped_not_words : (status : Status) → IsStopped status → status ≡ Words → ⊥
stopped_not_words status stop is = let no : IsStopped Words = subst IsStopped is stop in no

pub reads-stopped : (call : Asked) (status : Status) (held : Option (List ℕ)) (last : Option (Option Selected)) → IsStopped status →
    WhereSeen held last (TakesFirst call.file) → (status ≡ Long → WhereSeen held last (λ seen. length (taken call.file seen) ≡ 2 ^ 30)) → WhereSeen held last (Reads call status)
reads-stopped call status None last stop first long = tt
reads-stopped call status (Some held) None stop first long = tt
reads-stopped call status (Some held) (Some last) stop first long = record {
  first = first;
  ended = λ done. absurd (stopped_not_done status stop done);
  long = long;
  verdict = λ done. absurd (stopped_not_done status stop done);
}

-- it wrote nothing
pub writes-stopped : (call : Asked) (status : Status) (before : Option (List ℕ)) (seen : Seen) → IsStopped status → WhereWritten before before (Writes call status seen)
writes-stopped call status before seen stop = where_written _ before before [] (Adds-nothing before) (record {
  done = λ done. absurd (stopped_not_done status stop done);
  memory = λ _. refl;
  long = λ _. refl;
  fault = λ _. inl refl;
})

-- an answer to the graph of an input is an output for it
pub output-of : (split : Bool) (bytes : List ℕ) (g : NodeLists) → read bytes ≡ Ok g → (status : Status) (text : List ℕ) → IsAnswerTo split g status text → IsOutput split bytes status text
output-of split bytes g is status text told = subst (λ found. IsOutputFor split found status text) (sym is) told

-- an answer by whether the text of the split graph is asked for
pub answer-split : (split : Bool) (g : NodeLists) → split ≡ true → (status : Status) (text : List ℕ) → Told (split_text g) Clean status text → IsAnswerTo split g status text
answer-split split g asked status text told = subst (λ s. IsAnswerTo s g status text) (sym asked) told

pub answer-solved : (split : Bool) (g : NodeLists) → split ≡ false → (status : Status) (text : List ℕ) → IsAnswerTo false g status text → IsAnswerTo split g status text
answer-solved split g other status text told = subst (λ s. IsAnswerTo s g status text) (sym other) told
