-- From what a run took and wrote to what is said of it where the inputs and the output tell.
use Rattle.std.proofs.Common.{◌≡◌, ◌<◌, ◌^◌, ℕ, List, [], ◌++◌, length, Option, Some, None, refl, sym, ap, subst, ◌∙◌, arith, inl, inr}
use Rattle.std.specs.Prelude.{is_some}
use Rattle.std.proofs.lemmas.List.{append_cancel_left}
use Rattle.flow_io.specs.Outside.{Selected, Starts, Unselected}
use Rattle.flow_io.proofs.Adding.{Adds-nothing}
use Rattle.flow_io.specs.declared.status.Status.{Status}
use Rattle.flow_io.specs.declared.status.Status.TheVariants.{Clean, Partial, Refused, Words, Fault, Memory, Long}
use Rattle.graph_text.specs.Blocks.{TextBlock, blocks, complete}
use Rattle.program_runs.specs.HandedBlocks.{blocks_at}
use Rattle.program_runs.specs.Inputs.{IsAtEnd}
use Rattle.block_runs.specs.Texts.{Wrote, IsFirst, Begins, BeginsEnd, BeginsAt}
use Rattle.block_runs.specs.Underway.{EndsRight}
use Rattle.block_runs.specs.Run.{WhereSeen, WhereWritten, taken, left_of, Reads, Writes}
use Rattle.program_runs.proofs.FirstBlocks.{first-at}
use Rattle.program_runs.proofs.HandedBlocks.{blocks-seen}
use Rattle.program_runs.proofs.Inputs.{seen_at, left-at, taken-at, takes-first_at, where_took, where_none}
use Rattle.program_runs.proofs.Writing.{where_written}

-- what was read
pub reads-right : (right : List TextBlock → List ℕ → Type 0) (whole : Status → List TextBlock → List ℕ → Type 0) (file : List ℕ) (status : Status) (held : Option (List ℕ)) (first last : Option (Option Selected)) (before now : Option (List ℕ)) (rose : Type 0) →
    Starts file held first → EndsRight right whole status first last before now rose → WhereSeen held last (Reads whole file status)
reads-right right whole file status held first last before now rose starts ends =
    where_took (Reads whole file status) file held first last ends.bytes starts ends.took (λ rest at_end.
    let t = taken-at file ends.bytes rest in
    record {
      first = takes-first_at file ends.bytes rest ends.most;
      selected = λ _. ap is_some (left-at file ends.bytes rest);
      ended = λ done. record {
        nothing_left = left-at file ends.bytes rest ∙ ap Some (at_end (ends.done done).0);
        short = subst (λ b. length b < 2 ^ 30) (sym t) (ends.done done).1;
      };
      long = λ is. ap length t ∙ (ends.long is).0;
      verdict = λ done. ((ends.done done).2.0, subst (λ b. whole status (blocks b) (ends.done done).2.0) (sym t) (ends.done done).2.1);
    })

-- a beginning of what may be written, where bytes are left and where none are
begins-at : (right : List TextBlock → List ℕ → Type 0) (whole : Status → List TextBlock → List ℕ → Type 0) (bytes rest text : List ℕ) → Begins right (complete bytes) text → BeginsAt right whole bytes (Some rest) text
begins-at right whole bytes rest text h = inl (h.0, first-at (λ l. right l (text ++ h.0)) bytes rest h.1)

begins-end : (right : List TextBlock → List ℕ → Type 0) (whole : Status → List TextBlock → List ℕ → Type 0) (bytes rest text : List ℕ) → rest ≡ [] → BeginsEnd right whole (blocks bytes) text → BeginsAt right whole bytes (Some rest) text
begins-end right whole bytes rest text none (inl h) = inl (subst (λ r. Begins right (blocks_at bytes (Some r)) text) (sym none) h)
begins-end right whole bytes rest text none (inr h) = inr (ap Some none, h)

begins-seen : (right : List TextBlock → List ℕ → Type 0) (whole : Status → List TextBlock → List ℕ → Type 0) (file : List ℕ) (bytes rest text : List ℕ) → BeginsAt right whole bytes (Some rest) text →
    BeginsAt right whole (taken file (seen_at file bytes rest)) (left_of file (seen_at file bytes rest).last) text
begins-seen right whole file bytes rest text h =
    subst (λ b. BeginsAt right whole b (left_of file (seen_at file bytes rest).last) text) (sym (taken-at file bytes rest))
    (subst (λ o. BeginsAt right whole bytes o text) (sym (left-at file bytes rest)) h)

-- what was written after each status
of_done : (right : List TextBlock → List ℕ → Type 0) (whole : Status → List TextBlock → List ℕ → Type 0) (file : List ℕ) (status : Status) (rose : Type 0) (bytes rest text : List ℕ) → (status ≡ Long → ⊥) → (status ≡ Fault → ⊥) → (status ≡ Memory → ⊥) →
    whole status (blocks bytes) text → Writes right whole file status rose (seen_at file bytes rest) text
of_done right whole file status rose bytes rest text not_long not_fault not_memory output = record {
  done = λ _. subst (λ b. whole status (blocks b) text) (sym (taken-at file bytes rest)) output;
  long = λ e. absurd (not_long e);
  fault = λ e. absurd (not_fault e);
  written = λ e _. absurd (not_fault e);
  memory = λ e. absurd (not_memory e);
}

written-at : (right : List TextBlock → List ℕ → Type 0) (whole : Status → List TextBlock → List ℕ → Type 0) (file : List ℕ) (status : Status) (first last : Option (Option Selected)) (before now : Option (List ℕ)) (rose : Type 0) (ends : EndsRight right whole status first last before now rose)
    (rest : List ℕ) → (IsAtEnd last → rest ≡ []) → WhereWritten before now (Writes right whole file status rose (seen_at file ends.bytes rest))
written-at right whole file Clean first last before now rose ends rest at_end =
    let wrote = (ends.done tt).2 in
    where_written _ before now wrote.0 wrote.2 (of_done right whole file Clean rose ends.bytes rest wrote.0 (λ e. cc) (λ e. cc) (λ e. cc) wrote.1)
written-at right whole file Partial first last before now rose ends rest at_end =
    let wrote = (ends.done tt).2 in
    where_written _ before now wrote.0 wrote.2 (of_done right whole file Partial rose ends.bytes rest wrote.0 (λ e. cc) (λ e. cc) (λ e. cc) wrote.1)
written-at right whole file Refused first last before now rose ends rest at_end =
    let wrote = (ends.done tt).2 in
    where_written _ before now wrote.0 wrote.2 (of_done right whole file Refused rose ends.bytes rest wrote.0 (λ e. cc) (λ e. cc) (λ e. cc) wrote.1)
written-at right whole file Words first last before now rose ends rest at_end = absurd (ends.not_words refl)
written-at right whole file Long first last before now rose ends rest at_end =
    let wrote = (ends.long refl).1 in
    where_written _ before now wrote.0 wrote.2 (record {
      done = λ h. absurd h;
      long = λ _. subst (λ b. right (complete b) wrote.0) (sym (taken-at file ends.bytes rest)) wrote.1;
      fault = λ e. absurd (let no' : ⊥ = cc in no');
      written = λ e _. absurd (let no' : ⊥ = cc in no');
      memory = λ e. absurd (let no' : ⊥ = cc in no');
    })
written-at right whole file Memory first last before now rose ends rest at_end =
    let wrote : Wrote (IsFirst right (blocks_at ends.bytes (Some rest))) before now = elim (ends.memory refl) [
      | inl some ↦ (some.0, first-at (λ l. right l some.0) ends.bytes rest some.1, some.2)
      | inr all ↦ subst (λ r. Wrote (IsFirst right (blocks_at ends.bytes (Some r))) before now) (sym (at_end all.0)) all.1
    ] in
    where_written _ before now wrote.0 wrote.2 (record {
      done = λ h. absurd h;
      long = λ e. absurd (let no' : ⊥ = cc in no');
      fault = λ e. absurd (let no' : ⊥ = cc in no');
      written = λ e _. absurd (let no' : ⊥ = cc in no');
      memory = λ _. subst (λ l. IsFirst right l wrote.0) (sym (blocks-seen file ends.bytes rest)) wrote.1;
    })
written-at right whole file Fault first last None now rose ends rest at_end = tt
written-at right whole file Fault first last (Some start) now rose ends rest at_end =
    let wrote : Wrote (BeginsAt right whole ends.bytes (Some rest)) (Some start) now = elim (ends.fault refl) [
      | inl some ↦ (some.0, begins-at right whole ends.bytes rest some.0 some.1, some.2)
      | inr all ↦ (all.1.0, begins-end right whole ends.bytes rest all.1.0 (at_end all.0) all.1.1, all.1.2)
    ] in (
      wrote.0,
      wrote.2,
      record {
        done = λ h. absurd h;
        long = λ e. absurd (let no' : ⊥ = cc in no');
        fault = λ _. begins-seen right whole file ends.bytes rest wrote.0 wrote.1;
        written = λ _ quiet.
            let all = ends.written refl quiet in
            let adds : Some (start ++ wrote.0) ≡ Some (start ++ all.0) = sym wrote.2 ∙ all.2 in
            let same : start ++ wrote.0 ≡ start ++ all.0 = cc adds in
            subst (λ b. right (complete b) wrote.0) (sym (taken-at file ends.bytes rest))
            (subst (λ t. right (complete ends.bytes) t) (sym (append_cancel_left start wrote.0 all.0 same)) all.1);
        memory = λ e. absurd (let no' : ⊥ = cc in no');
      },
    )

pub writes-right : (right : List TextBlock → List ℕ → Type 0) (whole : Status → List TextBlock → List ℕ → Type 0) (file : List ℕ) (status : Status) (held : Option (List ℕ)) (first last : Option (Option Selected)) (before now : Option (List ℕ)) (rose : Type 0) →
    Starts file held first → EndsRight right whole status first last before now rose → WhereSeen held last (λ seen. WhereWritten before now (Writes right whole file status rose seen))
writes-right right whole file status held first last before now rose starts ends =
    where_took (λ seen. WhereWritten before now (Writes right whole file status rose seen)) file held first last ends.bytes starts ends.took
    (λ rest at_end. written-at right whole file status first last before now rose ends rest at_end)

-- a run that could not select its input
pub unselected-reads : (whole : Status → List TextBlock → List ℕ → Type 0) (file : List ℕ) (held : Option (List ℕ)) (last : Option (Option Selected)) → Unselected last → WhereSeen held last (Reads whole file Fault)
unselected-reads whole file held last none = where_none (Reads whole file Fault) held last none (λ all. record {
  first = record { most = omega arith; rest = tt };
  selected = λ e. absurd (let no' : ⊥ = cc in no');
  ended = λ h. absurd h;
  long = λ e. absurd (let no' : ⊥ = cc in no');
  verdict = λ h. absurd h;
})

pub unselected-writes : (right : List TextBlock → List ℕ → Type 0) (whole : Status → List TextBlock → List ℕ → Type 0) (file : List ℕ) (held : Option (List ℕ)) (last : Option (Option Selected)) (told : Option (List ℕ)) (rose : Type 0) → right [] [] → Unselected last →
    WhereSeen held last (λ seen. WhereWritten told told (Writes right whole file Fault rose seen))
unselected-writes right whole file held last told rose begun none =
    where_none (λ seen. WhereWritten told told (Writes right whole file Fault rose seen)) held last none
    (λ all. where_written _ told told [] (Adds-nothing told) (record {
      done = λ h. absurd h;
      long = λ e. absurd (let no' : ⊥ = cc in no');
      fault = λ _. inl ([], (0, begun));
      written = λ _ _. begun;
      memory = λ e. absurd (let no' : ⊥ = cc in no');
    }))
