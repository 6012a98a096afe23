-- From what a run took and wrote to what is said of it where the inputs and the output tell.
use Rattle.std.proofs.Common.{◌≡◌, ◌≢◌, ◌≤◌, ◌<◌, ◌^◌, ℕ, List, [], ◌∷◌, ◌++◌, length, true, false, Option, Some, None, refl, sym, ap, subst, ◌∙◌, arith, inl, inr, append-nil}
use Rattle.std.specs.Prelude.{IfSome, IsSome, IsNone, is_some, if◌then◌else◌}
use Rattle.std.specs.Str.{bytes_eq}
use Rattle.std.proofs.lemmas.Bool.{cond-true, cond-false, false_from_ne_true}
use Rattle.std.proofs.lemmas.List.{append_cancel_left}
use Rattle.std.proofs.lemmas.Option.{none-some}
use Rattle.std.proofs.lemmas.Slice.Eq.{bytes_eq-Decides}
use Rattle.flow_io.specs.Outside.{Selected, Adds}
use Rattle.flow_io.proofs.Adding.{Adds-nothing}
use Rattle.flow_io.specs.declared.status.Status.{Status}
use Rattle.flow_io.specs.declared.status.Status.TheVariants.{Clean, Partial, Refused, Words, Fault, Memory, Long}
use Rattle.graph_text.specs.Blocks.{blocks, complete}
use Rattle.program_runs.proofs.FirstBlocks.{first-at}
use Rattle.program_runs.proofs.HandedBlocks.{blocks-seen}
use Rattle.program_runs.proofs.Inputs.{left-at, taken-at, takes-first_at, where_took, where_none}
use Rattle.program_runs.proofs.Writing.{where_written}
use Rattle.program_runs.specs.Inputs.{Seen, WhereSeen, left_of, taken, bytes_without, TakesFirst, IsAtEnd}
use Rattle.block_runs.specs.Texts.{Wrote, IsFirst, BeginsEnd}
use Rattle.block_runs.specs.Underway.{EndsRight}
use Rattle.block_runs.specs.Whole.{IsNoOther, IsStopped}
use Rattle.flowcheck_cli.specs.Checking.{BeginsRight}
use Rattle.flowcheck_cli.specs.Run.{BothSeen, WhereBothSeen, WhereWritten, AreLines, AreAllLines, AreFirstLines, BeginsAt, BeginsLines, IsPrintedWith, IsDone, Reads, Writes, blocks_at, graphs_left}
use Rattle.flowcheck_cli.specs.Words.{InputNames, names_of}

-- names that differ
names_differ : (a b : List ℕ) → a ≢ b → bytes_eq a b ≡ false
names_differ a b differ = false_from_ne_true (bytes_eq a b) (λ same. differ ((bytes_eq-Decides a b).0 same))

pub not_named : (file : List ℕ) (s : Selected) → s.name ≢ file → left_of file (Some s) ≡ None
not_named file s other = cond-false (bytes_eq s.name file) (Some s.left) None (names_differ s.name file other)

-- no byte of an input that is not selected was taken
absent : (file : List ℕ) (seen : Seen) → left_of file seen.last ≡ None → TakesFirst file seen
absent file seen none = record {
  most = subst (λ o. length (bytes_without seen.held o) ≤ 2 ^ 30) (sym none) (omega arith);
  rest = subst (λ o. IfSome o (λ left. seen.held ≡ bytes_without seen.held o ++ left)) (sym none) tt;
}

-- what is none is not some
never_some : {P : Type 0} (o : Option (List ℕ)) → o ≡ None → IsSome o → P
never_some o none some = let no : false ≡ true = ap is_some (sym none) ∙ some in absurd (let no' : ⊥ = cc in no')

-- what is told of both inputs, where the text of reports was read whole
where_both : (P : BothSeen → Type 0) (held_graph held_report : Option (List ℕ)) (middle last : Option (Option Selected)) (reports : List ℕ) →
    WhereSeen held_report middle (λ seen. seen.held ≡ reports) → is_some last ≡ is_some middle →
    WhereSeen held_graph last (λ seen. P (record { graphs = seen.held; reports = reports; last = seen.last })) → WhereBothSeen held_graph held_report last P
where_both P None held_report middle last reports whole told holds = tt
where_both P (Some graphs) None middle last reports whole told holds = tt
where_both P (Some graphs) (Some held) middle None reports whole told holds = tt
where_both P (Some graphs) (Some held) None (Some last) reports whole told holds = absurd (let no' : ⊥ = cc in no')
where_both P (Some graphs) (Some held) (Some middle) (Some last) reports whole told holds =
    subst (λ r. P (record { graphs = graphs; reports = r; last = last })) (sym whole) holds

-- the same where the graph text was not selected
where_neither : (P : BothSeen → Type 0) (Q : Seen → Type 0) (held_graph held_report : Option (List ℕ)) (last : Option (Option Selected)) →
    WhereSeen held_report last Q →
    ((graphs : List ℕ) (seen : Seen) → Q seen → P (record { graphs = graphs; reports = seen.held; last = seen.last })) →
    WhereBothSeen held_graph held_report last P
where_neither P Q None held_report last seen holds = tt
where_neither P Q (Some graphs) None last seen holds = tt
where_neither P Q (Some graphs) (Some held) None seen holds = tt
where_neither P Q (Some graphs) (Some held) (Some last) seen holds = holds graphs (record { held = held; last = last }) seen

-- what the inputs tell after the graph text was selected, with this rest of it
abbrev at_graph : InputNames → List ℕ → List ℕ → List ℕ → BothSeen
at_graph names reports bytes rest = record { graphs = bytes ++ rest; reports = reports; last = Some (record { name = names.graph; left = rest }) }

report_left : (names : InputNames) (reports bytes rest : List ℕ) → names.graph ≢ names.report → left_of names.report (at_graph names reports bytes rest).last ≡ None
report_left names reports bytes rest differ = not_named names.report (record { name = names.graph; left = rest }) differ

whole_end : (bytes rest : List ℕ) → rest ≡ [] → bytes ++ rest ≡ bytes
whole_end bytes rest end = ap (λ r. bytes ++ r) end ∙ append-nil bytes

reads-at : (names : InputNames) (reports : List ℕ) (status : Status) (first last : Option (Option Selected)) (before now : Option (List ℕ)) (rose : Type 0)
    (right : EndsRight (AreLines reports) (AreAllLines reports) status first last before now rose) (rest : List ℕ) → names.graph ≢ names.report → length reports < 2 ^ 30 → (IsAtEnd last → rest ≡ []) →
    Reads names status (at_graph names reports right.bytes rest)
reads-at names reports status first last before now rose right rest differ short at_end = record {
  graph = takes-first_at names.graph right.bytes rest right.most;
  report = absent names.report (record { held = reports; last = (at_graph names reports right.bytes rest).last }) (report_left names reports right.bytes rest differ);
  reports_first = λ _. short;
  ended = λ done.
      let end = at_end (right.done done).0 in
      (left-at names.graph right.bytes rest ∙ ap Some end, subst (λ b. length b < 2 ^ 30) (sym (whole_end right.bytes rest end)) (right.done done).1);
  long = λ is. inr (ap length (taken-at names.graph right.bytes rest) ∙ (right.long is).0);
  verdict = λ done.
      let printed = (right.done done).2 in
      let end = at_end (right.done done).0 in
      (printed.0, subst (λ b. IsPrintedWith b reports status printed.0) (sym (whole_end right.bytes rest end)) printed.1);
}

-- a run that could not select the graph text
reads-none : (names : InputNames) (graphs reports : List ℕ) → Reads names Fault (record { graphs = graphs; reports = reports; last = None })
reads-none names graphs reports = record {
  graph = absent names.graph (record { held = graphs; last = None }) refl;
  report = absent names.report (record { held = reports; last = None }) refl;
  reports_first = λ h. never_some None refl h;
  ended = λ h. absurd h;
  long = λ e. absurd (let no' : ⊥ = cc in no');
  verdict = λ h. absurd h;
}

-- what was read
pub reads-right : (names : InputNames) (reports : List ℕ) (status : Status) (held_graph held_report : Option (List ℕ)) (middle last : Option (Option Selected)) (before now : Option (List ℕ)) (rose : Type 0) →
    names.graph ≢ names.report → length reports < 2 ^ 30 → WhereSeen held_report middle (λ seen. seen.held ≡ reports) → is_some last ≡ is_some middle →
    BeginsRight names.graph reports status held_graph last before now rose → WhereBothSeen held_graph held_report last (Reads names status)
reads-right names reports status held_graph held_report middle last before now rose differ short whole told (inl (is, none, same)) =
    where_both (Reads names status) held_graph held_report middle last reports whole told
    (where_none (λ seen. Reads names status (record { graphs = seen.held; reports = reports; last = seen.last })) held_graph last none
    (λ graphs. subst (λ st. Reads names st (record { graphs = graphs; reports = reports; last = None })) (sym is) (reads-none names graphs reports)))
reads-right names reports status held_graph held_report middle last before now rose differ short whole told (inr (first, starts, right)) =
    where_both (Reads names status) held_graph held_report middle last reports whole told
    (where_took (λ seen. Reads names status (record { graphs = seen.held; reports = reports; last = seen.last })) names.graph held_graph first last right.bytes starts right.took
    (λ rest at_end. reads-at names reports status first last before now rose right rest differ short at_end))

-- the graph text is selected, so it is not that nothing of it is told
never_none : (names : InputNames) (reports bytes rest : List ℕ) {P : Type 0} → graphs_left names (at_graph names reports bytes rest) ≡ None → P
never_none names reports bytes rest none = absurd (none-some _ (sym none ∙ left-at names.graph bytes rest))

-- what was written
abbrev Written : InputNames → Status → Type 0 → BothSeen → Option (List ℕ) → Option (List ℕ) → Type 0
Written names status rose seen before now = WhereWritten before now (Writes names status rose seen)

of_done : (names : InputNames) (reports : List ℕ) (status : Status) (rose : Type 0) (bytes rest text : List ℕ) → (status ≡ Long → ⊥) → (status ≡ Fault → ⊥) → (status ≡ Memory → ⊥) →
    rest ≡ [] → IsPrintedWith bytes reports status text → Writes names status rose (at_graph names reports bytes rest) text
of_done names reports status rose bytes rest text not_long not_fault not_memory end printed = record {
  done = λ _. subst (λ b. IsPrintedWith b reports status text) (sym (whole_end bytes rest end)) printed;
  nothing = λ none. never_none names reports bytes rest none;
  long = λ e. absurd (not_long e);
  fault = λ e _. absurd (not_fault e);
  written = λ e _ _. absurd (not_fault e);
  memory = λ e _. absurd (not_memory e);
}

-- a beginning of what is printed at the end
printed_at : (reports bytes rest text : List ℕ) → rest ≡ [] → BeginsEnd (AreLines reports) (AreAllLines reports) (blocks bytes) text → BeginsAt reports bytes (Some rest) text
printed_at reports bytes rest text end (inl lines) = inl (subst (λ r. BeginsLines reports (blocks_at bytes (Some r)) text) (sym end) lines)
printed_at reports bytes rest text end (inr (more, status, (outcomes, printed, is))) = inr (ap Some end, (more, outcomes, printed))

-- a run that could not select the graph text wrote nothing
writes-none : (names : InputNames) (rose : Type 0) (graphs reports : List ℕ) → Writes names Fault rose (record { graphs = graphs; reports = reports; last = None }) []
writes-none names rose graphs reports = record {
  done = λ h. absurd h;
  nothing = λ _. refl;
  long = λ e. absurd (let no' : ⊥ = cc in no');
  fault = λ _ h. never_some None refl h;
  written = λ _ h _. never_some None refl h;
  memory = λ _ h. never_some None refl h;
}

-- what was written after each status
writes-at : (names : InputNames) (reports : List ℕ) (status : Status) (first last : Option (Option Selected)) (before now : Option (List ℕ)) (rose : Type 0)
    (right : EndsRight (AreLines reports) (AreAllLines reports) status first last before now rose) (rest : List ℕ) → (IsAtEnd last → rest ≡ []) →
    Written names status rose (at_graph names reports right.bytes rest) before now
writes-at names reports Clean first last before now rose right rest at_end =
    let done = right.done tt in
    where_written _ before now done.2.0 done.2.2 (of_done names reports Clean rose right.bytes rest done.2.0 (λ e. cc) (λ e. cc) (λ e. cc) (at_end done.0) done.2.1)
writes-at names reports Partial first last before now rose right rest at_end =
    let done = right.done tt in
    where_written _ before now done.2.0 done.2.2 (of_done names reports Partial rose right.bytes rest done.2.0 (λ e. cc) (λ e. cc) (λ e. cc) (at_end done.0) done.2.1)
writes-at names reports Refused first last before now rose right rest at_end =
    let done = right.done tt in
    where_written _ before now done.2.0 done.2.2 (of_done names reports Refused rose right.bytes rest done.2.0 (λ e. cc) (λ e. cc) (λ e. cc) (at_end done.0) done.2.1)
writes-at names reports Words first last before now rose right rest at_end = absurd (right.not_words refl)
writes-at names reports Long first last before now rose right rest at_end =
    let wrote = (right.long refl).1 in
    let t = taken-at names.graph right.bytes rest in
    where_written _ before now wrote.0 wrote.2 (record {
      done = λ h. absurd h;
      nothing = λ none. never_none names reports right.bytes rest none;
      long = λ _. inr (ap length t ∙ (right.long refl).0, subst (λ b. AreLines reports (complete b) wrote.0) (sym t) wrote.1);
      fault = λ e _. absurd (let no' : ⊥ = cc in no');
      written = λ e _ _. absurd (let no' : ⊥ = cc in no');
      memory = λ e _. absurd (let no' : ⊥ = cc in no');
    })
writes-at names reports Memory first last before now rose right rest at_end =
    let wrote : Wrote (IsFirst (AreLines reports) (blocks_at right.bytes (Some rest))) before now = elim (right.memory refl) [
      | inl some ↦ (some.0, first-at (λ l. AreLines reports l some.0) right.bytes rest some.1, some.2)
      | inr all ↦ subst (λ r. Wrote (IsFirst (AreLines reports) (blocks_at right.bytes (Some r))) before now) (sym (at_end all.0)) all.1
    ] in
    where_written _ before now wrote.0 wrote.2 (record {
      done = λ h. absurd h;
      nothing = λ none. never_none names reports right.bytes rest none;
      long = λ e. absurd (let no' : ⊥ = cc in no');
      fault = λ e _. absurd (let no' : ⊥ = cc in no');
      written = λ e _ _. absurd (let no' : ⊥ = cc in no');
      memory = λ _ _. subst (λ l. AreFirstLines reports l wrote.0) (sym (blocks-seen names.graph right.bytes rest)) wrote.1;
    })
writes-at names reports Fault first last None now rose right rest at_end = tt
writes-at names reports Fault first last (Some start) now rose right rest at_end =
    let wrote : (text : List ℕ) × BeginsAt reports right.bytes (Some rest) text × Adds (Some start) now text = elim (right.fault refl) [
      | inl some ↦ (some.0, inl (some.1.0, first-at (λ l. AreLines reports l (some.0 ++ some.1.0)) right.bytes rest some.1.1), some.2)
      | inr all ↦ (all.1.0, printed_at reports right.bytes rest all.1.0 (at_end all.0) all.1.1, all.1.2)
    ] in (
      wrote.0,
      wrote.2,
      record {
        done = λ h. absurd h;
        nothing = λ none. never_none names reports right.bytes rest none;
        long = λ e. absurd (let no' : ⊥ = cc in no');
        fault = λ _ _. subst (λ b. BeginsAt reports b (graphs_left names (at_graph names reports right.bytes rest)) wrote.0) (sym (taken-at names.graph right.bytes rest))
            (subst (λ o. BeginsAt reports right.bytes o wrote.0) (sym (left-at names.graph right.bytes rest)) wrote.1);
        written = λ _ _ quiet.
            let all = right.written refl quiet in
            let adds : Some (start ++ wrote.0) ≡ Some (start ++ all.0) = sym wrote.2 ∙ all.2 in
            let same : start ++ wrote.0 ≡ start ++ all.0 = cc adds in
            subst (λ b. AreLines reports (complete b) wrote.0) (sym (taken-at names.graph right.bytes rest))
            (subst (λ t. AreLines reports (complete right.bytes) t) (sym (append_cancel_left start wrote.0 all.0 same)) all.1);
        memory = λ e _. absurd (let no' : ⊥ = cc in no');
      },
    )

pub writes-right : (names : InputNames) (reports : List ℕ) (status : Status) (held_graph held_report : Option (List ℕ)) (middle last : Option (Option Selected)) (before now : Option (List ℕ)) (rose : Type 0) →
    WhereSeen held_report middle (λ seen. seen.held ≡ reports) → is_some last ≡ is_some middle →
    BeginsRight names.graph reports status held_graph last before now rose → WhereBothSeen held_graph held_report last (λ seen. Written names status rose seen before now)
writes-right names reports status held_graph held_report middle last before now rose whole told (inl (is, none, same)) =
    where_both (λ seen. Written names status rose seen before now) held_graph held_report middle last reports whole told
    (where_none (λ seen. Written names status rose (record { graphs = seen.held; reports = reports; last = seen.last }) before now) held_graph last none
    (λ graphs. subst (λ st. Written names st rose (record { graphs = graphs; reports = reports; last = None }) before now) (sym is)
    (subst (λ n. Written names Fault rose (record { graphs = graphs; reports = reports; last = None }) before n) (sym same)
    (where_written _ before before [] (Adds-nothing before) (writes-none names rose graphs reports)))))
writes-right names reports status held_graph held_report middle last before now rose whole told (inr (first, starts, right)) =
    where_both (λ seen. Written names status rose seen before now) held_graph held_report middle last reports whole told
    (where_took (λ seen. Written names status rose (record { graphs = seen.held; reports = reports; last = seen.last }) before now) names.graph held_graph first last right.bytes starts right.took
    (λ rest at_end. writes-at names reports status first last before now rose right rest at_end))

-- the run stopped while it read the reports
not_graph : (names : InputNames) (last : Option Selected) → names.graph ≢ names.report → IsNoOther names.report last → left_of names.graph last ≡ None
not_graph names None differ only = refl
not_graph names (Some s) differ only = not_named names.graph s (λ same. differ (sym same ∙ only))

not_done : (status : Status) → IsStopped status → IsDone status → ⊥
not_done Clean stopped done = stopped
not_done Partial stopped done = stopped
not_done Refused stopped done = stopped
not_done Words stopped done = done
not_done Fault stopped done = done
not_done Memory stopped done = done
not_done Long stopped done = done

-- what is told of a run that stopped so
pub record Stopped (names : InputNames) (status : Status) (seen : Seen) : Type 0 where
  pub stopped : IsStopped status
  pub report : TakesFirst names.report seen
  pub absent : left_of names.graph seen.last ≡ None
  pub long : status ≡ Long → length (taken names.report seen) ≡ 2 ^ 30

stopped-at : (names : InputNames) (status : Status) (held : Option (List ℕ)) (last : Option (Option Selected)) → IsStopped status → names.graph ≢ names.report → WhereSeen held last (TakesFirst names.report) →
    IfSome last (IsNoOther names.report) → (status ≡ Long → WhereSeen held last (λ seen. length (taken names.report seen) ≡ 2 ^ 30)) → WhereSeen held last (Stopped names status)
stopped-at names status None last stopped differ first only long = tt
stopped-at names status (Some held) None stopped differ first only long = tt
stopped-at names status (Some held) (Some last) stopped differ first only long = record { stopped = stopped; report = first; absent = not_graph names last differ only; long = long }

reads-stopped-at : (names : InputNames) (status : Status) (graphs : List ℕ) (seen : Seen) → Stopped names status seen → Reads names status (record { graphs = graphs; reports = seen.held; last = seen.last })
reads-stopped-at names status graphs seen h = record {
  graph = absent names.graph (record { held = graphs; last = seen.last }) h.absent;
  report = h.report;
  reports_first = λ some. never_some _ h.absent some;
  ended = λ done. absurd (not_done status h.stopped done);
  long = λ is. inl (h.long is);
  verdict = λ done. absurd (not_done status h.stopped done);
}

pub reads-stopped : (names : InputNames) (status : Status) (held_graph held_report : Option (List ℕ)) (last : Option (Option Selected)) → IsStopped status → names.graph ≢ names.report →
    WhereSeen held_report last (TakesFirst names.report) → IfSome last (IsNoOther names.report) →
    (status ≡ Long → WhereSeen held_report last (λ seen. length (taken names.report seen) ≡ 2 ^ 30)) → WhereBothSeen held_graph held_report last (Reads names status)
reads-stopped names status held_graph held_report last stopped differ first only long =
    where_neither (Reads names status) (Stopped names status) held_graph held_report last (stopped-at names status held_report last stopped differ first only long)
    (λ graphs seen s. reads-stopped-at names status graphs seen s)

writes-stopped-at : (names : InputNames) (status : Status) (rose : Type 0) (graphs : List ℕ) (seen : Seen) → Stopped names status seen →
    Writes names status rose (record { graphs = graphs; reports = seen.held; last = seen.last }) []
writes-stopped-at names status rose graphs seen h = record {
  done = λ done. absurd (not_done status h.stopped done);
  nothing = λ _. refl;
  long = λ is. inl (h.long is, refl);
  fault = λ _ some. never_some _ h.absent some;
  written = λ _ some _. never_some _ h.absent some;
  memory = λ _ some. never_some _ h.absent some;
}

pub writes-stopped : (names : InputNames) (status : Status) (rose : Type 0) (held_graph held_report : Option (List ℕ)) (last : Option (Option Selected)) (told : Option (List ℕ)) →
    IsStopped status → names.graph ≢ names.report → WhereSeen held_report last (TakesFirst names.report) → IfSome last (IsNoOther names.report) →
    (status ≡ Long → WhereSeen held_report last (λ seen. length (taken names.report seen) ≡ 2 ^ 30)) →
    WhereBothSeen held_graph held_report last (λ seen. WhereWritten told told (Writes names status rose seen))
writes-stopped names status rose held_graph held_report last told stopped differ first only long =
    where_neither (λ seen. WhereWritten told told (Writes names status rose seen)) (Stopped names status) held_graph held_report last
    (stopped-at names status held_report last stopped differ first only long)
    (λ graphs seen s. where_written _ told told [] (Adds-nothing told) (writes-stopped-at names status rose graphs seen s))

-- two words that name two inputs differ
pair_differ : (graph report : List ℕ) (names : InputNames) →
    (if bytes_eq graph report then None else Some (record { graph = graph; report = report })) ≡ Some names → names.graph ≢ names.report
pair_differ graph report names is same =
    let pair : InputNames = record { graph = graph; report = report } in
    let unequal : bytes_eq graph report ≡ false =
    false_from_ne_true (bytes_eq graph report) (λ equal. none-some names (sym (cond-true (bytes_eq graph report) None (Some pair) equal) ∙ is)) in
    let named : Some pair ≡ Some names = sym (cond-false (bytes_eq graph report) None (Some pair) unequal) ∙ is in
    let are : pair ≡ names = cc named in
    let equal : graph ≡ report = ap (λ (n : InputNames). n.graph) are ∙ same ∙ sym (ap (λ (n : InputNames). n.report) are) in
    let both : true ≡ false = sym ((bytes_eq-Decides graph report).1 equal) ∙ unequal in
    absurd (let no' : ⊥ = cc in no')

pub named_differ : (words : List (List ℕ)) (names : InputNames) → names_of words ≡ Some names → names.graph ≢ names.report
named_differ [] names is same = none-some names is
named_differ (graph ∷ []) names is same = none-some names is
named_differ (graph ∷ report ∷ []) names is same = pair_differ graph report names is same
named_differ (graph ∷ report ∷ word ∷ words) names is same = none-some names is

-- words that name two inputs are not answered as wrong
pub begins_not_words : (graph reports : List ℕ) (status : Status) (held : Option (List ℕ)) (last : Option (Option Selected)) (before now : Option (List ℕ)) (rose : Type 0) →
    BeginsRight graph reports status held last before now rose → status ≡ Words → ⊥
begins_not_words graph reports status held last before now rose (inl (is, none, same)) words =
    let no : Fault ≡ Words = sym is ∙ words in absurd (let no' : ⊥ = cc in no')
begins_not_words graph reports status held last before now rose (inr (first, starts, right)) words = right.not_words words

pub stop_not_words : (status : Status) → IsStopped status → status ≡ Words → ⊥
stop_not_words status stopped is = subst IsStopped is stopped

-- words that name two inputs name some
pub some_not_none : (named : Option InputNames) (names : InputNames) → named ≡ Some names → IsNone named → ⊥
some_not_none named names is none = let no : true ≡ false = ap is_some (sym is) ∙ none in absurd (let no' : ⊥ = cc in no')
