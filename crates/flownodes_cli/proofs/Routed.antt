-- What the worker keeps of the block of a split graph, and what it writes at the end.
use Rattle.std.proofs.Common.{◌≡◌, ◌≢◌, ◌≤◌, ℕ, List, [], ◌∷◌, ◌++◌, length, take, drop, true, false, Option, Some, None, IsTrue, refl, sym, ap, subst, ◌∙◌, arith, append_assoc, append-nil, length-append}
use Rattle.std.specs.Prelude.{IfSome, Result, Ok, Err, OnErr}
use Rattle.std.proofs.lemmas.List.{take-append-drop}
use Rattle.block_runs.specs.Answering.{Finishes, IsCutAtEnd}
use Rattle.flow_io.proofs.Adding.{Adds-nothing, Adds-then}
use Rattle.flow_io.specs.Outside.{Adds, AddsPrefix}
use Rattle.flow_io.specs.declared.status.Status.{Status}
use Rattle.flow_io.specs.declared.status.Status.TheVariants.{Clean}
use Rattle.program_runs.specs.Inputs.{IsDone}
use Rattle.report_terms.specs.declared.report.Report.{Report}
use Rattle.flowpaths_cli.specs.Right.{AreBuilt, IsReportOf, status_of, is_refused, is_open}
use Rattle.program_runs.proofs.Statuses.{done-by}
use Rattle.std.specs.List.{list_any}
use Rattle.graph_text.specs.Blocks.{TextBlock}
use Rattle.report_reading.specs.ReportText.{is_regular, text_of}
use Rattle.flownodes_cli.specs.Answering.{AddsBeginning}
use Rattle.flownodes_cli.specs.RightTexts.{split_settings, paths_in}
use Rattle.flownodes_cli.specs.RouteText.{routes_text}
use Rattle.flownodes_cli.specs.Routing.{HasTold, IsTold, IsToldWith}
use Rattle.flownodes_cli.specs.declared.routing.Routing.{Routing}
use Rattle.flownodes_cli.specs.declared.routing.Told.{Told}

-- the settings are built
pub built-split : AreBuilt split_settings
built-split = record { least = omega arith; most = omega arith; mode = refl; safe = λ e. absurd (let no' : ⊥ = cc in no'); demo = tt }

-- a beginning of a text, and of a text with another behind it
pub beginning-first : (before now : Option (List ℕ)) (p q : List ℕ) → AddsPrefix before now p → AddsBeginning before now (p ++ q)
beginning-first before now p q adds =
    (take adds.0 p, drop adds.0 p ++ q, sym (append_assoc (take adds.0 p) (drop adds.0 p) q) ∙ ap (λ x. x ++ q) (take-append-drop adds.0 p), adds.2)

pub beginning-second : (before between now : Option (List ℕ)) (p q : List ℕ) → Adds before between p → AddsPrefix between now q → AddsBeginning before now (p ++ q)
beginning-second before between now p q first adds =
    (p ++ take adds.0 q, drop adds.0 q, append_assoc p (take adds.0 q) (drop adds.0 q) ∙ ap (λ x. p ++ x) (take-append-drop adds.0 q), Adds-then before between now p (take adds.0 q) first adds.2)

-- of a list with one entry the last is the one
only-last : (shown : List TextBlock) (asked block : TextBlock) → shown ++ asked ∷ [] ≡ block ∷ [] → asked ≡ block
only-last [] asked block is = let same : asked ≡ block = cc in same
only-last (b ∷ shown) asked block is = absurd (omega (arith, ap length is, length-append shown (asked ∷ [])))

-- nothing was read
pub told-nothing : (first : Routing) → first.settings.now ≡ split_settings → first.told ≡ None → HasTold first first [] []
told-nothing first settings none = record {
  settings_first = settings;
  settings_now = settings;
  graph_is = refl;
  writable = subst (λ (o : Option Told). IfSome o (λ kept. IsTrue (is_regular kept.labels kept.report))) (sym none) tt;
  told = λ block is. absurd (let no' : ⊥ = cc in no');
  nothing = refl;
}

-- a block more was read
pub told-more : (first now : Routing) (shown : List TextBlock) (text : List ℕ) (asked : TextBlock) (kept : Told) → HasTold first now shown text →
    IsReportOf split_settings asked kept.report (text_of kept.labels kept.report) → IsTrue (is_regular kept.labels kept.report) →
    HasTold first (record now { told = Some kept }) (shown ++ asked ∷ []) (text ++ [])
told-more first now shown text asked kept before right regular = record {
  settings_first = before.settings_first;
  settings_now = before.settings_now;
  graph_is = before.graph_is;
  writable = regular;
  told = λ block is. record {
    kept = kept;
    is_kept = refl;
    right = subst (λ b. IsReportOf split_settings b kept.report (text_of kept.labels kept.report)) (only-last shown asked block is) right;
  };
  nothing = ap (λ t. t ++ []) before.nothing;
}

module _ (now : Routing) (kept : Told) (is_kept : now.told ≡ Some kept) (routes : List ℕ) (are : routes ≡ routes_text now.graph.now (paths_in kept.report.body))
    (status : Status) (is : status ≡ status_of (kept.report ∷ [])) where
  -- the text that is written at the end is right
  told-whole : (first : Routing) (shown : List TextBlock) (text : List ℕ) → HasTold first now shown text →
      IsToldWith first.graph.now status shown (text ++ (text_of kept.labels kept.report ++ routes))
  told-whole first shown text h block one =
      let t = h.told block one in
      let same : t.kept ≡ kept = cc (t.is_kept, is_kept) in
      record {
        report = kept.report;
        first = text_of kept.labels kept.report;
        right = subst (λ (k : Told). IsReportOf split_settings block k.report (text_of k.labels k.report)) same t.right;
        is_text = ap (λ x. x ++ (text_of kept.labels kept.report ++ routes)) h.nothing
            ∙ ap (λ x. text_of kept.labels kept.report ++ x) (are ∙ ap (λ g. routes_text g (paths_in kept.report.body)) h.graph_is);
        status_is = is;
      }

  pub told-done : (before after : Option (List ℕ)) → Adds before after (text_of kept.labels kept.report ++ routes) →
      Finishes {W = Routing} (λ first shown text. HasTold first now shown text) (λ first shown text. IsToldWith first.graph.now status shown text) before after
  told-done before after adds = (text_of kept.labels kept.report ++ routes, adds, told-whole)

  pub told-cut : (before after : Option (List ℕ)) → AddsBeginning before after (text_of kept.labels kept.report ++ routes) →
      IsCutAtEnd {W = Routing} (λ first shown text. HasTold first now shown text) (λ first status shown text. IsToldWith first.graph.now status shown text) before after
  told-cut before after (sent, lost, all, adds) =
      (sent, lost, status, adds, λ first shown text h. subst (λ x. IsToldWith first.graph.now status shown (text ++ x)) (sym all) (told-whole first shown text h))

-- without a block nothing is written
pub told-none : (now : Routing) → now.told ≡ None → (before : Option (List ℕ)) →
    Finishes {W = Routing} (λ first shown text. HasTold first now shown text) (λ first shown text. IsToldWith first.graph.now Clean shown text) before before
told-none now none before = ([], Adds-nothing before, λ first shown text h block one. let t = h.told block one in absurd (let no' : ⊥ = cc (t.is_kept, none) in no'))

-- what holds whatever a call answers, and what follows from a fault
pub on_err : {T E P : Type 0} (r : Result T E) → P → OnErr r P
on_err (Ok x) p = tt
on_err (Err e) p = p

pub on_err_in : {T E P Q : Type 0} (r : Result T E) → (P → Q) → OnErr r P → OnErr r Q
on_err_in (Ok x) turned p = tt
on_err_in (Err e) turned p = turned p

-- a run with one report ends
pub status-done : (report : Report) (status : Status) → status ≡ status_of (report ∷ []) → IsDone status
status-done report status is = subst IsDone (sym is) (done-by (list_any (λ r. is_refused r.body) (report ∷ [])) (list_any (λ r. is_open r.body) (report ∷ [])))
