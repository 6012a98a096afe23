use Rattle.std.proofs.Common.{◌<◌, List, Some, sym, ap, subst, ◌∙◌, refl, map, drop}
use Rattle.std.specs.List.{All}
use Rattle.graph_text.specs.Constraints.{listing_of, with_listing}
use Rattle.graph_text.specs.Draft.{is_content, is_run}
use Rattle.graph_text.specs.DraftGraph.{HoldsEdges}
use Rattle.graph_text.specs.LineFaults.{refusal_at, fault_of_run}
use Rattle.graph_text.specs.Reading.{Line, listed, constraint_lines, or_else}
use Rattle.graph_text.proofs.Drafting.{stands_still, is_none, no_content-hash, any-other, any-there, fault-kept, constraints-more, Drafts-more}
use Rattle.graph_text.proofs.LineByLine.{content-hash}
use Rattle.graph_text.proofs.SettledRefusals.{settled-run}
use Rattle.graph_text.proofs.draft.Draft.add_run.Goals as goal

pub returns-then-is_some : goal.returns-then-is_some
returns-then-is_some c = λ mode lines line drafts below shows run.
    let old = c.args.self.now in
    let under = subst (λ n. All (λ (k : Line). k.number < n) lines) (sym shows.number_is) below in
    let stands = stands_still old.refusal (refusal_at line.number (fault_of_run (map listed (constraint_lines lines)) line)) (sym c.is_some.ensures ∙ c.if-is_some.true) in
    Drafts-more mode lines line old _ (fault_of_run (map listed (constraint_lines lines)) line) drafts under run.is_hash.some (settled-run mode lines line under run)
    refl
    (drafts.filled ∙ sym (any-other is_content lines line (no_content-hash line run.is_hash)))
    (ap Some (sym shows.number_is))
    (sym (any-there is_run lines line run.run))
    stands.0
    (λ none faultless. absurd (stands.1 none))
    (λ none faultless. absurd (stands.1 none))

pub returns : goal.returns
returns c = λ mode lines line drafts below shows run.
    let old = c.args.self.now in
    let under = subst (λ n. All (λ (k : Line). k.number < n) lines) (sym shows.number_is) below in
    let none = is_none old.refusal (sym c.is_some.ensures ∙ c.if-is_some.false) in
    let kept = drafts.constraints_are none in
    let fault = c.in_ok-fault.ensures.fault line shows ∙ fault-kept old.constraints (constraint_lines lines) line kept in
    Drafts-more mode lines line old _ (fault_of_run (map listed (constraint_lines lines)) line) drafts under run.is_hash.some (settled-run mode lines line under run)
    refl
    (drafts.filled ∙ sym (any-other is_content lines line (no_content-hash line run.is_hash)))
    (ap Some (sym shows.number_is))
    (sym (any-there is_run lines line run.run))
    (c.refusal_at-self.ensures ∙ (λ i. refusal_at (sym shows.number_is i) (fault i)) ∙ ap (λ r. or_else r (refusal_at line.number (fault_of_run (map listed (constraint_lines lines)) line))) (sym none))
    (λ none faultless.
    c.in_ok-fault.ensures.added line shows (fault ∙ faultless)
    ∙ ap (λ listings. with_listing listings (listing_of line)) kept
    ∙ constraints-more lines line run faultless)
    (λ none faultless. subst (λ (x : List Line). HoldsEdges mode (drop 1 x) old.graph) (sym (content-hash lines line run.is_hash)) (drafts.graph_is none))
