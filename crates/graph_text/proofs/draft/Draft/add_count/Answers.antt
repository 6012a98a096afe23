use Rattle.std.proofs.Common.{◌<◌, List, Some, sym, ap, subst, ◌∙◌, refl, drop}
use Rattle.std.specs.List.{All}
use Rattle.graph_text.specs.DraftGraph.{HoldsEdges}
use Rattle.graph_text.specs.LineFaults.{refusal_at, fault_of_count}
use Rattle.graph_text.specs.Reading.{Line, or_else}
use Rattle.graph_text.proofs.Drafting.{same_choice, filled-content, run-content, constraints-content, none-content, Drafts-more}
use Rattle.graph_text.proofs.LineByLine.{count-first}
use Rattle.graph_text.proofs.SettledRefusals.{settled-count}
use Rattle.graph_text.proofs.draft.Draft.add_count.Goals as goal

pub returns : goal.returns
returns c = λ mode lines line drafts below shows content.
    let old = c.args.self.now in
    let under = subst (λ n. All (λ (k : Line). k.number < n) lines) (sym shows.number_is) below in
    let none_yet = none-content lines (sym drafts.filled ∙ c.requires) in
    let first = count-first lines line content none_yet in
    Drafts-more mode lines line old _ (fault_of_count line) drafts under content.some (settled-count mode lines line under content none_yet)
    refl
    (sym (filled-content lines line content))
    (ap Some (sym shows.number_is))
    (drafts.run ∙ sym (run-content lines line content))
    (c.or-self.ensures
    ∙ same_choice old.refusal c.refusal_at.result
    ∙ ap (or_else old.refusal) (c.refusal_at.ensures ∙ (λ i. refusal_at (sym shows.number_is i) (c.in_ok-fault.ensures c.args.number line shows i))))
    (λ none faultless. drafts.constraints_are none ∙ constraints-content lines line content)
    (λ none faultless. subst (λ (x : List Line). HoldsEdges mode x old.graph) (ap (drop 1) none_yet ∙ sym first.1) (drafts.graph_is none))
