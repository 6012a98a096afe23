use Rattle.std.proofs.Common.{◌<◌, ◌∷◌, ◌++◌, [], List, Some, sym, ap, subst, ◌∙◌, refl}
use Rattle.std.specs.List.{All}
use Rattle.graph_text.specs.DraftGraph.{HoldsEdges}
use Rattle.graph_text.specs.LineFaults.{refusal_at, fault_of_edge}
use Rattle.graph_text.specs.Reading.{Line, edge_lines, or_else}
use Rattle.graph_text.proofs.Drafting.{stands_still, is_none, filled-content, run-content, constraints-content, some-content, Drafts-more}
use Rattle.graph_text.proofs.LineByLine.{edge-more}
use Rattle.graph_text.proofs.SettledRefusals.{settled-edge}
use Rattle.graph_text.proofs.draft.Draft.add_edge.Goals as goal

pub returns-then-is_some : goal.returns-then-is_some
returns-then-is_some c = λ mode lines line drafts below shows content.
    let old = c.args.self.now in
    let under = subst (λ n. All (λ (k : Line). k.number < n) lines) (sym shows.number_is) below in
    let some_yet = some-content lines (sym drafts.filled ∙ c.requires.later) in
    let stands = stands_still old.refusal (refusal_at line.number (fault_of_edge mode (edge_lines lines) line)) (sym c.is_some.ensures ∙ c.if-is_some.true) in
    Drafts-more mode lines line old _ (fault_of_edge mode (edge_lines lines) line) drafts under content.some (settled-edge mode lines line under content some_yet)
    refl
    (c.requires.later ∙ sym (filled-content lines line content))
    (ap Some (sym shows.number_is))
    (drafts.run ∙ sym (run-content lines line content))
    stands.0
    (λ none faultless. absurd (stands.1 none))
    (λ none faultless. absurd (stands.1 none))

pub returns : goal.returns
returns c = λ mode lines line drafts below shows content.
    let old = c.args.self.now in
    let under = subst (λ n. All (λ (k : Line). k.number < n) lines) (sym shows.number_is) below in
    let some_yet = some-content lines (sym drafts.filled ∙ c.requires.later) in
    let more = edge-more lines line content some_yet in
    let none = is_none old.refusal (sym c.is_some.ensures ∙ c.if-is_some.false) in
    let holds = subst (λ m. HoldsEdges m (edge_lines lines) old.graph) (sym drafts.mode_is) (drafts.graph_is none) in
    let fault = c.in_ok-fault.ensures.fault (edge_lines lines) line holds shows ∙ ap (λ m. fault_of_edge m (edge_lines lines) line) drafts.mode_is in
    Drafts-more mode lines line old _ (fault_of_edge mode (edge_lines lines) line) drafts under content.some (settled-edge mode lines line under content some_yet)
    refl
    (c.requires.later ∙ sym (filled-content lines line content))
    (ap Some (sym shows.number_is))
    (drafts.run ∙ sym (run-content lines line content))
    (c.refusal_at-self.ensures ∙ (λ i. refusal_at (sym shows.number_is i) (fault i)) ∙ ap (λ r. or_else r (refusal_at line.number (fault_of_edge mode (edge_lines lines) line))) (sym none))
    (λ none faultless. drafts.constraints_are none ∙ constraints-content lines line content)
    (λ none faultless.
    subst (λ (x : List Line). HoldsEdges mode x c.add_line.new.self) (sym more.1)
    (subst (λ m. HoldsEdges m (edge_lines lines ++ line ∷ []) c.add_line.new.self) drafts.mode_is
    (c.in_ok-fault.ensures.added (edge_lines lines) line holds shows (fault ∙ faultless))))
