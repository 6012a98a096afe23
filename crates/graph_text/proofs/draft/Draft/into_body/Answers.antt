use Rattle.std.proofs.Common.{◌≡◌, ◌<◌, ◌≤◌, List, length, map, sym, ap, subst, ◌∙◌}
use Rattle.std.specs.Prelude.{AllPairs, Result}
use Rattle.std.proofs.lemmas.Result.{IfOk-weaker}
use Rattle.decomposition.specs.declared.Mode.{Mode}
use Rattle.graph_text.specs.declared.block.RawGraph.{RawGraph}
use Rattle.report_terms.specs.declared.refusal.Refusal.{Refusal}
use Rattle.graph_text.specs.Constraints.{listing_of}
use Rattle.graph_text.specs.Draft.{Drafts}
use Rattle.graph_text.specs.DraftGraph.{HoldsEdges}
use Rattle.graph_text.specs.LineFaults.{NoneRefused}
use Rattle.graph_text.specs.Reading.{Line, filled_lines, edge_lines, constraint_lines, read_lines}
use Rattle.graph_text.proofs.draft.Draft.into_body.Goals as goal

pub returns : goal.returns
returns c =
    let draft = c.args.self in
    let Reads : Result RawGraph Refusal → Type 0 = λ body. (lines : List Line) → HoldsEdges draft.mode (edge_lines lines) draft.graph
    → draft.constraints ≡ map listing_of (constraint_lines lines) → AllPairs (λ a b. a.number ≤ b.number) lines → NoneRefused draft.mode lines → body ≡ read_lines draft.mode lines in
    let ReadsDraft : Result RawGraph Refusal → Type 0 = λ body. (mode : Mode) (lines : List Line) → Drafts mode lines draft → 0 < length (filled_lines lines) → body ≡ read_lines mode lines in
    IfOk-weaker c.into_body.result Reads ReadsDraft
    (λ body reads mode lines drafts some.
    let none = c.in_default.ensures.none mode lines drafts some in
    let stands = drafts.refusal_is ∙ none.settled in
    reads lines (subst (λ m. HoldsEdges m (edge_lines lines) draft.graph) (sym drafts.mode_is) (drafts.graph_is stands)) (drafts.constraints_are stands) drafts.rising
    (subst (λ m. NoneRefused m lines) (sym drafts.mode_is) none)
    ∙ ap (λ m. read_lines m lines) drafts.mode_is)
    c.into_body.ensures
