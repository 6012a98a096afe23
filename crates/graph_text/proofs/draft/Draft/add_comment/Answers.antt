use Rattle.std.proofs.Common.{◌<◌, List, Some, sym, ap, subst, ◌∙◌, refl, drop, map}
use Rattle.std.specs.List.{All}
use Rattle.graph_text.specs.Constraints.{listing_of}
use Rattle.graph_text.specs.Draft.{is_content, is_run}
use Rattle.graph_text.specs.DraftGraph.{HoldsEdges}
use Rattle.graph_text.specs.LineFaults.{refusal_at, fault_of_comment}
use Rattle.graph_text.specs.Reading.{Line, or_else}
use Rattle.graph_text.proofs.FirstLists.{constraints-other}
use Rattle.graph_text.proofs.Drafting.{same_choice, comment_fault, no_content-hash, any-other, Drafts-more}
use Rattle.graph_text.proofs.LineByLine.{content-hash}
use Rattle.graph_text.proofs.SettledRefusals.{settled-comment}
use Rattle.graph_text.proofs.draft.Draft.add_comment.Goals as goal

pub returns : goal.returns
returns c = λ mode lines line text drafts below shows comment.
    let old = c.args.self.now in
    let under = subst (λ n. All (λ (k : Line). k.number < n) lines) (sym shows.number_is) below in
    Drafts-more mode lines line old _ (fault_of_comment line) drafts under comment.is_hash.some (settled-comment mode lines line under comment)
    refl
    (drafts.filled ∙ sym (any-other is_content lines line (no_content-hash line comment.is_hash)))
    (ap Some (sym shows.number_is))
    (drafts.run ∙ sym (any-other is_run lines line comment.no_run))
    (c.or-self.ensures
    ∙ same_choice old.refusal c.refusal_at.result
    ∙ ap (or_else old.refusal) (c.refusal_at.ensures ∙ (λ i. refusal_at (sym shows.number_is i) ((c.then_some-fault.ensures ∙ comment_fault line c.args.is_long shows.long) i))))
    (λ none faultless. drafts.constraints_are none ∙ sym (ap (map listing_of) (constraints-other lines line comment.no_run)))
    (λ none faultless. subst (λ (x : List Line). HoldsEdges mode (drop 1 x) old.graph) (sym (content-hash lines line comment.is_hash)) (drafts.graph_is none))
