use Rattle.std.proofs.Common.{◌∙◌, sym, subst, ◌-◌, ◌+◌}
use Rattle.graph_text.specs.Draft.{Drafts}
use Rattle.graph_text.specs.Reading.{numbered_lines}
use Rattle.graph_text.proofs.Holding.{handed-is}
use Rattle.graph_text.proofs.Steps.{numbered_lines-filled}
use Rattle.graph_text.proofs.cutter.Cutter.complete.Goals as goal

pub returns-clause-block : goal.returns-clause-block
returns-clause-block c = λ lines held filled.
    let self = c.args.self.now in
    let first = self.line - self.ended in
    handed-is self.mode (self.blocks + 1) first lines _ _ (c.replace-name.ensures.value ∙ held.name_is)
    (c.in_ok-body.ensures self.mode (numbered_lines first lines)
    (subst (λ draft. Drafts self.mode (numbered_lines first lines) draft) (sym c.replace-draft.ensures.value) held.drafts) (numbered_lines-filled first lines filled))
