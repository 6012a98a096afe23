use Rattle.std.proofs.Common.{◌∙◌, ap, Err, sym}
use Rattle.graph_text.proofs.DraftRefusals.{refused-standing, none-standing, refused-no_count, some-last}
use Rattle.graph_text.proofs.draft.Draft.refusal_of_lines.Goals as goal

pub returns-then-self-clause-refused : goal.returns-then-self-clause-refused
returns-then-self-clause-refused c = λ mode lines drafts some. refused-standing mode lines c.args.self.now drafts c.if-self.true

pub returns-then-self-clause-none : goal.returns-then-self-clause-none
returns-then-self-clause-none c = λ mode lines drafts some. none-standing mode lines c.args.self.now drafts c.if-self.true

pub returns-in_err-last-clause-none : goal.returns-in_err-last-clause-none
returns-in_err-last-clause-none c = λ mode lines drafts some. absurd (some-last mode lines c.args.self.now drafts some c.in_err-last.was)

pub returns-clause-refused : goal.returns-clause-refused
returns-clause-refused c = λ mode lines drafts some.
    refused-no_count mode lines c.args.self.now drafts c.if-self.false c.in_ok-last.last c.in_ok-last.was ∙ ap Err (sym c.without_count.ensures)
