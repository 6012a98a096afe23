use Rattle.std.proofs.Common.{◌≡◌, ◌<◌, Some, sym, ◌∙◌, subst, vec_len}
use Rattle.link_cells.proofs.Keeping.{in_use, list-read, live-read, before-read}
use Rattle.link_cells.specs.Cells.{IsLive}
use Rattle.link_cells.proofs.cells.Cells.below.Goals as goal
use Rattle.link_cells.proofs.cells.Cells.below.Goals.{In-Some}

-- the cell is in use
there : (c : In-Some) → c.in-Some.k < vec_len c.self.inside.cells
there c =
    in_use c.self.inside c.args.self.now c.args.tail c.in-Some.k c.self.view_is (sym c.tail.view_is ∙ c.in-Some.is) c.requires.live

pub index-requires : goal.index-requires
index-requires c = there c

pub returns-clause-list : goal.returns-clause-list
returns-clause-list c =
    let b = (goal.at.returns-clause-list c).In-Some in
    (c.index.result.now.edge, list-read c.self.inside c.args.self.now c.args.tail c.in-Some.k c.index.result.now c.self.invariant c.self.view_is (sym c.tail.view_is ∙ c.in-Some.is) (there b) c.index.ensures)

pub returns-clause-live : goal.returns-clause-live
returns-clause-live c =
    let b = (goal.at.returns-clause-live c).In-Some in
    live-read c.self.inside c.args.self.now c.in-Some.k c.index.result.now c.self.invariant c.self.view_is (there b) c.index.ensures

pub returns-clause-before : goal.returns-clause-before
returns-clause-before c = λ place is.
    let b = (goal.at.returns-clause-before c).In-Some in
    let both : Some c.in-Some.k ≡ Some place = sym (sym c.tail.view_is ∙ c.in-Some.is) ∙ is in
    let same : c.in-Some.k ≡ place = cc in
    subst (λ n. IsLive n c.index.result.now.below) same (before-read c.self.inside c.in-Some.k c.index.result.now c.self.invariant (there b) c.index.ensures)
