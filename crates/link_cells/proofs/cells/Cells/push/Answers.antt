use Rattle.std.proofs.Common.{◌≡◌, ◌<◌, ◌∷◌, ◌++◌, [], vec_len, refl, ap, Some, subst, arith}
use Rattle.link_cells.specs.Cells.{IsLive}
use Rattle.link_cells.proofs.Keeping.{cell-count, IsKept-push, shown-push}
use Rattle.link_cells.proofs.cells.Cells.push.Goals as goal
use Rattle.link_cells.proofs.cells.Cells.push.Goals.{After-push, After-unwrap}

-- a cell is free
free : (c : After-push) → vec_len c.self.inside.cells < c.self.inside.room
free c =
    omega (arith, cell-count c.self.inside c.args.self.now c.self.view_is, c.len-place.ensures.len, c.if-place-self.false, c.self.invariant.fits)

-- the cell is added
added : (c : After-unwrap) → c.push.new.self.items ≡ c.self.inside.cells.items ++ record { edge = c.args.edge; below = c.args.below } ∷ []
added c = rw c.unwrap.ensures at c.push.ensures.items

pub unwrap-requires : goal.unwrap-requires
unwrap-requires c = c.push.ensures.succeeds (omega (arith, free c, c.self.invariant.taken))

pub invariant_of-self : goal.invariant_of-self
invariant_of-self c =
    let b = (goal.at.invariant_of-self c).After-push in
    let count = cell-count c.self.inside c.args.self.now c.self.view_is in
    IsKept-push c.self.inside (record { room = c.self.inside.room; cells = c.push.new.self }) (record { edge = c.args.edge; below = c.args.below })
    c.self.invariant refl (added c) (free b) (omega (arith, c.self.invariant.taken, c.push.ensures.capacity)) (subst (λ n. IsLive n c.args.below) count c.requires.live)

pub returns : goal.returns
returns c =
    let b = (goal.at.returns c).After-push in
    record {
      pushed = (
        ap Some c.len-place.ensures.len,
        omega (arith, free b, cell-count c.self.inside c.args.self.now c.self.view_is, ap (λ s. s.room) c.self.view_is),
        shown-push c.self.inside (record { room = c.self.inside.room; cells = c.push.new.self }) c.args.self.now (record { edge = c.args.edge; below = c.args.below })
            c.self.view_is refl (added c),
      );
    }
