use Rattle.std.proofs.Common.{◌-◌, length, ◌∙◌, sym, arith}
use Rattle.std.proofs.lemmas.Bool.{iff_false}
use Rattle.decomposition.proofs.Runs.{run-place, run-length}
use Rattle.subpath_rules.proofs.Deciding.{run_start-first, run_end-last, follows-decides}
use Rattle.subpath_rules.proofs.follows.follows.Goals as goal

pub head-requires : goal.head-requires
head-requires c =
    let walk = c.args.walk.now in
    run-place c.args.net.now walk (length walk - 1) c.requires.walk (omega (arith, run-length c.args.net.now walk c.requires.walk))

pub returns-else-overlaps : goal.returns-else-overlaps
returns-else-overlaps c =
    let g = c.args.net.now in
    follows-decides c.reaches.result g c.args.walk.now c.args.run.now c.head.result c.tail.result
    (run_end-last g c.args.walk.now c.requires.walk ∙ sym c.head.ensures.head)
    (run_start-first g c.args.run.now c.requires.run ∙ sym c.tail.ensures.tail)
    (iff_false c.overlaps.ensures c.if-overlaps.false)
    c.reaches.ensures
