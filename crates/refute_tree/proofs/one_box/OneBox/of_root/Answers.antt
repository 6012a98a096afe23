use Rattle.std.proofs.Common.{◌≡◌, replicate, rules, arith}
use Rattle.refute_tree.specs.declared.one_box.OneBox.{OneBox}
use Rattle.refute_tree.proofs.RootBox.{root_place, root_kept}
use Rattle.refute_tree.proofs.one_box.OneBox.of_root.Goals as goal
use Rattle.refute_tree.proofs.one_box.OneBox.of_root.Goals.{In_ok-with_capacity-2}

-- what is made
abbrev made : In_ok-with_capacity-2 → OneBox
made c = record { ranges = c.in_ok-vec.field-0; links = c.in_ok-with_capacity.field-0; choices = c.in_ok-with_capacity-2.field-0 }

ranges : (c : In_ok-with_capacity-2) → c.in_ok-vec.field-0.items ≡ replicate c.args.slots (record { lo = 0; hi = c.args.cap })
ranges c = search rules

pub returns-clause-kept : goal.returns-clause-kept
returns-clause-kept c =
    let b = (goal.at.returns-clause-kept c).In_ok-with_capacity-2 in
    root_kept (made b) c.args.slots c.args.cap c.edges.result c.args.room (ranges b) c.in_ok-with_capacity.ensures c.in_ok-with_capacity-2.ensures.items c.args.net.now c.edges.ensures.net c.edges.ensures.edges (omega arith) (omega (arith, c.in_ok-with_capacity-2.ensures.capacity))

pub returns-clause-place : goal.returns-clause-place
returns-clause-place c =
    let b = (goal.at.returns-clause-place c).In_ok-with_capacity-2 in
    root_place (made b) c.args.slots c.args.cap c.edges.result c.args.room (ranges b) c.in_ok-with_capacity.ensures c.in_ok-with_capacity-2.ensures.items
