use Rattle.std.proofs.Common.{◌+◌, slice_index, slice_set, subst, arith, rules}
use Rattle.path_cover.specs.Carrying.{IsSentOn, IsBroughtIn}
use Rattle.path_cover.proofs.Sending.{IsRaised-set, IsBalanced-through}
use Rattle.path_cover.proofs.carrying.send_through.Goals as goal

pub returns-clause-path : goal.returns-clause-path
returns-clause-path c =
    let g = c.args.net.now in
    let e = c.args.e in
    let flow = c.args.flow.now in
    let put = slice_index (slice_set flow e (slice_index flow e + 1)) in
    let sent = slice_index c.send_on.new.flow in
    let new = slice_index c.bring_in.new.flow in
    record {
      more = search rules;
      balanced = IsBalanced-through g (slice_index flow) put sent new e c.requires.edge (IsRaised-set flow e (omega arith)) (subst (IsSentOn g put sent) c.head.ensures.head c.send_on.ensures.sent)
          (subst (IsBroughtIn g sent new) c.tail.ensures.tail c.bring_in.ensures.brought);
    }
