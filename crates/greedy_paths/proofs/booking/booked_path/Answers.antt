use Rattle.std.proofs.Common.{◌≡◌, ◌-◌, ◌++◌, [], length, subst, arith}
use Rattle.decomposition.proofs.Runs.{run-place, run-length}
use Rattle.greedy_paths.specs.Booking.{ComesFromSource, GoesToSink}
use Rattle.greedy_paths.proofs.Booked.{IsBookedPath-from}
use Rattle.greedy_paths.proofs.booking.booked_path.Goals as goal

pub head-requires : goal.head-requires
head-requires c =
    let run = c.args.run.now in
    run-place c.args.net.now run (length run - 1) c.requires.run (omega (arith, run-length c.args.net.now run c.requires.run))

pub returns : goal.returns
returns c =
    let g = c.args.net.now in
    let run = c.args.run.now in
    let before = c.in_ok-before.before.items in
    let after = c.in_ok-after.after.items in
    let from = subst (λ into. ComesFromSource g into c.tail.result before) c.deref.ensures.value c.in_ok-before.ensures in
    let to = subst (λ out_of. GoesToSink g out_of c.head.result after) c.deref-2.ensures.value c.in_ok-after.ensures in
    let is : c.add_all-3.new.path ≡ (([] ++ before) ++ run) ++ after
    = cc (c.in_ok-add_all.ensures, c.in_ok-add_all-2.ensures, c.in_ok-add_all-3.ensures, c.new-path.ensures, c.deref-3.ensures.value, c.deref-4.ensures.value) in
    IsBookedPath-from g c.args.greatest.now c.tail.result c.head.result run before after c.add_all-3.new.path c.requires.run c.tail.ensures.tail c.head.ensures.head from to is
