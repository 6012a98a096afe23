use Rattle.std.proofs.Common.{◌≤◌, ◌+◌, length, slice_index, sym, ◌∙◌, subst, arith}
use Rattle.greedy_paths.specs.Booking.{AreBooked}
use Rattle.greedy_paths.proofs.BookedLists.{AreBegun, AreBegun-contained, AreBegun-more, AreBegun-all, AreBooked-answer, AreBooked-covers, AreBooked-few}
use Rattle.greedy_paths.proofs.booking.book.Goals as goal
use Rattle.greedy_paths.proofs.booking.book.Goals.{After-loop-i, then-not-is_covered+in_ok-booked_path+in_ok-push, else-not-is_covered}

pub loop-i-preserved : goal.loop-i-preserved
loop-i-preserved c =
    let g = c.args.net.now in
    let flow = slice_index c.args.guide.now in
    let rules = c.args.rules.now in
    elim c.if-not-is_covered.branch [
      | then-not-is_covered+in_ok-booked_path+in_ok-push w ↦
          let path = w.in_ok-booked_path.ensures flow c.in_ok-greatest.ensures.greatest in
          subst (AreBegun g flow rules (c.loop-i.i + 1)) (sym (w.booked-is ∙ w.in_ok-push.ensures.ok))
          (AreBegun-more g flow rules c.loop-i.i c.run-run.result.now w.in_ok-booked_path.field-0 c.loop-i.booked (omega arith) c.run-run.ensures (sym c.is_covered.ensures ∙ w.if-not-is_covered.true) path c.loop-i.invariant)
      | else-not-is_covered w ↦
          subst (AreBegun g flow rules (c.loop-i.i + 1)) (sym w.booked-is)
          (AreBegun-contained g flow rules c.loop-i.i c.run-run.result.now c.loop-i.booked (omega arith) c.run-run.ensures (sym c.is_covered.ensures ∙ w.if-not-is_covered.false) c.loop-i.invariant)
    ]

-- all rules are gone over
booked : (c : After-loop-i) → length c.args.rules.now ≤ c.loop-i.i → AreBooked c.args.net.now (slice_index c.args.guide.now) c.args.rules.now c.loop-i.booked
booked c past = AreBegun-all c.args.net.now (slice_index c.args.guide.now) c.args.rules.now c.loop-i.i c.loop-i.booked past c.loop-i.invariant

pub returns-clause-booked : goal.returns-clause-booked
returns-clause-booked c = booked (goal.at.returns-clause-booked c).After-loop-i (omega arith)

pub returns-clause-answer : goal.returns-clause-answer
returns-clause-answer c =
    AreBooked-answer c.args.net.now (slice_index c.args.guide.now) c.args.rules.now c.loop-i.booked (booked (goal.at.returns-clause-answer c).After-loop-i (omega arith))

pub returns-clause-covers : goal.returns-clause-covers
returns-clause-covers c =
    AreBooked-covers c.args.net.now (slice_index c.args.guide.now) c.args.rules.now c.loop-i.booked (booked (goal.at.returns-clause-covers c).After-loop-i (omega arith))

pub returns-clause-few : goal.returns-clause-few
returns-clause-few c =
    AreBooked-few c.args.net.now (slice_index c.args.guide.now) c.args.rules.now c.loop-i.booked (booked (goal.at.returns-clause-few c).After-loop-i (omega arith))
