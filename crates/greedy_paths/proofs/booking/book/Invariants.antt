use Rattle.std.proofs.Common.{slice_index}
use Rattle.greedy_paths.proofs.BookedLists.{AreBegun}
use Rattle.greedy_paths.proofs.booking.book.Given as goal

abbrev pub invariant-loop-i : goal.invariant-loop-i
invariant-loop-i l = AreBegun l.net (slice_index l.guide) l.rules l.i l.booked
