use Rattle.std.proofs.Common.{slice_index, refl}
use Rattle.std.proofs.lemmas.Result.{IfOk-weaker, IfErr-weaker}
use Rattle.greedy_paths.specs.Built.{IsBuiltOn, IsLeastFirst, IsRefusalOver, IsRefusalWith}
use Rattle.greedy_paths.proofs.BookedLists.{AreBooked-units}
use Rattle.greedy_paths.proofs.Building.{built_on_booked_is_first, IsRefusalWith-over}
use Rattle.greedy_paths.proofs.greedy.decompose_with.Goals as goal

pub decompose_over-requires-clause-units : goal.decompose_over-requires-clause-units
decompose_over-requires-clause-units c = AreBooked-units c.args.net.now (slice_index c.args.flow.now) c.args.rules.now c.in_ok-booked.booked c.in_ok-booked.ensures.booked

pub returns-clause-least : goal.returns-clause-least
returns-clause-least c =
    let g = c.args.net.now in
    let flow = slice_index c.args.flow.now in
    let booked = c.in_ok-booked.booked in
    IfOk-weaker c.decompose_over.result (IsBuiltOn g flow booked) (IsLeastFirst g flow c.args.rules.now)
    (λ a built. built_on_booked_is_first g flow flow c.args.rules.now booked a (λ _. refl) c.requires.runs c.in_ok-booked.ensures.booked built) c.decompose_over.ensures.built

pub returns-clause-refusal : goal.returns-clause-refusal
returns-clause-refusal c =
    let g = c.args.net.now in
    let flow = slice_index c.args.flow.now in
    let booked = c.in_ok-booked.booked in
    IfErr-weaker c.decompose_over.result (IsRefusalOver g flow booked) (IsRefusalWith g flow c.args.rules.now)
    (IsRefusalWith-over g flow c.args.rules.now booked c.requires.runs c.in_ok-booked.ensures.booked) c.decompose_over.ensures.refusal
