use Rattle.std.proofs.Common.{slice_index}
use Rattle.std.proofs.lemmas.Bool.{both_ways, not-true, not_from_false, false_from_ne_true}
use Rattle.safe_paths.specs.Windows.{window_run}
use Rattle.safe_paths.proofs.SafeSums.{maximal-by_ends, back-from_maximal, on-from_maximal}
use Rattle.safe_paths.proofs.windows.is_maximal.Goals as goal

pub returns-then-not-grows_back : goal.returns-then-not-grows_back
returns-then-not-grows_back c =
    let g = c.args.net.now in
    let flow = slice_index c.args.flow.now in
    let run = window_run c.args.path.now c.args.window in (
      λ h.
          maximal-by_ends g flow run c.requires.safe (λ longer. both_ways c.grows_back.result c.if-not-grows_back.true (c.grows_back.ensures.1 longer))
          (λ longer. both_ways c.grows_on.result (not-true _ h) (c.grows_on.ensures.1 longer)),
      λ maximal. not_from_false c.grows_on.result (false_from_ne_true c.grows_on.result (λ grows. on-from_maximal g flow run maximal (c.grows_on.ensures.0 grows))),
    )

pub returns-else-not-grows_back : goal.returns-else-not-grows_back
returns-else-not-grows_back c =
    let g = c.args.net.now in
    let flow = slice_index c.args.flow.now in
    let run = window_run c.args.path.now c.args.window in (
      λ h. absurd (both_ways c.grows_back.result (not-true _ h) c.if-not-grows_back.false),
      λ maximal. not_from_false c.grows_back.result (false_from_ne_true c.grows_back.result (λ grows. back-from_maximal g flow run maximal (c.grows_back.ensures.0 grows))),
    )
