use Rattle.std.proofs.Common.{◌≡◌, ℕ, List, take, Bor}
use Rattle.std.specs.List.{list_any}
use Rattle.std.specs.BTreeSet.{contains}
use Rattle.std.specs.Ordering.{nat_cmp}
use Rattle.std.specs.Cmp.Lexicographic.{slice_cmp}
use Rattle.subpath_rules.specs.Rules.{same_run, distinct_runs}
use Rattle.subpath_rules.proofs.listed.without_repeats.Given as goal

-- the lists so far are seen, and each stands once in the list that is made
abbrev pub invariant-loop-i : goal.invariant-loop-i
invariant-loop-i l =
    ((q : Bor (List ℕ)) → contains (λ x y. slice_cmp nat_cmp x.now y.now) l.seen q ≡ list_any (λ r. same_run r q.now) (take l.i l.listed))
    × (l.once ≡ distinct_runs (take l.i l.listed))
