use Rattle.std.proofs.Common.{◌≡◌, ◌<◌, ◌+◌, ◌++◌, ◌∷◌, [], ℕ, List, length, take, take_all, nat_le, ◌&&◌, true, sym, ap, ◌∙◌, subst, arith}
use Rattle.std.proofs.lemmas.Bool.{and_parts}
use Rattle.std.proofs.lemmas.List.{take_more}
use Rattle.decomposition.specs.Graph.{is_path, contains_run}
use Rattle.decomposition.specs.Answer.{entry_at}
use Rattle.decomposition.proofs.Root.{all-place}
use Rattle.run_weight.specs.Sorting.{IsCarrier, IsOther, Sorts, HasWeights}
use Rattle.run_weight.proofs.Sorted.{Sorts-carrier, Sorts-other, IsSorted-from}
use Rattle.run_weight.proofs.sorting.Sorting.of.Goals as goal
use Rattle.run_weight.proofs.sorting.Sorting.of.Goals.{then-stands_in+in_ok-push, else-stands_in+in_ok-push-2}

pub loop-i-preserved : goal.loop-i-preserved
loop-i-preserved c =
    let g = c.args.net.now in
    let run = c.args.run.now in
    let a = c.args.answer.now in
    let i = c.loop-i.i in
    let path : List ℕ = c.in_ok-copy_of.field-0 in
    let weight = c.weight.result in
    let copied : path ≡ (entry_at a i).0 = c.in_ok-copy_of.ensures ∙ (c.as_slice-path.ensures ∙ c.path.ensures) in
    let entry : (path, weight) ≡ entry_at a i = ap (λ (p : List ℕ). (p, weight)) copied ∙ ap (λ (w : ℕ). ((entry_at a i).0, w)) c.weight.ensures.value in
    let inside : i < length a = omega arith in
    let good = and_parts (is_path g (entry_at a i).0) (nat_le 1 (entry_at a i).1) (all-place (λ entry. is_path g entry.0 && nat_le 1 entry.1) a ([], 0) i c.requires.answer inside) in
    let is_path' : is_path g path ≡ true = subst (λ p. is_path g p ≡ true) (sym copied) good.0 in
    let more : take i a ++ (path, weight) ∷ [] ≡ take (i + 1) a = ap (λ (x : List ℕ × ℕ). take i a ++ x ∷ []) entry ∙ sym (take_more a i ([], 0) inside) in
    let test : contains_run path run ≡ c.stands_in.result = ap (λ (p : List ℕ). contains_run p run) c.in_ok-copy_of.ensures ∙ sym c.stands_in.ensures in
    elim c.if-stands_in.branch [
      | then-stands_in+in_ok-push w ↦
          let carrier : IsCarrier g run (path, weight) = record { path = is_path'; positive = c.weight.ensures.positive; contains = test ∙ w.if-stands_in.true } in
          subst (λ l. Sorts g run l c.if-stands_in.sorting) more
          (Sorts-carrier g run (take i a) c.loop-i.sorting c.if-stands_in.sorting path weight c.loop-i.invariant carrier (ap (λ s. s.carriers.items) w.sorting-is ∙ w.in_ok-push.ensures.items)
          (ap (λ s. s.pending.items) w.sorting-is) (ap (λ s. s.settled.items) w.sorting-is))
      | else-stands_in+in_ok-push-2 w ↦
          let other : IsOther g run (path, weight) = record { path = is_path'; positive = c.weight.ensures.positive; lacks = test ∙ w.if-stands_in.false } in
          subst (λ l. Sorts g run l c.if-stands_in.sorting) more
          (Sorts-other g run (take i a) c.loop-i.sorting c.if-stands_in.sorting path weight c.loop-i.invariant other (ap (λ s. s.carriers.items) w.sorting-is)
          (ap (λ s. s.pending.items) w.sorting-is ∙ w.in_ok-push-2.ensures.items) (ap (λ s. s.settled.items) w.sorting-is))
    ]

pub returns-clause-sorted : goal.returns-clause-sorted
returns-clause-sorted c = λ places. IsSorted-from c.args.net.now c.args.run.now places (take c.loop-i.i c.args.answer.now) c.loop-i.sorting c.loop-i.invariant

pub returns-clause-weights : goal.returns-clause-weights
returns-clause-weights c =
    subst (λ (l : List (List ℕ × ℕ)). HasWeights l c.loop-i.sorting) (take_all c.loop-i.i c.args.answer.now (omega arith)) c.loop-i.invariant.weights
