use Rattle.std.proofs.Common.{◌≡◌, ◌++◌, ℕ, List, [], Bor, map, sym, ap, subst, ◌∙◌, append-nil}
use Rattle.std.proofs.lemmas.Map.Iter.{rest_all}
use Rattle.safe_paths.specs.Places.{AreInOrder}
use Rattle.safe_paths.proofs.Inserting.{IsRising-keys}
use Rattle.safe_paths.proofs.writing.written_out.Goals as goal

pub returns : goal.returns
returns c =
    let nows : List (Bor (List ℕ)) → List (List ℕ) = λ keys. map (λ (run : Bor (List ℕ)). run.now) keys in
    let none : c.loop-run.run-iterator ≡ [] = rest_all (λ run. run.now) c.loop-run.run-iterator c.next.new.self c.next.result c.in-None.is c.next.ensures.steps in
    let same : c.loop-run.lists ≡ nows c.args.runs.now.keys = sym (append-nil c.loop-run.lists) ∙ ap (λ rest. c.loop-run.lists ++ nows rest) (sym none) ∙ c.loop-run.invariant in
    subst (AreInOrder (nows c.args.runs.now.keys)) (sym same)
    (record {
      rising = IsRising-keys (λ (run : Bor (List ℕ)). run.now) c.args.runs.now.keys c.into_iter-run-iterator.ensures.into_iter_gives.4;
      same = λ r. (λ h. h, λ h. h);
    })
