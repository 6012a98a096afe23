use Rattle.std.proofs.Common.{◌≡◌, ◌++◌, ◌∷◌, [], List, ℕ, true, length, length-append, append_assoc, refl, sym, ap, subst, ◌∙◌, arith}
use Rattle.decomposition.specs.Graph.{is_list_le}
use Rattle.dag_net.specs.Merge.{Merges, AreSorted, AreRising}
use Rattle.dag_net.proofs.Merging.{Merges-none, Merges-more}
use Rattle.dag_net.proofs.Rising.{once-rising, AreSorted-next, last-push}
use Rattle.dag_net.proofs.tidying.merge_neighbors.Goals as goal

pub loop-path-init : goal.loop-path-init
loop-path-init c =
    let none = sym c.new-merged.ensures.items in (
      subst (Merges []) none Merges-none,
      subst AreRising none refl,
      subst AreSorted (sym c.into_iter-path-iterator.ensures.into_iter_gives.0) c.requires.sorted,
      λ some. absurd (omega (arith, some, ap (λ (xs : List (List ℕ × ℕ)). length xs) c.new-merged.ensures.items)),
    )

pub add_weight-requires-clause-after : goal.add_weight-requires-clause-after
add_weight-requires-clause-after c = λ some.
    let last = c.loop-path.invariant.3 some in
    let sorted = subst (λ (rest : List (List ℕ × ℕ)). AreSorted (c.loop-path.yielded ++ rest)) c.in-Some.ensures.steps.0 c.loop-path.invariant.2 in
    subst (λ (p : List ℕ). is_list_le p c.in-Some.path ≡ true) (sym last.1) (AreSorted-next c.loop-path.yielded (c.in-Some.path, c.in-Some.weight) c.next.new.self.rest.items sorted last.0)

pub loop-path-preserved : goal.loop-path-preserved
loop-path-preserved c =
    let yielded = c.loop-path.yielded in
    let entry : List ℕ × ℕ = (c.in-Some.path, c.in-Some.weight) in
    let sorted = subst (λ (rest : List (List ℕ × ℕ)). AreSorted (yielded ++ rest)) c.in-Some.ensures.steps.0 c.loop-path.invariant.2 in (
      Merges-more yielded c.loop-path.merged.items c.add_weight.new.entries.items c.in-Some.path c.in-Some.weight c.loop-path.invariant.0 c.in_ok-add_weight.ensures.adds
          (once-rising c.add_weight.new.entries.items c.in_ok-add_weight.ensures.rising),
      c.in_ok-add_weight.ensures.rising,
      subst AreSorted (sym (append_assoc yielded (entry ∷ []) c.next.new.self.rest.items)) sorted,
      λ some. (
        omega (arith, length-append yielded (entry ∷ [])),
        c.in_ok-add_weight.ensures.last.1 ∙ sym (ap (λ (e : List ℕ × ℕ). e.0) (last-push yielded entry)),
      ),
    )
