use Rattle.std.proofs.Common.{rules}
use Rattle.std.specs.Ordering.{is_lt}
use Rattle.std.proofs.lemmas.List.Sorted.{ranks_by, answers_always}
use Rattle.std.proofs.lemmas.Result.{on_ok_weaker}
use Rattle.dag_net.proofs.Rising.{path_cmp, path_total, AreSorted-from_sort}
use Rattle.dag_net.proofs.tidying.sort_by_path.Goals as goal

pub returns-clause-order : goal.returns-clause-order
returns-clause-order c =
    on_ok_weaker c.sort_by.result
    (λ sorted. AreSorted-from_sort _ (sorted (λ x y. is_lt (path_cmp x y)) (ranks_by path_total (λ x. x)) (answers_always _ _ _ (λ f a r f' k. search rules))))
    c.sort_by.ensures.sorted
