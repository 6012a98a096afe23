-- In a merged list no path stands twice.
use Rattle.std.proofs.Common.{◌≡◌, ◌==◌, ℕ, List, [], get_or, true, sym, subst, ◌∙◌, arith, true≢false}
use Rattle.std.specs.List.{IsDistinct}
use Rattle.std.specs.Cmp.Lexicographic.{pointwise}
use Rattle.std.proofs.lemmas.Cmp.{nat_list_eq_equiv}
use Rattle.std.proofs.lemmas.Map.Keys.{apart_from_distinct}
use Rattle.decomposition.specs.Answer.{same_path}
use Rattle.flow_solver.specs.Right.{HasEachPathOnce}

pub paths_once : (a : List (List ℕ × ℕ)) → IsDistinct same_path a → HasEachPathOnce a
paths_once a distinct k l entry before inside same =
    let path = (get_or a k entry).0 in
    let equal : same_path (get_or a k entry) (get_or a l entry) ≡ true = subst (λ p. pointwise (λ d e. d == e) path p ≡ true) same (nat_list_eq_equiv.refl path) in
    true≢false (sym equal ∙ apart_from_distinct same_path a k l entry distinct before inside)

pub nothing_once : HasEachPathOnce []
nothing_once k l entry before inside = absurd (omega (arith, inside))
