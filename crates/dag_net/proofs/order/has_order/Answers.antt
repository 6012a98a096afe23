use Rattle.std.proofs.Common.{◌≡◌, Bool, true, Option, Some, None, MatchOption, sym, ◌∙◌, true≢false}
use Rattle.std.specs.Option.{is_some}
use Rattle.decomposition.specs.Graph.{graph_of, IsNet}
use Rattle.dag_net.specs.Order.{IsOrder}
use Rattle.dag_net.proofs.Ordering.{IsNet-from_order}
use Rattle.dag_net.proofs.order.has_order.Goals as goal

decides : {X : Type 0} (found : Option X) (P : X → Type 0) (N : Type 0) (has : Bool) → MatchOption found (¬ N) P → ((x : X) → P x → N) → has ≡ is_some found → (has ≡ true → N) × (N → has ≡ true)
decides None P N has m f is = (λ t. absurd (true≢false (sym t ∙ is)), λ n. absurd (m n))
decides (Some x) P N has m f is = (λ t. f x m, λ n. is)

pub returns : goal.returns
returns c =
    let g = graph_of c.args.vertices c.args.edges.now in
    decides c.in_ok-find_order.field-0 (λ order. IsOrder g order.items) (IsNet g) c.is_some.result c.in_ok-find_order.ensures (λ order o. IsNet-from_order g order.items c.requires.inside c.requires.distinct o) c.is_some.ensures
