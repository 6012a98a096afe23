use Rattle.std.proofs.Common.{◌<◌, ℕ, List, append-nil, sym, ap, subst, arith}
use Rattle.std.specs.Prelude.{All}
use Rattle.std.proofs.lemmas.List.Elements.{All-pop}
use Rattle.decomposition.specs.Graph.{edge_count}
use Rattle.decomposition.specs.Answer.{weight_on}
use Rattle.run_weight.specs.Sorting.{IsCarrier}
use Rattle.run_weight.proofs.Exchanging.{path-edges}
use Rattle.run_weight.proofs.Weights.{weight_on-push}
use Rattle.run_weight.proofs.sorting.Sorting.settle_entry.Goals as goal

pub first_exit-requires-clause-path : goal.first_exit-requires-clause-path
first_exit-requires-clause-path c = subst (All (λ e. e < edge_count c.args.net.now)) (sym c.as_slice.ensures) (path-edges c.args.net.now c.args.path c.requires.entry.path)

pub returns-in_default-clause-weights : goal.returns-in_default-clause-weights
returns-in_default-clause-weights c = λ e.
    omega (arith, ap (λ (l : List (List ℕ × ℕ)). weight_on l e) c.in_ok-push.ensures.items, weight_on-push c.args.self.now.settled.items c.args.path c.args.weight e)

pub returns-in_default-pop-clause-weights : goal.returns-in_default-pop-clause-weights
returns-in_default-pop-clause-weights c = λ e.
    omega (
      arith,
      ap (λ (l : List (List ℕ × ℕ)). weight_on l e) c.in_default-pop.ensures.items,
      ap (λ (l : List (List ℕ × ℕ)). weight_on l e) (append-nil c.pop.new.self.items),
      ap (λ (l : List (List ℕ × ℕ)). weight_on l e) c.in_ok-push-2.ensures.items,
      weight_on-push c.args.self.now.settled.items c.args.path c.args.weight e,
    )

pub exchange-requires-clause-carrier : goal.exchange-requires-clause-carrier
exchange-requires-clause-carrier c =
    let popped = All-pop (IsCarrier c.args.net.now c.args.run.now) c.args.self.now.carriers.items c.pop.new.self.items c.pop.result c.pop.ensures.items c.requires.sorted.carriers in
    rw c.in-Some-pop.is at popped.1

pub exchange-requires-clause-carriers : goal.exchange-requires-clause-carriers
exchange-requires-clause-carriers c = (All-pop (IsCarrier c.args.net.now c.args.run.now) c.args.self.now.carriers.items c.pop.new.self.items c.pop.result c.pop.ensures.items c.requires.sorted.carriers).0

pub returns-clause-weights : goal.returns-clause-weights
returns-clause-weights c = λ e.
    omega (
      arith,
      c.in_ok-exchange.ensures.weights e,
      ap (λ (l : List (List ℕ × ℕ)). weight_on l e) c.in-Some-pop.ensures.items,
      weight_on-push c.pop.new.self.items c.in-Some-pop.carrier c.in-Some-pop.carried e,
    )
