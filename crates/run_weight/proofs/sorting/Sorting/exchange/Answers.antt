use Rattle.std.proofs.Common.{◌≡◌, ◌<◌, ◌-◌, ◌++◌, ◌∷◌, [], ℕ, List, length, slice_index, sym, ap, ◌∙◌, subst, arith}
use Rattle.std.proofs.lemmas.Bool.{both_ways}
use Rattle.decomposition.specs.Graph.{has_edge}
use Rattle.decomposition.specs.Answer.{weight_on}
use Rattle.decomposition.proofs.Crowds.{contains_run-has}
use Rattle.run_weight.specs.Exits.{joined}
use Rattle.run_weight.specs.Sorting.{Adds}
use Rattle.run_weight.proofs.Exchanging.{has-at, IsExchanged, IsExchanged-of}
use Rattle.run_weight.proofs.Turns.{Turn, turn-carriers, turn-pending, turn-weights, turn-less}
use Rattle.run_weight.proofs.sorting.Sorting.exchange.Goals as goal
use Rattle.run_weight.proofs.sorting.Sorting.exchange.Goals.{In_ok-add_entry-2}

pub unreachable-requires : goal.unreachable-requires
unreachable-requires c =
    let run = c.args.run.now in
    let has = contains_run-has c.args.carrier run (slice_index run c.args.exit.along) c.requires.carrier.contains (has-at run c.args.exit.along c.requires.exit.on_run) in
    both_ways _ (ap (λ (l : List ℕ). has_edge l (slice_index run c.args.exit.along)) (sym c.as_slice.ensures) ∙ c.in_default.ensures.none) has

-- what the calls have made
made : (c : In_ok-add_entry-2) → IsExchanged c.args.net.now c.args.run.now c.args.carrier c.args.path c.in_ok-leaving.leaving c.in_ok-coming.coming
made c =
    let at = c.in-Some.at in
    let exit = c.args.exit in
    let inside : at < length c.args.carrier = omega (arith, c.in-Some.ensures.found, ap (λ (l : List ℕ). length l) c.as_slice.ensures) in
    let is : slice_index c.args.carrier at ≡ slice_index c.args.run.now exit.along = ap (λ (l : List ℕ). slice_index l at) (sym c.as_slice.ensures) ∙ c.in-Some.ensures.edge in
    let leaving : c.in_ok-leaving.leaving ≡ joined c.args.carrier at c.args.path exit.at
    = c.in_ok-leaving.ensures ∙ (ap (λ (l : List ℕ). joined l at c.as_slice-3.result.now exit.at) c.as_slice-2.ensures ∙ ap (λ (l : List ℕ). joined c.args.carrier at l exit.at) c.as_slice-3.ensures) in
    let coming : c.in_ok-coming.coming ≡ joined c.args.path exit.at c.args.carrier at
    = c.in_ok-coming.ensures ∙ (ap (λ (l : List ℕ). joined l exit.at c.as_slice-5.result.now at) c.as_slice-4.ensures ∙ ap (λ (l : List ℕ). joined c.args.path exit.at l at) c.as_slice-5.ensures) in
    let paths = IsExchanged-of c.args.net.now c.requires.net c.args.run.now c.requires.run c.args.carrier c.args.path at exit.at exit.along c.requires.carrier.path c.requires.entry.path c.requires.carrier.contains inside is c.requires.exit in
    subst (λ l. IsExchanged c.args.net.now c.args.run.now c.args.carrier c.args.path l c.in_ok-coming.coming) (sym leaving)
    (subst (λ l. IsExchanged c.args.net.now c.args.run.now c.args.carrier c.args.path (joined c.args.carrier at c.args.path exit.at) l) (sym coming) paths)

turn : (c : In_ok-add_entry-2)
    → Turn c.args.net.now c.args.run.now c.args.carrier c.args.carried c.args.path c.args.weight c.args.self.now.carriers.items c.args.self.now.pending.items c.add_entry-2.new.entries.items c.add_entry.new.entries.items
turn c = record {
  leaving = c.in_ok-leaving.leaving;
  coming = c.in_ok-coming.coming;
  units = c.min-units.result;
  exchanged = made c;
  positive = omega (arith, c.requires.entry.positive, c.requires.carrier.positive);
  in_carrier = omega arith;
  in_entry = omega arith;
  rest = subst (λ (l : List (List ℕ × ℕ)). Adds l c.args.path (c.args.weight - c.min-units.result) c.add_entry.new.entries.items)
      (c.in_ok-push-2.ensures.items ∙ ap (λ (l : List (List ℕ × ℕ)). l ++ (c.in_ok-coming.coming, c.min-units.result) ∷ []) c.in_ok-push.ensures.items) c.in_ok-add_entry.ensures;
  carrier_rest = c.in_ok-add_entry-2.ensures;
}

pub returns-clause-carriers : goal.returns-clause-carriers
returns-clause-carriers c = turn-carriers _ _ _ _ _ _ _ _ _ _ (turn c) c.requires.carrier c.requires.carriers

pub returns-clause-pending : goal.returns-clause-pending
returns-clause-pending c = turn-pending _ _ _ _ _ _ _ _ _ _ (turn c) c.requires.entry c.requires.pending

pub returns-clause-weights : goal.returns-clause-weights
returns-clause-weights c = λ e. turn-weights _ _ _ _ _ _ _ _ _ _ (turn c) e (weight_on c.args.self.now.settled.items e)

pub returns-clause-less : goal.returns-clause-less
returns-clause-less c = turn-less _ _ _ _ _ _ _ _ _ _ (turn c)
