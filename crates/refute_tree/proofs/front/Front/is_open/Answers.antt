use Rattle.std.proofs.Common.{◌≡◌, ◌≢◌, ◌<◌, [], None, length, ap, sym, ◌∙◌, arith}
use Rattle.decomposition.specs.declared.Token.TheVariants.{Split, Step}
use Rattle.decomposition.specs.Graph.{edge_count}
use Rattle.refute_tree.specs.Front.{Boxes, first_of, closing_token}
use Rattle.refute_tree.proofs.Fronts.{some-boxes, no-boxes, closing-is, closing-some, first-length, Branching, may_take-split, may_take-step, may_take-has}
use Rattle.refute_tree.proofs.Opening.{closing_token-legal, open-from, no_branch, can-from, none-from, some-from, closed-none, closed-by}
use Rattle.refute_tree.proofs.front.Front.is_open.Goals as goal
use Rattle.refute_tree.proofs.front.Front.is_open.Goals.{After-slots-slot-end, then-not-self-via-then-not-self, then-not-self-via-else-not-self+then-is_some, then-is_apart-via-then-is_apart, then-is_apart-via-else-is_apart+then-is_unfinished}

pub returns-then-not-self-clause-closed : goal.returns-then-not-self-clause-closed
returns-then-not-self-clause-closed c _ =
    let a = c.self.inside in
    let f = c.args.self.now in
    elim c.then-not-self.branch [
      | then-not-self-via-then-not-self w ↦ closed-none f (no-boxes a f c.self.view_is w.if-not-self.true)
      | then-not-self-via-else-not-self+then-is_some w ↦
          let some = some-boxes a f c.self.view_is w.if-not-self.false in
          let token = some-from a.closing (sym w.is_some.ensures ∙ w.if-is_some.true) in
          closed-by f token.0 (closing_token-legal f.instance f.limit (first_of f.boxes) token.0 (sym (closing-some f some) ∙ sym (closing-is a f c.self.view_is c.self.invariant) ∙ token.1))
    ]

-- there is a first box, and no token closes it
some : (c : After-slots-slot-end) → c.args.self.now.boxes ≢ []
some c = some-boxes c.self.inside c.args.self.now c.self.view_is c.if-not-self.false

not_closed : (c : After-slots-slot-end) → closing_token c.args.self.now.instance c.args.self.now.limit (first_of c.args.self.now.boxes) ≡ None
not_closed c = sym (closing-some c.args.self.now (some c)) ∙ sym (closing-is c.self.inside c.args.self.now c.self.view_is c.self.invariant) ∙ none-from c.self.inside.closing (sym c.is_some.ensures ∙ c.if-is_some.false)

-- the slots that are looked at are those of the first box
count : (c : After-slots-slot-end) → length (first_of c.args.self.now.boxes) ≡ c.slots-slot-end.result
count c = first-length c.self.inside c.args.self.now c.self.view_is c.if-not-self.false ∙ sym c.slots-slot-end.ensures

pub is_apart-requires-clause-slot : goal.is_apart-requires-clause-slot
is_apart-requires-clause-slot c = omega (arith, count (goal.at.is_apart-requires-clause-slot c).After-slots-slot-end, c.loop-slot-test.true)

pub is_unfinished-requires-clause-slot : goal.is_unfinished-requires-clause-slot
is_unfinished-requires-clause-slot c = omega (arith, count (goal.at.is_unfinished-requires-clause-slot c).After-slots-slot-end, c.loop-slot-test.true)

pub returns-then-is_apart-clause-closed : goal.returns-then-is_apart-clause-closed
returns-then-is_apart-clause-closed c _ =
    let f = c.args.self.now in
    let k = c.loop-slot.slot in
    let b = (goal.at.returns-then-is_apart-clause-closed c).After-slots-slot-end in
    let edges : 0 < edge_count f.instance.graph = omega (arith, ap (λ (x : Boxes). edge_count x.instance.graph) c.self.view_is) in
    let inside : k < length (first_of f.boxes) = omega (arith, count b, c.loop-slot-test.true) in
    let branching : Branching f k = record { some = some b; inside = inside; can = can-from f.instance f.limit (first_of f.boxes) (not_closed b) edges } in
    elim c.then-is_apart.branch [
      | then-is_apart-via-then-is_apart w ↦ closed-by f (Split k) (may_take-has f (Split k) (sym (may_take-split f k branching) ∙ sym c.is_apart.ensures ∙ w.if-is_apart.true)).1
      | then-is_apart-via-else-is_apart+then-is_unfinished w ↦ closed-by f (Step k) (may_take-has f (Step k) (sym (may_take-step f k branching) ∙ sym w.is_unfinished.ensures ∙ w.if-is_unfinished.true)).1
    ]

pub returns-clause-open : goal.returns-clause-open
returns-clause-open c _ =
    let f = c.args.self.now in
    let b = (goal.at.returns-clause-open c).After-slots-slot-end in
    record {
      some = some b;
      open' = open-from f.instance f.limit (first_of f.boxes) (not_closed b) (λ k l.
          let each = c.loop-slot.invariant k (omega (arith, count b, l)) in
          no_branch f.instance f.limit (first_of f.boxes) k each.0 each.1);
    }
