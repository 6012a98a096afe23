use Rattle.std.proofs.Common.{◌≡◌, ◌+◌, Bool, true, cond, [], length, true≢false, refl, sym, ap, subst, ◌∙◌, arith}
use Rattle.decomposition.specs.Graph.{IsNet}
use Rattle.decomposition.specs.Tokens.{is_legal, after_token}
use Rattle.flow_models.specs.Problem.{instance}
use Rattle.refute_tree.specs.Front.{Boxes, first_of, closing}
use Rattle.refute_tree.specs.Kept.{shown, KeepsFirst, Replaces}
use Rattle.refute_tree.specs.Choices.{waiting}
use Rattle.refute_tree.specs.Ends.{AreSeen}
use Rattle.refute_tree.specs.Sums.{SumsUp}
use Rattle.refute_tree.specs.OneBox.{place_of, box_of, boxes_of, IsBoxBegun}
use Rattle.refute_tree.proofs.Applied.{Came, came, gone, applies, kept-boxes, left_more}
use Rattle.refute_tree.proofs.Fronts.{may_take-has, has-first, first-is, first-kept, closing-first}
use Rattle.refute_tree.proofs.ReplacedBoxes.{replaces}
use Rattle.refute_tree.proofs.front.Front.apply.Goals as goal
use Rattle.refute_tree.proofs.front.Front.apply.Goals.{After-replace_first-self-inside}

pub replace_first-self-inside-requires-clause-fits : goal.replace_first-self-inside-requires-clause-fits
replace_first-self-inside-requires-clause-fits c =
    let a = c.self.inside in
    let f = c.args.self.now in
    let legal = may_take-has f c.args.token (sym c.may_take.ensures ∙ c.if-not-may_take.false) in
    let net = subst (λ (x : Boxes). IsNet x.instance.graph) c.self.view_is c.self.invariant.problem.net in
    subst (λ b. Replaces a.net.now b c.args.token) (first-is a f c.self.view_is (has-first a f c.self.view_is legal.0))
    (subst (λ (x : Boxes). Replaces x.instance.graph (first_of f.boxes) c.args.token) (sym c.self.view_is) (replaces f.instance f.limit (first_of f.boxes) c.args.token net legal.1))

-- the token may be taken, so a first box is kept
keeps : (c : After-replace_first-self-inside) → KeepsFirst c.self.inside
keeps c = first-kept c.self.inside c.args.self.now c.self.view_is c.self.invariant (may_take-has c.args.self.now c.args.token (sym c.may_take.ensures ∙ c.if-not-may_take.false)).0

has : (c : After-replace_first-self-inside) → c.self.inside.has_first ≡ true
has c = has-first c.self.inside c.args.self.now c.self.view_is (may_take-has c.args.self.now c.args.token (sym c.may_take.ensures ∙ c.if-not-may_take.false)).0

-- and it is legal at that box
legal : (c : After-replace_first-self-inside) → is_legal (instance c.self.inside.net.now c.self.inside.problem.now) c.self.inside.decision.limit (place_of c.self.inside.one).box c.args.token ≡ true
legal c =
    let a = c.self.inside in
    let f = c.args.self.now in
    let taken = may_take-has f c.args.token (sym c.may_take.ensures ∙ c.if-not-may_take.false) in
    subst (λ b. is_legal (instance a.net.now a.problem.now) a.decision.limit b c.args.token ≡ true) (first-is a f c.self.view_is (has c))
    (subst (λ (x : Boxes). is_legal x.instance x.limit (first_of f.boxes) c.args.token ≡ true) (sym c.self.view_is) taken.1)

-- the box that comes
came_here : (c : After-replace_first-self-inside) → c.replace_first-self-inside.result ≡ true
    → Came (instance c.self.inside.net.now c.self.inside.problem.now) c.self.inside.decision.limit c.self.inside.one c.replace_first-self-inside.new.one c.args.token
came_here c is =
    let a = c.self.inside in
    let i = instance a.net.now a.problem.now in
    came i a.decision.limit a.one c.args.token c.self.invariant.problem.net (keeps c).one (legal c) c.replace_first-self-inside.new.one c.replace_first-self-inside.result
    (c.replace_first-self-inside.ensures.place i refl) is

pub returns-then-not-self : goal.returns-then-not-self
returns-then-not-self c =
    let a = c.self.inside in
    let i = instance a.net.now a.problem.now in
    let b = (goal.at.returns-then-not-self c).After-replace_first-self-inside in
    let new = c.replace_first-self-inside.new.one in
    let none = gone i a.decision.limit a.one c.args.token c.self.invariant.problem.net (keeps b).one (legal b) new c.replace_first-self-inside.result
    (c.replace_first-self-inside.ensures.place i refl) c.if-not-self.true in
    applies (shown a) c.args.self.now _ c.args.token [] c.self.view_is (ap (after_token i a.decision.limit c.args.token) (kept-boxes a (has b)) ∙ none)
    (ap (λ (b : Bool). record (shown a) { used = a.used + 1; boxes = cond b (boxes_of a.net.now new) [] }) c.if-not-self.true)

pub invariant_of-self : goal.invariant_of-self
invariant_of-self c =
    let a = c.self.inside in
    let i = instance a.net.now a.problem.now in
    let b = (goal.at.invariant_of-self c).After-replace_first-self-inside in
    let new = c.replace_first-self-inside.new.one in
    let none = gone i a.decision.limit a.one c.args.token c.self.invariant.problem.net (keeps b).one (legal b) new c.replace_first-self-inside.result (c.replace_first-self-inside.ensures.place i refl) c.if-not-self.true in
    record {
      problem = c.self.invariant.problem;
      fits = omega (arith, c.requires.room, ap (λ (x : Boxes). x.used) c.self.view_is, ap (λ (x : Boxes). x.room) c.self.view_is);
      few = c.self.invariant.few;
      first = λ some. absurd (true≢false (sym some ∙ c.if-not-self.true));
      closing = sym (ap (λ (h : Bool). closing (record (shown a) { boxes = cond h (boxes_of a.net.now new) [] })) c.if-not-self.true);
      left = left_more (shown a) _ c.args.token [] c.self.invariant.left (ap (after_token i a.decision.limit c.args.token) (kept-boxes a (has b)) ∙ none)
          (ap (λ (h : Bool). record (shown a) { used = a.used + 1; boxes = cond h (boxes_of a.net.now new) [] }) c.if-not-self.true);
    }

pub mend-requires-clause-slots : goal.mend-requires-clause-slots
mend-requires-clause-slots c = (came_here (goal.at.mend-requires-clause-slots c).After-replace_first-self-inside c.if-not-self.false).box.slots ∙ ap length (sym c.deref.ensures.value)

pub mend-requires-clause-begun : goal.mend-requires-clause-begun
mend-requires-clause-begun c =
    subst (λ rs. IsBoxBegun c.self.inside.net.now (box_of rs c.replace_first-self-inside.new.one.links.links)) (sym c.deref.ensures.value)
    (came_here (goal.at.mend-requires-clause-begun c).After-replace_first-self-inside c.if-not-self.false).box.begun

pub closing_token-self-inside-requires-clause-kept : goal.closing_token-self-inside-requires-clause-kept
closing_token-self-inside-requires-clause-kept c = (came_here (goal.at.closing_token-self-inside-requires-clause-kept c).After-replace_first-self-inside c.if-not-self.false).box

-- what is known is of the new walks
known : (c : After-replace_first-self-inside) → AreSeen c.self.inside.problem.now.rules c.replace_first-self-inside.new.one.links.links c.replace_first-self-inside.new.beside.known
known c =
    subst (λ rules. AreSeen rules c.replace_first-self-inside.new.one.links.links c.replace_first-self-inside.new.beside.known) (keeps c).known.same
    c.replace_first-self-inside.ensures.beside.known

pub closing_token-self-inside-requires-clause-beside : goal.closing_token-self-inside-requires-clause-beside
closing_token-self-inside-requires-clause-beside c =
    let b = (goal.at.closing_token-self-inside-requires-clause-beside c).After-replace_first-self-inside in
    let i = instance c.self.inside.net.now c.self.inside.problem.now in
    let new = c.replace_first-self-inside.new.one in
    record {
      room = c.mend.ensures.totals.room.uppers ∙ (came_here b c.if-not-self.false).box.slots;
      sums = subst (λ rs. SumsUp i (box_of rs new.links.links) c.mend.new.self) c.deref.ensures.value c.mend.ensures.sums;
      known = known b;
    }

pub invariant_of-self-2 : goal.invariant_of-self-2
invariant_of-self-2 c =
    let a = c.self.inside in
    let i = instance a.net.now a.problem.now in
    let b = (goal.at.invariant_of-self-2 c).After-replace_first-self-inside in
    let new = c.replace_first-self-inside.new.one in
    let here = came_here b c.if-not-self.false in
    let old = keeps b in
    record {
      problem = c.self.invariant.problem;
      fits = omega (arith, c.requires.room, ap (λ (x : Boxes). x.used) c.self.view_is, ap (λ (x : Boxes). x.room) c.self.view_is);
      few = c.self.invariant.few;
      first = λ _. record {
        one = here.box;
        cells = here.room ∙ old.cells;
        spent = omega (arith, here.few, old.spent);
        totals = c.mend.ensures.totals;
        sums = subst (λ rs. SumsUp i (box_of rs new.links.links) c.mend.new.self) c.deref.ensures.value c.mend.ensures.sums;
        known = known b;
      };
      closing = closing-first (shown a) c.replace_first-self-inside.result (place_of new).box (waiting a.net.now (place_of new).box (place_of new).choices) c.closing_token-self-inside.result c.if-not-self.false c.closing_token-self-inside.ensures;
      left = left_more (shown a) _ c.args.token (boxes_of a.net.now new) c.self.invariant.left (ap (after_token i a.decision.limit c.args.token) (kept-boxes a (has b)) ∙ here.boxes)
          (ap (λ (h : Bool). record (shown a) { used = a.used + 1; boxes = cond h (boxes_of a.net.now new) [] }) c.if-not-self.false);
    }

pub returns : goal.returns
returns c =
    let a = c.self.inside in
    let i = instance a.net.now a.problem.now in
    let b = (goal.at.returns c).After-replace_first-self-inside in
    let new = c.replace_first-self-inside.new.one in
    applies (shown a) c.args.self.now _ c.args.token (boxes_of a.net.now new) c.self.view_is
    (ap (after_token i a.decision.limit c.args.token) (kept-boxes a (has b)) ∙ (came_here b c.if-not-self.false).boxes)
    (ap (λ (h : Bool). record (shown a) { used = a.used + 1; boxes = cond h (boxes_of a.net.now new) [] }) c.if-not-self.false)
