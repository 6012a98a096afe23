use Rattle.std.proofs.Common.{◌∷◌, [], Some, length, replicate, refl, ap, sym, subst, ◌∙◌, arith}
use Rattle.std.proofs.lemmas.List.{length-reverse}
use Rattle.flow_models.specs.Problem.{instance}
use Rattle.refute_tree.specs.Choices.{Place, stands_for}
use Rattle.refute_tree.specs.OneBox.{box_of}
use Rattle.refute_tree.specs.Sums.{SumsUp}
use Rattle.refute_tree.proofs.front.Front.root.Goals as goal

pub mend-requires-clause-totals : goal.mend-requires-clause-totals
mend-requires-clause-totals c =
    c.in_ok-sums.ensures c.args.net.now c.in_ok-one.one.links (sym c.edges.ensures.edges) (omega (arith, c.in_ok-one.ensures.kept.slots, c.in_ok-one.ensures.slots))

pub closing_token-closing-requires-clause-beside : goal.closing_token-closing-requires-clause-beside
closing_token-closing-requires-clause-beside c =
    let one = c.in_ok-one.one in
    record {
      room = c.mend.ensures.totals.room.uppers ∙ c.in_ok-one.ensures.kept.slots;
      sums = subst (λ rs. SumsUp (instance c.args.net.now c.args.p.now) (box_of rs one.links.links) c.mend.new.self) c.deref.ensures.value c.mend.ensures.sums;
      known = c.in_ok-known.ensures one.links.links;
    }

pub invariant_of-result : goal.invariant_of-result
invariant_of-result c =
    let g = c.args.net.now in
    let i = instance g c.args.p.now in
    let one = c.in_ok-one.one in
    let place = c.in_ok-one.ensures.place in
    record {
      problem = record { net = c.edges.ensures.net; ranged = c.requires.ranged; rules = c.requires.rules };
      fits = omega arith;
      few = omega arith;
      first = λ _. record {
        one = c.in_ok-one.ensures.kept;
        cells = c.in_ok-one.ensures.room;
        spent = omega (arith, ap (λ (p : Place). length p.choices) place, length-reverse one.choices.items);
        totals = c.mend.ensures.totals;
        sums = subst (λ rs. SumsUp i (box_of rs one.links.links) c.mend.new.self) c.deref.ensures.value c.mend.ensures.sums;
        known = c.in_ok-known.ensures one.links.links;
      };
      closing = c.closing_token-closing.ensures;
      left = record {
        tokens = [];
        count = refl;
        left = ap Some (sym (ap (λ (p : Place). stands_for g p.box p.choices) place ∙ ap (λ n. replicate c.args.d.now.slots (record { lo = 0; hi = n; walk = [] }) ∷ []) c.requires.cap));
      };
    }
