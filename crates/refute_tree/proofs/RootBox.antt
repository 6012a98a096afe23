-- The root box, to which no choice led.
use Rattle.std.proofs.Common.{◌≡◌, ℕ, zero, suc, ◌<◌, ◌≤◌, ◌^◌, List, [], ◌∷◌, replicate, length, vec_capacity, refl, sym, ap, ◌∙◌, subst, arith}
use Rattle.std.specs.Prelude.{All, reverse}
use Rattle.std.proofs.lemmas.List.{length-replicate}
use Rattle.std.proofs.lemmas.List.Elements.{All-nil, All-replicate}
use Rattle.decomposition.specs.Graph.{Graph, IsNet, edge_count}
use Rattle.decomposition.specs.Reach.{IsBegun}
use Rattle.link_cells.specs.Links.{LinkList}
use Rattle.refute_tree.specs.declared.choice.Choice.{Choice}
use Rattle.refute_tree.specs.declared.one_box.OneBox.{OneBox}
use Rattle.refute_tree.specs.Choices.{slot_of, links_of}
use Rattle.refute_tree.specs.OneBox.{slots_from, box_of, place_of, IsBoxBegun, IsOneBox}

-- each of the same slots with the empty walk
slots-replicate : (k n cap : ℕ) → slots_from k (replicate n (record { lo = 0; hi = cap })) [] ≡ replicate n (record { lo = 0; hi = cap; walk = [] })
slots-replicate k zero cap = refl
slots-replicate k (suc n) cap = ap (λ b. record { lo = 0; hi = cap; walk = [] } ∷ b) (slots-replicate (suc k) n cap)

module _ (a : OneBox) (n cap edges room : ℕ) (ranges : a.ranges.items ≡ replicate n (record { lo = 0; hi = cap })) (links : a.links ≡ record { slots = n; edges = edges; room = room; links = [] })
    (choices : a.choices.items ≡ []) where
  box-is : box_of a.ranges.items a.links.links ≡ replicate n (record { lo = 0; hi = cap; walk = [] })
  box-is = ap (λ rs. box_of rs a.links.links) ranges ∙ ap (λ (l : LinkList). box_of (replicate n (record { lo = 0; hi = cap })) l.links) links ∙ slots-replicate 0 n cap

  pub root_place : place_of a ≡ record { box = replicate n (record { lo = 0; hi = cap; walk = [] }); choices = [] }
  root_place =
      ap (λ b. record { box = b; choices = (place_of a).choices }) box-is
      ∙ ap (λ cs. record { box = replicate n (record { lo = 0; hi = cap; walk = [] }); choices = cs }) none
    where
      none : (place_of a).choices ≡ []
      none = ap (λ (cs : List Choice). reverse cs) choices

  pub root_length : length a.ranges.items ≡ n
  root_length = ap length ranges ∙ length-replicate n _

  pub root_kept : (g : Graph) → IsNet g → edges ≡ edge_count g → n < 2 ^ 32 → room ≤ vec_capacity a.choices → IsOneBox g a
  root_kept g net all few capacity = record {
    net = net;
    slots = ap (λ (l : LinkList). l.slots) links ∙ sym root_length;
    edges = ap (λ (l : LinkList). l.edges) links ∙ all;
    links = ap (λ (l : LinkList). l.links) links ∙ ap (λ (cs : List Choice). reverse (links_of (reverse cs))) (sym choices);
    within = subst (All (λ c. slot_of c < length a.ranges.items)) (ap (λ (cs : List Choice). reverse cs) (sym choices)) (All-nil (λ c. slot_of c < length a.ranges.items));
    begun = subst (IsBoxBegun g) (sym box-is) (All-replicate (λ s. IsBegun g s.walk) n (record { lo = 0; hi = cap; walk = [] }) tt);
    choices = omega (arith, capacity, ap (λ (l : LinkList). l.room) links);
    few = omega (arith, few, root_length);
  }
