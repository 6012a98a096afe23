-- A token at one box.
use Rattle.std.proofs.Common.{true, false, ◌≡◌, ℕ, ◌<◌, List, [], ◌∷◌, length, Option, None, Some, refl, sym, ap, ◌∙◌, subst, arith, eqb, eq-eqb}
use Rattle.std.specs.Prelude.{IsTrue, IsSome, MatchOption}
use Rattle.std.proofs.lemmas.List.Elements.{All-get_or}
use Rattle.decomposition.specs.declared.Token.{Token}
use Rattle.decomposition.specs.declared.Token.TheVariants.{Split as SplitToken, Step as StepToken}
use Rattle.decomposition.specs.Graph.{Graph, has_edge}
use Rattle.decomposition.specs.Instance.{Instance}
use Rattle.decomposition.specs.Boxes.{slot_at}
use Rattle.decomposition.specs.Reach.{IsBegun}
use Rattle.decomposition.specs.Tokens.{next_edges, with_edge}
use Rattle.decomposition.proofs.Members.{any-here}
use Rattle.refute_tree.specs.Kept.{Replaces}
use Rattle.refute_tree.specs.declared.choice.Choice.TheVariants.{Step}
use Rattle.refute_tree.specs.declared.one_box.OneBox.{OneBox}
use Rattle.refute_tree.specs.Choices.{later, later_of, Place, or_place, step_by, undone, place_after}
use Rattle.link_cells.specs.Links.{walk_of}
use Rattle.refute_tree.specs.OneBox.{box_of, place_of, IsOneBox, Comes}
use Rattle.refute_tree.proofs.NextEdges.{later_is}
use Rattle.refute_tree.proofs.Leading.{box-length}
use Rattle.refute_tree.proofs.Placing.{walk_at}

pub split_inside : (g : Graph) (a : OneBox) (t : Token) (k : ℕ) → Replaces g (place_of a).box t → t ≡ SplitToken k → k < length a.ranges.items
split_inside g a t k fits is = let now : Replaces g (place_of a).box (SplitToken k) = subst (Replaces g (place_of a).box) is fits in omega (arith, now.0, box-length a.ranges.items a.links.links)

pub step_inside : (g : Graph) (a : OneBox) (t : Token) (k : ℕ) → Replaces g (place_of a).box t → t ≡ StepToken k → k < length a.ranges.items
step_inside g a t k fits is = let now : Replaces g (place_of a).box (StepToken k) = subst (Replaces g (place_of a).box) is fits in omega (arith, now.0, box-length a.ranges.items a.links.links)

-- the walk of a slot, by its links
pub walk_begun : (g : Graph) (a : OneBox) (k : ℕ) → IsOneBox g a → k < length a.ranges.items → IsBegun g (walk_of a.links.links k)
walk_begun g a k kept inside =
    subst (IsBegun g) (walk_at a.ranges.items a.links.links k inside)
    (All-get_or (λ s. IsBegun g s.walk) (box_of a.ranges.items a.links.links) k _ (omega (arith, inside, box-length a.ranges.items a.links.links)) kept.begun)

-- the edges after one that may follow the walk of a slot, by that edge alone
pub later_at : (g : Graph) (a : OneBox) (k e : ℕ) → IsOneBox g a → k < length a.ranges.items → IsTrue (has_edge (next_edges g (slot_at (place_of a).box k).walk) e)
    → later g (walk_of a.links.links k) e ≡ later_of g e
later_at g a k e kept inside next =
    later_is g (walk_of a.links.links k) e (walk_begun g a k kept inside) (subst (λ w. IsTrue (has_edge (next_edges g w) e)) (walk_at a.ranges.items a.links.links k inside) next)

abbrev IsFirst : Graph → List ℕ → Option ℕ → Type 0
IsFirst g walk r = MatchOption r (next_edges g walk ≡ []) (λ e. next_edges g walk ≡ e ∷ later g walk e)

pub step_some : (g : Graph) (a : OneBox) (t : Token) (k : ℕ) (r : Option ℕ) → Replaces g (place_of a).box t → t ≡ StepToken k → k < length a.ranges.items → IsFirst g (walk_of a.links.links k) r → IsSome r
step_some g a t k None fits is inside first =
    let now : Replaces g (place_of a).box (StepToken k) = subst (Replaces g (place_of a).box) is fits in
    absurd (now.1 (ap (next_edges g) (walk_at a.ranges.items a.links.links k inside) ∙ first))
step_some g a t k (Some e) fits is inside first = refl

-- the next edges of the slot are the first, and those after it
pub step_edges : (g : Graph) (a : OneBox) (k e : ℕ) (r : Option ℕ) → k < length a.ranges.items → IsFirst g (walk_of a.links.links k) r → r ≡ Some e
    → next_edges g (slot_at (box_of a.ranges.items a.links.links) k).walk ≡ e ∷ later g (walk_of a.links.links k) e
step_edges g a k e r inside first is =
    ap (next_edges g) (walk_at a.ranges.items a.links.links k inside) ∙ (let now : IsFirst g (walk_of a.links.links k) (Some e) = subst (IsFirst g (walk_of a.links.links k)) is first in now)

pub step_follows : (g : Graph) (walk : List ℕ) (e : ℕ) (es : List ℕ) → next_edges g walk ≡ e ∷ es → IsTrue (has_edge (next_edges g walk) e)
step_follows g walk e es is = subst (λ l. IsTrue (has_edge l e)) (sym is) (any-here (λ y. eqb e y) e es (eq-eqb e e refl))

pub step_returns : (g : Graph) (old new : OneBox) (t : Token) (k e : ℕ) (es : List ℕ) (i : Instance) → i.graph ≡ g → t ≡ StepToken k
    → next_edges g (slot_at (place_of old).box k).walk ≡ e ∷ es → Comes g old new (record { box = with_edge (place_of old).box k e; choices = Step k e ∷ (place_of old).choices })
    → MatchOption (place_after i (place_of old) t) (true ≡ false) (λ p. (true ≡ true) × Comes g old new p)
step_returns g old new t k e es i graph is next comes =
    let p : Place = place_of old in
    let edges : next_edges i.graph (slot_at p.box k).walk ≡ e ∷ es = ap (λ h. next_edges h (slot_at p.box k).walk) graph ∙ next in
    let place : place_after i p t ≡ Some (record { box = with_edge p.box k e; choices = Step k e ∷ p.choices })
    = ap (place_after i p) is ∙ ap (λ l. or_place (step_by p.box k p.choices l) (undone i.graph p.box p.choices)) edges in
    subst (λ r. MatchOption r (true ≡ false) (λ q. (true ≡ true) × Comes g old new q)) (sym place) (refl, comes)
