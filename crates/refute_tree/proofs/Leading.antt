-- One box after a choice that was noted, and before a choice that is undone.
use Rattle.std.proofs.Common.{Bool, true, false, ◌≡◌, ℕ, ◌-◌, ◌<◌, ◌≤◌, List, [], ◌∷◌, ◌++◌, length, get_or, set, take, None, Some, refl, sym, ap, ◌∙◌, subst, arith, length-append, length-set}
use Rattle.std.specs.Prelude.{IsTrue, MatchOption, reverse, vec_capacity}
use Rattle.std.proofs.lemmas.List.{reverse-append, take_at, length-reverse, set-set}
use Rattle.std.proofs.lemmas.List.Elements.{All-cons, All-head, All-tail, All-set, All-get_or}
use Rattle.decomposition.specs.Graph.{Graph, has_edge, tail, walk_end}
use Rattle.decomposition.specs.Boxes.{Slot, slot_at}
use Rattle.decomposition.specs.Tokens.{next_edges, with_edge, with_hi, with_lo}
use Rattle.decomposition.specs.Reach.{IsBegun}
use Rattle.decomposition.specs.declared.Range.{Range}
use Rattle.decomposition.proofs.Open.{begun_more}
use Rattle.decomposition.proofs.Walks.{walk-left, walk-right, walk-cons, edges_from-has, edges_from_sources-has}
use Rattle.refute_tree.specs.Choices.{later}
use Rattle.refute_tree.specs.OneBox.{IsBoxBegun}
use Rattle.refute_tree.specs.declared.choice.Choice.{Choice}
use Rattle.refute_tree.specs.declared.choice.Choice.TheVariants.{Step}
use Rattle.refute_tree.specs.declared.one_box.OneBox.{OneBox}
use Rattle.refute_tree.specs.Choices.{Place, before, or_place, step_by, next_of, undone, slot_of, AreWithin, links_of}
use Rattle.link_cells.specs.Links.{LinkList}
use Rattle.refute_tree.specs.OneBox.{box_of, place_of, IsLedTo, IsOneBox, Comes, GivesNext, GoesBack, GoesOn}
use Rattle.refute_tree.proofs.Standing.{set_back, changed, links_are_few}
use Rattle.refute_tree.proofs.Placing.{slots_from-length, box_of-link, box_of-unlink, box_of-set, box_of-hi, box_of-lo, latest_first}

pub reverse-cons : {X : Type 0} (x : X) (xs : List X) → reverse (x ∷ xs) ≡ reverse xs ++ x ∷ []
reverse-cons x xs = reverse-append (x ∷ []) xs

pub box-length : (rs : List Range) (links : List (ℕ × ℕ)) → length (box_of rs links) ≡ length rs
box-length rs links = slots_from-length 0 rs links

-- a begun walk without its last edge is begun, and the edge may follow it
pub begun_less : (g : Graph) (walk : List ℕ) (e : ℕ) → IsBegun g (walk ++ e ∷ []) → IsBegun g walk × IsTrue (has_edge (next_edges g walk) e)
begun_less g [] e begun = (tt, edges_from_sources-has g e (walk-cons g (tail g e) e [] begun.1).inside begun.0)
begun_less g (f ∷ fs) e begun =
    let last = walk-cons g (walk_end g (tail g f) (f ∷ fs)) e [] (walk-right g (tail g f) (f ∷ fs) (e ∷ []) begun.1) in
    ((begun.0, walk-left g (tail g f) (f ∷ fs) (e ∷ []) begun.1), edges_from-has g (walk_end g (tail g f) (f ∷ fs)) e last.inside last.leaves)

-- the same for a box
pub box-begun_more : (g : Graph) (b : List Slot) (k e : ℕ) → k < length b → IsBoxBegun g b → IsTrue (has_edge (next_edges g (slot_at b k).walk) e) → IsBoxBegun g (with_edge b k e)
box-begun_more g b k e inside begun next = All-set (λ s. IsBegun g s.walk) b k _ (begun_more g (slot_at b k).walk e (All-get_or (λ s. IsBegun g s.walk) b k _ inside begun) next) begun

pub box-begun_less : (g : Graph) (b : List Slot) (k e : ℕ) → k < length b → IsBoxBegun g (with_edge b k e) → IsBoxBegun g b × IsTrue (has_edge (next_edges g (slot_at b k).walk) e)
box-begun_less g b k e inside begun =
    let s : Slot = record (slot_at b k) { walk = (slot_at b k).walk ++ e ∷ [] } in
    let within : k < length (with_edge b k e) = omega (arith, inside, length-set b k s) in
    let here : IsBegun g ((slot_at b k).walk ++ e ∷ []) = subst (λ t. IsBegun g t.walk) (changed b k s inside) (All-get_or (λ t. IsBegun g t.walk) (with_edge b k e) k _ within begun) in
    let less = begun_less g (slot_at b k).walk e here in
    (subst (IsBoxBegun g) (set_back b k s (slot_at b k) refl) (All-set (λ t. IsBegun g t.walk) (with_edge b k e) k (slot_at b k) less.0 begun), less.1)

-- other bounds leave a box begun
pub box-begun_ranged : (g : Graph) (rs : List Range) (links : List (ℕ × ℕ)) (k : ℕ) (q : Range) → k < length rs → IsBoxBegun g (box_of rs links) → IsBoxBegun g (box_of (set rs k q) links)
box-begun_ranged g rs links k q inside begun =
    let within : k < length (box_of rs links) = omega (arith, inside, box-length rs links) in
    subst (IsBoxBegun g) (sym (box_of-set rs links k q inside))
    (All-set (λ s. IsBegun g s.walk) (box_of rs links) k (record (slot_at (box_of rs links) k) { lo = q.lo; hi = q.hi }) (All-get_or (λ s. IsBegun g s.walk) (box_of rs links) k _ within begun) begun)

-- ---- one box after a step

module _ (g : Graph) (cs : List Choice) (old new : OneBox) (k e : ℕ) (led : IsLedTo g cs old) (inside : k < length old.ranges.items)
    (next : IsTrue (has_edge (next_edges g (slot_at (box_of old.ranges.items old.links.links) k).walk) e))
    (ranges : new.ranges.items ≡ old.ranges.items) (links : new.links ≡ record old.links { links = old.links.links ++ (k, e) ∷ [] }) (room : old.links.room ≤ vec_capacity new.choices) where
  pub step_box : box_of new.ranges.items new.links.links ≡ with_edge (box_of old.ranges.items old.links.links) k e
  step_box = ap (λ rs. box_of rs new.links.links) ranges ∙ ap (λ (l : LinkList). box_of old.ranges.items l.links) links ∙ box_of-link old.ranges.items old.links.links k e inside

  pub step_led : IsLedTo g (Step k e ∷ cs) new
  step_led = record {
    net = led.net;
    slots = ap (λ (l : LinkList). l.slots) links ∙ led.slots ∙ ap length (sym ranges);
    edges = ap (λ (l : LinkList). l.edges) links ∙ led.edges;
    links = ap (λ (l : LinkList). l.links) links ∙ ap (λ l. l ++ (k, e) ∷ []) led.links ∙ sym (reverse-cons (k, e) (links_of cs));
    within = subst (λ rs. AreWithin (length rs) (Step k e ∷ cs)) (sym ranges) (All-cons (λ c. slot_of c < length old.ranges.items) (Step k e) cs inside led.within);
    begun = subst (IsBoxBegun g) (sym step_box) (box-begun_more g (box_of old.ranges.items old.links.links) k e (omega (arith, inside, box-length old.ranges.items old.links.links)) led.begun next);
    choices = omega (arith, room, ap (λ (l : LinkList). l.room) links);
    few = omega (arith, led.few, ap length ranges);
  }

-- ---- one box whose range of a slot is changed

module _ (g : Graph) (cs ds : List Choice) (old new : OneBox) (k : ℕ) (q : Range) (led : IsLedTo g cs old) (inside : k < length old.ranges.items)
    (ranges : new.ranges.items ≡ set old.ranges.items k q) (links : new.links ≡ old.links) (room : old.links.room ≤ vec_capacity new.choices)
    (same : links_of ds ≡ links_of cs) (within : AreWithin (length old.ranges.items) ds) where
  long : length new.ranges.items ≡ length old.ranges.items
  long = ap length ranges ∙ length-set old.ranges.items k q

  pub range_led : IsLedTo g ds new
  range_led = record {
    net = led.net;
    slots = ap (λ (l : LinkList). l.slots) links ∙ led.slots ∙ sym long;
    edges = ap (λ (l : LinkList). l.edges) links ∙ led.edges;
    links = ap (λ (l : LinkList). l.links) links ∙ led.links ∙ ap reverse (sym same);
    within = subst (λ n. AreWithin n ds) (sym long) within;
    begun = subst (λ rs. IsBoxBegun g (box_of rs new.links.links)) (sym ranges)
        (subst (λ (l : LinkList). IsBoxBegun g (box_of (set old.ranges.items k q) l.links)) (sym links) (box-begun_ranged g old.ranges.items old.links.links k q inside led.begun));
    choices = omega (arith, room, ap (λ (l : LinkList). l.room) links);
    few = omega (arith, led.few, long);
  }

  pub hi_box : (r : Range) → r ≡ get_or old.ranges.items k r → q.lo ≡ r.lo → box_of new.ranges.items new.links.links ≡ with_hi (box_of old.ranges.items old.links.links) k q.hi
  hi_box r is lo =
      ap (λ rs. box_of rs new.links.links) ranges ∙ ap (λ (l : LinkList). box_of (set old.ranges.items k q) l.links) links
      ∙ ap (λ n. box_of (set old.ranges.items k (record { lo = n; hi = q.hi })) old.links.links) lo ∙ box_of-hi old.ranges.items old.links.links k q.hi r inside is

  pub lo_box : (r : Range) → r ≡ get_or old.ranges.items k r → q.hi ≡ r.hi → box_of new.ranges.items new.links.links ≡ with_lo (box_of old.ranges.items old.links.links) k q.lo
  lo_box r is hi =
      ap (λ rs. box_of rs new.links.links) ranges ∙ ap (λ (l : LinkList). box_of (set old.ranges.items k q) l.links) links
      ∙ ap (λ n. box_of (set old.ranges.items k (record { lo = q.lo; hi = n })) old.links.links) hi ∙ box_of-lo old.ranges.items old.links.links k q.lo r inside is

-- ---- one box before a step

module _ (g : Graph) (cs : List Choice) (old new : OneBox) (k e : ℕ) (led : IsLedTo g (Step k e ∷ cs) old)
    (ranges : new.ranges.items ≡ old.ranges.items) (links : new.links ≡ record old.links { links = take (length old.links.links - 1) old.links.links }) (room : old.links.room ≤ vec_capacity new.choices) where
  pub unlink_inside : k < length old.ranges.items
  unlink_inside = All-head (λ c. slot_of c < length old.ranges.items) (Step k e) cs led.within

  pub unlink_split : old.links.links ≡ reverse (links_of cs) ++ (k, e) ∷ []
  unlink_split = led.links ∙ reverse-cons (k, e) (links_of cs)

  pub unlink_left : new.links.links ≡ reverse (links_of cs)
  unlink_left =
      ap (λ (l : LinkList). l.links) links ∙ ap (λ l. take (length l - 1) l) unlink_split
      ∙ take_at (reverse (links_of cs)) ((k, e) ∷ []) (length (reverse (links_of cs) ++ (k, e) ∷ []) - 1) (omega (arith, length-append (reverse (links_of cs)) ((k, e) ∷ [])))

  was : box_of old.ranges.items old.links.links ≡ with_edge (box_of new.ranges.items new.links.links) k e
  was =
      ap (box_of old.ranges.items) unlink_split ∙ box_of-link old.ranges.items (reverse (links_of cs)) k e unlink_inside
      ∙ ap (λ l. with_edge (box_of old.ranges.items l) k e) (sym unlink_left) ∙ ap (λ rs. with_edge (box_of rs new.links.links) k e) (sym ranges)

  -- the box before the step
  pub unlink_box : before (box_of old.ranges.items old.links.links) (Step k e) ≡ box_of new.ranges.items new.links.links
  unlink_box =
      ap (λ l. before (box_of old.ranges.items l) (Step k e)) unlink_split ∙ box_of-unlink old.ranges.items (reverse (links_of cs)) k e unlink_inside
      ∙ ap (box_of old.ranges.items) (sym unlink_left) ∙ ap (λ rs. box_of rs new.links.links) (sym ranges)

  both : IsBoxBegun g (box_of new.ranges.items new.links.links) × IsTrue (has_edge (next_edges g (slot_at (box_of new.ranges.items new.links.links) k).walk) e)
  both =
      box-begun_less g (box_of new.ranges.items new.links.links) k e
      (omega (arith, unlink_inside, box-length new.ranges.items new.links.links, ap length ranges)) (subst (IsBoxBegun g) was led.begun)

  -- the edge might follow
  pub unlink_next : IsTrue (has_edge (next_edges g (slot_at (box_of new.ranges.items new.links.links) k).walk) e)
  unlink_next = both.1

  pub unlink_led : IsLedTo g cs new
  unlink_led = record {
    net = led.net;
    slots = ap (λ (l : LinkList). l.slots) links ∙ led.slots ∙ ap length (sym ranges);
    edges = ap (λ (l : LinkList). l.edges) links ∙ led.edges;
    links = unlink_left;
    within = subst (λ rs. AreWithin (length rs) cs) (sym ranges) (All-tail (λ c. slot_of c < length old.ranges.items) (Step k e) cs led.within);
    begun = both.0;
    choices = omega (arith, room, ap (λ (l : LinkList). l.room) links);
    few = omega (arith, led.few, ap length ranges);
  }

-- there is room for a link where there is room for a choice
pub link_room : (g : Graph) (cs : List Choice) (a : OneBox) → IsLedTo g cs a → length cs < a.links.room → length a.links.links < a.links.room
link_room g cs a led room = omega (arith, room, ap length led.links, length-reverse (links_of cs), links_are_few cs)

-- ---- what a choice that was noted comes to

pub place_is : (a : OneBox) (b : List Slot) (cs : List Choice) → box_of a.ranges.items a.links.links ≡ b → reverse a.choices.items ≡ cs → place_of a ≡ record { box = b; choices = cs }
place_is a b cs box choices = ap (λ b'. record { box = b'; choices = reverse a.choices.items }) box ∙ ap (λ cs'. record { box = b; choices = cs' }) choices

pub comes : (g : Graph) (old new : OneBox) (before' : List Choice) (c : Choice) (b : List Slot) → new.choices.items ≡ before' ++ c ∷ [] → IsLedTo g (c ∷ reverse before') new
    → box_of new.ranges.items new.links.links ≡ b → new.links.room ≡ old.links.room → Comes g old new (record { box = b; choices = c ∷ reverse before' })
comes g old new before' c b items led box room =
    let choices : reverse new.choices.items ≡ c ∷ reverse before' = ap reverse items ∙ latest_first before' c in
    record {
      box = subst (λ cs. IsLedTo g cs new) (sym choices) led;
      place = place_is new b (c ∷ reverse before') box choices;
      room = room;
    }

-- both bounds of a slot changed, one after the other
pub raised : (b : List Slot) (k lo hi : ℕ) → k < length b → with_lo (with_hi b k hi) k lo ≡ set b k (record (slot_at b k) { lo = lo; hi = hi })
raised b k lo hi inside =
    let s : Slot = record (slot_at b k) { hi = hi } in
    set-set b k s (record (slot_at (set b k s) k) { lo = lo }) ∙ ap (λ (t : Slot). set b k (record t { lo = lo })) (changed b k s inside)

pub raised_lo : (b : List Slot) (k hi : ℕ) → k < length b → (slot_at (with_hi b k hi) k).lo ≡ (slot_at b k).lo
raised_lo b k hi inside = ap (λ (t : Slot). t.lo) (changed b k (record (slot_at b k) { hi = hi }) inside)

-- ---- what is undone

-- the next edge of a step, or none
pub next_some : (g : Graph) (b0 b1 : List Slot) (k e f : ℕ) (fs : List ℕ) (cs : List Choice) → before b0 (Step k e) ≡ b1 → later g (slot_at b1 k).walk e ≡ f ∷ fs
    → next_of g (before b0 (Step k e)) (Step k e) cs ≡ Some (record { box = with_edge b1 k f; choices = Step k f ∷ cs })
next_some g b0 b1 k e f fs cs is next = ap (λ b. next_of g b (Step k e) cs) is ∙ ap (step_by b1 k cs) next

pub next_none : (g : Graph) (b0 b1 : List Slot) (k e : ℕ) (cs : List Choice) → before b0 (Step k e) ≡ b1 → later g (slot_at b1 k).walk e ≡ [] → next_of g (before b0 (Step k e)) (Step k e) cs ≡ None
next_none g b0 b1 k e cs is next = ap (λ b. next_of g b (Step k e) cs) is ∙ ap (step_by b1 k cs) next

-- choices elsewhere in memory
pub led-same : (g : Graph) (cs : List Choice) (a b : OneBox) → b.ranges ≡ a.ranges → b.links ≡ a.links → a.links.room ≤ vec_capacity b.choices → IsLedTo g cs a → IsLedTo g cs b
led-same g cs a b ranges links room led = record {
  net = led.net;
  slots = ap (λ (l : LinkList). l.slots) links ∙ led.slots ∙ ap (λ r. length r.items) (sym ranges);
  edges = ap (λ (l : LinkList). l.edges) links ∙ led.edges;
  links = ap (λ (l : LinkList). l.links) links ∙ led.links;
  within = subst (λ r. AreWithin (length r.items) cs) (sym ranges) led.within;
  begun = subst (λ r. IsBoxBegun g (box_of r.items b.links.links)) (sym ranges) (subst (λ (l : LinkList). IsBoxBegun g (box_of a.ranges.items l.links)) (sym links) led.begun);
  choices = omega (arith, room, ap (λ (l : LinkList). l.room) links);
  few = omega (arith, led.few, ap (λ r. length r.items) ranges);
}

-- what the latest choice gives is what the undo gives
pub goes_on : (g : Graph) (c : Choice) (old popped new : OneBox) (done : Bool) → popped.ranges ≡ old.ranges → popped.links ≡ old.links → old.choices.items ≡ popped.choices.items ++ c ∷ []
    → GivesNext g c popped new done → GoesOn g old new done
goes_on g c old popped new done ranges links items gives = go done gives
  where
    b : List Slot
    b = (place_of popped).box

    cs : List Choice
    cs = (place_of popped).choices

    was : place_of old ≡ record { box = b; choices = c ∷ cs }
    was = place_is old b (c ∷ cs) (sym (ap (λ r. box_of r.items popped.links.links) ranges ∙ ap (λ (l : LinkList). box_of old.ranges.items l.links) links)) (ap reverse items ∙ latest_first popped.choices.items c)

    here : undone g (place_of old).box (place_of old).choices ≡ or_place (next_of g (before b c) c cs) (undone g (before b c) cs)
    here = ap (λ (p : Place). undone g p.box p.choices) was

    go : (d : Bool) → GivesNext g c popped new d → GoesOn g old new d
    go true gave = (gave.0, here ∙ ap (λ r. or_place r (undone g (before b c) cs)) gave.1, record { box = gave.2.box; place = gave.2.place; room = gave.2.room ∙ ap (λ (l : LinkList). l.room) links })
    go false gave = record {
      box = gave.box;
      undone = here ∙ ap (λ r. or_place r (undone g (before b c) cs)) gave.none ∙ sym (ap (λ (p : Place). undone g p.box p.choices) gave.place);
      fewer = omega (
        arith,
        ap length items,
        length-append popped.choices.items (c ∷ []),
        ap (λ (p : Place). length p.choices) gave.place,
        length-reverse popped.choices.items,
        length-reverse new.choices.items,
      );
      room = gave.room ∙ ap (λ (l : LinkList). l.room) links;
    }

-- the choice that is taken off the record led to the box
pub led_popped : (g : Graph) (old popped : OneBox) (c : Choice) → popped.ranges ≡ old.ranges → popped.links ≡ old.links → old.choices.items ≡ popped.choices.items ++ c ∷ []
    → old.links.room ≤ vec_capacity popped.choices → IsOneBox g old → IsLedTo g (c ∷ reverse popped.choices.items) popped
led_popped g old popped c ranges links items room kept =
    led-same g (c ∷ reverse popped.choices.items) old popped ranges links room
    (subst (λ cs. IsLedTo g cs old) (ap reverse items ∙ latest_first popped.choices.items c) kept)

-- the undo gives nothing where there is no choice
pub none_left : (g : Graph) (a : OneBox) → length a.choices.items ≡ 0 → undone g (place_of a).box (place_of a).choices ≡ None
none_left g a none = nothing (place_of a).choices (omega (arith, none, length-reverse a.choices.items))
  where
    nothing : (cs : List Choice) → length cs ≡ 0 → undone g (place_of a).box cs ≡ None
    nothing [] is = refl
    nothing (c ∷ cs) is = absurd (omega (arith, is))

-- the undo gives from the new box what it gives from the old one
pub record UndoesSame (g : Graph) (old new : OneBox) : Type 0 where
  pub box : IsOneBox g new
  pub undone : undone g (place_of old).box (place_of old).choices ≡ undone g (place_of new).box (place_of new).choices
  pub fewer : length new.choices.items ≤ length old.choices.items
  pub room : new.links.room ≡ old.links.room

pub undoes_more : (g : Graph) (old mid new : OneBox) → UndoesSame g old mid → GoesBack g mid new → UndoesSame g old new
undoes_more g old mid new same back = record {
  box = back.box;
  undone = same.undone ∙ back.undone;
  fewer = omega (arith, same.fewer, back.fewer);
  room = back.room ∙ same.room;
}

abbrev pub Undoes : Graph → OneBox → OneBox → Bool → Type 0
Undoes g old new done = MatchOption (undone g (place_of old).box (place_of old).choices) (done ≡ false) (λ p. (done ≡ true) × Comes g old new p)

pub undoes_on : (g : Graph) (old mid new : OneBox) → UndoesSame g old mid → GoesOn g mid new true → Undoes g old new true
undoes_on g old mid new same on =
    subst (λ r. MatchOption r (true ≡ false) (λ p. (true ≡ true) × Comes g old new p)) (sym (same.undone ∙ on.1))
    (refl, record { box = on.2.box; place = on.2.place; room = on.2.room ∙ same.room })

pub undoes_none : (g : Graph) (old new : OneBox) → UndoesSame g old new → length new.choices.items ≡ 0 → Undoes g old new false
undoes_none g old new same none = subst (λ r. MatchOption r (false ≡ false) (λ p. (false ≡ true) × Comes g old new p)) (sym (same.undone ∙ none_left g new none)) refl
