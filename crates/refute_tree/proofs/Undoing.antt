-- The undo gives the boxes behind the first.
use Rattle.std.proofs.Common.{◌≡◌, ℕ, ◌+◌, ◌<◌, List, [], ◌∷◌, ◌++◌, map, length, Option, None, Some, refl, sym, ap, ◌∙◌, subst, arith, length-set}
use Rattle.std.specs.Prelude.{MatchOption, IfSome}
use Rattle.std.proofs.lemmas.List.Elements.{All-cons, All-head, All-tail}
use Rattle.decomposition.specs.declared.Token.{Token}
use Rattle.decomposition.specs.declared.Token.TheVariants.{Gap, Miss, Split as SplitToken, Step as StepToken}
use Rattle.decomposition.specs.Graph.{Graph}
use Rattle.decomposition.specs.Instance.{Instance}
use Rattle.decomposition.specs.Boxes.{Slot, slot_at}
use Rattle.decomposition.specs.Tokens.{next_edges, with_edge, with_hi, with_lo, middle, boxes_after}
use Rattle.refute_tree.specs.Kept.{Replaces}
use Rattle.refute_tree.specs.Choices.{later}
use Rattle.refute_tree.proofs.ReplacedBoxes.{replaces}
use Rattle.refute_tree.specs.declared.choice.Choice.{Choice}
use Rattle.refute_tree.specs.declared.choice.Choice.TheVariants.{Step, Lower, Upper}
use Rattle.refute_tree.specs.Choices.{before, to_come, waiting, slot_of, AreWithin, Place, or_place, step_by, undone, boxes_at, place_after}
use Rattle.refute_tree.proofs.Laws.{Follows, UndoFollows, UndoEnds, IsNear, TokensTurnPlaces, TokensKeepPlaces}
use Rattle.refute_tree.proofs.Rising.{later_rest, first_rest}
use Rattle.refute_tree.proofs.Standing.{before-step, before-upper, steps_stand_for, splits_stand_for}

-- a choice keeps the number of slots
pub length-before : (b : List Slot) (c : Choice) → length (before b c) ≡ length b
length-before b (Step k e) = length-set b k _
length-before b (Lower k m hi) = length-set b k _
length-before b (Upper k lo) = length-set b k _

abbrev Says : Graph → List Slot → List Choice → Option Place → Type 0
Says g b cs r = MatchOption r (waiting g b cs ≡ []) (Follows g b cs)

-- back over a choice that has nothing to give
back : (g : Graph) (b : List Slot) (c : Choice) (cs : List Choice) (r : Option Place) → to_come g (before b c) c ≡ [] → AreWithin (length b) cs
    → Says g (before b c) cs r → Says g b (c ∷ cs) r
back g b c cs None none within says = ap (λ l. l ++ waiting g (before b c) cs) none ∙ says
back g b c cs (Some p) none within says = record {
  boxes = says.boxes ∙ sym (ap (λ l. l ++ waiting g (before b c) cs) none);
  slots = says.slots ∙ length-before b c;
  within = subst (λ n. AreWithin n p.choices) (length-before b c) says.within;
  few = omega (arith, says.few);
}

-- on with the next edge of a step
on_step : (g : Graph) (b : List Slot) (k e f : ℕ) (fs : List ℕ) (cs : List Choice) → AreWithin (length b) (Step k e ∷ cs)
    → later g (slot_at (before b (Step k e)) k).walk e ≡ f ∷ fs → Follows g b (Step k e ∷ cs) (record { box = with_edge (before b (Step k e)) k f; choices = Step k f ∷ cs })
on_step g b k e f fs cs within is =
    let old : List Slot = before b (Step k e) in
    let inside : k < length b = All-head (λ c. slot_of c < length b) (Step k e) cs within in
    let long : length old ≡ length b = length-before b (Step k e) in
    record {
      boxes = ap (λ b'. with_edge old k f ∷ (to_come g b' (Step k f) ++ waiting g b' cs)) (before-step old k f (omega (arith, inside, long)))
          ∙ ap (λ l. with_edge old k f ∷ (map (λ d. with_edge old k d) l ++ waiting g old cs)) (sym (later_rest g (slot_at old k).walk e f fs is))
          ∙ sym (ap (λ l. map (λ d. with_edge old k d) l ++ waiting g old cs) is);
      slots = length-set old k _ ∙ long;
      within = All-cons (λ c. slot_of c < length b) (Step k f) cs inside (All-tail (λ c. slot_of c < length b) (Step k e) cs within);
      few = omega arith;
    }

-- on with the upper half of a split
on_split : (g : Graph) (b : List Slot) (k m hi : ℕ) (cs : List Choice) → AreWithin (length b) (Lower k m hi ∷ cs)
    → Follows g b (Lower k m hi ∷ cs) (record { box = with_lo (with_hi b k hi) k m; choices = Upper k (slot_at (with_hi b k hi) k).lo ∷ cs })
on_split g b k m hi cs within =
    let old : List Slot = with_hi b k hi in
    let inside : k < length b = All-head (λ c. slot_of c < length b) (Lower k m hi) cs within in
    let long : length old ≡ length b = length-before b (Lower k m hi) in
    record {
      boxes = ap (λ b'. with_lo old k m ∷ waiting g b' cs) (before-upper old k m (omega (arith, inside, long)));
      slots = length-set old k _ ∙ long;
      within = All-cons (λ c. slot_of c < length b) (Upper k (slot_at old k).lo) cs inside (All-tail (λ c. slot_of c < length b) (Lower k m hi) cs within);
      few = omega arith;
    }

by_edges : (g : Graph) (b : List Slot) (k e : ℕ) (cs : List Choice) (l : List ℕ) → later g (slot_at (before b (Step k e)) k).walk e ≡ l
    → Says g b (Step k e ∷ cs) (or_place (step_by (before b (Step k e)) k cs l) (undone g (before b (Step k e)) cs)) → Says g b (Step k e ∷ cs) (undone g b (Step k e ∷ cs))
by_edges g b k e cs l is says = subst (λ l'. Says g b (Step k e ∷ cs) (or_place (step_by (before b (Step k e)) k cs l') (undone g (before b (Step k e)) cs))) (sym is) says

step_back : (g : Graph) (b : List Slot) (k e : ℕ) (cs : List Choice) → AreWithin (length b) (Step k e ∷ cs) → (l : List ℕ) → later g (slot_at (before b (Step k e)) k).walk e ≡ l
    → Says g (before b (Step k e)) cs (undone g (before b (Step k e)) cs) → Says g b (Step k e ∷ cs) (undone g b (Step k e ∷ cs))
step_back g b k e cs within [] is says =
    by_edges g b k e cs _ is
    (back g b (Step k e) cs (undone g (before b (Step k e)) cs) (ap (map (λ f. with_edge (before b (Step k e)) k f)) is)
    (All-tail (λ c. slot_of c < length b) (Step k e) cs within) says)
step_back g b k e cs within (f ∷ fs) is says = by_edges g b k e cs _ is (on_step g b k e f fs cs within is)

pub undo_follows : UndoFollows
undo_follows g b [] within = refl
undo_follows g b (Upper k lo ∷ cs) within =
    let rest : AreWithin (length b) cs = All-tail (λ c. slot_of c < length b) (Upper k lo) cs within in
    back g b (Upper k lo) cs (undone g (with_lo b k lo) cs) refl rest (undo_follows g (with_lo b k lo) cs (subst (λ n. AreWithin n cs) (sym (length-before b (Upper k lo))) rest))
undo_follows g b (Lower k m hi ∷ cs) within = on_split g b k m hi cs within
undo_follows g b (Step k e ∷ cs) within =
    let rest : AreWithin (length b) cs = All-tail (λ c. slot_of c < length b) (Step k e) cs within in
    step_back g b k e cs within (later g (slot_at (before b (Step k e)) k).walk e) refl
    (undo_follows g (before b (Step k e)) cs (subst (λ n. AreWithin n cs) (sym (length-before b (Step k e))) rest))

pub undo_ends : UndoEnds
undo_ends g b cs within = (there (undone g b cs) (undo_follows g b cs within), back' (undone g b cs) (undo_follows g b cs within))
  where
    there : (r : Option Place) → Says g b cs r → r ≡ None → waiting g b cs ≡ []
    there None says is = says
    there (Some p) says is = absurd (let no' : ⊥ = cc in no')

    back' : (r : Option Place) → Says g b cs r → waiting g b cs ≡ [] → r ≡ None
    back' None says none = refl
    back' (Some p) says none = let is : p.box ∷ waiting g p.box p.choices ≡ [] = says.boxes ∙ none in absurd (let no' : ⊥ = cc in no')

-- ---- tokens

undone-boxes : (g : Graph) (b : List Slot) (cs : List Choice) (r : Option Place) → Says g b cs r → boxes_at g r ≡ waiting g b cs
undone-boxes g b cs None says = sym says
undone-boxes g b cs (Some p) says = says.boxes

undone-near : (g : Graph) (p : Place) (r : Option Place) → Says g p.box p.choices r → IfSome r (IsNear p)
undone-near g p None says = tt
undone-near g p (Some q) says = record { slots = says.slots; within = says.within; few = omega (arith, says.few) }

turned : (i : Instance) (p : Place) (t : Token) → AreWithin (length p.box) p.choices → Replaces i.graph p.box t → boxes_at i.graph (place_after i p t) ≡ boxes_after i p.box t ++ waiting i.graph p.box p.choices
turned i p Gap within fits = undone-boxes i.graph p.box p.choices _ (undo_follows i.graph p.box p.choices within)
turned i p (Miss c) within fits = undone-boxes i.graph p.box p.choices _ (undo_follows i.graph p.box p.choices within)
turned i p (SplitToken k) within fits = splits_stand_for i p.box p.choices k fits.0
turned i p (StepToken k) within fits = go (next_edges i.graph (slot_at p.box k).walk) refl
  where
    go : (l : List ℕ) → next_edges i.graph (slot_at p.box k).walk ≡ l → boxes_at i.graph (place_after i p (StepToken k)) ≡ boxes_after i p.box (StepToken k) ++ waiting i.graph p.box p.choices
    go [] is = absurd (fits.1 is)
    go (e ∷ es) is =
        let stands = steps_stand_for i p.box p.choices k e fits.0 (first_rest i.graph (slot_at p.box k).walk e es is) in
        ap (λ l. boxes_at i.graph (or_place (step_by p.box k p.choices l) (undone i.graph p.box p.choices))) is ∙ stands

kept : (i : Instance) (p : Place) (t : Token) → AreWithin (length p.box) p.choices → Replaces i.graph p.box t → IfSome (place_after i p t) (IsNear p)
kept i p Gap within fits = undone-near i.graph p _ (undo_follows i.graph p.box p.choices within)
kept i p (Miss c) within fits = undone-near i.graph p _ (undo_follows i.graph p.box p.choices within)
kept i p (SplitToken k) within fits = record {
  slots = length-set p.box k _;
  within = All-cons (λ c. slot_of c < length p.box) (Lower k (middle p.box k + 1) (slot_at p.box k).hi) p.choices fits.0 within;
  few = omega arith;
}
kept i p (StepToken k) within fits = go (next_edges i.graph (slot_at p.box k).walk) refl
  where
    go : (l : List ℕ) → next_edges i.graph (slot_at p.box k).walk ≡ l → IfSome (place_after i p (StepToken k)) (IsNear p)
    go [] is = absurd (fits.1 is)
    go (e ∷ es) is = subst (λ l. IfSome (or_place (step_by p.box k p.choices l) (undone i.graph p.box p.choices)) (IsNear p)) (sym is) (record {
      slots = length-set p.box k _;
      within = All-cons (λ c. slot_of c < length p.box) (Step k e) p.choices fits.0 within;
      few = omega arith;
    })

pub tokens_turn_places : TokensTurnPlaces
tokens_turn_places i limit p t net within legal = rw legal (ap Some (sym (turned i p t within (replaces i limit p.box t net legal))))

pub tokens_keep_places : TokensKeepPlaces
tokens_keep_places i limit p t net within legal = kept i p t within (replaces i limit p.box t net legal)
