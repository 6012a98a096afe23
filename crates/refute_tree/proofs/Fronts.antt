-- What a front answers of its first box.
use Rattle.std.proofs.Common.{◌≡◌, ◌≢◌, ℕ, ◌<◌, ◌≤◌, Bool, true, false, not, ◌&&◌, nat_le, nat_lt, List, [], ◌∷◌, cond, length, get_or, vec_len, refl, sym, ap, ◌∙◌, lt-ltb, le-ltb, ltb-true, true≢false, is_none, Option, subst, arith}
use Rattle.std.proofs.lemmas.Bool.{and_parts}
use Rattle.decomposition.specs.declared.Token.{Token}
use Rattle.decomposition.specs.declared.Token.TheVariants.{Split, Step}
use Rattle.decomposition.specs.Graph.{edge_count}
use Rattle.decomposition.specs.Boxes.{Slot, gap, slot_at, upper_at, lower_at}
use Rattle.decomposition.specs.Tokens.{is_legal, is_finished, is_above, misses_some, can_branch}
use Rattle.link_cells.specs.Links.{walk_of}
use Rattle.refute_tree.specs.Front.{Boxes, first_of, is_unfinished, may_take, may_branch, closing, closing_token, IsFirstOpen, IsOpenAnswer}
use Rattle.decomposition.specs.Held.{IsOpen, box_paths}
use Rattle.refute_tree.specs.OneBox.{place_of, boxes_of}
use Rattle.refute_tree.specs.Kept.{shown, KeepsFirst, IsKept}
use Rattle.refute_tree.specs.Sums.{SumsUp}
use Rattle.refute_tree.proofs.ClosingTokens.{closing_token-open}
use Rattle.refute_tree.proofs.FirstBoxes.{upper-read, lower-read}
use Rattle.refute_tree.proofs.Placing.{slots_from-length, walk_at}
use Rattle.refute_tree.specs.declared.front.Front.TheInside.{Inside}

-- a token at a front with a box
pub may_take-some : (f : Boxes) (t : Token) → f.boxes ≢ [] → may_take f t ≡ is_legal f.instance f.limit (first_of f.boxes) t
may_take-some f t some = go f.boxes some where
  go : (boxes : List (List Slot)) → boxes ≢ [] → may_take (record f { boxes = boxes }) t ≡ is_legal f.instance f.limit (first_of boxes) t
  go [] none = absurd (none refl)
  go (b ∷ bs) some' = refl

pub closing-some : (f : Boxes) → f.boxes ≢ [] → closing f ≡ closing_token f.instance f.limit (first_of f.boxes)
closing-some f some = go f.boxes some where
  go : (boxes : List (List Slot)) → boxes ≢ [] → closing (record f { boxes = boxes }) ≡ closing_token f.instance f.limit (first_of boxes)
  go [] none = absurd (none refl)
  go (b ∷ bs) some' = refl

pub may_branch-some : (f : Boxes) (k : ℕ) → f.boxes ≢ [] → may_branch f k ≡ (nat_lt k (length (first_of f.boxes)) && can_branch f.instance f.limit (first_of f.boxes))
may_branch-some f k some = go f.boxes some where
  go : (boxes : List (List Slot)) → boxes ≢ [] → may_branch (record f { boxes = boxes }) k ≡ (nat_lt k (length (first_of boxes)) && can_branch f.instance f.limit (first_of boxes))
  go [] none = absurd (none refl)
  go (b ∷ bs) some' = refl

-- a slot that there is may be branched where no token closes the box
pub may_branch-open : (f : Boxes) (k : ℕ) → f.boxes ≢ [] → 0 < edge_count f.instance.graph → k < length (first_of f.boxes) → is_none (closing f) ≡ may_branch f k
may_branch-open f k some edges inside =
    let b = first_of f.boxes in
    let by_parts : may_branch f k ≡ (not (is_above f.limit (gap f.instance b)) && not (misses_some f.instance b (length f.instance.rules)))
    = may_branch-some f k some ∙ rw (lt-ltb k (length b) inside, lt-ltb 0 (edge_count f.instance.graph) edges) refl in
    ap is_none (closing-some f some) ∙ closing_token-open f.instance f.limit b ∙ sym by_parts

-- what is known where a slot may be branched
pub record Branching (f : Boxes) (k : ℕ) : Type 0 where
  pub some : f.boxes ≢ []
  pub inside : k < length (first_of f.boxes)
  pub can : can_branch f.instance f.limit (first_of f.boxes) ≡ true

pub may_branch-has : (f : Boxes) (k : ℕ) → may_branch f k ≡ true → Branching f k
may_branch-has f k may =
    let some : f.boxes ≢ [] = has f.boxes may in
    let parts : (nat_lt k (length (first_of f.boxes)) ≡ true) × (can_branch f.instance f.limit (first_of f.boxes) ≡ true)
    = and_parts (nat_lt k (length (first_of f.boxes))) (can_branch f.instance f.limit (first_of f.boxes)) (sym (may_branch-some f k some) ∙ may) in
    record { some = some; inside = ltb-true k (length (first_of f.boxes)) parts.0; can = parts.1 }
  where
    has : (boxes : List (List Slot)) → may_branch (record f { boxes = boxes }) k ≡ true → boxes ≢ []
    has [] no' none = true≢false (sym no')
    has (b ∷ bs) yes' none = let no' : ⊥ = cc in no'

and_true : (x : Bool) → (x && true) ≡ x
and_true true = refl
and_true false = refl

-- where a slot may be branched, it may be split between different bounds, and go on where it has not reached a sink
pub may_take-split : (f : Boxes) (k : ℕ) → Branching f k → nat_lt (lower_at (first_of f.boxes) k) (upper_at (first_of f.boxes) k) ≡ may_take f (Split k)
may_take-split f k h =
    let b = first_of f.boxes in
    sym (may_take-some f (Split k) h.some ∙ rw (lt-ltb k (length b) h.inside, h.can) (and_true (nat_lt (lower_at b k) (upper_at b k))))

pub may_take-step : (f : Boxes) (k : ℕ) → Branching f k → is_unfinished f.instance.graph (first_of f.boxes) k ≡ may_take f (Step k)
may_take-step f k h =
    let b = first_of f.boxes in
    sym (may_take-some f (Step k) h.some ∙ rw (lt-ltb k (length b) h.inside, h.can) (ap (λ (x : Bool). nat_le 1 (upper_at b k) && x) (and_true (not (is_finished f.instance.graph (slot_at b k).walk)))))

pub may_take-has : (f : Boxes) (t : Token) → may_take f t ≡ true → (f.boxes ≢ []) × (is_legal f.instance f.limit (first_of f.boxes) t ≡ true)
may_take-has f t may =
    let some : f.boxes ≢ [] = has f.boxes may in
    (some, sym (may_take-some f t some) ∙ may)
  where
    has : (boxes : List (List Slot)) → may_take (record f { boxes = boxes }) t ≡ true → boxes ≢ []
    has [] no' none = true≢false (sym no')
    has (b ∷ bs) yes' none = let no' : ⊥ = cc in no'

pub not_flip : (a b : Bool) → a ≡ not b → b ≡ not a
not_flip a true h = rw h refl
not_flip a false h = rw h refl

-- whether a first box is kept
pub some-boxes : (a : Inside) (f : Boxes) → shown a ≡ f → a.has_first ≡ true → f.boxes ≢ []
some-boxes a f view has none =
    let is : boxes_of a.net.now a.one ≡ [] = sym (ap (λ (b : Bool). cond b (boxes_of a.net.now a.one) []) has) ∙ ap (λ (x : Boxes). x.boxes) view ∙ none in
    let no' : ⊥ = cc in
    no'

pub no-boxes : (a : Inside) (f : Boxes) → shown a ≡ f → a.has_first ≡ false → f.boxes ≡ []
no-boxes a f view none = sym (ap (λ (x : Boxes). x.boxes) view) ∙ ap (λ (b : Bool). cond b (boxes_of a.net.now a.one) []) none

pub has-first : (a : Inside) (f : Boxes) → shown a ≡ f → f.boxes ≢ [] → a.has_first ≡ true
has-first a f view some = go a.has_first refl where
  go : (b : Bool) → a.has_first ≡ b → a.has_first ≡ true
  go true is = is
  go false is = absurd (some (no-boxes a f view is))

-- the first box is the one that is kept
pub first-is : (a : Inside) (f : Boxes) → shown a ≡ f → a.has_first ≡ true → first_of f.boxes ≡ (place_of a.one).box
first-is a f view has = sym (ap (λ (x : Boxes). first_of x.boxes) view) ∙ ap (λ (b : Bool). first_of (cond b (boxes_of a.net.now a.one) [])) has

-- what is kept of a front with a box
pub first-kept : (a : Inside) (f : Boxes) → shown a ≡ f → IsKept a → f.boxes ≢ [] → KeepsFirst a
first-kept a f view kept some = kept.first (has-first a f view some)

pub sums-kept : (a : Inside) (f : Boxes) → shown a ≡ f → IsKept a → f.boxes ≢ [] → SumsUp f.instance (first_of f.boxes) a.beside.sums
sums-kept a f view kept some =
    subst (λ b. SumsUp f.instance b a.beside.sums) (sym (first-is a f view (has-first a f view some)))
    (subst (λ (x : Boxes). SumsUp x.instance (place_of a.one).box a.beside.sums) view (first-kept a f view kept some).sums)

-- the ranges kept are those of the first box
pub first-length : (a : Inside) (f : Boxes) → shown a ≡ f → a.has_first ≡ true → length (first_of f.boxes) ≡ length a.one.ranges.items
first-length a f view has = ap length (first-is a f view has) ∙ slots_from-length 0 a.one.ranges.items a.one.links.links

pub walk-kept : (a : Inside) (f : Boxes) (k : ℕ) → shown a ≡ f → a.has_first ≡ true → k < length a.one.ranges.items → (slot_at (first_of f.boxes) k).walk ≡ walk_of a.one.links.links k
walk-kept a f k view has inside = ap (λ (b : List Slot). (slot_at b k).walk) (first-is a f view has) ∙ walk_at a.one.ranges.items a.one.links.links k inside

-- a bound that is read is that of the slot
pub upper-kept : (a : Inside) (f : Boxes) (k u : ℕ) → shown a ≡ f → IsKept a → f.boxes ≢ [] → k < length (first_of f.boxes) → u ≡ get_or a.beside.sums.uppers.items k u → upper_at (first_of f.boxes) k ≡ u
upper-kept a f k u view kept some inside is =
    let keeps = first-kept a f view kept some in
    upper-read (first_of f.boxes) a.beside.sums k u (omega (arith, first-length a f view (has-first a f view some), keeps.totals.room.uppers, keeps.one.slots)) (sums-kept a f view kept some).bounds inside is

-- what closes the first box, or there is none
pub closing-first : (f : Boxes) (has : Bool) (b : List Slot) (bs : List (List Slot)) (t : Option Token) → has ≡ true → t ≡ closing_token f.instance f.limit b → t ≡ closing (record f { boxes = cond has (b ∷ bs) [] })
closing-first f has b bs t some is = is ∙ sym (ap (λ (h : Bool). closing (record f { boxes = cond h (b ∷ bs) [] })) some)

pub closing-is : (a : Inside) (f : Boxes) → shown a ≡ f → IsKept a → a.closing ≡ closing f
closing-is a f view kept = kept.closing ∙ ap closing view

pub lower-kept : (a : Inside) (f : Boxes) (k u : ℕ) → shown a ≡ f → IsKept a → f.boxes ≢ [] → k < length (first_of f.boxes) → u ≡ get_or a.beside.sums.lowers.items k u → lower_at (first_of f.boxes) k ≡ u
lower-kept a f k u view kept some inside is =
    let keeps = first-kept a f view kept some in
    lower-read (first_of f.boxes) a.beside.sums k u (omega (arith, first-length a f view (has-first a f view some), keeps.totals.room.lowers, keeps.one.slots)) (sums-kept a f view kept some).bounds inside is

-- the bounds of a slot of the first box are kept
pub bounds-there : (a : Inside) (f : Boxes) (k : ℕ) → shown a ≡ f → IsKept a → f.boxes ≢ [] → k < length (first_of f.boxes) → (k < vec_len a.beside.sums.lowers) × (k < vec_len a.beside.sums.uppers)
bounds-there a f k view kept some inside =
    let keeps = first-kept a f view kept some in
    let long = first-length a f view (has-first a f view some) in
    (omega (arith, inside, long, keeps.totals.room.lowers, keeps.one.slots), omega (arith, inside, long, keeps.totals.room.uppers, keeps.one.slots))

-- the paths of an open first box are its answer
pub open-answer : (f : Boxes) (a : List (List ℕ × ℕ)) → IsFirstOpen f → 0 < edge_count f.instance.graph → a ≡ box_paths (first_of f.boxes) (length (first_of f.boxes)) → IsOpenAnswer f a
open-answer f a first edges is = go f.boxes refl where
  go : (boxes : List (List Slot)) → f.boxes ≡ boxes → IsOpenAnswer f a
  go [] none = absurd (first.some none)
  go (b ∷ bs) here = record {
    first = b;
    others = bs;
    boxes = here;
    open' = subst (λ (boxes : List (List Slot)). IsOpen f.instance f.limit (first_of boxes)) here first.open';
    answer = is ∙ ap (λ (boxes : List (List Slot)). box_paths (first_of boxes) (length (first_of boxes))) here ∙ sym (ap (λ t. cond t (box_paths b (length b)) []) (lt-ltb 0 (edge_count f.instance.graph) edges));
  }

pub open-empty : (f : Boxes) → IsFirstOpen f → edge_count f.instance.graph ≤ 0 → IsOpenAnswer f []
open-empty f first none = go f.boxes refl where
  go : (boxes : List (List Slot)) → f.boxes ≡ boxes → IsOpenAnswer f []
  go [] empty = absurd (first.some empty)
  go (b ∷ bs) here = record {
    first = b;
    others = bs;
    boxes = here;
    open' = subst (λ (boxes : List (List Slot)). IsOpen f.instance f.limit (first_of boxes)) here first.open';
    answer = sym (ap (λ t. cond t (box_paths b (length b)) []) (le-ltb 0 (edge_count f.instance.graph) none));
  }
