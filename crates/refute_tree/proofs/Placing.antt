-- The box of ranges and links: a link more is an edge more on a walk, a range changed is a bound changed.
use Rattle.std.proofs.Common.{◌≡◌, ℕ, zero, suc, ◌+◌, ◌<◌, List, [], ◌∷◌, ◌++◌, length, get_or, set, refl, sym, ap, ◌∙◌, subst, arith}
use Rattle.std.specs.Prelude.{reverse}
use Rattle.std.proofs.lemmas.List.{reverse-append}
use Rattle.decomposition.specs.Boxes.{Slot, slot_at}
use Rattle.decomposition.specs.Tokens.{with_edge, with_hi, with_lo}
use Rattle.decomposition.specs.declared.Range.{Range}
use Rattle.refute_tree.specs.declared.choice.Choice.{Choice}
use Rattle.refute_tree.specs.declared.choice.Choice.TheVariants.{Step}
use Rattle.refute_tree.specs.Choices.{before}
use Rattle.link_cells.specs.Links.{walk_of}
use Rattle.refute_tree.specs.OneBox.{slots_from, box_of}
use Rattle.link_cells.proofs.Linking.{walk_of-push_same, walk_of-push_other}
use Rattle.refute_tree.proofs.Standing.{before-step}

abbrev none : Slot
none = record { lo = 0; hi = 0; walk = [] }

pub slots_from-length : (k : ℕ) (rs : List Range) (links : List (ℕ × ℕ)) → length (slots_from k rs links) ≡ length rs
slots_from-length k [] links = refl
slots_from-length k (r ∷ rs) links = ap suc (slots_from-length (suc k) rs links)

-- an entry that there is, whatever stands for one that there is not
pub get_or_any : {X : Type 0} (xs : List X) (k : ℕ) (d e : X) → k < length xs → get_or xs k d ≡ get_or xs k e
get_or_any [] k d e inside = absurd (omega arith)
get_or_any (x ∷ xs) zero d e inside = refl
get_or_any (x ∷ xs) (suc k) d e inside = get_or_any xs k d e (omega (arith, inside))

-- the slot at a place
pub slots_from-at : (k j : ℕ) (rs : List Range) (links : List (ℕ × ℕ)) (r : Range) → j < length rs → r ≡ get_or rs j r
    → get_or (slots_from k rs links) j none ≡ record { lo = r.lo; hi = r.hi; walk = walk_of links (k + j) }
slots_from-at k j [] links r inside is = absurd (omega arith)
slots_from-at k zero (s ∷ rs) links r inside is =
    let same : k ≡ k + 0 = omega arith in
    ap (λ n. record { lo = s.lo; hi = s.hi; walk = walk_of links n }) same ∙ ap (λ (q : Range). record { lo = q.lo; hi = q.hi; walk = walk_of links (k + 0) }) (sym is)
slots_from-at k (suc j) (s ∷ rs) links r inside is =
    let same : suc k + j ≡ k + suc j = omega arith in
    slots_from-at (suc k) j rs links r (omega (arith, inside)) is ∙ ap (λ n. record { lo = r.lo; hi = r.hi; walk = walk_of links n }) same

-- a link of another slot changes nothing
slots_from-other : (k : ℕ) (rs : List Range) (links : List (ℕ × ℕ)) (x : ℕ × ℕ) → x.0 < k → slots_from k rs (links ++ x ∷ []) ≡ slots_from k rs links
slots_from-other k [] links x less = refl
slots_from-other k (r ∷ rs) links x less =
    ap (λ w. record { lo = r.lo; hi = r.hi; walk = w } ∷ slots_from (suc k) rs (links ++ x ∷ [])) (walk_of-push_other links x k (λ e. omega (arith, less, e)))
    ∙ ap (λ l. record { lo = r.lo; hi = r.hi; walk = walk_of links k } ∷ l) (slots_from-other (suc k) rs links x (omega (arith, less)))

slots_from-link : (k j e : ℕ) (rs : List Range) (links : List (ℕ × ℕ)) → j < length rs → slots_from k rs (links ++ (k + j, e) ∷ []) ≡ with_edge (slots_from k rs links) j e
slots_from-link k j e [] links inside = absurd (omega arith)
slots_from-link k zero e (r ∷ rs) links inside =
    let same : k + 0 ≡ k = omega arith in
    ap (λ w. record { lo = r.lo; hi = r.hi; walk = w } ∷ slots_from (suc k) rs (links ++ (k + 0, e) ∷ [])) (walk_of-push_same links (k + 0, e) k same)
    ∙ ap (λ l. record { lo = r.lo; hi = r.hi; walk = walk_of links k ++ e ∷ [] } ∷ l) (slots_from-other (suc k) rs links (k + 0, e) (omega arith))
slots_from-link k (suc j) e (r ∷ rs) links inside =
    let same : suc k + j ≡ k + suc j = omega arith in
    ap (λ w. record { lo = r.lo; hi = r.hi; walk = w } ∷ slots_from (suc k) rs (links ++ (k + suc j, e) ∷ [])) (walk_of-push_other links (k + suc j, e) k (λ i. omega (arith, i)))
    ∙ ap (λ l. record { lo = r.lo; hi = r.hi; walk = walk_of links k } ∷ l)
    (subst (λ n. slots_from (suc k) rs (links ++ (n, e) ∷ []) ≡ with_edge (slots_from (suc k) rs links) j e) same (slots_from-link (suc k) j e rs links (omega (arith, inside))))

-- a link more is an edge more
pub box_of-link : (rs : List Range) (links : List (ℕ × ℕ)) (k e : ℕ) → k < length rs → box_of rs (links ++ (k, e) ∷ []) ≡ with_edge (box_of rs links) k e
box_of-link rs links k e inside =
    let same : 0 + k ≡ k = omega arith in
    subst (λ n. slots_from 0 rs (links ++ (n, e) ∷ []) ≡ with_edge (slots_from 0 rs links) k e) same (slots_from-link 0 k e rs links inside)

-- a link less is the box before the step
pub box_of-unlink : (rs : List Range) (links : List (ℕ × ℕ)) (k e : ℕ) → k < length rs → before (box_of rs (links ++ (k, e) ∷ [])) (Step k e) ≡ box_of rs links
box_of-unlink rs links k e inside = ap (λ b. before b (Step k e)) (box_of-link rs links k e inside) ∙ before-step (box_of rs links) k e (omega (arith, inside, slots_from-length 0 rs links))

slots_from-set : (k j : ℕ) (rs : List Range) (links : List (ℕ × ℕ)) (q : Range) → j < length rs
    → slots_from k (set rs j q) links ≡ set (slots_from k rs links) j (record (get_or (slots_from k rs links) j none) { lo = q.lo; hi = q.hi })
slots_from-set k j [] links q inside = absurd (omega arith)
slots_from-set k zero (r ∷ rs) links q inside = refl
slots_from-set k (suc j) (r ∷ rs) links q inside = ap (λ l. record { lo = r.lo; hi = r.hi; walk = walk_of links k } ∷ l) (slots_from-set (suc k) j rs links q (omega (arith, inside)))

-- a range changed is the slot's bounds changed
pub box_of-set : (rs : List Range) (links : List (ℕ × ℕ)) (k : ℕ) (q : Range) → k < length rs → box_of (set rs k q) links ≡ set (box_of rs links) k (record (slot_at (box_of rs links) k) { lo = q.lo; hi = q.hi })
box_of-set rs links k q inside = slots_from-set 0 k rs links q inside

pub box_of-hi : (rs : List Range) (links : List (ℕ × ℕ)) (k m : ℕ) (r : Range) → k < length rs → r ≡ get_or rs k r → box_of (set rs k (record r { hi = m })) links ≡ with_hi (box_of rs links) k m
box_of-hi rs links k m r inside is =
    box_of-set rs links k (record r { hi = m }) inside
    ∙ ap (λ l. set (box_of rs links) k (record (slot_at (box_of rs links) k) { lo = l; hi = m })) (sym (ap (λ (s : Slot). s.lo) (slots_from-at 0 k rs links r inside is)))

pub box_of-lo : (rs : List Range) (links : List (ℕ × ℕ)) (k m : ℕ) (r : Range) → k < length rs → r ≡ get_or rs k r → box_of (set rs k (record r { lo = m })) links ≡ with_lo (box_of rs links) k m
box_of-lo rs links k m r inside is =
    box_of-set rs links k (record r { lo = m }) inside
    ∙ ap (λ h. set (box_of rs links) k (record (slot_at (box_of rs links) k) { lo = m; hi = h })) (sym (ap (λ (s : Slot). s.hi) (slots_from-at 0 k rs links r inside is)))

-- the bounds that are read
pub bounds_at : (rs : List Range) (links : List (ℕ × ℕ)) (k : ℕ) (r : Range) → k < length rs → r ≡ get_or rs k r → (r.lo ≡ (slot_at (box_of rs links) k).lo) × (r.hi ≡ (slot_at (box_of rs links) k).hi)
bounds_at rs links k r inside is =
    (sym (ap (λ (s : Slot). s.lo) (slots_from-at 0 k rs links r inside is)), sym (ap (λ (s : Slot). s.hi) (slots_from-at 0 k rs links r inside is)))

-- the choices, the latest first
pub latest_first : (cs : List Choice) (c : Choice) → reverse (cs ++ c ∷ []) ≡ c ∷ reverse cs
latest_first cs c = reverse-append cs (c ∷ [])

-- the walk of a slot is that of its links
slots_from-walk : (k j : ℕ) (rs : List Range) (links : List (ℕ × ℕ)) → j < length rs → (get_or (slots_from k rs links) j none).walk ≡ walk_of links (k + j)
slots_from-walk k j [] links inside = absurd (omega arith)
slots_from-walk k zero (r ∷ rs) links inside = let same : k ≡ k + 0 = omega arith in ap (walk_of links) same
slots_from-walk k (suc j) (r ∷ rs) links inside =
    let same : suc k + j ≡ k + suc j = omega arith in
    slots_from-walk (suc k) j rs links (omega (arith, inside)) ∙ ap (walk_of links) same

pub walk_at : (rs : List Range) (links : List (ℕ × ℕ)) (k : ℕ) → k < length rs → (slot_at (box_of rs links) k).walk ≡ walk_of links k
walk_at rs links k inside = let same : 0 + k ≡ k = omega arith in slots_from-walk 0 k rs links inside ∙ ap (walk_of links) same
