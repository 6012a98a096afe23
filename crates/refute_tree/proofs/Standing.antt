-- What a box and the choices that led to it stand for.
use Rattle.std.proofs.Common.{◌≡◌, ℕ, ◌+◌, ◌-◌, ◌<◌, List, [], ◌∷◌, ◌++◌, map, length, set, sym, ap, ◌∙◌, arith, length-append}
use Rattle.std.proofs.lemmas.List.{set-set, set-get_or, get_or-set_same, take_at}
use Rattle.decomposition.specs.Boxes.{Slot, slot_at}
use Rattle.decomposition.specs.Tokens.{with_edge, with_hi, with_lo, middle}
use Rattle.refute_tree.specs.declared.choice.Choice.TheVariants.{Step, Lower, Upper}
use Rattle.refute_tree.specs.Choices.{without_last, before, to_come, waiting}
use Rattle.refute_tree.proofs.Laws.{StepsStandFor, SplitsStandFor, LinksAreFew}

-- a list to which an entry was added, without its last
pub without_last-push : (es : List ℕ) (e : ℕ) → without_last (es ++ e ∷ []) ≡ es
without_last-push es e = take_at es (e ∷ []) (length (es ++ e ∷ []) - 1) (omega (arith, length-append es (e ∷ [])))

-- a slot that was changed, and changed back
pub set_back : (b : List Slot) (k : ℕ) (s t : Slot) → t ≡ slot_at b k → set (set b k s) k t ≡ b
set_back b k s t is = set-set b k s t ∙ ap (set b k) is ∙ set-get_or b k _

pub changed : (b : List Slot) (k : ℕ) (s : Slot) → k < length b → slot_at (set b k s) k ≡ s
changed b k s inside = get_or-set_same b k s _ inside

-- an edge more, and back
pub before-step : (b : List Slot) (k e : ℕ) → k < length b → before (with_edge b k e) (Step k e) ≡ b
before-step b k e inside =
    let s : Slot = record (slot_at b k) { walk = (slot_at b k).walk ++ e ∷ [] } in
    set_back b k s (record (slot_at (with_edge b k e) k) { walk = without_last (slot_at (with_edge b k e) k).walk })
    (ap (λ (t : Slot). record t { walk = without_last t.walk }) (changed b k s inside) ∙ ap (λ w. record (slot_at b k) { walk = w }) (without_last-push (slot_at b k).walk e))

-- a lower half, and back
pub before-lower : (b : List Slot) (k m lo : ℕ) → k < length b → before (with_hi b k m) (Lower k lo (slot_at b k).hi) ≡ b
before-lower b k m lo inside =
    let s : Slot = record (slot_at b k) { hi = m } in
    set_back b k s (record (slot_at (with_hi b k m) k) { hi = (slot_at b k).hi }) (ap (λ (t : Slot). record t { hi = (slot_at b k).hi }) (changed b k s inside))

-- an upper half, and back
pub before-upper : (b : List Slot) (k m : ℕ) → k < length b → before (with_lo b k m) (Upper k (slot_at b k).lo) ≡ b
before-upper b k m inside =
    let s : Slot = record (slot_at b k) { lo = m } in
    set_back b k s (record (slot_at (with_lo b k m) k) { lo = (slot_at b k).lo }) (ap (λ (t : Slot). record t { lo = (slot_at b k).lo }) (changed b k s inside))

pub steps_stand_for : StepsStandFor
steps_stand_for i b cs k e inside next =
    ap (λ b'. with_edge b k e ∷ (to_come i.graph b' (Step k e) ++ waiting i.graph b' cs)) (before-step b k e inside)
    ∙ ap (λ es. map (λ f. with_edge b k f) es ++ waiting i.graph b cs) (sym next)

pub splits_stand_for : SplitsStandFor
splits_stand_for i b cs k inside =
    ap (λ b'. with_hi b k (middle b k) ∷ (to_come i.graph b' (Lower k (middle b k + 1) (slot_at b k).hi) ++ waiting i.graph b' cs)) (before-lower b k (middle b k) (middle b k + 1) inside)

pub links_are_few : LinksAreFew
links_are_few [] = omega arith
links_are_few (Step k e ∷ cs) = omega (arith, links_are_few cs)
links_are_few (Lower k m hi ∷ cs) = omega (arith, links_are_few cs)
links_are_few (Upper k lo ∷ cs) = omega (arith, links_are_few cs)
