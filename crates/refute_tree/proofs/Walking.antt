-- A walk along the links of a slot, from the last one back.
use Rattle.std.proofs.Common.{◌≡◌, ℕ, ◌<◌, ◌++◌, ◌∷◌, [], List, length, Option, Some, None, ap, sym, ◌∙◌, subst, refl, arith}
use Rattle.std.specs.Prelude.{IsSome}
use Rattle.link_cells.specs.Cells.{IsLive}
use Rattle.link_cells.specs.Links.{slot_in, edge_in, latest_of, walk_to}
use Rattle.link_cells.proofs.Linking.{to_before}

-- where edges are left, there is a link
pub some_left : (links : List (ℕ × ℕ)) (at : Option ℕ) → 0 < length (walk_to links at) → IsSome at
some_left links None some = absurd (omega arith)
some_left links (Some p) some = refl

-- the link is one of those that there are
pub live_at : (links : List (ℕ × ℕ)) (at : Option ℕ) (p : ℕ) → at ≡ Some p → IsLive (length links) at → p < length links
live_at links at p is live = let here : IsLive (length links) (Some p) = subst (IsLive (length links)) is live in here

pub less_live : (links : List (ℕ × ℕ)) (p : ℕ) (before : Option ℕ) → p < length links → IsLive p before → IsLive (length links) before
less_live links p None less live = tt
less_live links p (Some q) less live = omega (arith, less, live)

-- the edges up to a link are those before it, and its own
pub whole_at : (links : List (ℕ × ℕ)) (at : Option ℕ) (p : ℕ) (before : List ℕ) → at ≡ Some p → walk_to links (Some p) ≡ before ++ edge_in links p ∷ [] → walk_to links at ≡ before ++ edge_in links p ∷ []
whole_at links at p before is walk = ap (walk_to links) is ∙ walk

-- the edges up to a link end with an edge that is read there
pub edge_at : (links : List (ℕ × ℕ)) (at : Option ℕ) (p e : ℕ) → at ≡ Some p → e ≡ edge_in links p → IsLive (length links) at → (before : List ℕ) × (walk_to links at ≡ before ++ e ∷ [])
edge_at links at p e is read live =
    let before = walk_to links (latest_of links (slot_in links p) p) in
    (before, whole_at links at p before is (to_before links p _ (live_at links at p is live) refl) ∙ ap (λ d. before ++ d ∷ []) (sym read))
