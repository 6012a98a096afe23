-- Marks that are set.
use Rattle.std.proofs.Common.{◌≡◌, ◌≢◌, ℕ, zero, suc, true≢false, ◌<◌, List, [], ◌∷◌, Bool, true, false, length, replicate, slice_set, get_or-set_same, get_or-set_other, sym, arith, inl, inr}
use Rattle.std.proofs.lemmas.Bool.{cases_lt}
use Rattle.std.proofs.lemmas.List.{get_or_past, get_or-replicate, length-replicate}
use Rattle.dag_net.specs.Marks.{is_set}

-- a mark that is set, and the others
pub set-here : (marked : List Bool) (v : ℕ) → v < length marked → is_set (slice_set marked v true) v ≡ true
set-here marked v h = get_or-set_same marked v true false h

pub set-other : (marked : List Bool) (v u : ℕ) → u ≢ v → is_set (slice_set marked v true) u ≡ is_set marked u
set-other marked v u other = get_or-set_other marked v u true false other

-- a marked vertex is a vertex
pub set-below : (marked : List Bool) (v : ℕ) → is_set marked v ≡ true → v < length marked
set-below [] v h = absurd (true≢false (sym h))
set-below (b ∷ marked) zero h = omega arith
set-below (b ∷ marked) (suc v) h = omega (arith, set-below marked v h)

-- no mark is set
pub set-none : (n v : ℕ) → is_set (replicate n false) v ≡ false
set-none n v =
    elim (cases_lt v n) [
      | inl lt ↦ get_or-replicate n v false false lt
      | inr ge ↦ get_or_past (replicate n false) v false (omega (arith, length-replicate n false))
    ]
