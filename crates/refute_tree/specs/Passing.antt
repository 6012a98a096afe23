-- Numbers in a range that pass a test.
use Rattle.std.specs.Prelude.{◌≡◌, ℕ, ◌<◌, ◌≤◌, Bool, true, false, Option, MatchOption}

-- none of the numbers from `from` up to `to` passes
abbrev pub NonePasses : (ℕ → Bool) → ℕ → ℕ → Type 0
NonePasses test from to = (e : ℕ) → from ≤ e → e < to → test e ≡ false

-- the first of the numbers from `from` up to `to` that passes, if there is one
abbrev pub IsFirstPassing : (ℕ → Bool) → ℕ → ℕ → Option ℕ → Type 0
IsFirstPassing test from to found =
    MatchOption found (NonePasses test from to) (λ e. (from ≤ e) × (e < to) × (test e ≡ true) × NonePasses test from e)
