-- Edges with one end at a vertex, looked at one after another.
use Rattle.std.proofs.Common.{◌≡◌, ◌≢◌, ℕ, ◌+◌, ◌-◌, ◌<◌, ◌≤◌, Option, None, Some, MatchOption, sym, subst, arith, inl, inr}
use Rattle.std.specs.Option.{option_map_or}
use Rattle.std.proofs.lemmas.Bool.{cases_lt, cases_eq}

-- of the edges with one end at v, up to the one at hand
module _ (m : ℕ) (end : ℕ → ℕ) (v : ℕ) where
  -- the first of them from a place on
  abbrev pub IsFirstAt : ℕ → Option ℕ → Type 0
  IsFirstAt from found = MatchOption found ((e : ℕ) → from ≤ e → e < m → end e ≢ v) (λ e. (from ≤ e) × (e < m) × (end e ≡ v) × ((d : ℕ) → from ≤ d → d < e → end d ≢ v))

  -- each before the one at hand is done
  abbrev pub AreDone : (ℕ → Type 0) → Option ℕ → Type 0
  AreDone P out = MatchOption out ((e : ℕ) → e < m → end e ≡ v → P e) (λ n. (n < m) × (end n ≡ v) × ((e : ℕ) → e < n → end e ≡ v → P e))

  pub AreDone-start : (P : ℕ → Type 0) (out : Option ℕ) → IsFirstAt 0 out → AreDone P out
  AreDone-start P None none = λ e h at. absurd (none e (omega arith) h at)
  AreDone-start P (Some n) first = (first.1, first.2, λ e h at. absurd (first.3 e (omega arith) h at))

  pub AreDone-more : (P Q : ℕ → Type 0) (n : ℕ) (out : Option ℕ) → AreDone P (Some n) → ((e : ℕ) → P e → Q e) → Q n → IsFirstAt (n + 1) out → AreDone Q out
  AreDone-more P Q n out done up here next = go out next where
    before : (e : ℕ) → e < n + 1 → end e ≡ v → Q e
    before e h at = elim (cases_eq e n) [ inl same ↦ subst Q (sym same) here | inr other ↦ up e (done.2 e (omega arith) at) ]

    go : (out : Option ℕ) → IsFirstAt (n + 1) out → AreDone Q out
    go None none = λ e h at. elim (cases_lt e (n + 1)) [ inl lt ↦ before e lt at | inr ge ↦ absurd (none e ge h at) ]
    go (Some k) first = (first.1, first.2, λ e h at. elim (cases_lt e (n + 1)) [ inl lt ↦ before e lt at | inr ge ↦ absurd (first.3 e ge h at) ])

-- the next edge at v is nearer to the end of the list
pub cursor-falls : (m : ℕ) (end : ℕ → ℕ) (v e : ℕ) (out : Option ℕ) → e < m → IsFirstAt m end v (e + 1) out → option_map_or (λ d. m - d) out 0 < m - e
cursor-falls m end v e None h none = omega arith
cursor-falls m end v e (Some n) h first = let a : e + 1 ≤ n = first.0 in let b : n < m = first.1 in omega arith
