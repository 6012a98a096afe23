-- What holds of some first ones of a list of blocks.
use Rattle.std.proofs.Common.{◌≡◌, ℕ, List, [], ◌∷◌, ◌++◌, length, take, Some, sym, ap, subst, ◌∙◌, arith, append-nil, inl, inr}
use Rattle.std.proofs.lemmas.Bool.{cases_lt}
use Rattle.std.proofs.lemmas.List.{take-append-le, take_all}
use Rattle.std.proofs.Math.Seq.{take-append_seam}
use Rattle.graph_text.specs.Blocks.{TextBlock, complete}
use Rattle.graph_text.proofs.Growing.{complete-grows, blocks-begin}
use Rattle.program_runs.specs.HandedBlocks.{blocks_at}

-- P holds of some first ones of these blocks
abbrev pub OfFirst : (List TextBlock → Type 0) → List TextBlock → Type 0
OfFirst P shown = (n : ℕ) × P (take n shown)

-- what holds of blocks holds of the first ones of more, and of the first ones of the same
pub first-more : (P : List TextBlock → Type 0) (shown more : List TextBlock) → P shown → OfFirst P (shown ++ more)
first-more P shown more holds = (length shown, subst P (sym (take-append_seam shown more)) holds)

pub first-all : (P : List TextBlock → Type 0) (shown : List TextBlock) → P shown → OfFirst P shown
first-all P shown holds = subst (OfFirst P) (append-nil shown) (first-more P shown [] holds)

-- what holds of some first ones of the blocks holds of some first ones of more
pub first-longer : (P : List TextBlock → Type 0) (shown more : List TextBlock) → OfFirst P shown → OfFirst P (shown ++ more)
first-longer P shown more h =
    elim (cases_lt h.0 (length shown)) [
      | inl less ↦ (h.0, subst P (sym (take-append-le h.0 shown more (omega arith))) h.1)
      | inr all ↦ (length shown, subst P (take_all h.0 shown all ∙ sym (take-append_seam shown more)) h.1)
    ]

-- and where the text goes on, of some first ones of its complete blocks
pub first-goes_on : (P : List TextBlock → Type 0) (bytes more whole : List ℕ) → whole ≡ bytes ++ more → OfFirst P (complete bytes) → OfFirst P (complete whole)
first-goes_on P bytes more whole is h =
    let grown = complete-grows bytes more in subst (OfFirst P) (sym (ap complete is ∙ grown.1)) (first-longer P (complete bytes) grown.0 h)

-- the blocks that may be answered begin with those that are complete
pub first-at : (P : List TextBlock → Type 0) (bytes rest : List ℕ) → OfFirst P (complete bytes) → OfFirst P (blocks_at bytes (Some rest))
first-at P bytes [] h = let all = blocks-begin bytes in subst (OfFirst P) (sym all.1) (first-longer P (complete bytes) all.0 h)
first-at P bytes (b ∷ rest) h = h
