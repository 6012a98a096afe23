-- Numbers that are brought within ranges.
use Rattle.std.specs.Prelude.{◌≡◌, ℕ, ◌<◌, min, max, List, length, slice_index}
use Rattle.decomposition.specs.declared.Range.{Range}
use Rattle.decomposition.specs.Instance.{range_at}

-- for each of the first n ranges the number in it that is nearest to the number at its place, which is 0 where the list is shorter
pub record AreBroughtBefore (n : ℕ) (ranges : List Range) (near flow : List ℕ) : Type 0 where
  pub count : length flow ≡ n
  pub each : (e : ℕ) → e < n → slice_index flow e ≡ min (max (slice_index near e) (range_at ranges e).lo) (range_at ranges e).hi

-- for all of them
abbrev pub AreBrought : List Range → List ℕ → List ℕ → Type 0
AreBrought ranges near flow = AreBroughtBefore (length ranges) ranges near flow
