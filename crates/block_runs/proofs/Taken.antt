-- From what the reads of an input took to what is said of it where the inputs tell.
use Rattle.std.proofs.Common.{◌≡◌, ◌<◌, ◌^◌, ℕ, List, length, Option, Some, sym, ap, subst, ◌∙◌}
use Rattle.flow_io.specs.Outside.{Selected, Starts, Took}
use Rattle.program_runs.proofs.Inputs.{left-at, taken-at, where_took}
use Rattle.block_runs.specs.Run.{HasEnded}
use Rattle.block_runs.specs.Whole.{WhereSeen, taken, IsAtEnd}

-- so many bytes were taken
pub takes-count : (file : List ℕ) (held : Option (List ℕ)) (first last : Option (Option Selected)) (bytes : List ℕ) (n : ℕ) →
    Starts file held first → Took first last bytes → length bytes ≡ n → WhereSeen held last (λ seen. length (taken file seen) ≡ n)
takes-count file held first last bytes n starts took long =
    where_took (λ seen. length (taken file seen) ≡ n) file held first last bytes starts took
    (λ rest _. subst (λ b. length b ≡ n) (sym (taken-at file bytes rest)) long)

-- all bytes were taken
pub takes-all : (file : List ℕ) (held : Option (List ℕ)) (first last : Option (Option Selected)) (bytes : List ℕ) →
    Starts file held first → Took first last bytes → IsAtEnd last → length bytes < 2 ^ 30 → WhereSeen held last (HasEnded file)
takes-all file held first last bytes starts took end short =
    where_took (HasEnded file) file held first last bytes starts took (λ rest at_end. record {
      nothing_left = left-at file bytes rest ∙ ap Some (at_end end);
      short = subst (λ b. length b < 2 ^ 30) (sym (taken-at file bytes rest)) short;
    })
