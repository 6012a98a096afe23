-- Blank lines and content lines are no `#S` lines, and `#S` lines are `#` lines.
use Rattle.std.proofs.Common.{◌≡◌, ℕ, List, [], ◌∷◌, true, false, refl, sym, ap, ◌∙◌}
use Rattle.std.proofs.lemmas.Bool.{true≢false, false≢true, false_from_ne_true}
use Rattle.std.proofs.lemmas.Slice.Eq.{bytes_eq-Decides}
use Rattle.graph_text.specs.Lines.{are_no_fields, are_hash_fields, are_run_fields, begins_with_hash}

pub no_run-blank : (fields : List (List ℕ)) → are_no_fields fields ≡ true → are_run_fields fields ≡ false
no_run-blank [] e = refl
no_run-blank (field ∷ fields) e = absurd (false≢true e)

pub hash-run : (fields : List (List ℕ)) → are_run_fields fields ≡ true → are_hash_fields fields ≡ true
hash-run [] e = e
hash-run (field ∷ fields) e = ap begins_with_hash ((bytes_eq-Decides field (35 ∷ 83 ∷ [])).0 e)

pub no_run-content : (fields : List (List ℕ)) → are_hash_fields fields ≡ false → are_run_fields fields ≡ false
no_run-content fields e = false_from_ne_true (are_run_fields fields) (λ t. true≢false (sym (hash-run fields t) ∙ e))
