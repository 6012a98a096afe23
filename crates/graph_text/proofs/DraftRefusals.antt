-- The refusal of a block from what its draft keeps of its lines.
use Rattle.std.proofs.Common.{◌≡◌, ℕ, ◌+◌, ◌-◌, ◌<◌, ◌≤◌, List, [], ◌∷◌, drop, length, length-drop, get_or, true, false, not, Err, Option, Some, None, sym, ap, ◌∙◌, arith, ⊎_elim}
use Rattle.std.specs.List.{All}
use Rattle.std.specs.Option.{IfSome, IfNone, option_to_list}
use Rattle.std.proofs.lemmas.Bool.{cases_lt}
use Rattle.std.proofs.lemmas.List.{drop_more}
use Rattle.std.proofs.lemmas.List.Kept.{AllPairs-filter}
use Rattle.decomposition.specs.declared.Mode.{Mode}
use Rattle.graph_text.specs.declared.draft.Draft.{Draft}
use Rattle.report_terms.specs.declared.refusal.Refusal.{Refusal}
use Rattle.graph_text.specs.Draft.{Drafts, settled_refusals}
use Rattle.graph_text.specs.DraftGraph.{numbers_of}
use Rattle.graph_text.specs.LineFaults.{NoneRefused, without_count}
use Rattle.graph_text.specs.Lines.{are_no_fields}
use Rattle.graph_text.specs.Reading.{Line, filled_lines, content_lines, last_filled, earliest, read_lines}
use Rattle.graph_text.proofs.Drafting.{none-content, some-content}
use Rattle.graph_text.proofs.Finishing.{Rises}
use Rattle.graph_text.proofs.Verdicts.{read-settled, read-no_count}

-- the last of rising lines has the greatest number
last_high : (lines : List Line) (n : ℕ) → Rises lines → numbers_of (drop (length lines - 1) lines) ≡ n ∷ [] → All (λ l. l.number ≤ n) lines
last_high lines n rises e = λ k d within.
    let end = length lines - 1 in
    let step : drop end lines ≡ get_or lines end d ∷ drop (end + 1) lines = drop_more lines end d (omega arith) in
    let is : (get_or lines end d).number ∷ numbers_of (drop (end + 1) lines) ≡ n ∷ [] = sym (ap numbers_of step) ∙ e in
    let last : (get_or lines end d).number ≡ n = cc in
    ⊎_elim
    (λ (less : k < end). omega (arith, rises k end d less (omega arith)))
    (λ (more : end ≤ k). let same : k ≡ end = omega arith in omega (arith, ap (λ j. (get_or lines j d).number) same))
    (cases_lt k end)

module _ (mode : Mode) (lines : List Line) (draft : Draft) (drafts : Drafts mode lines draft) where
  -- with a content line, the refusal that stands
  module _ (filled : draft.is_filled ≡ true) where
    some : 0 < length (content_lines lines)
    some = some-content lines (sym drafts.filled ∙ filled)

    pub refused-standing : IfSome draft.refusal (λ r. read_lines mode lines ≡ Err r)
    refused-standing = by draft.refusal drafts.refusal_is
      where
        by : (o : Option Refusal) → o ≡ earliest (settled_refusals mode lines) → IfSome o (λ r. read_lines mode lines ≡ Err r)
        by None e = tt
        by (Some r) e = read-settled mode lines some r (sym e)

    pub none-standing : IfNone draft.refusal (NoneRefused mode lines)
    none-standing = by draft.refusal drafts.refusal_is
      where
        by : (o : Option Refusal) → o ≡ earliest (settled_refusals mode lines) → IfNone o (NoneRefused mode lines)
        by None e = record { some = some; settled = sym e }
        by (Some r) e = tt

  -- without one, that refusal or the one of the last line
  pub refused-no_count : draft.is_filled ≡ false → (n : ℕ) → draft.last_filled ≡ Some n → read_lines mode lines ≡ Err (without_count draft.refusal n)
  refused-no_count empty n e =
      read-no_count mode lines (none-content lines (sym drafts.filled ∙ empty)) n last low ∙ ap (λ o. Err (without_count o n)) (sym drafts.refusal_is)
    where
      last : numbers_of (last_filled lines) ≡ n ∷ []
      last = sym drafts.last ∙ ap option_to_list e

      low : All (λ l. l.number ≤ n) (filled_lines lines)
      low = last_high (filled_lines lines) n (AllPairs-filter (λ a b. a.number ≤ b.number) (λ l. not (are_no_fields l.fields)) lines drafts.rising) last

  -- a block whose lines are not all blank has a last line that is not blank
  pub some-last : 0 < length (filled_lines lines) → draft.last_filled ≡ None → ⊥
  some-last some none = by (last_filled lines) (omega (arith, length-drop (length (filled_lines lines) - 1) (filled_lines lines))) (sym drafts.last ∙ ap option_to_list none)
    where
      by : (ls : List Line) → 0 < length ls → numbers_of ls ≡ [] → ⊥
      by [] some e = omega arith
      by (l ∷ ls) some e = let f : l.number ∷ numbers_of ls ≡ [] = e in cc
