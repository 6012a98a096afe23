-- What the lines of a report text up to the bounds give to a draft, and why one is bad.
use Rattle.std.specs.Prelude.{◌≡◌, ℕ, ◌==◌, List, [], ◌∷◌, drop, length, Bool, true, false, not, ◌&&◌, ◌||◌, nat_eq, if◌then◌else◌, Option, Some, None, Result, Ok, Err, codes}
use Rattle.std.specs.List.{list_any, before_first, after_first, starts_with}
use Rattle.decomposition.specs.declared.Mode.{Mode}
use Rattle.decomposition.specs.declared.Mode.TheVariants.{Exact, Interval, Abs}
use Rattle.report_terms.specs.declared.refusal.Refusal.{Refusal}
use Rattle.report_terms.specs.declared.report.Mark.{Mark}
use Rattle.report_terms.specs.declared.report.Mark.TheVariants.{Optimal, Infeasible, Bounds}
use Rattle.report_terms.specs.declared.report.Solved.{Solved}
use Rattle.report_reading.specs.declared.draft.Draft.{Draft}
use Rattle.report_reading.specs.declared.draft.Place.{Place}
use Rattle.report_reading.specs.declared.draft.Place.TheVariants.{Model, Third, Lower, Upper, PathOrCert, End, Nothing}
use Rattle.report_reading.specs.declared.read_fault.ReadWhy.{ReadWhy}
use Rattle.report_reading.specs.declared.read_fault.ReadWhy.TheVariants.{BadForm, BadNumber}
use Rattle.report_reading.specs.declared.read_fault.LineFault.{LineFault}
use Rattle.report_reading.specs.declared.read_fault.LineFault.TheVariants.{Bad, Memory}
use Rattle.report_reading.specs.ReportText.{is_name}
use Rattle.report_reading.specs.LineFields.{field_at, has_words, greatest, number_in, limit_in, why_in}

-- a test on a line: where it fails the line is bad, and otherwise the rest decides
abbrev pub must : {X : Type 0} → ReadWhy → Bool → Result X ReadWhy → Result X ReadWhy
must why true rest = rest
must why false rest = Err why

-- a part of a line: where there is none the line is bad, and otherwise the rest decides
abbrev pub given : {X Y : Type 0} → ReadWhy → Option X → (X → Result Y ReadWhy) → Result Y ReadWhy
given why None rest = Err why
given why (Some part) rest = rest part

-- a part of a draft: where its line is bad it stays so, and otherwise the rest decides
abbrev pub given_ok : {X Y : Type 0} → Result X ReadWhy → (X → Result Y ReadWhy) → Result Y ReadWhy
given_ok (Err why) rest = Err why
given_ok (Ok part) rest = rest part

-- the number and the name of the block: `graph I` or `graph I NAME`
abbrev pub graph_in : List ℕ → Result (ℕ × List ℕ) ReadWhy
graph_in l =
    let rest = drop 6 l in
    let index = before_first (λ b. b == 32) rest in
    let name = after_first (λ b. b == 32) rest in
    must BadForm (starts_with nat_eq l (codes "graph "))
    (must BadForm (not (length index == 0) && not (list_any (λ b. b == 9) index))
    (must BadForm (not (list_any (λ b. b == 32) rest) || (not (length name == 0) && is_name name))
    (given BadNumber (number_in 1 greatest index) (λ n. Ok (n, name)))))

-- the model
abbrev pub model_in : List (List ℕ) → Result Mode ReadWhy
model_in fields =
    if has_words (codes "model" ∷ codes "exact" ∷ []) 2 fields then Ok Exact
    else (if has_words (codes "model" ∷ codes "interval" ∷ []) 2 fields then Ok Interval
    else must BadForm (has_words (codes "model" ∷ codes "abs" ∷ []) 3 fields) (given BadNumber (number_in 0 64 (field_at fields 2)) (λ k. Ok (Abs k))))

-- the mark
abbrev pub mark_in : List (List ℕ) → Result Mark ReadWhy
mark_in fields =
    if has_words (codes "mark" ∷ codes "optimal" ∷ []) 2 fields then Ok Optimal
    else (if has_words (codes "mark" ∷ codes "infeasible" ∷ []) 2 fields then Ok Infeasible
    else must BadForm (has_words (codes "mark" ∷ codes "bounds" ∷ []) 2 fields) (Ok Bounds))

-- a refusal: `refused L WHY`
abbrev pub refusal_in : List (List ℕ) → Result Refusal ReadWhy
refusal_in fields =
    given BadForm (why_in (field_at fields 2)) (λ why.
    given BadNumber (number_in 1 greatest (field_at fields 1)) (λ n. Ok (record { line = n; why = why })))

-- a bound, behind this word
abbrev pub bound_in : List ℕ → List (List ℕ) → Result (Option ℕ) ReadWhy
bound_in word fields = must BadForm (has_words (word ∷ []) 2 fields) (given BadNumber (limit_in (field_at fields 1)) (λ bound. Ok bound))

-- the draft at a place, with these parts of what was found
abbrev pub found_so_far : Draft → Place → Solved → Draft
found_so_far d place s = record d { place = place; solved = s }

-- what the lines give to a draft: that of the block, of the model, of a refusal or the mark, of the bounds, and the end
abbrev pub graph_step : Draft → List ℕ → Result Draft ReadWhy
graph_step d l = given_ok (graph_in l) (λ graph. Ok (record d { place = Model; index = graph.0; name = graph.1 }))

abbrev pub model_step : Draft → List (List ℕ) → Result Draft ReadWhy
model_step d fields = given_ok (model_in fields) (λ mode. Ok (record d { place = Third; mode = mode }))

abbrev pub third_step : Draft → List (List ℕ) → Result Draft ReadWhy
third_step d fields =
    if has_words (codes "refused" ∷ []) 3 fields
    then given_ok (refusal_in fields) (λ refusal. Ok (record d { place = End; refusal = Some refusal }))
    else given_ok (mark_in fields) (λ mark. Ok (found_so_far d Lower (record d.solved { mark = mark })))

abbrev pub lower_step : Draft → List (List ℕ) → Result Draft ReadWhy
lower_step d fields =
    given_ok (bound_in (codes "lower") fields) (λ bound. Ok (found_so_far d Upper (record d.solved { lower = bound })))

abbrev pub upper_step : Draft → List (List ℕ) → Result Draft ReadWhy
upper_step d fields =
    given_ok (bound_in (codes "upper") fields) (λ bound. Ok (found_so_far d PathOrCert (record d.solved { upper = bound })))

abbrev pub end_step : Draft → List (List ℕ) → Result Draft ReadWhy
end_step d fields = must BadForm (has_words (codes "end" ∷ []) 1 fields) (Ok (record d { place = Nothing }))

-- a line was not taken for this cause; want of memory says nothing
abbrev pub FaultsAs : {X : Type 0} → Result X ReadWhy → LineFault → Type 0
FaultsAs taken (Bad why) = taken ≡ Err why
FaultsAs taken Memory = Unit {0}
