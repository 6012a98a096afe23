-- What is wrong with a line, and the refusals of the lines of a block that stay whatever lines follow.
use Rattle.std.specs.Prelude.{◌≡◌, ℕ, ◌+◌, ◌-◌, ◌<◌, ◌==◌, List, ◌++◌, length, take, drop, filter, Bool, true, false, not, ◌&&◌, ◌||◌, nat_lt, if◌then◌else◌, Option, Some, None}
use Rattle.std.specs.List.{list_any, list_all}
use Rattle.decomposition.specs.declared.Mode.{Mode}
use Rattle.report_terms.specs.declared.refusal.Why.{Why}
use Rattle.report_terms.specs.declared.refusal.Why.TheVariants.{LongLine, BadCount, BadFields, BadWeight, BadRange, RepeatedEdge, TooManyEdges, TooManyConstraints, ShortConstraint}
use Rattle.report_terms.specs.declared.refusal.Refusal.{Refusal}
use Rattle.graph_text.specs.Lines.{are_no_fields, are_hash_fields}
use Rattle.graph_text.specs.Reading.{Line, most_bytes, most_edges, most_constraints, content_lines, count_lines, edge_lines, long_lines, bad_fields, bad_weights, bad_ranges, repeats, listed, short_lines, constraint_lines, is_count, is_weight, weights_of, range_in, same_fields, ends_of, refused, earliest}

-- whether a line is a content line
abbrev pub is_content : Line → Bool
is_content l = not (are_no_fields l.fields) && not (are_hash_fields l.fields)

-- the refusals of lines that stay whatever lines follow: all but that of a block without a count line
abbrev pub settled_refusals : Mode → List Line → List Refusal
settled_refusals mode lines =
    refused LongLine (long_lines lines)
    ++ refused BadCount (filter (λ l. not (is_count l.fields)) (count_lines lines))
    ++ refused BadFields (bad_fields mode lines)
    ++ refused BadWeight (bad_weights mode lines)
    ++ refused BadRange (bad_ranges mode lines)
    ++ refused RepeatedEdge (repeats (edge_lines lines))
    ++ refused TooManyEdges (take 1 (drop most_edges (edge_lines lines)))
    ++ refused TooManyConstraints (take 1 (drop most_constraints (constraint_lines lines)))
    ++ refused ShortConstraint (short_lines lines)

-- the weights among the fields of an edge line
abbrev pub weights_in : Mode → List (List ℕ) → List (List ℕ)
weights_in mode fields = drop (length fields - weights_of mode) fields

-- what is wrong with the fields of an edge line, taken for themselves
abbrev pub fault_of_fields : Mode → List (List ℕ) → Option Why
fault_of_fields mode fields =
    let range = range_in (weights_in mode fields) in
    if not (length fields == 2 + weights_of mode) then Some BadFields
    else (if not (list_all is_weight (weights_in mode fields)) then Some BadWeight
    else (if nat_lt range.hi range.lo then Some BadRange else None))

-- what is wrong with an edge line after others
abbrev pub fault_among : List Line → Line → Option Why
fault_among edges line =
    if list_any (λ e. same_fields (ends_of e) (ends_of line)) edges then Some RepeatedEdge
    else (if length edges == most_edges then Some TooManyEdges else None)

-- the first fault that there is
abbrev pub or_fault : Option Why → Option Why → Option Why
or_fault None other = other
or_fault (Some why) other = Some why

-- what is wrong with an edge line: for itself, or after others
abbrev pub fault_of_edge : Mode → List Line → Line → Option Why
fault_of_edge mode edges line =
    if nat_lt most_bytes line.bytes then Some LongLine
    else or_fault (fault_of_fields mode line.fields) (fault_among edges line)

-- what is wrong with a `#` line that is no `#S` line
abbrev pub fault_of_comment : Line → Option Why
fault_of_comment line = if nat_lt most_bytes line.bytes then Some LongLine else None

-- what is wrong with a list of vertices after other lists
abbrev pub fault_of_list : List (List (List ℕ)) → List (List ℕ) → Option Why
fault_of_list lists vertices =
    if nat_lt (length vertices) 2 then Some ShortConstraint
    else (if list_any (λ list. same_fields list vertices) lists then None
    else (if length lists == most_constraints then Some TooManyConstraints else None))

-- what is wrong with a `#S` line after lines that list these vertices
abbrev pub fault_of_run : List (List (List ℕ)) → Line → Option Why
fault_of_run lists line =
    if nat_lt most_bytes line.bytes then Some LongLine
    else fault_of_list lists (listed line)

-- what is wrong with a count line
abbrev pub fault_of_count : Line → Option Why
fault_of_count line =
    if nat_lt most_bytes line.bytes then Some LongLine
    else (if not (is_count line.fields) then Some BadCount else None)

-- a fault of a line of this number
abbrev pub refusal_at : ℕ → Option Why → Option Refusal
refusal_at number None = None
refusal_at number (Some why) = Some (record { line = number; why = why })

-- whether a refusal is of a line that is too long
abbrev pub is_of_length : Why → Bool
is_of_length LongLine = true
is_of_length _ = false

-- The refusal of a block without a content line, by the first one of a line for itself or for those before it, and by
-- the number of the last line that is not blank.
abbrev pub without_count : Option Refusal → ℕ → Refusal
without_count None last = record { line = last; why = BadCount }
without_count (Some r) last = if nat_lt r.line last || is_of_length r.why then r else record { line = last; why = BadCount }

-- No line is refused for itself or for the lines before it, and there is a count line.
pub record NoneRefused (mode : Mode) (lines : List Line) : Type 0 where
  pub some : 0 < length (content_lines lines)
  pub settled : earliest (settled_refusals mode lines) ≡ None
