-- A text of few bytes has few blocks.
use Rattle.std.proofs.Common.{◌≤◌, ◌<◌, ◌^◌, ◌+◌, ◌*◌, ℕ, List, [], ◌∷◌, ◌++◌, Bool, true, false, not, ◌&&◌, ◌||◌, ◌==◌, length, take, drop, if◌then◌else◌, sym, ap, subst, arith, append-nil, length-append, length-drop}
use Rattle.std.proofs.lemmas.List.{length-map}
use Rattle.graph_text.specs.Lines.{onto_first, spelled_lines, without_return, lines_of, is_hash_line, is_content_line}
use Rattle.graph_text.specs.Blocks.{join_first, groups, groups_of, all_but_last, lead, complete, blocks}
use Rattle.graph_text.proofs.BlockPlaces.{length-numbered}
use Rattle.graph_text.proofs.Growing.{complete-grows, blocks-begin}
use Rattle.program_runs.proofs.Parts.{parts-joined}
use Rattle.block_runs.specs.Underway.{MayBeTaken}

-- there are at most as many lines as bytes
onto_first-few : (b : ℕ) (lines : List (List ℕ)) → length (onto_first b lines) ≤ length lines + 1
onto_first-few b [] = omega arith
onto_first-few b (line ∷ lines) = omega arith

line-few : (ends : Bool) (b : ℕ) (lines : List (List ℕ)) → length (if ends then [] ∷ lines else onto_first b lines) ≤ length lines + 1
line-few true b lines = omega arith
line-few false b lines = onto_first-few b lines

spelled-few : (bytes : List ℕ) → length (spelled_lines bytes) ≤ length bytes
spelled-few [] = omega arith
spelled-few (b ∷ bytes) = omega (arith, line-few (b == 10) b (spelled_lines bytes), spelled-few bytes)

-- and at most twice as many groups as lines
join_first-few : (line : List ℕ) (gs : List (List (List ℕ))) → length (join_first line gs) ≤ length gs + 1
join_first-few line [] = omega arith
join_first-few line (g ∷ gs) = omega arith

begun-few : (begins : Bool) (gs : List (List (List ℕ))) → length (if begins then [] ∷ gs else gs) ≤ length gs + 1
begun-few true gs = omega arith
begun-few false gs = omega arith

groups-few : (filled : Bool) (lines : List (List ℕ)) → length (groups filled lines) ≤ 2 * length lines
groups-few filled [] = omega arith
groups-few filled (line ∷ lines) =
    let begins = is_hash_line line && filled in
    let rest = groups (is_content_line line || (filled && not begins)) lines in
    omega (arith, begun-few begins (join_first line rest), join_first-few line rest, groups-few (is_content_line line || (filled && not begins)) lines)

all_but_last-few : (gs : List (List (List ℕ))) → length (all_but_last gs) ≤ length gs
all_but_last-few [] = omega arith
all_but_last-few (g ∷ []) = omega arith
all_but_last-few (g ∷ h ∷ gs) = omega (arith, all_but_last-few (h ∷ gs))

complete-few : (bytes : List ℕ) → length (complete bytes) ≤ 2 * length bytes
complete-few bytes = omega (
  arith,
  length-numbered 1 (length (lead bytes) + 1) (all_but_last (groups_of bytes)),
  all_but_last-few (groups_of bytes),
  groups-few false (drop (length (lead bytes)) (lines_of bytes)),
  length-drop (length (lead bytes)) (lines_of bytes),
  length-map (spelled_lines bytes) without_return,
  spelled-few bytes,
)

-- so at most 2^30 bytes may be taken
pub may-short : (bytes : List ℕ) → length bytes ≤ 2 ^ 30 → MayBeTaken bytes
may-short bytes short = record { short = omega (arith, short); few = omega (arith, short, complete-few bytes) }

-- and a text with few blocks
pub may-text : (text : List ℕ) → length text < 2 ^ 63 → length (blocks text) < 2 ^ 32 → MayBeTaken text
may-text text short few =
    let all = blocks-begin text in
    record { short = short; few = omega (arith, few, ap length all.1, length-append (complete text) all.0) }

-- nothing more may be taken of what may be taken
pub may-nothing : (bytes : List ℕ) → MayBeTaken bytes → MayBeTaken (bytes ++ [])
may-nothing bytes may = subst MayBeTaken (sym (append-nil bytes)) may

-- a part has few complete blocks too
pub few-begin : (bytes more : List ℕ) → MayBeTaken (bytes ++ more) → length (complete bytes) < 2 ^ 32
few-begin bytes more may =
    let grown = complete-grows bytes more in omega (arith, may.few, ap length grown.1, length-append (complete bytes) grown.0)

pub few-part : (bytes piece : List ℕ) (d : ℕ) → MayBeTaken (bytes ++ piece) → length (complete (bytes ++ take d piece)) < 2 ^ 32
few-part bytes piece d may = few-begin (bytes ++ take d piece) (drop d piece) (subst MayBeTaken (parts-joined bytes piece d) may)
