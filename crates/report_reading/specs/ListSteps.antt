-- What the lines of the lists of a report text give to a draft, and why one is bad.
use Rattle.std.specs.Prelude.{ℕ, ◌-◌, ◌==◌, List, [], ◌∷◌, ◌++◌, drop, Bool, true, nat_lt, if◌then◌else◌, Option, Some, None, Result, Ok, Err, codes}
use Rattle.std.specs.Option.{option_map, unwrap_or}
use Rattle.decomposition.specs.declared.Side.TheVariants.{Entering, Leaving}
use Rattle.decomposition.specs.declared.Token.{Token}
use Rattle.decomposition.specs.declared.Token.TheVariants.{Gap, Miss, Split, Step}
use Rattle.decomposition.specs.Graph.{is_list_before}
use Rattle.decomposition.specs.Answer.{comes_before}
use Rattle.graph_text.specs.Labels.{LabelLists}
use Rattle.report_terms.specs.declared.report.Mark.{Mark}
use Rattle.report_terms.specs.declared.report.Mark.TheVariants.{Optimal, Infeasible, Bounds}
use Rattle.report_terms.specs.declared.report.Cert.{Cert}
use Rattle.report_terms.specs.declared.report.Cert.TheVariants.{Zero, Wide, Tree, Cut, Crowd}
use Rattle.report_terms.specs.declared.report.Trail.{Trail}
use Rattle.report_reading.specs.declared.draft.Draft.{Draft}
use Rattle.report_reading.specs.declared.draft.Place.{Place}
use Rattle.report_reading.specs.declared.draft.Place.TheVariants.{PathOrCert, Item, TrailHead, TrailToken, SafeOrEnd, Run, End}
use Rattle.report_reading.specs.declared.read_fault.ReadWhy.{ReadWhy}
use Rattle.report_reading.specs.declared.read_fault.ReadWhy.TheVariants.{BadForm, BadNumber, BadName, BadOrder}
use Rattle.report_reading.specs.LineFields.{field_at, has_words, has_words_and_more, greatest, number_in, place_in, decision_in, vertex_in, edge_in, edges_in}
use Rattle.report_reading.specs.LineSteps.{must, given, given_ok, found_so_far, end_step}

-- the last entry of a list
abbrev pub last_of : {X : Type 0} → List X → Option X
last_of [] = None
last_of (x ∷ []) = Some x
last_of (x ∷ y ∷ xs) = last_of (y ∷ xs)

-- whether an entry may stand after the last one
abbrev pub may_follow : {X : Type 0} → (X → X → Bool) → Option X → X → Bool
may_follow before None x = true
may_follow before (Some last) x = before last x

-- a path and its weight, after the paths before it
abbrev pub path_after : LabelLists → List (List ℕ × ℕ) → List (List ℕ) → Result (List ℕ × ℕ) ReadWhy
path_after labels paths fields =
    given BadNumber (number_in 1 greatest (field_at fields 1)) (λ weight.
    given BadName (edges_in labels (drop 2 fields)) (λ path.
    must BadOrder (may_follow comes_before (last_of paths) (path, weight)) (Ok (path, weight))))

-- a decision, from the fields behind the word, and the number of tokens
abbrev pub trail_in : List ℕ → List ℕ → List ℕ → Result (Trail × ℕ) ReadWhy
trail_in slots limit count =
    given BadNumber (decision_in slots limit) (λ decision.
    given BadNumber (number_in 0 greatest count) (λ n. Ok (record { decision = decision; tokens = [] }, n)))

-- a certificate without its items, and the number of them
abbrev pub cert_in : LabelLists → List (List ℕ) → Result (Cert × ℕ) ReadWhy
cert_in labels fields =
    if has_words (codes "cert" ∷ codes "none" ∷ []) 2 fields then Ok (Zero, 0)
    else (if has_words (codes "cert" ∷ codes "wide" ∷ []) 3 fields
    then given BadNumber (number_in 0 greatest (field_at fields 2)) (λ n. Ok (Wide [], n))
    else (if has_words (codes "cert" ∷ codes "tree" ∷ []) 5 fields
    then given_ok (trail_in (field_at fields 2) (field_at fields 3) (field_at fields 4)) (λ t. Ok (Tree t.0, t.1))
    else (if has_words (codes "cert" ∷ codes "cut" ∷ codes "in" ∷ []) 4 fields
    then given BadNumber (number_in 0 greatest (field_at fields 3)) (λ n. Ok (Cut Entering [], n))
    else (if has_words (codes "cert" ∷ codes "cut" ∷ codes "out" ∷ []) 4 fields
    then given BadNumber (number_in 0 greatest (field_at fields 3)) (λ n. Ok (Cut Leaving [], n))
    else must BadForm (has_words (codes "cert" ∷ codes "crowd" ∷ []) 5 fields)
    (given BadNumber (number_in 0 greatest (field_at fields 4)) (λ n.
    given BadName (edge_in labels (field_at fields 2) (field_at fields 3)) (λ e. Ok (Crowd e [], n))))))))

-- the place after a certificate, and the one before so many of its items
abbrev pub after_cert : Mark → Place
after_cert Optimal = SafeOrEnd
after_cert Infeasible = SafeOrEnd
after_cert Bounds = TrailHead

abbrev pub before_items : Mark → ℕ → Place
before_items mark n = if n == 0 then after_cert mark else Item n

-- the certificate
abbrev pub cert_step : LabelLists → Draft → List (List ℕ) → Result Draft ReadWhy
cert_step labels d fields =
    given_ok (cert_in labels fields) (λ c. Ok (found_so_far d (before_items d.solved.mark c.1) (record d.solved { cert = c.0 })))

-- a path, or the certificate
abbrev pub path_or_cert_step : LabelLists → Draft → List (List ℕ) → Result Draft ReadWhy
path_or_cert_step labels d fields =
    if has_words_and_more (codes "path" ∷ []) 4 fields
    then given_ok (path_after labels d.solved.paths fields) (λ entry.
    Ok (found_so_far d PathOrCert (record d.solved { paths = d.solved.paths ++ entry ∷ [] })))
    else cert_step labels d fields

-- a token
abbrev pub token_in : List (List ℕ) → Result Token ReadWhy
token_in fields =
    if has_words (codes "gap" ∷ []) 1 fields then Ok Gap
    else (if has_words (codes "miss" ∷ []) 2 fields then given BadNumber (place_in (field_at fields 1)) (λ c. Ok (Miss c))
    else (if has_words (codes "split" ∷ []) 2 fields then given BadNumber (place_in (field_at fields 1)) (λ k. Ok (Split k))
    else must BadForm (has_words (codes "step" ∷ []) 2 fields) (given BadNumber (place_in (field_at fields 1)) (λ k. Ok (Step k)))))

-- a trail with one more token
abbrev pub with_token : Token → Trail → Trail
with_token token trail = record trail { tokens = trail.tokens ++ token ∷ [] }

-- an edge, a vertex and a rule, after those before them
abbrev pub edge_after : LabelLists → List ℕ → List (List ℕ) → Result ℕ ReadWhy
edge_after labels edges fields =
    must BadForm (has_words (codes "edge" ∷ []) 3 fields)
    (given BadName (edge_in labels (field_at fields 1) (field_at fields 2)) (λ e.
    must BadOrder (may_follow nat_lt (last_of edges) e) (Ok e)))

abbrev pub vertex_after : LabelLists → List ℕ → List (List ℕ) → Result ℕ ReadWhy
vertex_after labels vertices fields =
    must BadForm (has_words (codes "vertex" ∷ []) 2 fields)
    (given BadName (vertex_in labels (field_at fields 1)) (λ v. must BadOrder (may_follow nat_lt (last_of vertices) v) (Ok v)))

abbrev pub rule_after : List ℕ → List (List ℕ) → Result ℕ ReadWhy
rule_after rules fields =
    must BadForm (has_words (codes "rule" ∷ []) 2 fields)
    (given BadNumber (place_in (field_at fields 1)) (λ c. must BadOrder (may_follow nat_lt (last_of rules) c) (Ok c)))

-- a certificate with one more item
abbrev pub with_item : LabelLists → Cert → List (List ℕ) → Result Cert ReadWhy
with_item labels Zero fields = Err BadForm
with_item labels (Wide edges) fields = given_ok (edge_after labels edges fields) (λ e. Ok (Wide (edges ++ e ∷ [])))
with_item labels (Tree tree) fields = given_ok (token_in fields) (λ token. Ok (Tree (with_token token tree)))
with_item labels (Cut side vertices) fields = given_ok (vertex_after labels vertices fields) (λ v. Ok (Cut side (vertices ++ v ∷ [])))
with_item labels (Crowd e rules) fields = given_ok (rule_after rules fields) (λ c. Ok (Crowd e (rules ++ c ∷ [])))

-- an item of the certificate, the first of so many
abbrev pub item_step : LabelLists → Draft → ℕ → List (List ℕ) → Result Draft ReadWhy
item_step labels d n fields =
    given_ok (with_item labels d.solved.cert fields) (λ cert.
    Ok (found_so_far d (before_items d.solved.mark (n - 1)) (record d.solved { cert = cert })))

-- the place before so many tokens of a trail
abbrev pub before_tokens : ℕ → Place
before_tokens n = if n == 0 then SafeOrEnd else TrailToken n

-- a trail without its tokens
abbrev pub trail_step : Draft → List (List ℕ) → Result Draft ReadWhy
trail_step d fields =
    must BadForm (has_words (codes "trail" ∷ []) 4 fields)
    (given_ok (trail_in (field_at fields 1) (field_at fields 2) (field_at fields 3)) (λ t.
    Ok (found_so_far d (before_tokens t.1) (record d.solved { trail = Some t.0 }))))

-- a token of the trail, the first of so many
abbrev pub trail_token_step : Draft → ℕ → List (List ℕ) → Result Draft ReadWhy
trail_token_step d n fields =
    given_ok (token_in fields) (λ token.
    Ok (found_so_far d (before_tokens (n - 1)) (record d.solved { trail = option_map (with_token token) d.solved.trail })))

-- the place before so many safe runs
abbrev pub before_runs : ℕ → Place
before_runs n = if n == 0 then End else Run n

-- the number of safe runs, or the end
abbrev pub safe_or_end_step : Draft → List (List ℕ) → Result Draft ReadWhy
safe_or_end_step d fields =
    if has_words (codes "safe" ∷ []) 2 fields
    then given BadNumber (number_in 0 greatest (field_at fields 1)) (λ n. Ok (found_so_far d (before_runs n) (record d.solved { safe = Some [] })))
    else end_step d fields

-- a safe run, after the runs before it
abbrev pub run_after : LabelLists → List (List ℕ) → List (List ℕ) → Result (List ℕ) ReadWhy
run_after labels runs fields =
    must BadForm (has_words_and_more (codes "run" ∷ []) 3 fields)
    (given BadName (edges_in labels (drop 1 fields)) (λ run. must BadOrder (may_follow is_list_before (last_of runs) run) (Ok run)))

-- a safe run, the first of so many
abbrev pub run_step : LabelLists → Draft → ℕ → List (List ℕ) → Result Draft ReadWhy
run_step labels d n fields =
    given_ok (run_after labels (unwrap_or d.solved.safe []) fields) (λ run.
    Ok (found_so_far d (before_runs (n - 1)) (record d.solved { safe = option_map (λ runs. runs ++ run ∷ []) d.solved.safe })))
