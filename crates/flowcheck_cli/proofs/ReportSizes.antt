-- A report has no more paths, items and tokens than its text has bytes, and a bad line is a line of the text.
use Rattle.std.proofs.Common.{ℕ, ◌+◌, ◌<◌, ◌≤◌, ◌^◌, List, [], ◌∷◌, ◌++◌, length, subst, arith, length-append}
use Rattle.std.specs.Prelude.{Option, Some, None, flat_map, codes, decimal}
use Rattle.std.specs.List.{join_with_byte}
use Rattle.decomposition.specs.declared.Token.{Token}
use Rattle.decomposition.specs.declared.Token.TheVariants.{Gap, Miss, Split, Step}
use Rattle.graph_text.specs.Labels.{LabelLists, name_at, tail_at, head_at}
use Rattle.report_terms.specs.declared.report.Cert.{Cert}
use Rattle.report_terms.specs.declared.report.Cert.TheVariants.{Zero, Wide, Tree, Cut, Crowd}
use Rattle.report_terms.specs.declared.report.Trail.{Trail}
use Rattle.report_terms.specs.declared.report.Solved.{Solved}
use Rattle.report_terms.specs.declared.report.Body.{Body}
use Rattle.report_terms.specs.declared.report.Body.TheVariants.{Refused, Solved as SolvedBody}
use Rattle.report_terms.specs.declared.report.Report.{Report}
use Rattle.report_reading.specs.BadLines.{IsTextOf}
use Rattle.report_reading.specs.Names.{names_along}
use Rattle.report_reading.specs.ReportText.{line, side_word, trail_fields, edge_line, vertex_line, rule_line, token_line, path_line, cert_text, trail_text, safe_text, marks_text, solved_text, body_text, graph_line, model_line}
use Rattle.cert_check.specs.Verdict.{Line, item_count, token_count, trail_lines, place_of, IsShortBody}
use Rattle.cert_check.specs.Verdict.Line.{MarkLine, UpperLine, CertLine, TrailLine, SafeLine}
use Rattle.flowcheck_cli.specs.Short.{HasFewItems, HasFewLines}

-- a line has a byte
line-some : (fields : List (List ℕ)) → 1 ≤ length (line fields)
line-some fields = omega (arith, length-append (join_with_byte 32 fields) (10 ∷ []))

token-some : (t : Token) → 1 ≤ length (token_line t)
token-some Gap = line-some (codes "gap" ∷ [])
token-some (Miss c) = line-some (codes "miss" ∷ decimal (c + 1) ∷ [])
token-some (Split k) = line-some (codes "split" ∷ decimal (k + 1) ∷ [])
token-some (Step k) = line-some (codes "step" ∷ decimal (k + 1) ∷ [])

-- there are no more items than bytes of their lines
items-fit : {X : Type 0} (f : X → List ℕ) → ((x : X) → 1 ≤ length (f x)) → (xs : List X) → length xs ≤ length (flat_map f xs)
items-fit f some [] = omega arith
items-fit f some (x ∷ xs) = omega (arith, some x, items-fit f some xs, length-append (f x) (flat_map f xs))

less : {m n : ℕ} → 1 + m ≤ n → m ≤ n
less h = omega (arith, h)

-- the same with a head before the lines
behind-head : {X : Type 0} (f : X → List ℕ) → ((x : X) → 1 ≤ length (f x)) → (fields : List (List ℕ)) (xs : List X) →
    1 + length xs ≤ length (line fields ++ flat_map f xs)
behind-head f some fields xs = omega (arith, line-some fields, items-fit f some xs, length-append (line fields) (flat_map f xs))

cert-fits : (labels : LabelLists) (cert : Cert) → item_count cert ≤ length (cert_text labels cert)
cert-fits labels Zero = omega arith
cert-fits labels (Wide edges) =
    less (behind-head (edge_line labels) (λ e. line-some (codes "edge" ∷ name_at labels (tail_at labels e) ∷ name_at labels (head_at labels e) ∷ []))
    (codes "cert" ∷ codes "wide" ∷ decimal (length edges) ∷ []) edges)
cert-fits labels (Tree tree) = less (behind-head token_line token-some (codes "cert" ∷ codes "tree" ∷ trail_fields tree) tree.tokens)
cert-fits labels (Cut side vertices) =
    less (behind-head (vertex_line labels) (λ v. line-some (codes "vertex" ∷ name_at labels v ∷ []))
    (codes "cert" ∷ codes "cut" ∷ side_word side ∷ decimal (length vertices) ∷ []) vertices)
cert-fits labels (Crowd e rules) =
    less (behind-head rule_line (λ c. line-some (codes "rule" ∷ decimal (c + 1) ∷ []))
    (codes "cert" ∷ codes "crowd" ∷ name_at labels (tail_at labels e) ∷ name_at labels (head_at labels e) ∷ decimal (length rules) ∷ []) rules)

trail-fits : (trail : Option Trail) → trail_lines trail ≤ length (trail_text trail)
trail-fits None = omega arith
trail-fits (Some t) = behind-head token_line token-some (codes "trail" ∷ trail_fields t) t.tokens

-- each of five parts is as short as all
parts-below : (a b c d e : List ℕ) (n : ℕ) → length (a ++ b ++ c ++ d ++ e) < n → (length b < n) × (length c < n) × (length d < n)
parts-below a b c d e n small =
    let four = length-append (a ++ b ++ c ++ d) e in
    let three = length-append (a ++ b ++ c) d in
    let two = length-append (a ++ b) c in
    let one = length-append a b in
    (omega (arith, small, one, two, three, four), omega (arith, small, two, three, four), omega (arith, small, three, four))

third-below : (a b c d : List ℕ) (n : ℕ) → length (a ++ b ++ c ++ d) < n → length c < n
third-below a b c d n small = omega (arith, small, length-append (a ++ b ++ c) d, length-append (a ++ b) c)

solved-short : (labels : LabelLists) (s : Solved) → length (solved_text labels s) < 2 ^ 32 → HasFewItems s
solved-short labels s small =
    let parts = parts-below (marks_text s) (flat_map (path_line labels) s.paths) (cert_text labels s.cert) (trail_text s.trail) (safe_text labels s.safe) (2 ^ 32) small in
    record {
      paths = omega (arith, parts.0, items-fit (path_line labels) (λ entry. line-some (codes "path" ∷ decimal entry.1 ∷ names_along labels entry.0)) s.paths);
      items = omega (arith, parts.1, cert-fits labels s.cert);
      trail = omega (arith, parts.2, trail-fits s.trail);
    }

body-short : (labels : LabelLists) (body : Body) → length (body_text labels body) < 2 ^ 32 → HasFewLines body
body-short labels (Refused refusal) small = tt
body-short labels (SolvedBody s) small = solved-short labels s small

-- the report of a short text is short
pub report-short : (labels : LabelLists) (report : Report) (text : List ℕ) → IsTextOf labels report text → length text < 2 ^ 32 → HasFewLines report.body
report-short labels report text is small =
    body-short labels report.body
    (third-below (graph_line report.index report.name) (model_line report.mode) (body_text labels report.body) (line (codes "end" ∷ [])) (2 ^ 32)
    (subst (λ t. length t < 2 ^ 32) is.text_is small))

-- a certificate has no more tokens than items
tokens-below : (cert : Cert) → token_count cert ≤ item_count cert
tokens-below Zero = omega arith
tokens-below (Wide edges) = omega arith
tokens-below (Tree tree) = omega arith
tokens-below (Cut side vertices) = omega arith
tokens-below (Crowd e rules) = omega arith

-- a body with few lines is short enough to be checked
pub few-short : (body : Body) → HasFewLines body → IsShortBody body
few-short (Refused refusal) few = tt
few-short (SolvedBody s) few =
    record { few_paths = few.paths; few_tokens = omega (arith, tokens-below s.cert, few.items); few_in_trail = few.trail }

-- the line whose clause fails is a small number
pub place-small : (s : Solved) (l : Line) → HasFewItems s → (1 ≤ place_of s l) × (place_of s l < 2 ^ 36)
place-small s MarkLine short = (omega arith, omega arith)
place-small s UpperLine short = (omega arith, omega arith)
place-small s CertLine short = (omega arith, omega (arith, short.paths))
place-small s TrailLine short = (omega arith, omega (arith, short.paths, short.items))
place-small s SafeLine short = (omega arith, omega (arith, short.paths, short.items, short.trail))
