-- Why a report on a net is regular.
use Rattle.std.proofs.Common.{◌≡◌, ℕ, ◌+◌, ◌^◌, ◌<◌, List, [], ◌∷◌, ◌&&◌, ◌==◌, length, get_or, nat_lt, nat_le, true, Some, None, refl, sym, ap, ◌∙◌, subst, lt-ltb, arith}
use Rattle.std.specs.Prelude.{Option, IfSome, All, slice_index_or}
use Rattle.std.specs.List.{list_all}
use Rattle.std.proofs.lemmas.Bool.{and_parts, and_from, le-leb}
use Rattle.std.proofs.lemmas.List.Elements.{All-get_or}
use Rattle.decomposition.specs.declared.Token.{Token}
use Rattle.decomposition.specs.declared.Token.TheVariants.{Gap, Miss, Split, Step}
use Rattle.decomposition.specs.Graph.{Graph, edge_count, is_walk_from, is_run, is_path, is_source, is_sink, walk_end, head, tail, is_list_before, IsRun, IsRising}
use Rattle.decomposition.specs.Answer.{comes_before, is_ordered}
use Rattle.decomposition.proofs.Open.{all-from_places}
use Rattle.decomposition.proofs.ReportOrder.{is_list_before-from_le}
use Rattle.graph_text.specs.Labels.{LabelLists}
use Rattle.report_terms.specs.declared.report.Mark.{Mark}
use Rattle.report_terms.specs.declared.report.Mark.TheVariants.{Optimal, Infeasible, Bounds}
use Rattle.report_terms.specs.declared.report.Cert.{Cert}
use Rattle.report_terms.specs.declared.report.Cert.TheVariants.{Zero, Wide, Tree, Cut, Crowd}
use Rattle.report_terms.specs.declared.report.Trail.{Trail}
use Rattle.report_terms.specs.declared.report.Body.{Body}
use Rattle.report_terms.specs.declared.report.Body.TheVariants.{Refused, Solved as SolvedBody}
use Rattle.report_reading.specs.Names.{graph_at}
use Rattle.report_terms.specs.NetFacts.{is_mode}
use Rattle.report_reading.specs.ReportText.{fits, fits_or_none, is_name, is_path_entry, is_place, is_token, is_trail, is_cert, has_trail, are_rules, are_runs_or_none, is_regular_body}
use Rattle.report_terms.specs.NetFacts.{IsSmall, IsEntryOf, IsPlace, IsSmallToken, IsSmallTrail, AreRisingRules, AreRisingRuns, IsCertOf, HasTrail, IsBodyOn}
use Rattle.report_reading.specs.Laws.{FoundIsRegular, ReportsAreRegular}

small-fits : (bound : Option ℕ) → IsSmall bound → fits_or_none bound ≡ true
small-fits None h = refl
small-fits (Some n) h = lt-ltb n (2 ^ 64) h

-- a walk of one graph is a walk of another with the same edges
walk-same : (g h : Graph) → g.edges ≡ h.edges → (v : ℕ) (es : List ℕ) → is_walk_from g v es ≡ is_walk_from h v es
walk-same g h same v [] = refl
walk-same g h same v (e ∷ es) =
    ap (λ rest. nat_lt e (edge_count g) && ((tail g e == v) && rest)) (walk-same g h same (head g e) es)
    ∙ ap
    (λ (edges : List (ℕ × ℕ)).
    nat_lt e (length edges) && (((slice_index_or edges e (0, 0)).0 == v) && is_walk_from h (slice_index_or edges e (0, 0)).1 es))
    same

pub run-same : (g h : Graph) → g.edges ≡ h.edges → (es : List ℕ) → is_run g es ≡ is_run h es
run-same g h same [] = refl
run-same g h same (e ∷ es) =
    walk-same g h same (tail g e) (e ∷ es)
    ∙ ap (λ v. is_walk_from h v (e ∷ es)) (ap (λ (edges : List (ℕ × ℕ)). (slice_index_or edges e (0, 0)).0) same)

-- a path is a run
path-run : (g : Graph) (es : List ℕ) → is_path g es ≡ true → is_run g es ≡ true
path-run g [] path = path
path-run g (e ∷ es) path =
    let rest = is_run g (e ∷ es) && is_sink g (walk_end g (head g e) es) in
    (and_parts (is_run g (e ∷ es)) (is_sink g (walk_end g (head g e) es)) (and_parts (is_source g (tail g e)) rest path).1).0

pub entry-regular : (net : Graph) (labels : LabelLists) (entry : List ℕ × ℕ) → net.edges ≡ labels.edges → IsEntryOf net entry →
    is_path_entry labels entry ≡ true
entry-regular net labels entry same is =
    and_from (is_run (graph_at labels) entry.0) (nat_le 1 entry.1 && fits entry.1)
    (sym (run-same net (graph_at labels) same entry.0) ∙ path-run net entry.0 is.path)
    (and_from (nat_le 1 entry.1) (fits entry.1) (le-leb 1 entry.1 is.positive) (lt-ltb entry.1 (2 ^ 64) is.small))

-- rising numbers below a bound
rising-regular : (n : ℕ) (xs : List ℕ) → All (λ x. x < n) xs → is_ordered nat_lt xs ≡ true → length xs < 2 ^ 64 →
    (list_all (λ x. nat_lt x n) xs && (is_ordered nat_lt xs && fits (length xs))) ≡ true
rising-regular n xs within rising few =
    and_from (list_all (λ x. nat_lt x n) xs) (is_ordered nat_lt xs && fits (length xs))
    (all-from_places (λ x. nat_lt x n) xs 0 (λ k there. lt-ltb (get_or xs k 0) n (All-get_or (λ x. x < n) xs k 0 there within)))
    (and_from (is_ordered nat_lt xs) (fits (length xs)) rising (lt-ltb (length xs) (2 ^ 64) few))

place-regular : (n : ℕ) → IsPlace n → is_place n ≡ true
place-regular n is = le-leb (n + 1) 4294967295 (omega arith)

rules-regular : (rules : List ℕ) → AreRisingRules rules → are_rules rules ≡ true
rules-regular rules are =
    and_from (list_all is_place rules) (is_ordered nat_lt rules && fits (length rules))
    (all-from_places is_place rules 0 (λ k there. place-regular (get_or rules k 0) (All-get_or IsPlace rules k 0 there are.places)))
    (and_from (is_ordered nat_lt rules) (fits (length rules)) are.rising (lt-ltb (length rules) (2 ^ 64) are.few))

token-regular : (t : Token) → IsSmallToken t → is_token t ≡ true
token-regular Gap is = refl
token-regular (Miss c) is = place-regular c is
token-regular (Split k) is = place-regular k is
token-regular (Step k) is = place-regular k is

trail-regular : (t : Trail) → IsSmallTrail t → is_trail t ≡ true
trail-regular t is =
    let tokens = list_all is_token t.tokens && fits (length t.tokens) in
    and_from (nat_lt t.decision.slots (2 ^ 32)) (fits_or_none t.decision.limit && tokens) (lt-ltb t.decision.slots (2 ^ 32) is.slots)
    (and_from (fits_or_none t.decision.limit) tokens (small-fits t.decision.limit is.limit)
    (and_from (list_all is_token t.tokens) (fits (length t.tokens))
    (all-from_places is_token t.tokens Gap
    (λ k there. token-regular (get_or t.tokens k Gap) (All-get_or IsSmallToken t.tokens k Gap there is.tokens)))
    (lt-ltb (length t.tokens) (2 ^ 64) is.few)))

cert-regular : (net : Graph) (labels : LabelLists) (cert : Cert) → net.edges ≡ labels.edges → net.vertices ≡ length labels.names →
    IsCertOf net cert → is_cert labels cert ≡ true
cert-regular net labels Zero edges vertices is = refl
cert-regular net labels (Wide es) edges vertices is =
    subst (λ n. (list_all (λ e. nat_lt e n) es && (is_ordered nat_lt es && fits (length es))) ≡ true) (ap length edges)
    (rising-regular (edge_count net) es is.within is.rising is.few)
cert-regular net labels (Tree tree) edges vertices is = trail-regular tree is
cert-regular net labels (Cut side vs) edges vertices is =
    subst (λ n. (list_all (λ v. nat_lt v n) vs && (is_ordered nat_lt vs && fits (length vs))) ≡ true) vertices
    (rising-regular net.vertices vs is.within is.rising is.few)
cert-regular net labels (Crowd e rules) edges vertices is =
    and_from (nat_lt e (length labels.edges)) (are_rules rules)
    (lt-ltb e (length labels.edges) (omega (arith, is.0, ap length edges))) (rules-regular rules is.1)

has_trail-regular : (mark : Mark) (trail : Option Trail) → HasTrail mark trail → has_trail mark trail ≡ true
has_trail-regular Optimal None is = refl
has_trail-regular Optimal (Some t) is = absurd (cc)
has_trail-regular Infeasible None is = refl
has_trail-regular Infeasible (Some t) is = absurd (cc)
has_trail-regular Bounds None is = absurd is
has_trail-regular Bounds (Some t) is = trail-regular t is

-- edge lists that rise stand each before the next one
ordered-rising : (runs : List (List ℕ)) → IsRising runs → is_ordered is_list_before runs ≡ true
ordered-rising [] rising = refl
ordered-rising (p ∷ []) rising = refl
ordered-rising (p ∷ q ∷ runs) rising =
    and_from (is_list_before p q) (is_ordered is_list_before (q ∷ runs)) (is_list_before-from_le p q rising.0 rising.1)
    (ordered-rising (q ∷ runs) rising.2)

safe-regular : (net : Graph) (labels : LabelLists) (safe : Option (List (List ℕ))) → net.edges ≡ labels.edges →
    IfSome safe (AreRisingRuns net) → are_runs_or_none labels safe ≡ true
safe-regular net labels None same is = refl
safe-regular net labels (Some runs) same is =
    and_from (list_all (is_run (graph_at labels)) runs) (is_ordered is_list_before runs && fits (length runs))
    (all-from_places (is_run (graph_at labels)) runs []
    (λ k there.
    sym (run-same net (graph_at labels) same (get_or runs k [])) ∙ All-get_or (IsRun net) runs k [] there is.within))
    (and_from (is_ordered is_list_before runs) (fits (length runs)) (ordered-rising runs is.rising) (lt-ltb (length runs) (2 ^ 64) is.few))

pub found_is_regular : FoundIsRegular
found_is_regular net labels s edges vertices is =
    let trail = has_trail s.mark s.trail && are_runs_or_none labels s.safe in
    let cert = is_cert labels s.cert && trail in
    let order = is_ordered comes_before s.paths && cert in
    let paths = list_all (is_path_entry labels) s.paths && order in
    and_from (fits_or_none s.lower) (fits_or_none s.upper && paths) (small-fits s.lower is.lower)
    (and_from (fits_or_none s.upper) paths (small-fits s.upper is.upper)
    (and_from (list_all (is_path_entry labels) s.paths) order
    (all-from_places (is_path_entry labels) s.paths ([], 0)
    (λ k there. entry-regular net labels (get_or s.paths k ([], 0)) edges (All-get_or (IsEntryOf net) s.paths k ([], 0) there is.paths)))
    (and_from (is_ordered comes_before s.paths) cert is.order
    (and_from (is_cert labels s.cert) trail (cert-regular net labels s.cert edges vertices is.cert)
    (and_from (has_trail s.mark s.trail) (are_runs_or_none labels s.safe) (has_trail-regular s.mark s.trail is.trail)
    (safe-regular net labels s.safe edges is.safe))))))

body-regular : (net : Graph) (labels : LabelLists) (b : Body) → net.edges ≡ labels.edges → net.vertices ≡ length labels.names →
    IsBodyOn net b → is_regular_body labels b ≡ true
body-regular net labels (Refused r) edges vertices is =
    and_from (nat_le 1 r.line) (fits r.line) (le-leb 1 r.line is.0) (lt-ltb r.line (2 ^ 64) is.1)
body-regular net labels (SolvedBody s) edges vertices is = found_is_regular net labels s edges vertices is

pub reports_are_regular : ReportsAreRegular
reports_are_regular net labels r edges vertices is =
    let mode = is_mode r.mode && is_regular_body labels r.body in
    and_from (nat_le 1 r.index && fits r.index) (is_name r.name && mode)
    (and_from (nat_le 1 r.index) (fits r.index) (le-leb 1 r.index is.first) (lt-ltb r.index (2 ^ 64) is.small))
    (and_from (is_name r.name) mode is.name
    (and_from (is_mode r.mode) (is_regular_body labels r.body) is.mode (body-regular net labels r.body edges vertices is.body)))
