-- What stands before the line `end` of a report goes before it in the text.
use Rattle.std.proofs.Common.{◌≡◌, ◌+◌, ℕ, false, List, [], ◌∷◌, ◌++◌, length, take, map, refl, sym, ap, ◌∙◌, inl, inr, append_assoc}
use Rattle.std.specs.Prelude.{Option, Some, None, IsTrue, codes, decimal, flat_map}
use Rattle.std.specs.List.{list_any, join_with_byte}
use Rattle.std.specs.Str.{bytes_eq}
use Rattle.std.proofs.lemmas.Bool.{both_ways, cases_lt, cond-false, false_from_ne_true}
use Rattle.std.proofs.lemmas.List.{get_or_past}
use Rattle.std.proofs.lemmas.List.Elements.{All-get_or}
use Rattle.std.proofs.lemmas.Slice.Eq.{bytes_eq-Decides}
use Rattle.decomposition.specs.declared.Mode.{Mode}
use Rattle.decomposition.specs.declared.Mode.TheVariants.{Exact, Interval, Abs}
use Rattle.decomposition.specs.declared.Side.{Side}
use Rattle.decomposition.specs.declared.Side.TheVariants.{Entering, Leaving}
use Rattle.decomposition.specs.declared.Token.{Token}
use Rattle.decomposition.specs.declared.Token.TheVariants.{Gap, Miss, Split, Step}
use Rattle.graph_text.specs.Labels.{LabelLists, AreLabels, name_at, tail_at, head_at, is_field}
use Rattle.report_terms.specs.declared.refusal.Why.{Why}
use Rattle.report_terms.specs.declared.refusal.Why.TheVariants.{LongLine, BadCount, BadFields, BadWeight, BadRange, RepeatedEdge, TooManyEdges, TooManyConstraints, ShortConstraint, Cycle, UnknownEdge, Unconserved}
use Rattle.report_reading.specs.Names.{names_along, vertices_at}
use Rattle.report_reading.specs.ReportText.{line, number_or_none, graph_line, model_line, why_word, mark_word, side_word, path_line, edge_line, run_line, vertex_line, rule_line, token_line, trail_fields, cert_text, trail_text, safe_text, marks_text, body_text}
use Rattle.report_terms.specs.declared.report.Body.{Body}
use Rattle.report_terms.specs.declared.report.Body.TheVariants.{Refused, Solved as SolvedBody}
use Rattle.report_terms.specs.declared.report.Cert.{Cert}
use Rattle.report_terms.specs.declared.report.Cert.TheVariants.{Zero, Wide, Tree, Cut, Crowd}
use Rattle.report_terms.specs.declared.report.Mark.{Mark}
use Rattle.report_terms.specs.declared.report.Mark.TheVariants.{Optimal, Infeasible, Bounds}
use Rattle.report_terms.specs.declared.report.Report.{Report}
use Rattle.report_terms.specs.declared.report.Solved.{Solved}
use Rattle.report_terms.specs.declared.report.Trail.{Trail}
use Rattle.report_reading.proofs.GoodFields.{field-clean}
use Rattle.report_texts.specs.ReportTexts.{ended_lines, end_line, before_first_text, texts_in, report_texts}
use Rattle.report_texts.proofs.EndedLines.{has_feed, ended_lines-line, join-feed, feed-more, feed-one, decimal-no_feed}

-- the text goes before the first text of what stands behind it
pub record GoesBefore (text : List ℕ) : Type 0 where
  pub on : (rest first : List ℕ) (others : List (List ℕ)) → report_texts rest ≡ first ∷ others → report_texts (text ++ rest) ≡ (text ++ first) ∷ others

before-none : GoesBefore []
before-none = record { on = λ rest first others h. h }

pub before-then : {t u : List ℕ} → GoesBefore t → GoesBefore u → GoesBefore (t ++ u)
before-then {t} {u} one two =
    record {
      on = λ rest first others h.
          ap report_texts (append_assoc t u rest)
          ∙ one.on (u ++ rest) (u ++ first) others (two.on rest first others h)
          ∙ ap (λ x. x ∷ others) (sym (append_assoc t u first));
    }

before-each : {X : Type 0} (text : X → List ℕ) (xs : List X) → ((x : X) → GoesBefore (text x)) → GoesBefore (flat_map text xs)
before-each text [] one = before-none
before-each text (x ∷ xs) one = before-then (one x) (before-each text xs one)

-- a line other than `end`, which has other first bytes
before-line : (fields : List (List ℕ)) → list_any has_feed fields ≡ false → bytes_eq (take 2 (line fields)) (codes "en") ≡ false → GoesBefore (line fields)
before-line fields none starts =
    let l = join_with_byte 32 fields in
    let no_feed = join-feed fields none in
    let other : bytes_eq (line fields) end_line ≡ false =
    false_from_ne_true _ (λ same. both_ways (bytes_eq (take 2 (line fields)) (codes "en")) starts (ap (λ t. bytes_eq (take 2 t) (codes "en")) ((bytes_eq-Decides (line fields) end_line).0 same))) in
    record {
      on = λ rest first others h.
          let behind = texts_in (ended_lines rest) in
          ap report_texts (append_assoc l (10 ∷ []) rest)
          ∙ ap texts_in (ended_lines-line l rest no_feed)
          ∙ cond-false (bytes_eq (line fields) end_line) (line fields ∷ behind) (before_first_text (line fields) behind) other
          ∙ ap (before_first_text (line fields)) h;
    }

-- names and numbers have no line feed
name-no_feed : (labels : LabelLists) → AreLabels labels → (v : ℕ) → has_feed (name_at labels v) ≡ false
name-no_feed labels are v =
    elim (cases_lt v (length labels.names)) [
      | inl there ↦ (field-clean (name_at labels v) (All-get_or (λ name. IsTrue (is_field name)) labels.names v [] there are.fields)).feed
      | inr past ↦ ap has_feed (get_or_past labels.names v [] past)
    ]

names-no_feed : (labels : LabelLists) → AreLabels labels → (vs : List ℕ) → list_any has_feed (map (name_at labels) vs) ≡ false
names-no_feed labels are [] = refl
names-no_feed labels are (v ∷ vs) = feed-more (name_at labels v) (map (name_at labels) vs) (name-no_feed labels are v) (names-no_feed labels are vs)

bound-no_feed : (bound : Option ℕ) → has_feed (number_or_none bound) ≡ false
bound-no_feed None = refl
bound-no_feed (Some n) = decimal-no_feed n

why-no_feed : (why : Why) → has_feed (why_word why) ≡ false
why-no_feed LongLine = refl
why-no_feed BadCount = refl
why-no_feed BadFields = refl
why-no_feed BadWeight = refl
why-no_feed BadRange = refl
why-no_feed RepeatedEdge = refl
why-no_feed TooManyEdges = refl
why-no_feed TooManyConstraints = refl
why-no_feed ShortConstraint = refl
why-no_feed Cycle = refl
why-no_feed UnknownEdge = refl
why-no_feed Unconserved = refl

mark-no_feed : (mark : Mark) → has_feed (mark_word mark) ≡ false
mark-no_feed Optimal = refl
mark-no_feed Infeasible = refl
mark-no_feed Bounds = refl

side-no_feed : (side : Side) → has_feed (side_word side) ≡ false
side-no_feed Entering = refl
side-no_feed Leaving = refl

-- the lines of lists
before-token : (t : Token) → GoesBefore (token_line t)
before-token Gap = before-line (codes "gap" ∷ []) refl refl
before-token (Miss c) = before-line (codes "miss" ∷ decimal (c + 1) ∷ []) (feed-one (decimal (c + 1)) (decimal-no_feed (c + 1))) refl
before-token (Split k) = before-line (codes "split" ∷ decimal (k + 1) ∷ []) (feed-one (decimal (k + 1)) (decimal-no_feed (k + 1))) refl
before-token (Step k) = before-line (codes "step" ∷ decimal (k + 1) ∷ []) (feed-one (decimal (k + 1)) (decimal-no_feed (k + 1))) refl

before-rule : (c : ℕ) → GoesBefore (rule_line c)
before-rule c = before-line (codes "rule" ∷ decimal (c + 1) ∷ []) (feed-one (decimal (c + 1)) (decimal-no_feed (c + 1))) refl

before-edge : (labels : LabelLists) → AreLabels labels → (e : ℕ) → GoesBefore (edge_line labels e)
before-edge labels are e =
    let u = name_at labels (tail_at labels e) in
    let v = name_at labels (head_at labels e) in
    before-line (codes "edge" ∷ u ∷ v ∷ []) (feed-more u (v ∷ []) (name-no_feed labels are (tail_at labels e)) (feed-one v (name-no_feed labels are (head_at labels e)))) refl

before-vertex : (labels : LabelLists) → AreLabels labels → (v : ℕ) → GoesBefore (vertex_line labels v)
before-vertex labels are v = before-line (codes "vertex" ∷ name_at labels v ∷ []) (feed-one (name_at labels v) (name-no_feed labels are v)) refl

before-path : (labels : LabelLists) → AreLabels labels → (entry : List ℕ × ℕ) → GoesBefore (path_line labels entry)
before-path labels are entry =
    before-line (codes "path" ∷ decimal entry.1 ∷ names_along labels entry.0)
    (feed-more (decimal entry.1) (names_along labels entry.0) (decimal-no_feed entry.1) (names-no_feed labels are (vertices_at labels entry.0))) refl

before-run : (labels : LabelLists) → AreLabels labels → (run : List ℕ) → GoesBefore (run_line labels run)
before-run labels are [] = before-line (codes "run" ∷ names_along labels []) refl refl
before-run labels are (e ∷ run) = before-line (codes "run" ∷ names_along labels (e ∷ run)) (names-no_feed labels are (vertices_at labels (e ∷ run))) refl

fields-no_feed : (t : Trail) → list_any has_feed (trail_fields t) ≡ false
fields-no_feed t =
    feed-more (decimal t.decision.slots) (number_or_none t.decision.limit ∷ decimal (length t.tokens) ∷ []) (decimal-no_feed t.decision.slots)
    (feed-more (number_or_none t.decision.limit) (decimal (length t.tokens) ∷ []) (bound-no_feed t.decision.limit)
    (feed-one (decimal (length t.tokens)) (decimal-no_feed (length t.tokens))))

before-cert : (labels : LabelLists) → AreLabels labels → (cert : Cert) → GoesBefore (cert_text labels cert)
before-cert labels are Zero = before-line (codes "cert" ∷ codes "none" ∷ []) refl refl
before-cert labels are (Wide edges) =
    before-then (before-line (codes "cert" ∷ codes "wide" ∷ decimal (length edges) ∷ []) (feed-one (decimal (length edges)) (decimal-no_feed (length edges))) refl)
    (before-each (edge_line labels) edges (before-edge labels are))
before-cert labels are (Tree tree) =
    before-then (before-line (codes "cert" ∷ codes "tree" ∷ trail_fields tree) (fields-no_feed tree) refl) (before-each token_line tree.tokens before-token)
before-cert labels are (Cut side vertices) =
    before-then (before-line (codes "cert" ∷ codes "cut" ∷ side_word side ∷ decimal (length vertices) ∷ [])
    (feed-more (side_word side) (decimal (length vertices) ∷ []) (side-no_feed side) (feed-one (decimal (length vertices)) (decimal-no_feed (length vertices)))) refl)
    (before-each (vertex_line labels) vertices (before-vertex labels are))
before-cert labels are (Crowd e rules) =
    let u = name_at labels (tail_at labels e) in
    let v = name_at labels (head_at labels e) in
    let n = decimal (length rules) in
    before-then (before-line (codes "cert" ∷ codes "crowd" ∷ u ∷ v ∷ n ∷ [])
    (feed-more u (v ∷ n ∷ []) (name-no_feed labels are (tail_at labels e))
    (feed-more v (n ∷ []) (name-no_feed labels are (head_at labels e)) (feed-one n (decimal-no_feed (length rules))))) refl)
    (before-each rule_line rules before-rule)

before-trail : (trail : Option Trail) → GoesBefore (trail_text trail)
before-trail None = before-none
before-trail (Some t) = before-then (before-line (codes "trail" ∷ trail_fields t) (fields-no_feed t) refl) (before-each token_line t.tokens before-token)

before-safe : (labels : LabelLists) → AreLabels labels → (safe : Option (List (List ℕ))) → GoesBefore (safe_text labels safe)
before-safe labels are None = before-none
before-safe labels are (Some runs) =
    before-then (before-line (codes "safe" ∷ decimal (length runs) ∷ []) (feed-one (decimal (length runs)) (decimal-no_feed (length runs))) refl)
    (before-each (run_line labels) runs (before-run labels are))

before-marks : (s : Solved) → GoesBefore (marks_text s)
before-marks s =
    before-then (before-then (before-line (codes "mark" ∷ mark_word s.mark ∷ []) (feed-one (mark_word s.mark) (mark-no_feed s.mark)) refl)
    (before-line (codes "lower" ∷ number_or_none s.lower ∷ []) (feed-one (number_or_none s.lower) (bound-no_feed s.lower)) refl))
    (before-line (codes "upper" ∷ number_or_none s.upper ∷ []) (feed-one (number_or_none s.upper) (bound-no_feed s.upper)) refl)

before-body : (labels : LabelLists) → AreLabels labels → (body : Body) → GoesBefore (body_text labels body)
before-body labels are (Refused r) =
    before-line (codes "refused" ∷ decimal r.line ∷ why_word r.why ∷ [])
    (feed-more (decimal r.line) (why_word r.why ∷ []) (decimal-no_feed r.line) (feed-one (why_word r.why) (why-no_feed r.why))) refl
before-body labels are (SolvedBody s) =
    let paths = before-then (before-marks s) (before-each (path_line labels) s.paths (before-path labels are)) in
    let cert = before-then paths (before-cert labels are s.cert) in
    before-then (before-then cert (before-trail s.trail)) (before-safe labels are s.safe)

before-graph : (index : ℕ) (name : List ℕ) → has_feed name ≡ false → GoesBefore (graph_line index name)
before-graph index [] none = before-line (codes "graph" ∷ decimal index ∷ []) (feed-one (decimal index) (decimal-no_feed index)) refl
before-graph index (b ∷ name) none =
    before-line (codes "graph" ∷ decimal index ∷ (b ∷ name) ∷ [])
    (feed-more (decimal index) ((b ∷ name) ∷ []) (decimal-no_feed index) (feed-one (b ∷ name) none)) refl

before-model : (mode : Mode) → GoesBefore (model_line mode)
before-model Exact = before-line (codes "model" ∷ codes "exact" ∷ []) refl refl
before-model Interval = before-line (codes "model" ∷ codes "interval" ∷ []) refl refl
before-model (Abs k) = before-line (codes "model" ∷ codes "abs" ∷ decimal k ∷ []) (feed-one (decimal k) (decimal-no_feed k)) refl

-- the text of a report up to its last line
abbrev pub front_of : LabelLists → Report → List ℕ
front_of labels r = graph_line r.index r.name ++ model_line r.mode ++ body_text labels r.body

pub before-end : (labels : LabelLists) (r : Report) → AreLabels labels → has_feed r.name ≡ false → GoesBefore (front_of labels r)
before-end labels r are none = before-then (before-then (before-graph r.index r.name none) (before-model r.mode)) (before-body labels are r.body)
