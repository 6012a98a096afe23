-- The text of a report, and which reports have one.
use Rattle.std.specs.Prelude.{ℕ, ◌+◌, ◌^◌, ◌==◌, List, [], ◌∷◌, ◌++◌, length, flat_map, Bool, true, false, not, ◌&&◌, nat_lt, nat_le, Option, Some, None, is_none, codes, decimal}
use Rattle.std.specs.List.{list_all, list_any, join_with_byte}
use Rattle.decomposition.specs.declared.Mode.{Mode}
use Rattle.decomposition.specs.declared.Mode.TheVariants.{Exact, Interval, Abs}
use Rattle.decomposition.specs.declared.Side.{Side}
use Rattle.decomposition.specs.declared.Side.TheVariants.{Entering, Leaving}
use Rattle.decomposition.specs.declared.Token.{Token}
use Rattle.decomposition.specs.declared.Token.TheVariants.{Gap, Miss, Split, Step}
use Rattle.decomposition.specs.Graph.{is_run, is_list_before}
use Rattle.decomposition.specs.Answer.{comes_before, is_ordered}
use Rattle.report_terms.specs.declared.refusal.Why.{Why}
use Rattle.report_terms.specs.declared.refusal.Why.TheVariants.{LongLine, BadCount, BadFields, BadWeight, BadRange, RepeatedEdge, TooManyEdges, TooManyConstraints, ShortConstraint, Cycle, UnknownEdge, Unconserved}
use Rattle.graph_text.specs.Lines.{is_blank}
use Rattle.graph_text.specs.Labels.{LabelLists, name_at, tail_at, head_at}
use Rattle.report_terms.specs.declared.report.Mark.{Mark}
use Rattle.report_terms.specs.declared.report.Mark.TheVariants.{Optimal, Infeasible, Bounds}
use Rattle.report_terms.specs.declared.report.Cert.{Cert}
use Rattle.report_terms.specs.declared.report.Cert.TheVariants.{Zero, Wide, Tree, Cut, Crowd}
use Rattle.report_terms.specs.declared.report.Trail.{Trail}
use Rattle.report_terms.specs.declared.report.Solved.{Solved}
use Rattle.report_terms.specs.declared.report.Body.{Body}
use Rattle.report_terms.specs.declared.report.Body.TheVariants.{Refused, Solved as SolvedBody}
use Rattle.report_terms.specs.declared.report.Report.{Report}
use Rattle.report_terms.specs.NetFacts.{is_mode}
use Rattle.report_reading.specs.Names.{graph_at, names_along}

-- a line of these fields, one space between each two
abbrev pub line : List (List ℕ) → List ℕ
line fields = join_with_byte 32 fields ++ 10 ∷ []

abbrev pub number_or_none : Option ℕ → List ℕ
number_or_none None = codes "none"
number_or_none (Some n) = decimal n

-- the number of the block, and its name where it has one
abbrev pub graph_line : ℕ → List ℕ → List ℕ
graph_line index [] = line (codes "graph" ∷ decimal index ∷ [])
graph_line index (b ∷ name) = line (codes "graph" ∷ decimal index ∷ (b ∷ name) ∷ [])

abbrev pub model_line : Mode → List ℕ
model_line Exact = line (codes "model" ∷ codes "exact" ∷ [])
model_line Interval = line (codes "model" ∷ codes "interval" ∷ [])
model_line (Abs k) = line (codes "model" ∷ codes "abs" ∷ decimal k ∷ [])

abbrev pub why_word : Why → List ℕ
why_word LongLine = codes "LongLine"
why_word BadCount = codes "BadCount"
why_word BadFields = codes "BadFields"
why_word BadWeight = codes "BadWeight"
why_word BadRange = codes "BadRange"
why_word RepeatedEdge = codes "RepeatedEdge"
why_word TooManyEdges = codes "TooManyEdges"
why_word TooManyConstraints = codes "TooManyConstraints"
why_word ShortConstraint = codes "ShortConstraint"
why_word Cycle = codes "Cycle"
why_word UnknownEdge = codes "UnknownEdge"
why_word Unconserved = codes "Unconserved"

abbrev pub mark_word : Mark → List ℕ
mark_word Optimal = codes "optimal"
mark_word Infeasible = codes "infeasible"
mark_word Bounds = codes "bounds"

-- the word of a side: the lower bounds are too great on the edges into the set, or out of it
abbrev pub side_word : Side → List ℕ
side_word Entering = codes "in"
side_word Leaving = codes "out"

-- the weight of a path, and the names along it
abbrev pub path_line : LabelLists → List ℕ × ℕ → List ℕ
path_line labels entry = line (codes "path" ∷ decimal entry.1 ∷ names_along labels entry.0)

abbrev pub edge_line : LabelLists → ℕ → List ℕ
edge_line labels e = line (codes "edge" ∷ name_at labels (tail_at labels e) ∷ name_at labels (head_at labels e) ∷ [])

-- the names along a safe run
abbrev pub run_line : LabelLists → List ℕ → List ℕ
run_line labels run = line (codes "run" ∷ names_along labels run)

-- a vertex of a cut
abbrev pub vertex_line : LabelLists → ℕ → List ℕ
vertex_line labels v = line (codes "vertex" ∷ name_at labels v ∷ [])

-- a rule of a crowd, counted from 1 in the text
abbrev pub rule_line : ℕ → List ℕ
rule_line c = line (codes "rule" ∷ decimal (c + 1) ∷ [])

-- a token, with its rule or slot counted from 1 in the text
abbrev pub token_line : Token → List ℕ
token_line Gap = line (codes "gap" ∷ [])
token_line (Miss c) = line (codes "miss" ∷ decimal (c + 1) ∷ [])
token_line (Split k) = line (codes "split" ∷ decimal (k + 1) ∷ [])
token_line (Step k) = line (codes "step" ∷ decimal (k + 1) ∷ [])

-- the number of slots, the limit, and the number of tokens
abbrev pub trail_fields : Trail → List (List ℕ)
trail_fields t = decimal t.decision.slots ∷ number_or_none t.decision.limit ∷ decimal (length t.tokens) ∷ []

-- a certificate: its kind, and a line for each of its items
abbrev pub cert_text : LabelLists → Cert → List ℕ
cert_text labels Zero = line (codes "cert" ∷ codes "none" ∷ [])
cert_text labels (Wide edges) = line (codes "cert" ∷ codes "wide" ∷ decimal (length edges) ∷ []) ++ flat_map (edge_line labels) edges
cert_text labels (Tree tree) = line (codes "cert" ∷ codes "tree" ∷ trail_fields tree) ++ flat_map token_line tree.tokens
cert_text labels (Cut side vertices) =
    line (codes "cert" ∷ codes "cut" ∷ side_word side ∷ decimal (length vertices) ∷ []) ++ flat_map (vertex_line labels) vertices
cert_text labels (Crowd e rules) =
    line (codes "cert" ∷ codes "crowd" ∷ name_at labels (tail_at labels e) ∷ name_at labels (head_at labels e) ∷ decimal (length rules) ∷ [])
    ++ flat_map rule_line rules

-- a trail, where it is there: its decision, and a line for each of its tokens
abbrev pub trail_text : Option Trail → List ℕ
trail_text None = []
trail_text (Some t) = line (codes "trail" ∷ trail_fields t) ++ flat_map token_line t.tokens

-- the safe runs, where they are there: how many, and a line for each
abbrev pub safe_text : LabelLists → Option (List (List ℕ)) → List ℕ
safe_text labels None = []
safe_text labels (Some runs) = line (codes "safe" ∷ decimal (length runs) ∷ []) ++ flat_map (run_line labels) runs

-- the mark and the two bounds
abbrev pub marks_text : Solved → List ℕ
marks_text s =
    line (codes "mark" ∷ mark_word s.mark ∷ [])
    ++ line (codes "lower" ∷ number_or_none s.lower ∷ [])
    ++ line (codes "upper" ∷ number_or_none s.upper ∷ [])

abbrev pub solved_text : LabelLists → Solved → List ℕ
solved_text labels s =
    marks_text s ++ flat_map (path_line labels) s.paths ++ cert_text labels s.cert ++ trail_text s.trail ++ safe_text labels s.safe

abbrev pub body_text : LabelLists → Body → List ℕ
body_text labels (Refused r) = line (codes "refused" ∷ decimal r.line ∷ why_word r.why ∷ [])
body_text labels (SolvedBody s) = solved_text labels s

-- the text of a report that is regular for these labels
abbrev pub text_of : LabelLists → Report → List ℕ
text_of labels r = graph_line r.index r.name ++ model_line r.mode ++ body_text labels r.body ++ line (codes "end" ∷ [])

-- whether a number may stand in a report
abbrev pub fits : ℕ → Bool
fits n = nat_lt n (2 ^ 64)

abbrev pub fits_or_none : Option ℕ → Bool
fits_or_none None = true
fits_or_none (Some n) = fits n

abbrev pub begins_blank : List ℕ → Bool
begins_blank [] = false
begins_blank (b ∷ bytes) = is_blank b

abbrev pub ends_blank : List ℕ → Bool
ends_blank [] = false
ends_blank (b ∷ []) = is_blank b
ends_blank (b ∷ c ∷ bytes) = ends_blank (c ∷ bytes)

-- a name of a block: no line feed in it, and no blank at its ends
abbrev pub is_name : List ℕ → Bool
is_name name = not (list_any (λ b. b == 10) name) && (not (begins_blank name) && not (ends_blank name))

-- a run of the labels, with a weight of at least 1
abbrev pub is_path_entry : LabelLists → List ℕ × ℕ → Bool
is_path_entry labels entry = is_run (graph_at labels) entry.0 && (nat_le 1 entry.1 && fits entry.1)

-- edges of the labels, rising
abbrev pub are_edges : LabelLists → List ℕ → Bool
are_edges labels edges = list_all (λ e. nat_lt e (length labels.edges)) edges && (is_ordered nat_lt edges && fits (length edges))

-- vertices of the labels, rising
abbrev pub are_vertices : LabelLists → List ℕ → Bool
are_vertices labels vertices =
    list_all (λ v. nat_lt v (length labels.names)) vertices && (is_ordered nat_lt vertices && fits (length vertices))

-- whether a slot or a rule may stand in a report: counted from 1 it is at most 4,294,967,295
abbrev pub is_place : ℕ → Bool
is_place n = nat_le (n + 1) 4294967295

-- rules, rising
abbrev pub are_rules : List ℕ → Bool
are_rules rules = list_all is_place rules && (is_ordered nat_lt rules && fits (length rules))

-- whether the rule or the slot of a token, if it has one, may stand in a report
abbrev pub is_token : Token → Bool
is_token Gap = true
is_token (Miss c) = is_place c
is_token (Split k) = is_place k
is_token (Step k) = is_place k

-- whether the numbers of a trail may stand in a report
abbrev pub is_trail : Trail → Bool
is_trail t =
    nat_lt t.decision.slots (2 ^ 32) && (fits_or_none t.decision.limit && (list_all is_token t.tokens && fits (length t.tokens)))

-- the edges, the vertices and the numbers of a certificate may stand in a report, and its lists rise
abbrev pub is_cert : LabelLists → Cert → Bool
is_cert labels Zero = true
is_cert labels (Wide edges) = are_edges labels edges
is_cert labels (Tree tree) = is_trail tree
is_cert labels (Cut side vertices) = are_vertices labels vertices
is_cert labels (Crowd e rules) = nat_lt e (length labels.edges) && are_rules rules

-- a trail stands exactly with the mark bounds
abbrev pub has_trail : Mark → Option Trail → Bool
has_trail Optimal trail = is_none trail
has_trail Infeasible trail = is_none trail
has_trail Bounds None = false
has_trail Bounds (Some t) = is_trail t

-- runs of the labels, rising by edge list
abbrev pub are_runs : LabelLists → List (List ℕ) → Bool
are_runs labels runs = list_all (is_run (graph_at labels)) runs && (is_ordered is_list_before runs && fits (length runs))

-- the runs of a report, where they are there
abbrev pub are_runs_or_none : LabelLists → Option (List (List ℕ)) → Bool
are_runs_or_none labels None = true
are_runs_or_none labels (Some runs) = are_runs labels runs

abbrev pub is_regular_solved : LabelLists → Solved → Bool
is_regular_solved labels s =
    fits_or_none s.lower
    && (fits_or_none s.upper
    && (list_all (is_path_entry labels) s.paths
    && (is_ordered comes_before s.paths && (is_cert labels s.cert && (has_trail s.mark s.trail && are_runs_or_none labels s.safe)))))

abbrev pub is_regular_body : LabelLists → Body → Bool
is_regular_body labels (Refused r) = nat_le 1 r.line && fits r.line
is_regular_body labels (SolvedBody s) = is_regular_solved labels s

-- whether the rules of the report text give the report a text
abbrev pub is_regular : LabelLists → Report → Bool
is_regular labels r = (nat_le 1 r.index && fits r.index) && (is_name r.name && (is_mode r.mode && is_regular_body labels r.body))
