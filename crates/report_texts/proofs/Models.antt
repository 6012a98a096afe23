-- The model that a text of reports names is that of its first report.
use Rattle.std.proofs.Common.{◌≡◌, ◌<◌, ◌≤◌, ◌+◌, ℕ, zero, suc, Bool, true, false, ◌||◌, List, [], ◌∷◌, ◌++◌, refl, sym, ap, ◌∙◌, subst, inl, inr, arith, append_assoc, leb-true}
use Rattle.std.specs.Prelude.{Some, Result, Ok, map, codes, decimal, find, unwrap_or}
use Rattle.std.specs.List.{list_all, list_any, join_with_byte, range_with_len}
use Rattle.std.specs.Str.{bytes_eq}
use Rattle.std.proofs.lemmas.Bool.{and_from, and_parts, cases_Bool, cases_eq, cond-false, cond-true, or_from, or_left, or_right}
use Rattle.std.proofs.lemmas.Slice.Eq.{bytes_eq-Decides}
use Rattle.decomposition.specs.declared.Mode.{Mode}
use Rattle.decomposition.specs.declared.Mode.TheVariants.{Exact, Interval, Abs}
use Rattle.graph_text.specs.Labels.{LabelLists, is_field}
use Rattle.report_reading.specs.LineFields.{spaced_fields}
use Rattle.report_reading.specs.LineSteps.{model_in as model_of_fields, given}
use Rattle.report_reading.specs.BadLines.{text_lines}
use Rattle.report_terms.specs.NetFacts.{is_mode}
use Rattle.report_reading.specs.ReportText.{line, graph_line, model_line, body_text, text_of}
use Rattle.report_reading.specs.declared.read_fault.ReadWhy.{ReadWhy}
use Rattle.report_reading.specs.declared.read_fault.ReadWhy.TheVariants.{BadNumber}
use Rattle.report_terms.specs.declared.report.Report.{Report}
use Rattle.report_reading.proofs.GoodFields.{spaced_fields-join, text_lines-line}
use Rattle.report_reading.proofs.Written.{decimal-field, number-written}
use Rattle.report_texts.specs.Laws.{ModelsAreTold}
use Rattle.report_texts.specs.ReportTexts.{ended_lines, end_line, models, mode_of_line, first_of, second_of, model_in}
use Rattle.report_texts.proofs.EndedLines.{has_feed, ended_lines-line, join-feed, decimal-no_feed}
use Rattle.report_texts.proofs.Cutting.{first_texts_are_cut_off, head-parts}

-- the fields behind the first word of the line of a model
abbrev mode_fields : Mode → List (List ℕ)
mode_fields Exact = codes "exact" ∷ []
mode_fields Interval = codes "interval" ∷ []
mode_fields (Abs k) = codes "abs" ∷ decimal k ∷ []

-- the line of a model: its fields, and that they tell it
record ModelWritten (mode : Mode) : Type 0 where
  spelled : model_line mode ≡ line (codes "model" ∷ mode_fields mode)
  good : list_all is_field (codes "model" ∷ mode_fields mode) ≡ true
  told : model_of_fields (codes "model" ∷ mode_fields mode) ≡ Ok mode

model-written : (mode : Mode) → is_mode mode ≡ true → ModelWritten mode
model-written Exact h = record { spelled = refl; good = refl; told = refl }
model-written Interval h = record { spelled = refl; good = refl; told = refl }
model-written (Abs k) h =
    let most = leb-true k 64 h in
    record {
      spelled = refl;
      good = and_from (is_field (decimal k)) true (decimal-field k (omega (arith, most))) refl;
      told = ap (λ o. given BadNumber o (λ n. Ok (Abs n))) (number-written 0 64 k (omega arith) most (omega (arith, most)));
    }

-- what the first line of a text tells of a model
abbrev told_by : List ℕ → Result Mode ReadWhy
told_by text = model_of_fields (spaced_fields (first_of (text_lines (text ++ []))))

told-back : (mode : Mode) → is_mode mode ≡ true → told_by (model_line mode) ≡ Ok mode
told-back mode h =
    let w = model-written mode h in
    ap told_by w.spelled
    ∙ ap (λ ls. model_of_fields (spaced_fields (first_of ls))) (text_lines-line (codes "model") (mode_fields mode) [] w.good)
    ∙ ap model_of_fields (spaced_fields-join (codes "model") (mode_fields mode) w.good)
    ∙ w.told

-- no two models have one line
same_model : (one other : Mode) → is_mode one ≡ true → is_mode other ≡ true → model_line one ≡ model_line other → other ≡ one
same_model one other h k e = cc (sym (told-back other k) ∙ (sym (ap told_by e) ∙ told-back one h))

-- the entry of a list that alone passes a test
find-only : (test : Mode → Bool) (xs : List Mode) (m : Mode) → list_all is_mode xs ≡ true → ((x : Mode) → is_mode x ≡ true → test x ≡ true → x ≡ m) → list_any test xs ≡ true
    → find test xs ≡ Some m
find-only test [] m all only some = absurd (cc)
find-only test (x ∷ xs) m all only some =
    let parts = and_parts (is_mode x) (list_all is_mode xs) all in
    elim (cases_Bool (test x)) [
      | inl passes ↦ cond-true (test x) (Some x) (find test xs) passes ∙ ap (λ y. Some y) (only x parts.0 passes)
      | inr fails ↦
          cond-false (test x) (Some x) (find test xs) fails
          ∙ find-only test xs m parts.1 only (sym (ap (λ b. b || list_any test xs) fails) ∙ some)
    ]

-- one of some numbers in a row passes
any-row : (test : Mode → Bool) (k from n : ℕ) → from ≤ k → k < from + n → test (Abs k) ≡ true → list_any test (map (λ p. Abs p) (range_with_len from n)) ≡ true
any-row test k from zero low high passes = absurd (omega arith)
any-row test k from (suc n) low high passes =
    let behind = list_any test (map (λ p. Abs p) (range_with_len (from + 1) n)) in
    elim (cases_eq k from) [
      | inl same ↦ or_left (test (Abs from)) behind (subst (λ p. test (Abs p) ≡ true) same passes)
      | inr other ↦ or_right (test (Abs from)) behind (any-row test k (from + 1) n (omega arith) (omega arith) passes)
    ]

any-model : (test : Mode → Bool) (mode : Mode) → is_mode mode ≡ true → test mode ≡ true → list_any test models ≡ true
any-model test Exact h passes = or_left (test Exact) _ passes
any-model test Interval h passes = or_right (test Exact) _ (or_left (test Interval) _ passes)
any-model test (Abs k) h passes =
    let most = leb-true k 64 h in
    let row = list_any test (map (λ p. Abs p) (range_with_len 0 65)) in
    or_right (test Exact) (test Interval || row) (or_right (test Interval) row (any-row test k 0 65 (omega arith) (omega (arith, most)) passes))

-- the model of the line of a model
model-back : (mode : Mode) → is_mode mode ≡ true → mode_of_line (model_line mode) ≡ mode
model-back mode h =
    let test : Mode → Bool = λ other. bytes_eq (model_line mode) (model_line other) in
    ap (λ o. unwrap_or o Exact)
    (find-only test models mode refl (λ other is passes. same_model mode other h is ((bytes_eq-Decides (model_line mode) (model_line other)).0 passes))
    (any-model test mode h ((bytes_eq-Decides (model_line mode) (model_line mode)).1 refl)))

-- a first line that ends with its line feed
record LineOf (text : List ℕ) : Type 0 where
  bytes : List ℕ
  text_is : text ≡ bytes ++ 10 ∷ []
  no_feed : has_feed bytes ≡ false

first-line : (text rest : List ℕ) → LineOf text → ended_lines (text ++ rest) ≡ text ∷ ended_lines rest
first-line text rest l =
    ap (λ t. ended_lines (t ++ rest)) l.text_is
    ∙ ap ended_lines (append_assoc l.bytes (10 ∷ []) rest)
    ∙ ended_lines-line l.bytes rest l.no_feed
    ∙ ap (λ t. t ∷ ended_lines rest) (sym l.text_is)

graph-line : (index : ℕ) (name : List ℕ) → has_feed name ≡ false → LineOf (graph_line index name)
graph-line index [] no_feed =
    let fields = codes "graph" ∷ decimal index ∷ [] in
    record {
      bytes = join_with_byte 32 fields;
      text_is = refl;
      no_feed = join-feed fields (or_from (has_feed (decimal index)) false (decimal-no_feed index) refl);
    }
graph-line index (b ∷ name) no_feed =
    let fields = codes "graph" ∷ decimal index ∷ (b ∷ name) ∷ [] in
    record {
      bytes = join_with_byte 32 fields;
      text_is = refl;
      no_feed =
          join-feed fields
          (or_from (has_feed (decimal index)) (list_any has_feed ((b ∷ name) ∷ [])) (decimal-no_feed index) (or_from (has_feed (b ∷ name)) false no_feed refl));
    }

mode-line : (mode : Mode) → is_mode mode ≡ true → LineOf (model_line mode)
mode-line Exact h = record { bytes = codes "model exact"; text_is = refl; no_feed = refl }
mode-line Interval h = record { bytes = codes "model interval"; text_is = refl; no_feed = refl }
mode-line (Abs k) h =
    let fields = codes "model" ∷ codes "abs" ∷ decimal k ∷ [] in
    record {
      bytes = join_with_byte 32 fields;
      text_is = refl;
      no_feed = join-feed fields (or_from (has_feed (decimal k)) false (decimal-no_feed k) refl);
    }

-- the second line of the text of a report
second-line : (labels : LabelLists) (r : Report) → LineOf (graph_line r.index r.name) → LineOf (model_line r.mode) → second_of (ended_lines (text_of labels r)) ≡ model_line r.mode
second-line labels r graph model =
    let g = graph_line r.index r.name in
    let m = model_line r.mode in
    let b = body_text labels r.body in
    let joined : text_of labels r ≡ g ++ (m ++ (b ++ end_line)) =
    append_assoc (g ++ m) b end_line ∙ append_assoc g m (b ++ end_line) in
    ap (λ t. second_of (ended_lines t)) joined
    ∙ ap second_of (first-line g (m ++ (b ++ end_line)) graph)
    ∙ ap first_of (first-line m (b ++ end_line) model)

pub models_are_told : ModelsAreTold
unfolding model_in
models_are_told entry rest written =
    let r = entry.report in
    let h = head-parts entry.labels r written.regular in
    ap (λ texts. mode_of_line (second_of (ended_lines (first_of texts)))) (first_texts_are_cut_off entry rest written)
    ∙ ap mode_of_line (second-line entry.labels r (graph-line r.index r.name h.name) (mode-line r.mode h.mode))
    ∙ model-back r.mode h.mode
