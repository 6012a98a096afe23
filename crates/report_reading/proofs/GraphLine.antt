-- The line of the number and the name of a block.
use Rattle.std.proofs.Common.{◌≡◌, ℕ, ◌+◌, ◌<◌, ◌≤◌, Bool, true, false, not, nat_le, ◌||◌, ◌&&◌, List, [], ◌∷◌, ◌++◌, length, drop, refl, sym, ap, ◌∙◌, inl, inr, arith}
use Rattle.std.specs.Prelude.{Result, Ok, decimal, codes, ◌==◌, nat_eq, ◌⊎◌}
use Rattle.std.specs.List.{list_any, before_first, after_first, position_or_len, starts_with}
use Rattle.std.proofs.lemmas.List.{take_all, drop_all}
use Rattle.std.proofs.lemmas.List.Sums.{split_at_first, passes_at_first}
use Rattle.std.proofs.lemmas.List.Folds.{list_any_at}
use Rattle.std.proofs.lemmas.Bool.{cases_lt, and_parts, eqb-true, not-true}
use Rattle.report_reading.specs.declared.read_fault.ReadWhy.{ReadWhy}
use Rattle.report_reading.specs.ReportText.{line, graph_line, fits, is_name}
use Rattle.report_reading.specs.LineFields.{greatest, number_in}
use Rattle.report_reading.specs.declared.read_fault.ReadWhy.TheVariants.{BadForm, BadNumber}
use Rattle.report_reading.specs.LineSteps.{must, given, graph_in}
use Rattle.report_reading.proofs.Taken.{must-taken, given-taken, must-true}
use Rattle.report_reading.proofs.Spelled.{number-spelled}
use Rattle.report_reading.proofs.LineTexts.{on-ok, counts}

-- the line of a block that has a name
line-named : (index : ℕ) (name : List ℕ) → (length name == 0) ≡ false → line (codes "graph" ∷ decimal index ∷ name ∷ []) ≡ graph_line index name
line-named index [] some = absurd (cc)
line-named index (b ∷ name) some = refl

pub graph_line-named : (index : ℕ) (digits given name : List ℕ) → digits ≡ decimal index → given ≡ name → (length given == 0) ≡ false →
    line (codes "graph" ∷ digits ∷ given ∷ []) ≡ graph_line index name
graph_line-named index digits given name d n some =
    ap (λ x. line (codes "graph" ∷ x ∷ given ∷ [])) d ∙ line-named index given some ∙ ap (graph_line index) n

abbrev pub is_space : ℕ → Bool
is_space b = b == 32

-- a text that begins with a word is the word and what stands behind it
begins : (word bytes : List ℕ) → starts_with nat_eq bytes word ≡ true → bytes ≡ word ++ drop (length word) bytes
begins [] bytes h = refl
begins (w ∷ word) [] h = absurd (cc)
begins (w ∷ word) (b ∷ bytes) h =
    let parts = and_parts (nat_eq w b) (starts_with nat_eq bytes word) h in
    ap (λ x. x ∷ bytes) (sym (eqb-true w b parts.0)) ∙ ap (λ rest. w ∷ rest) (begins word bytes parts.1)

-- what a block without a name, and one with a name, has behind the word `graph`
unnamed : (rest : List ℕ) (n : ℕ) → rest ≡ decimal n → (codes "graph " ++ rest) ++ 10 ∷ [] ≡ graph_line n []
unnamed rest n e = ap (λ x. (codes "graph " ++ x) ++ 10 ∷ []) e

named : (rest name : List ℕ) (n : ℕ) → rest ≡ decimal n ++ 32 ∷ name → (length name == 0) ≡ false →
    (codes "graph " ++ rest) ++ 10 ∷ [] ≡ graph_line n name
named rest name n e some = ap (λ x. (codes "graph " ++ x) ++ 10 ∷ []) e ∙ graph_line-named n (decimal n) name name refl refl some

-- the number and the name that a line tells: they are those of its text, and may stand in a report
pub record GraphRead (l : List ℕ) (g : ℕ × List ℕ) : Type 0 where
  pub text : l ++ 10 ∷ [] ≡ graph_line g.0 g.1
  pub index : (nat_le 1 g.0 && fits g.0) ≡ true
  pub name : is_name g.1 ≡ true

-- the text and the name, by whether there is a space
behind : (rest : List ℕ) (n : ℕ) → before_first is_space rest ≡ decimal n →
    (not (list_any is_space rest) || (not (length (after_first is_space rest) == 0) && is_name (after_first is_space rest))) ≡ true →
    ((codes "graph " ++ rest) ++ 10 ∷ [] ≡ graph_line n (after_first is_space rest)) × (is_name (after_first is_space rest) ≡ true)
behind rest n index test = by (cases_lt (position_or_len is_space rest) (length rest)) where
  by : (position_or_len is_space rest < length rest) ⊎ (length rest ≤ position_or_len is_space rest) →
      ((codes "graph " ++ rest) ++ 10 ∷ [] ≡ graph_line n (after_first is_space rest)) × (is_name (after_first is_space rest) ≡ true)
  by (inl there) =
      let name = after_first is_space rest in
      let passes = passes_at_first is_space rest 0 there in
      let any = list_any_at is_space rest (position_or_len is_space rest) 0 there passes in
      let ok : (not (length name == 0) && is_name name) ≡ true = sym (ap (λ t. not t || (not (length name == 0) && is_name name)) any) ∙ test in
      let parts = and_parts (not (length name == 0)) (is_name name) ok in
      let split =
      split_at_first is_space rest 0 there
      ∙ ap (λ b. before_first is_space rest ++ b ∷ name) (eqb-true _ 32 passes)
      ∙ ap (λ x. x ++ 32 ∷ name) index in
      (named rest name n split (not-true _ parts.0), parts.1)
  by (inr past) =
      let all : before_first is_space rest ≡ rest = take_all (position_or_len is_space rest) rest past in
      let none : after_first is_space rest ≡ [] = drop_all (position_or_len is_space rest + 1) rest (omega arith) in
      (unnamed rest n (sym all ∙ index) ∙ ap (graph_line n) (sym none), ap is_name none)

pub graph-read : (l : List ℕ) (g : ℕ × List ℕ) → graph_in l ≡ Ok g → GraphRead l g
graph-read l g h =
    let rest = drop 6 l in
    let index = before_first is_space rest in
    let name = after_first is_space rest in
    let a = must-taken _ (starts_with nat_eq l (codes "graph ")) _ g h in
    let b = must-taken _ (not (length index == 0) && not (list_any (λ b. b == 9) index)) _ g a.1 in
    let c = must-taken _ (not (list_any is_space rest) || (not (length name == 0) && is_name name)) _ g b.1 in
    let d = given-taken _ (number_in 1 greatest index) _ g c.1 in
    let s = number-spelled 1 greatest (before_first is_space rest) d.0 (omega arith) d.1 in
    let made : ℕ × List ℕ = (d.0, after_first is_space rest) in
    let t = behind rest d.0 s.spelled c.0 in
    on-ok (GraphRead l) made g d.2
    (record { text = ap (λ x. x ++ 10 ∷ []) (begins (codes "graph ") l a.0) ∙ t.0; index = counts d.0 s.least_is s.most_is; name = t.1 })

-- the parts of a line are what the code makes of it
pub record AreParts (l rest index name : List ℕ) : Type 0 where
  pub rest_is : rest ≡ drop 6 l
  pub index_is : index ≡ before_first is_space rest
  pub name_is : name ≡ after_first is_space rest

abbrev graph_with : List ℕ → List ℕ → List ℕ → Result (ℕ × List ℕ) ReadWhy
graph_with rest index name =
    must BadForm (not (length index == 0) && not (list_any (λ b. b == 9) index))
    (must BadForm (not (list_any is_space rest) || (not (length name == 0) && is_name name))
    (given BadNumber (number_in 1 greatest index) (λ n. Ok (n, name))))

-- what is left to try once the form of the index is that of a number
pub graph-named : (l rest index name : List ℕ) → AreParts l rest index name → starts_with nat_eq l (codes "graph ") ≡ true →
    (not (length index == 0) && not (list_any (λ b. b == 9) index)) ≡ true →
    graph_in l
    ≡ must BadForm (not (list_any is_space rest) || (not (length name == 0) && is_name name))
    (given BadNumber (number_in 1 greatest index) (λ n. Ok (n, name)))
graph-named l rest index name are starts filled =
    must-true BadForm (starts_with nat_eq l (codes "graph ")) (graph_with (drop 6 l) (before_first is_space (drop 6 l)) (after_first is_space (drop 6 l))) starts
    ∙ ap (λ r. graph_with r (before_first is_space r) (after_first is_space r)) (sym are.rest_is)
    ∙ ap (λ i. graph_with rest i (after_first is_space rest)) (sym are.index_is)
    ∙ ap (λ n. graph_with rest index n) (sym are.name_is)
    ∙ must-true BadForm (not (length index == 0) && not (list_any (λ b. b == 9) index)) _ filled
