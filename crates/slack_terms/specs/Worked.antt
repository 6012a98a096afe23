-- A small worked example, which the definitions compute.
use Rattle.std.specs.Prelude.{◌≡◌, ℕ, [], ◌∷◌, ◌++◌, length, take, List, Option, Some, None, option_map}
use Rattle.slack_terms.specs.declared.slack_path.SlackPath.{SlackPath}
use Rattle.slack_terms.specs.declared.token.SlackToken.{SlackToken}
use Rattle.slack_terms.specs.declared.token.SlackToken.TheVariants.{Over, Short, Split, Cut, Step}
use Rattle.slack_terms.specs.Answers.{Weighted, IsOptimal}
use Rattle.slack_terms.specs.Tokens.{boxes_left, IsRefutation}

-- two edges in a row, s a 3 and a t 5
abbrev pub unbalanced : Weighted
unbalanced = record { graph = record { vertices = 3; edges = (0, 1) ∷ (1, 2) ∷ [] }; weights = 3 ∷ 5 ∷ [] }

-- one path of weight 4 and slack 1
abbrev pub unbalanced_answer : List SlackPath
unbalanced_answer = record { path = 0 ∷ 1 ∷ []; weight = 4; slack = 1 } ∷ []

-- a refutation of one path without slack
abbrev pub unbalanced_tokens : List SlackToken
unbalanced_tokens = Step 0 ∷ Split 0 ∷ Short 1 ∷ Split 0 ∷ Short 1 ∷ Short 0 ∷ []

-- how many boxes are left; none where a token is not legal
abbrev pub boxes_count : ℕ → ℕ → List SlackToken → Option ℕ
boxes_count slots limit ts = option_map length (boxes_left unbalanced slots limit ts)

-- what the definitions say of this example
pub record WorkedExamples : Type 0 where
  pub refuted : IsRefutation unbalanced 1 0 unbalanced_tokens
  pub pending : boxes_count 1 0 (take 5 unbalanced_tokens) ≡ Some 1
  pub one_more : boxes_count 1 0 (unbalanced_tokens ++ Over ∷ []) ≡ None
  pub short_too_early : boxes_count 1 0 (Short 0 ∷ []) ≡ None
  pub no_edge : boxes_count 1 0 (Short 2 ∷ []) ≡ None
  pub no_cut : boxes_count 1 0 (Cut 0 ∷ []) ≡ None
  pub halved : boxes_count 1 1 (Cut 0 ∷ []) ≡ Some 2
  pub no_paths : IsRefutation unbalanced 0 7 (Short 0 ∷ [])
  pub best : IsOptimal unbalanced 1 unbalanced_answer
