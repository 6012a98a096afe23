-- Tokens, which branch and close slack boxes; refutations and trails.
use Rattle.std.specs.Prelude.{◌<◌, take, option_map, IsSome, IsNone, ◌≡◌, ℕ, ◌+◌, ◌/◌, Bool, cond, not, ◌&&◌, ◌||◌, nat_lt, nat_le, List, [], ◌∷◌, ◌++◌, map, length, set, Option, Some, None, option_and_then}
use Rattle.std.specs.List.{list_any}
use Rattle.decomposition.specs.Graph.{edge_count, below}
use Rattle.decomposition.specs.Boxes.{slot_at, upper_at, lower_at}
use Rattle.decomposition.specs.Tokens.{is_finished, middle, next_edges, with_hi, with_lo, with_edge}
use Rattle.slack_terms.specs.Answers.{Weighted}
use Rattle.slack_terms.specs.Boxes.{SlackBox, slack_at, root_box, lack, least_slack, most_slack_on, least_slack_beside}
use Rattle.slack_terms.specs.declared.token.SlackToken.{SlackToken}
use Rattle.slack_terms.specs.declared.token.SlackToken.TheVariants.{Over, Short, Split, Cut, Step}

-- whether the least slacks together are above the limit
abbrev pub is_over : ℕ → SlackBox → Bool
is_over limit b = nat_lt limit (least_slack b)

-- whether an edge lacks more than the slots may put on it, or more than the limit leaves beside the least slack of the other slots
abbrev pub is_short : Weighted → ℕ → SlackBox → ℕ → Bool
is_short w limit b e = nat_lt (most_slack_on w b e) (lack w b e) || nat_lt limit (lack w b e + least_slack_beside w b e)

-- whether some edge is short
abbrev pub some_short : Weighted → ℕ → SlackBox → Bool
some_short w limit b = list_any (λ e. is_short w limit b e) (below (edge_count w.graph))

-- whether a box can be branched: there is an edge, and neither the least slacks nor an edge that is short closes it
abbrev pub can_branch : Weighted → ℕ → SlackBox → Bool
can_branch w limit b = nat_lt 0 (edge_count w.graph) && (not (is_over limit b) && not (some_short w limit b))

-- whether a slot may have weight or slack
abbrev pub may_count : SlackBox → ℕ → Bool
may_count b k = nat_le 1 (upper_at b.slots k) || nat_le 1 (slack_at b k).hi

-- whether a token may be taken at a box
abbrev pub is_legal : Weighted → ℕ → SlackBox → SlackToken → Bool
is_legal w limit b Over = is_over limit b
is_legal w limit b (Short e) = nat_lt e (edge_count w.graph) && is_short w limit b e
is_legal w limit b (Split k) =
    nat_lt k (length b.slots) && (nat_lt (lower_at b.slots k) (upper_at b.slots k) && can_branch w limit b)
is_legal w limit b (Cut k) =
    nat_lt k (length b.slots) && (nat_lt (slack_at b k).lo (slack_at b k).hi && can_branch w limit b)
is_legal w limit b (Step k) =
    nat_lt k (length b.slots) && (may_count b k && (not (is_finished w.graph (slot_at b.slots k).walk) && can_branch w limit b))

-- the middle of a slot's slacks, rounded down
abbrev pub middle_slack : SlackBox → ℕ → ℕ
middle_slack b k = ((slack_at b k).lo + (slack_at b k).hi) / 2

-- a box with another greatest slack of one slot
abbrev pub with_most_slack : SlackBox → ℕ → ℕ → SlackBox
with_most_slack b k n = record b { slacks = set b.slacks k (record (slack_at b k) { hi = n }) }

-- a box with another least slack of one slot
abbrev pub with_least_slack : SlackBox → ℕ → ℕ → SlackBox
with_least_slack b k n = record b { slacks = set b.slacks k (record (slack_at b k) { lo = n }) }

-- the boxes that stand in place of a box after a token
abbrev pub boxes_after : Weighted → SlackBox → SlackToken → List SlackBox
boxes_after w b Over = []
boxes_after w b (Short e) = []
boxes_after w b (Split k) =
    record b { slots = with_hi b.slots k (middle b.slots k) } ∷ record b { slots = with_lo b.slots k (middle b.slots k + 1) } ∷ []
boxes_after w b (Cut k) = with_most_slack b k (middle_slack b k) ∷ with_least_slack b k (middle_slack b k + 1) ∷ []
boxes_after w b (Step k) = map (λ e. record b { slots = with_edge b.slots k e }) (next_edges w.graph (slot_at b.slots k).walk)

-- the boxes after a token, which acts on the first box; none where it is not legal
abbrev pub after_token : Weighted → ℕ → SlackToken → List SlackBox → Option (List SlackBox)
after_token w limit t [] = None
after_token w limit t (b ∷ bs) = cond (is_legal w limit b t) (Some (boxes_after w b t ++ bs)) None

-- the boxes after a list of tokens; none where one of them is not legal
abbrev pub after_tokens : Weighted → ℕ → List SlackToken → List SlackBox → Option (List SlackBox)
after_tokens w limit [] bs = Some bs
after_tokens w limit (t ∷ ts) bs = option_and_then (after_tokens w limit ts) (after_token w limit t bs)

-- the boxes after a list of tokens, from the root box alone
abbrev pub boxes_left : Weighted → ℕ → ℕ → List SlackToken → Option (List SlackBox)
boxes_left w slots limit ts = after_tokens w limit ts (root_box w slots limit ∷ [])

-- a refutation: every token is legal in turn, and no box is left
abbrev pub IsRefutation : Weighted → ℕ → ℕ → List SlackToken → Type 0
IsRefutation w slots limit ts = boxes_left w slots limit ts ≡ Some []

-- a trail: every token is legal in turn, and a box is left
abbrev pub IsTrail : Weighted → ℕ → ℕ → List SlackToken → Type 0
IsTrail w slots limit ts = (b : SlackBox) × (bs : List SlackBox) × (boxes_left w slots limit ts ≡ Some (b ∷ bs))

-- every token is legal in turn, and so many boxes are left
abbrev pub LeavesBoxes : Weighted → ℕ → ℕ → List SlackToken → ℕ → Type 0
LeavesBoxes w slots limit ts n = option_map length (boxes_left w slots limit ts) ≡ Some n

-- the first token that is not legal is the one at this place, counted from 0
abbrev pub IsFirstIllegal : Weighted → ℕ → ℕ → List SlackToken → ℕ → Type 0
IsFirstIllegal w slots limit ts k =
    (k < length ts) × IsSome (boxes_left w slots limit (take k ts)) × IsNone (boxes_left w slots limit (take (k + 1) ts))
