-- Each token keeps every line-up that answers within the limit and that some box holds.
use Rattle.std.proofs.Common.{◌≡◌, ◌≢◌, ℕ, ◌+◌, ◌<◌, ◌≤◌, refl, sym, arith, inl, inr, true, not, ◌&&◌, eqb, nat_lt, List, [], ◌∷◌, ◌++◌, map, length, set, true≢false, eqb-true, ltb-true, subst, Option, Some, None, option_and_then, length-set, get_or-set_same, get_or-set_other}
use Rattle.std.specs.List.{list_any}
use Rattle.std.proofs.lemmas.Bool.{cases_Bool, cases_eq, cases_lt, and_parts, or_cases}
use Rattle.std.proofs.lemmas.List.{get_or_past}
use Rattle.decomposition.specs.declared.Range.{Range}
use Rattle.decomposition.specs.Graph.{Graph, IsNet, edge_count, IsPath, begins_with, paths}
use Rattle.decomposition.specs.Answer.{weight_on}
use Rattle.decomposition.specs.Boxes.{Slot, slot_at}
use Rattle.decomposition.specs.Tokens.{is_finished, middle, next_edges, with_edge}
use Rattle.decomposition.proofs.Members.{any-cons}
use Rattle.decomposition.proofs.Bounds.{ListsPaths}
use Rattle.decomposition.proofs.Keeps.{slot_at-set, begins_with-split, next_of_path, some_next}
use Rattle.decomposition.proofs.Walks.{paths-has}
use Rattle.slack_terms.specs.declared.slack_path.SlackPath.{SlackPath}
use Rattle.slack_terms.specs.declared.token.SlackToken.{SlackToken}
use Rattle.slack_terms.specs.declared.token.SlackToken.TheVariants.{Over, Short, Split, Cut, Step}
use Rattle.slack_terms.specs.Answers.{Weighted, entry_at, slacks_of}
use Rattle.slack_terms.specs.Boxes.{SlackBox, slack_at, lack, least_slack, most_slack_on, least_slack_beside}
use Rattle.slack_terms.specs.Tokens.{is_short, can_branch, may_count, is_legal, middle_slack, boxes_after, after_token, after_tokens}
use Rattle.slack_terms.specs.Held.{Holds, SomeHolds, Answers}
use Rattle.slack_terms.proofs.Bounds.{lack-le, least_slack-le, le-most_slack_on, beside-le}

-- what holds of the slacks after one of them was replaced
slack_at-set : (P : Range → Type 0) (b : SlackBox) (k : ℕ) (r : Range) (j : ℕ) → k < length b.slacks → (j ≡ k → P r) → (j ≢ k → P (slack_at b j))
    → P (slack_at (record b { slacks = set b.slacks k r }) j)
slack_at-set P b k r j inside here there =
    elim (cases_eq j k) [
      | inl same ↦
          subst (λ n. P (slack_at (record b { slacks = set b.slacks k r }) n)) (sym same)
          (subst P (sym (get_or-set_same b.slacks k r (record { lo = 0; hi = 0 }) inside)) (here same))
      | inr other ↦ subst P (sym (get_or-set_other b.slacks k j r (record { lo = 0; hi = 0 }) other)) (there other)
    ]

-- a slot may be replaced by one that holds the entry
pub Holds-slot : (g : Graph) (b : SlackBox) (line : List SlackPath) (k : ℕ) (s : Slot) → Holds g b line → k < length b.slots
    → s.lo ≤ (entry_at line k).weight → (entry_at line k).weight ≤ s.hi
    → (1 ≤ (entry_at line k).weight + (entry_at line k).slack → begins_with (entry_at line k).path s.walk ≡ true)
    → Holds g (record b { slots = set b.slots k s }) line
Holds-slot g b line k s held inside low high begins =
    let same : length (set b.slots k s) ≡ length b.slots = length-set b.slots k s in
    record {
      long = rw same held.long;
      falling = λ i j l m. held.falling i j l (omega arith);
      low = λ j l. slot_at-set (λ t. t.lo ≤ (entry_at line j).weight) b.slots k s j inside (λ e. rw e low) (λ _. held.low j (omega arith));
      high = λ j l. slot_at-set (λ t. (entry_at line j).weight ≤ t.hi) b.slots k s j inside (λ e. rw e high) (λ _. held.high j (omega arith));
      least = λ j l. held.least j (omega arith);
      most = λ j l. held.most j (omega arith);
      path = λ j l one. held.path j (omega arith) one;
      begins = λ j l one. slot_at-set (λ t. begins_with (entry_at line j).path t.walk ≡ true) b.slots k s j inside (λ e. rw e (begins (rw e at one))) (λ _. held.begins j (omega arith) one);
    }

-- a range of slacks may be replaced by one that has the entry's slack
pub Holds-slack : (g : Graph) (b : SlackBox) (line : List SlackPath) (k : ℕ) (r : Range) → Holds g b line → k < length b.slacks
    → r.lo ≤ (entry_at line k).slack → (entry_at line k).slack ≤ r.hi → Holds g (record b { slacks = set b.slacks k r }) line
Holds-slack g b line k r held inside least most = record {
  long = held.long;
  falling = held.falling;
  low = held.low;
  high = held.high;
  least = λ j l. slack_at-set (λ t. t.lo ≤ (entry_at line j).slack) b k r j inside (λ e. rw e least) (λ _. held.least j l);
  most = λ j l. slack_at-set (λ t. (entry_at line j).slack ≤ t.hi) b k r j inside (λ e. rw e most) (λ _. held.most j l);
  path = held.path;
  begins = held.begins;
}

-- a slot whose slacks differ has a range
has_range : (b : SlackBox) (k : ℕ) → (slack_at b k).lo < (slack_at b k).hi → k < length b.slacks
has_range b k apart =
    elim (cases_lt k (length b.slacks)) [
      | inl l ↦ l
      | inr past ↦
          let none : slack_at b k ≡ record { lo = 0; hi = 0 } = get_or_past b.slacks k (record { lo = 0; hi = 0 }) past in
          let no : 0 < 0 = rw none at apart in
          absurd (omega arith)
    ]

pub SomeHolds-append_right : (g : Graph) (xs ys : List SlackBox) (line : List SlackPath) → SomeHolds g ys line → SomeHolds g (xs ++ ys) line
SomeHolds-append_right g [] ys line h = h
SomeHolds-append_right g (x ∷ xs) ys line h = inr (SomeHolds-append_right g xs ys line h)

pub SomeHolds-append_left : (g : Graph) (xs ys : List SlackBox) (line : List SlackPath) → SomeHolds g xs line → SomeHolds g (xs ++ ys) line
SomeHolds-append_left g [] ys line h = absurd h
SomeHolds-append_left g (x ∷ xs) ys line (inl h) = inl h
SomeHolds-append_left g (x ∷ xs) ys line (inr h) = inr (SomeHolds-append_left g xs ys line h)

pub SomeHolds-map : (g : Graph) (f : ℕ → SlackBox) (es : List ℕ) (e : ℕ) (line : List SlackPath) → list_any (λ y. eqb e y) es ≡ true → Holds g (f e) line → SomeHolds g (map f es) line
SomeHolds-map g f [] e line h held = absurd (true≢false (sym h))
SomeHolds-map g f (d ∷ es) e line h held =
    elim (any-cons (λ y. eqb e y) d es h) [
      | inl here ↦ inl (subst (λ y. Holds g (f y) line) (eqb-true e d here) held)
      | inr there ↦ inr (SomeHolds-map g f es e line there held)
    ]

module _ (w : Weighted) (net : IsNet w.graph) (limit : ℕ) (line : List SlackPath) (answers : Answers w limit line) where
  lists : ListsPaths w.graph (paths w.graph)
  lists p path test t = paths-has w.graph net p path test t

  not_over : (b : SlackBox) → Holds w.graph b line → limit < least_slack b → ⊥
  not_over b held over = omega (arith, least_slack-le w.graph b line held, answers.within)

  not_short : (b : SlackBox) (e : ℕ) → Holds w.graph b line → e < edge_count w.graph → is_short w limit b e ≡ true → ⊥
  not_short b e held inside short =
      let lacks : lack w b e ≤ weight_on (slacks_of line) e = omega (arith, lack-le w b line e lists held, answers.covers e inside) in
      elim (or_cases (nat_lt (most_slack_on w b e) (lack w b e)) (nat_lt limit (lack w b e + least_slack_beside w b e)) short) [
        | inl more ↦
            let above : most_slack_on w b e < lack w b e = ltb-true _ _ more in
            omega (arith, lacks, le-most_slack_on w b line e lists held)
        | inr over ↦
            let above : limit < lack w b e + least_slack_beside w b e = ltb-true _ _ over in
            omega (arith, lacks, beside-le w b line e lists held, answers.within)
      ]

  keep_split : (b : SlackBox) (k : ℕ) → Holds w.graph b line → k < length b.slots → SomeHolds w.graph (boxes_after w b (Split k)) line
  keep_split b k held inside =
      elim (cases_lt (middle b.slots k) (entry_at line k).weight) [
        | inl high ↦ inr (inl (Holds-slot w.graph b line k (record (slot_at b.slots k) { lo = middle b.slots k + 1 }) held inside (omega arith) (held.high k inside) (held.begins k inside)))
        | inr low ↦ inl (Holds-slot w.graph b line k (record (slot_at b.slots k) { hi = middle b.slots k }) held inside (held.low k inside) low (held.begins k inside))
      ]

  keep_cut : (b : SlackBox) (k : ℕ) → Holds w.graph b line → k < length b.slots → (slack_at b k).lo < (slack_at b k).hi → SomeHolds w.graph (boxes_after w b (Cut k)) line
  keep_cut b k held inside apart =
      let range : k < length b.slacks = has_range b k apart in
      elim (cases_lt (middle_slack b k) (entry_at line k).slack) [
        | inl high ↦ inr (inl (Holds-slack w.graph b line k (record (slack_at b k) { lo = middle_slack b k + 1 }) held range (omega arith) (held.most k inside)))
        | inr low ↦ inl (Holds-slack w.graph b line k (record (slack_at b k) { hi = middle_slack b k }) held range (held.least k inside) low)
      ]

  keep_edge : (b : SlackBox) (k e : ℕ) → Holds w.graph b line → k < length b.slots → list_any (λ y. eqb e y) (next_edges w.graph (slot_at b.slots k).walk) ≡ true
      → (1 ≤ (entry_at line k).weight + (entry_at line k).slack → begins_with (entry_at line k).path ((slot_at b.slots k).walk ++ e ∷ []) ≡ true)
      → SomeHolds w.graph (boxes_after w b (Step k)) line
  keep_edge b k e held inside next begins =
      SomeHolds-map w.graph (λ f. record b { slots = with_edge b.slots k f }) (next_edges w.graph (slot_at b.slots k).walk) e line next
      (Holds-slot w.graph b line k (record (slot_at b.slots k) { walk = (slot_at b.slots k).walk ++ e ∷ [] }) held inside (held.low k inside) (held.high k inside) begins)

  keep_step : (b : SlackBox) (k : ℕ) → Holds w.graph b line → k < length b.slots → 0 < edge_count w.graph → not (is_finished w.graph (slot_at b.slots k).walk) ≡ true
      → SomeHolds w.graph (boxes_after w b (Step k)) line
  keep_step b k held inside edges open' =
      elim (cases_lt 0 ((entry_at line k).weight + (entry_at line k).slack)) [
        | inl one ↦
            let split : (rest : List ℕ) × ((entry_at line k).path ≡ (slot_at b.slots k).walk ++ rest)
            = begins_with-split (entry_at line k).path (slot_at b.slots k).walk (held.begins k inside (omega arith)) in
            let path : IsPath w.graph ((slot_at b.slots k).walk ++ split.0) = subst (λ p. IsPath w.graph p) split.1 (held.path k inside (omega arith)) in
            let next : (e : ℕ) × (list_any (λ y. eqb e y) (next_edges w.graph (slot_at b.slots k).walk) ≡ true) × (begins_with ((slot_at b.slots k).walk ++ split.0) ((slot_at b.slots k).walk ++ e ∷ []) ≡ true)
            = next_of_path w.graph (slot_at b.slots k).walk split.0 path open' in
            keep_edge b k next.0 held inside next.1 (λ _. subst (λ p. begins_with p ((slot_at b.slots k).walk ++ next.0 ∷ []) ≡ true) (sym split.1) next.2)
        | inr none ↦
            let next : (e : ℕ) × (list_any (λ y. eqb e y) (next_edges w.graph (slot_at b.slots k).walk) ≡ true) = some_next w.graph net (slot_at b.slots k).walk edges open' in
            keep_edge b k next.0 held inside next.1 (λ one. absurd (omega arith))
      ]

  -- a legal token at a box that holds the line-up leaves a box that holds it
  keep_box : (b : SlackBox) (t : SlackToken) → Holds w.graph b line → is_legal w limit b t ≡ true → SomeHolds w.graph (boxes_after w b t) line
  keep_box b Over held legal = not_over b held (ltb-true _ _ legal)
  keep_box b (Short e) held legal =
      let parts : (nat_lt e (edge_count w.graph) ≡ true) × (is_short w limit b e ≡ true) = and_parts _ _ legal in
      not_short b e held (ltb-true _ _ parts.0) parts.1
  keep_box b (Split k) held legal = keep_split b k held (ltb-true _ _ (and_parts (nat_lt k (length b.slots)) _ legal).0)
  keep_box b (Cut k) held legal =
      let parts : (nat_lt k (length b.slots) ≡ true) × ((nat_lt (slack_at b k).lo (slack_at b k).hi && can_branch w limit b) ≡ true) = and_parts _ _ legal in
      keep_cut b k held (ltb-true _ _ parts.0) (ltb-true _ _ (and_parts (nat_lt (slack_at b k).lo (slack_at b k).hi) _ parts.1).0)
  keep_box b (Step k) held legal =
      let parts : (nat_lt k (length b.slots) ≡ true) × ((may_count b k && (not (is_finished w.graph (slot_at b.slots k).walk) && can_branch w limit b)) ≡ true) = and_parts _ _ legal in
      let others : (not (is_finished w.graph (slot_at b.slots k).walk) && can_branch w limit b) ≡ true = (and_parts (may_count b k) _ parts.1).1 in
      let last : (not (is_finished w.graph (slot_at b.slots k).walk) ≡ true) × (can_branch w limit b ≡ true) = and_parts _ _ others in
      let edges : nat_lt 0 (edge_count w.graph) ≡ true = (and_parts (nat_lt 0 (edge_count w.graph)) _ last.1).0 in
      keep_step b k held (ltb-true _ _ parts.0) (ltb-true _ _ edges) last.0

  pub keep_token : (t : SlackToken) (bs left : List SlackBox) → SomeHolds w.graph bs line → after_token w limit t bs ≡ Some left → SomeHolds w.graph left line
  keep_token t [] left some is = absurd some
  keep_token t (b ∷ bs) left some is =
      elim (cases_Bool (is_legal w limit b t)) [
        | inl legal ↦
            let now : Some (boxes_after w b t ++ bs) ≡ Some left = rw legal at is in
            let same : boxes_after w b t ++ bs ≡ left = cc in
            subst (λ l. SomeHolds w.graph l line) same
            (elim some [
              | inl here ↦ SomeHolds-append_left w.graph (boxes_after w b t) bs line (keep_box b t here legal)
              | inr there ↦ SomeHolds-append_right w.graph (boxes_after w b t) bs line there
            ])
        | inr not_legal ↦
            let now : ◌≡◌ {A = Option (List SlackBox)} None (Some left) = rw not_legal at is in
            absurd (let no' : ⊥ = cc in no')
      ]

  pub keep_tokens : (ts : List SlackToken) (bs left : List SlackBox) → SomeHolds w.graph bs line → after_tokens w limit ts bs ≡ Some left → SomeHolds w.graph left line
  keep_tokens [] bs left some is = let same : bs ≡ left = cc in subst (λ l. SomeHolds w.graph l line) same some
  keep_tokens (t ∷ ts) bs left some is = go (λ next held. keep_tokens ts next left held) (after_token w limit t bs) refl is where
    go : ((next : List SlackBox) → SomeHolds w.graph next line → after_tokens w limit ts next ≡ Some left → SomeHolds w.graph left line)
        → (r : Option (List SlackBox)) → after_token w limit t bs ≡ r → option_and_then (after_tokens w limit ts) r ≡ Some left → SomeHolds w.graph left line
    go rest None e h = absurd (let no' : ⊥ = cc in no')
    go rest (Some next) e h = rest next (keep_token t bs next some e) h
