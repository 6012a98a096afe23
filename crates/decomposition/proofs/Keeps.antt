-- Each token keeps every line-up that answers the decision and that some box holds.
use Rattle.std.proofs.Common.{◌≡◌, ◌≢◌, ℕ, ◌+◌, ◌<◌, ◌≤◌, refl, sym, arith, inl, inr, true, not, ◌&&◌, ◌==◌, eqb, nat_lt, nat_le, List, [], ◌∷◌, ◌++◌, map, length, set, true≢false, eqb-true, eq-eqb, ltb-true, subst, Option, Some, None, option_and_then, append_assoc, append-nil, length-set, get_or-set_same, get_or-set_other}
use Rattle.std.specs.List.{list_any}
use Rattle.std.proofs.lemmas.Bool.{cases_Bool, cases_eq, cases_lt, and_parts, and_from, not-true, both_ways}
use Rattle.decomposition.specs.declared.Token.{Token}
use Rattle.decomposition.specs.declared.Token.TheVariants.{Gap, Miss, Split, Step}
use Rattle.decomposition.specs.Graph.{Graph, IsNet, edge_count, tail, head, is_source, is_sink, is_walk_from, walk_end, is_run, IsPath, begins_with, paths}
use Rattle.decomposition.specs.Instance.{Instance, error}
use Rattle.decomposition.specs.Boxes.{Slot, slot_at, upper_at, gap, misses}
use Rattle.decomposition.specs.Tokens.{is_above, can_branch, is_finished, is_legal, middle, next_edges, with_edge, boxes_after, after_token, after_tokens}
use Rattle.decomposition.specs.Certificates.{IsWithin}
use Rattle.decomposition.specs.Held.{Holds, SomeHolds, Answers}
use Rattle.decomposition.specs.Answer.{entry_at}
use Rattle.decomposition.proofs.Members.{any-cons}
use Rattle.decomposition.proofs.Bounds.{ListsPaths, gap_over-le, misses-false}
use Rattle.decomposition.proofs.Walks.{IsStep, walk-cons, walk-from_step, walk-right, paths-has, edges_from-has, edges_from_sources-has, edge_out_of, source_edge}

-- what holds of the slots after one of them was replaced
pub slot_at-set : (P : Slot → Type 0) (b : List Slot) (k : ℕ) (s : Slot) (j : ℕ) → k < length b → (j ≡ k → P s) → (j ≢ k → P (slot_at b j)) → P (slot_at (set b k s) j)
slot_at-set P b k s j inside here there =
    elim (cases_eq j k) [
      | inl same ↦
          subst (λ n. P (slot_at (set b k s) n)) (sym same)
          (subst P (sym (get_or-set_same b k s (record { lo = 0; hi = 0; walk = [] }) inside)) (here same))
      | inr other ↦ subst P (sym (get_or-set_other b k j s (record { lo = 0; hi = 0; walk = [] }) other)) (there other)
    ]

-- a slot may be replaced by one that holds the entry
pub Holds-set : (g : Graph) (b : List Slot) (line : List (List ℕ × ℕ)) (k : ℕ) (s : Slot) → Holds g b line → k < length b
    → s.lo ≤ (entry_at line k).1 → (entry_at line k).1 ≤ s.hi → (1 ≤ (entry_at line k).1 → begins_with (entry_at line k).0 s.walk ≡ true)
    → Holds g (set b k s) line
Holds-set g b line k s held inside low high begins =
    let same : length (set b k s) ≡ length b = length-set b k s in
    record {
      long = rw same held.long;
      falling = λ i j l m. held.falling i j l (omega arith);
      low = λ j l. slot_at-set (λ t. t.lo ≤ (entry_at line j).1) b k s j inside (λ e. rw e low) (λ _. held.low j (omega arith));
      high = λ j l. slot_at-set (λ t. (entry_at line j).1 ≤ t.hi) b k s j inside (λ e. rw e high) (λ _. held.high j (omega arith));
      path = λ j l one. held.path j (omega arith) one;
      begins = λ j l one. slot_at-set (λ t. begins_with (entry_at line j).0 t.walk ≡ true) b k s j inside (λ e. rw e (begins (rw e at one))) (λ _. held.begins j (omega arith) one);
    }

pub begins_with-split : (p walk : List ℕ) → begins_with p walk ≡ true → (rest : List ℕ) × (p ≡ walk ++ rest)
begins_with-split p [] h = (p, refl)
begins_with-split [] (f ∷ walk) h = absurd (true≢false (sym h))
begins_with-split (d ∷ p) (f ∷ walk) h =
    let parts : ((d == f) ≡ true) × (begins_with p walk ≡ true) = and_parts (d == f) (begins_with p walk) h in
    let rest : (r : List ℕ) × (p ≡ walk ++ r) = begins_with-split p walk parts.1 in
    let same : d ≡ f = eqb-true d f parts.0 in
    let whole : d ∷ p ≡ f ∷ (walk ++ rest.0) = let tails = rest.1 in cc in
    (rest.0, whole)

pub begins_with-append : (xs ys : List ℕ) → begins_with (xs ++ ys) xs ≡ true
begins_with-append [] ys = refl
begins_with-append (x ∷ xs) ys = and_from (x == x) (begins_with (xs ++ ys) xs) (eq-eqb x x refl) (begins_with-append xs ys)

-- a path that begins with a walk that has not reached a sink has a next edge
pub next_of_path : (g : Graph) (walk rest : List ℕ) → IsPath g (walk ++ rest) → not (is_finished g walk) ≡ true
    → (e : ℕ) × (list_any (λ y. eqb e y) (next_edges g walk) ≡ true) × (begins_with (walk ++ rest) (walk ++ e ∷ []) ≡ true)
next_of_path g [] [] path open' = absurd (true≢false (sym path))
next_of_path g (f ∷ fs) [] path open' =
    let is_whole : fs ++ [] ≡ fs = append-nil fs in
    let parts : (is_source g (tail g f) ≡ true) × ((is_run g (f ∷ (fs ++ [])) && is_sink g (walk_end g (head g f) (fs ++ []))) ≡ true) = and_parts _ _ path in
    let sink : is_sink g (walk_end g (head g f) (fs ++ [])) ≡ true = (and_parts _ _ parts.1).1 in
    let end : is_sink g (walk_end g (head g f) fs) ≡ true = rw is_whole at sink in
    absurd (both_ways _ (not-true _ open') end)
next_of_path g [] (e ∷ rest) path open' =
    let parts : (is_source g (tail g e) ≡ true) × ((is_run g (e ∷ rest) && is_sink g (walk_end g (head g e) rest)) ≡ true) = and_parts _ _ path in
    let run : is_walk_from g (tail g e) (e ∷ rest) ≡ true = (and_parts _ _ parts.1).0 in
    (e, edges_from_sources-has g e (walk-cons g (tail g e) e rest run).inside parts.0, begins_with-append (e ∷ []) rest)
next_of_path g (f ∷ fs) (e ∷ rest) path open' =
    let parts : (is_source g (tail g f) ≡ true) × ((is_run g (f ∷ (fs ++ e ∷ rest)) && is_sink g (walk_end g (head g f) (fs ++ e ∷ rest))) ≡ true) = and_parts _ _ path in
    let run : is_walk_from g (tail g f) ((f ∷ fs) ++ (e ∷ rest)) ≡ true = (and_parts _ _ parts.1).0 in
    let s : IsStep g (walk_end g (tail g f) (f ∷ fs)) e rest = walk-cons g _ e rest (walk-right g (tail g f) (f ∷ fs) (e ∷ rest) run) in
    let regroup : ((f ∷ fs) ++ e ∷ []) ++ rest ≡ (f ∷ fs) ++ (e ∷ rest) = append_assoc (f ∷ fs) (e ∷ []) rest in
    let begins : begins_with (((f ∷ fs) ++ e ∷ []) ++ rest) ((f ∷ fs) ++ e ∷ []) ≡ true = begins_with-append ((f ∷ fs) ++ e ∷ []) rest in
    (e, edges_from-has g (walk_end g (tail g f) (f ∷ fs)) e s.inside s.leaves, subst (λ l. begins_with l ((f ∷ fs) ++ e ∷ []) ≡ true) regroup begins)

-- a walk that has not reached a sink has a next edge, where the net has an edge
pub some_next : (g : Graph) → IsNet g → (walk : List ℕ) → 0 < edge_count g → not (is_finished g walk) ≡ true
    → (e : ℕ) × (list_any (λ y. eqb e y) (next_edges g walk) ≡ true)
some_next g net [] edges open' =
    let one : is_walk_from g (tail g 0) (0 ∷ []) ≡ true = walk-from_step g (tail g 0) 0 [] (record { inside = edges; leaves = refl; rest = refl }) in
    let found : (f : ℕ) × (f < edge_count g) × (is_source g (tail g f) ≡ true) = source_edge g net (edge_count g) 0 [] one (omega arith) in
    (found.0, edges_from_sources-has g found.0 found.1 found.2)
some_next g net (f ∷ fs) edges open' =
    let found : (e : ℕ) × (e < edge_count g) × (tail g e ≡ walk_end g (tail g f) (f ∷ fs)) = edge_out_of g (walk_end g (tail g f) (f ∷ fs)) (not-true _ open') in
    (found.0, edges_from-has g (walk_end g (tail g f) (f ∷ fs)) found.0 found.1 found.2)

pub SomeHolds-append_right : (g : Graph) (xs ys : List (List Slot)) (line : List (List ℕ × ℕ)) → SomeHolds g ys line → SomeHolds g (xs ++ ys) line
SomeHolds-append_right g [] ys line h = h
SomeHolds-append_right g (x ∷ xs) ys line h = inr (SomeHolds-append_right g xs ys line h)

pub SomeHolds-append_left : (g : Graph) (xs ys : List (List Slot)) (line : List (List ℕ × ℕ)) → SomeHolds g xs line → SomeHolds g (xs ++ ys) line
SomeHolds-append_left g [] ys line h = absurd h
SomeHolds-append_left g (x ∷ xs) ys line (inl h) = inl h
SomeHolds-append_left g (x ∷ xs) ys line (inr h) = inr (SomeHolds-append_left g xs ys line h)

pub SomeHolds-map : (g : Graph) (f : ℕ → List Slot) (es : List ℕ) (e : ℕ) (line : List (List ℕ × ℕ)) → list_any (λ y. eqb e y) es ≡ true → Holds g (f e) line → SomeHolds g (map f es) line
SomeHolds-map g f [] e line h held = absurd (true≢false (sym h))
SomeHolds-map g f (d ∷ es) e line h held =
    elim (any-cons (λ y. eqb e y) d es h) [
      | inl here ↦ inl (subst (λ y. Holds g (f y) line) (eqb-true e d here) held)
      | inr there ↦ inr (SomeHolds-map g f es e line there held)
    ]

module _ (i : Instance) (net : IsNet i.graph) (limit : Option ℕ) (line : List (List ℕ × ℕ)) (answers : Answers i limit line) where
  lists : ListsPaths i.graph (paths i.graph)
  lists p path test t = paths-has i.graph net p path test t

  above_limit : (l : Option ℕ) (n m : ℕ) → is_above l n ≡ true → n ≤ m → IsWithin l m → ⊥
  above_limit None n m h k within = true≢false (sym h)
  above_limit (Some l) n m h k within = let above : l < n = ltb-true l n h in omega arith

  keep_split : (b : List Slot) (k : ℕ) → Holds i.graph b line → k < length b → SomeHolds i.graph (boxes_after i b (Split k)) line
  keep_split b k held inside =
      elim (cases_lt (middle b k) (entry_at line k).1) [
        | inl high ↦ inr (inl (Holds-set i.graph b line k (record (slot_at b k) { lo = middle b k + 1 }) held inside (omega arith) (held.high k inside) (held.begins k inside)))
        | inr low ↦ inl (Holds-set i.graph b line k (record (slot_at b k) { hi = middle b k }) held inside (held.low k inside) low (held.begins k inside))
      ]

  keep_edge : (b : List Slot) (k e : ℕ) → Holds i.graph b line → k < length b → list_any (λ y. eqb e y) (next_edges i.graph (slot_at b k).walk) ≡ true
      → (1 ≤ (entry_at line k).1 → begins_with (entry_at line k).0 ((slot_at b k).walk ++ e ∷ []) ≡ true)
      → SomeHolds i.graph (boxes_after i b (Step k)) line
  keep_edge b k e held inside next begins =
      SomeHolds-map i.graph (λ f. with_edge b k f) (next_edges i.graph (slot_at b k).walk) e line next
      (Holds-set i.graph b line k (record (slot_at b k) { walk = (slot_at b k).walk ++ e ∷ [] }) held inside (held.low k inside) (held.high k inside) begins)

  keep_step : (b : List Slot) (k : ℕ) → Holds i.graph b line → k < length b → 0 < edge_count i.graph → not (is_finished i.graph (slot_at b k).walk) ≡ true
      → SomeHolds i.graph (boxes_after i b (Step k)) line
  keep_step b k held inside edges open' =
      elim (cases_lt 0 (entry_at line k).1) [
        | inl one ↦
            let split : (rest : List ℕ) × ((entry_at line k).0 ≡ (slot_at b k).walk ++ rest) = begins_with-split (entry_at line k).0 (slot_at b k).walk (held.begins k inside (omega arith)) in
            let path : IsPath i.graph ((slot_at b k).walk ++ split.0) = subst (λ p. IsPath i.graph p) split.1 (held.path k inside (omega arith)) in
            let next : (e : ℕ) × (list_any (λ y. eqb e y) (next_edges i.graph (slot_at b k).walk) ≡ true) × (begins_with ((slot_at b k).walk ++ split.0) ((slot_at b k).walk ++ e ∷ []) ≡ true)
            = next_of_path i.graph (slot_at b k).walk split.0 path open' in
            keep_edge b k next.0 held inside next.1 (λ _. subst (λ p. begins_with p ((slot_at b k).walk ++ next.0 ∷ []) ≡ true) (sym split.1) next.2)
        | inr none ↦
            let next : (e : ℕ) × (list_any (λ y. eqb e y) (next_edges i.graph (slot_at b k).walk) ≡ true) = some_next i.graph net (slot_at b k).walk edges open' in
            keep_edge b k next.0 held inside next.1 (λ one. absurd (omega arith))
      ]

  -- a legal token at a box that holds the line-up leaves a box that holds it
  keep_box : (b : List Slot) (t : Token) → Holds i.graph b line → is_legal i limit b t ≡ true → SomeHolds i.graph (boxes_after i b t) line
  keep_box b Gap held legal = above_limit limit (gap i b) (error i line) legal (gap_over-le i (paths i.graph) b line lists held) answers.within
  keep_box b (Miss c) held legal =
      let parts : (nat_lt c (length i.rules) ≡ true) × (misses i b c ≡ true) = and_parts _ _ legal in
      misses-false i b line limit c lists held answers (ltb-true _ _ parts.0) parts.1
  keep_box b (Split k) held legal = keep_split b k held (ltb-true _ _ (and_parts (nat_lt k (length b)) _ legal).0)
  keep_box b (Step k) held legal =
      let parts : (nat_lt k (length b) ≡ true) × ((nat_le 1 (upper_at b k) && (not (is_finished i.graph (slot_at b k).walk) && can_branch i limit b)) ≡ true) = and_parts _ _ legal in
      let others : (not (is_finished i.graph (slot_at b k).walk) && can_branch i limit b) ≡ true = (and_parts (nat_le 1 (upper_at b k)) _ parts.1).1 in
      let last : (not (is_finished i.graph (slot_at b k).walk) ≡ true) × (can_branch i limit b ≡ true) = and_parts _ _ others in
      let edges : nat_lt 0 (edge_count i.graph) ≡ true = (and_parts (nat_lt 0 (edge_count i.graph)) _ last.1).0 in
      keep_step b k held (ltb-true _ _ parts.0) (ltb-true _ _ edges) last.0

  pub keep_token : (t : Token) (bs left : List (List Slot)) → SomeHolds i.graph bs line → after_token i limit t bs ≡ Some left → SomeHolds i.graph left line
  keep_token t [] left some is = absurd some
  keep_token t (b ∷ bs) left some is =
      elim (cases_Bool (is_legal i limit b t)) [
        | inl legal ↦
            let now : Some (boxes_after i b t ++ bs) ≡ Some left = rw legal at is in
            let same : boxes_after i b t ++ bs ≡ left = cc in
            subst (λ l. SomeHolds i.graph l line) same
            (elim some [
              | inl here ↦ SomeHolds-append_left i.graph (boxes_after i b t) bs line (keep_box b t here legal)
              | inr there ↦ SomeHolds-append_right i.graph (boxes_after i b t) bs line there
            ])
        | inr not_legal ↦
            let now : ◌≡◌ {A = Option (List (List Slot))} None (Some left) = rw not_legal at is in
            absurd (let no' : ⊥ = cc in no')
      ]

  pub keep_tokens : (ts : List Token) (bs left : List (List Slot)) → SomeHolds i.graph bs line → after_tokens i limit ts bs ≡ Some left → SomeHolds i.graph left line
  keep_tokens [] bs left some is = let same : bs ≡ left = cc in subst (λ l. SomeHolds i.graph l line) same some
  keep_tokens (t ∷ ts) bs left some is = go (λ next held. keep_tokens ts next left held) (after_token i limit t bs) refl is where
    go : ((next : List (List Slot)) → SomeHolds i.graph next line → after_tokens i limit ts next ≡ Some left → SomeHolds i.graph left line)
        → (r : Option (List (List Slot))) → after_token i limit t bs ≡ r → option_and_then (after_tokens i limit ts) r ≡ Some left → SomeHolds i.graph left line
    go rest None e h = absurd (let no' : ⊥ = cc in no')
    go rest (Some next) e h = rest next (keep_token t bs next some e) h
