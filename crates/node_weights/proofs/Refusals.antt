-- The first refusal of a text, from the lines before it, and the refusal for the first edge that closes a cycle.
use Rattle.std.proofs.Common.{◌≡◌, ℕ, zero, suc, ◌+◌, ◌<◌, ◌≤◌, List, [], ◌∷◌, ◌++◌, map, length, take, filter, get_or, Bool, true, false, Option, Some, None, Ok, Err, refl, sym, ap, subst, ◌∙◌, ⊎_elim, arith, append_assoc, length-append}
use Rattle.std.specs.Prelude.{filter_map, option_map, slice_index}
use Rattle.std.specs.List.{cons_option}
use Rattle.std.proofs.lemmas.Bool.{cond-true, cond-false, false_from_ne_true, cases_lt}
use Rattle.std.proofs.lemmas.List.{append-nil, length_push, take_all, nil_from_length}
use Rattle.std.proofs.lemmas.List.Elements.{filter-append}
use Rattle.decomposition.specs.Graph.{Graph, IsNet, edge_count, below, graph_before, graph_of}
use Rattle.decomposition.proofs.Reaching.{closes_none, closes_some}
use Rattle.dag_net.specs.Build.{FollowsNet, ClosesCycle}
use Rattle.graph_text.specs.Lines.{lines_of}
use Rattle.graph_text.specs.Reading.{closes_cycle}
use Rattle.node_weights.specs.declared.draft.NodeDraft.{NodeDraft}
use Rattle.node_weights.specs.declared.node_fault.NodeWhy.{NodeWhy}
use Rattle.node_weights.specs.declared.node_fault.NodeWhy.TheVariants.{Cycle}
use Rattle.node_weights.specs.NodeText.{first, cause_after, refusal_at, line_refusals, edge_numbers, net_of, graph_on, cycle_refusals, err_or, read_lines, read}
use Rattle.node_weights.specs.Draft.{HoldsLines, HoldsAll, Takes}

-- what a function gives of the numbers below n, where it gives nothing, and where it first gives something
module _ {Y : Type 0} (h : ℕ → Option Y) where
  filter_map-push : (xs : List ℕ) (x : ℕ) → filter_map h (xs ++ x ∷ []) ≡ filter_map h xs ++ filter_map h (x ∷ [])
  filter_map-push [] x = refl
  filter_map-push (y ∷ xs) x = by (h y) (filter_map-push xs x)
    where
      by : (o : Option Y) → filter_map h (xs ++ x ∷ []) ≡ filter_map h xs ++ filter_map h (x ∷ []) → cons_option o (filter_map h (xs ++ x ∷ [])) ≡ cons_option o (filter_map h xs) ++ filter_map h (x ∷ [])
      by None e = e
      by (Some z) e = ap (λ zs. z ∷ zs) e

  nothing-below : (n : ℕ) → ((m : ℕ) → m < n → h m ≡ None) → filter_map h (below n) ≡ []
  nothing-below zero none = refl
  nothing-below (suc n) none =
      filter_map-push (below n) n
      ∙ ap (λ ys. ys ++ filter_map h (n ∷ [])) (nothing-below n (λ m less. none m (omega arith)))
      ∙ ap (λ o. cons_option o []) (none n (omega arith))

  first-below : (n k : ℕ) (y : Y) → k < n → h k ≡ Some y → ((m : ℕ) → m < k → h m ≡ None) → (rest : List Y) × (filter_map h (below n) ≡ y ∷ rest)
  first-below zero k y less there before = absurd (omega arith)
  first-below (suc n) k y less there before =
      ⊎_elim
      (λ inside.
      let found = first-below n k y inside there before in
      (found.0 ++ filter_map h (n ∷ []), filter_map-push (below n) n ∙ ap (λ ys. ys ++ filter_map h (n ∷ [])) found.1))
      (λ last.
      let same : k ≡ n = omega arith in (
        [],
        filter_map-push (below n) n
            ∙ ap (λ ys. ys ++ filter_map h (n ∷ [])) (nothing-below n (λ m low. before m (omega arith)))
            ∙ ap (λ o. cons_option o []) (subst (λ u. h u ≡ Some y) same there),
      ))
      (cases_lt k n)

-- the first line that is refused
module _ (lines before rest : List (List ℕ)) (parts : lines ≡ before ++ rest) where
  before-line : take (length before) lines ≡ before
  before-line = ap (take (length before)) parts ∙ take-front before rest
    where
      take-front : (xs ys : List (List ℕ)) → take (length xs) (xs ++ ys) ≡ xs
      take-front [] ys = refl
      take-front (x ∷ xs) ys = ap (λ zs. x ∷ zs) (take-front xs ys)

module _ (lines before behind : List (List ℕ)) (line : List ℕ) (parts : lines ≡ before ++ line ∷ behind) where
  line-there : get_or lines (length before) [] ≡ line
  line-there = ap (λ ls. get_or ls (length before) []) parts ∙ at before
    where
      at : (xs : List (List ℕ)) → get_or (xs ++ line ∷ behind) (length xs) [] ≡ line
      at [] = refl
      at (x ∷ xs) = at xs

  refusal-is : refusal_at lines (length before) ≡ option_map (λ why. (length before + 1, why)) (cause_after before line)
  refusal-is = λ i. option_map (λ why. (length before + 1, why)) (cause_after (before-line lines before (line ∷ behind) parts i) (line-there i))

  inside : length before < length lines
  inside = omega (arith, ap (λ ls. length ls) parts, length-append before (line ∷ behind))

  pub read-refused : (why : NodeWhy) → ((m : ℕ) → m < length before → refusal_at lines m ≡ None) → cause_after before line ≡ Some why → read_lines lines ≡ Err (length before + 1, why)
  read-refused why none cause =
      let found = first-below (refusal_at lines) (length lines) (length before) (length before + 1, why) inside (refusal-is ∙ ap (option_map (λ w. (length before + 1, w))) cause) none in
      ap (λ rs. err_or (first (rs ++ cycle_refusals lines)) (graph_on lines)) found.1

-- The text is read up to a rest: no line before it is refused, and the draft holds them.
pub record IsReadTo (text rest : List ℕ) (number : ℕ) (draft : NodeDraft) : Type 0 where
  pub before : List (List ℕ)
  pub lines : lines_of text ≡ before ++ lines_of rest
  pub holds : HoldsLines before draft
  pub none : (m : ℕ) → m < length before → refusal_at (lines_of text) m ≡ None
  pub numbered : number ≡ length before + 1
  pub fits : number + length rest ≤ length text + 1

pub IsReadTo-start : (text : List ℕ) (draft : NodeDraft) → HoldsLines [] draft → IsReadTo text text 1 draft
IsReadTo-start text draft holds = record {
  before = [];
  lines = refl;
  holds = holds;
  none = λ m less. absurd (omega (arith, less));
  numbered = omega arith;
  fits = omega arith;
}

module _ (text rest behind line : List ℕ) (number : ℕ) (draft : NodeDraft) (to : IsReadTo text rest number draft) (split : lines_of rest ≡ line ∷ lines_of behind) where
  parts : lines_of text ≡ to.before ++ line ∷ lines_of behind
  parts = to.lines ∙ ap (λ ls. to.before ++ ls) split

  pub IsReadTo-next : (after : NodeDraft) → length behind < length rest → Takes to.before line after → IsReadTo text behind (number + 1) after
  IsReadTo-next after less takes =
      let longer : length (to.before ++ line ∷ []) ≡ length to.before + 1 = length_push to.before line in
      record {
        before = to.before ++ line ∷ [];
        lines = parts ∙ sym (append_assoc to.before (line ∷ []) (lines_of behind));
        holds = takes.holds;
        none = λ m low.
            ⊎_elim (λ inside. to.none m inside)
            (λ last.
            let same : length to.before ≡ m = omega arith in
            subst (λ k. refusal_at (lines_of text) k ≡ None) same
            (refusal-is (lines_of text) to.before (lines_of behind) line parts ∙ ap (option_map (λ w. (length to.before + 1, w))) takes.none))
            (cases_lt m (length to.before));
        numbered = omega (arith, to.numbered);
        fits = omega (arith, to.fits);
      }

  pub IsReadTo-refused : (why : NodeWhy) → cause_after to.before line ≡ Some why → read text ≡ Err (number, why)
  IsReadTo-refused why cause =
      read-refused (lines_of text) to.before (lines_of behind) line parts why to.none cause
      ∙ ap (λ n. Err (n, why)) (sym to.numbered)

pub IsReadTo-end : (text rest : List ℕ) (number : ℕ) (draft : NodeDraft) → length rest ≡ 0 → IsReadTo text rest number draft → HoldsAll (lines_of text) draft
IsReadTo-end text rest number draft empty to =
    let whole : lines_of text ≡ to.before = to.lines ∙ ap (λ r. to.before ++ lines_of r) (nil_from_length rest empty) ∙ append-nil to.before in
    record {
      holds = subst (λ ls. HoldsLines ls draft) (sym whole) to.holds;
      none = nothing-below (refusal_at (lines_of text)) (length (lines_of text))
          (λ m less. to.none m (omega (arith, less, ap (λ ls. length ls) whole)));
    }

-- the numbers below n that pass a test, where none does, and where one is the first
module _ (test : ℕ → Bool) where
  none-pass : (n : ℕ) → ((m : ℕ) → m < n → test m ≡ false) → filter test (below n) ≡ []
  none-pass zero none = refl
  none-pass (suc n) none =
      filter-append test (below n) (n ∷ [])
      ∙ ap (λ us. us ++ filter test (n ∷ [])) (none-pass n (λ m low. none m (omega arith)))
      ∙ cond-false (test n) (n ∷ []) [] (none n (omega arith))

  first-passes : (n k : ℕ) → k < n → test k ≡ true → ((m : ℕ) → m < k → test m ≡ false) → (rest : List ℕ) × (filter test (below n) ≡ k ∷ rest)
  first-passes zero k less there before = absurd (omega arith)
  first-passes (suc n) k less there before =
      ⊎_elim
      (λ inside.
      let found = first-passes n k inside there before in
      (found.0 ++ filter test (n ∷ []), filter-append test (below n) (n ∷ []) ∙ ap (λ us. us ++ filter test (n ∷ [])) found.1))
      (λ last.
      let same : k ≡ n = omega arith in (
        [],
        filter-append test (below n) (n ∷ []) ∙ ap (λ us. us ++ filter test (n ∷ [])) (none-pass n (λ m low. before m (omega arith)))
            ∙ cond-true (test n) (n ∷ []) [] (subst (λ u. test u ≡ true) same there) ∙ ap (λ u. u ∷ []) (sym same),
      ))
      (cases_lt k n)

module _ (lines : List (List ℕ)) (none : line_refusals lines ≡ []) where
  abbrev net : Graph
  net = net_of (graph_on lines)

  -- lines without a refusal whose edges make a net are read as their graph
  pub read-graph : IsNet net → read_lines lines ≡ Ok (graph_on lines)
  read-graph acyclic =
      let whole : IsNet (graph_before net (edge_count net)) =
      subst (λ (edges : List (ℕ × ℕ)). IsNet (graph_of net.vertices edges)) (sym (take_all (length net.edges) net.edges (omega arith))) acyclic in
      let no_cycle : filter (closes_cycle net) (below (edge_count net)) ≡ [] =
      none-pass (closes_cycle net) (edge_count net) (λ e less. false_from_ne_true _ (closes_none net (edge_count net) e (omega arith) whole less)) in
      (λ i. err_or (first (none i ++ map (λ e. (slice_index (edge_numbers lines) e, Cycle)) (no_cycle i))) (graph_on lines))

  -- the first edge that closes a cycle is refused by its line
  pub read-cycle : (e : ℕ) → FollowsNet net e → ClosesCycle net e → read_lines lines ≡ Err (slice_index (edge_numbers lines) e, Cycle)
  read-cycle e follows closes =
      let found = first-passes (closes_cycle net) (edge_count net) e follows.there (closes_some net e follows.before closes)
      (λ f low. false_from_ne_true _ (closes_none net e f (omega (arith, follows.there)) follows.before low)) in
      (λ i. err_or (first (none i ++ map (λ e. (slice_index (edge_numbers lines) e, Cycle)) (found.1 i))) (graph_on lines))
