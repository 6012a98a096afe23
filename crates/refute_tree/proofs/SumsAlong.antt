-- Weights that are changed along a list of edges, from the last one to the first.
use Rattle.std.proofs.Common.{◌≡◌, ◌≢◌, ℕ, ◌+◌, ◌-◌, ◌<◌, ◌≤◌, true, false, cond, List, length, set, slice_index, get_or-set_same, get_or-set_other, refl, sym, ap, ◌∙◌, inl, inr, arith, true≢false, eqb, ne_eqb, eq-eqb, ◌||◌, ◌++◌, ◌∷◌, []}
use Rattle.std.specs.List.{IsDistinct, AllByRecursion}
use Rattle.std.proofs.lemmas.Bool.{cases_eq}
use Rattle.decomposition.specs.Graph.{has_edge}
use Rattle.decomposition.proofs.Members.{any-here, any-append_left, any-append_right}

-- the weights on the edges of a walk but for those that are left are changed
abbrev pub ChangesButFor : List ℕ → List ℕ → ℕ → ℕ → List ℕ → List ℕ → Type 0
ChangesButFor left walk less more old new = (e : ℕ) → e < length old
    → slice_index new e + cond (has_edge walk e) less 0 + cond (has_edge left e) more 0 ≡ slice_index old e + cond (has_edge walk e) more 0 + cond (has_edge left e) less 0

-- an edge that none of a list is, nor the last one
apart-push : (x : ℕ) (xs : List ℕ) (e : ℕ) → AllByRecursion (λ y. eqb x y ≡ false) (xs ++ e ∷ []) → AllByRecursion (λ y. eqb x y ≡ false) xs × (eqb x e ≡ false)
apart-push x [] e h = (tt, h.0)
apart-push x (y ∷ xs) e h = let rest = apart-push x xs e h.1 in ((h.0, rest.0), rest.1)

-- the edges before the last one are distinct, and it is none of them
pub distinct-push : (xs : List ℕ) (e : ℕ) → IsDistinct eqb (xs ++ e ∷ []) → IsDistinct eqb xs × (has_edge xs e ≡ false)
unfolding IsDistinct
distinct-push [] e h = (tt, refl)
distinct-push (x ∷ xs) e h =
    let here = apart-push x xs e h.0 in
    let rest = distinct-push xs e h.1 in
    let apart : eqb e x ≡ false = ne_eqb e x (λ same. true≢false (sym (eq-eqb x e (sym same)) ∙ here.1)) in
    ((here.0, rest.0), rw (apart, rest.1) refl)

-- the last edge of a list stands in it
has_edge-last : (xs : List ℕ) (e : ℕ) → has_edge (xs ++ e ∷ []) e ≡ true
has_edge-last xs e = any-append_right (λ f. eqb e f) xs (e ∷ []) (any-here (λ f. eqb e f) e [] (eq-eqb e e refl))

pub has_edge-end : (all xs : List ℕ) (e : ℕ) → all ≡ xs ++ e ∷ [] → has_edge all e ≡ true
has_edge-end all xs e is = rw (is, has_edge-last xs e) refl

-- each edge before the last one stands in the list too
pub has_edge-front : (all xs : List ℕ) (e f : ℕ) → all ≡ xs ++ e ∷ [] → has_edge xs f ≡ true → has_edge all f ≡ true
has_edge-front all xs e f is has = rw is (any-append_left (λ d. eqb f d) xs (e ∷ []) has)

-- an edge other than the last one stands in the list where it stands before that one
has_edge-others : (xs : List ℕ) (e f : ℕ) → f ≢ e → has_edge (xs ++ e ∷ []) f ≡ has_edge xs f
has_edge-others [] e f other = rw (ne_eqb f e other) refl
has_edge-others (x ∷ xs) e f other = ap (λ b. eqb f x || b) (has_edge-others xs e f other)

-- an edge that is left has the weight that it had
pub still : (walk left : List ℕ) (e less more : ℕ) (old now : List ℕ) → has_edge walk e ≡ true → has_edge left e ≡ true → e < length old → ChangesButFor left walk less more old now → slice_index now e ≡ slice_index old e
still walk left e less more old now on on_left l changes =
    let less_walk : cond (has_edge walk e) less 0 ≡ less = ap (λ b. cond b less 0) on in
    let more_walk : cond (has_edge walk e) more 0 ≡ more = ap (λ b. cond b more 0) on in
    let less_left : cond (has_edge left e) less 0 ≡ less = ap (λ b. cond b less 0) on_left in
    let more_left : cond (has_edge left e) more 0 ≡ more = ap (λ b. cond b more 0) on_left in
    omega (arith, changes e l, less_walk, more_walk, less_left, more_left)

-- the last of the edges that are left has its weight changed
pub changes_last : (walk xs : List ℕ) (e less more v : ℕ) (old now : List ℕ) → IsDistinct eqb (xs ++ e ∷ []) → e < length now → length now ≡ length old → has_edge walk e ≡ true → less ≤ slice_index now e
    → v ≡ slice_index now e - less + more → ChangesButFor (xs ++ e ∷ []) walk less more old now → ChangesButFor xs walk less more old (set now e v)
changes_last walk xs e less more v old now once h same_length on fits is left f l =
    elim (cases_eq f e) [
      | inl same ↦
          let was = still walk (xs ++ e ∷ []) e less more old now on (has_edge-last xs e) (omega arith) left in
          rw (same, get_or-set_same now e v 0 h, (distinct-push xs e once).1, on) (omega (arith, is, fits, was))
      | inr other ↦ rw (get_or-set_other now e f v 0 other, ← has_edge-others xs e f other) (left f l)
    ]
