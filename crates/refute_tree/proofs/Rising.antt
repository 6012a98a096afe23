-- Edges that rise: those after the next one are the rest.
use Rattle.std.proofs.Common.{◌≡◌, ℕ, zero, suc, ◌<◌, ◌≤◌, Bool, true, false, nat_lt, List, [], ◌∷◌, ◌++◌, refl, sym, ap, ◌∙◌, subst, arith, inl, inr, ltb-true, lt-ltb, le-ltb}
use Rattle.std.specs.Prelude.{filter}
use Rattle.std.proofs.lemmas.Bool.{cases_Bool}
use Rattle.decomposition.specs.Graph.{Graph, edge_count, below}
use Rattle.decomposition.specs.Tokens.{next_edges}
use Rattle.refute_tree.specs.Choices.{later}

-- the entries rise from d on, and are below n
abbrev pub Rises : ℕ → ℕ → List ℕ → Type 0
Rises d n [] = d ≤ n
Rises d n (x ∷ xs) = (d ≤ x) × Rises (suc x) n xs

rises-push : (d n : ℕ) (xs : List ℕ) → Rises d n xs → Rises d (suc n) (xs ++ n ∷ [])
rises-push d n [] h = (h, omega arith)
rises-push d n (x ∷ xs) h = (h.0, rises-push (suc x) n xs h.1)

rises-below : (n : ℕ) → Rises 0 n (below n)
rises-below zero = omega arith
rises-below (suc n) = rises-push 0 n (below n) (rises-below n)

rises-from : (d e n : ℕ) (xs : List ℕ) → d ≤ e → Rises e n xs → Rises d n xs
rises-from d e n [] less h = omega (arith, less, h)
rises-from d e n (x ∷ xs) less h = (omega (arith, less, h.0), h.1)

rises-filter : (test : ℕ → Bool) (d n : ℕ) (xs : List ℕ) → Rises d n xs → Rises d n (filter test xs)
rises-filter test d n [] h = h
rises-filter test d n (x ∷ xs) h =
    let rest : Rises (suc x) n (filter test xs) = rises-filter test (suc x) n xs h.1 in
    elim (cases_Bool (test x)) [
      | inl passes ↦ rw passes (h.0, rest)
      | inr fails ↦ rw fails (rises-from d (suc x) n (filter test xs) (omega (arith, h.0)) rest)
    ]

-- all of them are after what is below the first
after-all : (e d n : ℕ) (xs : List ℕ) → e < d → Rises d n xs → filter (λ y. nat_lt e y) xs ≡ xs
after-all e d n [] less h = refl
after-all e d n (x ∷ xs) less h = rw (lt-ltb e x (omega (arith, less, h.0))) (ap (λ l. x ∷ l) (after-all e (suc x) n xs (omega (arith, less, h.0)) h.1))

rest-after : (d n e f : ℕ) (xs fs : List ℕ) → Rises d n xs → filter (λ y. nat_lt e y) xs ≡ f ∷ fs → (d ≤ f) × (fs ≡ filter (λ y. nat_lt f y) xs)
rest-after d n e f [] fs h is = absurd (let no' : ⊥ = cc in no')
rest-after d n e f (x ∷ xs) fs h is =
    elim (cases_Bool (nat_lt e x)) [
      | inl passes ↦ here passes
      | inr fails ↦ there (λ now. rest-after (suc x) n e f xs fs h.1 now) fails
    ]
  where
    here : nat_lt e x ≡ true → (d ≤ f) × (fs ≡ filter (λ y. nat_lt f y) (x ∷ xs))
    here passes =
        let now : x ∷ filter (λ y. nat_lt e y) xs ≡ f ∷ fs = rw passes at is in
        let same : x ≡ f = cc in
        let rest : filter (λ y. nat_lt e y) xs ≡ fs = cc in
        let less : e < x = ltb-true e x passes in
        let all : filter (λ y. nat_lt e y) xs ≡ xs = after-all e (suc x) n xs (omega (arith, less)) h.1 in
        let more : filter (λ y. nat_lt x y) xs ≡ xs = after-all x (suc x) n xs (omega arith) h.1 in
        (omega (arith, h.0, same), subst (λ z. fs ≡ filter (λ y. nat_lt z y) (x ∷ xs)) same (rw (le-ltb x x (omega arith)) (sym rest ∙ all ∙ sym more)))

    there : (filter (λ y. nat_lt e y) xs ≡ f ∷ fs → (suc x ≤ f) × (fs ≡ filter (λ y. nat_lt f y) xs)) → nat_lt e x ≡ false → (d ≤ f) × (fs ≡ filter (λ y. nat_lt f y) (x ∷ xs))
    there further fails =
        let now : filter (λ y. nat_lt e y) xs ≡ f ∷ fs = rw fails at is in
        let rest = further now in
        (omega (arith, h.0, rest.0), rw (le-ltb f x (omega (arith, rest.0))) rest.1)

rises-next : (g : Graph) (walk : List ℕ) → Rises 0 (edge_count g) (next_edges g walk)
rises-next g [] = rises-filter _ 0 (edge_count g) (below (edge_count g)) (rises-below (edge_count g))
rises-next g (e ∷ es) = rises-filter _ 0 (edge_count g) (below (edge_count g)) (rises-below (edge_count g))

-- the edges after an edge and then the next one are those after the next one
pub later_rest : (g : Graph) (walk : List ℕ) (e f : ℕ) (fs : List ℕ) → later g walk e ≡ f ∷ fs → fs ≡ later g walk f
later_rest g walk e f fs is = (rest-after 0 (edge_count g) e f (next_edges g walk) fs (rises-next g walk) is).1

all-after : (d n e : ℕ) (es xs : List ℕ) → Rises d n xs → xs ≡ e ∷ es → xs ≡ e ∷ filter (λ y. nat_lt e y) xs
all-after d n e es [] h is = absurd (let no' : ⊥ = cc in no')
all-after d n e es (x ∷ xs) h is =
    let same : x ≡ e = cc in
    subst (λ z. x ∷ xs ≡ z ∷ filter (λ y. nat_lt z y) (x ∷ xs)) same (rw (le-ltb x x (omega arith)) (ap (λ l. x ∷ l) (sym (after-all x (suc x) n xs (omega arith) h.1))))

-- the next edges are the first, and those after it
pub first_rest : (g : Graph) (walk : List ℕ) (e : ℕ) (es : List ℕ) → next_edges g walk ≡ e ∷ es → next_edges g walk ≡ e ∷ later g walk e
first_rest g walk e es is = all-after 0 (edge_count g) e es (next_edges g walk) (rises-next g walk) is
