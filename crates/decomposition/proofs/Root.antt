-- The root box holds every answer with few enough paths, once its weights are cut down to the cap and sorted; so a refutation refutes.
use Rattle.std.proofs.Common.{◌⊎◌, ◌≡◌, ℕ, zero, suc, ◌+◌, ◌<◌, ◌≤◌, min, refl, sym, ap, ◌∙◌, arith, inl, inr, cond, Bool, true, ◌&&◌, nat_le, List, [], ◌∷◌, length, get_or, leb-true, le-leb, leb-false, subst, Option, Some, None}
use Rattle.std.specs.List.{list_any, list_all}
use Rattle.std.proofs.lemmas.Bool.{cases_Bool, cases_lt, and_parts, and_from}
use Rattle.std.proofs.lemmas.List.{get_or_past, length-replicate, get_or-replicate}
use Rattle.decomposition.specs.declared.Range.{Range}
use Rattle.decomposition.specs.declared.Mode.TheVariants.{Exact, Interval, Abs}
use Rattle.decomposition.specs.Graph.{Graph, has_edge, is_path, begins_with, contains_run, edge_count}
use Rattle.decomposition.specs.Answer.{weight_on, IsAnswer, Covers}
use Rattle.decomposition.specs.Instance.{Instance, error, range, distance, cap, greatest_hi}
use Rattle.decomposition.specs.Boxes.{Slot, slot_at, root_box}
use Rattle.decomposition.specs.Certificates.{IsWithin, rule_at, decision_below}
use Rattle.decomposition.specs.Held.{Holds, Answers}
use Rattle.decomposition.specs.Answer.{entry_at}
use Rattle.decomposition.specs.Laws.{TokensKeepAnswers, RefutationsRefute, TreesBound}
use Rattle.decomposition.proofs.Sums.{sum_below-le}
use Rattle.decomposition.proofs.Members.{any-cons, any-here, any-there, any-place}
use Rattle.decomposition.proofs.Keeps.{keep_token, keep_tokens}

pub all-cons : {X : Type 0} (test : X → Bool) (x : X) (xs : List X) → test x ≡ true → list_all test xs ≡ true → list_all test (x ∷ xs) ≡ true
all-cons test x xs h k = and_from (test x) (list_all test xs) h k

pub all-parts : {X : Type 0} (test : X → Bool) (x : X) (xs : List X) → list_all test (x ∷ xs) ≡ true → (test x ≡ true) × (list_all test xs ≡ true)
all-parts test x xs h = and_parts (test x) (list_all test xs) h

pub all-place : {X : Type 0} (test : X → Bool) (xs : List X) (d : X) (k : ℕ) → list_all test xs ≡ true → k < length xs → test (get_or xs k d) ≡ true
all-place test [] d k h l = absurd (omega arith)
all-place test (x ∷ xs) d zero h l = (all-parts test x xs h).0
all-place test (x ∷ xs) d (suc k) h l = all-place test xs d k (all-parts test x xs h).1 (omega arith)

-- ---- the cap

-- the answer with its weights cut down to m
pub capped : ℕ → List (List ℕ × ℕ) → List (List ℕ × ℕ)
capped m [] = []
capped m (x ∷ a) = (x.0, min x.1 m) ∷ capped m a

pub length-capped : (m : ℕ) (a : List (List ℕ × ℕ)) → length (capped m a) ≡ length a
unfolding capped
length-capped m [] = refl
length-capped m (x ∷ a) = ap suc (length-capped m a)

-- a weight that falls stays at least the cap
pub weight_on-capped : (m : ℕ) (a : List (List ℕ × ℕ)) (e : ℕ)
    → (weight_on (capped m a) e ≤ weight_on a e) × ((weight_on (capped m a) e ≡ weight_on a e) ⊎ (m ≤ weight_on (capped m a) e))
unfolding capped
weight_on-capped m [] e = (omega arith, inl refl)
weight_on-capped m (x ∷ a) e =
    let rest : (weight_on (capped m a) e ≤ weight_on a e) × ((weight_on (capped m a) e ≡ weight_on a e) ⊎ (m ≤ weight_on (capped m a) e)) = weight_on-capped m a e in
    elim (cases_Bool (has_edge x.0 e)) [
      | inl hit ↦ rw hit (step x.1 m (weight_on a e) (weight_on (capped m a) e) rest)
      | inr free ↦ rw free (skip m (weight_on a e) (weight_on (capped m a) e) rest)
    ] where
      skip : (m old new : ℕ) → (new ≤ old) × ((new ≡ old) ⊎ (m ≤ new)) → (0 + new ≤ 0 + old) × ((0 + new ≡ 0 + old) ⊎ (m ≤ 0 + new))
      skip m old new (l, inl same) = (omega arith, inl (omega arith))
      skip m old new (l, inr more) = (omega arith, inr (omega arith))

      step : (w m old new : ℕ) → (new ≤ old) × ((new ≡ old) ⊎ (m ≤ new)) → (min w m + new ≤ w + old) × ((min w m + new ≡ w + old) ⊎ (m ≤ min w m + new))
      step w m old new (l, inl same) = (omega arith, elim (cases_lt m w) [ inl more ↦ inr (omega arith) | inr less ↦ inl (omega arith) ])
      step w m old new (l, inr more) = (omega arith, inr (omega arith))

pub hi-le-cap : (rs : List Range) (e : ℕ) → (get_or rs e (record { lo = 0; hi = 0 })).hi ≤ greatest_hi rs
hi-le-cap [] e = omega arith
hi-le-cap (r ∷ rs) zero = omega arith
hi-le-cap (r ∷ rs) (suc e) = omega (arith, hi-le-cap rs e)

pub one-le-cap : (rs : List Range) → 1 ≤ greatest_hi rs
one-le-cap [] = omega arith
one-le-cap (r ∷ rs) = omega (arith, one-le-cap rs)

pub lo-le-hi : (rs : List Range) (e : ℕ) → list_all (λ r. nat_le r.lo r.hi && nat_le r.hi 1000000000000) rs ≡ true
    → (get_or rs e (record { lo = 0; hi = 0 })).lo ≤ (get_or rs e (record { lo = 0; hi = 0 })).hi
lo-le-hi [] e h = omega arith
lo-le-hi (r ∷ rs) zero h =
    leb-true r.lo r.hi (and_parts (nat_le r.lo r.hi) (nat_le r.hi 1000000000000) (all-parts (λ r. nat_le r.lo r.hi && nat_le r.hi 1000000000000) r rs h).0).0
lo-le-hi (r ∷ rs) (suc e) h = lo-le-hi rs e (all-parts (λ r. nat_le r.lo r.hi && nat_le r.hi 1000000000000) r rs h).1

-- the cap raises no edge's distance to its range
pub error-capped : (i : Instance) (a : List (List ℕ × ℕ)) → list_all (λ r. nat_le r.lo r.hi && nat_le r.hi 1000000000000) i.ranges ≡ true
    → error i (capped (cap i) a) ≤ error i a
error-capped i a bounded =
    sum_below-le (λ e. distance (range i e) (weight_on (capped (cap i) a) e)) (λ e. distance (range i e) (weight_on a e)) (edge_count i.graph)
    (λ e l.
    let hi : (range i e).hi ≤ cap i = hi-le-cap i.ranges e in
    let lo : (range i e).lo ≤ (range i e).hi = lo-le-hi i.ranges e bounded in
    let w : (weight_on (capped (cap i) a) e ≤ weight_on a e) × ((weight_on (capped (cap i) a) e ≡ weight_on a e) ⊎ (cap i ≤ weight_on (capped (cap i) a) e)) = weight_on-capped (cap i) a e in
    elim w.1 [ inl same ↦ omega arith | inr more ↦ let less : weight_on (capped (cap i) a) e ≤ weight_on a e = w.0 in omega arith ])

pub IsAnswer-capped : (g : Graph) (m : ℕ) (a : List (List ℕ × ℕ)) → 1 ≤ m → IsAnswer g a → IsAnswer g (capped m a)
unfolding capped
IsAnswer-capped g m [] one answer = refl
IsAnswer-capped g m (x ∷ a) one answer =
    let parts : ((is_path g x.0 && nat_le 1 x.1) ≡ true) × (list_all (λ entry. is_path g entry.0 && nat_le 1 entry.1) a ≡ true) = all-parts _ x a answer in
    let here : (is_path g x.0 ≡ true) × (nat_le 1 x.1 ≡ true) = and_parts _ _ parts.0 in
    let w : 1 ≤ x.1 = leb-true 1 x.1 here.1 in
    all-cons (λ entry. is_path g entry.0 && nat_le 1 entry.1) (x.0, min x.1 m) (capped m a)
    (and_from (is_path g x.0) (nat_le 1 (min x.1 m)) here.0 (le-leb 1 (min x.1 m) (omega arith))) (IsAnswer-capped g m a one parts.1)

pub any-capped : (m : ℕ) (a : List (List ℕ × ℕ)) (test : List ℕ → Bool) → list_any (λ entry. test entry.0) a ≡ true → list_any (λ entry. test entry.0) (capped m a) ≡ true
unfolding capped
any-capped m [] test h = h
any-capped m (x ∷ a) test h =
    elim (any-cons (λ entry. test entry.0) x a h) [
      | inl here ↦ any-here (λ entry. test entry.0) (x.0, min x.1 m) (capped m a) here
      | inr there ↦ any-there (λ entry. test entry.0) (x.0, min x.1 m) (capped m a) (any-capped m a test there)
    ]

pub all-capped : (m : ℕ) (a : List (List ℕ × ℕ)) → list_all (λ entry. nat_le entry.1 m) (capped m a) ≡ true
unfolding capped
all-capped m [] = refl
all-capped m (x ∷ a) = all-cons (λ entry. nat_le entry.1 m) (x.0, min x.1 m) (capped m a) (le-leb (min x.1 m) m (omega arith)) (all-capped m a)

-- ---- sorting

pub put_in : List ℕ × ℕ → List (List ℕ × ℕ) → List (List ℕ × ℕ)
put_in x [] = x ∷ []
put_in x (y ∷ ys) = cond (nat_le y.1 x.1) (x ∷ y ∷ ys) (y ∷ put_in x ys)

pub sorted : List (List ℕ × ℕ) → List (List ℕ × ℕ)
sorted [] = []
sorted (x ∷ a) = put_in x (sorted a)

pub length-put_in : (x : List ℕ × ℕ) (a : List (List ℕ × ℕ)) → length (put_in x a) ≡ suc (length a)
unfolding put_in
length-put_in x [] = refl
length-put_in x (y ∷ ys) =
    elim (cases_Bool (nat_le y.1 x.1)) [ inl l ↦ rw l refl | inr l ↦ rw l (ap suc (length-put_in x ys)) ]

pub length-sorted : (a : List (List ℕ × ℕ)) → length (sorted a) ≡ length a
unfolding sorted
length-sorted [] = refl
length-sorted (x ∷ a) = length-put_in x (sorted a) ∙ ap suc (length-sorted a)

pub weight_on-put_in : (x : List ℕ × ℕ) (a : List (List ℕ × ℕ)) (e : ℕ) → weight_on (put_in x a) e ≡ weight_on (x ∷ a) e
unfolding put_in
weight_on-put_in x [] e = refl
weight_on-put_in x (y ∷ ys) e =
    elim (cases_Bool (nat_le y.1 x.1)) [ inl l ↦ rw l refl | inr l ↦ rw l (omega (arith, weight_on-put_in x ys e)) ]

pub weight_on-sorted : (a : List (List ℕ × ℕ)) (e : ℕ) → weight_on (sorted a) e ≡ weight_on a e
unfolding sorted
weight_on-sorted [] e = refl
weight_on-sorted (x ∷ a) e = weight_on-put_in x (sorted a) e ∙ (let rest : weight_on (sorted a) e ≡ weight_on a e = weight_on-sorted a e in omega arith)

pub all-put_in : (test : List ℕ × ℕ → Bool) (x : List ℕ × ℕ) (a : List (List ℕ × ℕ)) → test x ≡ true → list_all test a ≡ true → list_all test (put_in x a) ≡ true
unfolding put_in
all-put_in test x [] h k = all-cons test x [] h k
all-put_in test x (y ∷ ys) h k =
    let parts : (test y ≡ true) × (list_all test ys ≡ true) = all-parts test y ys k in
    elim (cases_Bool (nat_le y.1 x.1)) [
      | inl l ↦ rw l (all-cons test x (y ∷ ys) h k)
      | inr l ↦ rw l (all-cons test y (put_in x ys) parts.0 (all-put_in test x ys h parts.1))
    ]

pub all-sorted : (test : List ℕ × ℕ → Bool) (a : List (List ℕ × ℕ)) → list_all test a ≡ true → list_all test (sorted a) ≡ true
unfolding sorted
all-sorted test [] h = h
all-sorted test (x ∷ a) h =
    let parts : (test x ≡ true) × (list_all test a ≡ true) = all-parts test x a h in
    all-put_in test x (sorted a) parts.0 (all-sorted test a parts.1)

pub any-put_in : (test : List ℕ × ℕ → Bool) (x : List ℕ × ℕ) (a : List (List ℕ × ℕ)) → list_any test (x ∷ a) ≡ true → list_any test (put_in x a) ≡ true
unfolding put_in
any-put_in test x [] h = h
any-put_in test x (y ∷ ys) h =
    elim (cases_Bool (nat_le y.1 x.1)) [
      | inl l ↦ rw l h
      | inr l ↦ rw l (elim (any-cons test x (y ∷ ys) h) [
        | inl here ↦ any-there test y (put_in x ys) (any-put_in test x ys (any-here test x ys here))
        | inr others ↦ elim (any-cons test y ys others) [
          | inl next ↦ any-here test y (put_in x ys) next
          | inr there ↦ any-there test y (put_in x ys) (any-put_in test x ys (any-there test x ys there))
        ]
      ])
    ]

pub any-sorted : (test : List ℕ × ℕ → Bool) (a : List (List ℕ × ℕ)) → list_any test a ≡ true → list_any test (sorted a) ≡ true
unfolding sorted
any-sorted test [] h = h
any-sorted test (x ∷ a) h =
    any-put_in test x (sorted a)
    (elim (any-cons test x a h) [ inl here ↦ any-here test x (sorted a) here | inr there ↦ any-there test x (sorted a) (any-sorted test a there) ])

-- no weight is above w
abbrev pub AllAtMost : ℕ → List (List ℕ × ℕ) → Type 0
AllAtMost w [] = Unit {0}
AllAtMost w (x ∷ a) = (x.1 ≤ w) × AllAtMost w a

abbrev pub IsFalling : List (List ℕ × ℕ) → Type 0
IsFalling [] = Unit {0}
IsFalling (x ∷ a) = AllAtMost x.1 a × IsFalling a

pub AllAtMost-more : (v w : ℕ) (a : List (List ℕ × ℕ)) → v ≤ w → AllAtMost v a → AllAtMost w a
AllAtMost-more v w [] h k = tt
AllAtMost-more v w (x ∷ a) h k = (omega (arith, k.0), AllAtMost-more v w a h k.1)

pub AllAtMost-put_in : (w : ℕ) (x : List ℕ × ℕ) (a : List (List ℕ × ℕ)) → x.1 ≤ w → AllAtMost w a → AllAtMost w (put_in x a)
unfolding put_in
AllAtMost-put_in w x [] h k = (h, tt)
AllAtMost-put_in w x (y ∷ ys) h k =
    elim (cases_Bool (nat_le y.1 x.1)) [ inl l ↦ rw l (h, k) | inr l ↦ rw l (k.0, AllAtMost-put_in w x ys h k.1) ]

pub IsFalling-put_in : (x : List ℕ × ℕ) (a : List (List ℕ × ℕ)) → IsFalling a → IsFalling (put_in x a)
unfolding put_in
IsFalling-put_in x [] h = (tt, tt)
IsFalling-put_in x (y ∷ ys) h =
    elim (cases_Bool (nat_le y.1 x.1)) [
      | inl l ↦ let le : y.1 ≤ x.1 = leb-true y.1 x.1 l in rw l ((le, AllAtMost-more y.1 x.1 ys le h.0), h)
      | inr l ↦ let lt : x.1 < y.1 = leb-false y.1 x.1 l in rw l (AllAtMost-put_in y.1 x ys (omega arith) h.0, IsFalling-put_in x ys h.1)
    ]

pub IsFalling-sorted : (a : List (List ℕ × ℕ)) → IsFalling (sorted a)
unfolding sorted
IsFalling-sorted [] = tt
IsFalling-sorted (x ∷ a) = IsFalling-put_in x (sorted a) (IsFalling-sorted a)

pub AllAtMost-at : (w : ℕ) (a : List (List ℕ × ℕ)) (k : ℕ) → AllAtMost w a → (entry_at a k).1 ≤ w
AllAtMost-at w [] k h = omega arith
AllAtMost-at w (x ∷ a) zero h = h.0
AllAtMost-at w (x ∷ a) (suc k) h = AllAtMost-at w a k h.1

pub IsFalling-at : (a : List (List ℕ × ℕ)) (j k : ℕ) → IsFalling a → j ≤ k → (entry_at a k).1 ≤ (entry_at a j).1
IsFalling-at [] j k h l = omega arith
IsFalling-at (x ∷ a) zero zero h l = omega arith
IsFalling-at (x ∷ a) zero (suc k) h l = AllAtMost-at x.1 a k h.0
IsFalling-at (x ∷ a) (suc j) zero h l = absurd (omega arith)
IsFalling-at (x ∷ a) (suc j) (suc k) h l = IsFalling-at a j k h.1 (omega arith)

-- ---- the root box

pub root_at : (P : Slot → Type 0) (i : Instance) (n k : ℕ) → k < n → P (record { lo = 0; hi = cap i; walk = [] }) → P (slot_at (root_box i n) k)
root_at P i n k l h = subst P (sym (get_or-replicate n k (record { lo = 0; hi = cap i; walk = [] }) (record { lo = 0; hi = 0; walk = [] }) l)) h

-- an entry of a positive weight is an entry of the answer
pub inside_line : (line : List (List ℕ × ℕ)) (k : ℕ) → 1 ≤ (entry_at line k).1 → k < length line
inside_line line k one =
    elim (cases_lt k (length line)) [
      | inl l ↦ l
      | inr past ↦ let none : entry_at line k ≡ ([], 0) = get_or_past line k ([], 0) past in absurd (omega (arith, rw none at one))
    ]

pub root_holds : (i : Instance) (n : ℕ) (line : List (List ℕ × ℕ)) → IsAnswer i.graph line → length line ≤ n → IsFalling line
    → list_all (λ entry. nat_le entry.1 (cap i)) line ≡ true → Holds i.graph (root_box i n) line
root_holds i n line answer few falling low =
    let long : length (root_box i n) ≡ n = length-replicate n (record { lo = 0; hi = cap i; walk = [] }) in
    record {
      long = rw long few;
      falling = λ j k l m. IsFalling-at line j k falling l;
      low = λ k l. root_at (λ s. s.lo ≤ (entry_at line k).1) i n k (rw long at l) (omega arith);
      high = λ k l. root_at (λ s. (entry_at line k).1 ≤ s.hi) i n k (rw long at l)
          (elim (cases_lt k (length line)) [
            | inl in' ↦ leb-true (entry_at line k).1 (cap i) (all-place (λ entry. nat_le entry.1 (cap i)) line ([], 0) k low in')
            | inr past ↦ let none : entry_at line k ≡ ([], 0) = get_or_past line k ([], 0) past in rw none (omega arith)
          ]);
      path = λ k l one.
          (and_parts (is_path i.graph (entry_at line k).0) (nat_le 1 (entry_at line k).1)
          (all-place (λ entry. is_path i.graph entry.0 && nat_le 1 entry.1) line ([], 0) k answer (inside_line line k one))).0;
      begins = λ k l one. root_at (λ s. begins_with (entry_at line k).0 s.walk ≡ true) i n k (rw long at l) refl;
    }

-- an answer that covers, as a line-up
pub answers_from : (i : Instance) (limit : Option ℕ) (line : List (List ℕ × ℕ)) → IsAnswer i.graph line → Covers i.rules line → IsWithin limit (error i line) → Answers i limit line
answers_from i limit line answer covers within = record {
  covers = λ c inside.
      let some : list_any (λ entry. contains_run entry.0 (rule_at i c)) line ≡ true
      = all-place (λ r. list_any (λ entry. contains_run entry.0 r) line) i.rules [] c covers inside in
      let found : (k : ℕ) × (k < length line) × (contains_run (get_or line k ([], 0)).0 (rule_at i c) ≡ true)
      = any-place (λ entry. contains_run entry.0 (rule_at i c)) line ([], 0) some in
      let one : nat_le 1 (entry_at line found.0).1 ≡ true
      = (and_parts (is_path i.graph (entry_at line found.0).0) (nat_le 1 (entry_at line found.0).1)
      (all-place (λ entry. is_path i.graph entry.0 && nat_le 1 entry.1) line ([], 0) found.0 answer found.1)).1 in
      (found.0, found.1, leb-true 1 (entry_at line found.0).1 one, found.2);
  within = within;
}

pub Covers-by : (rules : List (List ℕ)) (a b : List (List ℕ × ℕ)) → ((test : List ℕ → Bool) → list_any (λ entry. test entry.0) a ≡ true → list_any (λ entry. test entry.0) b ≡ true)
    → Covers rules a → Covers rules b
Covers-by [] a b up h = refl
Covers-by (r ∷ rs) a b up h =
    let parts : (list_any (λ entry. contains_run entry.0 r) a ≡ true) × (list_all (λ r. list_any (λ entry. contains_run entry.0 r) a) rs ≡ true)
    = all-parts (λ r. list_any (λ entry. contains_run entry.0 r) a) r rs h in
    all-cons (λ r. list_any (λ entry. contains_run entry.0 r) b) r rs (up (λ p. contains_run p r) parts.0) (Covers-by rs a b up parts.1)

pub IsWithin-less : (limit : Option ℕ) (m n : ℕ) → m ≤ n → IsWithin limit n → IsWithin limit m
IsWithin-less None m n l h = tt
IsWithin-less (Some k) m n l h = omega arith

pub tokens_keep_answers : TokensKeepAnswers
tokens_keep_answers i limit line t bs left net answers some is = keep_token i net limit line answers t bs left some is

pub refutations_refute : RefutationsRefute
refutations_refute mode i d ts a valid refuted answer covers few within =
    let cut : List (List ℕ × ℕ) = capped (cap i) a in
    let line : List (List ℕ × ℕ) = sorted cut in
    let sums : error i line ≤ error i cut
    = sum_below-le (λ e. distance (range i e) (weight_on line e)) (λ e. distance (range i e) (weight_on cut e)) (edge_count i.graph)
    (λ e l. let same : weight_on line e ≡ weight_on cut e = weight_on-sorted cut e in rw same (omega arith)) in
    let less : error i cut ≤ error i a = error-capped i a valid.bounded in
    let is_answer : IsAnswer i.graph line
    = all-sorted (λ entry. is_path i.graph entry.0 && nat_le 1 entry.1) cut (IsAnswer-capped i.graph (cap i) a (one-le-cap i.ranges) answer) in
    let covering : Covers i.rules line
    = Covers-by i.rules a line (λ test h. any-sorted (λ entry. test entry.0) cut (any-capped (cap i) a test h)) covers in
    let length_is : length line ≡ length a = length-sorted cut ∙ length-capped (cap i) a in
    let held : Holds i.graph (root_box i d.slots) line
    = root_holds i d.slots line is_answer (omega arith) (IsFalling-sorted cut) (all-sorted (λ entry. nat_le entry.1 (cap i)) cut (all-capped (cap i) a)) in
    let answers : Answers i d.limit line
    = answers_from i d.limit line is_answer covering (IsWithin-less d.limit (error i line) (error i a) (omega arith) within) in
    keep_tokens i valid.net d.limit line answers ts (root_box i d.slots ∷ []) [] (inl held) refuted

pub trees_bound : TreesBound
trees_bound Exact i lower ts valid tree a meets =
    elim (cases_lt (length a) lower) [
      | inl less ↦ absurd (refutations_refute Exact i (decision_below Exact i lower) ts a valid tree.refuted meets.0 meets.1 (omega arith) (omega (arith, meets.2)))
      | inr more ↦ more
    ]
trees_bound Interval i lower ts valid tree a meets =
    elim (cases_lt (length a) lower) [
      | inl less ↦ absurd (refutations_refute Interval i (decision_below Interval i lower) ts a valid tree.refuted meets.0 meets.1 (omega arith) (omega (arith, meets.2)))
      | inr more ↦ more
    ]
trees_bound (Abs k) i lower ts valid tree a meets =
    elim (cases_lt (error i a) lower) [
      | inl less ↦ absurd (refutations_refute (Abs k) i (decision_below (Abs k) i lower) ts a valid tree.refuted meets.0 meets.1 meets.2 (omega arith))
      | inr more ↦ more
    ]
