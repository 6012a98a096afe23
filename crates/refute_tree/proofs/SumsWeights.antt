-- Weights that are changed edge by edge.
use Rattle.std.proofs.Common.{◌≡◌, ℕ, ◌+◌, ◌-◌, ◌<◌, ◌≤◌, Bool, true, false, cond, List, length, set, slice_index, get_or-set_same, get_or-set_other, refl, sym, ap, ◌∙◌, inl, inr, arith, subst, true≢false}
use Rattle.std.proofs.lemmas.Bool.{cases_eq, false_from_ne_true}
use Rattle.std.specs.Prelude.{IsTrue, ◌↔◌}
use Rattle.decomposition.specs.Graph.{Graph, IsNet}
use Rattle.refute_tree.specs.Sums.{ChangesWhere, AreAbove}
use Rattle.decomposition.specs.Reach.{Reaches, reaches}
use Rattle.decomposition.proofs.Reaching.{reaches_by_walks}

-- the weights below place n are changed where a test passes, and those from it on are the same
pub record ChangesBelow (test : ℕ → Bool) (less more n : ℕ) (old new : List ℕ) : Type 0 where
  pub done : (e : ℕ) → e < n → slice_index new e + cond (test e) less 0 ≡ slice_index old e + cond (test e) more 0
  pub rest : (e : ℕ) → n ≤ e → slice_index new e ≡ slice_index old e

-- the weight at the place is set, or stays
module _ (test : ℕ → Bool) (less more n : ℕ) (old now : List ℕ) (before : ChangesBelow test less more n old now) where
  pub changes_next : (v : ℕ) → n < length now → test n ≡ true → less ≤ slice_index now n → v ≡ slice_index now n - less + more → ChangesBelow test less more (n + 1) old (set now n v)
  changes_next v h passes fits is = record {
    done = λ e l. elim (cases_eq e n) [
      | inl same ↦ rw (same, passes) (omega (arith, get_or-set_same now n v 0 h, is, fits, before.rest n (omega arith)))
      | inr other ↦ rw (get_or-set_other now n e v 0 other) (before.done e (omega arith))
    ];
    rest = λ e l. get_or-set_other now n e v 0 (omega arith) ∙ before.rest e (omega arith);
  }

  pub changes_none : test n ≡ false → ChangesBelow test less more (n + 1) old now
  changes_none fails = record {
    done = λ e l. elim (cases_eq e n) [
      | inl same ↦ rw (same, fails) (omega (arith, before.rest n (omega arith)))
      | inr other ↦ before.done e (omega arith)
    ];
    rest = λ e l. before.rest e (omega arith);
  }

-- the test for reaching, as a net answers it
pub reaches-by_answer : (g : Graph) → IsNet g → (u v w : ℕ) (answer : Bool) → w ≡ v → (IsTrue answer ↔ Reaches g u w) → reaches g u v ≡ answer
reaches-by_answer g net u v w true same h = (reaches_by_walks g u v net).1 (subst (λ x. Reaches g u x) same (h.0 refl))
reaches-by_answer g net u v w false same h =
    false_from_ne_true (reaches g u v) (λ found. true≢false (sym (h.1 (subst (λ x. Reaches g u x) (sym same) ((reaches_by_walks g u v net).0 found)))))

-- what a test gives is no more than the number
pub cond-le : (b : Bool) (n : ℕ) → cond b n 0 ≤ n
cond-le true n = omega arith
cond-le false n = omega arith

-- one test passes where either of two others does, and these never both do
abbrev pub AreParts : (ℕ → Bool) → (ℕ → Bool) → (ℕ → Bool) → ℕ → Type 0
AreParts test first second n = (e : ℕ) → e < n → (m : ℕ) → cond (test e) m 0 ≡ cond (first e) m 0 + cond (second e) m 0

-- what is counted once passes one test at most
first_part : (t a b : Bool) → cond t 1 0 ≡ cond a 1 0 + cond b 1 0 → a ≡ true → t ≡ true
first_part true a b is has = refl
first_part false true b is has = absurd (omega (arith, is))
first_part false false b is has = has

second_part : (t a b : Bool) → cond t 1 0 ≡ cond a 1 0 + cond b 1 0 → b ≡ true → (t ≡ true) × (a ≡ false)
second_part true false b is has = (refl, refl)
second_part t a false is has = absurd (true≢false (sym has))
second_part true true true is has = absurd (omega (arith, is))
second_part false a true is has = absurd (omega (arith, is))

module _ (test first second : ℕ → Bool) (less more : ℕ) (old mid : List ℕ) (parts : AreParts test first second (length old)) where
  -- what is there for the whole is there for the first part
  pub above_first : AreAbove test less old → AreAbove first less old
  above_first above e l has = above e l (first_part (test e) (first e) (second e) (parts e l 1) has)

  -- and, once the first part is changed, for the second
  pub above_second : length mid ≡ length old → ChangesWhere first less more old mid → AreAbove test less old → AreAbove second less mid
  above_second same changes above e l has =
      let there : e < length old = omega arith in
      let both = second_part (test e) (first e) (second e) (parts e there 1) has in
      let least : cond (first e) less 0 ≡ 0 = ap (λ b. cond b less 0) both.1 in
      let most : cond (first e) more 0 ≡ 0 = ap (λ b. cond b more 0) both.1 in
      omega (arith, changes e there, above e there both.0, least, most)

  -- both parts, one after the other
  pub changes_both : (new : List ℕ) → length mid ≡ length old → ChangesWhere first less more old mid → ChangesWhere second less more mid new → ChangesWhere test less more old new
  changes_both new same one two e l = omega (arith, one e l, two e (omega arith), parts e l less, parts e l more)
