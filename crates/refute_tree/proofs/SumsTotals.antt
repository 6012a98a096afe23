-- Sums of the numbers whose place passes a test, and the totals after one bound is set.
use Rattle.std.proofs.Common.{◌^◌, ◌≡◌, ◌≢◌, ℕ, zero, suc, ◌+◌, ◌-◌, ◌*◌, ◌<◌, ◌≤◌, Bool, true, false, cond, List, [], ◌∷◌, ◌++◌, length, vec_len, set, slice_index, replicate, subst, length-set, get_or-set_same, get_or-set_other, refl, sym, ap, ◌∙◌, inl, inr, arith}
use Rattle.std.proofs.lemmas.Bool.{cases_eq}
use Rattle.std.proofs.lemmas.List.{length-replicate}
use Rattle.decomposition.specs.Graph.{Graph, edge_count, has_edge}
use Rattle.decomposition.specs.Answer.{sum_below}
use Rattle.decomposition.proofs.Sums.{sum_below-same, sum_below-nil, le-sum_below}
use Rattle.link_cells.specs.Links.{LinkList, walk_of}
use Rattle.link_cells.proofs.Linking.{walk_of-push_other}
use Rattle.refute_tree.specs.declared.sums.Weights.{Weights}
use Rattle.refute_tree.specs.Sums.{AreWithin, sum_where, is_empty, leads_to, AreTotals, ChangesWalk}
use Rattle.refute_tree.proofs.SumsWeights.{cond-le}

-- two sums that differ in one term
sum_below-swap : (f h : ℕ → ℕ) (k n : ℕ) → k < n → ((j : ℕ) → j ≢ k → f j ≡ h j) → sum_below h n + f k ≡ sum_below f n + h k
sum_below-swap f h k zero l others = absurd (omega arith)
sum_below-swap f h k (suc n) l others =
    elim (cases_eq k n) [
      | inl same ↦
          let rest : sum_below f n ≡ sum_below h n = sum_below-same f h n (λ j less. others j (omega arith)) in
          rw same (omega (arith, rest))
      | inr other ↦
          let last : f n ≡ h n = others n (omega arith) in
          omega (arith, sum_below-swap f h k n (omega arith) others, last)
    ]

-- one number is set
pub sum_where-set : (test : ℕ → Bool) (xs : List ℕ) (n k v : ℕ) → k < n → k < length xs → sum_where test (set xs k v) n + cond (test k) (slice_index xs k) 0 ≡ sum_where test xs n + cond (test k) v 0
sum_where-set test xs n k v l h =
    let old = λ (j : ℕ). cond (test j) (slice_index xs j) 0 in
    let new = λ (j : ℕ). cond (test j) (slice_index (set xs k v) j) 0 in
    let here : new k ≡ cond (test k) v 0 = ap (λ x. cond (test k) x 0) (get_or-set_same xs k v 0 h) in
    omega (arith, here, sum_below-swap old new k n l (λ j other. ap (λ x. cond (test j) x 0) (sym (get_or-set_other xs k j v 0 other))))

-- no sum is greater than so many greatest numbers
sum_below-most : (f : ℕ → ℕ) (m n : ℕ) → ((k : ℕ) → k < n → f k ≤ m) → sum_below f n ≤ m * n
sum_below-most f m zero each = omega arith
sum_below-most f m (suc n) each = omega (arith, each n (omega arith), sum_below-most f m n (λ k l. each k (omega arith)))

pub sum_where-most : (test : ℕ → Bool) (xs : List ℕ) (m n : ℕ) → n ≤ length xs → AreWithin m xs → sum_where test xs n ≤ m * n
sum_where-most test xs m n h within =
    sum_below-most (λ k. cond (test k) (slice_index xs k) 0) m n (λ k l. omega (arith, cond-le (test k) (slice_index xs k), within k (omega arith)))

-- so few slots
pub sum_where-few : (test : ℕ → Bool) (xs : List ℕ) (n : ℕ) → n ≤ length xs → n < 2 ^ 32 → AreWithin (2 ^ 64 - 1) xs → sum_where test xs n ≤ 2 ^ 96
sum_where-few test xs n h few within = omega (arith, sum_where-most test xs (2 ^ 64 - 1) n h within, few)

-- a number whose place passes is a part of the sum
pub sum_where-part : (test : ℕ → Bool) (xs : List ℕ) (n k : ℕ) → k < n → test k ≡ true → slice_index xs k ≤ sum_where test xs n
sum_where-part test xs n k l passes =
    let term = λ (j : ℕ). cond (test j) (slice_index xs j) 0 in
    let here : term k ≡ slice_index xs k = ap (λ b. cond b (slice_index xs k) 0) passes in
    omega (arith, here, le-sum_below term n k l)

-- numbers that are 0 count nowhere
cond-zero : (b : Bool) → cond {A = ℕ} b 0 0 ≡ 0
cond-zero true = refl
cond-zero false = refl

pub sum_where-other : (test other : ℕ → Bool) (xs : List ℕ) (n k : ℕ) → slice_index xs k ≡ 0 → ((j : ℕ) → j ≢ k → test j ≡ other j) → sum_where test xs n ≡ sum_where other xs n
sum_where-other test other xs n k none same =
    sum_below-same (λ j. cond (test j) (slice_index xs j) 0) (λ j. cond (other j) (slice_index xs j) 0) n (λ j l. elim (cases_eq j k) [
      | inl here ↦ rw (here, none) (cond-zero (test k) ∙ sym (cond-zero (other k)))
      | inr away ↦ ap (λ b. cond b (slice_index xs j) 0) (same j away)
    ])

-- one number is set within its bound
within-set : (m : ℕ) (xs : List ℕ) (k v : ℕ) → v ≤ m → AreWithin m xs → AreWithin m (set xs k v)
within-set m xs k v fits within e l =
    let there : e < length xs = omega (arith, length-set xs k v) in
    elim (cases_eq e k) [
      | inl same ↦ rw same (omega (arith, get_or-set_same xs k v 0 (omega (arith, there, same))))
      | inr other ↦ rw (get_or-set_other xs k e v 0 other) (within e there)
    ]

-- the upper bound of a slot is set, and the weights that it counts for are changed
pub record SetsUpper (g : Graph) (walk : List ℕ) (k upper : ℕ) (old new : Weights) : Type 0 where
  pub uppers : new.uppers.items ≡ set old.uppers.items k upper
  pub lowers : new.lowers ≡ old.lowers
  pub low : new.low ≡ old.low
  pub room : vec_len new.high ≡ vec_len old.high
  pub high : (e : ℕ) → e < edge_count g
      → slice_index new.high.items e + cond (leads_to g walk e) (slice_index old.uppers.items k) 0 ≡ slice_index old.high.items e + cond (leads_to g walk e) upper 0
  pub everywhere : new.everywhere + cond (is_empty walk) (slice_index old.uppers.items k) 0 ≡ old.everywhere + cond (is_empty walk) upper 0

-- the lower bound of a slot is set, and the weights that it counts for are changed
pub record SetsLower (g : Graph) (walk : List ℕ) (k lower : ℕ) (old new : Weights) : Type 0 where
  pub uppers : new.uppers ≡ old.uppers
  pub lowers : new.lowers.items ≡ set old.lowers.items k lower
  pub high : new.high ≡ old.high
  pub room : vec_len new.low ≡ vec_len old.low
  pub low : (e : ℕ) → e < edge_count g
      → slice_index new.low.items e + cond (has_edge walk e) (slice_index old.lowers.items k) 0 ≡ slice_index old.low.items e + cond (has_edge walk e) lower 0
  pub everywhere : new.everywhere ≡ old.everywhere

module _ (g : Graph) (l : LinkList) (k v : ℕ) (old new : Weights) (totals : AreTotals g l old) (inside : k < l.slots) (fits : v ≤ 2 ^ 64 - 1) where
  pub totals-upper : SetsUpper g (walk_of l.links k) k v old new → AreTotals g l new
  totals-upper sets =
      let there : k < length old.uppers.items = omega (arith, inside, totals.room.uppers, old.uppers.ok.0) in
      let long = length-set old.uppers.items k v in
      record {
        room = record {
          uppers = omega (arith, totals.room.uppers, old.uppers.ok.0, new.uppers.ok.0, ap length sets.uppers, long);
          lowers = ap (λ x. vec_len x) sets.lowers ∙ totals.room.lowers;
          low = ap (λ x. vec_len x) sets.low ∙ totals.room.low;
          high = sets.room ∙ totals.room.high;
        };
        few = totals.few;
        lowers = subst (λ x. AreWithin (2 ^ 64 - 1) x.items) (sym sets.lowers) totals.lowers;
        uppers = subst (AreWithin (2 ^ 64 - 1)) (sym sets.uppers) (within-set (2 ^ 64 - 1) old.uppers.items k v fits totals.uppers);
        low = λ e h. ap (λ x. slice_index x.items e) sets.low ∙ totals.low e h ∙ ap (λ x. sum_where (λ j. has_edge (walk_of l.links j) e) x.items l.slots) (sym sets.lowers);
        high = λ e h.
            let test = λ (j : ℕ). leads_to g (walk_of l.links j) e in
            rw sets.uppers (omega (arith, sets.high e h, totals.high e h, sum_where-set test old.uppers.items l.slots k v inside there));
        everywhere =
            let test = λ (j : ℕ). is_empty (walk_of l.links j) in
            rw sets.uppers (omega (arith, sets.everywhere, totals.everywhere, sum_where-set test old.uppers.items l.slots k v inside there));
      }

  pub totals-lower : SetsLower g (walk_of l.links k) k v old new → AreTotals g l new
  totals-lower sets =
      let there : k < length old.lowers.items = omega (arith, inside, totals.room.lowers, old.lowers.ok.0) in
      let long = length-set old.lowers.items k v in
      record {
        room = record {
          uppers = ap (λ x. vec_len x) sets.uppers ∙ totals.room.uppers;
          lowers = omega (arith, totals.room.lowers, old.lowers.ok.0, new.lowers.ok.0, ap length sets.lowers, long);
          low = sets.room ∙ totals.room.low;
          high = ap (λ x. vec_len x) sets.high ∙ totals.room.high;
        };
        few = totals.few;
        lowers = subst (AreWithin (2 ^ 64 - 1)) (sym sets.lowers) (within-set (2 ^ 64 - 1) old.lowers.items k v fits totals.lowers);
        uppers = subst (λ x. AreWithin (2 ^ 64 - 1) x.items) (sym sets.uppers) totals.uppers;
        low = λ e h.
            let test = λ (j : ℕ). has_edge (walk_of l.links j) e in
            rw sets.lowers (omega (arith, sets.low e h, totals.low e h, sum_where-set test old.lowers.items l.slots k v inside there));
        high = λ e h. ap (λ x. slice_index x.items e) sets.high ∙ totals.high e h ∙ ap (λ x. sum_where (λ j. leads_to g (walk_of l.links j) e) x.items l.slots) (sym sets.uppers);
        everywhere = sets.everywhere ∙ totals.everywhere ∙ ap (λ x. sum_where (λ j. is_empty (walk_of l.links j)) x.items l.slots) (sym sets.uppers);
      }

-- where the bounds of a slot are 0, its walk may be any
pub totals-freed : (g : Graph) (l m : LinkList) (k : ℕ) (s : Weights) → slice_index s.lowers.items k ≡ 0 → slice_index s.uppers.items k ≡ 0 → ChangesWalk k l m → AreTotals g l s → AreTotals g m s
totals-freed g l m k s lower upper changes totals = record {
  room = rw changes.slots totals.room;
  few = omega (arith, totals.few, changes.slots);
  lowers = totals.lowers;
  uppers = totals.uppers;
  low = λ e h. totals.low e h ∙ moved (λ w. has_edge w e) s.lowers.items lower;
  high = λ e h. totals.high e h ∙ moved (λ w. leads_to g w e) s.uppers.items upper;
  everywhere = totals.everywhere ∙ moved is_empty s.uppers.items upper;
} where
  moved : (test : List ℕ → Bool) (xs : List ℕ) → slice_index xs k ≡ 0 → sum_where (λ j. test (walk_of l.links j)) xs l.slots ≡ sum_where (λ j. test (walk_of m.links j)) xs m.slots
  moved test xs none =
      sum_where-other (λ j. test (walk_of l.links j)) (λ j. test (walk_of m.links j)) xs l.slots k none (λ j other. ap test (sym (changes.others j other)))
      ∙ ap (sum_where (λ j. test (walk_of m.links j)) xs) (sym changes.slots)

-- a link more of a slot, or its last one less
pub linked : (old new : LinkList) (k e : ℕ) → new ≡ record old { links = old.links ++ (k, e) ∷ [] } → ChangesWalk k old new
linked old new k e is = record {
  slots = ap (λ (l : LinkList). l.slots) is;
  others = λ j other. ap (λ (l : LinkList). walk_of l.links j) is ∙ walk_of-push_other old.links (k, e) j (λ same. other (sym same));
}

pub unlinked : (old new : LinkList) (k e : ℕ) → new.slots ≡ old.slots → old.links ≡ new.links ++ (k, e) ∷ [] → ChangesWalk k old new
unlinked old new k e slots is = record {
  slots = slots;
  others = λ j other. sym (ap (λ links. walk_of links j) is ∙ walk_of-push_other new.links (k, e) j (λ same. other (sym same)));
}

-- no bounds, and no weights
zeros : (n k : ℕ) → slice_index (replicate n 0) k ≡ 0
zeros zero k = refl
zeros (suc n) zero = refl
zeros (suc n) (suc k) = zeros n k

sum_where-zeros : (test : ℕ → Bool) (xs : List ℕ) (n m : ℕ) → xs ≡ replicate n 0 → sum_where test xs m ≡ 0
sum_where-zeros test xs n m none =
    sum_below-nil (λ k. cond (test k) (slice_index xs k) 0) m (λ k h. ap (λ x. cond (test k) x 0) (ap (λ ys. slice_index ys k) none ∙ zeros n k) ∙ cond-zero (test k))

within-zeros : (m : ℕ) (xs : List ℕ) (n : ℕ) → xs ≡ replicate n 0 → AreWithin m xs
within-zeros m xs n none e h = omega (arith, ap (λ ys. slice_index ys e) none, zeros n e)

pub totals-none : (g : Graph) (l : LinkList) (s : Weights) → l.slots < 2 ^ 32 → s.uppers.items ≡ replicate l.slots 0 → s.lowers.items ≡ replicate l.slots 0
    → s.low.items ≡ replicate (edge_count g) 0 → s.high.items ≡ replicate (edge_count g) 0 → s.everywhere ≡ 0 → AreTotals g l s
totals-none g l s few uppers lowers low high everywhere = record {
  room = record {
    uppers = omega (arith, s.uppers.ok.0, ap length uppers, length-replicate {A = ℕ} l.slots 0);
    lowers = omega (arith, s.lowers.ok.0, ap length lowers, length-replicate {A = ℕ} l.slots 0);
    low = omega (arith, s.low.ok.0, ap length low, length-replicate {A = ℕ} (edge_count g) 0);
    high = omega (arith, s.high.ok.0, ap length high, length-replicate {A = ℕ} (edge_count g) 0);
  };
  few = few;
  lowers = within-zeros (2 ^ 64 - 1) s.lowers.items l.slots lowers;
  uppers = within-zeros (2 ^ 64 - 1) s.uppers.items l.slots uppers;
  low = λ e h. ap (λ ys. slice_index ys e) low ∙ zeros (edge_count g) e ∙ sym (sum_where-zeros (λ k. has_edge (walk_of l.links k) e) s.lowers.items l.slots l.slots lowers);
  high = λ e h. ap (λ ys. slice_index ys e) high ∙ zeros (edge_count g) e ∙ sym (sum_where-zeros (λ k. leads_to g (walk_of l.links k) e) s.uppers.items l.slots l.slots uppers);
  everywhere = everywhere ∙ sym (sum_where-zeros (λ k. is_empty (walk_of l.links k)) s.uppers.items l.slots l.slots uppers);
}
