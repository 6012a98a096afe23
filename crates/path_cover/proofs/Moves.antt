-- What one unit more or less on an edge does to the balance and to what arrives.
use Rattle.std.proofs.Common.{◌≡◌, ◌≢◌, ℕ, ◌+◌, ◌<◌, ◌==◌, Bool, true, false, cond, refl, sym, ap, subst, arith, inl, inr, ne_eqb}
use Rattle.std.proofs.lemmas.Bool.{cases_Bool, both_ways}
use Rattle.decomposition.specs.Graph.{Graph, edge_count, tail, head, is_source, is_sink, is_inner}
use Rattle.decomposition.specs.Answer.{sum_below}
use Rattle.decomposition.specs.Flow.{IsBalanced, flow_into, flow_out_of}
use Rattle.decomposition.proofs.Sums.{sum_below-one}
use Rattle.path_cover.specs.Carrying.{arriving, unit_at, IsBalancedBut}

-- one unit more on edge e, and the same elsewhere
pub record IsRaised (old new : ℕ → ℕ) (e : ℕ) : Type 0 where
  pub here : new e ≡ old e + 1
  pub others : (d : ℕ) → d ≢ e → new d ≡ old d

-- what a sum over the edges that pass a test gains
raised_sum : (test : ℕ → Bool) (old new : ℕ → ℕ) (e n : ℕ) → e < n → IsRaised old new e → sum_below (λ k. cond (test k) (new k) 0) n ≡ sum_below (λ k. cond (test k) (old k) 0) n + cond (test e) 1 0
raised_sum test old new e n h r =
    sum_below-one (λ k. cond (test k) (new k) 0) (λ k. cond (test k) (old k) 0) (cond (test e) 1 0) e n h (at (test e)) (λ j other. ap (λ x. cond (test j) x 0) (r.others j other))
  where
    at : (b : Bool) → cond b (new e) 0 ≡ cond b (old e) 0 + cond b 1 0
    at true = r.here
    at false = omega arith

module _ (g : Graph) (old new : ℕ → ℕ) (e : ℕ) (h : e < edge_count g) (r : IsRaised old new e) where
  pub arriving-raised : arriving g new ≡ arriving g old + cond (is_sink g (head g e)) 1 0
  arriving-raised = raised_sum (λ k. is_sink g (head g k)) old new e (edge_count g) h r

  into-raised : (v : ℕ) → flow_into g new v ≡ flow_into g old v + unit_at (head g e) v
  into-raised v = raised_sum (λ k. head g k == v) old new e (edge_count g) h r

  out-raised : (v : ℕ) → flow_out_of g new v ≡ flow_out_of g old v + unit_at (tail g e) v
  out-raised v = raised_sum (λ k. tail g k == v) old new e (edge_count g) h r

  -- the unit that is to leave the tail now is to leave the head
  pub raise-onward : (a : ℕ) → IsBalancedBut g old a (tail g e) → IsBalancedBut g new a (head g e)
  raise-onward a but v inner = omega (arith, but v inner, into-raised v, out-raised v)

  -- the unit that is to enter the head now is to enter the tail
  pub raise-back : (b : ℕ) → IsBalancedBut g old (head g e) b → IsBalancedBut g new (tail g e) b
  raise-back b but v inner = omega (arith, but v inner, into-raised v, out-raised v)

  pub lower-onward : (b : ℕ) → IsBalancedBut g new (tail g e) b → IsBalancedBut g old (head g e) b
  lower-onward b but v inner = omega (arith, but v inner, into-raised v, out-raised v)

  pub lower-back : (a : ℕ) → IsBalancedBut g new a (head g e) → IsBalancedBut g old a (tail g e)
  lower-back a but v inner = omega (arith, but v inner, into-raised v, out-raised v)

module _ (g : Graph) (flow : ℕ → ℕ) where
  pub IsBalancedBut-same : (a : ℕ) → IsBalanced g flow → IsBalancedBut g flow a a
  IsBalancedBut-same a balanced v inner = omega (arith, balanced v inner)

  -- no unit is wanted at a vertex that is not inner
  none_wanted : (a v : ℕ) → is_inner g a ≡ false → is_inner g v ≡ true → unit_at a v ≡ 0
  none_wanted a v outer inner =
      let apart : (a == v) ≡ false = ne_eqb a v (λ same. both_ways _ outer (subst (λ u. is_inner g u ≡ true) (sym same) inner)) in
      rw apart refl

  pub IsBalanced-from_but : (a b : ℕ) → is_inner g a ≡ false → is_inner g b ≡ false → IsBalancedBut g flow a b → IsBalanced g flow
  IsBalanced-from_but a b outer_a outer_b but v inner =
      omega (arith, but v inner, none_wanted a v outer_a inner, none_wanted b v outer_b inner)

pub source-outer : (g : Graph) (v : ℕ) → is_source g v ≡ true → is_inner g v ≡ false
source-outer g v source = rw source refl

pub sink-outer : (g : Graph) (v : ℕ) → is_sink g v ≡ true → is_inner g v ≡ false
sink-outer g v sink = elim (cases_Bool (is_source g v)) [ inl source ↦ source-outer g v source | inr inner ↦ rw (inner, sink) refl ]
