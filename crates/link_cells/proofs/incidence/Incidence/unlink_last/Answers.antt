use Rattle.std.proofs.Common.{◌≡◌, ℕ, ◌<◌, ◌++◌, [], ◌∷◌, length, arith, rules, subst, length-set}
use Rattle.std.specs.Prelude.{All}
use Rattle.link_cells.specs.declared.incidence.Link.{Link}
use Rattle.link_cells.proofs.Linking.{linked-less, ends-less, last-linked, all-pop}
use Rattle.link_cells.proofs.incidence.Incidence.unlink_last.Goals as goal

pub invariant_of-self : goal.invariant_of-self
invariant_of-self c =
    let x : Link = c.unwrap-link.result in
    let items : c.self.inside.cells.items ≡ c.pop.new.self.items ++ x ∷ [] = search rules in
    let inside : Link → Type 0 = λ l. (l.slot < length c.self.inside.last.items) × (l.edge < length c.self.inside.first.items) in
    let named = last-linked c.self.inside.cells.items c.pop.new.self.items x items c.self.invariant.linked in
    record {
      in_word = c.self.invariant.in_word;
      fits = search rules;
      taken = search rules;
      inside = λ k d l.
          let both = all-pop inside c.pop.new.self.items x (subst (All inside) items c.self.invariant.inside) k d l in
          (omega (arith, both.0, length-set c.self.inside.last.items x.slot x.before), omega (arith, both.1, length-set c.self.inside.first.items x.edge x.next));
      linked = linked-less c.self.inside.cells.items _ x items c.self.invariant.linked;
      last = ends-less (λ (l : ℕ × ℕ). l.0) c.self.inside.cells.items c.pop.new.self.items x c.self.inside.last.items x.before items c.self.invariant.last named.before;
      first = ends-less (λ (l : ℕ × ℕ). l.1) c.self.inside.cells.items c.pop.new.self.items x c.self.inside.first.items x.next items c.self.invariant.first named.next;
    }
