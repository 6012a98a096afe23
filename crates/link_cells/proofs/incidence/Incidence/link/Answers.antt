use Rattle.std.proofs.Common.{◌≡◌, ℕ, ◌<◌, ◌++◌, [], ◌∷◌, length, None, ◌∙◌, rules}
use Rattle.std.proofs.lemmas.List.{get_or_read}
use Rattle.link_cells.specs.declared.incidence.Link.{Link}
use Rattle.link_cells.proofs.Linking.{linked-more, ends-more}
use Rattle.link_cells.proofs.incidence.Incidence.link.Goals as goal

pub invariant_of-self : goal.invariant_of-self
invariant_of-self c =
    let x : Link = record { slot = c.args.slot; edge = c.args.edge; before = c.index-before.result.now; next = c.index-next.result.now } in
    let items : c.push.new.self.items ≡ c.self.inside.cells.items ++ x ∷ [] = search rules in
    let place : c.len-place.result ≡ length c.self.inside.cells.items = search rules in
    let in_last : c.args.slot < length c.self.inside.last.items = search rules in
    let in_first : c.args.edge < length c.self.inside.first.items = search rules in
    record {
      in_word = c.self.invariant.in_word;
      fits = search rules;
      taken = search rules;
      inside = search rules;
      linked = linked-more c.self.inside.cells.items _ x items c.self.invariant.linked (record { before = get_or_read c.self.inside.last.items c.args.slot c.index-before.result.now in_last c.index-before.ensures None ∙ c.self.invariant.last c.args.slot in_last; next = get_or_read c.self.inside.first.items c.args.edge c.index-next.result.now in_first c.index-next.ensures None ∙ c.self.invariant.first c.args.edge in_first });
      last = ends-more (λ (l : ℕ × ℕ). l.0) c.self.inside.cells.items _ x c.self.inside.last.items c.len-place.result items place c.self.invariant.last;
      first = ends-more (λ (l : ℕ × ℕ). l.1) c.self.inside.cells.items _ x c.self.inside.first.items c.len-place.result items place c.self.invariant.first;
    }
