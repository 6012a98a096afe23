use Rattle.std.proofs.Common.{inl, inr}
use Rattle.std.proofs.lemmas.Bool.{iff_false}
use Rattle.subpath_rules.proofs.Deciding.{rule-run, share-decides}
use Rattle.subpath_rules.proofs.rules.Rules.compatible.Goals as goal

pub returns-then-follows : goal.returns-then-follows
returns-then-follows c =
    let g = c.args.net.now in
    let rules = c.args.self.now in
    let first = c.run-first.result.now in
    let second = c.run-second.result.now in
    share-decides c.follows.result g first second _ _ c.edges.ensures.net
    (rule-run g rules c.args.i first c.requires.runs c.requires.first c.run-first.ensures)
    (rule-run g rules c.args.j second c.requires.runs c.requires.second c.run-second.ensures)
    c.run-first.ensures c.run-second.ensures
    (λ t. inl (c.follows.ensures.0 t), λ _. c.if-follows.true)

pub returns-else-follows : goal.returns-else-follows
returns-else-follows c =
    let g = c.args.net.now in
    let rules = c.args.self.now in
    let first = c.run-first.result.now in
    let second = c.run-second.result.now in
    share-decides c.follows-else-follows.result g first second _ _ c.edges.ensures.net
    (rule-run g rules c.args.i first c.requires.runs c.requires.first c.run-first.ensures)
    (rule-run g rules c.args.j second c.requires.runs c.requires.second c.run-second.ensures)
    c.run-first.ensures c.run-second.ensures (
      λ t. inr (c.follows-else-follows.ensures.0 t),
      λ either. elim either [
        | inl later ↦ absurd (iff_false c.follows.ensures c.if-follows.false later)
        | inr earlier ↦ c.follows-else-follows.ensures.1 earlier
      ],
    )
