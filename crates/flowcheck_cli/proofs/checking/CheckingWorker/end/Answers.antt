use Rattle.std.proofs.Common.{◌≡◌, ◌≢◌, subst, arith}
use Rattle.flow_io.specs.Outside.{Adds, AddsPrefix}
use Rattle.flowcheck_cli.specs.CheckLines.{counts_line}
use Rattle.flowcheck_cli.proofs.Numbers.{checked-done, few-reports, texts_of, told-same, told-other, told-cut}
use Rattle.flowcheck_cli.proofs.checking.CheckingWorker.end.Goals as goal

pub count_texts-texts-requires : goal.count_texts-texts-requires
count_texts-texts-requires g c = few-reports c.args.self.now c.requires.begun

pub returns-then-self-texts-clause-done : goal.returns-then-self-texts-clause-done
returns-then-self-texts-clause-done g c =
    let same : c.args.self.now.blocks ≡ texts_of c.args.self.now = omega (arith, c.if-self-texts.true, c.count_texts-texts.ensures) in
    (checked-done c.args.self.now c.requires.begun, told-same c.args.self.now _ same)

pub returns-in_err-write_counts-clause-cut : goal.returns-in_err-write_counts-clause-cut
returns-in_err-write_counts-clause-cut g c stopped =
    let other : c.args.self.now.blocks ≢ texts_of c.args.self.now = λ same. omega (arith, same, c.if-self-texts.false, c.count_texts-texts.ensures) in
    told-cut c.args.self.now _ _ other
    (subst (λ n. AddsPrefix (g.O.Output.written c.args.out.now) (g.O.Output.written c.write_counts.new.out) (counts_line c.args.self.now.blocks n)) c.count_texts-texts.ensures c.in_err-write_counts.ensures.err)

pub returns-clause-done : goal.returns-clause-done
returns-clause-done g c =
    let other : c.args.self.now.blocks ≢ texts_of c.args.self.now = λ same. omega (arith, same, c.if-self-texts.false, c.count_texts-texts.ensures) in (
      tt,
      told-other c.args.self.now _ _ other
          (subst (λ n. Adds (g.O.Output.written c.args.out.now) (g.O.Output.written c.write_counts.new.out) (counts_line c.args.self.now.blocks n)) c.count_texts-texts.ensures c.in_ok-write_counts.ensures.ok),
    )
