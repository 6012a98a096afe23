use Rattle.std.proofs.Common.{◌≡◌, ◌∙◌, ◌++◌, ◌∷◌, [], ◌<◌, ◌+◌, length, take, ap, subst, sym, false, get_or, arith}
use Rattle.std.specs.List.{list_any}
use Rattle.std.proofs.lemmas.List.{take_more}
use Rattle.graph_text.specs.Progress.{is_feed}
use Rattle.graph_text.specs.Cutter.{GoesOn}
use Rattle.graph_text.proofs.Holding.{no_feed, feed-there, IsQuiet-front, goes-span, goes-line}
use Rattle.graph_text.proofs.cutter.Cutter.take_line.Goals as goal
use Rattle.graph_text.proofs.cutter.Cutter.take_line.Goals.{In_ok-extend}

feedless : (c : In_ok-extend) → list_any is_feed (take c.line_end-end.result c.args.rest.now) ≡ false
feedless c = ap (λ n. list_any is_feed (take n c.args.rest.now)) c.line_end-end.ensures.place ∙ no_feed c.args.rest.now

pub returns-then-end-rest-clause-takes : goal.returns-then-end-rest-clause-takes
returns-then-end-rest-clause-takes c = λ bytes held none.
    goes-span _ bytes _ (IsQuiet-front bytes c.args.rest.now c.line_end-end.result none (feedless (goal.at.returns-then-end-rest-clause-takes c).In_ok-extend)) (record {
      blocks_are = held.blocks_are;
      line_is = held.line_is;
      ended_are = held.ended_are;
      open_line_is = c.in_ok-extend.ensures _ held.open_line_is;
      block_is = record { name_is = held.block_is.name_is; drafts = held.block_is.drafts };
    })

pub returns-clause-takes : goal.returns-clause-takes
returns-clause-takes c = λ bytes held none.
    let rest = c.args.rest.now in
    let end = c.line_end-end.result in
    let place = c.line_end-end.ensures.place in
    let there : end < length rest = omega arith in
    let feed : get_or rest end 0 ≡ 10 = ap (λ n. get_or rest n 0) place ∙ feed-there rest (subst (λ n. n < length rest) place there) in
    let line : take end rest ++ 10 ∷ [] ≡ take (end + 1) rest = sym (take_more rest end 0 there ∙ ap (λ b. take end rest ++ b ∷ []) feed) in
    subst (λ t. GoesOn c.end_line.new.self bytes t) line
    (goes-line _ bytes _ (IsQuiet-front bytes rest end none (feedless (goal.at.returns-clause-takes c).In_ok-extend)) (c.in_ok-end_line.ensures.ends _ (record {
      blocks_are = held.blocks_are;
      line_is = held.line_is;
      ended_are = held.ended_are;
      open_line_is = c.in_ok-extend.ensures _ held.open_line_is;
      block_is = record { name_is = held.block_is.name_is; drafts = held.block_is.drafts };
    })))

pub extend-requires : goal.extend-requires
extend-requires c = record { one_line = ap (λ n. list_any is_feed (take n c.args.rest.now)) c.line_end-end.ensures.place ∙ no_feed c.args.rest.now }
