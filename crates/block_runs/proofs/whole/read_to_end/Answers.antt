use Rattle.std.proofs.Common.{◌≡◌, ◌++◌, length, take, arith, length-append, length-take}
use Rattle.std.proofs.lemmas.List.{length-take-le}
use Rattle.flow_io.proofs.Reading.{Took-more}
use Rattle.block_runs.proofs.whole.read_to_end.Goals as goal

pub returns-then-is_err-clause-took : goal.returns-then-is_err-clause-took
returns-then-is_err-clause-took g c =
    let bytes = c.loop-buffer.bytes.items in
    let more = take c.in-Ok.count c.read_piece.new.into in
    let room : length c.read_piece.new.into ≡ c.min-room.result = omega (arith, c.min-room.ensures, c.min-room.array_long, c.read_piece.auto.into, length-take c.min-room.result c.loop-buffer.buffer) in (
      bytes ++ more,
      omega (
        arith,
        c.loop-buffer-test.true,
        c.len.ensures,
        c.len-in-loop-buffer.ensures,
        c.min-room.ensures,
        room,
        c.in-Ok.ensures.count,
        c.loop-buffer.bytes.ok,
        length-append bytes more,
        length-take-le c.in-Ok.count c.read_piece.new.into c.in-Ok.ensures.count,
      ),
      Took-more _ _ _ bytes c.read_piece.new.into c.in-Ok.count c.loop-buffer.invariant.took c.in-Ok.ensures.count c.in-Ok.ensures.bytes c.in-Ok.ensures.left,
    )
