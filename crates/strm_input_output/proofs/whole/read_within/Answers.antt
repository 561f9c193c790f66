use Rattle.std.proofs.Common.{◌++◌, take, arith, length-append}
use Rattle.strm_input_output.proofs.PortLemmas.{Consumes-append}
use Rattle.strm_input_output.proofs.whole.read_within.Goals as goal

pub returns-in_err-push_slice-clause-read : goal.returns-in_err-push_slice-clause-read
returns-in_err-push_slice-clause-read g c =
    let text = c.loop-room.text in
    let piece = c.read_piece.new.piece in
    let n = c.in_ok-count.count in (
      text ++ take n piece,
      Consumes-append _ (g.S.Source.left c.loop-room.source) _ text (take n piece) c.loop-room.invariant.read c.in_ok-count.ensures.bytes.0,
      omega (arith, length-append text (take n piece), c.in_ok-count.ensures.most.1, c.in_ok-count.ensures.room, c.loop-room.invariant.count),
    )
