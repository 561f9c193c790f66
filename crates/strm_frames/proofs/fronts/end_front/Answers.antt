use Rattle.strm_frames.proofs.FrontLemmas.{front-end_short, front-end}
use Rattle.strm_frames.proofs.fronts.end_front.Goals as goal

pub returns-then-bytes-lt2 : goal.returns-then-bytes-lt2
returns-then-bytes-lt2 c = front-end_short c.args.bytes.now c.requires c.if-bytes-lt2.true

pub returns : goal.returns
returns c = front-end c.args.bytes.now c.split_at.result.0.now c.split_at.result.1.now c.requires c.if-bytes-lt2.false c.split_at.ensures.front c.split_at.ensures.back
