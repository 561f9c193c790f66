use Rattle.strm_frames.proofs.FrontLemmas.{front-short, front-no_bytes, front-few, front-data}
use Rattle.strm_frames.proofs.fronts.data_front.Goals as goal

pub returns-then-bytes-lt3 : goal.returns-then-bytes-lt3
returns-then-bytes-lt3 c = front-short c.args.bytes.now c.requires c.if-bytes-lt3.true

pub returns-then-len-eq0 : goal.returns-then-len-eq0
returns-then-len-eq0 c =
    front-no_bytes c.args.bytes.now c.split_at.result.0.now c.requires c.if-bytes-lt3.false c.split_at.ensures.front c.if-len-eq0.true

pub returns-then-rest-len : goal.returns-then-rest-len
returns-then-rest-len c =
    front-few c.args.bytes.now c.split_at.result.0.now c.split_at.result.1.now c.requires c.if-bytes-lt3.false c.split_at.ensures.front c.split_at.ensures.back c.if-len-eq0.false c.if-rest-len.true

pub returns : goal.returns
returns c =
    front-data c.args.bytes.now c.split_at.result.0.now c.split_at.result.1.now c.split_at-2.result.0.now c.split_at-2.result.1.now c.requires c.if-bytes-lt3.false c.split_at.ensures.front c.split_at.ensures.back c.if-len-eq0.false c.if-rest-len.false c.split_at-2.ensures.front c.split_at-2.ensures.back
