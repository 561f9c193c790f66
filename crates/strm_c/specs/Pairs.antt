-- What C gets of a new stream. Ours.
use Rattle.std.specs.Prelude.{Result, Ok, Err}
use Rattle.strm_machine.specs.declared.replies.Pair.{Pair}
use Rattle.strm_machine.specs.declared.replies.Reply.{Reply}
use Rattle.strm_machine.specs.declared.replies.Reply.TheVariants as replies
use Rattle.strm_transmit.specs.declared.errors.StoreError.{StoreError}
use Rattle.strm_c.specs.declared.exports.pairs.StrmPair.{StrmPair}

-- the handles of both ends, and the stream's number
abbrev pub told_pair : Pair → StrmPair
told_pair pair = record { read = pair.read; write = pair.write; stream = pair.stream }

-- the same of an answer; an error leaves what was there
abbrev pub answer_pair : Result Pair StoreError → StrmPair → StrmPair
answer_pair (Ok pair) old = told_pair pair
answer_pair (Err error) old = old

-- and of the machine's reply
abbrev pub pair_in : Reply → StrmPair → StrmPair
pair_in (replies.Pair pair) old = told_pair pair
pair_in _ old = old
