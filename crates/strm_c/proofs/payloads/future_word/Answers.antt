-- The word of a future is read as it was written.
use Rattle.strm_c.proofs.WordLemmas.{future_again}
use Rattle.strm_c.proofs.payloads.future_word.Goals as goal

pub returns-else-word-clause-inverse : goal.returns-else-word-clause-inverse
returns-else-word-clause-inverse c h =
    future_again c.payload_word-word.result c.args.payload.now (c.payload_word-word.ensures.bit h) (c.payload_word-word.ensures.inverse h)
