use Rattle.std.proofs.Common.{length}
use Rattle.strm_c.proofs.payloads.+fields_word.Given as goal

abbrev pub decreases-fields_word : goal.decreases-fields_word
decreases-fields_word l = length l.fields.now
