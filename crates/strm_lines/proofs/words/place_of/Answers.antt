use Rattle.strm_lines.proofs.PlaceLemmas.{is_first}
use Rattle.strm_lines.proofs.words.place_of.Goals as goal

pub returns : goal.returns
returns c = is_first _ _ _ _ _ c.memchr_iter.ensures.value c.next.ensures.steps
