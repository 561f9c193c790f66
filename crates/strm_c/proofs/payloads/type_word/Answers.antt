-- The word of a type is read as it was written.
use Rattle.std.proofs.Common.{Some, sym, ap, subst, ◌∙◌}
use Rattle.strm_codes.specs.Types.{payload_of}
use Rattle.strm_c.specs.Payloads.{HasWord}
use Rattle.strm_c.proofs.WordLemmas.{stream_again}
use Rattle.strm_c.proofs.payloads.type_word.Goals as goal

pub returns-in-Stream-clause-inverse : goal.returns-in-Stream-clause-inverse
returns-in-Stream-clause-inverse c h =
    let has : HasWord c.in-Stream.payload = subst (λ ty. HasWord (payload_of ty)) c.in-Stream.is h in
    stream_again c.payload_word.result c.in-Stream.payload (c.payload_word.ensures.bit has) (c.payload_word.ensures.inverse has)
    ∙ ap Some (sym c.in-Stream.is)

pub returns-in-Future-clause-inverse : goal.returns-in-Future-clause-inverse
returns-in-Future-clause-inverse c h =
    c.future_word.ensures.inverse (subst (λ ty. HasWord (payload_of ty)) c.in-Future.is h) ∙ ap Some (sym c.in-Future.is)
