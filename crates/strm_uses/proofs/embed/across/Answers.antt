-- What is told of the end is told of the one that the handle names.
use Rattle.std.proofs.Common.{◌∙◌, sym, ap, Ok}
use Rattle.strm_transmit.proofs.QueryLemmas.{end_answered}
use Rattle.strm_uses.proofs.embed.across.Goals as goal

pub returns-in-Held : goal.returns-in-Held
returns-in-Held c =
    let told = ap Ok (sym c.in-Ok-End.field-0-is) ∙ c.in-Ok-End.ensures.exact in
    let other = (end_answered c.args.store.now c.args.guest c.args.handle c.in-Ok-End.end told).other in
    cc (other, c.in-Held.is, c.in-Ok-End.field-0-is)
