use Rattle.std.proofs.Common.{sym, ◌∙◌, arith}
use Rattle.std.proofs.lemmas.List.{length-map}
use Rattle.strm_channels.specs.Guests.{guest_of, guests_of}
use Rattle.strm_transmit.proofs.ToldLemmas.{never, no_member_past}
use Rattle.strm_transmit.proofs.telling.retell_held.Goals as goal

pub returns-then-guest-len-clause-told : goal.returns-then-guest-len-clause-told
returns-then-guest-len-clause-told c number member =
    let past = no_member_past (guests_of c.args.guests.now.items) c.args.guest number c.args.handle (omega (arith, c.if-guest-len.true, c.len.ensures, c.args.guests.now.ok, length-map c.args.guests.now.items guest_of)) in
    absurd (never (sym member ∙ past))
