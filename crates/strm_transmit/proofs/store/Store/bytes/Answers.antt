use Rattle.std.proofs.Common.{◌≡◌, ◌∙◌, min, sym, ap, arith}
use Rattle.std.proofs.lemmas.List.{length-map}
use Rattle.strm_channels.specs.Guests.{guest_of}
use Rattle.strm_transmit.specs.Inside.{state_of}
use Rattle.strm_machine.specs.Reactions.{performs, goes}
use Rattle.strm_machine.specs.declared.replies.Reply.TheVariants as replies
use Rattle.strm_machine.proofs.RefusalLemmas.{dump_fits}
use Rattle.strm_transmit.proofs.store.Store.bytes.Goals as goal

pub read_bytes-requires : goal.read_bytes-requires
read_bytes-requires c =
    let fits = dump_fits (state_of c.self.inside) c.args.guest c.args.address c.args.len (rw (← c.self.view_is) at c.requires.may) in
    let few : min c.args.len 64 ≡ c.args.len = omega (arith, c.requires.few) in
    record {
      there = omega (arith, fits.there, length-map c.self.inside.guests.items guest_of);
      inside = rw few at fits.inside;
    }

pub returns : goal.returns
unfolding performs
returns c =
    let made : c.unwrap.result ≡ c.read_bytes.result.now = rw c.unwrap.ensures at c.new.ensures.value in
    let few : min c.args.len 64 ≡ c.args.len = omega (arith, c.requires.few) in
    rw (few, ← c.self.view_is) (ap (λ b. goes (replies.Bytes b) (state_of c.self.inside)) (sym (made ∙ c.read_bytes.ensures.exact)))
