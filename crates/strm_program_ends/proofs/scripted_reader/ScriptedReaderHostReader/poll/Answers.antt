use Rattle.std.proofs.Common.{◌≡◌, ◌≤◌, ◌*◌, length, refl, sym, ap, subst, ◌∙◌, arith}
use Rattle.strm_codes.specs.Layout.{item_type}
use Rattle.strm_codes.specs.ItemTypes.{item_size}
use Rattle.strm_buffers.specs.Offers.{Offered, items_lent}
use Rattle.strm_buffers.specs.Tells.{reader_record}
use Rattle.strm_buffers.proofs.EndLemmas.{IfAnswered-turn_of}
use Rattle.strm_program_ends.proofs.TakingLemmas.{reader_rises}
use Rattle.strm_program_ends.proofs.KeepLemmas.{taken_within, polled_more, kept_holds}
use Rattle.strm_program_ends.proofs.scripted_reader.ScriptedReaderHostReader.poll.Goals as goal

pub keep-requires : goal.keep-requires
keep-requires c = λ k.
    let old = c.args.offer.now in
    let new = c.take_up_to.new.offer in
    let payload = c.args.self.now.payload in
    let offered : c.remaining-offered.result ≡ items_lent old.source = omega (arith, c.remaining-offered.ensures, c.requires.nothing_taken) in
    let within = taken_within payload old c.next_turn-turn.result.take c.remaining-offered.result c.size.result c.requires.payload c.requires.nothing_taken offered c.size.ensures.exact in
    let taken = ap (λ (o : Offered). item_size (item_type payload) * o.taken) c.take_up_to.ensures.takes in
    let size : length c.taken_bytes.result.now ≡ item_size (item_type payload) * new.taken =
    c.taken_bytes.ensures.all ∙ ap (λ p. item_size (item_type p) * new.taken) (ap (λ (o : Offered). o.payload) c.take_up_to.ensures.takes ∙ c.requires.payload) in
    let most = ap (λ n. c.size.result * n) c.min.ensures in
    omega (arith, c.in-Ok-make_room.ensures.room k, size, taken, within, most)

pub invariant_of-self-2 : goal.invariant_of-self-2
invariant_of-self-2 c =
    let old = c.args.offer.now in
    let new = c.take_up_to.new.offer in
    let reader = c.args.self.now in
    let offered : c.remaining-offered.result ≡ items_lent old.source = omega (arith, c.remaining-offered.ensures, c.requires.nothing_taken) in
    let said = rw (c.reserve.ensures.items, offered, c.since-since.ensures, c.taken.ensures.exact, c.bad.ensures.exact) at c.push_reserved.ensures.items in
    let given = c.taken_bytes.ensures in
    record {
      taken = λ k.
          let kept = rw c.make_room.ensures.items at c.keep.ensures k in
          (polled_more reader.payload old new c.next_turn-turn.result.take reader.kept.items c.taken_bytes.result.now c.keep.new.kept.items reader.said.items _ c.args.finish c.next_turn-turn.result.answer c.requires.payload c.take_up_to.ensures.takes
          c.make_room.ensures.bytes (reader.taken k) kept said given.lie given.items given.all).taken;
    }

pub returns-clause-polls : goal.returns-clause-polls
returns-clause-polls c =
    let old = c.args.offer.now in
    let new = c.take_up_to.new.offer in
    let reader = c.args.self.now in
    let offered : c.remaining-offered.result ≡ items_lent old.source = omega (arith, c.remaining-offered.ensures, c.requires.nothing_taken) in
    let most : new.taken ≤ items_lent new.source = subst (λ n. n ≤ items_lent new.source) c.taken.ensures.exact c.taken.ensures.most in
    let said = rw (c.reserve.ensures.items, offered, c.since-since.ensures, c.taken.ensures.exact, c.bad.ensures.exact) at c.push_reserved.ensures.items in
    let given = c.taken_bytes.ensures in
    rw c.turn.ensures (IfAnswered-turn_of c.next_turn-turn.result.answer _ (record {
      said_more = said;
      holds = kept_holds reader.keeps reader.payload reader.kept.items c.keep.new.kept.items reader.said.items _ _ (λ k.
          let kept = rw c.make_room.ensures.items at c.keep.ensures k in
          polled_more reader.payload old new c.next_turn-turn.result.take reader.kept.items c.taken_bytes.result.now c.keep.new.kept.items reader.said.items _ c.args.finish c.next_turn-turn.result.answer c.requires.payload c.take_up_to.ensures.takes
          c.make_room.ensures.bytes (reader.taken k) kept said given.lie given.items given.all);
      taken = sym c.take_up_to.ensures.counted;
      most = subst (λ (o : Offered). new.taken ≤ items_lent o.source) c.take_up_to.ensures.takes most;
      faults = reader_rises c.args.self.now.said.items _ (reader_record old new c.args.finish c.next_turn-turn.result.answer) said;
      closed = refl;
      heard = refl;
      kind = refl;
      payload = refl;
    }))
