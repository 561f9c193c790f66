use Rattle.std.proofs.Common.{◌≡◌, ◌++◌, refl}
use Rattle.std.proofs.lemmas.List.Elements.{All-push}
use Rattle.strm_buffers.specs.Said.{WriterSaid}
use Rattle.strm_buffers.specs.Windows.{room_of}
use Rattle.strm_buffers.proofs.EndLemmas.{Fills-same, IfAnswered-turn_of}
use Rattle.strm_host.proofs.ErasedLemmas.{did_poll, planned_poll, room_parts}
use Rattle.strm_host.proofs.erased.ErasedHostWriter.poll.Goals as goal

pub returns-in-Err-clause-fills : goal.returns-in-Err-clause-fills
returns-in-Err-clause-fills g c = Fills-same c.args.window.now

pub returns-clause-polls : goal.returns-clause-polls
returns-clause-polls g c =
    rw c.turn.ensures (IfAnswered-turn_of c.in-Ok-fetch.fetched.answer _ (did_poll _ _ c.args.window.now c.fetch.new.window c.args.finish c.in-Ok-fetch.fetched.items.items c.in-Ok-fetch.fetched.answer (record {
      said = rw (c.reserve.ensures.items, c.room-room.ensures, c.in-Ok-fetch.ensures.fetched.of, ← c.requires.payload) at c.push_reserved.ensures.items;
      marked = c.in-Ok-fetch.ensures.fetched.marked_is;
      held = c.in-Ok-fetch.ensures.fetched.held_is;
      fit = c.in-Ok-fetch.ensures.fetched.fit;
      failed = c.in-Ok-fetch.ensures.failed;
      closed = refl;
      heard = refl;
      kind = refl;
      payload = refl;
    })))

pub returns-clause-plan : goal.returns-clause-plan
returns-clause-plan g c =
    let room = room_of c.args.window.now.place in
    let items = c.in-Ok-fetch.fetched.items.items in
    let all : c.fetch.new.window.marked ++ c.in-Ok-fetch.fetched.held.items ≡ items = rw (c.in-Ok-fetch.ensures.fetched.marked_is, c.in-Ok-fetch.ensures.fetched.held_is) (room_parts room items) in
    planned_poll _ _ room c.args.finish (c.fetch.new.window.marked ++ c.in-Ok-fetch.fetched.held.items) items c.in-Ok-fetch.fetched.answer c.turn.ensures all c.in-Ok-fetch.ensures.plan

pub returns-clause-leaves : goal.returns-clause-leaves
returns-clause-leaves g c = rw c.turn.ensures (IfAnswered-turn_of c.in-Ok-fetch.fetched.answer _ c.in-Ok-fetch.ensures.leaves)

-- what is recorded is of the producer's items
pub invariant_of-self-2-clause-recorded : goal.invariant_of-self-2-clause-recorded
invariant_of-self-2-clause-recorded g c =
    rw (c.push_reserved.ensures.items, c.reserve.ensures.items)
    (All-push (λ (said : WriterSaid). said.payload ≡ g.P.Item.Payloaded.payload) c.args.self.now.said.items _ c.args.self.now.recorded c.in-Ok-fetch.ensures.fetched.of)
