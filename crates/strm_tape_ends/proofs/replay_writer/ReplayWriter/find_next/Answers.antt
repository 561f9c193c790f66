use Rattle.std.proofs.Common.{◌≡◌, List, ◌∷◌, ap, subst}
use Rattle.std.specs.Prelude.{All}
use Rattle.std.proofs.lemmas.List.Elements.{All-head}
use Rattle.strm_codes.specs.Types.{payload_of}
use Rattle.strm_codes.specs.declared.payloads.Payload.{Payload}
use Rattle.strm_buffers.specs.Said.{WriterSaid}
use Rattle.strm_buffers.specs.Tells.{WriterTells}
use Rattle.strm_tape.specs.Spelling.{IsWriterRecord}
use Rattle.strm_tape_ends.proofs.replay_writer.ReplayWriter.find_next.Goals as goal

-- the first of records of a payload is of it
first_typed : (first : WriterSaid) (p : Payload) (xs ys : List WriterSaid) → All (IsWriterRecord p) xs → xs ≡ first ∷ ys → first.payload ≡ p
first_typed first p xs ys each e = (All-head (IsWriterRecord p) first ys (subst (All (IsWriterRecord p)) e each)).of

pub push_turn-requires-clause-payload : goal.push_turn-requires-clause-payload
push_turn-requires-clause-payload c =
    let self = c.args.self.now in
    let of_type : payload_of self.coming.ty ≡ self.end.payload = self.typed in
    let first : c.in_ok-items.field-0.payload ≡ payload_of self.coming.ty = first_typed c.in_ok-items.field-0 (payload_of self.coming.ty) self.coming.said c.take_first.new.self.said c.sound.ensures.each c.in_ok-items.ensures.ok in
    let same : c.reserve_turn.new.self.payload ≡ self.end.payload = ap (λ (t : WriterTells). t.payload) c.reserve_turn.ensures.tells in
    let seen = ap (λ (said : WriterSaid). said.payload) c.items.view_is in
    cc
