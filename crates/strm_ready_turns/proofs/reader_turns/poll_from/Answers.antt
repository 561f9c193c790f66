use Rattle.std.proofs.Common.{◌≡◌, ap, ◌∙◌}
use Rattle.strm_memory.specs.Linear.{LinearMemory}
use Rattle.strm_machine.specs.State.{memory_in}
use Rattle.strm_channels.specs.Guests.{guests_of}
use Rattle.strm_ready_turns.proofs.ReaderLemmas.{TakesOf, all_good_polls, all_good_granted, all_good_keep}
use Rattle.strm_ready_turns.proofs.reader_turns.poll_from.Goals as goal

pub returns-clause-ok : goal.returns-clause-ok
returns-clause-ok c =
    let known : TakesOf c.args.reader.now c.take_good.new.self c.bytes-bytes.result.now c.region_address-from.result c.as_u32.result c.args.since c.args.write.now.asked c.take_good.result =
    record { takes = c.take_good.ensures.takes; counted = c.take_good.ensures.counted; most = c.take_good.ensures.most; err = c.take_good.ensures.err } in
    let bytes : c.bytes-bytes.result.now ≡ memory_in (guests_of c.args.guests.now.items) c.args.write.now.guest = c.bytes-bytes.ensures ∙ ap (λ (m : LinearMemory). m.bytes) c.memory.ensures in
    all_good_polls (guests_of c.args.guests.now.items) c.args.payload.now c.args.write.now c.args.reader.now c.take_good.new.self c.args.since c.take_good.result c.requires.payload
    (rw (bytes, c.region_address-from.ensures, c.as_u32.ensures.exact) at known)

pub returns-clause-granted : goal.returns-clause-granted
returns-clause-granted c =
    all_good_granted c.args.reader.now c.take_good.new.self c.bytes-bytes.result.now c.region_address-from.result c.as_u32.result c.args.since c.args.write.now.asked c.take_good.result
    (record { takes = c.take_good.ensures.takes; counted = c.take_good.ensures.counted; most = c.take_good.ensures.most; err = c.take_good.ensures.err })

pub returns-clause-keeps : goal.returns-clause-keeps
returns-clause-keeps c =
    all_good_keep c.args.reader.now c.take_good.new.self c.bytes-bytes.result.now c.region_address-from.result c.as_u32.result c.args.since c.args.write.now.asked c.take_good.result
    (record { takes = c.take_good.ensures.takes; counted = c.take_good.ensures.counted; most = c.take_good.ensures.most; err = c.take_good.ensures.err })
