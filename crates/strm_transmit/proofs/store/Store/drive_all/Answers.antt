use Rattle.std.proofs.Common.{rules, refl, ◌+◌, ◌∙◌, arith}
use Rattle.strm_host_machine.proofs.DriveLemmas.{Does-drives_none}
use Rattle.strm_host_turns.proofs.WriterTurnLemmas.{handed_on}
use Rattle.strm_transmit.proofs.DriveStoreLemmas.{drive_on, drive_end, ends_stop, drive_stop, drive_round, drive_wants}
use Rattle.strm_transmit.proofs.OutOfMemoryLemmas.{out_of_memory_as}
use Rattle.strm_transmit.proofs.store.Store.drive_all.Goals as goal

pub loop-stream-init : goal.loop-stream-init
loop-stream-init g c = record {
  does = Does-drives_none c.args.self.now _;
  fits = c.requires.fits;
  made = refl;
  within = omega arith;
}

pub drive_stream-requires-clause-there : goal.drive_stream-requires-clause-there
drive_stream-requires-clause-there g c =
    c.in-Some.ensures.served.made c.in-Some.ensures.next.side c.in-Some.ensures.next.number c.in-Some.stream c.in-Some.ensures.next.serves

pub drive_stream-requires-clause-fits : goal.drive_stream-requires-clause-fits
drive_stream-requires-clause-fits g c = c.loop-stream.invariant.fits

pub overflow_add-next : goal.overflow_add-next
overflow_add-next g c =
    let made = c.in-Some.ensures.served.made c.in-Some.ensures.next.side c.in-Some.ensures.next.number c.in-Some.stream c.in-Some.ensures.next.serves in
    omega (arith, made, c.in-Some.ensures.few)

pub loop-stream-smaller : goal.loop-stream-smaller
loop-stream-smaller g c =
    let made = c.in-Some.ensures.served.made c.in-Some.ensures.next.side c.in-Some.ensures.next.number c.in-Some.stream c.in-Some.ensures.next.serves in
    omega (arith, made, c.in-Some.ensures.next.behind, c.loop-stream.invariant.made)

pub loop-stream-preserved : goal.loop-stream-preserved
loop-stream-preserved g c =
    let i = c.loop-stream.invariant in
    let next = c.in-Some.ensures.next in
    let made = c.in-Some.ensures.served.made next.side next.number c.in-Some.stream next.serves in
    record {
      does = drive_on c.args.self.now c.loop-stream.self _ _ c.in-Some.ensures.served c.loop-stream.next i.does _ _ c.in-Some.stream _ next refl c.in_ok-drive_stream.ensures.part.does;
      fits = c.in_ok-drive_stream.ensures.part.fits;
      made = c.in_ok-drive_stream.ensures.there ∙ i.made;
      within = omega (arith, made, i.made);
    }

pub returns-in_err-drive_stream : goal.returns-in_err-drive_stream
returns-in_err-drive_stream g c = record {
  does = rw (handed_on c.from_residual.result c.from_residual.ensures.1)
      (let i = c.loop-stream.invariant in
      let next = c.in-Some.ensures.next in
      let made = c.in-Some.ensures.served.made next.side next.number c.in-Some.stream next.serves in
      drive_round c.args.self.now _ _ _ _
      (drive_stop c.args.self.now _ _ _ (c.in-Some.stream + 1) _ c.in_err-drive_stream.field-0.0 c.in_err-drive_stream.ensures.part.stop (omega (arith, made, i.made))
      (drive_on c.args.self.now c.loop-stream.self _ _ c.in-Some.ensures.served c.loop-stream.next i.does _ _ c.in-Some.stream _ next (ends_stop c.in_err-drive_stream.field-0.0 c.in_err-drive_stream.ensures.part.stop) c.in_err-drive_stream.ensures.part.does)));
  fits = search rules;
  stop = search rules;
  trapped = search rules;
  out_of_memory = rw (handed_on c.from_residual.result c.from_residual.ensures.1)
      (let i = c.loop-stream.invariant in
      let next = c.in-Some.ensures.next in
      let made = c.in-Some.ensures.served.made next.side next.number c.in-Some.stream next.serves in
      out_of_memory_as c.in_err-drive_stream.field-0.0
      (drive_wants c.args.self.now c.loop-stream.self _ _ _ c.in-Some.ensures.served c.loop-stream.next i.does c.in-Some.stream next (omega (arith, made, i.made)))
      c.in_err-drive_stream.ensures.part.out_of_memory);
}

pub returns : goal.returns
returns g c = record {
  does = let i = c.loop-stream.invariant in
      drive_round c.args.self.now _ _ _ _
      (drive_end c.args.self.now c.loop-stream.self _ _ c.in_default.ensures.served c.loop-stream.next i.does _ i.within c.in_default.ensures.next);
  fits = c.loop-stream.invariant.fits;
  stop = search rules;
  trapped = search rules;
  out_of_memory = search rules;
}
