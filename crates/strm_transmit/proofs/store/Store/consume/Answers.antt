use Rattle.std.proofs.Common.{rules}
use Rattle.strm_transmit.proofs.ReaderTurnLemmas.{is_taken_from, mid-made, mid-length, mid-fits, mid-duty, told-there, taken-stays, reader_scene-stops, stops-does, stops-fits, stops-length, stops-wants, left-does, left-fits, left-length}
use Rattle.strm_transmit.proofs.store.Store.consume.Goals as goal

pub stream-requires : goal.stream-requires
stream-requires g c =
    let h = is_taken_from _ _ _ _ _ c.sound.ensures c.served.ensures c.requires.there c.requires.owner c.requires.fits c.requires.placed in
    mid-made _ _ _ _ _ h _ _ _ c.in-Ok.ensures

pub retire_reader-requires-clause-serves : goal.retire_reader-requires-clause-serves
retire_reader-requires-clause-serves g c =
    let h = is_taken_from _ _ _ _ _ c.sound.ensures c.served.ensures c.requires.there c.requires.owner c.requires.fits c.requires.placed in
    mid-duty _ _ _ _ _ h _ _ _ c.in-Ok.ensures

pub retire_reader-requires-clause-gone : goal.retire_reader-requires-clause-gone
retire_reader-requires-clause-gone g c = search rules

pub close_reader-requires : goal.close_reader-requires
close_reader-requires g c =
    let h = is_taken_from _ _ _ _ _ c.sound.ensures c.served.ensures c.requires.there c.requires.owner c.requires.fits c.requires.placed in
    told-there _ _ _ _ _ h _ _ _ c.in-Ok.ensures

pub returns-in-Err-clause-there : goal.returns-in-Err-clause-there
returns-in-Err-clause-there g c =
    let h = is_taken_from _ _ _ _ _ c.sound.ensures c.served.ensures c.requires.there c.requires.owner c.requires.fits c.requires.placed in
    stops-length _ _ _ _ _ h _ _ _ c.in-Err.error c.in-Err.ensures c.trap.ensures

pub returns-then-ne-clause-there : goal.returns-then-ne-clause-there
returns-then-ne-clause-there g c =
    let h = is_taken_from _ _ _ _ _ c.sound.ensures c.served.ensures c.requires.there c.requires.owner c.requires.fits c.requires.placed in
    mid-length _ _ _ _ _ h _ _ _ c.in-Ok.ensures

pub returns-clause-there : goal.returns-clause-there
returns-clause-there g c =
    let h = is_taken_from _ _ _ _ _ c.sound.ensures c.served.ensures c.requires.there c.requires.owner c.requires.fits c.requires.placed in
    left-length _ _ _ _ _ h _ _ _ _ c.in-Ok.ensures (search rules) c.retire_reader.ensures c.close_reader.ensures

pub returns-in-Err-clause-part : goal.returns-in-Err-clause-part
returns-in-Err-clause-part g c = record {
  does = let h = is_taken_from _ _ _ _ _ c.sound.ensures c.served.ensures c.requires.there c.requires.owner c.requires.fits c.requires.placed in
      rw c.stop_of_reader.ensures (stops-does _ _ _ _ _ h _ _ _ c.in-Err.error c.in-Err.ensures c.trap.ensures);
  fits = let h = is_taken_from _ _ _ _ _ c.sound.ensures c.served.ensures c.requires.there c.requires.owner c.requires.fits c.requires.placed in
      stops-fits _ _ _ _ _ h _ _ _ c.in-Err.error c.in-Err.ensures c.trap.ensures;
  stop = rw c.stop_of_reader.ensures (reader_scene-stops c.in-Err.error c.args.number c.args.stream);
  trapped = search rules;
  out_of_memory = let h = is_taken_from _ _ _ _ _ c.sound.ensures c.served.ensures c.requires.there c.requires.owner c.requires.fits c.requires.placed in
      rw c.stop_of_reader.ensures (stops-wants _ _ _ _ _ h _ _ _ c.in-Err.error c.in-Err.ensures c.trap.ensures);
}

pub returns-then-ne-clause-part : goal.returns-then-ne-clause-part
returns-then-ne-clause-part g c = record {
  does = let h = is_taken_from _ _ _ _ _ c.sound.ensures c.served.ensures c.requires.there c.requires.owner c.requires.fits c.requires.placed in
      taken-stays _ _ _ _ _ h _ _ c.in-Ok.ensures (search rules);
  fits = let h = is_taken_from _ _ _ _ _ c.sound.ensures c.served.ensures c.requires.there c.requires.owner c.requires.fits c.requires.placed in
      mid-fits _ _ _ _ _ h _ _ _ c.in-Ok.ensures;
  stop = search rules;
  trapped = search rules;
  out_of_memory = search rules;
}

pub returns-clause-part : goal.returns-clause-part
returns-clause-part g c = record {
  does = let h = is_taken_from _ _ _ _ _ c.sound.ensures c.served.ensures c.requires.there c.requires.owner c.requires.fits c.requires.placed in
      left-does _ _ _ _ _ h _ _ _ _ c.in-Ok.ensures (search rules) c.retire_reader.ensures c.close_reader.ensures;
  fits = let h = is_taken_from _ _ _ _ _ c.sound.ensures c.served.ensures c.requires.there c.requires.owner c.requires.fits c.requires.placed in
      left-fits _ _ _ _ _ h _ _ _ _ c.in-Ok.ensures (search rules) c.retire_reader.ensures c.close_reader.ensures;
  stop = search rules;
  trapped = search rules;
  out_of_memory = search rules;
}
