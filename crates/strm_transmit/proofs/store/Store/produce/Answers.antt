use Rattle.std.proofs.Common.{rules}
use Rattle.strm_transmit.proofs.WriterTurnLemmas.{stream_goes, is_served, mid-made, mid-length, mid-fits, mid-duty, told-there, produced-stays, stop-stops, stops-does, stops-fits, stops-length, stops-wants, left-does, left-fits_as, left-length}
use Rattle.strm_transmit.proofs.store.Store.produce.Goals as goal

pub stream-requires : goal.stream-requires
stream-requires g c =
    let h = is_served _ _ _ _ _ c.sound.ensures c.served.ensures c.requires.there c.requires.owner c.requires.fits c.requires.placed in
    mid-made _ _ _ _ _ h _ _ _ c.in-Ok.ensures

pub retire-requires-clause-serves : goal.retire-requires-clause-serves
retire-requires-clause-serves g c =
    let h = is_served _ _ _ _ _ c.sound.ensures c.served.ensures c.requires.there c.requires.owner c.requires.fits c.requires.placed in
    mid-duty _ _ _ _ _ h _ _ _ c.in-Ok.ensures

pub retire-requires-clause-gone : goal.retire-requires-clause-gone
retire-requires-clause-gone g c = search rules

pub close_writer-requires : goal.close_writer-requires
close_writer-requires g c =
    let h = is_served _ _ _ _ _ c.sound.ensures c.served.ensures c.requires.there c.requires.owner c.requires.fits c.requires.placed in
    told-there _ _ _ _ _ h _ _ _ c.in-Ok.ensures

pub returns-in-Err-clause-there : goal.returns-in-Err-clause-there
returns-in-Err-clause-there g c =
    let h = is_served _ _ _ _ _ c.sound.ensures c.served.ensures c.requires.there c.requires.owner c.requires.fits c.requires.placed in
    stops-length _ _ _ _ _ h _ _ _ c.in-Err.error c.in-Err.ensures c.trap.ensures

pub returns-in-Err-clause-held : goal.returns-in-Err-clause-held
returns-in-Err-clause-held g c = λ some. absurd (stream_goes _ _ _ _ _ _ _ c.in-Err.error c.in-Err.ensures some)

pub returns-then-ne-clause-there : goal.returns-then-ne-clause-there
returns-then-ne-clause-there g c =
    let h = is_served _ _ _ _ _ c.sound.ensures c.served.ensures c.requires.there c.requires.owner c.requires.fits c.requires.placed in
    mid-length _ _ _ _ _ h _ _ _ c.in-Ok.ensures

pub returns-clause-there : goal.returns-clause-there
returns-clause-there g c =
    let h = is_served _ _ _ _ _ c.sound.ensures c.served.ensures c.requires.there c.requires.owner c.requires.fits c.requires.placed in
    left-length _ _ _ _ _ h _ _ _ _ c.in-Ok.ensures (search rules) c.close_writer.ensures.closes c.retire.ensures c.close_writer.ensures.others

pub returns-in-Err-clause-part : goal.returns-in-Err-clause-part
returns-in-Err-clause-part g c = record {
  does = let h = is_served _ _ _ _ _ c.sound.ensures c.served.ensures c.requires.there c.requires.owner c.requires.fits c.requires.placed in
      rw c.stop_of_writer.ensures (stops-does _ _ _ _ _ h _ _ _ c.in-Err.error c.in-Err.ensures c.trap.ensures);
  fits = let h = is_served _ _ _ _ _ c.sound.ensures c.served.ensures c.requires.there c.requires.owner c.requires.fits c.requires.placed in
      stops-fits _ _ _ _ _ h _ _ _ c.in-Err.error c.in-Err.ensures c.trap.ensures;
  stop = rw c.stop_of_writer.ensures (stop-stops c.in-Err.error c.args.number);
  trapped = search rules;
  out_of_memory = let h = is_served _ _ _ _ _ c.sound.ensures c.served.ensures c.requires.there c.requires.owner c.requires.fits c.requires.placed in
      rw c.stop_of_writer.ensures (stops-wants _ _ _ _ _ h _ _ _ c.in-Err.error c.in-Err.ensures c.trap.ensures);
}

pub returns-then-ne-clause-part : goal.returns-then-ne-clause-part
returns-then-ne-clause-part g c = record {
  does = let h = is_served _ _ _ _ _ c.sound.ensures c.served.ensures c.requires.there c.requires.owner c.requires.fits c.requires.placed in
      produced-stays _ _ _ _ _ h _ _ c.in-Ok.ensures (search rules);
  fits = let h = is_served _ _ _ _ _ c.sound.ensures c.served.ensures c.requires.there c.requires.owner c.requires.fits c.requires.placed in
      mid-fits _ _ _ _ _ h _ _ _ c.in-Ok.ensures;
  stop = search rules;
  trapped = search rules;
  out_of_memory = search rules;
}

pub returns-clause-part : goal.returns-clause-part
returns-clause-part g c = record {
  does = let h = is_served _ _ _ _ _ c.sound.ensures c.served.ensures c.requires.there c.requires.owner c.requires.fits c.requires.placed in
      left-does _ _ _ _ _ h _ _ _ _ c.in-Ok.ensures (search rules) c.close_writer.ensures.closes c.retire.ensures c.close_writer.ensures.others;
  fits = let h = is_served _ _ _ _ _ c.sound.ensures c.served.ensures c.requires.there c.requires.owner c.requires.fits c.requires.placed in
      left-fits_as _ _ _ _ _ h _ _ _ _ c.in-Ok.ensures (search rules) c.close_writer.ensures.closes c.retire.ensures c.close_writer.ensures.others;
  stop = search rules;
  trapped = search rules;
  out_of_memory = search rules;
}
