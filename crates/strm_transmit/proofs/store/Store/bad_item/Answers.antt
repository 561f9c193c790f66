use Rattle.std.proofs.Common.{sym, arith}
use Rattle.std.proofs.lemmas.Grind.{common_steps}
use Rattle.strm_transmit.proofs.BadItemLemmas.{is_found, found_held}
use Rattle.strm_transmit.proofs.OperationLemmas.{found_ok}
use Rattle.strm_transmit.proofs.store.Store.bad_item.Goals as goal

pub writer-guest-requires : goal.writer-guest-requires
writer-guest-requires c =
    let found = found_ok _ c.in-Ok.found _ c.in-Ok.ensures.exact in
    found_held c.args.self.now c.args.side c.args.end.now c.args.address c.args.count c.sound.ensures c.held.ensures c.requires.owned found.none
    c.in-Ok.found c.stream-stream.result.now c.in-Some.theirs found.same c.stream-stream.ensures (sym c.in-Some.ensures)

pub returns-clause-some : goal.returns-clause-some
returns-clause-some c =
    let found = found_ok _ c.in-Ok.found _ c.in-Ok.ensures.exact in
    rw c.as_u32.ensures.exact
    (is_found c.args.self.now c.args.side c.args.end.now c.args.address c.args.count
    (record {
      found = c.in-Ok.found;
      stream = c.stream-stream.result.now;
      theirs = c.in-Some.theirs;
      mine = c.begin-mine.result;
      write = c.write_of-write.result.now;
      both = c.lesser-both.result;
      place = c.in-Some-first_bad_of.place;
      owner = c.writer-guest.result;
    })
    (record {
      none = found.none;
      same = found.same;
      is = c.stream-stream.ensures;
      across = sym c.in-Some.ensures;
      begins = c.begin-mine.ensures;
      writes = c.write_of-write.ensures;
      both_is = c.lesser-both.ensures;
      some = grind (arith, common_steps);
      first = rw (← c.payload.ensures) c.in-Some-first_bad_of.ensures.some;
      writer = c.writer-guest.ensures;
    }))
