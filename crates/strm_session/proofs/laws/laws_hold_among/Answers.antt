use Rattle.strm_session.proofs.laws.laws_hold_among.Goals as goal

pub returns-clause-laws : goal.returns-clause-laws
returns-clause-laws c = λ old new steps a count. record {
  writers = record {
    closes = c.ends_close_exactly.ensures.moments 0 _ old new steps count;
    goes_on = λ n. c.writers_are_fed_exactly.ensures.runs _ steps count n;
    delivers = λ supplies s. c.producers_deliver_in_order.ensures 0 _ old new steps count s supplies a.few;
  };
  readers = record {
    closes = c.readers_close_exactly.ensures.moments 0 _ old new steps count;
    goes_on = λ r. c.readers_are_granted_exactly.ensures.runs _ steps count r;
    tells = λ s r. c.readers_tell_what_they_took.ensures 0 _ old new steps count s r a;
  };
  hosts = c.states_are_sound.ensures.hosts 0 _ old new steps count;
  streams = λ s unhosted unpiped. record {
    conserves = c.conservation.ensures.conserves 0 _ old new steps count s a unhosted unpiped;
    stands = λ side. c.conservation.ensures.stands 0 _ old new steps count s side a unhosted unpiped;
    passes_one = c.futures_pass_one.ensures 0 _ old new steps count s a unhosted unpiped;
    unmoved = c.unmet_has_moved_none.ensures 0 _ old new steps count s a unhosted unpiped;
  };
  written = λ s unhosted. record {
    conserves = c.conservation_among.ensures.conserves 0 _ old new steps count s a unhosted;
    passes_one = c.conservation_among.ensures.one 0 _ old new steps count s a unhosted;
    stands = λ side. c.conservation_among.ensures.stands 0 _ old new steps count s side a unhosted;
  };
  apart = λ s. c.never_two_open.ensures.apart 0 _ old new steps count s a;
  unwritten = λ s. c.never_two_open.ensures.idle 0 _ old new steps count s a;
  unread = λ s. c.never_two_open.ensures.unread 0 _ old new steps count s a;
  moves = λ s. c.unmet_moves_by_host_ends.ensures 0 _ old new steps count s a;
  counted = λ s. c.totals_are_counts.ensures 0 _ old new steps count s;
  aside = c.other_bytes_stay.ensures 0 _ old new steps count a;
  put = c.bytes_are_put.ensures 0 _ old new steps count;
  hold = c.handles_hold_their_ends.ensures.holds 0 _ old new steps count;
  single = c.handles_hold_their_ends.ensures.single 0 _ old new steps count;
  members = c.members_are_live.ensures 0 _ old new steps count;
  contexts = c.contexts_count_their_handles.ensures 0 _ old new steps count;
  sound = c.states_are_sound.ensures.sound 0 _ old new steps count;
  isolated = c.streams_are_isolated.ensures 0 _ old new steps count;
}

pub returns-clause-leads : goal.returns-clause-leads
returns-clause-leads c = λ old new steps replies end e. c.moments_lead_to_the_end.ensures _ steps replies end e

pub returns-clause-writers : goal.returns-clause-writers
returns-clause-writers c = λ old new steps replies stop writers readers e. c.ends_close_exactly.ensures.stops 0 _ old new steps replies stop writers readers e

pub returns-clause-readers : goal.returns-clause-readers
returns-clause-readers c = λ old new steps replies stop writers readers e. c.readers_close_exactly.ensures.stops 0 _ old new steps replies stop writers readers e

pub returns-clause-fed : goal.returns-clause-fed
returns-clause-fed c = λ old new steps replies stop writers readers e. c.writers_are_fed_exactly.ensures.stops _ steps replies stop writers readers e

pub returns-clause-granted : goal.returns-clause-granted
returns-clause-granted c = λ old new steps replies stop writers readers e. c.readers_are_granted_exactly.ensures.stops _ steps replies stop writers readers e

pub returns-clause-gone : goal.returns-clause-gone
returns-clause-gone c = λ old new steps replies stop writers readers e. c.ends_close_exactly.ensures.gone 0 _ old new steps replies stop writers readers e
