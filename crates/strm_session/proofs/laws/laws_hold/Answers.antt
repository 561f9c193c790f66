use Rattle.strm_session.proofs.laws.laws_hold.Goals as goal

pub returns-clause-laws : goal.returns-clause-laws
returns-clause-laws c = λ steps a. record {
  conserves = λ s. c.conservation.ensures.conserves 0 _ steps s a;
  stands = λ s side. c.conservation.ensures.stands 0 _ steps s side a;
  passes_one = λ s. c.futures_pass_one.ensures 0 _ steps s a;
  apart = λ s. c.never_two_open.ensures 0 _ steps s a;
  unmoved = λ s. c.unmet_has_moved_none.ensures 0 _ steps s a;
  counted = λ s. c.totals_are_counts.ensures 0 _ steps s a;
  hold = c.handles_hold_their_ends.ensures.holds 0 _ steps;
  single = c.handles_hold_their_ends.ensures.single 0 _ steps;
  members = c.members_are_live.ensures 0 _ steps;
  contexts = c.contexts_count_their_handles.ensures 0 _ steps;
  sound = c.states_are_sound.ensures 0 _ steps;
}

pub returns-clause-aside : goal.returns-clause-aside
returns-clause-aside c = λ steps step a. c.other_bytes_stay.ensures 0 _ steps step a

pub returns-clause-put : goal.returns-clause-put
returns-clause-put c = λ steps step a. c.bytes_are_put.ensures 0 _ steps step
