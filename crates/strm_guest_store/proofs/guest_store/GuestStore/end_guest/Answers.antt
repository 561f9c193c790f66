-- A store among guests stays one as a guest ends, and all others stay as they were.
use Rattle.strm_guest_store.proofs.LivesLemmas.{ended_among, ended_nothing, ended_others, ended_stays}
use Rattle.strm_guest_store.proofs.guest_store.GuestStore.end_guest.Goals as goal

pub invariant_of-self : goal.invariant_of-self
invariant_of-self c =
    ended_among c.self.inside.store c.end_guest.new.self c.args.guest c.end_guest.result c.self.invariant c.end_guest.ensures.ok c.end_guest.ensures.nothing c.end_guest.ensures.stays c.end_guest.ensures.err c.end_guest.ensures.fits

pub returns-clause-nothing : goal.returns-clause-nothing
returns-clause-nothing c =
    ended_nothing c.self.inside.store c.end_guest.new.self c.args.guest c.end_guest.result c.self.invariant c.end_guest.ensures.nothing

pub returns-clause-others : goal.returns-clause-others
returns-clause-others c =
    rw (← c.self.view_is)
    (ended_others c.self.inside.store c.end_guest.new.self c.args.guest c.end_guest.result c.end_guest.ensures.ok c.end_guest.ensures.err)

pub returns-clause-stays : goal.returns-clause-stays
returns-clause-stays c =
    rw (← c.self.view_is)
    (ended_stays c.self.inside.store c.end_guest.new.self c.args.guest c.end_guest.result c.end_guest.ensures.ok c.end_guest.ensures.err)
