use Rattle.std.proofs.Common.{◌&&◌, [], get_or}
use Rattle.strm_waitable_sets.specs.Ready.{known}
use Rattle.strm_machine.specs.WaitableSets.{is_ready}
use Rattle.strm_transmit.specs.Inside.{state_of}
use Rattle.strm_transmit.specs.Telling.{member_of}
use Rattle.strm_transmit.proofs.SetLemmas.{lists_lent}
use Rattle.strm_transmit.proofs.ToldLemmas.{says_all}
use Rattle.strm_transmit.proofs.store.Store.known.Goals as goal

pub returns : goal.returns
returns c =
    let sets = c.self.inside.ready.sets in
    rw (← c.self.view_is)
    (lists_lent c.known.result (λ members. members.now) (known (get_or sets c.args.guest []) c.args.number)
    (λ n. member_of (state_of c.self.inside).guests c.args.guest c.args.number n && is_ready (state_of c.self.inside) c.args.guest n)
    c.known.ensures
    (says_all (state_of c.self.inside) c.args.guest c.args.number c.self.invariant.sound c.self.invariant.held sets c.self.invariant.told))
