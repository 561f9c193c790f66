use Rattle.strm_transmit.proofs.SceneStoreLemmas.{number_kept}
use Rattle.strm_transmit.proofs.store.Store.unless_spent.Goals as goal

pub bounds-self-inside-number : goal.bounds-self-inside-number
bounds-self-inside-number c = number_kept c.self.inside c.args.self.now c.args.number c.args.stream c.self.view_is c.self.invariant c.requires.owner
