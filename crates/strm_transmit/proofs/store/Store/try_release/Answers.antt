use Rattle.std.proofs.Common.{sym, ◌∙◌}
use Rattle.strm_machine.specs.declared.streams.Side.TheVariants.{Writing}
use Rattle.strm_transmit.proofs.ReleaseLemmas.{released_writes, released_unheld, known_release, after_some, release_fits, release_knows}
use Rattle.strm_transmit.proofs.store.Store.try_release.Goals as goal

pub retire-requires-clause-serves : goal.retire-requires-clause-serves
retire-requires-clause-serves c =
    rw c.end_stream.ensures
    (c.served.ensures.serves Writing c.in-Some.number c.args.reader
    (released_writes c.args.self.now c.args.reader c.in-Some.number (sym c.releasable-released.ensures ∙ c.in-Some.is)))

pub returns-in-Some-clause-exact : goal.returns-in-Some-clause-exact
returns-in-Some-clause-exact c tells h =
    sym c.in-Some.is ∙ c.releasable-released.ensures ∙ known_release c.args.self.now tells c.args.reader c.served.ensures h

pub returns-in-Some-clause-fits : goal.returns-in-Some-clause-fits
returns-in-Some-clause-fits c tells fits =
    release_fits c.args.self.now c.args.reader c.served.ensures c.retire.new.self
    (after_some c.args.self.now c.end_stream.new.self c.retire.new.self c.args.reader c.in-Some.number (sym c.releasable-released.ensures ∙ c.in-Some.is) c.end_stream.ensures c.retire.ensures)
    tells fits

pub returns-in-Some-clause-known : goal.returns-in-Some-clause-known
returns-in-Some-clause-known c tells h =
    release_knows c.args.self.now c.args.reader c.served.ensures c.retire.new.self
    (after_some c.args.self.now c.end_stream.new.self c.retire.new.self c.args.reader c.in-Some.number (sym c.releasable-released.ensures ∙ c.in-Some.is) c.end_stream.ensures c.retire.ensures)
    tells h

pub returns-in_default-clause-exact : goal.returns-in_default-clause-exact
returns-in_default-clause-exact c tells h =
    c.releasable-released.ensures ∙ known_release c.args.self.now tells c.args.reader c.served.ensures h

pub end_stream-requires-clause-unheld : goal.end_stream-requires-clause-unheld
end_stream-requires-clause-unheld c =
    released_unheld c.args.self.now c.args.reader c.in-Some.number (sym c.releasable-released.ensures ∙ c.in-Some.is)
