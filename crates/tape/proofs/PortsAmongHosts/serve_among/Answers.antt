-- What is taken among the program's host ends.
use Rattle.std.proofs.Common.{sym, ◌∙◌}
use Rattle.tape.proofs.OutcomeLemmas.{takes_among}
use Rattle.tape.proofs.PortsAmongHosts.serve_among.Goals as goal

pub returns : goal.returns
returns g c =
    let taken = c.tape_take.ensures in (
      (
        _,
        takes_among _ _ _ _ c.from.ensures _ _ _ _ c.requires.writers c.requires.readers (record {
          known = taken.known;
          writes = taken.writes;
          read = taken.read;
          goes_on = taken.goes_on;
          complete = taken.complete;
        }),
      ),
      (λ e. taken.nothing (sym c.from.ensures ∙ e)),
    )
