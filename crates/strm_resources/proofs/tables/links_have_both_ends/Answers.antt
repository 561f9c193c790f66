use Rattle.strm_resources.specs.WellKept.{IsWellKept}
use Rattle.strm_resources.proofs.EntryLemmas.{parent_where_child, freed_has_none, next_has_none}
use Rattle.strm_resources.proofs.tables.links_have_both_ends.Goals as goal

pub returns : goal.returns
returns g c =
    let well : IsWellKept c.args.table.now.entries = rw (← c.table.view_is) (record { alike = c.table.invariant; kept = c.are_kept.ensures }) in
    record {
      well_kept = well;
      links = parent_where_child c.args.table.now.entries well;
      freed = freed_has_none c.args.table.now.entries well;
      next = next_has_none c.args.table.now.entries well;
    }
