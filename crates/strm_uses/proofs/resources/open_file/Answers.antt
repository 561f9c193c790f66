use Rattle.strm_resources.proofs.EntryLemmas.{value_at-new}
use Rattle.strm_uses.specs.declared.resources.Place.TheVariants.{File}
use Rattle.strm_uses.proofs.resources.open_file.Goals as goal

pub returns-clause-found : goal.returns-clause-found
returns-clause-found c =
    value_at-new c.args.table.now.entries c.links_have_both_ends.ensures.well_kept (File c.args.file) c.push.new.self.entries c.push.result c.push.ensures.number c.push.ensures.ok
