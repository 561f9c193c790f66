use Rattle.strm_tape_runs.specs.Marks.{FairTaking}
use Rattle.strm_tape_runs.proofs.ZipLemmas.{behind_all}
use Rattle.strm_tape_runs.proofs.taking.push_reader_record.Goals as goal

pub sound_reader_record-requires : goal.sound_reader_record-requires
sound_reader_record-requires g c =
    behind_all FairTaking _ c.args.mark.now.records c.args.index c.reader_record_at-said.result c.requires.behind c.reader_record_at-said.ensures c.requires.tapable.taken
