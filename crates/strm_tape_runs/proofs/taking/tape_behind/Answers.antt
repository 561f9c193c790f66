use Rattle.std.proofs.Common.{arith}
use Rattle.strm_tape_runs.specs.Marks.{writer_behind, reader_behind}
use Rattle.strm_tape_runs.proofs.ZipLemmas.{few_made}
use Rattle.strm_tape_runs.proofs.taking.tape_behind.Goals as goal

pub new-requires : goal.new-requires
new-requires g c = record {
  few_steps = omega (arith, c.requires.few);
  steps = c.requires.steps;
  few_writers = few_made writer_behind _ c.deref.ensures.value c.requires.few_writers c.in_ok-writers.ensures.tapes;
  writers = c.in_ok-writers.ensures.sound;
  few_readers = few_made reader_behind _ c.deref-2.ensures.value c.requires.few_readers c.in_ok-readers.ensures.tapes;
  readers = c.in_ok-readers.ensures.sound;
}
