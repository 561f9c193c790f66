use Rattle.strm_bench.proofs.time_reading.Goals as goal

pub work-done-requires : goal.work-done-requires
work-done-requires g c = c.requires
