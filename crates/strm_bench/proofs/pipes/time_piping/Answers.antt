use Rattle.strm_bench.proofs.pipes.time_piping.Goals as goal

pub work-done-requires : goal.work-done-requires
work-done-requires g c = c.requires
