use Rattle.strm_bench.proofs.taken.Writing.work.Goals as goal

pub grant_and_write-requires : goal.grant_and_write-requires
grant_and_write-requires g c = c.requires

pub write_list-requires : goal.write_list-requires
write_list-requires g c = c.requires

pub drive-requires : goal.drive-requires
drive-requires g c = c.requires
