use Rattle.strm_bench.proofs.hosted.Reading.work.Goals as goal

pub feed_and_read-requires : goal.feed_and_read-requires
feed_and_read-requires g c = c.requires

pub read_list-requires : goal.read_list-requires
read_list-requires g c = c.requires
