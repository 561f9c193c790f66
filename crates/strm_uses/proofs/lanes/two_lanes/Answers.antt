use Rattle.strm_uses.proofs.LaneFacts.{two_told}
use Rattle.strm_uses.proofs.lanes.two_lanes.Goals as goal

pub returns-clause-first : goal.returns-clause-first
returns-clause-first c =
    (two_told c.feed-2.new.self c.end.new.self c.args.first.now c.args.second.now _ _ c.bytes-bytes.result.now _ c.one_reading.ensures.splits
    (c.in_ok-end.ensures.carries _ (c.in_ok-put-2.ensures.carries _ (c.in_ok-put.ensures.carries _ c.new-mux.ensures.carries)))
    (c.in_ok-feed-2.ensures.ok _ (c.in_ok-feed.ensures.ok _ c.new-demux.ensures.fed))
    c.split_at.ensures.front c.split_at.ensures.back c.bytes-bytes.ensures.bytes).first

pub returns-clause-second : goal.returns-clause-second
returns-clause-second c =
    (two_told c.feed-2.new.self c.end.new.self c.args.first.now c.args.second.now _ _ c.bytes-bytes.result.now _ c.one_reading.ensures.splits
    (c.in_ok-end.ensures.carries _ (c.in_ok-put-2.ensures.carries _ (c.in_ok-put.ensures.carries _ c.new-mux.ensures.carries)))
    (c.in_ok-feed-2.ensures.ok _ (c.in_ok-feed.ensures.ok _ c.new-demux.ensures.fed))
    c.split_at.ensures.front c.split_at.ensures.back c.bytes-bytes.ensures.bytes).second

pub returns-clause-ended : goal.returns-clause-ended
returns-clause-ended c =
    (two_told c.feed-2.new.self c.end.new.self c.args.first.now c.args.second.now _ _ c.bytes-bytes.result.now _ c.one_reading.ensures.splits
    (c.in_ok-end.ensures.carries _ (c.in_ok-put-2.ensures.carries _ (c.in_ok-put.ensures.carries _ c.new-mux.ensures.carries)))
    (c.in_ok-feed-2.ensures.ok _ (c.in_ok-feed.ensures.ok _ c.new-demux.ensures.fed))
    c.split_at.ensures.front c.split_at.ensures.back c.bytes-bytes.ensures.bytes).ended

pub returns-clause-unended : goal.returns-clause-unended
returns-clause-unended c =
    (two_told c.feed-2.new.self c.end.new.self c.args.first.now c.args.second.now _ _ c.bytes-bytes.result.now _ c.one_reading.ensures.splits
    (c.in_ok-end.ensures.carries _ (c.in_ok-put-2.ensures.carries _ (c.in_ok-put.ensures.carries _ c.new-mux.ensures.carries)))
    (c.in_ok-feed-2.ensures.ok _ (c.in_ok-feed.ensures.ok _ c.new-demux.ensures.fed))
    c.split_at.ensures.front c.split_at.ensures.back c.bytes-bytes.ensures.bytes).unended

pub returns-clause-rest : goal.returns-clause-rest
returns-clause-rest c =
    (two_told c.feed-2.new.self c.end.new.self c.args.first.now c.args.second.now _ _ c.bytes-bytes.result.now _ c.one_reading.ensures.splits
    (c.in_ok-end.ensures.carries _ (c.in_ok-put-2.ensures.carries _ (c.in_ok-put.ensures.carries _ c.new-mux.ensures.carries)))
    (c.in_ok-feed-2.ensures.ok _ (c.in_ok-feed.ensures.ok _ c.new-demux.ensures.fed))
    c.split_at.ensures.front c.split_at.ensures.back c.bytes-bytes.ensures.bytes).rest
