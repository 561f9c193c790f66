use Rattle.std.proofs.Common.{arith, refl}
use Rattle.strm_frames.specs.Frames.{Data, End}
use Rattle.strm_frames.proofs.FrontLemmas.{part_sound}
use Rattle.strm_frames.proofs.CompletingLemmas.{stops_whole, stops_other, stops_empty, more_within}
use Rattle.strm_frames.proofs.taking.front_len.Goals as goal

pub overflow_sub-result : goal.overflow_sub-result
overflow_sub-result c = more_within (Data c.in-Data.lane c.in-Data.bytes.now) c.args.bytes.now c.in-Data.more.now (λ i. omega (arith, c.type_inv.bytes i)) c.in-Data.ensures

pub overflow_sub-result-in-End : goal.overflow_sub-result-in-End
overflow_sub-result-in-End c = more_within (End c.in-End.lane) c.args.bytes.now c.in-End.more.now (λ i. omega (arith, c.type_inv.bytes i)) c.in-End.ensures

pub returns-in-Data : goal.returns-in-Data
returns-in-Data c =
    let s = stops_whole (Data c.in-Data.lane c.in-Data.bytes.now) c.args.bytes.now c.in-Data.more.now _ (λ i. omega (arith, c.type_inv.bytes i)) c.in-Data.ensures refl in
    record { part = λ q. cc; some = (s.some, s.within); stops = s.stops }

pub returns-in-End : goal.returns-in-End
returns-in-End c =
    let s = stops_whole (End c.in-End.lane) c.args.bytes.now c.in-End.more.now _ (λ i. omega (arith, c.type_inv.bytes i)) c.in-End.ensures refl in
    record { part = λ q. cc; some = (s.some, s.within); stops = s.stops }

pub returns-in-Part-clause-part : goal.returns-in-Part-clause-part
returns-in-Part-clause-part c = λ q. part_sound c.args.bytes.now (λ i. omega (arith, c.type_inv.bytes i)) c.in-Part.ensures

pub returns-in-Other : goal.returns-in-Other
returns-in-Other c =
    let s = stops_other c.args.bytes.now _ c.in-Other.ensures refl in
    record { part = λ q. cc; some = (s.some, s.within); stops = s.stops }

pub returns-in-Empty : goal.returns-in-Empty
returns-in-Empty c =
    let s = stops_empty c.args.bytes.now _ c.in-Empty.ensures refl in
    record { part = λ q. cc; some = (s.some, s.within); stops = s.stops }
