-- The refusals' numbers and names. Ours.
use Rattle.std.specs.Prelude.{ℕ, List, codes}
use Rattle.strm_codes.specs.declared.refusals.Refusal.{Refusal}
use Rattle.strm_codes.specs.declared.refusals.Refusal.TheVariants.{UnknownGuest, UnknownHost, HostUsed, UnknownReader, StreamOpTooBig, OutOfBounds, NotAligned, UnknownHandle, WrongKind, WrongType, WrongEnd, ConcurrentFutureStreamOp, Busy, NoPending, CancelUnderWay, WriteToDroppedStream, WriteToDroppedFuture, ReadFromDroppedStream, FutureAlreadyRead, IntraComponent, LiftDropped, LiftInSet, SetNotEmpty, FutureWithoutValue, IndexOverflow, HandleLimit, Full, MemoryTooBig, BadText, MessageTooLong}

-- a refusal's number, from 1 on
abbrev pub refusal_number : Refusal → ℕ
refusal_number UnknownGuest = 1
refusal_number UnknownHost = 2
refusal_number HostUsed = 3
refusal_number UnknownReader = 4
refusal_number StreamOpTooBig = 5
refusal_number OutOfBounds = 6
refusal_number NotAligned = 7
refusal_number UnknownHandle = 8
refusal_number WrongKind = 9
refusal_number WrongType = 10
refusal_number WrongEnd = 11
refusal_number ConcurrentFutureStreamOp = 12
refusal_number Busy = 13
refusal_number NoPending = 14
refusal_number CancelUnderWay = 15
refusal_number WriteToDroppedStream = 16
refusal_number WriteToDroppedFuture = 17
refusal_number ReadFromDroppedStream = 18
refusal_number FutureAlreadyRead = 19
refusal_number IntraComponent = 20
refusal_number LiftDropped = 21
refusal_number LiftInSet = 22
refusal_number SetNotEmpty = 23
refusal_number FutureWithoutValue = 24
refusal_number IndexOverflow = 25
refusal_number HandleLimit = 26
refusal_number Full = 27
refusal_number MemoryTooBig = 28
refusal_number BadText = 29
refusal_number MessageTooLong = 30

-- its name, as a reply prints it
abbrev pub refusal_name : Refusal → List ℕ
refusal_name UnknownGuest = codes "UnknownGuest"
refusal_name UnknownHost = codes "UnknownHost"
refusal_name HostUsed = codes "HostUsed"
refusal_name UnknownReader = codes "UnknownReader"
refusal_name StreamOpTooBig = codes "StreamOpTooBig"
refusal_name OutOfBounds = codes "OutOfBounds"
refusal_name NotAligned = codes "NotAligned"
refusal_name UnknownHandle = codes "UnknownHandle"
refusal_name WrongKind = codes "WrongKind"
refusal_name WrongType = codes "WrongType"
refusal_name WrongEnd = codes "WrongEnd"
refusal_name ConcurrentFutureStreamOp = codes "ConcurrentFutureStreamOp"
refusal_name Busy = codes "Busy"
refusal_name NoPending = codes "NoPending"
refusal_name CancelUnderWay = codes "CancelUnderWay"
refusal_name WriteToDroppedStream = codes "WriteToDroppedStream"
refusal_name WriteToDroppedFuture = codes "WriteToDroppedFuture"
refusal_name ReadFromDroppedStream = codes "ReadFromDroppedStream"
refusal_name FutureAlreadyRead = codes "FutureAlreadyRead"
refusal_name IntraComponent = codes "IntraComponent"
refusal_name LiftDropped = codes "LiftDropped"
refusal_name LiftInSet = codes "LiftInSet"
refusal_name SetNotEmpty = codes "SetNotEmpty"
refusal_name FutureWithoutValue = codes "FutureWithoutValue"
refusal_name IndexOverflow = codes "IndexOverflow"
refusal_name HandleLimit = codes "HandleLimit"
refusal_name Full = codes "Full"
refusal_name MemoryTooBig = codes "MemoryTooBig"
refusal_name BadText = codes "BadText"
refusal_name MessageTooLong = codes "MessageTooLong"
