-- The mark of a step, by its line's words, the end that its handle names, and the reply. Ours.
use Rattle.std.specs.Prelude.{ℕ, List, length, Option, Some, None}
use Rattle.strm_codes.specs.declared.codes.ReturnCode.{ReturnCode}
use Rattle.strm_codes.specs.declared.codes.ReturnCode.TheVariants as codes
use Rattle.strm_codes.specs.declared.codes.TransmitIndex.{TransmitIndex}
use Rattle.strm_codes.specs.declared.codes.TransmitIndex.TheVariants as index
use Rattle.strm_machine.specs.declared.replies.Member.{Member}
use Rattle.strm_machine.specs.declared.replies.Reply.{Reply}
use Rattle.strm_machine.specs.declared.replies.Reply.TheVariants as replies
use Rattle.strm_machine.specs.declared.steps.Step.{Step}
use Rattle.strm_machine.specs.declared.steps.Step.TheVariants as steps
use Rattle.strm_transmit.specs.declared.store.queries.EndInfo.{EndInfo}
use Rattle.strm_drawing.specs.declared.arrows.Lane.{Lane}
use Rattle.strm_drawing.specs.declared.arrows.Lane.TheVariants.{Guest, Writer, Reader, Nobody}
use Rattle.strm_drawing.specs.declared.marks.Deed.{Deed}
use Rattle.strm_drawing.specs.declared.marks.Deed.TheVariants as deeds
use Rattle.strm_drawing.specs.declared.marks.DrawnCode.{DrawnCode}
use Rattle.strm_drawing.specs.declared.marks.DrawnCode.TheVariants as drawn
use Rattle.strm_drawing.specs.declared.marks.Object.{Object}
use Rattle.strm_drawing.specs.declared.marks.Object.TheVariants as objects
use Rattle.strm_drawing.specs.declared.marks.Said.{Said}
use Rattle.strm_drawing.specs.declared.marks.Said.TheVariants as said
use Rattle.strm_drawing.specs.declared.marks.Mark.{Mark}

-- what is drawn of a code: its word, and its count in items
abbrev pub drawn_code : ReturnCode → DrawnCode
drawn_code codes.Blocked = drawn.Blocked
drawn_code (codes.Completed n) = drawn.Completed n
drawn_code (codes.Dropped n) = drawn.Dropped n
drawn_code (codes.Cancelled n) = drawn.Cancelled n

-- and of a member of a set that was told one
abbrev pub drawn_member : Member → Said
drawn_member member = said.Member member.handle (drawn_code member.code)

-- what is drawn of a reply; a run has no reply of the last two kinds
abbrev pub answer_of : Reply → Said
answer_of replies.Done = said.Done
answer_of (replies.Number n) = said.Number n
answer_of (replies.Pair pair) = said.Pair pair
answer_of (replies.Code code) = said.Code (drawn_code code)
answer_of (replies.Event (Some code)) = said.Code (drawn_code code)
answer_of (replies.Event None) = said.Nothing
answer_of (replies.Member (Some member)) = drawn_member member
answer_of (replies.Member None) = said.Nothing
answer_of (replies.Bytes bytes) = said.Done
answer_of (replies.Refused refusal) = said.Refused refusal
answer_of (replies.BadItem stream) = said.Nothing
answer_of replies.StoreTrapped = said.Nothing

-- the lane of the guest that a reply says was made
abbrev pub made_guest : Reply → Lane
made_guest (replies.Number n) = Guest n
made_guest _ = Nobody

-- the kind of a step
abbrev pub deed_of : Step → Deed
deed_of (steps.Guest size) = deeds.Guest
deed_of (steps.New guest ty) = deeds.New
deed_of (steps.Between writer reader ty) = deeds.Pair
deed_of (steps.Write guest ty handle address count) = deeds.Write
deed_of (steps.Read guest ty handle address count) = deeds.Read
deed_of (steps.DropWrite guest ty handle) = deeds.DropWrite
deed_of (steps.DropRead guest ty handle) = deeds.DropRead
deed_of (steps.CancelWrite guest ty handle) = deeds.CancelWrite
deed_of (steps.CancelRead guest ty handle) = deeds.CancelRead
deed_of (steps.Move guest ty handle to) = deeds.Move
deed_of (steps.Lift guest ty handle) = deeds.Lift
deed_of (steps.Lower reader guest ty) = deeds.Lower
deed_of (steps.Close reader) = deeds.Close
deed_of (steps.HostNew host) = deeds.Host
deed_of (steps.Feed host bytes) = deeds.Feed
deed_of (steps.Pipe reader host) = deeds.Pipe
deed_of (steps.Grant host count) = deeds.Grant
deed_of steps.Drive = deeds.Drive
deed_of (steps.Event guest handle) = deeds.Event
deed_of (steps.SetNew guest) = deeds.SetNew
deed_of (steps.SetJoin guest set handle) = deeds.SetJoin
deed_of (steps.SetPoll guest set) = deeds.SetPoll
deed_of (steps.SetDrop guest set) = deeds.SetDrop
deed_of (steps.ErrNew guest address len) = deeds.ErrNew
deed_of (steps.ErrText guest handle address) = deeds.ErrText
deed_of (steps.ErrMove guest handle to) = deeds.ErrMove
deed_of (steps.ErrDrop guest handle) = deeds.ErrDrop
deed_of (steps.Poke guest address bytes) = deeds.Poke
deed_of (steps.Dump guest address len) = deeds.Dump

-- the lane of a step: that of its guest, of the guest that it made, of the guest that is to write, or of its
-- host end
abbrev pub lane_of_step : Step → Reply → Lane
lane_of_step (steps.Guest size) reply = made_guest reply
lane_of_step (steps.New guest ty) reply = Guest guest
lane_of_step (steps.Between writer reader ty) reply = Guest writer
lane_of_step (steps.Write guest ty handle address count) reply = Guest guest
lane_of_step (steps.Read guest ty handle address count) reply = Guest guest
lane_of_step (steps.DropWrite guest ty handle) reply = Guest guest
lane_of_step (steps.DropRead guest ty handle) reply = Guest guest
lane_of_step (steps.CancelWrite guest ty handle) reply = Guest guest
lane_of_step (steps.CancelRead guest ty handle) reply = Guest guest
lane_of_step (steps.Move guest ty handle to) reply = Guest guest
lane_of_step (steps.Lift guest ty handle) reply = Guest guest
lane_of_step (steps.Lower reader guest ty) reply = Guest guest
lane_of_step (steps.Close reader) reply = Nobody
lane_of_step (steps.HostNew host) reply = Writer host
lane_of_step (steps.Feed host bytes) reply = Writer host
lane_of_step (steps.Pipe reader host) reply = Reader host
lane_of_step (steps.Grant host count) reply = Reader host
lane_of_step steps.Drive reply = Nobody
lane_of_step (steps.Event guest handle) reply = Guest guest
lane_of_step (steps.SetNew guest) reply = Guest guest
lane_of_step (steps.SetJoin guest set handle) reply = Guest guest
lane_of_step (steps.SetPoll guest set) reply = Guest guest
lane_of_step (steps.SetDrop guest set) reply = Guest guest
lane_of_step (steps.ErrNew guest address len) reply = Guest guest
lane_of_step (steps.ErrText guest handle address) reply = Guest guest
lane_of_step (steps.ErrMove guest handle to) reply = Guest guest
lane_of_step (steps.ErrDrop guest handle) reply = Guest guest
lane_of_step (steps.Poke guest address bytes) reply = Guest guest
lane_of_step (steps.Dump guest address len) reply = Guest guest

-- the lane that it leads to, of a step that gives something to another guest
abbrev pub other_lane : Step → Lane
other_lane (steps.Between writer reader ty) = Guest reader
other_lane (steps.Move guest ty handle to) = Guest to
other_lane (steps.ErrMove guest handle to) = Guest to
other_lane _ = Nobody

-- the stream of an end that is there, or else the handle that was to name it
abbrev pub end_object : ℕ → Option EndInfo → Object
end_object handle (Some end) = objects.Stream end.stream
end_object handle None = objects.Handle handle

-- what a step is done to, by the end that its handle names
abbrev pub object_of : Step → Option EndInfo → Object
object_of (steps.Write guest ty handle address count) named = end_object handle named
object_of (steps.Read guest ty handle address count) named = end_object handle named
object_of (steps.DropWrite guest ty handle) named = end_object handle named
object_of (steps.DropRead guest ty handle) named = end_object handle named
object_of (steps.CancelWrite guest ty handle) named = end_object handle named
object_of (steps.CancelRead guest ty handle) named = end_object handle named
object_of (steps.Move guest ty handle to) named = end_object handle named
object_of (steps.Lift guest ty handle) named = end_object handle named
object_of (steps.Event guest handle) named = end_object handle named
object_of (steps.SetJoin guest set handle) named = end_object handle named
object_of (steps.Lower reader guest ty) named = objects.Stream reader
object_of (steps.Close reader) named = objects.Stream reader
object_of (steps.Pipe reader host) named = objects.Stream reader
object_of (steps.SetPoll guest set) named = objects.Handle set
object_of (steps.SetDrop guest set) named = objects.Handle set
object_of (steps.ErrText guest handle address) named = objects.Handle handle
object_of (steps.ErrMove guest handle to) named = objects.Handle handle
object_of (steps.ErrDrop guest handle) named = objects.Handle handle
object_of _ named = objects.Nothing

-- how many items a read or write asks for; of a future nothing is said
abbrev pub items_in : TransmitIndex → ℕ → Option ℕ
items_in (index.Stream payload) count = Some count
items_in (index.Future payload) count = None

-- how many bytes there are
abbrev pub bytes_in : List ℕ → Option ℕ
bytes_in bytes = Some (length bytes)

-- the number that the line of a step says beside guests, host ends, streams and handles
abbrev pub count_in : Step → Option ℕ
count_in (steps.Guest size) = Some size
count_in (steps.Write guest ty handle address count) = items_in ty count
count_in (steps.Read guest ty handle address count) = items_in ty count
count_in (steps.Feed host bytes) = bytes_in bytes
count_in (steps.Grant host count) = Some count
count_in (steps.SetJoin guest set handle) = Some set
count_in (steps.ErrNew guest address len) = Some len
count_in (steps.Poke guest address bytes) = bytes_in bytes
count_in (steps.Dump guest address len) = Some len
count_in _ = None

-- the mark of a step
abbrev pub mark_of : Step → Option EndInfo → Reply → Mark
mark_of step named reply = record {
  deed = deed_of step;
  lane = lane_of_step step reply;
  other = other_lane step;
  object = object_of step named;
  count = count_in step;
  said = answer_of reply;
}
