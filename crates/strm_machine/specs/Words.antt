-- The words that most proofs of this crate and of the laws use, from one place. Ours.
pub use Rattle.strm_codes.specs.Layout.{item_type}
pub use Rattle.strm_codes.specs.ItemTypes.{ItemType, item_size}
pub use Rattle.strm_codes.specs.Types.{kind_of, payload_of}
pub use Rattle.strm_codes.specs.declared.codes.ReturnCode.{ReturnCode}
pub use Rattle.strm_codes.specs.declared.codes.TransmitIndex.{TransmitIndex}
pub use Rattle.strm_codes.specs.declared.codes.TransmitKind.{TransmitKind}
pub use Rattle.strm_codes.specs.declared.codes.TransmitKind.TheVariants.{Future, Stream as AStream}
pub use Rattle.strm_codes.specs.declared.payloads.Payload.{Payload}
pub use Rattle.strm_handles.specs.Handles.{Handles, no_handles, removed}
pub use Rattle.strm_handles.specs.declared.entries.Entry.{Entry}
pub use Rattle.strm_machine.specs.Acts.{act_of}
pub use Rattle.strm_machine.specs.Endings.{report_on, told_end}
pub use Rattle.strm_machine.specs.Meetings.{advanced, carried}
pub use Rattle.strm_machine.specs.Moments.{Call, Moment, accepted, accepted_in, as_report, count_reported, got_in, is_end, items_in_memory, k_of, names, received, report_in}
pub use Rattle.strm_machine.specs.Moves.{handle_given, next_in, with_owner, without_handle}
pub use Rattle.strm_machine.specs.Reactions.{Reaction, goes, operates, react, written_back}
pub use Rattle.strm_machine.specs.Refusals.{first_of}
pub use Rattle.strm_machine.specs.Sides.{end_of, opposite, same_side, with_end, with_operation}
pub use Rattle.strm_machine.specs.Soundness.{HoldSets, HoldsSets, IsPlaced, IsSound, OperationIsPlaced, StreamIsPlaced, both_open, sizes_of}
pub use Rattle.strm_machine.specs.State.{Guest, State, empty, guest_in, is_held, is_loose, memory_in, no_guest, no_stream, sets_in, stream_at, with_handles, with_memory, with_sets, with_table}
pub use Rattle.strm_machine.specs.Tests.{Name, end_named, has_ended, named, stream_named}
pub use Rattle.strm_machine.specs.Operating.{Operated, with_received}
pub use Rattle.strm_machine.specs.declared.acts.Act.{Act}
pub use Rattle.strm_machine.specs.declared.acts.Act.TheVariants.{Make, OnEnd, OnLoose, OnMemory}
pub use Rattle.strm_machine.specs.declared.acts.EndAct.TheVariants.{Operate}
pub use Rattle.strm_machine.specs.declared.acts.MemoryAct.TheVariants.{Poke}
pub use Rattle.strm_machine.specs.declared.acts.NamedEnd.{NamedEnd}
pub use Rattle.strm_machine.specs.declared.limits.Limits.{Limits}
pub use Rattle.strm_machine.specs.declared.replies.Reply.{Reply}
pub use Rattle.strm_machine.specs.declared.steps.Step.{Step}
pub use Rattle.strm_machine.specs.declared.streams.End.{End}
pub use Rattle.strm_machine.specs.declared.streams.Operation.{Operation}
pub use Rattle.strm_machine.specs.declared.streams.Owner.{Owner}
pub use Rattle.strm_machine.specs.declared.streams.Owner.TheVariants.{Gone, Held, Loose}
pub use Rattle.strm_machine.specs.declared.streams.Side.{Side}
pub use Rattle.strm_machine.specs.declared.streams.Side.TheVariants.{Reading, Writing}
pub use Rattle.strm_machine.specs.declared.streams.Stream.{Stream}
pub use Rattle.strm_memory.specs.Bytes.{put_at}
pub use Rattle.strm_memory.specs.Items.{items_at, stored_at}
pub use Rattle.strm_waitable_sets.specs.Sets.{Sets, no_sets}
