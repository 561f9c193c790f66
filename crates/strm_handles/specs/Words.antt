-- The data types that most definitions and proofs of this crate speak of, from one place. Ours.
pub use Rattle.strm_codes.specs.declared.payloads.Payload.{Payload}
pub use Rattle.strm_handles.specs.declared.entries.Entry.{Entry}
pub use Rattle.strm_handles.specs.declared.entries.RemovedResource.{RemovedResource}
pub use Rattle.strm_handles.specs.declared.entries.Scope.{Scope}
pub use Rattle.strm_handles.specs.declared.entries.TransmitEnd.{TransmitEnd}
pub use Rattle.strm_handles.specs.declared.entries.TransmitLocalState.{TransmitLocalState}
pub use Rattle.strm_handles.specs.declared.entries.TypedResource.{TypedResource}
pub use Rattle.strm_handles.specs.declared.entries.TypedResourceIndex.{TypedResourceIndex}
pub use Rattle.strm_handles.specs.declared.entries.Waitable.{Waitable}
pub use Rattle.strm_handles.specs.declared.errors.HandleError.{HandleError}
