-- Who has the ends of each stream, by what the steps of a run gave to whom: a stream that is made, an end that
-- moves, a read end that is lowered into a guest or piped to a host reader. Ours.
use Rattle.std.specs.Prelude.{ℕ, List, [], ◌∷◌, ◌++◌, slice_index_or, slice_set, Option, Some, None}
use Rattle.strm_machine.specs.declared.replies.Reply.{Reply}
use Rattle.strm_machine.specs.declared.replies.Reply.TheVariants as replies
use Rattle.strm_machine.specs.declared.steps.Step.{Step}
use Rattle.strm_machine.specs.declared.steps.Step.TheVariants as steps
use Rattle.strm_machine.specs.declared.streams.Side.{Side}
use Rattle.strm_machine.specs.declared.streams.Side.TheVariants.{Writing, Reading}
use Rattle.strm_transmit.specs.declared.store.queries.EndInfo.{EndInfo}
use Rattle.strm_drawing.specs.declared.arrows.Lane.{Lane}
use Rattle.strm_drawing.specs.declared.arrows.Lane.TheVariants.{Guest, Writer, Reader, Nobody}
use Rattle.strm_drawing.specs.declared.holders.Holders.{Holders}

-- these have the ends of a stream
abbrev pub held_by : Lane → Lane → Holders
held_by writer reader = record { writer = writer; reader = reader }

-- who has the ends of a stream; of one that was not made, nobody
abbrev pub holders_at : List Holders → ℕ → Holders
holders_at all s = slice_index_or all s (held_by Nobody Nobody)

-- the read end of a stream goes to somebody
abbrev pub with_reader : List Holders → ℕ → Lane → List Holders
with_reader all s lane = slice_set all s (record (holders_at all s) { reader = lane })

-- the write end does
abbrev pub with_writer : List Holders → ℕ → Lane → List Holders
with_writer all s lane = slice_set all s (record (holders_at all s) { writer = lane })

-- the end on a side does
abbrev pub with_side : List Holders → ℕ → Side → Lane → List Holders
with_side all s Writing lane = with_writer all s lane
with_side all s Reading lane = with_reader all s lane

-- the end that a handle names does
abbrev pub moved_to : List Holders → Option EndInfo → Lane → List Holders
moved_to all (Some end) lane = with_side all end.stream end.side lane
moved_to all None lane = all

-- who has them after a step that was answered so, whose handle names this end; a stream that is made is the last
abbrev pub holders_after : List Holders → Option EndInfo → Step → Reply → List Holders
holders_after all named (steps.New guest ty) (replies.Pair pair) = all ++ held_by (Guest guest) (Guest guest) ∷ []
holders_after all named (steps.Between writer reader ty) (replies.Pair pair) =
    all ++ held_by (Guest writer) (Guest reader) ∷ []
holders_after all named (steps.HostNew host) (replies.Number n) = all ++ held_by (Writer host) Nobody ∷ []
holders_after all named (steps.Move guest ty handle to) (replies.Number n) = moved_to all named (Guest to)
holders_after all named (steps.Lift guest ty handle) (replies.Number s) = with_reader all s Nobody
holders_after all named (steps.Lower reader guest ty) (replies.Number n) = with_reader all reader (Guest guest)
holders_after all named (steps.Pipe reader host) replies.Done = with_reader all reader (Reader host)
holders_after all named step reply = all
