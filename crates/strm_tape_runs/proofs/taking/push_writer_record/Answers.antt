use Rattle.std.proofs.Common.{◌≡◌, List, [], ◌∷◌, ◌++◌, All, Result, Ok, Err}
use Rattle.std.specs.Prelude.{OnOk}
use Rattle.std.proofs.lemmas.List.Elements.{All-same, All-push}
use Rattle.strm_codes.specs.Types.{payload_of}
use Rattle.strm_tape.specs.Spelling.{IsWriterRecord}
use Rattle.strm_tape_runs.specs.Marks.{FairRoom}
use Rattle.strm_tape_runs.proofs.ZipLemmas.{behind_all}
use Rattle.strm_tape_runs.proofs.taking.push_writer_record.Goals as goal

pub sound_record-requires-clause-room : goal.sound_record-requires-clause-room
sound_record-requires-clause-room g c =
    behind_all FairRoom _ c.args.mark.now.records c.args.index c.in-Ok.said c.requires.behind c.in-Ok.ensures.exact c.requires.tapable.rooms

-- all that were pushed are so
all_pushed : {X T E : Type 0} (P : X → Type 0) (r : Result T E) (old new : List X) (x : X) → All P old → P x → OnOk r (new ≡ old ++ x ∷ []) → OnOk r (All P new)
all_pushed P (Ok v) old new x f g e = All-same P new (old ++ x ∷ []) e (All-push P old x f g)
all_pushed P (Err v) old new x f g e = tt

pub returns-clause-each : goal.returns-clause-each
returns-clause-each g c =
    all_pushed (IsWriterRecord (payload_of c.args.mark.now.ty)) c.push_said.result c.args.records.now.items c.push_said.new.records.items c.in-Ok.said
    c.requires.each c.sound_record.ensures c.push_said.ensures
