-- Whole frames in pieces have no fault.
use Rattle.std.proofs.Common.{◌≡◌, ℕ, ◌+◌, ◌<◌, List, [], ◌∷◌, ◌++◌, length, take, drop, get_or, sym, ap, ◌∙◌}
use Rattle.std.specs.Prelude.{None}
use Rattle.std.proofs.Math.Seq.{take-length}
use Rattle.std.proofs.lemmas.List.{append-nil, take-append-drop, take_more}
use Rattle.std.proofs.lemmas.List.Concat.{flat_map-append}
use Rattle.strm_frames.specs.Frames.{encoding}
use Rattle.strm_frames.specs.Streams.{AreWhole, Splits, Faults}
use Rattle.strm_frames.specs.Demuxes.{LanesHeard, IsDemuxFed}
use Rattle.strm_frames.specs.declared.errors.Fault.{Fault}
use Rattle.strm_frames.proofs.DemuxLemmas.{nothing_part}
use Rattle.strm_frames.proofs.ReadingLemmas.{apart, stays}
use Rattle.strm_machine.specs.declared.replies.Reply.{Reply}
use Rattle.strm_carry_laws.specs.OneStream.{dumped_in, dumped}
use Rattle.strm_mux.specs.Hearing.{HearsOn}

pub all_splits : (bytes : List ℕ) (w : AreWhole bytes) → Splits bytes w.frames []
all_splits bytes w = record { whole = w.spelled ∙ sym (append-nil (encoding w.frames)); are = w.are; part = nothing_part }

-- a front of them has no fault
pub no_fault : (bytes more : List ℕ) (fault : Fault) → AreWhole (bytes ++ more) → Faults bytes fault → ⊥
no_fault bytes more fault w f = apart (bytes ++ more) w.frames [] fault (all_splits (bytes ++ more) w) (stays bytes more fault f)

-- the demux so far
pub record HearsSoFar (all : List Reply) (k : ℕ) (heard : LanesHeard) : Type 0 where
  pub fed : IsDemuxFed heard (dumped (take k all))
  pub well : heard.fault ≡ None

pub hears_none : (all : List Reply) (heard : LanesHeard) → IsDemuxFed heard [] → heard.fault ≡ None → HearsSoFar all 0 heard
hears_none all heard f w = record { fed = f; well = w }

dumped-take : (all : List Reply) (k : ℕ) (r : Reply) → k < length all → r ≡ get_or all k r → dumped (take (k + 1) all) ≡ dumped (take k all) ++ dumped_in r
dumped-take all k r h e =
    ap dumped (take_more all k r h ∙ ap (λ (x : Reply). take k all ++ x ∷ []) (sym e)) ∙ flat_map-append dumped_in (take k all) (r ∷ [])
    ∙ ap (λ (s : List ℕ). dumped (take k all) ++ s) (append-nil (dumped_in r))

pub hears_on : (all : List Reply) (k : ℕ) (r : Reply) (heard : LanesHeard) → k < length all → r ≡ get_or all k r → AreWhole (dumped all) → HearsSoFar all k heard → HearsOn heard (dumped_in r)
hears_on all k r heard h e w a =
    let parts : dumped all ≡ dumped (take (k + 1) all) ++ dumped (drop (k + 1) all) =
    ap dumped (sym (take-append-drop (k + 1) all)) ∙ flat_map-append dumped_in (take (k + 1) all) (drop (k + 1) all) in
    record {
      before = dumped (take k all);
      more = dumped (drop (k + 1) all);
      fed = a.fed;
      whole = rw (parts, dumped-take all k r h e) at w;
      well = a.well;
    }

pub hears_more : (all : List Reply) (k : ℕ) (r : Reply) (old new : LanesHeard) → k < length all → r ≡ get_or all k r → HearsSoFar all k old → ((before : List ℕ) → IsDemuxFed old before → IsDemuxFed new (before ++ dumped_in r)) → new.fault ≡ None → HearsSoFar all (k + 1) new
hears_more all k r old new h e a f w = record { fed = rw (dumped-take all k r h e) (f (dumped (take k all)) a.fed); well = w }

pub hears_all : (all : List Reply) (k : ℕ) (heard : LanesHeard) → k ≡ length all → HearsSoFar all k heard → IsDemuxFed heard (dumped all)
hears_all all k heard e a =
    let whole : take k all ≡ all = ap (λ (n : ℕ). take n all) e ∙ take-length all in
    rw whole at a.fed
