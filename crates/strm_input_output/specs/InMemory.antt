-- A source and a sink in memory, of which every call is known. Ours.
use Rattle.std.specs.Prelude.{◌≡◌, ◌↔◌, ℕ, min, List, ◌++◌, length, take, drop, Contains, Result, IsErr, IfOk, OnErr}
use Rattle.strm_codes.specs.Counters.{one_more}
use Rattle.strm_input_output.specs.declared.ports.Failed.{Failed}

-- what a source in memory has left, and how it goes on
pub record SourceState : Type 0 where
  -- the bytes that are left
  pub left : List ℕ
  -- the most that one call gives
  pub piece : ℕ
  -- the numbers of the calls that fail, the first call being 1
  pub failing : List ℕ
  -- the calls so far
  pub calls : ℕ
  -- the calls so far that failed
  pub faults : ℕ

-- what a sink in memory took, and how it goes on
pub record SinkState : Type 0 where
  -- the bytes that it took
  pub taken : List ℕ
  -- the most that one call takes
  pub piece : ℕ
  -- the numbers of the calls that fail, the first call being 1
  pub failing : List ℕ
  -- the calls so far
  pub calls : ℕ
  -- the calls so far that failed
  pub faults : ℕ
  -- those among them that failed by running out of memory
  pub starved : ℕ

-- a call gave n bytes
abbrev pub source_given : SourceState → ℕ → SourceState
source_given s n = record s { left = drop n s.left; calls = one_more s.calls }

-- a call failed
abbrev pub source_failed : SourceState → SourceState
source_failed s = record s { calls = one_more s.calls; faults = one_more s.faults }

-- a call took these bytes
abbrev pub sink_given : SinkState → List ℕ → SinkState
sink_given s bytes = record s { taken = s.taken ++ bytes; calls = one_more s.calls }

-- a call failed, since it was listed
abbrev pub sink_failed : SinkState → SinkState
sink_failed s = record s { calls = one_more s.calls; faults = one_more s.faults }

-- a call failed by running out of memory
abbrev pub sink_starved : SinkState → SinkState
sink_starved s = record (sink_failed s) { starved = one_more s.starved }

-- all that a read of a source in memory does: it fails exactly where its call is listed, and gives else as many
-- bytes as the piece, the room and what is left allow
pub record ReadsListed (old new : SourceState) (room given : List ℕ)
    (result : Result ℕ Failed) : Type 0 where
  pub listed : IsErr result ↔ Contains old.failing (one_more old.calls)
  pub count : IfOk result (λ n. n ≡ min (min old.piece (length room)) (length old.left))
  pub out : IfOk result (λ n. given ≡ take n old.left ++ drop n room)
  pub ok : IfOk result (λ n. new ≡ source_given old n)
  pub err : OnErr result (new ≡ source_failed old)
