-- What a guest and the streams at its two sides have to do with each other. Ours.
use Rattle.std.specs.Prelude.{◌≡◌, ℕ, ◌+◌, ◌≤◌, ℤ, List, [], ◌++◌, length, take, drop, Option, Some, None}
use Rattle.strm_memory.specs.Bytes.{bytes_at}
use Rattle.strm_machine.specs.Moments.{moved_of}
use Rattle.strm_machine.specs.declared.streams.Operation.{Operation}
use Rattle.strm_chain.specs.declared.stages.Work.{Work}
use Rattle.strm_chain.specs.Stages.{work_done, work_left}
use Rattle.strm_chain.specs.Flowing.{as_items}

-- an operation of guest g that was begun at an address, with so many bytes
pub record IsOperationBegun (g address count : ℕ) (o : Operation) : Type 0 where
  pub guest : o.guest ≡ g
  pub place : o.address ≡ address + o.moved
  pub whole : o.moved + o.left ≡ count

-- guest g has put out these bytes and handed over so many of them. A write that waits has the ones behind
-- those, and they lie where it writes from
pub record OffersWrite (g at sent : ℕ) (made memory : List ℕ) (o : Operation) : Type 0 where
  pub count : ℕ
  pub begun : IsOperationBegun g at count o
  pub within : sent + count ≤ length made
  pub inside : at + count ≤ length memory
  pub lies : bytes_at memory at count ≡ take count (drop sent made)

-- the same, where a write waits
abbrev pub OffersIf : ℕ → ℕ → ℕ → List ℕ → List ℕ → Option Operation → Type 0
OffersIf g at sent made memory None = Unit {0}
OffersIf g at sent made memory (Some o) = OffersWrite g at sent made memory o

-- what was received on a stream is the front of what its guest has put out: what was handed over, and what
-- the write that waits has moved
pub record Sends (g at sent : ℕ) (made memory : List ℕ)
    (o : Option Operation) (received : List (Option (List ℤ))) : Type 0 where
  pub front : received ≡ as_items (take (sent + moved_of o) made)
  pub within : sent + moved_of o ≤ length made
  pub offers : OffersIf g at sent made memory o

-- guest g has taken these bytes, and its stage has put out what it makes of them. Behind them a read that
-- waits has moved some, and they lie where it reads to
pub record HoldsRead (g at : ℕ) (memory : List ℕ)
    (o : Operation) (rest : List (Option (List ℤ))) : Type 0 where
  pub count : ℕ
  pub begun : IsOperationBegun g at count o
  pub inside : at + count ≤ length memory
  pub few : count ≤ 64
  pub lies : rest ≡ as_items (bytes_at memory at o.moved)

-- the same, where a read waits; else there are none
abbrev pub HoldsIf : ℕ → ℕ → List ℕ → Option Operation → List (Option (List ℤ)) → Type 0
HoldsIf g at memory None rest = rest ≡ []
HoldsIf g at memory (Some o) rest = HoldsRead g at memory o rest

-- a guest that reads to this place has taken bytes of what it received, and its stage has put out what it makes
-- of them; the rest lies where the read that waits reads to
pub record Takes (g at : ℕ) (first work : Work) (made memory : List ℕ)
    (o : Option Operation) (received : List (Option (List ℤ))) : Type 0 where
  pub taken : List ℕ
  pub rest : List (Option (List ℤ))
  pub split : received ≡ as_items taken ++ rest
  pub holds : HoldsIf g at memory o rest
  pub makes : made ≡ work_done first taken
  pub goes_on : work ≡ work_left first taken

-- a read of guest g is over, and k items that it moved lie where it reads to; its stage has taken the ones
-- before them
pub record Arrived (at k : ℕ) (first work : Work) (made memory : List ℕ)
    (received : List (Option (List ℤ))) : Type 0 where
  pub taken : List ℕ
  pub split : received ≡ as_items taken ++ as_items (bytes_at memory at k)
  pub makes : made ≡ work_done first taken
  pub goes_on : work ≡ work_left first taken
