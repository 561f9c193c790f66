-- What a host end tells of itself, and what each call does to it. Ours.
use Rattle.std.specs.Prelude.{◌≡◌, ℕ, ◌≤◌, Bool, true, false, List, [], ◌∷◌, ◌++◌, length, take, drop, slice_index_or, slice_set, Option, None}
use Rattle.std.specs.Option.{option_map}
use Rattle.strm_codes.specs.declared.codes.TransmitKind.{TransmitKind}
use Rattle.strm_codes.specs.declared.codes.TransmitKind.TheVariants.{Stream}
use Rattle.strm_codes.specs.declared.payloads.Payload.{Payload}
use Rattle.strm_codes.specs.declared.payloads.Payload.TheVariants.{Nothing}
use Rattle.strm_codes.specs.Counters.{Rose}
use Rattle.strm_codes.specs.Layout.{item_type}
use Rattle.strm_codes.specs.ItemTypes.{ItemType}
use Rattle.strm_memory.specs.Items.{AreItems}
use Rattle.strm_buffers.specs.declared.answers.Answer.{Answer}
use Rattle.strm_buffers.specs.declared.answers.Answer.TheVariants.{Failed}
use Rattle.strm_buffers.specs.declared.answers.ReaderSaid.{ReaderSaid}
use Rattle.strm_buffers.specs.declared.sources.Source.{Source}
use Rattle.strm_buffers.specs.declared.sources.Source.TheVariants.{Region, Listed}
use Rattle.strm_buffers.specs.Listing.{Item, items_in}
use Rattle.strm_buffers.specs.Windows.{Lent, room_of, stored_in}
use Rattle.strm_buffers.specs.Offers.{Offered, items_lent}
use Rattle.strm_buffers.specs.Said.{WriterSaid, in_room, past_room}

-- what an end heard from outside: for each feed or grant how many records it had, and what it was
-- given; none where it doesn't tell
abbrev pub Heard : Type 0 → Type 0
Heard A = Option (List (ℕ × A))

-- a host writer: its type, its records, the items that it holds, its count of faults, whether it was
-- closed
pub record WriterTells : Type 0 where
  pub kind : TransmitKind
  pub payload : Payload
  pub said : List WriterSaid
  pub holds : List Item
  pub faults : ℕ
  pub closed : Bool
  pub heard : Heard (List ℕ)

-- a host reader: the same, but that it holds the items that it took, where it tells them
pub record ReaderTells : Type 0 where
  pub kind : TransmitKind
  pub payload : Payload
  pub said : List ReaderSaid
  pub holds : Option (List Item)
  pub faults : ℕ
  pub closed : Bool
  pub heard : Heard ℕ

-- what a host writer holds are items of its payload
abbrev pub HoldsItems : WriterTells → Type 0
HoldsItems tells = AreItems (item_type tells.payload) tells.holds

-- what all host ends tell, by their numbers
pub record Tells : Type 0 where
  pub writers : List WriterTells
  pub readers : List ReaderTells

-- what stands past the last host writer
abbrev pub no_tells : WriterTells
no_tells = record {
  kind = Stream;
  payload = Nothing;
  said = [];
  holds = [];
  faults = 0;
  closed = false;
  heard = None;
}

-- and past the last host reader
abbrev pub no_reader_tells : ReaderTells
no_reader_tells = record {
  kind = Stream;
  payload = Nothing;
  said = [];
  holds = None;
  faults = 0;
  closed = false;
  heard = None;
}

-- what host writer n tells
abbrev pub told_by : Tells → ℕ → WriterTells
told_by tells n = slice_index_or tells.writers n no_tells

-- host writer n tells something else, and no other end does
abbrev pub with_told : Tells → ℕ → WriterTells → Tells
with_told tells n told = record tells { writers = slice_set tells.writers n told }

-- what host reader r tells
abbrev pub told_by_reader : Tells → ℕ → ReaderTells
told_by_reader tells r = slice_index_or tells.readers r no_reader_tells

-- host reader r tells something else, and no other end does
abbrev pub with_told_reader : Tells → ℕ → ReaderTells → Tells
with_told_reader tells r told = record tells { readers = slice_set tells.readers r told }

-- THE CALLS OF A HOST WRITER

-- Failed comes only where the count of faults rose, which never falls
abbrev pub RisesOnFailed : Answer → ℕ → ℕ → Type 0
RisesOnFailed Failed old new = Rose old new
RisesOnFailed answer old new = old ≤ new

-- a poll that adds this record: what it had room for is marked, the rest is held
pub record PollsWriter (old new : WriterTells) (said : WriterSaid) (marked : List Item) : Type 0 where
  pub said_more : new.said ≡ old.said ++ said ∷ []
  pub fits : AreItems (item_type old.payload) said.items
  pub marks : marked ≡ in_room said.room said.items
  pub holds : new.holds ≡ past_room said.room said.items
  pub faults : RisesOnFailed said.answer old.faults new.faults
  pub closed : new.closed ≡ old.closed
  pub heard : new.heard ≡ old.heard
  pub kind : new.kind ≡ old.kind
  pub payload : new.payload ≡ old.payload

-- what a call may do to a window: it is the one that was lent, with more marked
pub record Fills (old new : Lent) : Type 0 where
  pub payload : new.payload ≡ old.payload
  pub place : new.place ≡ stored_in (item_type old.payload) old.place (length old.marked) (drop (length old.marked) new.marked)
  pub marked : take (length old.marked) new.marked ≡ old.marked
  pub prepared : new.prepared ≡ old.prepared
  pub base : new.base ≡ old.base

-- the record of a poll that marked these items and holds those
abbrev pub writer_record : Lent → Bool → List Item → List Item → Answer → WriterSaid
writer_record window finish marked holds answer =
    record { room = room_of window.place; finish = finish; payload = window.payload; items = marked ++ holds; answer = answer }

-- a poll for which memory had run out adds no record, and holds what it held
pub record KeepsWriter (old new : WriterTells) : Type 0 where
  pub said : new.said ≡ old.said
  pub holds : new.holds ≡ old.holds
  pub faults : old.faults ≤ new.faults
  pub closed : new.closed ≡ old.closed
  pub heard : new.heard ≡ old.heard
  pub kind : new.kind ≡ old.kind
  pub payload : new.payload ≡ old.payload

-- held items are handed over, as many as there is room for
abbrev pub writer_given : WriterTells → Option ℕ → WriterTells
writer_given tells room = record tells { holds = past_room room tells.holds }

-- closed: what it holds from then on is not said
pub record ClosesWriter (old new : WriterTells) : Type 0 where
  pub closed : new.closed ≡ true
  pub same : record new { closed = old.closed; holds = old.holds } ≡ old

-- something more was heard behind so many records
abbrev pub heard_after : {A : Type 0} → Heard A → ℕ → A → Heard A
heard_after heard count x = option_map (λ xs. xs ++ (count, x) ∷ []) heard

-- the end after a feed that it took
abbrev pub writer_fed : WriterTells → List ℕ → WriterTells
writer_fed tells bytes = record tells { heard = heard_after tells.heard (length tells.said) bytes }

-- THE CALLS OF A HOST READER END

-- what a call may do to an offer: it is the one that was lent
pub record SameOffer (old new : Offered) : Type 0 where
  pub payload : new.payload ≡ old.payload
  pub source : new.source ≡ old.source
  pub since : new.since ≡ old.since

-- the first so many items that were lent
abbrev pub first_lent : ItemType → Source → ℕ → List Item
first_lent ss (Region memory address count) taken = items_in ss memory.bytes address taken
first_lent ss (Listed items) taken = take taken items.items

-- the record of a poll of this offer, which is then so
abbrev pub reader_record : Offered → Offered → Bool → Answer → ReaderSaid
reader_record old new finish answer =
    record {
      offered = items_lent old.source;
      since = old.since;
      finish = finish;
      taken = new.taken;
      bad = new.bad;
      answer = answer;
    }

-- a poll for which memory had run out adds no record, and tells that it took what it took before
pub record KeepsReader (old new : ReaderTells) : Type 0 where
  pub said : new.said ≡ old.said
  pub holds : new.holds ≡ old.holds
  pub faults : old.faults ≤ new.faults
  pub closed : new.closed ≡ old.closed
  pub heard : new.heard ≡ old.heard
  pub kind : new.kind ≡ old.kind
  pub payload : new.payload ≡ old.payload

-- a poll that adds this record, and took these items
pub record PollsReader (old new : ReaderTells) (said : ReaderSaid) (took : List Item) : Type 0 where
  pub said_more : new.said ≡ old.said ++ said ∷ []
  pub holds : new.holds ≡ option_map (λ xs. xs ++ took) old.holds
  pub taken : said.taken ≡ length took
  pub most : said.taken ≤ said.offered
  pub faults : RisesOnFailed said.answer old.faults new.faults
  pub closed : new.closed ≡ old.closed
  pub heard : new.heard ≡ old.heard
  pub kind : new.kind ≡ old.kind
  pub payload : new.payload ≡ old.payload

-- closed
abbrev pub reader_tells_closed : ReaderTells → ReaderTells
reader_tells_closed tells = record tells { closed = true }

-- the end after a grant that it took
abbrev pub reader_granted : ReaderTells → ℕ → ReaderTells
reader_granted tells count = record tells { heard = heard_after tells.heard (length tells.said) count }
