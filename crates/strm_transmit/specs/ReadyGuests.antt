-- Which guests are ready: those that have an end which is to be told something, and how they are counted by the ends
-- of streams.
-- Component Model, `Waitable.has_pending_event`; wasmtime, the work that `ConcurrentState` has for an instance. Ours: that
-- it is asked of all guests at once.
use Rattle.std.specs.Prelude.{◌≡◌, ℕ, ◌+◌, ◌*◌, ◌<◌, ◌≤◌, Bool, true, false, ◌&&◌, nat_lt, nat_le, if◌then◌else◌, List, [], ◌∷◌, ◌++◌, length, slice_index_or, slice_set, sum_by, count_by, Option, Some, None}
use Rattle.std.specs.List.{find, range_with_len}
use Rattle.strm_codes.specs.OptionalNumbers.{is_number}
use Rattle.strm_levels.specs.Counts.{count_at}
use Rattle.strm_machine.specs.State.{State, Guest, no_stream}
use Rattle.strm_machine.specs.Sides.{end_of}
use Rattle.strm_machine.specs.declared.streams.Owner.{Owner}
use Rattle.strm_machine.specs.declared.streams.Owner.TheVariants.{Held}
use Rattle.strm_machine.specs.declared.streams.Side.{Side}
use Rattle.strm_machine.specs.declared.streams.Side.TheVariants.{Writing, Reading}
use Rattle.strm_machine.specs.declared.streams.Stream.{Stream}
use Rattle.strm_transmit.specs.Telling.{Ready, Retells, has_report}
use Rattle.strm_transmit.specs.declared.ready_counts.ReadyBy.{ReadyBy}
use Rattle.strm_transmit.specs.declared.ready_counts.Entry.{Entry}

-- WHO IS READY

-- the guest that has an end, if that is to be told something
abbrev pub guest_if : Bool → Owner → Option ℕ
guest_if true (Held g handle) = Some g
guest_if _ _ = None

-- the guest that the end on a side of a stream makes ready
abbrev pub ready_at : Side → Stream → Option ℕ
ready_at side stream = guest_if (has_report side stream) (end_of side stream).owner

-- the guests that the two ends of a stream make ready
abbrev pub ready_by : Stream → ReadyBy
ready_by stream = record { writing = ready_at Writing stream; reading = ready_at Reading stream }

-- how many of two ends make a guest ready
abbrev pub ends_for : ReadyBy → ℕ → ℕ
ends_for ready g =
    (if is_number ready.writing g then 1 else 0) + (if is_number ready.reading g then 1 else 0)

-- how many ends of streams do
abbrev pub ready_ends : List Stream → ℕ → ℕ
ready_ends streams g = sum_by (λ (stream : Stream). ends_for (ready_by stream) g) streams

-- a guest has an end that is to be told something
abbrev pub is_ready_guest : State → ℕ → Bool
is_ready_guest state g = nat_lt 0 (ready_ends state.streams g)

-- the least guest that is ready, of those from a number on
unfoldable pub next_ready_guest : State → ℕ → Option ℕ
next_ready_guest state from =
    find (λ g. nat_le from g && is_ready_guest state g) (range_with_len 0 (length state.guests))

-- this guest is ready, and none is from the number on and before it
pub record IsNextReady (state : State) (from g : ℕ) : Type 0 where
  pub there : g < length state.guests
  pub behind : from ≤ g
  pub ready : is_ready_guest state g ≡ true
  pub least : (m : ℕ) → from ≤ m → m < g → is_ready_guest state m ≡ false

-- HOW THEY ARE COUNTED

-- of a stream that was never counted
abbrev pub new_entry : Entry
new_entry = record { counted = record { writing = None; reading = None }; is_listed = true }

-- the entry of a stream
abbrev pub entry_at : List Entry → ℕ → Entry
entry_at entries s = slice_index_or entries s new_entry

-- how many of the ends that it was counted with make a guest ready
abbrev pub entry_for : ℕ → Entry → ℕ
entry_for g entry = ends_for entry.counted g

-- and of those of all streams
abbrev pub counted_for : List Entry → ℕ → ℕ
counted_for entries g = sum_by (entry_for g) entries

-- the entry of a stream that is listed
abbrev pub listed_entry : Entry → Entry
listed_entry entry = record entry { is_listed = true }

-- a stream is listed
abbrev pub listed_at : List Entry → ℕ → List Entry
listed_at entries s = slice_set entries s (listed_entry (entry_at entries s))

-- the entry of a stream that is counted as its ends are
abbrev pub counted_entry : Stream → Entry
counted_entry stream = record { counted = ready_by stream; is_listed = false }

-- a stream is counted as its ends are
abbrev pub put_at : List Entry → ℕ → Stream → List Entry
put_at entries s stream = slice_set entries s (counted_entry stream)

-- how many guests are counted, for which of them each stream was, how many streams are to be counted again, and for
-- how many streams there is room
pub record Counted : Type 0 where
  pub guests : ℕ
  pub streams : List Entry
  pub listed : ℕ
  pub room : ℕ

-- of each guest is counted how many ends made it ready, and none of any that is not there; there are two of each of
-- 4,294,967,295 streams at most
pub record AreSums (counts : List ℕ) (entries : List Entry) : Type 0 where
  pub each : (g : ℕ) → g < length counts → count_at counts g ≡ counted_for entries g
  pub past : (g : ℕ) → length counts ≤ g → counted_for entries g ≡ 0
  pub few : length entries ≤ 4294967295

-- the place of a stream in a list
pub record IsListedAs (listed : List ℕ) (s : ℕ) : Type 0 where
  pub place : ℕ
  pub inside : place < length listed
  pub is : slice_index_or listed place 0 ≡ s

-- a stream that is listed is in the list, which is no longer than there are such, and has room for all streams
pub record AreListed (entries : List Entry) (listed : List ℕ) (capacity : ℕ) : Type 0 where
  pub each : (s : ℕ) → s < length entries → (entry_at entries s).is_listed ≡ true → IsListedAs listed s
  pub many : length listed ≤ count_by (λ (entry : Entry). entry.is_listed) entries
  pub room : length entries ≤ capacity

-- two ends of each of 4,294,967,295 streams, and one more
abbrev pub AreFew : List ℕ → Type 0
AreFew counts = (g : ℕ) → count_at counts g ≤ 2 * 4294967295 + 1

-- a stream may be counted again
pub record MayPut (counts : List ℕ) (entries : List Entry) (s : ℕ) : Type 0 where
  pub there : s < length entries
  pub counted : (g : ℕ) → g < length counts → ends_for (entry_at entries s).counted g ≤ count_at counts g
  pub few : (g : ℕ) → count_at counts g ≤ 2 * 4294967295

-- a stream is counted again
pub record HasPut (entries : List Entry) (s : ℕ) (stream : Stream) (old new : List ℕ) : Type 0 where
  pub all : length new ≡ length old
  pub counts : (g : ℕ) → g < length old →
      count_at new g + ends_for (entry_at entries s).counted g ≡ count_at old g + ends_for (ready_by stream) g

-- each stream that is not listed was counted as its ends are
pub record AreCounted (streams : List Stream) (entries : List Entry) : Type 0 where
  pub all : length entries ≡ length streams
  pub each : (s : ℕ) → s < length entries → (entry_at entries s).is_listed ≡ false →
      (entry_at entries s).counted ≡ ready_by (slice_index_or streams s no_stream)

-- no stream is listed
abbrev pub AreSettled : List Entry → Type 0
AreSettled entries = (s : ℕ) → s < length entries → (entry_at entries s).is_listed ≡ false

-- the ends of streams are those of so many guests, as far as they make any ready
abbrev pub AreWithin : ℕ → List Stream → Type 0
AreWithin guests streams = (s g : ℕ) → guests ≤ g → ends_for (ready_by (slice_index_or streams s no_stream)) g ≡ 0

-- a stream was counted for this guest, and none for any from the number on and before it
pub record IsNextCounted (counted : Counted) (from g : ℕ) : Type 0 where
  pub there : g < counted.guests
  pub behind : from ≤ g
  pub any : nat_lt 0 (counted_for counted.streams g) ≡ true
  pub least : (m : ℕ) → from ≤ m → m < g → nat_lt 0 (counted_for counted.streams m) ≡ false

-- no stream was counted for a guest from a number on
abbrev pub HasNoneCounted : Counted → ℕ → Type 0
HasNoneCounted counted from = (m : ℕ) → from ≤ m → m < counted.guests → nat_lt 0 (counted_for counted.streams m) ≡ false

-- WHAT IS KNOWN

-- what is known of ends that are to be told something: which members of sets are, and how many of each guest, if
-- they are counted
pub record Known : Type 0 where
  pub sets : Ready
  pub is_counting : Bool
  pub counts : Counted

-- nothing is known of any set, and no end is counted
pub record KnowsNothing (known : Known) : Type 0 where
  pub sets : known.sets ≡ []
  pub counts : known.is_counting ≡ false

-- where ends are counted, all guests are, and each stream as its ends are, or it is listed
pub record AreReadyCounted (guests : List Guest) (streams : List Stream) (known : Known) : Type 0 where
  pub all : known.is_counting ≡ true → known.counts.guests ≡ length guests
  pub each : known.is_counting ≡ true → AreCounted streams known.counts.streams

-- what is known of the members of sets is as the ends of a stream are now, and the stream is listed
pub record Retold (guests : List Guest) (s : ℕ) (stream : Stream) (old new : Known) : Type 0 where
  pub sets : Retells guests stream old.sets new.sets
  pub counting : new.is_counting ≡ old.is_counting
  pub guests_counted : new.counts.guests ≡ old.counts.guests
  pub listed : old.is_counting ≡ true → new.counts.streams ≡ listed_at old.counts.streams s

-- what is counted is as it was; there may be more room
pub record SameCounts (old new : Known) : Type 0 where
  pub counting : new.is_counting ≡ old.is_counting
  pub guests : new.counts.guests ≡ old.counts.guests
  pub streams : new.counts.streams ≡ old.counts.streams

-- there is room for a stream more
pub record MayAdd (known : Known) : Type 0 where
  pub few : known.is_counting ≡ true → length known.counts.streams < 4294967295
  pub room : known.is_counting ≡ true → length known.counts.streams < known.counts.room

-- there is a stream more, which is told where members of sets are known, and is listed
pub record Added (guests : List Guest) (stream : Stream) (old new : Known) : Type 0 where
  pub sets : Retells guests stream old.sets new.sets
  pub counting : new.is_counting ≡ old.is_counting
  pub guests_counted : new.counts.guests ≡ old.counts.guests
  pub listed : old.is_counting ≡ true → new.counts.streams ≡ old.counts.streams ++ new_entry ∷ []
