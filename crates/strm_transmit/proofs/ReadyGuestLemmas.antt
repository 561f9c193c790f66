-- How many ends of each guest are to be told something, after each change: a change of one stream changes only what its
-- two ends count. And the next guest of which any is counted.
use Rattle.std.proofs.Common.{◌≡◌, ◌≢◌, ℕ, zero, suc, ◌+◌, ◌-◌, ◌*◌, ◌<◌, ◌≤◌, Bool, true, false, cond, ◌&&◌, List, [], ◌∷◌, ◌++◌, length, map, get_or, set, replicate, Option, Some, None, refl, sym, ap, ◌∙◌, subst, arith, ⊎_elim, inl, inr, length-set}
use Rattle.std.specs.Prelude.{nat_lt, nat_le, ◌⊎◌, IfSome, IfNone, count_by}
use Rattle.std.specs.List.{find, range_with_len}
use Rattle.std.proofs.lemmas.Bool.{cases_eq, cases_lt, lt-ltb, ltb-true, eq-eqb, ne_eqb, le-leb, leb-true, lt-leb, and_parts, and_from, and_left, and_right, true≢false}
use Rattle.std.proofs.lemmas.List.{get_or-set_same, get_or-set_other, get_or_past, get_or_append_left, get_or_push, get_or-map, get_or-replicate, length_push, length-map, length-replicate}
use Rattle.std.proofs.Math.Seq.{map-set_same}
use Rattle.std.proofs.lemmas.List.Sums.{sum_by_push, sum_by-set, sum_by-cons, get_or-le-sum_by, count_by-le-length}
use Rattle.strm_codes.specs.OptionalNumbers.{is_number}
use Rattle.strm_levels.specs.Counts.{count_at, has_any, raised, lowered, IsNext, HasNoneFrom}
use Rattle.strm_handles.specs.Lookups.{end_rep_of}
use Rattle.strm_machine.specs.Moments.{is_end}
use Rattle.strm_machine.specs.Words.{Guest, State, no_stream, no_guest, end_of, is_held}
use Rattle.strm_machine.specs.declared.streams.Owner.{Owner}
use Rattle.strm_machine.specs.declared.streams.Owner.TheVariants.{Held, Host, Loose, Gone}
use Rattle.strm_machine.specs.declared.streams.Side.{Side}
use Rattle.strm_machine.specs.declared.streams.Side.TheVariants.{Writing, Reading}
use Rattle.strm_machine.specs.declared.streams.Stream.{Stream}
use Rattle.strm_machine.proofs.HeldLemmas.{IsHeld, names_in}
use Rattle.strm_machine.proofs.TableLemmas.{owner_in}
use Rattle.strm_transmit.specs.Telling.{Ready, Retells, has_report}
use Rattle.strm_transmit.specs.ReadyGuests.{guest_if, ready_at, ready_by, ends_for, ready_ends, is_ready_guest, next_ready_guest, IsNextReady, new_entry, entry_at, entry_for, counted_for, listed_entry, listed_at, counted_entry, put_at, Counted, AreSums, IsListedAs, AreListed, AreFew, MayPut, HasPut, AreCounted, AreSettled, AreWithin, IsNextCounted, HasNoneCounted, Known, AreReadyCounted, SameCounts, Retold, MayAdd, Added}
use Rattle.strm_transmit.specs.declared.ready_counts.ReadyBy.{ReadyBy}
use Rattle.strm_transmit.specs.declared.ready_counts.Entry.{Entry}

-- ## Two ends

-- what one end counts
abbrev pub one : Option ℕ → ℕ → ℕ
one o g = cond (is_number o g) 1 0

pub one-few : (o : Option ℕ) (g : ℕ) → one o g ≤ 1
one-few o g = by (is_number o g)
  where
    by : (b : Bool) → cond b 1 0 ≤ 1
    by true = omega arith
    by false = omega arith

-- where one end is counted, some are
pub any_of_one : (o : Option ℕ) (g count : ℕ) → is_number o g ≡ true → one o g ≤ count → nat_lt 0 count ≡ true
any_of_one o g count e l = lt-ltb 0 count (omega (arith, l, ap {B = ℕ} (λ b. cond b 1 0) e))

-- two ends count two at most
ends-few : (r : ReadyBy) (g : ℕ) → ends_for r g ≤ 2
ends-few r g = omega (arith, one-few r.writing g, one-few r.reading g)

-- an end that no guest has makes none ready
guest_if-unheld : (b : Bool) (owner : Owner) → is_held owner ≡ false → guest_if b owner ≡ None
guest_if-unheld true (Held g handle) e = cc
guest_if-unheld true (Host n) e = refl
guest_if-unheld true Loose e = refl
guest_if-unheld true Gone e = refl
guest_if-unheld false owner e = refl

-- no end of a stream makes a guest ready
abbrev MakesNone : Stream → Type 0
MakesNone stream = (side : Side) → ready_at side stream ≡ None

none-unheld : (stream : Stream) → ((side : Side) → is_held (end_of side stream).owner ≡ false) → MakesNone stream
none-unheld stream h side = guest_if-unheld (has_report side stream) (end_of side stream).owner (h side)

pub ready_by-unheld : (stream : Stream) → ((side : Side) → is_held (end_of side stream).owner ≡ false) → ready_by stream ≡ new_entry.counted
ready_by-unheld stream h =
    ap (λ (w : Option ℕ). record { writing = w; reading = ready_at Reading stream }) (none-unheld stream h Writing)
    ∙ ap (λ (r : Option ℕ). record { writing = None; reading = r }) (none-unheld stream h Reading)

-- ## All streams

-- what the two ends of a stream count for a guest
abbrev ends_of : ℕ → Stream → ℕ
ends_of g stream = ends_for (ready_by stream) g

-- one stream's ends are among those of all
pub ready_ends-at : (streams : List Stream) (s g : ℕ) → s < length streams
    → ends_for (ready_by (get_or streams s no_stream)) g ≤ ready_ends streams g
ready_ends-at streams s g l = get_or-le-sum_by (ends_of g) streams s no_stream l

-- a guest that is not there has no end
none_past : (guests : List Guest) (streams : List Stream) → IsHeld guests streams → (s : ℕ) (side : Side) (g : ℕ)
    → length guests ≤ g → is_number (ready_at side (get_or streams s no_stream)) g ≡ false
none_past guests streams held s side g l =
    by (has_report side (get_or streams s no_stream)) (owner_in streams s side) refl
  where
    -- one that is not there has no handle
    no_name : (k handle : ℕ) → length guests ≤ k → is_end s side (names_in guests k handle) ≡ false
    no_name k handle past =
        ap (λ (x : Guest). is_end s side (end_rep_of x.handles handle)) (get_or_past guests k no_guest past) ∙ no_entry handle
      where
        no_entry : (n : ℕ) → is_end s side (end_rep_of no_guest.handles n) ≡ false
        no_entry zero = refl
        no_entry (suc n) = refl

    by : (b : Bool) (o : Owner) → owner_in streams s side ≡ o → is_number (guest_if b o) g ≡ false
    by true (Held k handle) e =
        ne_eqb k g (λ same. true≢false (sym (held.agree.held k handle s side e) ∙ no_name k handle (omega (arith, l, same))))
    by true (Host n) e = refl
    by true Loose e = refl
    by true Gone e = refl
    by false o e = refl

-- ## What is counted, by stream

-- one entry counts two ends at most
entries-few : (entries : List Entry) (g : ℕ) → counted_for entries g ≤ 2 * length entries
entries-few [] g = omega arith
entries-few (e ∷ es) g = omega (arith, sum_by-cons (entry_for g) e es, ends-few e.counted g, entries-few es g)

-- the counts of all guests that are counted are few
few_counted : (counts : List ℕ) (entries : List Entry) → AreSums counts entries → (g : ℕ) → count_at counts g ≤ 2 * 4294967295
few_counted counts entries h g =
    ⊎_elim
    (λ inside. omega (arith, entries-few entries g, h.each g inside, h.few))
    (λ past. omega (arith, get_or_past counts g 0 past))
    (cases_lt g (length counts))

-- a stream may be counted again
pub may_put : (counts : List ℕ) (entries : List Entry) (s : ℕ) → s < length entries → AreSums counts entries → MayPut counts entries s
may_put counts entries s l h = record {
  there = l;
  counted = λ g inside. omega (arith, get_or-le-sum_by (entry_for g) entries s new_entry l, h.each g inside);
  few = few_counted counts entries h;
}

-- and is
pub sums-put : (old new : List ℕ) (entries : List Entry) (s : ℕ) (x : Stream) → s < length entries
    → ((g : ℕ) → length old ≤ g → ends_for (ready_by x) g ≡ 0) → HasPut entries s x old new → AreSums old entries → AreSums new (put_at entries s x)
sums-put old new entries s x l within p h = record {
  each = λ g inside.
      let there : g < length old = omega (arith, inside, p.all) in
      omega (arith, p.counts g there, h.each g there, changed g);
  past = λ g past. omega (arith, within g (omega (arith, past, p.all)), h.past g (omega (arith, past, p.all)), changed g);
  few = omega (arith, length-set entries s (counted_entry x), h.few);
}
  where
    changed : (g : ℕ) → counted_for (put_at entries s x) g + ends_for (entry_at entries s).counted g ≡ counted_for entries g + ends_for (ready_by x) g
    changed g = sum_by-set (entry_for g) entries s (counted_entry x) new_entry l

-- to list a stream changes no count
pub sums-listed : (counts : List ℕ) (entries : List Entry) (s : ℕ) → s < length entries → AreSums counts entries → AreSums counts (listed_at entries s)
sums-listed counts entries s l h = record {
  each = λ g inside. omega (arith, h.each g inside, same g);
  past = λ g past. omega (arith, h.past g past, same g);
  few = omega (arith, length-set entries s (listed_entry (entry_at entries s)), h.few);
}
  where
    same : (g : ℕ) → counted_for (listed_at entries s) g ≡ counted_for entries g
    same g = omega (arith, sum_by-set (entry_for g) entries s (listed_entry (entry_at entries s)) new_entry l)

-- of no streams nothing is counted
pub sums-none : (counts : List ℕ) → ((g : ℕ) → count_at counts g ≡ 0) → AreSums counts []
sums-none counts none = record { each = λ g l. none g; past = λ g l. refl; few = omega arith }

-- a stream more, counted for no guest
pub sums-added : (counts : List ℕ) (entries : List Entry) → length entries < 4294967295 → AreSums counts entries → AreSums counts (entries ++ new_entry ∷ [])
sums-added counts entries l h = record {
  each = λ g inside. omega (arith, h.each g inside, sum_by_push (entry_for g) entries new_entry);
  past = λ g past. omega (arith, h.past g past, sum_by_push (entry_for g) entries new_entry);
  few = omega (arith, length_push entries new_entry, l);
}

-- a guest more, for which none was
pub sums-guest : (counts : List ℕ) (entries : List Entry) → AreSums counts entries → AreSums (counts ++ 0 ∷ []) entries
sums-guest counts entries h = record {
  each = λ g l.
      ⊎_elim
      (λ there. get_or_append_left counts (0 ∷ []) 0 g there ∙ h.each g there)
      (λ past.
      let new : length counts ≡ g = omega (arith, l, past, length_push counts 0) in
      get_or_push counts 0 0 g new ∙ sym (h.past g past))
      (cases_lt g (length counts));
  past = λ g past. h.past g (omega (arith, past, length_push counts 0));
  few = h.few;
}

-- ## Which streams are listed

-- whether a stream is
abbrev is_on : Entry → Bool
is_on entry = entry.is_listed

abbrev one_on : Entry → ℕ
one_on entry = cond entry.is_listed 1 0

-- so many are
abbrev many_on : List Entry → ℕ
many_on entries = count_by is_on entries

on-changed : (entries : List Entry) (s : ℕ) (e : Entry) → s < length entries
    → many_on (set entries s e) + one_on (entry_at entries s) ≡ many_on entries + one_on e
on-changed entries s e l = sum_by-set one_on entries s e new_entry l

-- where one is not, fewer are than there are streams
pub fewer_listed : (entries : List Entry) (listed : List ℕ) (room s : ℕ) → s < length entries → (entry_at entries s).is_listed ≡ false
    → AreListed entries listed room → length listed < length entries
fewer_listed entries listed room s l off h =
    omega (
      arith,
      h.many,
      on-changed entries s new_entry l,
      ap {B = ℕ} (λ b. cond b 1 0) off,
      count_by-le-length is_on (set entries s new_entry),
      length-set entries s new_entry,
    )

-- no more are listed than there are streams
pub listed_within : (entries : List Entry) (listed : List ℕ) (room : ℕ) → AreListed entries listed room → length listed ≤ length entries
listed_within entries listed room h = omega (arith, h.many, count_by-le-length is_on entries)

-- a list with one more has what it had
still_listed : (listed : List ℕ) (s t : ℕ) → IsListedAs listed t → IsListedAs (listed ++ s ∷ []) t
still_listed listed s t i = record {
  place = i.place;
  inside = omega (arith, i.inside, length_push listed s);
  is = get_or_append_left listed (s ∷ []) 0 i.place i.inside ∙ i.is;
}

last_listed : (listed : List ℕ) (s : ℕ) → IsListedAs (listed ++ s ∷ []) s
last_listed listed s = record { place = length listed; inside = omega (arith, length_push listed s); is = get_or_push listed s 0 (length listed) refl }

-- one stream more is listed
pub listed-more : (entries : List Entry) (listed : List ℕ) (room s : ℕ) → s < length entries → (entry_at entries s).is_listed ≡ false
    → AreListed entries listed room → AreListed (listed_at entries s) (listed ++ s ∷ []) room
listed-more entries listed room s l off h = record {
  each = λ t inside on.
      ⊎_elim
      (λ same. subst (λ (n : ℕ). IsListedAs (listed ++ s ∷ []) n) (sym same) (last_listed listed s))
      (λ other.
      still_listed listed s t
      (h.each t (omega (arith, inside, length-set entries s (listed_entry (entry_at entries s)))) (sym (ap is_on (get_or-set_other entries s t (listed_entry (entry_at entries s)) new_entry other)) ∙ on)))
      (cases_eq t s);
  many = omega (arith, length_push listed s, h.many, on-changed entries s (listed_entry (entry_at entries s)) l, ap {B = ℕ} (λ b. cond b 1 0) off);
  room = omega (arith, length-set entries s (listed_entry (entry_at entries s)), h.room);
}

-- or one that is made
pub listed-added : (entries : List Entry) (listed : List ℕ) (room : ℕ) → length entries < room → AreListed entries listed room
    → AreListed (entries ++ new_entry ∷ []) (listed ++ length entries ∷ []) room
listed-added entries listed room l h = record {
  each = λ t inside on.
      ⊎_elim
      (λ there.
      still_listed listed (length entries) t
      (h.each t there (sym (ap is_on (get_or_append_left entries (new_entry ∷ []) new_entry t there)) ∙ on)))
      (λ past.
      let same : t ≡ length entries = omega (arith, inside, past, length_push entries new_entry) in
      subst (λ (n : ℕ). IsListedAs (listed ++ length entries ∷ []) n) (sym same) (last_listed listed (length entries)))
      (cases_lt t (length entries));
  many = omega (arith, length_push listed (length entries), h.many, sum_by_push one_on entries new_entry);
  room = omega (arith, length_push entries new_entry, l);
}

-- the last is not listed any more; others are still
not_last : (rest : List ℕ) (s t : ℕ) → t ≢ s → IsListedAs (rest ++ s ∷ []) t → IsListedAs rest t
not_last rest s t other i =
    ⊎_elim
    (λ there. record { place = i.place; inside = there; is = sym (get_or_append_left rest (s ∷ []) 0 i.place there) ∙ i.is })
    (λ past.
    let last : length rest ≡ i.place = omega (arith, past, i.inside, length_push rest s) in
    absurd (other (sym i.is ∙ get_or_push rest s 0 i.place last)))
    (cases_lt i.place (length rest))

-- once it is counted
pub listed-put : (entries : List Entry) (rest : List ℕ) (room s : ℕ) (x : Stream) → s < length entries
    → AreListed entries (rest ++ s ∷ []) room → AreListed (put_at entries s x) rest room
listed-put entries rest room s x l h = record {
  each = λ t inside on.
      ⊎_elim
      (λ same. absurd (true≢false (sym on ∙ ap is_on (ap (λ n. entry_at (set entries s (counted_entry x)) n) same ∙ get_or-set_same entries s (counted_entry x) new_entry l))))
      (λ other.
      not_last rest s t other
      (h.each t (omega (arith, inside, length-set entries s (counted_entry x))) (sym (ap is_on (get_or-set_other entries s t (counted_entry x) new_entry other)) ∙ on)))
      (cases_eq t s);
  many = omega (arith, length_push rest s, h.many, on-changed entries s (counted_entry x) l, one_on-few (entry_at entries s));
  room = omega (arith, length-set entries s (counted_entry x), h.room);
}
  where
    one_on-few : (e : Entry) → one_on e ≤ 1
    one_on-few e = by e.is_listed
      where
        by : (b : Bool) → cond b 1 0 ≤ 1
        by true = omega arith
        by false = omega arith

-- or is no stream
pub listed-past : (entries : List Entry) (rest : List ℕ) (room s : ℕ) → length entries ≤ s
    → AreListed entries (rest ++ s ∷ []) room → AreListed entries rest room
listed-past entries rest room s l h = record {
  each = λ t inside on. not_last rest s t (λ same. absurd (omega (arith, same, inside, l))) (h.each t inside on);
  many = omega (arith, length_push rest s, h.many);
  room = h.room;
}

-- where none is in the list none is listed
pub none_listed : (entries : List Entry) (listed : List ℕ) (room : ℕ) → AreListed entries listed room → length listed ≡ 0 → AreSettled entries
none_listed entries listed room h none s l = by (entry_at entries s).is_listed refl
  where
    by : (b : Bool) → (entry_at entries s).is_listed ≡ b → b ≡ false
    by true on = absurd (omega (arith, (h.each s l on).inside, none))
    by false off = refl

-- of no streams
pub listed-none : (room : ℕ) → AreListed [] [] room
listed-none room = record { each = λ s l on. absurd (omega (arith, l)); many = omega arith; room = omega arith }

-- there may be more room
pub listed-room : (entries : List Entry) (listed : List ℕ) (room more : ℕ) → length entries ≤ more → AreListed entries listed room → AreListed entries listed more
listed-room entries listed room more l h = record { each = h.each; many = h.many; room = l }

-- ## What a store counts

-- guests that are as many
pub counted-alike : (guests others : List Guest) (streams more : List Stream) (known : Known) → length others ≡ length guests
    → map ready_by more ≡ map ready_by streams → AreReadyCounted guests streams known → AreReadyCounted others more known
counted-alike guests others streams more known e same h = record {
  all = λ t. h.all t ∙ sym e;
  each = λ t. alike streams more known.counts.streams same (h.each t);
}
  where
    alike : (xs ys : List Stream) (entries : List Entry) → map ready_by ys ≡ map ready_by xs → AreCounted xs entries → AreCounted ys entries
    alike xs ys entries f k =
        let long : length ys ≡ length xs = sym (length-map ys ready_by) ∙ ap (λ (l : List ReadyBy). length l) f ∙ length-map xs ready_by in
        record {
          all = k.all ∙ sym long;
          each = λ s inside off.
              let there : s < length xs = omega (arith, inside, k.all) in
              k.each s inside off ∙ sym (get_or-map ready_by xs s no_stream (ready_by no_stream) there)
              ∙ sym (ap (λ (l : List ReadyBy). get_or l s (ready_by no_stream)) f)
              ∙ get_or-map ready_by ys s no_stream (ready_by no_stream) (omega (arith, there, long));
        }

-- nothing is counted
pub counted-none : (guests : List Guest) (streams : List Stream) (known : Known) → known.is_counting ≡ false → AreReadyCounted guests streams known
counted-none guests streams known none = record { all = λ t. absurd (cc); each = λ t. absurd (cc) }

-- what is counted stays
pub same_counts : (known : Known) → SameCounts known known
same_counts known = record { counting = refl; guests = refl; streams = refl }

pub same_counts-then : (old between new : Known) → SameCounts old between → SameCounts between new → SameCounts old new
same_counts-then old between new j k = record {
  counting = k.counting ∙ j.counting;
  guests = k.guests ∙ j.guests;
  streams = k.streams ∙ j.streams;
}

pub counted-kept : (guests : List Guest) (streams : List Stream) (old new : Known) → SameCounts old new → AreReadyCounted guests streams old → AreReadyCounted guests streams new
counted-kept guests streams old new k h = record {
  all = λ t. k.guests ∙ h.all (sym k.counting ∙ t);
  each = λ t. subst (AreCounted streams) (sym k.streams) (h.each (sym k.counting ∙ t));
}

-- one stream is another, and is listed
listed_then : (xs : List Stream) (entries : List Entry) (s : ℕ) (x : Stream) → AreCounted xs entries → AreCounted (set xs s x) (listed_at entries s)
listed_then xs entries s x h = record {
  all = length-set entries s (listed_entry (entry_at entries s)) ∙ h.all ∙ sym (length-set xs s x);
  each = λ t inside off.
      let there : t < length entries = omega (arith, inside, length-set entries s (listed_entry (entry_at entries s))) in
      ⊎_elim
      (λ same.
      absurd (true≢false (sym (ap (λ (e : Entry). e.is_listed) (ap (λ n. entry_at (set entries s (listed_entry (entry_at entries s))) n) same ∙ get_or-set_same entries s (listed_entry (entry_at entries s)) new_entry (omega (arith, there, same)))) ∙ off)))
      (λ other.
      let kept = get_or-set_other entries s t (listed_entry (entry_at entries s)) new_entry other in
      ap (λ (e : Entry). e.counted) kept ∙ h.each t there (sym (ap (λ (e : Entry). e.is_listed) kept) ∙ off)
      ∙ ap ready_by (sym (get_or-set_other xs s t x no_stream other)))
      (cases_eq t s);
}

pub counted-retold : (guests others gs : List Guest) (xs : List Stream) (s : ℕ) (x : Stream) (old new : Known) → length others ≡ length guests
    → Retold gs s x old new → AreReadyCounted guests xs old → AreReadyCounted others (set xs s x) new
counted-retold guests others gs xs s x old new e r h = record {
  all = λ t. r.guests_counted ∙ h.all (sym r.counting ∙ t) ∙ sym e;
  each = λ t.
      let was = sym r.counting ∙ t in
      subst (AreCounted (set xs s x)) (sym (r.listed was)) (listed_then xs old.counts.streams s x (h.each was));
}

-- or there is one more
added_then : (xs : List Stream) (entries : List Entry) (x : Stream) → AreCounted xs entries → AreCounted (xs ++ x ∷ []) (entries ++ new_entry ∷ [])
added_then xs entries x h = record {
  all = length_push entries new_entry ∙ ap (λ n. n + 1) h.all ∙ sym (length_push xs x);
  each = λ t inside off.
      ⊎_elim
      (λ there.
      let kept = get_or_append_left entries (new_entry ∷ []) new_entry t there in
      ap (λ (e : Entry). e.counted) kept ∙ h.each t there (sym (ap (λ (e : Entry). e.is_listed) kept) ∙ off)
      ∙ ap ready_by (sym (get_or_append_left xs (x ∷ []) no_stream t (omega (arith, there, h.all)))))
      (λ past.
      let last : length entries ≡ t = omega (arith, inside, past, length_push entries new_entry) in
      absurd (true≢false (sym (ap (λ (e : Entry). e.is_listed) (get_or_push entries new_entry new_entry t last)) ∙ off)))
      (cases_lt t (length entries));
}

pub counted-added : (guests others gs : List Guest) (xs : List Stream) (x : Stream) (old new : Known) → length others ≡ length guests
    → Added gs x old new → AreReadyCounted guests xs old → AreReadyCounted others (xs ++ x ∷ []) new
counted-added guests others gs xs x old new e a h = record {
  all = λ t. a.guests_counted ∙ h.all (sym a.counting ∙ t) ∙ sym e;
  each = λ t.
      let was = sym a.counting ∙ t in
      subst (AreCounted (xs ++ x ∷ [])) (sym (a.listed was)) (added_then xs old.counts.streams x (h.each was));
}

-- one more may be, once there is room
pub may_add : (guests : List Guest) (streams : List Stream) (old room : Known) → AreReadyCounted guests streams old → SameCounts old room
    → (old.is_counting ≡ true → length room.counts.streams < room.counts.room) → length streams < 4294967295 → MayAdd room
may_add guests streams old room h k more few = record {
  few = λ t.
      let was = sym k.counting ∙ t in
      omega (arith, ap (λ (es : List Entry). length es) k.streams, (h.each was).all, few);
  room = λ t. more (sym k.counting ∙ t);
}

pub added_after : (gs : List Guest) (x : Stream) (old room new : Known) → room.sets ≡ old.sets → SameCounts old room → Added gs x room new → Added gs x old new
added_after gs x old room new e k a = record {
  sets = subst (λ (r : Ready). Retells gs x r new.sets) e a.sets;
  counting = a.counting ∙ k.counting;
  guests_counted = a.guests_counted ∙ k.guests;
  listed = λ t. a.listed (k.counting ∙ t) ∙ ap (λ (es : List Entry). es ++ new_entry ∷ []) k.streams;
}

-- a guest more, which has no end
pub record AddsCounted (old new : Known) : Type 0 where
  pub counting : new.is_counting ≡ old.is_counting
  pub streams : new.counts.streams ≡ old.counts.streams
  pub guests : old.is_counting ≡ true → new.counts.guests ≡ old.counts.guests + 1

pub counted-guest : (guests : List Guest) (x : Guest) (streams : List Stream) (old new : Known) → AddsCounted old new
    → AreReadyCounted guests streams old → AreReadyCounted (guests ++ x ∷ []) streams new
counted-guest guests x streams old new a h = record {
  all = λ t.
      let was = sym a.counting ∙ t in
      a.guests was ∙ ap (λ n. n + 1) (h.all was) ∙ sym (length_push guests x);
  each = λ t. subst (AreCounted streams) (sym a.streams) (h.each (sym a.counting ∙ t));
}

-- a stream keeps the guests that its ends make ready
pub ready_by-put : (streams : List Stream) (s : ℕ) (x : Stream) → ready_by x ≡ ready_by (get_or streams s no_stream) → map ready_by (set streams s x) ≡ map ready_by streams
ready_by-put streams s x e = map-set_same ready_by streams s x no_stream e

-- ## All are counted as they are

-- one stream after the other
pub counted-put : (streams : List Stream) (entries : List Entry) (s : ℕ) → s < length entries → AreCounted streams entries
    → AreCounted streams (put_at entries s (get_or streams s no_stream))
counted-put streams entries s l h = record {
  all = length-set entries s (counted_entry (get_or streams s no_stream)) ∙ h.all;
  each = λ t inside off.
      let there : t < length entries = omega (arith, inside, length-set entries s (counted_entry (get_or streams s no_stream))) in
      ⊎_elim
      (λ same.
      ap (λ (e : Entry). e.counted) (ap (λ n. entry_at (set entries s (counted_entry (get_or streams s no_stream))) n) same ∙ get_or-set_same entries s (counted_entry (get_or streams s no_stream)) new_entry l)
      ∙ ap (λ n. ready_by (get_or streams n no_stream)) (sym same))
      (λ other.
      let kept = get_or-set_other entries s t (counted_entry (get_or streams s no_stream)) new_entry other in
      ap (λ (e : Entry). e.counted) kept ∙ h.each t there (sym (ap (λ (e : Entry). e.is_listed) kept) ∙ off))
      (cases_eq t s);
}

-- none was counted yet
pub counted-new : (streams : List Stream) (many : ℕ) → many ≡ length streams → AreCounted streams (replicate many new_entry)
counted-new streams many e = record {
  all = length-replicate many new_entry ∙ e;
  each = λ s inside off.
      absurd (true≢false (sym (ap (λ (x : Entry). x.is_listed) (get_or-replicate many s new_entry new_entry (omega (arith, inside, length-replicate many new_entry)))) ∙ off));
}

-- the ends of all streams are those of guests that are there
pub ends_within : (guests : List Guest) (streams : List Stream) → IsHeld guests streams → AreWithin (length guests) streams
ends_within guests streams held s g past =
    omega (
      arith,
      ap {B = ℕ} (λ b. cond b 1 0) (none_past guests streams held s Writing g past),
      ap {B = ℕ} (λ b. cond b 1 0) (none_past guests streams held s Reading g past),
    )

-- where no stream is listed, what is counted is what the ends of streams do
entries_as : (streams : List Stream) (entries : List Entry) (g : ℕ) → length entries ≡ length streams
    → ((s : ℕ) → s < length entries → (entry_at entries s).counted ≡ ready_by (get_or streams s no_stream)) → counted_for entries g ≡ ready_ends streams g
entries_as [] [] g e h = refl
entries_as [] (y ∷ ys) g e h = absurd (omega (arith, e))
entries_as (x ∷ xs) [] g e h = absurd (omega (arith, e))
entries_as (x ∷ xs) (y ∷ ys) g e h =
    omega (
      arith,
      sum_by-cons (entry_for g) y ys,
      sum_by-cons (ends_of g) x xs,
      ap (λ (r : ReadyBy). ends_for r g) (h 0 (omega arith)),
      entries_as xs ys g (omega (arith, e)) (λ s l. h (suc s) (omega (arith, l))),
    )

pub settled_as : (streams : List Stream) (entries : List Entry) (g : ℕ) → AreCounted streams entries → AreSettled entries → counted_for entries g ≡ ready_ends streams g
settled_as streams entries g h settled = entries_as streams entries g h.all (λ s l. h.each s l (settled s l))

-- ## One end counted again

-- a guest is counted once less
pub counts-lowered : (counts : List ℕ) (n g : ℕ) → g < length counts → (n < length counts → has_any counts n ≡ true)
    → count_at (lowered counts n) g + one (Some n) g ≡ count_at counts g
counts-lowered counts n g l any =
    ⊎_elim
    (λ e.
    let inside : n < length counts = omega (arith, e, l) in
    let some : 0 < count_at counts n = ltb-true 0 (count_at counts n) (any inside) in
    let is : count_at (lowered counts n) n ≡ count_at counts n - 1 = get_or-set_same counts n (count_at counts n - 1) 0 inside in
    let here : one (Some n) n ≡ 1 = ap {B = ℕ} (λ b. cond b 1 0) (eq-eqb n n refl) in
    subst (λ k. count_at (lowered counts n) k + one (Some n) k ≡ count_at counts k) e (omega (arith, is, here, some)))
    (λ ne.
    let is : count_at (lowered counts n) g ≡ count_at counts g = get_or-set_other counts n g (count_at counts n - 1) 0 (λ f. ne (sym f)) in
    let not : one (Some n) g ≡ 0 = ap {B = ℕ} (λ b. cond b 1 0) (ne_eqb n g ne) in
    omega (arith, is, not))
    (cases_eq n g)

-- or once more
pub counts-raised : (counts : List ℕ) (n g : ℕ) → g < length counts → count_at (raised counts n) g ≡ count_at counts g + one (Some n) g
counts-raised counts n g l =
    ⊎_elim
    (λ e.
    let is : count_at (raised counts n) n ≡ count_at counts n + 1 = get_or-set_same counts n (count_at counts n + 1) 0 (omega (arith, e, l)) in
    let here : one (Some n) n ≡ 1 = ap {B = ℕ} (λ b. cond b 1 0) (eq-eqb n n refl) in
    subst (λ k. count_at (raised counts n) k ≡ count_at counts k + one (Some n) k) e (omega (arith, is, here)))
    (λ ne.
    let is : count_at (raised counts n) g ≡ count_at counts g = get_or-set_other counts n g (count_at counts n + 1) 0 (λ f. ne (sym f)) in
    let not : one (Some n) g ≡ 0 = ap {B = ℕ} (λ b. cond b 1 0) (ne_eqb n g ne) in
    omega (arith, is, not))
    (cases_eq n g)

-- the counts after an end made this guest ready, or makes it ready
pub record CountsLess (was : Option ℕ) (old new : List ℕ) : Type 0 where
  pub all : length new ≡ length old
  pub counts : (g : ℕ) → g < length old → count_at new g + one was g ≡ count_at old g

pub counts_less : (old new : List ℕ) (was : Option ℕ) (n : ℕ) → was ≡ Some n → new ≡ lowered old n
    → ((g : ℕ) → g < length old → is_number was g ≡ true → has_any old g ≡ true) → CountsLess was old new
counts_less old new was n is e any =
    let own : n < length old → has_any old n ≡ true = λ l. any n l (ap (λ (o : Option ℕ). is_number o n) is ∙ eq-eqb n n refl) in
    subst (λ (o : Option ℕ). CountsLess o old new) (sym is)
    (subst (λ xs. CountsLess (Some n) old xs) (sym e)
    (record { all = length-set old n _; counts = λ g l. counts-lowered old n g l own }))

pub record CountsMore (is : Option ℕ) (old new : List ℕ) : Type 0 where
  pub all : length new ≡ length old
  pub counts : (g : ℕ) → g < length old → count_at new g ≡ count_at old g + one is g

pub counts_more : (old new : List ℕ) (is : Option ℕ) (n : ℕ) → is ≡ Some n → new ≡ raised old n → CountsMore is old new
counts_more old new is n same e =
    subst (λ (o : Option ℕ). CountsMore o old new) (sym same)
    (subst (λ xs. CountsMore (Some n) old xs) (sym e)
    (record { all = length-set old n _; counts = λ g l. counts-raised old n g l }))

-- as few stay few where none is counted more
pub few-lowered : (old new : List ℕ) (was : Option ℕ) → length new ≡ length old
    → ((g : ℕ) → g < length old → count_at new g + one was g ≡ count_at old g) → AreFew old → AreFew new
few-lowered old new was all counts few g =
    ⊎_elim
    (λ inside. omega (arith, counts g inside, few g))
    (λ past. omega (arith, get_or_past new g 0 (omega (arith, past, all))))
    (cases_lt g (length old))

-- as few stay few, and one more, where one end is counted again
pub few-recounted : (old new : List ℕ) (was is : Option ℕ) → length new ≡ length old
    → ((g : ℕ) → g < length old → count_at new g + one was g ≡ count_at old g + one is g)
    → ((g : ℕ) → count_at old g ≤ 2 * 4294967295) → AreFew new
few-recounted old new was is all counts few g =
    ⊎_elim
    (λ inside. omega (arith, counts g inside, few g, one-few is g))
    (λ past. omega (arith, get_or_past new g 0 (omega (arith, past, all))))
    (cases_lt g (length old))

-- ## The next guest that is ready

-- the first of a range that is taken
find-first : (p : ℕ → Bool) (n from many : ℕ) → from ≤ n → n < from + many → p n ≡ true
    → ((m : ℕ) → from ≤ m → m < n → p m ≡ false) → find p (range_with_len from many) ≡ Some n
find-first p n from zero l u is others = absurd (omega (arith, l, u))
find-first p n from (suc many) l u is others =
    ⊎_elim
    (λ e. ap (λ b. cond b (Some from) (find p (range_with_len (from + 1) many))) (ap p e ∙ is) ∙ ap Some e)
    (λ ne.
    ap (λ b. cond b (Some from) (find p (range_with_len (from + 1) many))) (others from (omega arith) (omega (arith, l, ne)))
    ∙ find-first p n (from + 1) many (omega (arith, l, ne)) (omega (arith, u)) is (λ m low up. others m (omega (arith, low)) up))
    (cases_eq from n)

find-no : (p : ℕ → Bool) (from many : ℕ) → ((m : ℕ) → from ≤ m → m < from + many → p m ≡ false) → find p (range_with_len from many) ≡ None
find-no p from zero others = refl
find-no p from (suc many) others =
    ap (λ b. cond b (Some from) (find p (range_with_len (from + 1) many))) (others from (omega arith) (omega arith))
    ∙ find-no p (from + 1) many (λ m low up. others m (omega (arith, low)) (omega (arith, up)))

-- by what is counted
module _ (counts : List ℕ) (counted : Counted) (h : AreSums counts counted.streams) (all : counted.guests ≡ length counts) (from : ℕ) where
  any_so : (g : ℕ) → g < length counts → nat_lt 0 (counted_for counted.streams g) ≡ has_any counts g
  any_so g l = ap (nat_lt 0) (sym (h.each g l))

  pub next_counted : (g : ℕ) → IsNext counts from g → IsNextCounted counted from g
  next_counted g next = record {
    there = omega (arith, next.inside, all);
    behind = next.behind;
    any = any_so g next.inside ∙ next.any;
    least = λ m low up. any_so m (omega (arith, up, next.inside)) ∙ next.least m low up;
  }

  pub none_counted : HasNoneFrom counts from → HasNoneCounted counted from
  none_counted none m low up = any_so m (omega (arith, up, all)) ∙ none m low

-- in a store where no stream is listed
module _ (state : State) (known : Known) (h : AreReadyCounted state.guests state.streams known) (t : known.is_counting ≡ true) (settled : AreSettled known.counts.streams) (from : ℕ) where
  -- a guest is ready just where some stream was counted for it
  ready_so : (g : ℕ) → is_ready_guest state g ≡ nat_lt 0 (counted_for known.counts.streams g)
  ready_so g = ap (nat_lt 0) (sym (settled_as state.streams known.counts.streams g (h.each t) settled))

  abbrev taken : ℕ → Bool
  taken g = nat_le from g && is_ready_guest state g

  next_is : (g : ℕ) → IsNextCounted known.counts from g → Some g ≡ next_ready_guest state from
  unfolding next_ready_guest
  next_is g next =
      sym (find-first taken g 0 (length state.guests) (omega arith) (omega (arith, next.there, h.all t))
      (and_from (nat_le from g) (is_ready_guest state g) (le-leb from g next.behind) (ready_so g ∙ next.any))
      (λ m low up. by m up (cases_lt m from)))
    where
      by : (m : ℕ) → m < g → (m < from) ⊎ (from ≤ m) → taken m ≡ false
      by m up (inl before) = and_left (nat_le from m) (is_ready_guest state m) (lt-leb from m before)
      by m up (inr behind) = and_right (nat_le from m) (is_ready_guest state m) (ready_so m ∙ next.least m behind up)

  next_none : HasNoneCounted known.counts from → None ≡ next_ready_guest state from
  unfolding next_ready_guest
  next_none none = sym (find-no taken 0 (length state.guests) (λ m low up. by m (omega (arith, up, h.all t)) (cases_lt m from)))
    where
      by : (m : ℕ) → m < known.counts.guests → (m < from) ⊎ (from ≤ m) → taken m ≡ false
      by m l (inl before) = and_left (nat_le from m) (is_ready_guest state m) (lt-leb from m before)
      by m l (inr behind) = and_right (nat_le from m) (is_ready_guest state m) (ready_so m ∙ none m behind l)

-- the next guest that is counted is this one, or there is none
abbrev pub TellsNext : Counted → ℕ → Option ℕ → Type 0
TellsNext counted from (Some g) = IsNextCounted counted from g
TellsNext counted from None = HasNoneCounted counted from

pub tells_next : (counted : Counted) (from : ℕ) (found : Option ℕ) → IfSome found (λ g. IsNextCounted counted from g) → IfNone found (HasNoneCounted counted from) → TellsNext counted from found
tells_next counted from (Some g) some none = some
tells_next counted from None some none = none

-- as it is looked for
pub next_answer : (state : State) (known : Known) (from : ℕ) (found : Option ℕ) → AreReadyCounted state.guests state.streams known
    → known.is_counting ≡ true → AreSettled known.counts.streams → TellsNext known.counts from found → found ≡ next_ready_guest state from
next_answer state known from (Some g) h t settled next = next_is state known h t settled from g next
next_answer state known from None h t settled none = next_none state known h t settled from none

-- ## What it is to be the next

-- the first of a range that is taken is taken, and none before it is
record IsFirst (p : ℕ → Bool) (from end n : ℕ) : Type 0 where
  pub behind : from ≤ n
  pub inside : n < end
  pub holds : p n ≡ true
  pub fails : (m : ℕ) → from ≤ m → m < n → p m ≡ false

first-step : (p : ℕ → Bool) (from many n : ℕ) → (find p (range_with_len (from + 1) many) ≡ Some n → IsFirst p (from + 1) (from + 1 + many) n)
    → find p (range_with_len from (suc many)) ≡ Some n → IsFirst p from (from + suc many) n
first-step p from many n later e = by (p from) refl
  where
    by : (b : Bool) → p from ≡ b → IsFirst p from (from + suc many) n
    by true t =
        let found : ◌≡◌ {A = Option ℕ} (Some from) (Some n) = sym (ap (λ b. cond b (Some from) (find p (range_with_len (from + 1) many))) t) ∙ e in
        let same : from ≡ n = cc in
        record { behind = omega (arith, same); inside = omega (arith, same); holds = ap p (sym same) ∙ t; fails = λ m l u. absurd (omega (arith, l, u, same)) }
    by false t =
        let rest = later (sym (ap (λ b. cond b (Some from) (find p (range_with_len (from + 1) many))) t) ∙ e) in
        record {
          behind = omega (arith, rest.behind);
          inside = omega (arith, rest.inside);
          holds = rest.holds;
          fails = λ m l u. ⊎_elim (λ same. ap p same ∙ t) (λ ne. rest.fails m (omega (arith, l, ne)) u) (cases_eq m from);
        }

find-is : (p : ℕ → Bool) (from many n : ℕ) → find p (range_with_len from many) ≡ Some n → IsFirst p from (from + many) n
find-is p from zero n e = cc
find-is p from (suc many) n e = first-step p from many n (λ rest. find-is p (from + 1) many n rest) e

none-step : (p : ℕ → Bool) (from many : ℕ) → (find p (range_with_len (from + 1) many) ≡ None → (m : ℕ) → from + 1 ≤ m → m < from + 1 + many → p m ≡ false)
    → find p (range_with_len from (suc many)) ≡ None → (m : ℕ) → from ≤ m → m < from + suc many → p m ≡ false
none-step p from many later e m l u = by (p from) refl
  where
    by : (b : Bool) → p from ≡ b → p m ≡ false
    by true t =
        let found : ◌≡◌ {A = Option ℕ} (Some from) None = sym (ap (λ b. cond b (Some from) (find p (range_with_len (from + 1) many))) t) ∙ e in cc
    by false t =
        let rest = later (sym (ap (λ b. cond b (Some from) (find p (range_with_len (from + 1) many))) t) ∙ e) in
        ⊎_elim (λ same. ap p same ∙ t) (λ ne. rest m (omega (arith, l, ne)) (omega (arith, u))) (cases_eq m from)

find-none-is : (p : ℕ → Bool) (from many : ℕ) → find p (range_with_len from many) ≡ None → (m : ℕ) → from ≤ m → m < from + many → p m ≡ false
find-none-is p from zero e m l u = absurd (omega (arith, l, u))
find-none-is p from (suc many) e m l u = none-step p from many (λ rest. find-none-is p (from + 1) many rest) e m l u

not_taken : (a b : Bool) → a ≡ true → a && b ≡ false → b ≡ false
not_taken true b e f = f
not_taken false b e f = cc

-- the next guest that is ready is there, is ready, and no other is, from the number on and before it
pub next_ready-is : (state : State) (from g : ℕ) → next_ready_guest state from ≡ Some g → IsNextReady state from g
unfolding next_ready_guest
next_ready-is state from g e =
    let first = find-is (λ n. nat_le from n && is_ready_guest state n) 0 (length state.guests) g e in
    let both = and_parts (nat_le from g) (is_ready_guest state g) first.holds in
    record {
      there = omega (arith, first.inside);
      behind = leb-true from g both.0;
      ready = both.1;
      least = λ m l u. not_taken (nat_le from m) (is_ready_guest state m) (le-leb from m l) (first.fails m (omega arith) u);
    }

pub next_ready-none : (state : State) (from : ℕ) → next_ready_guest state from ≡ None → (g : ℕ) → from ≤ g → g < length state.guests → is_ready_guest state g ≡ false
unfolding next_ready_guest
next_ready-none state from e g l u =
    not_taken (nat_le from g) (is_ready_guest state g) (le-leb from g l)
    (find-none-is (λ n. nat_le from n && is_ready_guest state n) 0 (length state.guests) e g (omega arith) (omega (arith, u)))
