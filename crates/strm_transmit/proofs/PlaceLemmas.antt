-- Which places are free, after each change of the streams.
use Rattle.std.proofs.Common.{◌≡◌, ◌≢◌, ℕ, suc, ◌+◌, ◌<◌, ◌≤◌, true, false, cond, List, [], ◌∷◌, ◌++◌, length, get_or, set, reverse, Some, None, refl, sym, ap, ◌∙◌, subst, ⊎_elim, arith, length-append, length-set}
use Rattle.std.specs.Prelude.{Bool, not, ◌&&◌, All, count_by, drop}
use Rattle.std.proofs.lemmas.Bool.{cases_eq}
use Rattle.std.proofs.lemmas.List.{reverse-append, get_or-set_same, get_or-set_other, get_or_append_left}
use Rattle.std.proofs.lemmas.List.Elements.{All-head, All-tail, All-cons, All-nil}
use Rattle.std.proofs.lemmas.List.Sums.{sum_by-set, sum_by_push, sum_by-cons, count_by-le-length}
use Rattle.strm_handles.specs.Handles.{AreApart}
use Rattle.strm_machine.specs.State.{is_live, is_gone, is_loose, no_stream}
use Rattle.strm_machine.specs.Sides.{end_of}
use Rattle.strm_machine.specs.Moves.{with_owner}
use Rattle.strm_machine.specs.declared.streams.Owner.{Owner}
use Rattle.strm_machine.specs.declared.streams.Owner.TheVariants.{Held, Loose, Host, Gone}
use Rattle.strm_machine.specs.declared.streams.Side.{Side}
use Rattle.strm_machine.specs.declared.streams.Side.TheVariants.{Writing, Reading}
use Rattle.strm_machine.specs.declared.streams.Stream.{Stream}
use Rattle.strm_transmit.specs.Places.{Places, no_places, IsGone, ArePlaces, added_place, settled, next_free, taken}

-- one, for a stream that has an end left
abbrev pub live_by : Bool → ℕ
live_by b = cond b 1 0

-- how many streams have an end left, by each of them
abbrev pub live_weight : Stream → ℕ
live_weight stream = live_by (is_live stream)

pub live_sum : (streams : List Stream) (s : ℕ) (stream : Stream) → s < length streams → count_by is_live (set streams s stream) + live_weight (get_or streams s no_stream) ≡ count_by is_live streams + live_weight stream
live_sum streams s stream l = sum_by-set live_weight streams s stream no_stream l

-- no place of no streams
pub ArePlaces-none : ArePlaces no_places []
ArePlaces-none = record { live = refl; free = All-nil (IsGone []); apart = tt; all = refl; room = omega arith }

-- where as many have an end left as there are, each has
live_more : (stream : Stream) (streams : List Stream) (b : Bool) → is_live stream ≡ b → count_by is_live (stream ∷ streams) ≡ length (stream ∷ streams)
    → (count_by is_live streams ≡ length streams → All (λ x. is_live x ≡ true) streams) → All (λ x. is_live x ≡ true) (stream ∷ streams)
live_more stream streams true live e rest =
    let one : live_weight stream ≡ 1 = ap live_by live in
    let count : live_weight stream + count_by is_live streams ≡ suc (length streams) = sym (sum_by-cons live_weight stream streams) ∙ e in
    All-cons (λ x. is_live x ≡ true) stream streams live (rest (omega (arith, count, one)))
live_more stream streams false gone e rest =
    let none : live_weight stream ≡ 0 = ap live_by gone in
    let count : live_weight stream + count_by is_live streams ≡ suc (length streams) = sym (sum_by-cons live_weight stream streams) ∙ e in
    absurd (omega (arith, count, none, count_by-le-length is_live streams))

pub all_live : (streams : List Stream) → count_by is_live streams ≡ length streams → All (λ x. is_live x ≡ true) streams
all_live [] e = All-nil (λ x. is_live x ≡ true)
all_live (stream ∷ streams) e = live_more stream streams (is_live stream) refl e (all_live streams)

-- where no place is free, no stream is gone
pub none_free : (places : Places) (streams : List Stream) → ArePlaces places streams → next_free places.free ≡ None → All (λ stream. is_live stream ≡ true) streams
none_free places streams p e =
    all_live streams (omega (arith, p.live, p.all, by places.free e))
  where
    by : (free : List ℕ) → next_free free ≡ None → length free ≡ 0
    by [] none = refl
    by (n ∷ free) none = cc

-- ## Room

-- the same places, and as much room or more
pub ArePlaces-room : (old new : Places) (streams : List Stream) → new ≡ record old { room = new.room } → old.room ≤ new.room → ArePlaces old streams → ArePlaces new streams
ArePlaces-room old new streams same more p = record {
  live = ap (λ (k : Places). k.live) same ∙ p.live;
  free = subst (λ (k : Places). All (IsGone streams) k.free) (sym same) p.free;
  apart = subst (λ (k : Places). AreApart k.free) (sym same) p.apart;
  all = subst (λ (k : Places). length k.free + k.live ≡ length streams) (sym same) p.all;
  room = omega (arith, p.room, more);
}

-- there is room for the place of a stream that is there
pub some_live : (places : Places) (streams : List Stream) (s : ℕ) → s < length streams → is_live (get_or streams s no_stream) ≡ true → ArePlaces places streams → 0 < places.live
some_live places streams s l e p =
    let weight : live_weight (get_or streams s no_stream) ≡ 1 = ap live_by e in
    let none : live_weight no_stream ≡ 0 = refl in
    omega (arith, live_sum streams s no_stream l, weight, none, p.live)

pub some_room : (places : Places) (streams : List Stream) → 0 < places.live → ArePlaces places streams → length places.free < places.room
some_room places streams some p = omega (arith, some, p.all, p.room)

-- ## The list of the free

-- what is left of it where the last freed leaves
pub popped : (old new : List ℕ) (n : ℕ) → old ≡ new ++ n ∷ [] → reverse new ≡ drop 1 (reverse old)
popped old new n e = sym (ap (λ (ns : List ℕ). drop 1 (reverse ns)) e ∙ ap (drop 1) (reverse-append new (n ∷ [])))

-- there is one, where one is next
pub some_free : (free : List ℕ) (n : ℕ) → next_free free ≡ Some n → 0 < length free
some_free [] n e = cc
some_free (k ∷ free) n e = omega arith

-- ## A stream more

module _ (streams : List Stream) (stream : Stream) where
  gone_before : (n : ℕ) → IsGone streams n → IsGone (streams ++ stream ∷ []) n
  gone_before n g = record {
    made = omega (arith, g.made, length-append streams (stream ∷ []));
    gone = ap is_live (get_or_append_left streams (stream ∷ []) no_stream n g.made) ∙ g.gone;
  }

  -- behind the last
  pub ArePlaces-push : (places : Places) → is_live stream ≡ true → length streams + 1 ≤ places.room → ArePlaces places streams → ArePlaces (added_place places) (streams ++ stream ∷ [])
  ArePlaces-push places e room p =
      let more : count_by is_live (streams ++ stream ∷ []) ≡ count_by is_live streams + live_weight stream = sum_by_push live_weight streams stream in
      let one : live_weight stream ≡ 1 = ap live_by e in
      let long = length-append streams (stream ∷ []) in
      record {
        live = omega (arith, p.live, more, one);
        free = λ k d l. gone_before (get_or places.free k d) (p.free k d l);
        apart = p.apart;
        all = omega (arith, p.all, long);
        room = omega (arith, room, long);
      }

-- and so counted
pub ArePlaces-added : (streams more : List Stream) (stream : Stream) (places new : Places) → more ≡ streams ++ stream ∷ [] → new ≡ added_place places → is_live stream ≡ true → length streams + 1 ≤ places.room → ArePlaces places streams → ArePlaces new more
ArePlaces-added streams more stream places new m n e room p = rw (m, n) (ArePlaces-push streams stream places e room p)

-- ## A stream that became another

module _ (streams : List Stream) (s : ℕ) (after : Stream) (l : s < length streams) where
  abbrev before : Stream
  before = get_or streams s no_stream

  abbrev changed : List Stream
  changed = set streams s after

  as_long : length changed ≡ length streams
  as_long = length-set streams s after

  gone_beside : (n : ℕ) → n ≢ s → IsGone streams n → IsGone changed n
  gone_beside n ne g = record {
    made = omega (arith, g.made, as_long);
    gone = ap is_live (get_or-set_other streams s n after no_stream ne) ∙ g.gone;
  }

  gone_here : is_live after ≡ false → IsGone changed s
  gone_here e = record {
    made = omega (arith, l, as_long);
    gone = ap is_live (get_or-set_same streams s after no_stream l) ∙ e;
  }

  -- the places of streams that are gone are not that of one that is not
  live_apart : is_live before ≡ true → (free : List ℕ) → All (IsGone streams) free → All (λ n. s ≢ n) free
  live_apart e free gone = λ k d lt same.
      let here : is_live before ≡ false = ap (λ n. is_live (get_or streams n no_stream)) same ∙ (gone k d lt).gone in
      cc

  free_beside : (free : List ℕ) → All (λ n. s ≢ n) free → All (IsGone streams) free → All (IsGone changed) free
  free_beside free apart gone = λ k d lt. gone_beside (get_or free k d) (λ e. apart k d lt (sym e)) (gone k d lt)

  -- it has an end left where it had one before
  pub ArePlaces-kept : (places : Places) → is_live after ≡ is_live before → ArePlaces places streams → ArePlaces places changed
  ArePlaces-kept places e p =
      let weight : live_weight after ≡ live_weight before = ap live_by e in
      record {
        live = omega (arith, p.live, live_sum streams s after l, weight);
        free = λ k d lt. still (get_or places.free k d) (p.free k d lt);
        apart = p.apart;
        all = omega (arith, p.all, as_long);
        room = omega (arith, p.room, as_long);
      }
    where
      still : (n : ℕ) → IsGone streams n → IsGone changed n
      still n g =
          ⊎_elim
          (λ same. subst (IsGone changed) (sym same) (gone_here (e ∙ subst (λ k. is_live (get_or streams k no_stream) ≡ false) same g.gone)))
          (λ ne. gone_beside n ne g)
          (cases_eq n s)

  -- it lost its last end
  ArePlaces-freed : (places : Places) → is_live before ≡ true → is_live after ≡ false → ArePlaces places streams → ArePlaces (settled places s true false) changed
  ArePlaces-freed places was is p =
      let apart = live_apart was places.free p.free in
      let some = some_live places streams s l was p in
      let weight : live_weight after ≡ 0 = ap live_by is in
      let weighed : live_weight before ≡ 1 = ap live_by was in
      record {
        live = omega (arith, p.live, live_sum streams s after l, weight, weighed);
        free = All-cons (IsGone changed) s places.free (gone_here is) (free_beside places.free apart p.free);
        apart = (apart, p.apart);
        all = omega (arith, p.all, as_long, some);
        room = omega (arith, p.room, as_long);
      }

  -- it may have lost its last end, and gets none once it has none
  pub ArePlaces-settled : (places : Places) (was is : Bool) → was ≡ is_live before → is ≡ is_live after → (is_live before ≡ false → is_live after ≡ false) → ArePlaces places streams → ArePlaces (settled places s was is) changed
  ArePlaces-settled places true true w i stays p = ArePlaces-kept places (sym i ∙ w) p
  ArePlaces-settled places true false w i stays p = ArePlaces-freed places (sym w) (sym i) p
  ArePlaces-settled places false true w i stays p = let none : true ≡ false = i ∙ stays (sym w) in cc
  ArePlaces-settled places false false w i stays p = ArePlaces-kept places (sym i ∙ w) p

  -- it stands where a stream was gone, in the place that was freed last
  pub ArePlaces-taken : (places : Places) → next_free places.free ≡ Some s → is_live after ≡ true → ArePlaces places streams → ArePlaces (taken places) changed
  ArePlaces-taken places e is p = by places.free e p.free p.apart p.all
    where
      by : (free : List ℕ) → next_free free ≡ Some s → All (IsGone streams) free → AreApart free → length free + places.live ≡ length streams → ArePlaces (taken (record places { free = free })) changed
      by [] none gone apart all = cc
      by (n ∷ free) some gone apart all =
          let is_next : n ≡ s = cc in
          let ours : All (λ k. s ≢ k) free = subst (λ k. All (λ j. k ≢ j) free) is_next apart.0 in
          let was : is_live before ≡ false = subst (λ k. is_live (get_or streams k no_stream) ≡ false) is_next (All-head (IsGone streams) n free gone).gone in
          let weight : live_weight after ≡ 1 = ap live_by is in
          let weighed : live_weight before ≡ 0 = ap live_by was in
          record {
            live = omega (arith, p.live, live_sum streams s after l, weight, weighed);
            free = free_beside free ours (All-tail (IsGone streams) n free gone);
            apart = apart.1;
            all = omega (arith, all, as_long);
            room = omega (arith, p.room, as_long);
          }

-- and so counted
pub ArePlaces-reused : (streams : List Stream) (s : ℕ) (after : Stream) → s < length streams → (places new : Places) → next_free places.free ≡ Some s → new ≡ taken places → is_live after ≡ true → ArePlaces places streams → ArePlaces new (set streams s after)
ArePlaces-reused streams s after l places new e n is p = rw n (ArePlaces-taken streams s after l places e is p)

-- the place that a stream gets next is of one that is gone
pub next_gone : (places : Places) (streams : List Stream) (n : ℕ) → next_free places.free ≡ Some n → ArePlaces places streams → IsGone streams n
next_gone places streams n e p = by places.free e p.free
  where
    by : (free : List ℕ) → next_free free ≡ Some n → All (IsGone streams) free → IsGone streams n
    by [] none gone = cc
    by (k ∷ free) some gone =
        let same : k ≡ n = cc in
        subst (IsGone streams) same (All-head (IsGone streams) k free gone)

-- ## Streams of which an end is there

-- one whose end a guest has, or is loose, or a host end has
end_live : (stream : Stream) (side : Side) → is_gone (end_of side stream).owner ≡ false → is_live stream ≡ true
end_live stream Writing e = ap (λ b. not (b && is_gone stream.reader.owner)) e
end_live stream Reading e = ap (λ b. not (is_gone stream.writer.owner && b)) e ∙ by (is_gone stream.writer.owner)
  where
    by : (b : Bool) → not (b && false) ≡ true
    by true = refl
    by false = refl

pub held_live : (stream : Stream) (side : Side) (g handle : ℕ) → (end_of side stream).owner ≡ Held g handle → is_live stream ≡ true
held_live stream side g handle e = end_live stream side (ap is_gone e)

pub loose_live : (stream : Stream) → is_loose stream.reader.owner ≡ true → is_live stream ≡ true
loose_live stream e = end_live stream Reading (by stream.reader.owner e)
  where
    by : (owner : Owner) → is_loose owner ≡ true → is_gone owner ≡ false
    by Loose e = refl
    by Gone e = cc
    by (Held g handle) e = cc
    by (Host n) e = cc

pub host_live : (stream : Stream) (side : Side) (n : ℕ) → (end_of side stream).owner ≡ Host n → is_live stream ≡ true
host_live stream side n e = end_live stream side (ap is_gone e)

-- nothing is said of what becomes of it
pub live_stays : (old new : Stream) → is_live old ≡ true → is_live old ≡ false → is_live new ≡ false
live_stays old new e f = let wrong : true ≡ false = sym e ∙ f in cc

both_gone : (a b : Bool) → not (a && b) ≡ false → (a ≡ true) × (b ≡ true)
both_gone true true e = (refl, refl)
both_gone true false e = cc
both_gone false b e = cc

-- one that is gone stays so where an end of it goes
pub gone_stays : (side : Side) (stream : Stream) → is_live stream ≡ false → is_live (with_owner side stream Gone) ≡ false
gone_stays Writing stream e = ap not (both_gone (is_gone stream.writer.owner) (is_gone stream.reader.owner) e).1
gone_stays Reading stream e = ap (λ b. not (b && true)) (both_gone (is_gone stream.writer.owner) (is_gone stream.reader.owner) e).0
