-- The account of an end of a stream that guests write, whoever reads it, and how it grows by one moment.
use Rattle.std.proofs.Common.{◌≡◌, ℕ, zero, suc, ◌+◌, ◌<◌, ◌≤◌, ◌||◌, Bool, true, false, List, [], ◌∷◌, ◌++◌, length, drop, None, refl, sym, ap, subst, ◌∙◌, inl, inr, arith, append-nil, append_assoc, length-append}
use Rattle.std.specs.Prelude.{All, IsSome}
use Rattle.std.proofs.lemmas.Bool.{cases_lt}
use Rattle.std.proofs.lemmas.List.{map-append}
use Rattle.std.proofs.lemmas.List.Elements.{All-nil, All-cons, All-head, All-tail}
use Rattle.strm_codes.specs.Layout.{item_type}
use Rattle.strm_codes.specs.ItemTypes.{item_size, ItemType}
use Rattle.strm_codes.specs.declared.codes.TransmitKind.{TransmitKind}
use Rattle.strm_machine.specs.Moments.{Moment, decoded, k_of, rise, got_in}
use Rattle.strm_machine.specs.State.{State, is_host}
use Rattle.strm_machine.specs.declared.streams.Owner.{Owner}
use Rattle.strm_machine.specs.declared.streams.Owner.TheVariants.{Host}
use Rattle.strm_machine.specs.declared.streams.Side.{Side}
use Rattle.strm_machine.specs.declared.streams.Side.TheVariants.{Writing, Reading}
use Rattle.strm_machine.proofs.Changes.{scene, Change}
use Rattle.strm_machine.proofs.Lawful.{StaysMade}
use Rattle.strm_machine.proofs.MomentLemmas.{Untold, nothing_got}
use Rattle.strm_host_machine.specs.World.{stream_in}
use Rattle.strm_laws.specs.Conservation.{all_handed}
use Rattle.strm_laws.specs.Laws.{total_of_calls, waiting, moved_at, IsWithinAsked}
use Rattle.strm_laws.proofs.Calls.{calls-push, all_reported-push}
use Rattle.strm_laws.proofs.Kept.{kind_at, Received, Kept}
use Rattle.strm_laws.proofs.KeptChanges.{keeps, keeps_taken}
use Rattle.strm_laws.proofs.Conserved.{IsQuiet}
use Rattle.strm_host_laws.specs.HostMoments.{HostMoment}
use Rattle.strm_host_laws.specs.HostLaws.{plain, plains, is_made_by, is_hosted, is_piped_in, was_piped, taken_in_moment, taken_from_owner, taken_by, host_taken_in, all_taken, got_by, host_got_in, host_got}
use Rattle.strm_host_laws.proofs.Moments.{got_unread}
use Rattle.strm_host_laws.proofs.ReadStepSeen.{ReadIn, taken_none}

-- ## One moment more

-- what happens in one of these moments, by what happens in each
or_none : (b : Bool) → (b || false) ≡ b
or_none true = refl
or_none false = refl

or_more : (a b c d : Bool) → b ≡ (c || d) → (a || b) ≡ ((a || c) || d)
or_more true b c d e = refl
or_more false b c d e = e

pub is_hosted-push : (s : ℕ) (all : List HostMoment) (m : HostMoment) → is_hosted s (all ++ m ∷ []) ≡ (is_hosted s all || is_made_by s m.part m.reply)
is_hosted-push s [] m = or_none (is_made_by s m.part m.reply)
is_hosted-push s (x ∷ xs) m = or_more (is_made_by s x.part x.reply) (is_hosted s (xs ++ m ∷ [])) (is_hosted s xs) (is_made_by s m.part m.reply) (is_hosted-push s xs m)

pub was_piped-push : (s : ℕ) (all : List HostMoment) (m : HostMoment) → was_piped s (all ++ m ∷ []) ≡ (was_piped s all || is_piped_in s m.part m.reply)
was_piped-push s [] m = or_none (is_piped_in s m.part m.reply)
was_piped-push s (x ∷ xs) m = or_more (is_piped_in s x.part x.reply) (was_piped s (xs ++ m ∷ [])) (was_piped s xs) (is_piped_in s m.part m.reply) (was_piped-push s xs m)

pub plains-push : (all : List HostMoment) (m : HostMoment) → plains (all ++ m ∷ []) ≡ plains all ++ plain m ∷ []
plains-push all m = map-append plain all (m ∷ [])

pub host_got-push : (s : ℕ) (all : List HostMoment) (m : HostMoment) → host_got s (all ++ m ∷ []) ≡ host_got s all ++ host_got_in s m
host_got-push s [] m = append-nil (host_got_in s m)
host_got-push s (x ∷ xs) m = ap (λ l. host_got_in s x ++ l) (host_got-push s xs m) ∙ sym (append_assoc (host_got_in s x) (host_got s xs) (host_got_in s m))

pub all_taken-push : (s : ℕ) (all : List HostMoment) (m : HostMoment) → all_taken s (all ++ m ∷ []) ≡ all_taken s all ++ host_taken_in s m
all_taken-push s [] m = append-nil (host_taken_in s m)
all_taken-push s (x ∷ xs) m = ap (λ l. host_taken_in s x ++ l) (all_taken-push s xs m) ∙ sym (append_assoc (host_taken_in s x) (all_taken s xs) (host_taken_in s m))

-- all of a list, by its parts
pub all_front : {A : Type 0} (P : A → Type 0) (xs ys : List A) → All P (xs ++ ys) → All P xs
all_front P [] ys h = All-nil P
all_front P (x ∷ xs) ys h = All-cons P x xs (All-head P x (xs ++ ys) h) (all_front P xs ys (All-tail P x (xs ++ ys) h))

pub all_back : {A : Type 0} (P : A → Type 0) (xs ys : List A) → All P (xs ++ ys) → All P ys
all_back P [] ys h = h
all_back P (x ∷ xs) ys h = all_back P xs ys (All-tail P x (xs ++ ys) h)

-- as many items as are asked for
length-decoded : (ss : ItemType) (bytes : List ℕ) (n : ℕ) → length (decoded ss bytes n) ≡ n
unfolding decoded
length-decoded ss bytes zero = refl
length-decoded ss bytes (suc n) = ap suc (length-decoded ss (drop (item_size ss) bytes) n)

-- a host reader that has no read end takes nothing
pub taken_unread : (s : ℕ) (m : HostMoment) (owner : Owner) → is_host owner ≡ false → taken_by s m owner ≡ []
taken_unread s m (Host r) e = cc
taken_unread s m _ e = refl

-- ## The account

-- how many items were received without a call of this end
abbrev pub taken_on : Side → ℕ → List HostMoment → ℕ
taken_on Writing s all = 0
taken_on Reading s all = length (all_taken s all)

-- the account of an end of a stream that was made, of its kind, and of one that was not
pub record HostAccount (s : ℕ) (side : Side) (all : List HostMoment) (state : State) : Type 0 where
  pub kept : Kept (kind_at s state) s side (plains all) (host_got s all) (taken_on side s all) state
  pub unmade : length state.streams ≤ s → IsQuiet s side (plains all)

module _ (s : ℕ) (side : Side) (all : List HostMoment) (m : HostMoment) (made : s < length m.before.state.streams → StaysMade s m.before.state m.after.state) (unmade : length m.before.state.streams ≤ s → Untold s side (plain m)) where
  abbrev more : List Moment
  more = plains all ++ plain m ∷ []

  -- where nothing happened yet, whichever kind
  rekind : (one other : TransmitKind) (had : Received) (taken : ℕ) (state : State) → IsQuiet s side more → Kept one s side more had taken state → Kept other s side more had taken state
  unfolding all_handed
  rekind one other had taken state q k =
      let moved = moved_at s side state in
      record {
        stands = k.stands;
        items = λ e. k.items e ∙ ap (all_handed one s more moved 0) q.none ∙ sym (ap (all_handed other s more moved 0) q.none);
        alone = k.alone;
        count = k.count ∙ ap (λ cs. total_of_calls one moved cs + taken) q.none ∙ sym (ap (λ cs. total_of_calls other moved cs + taken) q.none);
        within = subst (All (IsWithinAsked other moved)) (sym q.none) (All-nil (IsWithinAsked other moved));
        told = ap (λ n. n + moved + taken) (q.silent other ∙ sym (q.silent one)) ∙ k.told;
        reached = k.reached;
      }

  quiet_next : length m.before.state.streams ≤ s → IsQuiet s side (plains all) → IsQuiet s side more
  quiet_next l q =
      let u = unmade l in
      record {
        none = rw (calls-push s side (plains all) (plain m), q.none) u.takes;
        silent = λ kind. rw (all_reported-push kind s side (plains all) (plain m), q.silent kind, u.reports) refl;
      }

  -- the account is kept after the moment, in which so many items were received, and taken until then
  abbrev KeptThen : Received → ℕ → Type 0
  KeptThen got_now taken_now = Kept (kind_at s m.before.state) s side more (host_got s all ++ got_now) taken_now m.after.state

  -- by what was received and taken in the moment
  account_by : (got_now : Received) (taken_now : ℕ) → host_got_in s m ≡ got_now → taken_on side s (all ++ m ∷ []) ≡ taken_now → KeptThen got_now taken_now → HostAccount s side all m.before.state
      → HostAccount s side (all ++ m ∷ []) m.after.state
  account_by got_now taken_now g t next a =
      let quiet : length m.before.state.streams ≤ s → IsQuiet s side more = λ l. quiet_next l (a.unmade l) in
      let had : host_got s all ++ got_now ≡ host_got s (all ++ m ∷ []) = ap (λ l. host_got s all ++ l) (sym g) ∙ sym (host_got-push s all m) in
      let after = m.after.state in
      let kept : Kept (kind_at s after) s side more (host_got s all ++ got_now) taken_now after =
      elim (cases_lt s (length m.before.state.streams)) [
        | inl l ↦ subst (λ kind. Kept kind s side more (host_got s all ++ got_now) taken_now after) (sym (made l).kind) next
        | inr l ↦ rekind (kind_at s m.before.state) (kind_at s after) (host_got s all ++ got_now) taken_now after (quiet l) next
      ] in
      record {
        kept =
            subst (λ ps. Kept (kind_at s after) s side ps (host_got s (all ++ m ∷ [])) (taken_on side s (all ++ m ∷ [])) after) (sym (plains-push all m))
            (subst (λ l. Kept (kind_at s after) s side more l (taken_on side s (all ++ m ∷ [])) after) had
            (subst (λ n. Kept (kind_at s after) s side more (host_got s all ++ got_now) n after) (sym t) kept));
        unmade = λ l. elim (cases_lt s (length m.before.state.streams)) [
          | inl made_then ↦ absurd (omega (arith, l, (made made_then).there))
          | inr before ↦ subst (λ ps. IsQuiet s side ps) (sym (plains-push all m)) (quiet before)
        ];
      }

  -- a moment in which no host reader has the read end
  pub account_guests : is_host (stream_in m.before s).reader.owner ≡ false → Change side (scene s side (plain m)) → HostAccount s side all m.before.state → HostAccount s side (all ++ m ∷ []) m.after.state
  account_guests u c a =
      account_by (got_in s (plain m)) (taken_on side s all) (got_unread s m (stream_in m.before s).reader.owner u) (untaken_on side)
      (keeps s side (plains all) (plain m) (host_got s all) (taken_on side s all) (got_in s (plain m)) a.kept c) a
    where
      untaken_on : (side : Side) → taken_on side s (all ++ m ∷ []) ≡ taken_on side s all
      untaken_on Writing = refl
      untaken_on Reading = ap length (all_taken-push s all m ∙ ap (λ l. all_taken s all ++ l) (taken_unread s m (stream_in m.before s).reader.owner u) ∙ append-nil (all_taken s all))

-- ## A stream that a host reader reads, or is to read

module _ (s : ℕ) (m : HostMoment) (unhosted : is_host (stream_in m.before s).writer.owner ≡ false) (x : ReadIn m.before.state m.part m.reply m.after.state s) where
  -- a guest has its items where it writes
  from_guest : (r : ℕ) (owner : Owner) → is_host owner ≡ false → taken_from_owner s m r owner ≡ taken_in_moment s (plain m)
  from_guest r (Host n) e = cc
  from_guest r _ e = refl

  got_as : (owner : Owner) → owner ≡ (stream_in m.before s).reader.owner → got_by s m owner ≡ taken_in_moment s (plain m)
  got_as (Host r) e = from_guest r (stream_in m.before s).writer.owner unhosted
  got_as _ e = let same = x.still (ap is_host (sym e)) in (nothing_got s (plain m) same).0 ∙ sym (taken_none s (plain m) same)

  pub got_is : host_got_in s m ≡ taken_in_moment s (plain m)
  got_is = got_as (stream_in m.before s).reader.owner refl

  taken_as : (owner : Owner) → owner ≡ (stream_in m.before s).reader.owner → length (taken_by s m owner) ≡ rise s (plain m)
  taken_as (Host r) e =
      ap length (from_guest r (stream_in m.before s).writer.owner unhosted)
      ∙ length-decoded (item_type (stream_in m.before s).payload) _ (rise s (plain m))
  taken_as _ e = let same = x.still (ap is_host (sym e)) in omega (arith, same)

  pub taken_is : length (host_taken_in s m) ≡ rise s (plain m)
  taken_is = taken_as (stream_in m.before s).reader.owner refl

  -- what is received is what was taken, or nothing
  whole_as : (owner : Owner) → owner ≡ (stream_in m.before s).reader.owner → All IsSome (taken_by s m owner) → All IsSome (got_by s m owner)
  whole_as (Host r) e h = h
  whole_as _ e h = subst (All IsSome) (sym (nothing_got s (plain m) (x.still (ap is_host (sym e)))).0) (All-nil IsSome)

  pub whole_read : All IsSome (host_taken_in s m) → All IsSome (host_got_in s m)
  whole_read h = whole_as (stream_in m.before s).reader.owner refl h

  module _ (all : List HostMoment) (there : s < length m.before.state.streams) (stays : s < length m.after.state.streams) where
    made_so : s < length m.before.state.streams → StaysMade s m.before.state m.after.state
    made_so l = record { there = stays; kind = x.kind }

    not_unmade : (side : Side) → length m.before.state.streams ≤ s → Untold s side (plain m)
    not_unmade side l = absurd (omega (arith, l, there))

    pub account_writing : HostAccount s Writing all m.before.state → HostAccount s Writing (all ++ m ∷ []) m.after.state
    account_writing a =
        account_by s Writing all m made_so (not_unmade Writing) (taken_in_moment s (plain m)) 0 got_is refl
        (keeps s Writing (plains all) (plain m) (host_got s all) 0 (taken_in_moment s (plain m)) a.kept x.writing) a

    -- no read waits on it before or after
    pub account_reading : waiting s Reading m.before.state ≡ None → waiting s Reading m.after.state ≡ None → HostAccount s Reading all m.before.state → HostAccount s Reading (all ++ m ∷ []) m.after.state
    account_reading was is a =
        let n = rise s (plain m) in
        let rises = x.rises in
        let long = length-append (all_taken s all) (host_taken_in s m) in
        let pushed = ap length (all_taken-push s all m) in
        account_by s Reading all m made_so (not_unmade Reading) (host_got_in s m) (length (all_taken s all) + n) refl (omega (arith, pushed, long, taken_is))
        (keeps_taken s Reading (plains all) (plain m) (host_got s all) (length (all_taken s all)) (host_got_in s m) a.kept n (λ e. cc) was is x.reading.takes (ap (k_of (kind_at s m.before.state) 0) x.reading.reports) (omega (arith, rises))) a
