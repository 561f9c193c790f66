-- Handles and ends, host ends and streams still agree after a stream is another or goes.
use Rattle.std.proofs.Common.{◌≡◌, ◌≢◌, ℕ, ◌<◌, Bool, true, false, cond, List, [], length, get_or, set, None, refl, sym, ap, subst, ◌∙◌, ◌⊎◌, inl, inr}
use Rattle.std.proofs.lemmas.Bool.{cases_eq}
use Rattle.std.proofs.lemmas.List.{get_or-set_same, get_or-set_other}
use Rattle.strm_handles.specs.Handles.{IsTable}
use Rattle.strm_handles.specs.Lookups.{end_rep_of}
use Rattle.strm_machine.specs.State.{State, Guest, host_limit, no_stream, guest_in, kept_at, stream_at, is_host, is_held}
use Rattle.strm_machine.specs.Hosting.{duty_of, ServesOne, is_piped, KeepsForPipe, HostsHold}
use Rattle.strm_machine.specs.Sides.{opposite, end_of}
use Rattle.strm_machine.specs.Moments.{is_end}
use Rattle.strm_machine.specs.Tests.{Name}
use Rattle.strm_machine.specs.Reactions.{with_stream_at}
use Rattle.strm_machine.specs.declared.streams.Duty.{Duty}
use Rattle.strm_machine.specs.declared.streams.Duty.TheVariants.{Unused, Serves, Ended}
use Rattle.strm_machine.specs.declared.streams.End.{End}
use Rattle.strm_machine.specs.declared.streams.Owner.{Owner}
use Rattle.strm_machine.specs.declared.streams.Owner.TheVariants.{Held, Host, Gone}
use Rattle.strm_machine.specs.declared.streams.Side.{Side}
use Rattle.strm_machine.specs.declared.streams.Side.TheVariants.{Writing, Reading}
use Rattle.strm_machine.specs.declared.streams.Stream.{Stream}
use Rattle.strm_machine.proofs.HeldLemmas.{IsHeld, names_in}
use Rattle.strm_machine.proofs.HostLemmas.{HostsStay-same, HostsStay, HostsHold-stays, serving_known}
use Rattle.strm_machine.proofs.TableLemmas.{OwnersStay, owner_stays, owner_in, owner-set_other}
use Rattle.strm_machine.proofs.EndLemmas.{each_side}
use Rattle.strm_host_laws.proofs.HostTurns.{known_on, Leaves}

-- ## Handles and ends

not_held : (owner : Owner) (g handle : ℕ) → is_held owner ≡ false → owner ≡ Held g handle → ⊥
not_held owner g handle e f = let wrong : is_held owner ≡ true = ap is_held f in cc

-- an owner that stays, or two that hold nothing
abbrev pub StaysOrFree : Owner → Owner → Type 0
StaysOrFree old new = (new ≡ old) ⊎ ((is_held old ≡ false) × (is_held new ≡ false))

module _ (guests others : List Guest) (streams more : List Stream) (e : (g : ℕ) → (guest_in others g).handles ≡ (guest_in guests g).handles)
    (f : (s : ℕ) (side : Side) → StaysOrFree (owner_in streams s side) (owner_in more s side)) (h : IsHeld guests streams) where
  either_named : (g handle s : ℕ) (side : Side) (n : Name) → n ≡ names_in guests g handle → is_end s side n ≡ true → owner_in more s side ≡ Held g handle
  either_named g handle s side n same is =
      let own : owner_in streams s side ≡ Held g handle = h.agree.named g handle s side (ap (is_end s side) (sym same) ∙ is) in
      elim (f s side) [
        | inl stays ↦ stays ∙ own
        | inr free ↦ absurd (not_held (owner_in streams s side) g handle free.0 own)
      ]

  either_held : (g handle s : ℕ) (side : Side) (n : Name) → n ≡ names_in guests g handle → owner_in more s side ≡ Held g handle → is_end s side n ≡ true
  either_held g handle s side n same own =
      elim (f s side) [
        | inl stays ↦ ap (is_end s side) same ∙ h.agree.held g handle s side (sym stays ∙ own)
        | inr free ↦ absurd (not_held (owner_in more s side) g handle free.1 own)
      ]

  pub IsHeld-either : IsHeld others more
  IsHeld-either = record {
    tables = λ g. subst (λ k. IsTable k) (sym (e g)) (h.tables g);
    agree = record {
      named = λ g handle s side is. either_named g handle s side (names_in others g handle) (ap (λ k. end_rep_of k handle) (e g)) is;
      held = λ g handle s side own. either_held g handle s side (names_in others g handle) (ap (λ k. end_rep_of k handle) (e g)) own;
    };
  }

-- of one stream that is set
pub set_either : (streams : List Stream) (s : ℕ) (x : Stream) → s < length streams → ((side : Side) → StaysOrFree (owner_in streams s side) (end_of side x).owner) → (k : ℕ) (side : Side) → StaysOrFree (owner_in streams k side) (owner_in (set streams s x) k side)
set_either streams s x l h k side =
    elim (cases_eq k s) [
      | inl e ↦
          let here : owner_in (set streams s x) s side ≡ (end_of side x).owner = ap (λ (y : Stream). (end_of side y).owner) (get_or-set_same streams s x no_stream l) in
          subst (λ i. StaysOrFree (owner_in streams i side) (owner_in (set streams s x) i side)) (sym e) (subst (StaysOrFree (owner_in streams s side)) (sym here) (h side))
      | inr ne ↦ inl (owner-set_other streams s x k side ne)
    ]

-- ## Host ends and streams

pub no_two : (a b : ℕ) → Host a ≡ Host b → a ≡ b
no_two a b e = cc

pub one_stream : (a b : ℕ) → Serves a ≡ Serves b → a ≡ b
one_stream a b e = cc

-- as many host ends are known on each side
pub known_all : (state : State) (side : Side) → HostsHold state → known_on side state ≡ host_limit
known_all state Writing h = h.all
known_all state Reading h = h.all_readers

-- host end n on a side and its stream s after a change of both: it stays, or ends and is gone. The other
-- end has an owner as before, and no operation where that is a host end
pub record Changed (side : Side) (state new : State) (s n : ℕ) (done : Bool) (x : Stream) : Type 0 where
  pub made : s < length state.streams
  pub owner : (end_of side (stream_at state s)).owner ≡ Host n
  pub leaves : Leaves side done n state new
  pub streams : new.streams ≡ set state.streams s x
  pub here : end_of side x ≡ record (end_of side (stream_at state s)) { owner = cond done Gone (end_of side (stream_at state s)).owner }
  pub other : (end_of (opposite side) x).owner ≡ (end_of (opposite side) (stream_at state s)).owner
  pub idle : (m : ℕ) → (end_of (opposite side) (stream_at state s)).owner ≡ Host m → (end_of (opposite side) x).operation ≡ None
  pub kept : new.kept ≡ state.kept
  pub empty : (m : ℕ) → (stream_at state s).writer.owner ≡ Host m → kept_at state m ≡ []

module _ (side : Side) (state new : State) (s n : ℕ) (x : Stream) (h : HostsHold state) where
  duty_was : (end_of side (stream_at state s)).owner ≡ Host n → duty_of side state n ≡ Serves s
  duty_was o = (h.serve side n s).serves o

  known_there : (end_of side (stream_at state s)).owner ≡ Host n → n < known_on side state
  known_there o = subst (λ k. n < k) (sym (known_all state side h)) (serving_known state side n s h (duty_was o))

  module _ (done : Bool) (c : Changed side state new s n done x) where
    stream_here : stream_at new s ≡ x
    stream_here = ap (λ xs. get_or xs s no_stream) c.streams ∙ get_or-set_same state.streams s x no_stream c.made

    stream_other : (k : ℕ) → k ≢ s → stream_at new k ≡ stream_at state k
    stream_other k ne = ap (λ xs. get_or xs k no_stream) c.streams ∙ get_or-set_other state.streams s k x no_stream ne

    duty_now : duty_of side new n ≡ cond done Ended (Serves s)
    duty_now = c.leaves.here (known_there c.owner) ∙ ap (cond done Ended) (duty_was c.owner)

    -- ON THE SIDE OF THE HOST END

    other_end : (m k : ℕ) → k ≢ s → duty_of side state m ≡ Serves k → m ≢ n
    other_end m k ne d e = ne (one_stream k s (sym d ∙ ap (duty_of side state) e ∙ duty_was c.owner))

    serves_other : (m k : ℕ) → k ≢ s → ServesOne new side m k
    serves_other m k ne =
        let same = stream_other k ne in
        let old = h.serve side m k in
        record {
          serves = λ e.
              let d = old.serves (ap (λ (y : Stream). (end_of side y).owner) (sym same) ∙ e) in
              c.leaves.others m (other_end m k ne d) ∙ d;
          owns = λ d. ap (λ (y : Stream). (end_of side y).owner) same ∙ old.owns (duty_before m k ne d (cases_eq m n));
          idle = λ e. ap (λ (y : Stream). (end_of side y).operation) same ∙ old.idle (ap (λ (y : Stream). (end_of side y).owner) (sym same) ∙ e);
        }
      where
        ended_or : (done : Bool) (k : ℕ) → cond done Ended (Serves s) ≡ Serves k → k ≡ s
        ended_or true k e = absurd (let wrong : Ended ≡ Serves k = e in cc)
        ended_or false k e = sym (one_stream s k e)

        duty_before : (m k : ℕ) → k ≢ s → duty_of side new m ≡ Serves k → (m ≡ n) ⊎ (m ≢ n) → duty_of side state m ≡ Serves k
        duty_before m k ne d (inl e) = absurd (ne (ended_or done k (sym duty_now ∙ ap (duty_of side new) (sym e) ∙ d)))
        duty_before m k ne d (inr off) = sym (c.leaves.others m off) ∙ d

    -- of the stream itself
    host_is : (done : Bool) (m : ℕ) → cond done Gone (Host n) ≡ Host m → (done ≡ false) × (m ≡ n)
    host_is true m e = absurd (let wrong : Gone ≡ Host m = e in cc)
    host_is false m e = (refl, no_two m n (sym e))

    owner_now : (end_of side (stream_at new s)).owner ≡ cond done Gone (Host n)
    owner_now =
        ap (λ (y : Stream). (end_of side y).owner) stream_here
        ∙ ap (λ (y : End). y.owner) c.here
        ∙ ap (cond done Gone) c.owner

    serves_here : (m : ℕ) → ServesOne new side m s
    serves_here m = record {
      serves = λ e. let is = host_is done m (sym owner_now ∙ e) in ap (duty_of side new) is.1 ∙ duty_now ∙ ap (λ b. cond b Ended (Serves s)) is.0;
      owns = λ d. owner_now ∙ owns_here done refl d (cases_eq m n);
      idle = λ e. ap (λ (y : Stream). (end_of side y).operation) stream_here ∙ ap (λ (y : End). y.operation) c.here ∙ (h.serve side n s).idle c.owner;
    }
      where
        owns_here : (b : Bool) → done ≡ b → duty_of side new m ≡ Serves s → (m ≡ n) ⊎ (m ≢ n) → cond b Gone (Host n) ≡ Host m
        owns_here true b d (inl e) = absurd (let wrong : Ended ≡ Serves s = sym (duty_now ∙ ap (λ i. cond i Ended (Serves s)) b) ∙ ap (duty_of side new) (sym e) ∙ d in cc)
        owns_here false b d (inl e) = ap Host (sym e)
        owns_here b f d (inr off) =
            let was : (end_of side (stream_at state s)).owner ≡ Host m = (h.serve side m s).owns (sym (c.leaves.others m off) ∙ d) in
            absurd (off (no_two m n (sym was ∙ c.owner)))

    mine : (m k : ℕ) → ServesOne new side m k
    mine m k = elim (cases_eq k s) [
      | inl e ↦ subst (λ i. ServesOne new side m i) (sym e) (serves_here m)
      | inr ne ↦ serves_other m k ne
    ]

    -- ON THE OTHER SIDE

    -- whose end is as it was, but for an operation that it may have
    across_as : (m k : ℕ) (y : Stream) → stream_at new k ≡ y → (end_of (opposite side) y).owner ≡ (end_of (opposite side) (stream_at state k)).owner → ((end_of (opposite side) (stream_at state k)).owner ≡ Host m → (end_of (opposite side) y).operation ≡ None)
        → ServesOne new (opposite side) m k
    across_as m k y same owner idle =
        let old = h.serve (opposite side) m k in
        let now : (end_of (opposite side) (stream_at new k)).owner ≡ (end_of (opposite side) (stream_at state k)).owner = ap (λ (z : Stream). (end_of (opposite side) z).owner) same ∙ owner in
        record {
          serves = λ e. c.leaves.across m ∙ old.serves (sym now ∙ e);
          owns = λ d. now ∙ old.owns (sym (c.leaves.across m) ∙ d);
          idle = λ e. ap (λ (z : Stream). (end_of (opposite side) z).operation) same ∙ idle (sym now ∙ e);
        }

    theirs : (m k : ℕ) → ServesOne new (opposite side) m k
    theirs m k = elim (cases_eq k s) [
      | inl e ↦ subst (λ i. ServesOne new (opposite side) m i) (sym e) (across_as m s x stream_here c.other (c.idle m))
      | inr ne ↦ across_as m k (stream_at state k) (stream_other k ne) refl (h.serve (opposite side) m k).idle
    ]

    -- ITEMS THAT ARE KEPT

    -- what a host writer did
    abbrev did : ℕ → Duty
    did m = duty_of Writing state m

    -- one that serves another stream still does
    other_duty : (m k : ℕ) → k ≢ s → did m ≡ Serves k → duty_of Writing new m ≡ Serves k
    other_duty m k ne e =
        each_side (λ i. i ≡ Writing → duty_of Writing new m ≡ Serves k) side
        (λ is. let mine : duty_of side new m ≡ duty_of side state m = c.leaves.others m (other_end m k ne (ap (λ i. duty_of i state m) is ∙ e)) in ap (λ i. duty_of i new m) (sym is) ∙ mine ∙ ap (λ i. duty_of i state m) is ∙ e)
        (λ is. ap (λ i. duty_of i new m) (sym is) ∙ c.leaves.across m ∙ ap (λ i. duty_of i state m) is ∙ e) Writing refl

    changed_keeps : (m : ℕ) → KeepsForPipe new m
    changed_keeps m u = ap (λ ks. get_or ks m []) c.kept ∙ by (did m) refl
      where
        unserved : (duty : Duty) → did m ≡ duty → is_piped state duty ≡ false → kept_at state m ≡ []
        unserved duty e none = h.keeps m (ap (is_piped state) e ∙ none)

        served : (k : ℕ) → did m ≡ Serves k → kept_at state m ≡ []
        served k e =
            elim (cases_eq k s) [
              | inl q ↦ c.empty m ((h.serve Writing m s).owns (e ∙ ap Serves q))
              | inr ne ↦
                  let unread : is_host (stream_at new k).reader.owner ≡ false = ap (is_piped new) (sym (other_duty m k ne e)) ∙ u in
                  unserved (Serves k) e (ap (λ (y : Stream). is_host y.reader.owner) (sym (stream_other k ne)) ∙ unread)
            ]

        by : (duty : Duty) → did m ≡ duty → kept_at state m ≡ []
        by (Serves k) e = served k e
        by Unused e = unserved Unused e refl
        by Ended e = unserved Ended e refl

    pub HostsHold-changed : HostsHold new
    HostsHold-changed = record {
      all = c.leaves.all Writing ∙ h.all;
      all_kept = ap length c.kept ∙ h.all_kept;
      all_readers = c.leaves.all Reading ∙ h.all_readers;
      serve = λ k m i. each_side (λ (k : Side). ServesOne new k m i) side (mine m i) (theirs m i) k;
      keeps = changed_keeps;
    }

-- a host end of a stream that has no operation gets none
abbrev pub StaysIdle : Stream → Stream → Type 0
StaysIdle old new = (side : Side) → is_host (end_of side old).owner ≡ true → (end_of side old).operation ≡ None → (end_of side new).operation ≡ None

-- a stream set to another of the same owners, whose host ends have no operation, and what is kept stays
pub HostsHold-set : (state : State) (s : ℕ) (x : Stream) → s < length state.streams → OwnersStay (stream_at state s) x → StaysIdle (stream_at state s) x → HostsHold state → HostsHold (with_stream_at state s x)
HostsHold-set state s x l same idle h =
    HostsHold-stays state (with_stream_at state s x) (record { producers = refl; kept = refl; consumers = refl })
    (λ k. elim (cases_eq k s) [
      | inl e ↦ subst (λ i. HostsStay (stream_at state i) (stream_at (with_stream_at state s x) i)) (sym e)
          (subst (HostsStay (stream_at state s)) (sym (get_or-set_same state.streams s x no_stream l)) stays)
      | inr ne ↦ subst (HostsStay (stream_at state k)) (sym (get_or-set_other state.streams s k x no_stream ne)) (HostsStay-same (stream_at state k))
    ]) h
  where
    stays : HostsStay (stream_at state s) x
    stays = record {
      was = λ side n e. sym (owner_stays side (stream_at state s) x same) ∙ e;
      is = λ side n e. owner_stays side (stream_at state s) x same ∙ e;
      idle = idle;
    }
