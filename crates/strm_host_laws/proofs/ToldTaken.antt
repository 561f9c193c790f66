-- A host reader tells exactly what was taken of its stream, behind what it told at first.
use Rattle.std.proofs.Common.{◌≡◌, ℕ, ◌==◌, ◌||◌, ◌&&◌, Bool, true, false, zero, suc, List, [], ◌∷◌, ◌++◌, length, map, drop, Option, Some, None, refl, sym, ap, subst, ◌∙◌, ◌⊎◌, inl, inr, arith, append_assoc, append-nil}
use Rattle.std.specs.Prelude.{All, IsSome}
use Rattle.std.specs.Option.{option_map}
use Rattle.std.proofs.lemmas.Bool.{and_parts, eqb-true, true≢false}
use Rattle.std.proofs.lemmas.List.{map-append}
use Rattle.std.proofs.lemmas.List.Elements.{All-head, All-tail}
use Rattle.strm_codes.specs.Layout.{item_type}
use Rattle.strm_codes.specs.ItemTypes.{item_size, ItemType}
use Rattle.strm_memory.specs.Items.{items}
use Rattle.strm_memory.specs.Loads.{decode}
use Rattle.strm_buffers.specs.declared.answers.ReaderSaid.{ReaderSaid}
use Rattle.strm_buffers.specs.Listing.{Item, listed}
use Rattle.strm_buffers.specs.Tells.{Tells}
use Rattle.strm_machine.specs.Moments.{decoded}
use Rattle.strm_machine.specs.State.{State, memory_in, stream_at, is_host, is_loose}
use Rattle.strm_machine.specs.declared.acts.Act.TheVariants.{OnHost}
use Rattle.strm_machine.specs.declared.acts.HostAct.TheVariants.{Pipe}
use Rattle.strm_machine.specs.declared.limits.Limits.{Limits}
use Rattle.strm_machine.specs.declared.replies.Reply.{Reply}
use Rattle.strm_machine.specs.declared.replies.Reply.TheVariants as replies
use Rattle.strm_machine.specs.declared.steps.Step.{Step}
use Rattle.strm_machine.specs.declared.streams.Duty.TheVariants.{Serves, Ended}
use Rattle.strm_machine.specs.declared.streams.Owner.{Owner}
use Rattle.strm_machine.specs.declared.streams.Owner.TheVariants.{Host}
use Rattle.strm_machine.specs.declared.streams.Side.TheVariants.{Writing, Reading}
use Rattle.strm_machine.proofs.ArrivalLemmas.{decoded-items}
use Rattle.strm_machine.proofs.HostLemmas.{unless_host}
use Rattle.strm_laws.specs.Laws.{AreSteps}
use Rattle.strm_host_machine.specs.Does.{start_world}
use Rattle.strm_host_machine.specs.Ends.{Reader}
use Rattle.strm_host_machine.specs.HostRefusals.{is_used}
use Rattle.strm_host_machine.specs.World.{World, stream_in, reader_at}
use Rattle.strm_host_laws.specs.HostMoments.{Part, Acts, HostMoment, first_moments, end_world}
use Rattle.strm_host_laws.specs.HostLaws.{plain, taken_in_moment, taken_from_owner, taken_by, host_taken_in, all_taken, is_piped_to, is_pipe_of, is_piped_in, TellsTaken}
use Rattle.strm_host_laws.proofs.Chains.{Follows, Chain, first-chain}
use Rattle.strm_host_laws.proofs.Duties.{duty, Stays, Ends, Gets, pipes_duty, effect_duty}
use Rattle.strm_host_laws.proofs.Effects.{Pipes, Effect}
use Rattle.strm_host_laws.proofs.PartEffects.{follows_effect}
use Rattle.strm_host_laws.proofs.Forms.{IsRound, Form, part-formed}
use Rattle.strm_host_laws.proofs.GoingRules.{IfGoes}
use Rattle.strm_host_laws.proofs.GuestsSeen.{effect_pipes}
use Rattle.strm_host_laws.proofs.HostAccounts.{all_front, all_back, taken_unread}
use Rattle.strm_host_laws.proofs.KeptItems.{unused_by}
use Rattle.strm_host_laws.proofs.Moments.{nothing_from, round_got}
use Rattle.strm_host_laws.proofs.WrittenBack.{told_of, round_told}
use Rattle.strm_host_laws.proofs.PartsSeen.{IsTaken, owner_taken, effect_taken}
use Rattle.strm_host_laws.proofs.ReadTurnSeen.{taken_at}
use Rattle.strm_host_laws.proofs.ReadSeen.{entering}
use Rattle.strm_host_laws.proofs.Rooms.{HasRoom, WrittenOrRoom, written_or_room, written_or_room_next}
use Rattle.strm_host_laws.proofs.TurnsStand.{Holds}
use Rattle.strm_host_laws.proofs.Standing.{Holds-next, Holds-empty}
use Rattle.strm_host_laws.proofs.StepsLeft.{left_after, Costs, first_cost}
use Rattle.strm_host_laws.proofs.TakenItems.{run_items}
use Rattle.strm_host_laws.proofs.Took.{TakesOn, Took, Rests, Takes, Passes, form_took}

-- ## Items

-- items that lie there are a list
record IsList (ss : ItemType) (bytes : List ℕ) (n : ℕ) : Type 0 where
  list : List Item
  is : items ss bytes n ≡ Some list

items_some : (ss : ItemType) (bytes : List ℕ) (n : ℕ) → All IsSome (decoded ss bytes n) → IsList ss bytes n
unfolding decoded items
items_some ss bytes zero a = record { list = []; is = refl }
items_some ss bytes (suc n) a =
    let rest = items_some ss (drop (item_size ss) bytes) n (All-tail IsSome (decode ss bytes) (decoded ss (drop (item_size ss) bytes) n) a) in
    by (decode ss bytes) refl (All-head IsSome (decode ss bytes) (decoded ss (drop (item_size ss) bytes) n) a) rest
  where
    by : (o : Option Item) → decode ss bytes ≡ o → IsSome o → IsList ss (drop (item_size ss) bytes) n → IsList ss bytes (suc n)
    by None e s rest = cc
    by (Some x) e s rest = record { list = x ∷ rest.list; is = rw (e, rest.is) refl }

listed_items : (ss : ItemType) (bytes : List ℕ) (n : ℕ) → All IsSome (decoded ss bytes n) → map Some (listed (items ss bytes n)) ≡ decoded ss bytes n
listed_items ss bytes n a =
    let l = items_some ss bytes n a in
    ap (λ o. map Some (listed o)) l.is ∙ sym (decoded-items ss bytes n l.list l.is)

-- ## What is told

-- one holds what another held, and these items behind
abbrev HoldsMore : Option (List Item) → Option (List Item) → List (Option Item) → Type 0
HoldsMore a b more = option_map (λ xs. map Some xs) b ≡ option_map (λ xs. map Some xs ++ more) a

-- one told this, and then that with so many more
abbrev Told : Reader → Reader → List (Option Item) → Type 0
Told a b taken = HoldsMore a.holds b.holds taken

told_same : (a b : Option (List Item)) → b ≡ a → HoldsMore a b []
told_same None b e = ap (option_map (λ xs. map Some xs)) e
told_same (Some xs) b e = ap (option_map (λ ys. map Some ys)) e ∙ ap Some (sym (append-nil (map Some xs)))

told_more : (a b : Option (List Item)) (more : List Item) → b ≡ option_map (λ xs. xs ++ more) a → HoldsMore a b (map Some more)
told_more None b more e = ap (option_map (λ xs. map Some xs)) e
told_more (Some xs) b more e = ap (option_map (λ ys. map Some ys)) e ∙ ap Some (map-append Some xs more)

some_is : (a b : List (Option Item)) → Some a ≡ Some b → a ≡ b
some_is a b e = cc

told_both : (a b c : Option (List Item)) (xs ys : List (Option Item)) → HoldsMore a b xs → HoldsMore b c ys → HoldsMore a c (xs ++ ys)
told_both None None c xs ys e f = f
told_both None (Some b) c xs ys e f = cc
told_both (Some a) None c xs ys e f = cc
told_both (Some a) (Some b) c xs ys e f =
    let is : map Some b ≡ map Some a ++ xs = some_is (map Some b) (map Some a ++ xs) e in
    f ∙ ap (λ l. Some (l ++ ys)) is ∙ ap Some (append_assoc (map Some a) xs ys)

-- ## The host reader of a stream

-- host reader r has, or had, the read end of stream s, and of no other
record Serving (state : State) (s r : ℕ) : Type 0 where
  taken : IsTaken Reading state s
  only : (k : ℕ) → duty state k ≡ Serves s → k ≡ r
  used : is_used (duty state r) ≡ true
  one : (t : ℕ) → duty state r ≡ Serves t → t ≡ s

one_stream : (a b : ℕ) → Serves a ≡ Serves b → a ≡ b
one_stream a b e = cc

over_serves : (s : ℕ) → Ended ≡ Serves s → ⊥
over_serves s e = cc

module _ (old new : State) (part : Part) (reply : Reply) (s r : ℕ) (h : Holds old) (effect : Effect old part reply new) where
  -- an end that was taken is not loose
  not_piped : IsTaken Reading old s → (t k : ℕ) → Pipes old t k reply new → t ≡ s → ⊥
  not_piped x t k p e = true≢false (sym p.loose ∙ ap (λ i. is_loose (stream_at old i).reader.owner) e ∙ x.tied)

  still_used : is_used (duty old r) ≡ true → is_used (duty new r) ≡ true
  still_used u =
      elim (effect_duty r old new part reply h effect) [
        | Stays d ↦ ap is_used d ∙ u
        | Ends d ↦ ap is_used d
        | Gets t p x ↦ absurd (true≢false (sym u ∙ x.unused))
      ]

  serving_next : Serving old s r → Serving new s r
  serving_next x = record {
    taken = effect_taken Reading old new part reply s h effect x.taken;
    only = λ k e. elim (effect_duty k old new part reply h effect) [
      | Stays d ↦ x.only k (sym d ∙ e)
      | Ends d ↦ absurd (over_serves s (sym d ∙ e))
      | Gets t p pipes ↦ elim (pipes_duty old new t k reply h pipes) [
        | inl d ↦ absurd (not_piped x.taken t k pipes (one_stream t s (sym d ∙ e)))
        | inr d ↦ absurd (over_serves s (sym d ∙ e))
      ]
    ];
    used = still_used x.used;
    one = λ t e. elim (effect_duty r old new part reply h effect) [
      | Stays d ↦ x.one t (sym d ∙ e)
      | Ends d ↦ absurd (over_serves t (sym d ∙ e))
      | Gets k p pipes ↦ absurd (true≢false (sym x.used ∙ pipes.unused))
    ];
  }

  -- the part in which it gets the stream
  record Piping : Type 0 where
    is : part ≡ Acts (OnHost r (Pipe s))
    pipes : Pipes old s r reply new

  piped_so : (part : Part) → is_piped_to s r part reply ≡ true → is_piped_in s part reply ≡ true
  piped_so (Acts (OnHost host (Pipe reader))) e = by reply e
    where
      by : (reply : Reply) → is_piped_to s r (Acts (OnHost host (Pipe reader))) reply ≡ true → is_piped_in s (Acts (OnHost host (Pipe reader))) reply ≡ true
      by replies.Done e = (and_parts (reader == s) (host == r) e).0
      by _ e = cc
  piped_so _ e = cc

  piping : is_piped_to s r part reply ≡ true → Piping
  piping e =
      let x = entering old new part reply s effect (piped_so part e) in
      let done = x.pipes.reply_is in
      let both : ((s == s) && (x.host == r)) ≡ true = ap (is_piped_to s r (Acts (OnHost x.host (Pipe s)))) (sym done) ∙ ap (λ p. is_piped_to s r p reply) (sym x.is) ∙ e in
      let who : x.host ≡ r = eqb-true x.host r (and_parts (s == s) (x.host == r) both).1 in
      record {
        is = x.is ∙ ap (λ i. Acts (OnHost i (Pipe s))) who;
        pipes = subst (λ i. Pipes old s i reply new) who x.pipes;
      }

  -- it serves it then
  module _ (e : is_piped_to s r part reply ≡ true) where
    abbrev pipes : Pipes old s r reply new
    pipes = (piping e).pipes

    only_then : (k : ℕ) → duty new k ≡ Serves s → k ≡ r
    only_then k d =
        elim (effect_duty k old new part reply h effect) [
          | Stays same ↦
              let owner = (h.hosts.serve Reading k s).owns (sym same ∙ d) in
              absurd (let wrong : is_loose (Host k) ≡ true = ap is_loose (sym owner) ∙ pipes.loose in cc)
          | Ends over ↦ absurd (over_serves s (sym over ∙ d))
          | Gets t p x ↦ let same : Acts (OnHost k (Pipe t)) ≡ Acts (OnHost r (Pipe s)) = sym p ∙ (piping e).is in cc
        ]

    serving_then : Serving new s r
    serving_then = record {
      taken = effect_pipes old new part reply s h effect (piped_so part e);
      only = only_then;
      used = elim (pipes_duty old new s r reply h pipes) [
        | inl d ↦ ap is_used d
        | inr d ↦ ap is_used d
      ];
      one = λ t d. elim (pipes_duty old new s r reply h pipes) [
        | inl is ↦ one_stream t s (sym d ∙ is)
        | inr over ↦ absurd (over_serves t (sym over ∙ d))
      ];
    }

-- ## A moment

module _ (s r : ℕ) (m : HostMoment) (h : Holds m.before.state) (took : Took s r m) where
  abbrev owner : Owner
  owner = (stream_in m.before s).reader.owner

  abbrev ToldHere : Type 0
  ToldHere = Told (reader_at m.before r) (reader_at m.after r) (host_taken_in s m)

  -- what it told, and the records that it had
  abbrev SameTold : Type 0
  SameTold = told_of (reader_at m.after r) ≡ told_of (reader_at m.before r)

  nothing_told : host_taken_in s m ≡ [] → SameTold → ToldHere
  nothing_told e f =
      subst (Told (reader_at m.before r) (reader_at m.after r)) (sym e)
      (told_same (reader_at m.before r).holds (reader_at m.after r).holds (ap (λ (p : Option (List Item) × List ReaderSaid). p.0) f))

  -- it has no stream, and this one is no host reader's
  idle_told : is_used (duty m.before.state r) ≡ false → is_host owner ≡ false → ToldHere
  idle_told u e =
      elim took [
        | Rests x ↦ nothing_told (taken_unread s m owner e) x.told
        | Takes t x ↦
            let serves = (h.hosts.serve Reading r t).serves x.owner in
            absurd (true≢false (sym (ap is_used serves) ∙ u))
        | Passes t n i ↦
            let serves = (h.hosts.serve Reading r t).serves i.read in
            absurd (true≢false (sym (ap is_used serves) ∙ u))
      ]

  from_guest : (writer : Owner) → is_host writer ≡ false → taken_from_owner s m r writer ≡ taken_in_moment s (plain m)
  from_guest (Host n) e = cc
  from_guest _ e = refl

  -- it takes from a guest
  -- it takes from a host writer
  passes_told : (n : ℕ) → IsRound m.before m.part m.after s n r → ToldHere
  passes_told n i =
      subst (Told (reader_at m.before r) (reader_at m.after r)) (sym (round_got s n r m i.passed i.read i.wrote).taken)
      (told_more (reader_at m.before r).holds (reader_at m.after r).holds i.passed.items
      (ap (λ (p : Option (List Item) × List ReaderSaid). p.0) (round_told m.before s n r m.after i.passed r) ∙ i.passed.holds))

  takes_told : TakesOn s r m → HasRoom m.before.state s m.part → All IsSome (host_taken_in s m) → ToldHere
  takes_told x room good =
      let payload = (stream_in m.before s).payload in
      let memory = drop x.operation.address (memory_in m.before.state.guests x.operation.guest) in
      let is : host_taken_in s m ≡ decoded (item_type payload) memory x.count =
      ap (taken_by s m) x.owner ∙ from_guest (stream_in m.before s).writer.owner x.unhosted ∙ taken_at s (plain m) x.operation.guest x.operation.address x.count x.place (x.counts room) in
      let list = listed (items (item_type payload) memory x.count) in
      let same : map Some list ≡ host_taken_in s m = listed_items (item_type payload) memory x.count (subst (All IsSome) is good) ∙ sym is in
      subst (Told (reader_at m.before r) (reader_at m.after r)) same (told_more (reader_at m.before r).holds (reader_at m.after r).holds list x.holds)

  -- it serves it, or did
  serving_told : Serving m.before.state s r → IsTaken Writing m.before.state s ⊎ HasRoom m.before.state s m.part → All IsSome (host_taken_in s m) → ToldHere
  serving_told x room good = by owner refl
    where
      gone : is_host owner ≡ false → ToldHere
      gone e =
          elim took [
            | Rests y ↦ nothing_told (taken_unread s m owner e) y.told
            | Takes t y ↦
                let same : t ≡ s = x.one t ((h.hosts.serve Reading r t).serves y.owner) in
                let own = y.owner in
                absurd (true≢false (sym (ap (λ i. is_host (stream_in m.before i).reader.owner) (sym same) ∙ ap is_host own) ∙ e))
            | Passes t n y ↦
                let same : t ≡ s = x.one t ((h.hosts.serve Reading r t).serves y.read) in
                let own = y.read in
                absurd (true≢false (sym (ap (λ i. is_host (stream_in m.before i).reader.owner) (sym same) ∙ ap is_host own) ∙ e))
          ]

      has : owner ≡ Host r → ToldHere
      has e =
          elim took [
            | Rests y ↦ nothing_told (ap (taken_by s m) e ∙ nothing_from s m r (y.counts e) (unused_by r m y.told) (stream_in m.before s).writer.owner) y.told
            | Takes t y ↦ from_one (subst (λ i. TakesOn i r m) (x.one t ((h.hosts.serve Reading r t).serves y.owner)) y) room
            | Passes t n y ↦ passes_told n (subst (λ i. IsRound m.before m.part m.after i n r) (x.one t ((h.hosts.serve Reading r t).serves y.read)) y)
          ]
        where
          from_one : TakesOn s r m → IsTaken Writing m.before.state s ⊎ HasRoom m.before.state s m.part → ToldHere
          from_one y (inl taken) = absurd (y.busy taken)
          from_one y (inr has) = takes_told y has good

      by : (o : Owner) → owner ≡ o → ToldHere
      by (Host k) e = has (e ∙ ap Host (x.only k ((h.hosts.serve Reading k s).serves e)))
      by _ e = gone (ap is_host e)

-- ## A run

-- what is known of a moment that follows
record Known (m : HostMoment) (s r : ℕ) : Type 0 where
  holds : Holds m.before.state
  effect : Effect m.before.state m.part m.reply m.after.state
  took : Took s r m

known : (w : World) (m : HostMoment) (s r : ℕ) → Follows w m → Holds w.state → Known m s r
known w m s r f holds =
    let before : Holds m.before.state = subst (λ (x : World). Holds x.state) (sym f.begins) holds in
    let form = subst (λ o. IfGoes o (Form m.before m.part)) f.goes (part-formed m.before before m.part f.part) in
    record {
      holds = before;
      effect = subst (λ (x : World). Effect x.state m.part m.reply m.after.state) (sym f.begins) (follows_effect w m holds.hosts f);
      took = form_took m before form s r;
    }

-- a host reader that was used, or a stream whose read end was taken, is in no pipe of them any more
abbrev Apart : State → ℕ → ℕ → Type 0
Apart state s r = (is_used (duty state r) ≡ true) ⊎ IsTaken Reading state s

never_piped : (s r : ℕ) (w : World) (all : List HostMoment) → Chain w all → Holds w.state → Apart w.state s r → is_pipe_of s r all ≡ true → ⊥
never_piped s r w [] c holds a e = cc
never_piped s r w (m ∷ more) c holds a e =
    by (is_piped_to s r m.part m.reply) refl (λ f. never_piped s r m.after more c.1 (Holds-next w m c.0 holds) (next at) f)
  where
    here : Known m s r
    here = known w m s r c.0 holds

    at : Apart m.before.state s r
    at = subst (λ (x : World). Apart x.state s r) (sym c.0.begins) a

    refuses : Apart m.before.state s r → Pipes m.before.state s r m.reply m.after.state → ⊥
    refuses (inl u) p = true≢false (sym u ∙ p.unused)
    refuses (inr x) p = true≢false (sym p.loose ∙ x.tied)

    next : Apart m.before.state s r → Apart m.after.state s r
    next (inl u) = inl (still_used m.before.state m.after.state m.part m.reply s r here.holds here.effect u)
    next (inr x) = inr (effect_taken Reading m.before.state m.after.state m.part m.reply s here.holds here.effect x)

    by : (b : Bool) → is_piped_to s r m.part m.reply ≡ b → (is_pipe_of s r more ≡ true → ⊥) → ⊥
    by true f later = refuses at (piping m.before.state m.after.state m.part m.reply s r here.holds here.effect f).pipes
    by false f later = later (sym (ap (λ b. b || is_pipe_of s r more) f) ∙ e)

-- of the moments to come
module _ (s r : ℕ) where
  split : (m : HostMoment) (more : List HostMoment) (a b c : Reader) → Told a b (host_taken_in s m) → Told b c (all_taken s more) → Told a c (all_taken s (m ∷ more))
  split m more a b c e f = told_both a.holds b.holds c.holds (host_taken_in s m) (all_taken s more) e f

  -- host reader r tells, at the last of these moments, what it took in them
  abbrev ToldIn : World → List HostMoment → Type 0
  ToldIn w all = Told (reader_at w r) (reader_at (end_world w all) r) (all_taken s all)

  -- once it serves it
  serving_run : (w : World) (all : List HostMoment) (n : ℕ) → Chain w all → Holds w.state → Serving w.state s r → WrittenOrRoom w.state s n → Costs s all n → All IsSome (all_taken s all) → ToldIn w all
  serving_run w [] n c holds x room p good = told_same (reader_at w r).holds (reader_at w r).holds refl
  serving_run w (m ∷ more) n c holds x room p good =
      let k = known w m s r c.0 holds in
      let begins = c.0.begins in
      let serving : Serving m.before.state s r = subst (λ (v : World). Serving v.state s r) (sym begins) x in
      let has : WrittenOrRoom m.before.state s n = subst (λ (v : World). WrittenOrRoom v.state s n) (sym begins) room in
      let here = serving_told s r m k.holds k.took serving (written_or_room s n m.before.state m.after.state m.reply k.holds has m.part p.0) (all_front IsSome (host_taken_in s m) (all_taken s more) good) in
      let next =
      serving_run m.after more (left_after s m.part n) c.1 (Holds-next w m c.0 holds) (serving_next m.before.state m.after.state m.part m.reply s r k.holds k.effect serving)
      (written_or_room_next s n m.before.state m.after.state m.reply k.holds has m.part p.0 k.effect) p.1 (all_back IsSome (host_taken_in s m) (all_taken s more) good) in
      subst (λ v. Told (reader_at v r) (reader_at (end_world m.after more) r) (all_taken s (m ∷ more))) begins
      (split m more (reader_at m.before r) (reader_at m.after r) (reader_at (end_world m.after more) r) here next)

  told_run : (w : World) (all : List HostMoment) (n : ℕ) → Chain w all → Holds w.state → WrittenOrRoom w.state s n → Costs s all n → is_pipe_of s r all ≡ true → All IsSome (all_taken s all) → ToldIn w all
  told_run w [] n c holds room p e good = cc
  told_run w (m ∷ more) n c holds room p e good =
      subst (λ v. Told (reader_at v r) (reader_at (end_world m.after more) r) (all_taken s (m ∷ more))) c.0.begins
      (split m more (reader_at m.before r) (reader_at m.after r) (reader_at (end_world m.after more) r) (idle_told s r m k.holds k.took unused unread)
      (by (is_piped_to s r m.part m.reply) refl (λ f. told_run m.after more (left_after s m.part n) c.1 (Holds-next w m c.0 holds) later p.1 f rest)))
    where
      k : Known m s r
      k = known w m s r c.0 holds

      has : WrittenOrRoom m.before.state s n
      has = subst (λ (v : World). WrittenOrRoom v.state s n) (sym c.0.begins) room

      apart : Apart m.before.state s r → ⊥
      apart a = never_piped s r w (m ∷ more) c holds (subst (λ (x : World). Apart x.state s r) c.0.begins a) e

      unused : is_used (duty m.before.state r) ≡ false
      unused = by (is_used (duty m.before.state r)) refl
        where
          by : (b : Bool) → is_used (duty m.before.state r) ≡ b → is_used (duty m.before.state r) ≡ false
          by true f = absurd (apart (inl f))
          by false f = f

      unread : is_host (stream_in m.before s).reader.owner ≡ false
      unread = unless_host (stream_in m.before s).reader.owner (λ j f. apart (inr (owner_taken Reading m.before.state s j k.holds f)))

      later : WrittenOrRoom m.after.state s (left_after s m.part n)
      later = written_or_room_next s n m.before.state m.after.state m.reply k.holds has m.part p.0 k.effect

      rest : All IsSome (all_taken s more)
      rest = all_back IsSome (host_taken_in s m) (all_taken s more) good

      by : (b : Bool) → is_piped_to s r m.part m.reply ≡ b → (is_pipe_of s r more ≡ true → ToldIn m.after more) → ToldIn m.after more
      by true f then_told =
          serving_run m.after more (left_after s m.part n) c.1 (Holds-next w m c.0 holds) (serving_then m.before.state m.after.state m.part m.reply s r k.holds k.effect f) later p.1 rest
      by false f then_told = then_told (sym (ap (λ b. b || is_pipe_of s r more) f) ∙ e)

-- host reader r tells what it took on stream s in these moments, from this world on
abbrev pub TellsIn : World → List HostMoment → ℕ → ℕ → Type 0
TellsIn w all s r = TellsTaken s r all (reader_at w r) (reader_at (end_world w all) r)

pub run-tells_taken : (tag : ℕ) (limits : Limits) (old new : Tells) (run : List Step) (count s r : ℕ) → AreSteps run
    → TellsIn (start_world tag limits old new) (first_moments count (start_world tag limits old new) run) s r
run-tells_taken tag limits old new run count s r a =
    let first = start_world tag limits old new in
    record {
      items = run_items tag limits old new run count s a;
      told = λ e. told_run s r first (first_moments count first run) (length run) (first-chain count first run) (Holds-empty tag limits) (inr (omega (arith, a.few))) (first_cost s count first run a.bytes) e (run_items tag limits old new run count s a);
    }
