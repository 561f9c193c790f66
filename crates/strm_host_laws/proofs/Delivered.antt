-- What a host writer produced is what was received and what is held, over the moments of a run.
use Rattle.std.proofs.Common.{◌≡◌, ◌≢◌, ℕ, ◌+◌, ◌-◌, ◌*◌, ◌^◌, ◌<◌, ◌≤◌, ◌||◌, Bool, true, false, cond, List, [], ◌∷◌, ◌++◌, length, map, take, get_or, Option, Some, refl, sym, ap, subst, ◌∙◌, ◌⊎◌, inl, inr, arith, append_assoc, append-nil, length-append}
use Rattle.std.proofs.lemmas.Bool.{cases_eq, cases_lt, eq-eqb, or_parts, true≢false}
use Rattle.std.proofs.lemmas.List.{map-append, get_or_past, get_or_push}
use Rattle.strm_codes.specs.declared.codes.TransmitKind.TheVariants.{Future}
use Rattle.strm_buffers.specs.Listing.{Item}
use Rattle.strm_machine.specs.State.{no_stream, is_host}
use Rattle.strm_machine.specs.Moments.{received}
use Rattle.strm_machine.specs.declared.acts.Act.TheVariants.{OnHost}
use Rattle.strm_machine.specs.declared.acts.HostAct.TheVariants.{New}
use Rattle.strm_machine.specs.declared.limits.Limits.{Limits}
use Rattle.strm_machine.specs.declared.streams.Owner.{Owner}
use Rattle.strm_machine.specs.declared.streams.Owner.TheVariants.{Host, Gone}
use Rattle.strm_machine.specs.declared.streams.Side.TheVariants.{Writing, Reading}
use Rattle.strm_machine.specs.declared.streams.Stream.{Stream}
use Rattle.strm_machine.specs.declared.replies.Reply.{Reply}
use Rattle.strm_machine.specs.declared.replies.Reply.TheVariants as replies
use Rattle.strm_buffers.specs.Tells.{Tells}
use Rattle.strm_machine.specs.declared.steps.Step.{Step}
use Rattle.strm_host_machine.specs.Does.{start_world}
use Rattle.strm_host_machine.specs.World.{World, stream_in, writer_at, held_of}
use Rattle.strm_host_machine.specs.Attaching.{hosted_stream}
use Rattle.strm_host_laws.specs.HostMoments.{Part, Acts, HostMoment, first_moments, end_world}
use Rattle.strm_host_laws.specs.HostLaws.{used_in, items_of_records, made_of, produced_by, produced_in, produced_on, host_got_in, host_got, is_made_by, is_hosted, is_piped_in, was_piped, held_for_owner, held_first, DeliversAll}
use Rattle.strm_host_laws.proofs.Chains.{Follows, Chain, first-chain}
use Rattle.strm_host_laws.proofs.Closed.{Stands-start}
use Rattle.strm_host_laws.proofs.Counted.{first_few}
use Rattle.strm_host_laws.proofs.Fed.{take-front}
use Rattle.strm_host_laws.proofs.Forms.{is_making, Form, BySame, ByReacting, ByForsaking, ByHosting, ByFeeding, ByGranting, ByPiping, ByTurning, ByPassing, ByCalling}
use Rattle.strm_host_laws.proofs.GoingRules.{hosted}
use Rattle.strm_host_laws.proofs.Effects.{Effect}
use Rattle.strm_host_laws.proofs.PartEffects.{follows_effect}
use Rattle.strm_host_laws.proofs.GuestsSeen.{effect_makes}
use Rattle.strm_host_laws.proofs.PartsSeen.{IsTaken, owner_taken, effect_taken}
use Rattle.strm_host_laws.proofs.Duties.{effect_unread_by}
use Rattle.strm_host_laws.proofs.HostBytes.{ReadOrRoomy, ReadOrRoomFor}
use Rattle.strm_host_laws.proofs.HostCounts.{effect_kind}
use Rattle.strm_host_laws.proofs.FutureKept.{ReadsOne, OneWritten, one_most}
use Rattle.strm_host_laws.proofs.FutureWritten.{moment_onward}
use Rattle.strm_host_laws.proofs.Lives.{AllSupply, Lives, owned_made, owned_quiet, goes_form, follows_lives}
use Rattle.strm_host_laws.proofs.Moments.{holds_before, capped, Delivers, nothing_unhosted, touch_delivers}
use Rattle.strm_host_laws.proofs.Standing.{Holds-empty}
use Rattle.strm_host_laws.proofs.TurnsStand.{nothing_kept}
use Rattle.strm_host_laws.proofs.Touched.{Touch, NotTouched, IsLost, HasTurn, HasRound, HasRead, form_touch}
use Rattle.strm_host_laws.proofs.Unmoved.{WriterGone}
use Rattle.strm_machine.proofs.HostLemmas.{unless_host}
use Rattle.strm_host_laws.proofs.Unhosted.{MakesNot, unmaking, form_makes_not, IsUnhosted, form_unhosted, form_made}

-- RUNS

or_both : (a b : Bool) → a ≡ false → b ≡ false → (a || b) ≡ false
or_both true b e f = e
or_both false b e f = f

-- of what was produced in a moment and after it, where no stream of this number is made
produced_split : (s : ℕ) (m : HostMoment) (more : List HostMoment) → made_of s m.before m.part m.reply ≡ [] → (xs : List Item) → produced_in s m ≡ xs → produced_on s (m ∷ more) ≡ xs ++ produced_on s more
produced_split s m more e xs f =
    ap (λ ys. ys ++ (produced_in s m ++ produced_on s more)) e ∙ ap (λ ys. ys ++ produced_on s more) f

module _ (first : World) where
  -- what a moment that follows is
  moment_form : (m : HostMoment) → Follows m.before m → Lives first m.before → Form m.before m.part m.reply m.after
  moment_form m f l = goes_form first m.before l m.part m.reply m.after f.part f.goes

  moment_lives : (m : HostMoment) → Follows m.before m → Lives first m.before → Lives first m.after
  moment_lives m f l = follows_lives first m f.part f.goes l

  from_itself : (w : World) (m : HostMoment) → Follows w m → Follows m.before m
  from_itself w m f = record { begins = refl; part = f.part; goes = f.goes }

  -- A STREAM WHOSE WRITER IS GONE

  record GoneRun (s : ℕ) (w : World) (all : List HostMoment) : Type 0 where
    got : host_got s all ≡ []
    made : produced_on s all ≡ []
    count : received s (end_world w all).state ≡ received s w.state
    owner : (stream_in (end_world w all) s).writer.owner ≡ Gone
    unhosted : is_hosted s all ≡ false
    kind : (stream_in (end_world w all) s).kind ≡ (stream_in w s).kind

  gone_stays : (s : ℕ) (m : HostMoment) → (stream_in m.before s).writer.owner ≡ Gone → Touch s m.before m.part m.after
      → ((stream_in m.after s).writer.owner ≡ Gone) × (received s m.after.state ≡ received s m.before.state)
  gone_stays s m e (NotTouched a) = (a.stream.writer ∙ e, a.stream.received)
  gone_stays s m e (IsLost n f) = let wrong : Gone ≡ Host n = sym e ∙ f.was in cc
  gone_stays s m e (HasTurn n read i) = let wrong : Gone ≡ Host n = sym e ∙ i.owner in cc
  gone_stays s m e (HasRound n r i) = let wrong : Gone ≡ Host n = sym e ∙ i.wrote in cc
  gone_stays s m e (HasRead end address count n at r) = let wrong : Gone ≡ Host n = sym e ∙ ap (λ k. (stream_in m.before k).writer.owner) (sym at) ∙ r.owner in cc

  -- what became of its write end is kept
  moment_taken : (s : ℕ) (m : HostMoment) → Follows m.before m → Lives first m.before → IsTaken Writing m.before.state s → IsTaken Writing m.after.state s
  moment_taken s m f l = effect_taken Writing m.before.state m.after.state m.part m.reply s l.holds (follows_effect m.before m l.holds.hosts f)

  gone_run : (s : ℕ) (w : World) (all : List HostMoment) → Chain w all → Lives first w → (stream_in w s).writer.owner ≡ Gone → IsTaken Writing w.state s → GoneRun s w all
  gone_run s w [] c l e taken = record { got = refl; made = refl; count = refl; owner = e; unhosted = refl; kind = refl }
  gone_run s w (m ∷ more) c l e taken =
      subst (λ x. GoneRun s x (m ∷ more)) c.0.begins
      (here (from_itself w m c.0) (subst (Lives first) (sym c.0.begins) l) (ap (λ x. (stream_in x s).writer.owner) c.0.begins ∙ e) (subst (λ (x : World). IsTaken Writing x.state s) (sym c.0.begins) taken)
      (λ k o j. gone_run s m.after more c.1 k o j))
    where
      here : Follows m.before m → Lives first m.before → (stream_in m.before s).writer.owner ≡ Gone → IsTaken Writing m.before.state s
          → (Lives first m.after → (stream_in m.after s).writer.owner ≡ Gone → IsTaken Writing m.after.state s → GoneRun s m.after more) → GoneRun s m.before (m ∷ more)
      here f l e taken next =
          let form = moment_form m f l in
          let not = form_makes_not s m.before m.part m.reply m.after (λ g. absurd (omega (arith, taken.made, g))) form in
          let stays = gone_stays s m e (form_touch first m.before s l taken.made (WriterGone e taken.idle) m.part m.reply m.after form) in
          let rest = next (moment_lives m f l) stays.0 (moment_taken s m f l taken) in
          record {
            got = ap (λ g. g ++ host_got s more) (nothing_unhosted s m stays.1 (ap is_host e) (stream_in m.before s).reader.owner) ∙ rest.got;
            made = produced_split s m more not.made [] (ap (produced_by m) e) ∙ rest.made;
            count = rest.count ∙ stays.1;
            owner = rest.owner;
            unhosted = or_both (is_made_by s m.part m.reply) (is_hosted s more) not.by rest.unhosted;
            kind = rest.kind ∙ effect_kind m.before.state m.after.state m.part m.reply s l.holds taken.made (follows_effect m.before m l.holds.hosts f);
          }

  -- A STREAM OF A HOST WRITER

  record HostedRun (s n : ℕ) (w : World) (all : List HostMoment) : Type 0 where
    rest : List Item
    balance : map Some (held_of w n ++ produced_on s all) ≡ host_got s all ++ map Some rest
    count : received s (end_world w all).state ≡ capped (received s w.state + length (host_got s all))
    exact : is_host (stream_in w s).reader.owner ≡ false → was_piped s all ≡ false → received s (end_world w all).state ≡ received s w.state + length (host_got s all)
    ends : is_host (stream_in (end_world w all) s).writer.owner ≡ true → rest ≡ held_for_owner (end_world w all) (stream_in (end_world w all) s).writer.owner
    unhosted : is_hosted s all ≡ false
    kind : (stream_in (end_world w all) s).kind ≡ (stream_in w s).kind
    one : (stream_in w s).kind ≡ Future → OneWritten w s n → received s (end_world w all).state ≤ 1

  -- counts are in their type, and have room for the items of these moments, unless a host reader has, or had, the
  -- read end
  record HasRoom (s : ℕ) (w : World) (all : List HostMoment) : Type 0 where
    bound : received s w.state ≤ 2 ^ 128 - 1
    room : ReadOrRoomFor w.state s (length all)

  -- what one moment and those behind it produced
  balance_both : (held p q r t h : List Item) (x y : List (Option Item)) → map Some (held ++ p) ≡ x ++ map Some r → r ≡ h → map Some (h ++ q) ≡ y ++ map Some t
      → map Some (held ++ (p ++ q)) ≡ (x ++ y) ++ map Some t
  balance_both held p q r t h x y e f k =
      ap (map Some) (sym (append_assoc held p q))
      ∙ map-append Some (held ++ p) q
      ∙ ap (λ zs. zs ++ map Some q) e
      ∙ append_assoc x (map Some r) (map Some q)
      ∙ ap (λ zs. x ++ zs) (sym (map-append Some r q) ∙ ap (λ zs. map Some (zs ++ q)) f ∙ k)
      ∙ sym (append_assoc x y (map Some t))

  -- counts that stop at the end of their type
  under_cap : (a n : ℕ) → a ≡ capped n → a ≤ 2 ^ 128 - 1
  under_cap a n e = omega (arith, e)

  twice_capped : (a b c g k : ℕ) → b ≡ capped (a + g) → c ≡ capped (b + k) → c ≡ capped (a + (g + k))
  twice_capped a b c g k e f = omega (arith, e, f)

  -- by what comes of the moments behind the first
  abbrev Behind : ℕ → ℕ → HostMoment → List HostMoment → Type 0
  Behind s n m more = Lives first m.after → (stream_in m.after s).writer.owner ≡ Host n → IsTaken Writing m.after.state s → HasRoom s m.after more → HostedRun s n m.after more

  hosted_then : (s n : ℕ) (m : HostMoment) (more : List HostMoment) → Chain m.after more → Follows m.before m → Lives first m.before → (stream_in m.before s).writer.owner ≡ Host n → IsTaken Writing m.before.state s → HasRoom s m.before (m ∷ more)
      → Behind s n m more → HostedRun s n m.before (m ∷ more)
  hosted_then s n m more c f l o taken room next =
      let made = owned_made m.before.state s n l.holds o in
      let form = moment_form m f l in
      let not = form_makes_not s m.before m.part m.reply m.after (λ g. absurd (omega (arith, made, g))) form in
      let touch = form_touch first m.before s l made (owned_quiet m.before.state s n l.holds o) m.part m.reply m.after form in
      let d = touch_delivers first m l s n o room.bound (room_here room.room) form touch in
      let live = moment_lives m f l in
      let effect = follows_effect m.before m l.holds.hosts f in
      let here : produced_on s (m ∷ more) ≡ items_of_records (used_in n m) ++ produced_on s more = produced_split s m more not.made (items_of_records (used_in n m)) (ap (produced_by m) o) in
      let kinds = effect_kind m.before.state m.after.state m.part m.reply s l.holds made effect in
      let g = host_got_in s m in
      elim d.ends [
        | inl gone ↦ (
            let k = gone_run s m.after more c live gone (moment_taken s m f l taken) in
            let left : length (g ++ host_got s more) ≡ length g = ap (λ xs. length (g ++ xs)) k.got ∙ ap length (append-nil g) in
            record {
              rest = d.rest;
              balance =
                  ap (λ xs. map Some (holds_before n m ++ xs)) (here ∙ ap (λ xs. items_of_records (used_in n m) ++ xs) k.made ∙ append-nil (items_of_records (used_in n m)))
                  ∙ d.balance
                  ∙ ap (λ xs. xs ++ map Some d.rest) (sym (append-nil g) ∙ ap (λ xs. g ++ xs) (sym k.got));
              count = k.count ∙ d.count ∙ ap (λ j. capped (received s m.before.state + j)) (sym left);
              exact = λ u v. (let once = (d.exact u).counted in omega (arith, k.count, once, left));
              ends = λ h. absurd (let wrong : is_host Gone ≡ true = ap is_host (sym k.owner) ∙ h in cc);
              unhosted = or_both (is_made_by s m.part m.reply) (is_hosted s more) not.by k.unhosted;
              kind = k.kind ∙ kinds;
              one = λ future h. (let most = (moment_onward first m s n l o future h form touch).most in omega (arith, most, k.count));
            })
        | inr stays ↦ (
            let k = next live stays.0 (moment_taken s m f l taken) (room_after d effect room.room) in
            let long = length-append g (host_got s more) in
            record {
              rest = k.rest;
              balance =
                  ap (λ xs. map Some (holds_before n m ++ xs)) here
                  ∙ balance_both (holds_before n m) (items_of_records (used_in n m)) (produced_on s more) d.rest k.rest (held_of m.after n) g (host_got s more) d.balance (sym stays.1) k.balance;
              count = twice_capped (received s m.before.state) (received s m.after.state) (received s (end_world m.after more).state) (length g) (length (host_got s more)) d.count k.count ∙ ap (λ j. capped (received s m.before.state + j)) (sym long);
              exact = λ u v. (
                  let parts = or_parts (is_piped_in s m.part m.reply) (was_piped s more) v in
                  let once = (d.exact u).counted in
                  let rest = k.exact (effect_unread_by m.before.state m.after.state m.part m.reply s l.holds live.holds effect u parts.0) parts.1 in
                  omega (arith, once, rest, long));
              ends = k.ends;
              unhosted = or_both (is_made_by s m.part m.reply) (is_hosted s more) not.by k.unhosted;
              kind = k.kind ∙ kinds;
              one = λ future h. k.one (kinds ∙ future) ((moment_onward first m s n l o future h form touch).one stays.0);
            })
      ]
    where
      -- there is room for the items of this moment
      room_here : ReadOrRoomFor m.before.state s (length (m ∷ more)) → ReadOrRoomy m.before.state s
      room_here (inl read) = inl read
      room_here (inr b) = inr (omega (arith, b))

      -- and for those of the others
      room_after : Delivers s n m → Effect m.before.state m.part m.reply m.after.state → ReadOrRoomFor m.before.state s (length (m ∷ more)) → HasRoom s m.after more
      room_after d effect (inl read) = record { bound = under_cap (received s m.after.state) _ d.count; room = inl (effect_taken Reading m.before.state m.after.state m.part m.reply s l.holds effect read) }
      room_after d effect (inr b) = record { bound = under_cap (received s m.after.state) _ d.count; room = by (stream_in m.before s).reader.owner refl }
        where
          by : (owner : Owner) → (stream_in m.before s).reader.owner ≡ owner → ReadOrRoomFor m.after.state s (length more)
          by (Host r) e = inl (effect_taken Reading m.before.state m.after.state m.part m.reply s l.holds effect (owner_taken Reading m.before.state s r l.holds e))
          by owner e = (
              let x = d.exact (unless_host (stream_in m.before s).reader.owner (λ r g. let wrong = sym e ∙ g in cc)) in
              let once = x.counted in
              let few = x.few in
              inr (omega (arith, b, once, few)))

  hosted_run : (s n : ℕ) (w : World) (all : List HostMoment) → Chain w all → Lives first w → (stream_in w s).writer.owner ≡ Host n → IsTaken Writing w.state s → HasRoom s w all → HostedRun s n w all
  hosted_run s n w [] c l o taken room = record {
    rest = held_of w n;
    balance = ap (map Some) (append-nil (held_of w n));
    count = (let bound = room.bound in omega (arith, bound));
    exact = λ u v. omega arith;
    ends = λ h. ap (held_for_owner w) (sym o);
    unhosted = refl;
    kind = refl;
    one = λ future h. one_most w s n h;
  }
  hosted_run s n w (m ∷ more) c l o taken room =
      subst (λ x. HostedRun s n x (m ∷ more)) c.0.begins
      (hosted_then s n m more c.1 (from_itself w m c.0) (subst (Lives first) (sym c.0.begins) l) (ap (λ x. (stream_in x s).writer.owner) c.0.begins ∙ o)
      (subst (λ (x : World). IsTaken Writing x.state s) (sym c.0.begins) taken) (subst (λ x. HasRoom s x (m ∷ more)) (sym c.0.begins) room)
      (λ k e j r. hosted_run s n m.after more c.1 k e j r))

  -- A STREAM OF GUESTS

  record OtherRun (s : ℕ) (w : World) (all : List HostMoment) : Type 0 where
    unhosted : is_hosted s all ≡ false
    owner : IsUnhosted s (end_world w all)

  other_run : (s : ℕ) (w : World) (all : List HostMoment) → Chain w all → Lives first w → IsUnhosted s w → s < length w.state.streams → OtherRun s w all
  other_run s w [] c l u made = record { unhosted = refl; owner = u }
  other_run s w (m ∷ more) c l u made =
      let l' : Lives first m.before = subst (Lives first) (sym c.0.begins) l in
      let u' : IsUnhosted s m.before = subst (IsUnhosted s) (sym c.0.begins) u in
      let made' : s < length m.before.state.streams = subst (λ (x : World). s < length x.state.streams) (sym c.0.begins) made in
      let form = moment_form m (from_itself w m c.0) l' in
      let ne : s ≢ length m.before.state.streams = λ g. absurd (omega (arith, made', g)) in
      let not = form_makes_not s m.before m.part m.reply m.after ne form in
      let rest = other_run s m.after more c.1 (moment_lives m (from_itself w m c.0) l') (form_unhosted first m.before s l' u' m.part m.reply m.after (inl ne) form) (form_made first m.before s l' made' m.part m.reply m.after form) in
      record { unhosted = or_both (is_made_by s m.part m.reply) (is_hosted s more) not.by rest.unhosted; owner = rest.owner }

  -- A STREAM THAT IS NOT MADE YET

  -- what was produced, and then a rest
  record Shares (s : ℕ) (all : List HostMoment) : Type 0 where
    rest : List Item
    balance : map Some (produced_on s all) ≡ host_got s all ++ map Some rest

  record NewRun (s : ℕ) (w : World) (all : List HostMoment) : Type 0 where
    there : is_host (stream_in (end_world w all) s).writer.owner ≡ true → map Some (produced_on s all) ≡ host_got s all ++ map Some (held_for_owner (end_world w all) (stream_in (end_world w all) s).writer.owner)
    shares : is_hosted s all ≡ true → Shares s all
    count : is_hosted s all ≡ true → was_piped s all ≡ false → length (host_got s all) ≡ received s (end_world w all).state
    capped_count : is_hosted s all ≡ true → received s (end_world w all).state ≡ capped (length (host_got s all))
    one : is_hosted s all ≡ true → (stream_in (end_world w all) s).kind ≡ Future → length (held_first s all) ≤ 1 → received s (end_world w all).state ≤ 1

  -- nothing stands past the last stream
  past : (s : ℕ) (w : World) → length w.state.streams ≤ s → stream_in w s ≡ no_stream
  past s w le = get_or_past w.state.streams s no_stream le

  -- stream s is the one that is made in this part
  record IsMadeHere (s : ℕ) (w : World) (part : Part) (reply : Reply) (v : World) : Type 0 where
    host : ℕ
    number : s ≡ length w.state.streams
    part_is : part ≡ Acts (OnHost host New)
    reply_is : reply ≡ replies.Number (length w.state.streams)
    is : v ≡ hosted w host

  past_unhosted : (s : ℕ) (w : World) → length w.state.streams ≤ s → IsUnhosted s w
  past_unhosted s w le = ap (λ (x : Stream). is_host x.writer.owner) (past s w le)

  -- or it is not, and no host writer gets it
  abbrev MadeOrNot : ℕ → World → Part → Reply → World → Type 0
  MadeOrNot s w part reply v = IsMadeHere s w part reply v ⊎ (MakesNot s w part reply × IsUnhosted s v)

  making_form : (s : ℕ) (w : World) (part : Part) (reply : Reply) (v : World) → Lives first w → length w.state.streams ≤ s → is_making part reply ≡ true → Form w part reply v → MadeOrNot s w part reply v
  making_form s w part reply v l le t (ByHosting n p r e is) =
      elim (cases_eq s (length w.state.streams)) [
        | inl at ↦ inl (record { host = n; number = at; part_is = p; reply_is = r; is = is })
        | inr ne ↦ inr (form_makes_not s w part reply v ne (ByHosting n p r e is), form_unhosted first w s l (past_unhosted s w le) part reply v (inl ne) (ByHosting n p r e is))
      ]
  making_form s w part reply v l le t (BySame m e) = absurd (let wrong : true ≡ false = sym t ∙ m in cc)
  making_form s w part reply v l le t (ByReacting act m e) = absurd (let wrong : true ≡ false = sym t ∙ m in cc)
  making_form s w part reply v l le t (ByForsaking act side k n m f) = absurd (let wrong : true ≡ false = sym t ∙ m in cc)
  making_form s w part reply v l le t (ByFeeding n bytes m e) = absurd (let wrong : true ≡ false = sym t ∙ m in cc)
  making_form s w part reply v l le t (ByGranting r count m e) = absurd (let wrong : true ≡ false = sym t ∙ m in cc)
  making_form s w part reply v l le t (ByPiping k r m p) = absurd (let wrong : true ≡ false = sym t ∙ m in cc)
  making_form s w part reply v l le t (ByTurning side k n operation m i) = absurd (let wrong : true ≡ false = sym t ∙ m in cc)
  making_form s w part reply v l le t (ByPassing k n r m i) = absurd (let wrong : true ≡ false = sym t ∙ m in cc)
  making_form s w part reply v l le t (ByCalling side end address count n m r) = absurd (let wrong : true ≡ false = sym t ∙ m in cc)

  made_or_not : (s : ℕ) (w : World) (part : Part) (reply : Reply) (v : World) (b : Bool) → is_making part reply ≡ b → Lives first w → length w.state.streams ≤ s → Form w part reply v → MadeOrNot s w part reply v
  made_or_not s w part reply v true t l le form = making_form s w part reply v l le t form
  made_or_not s w part reply v false t l le form =
      inr (unmaking s w part reply t, form_unhosted first w s l (past_unhosted s w le) part reply v (inr t) form)

  -- of a moment, and of those behind it
  module _ (s : ℕ) (m : HostMoment) (more : List HostMoment) (c : Chain m.after more) (f : Follows m.before m) (l : Lives first m.before) (le : length m.before.state.streams ≤ s) where
    -- it is made in this moment
    new_hosted : IsMadeHere s m.before m.part m.reply m.after → 2 ^ 28 * length more < 2 ^ 128 → NewRun s m.before (m ∷ more)
    new_hosted h room =
        let w = m.before in
        let n = h.host in
        let stream = hosted_stream (writer_at w n) n in
        let now : stream_in m.after s ≡ stream = ap (λ x. stream_in x s) h.is ∙ ap (λ k. get_or (w.state.streams ++ stream ∷ []) k no_stream) h.number ∙ get_or_push w.state.streams stream no_stream (length w.state.streams) refl in
        let none : received s m.after.state ≡ 0 = ap (λ (x : Stream). x.received) now in
        let before : received s w.state ≡ 0 = ap (λ (x : Stream). x.received) (past s w le) in
        let nothing = nothing_unhosted s m (none ∙ sym before) (past_unhosted s w le) (stream_in w s).reader.owner in
        let num = eq-eqb (length w.state.streams) s (sym h.number) in
        let made : made_of s w m.part m.reply ≡ (writer_at w n).holds = ap (λ x. made_of s w x m.reply) h.part_is ∙ ap (made_of s w (Acts (OnHost n New))) h.reply_is ∙ ap (λ b. cond b (writer_at w n).holds []) num in
        let by : is_made_by s m.part m.reply ≡ true = ap (λ x. is_made_by s x m.reply) h.part_is ∙ ap (is_made_by s (Acts (OnHost n New))) h.reply_is ∙ num in
        let taken = effect_makes w.state m.after.state m.part m.reply s (follows_effect w m l.holds.hosts f) by in
        let own : (stream_in m.after s).writer.owner ≡ Host n = ap (λ (x : Stream). x.writer.owner) now in
        let unread : is_host (stream_in m.after s).reader.owner ≡ false = ap (λ (x : Stream). is_host x.reader.owner) now in
        let live = moment_lives m f l in
        let k = hosted_run s n m.after more c live own taken (record { bound = omega (arith, none); room = inr (omega (arith, none, room)) }) in
        let unwritten : produced_in s m ≡ [] = ap (λ (x : Stream). produced_by m x.writer.owner) (past s w le) in
        let held : held_of m.after n ≡ (writer_at w n).holds =
        ap (λ ks. ks ++ (writer_at m.after n).holds) (nothing_kept m.after.state s n live.holds.hosts own unread) ∙ ap (λ x. (writer_at x n).holds) h.is in
        let all_made : produced_on s (m ∷ more) ≡ held_of m.after n ++ produced_on s more = ap (λ xs. xs ++ (produced_in s m ++ produced_on s more)) (made ∙ sym held) ∙ ap (λ xs. held_of m.after n ++ (xs ++ produced_on s more)) unwritten in
        let all_got : host_got s (m ∷ more) ≡ host_got s more = ap (λ xs. xs ++ host_got s more) nothing in
        let balance : map Some (produced_on s (m ∷ more)) ≡ host_got s (m ∷ more) ++ map Some k.rest = ap (map Some) all_made ∙ k.balance ∙ ap (λ xs. xs ++ map Some k.rest) (sym all_got) in
        let long = ap length all_got in
        record {
          there = λ q. balance ∙ ap (λ xs. host_got s (m ∷ more) ++ map Some xs) (k.ends q);
          shares = λ q. record { rest = k.rest; balance = balance };
          count = λ q v. (let rest = k.exact unread (or_parts (is_piped_in s m.part m.reply) (was_piped s more) v).1 in omega (arith, rest, none, long));
          capped_count = λ q. omega (arith, k.count, none, long);
          one = λ q future few. (
              let passed : (stream_in m.after s).passed ≡ false = ap (λ (x : Stream). x.passed) now in
              let long = length-append (made_of s w m.part m.reply) (held_first s more) in
              let same = ap length made in
              let most : length (writer_at w n).holds ≤ 1 = omega (arith, few, long, same) in
              k.one (sym k.kind ∙ future)
              (record {
                count = none ∙ ap (λ p. cond p 1 0) (sym passed);
                held = λ e. subst (λ xs. length xs ≤ 1) (sym held) most;
                loose = λ e. passed;
                reads = subst (λ x. ReadsOne x (stream_in m.after s).passed) (sym (ap (λ (x : Stream). x.reader.operation) now)) tt;
                rests = λ r e p. absurd (true≢false (sym p ∙ passed));
              }));
        }

    -- it is made with a guest's write end, or not yet
    new_later : MakesNot s m.before m.part m.reply → IsUnhosted s m.after → (length m.after.state.streams ≤ s → NewRun s m.after more) → NewRun s m.before (m ∷ more)
    new_later not u next =
        elim (cases_lt s (length m.after.state.streams)) [
          | inl made ↦ (
              let k = other_run s m.after more c (moment_lives m f l) u made in
              let none : is_hosted s (m ∷ more) ≡ false = or_both (is_made_by s m.part m.reply) (is_hosted s more) not.by k.unhosted in
              record {
                there = λ h. absurd (let wrong : true ≡ false = sym h ∙ k.owner in cc);
                shares = λ h. absurd (let wrong : true ≡ false = sym h ∙ none in cc);
                count = λ h v. absurd (let wrong : true ≡ false = sym h ∙ none in cc);
                capped_count = λ h. absurd (let wrong : true ≡ false = sym h ∙ none in cc);
                one = λ h future few. absurd (let wrong : true ≡ false = sym h ∙ none in cc);
              })
          | inr after ↦ (
              let k = next after in
              let same : received s m.after.state ≡ received s m.before.state = ap (λ (x : Stream). x.received) (past s m.after after ∙ sym (past s m.before le)) in
              let nothing = nothing_unhosted s m same (past_unhosted s m.before le) (stream_in m.before s).reader.owner in
              let all_got : host_got s (m ∷ more) ≡ host_got s more = ap (λ xs. xs ++ host_got s more) nothing in
              let all_made : produced_on s (m ∷ more) ≡ produced_on s more = produced_split s m more not.made [] (ap (λ (x : Stream). produced_by m x.writer.owner) (past s m.before le)) in
              let hosted_later : is_hosted s (m ∷ more) ≡ is_hosted s more = ap (λ b. b || is_hosted s more) not.by in
              let long = ap length all_got in
              record {
                there = λ h. ap (map Some) all_made ∙ k.there h ∙ ap (λ xs. xs ++ map Some (held_for_owner (end_world m.after more) (stream_in (end_world m.after more) s).writer.owner)) (sym all_got);
                shares = λ h. (let x = k.shares (sym hosted_later ∙ h) in record { rest = x.rest; balance = ap (map Some) all_made ∙ x.balance ∙ ap (λ xs. xs ++ map Some x.rest) (sym all_got) });
                count = λ h v. long ∙ k.count (sym hosted_later ∙ h) (or_parts (is_piped_in s m.part m.reply) (was_piped s more) v).1;
                capped_count = λ h. k.capped_count (sym hosted_later ∙ h) ∙ ap capped (sym long);
                one = λ h future few. k.one (sym hosted_later ∙ h) future (subst (λ xs. length (xs ++ held_first s more) ≤ 1) not.made few);
              })
        ]

    new_then : 2 ^ 28 * length more < 2 ^ 128 → (Lives first m.after → length m.after.state.streams ≤ s → NewRun s m.after more) → NewRun s m.before (m ∷ more)
    new_then room next =
        elim (made_or_not s m.before m.part m.reply m.after (is_making m.part m.reply) refl l le (moment_form m f l)) [
          | inl h ↦ new_hosted h room
          | inr h ↦ new_later h.0 h.1 (next (moment_lives m f l))
        ]

  new_run : (s : ℕ) (w : World) (all : List HostMoment) → Chain w all → Lives first w → length w.state.streams ≤ s → 2 ^ 28 * length all < 2 ^ 128 → NewRun s w all
  new_run s w [] c l le room = record {
    there = λ h. absurd (let wrong : is_host Gone ≡ true = ap (λ (x : Stream). is_host x.writer.owner) (sym (past s w le)) ∙ h in cc);
    shares = λ h. cc;
    count = λ h v. cc;
    capped_count = λ h. cc;
    one = λ h future few. cc;
  }
  new_run s w (m ∷ more) c l le room =
      subst (λ x. NewRun s x (m ∷ more)) c.0.begins
      (new_then s m more c.1 (from_itself w m c.0) (subst (Lives first) (sym c.0.begins) l) (subst (λ (x : World). length x.state.streams ≤ s) (sym c.0.begins) le) (omega (arith, room))
      (λ k a. new_run s m.after more c.1 k a (omega (arith, room))))

  -- what comes first of all that was produced
  first_of_all : (xs : List (Option Item)) (ys : List (Option Item)) (all : List (Option Item)) → all ≡ xs ++ ys → xs ≡ take (length xs) all
  first_of_all xs ys all e = sym (ap (take (length xs)) e ∙ take-front xs ys (length xs) refl)

  -- the law, of a stream that is made in these moments
  pub delivers_from : (s : ℕ) (w : World) (all : List HostMoment) → Chain w all → Lives first w → length w.state.streams ≤ s → 2 ^ 28 * length all < 2 ^ 128 → DeliversAll s all (end_world w all)
  delivers_from s w all c l le room =
      let k = new_run s w all c l le room in
      record {
        there = k.there;
        given_up = λ h. (let x = k.shares h in first_of_all (host_got s all) (map Some x.rest) (map Some (produced_on s all)) x.balance);
        count = k.count;
        capped = k.capped_count;
        one = λ h future few. (let most = k.one h future few in let counted = k.capped_count h in omega (arith, most, counted));
      }

-- RUNS FROM AN UNUSED STORE

Lives-start : (tag : ℕ) (limits : Limits) (old new : Tells) → AllSupply (start_world tag limits old new) → Lives (start_world tag limits old new) (start_world tag limits old new)
Lives-start tag limits old new h = record {
  holds = Holds-empty tag limits;
  stands = Stands-start tag limits old new;
  supplied = h;
}

-- the law of stream s in these moments, from this world on
abbrev DeliversIn : World → List HostMoment → ℕ → Type 0
DeliversIn w all s = DeliversAll s all (end_world w all)

pub run-delivers : (tag : ℕ) (limits : Limits) (old new : Tells) (run : List Step) (count s : ℕ) → AllSupply (start_world tag limits old new) → length run ≤ 4294967295
    → DeliversIn (start_world tag limits old new) (first_moments count (start_world tag limits old new) run) s
run-delivers tag limits old new run count s h few =
    let first = start_world tag limits old new in
    let l = Lives-start tag limits old new h in
    let most = first_few first count first run l (omega (arith, few)) in
    delivers_from first s first (first_moments count first run) (first-chain count first run) l (omega arith) (omega (arith, few, most))
