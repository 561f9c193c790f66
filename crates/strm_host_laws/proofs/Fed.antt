-- Host writers use their records in order, and hear the feeds to them.
use Rattle.std.proofs.Common.{◌≡◌, ℕ, zero, suc, ◌+◌, ◌-◌, ◌<◌, true, false, cond, List, [], ◌∷◌, ◌++◌, length, take, get_or, set, Option, Some, None, refl, sym, ap, subst, ◌∙◌, inl, inr, arith, append_assoc, append-nil, length-append}
use Rattle.std.proofs.lemmas.Bool.{cases_eq, cond_both, eq-eqb, ne_eqb, or_parts}
use Rattle.std.proofs.lemmas.List.{get_or-set_same, get_or-set_other}
use Rattle.std.specs.Prelude.{nat_le, slice_set}
use Rattle.std.specs.Option.{option_map}
use Rattle.strm_codes.specs.declared.refusals.Refusal.{Refusal}
use Rattle.strm_codes.specs.declared.refusals.Refusal.TheVariants as refusals
use Rattle.strm_buffers.specs.Said.{WriterSaid}
use Rattle.strm_buffers.specs.Tells.{Heard}
use Rattle.strm_machine.specs.State.{host_limit, no_consumer}
use Rattle.strm_machine.specs.declared.streams.Duty.TheVariants.{Serves}
use Rattle.strm_machine.specs.declared.streams.Stream.{Stream}
use Rattle.strm_machine.specs.declared.acts.Act.TheVariants.{OnHost}
use Rattle.strm_machine.specs.declared.acts.HostAct.TheVariants.{Feed, Grant}
use Rattle.strm_machine.specs.declared.steps.Step.{Step}
use Rattle.strm_machine.specs.declared.streams.Owner.{Owner}
use Rattle.strm_machine.specs.declared.streams.Owner.TheVariants.{Host, Gone}
use Rattle.strm_machine.specs.declared.replies.Reply.{Reply}
use Rattle.strm_machine.specs.declared.replies.Reply.TheVariants as replies
use Rattle.strm_host_machine.specs.Ends.{Writer, no_writer, polled_writer, given_writer, fed_writer, closed_writer}
use Rattle.strm_host_machine.specs.World.{World, stream_in, writer_at, with_consumer, with_writer, leaves_writer, leaves_reader, with_stream_in}
use Rattle.strm_host_machine.specs.Attaching.{piped}
use Rattle.strm_host_machine.specs.Outcomes.{Goes}
use Rattle.strm_host_machine.specs.HostRefusals.{is_unknown_host, refusal_in}
use Rattle.strm_host_machine.specs.Steps.{performs_in, unless_refused_in, outcome}
use Rattle.strm_host_laws.specs.HostMoments.{Part, Acts, HostMoment, part_on, first_moments, end_world}
use Rattle.strm_host_laws.specs.HostLaws.{used_records, used_in, all_used, fed_in, all_fed, WriterGoesOn}
use Rattle.strm_host_laws.proofs.Chains.{is_part, Follows, Chain, first-chain}
use Rattle.strm_host_laws.proofs.GoingRules.{Begins, Stopping, Rules, Comes, IfGoes, is_passing}
use Rattle.strm_host_laws.proofs.Goings.{part-comes, grant-comes}
use Rattle.strm_machine.proofs.RefusalLemmas.{not_refused, not_le}

-- WHAT HOLDS OF EACH HOST WRITER

-- what holds of one host writer before a change and after it, where it holds of each change of one
pub record OfWriters (P : Writer → Writer → Type 0) : Type 0 where
  pub same : (a : Writer) → P a a
  pub joined : (a b c : Writer) → P a b → P b c → P a c
  pub polled : (a : Writer) (room : Option ℕ) (said : WriterSaid) (more : List WriterSaid) → a.coming ≡ said ∷ more → P a (polled_writer a room said more)
  pub given : (a : Writer) (k : ℕ) → P a (given_writer a k)
  pub closed : (a : Writer) → P a (closed_writer a)

pub set-relates : {A : Type 0} (P : A → A → Type 0) (xs : List A) (n k : ℕ) (x d : A) → ((y : A) → P y y) → P (get_or xs n d) x → P (get_or xs k d) (get_or (set xs n x) k d)
set-relates P [] n k x d same h = same d
set-relates P (y ∷ ys) zero zero x d same h = h
set-relates P (y ∷ ys) zero (suc k) x d same h = same (get_or ys k d)
set-relates P (y ∷ ys) (suc n) zero x d same h = same y
set-relates P (y ∷ ys) (suc n) (suc k) x d same h = set-relates P ys n k x d same h

module _ (P : Writer → Writer → Type 0) (of : OfWriters P) where
  -- it holds of each host writer
  abbrev pub OfEach : World → World → Type 0
  OfEach w v = (n : ℕ) → P (writer_at w n) (writer_at v n)

  pub with-each : (w : World) (n : ℕ) (writer : Writer) → P (writer_at w n) writer → OfEach w (with_writer w n writer)
  with-each w n writer h k = set-relates P w.writers n k writer no_writer of.same h

  leaves-each : (old new : Owner) (w : World) → OfEach w (leaves_writer old new w)
  leaves-each (Host n) Gone w = with-each w n (closed_writer (writer_at w n)) (of.closed (writer_at w n))
  leaves-each (Host n) _ w = λ k. of.same (writer_at w k)
  leaves-each _ new w = λ k. of.same (writer_at w k)

  leaves_reader-writers : (old new : Owner) (w : World) → (leaves_reader old new w).writers ≡ w.writers
  leaves_reader-writers (Host r) Gone w = refl
  leaves_reader-writers (Host r) _ w = refl
  leaves_reader-writers _ new w = refl

  -- by the owners of a stream's ends before and then
  ends-each : (w : World) → ((old new was is : Owner) (v : World) → v.writers ≡ w.writers → OfEach w (leaves_writer old new (leaves_reader was is v)))
  ends-each w old new was is v e =
      λ k. subst (λ ws. P (get_or ws k no_writer) (writer_at (leaves_writer old new (leaves_reader was is v)) k)) (leaves_reader-writers was is v ∙ e) (leaves-each old new (leaves_reader was is v) k)

  stream-each : (w v : World) (s : ℕ) (stream : Stream) → v.writers ≡ w.writers → OfEach w (with_stream_in v s stream)
  unfolding with_stream_in
  stream-each w v s stream e =
      let old = stream_in v s in
      ends-each w old.writer.owner stream.writer.owner old.reader.owner stream.reader.owner (record v { state = record v.state { streams = slice_set v.state.streams s stream } }) e

  pub begins-each : Begins OfEach
  begins-each = record {
    stays = λ w n. of.same (writer_at w n);
    joins = λ a b c f g n. of.joined (writer_at a n) (writer_at b n) (writer_at c n) (f n) (g n);
    opens = λ w s stream e. stream-each w w s stream refl;
    says = λ w n room said more e. with-each w n (polled_writer (writer_at w n) room said more) (of.polled (writer_at w n) room said more e);
    takes = λ w r took said more e n. of.same (writer_at w n);
    gives = λ w n k. with-each w n (given_writer (writer_at w n) k) (of.given (writer_at w n) k);
    keeps = λ w n items k. of.same (writer_at w k);
  }

  pub stopping-each : Stopping OfEach
  stopping-each = record {
    begins = begins-each;
    polls = λ w n room said more e. with-each w n (polled_writer (writer_at w n) room said more) (of.polled (writer_at w n) room said more e);
  }

  pub rules-each : Rules OfEach
  rules-each = record {
    begins = begins-each;
    reacts = λ w act n. of.same (writer_at w n);
    lowers = λ w guests n. of.same (writer_at w n);
    counts = λ w r answer taken n. of.same (writer_at w n);
    rests = λ w r answer taken n. of.same (writer_at w n);
    leaves = λ w s stream l. stream-each w w s stream refl;
    hosts = λ w n e k. of.same (writer_at w k);
    pipes = λ w s r e. stream-each w (with_consumer w r (record no_consumer { duty = Serves s })) s (piped (stream_in w s) r) refl;
  }

  -- it holds of each after a part but a feed or a grant
  pub part-each : (w : World) (part : Part) → is_part part ≡ true → is_passing part ≡ false → Comes OfEach OfEach w (part_on w part)
  part-each w part p f = part-comes OfEach OfEach rules-each stopping-each w part p f

  -- and after a grant
  pub grant-each : (w : World) (r count : ℕ) → Comes OfEach OfEach w (part_on w (Acts (OnHost r (Grant count))))
  grant-each w r count = grant-comes OfEach OfEach rules-each stopping-each w r count (λ e n. of.same (writer_at w n))

-- RECORDS

-- a host writer used these records, and heard nothing
pub record Uses (a b : Writer) : Type 0 where
  pub said : List WriterSaid
  pub records : a.coming ≡ said ++ b.coming
  pub spoken : b.spoken ≡ a.spoken + length said
  pub heard : b.heard ≡ a.heard
  pub kind : b.kind ≡ a.kind
  pub payload : b.payload ≡ a.payload

pub uses_none : (a b : Writer) → b.coming ≡ a.coming → b.spoken ≡ a.spoken → b.heard ≡ a.heard → b.kind ≡ a.kind → b.payload ≡ a.payload → Uses a b
uses_none a b c s h k p = record { said = []; records = sym c; spoken = omega (arith, s); heard = h; kind = k; payload = p }

uses_both : (a b c : Writer) → Uses a b → Uses b c → Uses a c
uses_both a b c u v = record {
  said = u.said ++ v.said;
  records = u.records ∙ ap (λ xs. u.said ++ xs) v.records ∙ sym (append_assoc u.said v.said c.coming);
  spoken = let l = length-append u.said v.said in omega (arith, l, u.spoken, v.spoken);
  heard = v.heard ∙ u.heard;
  kind = v.kind ∙ u.kind;
  payload = v.payload ∙ u.payload;
}

pub of_uses : OfWriters Uses
of_uses = record {
  same = λ a. uses_none a a refl refl refl refl refl;
  joined = uses_both;
  polled = λ a room said more e. record { said = said ∷ []; records = e; spoken = omega arith; heard = refl; kind = refl; payload = refl };
  given = λ a k. uses_none a (given_writer a k) refl refl refl refl refl;
  closed = λ a. uses_none a (closed_writer a) refl refl refl refl refl;
}

pub take-front : {A : Type 0} (xs ys : List A) (n : ℕ) → n ≡ length xs → take n (xs ++ ys) ≡ xs
take-front [] ys zero e = refl
take-front [] ys (suc n) e = absurd (omega (arith, e))
take-front (x ∷ xs) ys zero e = absurd (omega (arith, e))
take-front (x ∷ xs) ys (suc n) e = ap (λ zs. x ∷ zs) (take-front xs ys n (omega (arith, e)))

-- those that left the front are those used
pub used_are : {A : Type 0} (before after said : List A) → before ≡ said ++ after → used_records before after ≡ said
used_are before after said e =
    let l = length-append said after in
    ap (λ xs. take (length xs - length after) xs) e
    ∙ take-front said after (length (said ++ after) - length after) (omega (arith, l))

-- FEEDS

-- a host writer in one moment
pub record Moves (n : ℕ) (part : Part) (reply : Reply) (a b : Writer) : Type 0 where
  pub said : List WriterSaid
  pub records : a.coming ≡ said ++ b.coming
  pub spoken : b.spoken ≡ a.spoken + length said
  pub heard : b.heard ≡ option_map (λ xs. xs ++ fed_in n a.spoken part reply) a.heard
  pub kind : b.kind ≡ a.kind
  pub payload : b.payload ≡ a.payload

pub heard_none : {A : Type 0} (x : Heard A) → x ≡ option_map (λ xs. xs ++ []) x
heard_none None = refl
heard_none (Some xs) = ap Some (sym (append-nil xs))

-- a host writer that hears nothing
unheard : (n : ℕ) (part : Part) (reply : Reply) (a b : Writer) → fed_in n a.spoken part reply ≡ [] → Uses a b → Moves n part reply a b
unheard n part reply a b e u = record {
  said = u.said;
  records = u.records;
  spoken = u.spoken;
  heard = u.heard ∙ heard_none a.heard ∙ ap (λ f. option_map (λ xs. xs ++ f) a.heard) (sym e);
  kind = u.kind;
  payload = u.payload;
}

unfed : (n spoken : ℕ) (part : Part) (reply : Reply) → is_passing part ≡ false → fed_in n spoken part reply ≡ []
unfed n spoken (Acts (OnHost host (Feed bytes))) reply e = cc
unfed n spoken (Acts (OnHost host (Grant count))) reply e = refl
unfed n spoken _ reply e = refl

module _ (w : World) (host : ℕ) (bytes : List ℕ) where
  abbrev feeding : Part
  feeding = Acts (OnHost host (Feed bytes))

  abbrev fed_one : Writer
  fed_one = fed_writer (writer_at w host) bytes

  -- it is there where nothing refuses the feed
  host_there : refusal_in w (OnHost host (Feed bytes)) ≡ None → host < length w.writers
  unfolding refusal_in
  host_there e =
      let known = not_refused (is_unknown_host (length w.writers) host) refusals.UnknownHost None e in
      not_le (length w.writers) host (or_parts (nat_le (length w.writers) host) (nat_le host_limit host) known.0).0

  fed_moves : host < length w.writers → (n : ℕ) → Moves n feeding replies.Done (writer_at w n) (writer_at (with_writer w host fed_one) n)
  fed_moves l n =
      elim (cases_eq n host) [
        | inl e ↦
            let is : writer_at (with_writer w host fed_one) n ≡ fed_writer (writer_at w n) bytes = ap (λ k. get_or (set w.writers host fed_one) k no_writer) e ∙ get_or-set_same w.writers host fed_one no_writer l ∙ ap (λ k. fed_writer (writer_at w k) bytes) (sym e) in
            let fed : fed_in n (writer_at w n).spoken feeding replies.Done ≡ ((writer_at w n).spoken, bytes) ∷ [] = ap (λ b. cond b (((writer_at w n).spoken, bytes) ∷ []) []) (eq-eqb host n (sym e)) in
            subst (Moves n feeding replies.Done (writer_at w n)) (sym is)
            (record {
              said = [];
              records = refl;
              spoken = omega arith;
              heard = ap (λ f. option_map (λ xs. xs ++ f) (writer_at w n).heard) (sym fed);
              kind = refl;
              payload = refl;
            })
        | inr ne ↦
            let is : writer_at (with_writer w host fed_one) n ≡ writer_at w n = get_or-set_other w.writers host n fed_one no_writer ne in
            let fed : fed_in n (writer_at w n).spoken feeding replies.Done ≡ [] = ap (λ b. cond b (((writer_at w n).spoken, bytes) ∷ []) []) (ne_eqb host n (λ e. ne (sym e))) in
            subst (Moves n feeding replies.Done (writer_at w n)) (sym is)
            (unheard n feeding replies.Done (writer_at w n) (writer_at w n) fed (of_uses.same (writer_at w n)))
      ]

  abbrev AllMove : Reply → World → Type 0
  AllMove reply v = (n : ℕ) → Moves n feeding reply (writer_at w n) (writer_at v n)

  feed_unless : (o : Option Refusal) → refusal_in w (OnHost host (Feed bytes)) ≡ o → IfGoes (unless_refused_in w (OnHost host (Feed bytes)) o) AllMove
  unfolding performs_in
  feed_unless (Some r) e = λ n. unheard n feeding (replies.Refused r) (writer_at w n) (writer_at w n) refl (of_uses.same (writer_at w n))
  feed_unless None e = fed_moves (host_there e)

  feed_moves : IfGoes (part_on w feeding) AllMove
  unfolding outcome
  feed_moves = cond_both w.state.trapped _ _ (λ o. IfGoes o AllMove) (λ t. tt) (λ t. feed_unless _ refl)

-- MOMENTS

part-moves : (w : World) (part : Part) (reply : Reply) (v : World) → is_part part ≡ true → part_on w part ≡ Goes reply v → (n : ℕ) → Moves n part reply (writer_at w n) (writer_at v n)
part-moves w (Acts (OnHost host (Feed bytes))) reply v p e =
    subst (λ o. IfGoes o (AllMove w host bytes)) e (feed_moves w host bytes)
part-moves w (Acts (OnHost host (Grant count))) reply v p e =
    let h : OfEach Uses of_uses w v = subst (Comes (OfEach Uses of_uses) (OfEach Uses of_uses) w) e (grant-each Uses of_uses w host count) in
    λ n. unheard n (Acts (OnHost host (Grant count))) reply (writer_at w n) (writer_at v n) refl (h n)
part-moves w part reply v p e =
    let h : OfEach Uses of_uses w v = subst (Comes (OfEach Uses of_uses) (OfEach Uses of_uses) w) e (part-each Uses of_uses w part p refl) in
    λ n. unheard n part reply (writer_at w n) (writer_at v n) (unfed n (writer_at w n).spoken part reply refl) (h n)

pub moment-moves : (w : World) (m : HostMoment) → Follows w m → (n : ℕ) → Moves n m.part m.reply (writer_at w n) (writer_at m.after n)
moment-moves w m f n =
    subst (λ v. Moves n m.part m.reply (writer_at v n) (writer_at m.after n)) f.begins (part-moves m.before m.part m.reply m.after f.part f.goes n)

pub heard_both : {A : Type 0} (x : Option (List A)) (f g : List A) → option_map (λ xs. xs ++ g) (option_map (λ xs. xs ++ f) x) ≡ option_map (λ xs. xs ++ (f ++ g)) x
heard_both None f g = refl
heard_both (Some xs) f g = ap Some (append_assoc xs f g)

chain-goes_on : (n : ℕ) (w : World) (all : List HostMoment) → Chain w all → WriterGoesOn n all (writer_at w n) (writer_at (end_world w all) n)
chain-goes_on n w [] c = record { records = refl; spoken = omega arith; heard = heard_none (writer_at w n).heard; kind = refl; payload = refl }
chain-goes_on n w (m ∷ more) c =
    let h = moment-moves w m c.0 n in
    let rest = chain-goes_on n m.after more c.1 in
    let a = writer_at w n in
    let last = writer_at (end_world m.after more) n in
    let same : writer_at m.before n ≡ a = ap (λ v. writer_at v n) c.0.begins in
    let used_here : used_in n m ≡ h.said = ap (λ (x : Writer). used_records x.coming (writer_at m.after n).coming) same ∙ used_are a.coming (writer_at m.after n).coming h.said h.records in
    let fed_here : fed_in n (writer_at m.before n).spoken m.part m.reply ≡ fed_in n a.spoken m.part m.reply = ap (λ (x : Writer). fed_in n x.spoken m.part m.reply) same in
    let l = length-append (used_in n m) (all_used n more) in
    let k = ap length used_here in
    record {
      records =
          h.records
          ∙ ap (λ xs. h.said ++ xs) rest.records
          ∙ sym (append_assoc h.said (all_used n more) last.coming)
          ∙ ap (λ xs. (xs ++ all_used n more) ++ last.coming) (sym used_here);
      spoken = omega (arith, l, k, h.spoken, rest.spoken);
      heard =
          rest.heard
          ∙ ap (option_map (λ xs. xs ++ all_fed n more)) h.heard
          ∙ heard_both a.heard (fed_in n a.spoken m.part m.reply) (all_fed n more)
          ∙ ap (λ f. option_map (λ xs. xs ++ (f ++ all_fed n more)) a.heard) (sym fed_here);
      kind = rest.kind ∙ h.kind;
      payload = rest.payload ∙ h.payload;
    }

pub run-goes_on : (first : World) (run : List Step) (count n : ℕ) → WriterGoesOn n (first_moments count first run) (writer_at first n) (writer_at (end_world first (first_moments count first run)) n)
run-goes_on first run count n = chain-goes_on n first (first_moments count first run) (first-chain count first run)
