-- Host readers use their records in order, and hear the grants to them.
use Rattle.std.proofs.Common.{◌≡◌, ℕ, ◌+◌, ◌<◌, true, false, cond, List, [], ◌∷◌, ◌++◌, length, get_or, set, Option, Some, None, refl, sym, ap, subst, ◌∙◌, inl, inr, arith, append_assoc, length-append}
use Rattle.std.proofs.lemmas.Bool.{cases_eq, cond_both, eq-eqb, ne_eqb, or_parts}
use Rattle.std.proofs.lemmas.List.{get_or-set_same, get_or-set_other}
use Rattle.std.specs.Prelude.{nat_le, slice_set}
use Rattle.std.specs.Option.{option_map}
use Rattle.strm_codes.specs.declared.refusals.Refusal.{Refusal}
use Rattle.strm_codes.specs.declared.refusals.Refusal.TheVariants as refusals
use Rattle.strm_buffers.specs.declared.answers.ReaderSaid.{ReaderSaid}
use Rattle.strm_buffers.specs.Listing.{Item}
use Rattle.strm_machine.specs.State.{host_limit, no_consumer}
use Rattle.strm_machine.specs.declared.acts.Act.TheVariants.{OnHost}
use Rattle.strm_machine.specs.declared.acts.HostAct.TheVariants.{Feed, Grant}
use Rattle.strm_machine.specs.declared.steps.Step.{Step}
use Rattle.strm_machine.specs.declared.streams.Duty.TheVariants.{Serves}
use Rattle.strm_machine.specs.declared.streams.Owner.{Owner}
use Rattle.strm_machine.specs.declared.streams.Owner.TheVariants.{Host, Gone}
use Rattle.strm_machine.specs.declared.streams.Stream.{Stream}
use Rattle.strm_machine.specs.declared.replies.Reply.{Reply}
use Rattle.strm_machine.specs.declared.replies.Reply.TheVariants as replies
use Rattle.strm_host_machine.specs.Ends.{Reader, no_reader, polled_reader, closed_reader, granted_reader}
use Rattle.strm_host_machine.specs.World.{World, stream_in, reader_at, with_consumer, with_reader, leaves_writer, leaves_reader, with_stream_in}
use Rattle.strm_host_machine.specs.Outcomes.{Goes}
use Rattle.strm_host_machine.specs.HostRefusals.{is_unknown_host, refusal_in}
use Rattle.strm_host_machine.specs.Attaching.{piped}
use Rattle.strm_host_machine.specs.Steps.{performs_in, unless_refused_in, outcome}
use Rattle.strm_host_laws.specs.HostMoments.{Part, Acts, HostMoment, part_on, first_moments, end_world}
use Rattle.strm_host_laws.specs.HostLaws.{used_records, used_by, all_used_by, granted_in, all_granted, ReaderGoesOn}
use Rattle.strm_host_laws.proofs.Chains.{is_part, Follows, Chain, first-chain}
use Rattle.strm_host_laws.proofs.Fed.{set-relates, used_are, heard_none, heard_both}
use Rattle.strm_host_laws.proofs.WrittenBack.{leaves_writer-readers}
use Rattle.strm_host_laws.proofs.GoingRules.{Begins, Stopping, Rules, Comes, IfGoes, is_passing}
use Rattle.strm_host_laws.proofs.Goings.{part-comes, feed-comes}
use Rattle.strm_machine.proofs.RefusalLemmas.{not_refused, not_le}

-- WHAT HOLDS OF EACH HOST READER

-- what holds of one host reader before a change and after it, where it holds of each change of one
pub record OfReaders (P : Reader → Reader → Type 0) : Type 0 where
  pub same : (a : Reader) → P a a
  pub joined : (a b c : Reader) → P a b → P b c → P a c
  pub polled : (a : Reader) (took : List Item) (said : ReaderSaid) (more : List ReaderSaid) → a.coming ≡ said ∷ more → P a (polled_reader a took more)
  pub closed : (a : Reader) → P a (closed_reader a)

module _ (P : Reader → Reader → Type 0) (of : OfReaders P) where
  -- it holds of each host reader
  abbrev pub OfEachReader : World → World → Type 0
  OfEachReader w v = (r : ℕ) → P (reader_at w r) (reader_at v r)

  pub with-each_reader : (w : World) (r : ℕ) (reader : Reader) → P (reader_at w r) reader → OfEachReader w (with_reader w r reader)
  with-each_reader w r reader h k = set-relates P w.readers r k reader no_reader of.same h

  leaves-each : (old new : Owner) (w : World) → OfEachReader w (leaves_reader old new w)
  leaves-each (Host r) Gone w = with-each_reader w r (closed_reader (reader_at w r)) (of.closed (reader_at w r))
  leaves-each (Host r) _ w = λ k. of.same (reader_at w k)
  leaves-each _ new w = λ k. of.same (reader_at w k)

  -- by the owners of a stream's ends before and then
  ends-each : (w : World) → ((old new was is : Owner) (v : World) → v.readers ≡ w.readers → OfEachReader w (leaves_writer old new (leaves_reader was is v)))
  ends-each w old new was is v e =
      λ k.
      subst (λ rs. P (reader_at w k) (get_or rs k no_reader)) (sym (leaves_writer-readers old new (leaves_reader was is v)))
      (subst (λ rs. P (get_or rs k no_reader) (reader_at (leaves_reader was is v) k)) e (leaves-each was is v k))

  stream-each : (w v : World) (s : ℕ) (stream : Stream) → v.readers ≡ w.readers → OfEachReader w (with_stream_in v s stream)
  unfolding with_stream_in
  stream-each w v s stream e =
      let old = stream_in v s in
      ends-each w old.writer.owner stream.writer.owner old.reader.owner stream.reader.owner (record v { state = record v.state { streams = slice_set v.state.streams s stream } }) e

  pub begins-each_reader : Begins OfEachReader
  begins-each_reader = record {
    stays = λ w r. of.same (reader_at w r);
    joins = λ a b c f g r. of.joined (reader_at a r) (reader_at b r) (reader_at c r) (f r) (g r);
    opens = λ w s stream e. stream-each w w s stream refl;
    says = λ w n room said more e r. of.same (reader_at w r);
    takes = λ w r took said more e. with-each_reader w r (polled_reader (reader_at w r) took more) (of.polled (reader_at w r) took said more e);
    gives = λ w n k r. of.same (reader_at w r);
    keeps = λ w n items r. of.same (reader_at w r);
  }

  pub stopping-each_reader : Stopping OfEachReader
  stopping-each_reader = record { begins = begins-each_reader; polls = λ w n room said more e r. of.same (reader_at w r) }

  pub rules-each_reader : Rules OfEachReader
  rules-each_reader = record {
    begins = begins-each_reader;
    reacts = λ w act r. of.same (reader_at w r);
    lowers = λ w guests r. of.same (reader_at w r);
    counts = λ w r answer taken k. of.same (reader_at w k);
    rests = λ w r answer taken k. of.same (reader_at w k);
    leaves = λ w s stream l. stream-each w w s stream refl;
    hosts = λ w n e r. of.same (reader_at w r);
    pipes = λ w s r e. stream-each w (with_consumer w r (record no_consumer { duty = Serves s })) s (piped (stream_in w s) r) refl;
  }

  -- it holds of each after a part but a feed or a grant
  pub part-each_reader : (w : World) (part : Part) → is_part part ≡ true → is_passing part ≡ false → Comes OfEachReader OfEachReader w (part_on w part)
  part-each_reader w part p f = part-comes OfEachReader OfEachReader rules-each_reader stopping-each_reader w part p f

  -- and after a feed
  pub feed-each_reader : (w : World) (n : ℕ) (bytes : List ℕ) → Comes OfEachReader OfEachReader w (part_on w (Acts (OnHost n (Feed bytes))))
  feed-each_reader w n bytes = feed-comes OfEachReader OfEachReader rules-each_reader stopping-each_reader w n bytes (λ e r. of.same (reader_at w r))

-- RECORDS

-- a host reader used these records, and heard nothing
pub record Uses (a b : Reader) : Type 0 where
  pub said : List ReaderSaid
  pub records : a.coming ≡ said ++ b.coming
  pub spoken : b.spoken ≡ a.spoken + length said
  pub heard : b.heard ≡ a.heard
  pub kind : b.kind ≡ a.kind
  pub payload : b.payload ≡ a.payload

uses_both : (a b c : Reader) → Uses a b → Uses b c → Uses a c
uses_both a b c u v = record {
  said = u.said ++ v.said;
  records = u.records ∙ ap (λ xs. u.said ++ xs) v.records ∙ sym (append_assoc u.said v.said c.coming);
  spoken = let l = length-append u.said v.said in omega (arith, l, u.spoken, v.spoken);
  heard = v.heard ∙ u.heard;
  kind = v.kind ∙ u.kind;
  payload = v.payload ∙ u.payload;
}

pub of_uses : OfReaders Uses
of_uses = record {
  same = λ a. record { said = []; records = refl; spoken = omega arith; heard = refl; kind = refl; payload = refl };
  joined = uses_both;
  polled = λ a took said more e. record { said = said ∷ []; records = e; spoken = omega arith; heard = refl; kind = refl; payload = refl };
  closed = λ a. record { said = []; records = refl; spoken = omega arith; heard = refl; kind = refl; payload = refl };
}

-- GRANTS

-- a host reader in one moment
record Moves (r : ℕ) (part : Part) (reply : Reply) (a b : Reader) : Type 0 where
  said : List ReaderSaid
  records : a.coming ≡ said ++ b.coming
  spoken : b.spoken ≡ a.spoken + length said
  heard : b.heard ≡ option_map (λ xs. xs ++ granted_in r a.spoken part reply) a.heard
  kind : b.kind ≡ a.kind
  payload : b.payload ≡ a.payload

-- a host reader that hears nothing
unheard : (r : ℕ) (part : Part) (reply : Reply) (a b : Reader) → granted_in r a.spoken part reply ≡ [] → Uses a b → Moves r part reply a b
unheard r part reply a b e u = record {
  said = u.said;
  records = u.records;
  spoken = u.spoken;
  heard = u.heard ∙ heard_none a.heard ∙ ap (λ f. option_map (λ xs. xs ++ f) a.heard) (sym e);
  kind = u.kind;
  payload = u.payload;
}

ungranted : (r spoken : ℕ) (part : Part) (reply : Reply) → is_passing part ≡ false → granted_in r spoken part reply ≡ []
ungranted r spoken (Acts (OnHost host (Grant count))) reply e = cc
ungranted r spoken (Acts (OnHost host (Feed bytes))) reply e = refl
ungranted r spoken _ reply e = refl

module _ (w : World) (host count : ℕ) where
  abbrev granting : Part
  granting = Acts (OnHost host (Grant count))

  abbrev granted_one : Reader
  granted_one = granted_reader (reader_at w host) count

  -- it is there where nothing refuses the grant
  host_there : refusal_in w (OnHost host (Grant count)) ≡ None → host < length w.readers
  unfolding refusal_in
  host_there e =
      let known = not_refused (is_unknown_host (length w.readers) host) refusals.UnknownHost None e in
      not_le (length w.readers) host (or_parts (nat_le (length w.readers) host) (nat_le host_limit host) known.0).0

  granted_moves : host < length w.readers → (r : ℕ) → Moves r granting replies.Done (reader_at w r) (reader_at (with_reader w host granted_one) r)
  granted_moves l r =
      elim (cases_eq r host) [
        | inl e ↦
            let is : reader_at (with_reader w host granted_one) r ≡ granted_reader (reader_at w r) count = ap (λ k. get_or (set w.readers host granted_one) k no_reader) e ∙ get_or-set_same w.readers host granted_one no_reader l ∙ ap (λ k. granted_reader (reader_at w k) count) (sym e) in
            let given : granted_in r (reader_at w r).spoken granting replies.Done ≡ ((reader_at w r).spoken, count) ∷ [] = ap (λ b. cond b (((reader_at w r).spoken, count) ∷ []) []) (eq-eqb host r (sym e)) in
            subst (Moves r granting replies.Done (reader_at w r)) (sym is)
            (record {
              said = [];
              records = refl;
              spoken = omega arith;
              heard = ap (λ f. option_map (λ xs. xs ++ f) (reader_at w r).heard) (sym given);
              kind = refl;
              payload = refl;
            })
        | inr ne ↦
            let is : reader_at (with_reader w host granted_one) r ≡ reader_at w r = get_or-set_other w.readers host r granted_one no_reader ne in
            let given : granted_in r (reader_at w r).spoken granting replies.Done ≡ [] = ap (λ b. cond b (((reader_at w r).spoken, count) ∷ []) []) (ne_eqb host r (λ e. ne (sym e))) in
            subst (Moves r granting replies.Done (reader_at w r)) (sym is)
            (unheard r granting replies.Done (reader_at w r) (reader_at w r) given (of_uses.same (reader_at w r)))
      ]

  abbrev AllMove : Reply → World → Type 0
  AllMove reply v = (r : ℕ) → Moves r granting reply (reader_at w r) (reader_at v r)

  grant_unless : (o : Option Refusal) → refusal_in w (OnHost host (Grant count)) ≡ o → IfGoes (unless_refused_in w (OnHost host (Grant count)) o) AllMove
  unfolding performs_in
  grant_unless (Some x) e = λ r. unheard r granting (replies.Refused x) (reader_at w r) (reader_at w r) refl (of_uses.same (reader_at w r))
  grant_unless None e = granted_moves (host_there e)

  grant_moves : IfGoes (part_on w granting) AllMove
  unfolding outcome
  grant_moves = cond_both w.state.trapped _ _ (λ o. IfGoes o AllMove) (λ t. tt) (λ t. grant_unless _ refl)

-- MOMENTS

part-moves : (w : World) (part : Part) (reply : Reply) (v : World) → is_part part ≡ true → part_on w part ≡ Goes reply v → (r : ℕ) → Moves r part reply (reader_at w r) (reader_at v r)
part-moves w (Acts (OnHost host (Grant count))) reply v p e =
    subst (λ o. IfGoes o (AllMove w host count)) e (grant_moves w host count)
part-moves w (Acts (OnHost n (Feed bytes))) reply v p e =
    let h : OfEachReader Uses of_uses w v = subst (Comes (OfEachReader Uses of_uses) (OfEachReader Uses of_uses) w) e (feed-each_reader Uses of_uses w n bytes) in
    λ r. unheard r (Acts (OnHost n (Feed bytes))) reply (reader_at w r) (reader_at v r) refl (h r)
part-moves w part reply v p e =
    let h : OfEachReader Uses of_uses w v = subst (Comes (OfEachReader Uses of_uses) (OfEachReader Uses of_uses) w) e (part-each_reader Uses of_uses w part p refl) in
    λ r. unheard r part reply (reader_at w r) (reader_at v r) (ungranted r (reader_at w r).spoken part reply refl) (h r)

moment-moves : (w : World) (m : HostMoment) → Follows w m → (r : ℕ) → Moves r m.part m.reply (reader_at w r) (reader_at m.after r)
moment-moves w m f r =
    subst (λ v. Moves r m.part m.reply (reader_at v r) (reader_at m.after r)) f.begins (part-moves m.before m.part m.reply m.after f.part f.goes r)

chain-goes_on : (r : ℕ) (w : World) (all : List HostMoment) → Chain w all → ReaderGoesOn r all (reader_at w r) (reader_at (end_world w all) r)
chain-goes_on r w [] c = record { records = refl; spoken = omega arith; heard = heard_none (reader_at w r).heard; kind = refl; payload = refl }
chain-goes_on r w (m ∷ more) c =
    let h = moment-moves w m c.0 r in
    let rest = chain-goes_on r m.after more c.1 in
    let a = reader_at w r in
    let last = reader_at (end_world m.after more) r in
    let same : reader_at m.before r ≡ a = ap (λ v. reader_at v r) c.0.begins in
    let used_here : used_by r m ≡ h.said = ap (λ (x : Reader). used_records x.coming (reader_at m.after r).coming) same ∙ used_are a.coming (reader_at m.after r).coming h.said h.records in
    let granted_here : granted_in r (reader_at m.before r).spoken m.part m.reply ≡ granted_in r a.spoken m.part m.reply = ap (λ (x : Reader). granted_in r x.spoken m.part m.reply) same in
    let l = length-append (used_by r m) (all_used_by r more) in
    let k = ap length used_here in
    record {
      records =
          h.records
          ∙ ap (λ xs. h.said ++ xs) rest.records
          ∙ sym (append_assoc h.said (all_used_by r more) last.coming)
          ∙ ap (λ xs. (xs ++ all_used_by r more) ++ last.coming) (sym used_here);
      spoken = omega (arith, l, k, h.spoken, rest.spoken);
      heard =
          rest.heard
          ∙ ap (option_map (λ xs. xs ++ all_granted r more)) h.heard
          ∙ heard_both a.heard (granted_in r a.spoken m.part m.reply) (all_granted r more)
          ∙ ap (λ f. option_map (λ xs. xs ++ (f ++ all_granted r more)) a.heard) (sym granted_here);
      kind = rest.kind ∙ h.kind;
      payload = rest.payload ∙ h.payload;
    }

pub run-reader_goes_on : (first : World) (run : List Step) (count r : ℕ) → ReaderGoesOn r (first_moments count first run) (reader_at first r) (reader_at (end_world first (first_moments count first run)) r)
run-reader_goes_on first run count r = chain-goes_on r first (first_moments count first run) (first-chain count first run)
