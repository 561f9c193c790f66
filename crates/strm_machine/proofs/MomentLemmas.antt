-- What one moment is seen to do to one stream.
use Rattle.std.proofs.Common.{◌≡◌, ℕ, ◌+◌, ◌^◌, ◌≤◌, Bool, true, false, cond, Option, None, refl, sym, ap, ◌∙◌, subst, arith, []}
use Rattle.std.specs.Prelude.{All, IsSome}
use Rattle.std.proofs.lemmas.Bool.{cond-false}
use Rattle.strm_machine.specs.Words.{ReturnCode, stream_at, Side, Act, Reply, Moment, as_report, report_in, accepted, accepted_in, received, got_in, both_open}
use Rattle.strm_machine.specs.declared.replies.Reply.TheVariants as replies
use Rattle.strm_machine.specs.Moments.{is_named, code_told, target}
use Rattle.strm_machine.proofs.Changes.{scene, Change}
use Rattle.strm_machine.proofs.EndLemmas.{Stays, stays_same}
use Rattle.strm_machine.proofs.TallyLemmas.{Tallies}
use Rattle.strm_machine.proofs.TurnChangeLemmas.{still, none_got, none_whole}

-- what is known of one moment on one stream
pub record Seen (s : ℕ) (m : Moment) : Type 0 where
  pub change : (side : Side) → Change side (scene s side m)
  pub whole : All IsSome (got_in s m)
  pub most : received s m.after ≤ received s m.before + 2 ^ 28
  pub apart : both_open (stream_at m.after s) ≡ false
  pub tallies : Tallies (stream_at m.after s)

-- nothing is told to this end of stream s, and no call is taken there
pub record Untold (s : ℕ) (side : Side) (m : Moment) : Type 0 where
  pub reports : report_in s side m ≡ None
  pub takes : accepted_in s side m (report_in s side m) ≡ []

pub unnamed : (s : ℕ) (side : Side) (m : Moment) → is_named s side m ≡ false → Untold s side m
unnamed s side m e = record {
  reports = cond-false (is_named s side m) (as_report (code_told m.reply)) None e;
  takes = cond-false (is_named s side m) (accepted m.act m.reply (report_in s side m)) [] e;
}

both_same : {A : Type 0} (b : Bool) (x y : A) → x ≡ y → cond b x y ≡ y
both_same true x y e = e
both_same false x y e = refl

-- no call is accepted where no code is told
untaken : (act : Act) (reply : Reply) (r : Option ReturnCode) → code_told reply ≡ None → accepted act reply r ≡ []
untaken act replies.Done r e = refl
untaken act (replies.Number n) r e = refl
untaken act (replies.Pair pair) r e = refl
untaken act (replies.Code code) r e = cc
untaken act (replies.Event code) r e = refl
untaken act (replies.Member member) r e = refl
untaken act (replies.Bytes bytes) r e = refl
untaken act (replies.Refused refusal) r e = refl
untaken act (replies.BadItem stream) r e = refl
untaken act replies.StoreTrapped r e = refl

pub untold : (s : ℕ) (side : Side) (m : Moment) → code_told m.reply ≡ None → Untold s side m
untold s side m e = record {
  reports = both_same (is_named s side m) (as_report (code_told m.reply)) None (ap as_report e);
  takes = both_same (is_named s side m) (accepted m.act m.reply (report_in s side m)) [] (untaken m.act m.reply (report_in s side m) e);
}

-- nothing is received where the count stays
pub nothing_got : (s : ℕ) (m : Moment) → received s m.after ≡ received s m.before → (got_in s m ≡ []) × All IsSome (got_in s m)
nothing_got s m e = (
  none_got (stream_at m.before s).payload m.after.guests (target s m).guest (target s m).address (received s m.after) (received s m.before) e,
  none_whole (stream_at m.before s).payload m.after.guests (target s m).guest (target s m).address (received s m.after) (received s m.before) e,
)

-- where the count stays
pub seen_counted : (s : ℕ) (m : Moment) → ((side : Side) → Change side (scene s side m)) → received s m.after ≡ received s m.before → both_open (stream_at m.after s) ≡ false → Tallies (stream_at m.after s) → Seen s m
seen_counted s m change count apart tallies = record { change = change; whole = (nothing_got s m count).1; most = omega (arith, count); apart = apart; tallies = tallies }

-- an end that stays
pub end_still : (s : ℕ) (side : Side) (m : Moment) → Untold s side m → Stays side (stream_at m.before s) (stream_at m.after s) → Change side (scene s side m)
end_still s side m u k = still side (scene s side m) u.takes u.reports (nothing_got s m k.count).0 k.payload k.count k.operation

pub seen_same : (s : ℕ) (m : Moment) → ((side : Side) → Untold s side m) → stream_at m.after s ≡ stream_at m.before s → both_open (stream_at m.before s) ≡ false → Tallies (stream_at m.before s) → Seen s m
seen_same s m u e apart tallies =
    seen_counted s m (λ side. end_still s side m (u side) (stays_same side (stream_at m.before s) (stream_at m.after s) e)) (ap (λ st. st.received) e) (ap both_open e ∙ apart) (subst Tallies (sym e) tallies)
