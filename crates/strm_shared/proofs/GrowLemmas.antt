-- Whatever a call answers, the history that its seat has seen goes on.
use Rattle.std.proofs.Common.{◌≡◌, ℕ, true, List, [], ◌∷◌, ⊎_elim, refl, sym, ◌∙◌, subst}
use Rattle.std.specs.Prelude.{IfOk, IfErr, Result, Ok, Err}
use mathlib.Core.List.{IsPrefix}
use Rattle.strm_codes.specs.declared.codes.ReturnCode.TheVariants as codes
use Rattle.strm_machine.specs.declared.replies.Reply.{Reply}
use Rattle.strm_machine.specs.declared.replies.Reply.TheVariants as replies
use Rattle.strm_machine.specs.declared.steps.Step.{Step}
use Rattle.strm_shared.specs.declared.entry.Entry.{Entry}
use Rattle.strm_shared.specs.declared.entry.Place.{Place}
use Rattle.strm_shared.specs.declared.errors.SharedError.{SharedError}
use Rattle.strm_shared.specs.declared.errors.SharedError.TheVariants.{HostStep, InSet, Waiting, Worn, NoSeat, OutOfMemory}
use Rattle.strm_shared.specs.Histories.{entry}
use Rattle.strm_shared.specs.Tokens.{Token, IsOneHistory, Continues, AddsEntry, Idles, HistoryStays, Later, Called, Begun}
use Rattle.strm_shared.specs.Causes.{Failed, NotBegun, GivesUp, Waited, Synced, NotSynced, MovesBy, FailsToMoveBy}
use Rattle.strm_shared.proofs.FrontLemmas.{front_self, front_trans}

-- what was seen is a front of what is, and the seats that ended in it are the same
pub record Grows (old new : Token) : Type 0 where
  pub front : IsPrefix old.seen new.seen
  pub ended : new.ended ≡ old.ended

grows_on : (old mid new : Token) → Grows old mid → Grows mid new → Grows old new
grows_on old mid new f g = record { front = front_trans old.seen mid.seen new.seen f.front g.front; ended = g.ended ∙ f.ended }

adds_grows : (before : List Entry) (old : Token) (e : Entry) (new : Token) → AddsEntry before old e new → Grows old new
adds_grows before old e new a = record { front = front_trans old.seen before new.seen a.grew (e ∷ [], sym a.ends); ended = a.over.0 }

idles_grows : (old new : Token) → Idles old new → Grows old new
idles_grows old new i = record { front = i.grew; ended = i.over.0 }

stays_grows : (old new : Token) → HistoryStays old new → Grows old new
stays_grows old new s = record { front = subst (IsPrefix old.seen) (sym s.0) (front_self old.seen); ended = s.6 }

later_grows : (old new : Token) → Later old new → Grows old new
later_grows old new l = record { front = l.grew; ended = l.ended }

failed_grows : (old : Token) (step : Step) (e : SharedError) (new : Token) → Failed old step e new → Grows old new
failed_grows old step HostStep new f = subst (Grows old) (sym f.1) (record { front = front_self old.seen; ended = refl })
failed_grows old step InSet new f = absurd f
failed_grows old step (Waiting seat) new f = idles_grows old new f.0
failed_grows old step (Worn ticket) new f = stays_grows old new f.1
failed_grows old step (NoSeat seats) new f = absurd f
failed_grows old step OutOfMemory new f = idles_grows old new f.0

not_begun_grows : (old : Token) (there : Place) (e : SharedError) (new : Token) → NotBegun old there e new → Grows old new
not_begun_grows old there HostStep new f = absurd f
not_begun_grows old there InSet new f = idles_grows old new f.0
not_begun_grows old there (Waiting seat) new f = absurd f
not_begun_grows old there (Worn ticket) new f = stays_grows old new f.1
not_begun_grows old there (NoSeat seats) new f = absurd f
not_begun_grows old there OutOfMemory new f = idles_grows old new f.0

gives_up_grows : (old : Token) (e : SharedError) (new : Token) → GivesUp old e new → Grows old new
gives_up_grows old HostStep new f = absurd f
gives_up_grows old InSet new f = absurd f
gives_up_grows old (Waiting seat) new f = absurd f
gives_up_grows old (Worn ticket) new f = record { front = f.2; ended = f.5 }
gives_up_grows old (NoSeat seats) new f = absurd f
gives_up_grows old OutOfMemory new f = absurd f

synced_grows : (old : Token) (step : Step) (there : Place) (reply : Reply) (new : Token) → Synced old step there reply new → Grows old new
synced_grows old step there reply new f =
    ⊎_elim (λ (b : Begun old there (entry old.number step reply) new). adds_grows b.0.0 old _ new b.0.1)
    (λ (w : Waited old step there reply new).
    grows_on old w.0 new (adds_grows w.2.0.0 old _ w.0 w.2.0.1) (adds_grows w.3.0.0 w.0 _ new w.3.0.1))
    f.1

not_synced_grows : (old : Token) (step : Step) (there : Place) (e : SharedError) (new : Token) → NotSynced old step there e new → Grows old new
not_synced_grows old step there e new f =
    ⊎_elim (λ (b : NotBegun old there e new). not_begun_grows old there e new b)
    (λ (w : (middle : Token) × Begun old there (entry old.number step (replies.Code codes.Blocked)) middle × GivesUp middle e new).
    grows_on old w.0 new (adds_grows w.1.0.0 old _ w.0 w.1.0.1) (gives_up_grows w.0 e new w.2))
    f

either : (G : Type 0) (P : Reply → Type 0) (Q : SharedError → Type 0) (r : Result Reply SharedError) → ((x : Reply) → P x → G) → ((e : SharedError) → Q e → G) → IfOk r P → IfErr r Q → G
either G P Q (Ok x) f g p q = f x p
either G P Q (Err e) f g p q = g e q

pub continues_by : (old new : Token) → Grows old new → IsOneHistory new → Continues old new
continues_by old new g one = (g.front, g.ended, one)

pub call_grows : (old : Token) (step : Step) (new : Token) (number : ℕ) (r : Result Reply SharedError) → IfOk r (λ reply. Called old (entry number step reply) new) → IfErr r (λ e. Failed old step e new) → Grows old new
call_grows old step new number r o e =
    either (Grows old new) (λ reply. Called old (entry number step reply) new) (λ x. Failed old step x new) r
    (λ reply c. adds_grows c.0.0 old _ new c.0.1) (λ x f. failed_grows old step x new f) o e

pub sync_grows : (old : Token) (step : Step) (there : Place) (new : Token) (r : Result Reply SharedError) → IfOk r (λ reply. Synced old step there reply new) → IfErr r (λ e. NotSynced old step there e new) → Grows old new
sync_grows old step there new r o e =
    either (Grows old new) (λ reply. Synced old step there reply new) (λ x. NotSynced old step there x new) r
    (λ reply s. synced_grows old step there reply new s) (λ x f. not_synced_grows old step there x new f) o e

pub move_grows : (old : Token) (step : Step) (new : Token) (r : Result Reply SharedError) → IfOk r (λ reply. MovesBy true old step reply new) → IfErr r (λ e. FailsToMoveBy true old step e new) → Grows old new
move_grows old step new r o e =
    either (Grows old new) (λ reply. MovesBy true old step reply new) (λ x. FailsToMoveBy true old step x new) r
    (λ reply m. grows_on old m.1.0 new (later_grows old m.1.0 m.1.1) (adds_grows m.1.2.0.0 m.1.0 _ new m.1.2.0.1))
    (λ x f. grows_on old f.0 new (later_grows old f.0 f.1) (failed_grows f.0 step x new f.2))
    o e
