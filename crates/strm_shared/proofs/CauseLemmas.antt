-- When HostStep and Worn come, by what else each call says.
use Rattle.std.proofs.Common.{◌≡◌, ℕ, ◌<◌, true, false, ⊎_elim, Some, refl, ap, arith}
use Rattle.std.specs.Prelude.{IfOk, IfErr, Result, Ok, Err}
use Rattle.strm_codes.specs.declared.codes.ReturnCode.TheVariants as codes
use Rattle.strm_machine.specs.Acts.{act_of}
use Rattle.strm_machine.specs.declared.acts.Act.{Act}
use Rattle.strm_machine.specs.declared.acts.Act.TheVariants.{OnEnd}
use Rattle.strm_machine.specs.declared.acts.EndAct.TheVariants.{Operate}
use Rattle.strm_machine.specs.declared.replies.Reply.{Reply}
use Rattle.strm_machine.specs.declared.replies.Reply.TheVariants as replies
use Rattle.strm_machine.specs.declared.steps.Step.{Step}
use Rattle.strm_shared.specs.declared.entry.Place.{Place}
use Rattle.strm_shared.specs.declared.errors.SharedError.{SharedError}
use Rattle.strm_shared.specs.declared.errors.SharedError.TheVariants.{HostStep, InSet, Waiting, Worn, NoSeat, OutOfMemory}
use Rattle.strm_shared.specs.Histories.{entry}
use Rattle.strm_shared.specs.Places.{operated, operated_in, is_host_step, is_host_act, is_move}
use Rattle.strm_shared.specs.Tokens.{Token, last_number, Called, Begun}
use Rattle.strm_shared.specs.Causes.{IsHostStep, IsWorn, Failed, NotBegun, GivesUp, Waited, Synced, NotSynced, MovesBy, FailsToMoveBy}
use Rattle.strm_shared.proofs.MoveLemmas.{move-guests}
use Rattle.strm_shared.proofs.StayLemmas.{not_both}

-- what an error says of the ticket word
abbrev pub Tops : Token → SharedError → Type 0
Tops new HostStep = ⊥
Tops new InSet = new.top_ticket < last_number
Tops new (Waiting seat) = new.top_ticket < last_number
Tops new (Worn ticket) = (ticket ≡ last_number) × (new.top_ticket ≡ last_number)
Tops new (NoSeat seats) = new.top_ticket < last_number
Tops new OutOfMemory = new.top_ticket < last_number

below : (n : ℕ) → n < last_number → n ≡ last_number → ⊥
below n h e = omega (arith, h, e)

-- ## What each cause says of the ticket word

failed_tops : (old : Token) (step : Step) (e : SharedError) (new : Token) → is_host_step step ≡ false → Failed old step e new → Tops new e
failed_tops old step HostStep new g f = not_both (is_host_step step) f.0 g
failed_tops old step InSet new g f = absurd f
failed_tops old step (Waiting seat) new g f = f.0.top
failed_tops old step (Worn ticket) new g f = (f.0, f.1.7)
failed_tops old step (NoSeat seats) new g f = absurd f
failed_tops old step OutOfMemory new g f = f.0.top

not_begun_tops : (old : Token) (there : Place) (e : SharedError) (new : Token) → NotBegun old there e new → Tops new e
not_begun_tops old there HostStep new f = absurd f
not_begun_tops old there InSet new f = f.0.top
not_begun_tops old there (Waiting seat) new f = absurd f
not_begun_tops old there (Worn ticket) new f = (f.0, f.1.7)
not_begun_tops old there (NoSeat seats) new f = absurd f
not_begun_tops old there OutOfMemory new f = f.0.top

gives_up_tops : (old : Token) (e : SharedError) (new : Token) → GivesUp old e new → Tops new e
gives_up_tops old HostStep new f = absurd f
gives_up_tops old InSet new f = absurd f
gives_up_tops old (Waiting seat) new f = absurd f
gives_up_tops old (Worn ticket) new f = (f.0, f.1)
gives_up_tops old (NoSeat seats) new f = absurd f
gives_up_tops old OutOfMemory new f = absurd f

not_synced_tops : (old : Token) (step : Step) (there : Place) (e : SharedError) (new : Token) → NotSynced old step there e new → Tops new e
not_synced_tops old step there e new f =
    ⊎_elim (λ (b : NotBegun old there e new). not_begun_tops old there e new b)
    (λ (w : (middle : Token) × Begun old there (entry old.number step (replies.Code codes.Blocked)) middle × GivesUp middle e new). gives_up_tops w.0 e new w.2)
    f

synced_top : (old : Token) (step : Step) (there : Place) (reply : Reply) (new : Token) → Synced old step there reply new → new.top_ticket < last_number
synced_top old step there reply new f =
    ⊎_elim (λ (b : Begun old there (entry old.number step reply) new). b.0.1.top)
    (λ (w : Waited old step there reply new). w.3.0.1.top)
    f.1

-- ## The two causes

-- HostStep doesn't come where the step names no host end
none_host : (step : Step) (new : Token) (r : Result Reply SharedError) → is_host_step step ≡ false → IfErr r (Tops new) → IsHostStep step r
none_host step new (Ok reply) g e = ((λ h. absurd (not_both (is_host_step step) h g)), λ h. absurd cc)
none_host step new (Err HostStep) g e = absurd e
none_host step new (Err InSet) g e = ((λ h. absurd (not_both (is_host_step step) h g)), λ h. absurd cc)
none_host step new (Err (Waiting seat)) g e = ((λ h. absurd (not_both (is_host_step step) h g)), λ h. absurd cc)
none_host step new (Err (Worn ticket)) g e = ((λ h. absurd (not_both (is_host_step step) h g)), λ h. absurd cc)
none_host step new (Err (NoSeat seats)) g e = ((λ h. absurd (not_both (is_host_step step) h g)), λ h. absurd cc)
none_host step new (Err OutOfMemory) g e = ((λ h. absurd (not_both (is_host_step step) h g)), λ h. absurd cc)

-- and then Worn comes as the ticket word says
none_worn : (step : Step) (new : Token) (r : Result Reply SharedError) → is_host_step step ≡ false → IfOk r (λ reply. new.top_ticket < last_number) → IfErr r (Tops new) → IsWorn step new r
none_worn step new (Ok reply) g o e = ((λ h. absurd (below new.top_ticket o h.1)), λ h. absurd cc)
none_worn step new (Err HostStep) g o e = absurd e
none_worn step new (Err InSet) g o e = ((λ h. absurd (below new.top_ticket e h.1)), λ h. absurd cc)
none_worn step new (Err (Waiting seat)) g o e = ((λ h. absurd (below new.top_ticket e h.1)), λ h. absurd cc)
none_worn step new (Err (Worn ticket)) g o e = ((λ h. ap (λ t. Err (Worn t)) e.0), λ h. (g, e.1))
none_worn step new (Err (NoSeat seats)) g o e = ((λ h. absurd (below new.top_ticket e h.1)), λ h. absurd cc)
none_worn step new (Err OutOfMemory) g o e = ((λ h. absurd (below new.top_ticket e h.1)), λ h. absurd cc)

-- a step that names a host end is answered HostStep, and not Worn
pub host_worn : (step : Step) (new : Token) → is_host_step step ≡ true → IsWorn step new (Err HostStep)
host_worn step new h = ((λ w. absurd (not_both (is_host_step step) h w.0)), λ e. absurd cc)

map_err : (P Q : SharedError → Type 0) (r : Result Reply SharedError) → ((e : SharedError) → P e → Q e) → IfErr r P → IfErr r Q
map_err P Q (Ok reply) f h = tt
map_err P Q (Err e) f h = f e h

map_ok : (P : Reply → Type 0) (Q : Type 0) (r : Result Reply SharedError) → ((x : Reply) → P x → Q) → IfOk r P → IfOk r (λ x. Q)
map_ok P Q (Ok reply) f h = f reply h
map_ok P Q (Err e) f h = tt

-- ## Of each call

pub call_worn : (old : Token) (step : Step) (new : Token) (number : ℕ) (r : Result Reply SharedError) → is_host_step step ≡ false → IfOk r (λ reply. Called old (entry number step reply) new) → IfErr r (λ e. Failed old step e new) → IsWorn step new r
call_worn old step new number r g o e =
    none_worn step new r g
    (map_ok (λ reply. Called old (entry number step reply) new) (new.top_ticket < last_number) r (λ reply c. c.0.1.top) o)
    (map_err (λ x. Failed old step x new) (Tops new) r (λ x f. failed_tops old step x new g f) e)

-- a read or write names no host end
pub operated_guests : (step : Step) (there : Place) → operated step ≡ Some there → is_host_step step ≡ false
operated_guests step there = by (act_of step)
  where
    by : (act : Act) → operated_in act ≡ Some there → is_host_act act ≡ false
    by (OnEnd side end (Operate address count)) e = refl
    by _ e = cc

pub sync_host : (old : Token) (step : Step) (there : Place) (new : Token) (r : Result Reply SharedError) → operated step ≡ Some there → IfErr r (λ e. NotSynced old step there e new) → IsHostStep step r
sync_host old step there new r is e =
    none_host step new r (operated_guests step there is)
    (map_err (λ x. NotSynced old step there x new) (Tops new) r (λ x f. not_synced_tops old step there x new f) e)

pub sync_worn : (old : Token) (step : Step) (there : Place) (new : Token) (r : Result Reply SharedError) → operated step ≡ Some there → IfOk r (λ reply. Synced old step there reply new) → IfErr r (λ e. NotSynced old step there e new) → IsWorn step new r
sync_worn old step there new r is o e =
    none_worn step new r (operated_guests step there is)
    (map_ok (λ reply. Synced old step there reply new) (new.top_ticket < last_number) r (λ reply c. synced_top old step there reply new c) o)
    (map_err (λ x. NotSynced old step there x new) (Tops new) r (λ x f. not_synced_tops old step there x new f) e)

pub move_host : (old : Token) (step : Step) (new : Token) (r : Result Reply SharedError) → is_move step ≡ true → IfErr r (λ e. FailsToMoveBy true old step e new) → IsHostStep step r
move_host old step new r is e =
    let g = move-guests (act_of step) is in
    none_host step new r g
    (map_err (λ x. FailsToMoveBy true old step x new) (Tops new) r (λ x f. failed_tops f.0 step x new g f.2) e)

pub move_worn : (old : Token) (step : Step) (new : Token) (r : Result Reply SharedError) → is_move step ≡ true → IfOk r (λ reply. MovesBy true old step reply new) → IfErr r (λ e. FailsToMoveBy true old step e new) → IsWorn step new r
move_worn old step new r is o e =
    let g = move-guests (act_of step) is in
    none_worn step new r g
    (map_ok (λ reply. MovesBy true old step reply new) (new.top_ticket < last_number) r (λ reply c. c.1.2.0.1.top) o)
    (map_err (λ x. FailsToMoveBy true old step x new) (Tops new) r (λ x f. failed_tops f.0 step x new g f.2) e)
