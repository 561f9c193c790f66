-- A step that moves an end.
use Rattle.std.proofs.Common.{◌≡◌, ◌≢◌, ℕ, true, false, List, Option, Some, refl, sym, ap, ◌∙◌, subst}
use Rattle.std.specs.Prelude.{MatchOption, IfOk, Result, Ok, Err}
use Rattle.strm_shared.specs.declared.errors.SharedError.{SharedError}
use Rattle.strm_codes.specs.declared.refusals.Refusal.TheVariants as refusals
use Rattle.strm_machine.specs.Acts.{act_of}
use Rattle.strm_machine.specs.State.{State}
use Rattle.strm_machine.specs.Reactions.{Reaction, goes, reaction, react}
use Rattle.strm_machine.specs.declared.acts.NamedEnd.{NamedEnd}
use Rattle.strm_machine.specs.declared.acts.Act.{Act}
use Rattle.strm_machine.specs.declared.acts.Act.TheVariants.{Transfer}
use Rattle.strm_machine.specs.declared.replies.Reply.{Reply}
use Rattle.strm_machine.specs.declared.replies.Reply.TheVariants as replies
use Rattle.strm_machine.specs.declared.steps.Step.{Step}
use Rattle.strm_shared.specs.declared.entry.Place.{Place}
use Rattle.strm_shared.specs.declared.entry.Wait.{Wait}
use Rattle.strm_shared.specs.Places.{place_named, named_in, is_move, is_move_act, is_host_act, is_refused_busy}
use Rattle.strm_shared.specs.Waits.{IsClear}
use Rattle.strm_shared.proofs.ReachedLemmas.{move-refused}
use Rattle.strm_shared.proofs.WaitLemmas.{each_all}

-- the one act that moves an end
moving_is : (act : Act) (P : Act → Type 0) → is_move_act act ≡ true → ((end : NamedEnd) (to : ℕ) → P (Transfer end to)) → P act
moving_is (Transfer end to) P e f = f end to
moving_is _ P e f = cc

busy_is : (r : Reply) → is_refused_busy r ≡ true → r ≡ replies.Refused refusals.Busy
busy_is (replies.Refused refusals.Busy) e = refl
busy_is _ e = cc

-- where it is refused since the end is busy, nothing has changed
pub move-busy : (state : State) (act : Act) → is_move_act act ≡ true → is_refused_busy (reaction state act).reply ≡ true → (reaction state act).state ≡ state
move-busy state act m = moving_is act (λ a. is_refused_busy (reaction state a).reply ≡ true → (reaction state a).state ≡ state) m
    (λ end to b. move-refused state end to refusals.Busy (busy_is (reaction state (Transfer end to)).reply b))

-- a step that moves an end names no host end, and no handle for which one may wait
pub move-guests : (act : Act) → is_move_act act ≡ true → is_host_act act ≡ false
move-guests act m = moving_is act (λ a. is_host_act a ≡ false) m (λ end to. refl)

pub move-unnamed : (act : Act) → is_move_act act ≡ true → (p : Place) → named_in act ≢ Some p
move-unnamed act m = moving_is act (λ a. (p : Place) → named_in a ≢ Some p) m (λ end to p e. cc)

pub clear_moved : (st : Step) (ws : List Wait) → is_move st ≡ true → IsClear st ws
clear_moved st ws m = each_all (λ w. place_named st ≢ Some w.place) ws (λ w. move-unnamed (act_of st) m w.place)

pub moved_same : (store new : State) (st : Step) (r : Reply) → react store st ≡ goes r new → is_move st ≡ true → is_refused_busy r ≡ true → new ≡ store
moved_same store new st r made m b = sym (ap (λ (x : Reaction). x.state) made) ∙ move-busy store (act_of st) m (ap (λ (x : Reaction). is_refused_busy x.reply) made ∙ b)

pub match_some : (P : Type 0) (Q : Reply → Type 0) (o : Option Reply) (x : Reply) → o ≡ Some x → MatchOption o P Q → Q x
match_some P Q o x e m = subst (λ k. MatchOption k P Q) e m

pub ok_second : (P Q : Reply → Type 0) (r : Result Reply SharedError) → IfOk r (λ x. P x × Q x) → IfOk r Q
ok_second P Q (Ok x) h = h.1
ok_second P Q (Err e) h = tt
