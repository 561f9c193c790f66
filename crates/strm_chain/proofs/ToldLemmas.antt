-- What a guest was told last, step by step, and what a turn adds to it.
use Rattle.std.proofs.Common.{◌≡◌, ◌≢◌, ℕ, suc, ◌+◌, Bool, List, [], ◌∷◌, ◌++◌, length, Option, Some, None, refl, sym, ap, ◌∙◌, arith}
use Rattle.std.specs.Option.{option_or}
use Rattle.std.proofs.lemmas.Bool.{ne_eqb, eq-eqb}
use Rattle.std.proofs.lemmas.List.{length_push}
use Rattle.strm_codes.specs.declared.codes.ReturnCode.{ReturnCode}
use Rattle.strm_codes.specs.declared.codes.ReturnCode.TheVariants as codes
use Rattle.strm_events.specs.Reports.{is_dropped}
use Rattle.strm_machine.specs.State.{State}
use Rattle.strm_laws.specs.Starts.{run_start}
use Rattle.strm_machine.specs.Reactions.{react}
use Rattle.strm_machine.specs.Moments.{code_told, as_report}
use Rattle.strm_machine.specs.declared.steps.Step.{Step}
use Rattle.strm_machine.specs.declared.replies.Reply.{Reply}
use Rattle.strm_machine.specs.declared.replies.Reply.TheVariants as replies
use Rattle.strm_laws.specs.Conservation.{moments, replies_of}
use Rattle.strm_laws.proofs.Replies.{play-ends}
use Rattle.strm_chain.specs.declared.workers.Worker.{Worker}
use Rattle.strm_chain.specs.declared.workers.ChainTurn.{ChainTurn}
use Rattle.strm_chain.specs.Playing.{ChainPlay, IsChainPlayed, Adds}
use Rattle.strm_chain.specs.Reporting.{report_if, report_to, last_report, tells_end, is_told}
use Rattle.strm_chain.specs.Turned.{Turned, Rests, Waits, ReadOpens, ReadServes, ReadSettles, WriteOpens, WriteServes, WriteSettles, Ends}
use Rattle.strm_chain.proofs.PlayingLemmas.{follows_plays}
use Rattle.strm_chain.proofs.OwnLemmas.{reported}
use Rattle.strm_chain.proofs.TurnedLemmas.{unblocked, no_handle}

-- ## Step by step

-- the last report behind one step more
last_report-push : (g : ℕ) (earlier : Option ReturnCode) (steps : List Step) (told : List Reply) (step : Step) (reply : Reply) → length steps ≡ length told → last_report g earlier (steps ++ step ∷ []) (told ++ reply ∷ []) ≡ option_or (report_to g step reply) (last_report g earlier steps told)
unfolding last_report
last_report-push g earlier [] [] step reply e = refl
last_report-push g earlier [] (r ∷ told) step reply e = absurd (omega (arith, e))
last_report-push g earlier (s ∷ steps) [] step reply e = absurd (omega (arith, e))
last_report-push g earlier (s ∷ steps) (r ∷ told) step reply e =
    last_report-push g (option_or (report_to g s r) earlier) steps told step reply (omega (arith, e))

-- as many replies as steps
abbrev pub AreEven : ChainPlay → Type 0
AreEven play = length play.steps ≡ length play.replies

many_replies : (state : State) (steps : List Step) → length (replies_of (moments state steps)) ≡ length steps
many_replies state [] = refl
many_replies state (step ∷ more) = ap suc (many_replies (react state step).state more)

pub even_of : (p : ChainPlay) → IsChainPlayed p → AreEven p
even_of p f =
    sym (many_replies run_start p.steps)
    ∙ ap length (sym (play-ends [] run_start p.steps p.replies p.state (follows_plays p.steps p.replies p.state f)).1)

pub even_adds : (p q : ChainPlay) (step : Step) (reply : Reply) → Adds p q step reply → AreEven p → AreEven q
even_adds p q step reply a e =
    ap length a.steps_are ∙ length_push p.steps step ∙ ap (λ n. n + 1) e
    ∙ sym (ap length a.replies_are ∙ length_push p.replies reply)

-- what guest g was told last
abbrev last_of : ℕ → ChainPlay → Option ReturnCode
last_of g p = last_report g None p.steps p.replies

pub last-adds : (g : ℕ) (p q : ChainPlay) (step : Step) (reply : Reply) → Adds p q step reply → AreEven p → last_report g None q.steps q.replies ≡ option_or (report_to g step reply) (last_report g None p.steps p.replies)
last-adds g p q step reply a e =
    ap (λ xs. last_report g None xs q.replies) a.steps_are
    ∙ ap (last_report g None (p.steps ++ step ∷ [])) a.replies_are
    ∙ last_report-push g None p.steps p.replies step reply e

-- whether guest g was told that there is no more
abbrev told_to : ℕ → ChainPlay → Bool
told_to g p = is_told g p.steps p.replies

unheard : (g : ℕ) (p q : ChainPlay) (step : Step) (reply : Reply) → Adds p q step reply → AreEven p → report_to g step reply ≡ None → told_to g q ≡ told_to g p
unheard g p q step reply a e r = ap tells_end (last-adds g p q step reply a e ∙ ap (λ o. option_or o (last_of g p)) r)

heard : (g : ℕ) (p q : ChainPlay) (step : Step) (reply : Reply) (code : ReturnCode) → Adds p q step reply → AreEven p → report_to g step reply ≡ Some code → told_to g q ≡ is_dropped code
heard g p q step reply code a e r = ap tells_end (last-adds g p q step reply a e ∙ ap (λ o. option_or o (last_of g p)) r)

other_guest : (k g : ℕ) (reply : Reply) → g ≢ k → report_if k g reply ≡ None
other_guest k g reply ne = rw (ne_eqb g k ne) refl

own_guest : (g : ℕ) (reply : Reply) → report_if g g reply ≡ as_report (code_told reply)
own_guest g reply = rw (eq-eqb g g refl) refl

-- ## Turn by turn

-- the turn of another guest tells this one nothing
module _ (k g chunk : ℕ) (w w' : Worker) (p q : ChainPlay) (turn : ChainTurn) (e : AreEven p) (ne : g ≢ k) where
  pub turned_other : Turned g chunk w p turn w' q → told_to k q ≡ told_to k p
  turned_other (Rests t d is same) = ap (told_to k) same
  turned_other (Waits t is x) = unheard k p q _ _ x.hears e (other_guest k g (replies.Event None) ne)
  turned_other (ReadOpens t x is) = unheard k p q _ _ x.adds e (other_guest k g (replies.Code codes.Blocked) ne)
  turned_other (ReadServes mid code t x y) = unheard k mid q _ _ y.dumps (even_adds p mid _ _ x.adds e) refl ∙ unheard k p mid _ _ x.adds e (other_guest k g (replies.Code code) ne)
  turned_other (ReadSettles mid code t x y) = unheard k mid q _ _ y.dumps (even_adds p mid _ _ x.adds e) refl ∙ unheard k p mid _ _ x.adds e (other_guest k g (replies.Event (Some code)) ne)
  turned_other (WriteOpens t x is) = unheard k x.mid q _ _ x.adds (even_adds p x.mid _ _ x.pokes.adds e) (other_guest k g (replies.Code codes.Blocked) ne) ∙ unheard k p x.mid _ _ x.pokes.adds e refl
  turned_other (WriteServes code t x h) = unheard k x.mid q _ _ x.adds (even_adds p x.mid _ _ x.pokes.adds e) (other_guest k g (replies.Code code) ne) ∙ unheard k p x.mid _ _ x.pokes.adds e refl
  turned_other (WriteSettles code t x h) = unheard k p q _ _ x.adds e (other_guest k g (replies.Event (Some code)) ne)
  turned_other (Ends t x) = unheard k p q _ _ x.adds e refl

-- a guest that writes nothing knows what it was told
abbrev closed_in : Worker → Bool
closed_in w = w.closed

module _ (g chunk : ℕ) (w w' : Worker) (p q : ChainPlay) (turn : ChainTurn) (e : AreEven p) (none : w.write ≡ None) (knows : told_to g p ≡ w.closed) where
  pub turned_own : Turned g chunk w p turn w' q → told_to g q ≡ w'.closed
  turned_own (Rests t d is same) = ap (told_to g) same ∙ knows ∙ ap closed_in (sym is)
  turned_own (Waits t is x) = unheard g p q _ _ x.hears e (own_guest g (replies.Event None)) ∙ knows ∙ ap closed_in (sym is)
  turned_own (ReadOpens t x is) = unheard g p q _ _ x.adds e (own_guest g (replies.Code codes.Blocked)) ∙ knows ∙ sym (ap closed_in is)
  turned_own (ReadServes mid code t x y) =
      unheard g mid q _ _ y.dumps (even_adds p mid _ _ x.adds e) refl
      ∙ heard g p mid _ _ code x.adds e (own_guest g (replies.Code code) ∙ reported code (unblocked code y.ends)) ∙ sym (ap closed_in y.is)
  turned_own (ReadSettles mid code t x y) =
      unheard g mid q _ _ y.dumps (even_adds p mid _ _ x.adds e) refl
      ∙ heard g p mid _ _ code x.adds e (own_guest g (replies.Event (Some code)) ∙ reported code (unblocked code y.ends)) ∙ sym (ap closed_in y.is)
  turned_own (WriteOpens t x is) = absurd (no_handle w.write x.handle none x.has)
  turned_own (WriteServes code t x h) = absurd (no_handle w.write x.handle none x.has)
  turned_own (WriteSettles code t x h) = absurd (no_handle w.write x.handle none x.has)
  turned_own (Ends t x) = absurd (no_handle w.write x.handle none x.has)
