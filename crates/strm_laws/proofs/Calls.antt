-- The reads and writes of a run, their reports, and what was received in it, one moment further.
use Rattle.std.proofs.Common.{◌≡◌, ℕ, ◌+◌, Bool, true, false, List, [], ◌∷◌, ◌++◌, Option, None, Some, refl, sym, ap, ◌∙◌, cond, arith}
use Rattle.std.proofs.lemmas.List.{append-nil, append_assoc}
use Rattle.std.specs.Option.{option_or}
use Rattle.std.specs.Prelude.{is_some}
use Rattle.strm_machine.specs.Words.{ReturnCode, TransmitKind, Moment, Call, report_in, accepted, accepted_in, k_of, got_in}
use Rattle.strm_machine.specs.declared.streams.Side.{Side}
use Rattle.strm_machine.specs.declared.acts.NamedEnd.{NamedEnd}
use Rattle.strm_machine.specs.declared.acts.EndAct.TheVariants.{Operate}
use Rattle.strm_machine.specs.declared.acts.Act.{Act}
use Rattle.strm_machine.specs.declared.acts.Act.TheVariants.{OnEnd}
use Rattle.strm_machine.specs.declared.replies.Reply.{Reply}
use Rattle.strm_machine.specs.declared.acts.EndAct.{EndAct}
use Rattle.strm_machine.specs.declared.replies.Reply.TheVariants as replies
use Rattle.strm_machine.specs.Moments.{is_named, call_on, call_of}
use Rattle.strm_laws.specs.Conservation.{first_report, calls, all_reported, got}
use Rattle.strm_laws.specs.Laws.{AreReported}

option_or-none : (a : Option ReturnCode) → option_or a None ≡ a
option_or-none None = refl
option_or-none (Some c) = refl

option_or-assoc : (a b c : Option ReturnCode) → option_or a (option_or b c) ≡ option_or (option_or a b) c
option_or-assoc None b c = refl
option_or-assoc (Some x) b c = refl

-- the calls that have no report get this one
abbrev pub settled : Option ReturnCode → List Call → List Call
settled r [] = []
settled r (w ∷ ws) = record w { report = option_or w.report r } ∷ settled r ws

pub settled-append : (r : Option ReturnCode) (xs ys : List Call) → settled r (xs ++ ys) ≡ settled r xs ++ settled r ys
settled-append r [] ys = refl
settled-append r (x ∷ xs) ys = ap (λ l. record x { report = option_or x.report r } ∷ l) (settled-append r xs ys)

option_or-some : (a r : Option ReturnCode) → is_some a ≡ true → option_or a r ≡ a
option_or-some None r h = cc
option_or-some (Some c) r h = refl

-- a first report stays
pub settled-reported : (r : Option ReturnCode) (ws : List Call) → AreReported ws → settled r ws ≡ ws
settled-reported r [] h = refl
settled-reported r (w ∷ ws) h = rw (option_or-some w.report r h.0, settled-reported r ws h.1) refl

pub settled-none : (ws : List Call) → settled None ws ≡ ws
settled-none [] = refl
settled-none (w ∷ ws) = rw (option_or-none w.report, settled-none ws) refl

call_on-settled : (end : NamedEnd) (act : EndAct) (a r : Option ReturnCode) → call_on end act (option_or a r) ≡ settled r (call_on end act a)
call_on-settled end (Operate address count) a r = refl
call_on-settled end _ a r = refl

call_of-settled : (act : Act) (a r : Option ReturnCode) → call_of act (option_or a r) ≡ settled r (call_of act a)
call_of-settled (OnEnd side end act) a r = call_on-settled end act a r
call_of-settled _ a r = refl

accepted-settled : (act : Act) (reply : Reply) (a r : Option ReturnCode) → accepted act reply (option_or a r) ≡ settled r (accepted act reply a)
accepted-settled act (replies.Code code) a r = call_of-settled act a r
accepted-settled act replies.Done a r = refl
accepted-settled act (replies.Number n) a r = refl
accepted-settled act (replies.Pair pair) a r = refl
accepted-settled act (replies.Event code) a r = refl
accepted-settled act (replies.Member member) a r = refl
accepted-settled act (replies.Bytes bytes) a r = refl
accepted-settled act (replies.Refused refusal) a r = refl
accepted-settled act (replies.BadItem stream) a r = refl
accepted-settled act replies.StoreTrapped a r = refl

cond-settled : (b : Bool) (r : Option ReturnCode) (xs ys : List Call) → xs ≡ settled r ys → cond b xs [] ≡ settled r (cond b ys [])
cond-settled true r xs ys e = e
cond-settled false r xs ys e = refl

accepted_in-settled : (s : ℕ) (side : Side) (m : Moment) (a r : Option ReturnCode) → accepted_in s side m (option_or a r) ≡ settled r (accepted_in s side m a)
accepted_in-settled s side m a r = cond-settled (is_named s side m) r _ (accepted m.act m.reply a) (accepted-settled m.act m.reply a r)

first_report-push : (s : ℕ) (side : Side) (all : List Moment) (m : Moment) → first_report s side (all ++ m ∷ []) ≡ option_or (first_report s side all) (report_in s side m)
first_report-push s side [] m = option_or-none (report_in s side m)
first_report-push s side (x ∷ xs) m = ap (λ o. option_or (report_in s side x) o) (first_report-push s side xs m) ∙ option_or-assoc (report_in s side x) (first_report s side xs) (report_in s side m)

-- one moment more settles the call that has no report, and perhaps takes one more
pub calls-push : (s : ℕ) (side : Side) (all : List Moment) (m : Moment) → calls s side (all ++ m ∷ []) ≡ settled (report_in s side m) (calls s side all) ++ accepted_in s side m (report_in s side m)
calls-push s side [] m = append-nil (accepted_in s side m (option_or (report_in s side m) None)) ∙ ap (λ o. accepted_in s side m o) (option_or-none (report_in s side m))
calls-push s side (x ∷ xs) m =
    let q = report_in s side m in
    let a : first_report s side (x ∷ (xs ++ m ∷ [])) ≡ option_or (first_report s side (x ∷ xs)) q = first_report-push s side (x ∷ xs) m in
    let b : accepted_in s side x (first_report s side (x ∷ (xs ++ m ∷ []))) ≡ settled q (accepted_in s side x (first_report s side (x ∷ xs))) =
    ap (λ o. accepted_in s side x o) a ∙ accepted_in-settled s side x (first_report s side (x ∷ xs)) q in
    let c : settled q (accepted_in s side x (first_report s side (x ∷ xs)) ++ calls s side xs) ≡ settled q (accepted_in s side x (first_report s side (x ∷ xs))) ++ settled q (calls s side xs) = settled-append q (accepted_in s side x (first_report s side (x ∷ xs))) (calls s side xs) in
    ap (λ l. l ++ calls s side (xs ++ m ∷ [])) b
    ∙ ap (λ l. settled q (accepted_in s side x (first_report s side (x ∷ xs))) ++ l) (calls-push s side xs m)
    ∙ sym (append_assoc (settled q (accepted_in s side x (first_report s side (x ∷ xs)))) (settled q (calls s side xs)) (accepted_in s side m q))
    ∙ ap (λ l. l ++ accepted_in s side m q) (sym c)

pub all_reported-push : (kind : TransmitKind) (s : ℕ) (side : Side) (all : List Moment) (m : Moment) → all_reported kind s side (all ++ m ∷ []) ≡ all_reported kind s side all + k_of kind 0 (report_in s side m)
all_reported-push kind s side [] m = omega arith
all_reported-push kind s side (x ∷ xs) m = omega (arith, all_reported-push kind s side xs m)

pub got-push : (s : ℕ) (all : List Moment) (m : Moment) → got s (all ++ m ∷ []) ≡ got s all ++ got_in s m
got-push s [] m = append-nil (got_in s m)
got-push s (x ∷ xs) m = ap (λ l. got_in s x ++ l) (got-push s xs m) ∙ sym (append_assoc (got_in s x) (got s xs) (got_in s m))
