-- `into_vec` lodges the bytes where they lie. Assumes `Logic`.
use Rattle.std.proofs.Common.{ℕ, List, [], ◌∷◌, ◌++◌, refl, sym, ap, ◌∙◌, subst, Vec}
use seplogic.Ra.Ura.{Ura}
use mir.Syntax.{Fn, Callee, a_type, seq, assign, place, rv_opd, copy, return}
use mir.Val.{Val}
use base.Logic.{SProp, ent, id⊢}
use prog.Memory.{Memory}
use prog.Routine.{Routine}
use prog.Wp.{Calls, Loops, WpFn, Tables}
use contract.Monad.{Fun}
use contract.Running.{tables, tables_of}
use sound.WpLaws.{WpFn-mono, fm_of, FmC}
use types.Logic.{Logic}
use types.Kit.{‵, raw, ◌⊛◌, later, ◌$◌, ◌∵◌, !, qed, move, drop, use1, split, fsplit, fjoin, rewrite, suffices, await, done, some, given, pick, learn, at_ret}
use types.Run.{stop, fld, enter, returns, of_opd, and_then, no_more, first, blocks, exec}
use types.ByLocal.{alloc_all, pass_all, free_all, look_at, get, get_in, sets, lands_last, env}
use types.Part.{sub, whole}
use denote.Exit.{yes}
use denote.RattleType.{owns}
use denote.Builtin.{u8}
use denote.Param.{layouts}
use denote.Signature.{plain, types_at}
use denote.Steps.{nothing, only}
use denote.Triple.Clauses.{Clauses, Ended, closing}
use denote.Triple.Entry.{alive}
use denote.Triple.Spec.{Meets, triple_of}
use denote.Triple.Table.{entered}
use denote.Triple.Walked.{says, Stays, stay_dropped, walk_of, ends_at, walk_Meets}
use Rattle.std.proofs.alloc.Calls.{Goes-blank}
use denote.Triple.Call.{calls_at_last}
use denote.Triple.Statement.{Triple}
use Rattle.std_alloc.specs.declared.vec.lodged.Lodged.{Lodged}
use Rattle.std_alloc.specs.contracts.vec.lodge.Key.{name as callee_name}
use Rattle.std_alloc.proofs.vec.lodge.Met as callee
use Rattle.bytes.proofs.Walks.{Good, tells}
use Rattle.bytes.proofs.Lodging.{byte_laws, Housed, housed-laws, Lodges, at_lodge, IsLodged, lodge_gives}
use Rattle.strm_c.proofs.BytesValues.{Bytes, words, words_good, bytes_out, run_goes}
use Rattle.strm_c.specs.contracts.lent_bytes.LentBytes.into_vec as F
use Rattle.strm_c.specs.contracts.lent_bytes.LentBytes.into_vec.Key.{name as #self}
use Rattle.strm_c.proofs.lent_bytes.LentBytes.into_vec.Statement as stated
use Rattle.strm_c.proofs.lent_bytes.LentBytes.into_vec.Code as code

abbrev key : Callee
key = callee_name (layouts (a_type ∷ []) (u8, tt))

abbrev function : Fn
function = code.function

abbrev ended : Ended
ended = F.ended

abbrev stayed : Stays ended.signature.params ended.kept
stayed = (stay_dropped (plain (λ _. Bytes)) yes, tt)

module _ {M : Type 1} {𝓤 : Ura M} (𝓛 : Logic 𝓤) (at_mem : Memory → SProp 𝓤) (run : Routine → Fun 𝓤) where
  open 𝓛 use {H}

  abbrev held : Clauses 𝓤 ended
  held = F.clauses 𝓛 at_mem run

  module _ (C : Calls 𝓤 H) (Λ : Loops 𝓤 H) (framed : FmC 𝓤 H 𝓛.laws C) (called : Triple 𝓤 (C key) (Lodges 𝓛 at_mem run)) (z : (walk_of 𝓛 ended stayed held).Ghost) where
    abbrev Post : Val → SProp 𝓤
    Post = (walk_of 𝓛 ended stayed held).post z

    abbrev Run : List Val → SProp 𝓤
    Run ws = WpFn 𝓤 H C Λ function ws Post

    abbrev toks : SProp 𝓤
    toks = alive 𝓛 ended.signature z.0.0 z.0.1

    walks : ent 𝓤 ((walk_of 𝓛 ended stayed held).pre z) (Run ((walk_of 𝓛 ended stayed held).args z))
    walks =
        let a = z.0.3 in
        let vss = z.0.4 in
        let d = a.0 in
        qed 𝓛 ((raw toks ⊛ ‵ (owns (types_at ended.signature.params z.0.0) a vss)) ∷ raw ((held z.0.0 a).requires z.1) ∷ []) ∵
        move ! (1 ∷ []) $ drop ! $ split ! $ move ! (1 ∷ []) $ fsplit ! $ move ! (1 ∷ []) $ drop ! $ bytes_out ! d vss.0 (λ b o at is fits asked.
        let n = d.len in
        let xs = d.items in
        let y = at_lodge 𝓛 at_mem run b o n xs in
        suffices ! (Run (words b o n ∷ [])) (subst (λ (us : List Val). ent 𝓤 (Run (words b o n ∷ [])) (Run us)) (sym (λ i. is i ++ [])) (id⊢ 𝓤 (Run (words b o n ∷ [])))) $
        enter ! C Λ function (words b o n ∷ []) Post $ alloc_all ! (λ l. pass_all ! refl (words_good b o n fits, tt) $
        sets ! (of_opd ! (get_in ! (fld ! refl (stop !)) (sub ! 0 refl (whole !)))) refl (tt, tt) $
        sets ! (of_opd ! (get_in ! (fld ! refl (stop !)) (sub ! 1 refl (whole !)))) refl (tt, record { fits = fits }) $
        first ! $ blocks ! $ use1 𝓛 (raw ((Lodges 𝓛 at_mem run).pre y)) (run_goes 𝓛 at_mem run b o n xs asked) $
        calls_at_last ! framed (Lodges 𝓛 at_mem run) called y (and_then ! (get ! refl) (and_then ! (get ! refl) (and_then ! (get ! refl) (no_more !)))) (λ v.
        use1 𝓛 (later (some (λ (r : Vec ℕ Lodged). given (IsLodged 𝓛 at_mem run b o n xs r) (‵ (Housed.own_val r (v ∷ [])))))) (lodge_gives 𝓛 at_mem run b o n xs v) $
        await ! tt $ pick ! (λ r. learn ! (λ got. tells ! Housed housed-laws r (v ∷ []) (λ u same good.
        let fine : Good Housed v = subst (Good Housed) (sym (ap only same)) good in
        rewrite ! 0 (λ w. ‵ (Housed.own_val r (w ∷ []))) (sym (ap only same)) refl $ lands_last ! refl fine $
        exec ! C Λ (env function.locals l) (seq (assign (place 0 []) (rv_opd (copy (place 4 [])))) return) (at_ret (env function.locals l) Post) $
        sets ! (of_opd ! (get ! refl)) refl fine $
        returns ! (look_at ! 0 refl) $ free_all ! refl $
        suffices ! _ (ends_at 𝓛 ended stayed held z v r (tt, tt) (tt, tt)) $ says ! (got.0, got.1, got.3 ∙ sym at) $
        nothing ! $ nothing ! $ fjoin ! $ move ! (2 ∷ 0 ∷ 1 ∷ []) $ done !))))))

  meets : (𝓣 : Tables 𝓤 H) → Triple 𝓤 (𝓣.C key) (Lodges 𝓛 at_mem run) → Meets 𝓛 ended.signature (WpFn 𝓤 H 𝓣.C 𝓣.Λ function) (closing 𝓛 ended held)
  meets 𝓣 called =
      walk_Meets 𝓛 ended stayed (Goes-blank 𝓛 0 (plain (λ _. Bytes)) yes (λ κs x f. tt), tt) held
      (WpFn 𝓤 H 𝓣.C 𝓣.Λ function) (WpFn-mono 𝓤 H 𝓛.laws 𝓣 function) (walks 𝓣.C 𝓣.Λ (fm_of 𝓤 H 𝓛.laws 𝓣) called)

pub into_vec_spec : {M : Type 1} → stated.statement M
unfolding tables_of
into_vec_spec 𝓤 𝓛 𝓜 𝓡 wired =
    let 𝓣 : Tables 𝓤 𝓛.H = tables_of 𝓤 𝓛.H 𝓜 (tables 𝓤 𝓛.H 𝓜 𝓡 𝓡.env) in
    entered 𝓤 𝓛.H (triple_of 𝓛 ended.signature (closing 𝓛 ended (held 𝓛 𝓜.mem 𝓡.returns))) 𝓣.C 𝓣.Λ #self function
    (code.unfolded 𝓤 𝓛.H 𝓜 𝓡 wired) (meets 𝓛 𝓜.mem 𝓡.returns 𝓣 (callee.met 𝓤 𝓛 𝓜 𝓡 (code.calls-std_alloc::vec::lodge 𝓡.env wired) u8 byte_laws))
