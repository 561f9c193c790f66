-- `join_at` gives two runs up, and lodges them as one. Assumes `Logic`.
use Rattle.std.proofs.Common.{◌≡◌, ℕ, ◌+◌, ◌^◌, ◌<◌, List, [], ◌∷◌, ◌++◌, length, refl, sym, ap, ◌∙◌, subst, arith, length-append, Vec}
use seplogic.Ra.Ura.{Ura}
use mir.Syntax.{Fn, Callee, a_type, w64, seq, assign, place, rv_opd, copy, return}
use mir.Val.{Val, vptr, vint}
use base.Logic.{SProp, ent}
use prog.Memory.{Memory}
use prog.Routine.{Routine}
use prog.Wp.{Calls, Loops, WpFn, Tables}
use contract.Monad.{Fun, fact}
use contract.Running.{tables, tables_of}
use sound.WpLaws.{WpFn-mono, fm_of, FmC}
use types.Logic.{Logic}
use types.Kit.{‵, raw, ◌⊛◌, later, prop, ◌$◌, ◌∵◌, !, qed, move, drop, use1, use2, split, fsplit, fjoin, feq_l, regoal, rewrite, suffices, await, done, some, given, pick, learn, at_ret, flt_l}
use types.Run.{enter, returns, of_opd, and_then, no_more, first, blocks, exec}
use types.ByLocal.{alloc_all, pass_all, free_all, look_at, get, sets, lands_as, lands_last, env}
use denote.Exit.{yes}
use denote.RattleType.{owns}
use denote.Builtin.{u8, RawPtr, usize}
use denote.Param.{layouts}
use denote.Signature.{plain, types_at}
use denote.Steps.{nothing, heard, only}
use denote.Triple.Clauses.{Clauses, Ended, closing}
use denote.Triple.Entry.{alive}
use denote.Triple.Spec.{Meets, triple_of}
use denote.Triple.Table.{entered}
use denote.Triple.Walked.{says, Stays, stay_dropped, walk_of, ends_at, walk_Meets}
use Rattle.std.proofs.alloc.Calls.{Goes-blank}
use denote.RawPtr.{Ptr, block_ptr, ptr_val, ◌+ₚ◌}
use denote.Triple.Call.{calls_at, calls_at_last}
use denote.Triple.Statement.{Triple}
use Rattle.std_alloc.specs.declared.vec.lodged.Lodged.{Lodged}
use Rattle.std_alloc.specs.contracts.vec.lodge.Key.{name as lodge_name}
use Rattle.std_alloc.proofs.vec.lodge.Met as lodge_met
use Rattle.std_alloc.specs.contracts.vec.lodged.Vec+T+Lodged.dislodge.Key.{name as dislodge_name}
use Rattle.std_alloc.proofs.vec.lodged.Vec+T+Lodged.dislodge.Met as dislodge_met
use Rattle.bytes.specs.Ownership.{run_owns}
use Rattle.bytes.proofs.Walks.{Good, tells}
use Rattle.bytes.proofs.Lodging.{byte_laws, Housed, housed-laws, Lodges, at_lodge, IsLodged, lodge_goes, lodge_gives, Dislodges, at_dislodge, dislodge_goes, dislodge_gives}
use Rattle.strm_memory.proofs.JoinLemmas.{IsPlaced, housed_at, runs_joined}
use Rattle.strm_memory.specs.contracts.joins.join_at as F
use Rattle.strm_memory.specs.contracts.joins.join_at.Key.{name as #self}
use Rattle.strm_memory.proofs.joins.join_at.Statement as stated
use Rattle.strm_memory.proofs.joins.join_at.Code as code

abbrev lodge_key : Callee
lodge_key = lodge_name (layouts (a_type ∷ []) (u8, tt))

abbrev dislodge_key : Callee
dislodge_key = dislodge_name (layouts (a_type ∷ []) (u8, tt))

abbrev function : Fn
function = code.function

abbrev ended : Ended
ended = F.ended

abbrev stayed : Stays ended.signature.params ended.kept
stayed = (stay_dropped (plain (λ _. RawPtr)) yes, (stay_dropped (plain (λ _. usize)) yes, (stay_dropped (plain (λ _. Housed)) yes, (stay_dropped (plain (λ _. Housed)) yes, tt))))

module _ {M : Type 1} {𝓤 : Ura M} (𝓛 : Logic 𝓤) (at_mem : Memory → SProp 𝓤) (run : Routine → Fun 𝓤) where
  open 𝓛 use {H}

  abbrev held : Clauses 𝓤 ended
  held = F.clauses 𝓛 at_mem run

  module _ (C : Calls 𝓤 H) (Λ : Loops 𝓤 H) (framed : FmC 𝓤 H 𝓛.laws C) (lodges : Triple 𝓤 (C lodge_key) (Lodges 𝓛 at_mem run)) (dislodges : Triple 𝓤 (C dislodge_key) (Dislodges 𝓛 at_mem run)) (z : (walk_of 𝓛 ended stayed held).Ghost) where
    abbrev Post : Val → SProp 𝓤
    Post = (walk_of 𝓛 ended stayed held).post z

    abbrev toks : SProp 𝓤
    toks = alive 𝓛 ended.signature z.0.0 z.0.1

    walks : ent 𝓤 ((walk_of 𝓛 ended stayed held).pre z) (WpFn 𝓤 H C Λ function ((walk_of 𝓛 ended stayed held).args z) Post)
    walks =
        let a = z.0.3 in
        let vss = z.0.4 in
        let p = a.0 in
        let n = a.1.0 in
        let f = a.1.1.0 in
        let g = a.1.1.1.0 in
        let xs = f.items in
        let ys = g.items in
        let Asked = (p ≡ f.ptr) × (g.ptr ≡ f.ptr +ₚ length xs) × (0 < length xs) × (0 < length ys) × (n ≡ length xs + length ys) × (n < 2 ^ 63) in
        qed 𝓛 ((raw toks ⊛ ‵ (owns (types_at ended.signature.params z.0.0) a vss)) ∷ raw (fact 𝓤 Asked) ∷ []) ∵
        move ! (1 ∷ []) $ heard ! Asked (λ asked. split ! $ move ! (1 ∷ []) $
        fsplit ! $ feq_l ! (λ is₀. fsplit ! $ fsplit ! $ feq_l ! (λ is₁. flt_l ! (λ fits.
        fsplit ! $ tells ! Housed housed-laws f vss.1.1.0 (λ u is₂ fine_u. move ! (1 ∷ []) $
        fsplit ! $ tells ! Housed housed-laws g vss.1.1.1.0 (λ w is₃ fine_w. move ! (1 ∷ []) $ drop ! $ move ! (1 ∷ []) $
        use1 𝓛 (given (IsPlaced f.ptr) (‵ (Housed.own_val f (u ∷ [])))) (housed_at 𝓛 f u) $ learn ! (λ placed.
        let b = placed.0 in let o = placed.1 in let at = placed.2 in
        let all : List ℕ = xs ++ ys in
        let long : length all ≡ n = length-append xs ys ∙ sym asked.4 in
        let many : 0 < n = omega (arith, asked.2, asked.4) in
        let small : n < 2 ^ 63 = asked.5 in
        let front : 0 < f.len = omega (arith, asked.2, f.ok.0) in
        let back : 0 < g.len = omega (arith, asked.3, g.ok.0) in
        let behind : g.ptr ≡ block_ptr b (o + length xs) = asked.1 ∙ ap (λ (r : Ptr). r +ₚ length xs) at in
        let y₁ = at_dislodge 𝓛 at_mem run f u in
        let y₂ = at_dislodge 𝓛 at_mem run g w in
        let y₃ = at_lodge 𝓛 at_mem run b o n all in
        regoal ! (λ (us : List Val). prop (WpFn 𝓤 H C Λ function (us ++ (vss.1.0 ++ (vss.1.1.0 ++ (vss.1.1.1.0 ++ [])))) Post)) (is₀ ∙ ap (λ r. ptr_val r ∷ []) (asked.0 ∙ at)) refl $
        regoal ! (λ (us : List Val). prop (WpFn 𝓤 H C Λ function ((vptr b o ∷ []) ++ (us ++ (vss.1.1.0 ++ (vss.1.1.1.0 ++ [])))) Post)) is₁ refl $
        regoal ! (λ (us : List Val). prop (WpFn 𝓤 H C Λ function ((vptr b o ∷ []) ++ ((vint w64 n ∷ []) ++ (us ++ (vss.1.1.1.0 ++ [])))) Post)) is₂ refl $
        regoal ! (λ (us : List Val). prop (WpFn 𝓤 H C Λ function ((vptr b o ∷ []) ++ ((vint w64 n ∷ []) ++ ((u ∷ []) ++ (us ++ [])))) Post)) is₃ refl $
        enter ! C Λ function (vptr b o ∷ vint w64 n ∷ u ∷ w ∷ []) Post $ alloc_all ! (λ l. pass_all ! refl ((tt, tt), ((tt, record { fits = fits }), (fine_u, (fine_w, tt)))) $
        sets ! (of_opd ! (get ! refl)) refl fine_u $ use1 𝓛 (raw ((Dislodges 𝓛 at_mem run).pre y₁)) (dislodge_goes 𝓛 at_mem run f u) $
        calls_at ! framed (Dislodges 𝓛 at_mem run) dislodges y₁ (and_then ! (get ! refl) (no_more !)) (λ k₁.
        use1 𝓛 (later (given ((k₁ ≡ vint w64 f.len) × (f.len < 2 ^ 64)) (‵ (run_owns f.ptr xs)))) (dislodge_gives 𝓛 at_mem run f u front k₁) $ await ! tt $ learn ! (λ got₁.
        lands_as ! got₁.0 refl (tt, record { fits = got₁.1 }) $ move ! (1 ∷ []) $
        sets ! (of_opd ! (get ! refl)) refl fine_w $ use1 𝓛 (raw ((Dislodges 𝓛 at_mem run).pre y₂)) (dislodge_goes 𝓛 at_mem run g w) $
        calls_at ! framed (Dislodges 𝓛 at_mem run) dislodges y₂ (and_then ! (get ! refl) (no_more !)) (λ k₂.
        use1 𝓛 (later (given ((k₂ ≡ vint w64 g.len) × (g.len < 2 ^ 64)) (‵ (run_owns g.ptr ys)))) (dislodge_gives 𝓛 at_mem run g w back k₂) $ await ! tt $ learn ! (λ got₂.
        lands_as ! got₂.0 refl (tt, record { fits = got₂.1 }) $
        rewrite ! 0 (λ r. ‵ (run_owns r ys)) behind refl $ move ! (1 ∷ []) $ rewrite ! 0 (λ r. ‵ (run_owns r xs)) at refl $
        use2 𝓛 (‵ (run_owns (block_ptr b o) all)) (runs_joined 𝓛 b o xs ys) $
        first ! $ blocks ! $ use1 𝓛 (raw ((Lodges 𝓛 at_mem run).pre y₃)) (lodge_goes 𝓛 at_mem run b o n all long many small) $
        calls_at_last ! framed (Lodges 𝓛 at_mem run) lodges y₃ (and_then ! (get ! refl) (and_then ! (get ! refl) (and_then ! (get ! refl) (no_more !)))) (λ v.
        use1 𝓛 (later (some (λ (r : Vec ℕ Lodged). given (IsLodged 𝓛 at_mem run b o n all r) (‵ (Housed.own_val r (v ∷ [])))))) (lodge_gives 𝓛 at_mem run b o n all v) $
        await ! tt $ pick ! (λ r. learn ! (λ is. tells ! Housed housed-laws r (v ∷ []) (λ t same good.
        let fine : Good Housed v = subst (Good Housed) (sym (ap only same)) good in
        rewrite ! 0 (λ s. ‵ (Housed.own_val r (s ∷ []))) (sym (ap only same)) refl $ lands_last ! refl fine $
        exec ! C Λ (env function.locals l) (seq (assign (place 0 []) (rv_opd (copy (place 9 [])))) return) (at_ret (env function.locals l) Post) $
        sets ! (of_opd ! (get ! refl)) refl fine $
        returns ! (look_at ! 0 refl) $ free_all ! refl $
        suffices ! _ (ends_at 𝓛 ended stayed held z v r (tt, (tt, (tt, (tt, tt)))) (tt, (tt, (tt, (tt, tt))))) $ says ! (is.0, is.3 ∙ sym at) $
        nothing ! $ nothing ! $ fjoin ! $ nothing ! $ fjoin ! $ nothing ! $ fjoin ! $ nothing ! $ fjoin ! $ move ! (2 ∷ 0 ∷ 1 ∷ []) $ done !))))))))))))))))

  meets : (𝓣 : Tables 𝓤 H) → Triple 𝓤 (𝓣.C lodge_key) (Lodges 𝓛 at_mem run) → Triple 𝓤 (𝓣.C dislodge_key) (Dislodges 𝓛 at_mem run) → Meets 𝓛 ended.signature (WpFn 𝓤 H 𝓣.C 𝓣.Λ function) (closing 𝓛 ended held)
  meets 𝓣 lodges dislodges =
      walk_Meets 𝓛 ended stayed (Goes-blank 𝓛 0 (plain (λ _. RawPtr)) yes (λ κs x f. tt), (Goes-blank 𝓛 0 (plain (λ _. usize)) yes (λ κs x f. tt), (Goes-blank 𝓛 0 (plain (λ _. Housed)) yes (λ κs x f. tt), (Goes-blank 𝓛 0 (plain (λ _. Housed)) yes (λ κs x f. tt), tt)))) held
      (WpFn 𝓤 H 𝓣.C 𝓣.Λ function) (WpFn-mono 𝓤 H 𝓛.laws 𝓣 function) (walks 𝓣.C 𝓣.Λ (fm_of 𝓤 H 𝓛.laws 𝓣) lodges dislodges)

pub join_at_spec : {M : Type 1} → stated.statement M
unfolding tables_of
join_at_spec 𝓤 𝓛 𝓜 𝓡 wired =
    let 𝓣 : Tables 𝓤 𝓛.H = tables_of 𝓤 𝓛.H 𝓜 (tables 𝓤 𝓛.H 𝓜 𝓡 𝓡.env) in
    entered 𝓤 𝓛.H (triple_of 𝓛 ended.signature (closing 𝓛 ended (held 𝓛 𝓜.mem 𝓡.returns))) 𝓣.C 𝓣.Λ #self function
    (code.unfolded 𝓤 𝓛.H 𝓜 𝓡 wired)
    (meets 𝓛 𝓜.mem 𝓡.returns 𝓣
    (lodge_met.met 𝓤 𝓛 𝓜 𝓡 (code.calls-std_alloc::vec::lodge 𝓡.env wired) u8 byte_laws)
    (dislodge_met.met 𝓤 𝓛 𝓜 𝓡 (code.calls-std_alloc::vec::lodged::Vec+T+Lodged::dislodge 𝓡.env wired) u8 byte_laws))
