-- Rows keep their entries while chunks are added behind those that are there.
use Rattle.std.proofs.Common.{◌≡◌, ℕ, suc, ◌≤◌, All, List, [], ◌∷◌, ◌++◌, length, refl, sym, ap, ap₂, subst, ◌∙◌, arith}
use Rattle.std.proofs.Math.ListN.{get_or-append}
use Rattle.std.proofs.lemmas.List.{length-append, map-append}
use Rattle.std.proofs.lemmas.List.Elements.{All-append, All-cons, All-nil}
use Rattle.strm_machine.specs.declared.replies.Reply.{Reply}
use Rattle.strm_machine.specs.declared.replies.Reply.TheVariants as replies
use Rattle.strm_machine.specs.declared.steps.Step.{Step}
use Rattle.strm_machine.specs.ShortSteps.{whole_step}
use Rattle.strm_machine.proofs.ShortStepLemmas.{longer, step_more, step_stays}
use Rattle.strm_shared.specs.Histories.{entry}
use Rattle.strm_shared.specs.declared.rows.Row.{Row}
use Rattle.strm_shared.specs.declared.rows.ShortReply.{ShortReply}
use Rattle.strm_shared.specs.declared.rows.ShortReply.TheVariants as answers
use Rattle.strm_shared.specs.Rows.{whole_reply, whole, IsReplyPlaced, IsRowPlaced, entries, AllPlaced}

-- MORE CHUNKS

reply_more : (cs more : List (List ℕ)) (r : ShortReply) → IsReplyPlaced (length cs) r → whole_reply (cs ++ more) r ≡ whole_reply cs r
reply_more cs more (answers.Bytes bytes) h = ap replies.Bytes (get_or-append cs more [] bytes h)
reply_more cs more _ h = refl

reply_stays : (m n : ℕ) (r : ShortReply) → m ≤ n → IsReplyPlaced m r → IsReplyPlaced n r
reply_stays m n (answers.Bytes bytes) le h = omega (arith, le, h)
reply_stays m n _ le h = tt

whole_more : (cs more : List (List ℕ)) (row : Row) → IsRowPlaced (length cs) row → whole (cs ++ more) row ≡ whole cs row
whole_more cs more row h = ap₂ (entry row.seat) (step_more cs more row.step h.0) (reply_more cs more row.reply h.1)

entries_more : (cs more : List (List ℕ)) (rows : List Row) → AllPlaced cs rows → entries (cs ++ more) rows ≡ entries cs rows
entries_more cs more [] h = refl
entries_more cs more (row ∷ rows) h =
    ap₂ (λ e es. e ∷ es) (whole_more cs more row (h 0 row (omega arith)))
    (entries_more cs more rows (λ k d l. h (suc k) d (omega (arith, l))))

-- A ROW MORE

-- all places are places of chunks, also of a row more
pub placed_push : (cs more cs' : List (List ℕ)) (rows rows' : List Row) (row : Row) → AllPlaced cs rows → cs' ≡ cs ++ more
    → rows' ≡ rows ++ row ∷ [] → IsRowPlaced (length cs') row → AllPlaced cs' rows'
placed_push cs more cs' rows rows' row h is is_rows here =
    let le : length cs ≤ length cs' = subst (λ l. length cs ≤ length l) (sym is) (longer cs more) in
    let old : AllPlaced cs' rows =
    λ k d l. let p = h k d l in (step_stays (length cs) (length cs') _ le p.0, reply_stays (length cs) (length cs') _ le p.1) in
    subst (All (IsRowPlaced (length cs'))) (sym is_rows)
    (All-append (IsRowPlaced (length cs')) rows (row ∷ []) old (All-cons (IsRowPlaced (length cs')) row [] here (All-nil (IsRowPlaced (length cs')))))

-- the entries of a row more are those of before, and its own
pub entries_push : (cs more cs' : List (List ℕ)) (old : List Row) (row : Row) (step : Step) (reply : Reply) → AllPlaced cs old
    → cs' ≡ cs ++ more → whole_step cs' row.step ≡ step → whole_reply cs' row.reply ≡ reply
    → entries cs' (old ++ row ∷ []) ≡ entries cs old ++ entry row.seat step reply ∷ []
entries_push cs more cs' old row step reply h is s r =
    map-append (whole cs') old (row ∷ [])
    ∙ ap₂ (λ (es : List _) e. es ++ e ∷ []) (ap (λ l. entries l old) is ∙ entries_more cs more old h) (ap₂ (entry row.seat) s r)
