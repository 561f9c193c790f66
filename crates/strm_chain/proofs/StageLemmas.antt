-- A stage done piece by piece puts out what it makes of the whole.
use Rattle.std.proofs.Common.{◌≡◌, ℕ, zero, suc, ◌+◌, ◌-◌, ◌%◌, ◌<◌, Bool, true, false, List, [], ◌∷◌, ◌++◌, length, take, get_or, refl, sym, ap, ◌∙◌, append_assoc, arith}
use Rattle.std.specs.Prelude.{◌==◌, map, filter, not, if◌then◌else◌}
use Rattle.std.proofs.lemmas.Bool.{ne_eqb}
use Rattle.std.proofs.lemmas.List.{take_more, append-nil}
use Rattle.strm_chain.specs.declared.stages.Stage.{Stage}
use Rattle.strm_chain.specs.declared.stages.Stage.TheVariants as stages
use Rattle.strm_chain.specs.declared.stages.Work.{Work}
use Rattle.strm_chain.specs.Stages.{twice, sums, of, work_begun, put_out, work_after, byte_sum, work_done, work_left}

-- ## One piece behind another

pub work_left-append : (work : Work) (a b : List ℕ) → work_left work (a ++ b) ≡ work_left (work_left work a) b
unfolding work_left
work_left-append work [] b = refl
work_left-append work (x ∷ a) b = work_left-append (work_after work x) a b

pub work_done-append : (work : Work) (a b : List ℕ) → work_done work (a ++ b) ≡ work_done work a ++ work_done (work_left work a) b
unfolding work_done work_left
work_done-append work [] b = refl
work_done-append work (x ∷ a) b =
    ap (λ more. put_out work x ++ more) (work_done-append (work_after work x) a b)
    ∙ sym (append_assoc (put_out work x) (work_done (work_after work x) a) (work_done (work_left (work_after work x) a) b))

work_left-one : (work : Work) (x : ℕ) → work_left work (x ∷ []) ≡ work_after work x
unfolding work_left
work_left-one work x = refl

work_done-one : (work : Work) (x : ℕ) → work_done work (x ∷ []) ≡ put_out work x
unfolding work_done
work_done-one work x = append-nil (put_out work x)

pub work_done-none : (work : Work) → work_done work [] ≡ []
unfolding work_done
work_done-none work = refl

pub work_left-none : (work : Work) → work_left work [] ≡ work
unfolding work_left
work_left-none work = refl

-- one byte more of a list
pub work_left-more : (work : Work) (bytes : List ℕ) (i x d : ℕ) → i < length bytes → x ≡ get_or bytes i d → work_left work (take (i + 1) bytes) ≡ work_after (work_left work (take i bytes)) x
work_left-more work bytes i x d l e =
    ap (work_left work) (take_more bytes i d l ∙ ap (λ y. take i bytes ++ y ∷ []) (sym e)) ∙ work_left-append work (take i bytes) (x ∷ []) ∙ work_left-one (work_left work (take i bytes)) x

pub work_done-more : (work : Work) (bytes : List ℕ) (i x d : ℕ) → i < length bytes → x ≡ get_or bytes i d → work_done work (take (i + 1) bytes) ≡ work_done work (take i bytes) ++ put_out (work_left work (take i bytes)) x
work_done-more work bytes i x d l e =
    ap (work_done work) (take_more bytes i d l ∙ ap (λ y. take i bytes ++ y ∷ []) (sym e)) ∙ work_done-append work (take i bytes) (x ∷ [])
    ∙ ap (λ more. work_done work (take i bytes) ++ more) (work_done-one (work_left work (take i bytes)) x)

-- sums of bytes
pub byte_sum-none : (total : ℕ) → byte_sum total [] ≡ total
unfolding byte_sum
byte_sum-none total = refl

byte_sum-one : (total : ℕ) (a : List ℕ) (x : ℕ) → byte_sum total (a ++ x ∷ []) ≡ (byte_sum total a + x) % 256
unfolding byte_sum
byte_sum-one total [] x = refl
byte_sum-one total (y ∷ a) x = byte_sum-one ((total + y) % 256) a x

pub byte_sum-more : (total : ℕ) (bytes : List ℕ) (i x d : ℕ) → i < length bytes → x ≡ get_or bytes i d → byte_sum total (take (i + 1) bytes) ≡ (byte_sum total (take i bytes) + x) % 256
byte_sum-more total bytes i x d l e =
    ap (byte_sum total) (take_more bytes i d l ∙ ap (λ y. take i bytes ++ y ∷ []) (sym e)) ∙ byte_sum-one total (take i bytes) x

-- what was put out for the first bytes of a list, and what is to be done behind them
pub record Taken (first : Work) (before bytes : List ℕ) (i : ℕ) (w : Work) (o : List ℕ) : Type 0 where
  pub work : w ≡ work_left first (take i bytes)
  pub out : o ≡ before ++ work_done first (take i bytes)

pub none_taken : (work : Work) (out bytes : List ℕ) → Taken work out bytes 0 work out
none_taken work out bytes = record {
  work = sym (work_left-none work);
  out = sym (append-nil out) ∙ ap (λ xs. out ++ xs) (sym (work_done-none work));
}

pub more_taken : (work : Work) (out bytes : List ℕ) (i d : ℕ) (w w' : Work) (o o' : List ℕ) → i < length bytes → Taken work out bytes i w o → w' ≡ work_after w (get_or bytes i d) → o' ≡ o ++ put_out w (get_or bytes i d) → Taken work out bytes (i + 1) w' o'
more_taken work out bytes i d w w' o o' l t ew eo =
    let x = get_or bytes i d in
    record {
      work = ew ∙ ap (λ v. work_after v x) t.work ∙ sym (work_left-more work bytes i x d l refl);
      out = eo ∙ ap (λ xs. xs ++ put_out w x) t.out ∙ ap (λ v. (out ++ work_done work (take i bytes)) ++ put_out v x) t.work
          ∙ append_assoc out (work_done work (take i bytes)) (put_out (work_left work (take i bytes)) x)
          ∙ ap (λ xs. out ++ xs) (sym (work_done-more work bytes i x d l refl));
    }

-- the stage stays
pub work_left-stage : (work : Work) (bytes : List ℕ) → (work_left work bytes).stage ≡ work.stage
unfolding work_left
work_left-stage work [] = refl
work_left-stage work (b ∷ bs) = work_left-stage (work_after work b) bs

-- ## The whole

-- a stage under way
abbrev pub under_way : Stage → ℕ → ℕ → Work
under_way stage sum rest = record { stage = stage; sum = sum; left = rest }

-- a list that is taken at once
left_added : (stage : Stage) (sum rest : ℕ) (bytes : List ℕ) → work_left (under_way stage sum rest) bytes ≡ under_way stage (byte_sum sum bytes) (rest - length bytes)
unfolding work_left byte_sum
left_added stage sum rest [] = ap (under_way stage sum) (omega arith)
left_added stage sum rest (b ∷ bs) =
    left_added stage ((sum + b) % 256) (rest - 1) bs ∙ ap (under_way stage (byte_sum ((sum + b) % 256) bs)) (omega arith)

pub work_left-at_once : (work : Work) (bytes : List ℕ) (sum rest : ℕ) → sum ≡ byte_sum work.sum bytes → rest ≡ work.left - length bytes → under_way work.stage sum rest ≡ work_left work bytes
work_left-at_once work bytes sum rest s l =
    ap (λ n. under_way work.stage n rest) s ∙ ap (under_way work.stage (byte_sum work.sum bytes)) l
    ∙ sym (left_added work.stage work.sum work.left bytes)

work_done-copy : (sum rest : ℕ) (bytes : List ℕ) → work_done (under_way stages.Copy sum rest) bytes ≡ bytes
unfolding work_done
work_done-copy sum rest [] = refl
work_done-copy sum rest (b ∷ bs) = ap (λ more. b ∷ more) (work_done-copy ((sum + b) % 256) (rest - 1) bs)

-- a copy puts out what it takes
pub copy_done : (work : Work) (bytes : List ℕ) → work.stage ≡ stages.Copy → work_done work bytes ≡ bytes
copy_done work bytes e = ap (λ s. work_done (under_way s work.sum work.left) bytes) e ∙ work_done-copy work.sum work.left bytes

work_done-add : (k sum rest : ℕ) (bytes : List ℕ) → work_done (under_way (stages.Add k) sum rest) bytes ≡ map (λ b. (b + k) % 256) bytes
unfolding work_done
work_done-add k sum rest [] = refl
work_done-add k sum rest (b ∷ bs) = ap (λ more. (b + k) % 256 ∷ more) (work_done-add k ((sum + b) % 256) (rest - 1) bs)

-- a byte is left out, or not
kept_or_not : (b : ℕ) (out : Bool) (xs ys : List ℕ) → xs ≡ ys → (if out then [] else b ∷ []) ++ xs ≡ (if not out then b ∷ ys else ys)
kept_or_not b true xs ys e = e
kept_or_not b false xs ys e = ap (λ more. b ∷ more) e

work_done-without : (k sum rest : ℕ) (bytes : List ℕ) → work_done (under_way (stages.Without k) sum rest) bytes ≡ filter (λ b. not (b == k)) bytes
unfolding work_done
work_done-without k sum rest [] = refl
work_done-without k sum rest (b ∷ bs) =
    let w = under_way (stages.Without k) ((sum + b) % 256) (rest - 1) in
    kept_or_not b (b == k) (work_done w bs) (filter (λ b. not (b == k)) bs) (work_done-without k ((sum + b) % 256) (rest - 1) bs)

work_done-twice : (sum rest : ℕ) (bytes : List ℕ) → work_done (under_way stages.Twice sum rest) bytes ≡ twice bytes
unfolding work_done
work_done-twice sum rest [] = refl
work_done-twice sum rest (b ∷ bs) = ap (λ more. b ∷ b ∷ more) (work_done-twice ((sum + b) % 256) (rest - 1) bs)

work_done-sum : (sum rest : ℕ) (bytes : List ℕ) → work_done (under_way stages.Sum sum rest) bytes ≡ sums sum bytes
unfolding work_done
work_done-sum sum rest [] = refl
work_done-sum sum rest (b ∷ bs) = ap (λ more. (sum + b) % 256 ∷ more) (work_done-sum ((sum + b) % 256) (rest - 1) bs)

-- one byte, and then the others of the first ones
first_more : (n k sum b : ℕ) (bs : List ℕ) → work_done (under_way (stages.First n) sum k) bs ≡ take k bs → (if (suc k) == 0 then [] else b ∷ []) ++ work_done (under_way (stages.First n) sum (suc k - 1)) bs ≡ b ∷ take k bs
first_more n k sum b bs e =
    ap (λ (t : Bool). (if t then [] else b ∷ []) ++ work_done (under_way (stages.First n) sum (suc k - 1)) bs) (ne_eqb (suc k) 0 (λ z. omega (arith, z)))
    ∙ ap (λ m. b ∷ work_done (under_way (stages.First n) sum m) bs) (omega arith) ∙ ap (λ more. b ∷ more) e

work_done-first : (n sum k : ℕ) (bytes : List ℕ) → work_done (under_way (stages.First n) sum k) bytes ≡ take k bytes
unfolding work_done
work_done-first n sum zero [] = refl
work_done-first n sum (suc k) [] = refl
work_done-first n sum zero (b ∷ bs) = work_done-first n ((sum + b) % 256) zero bs ∙ take-none bs
  where
    take-none : (bs : List ℕ) → take zero bs ≡ []
    take-none bs = refl
work_done-first n sum (suc k) (b ∷ bs) = first_more n k ((sum + b) % 256) b bs (work_done-first n ((sum + b) % 256) k bs)

-- what a stage makes of a list is what is put out for it, however it is cut
pub of_is_done : (stage : Stage) (bytes : List ℕ) → work_done (work_begun stage) bytes ≡ of stage bytes
of_is_done stages.Copy bytes = work_done-copy 0 0 bytes
of_is_done (stages.Add k) bytes = work_done-add k 0 0 bytes
of_is_done (stages.Without k) bytes = work_done-without k 0 0 bytes
of_is_done stages.Twice bytes = work_done-twice 0 0 bytes
of_is_done stages.Sum bytes = work_done-sum 0 0 bytes
of_is_done (stages.First n) bytes = work_done-first n 0 n bytes

-- so what it makes of the front of a list is the front of what it makes of the list
pub of-append : (stage : Stage) (a b : List ℕ) → of stage (a ++ b) ≡ of stage a ++ work_done (work_left (work_begun stage) a) b
of-append stage a b =
    sym (of_is_done stage (a ++ b)) ∙ work_done-append (work_begun stage) a b ∙ ap (λ xs. xs ++ work_done (work_left (work_begun stage) a) b) (of_is_done stage a)
