use Rattle.std.proofs.Common.{◌≡◌, ◌∙◌, ◌+◌, ◌-◌, take, sym, ap, arith, length-set}
use Rattle.std.proofs.lemmas.List.{take_more_set}
use Rattle.strm_tape.specs.Reading.{type_word, spelled_type}
use Rattle.strm_tape.proofs.ManyLemmas.{many_stopped, many_on, many_over}
use Rattle.strm_tape.proofs.TypeLemmas.{words_over, words_stopped}
use Rattle.strm_tape.proofs.parts.words_of_type.Goals as goal

pub returns-in_default : goal.returns-in_default
returns-in_default c =
    let k = c.loop-k.k in
    sym (words_stopped c.args.count c.args.bytes.now
    (sym c.loop-k.invariant.rest ∙ many_stopped type_word (take k c.loop-k.words) (c.args.count - k) c.loop-k.rest.now (omega (arith, c.loop-k-test.true, c.from-k-end.ensures)) (sym c.in_default.ensures)))

pub loop-k-preserved : goal.loop-k-preserved
loop-k-preserved c =
    let k = c.loop-k.k in
    let words = c.loop-k.words in
    let word = c.in-Some.word in
    record {
      whole = length-set words k word ∙ c.loop-k.invariant.whole;
      rest =
          rw (take_more_set words k word (omega (arith, c.loop-k.invariant.whole, c.loop-k-test.true, c.from-k-end.ensures, c.requires)))
          (many_on type_word (take k words) (c.args.count - k) (c.args.count - (k + 1)) c.loop-k.rest.now (word, c.in-Some.behind.now) (omega (arith, c.loop-k-test.true, c.from-k-end.ensures)) (sym c.in-Some.ensures))
          ∙ c.loop-k.invariant.rest;
    }

pub returns : goal.returns
returns c =
    let k = c.loop-k.k in
    let words = c.loop-k.words in
    let rest = c.loop-k.rest.now in
    let done : c.from.result ≡ k = omega (arith, c.from.ensures, c.loop-k-test.false, c.loop-k.auto.k-end, c.from-k-end.ensures) in
    c.spelled_type.ensures ∙ ap (λ n. spelled_type (take n words) rest) done
    ∙ words_over c.args.count c.args.bytes.now (take k words) rest
    (sym c.loop-k.invariant.rest ∙ many_over type_word (take k words) (c.args.count - k) rest (omega (arith, done, c.from.ensures)))
