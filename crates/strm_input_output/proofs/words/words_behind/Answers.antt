use Rattle.std.proofs.Common.{length, sym, ap, ◌∙◌}
use Rattle.std.proofs.lemmas.Iterator.{items_from_collect}
use Rattle.std.proofs.lemmas.Iterator.Adapters.{YieldsList-from_vec}
use Rattle.strm_input_output.proofs.WordLemmas.{left_behind}
use Rattle.strm_input_output.proofs.words.words_behind.Goals as goal

pub returns : goal.returns
returns c =
    let before = sym c.args.args.rest.ok.0 in
    let after = sym c.next-name.new.self.rest.ok.0 in
    let behind = left_behind c.args.args c.next-name.new.self c.next-name.result before after c.next-name.ensures.cases in
    items_from_collect c.collect.result c.collect.ensures.ran (YieldsList-from_vec _ behind (sym after ∙ ap length behind))
