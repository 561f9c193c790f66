-- What is played among host ends that follow the tape.
use Rattle.tape.proofs.FollowLemmas.{ends_of}
use Rattle.tape.specs.declared.Shown.TheVariants.{Replies}
use Rattle.tape.proofs.OutcomeLemmas.{shows_among}
use Rattle.tape.proofs.played.Goals as goal

pub tape_play-requires : goal.tape_play-requires
tape_play-requires g c = record { ends = ends_of c.args.tape.now _ c.requires.writers c.requires.readers }

pub returns-in-Replies-clause-plays : goal.returns-in-Replies-clause-plays
returns-in-Replies-clause-plays g c =
    let played = c.tape_play.ensures in
    shows_among _ _ _ _ c.from.ensures c.args.shown c.args.tape.now _ _ Replies c.in-Replies.is c.requires.writers c.requires.readers (record {
      known = played.known;
      writes = played.writes;
      goes_on = played.goes_on;
      complete = played.complete;
      differs = played.differs;
      out_of_memory = played.out_of_memory;
    })
