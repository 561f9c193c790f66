use Rattle.strm_bench.proofs.rounds.run_on.Goals as goal

pub repeat-requires : goal.repeat-requires
repeat-requires g c =
    c.in_ok-pair.ensures.fits _ (c.in_ok-add_guest-2.ensures.fits _ (c.in_ok-add_guest.ensures.fits _ c.requires))
