use Rattle.strm_transmit.proofs.steps.apply.Goals as goal

pub returns-clause-does : goal.returns-clause-does
returns-clause-does g c = c.perform_step.ensures.meets.does

pub returns-clause-fits : goal.returns-clause-fits
returns-clause-fits g c = c.perform_step.ensures.meets.fits

pub returns-clause-alone : goal.returns-clause-alone
returns-clause-alone g c = c.perform_step.ensures.meets.alone

pub returns-clause-err : goal.returns-clause-err
returns-clause-err g c = c.perform_step.ensures.meets.err

pub returns-clause-out_of_memory : goal.returns-clause-out_of_memory
returns-clause-out_of_memory g c = c.perform_step.ensures.meets.out_of_memory
