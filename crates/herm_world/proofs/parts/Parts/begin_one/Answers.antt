use Rattle.herm_world.proofs.parts.Parts.begin_one.Goals as goal

pub returns-clause-begins : goal.returns-clause-begins
returns-clause-begins c = record { begun = c.in_ok-process.process; pushed = c.in_ok-push.ensures.items; parts = c.in_ok-process.ensures.parts; comes = c.in_ok-process.ensures.begins }
