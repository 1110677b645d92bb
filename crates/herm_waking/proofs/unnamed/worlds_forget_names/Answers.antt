use Rattle.herm_waking.proofs.RoundsForgotten.{openings-forget, work-forgets, rounds-forget, schedules-forget}
use Rattle.herm_waking.proofs.unnamed.worlds_forget_names.Goals as goal

pub returns : goal.returns
returns g c = record {
  begins = λ machine nameless without forgets. openings-forget machine nameless without forgets;
  steps = λ machine nameless without forgets. work-forgets machine nameless without forgets;
  rounds = λ machine nameless without forgets. rounds-forget machine nameless without forgets;
  schedules = λ machine nameless without forgets. schedules-forget machine nameless without forgets;
}
