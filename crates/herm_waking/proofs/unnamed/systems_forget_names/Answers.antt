use Rattle.herm_waking.proofs.NamesForgotten.{standings-forget, awaited-forgets, turns-forget, steps-forget, kept-forgets}
use Rattle.herm_waking.proofs.unnamed.systems_forget_names.Goals as goal

pub returns : goal.returns
returns g c = record {
  standings = λ machine nameless without forgets. standings-forget machine nameless without forgets;
  awaited = λ machine nameless without forgets. awaited-forgets machine nameless without forgets;
  turns = λ machine nameless without forgets. turns-forget machine nameless without forgets;
  steps = λ machine nameless without forgets. steps-forget machine nameless without forgets;
  kept = λ machine nameless without forgets. kept-forgets machine nameless without forgets;
}
