use Rattle.herm_runs.proofs.DiariesTold.{suits-nameless, nameless-suits}
use Rattle.herm_runs.proofs.diaries.suiting_forgets_names.Goals as goal

pub returns : goal.returns
returns g c = record { both = λ machine nameless without forgets x at a. (suits-nameless machine nameless without forgets x at a, nameless-suits machine nameless without forgets x at a) }
