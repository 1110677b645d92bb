use Rattle.herm_queue.proofs.CellsSeen.{actions-fit, actions-lead, actions-are_recorded, holdings-are_told}
use Rattle.herm_queue.proofs.StampsOfPlaces.{actions-are_stamped}
use Rattle.herm_queue.proofs.laws.cells_are_places.Goals as goal

pub returns-clause-fit : goal.returns-clause-fit
returns-clause-fit c = actions-fit

pub returns-clause-lead : goal.returns-clause-lead
returns-clause-lead c = actions-lead

pub returns-clause-recorded : goal.returns-clause-recorded
returns-clause-recorded c = actions-are_recorded

pub returns-clause-stamped : goal.returns-clause-stamped
returns-clause-stamped c = actions-are_stamped

pub returns-clause-told : goal.returns-clause-told
returns-clause-told c = holdings-are_told
