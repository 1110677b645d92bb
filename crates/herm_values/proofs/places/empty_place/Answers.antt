use Rattle.herm_values.proofs.Filled.{full-from, low-from}
use Rattle.herm_values.proofs.places.empty_place.Goals as goal

pub returns-clause-empty : goal.returns-clause-empty
returns-clause-empty c = c.first_empty.ensures.empty

pub returns-clause-within : goal.returns-clause-within
returns-clause-within c = c.first_empty.ensures.within

pub returns-clause-full : goal.returns-clause-full
returns-clause-full c = full-from c.args.rows.now c.first_empty.result c.first_empty.ensures.first

pub returns-clause-low : goal.returns-clause-low
returns-clause-low c = low-from c.args.rows.now c.first_empty.result c.first_empty.ensures.first
