use Rattle.std.proofs.Common.{◌∙◌}
use Rattle.herm_fronts.specs.contracts.constants.KeyPartialEq.TheImpl.{eq-value}
use Rattle.herm_fronts.proofs.Keys.{key_same, place_found, place_missing}
use Rattle.herm_fronts.proofs.constants.place_in.Goals as goal

pub returns-in-Some : goal.returns-in-Some
returns-in-Some c = place_found (eq-value).it key_same c.args.keys.now.keys c.args.key.now c.in-Some.place c.in-Some.ensures.index

pub returns-in-None : goal.returns-in-None
returns-in-None c = c.len.ensures.len ∙ place_missing (eq-value).it key_same c.args.keys.now.keys c.args.key.now c.in-None.ensures.index
