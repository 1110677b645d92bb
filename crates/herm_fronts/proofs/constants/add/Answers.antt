use Rattle.std.proofs.Common.{map, ap, ◌∙◌}
use Rattle.herm_fronts.specs.View.{key_view}
use Rattle.herm_fronts.specs.Shared.{with_literal}
use Rattle.herm_fronts.specs.contracts.constants.KeyPartialEq.TheImpl.{eq-value}
use Rattle.herm_fronts.proofs.Keys.{key_same, with_key}
use Rattle.herm_fronts.proofs.constants.add.Goals as goal

pub returns : goal.returns
returns c = ap (map key_view) c.in_ok-insert.ensures.keys ∙ (with_key (eq-value).it key_same c.args.keys.now.keys c.in_ok-key.key ∙ ap (with_literal (map key_view c.args.keys.now.keys)) c.in_ok-key.ensures)
