use Rattle.std.proofs.Common.{◌≡◌, option_map, rules}
use Rattle.herm_links.specs.Lists.{first_node}
use Rattle.herm_rows.proofs.Placed.{first-stands}
use Rattle.herm_rows.proofs.rows.Rows.first.Goals as goal

pub returns-clause-stands : goal.returns-clause-stands
returns-clause-stands g c =
    let first : option_map (λ n. n.0) c.front.result ≡ first_node c.args.self.now = search rules in
    first-stands c.args.self.now c.front.result first
