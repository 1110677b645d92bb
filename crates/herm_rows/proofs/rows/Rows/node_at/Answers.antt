use Rattle.std.specs.Prelude.{◌-◌}
use Rattle.std.proofs.Common.{arith}
use Rattle.herm_rows.proofs.Kept.{has-behind, some-behind}
use Rattle.herm_rows.proofs.rows.Rows.node_at.Goals as goal

pub node_behind-node-requires : goal.node_behind-node-requires
node_behind-node-requires g c =
    has-behind c.args.self.now c.loop-left.node (c.args.place - c.loop-left.left) c.loop-left.invariant.reached

pub unwrap-requires : goal.unwrap-requires
unwrap-requires g c =
    some-behind c.args.self.now c.loop-left.node (c.args.place - c.loop-left.left) (omega (arith, c.requires)) c.loop-left.invariant.reached
