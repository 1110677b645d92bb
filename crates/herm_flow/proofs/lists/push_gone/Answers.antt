use Rattle.std.proofs.Common.{rules, ◌≡◌, length}
use Rattle.herm_flow.proofs.ListedEdges.{gone_empty}
use Rattle.herm_flow.proofs.lists.push_gone.Goals as goal

pub returns-then-is_empty-clause-paths : goal.returns-then-is_empty-clause-paths
returns-then-is_empty-clause-paths c = let empty : length c.args.paths.items ≡ 0 = search rules in gone_empty c.args.gone.now.items c.args.paths.items c.requires.few empty
