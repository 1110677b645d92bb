use Rattle.std.proofs.Common.{◌≡◌, ◌++◌, map, drop}
use Rattle.herm_model.specs.Nodes.{starts}
use Rattle.herm_flow.specs.View.{target_view}
use Rattle.herm_flow.specs.Parts.{blocks_of}
use Rattle.herm_flow.proofs.starts.starts_of.Given as goal

-- What was found, with what is left, is the whole.
abbrev pub invariant-each : goal.invariant-each
invariant-each l = map target_view l.found.items ++ starts (blocks_of (map (λ b. b.now) (drop l.block-index l.blocks))) l.at (target_view l.behind) ≡ starts (blocks_of (map (λ b. b.now) l.blocks)) l.fn.from (target_view l.behind)
