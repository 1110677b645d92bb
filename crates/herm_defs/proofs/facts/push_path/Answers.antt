use Rattle.herm_defs.proofs.FactLaws.{key-more}
use Rattle.herm_defs.proofs.facts.push_path.Goals as goal

pub loop-name-preserved : goal.loop-name-preserved
loop-name-preserved c = key-more c.args.path.now c.loop-name.name-index c.name-item.result c.loop-name.bytes.items c.push_name.new.bytes.items _ c.loop-name-test.true c.name-item.is c.in_ok-push_name.ensures c.loop-name.invariant
