use Rattle.std.proofs.Common.{subst, map, arith}
use Rattle.herm_meaning.specs.Names.{NamedTable}
use Rattle.herm_meaning.specs.Marks.{places}
use Rattle.herm_meaning.specs.Meaning.{outline}
use Rattle.herm_defs.specs.Seen.{item_seen}
use Rattle.herm_defs.specs.Judged.{JudgesItem}
use Rattle.herm_defs.proofs.Judging.{items-next, items-end}
use Rattle.herm_defs.proofs.marks.faults_of.Goals as goal

pub loop-item-preserved : goal.loop-item-preserved
loop-item-preserved c =
    let judges = subst (λ (table : NamedTable). JudgesItem table c.item-item.result.0 c.item-item.result.1.now c.loop-item.t c.loop-item.e c.in_ok-next.next c.loop-item.faults.items c.judge_item.new.faults.items) c.in_ok-context.ensures c.in_ok-next.ensures.judges in
    record {
      types = omega (arith, c.in_ok-next.ensures.few.0, c.loop-item.invariant.types);
      exceptions = omega (arith, c.in_ok-next.ensures.few.1, c.loop-item.invariant.exceptions);
      faults = items-next (outline (map item_seen c.args.items.now)) c.args.items.now c.loop-item.item-index c.item-item.result c.loop-item.t c.loop-item.e c.in_ok-next.next c.loop-item.faults.items c.judge_item.new.faults.items (places (map item_seen c.args.items.now)) c.loop-item-test.true c.item-item.is judges c.loop-item.invariant.faults;
    }

pub returns : goal.returns
returns c = items-end (outline (map item_seen c.args.items.now)) c.args.items.now c.loop-item.item-index c.loop-item.t c.loop-item.e c.loop-item.faults.items (places (map item_seen c.args.items.now)) c.loop-item-test.false c.loop-item.invariant.faults
