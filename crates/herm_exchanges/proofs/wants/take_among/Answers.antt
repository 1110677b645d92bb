use Rattle.std.proofs.Common.{Some}
use Rattle.herm_exchanges.proofs.Told.{among_told, first_told}
use Rattle.herm_exchanges.proofs.wants.take_among.Goals as goal

pub returns-in-Some-inport_at : goal.returns-in-Some-inport_at
returns-in-Some-inport_at c = record {
  want = λ s w h e.
      first_told c.args.arms.now c.in-Some.arm.now c.in-Some.field-0-1.now s w (Some c.in-Some-inport_at.first.number) c.in-Some.ensures.cases.0 (c.in-Some-inport_at.ensures.port s h) e;
  exactly = λ s h. among_told c.args.arms.now c.in-Some.arm.now c.in-Some.field-0-1.now s (Some c.in-Some-inport_at.first.number) c.in-Some.ensures.cases.0 (c.in-Some-inport_at.ensures.port s h);
}
