use Rattle.std.proofs.Common.{sym, subst}
use Rattle.std.specs.Prelude.{⊤}
use Rattle.herm_journal.specs.Messages.{CellWant}
use Rattle.herm_machine.specs.Gots.{FitsWant}
use Rattle.herm_machine.specs.declared.order.Got.{Got}
use Rattle.herm_process.specs.Entries.{IsEntryOf, IsFor}
use Rattle.herm_process.proofs.GotTold.{left-entry}
use Rattle.herm_process.proofs.settling.told_entry.Goals as goal

pub returns-in_ok-entry-in-Left : goal.returns-in_ok-entry-in-Left
returns-in_ok-entry-in-Left c =
    let e = c.in_ok-entry-in-Left.entry in
    let p = c.args.number.number in
    record {
      entry = subst (λ (g : Got). (w : CellWant ⊤) → IsFor c.args.ordered.now w → FitsWant g w → IsEntryOf p e.0 e.1 g w) (sym c.in-Left.is)
          (left-entry c.args.ordered.now c.in-Left.left c.port_of-in-Left.result.number p e.0 e.1 c.port_of-in-Left.ensures.close (c.in_ok-entry-in-Left.ensures.entry p));
    }

pub returns-in_ok-entry-in-Answered : goal.returns-in_ok-entry-in-Answered
returns-in_ok-entry-in-Answered c =
    let e = c.in_ok-entry-in-Answered.entry in
    let p = c.args.number.number in
    record { entry = subst (λ (g : Got). (w : CellWant ⊤) → IsFor c.args.ordered.now w → FitsWant g w → IsEntryOf p e.0 e.1 g w) (sym c.in-Answered.is) (c.in_ok-entry-in-Answered.ensures.entry p) }
