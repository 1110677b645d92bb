use Rattle.std.proofs.Common.{◌≡◌, ◌∙◌, map, None}
use Rattle.herm_numbers.specs.Faults.{name_fault_view}
use Rattle.herm_resolve.proofs.Refusing.{marked_next}
use Rattle.herm_resolve.proofs.process.add_unreached.Goals as goal

pub found-preserved : goal.found-preserved
found-preserved c =
    marked_next c.args.module_number c.args.found.now c.args.marks.now c.found.place (record { span = record { start = 0; end = 0 }; code = None }) (map name_fault_view c.found.faults.items) (map name_fault_view c.add_mark.new.faults.items) c.found-test.true c.requires.each c.in_ok-add_mark.ensures.added
    ∙ c.found.invariant
