use Rattle.std.proofs.Common.{[], ◌∷◌, refl, sym, true≢false}
use Rattle.herm_model.specs.examples.RefusedProcesses.{calls, denies, on_busy}
use Rattle.herm_model.specs.examples.TypedExamples.{ring_types, ring_node, ring_main, sender_types, sender, two_senders, keeping_types, item_types, items_in_a_table}
use Rattle.herm_model.proofs.DecidedPrograms.{test-programs}
use Rattle.herm_model.proofs.typed_examples.programs_are_typed.Goals as goal

pub returns : goal.returns
returns c = record {
  ring = (test-programs 7 ring_types (ring_node ∷ ring_main ∷ []) 1).0 refl;
  senders = (test-programs 7 sender_types (sender ∷ two_senders ∷ []) 1).0 refl;
  kept = (test-programs 8 keeping_types (denies [] ∷ calls on_busy ∷ []) 1).0 refl;
  items = (test-programs 7 item_types (items_in_a_table ∷ []) 0).0 refl;
  no_main = λ t. true≢false (sym ((test-programs 7 ring_types (ring_node ∷ ring_main ∷ []) 0).1 t));
  no_such_process = λ t. true≢false (sym ((test-programs 7 ring_types (ring_node ∷ ring_main ∷ []) 2).1 t));
}
