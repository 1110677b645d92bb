-- The checked module that a process is with what its check gives.
use Rattle.std.specs.Prelude.{◌≡◌, ℕ, List, map}
use Rattle.herm_model.specs.Paths.{Fact}
use Rattle.herm_model.specs.Types.{TypeTable}
use Rattle.herm_model.specs.ControlPaths.{flow_of}
use Rattle.herm_forms.specs.Modules.{module_of}
use Rattle.herm_typed.specs.View.{typed_process_view}
use Rattle.herm_typestate.specs.declared.state.State.{State}
use Rattle.herm_typestate.specs.Facts.{has_fact}
use Rattle.herm_flow.specs.View.{flow_view}
use Rattle.herm_check.specs.View.{labels_view}
use Rattle.herm_coerce.specs.View.{coercions_view}
use Rattle.herm_translated.specs.CodeBlocks.{CheckedModule}
use Rattle.herm_fronts.specs.Held.{held_facts}
use Rattle.herm_blocks.specs.declared.checked.CheckedProcess.{CheckedProcess}

-- the facts of each label: by variables, and then by parts
abbrev pub held_lists : TypeTable → (variables : List ℕ) → List State → List (List Fact)
held_lists table variables states = map (λ s. held_facts table (has_fact s) variables) states

-- The process made ready, the facts of each label as a list, and the paths that are dropped. Code reference, "Blocks".
abbrev pub checked_view : TypeTable → CheckedProcess → CheckedModule
checked_view types c = record {
  code = module_of types (typed_process_view c.process.now) (labels_view c.labels.now);
  facts = held_lists types (typed_process_view c.process.now).variables c.labels.now.at.items;
  entry_drops = (coercions_view c.coercions.now).entry;
  drops = (coercions_view c.coercions.now).at;
}

-- it stands with its flow; Language reference, "Control"
abbrev pub HasFlow : TypeTable → CheckedProcess → Type 0
HasFlow types c = flow_view c.flow.now ≡ flow_of types (typed_process_view c.process.now)
