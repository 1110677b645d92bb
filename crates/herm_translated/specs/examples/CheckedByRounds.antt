-- Processes with labels in rounds, for computed examples: what a check gives of them.
use Rattle.std.specs.Prelude.{ℕ, List, map, Bool}
use Rattle.herm_model.specs.Lists.{list_of, numbered}
use Rattle.herm_model.specs.Paths.{Path, Fact, init}
use Rattle.herm_model.specs.Types.{TypeTable}
use Rattle.herm_model.specs.Statements.{Process}
use Rattle.herm_model.specs.Nodes.{entry_of}
use Rattle.herm_model.specs.Labels as labels
use Rattle.herm_model.specs.ControlPaths.{Edge, Point, flow_of, held_after_edge, held_at_start}
use Rattle.herm_model.specs.Finalising.{excess}
use Rattle.herm_forms.specs.Modules.{module_of}
use Rattle.herm_source.specs.LabelRounds.{LabelLists, rounds, first_labels, has_label}
use Rattle.herm_source.specs.Modules.{Program}
use Rattle.herm_instructions.specs.Images.{Image}
use Rattle.herm_translated.specs.CodeBlocks.{CheckedModule}
use Rattle.herm_translated.specs.Translated.{image_for}

-- what is dropped where control goes on with a label, and these facts are held
abbrev pub dropped_at : TypeTable → (variables : List ℕ) → (held low : Fact → Bool) → List Path
dropped_at types variables held low = excess types variables (λ p. held (init p)) (λ p. low (init p))

abbrev pub dropped_along : TypeTable → (variables : List ℕ) → LabelLists → (place : ℕ) → Edge → List Path
dropped_along types variables ls i e = dropped_at types variables (λ f. held_after_edge e f (has_label ls i f)) (labels.label_at (has_label ls) e.target)

abbrev pub checked_with : TypeTable → Process → LabelLists → CheckedModule
checked_with types p ls = record {
  code = module_of types p (has_label ls);
  facts = map (list_of (λ facts. facts)) ls;
  entry_drops = dropped_at types p.variables held_at_start (labels.label_at (has_label ls) (entry_of p));
  drops = map (λ (at : ℕ × Point). map (dropped_along types p.variables ls at.0) (at.1).edges) (numbered 0 (flow_of types p).points);
}

abbrev pub checked_by : ℕ → TypeTable → Process → CheckedModule
checked_by n types p = checked_with types p (rounds n (flow_of types p).points (first_labels (flow_of types p)))

-- the modules of a program after so many rounds, and its image
abbrev pub modules_by : ℕ → Program → List CheckedModule
modules_by n program = map (checked_by n program.types) program.processes

abbrev pub image_by : ℕ → Program → Image
image_by n program = image_for program.types (modules_by n program)
