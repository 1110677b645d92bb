-- The checked modules that the processes of an accepted program are.
use Rattle.std.specs.Prelude.{◌≡◌, ℕ, List, [], ◌∷◌, map, length}
use Rattle.herm_model.specs.Types.{TypeTable}
use Rattle.herm_forms.specs.Modules.{module_of}
use Rattle.herm_meaning.specs.Names.{NamedTable}
use Rattle.herm_source.specs.Modules as source
use Rattle.herm_typed.specs.declared.statements.TypedProcess.{TypedProcess}
use Rattle.herm_typed.specs.View.{typed_process_view}
use Rattle.herm_typestate.specs.declared.labels.Labels.{Labels}
use Rattle.herm_resolve.specs.declared.program.Program.{Program}
use Rattle.herm_check.specs.View.{labels_view}
use Rattle.herm_coerce.specs.declared.coercions.Coercions.{Coercions}
use Rattle.herm_coerce.specs.View.{coercions_view}
use Rattle.herm_accept.specs.declared.accepting.Accepted.{Accepted}
use Rattle.herm_instructions.specs.Images.{Image}
use Rattle.herm_code.specs.declared.modules.CodeModule.{CodeModule}
use Rattle.herm_code.specs.View.{CodeImage, image_view}
use Rattle.herm_translated.specs.CodeBlocks.{CheckedModule}
use Rattle.herm_translated.specs.Translated.{image_for}
use Rattle.herm_good_images.specs.CheckedModules.{AreCheckedModules}
use Rattle.herm_simulation.specs.laws.CheckedCode.{modules_of, DoesAsSource}
use Rattle.herm_blocks.specs.CheckedProcesses.{held_lists}

-- A process made ready with its labels, the facts of each as a list, and the paths that are dropped. Code reference, "Blocks".
abbrev pub checked_module : TypeTable → TypedProcess → Labels → Coercions → CheckedModule
checked_module types p labels coercions = record {
  code = module_of types (typed_process_view p) (labels_view labels);
  facts = held_lists types (typed_process_view p).variables labels.at.items;
  entry_drops = (coercions_view coercions).entry;
  drops = (coercions_view coercions).at;
}

-- those of processes, in order
abbrev pub checked_modules : TypeTable → List TypedProcess → List Labels → List Coercions → List CheckedModule
checked_modules types [] labels coercions = []
checked_modules types (p ∷ ps) [] coercions = []
checked_modules types (p ∷ ps) (l ∷ ls) [] = []
checked_modules types (p ∷ ps) (l ∷ ls) (c ∷ cs) = checked_module types p l c ∷ checked_modules types ps ls cs

-- the processes of a program by number, and main, over these types
abbrev pub program_view : TypeTable → Program → source.Program
program_view types p = record { types = types; processes = map typed_process_view p.processes.items; main = p.main }

abbrev pub modules_of_program : TypeTable → Program → Accepted → List CheckedModule
modules_of_program types p a = checked_modules types p.processes.items a.labels.items a.coercions.items

-- the image of an accepted program. Code reference, "Modules and images".
abbrev pub image_of : TypeTable → Program → Accepted → Image
image_of types p a = image_for types (modules_of_program types p a)

-- An image stands for a program over these types: it is that of checked modules of the program, it is good, and its code does what the processes
-- of the program do. Code reference, "Standing for a process".
pub record StandsForProgram (types : NamedTable) (program : source.Program) (i : CodeImage) : Type 0 where
  pub modules : List CheckedModule
  pub checked : AreCheckedModules (length types.exceptions) program modules
  pub types_are : i.types ≡ types
  pub image : image_view i ≡ image_for program.types modules
  pub does : DoesAsSource (length types.exceptions) program (modules_of program modules) modules

-- the names of the modules of an image, by number
abbrev pub module_names : CodeImage → List (List ℕ)
module_names i = map (λ (m : CodeModule). m.name) i.modules

-- the names of processes, by number
abbrev pub process_names : List TypedProcess → List (List ℕ)
process_names ps = map (λ (p : TypedProcess). p.name.text) ps
