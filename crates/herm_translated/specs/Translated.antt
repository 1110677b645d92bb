-- The code of a process, and the image of a program.
use Rattle.std.specs.Prelude.{ℕ, List, map, flat_map}
use Rattle.herm_model.specs.Types.{TypeTable}
use Rattle.herm_model.specs.Expressions.{Literal}
use Rattle.herm_model.specs.Statements.{Form}
use Rattle.herm_model.specs.Nodes.{Node}
use Rattle.herm_instructions.specs.Images.{CodeModule, Image}
use Rattle.herm_translated.specs.Constants.{constants_of}
use Rattle.herm_translated.specs.Departures.{Departure, edge_length}
use Rattle.herm_translated.specs.CodeBlocks.{CheckedModule, CodeBlock, blocks_of, entry_edge}
use Rattle.herm_translated.specs.Layout.{Line, lines_of}
use Rattle.herm_translated.specs.BlockLabels.{comes_first, comes_again, labels_from}
use Rattle.herm_translated.specs.Settled.{settled}

-- The code module of an edge to where the process begins, and of blocks. Code reference, "Blocks".
abbrev pub laid_out : TypeTable → (variables : List ℕ) → List Literal → Departure → List CodeBlock → CodeModule
laid_out types variables constants entry blocks = record {
  variables = variables;
  code = map (λ (l : Line). l.instruction) (lines_of types variables constants entry blocks);
  landings = map (λ (l : Line). l.landings) (lines_of types variables constants entry blocks);
  labels = labels_from types variables constants (comes_first entry blocks) (comes_again blocks) 0 (edge_length entry) blocks;
}

-- The code of a process, over these constants. Code reference, "Blocks".
abbrev pub code_of : List Literal → CheckedModule → CodeModule
code_of constants m = laid_out m.code.types m.code.variables constants (entry_edge m) (blocks_of (settled m))

-- the forms of modules, in order
abbrev pub forms_in : List CheckedModule → List Form
forms_in modules = flat_map (λ (m : CheckedModule). map (λ (n : Node). n.form) m.code.nodes) modules

-- The image of a program of these modules: the literals of all are its constants. Code reference, "Modules and images".
abbrev pub image_for : TypeTable → List CheckedModule → Image
image_for types modules = record { modules = map (code_of (constants_of (forms_in modules))) modules; constants = constants_of (forms_in modules); types = types }
