-- What is claimed of the constants of an image.
use Rattle.std.specs.Prelude.{List, ◌↔◌}
use Rattle.herm_model.specs.Lists.{IsIn}
use Rattle.herm_model.specs.Types.{TypeTable}
use Rattle.herm_model.specs.Expressions.{Literal}
use Rattle.herm_model.specs.Statements.{Differ}
use Rattle.herm_model.specs.Nodes.{Node}
use Rattle.herm_translated.specs.CodeBlocks.{CheckedModule}
use Rattle.herm_translated.specs.Constants.{literals_in}
use Rattle.herm_translated.specs.Translated.{image_for}

-- some statement of the modules has the literal
pub record HasLiteral (modules : List CheckedModule) (l : Literal) : Type 0 where
  pub its_module : CheckedModule
  pub its_node : Node
  pub is_module : IsIn its_module modules
  pub is_node : IsIn its_node its_module.code.nodes
  pub is_literal : IsIn l (literals_in its_node.form)

-- The constants of an image are the literals of the statements of its modules, each once, and nothing else. Code reference, "Modules and images".
pub record HasItsConstants (types : TypeTable) (modules : List CheckedModule) : Type 0 where
  pub literals : (l : Literal) → IsIn l (image_for types modules).constants ↔ HasLiteral modules l
  pub once : Differ (image_for types modules).constants

abbrev pub ImagesHaveTheirConstants : Type 0
ImagesHaveTheirConstants = (types : TypeTable) (modules : List CheckedModule) → HasItsConstants types modules
