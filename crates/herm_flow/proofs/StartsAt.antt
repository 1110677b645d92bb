-- A part of the text begins at its first point, or leads to what is behind it.
use Rattle.std.proofs.Common.{◌≡◌, ℕ, ◌+◌, Option, Some, None, refl, ap, ◌∙◌}
use Rattle.herm_model.specs.Statements.{Statement, simple, choosing, repeating, leaving, trying, Block, no_statements, statement, nodes_of}
use Rattle.herm_model.specs.Targets.{Target, node}
use Rattle.herm_model.specs.Nodes.{start, start_of_block}
use Rattle.herm_flow.specs.Starts.{or_else, first_node, first_in_block}

abbrev pub place_of : Option ℕ → Target → Target
place_of None behind = behind
place_of (Some n) behind = node n

either_place : (a b : Option ℕ) (t : Target) → place_of a (place_of b t) ≡ place_of (or_else a b) t
either_place None b t = refl
either_place (Some n) b t = refl

mutual
  start_node : (s : Statement) (from : ℕ) (behind : Target) → start s from behind ≡ place_of (first_node s from) behind
  start_node (simple form) from behind = refl
  start_node (choosing form _) from behind = refl
  start_node (repeating form body) from behind = refl
  start_node leaving from behind = refl
  start_node (trying body _) from behind = start_first body from behind

  pub start_first : (b : Block) (from : ℕ) (behind : Target) → start_of_block b from behind ≡ place_of (first_in_block b from) behind
  start_first no_statements from behind = refl
  start_first (statement s rest) from behind =
      start_node s from (start_of_block rest (from + nodes_of s) behind)
      ∙ (ap (place_of (first_node s from)) (start_first rest (from + nodes_of s) behind)
      ∙ either_place (first_node s from) (first_in_block rest (from + nodes_of s)) behind)
