-- The nodes of a body and its loops, in one walk over the text.
use Rattle.std.specs.Prelude.{ℕ, ◌+◌, ◌-◌, List, [], ◌∷◌, ◌++◌, map}
use Rattle.herm_model.specs.Statements.{Form, Leave, Statement, simple, choosing, repeating, leaving, trying, Block, no_statements, statement, Blocks, no_blocks, block, Handlers, no_handlers, handler}
use Rattle.herm_forms.specs.Modules.{Span}
use Rattle.herm_fronts.specs.declared.nodes.Span.{Span as CodeSpan}
use Rattle.herm_fronts.specs.declared.nodes.Found.{Found}
use Rattle.herm_fronts.specs.Forms.{form_seen}

-- the forms of nodes, the loops, each behind those within it, and the number of the next statement
pub record Nodes : Type 0 where
  pub forms : List Form
  pub loops : List Span
  pub next : ℕ

abbrev pub span_view : CodeSpan → Span
span_view s = record { first = s.first; length = s.length }

abbrev pub found_view : Found → Nodes
found_view f = record { forms = map (λ form. form_seen form.now) f.forms.items; loops = map span_view f.loops.items; next = f.next }

abbrev pub no_nodes : Nodes
no_nodes = record { forms = []; loops = []; next = 1 }

-- one statement more
abbrev pub counted : Nodes → Nodes
counted w = record { forms = w.forms; loops = w.loops; next = w.next + 1 }

-- one node more
abbrev pub with_form : Form → Nodes → Nodes
with_form form w = record { forms = w.forms ++ form ∷ []; loops = w.loops; next = w.next + 1 }

-- a loop that ends before the next statement
abbrev pub with_loop : (first : ℕ) → Nodes → Nodes
with_loop first w = record { forms = w.forms; loops = w.loops ++ record { first = first; length = w.next - first } ∷ []; next = w.next }

abbrev mutual
  pub walk_statement : Statement → Nodes → Nodes
  walk_statement (simple form) w = with_form form w
  walk_statement (choosing form blocks) w = walk_blocks blocks (with_form form w)
  walk_statement (repeating form body) w = with_loop w.next (walk_block body (with_form form w))
  walk_statement leaving w = with_form Leave w
  walk_statement (trying body handlers) w = walk_handlers handlers (walk_block body (counted w))

  pub walk_block : Block → Nodes → Nodes
  walk_block no_statements w = w
  walk_block (statement s rest) w = walk_block rest (walk_statement s w)

  pub walk_blocks : Blocks → Nodes → Nodes
  walk_blocks no_blocks w = w
  walk_blocks (block b rest) w = walk_blocks rest (walk_block b w)

  pub walk_handlers : Handlers → Nodes → Nodes
  walk_handlers no_handlers w = w
  walk_handlers (handler e b rest) w = walk_handlers rest (walk_block b w)
