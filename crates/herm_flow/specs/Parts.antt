-- The blocks within a statement, as lists.
use Rattle.std.specs.Prelude.{◌≡◌, List, [], ◌∷◌, ◌++◌, map, flat_map, Option, Some, None, Vec, ⊤}
use Rattle.std.specs.Global.{Global}
use Rattle.herm_model.specs.Lists.{map_or}
use Rattle.herm_model.specs.Statements.{Form, Leave, Statement, simple, choosing, repeating, leaving, trying, Blocks, no_blocks, block, branching_of, goes_on}
use Rattle.herm_typed.specs.declared.statements.TypedStmt.{TypedStmt}
use Rattle.herm_typed.specs.declared.statements.TypedForm.{TypedForm}
use Rattle.herm_typed.specs.View.{typed_form_view, typed_stmts_view, form_of_statement}
use Rattle.herm_typed.specs.Within.{all_statements}
use Rattle.herm_typed.specs.Blocks.{handlers_list}
use Rattle.herm_flow.specs.declared.parts.Parts.{Parts}
use Rattle.herm_flow.specs.declared.parts.Parts.TheVariants.{Simple, Choosing, Repeating, Leaving, Trying}

-- the statements behind `else`, none where there is no `else`
abbrev pub else_list : Option (Vec TypedStmt Global) → List TypedStmt
else_list None = []
else_list (Some body) = body.items

abbrev pub blocks_of : List (List TypedStmt) → Blocks
blocks_of [] = no_blocks
blocks_of (b ∷ bs) = block (typed_stmts_view b) (blocks_of bs)

-- what a statement says by itself; it does not matter what a `try` says
abbrev pub own_form : TypedForm → Form
own_form form = map_or Leave (λ f. f) (form_of_statement (typed_form_view form))

-- the statement that says this by itself and has these parts
abbrev pub seen_as : Form → Parts → Statement
seen_as f Simple = simple f
seen_as f (Choosing blocks) = choosing f (blocks_of (map (λ b. b.now) blocks.items))
seen_as f (Repeating body) = repeating f (typed_stmts_view body.now)
seen_as f Leaving = leaving
seen_as f (Trying body handled) = trying (typed_stmts_view body.now) (handlers_list handled.now)

-- what has no parts goes on in one way or by an exception; a `leave` says that it leaves
abbrev pub GoesOn : Form → Parts → Type 0
GoesOn f Simple = branching_of f ≡ goes_on
GoesOn f (Choosing blocks) = ⊤
GoesOn f (Repeating body) = ⊤
GoesOn f Leaving = f ≡ Leave
GoesOn f (Trying body handled) = ⊤

-- all statements within the parts, in order
abbrev pub within : Parts → List TypedStmt
within Simple = []
within (Choosing blocks) = flat_map all_statements (map (λ b. b.now) blocks.items)
within (Repeating body) = all_statements body.now
within Leaving = []
within (Trying body handled) = all_statements body.now ++ flat_map (λ h. all_statements h.1.items) handled.now
