-- Control through a part of the text, in one pass over it.
use Rattle.std.specs.Prelude.{ℕ, zero, suc, List, [], ◌∷◌, ◌++◌, map, get_or, set, Bool, true, false, not, cond, ◌||◌}
use Rattle.herm_model.specs.Lists.{list_of}
use Rattle.herm_model.specs.Types.{TypeTable}
use Rattle.herm_model.specs.Calls.{call_raises}
use Rattle.herm_model.specs.Statements.{Form, Call, Statement, simple, choosing, repeating, leaving, trying, Block, no_statements, statement, Blocks, no_blocks, block, Handlers, no_handlers, handler}
use Rattle.herm_model.specs.Outcomes.{disconnected, exceptions, normal_outcomes}
use Rattle.herm_typed.specs.declared.statements.TypedForm.{TypedForm}
use Rattle.herm_typed.specs.View.{typed_form_view, form_of_statement}

-- What control does in a part of the text: whether it goes on behind the part; whether it leaves the loop around it; the exceptions
-- that it is left by, each once or more; and for each statement, in the order of the text, whether control does not lead to it. A `try`
-- is never marked.
pub record Control : Type 0 where
  pub on : Bool
  pub out : Bool
  pub raised : List ℕ
  pub marks : List Bool

abbrev pub is_nil : {X : Type 0} → List X → Bool
is_nil [] = true
is_nil (x ∷ xs) = false

-- the exceptions of a form, in any order
abbrev pub can_raise : TypeTable → List ℕ → Form → List ℕ
can_raise types variables (Call o arguments) = disconnected ∷ map (λ r. r.exception) (call_raises types variables o)
can_raise types variables form = exceptions types variables form

-- what a form raises where control leads to it or not
abbrev pub raised_at : TypeTable → List ℕ → Form → (here : Bool) → List ℕ
raised_at types variables form here = cond here (can_raise types variables form) []

-- whether control goes on behind a form without blocks
abbrev pub passes : Form → (here : Bool) → Bool
passes form here = cond (is_nil (normal_outcomes form)) false here

-- one part behind another, and one beside another
abbrev pub behind : Control → Control → Control
behind a b = record { on = b.on; out = a.out || b.out; raised = a.raised ++ b.raised; marks = a.marks ++ b.marks }

abbrev pub beside : Control → Control → Control
beside a b = record { on = a.on || b.on; out = a.out || b.out; raised = a.raised ++ b.raised; marks = a.marks ++ b.marks }

-- A set of exceptions, as a table by their numbers: with one more, with more, and the numbers that are in it.
abbrev pub raise_one : List Bool → ℕ → List Bool
raise_one [] zero = true ∷ []
raise_one [] (suc e) = false ∷ raise_one [] e
raise_one (b ∷ bs) zero = true ∷ bs
raise_one (b ∷ bs) (suc e) = b ∷ raise_one bs e

abbrev pub raise_all : List Bool → List ℕ → List Bool
raise_all bs [] = bs
raise_all bs (e ∷ es) = raise_all (raise_one bs e) es

abbrev pub members : (from : ℕ) → List Bool → List ℕ
members from [] = []
members from (b ∷ bs) = cond b (from ∷ []) [] ++ members (suc from) bs

module _ (types : TypeTable) (variables : List ℕ) where
  -- Control through a part, where it leads to its beginning or not. It goes into each block of a choice; behind a loop and into
  -- its block from the loop. A handler is gone into where its exception is raised in the block of the `try`; what no handler
  -- takes is raised further out.
  abbrev mutual
    pub control : Statement → (here : Bool) → Control
    control (simple form) here = record { on = passes form here; out = false; raised = raised_at types variables form here; marks = not here ∷ [] }
    control (choosing form blocks) here = record {
      on = (control_of_blocks blocks here).on;
      out = (control_of_blocks blocks here).out;
      raised = raised_at types variables form here ++ (control_of_blocks blocks here).raised;
      marks = not here ∷ (control_of_blocks blocks here).marks;
    }
    control (repeating form body) here = record {
      on = here;
      out = false;
      raised = raised_at types variables form here ++ (control_of_block body here).raised;
      marks = not here ∷ (control_of_block body here).marks;
    }
    control leaving here = record { on = false; out = here; raised = []; marks = not here ∷ [] }
    control (trying body handlers) here = record {
      on = (control_of_block body here).on || (control_of_handlers handlers (raise_all [] (control_of_block body here).raised)).on;
      out = (control_of_block body here).out || (control_of_handlers handlers (raise_all [] (control_of_block body here).raised)).out;
      raised = (control_of_handlers handlers (raise_all [] (control_of_block body here).raised)).raised;
      marks = false ∷ ((control_of_block body here).marks ++ (control_of_handlers handlers (raise_all [] (control_of_block body here).raised)).marks);
    }

    pub control_of_block : Block → (here : Bool) → Control
    control_of_block no_statements here = record { on = here; out = false; raised = []; marks = [] }
    control_of_block (statement s rest) here = behind (control s here) (control_of_block rest (control s here).on)

    pub control_of_blocks : Blocks → (here : Bool) → Control
    control_of_blocks no_blocks here = record { on = false; out = false; raised = []; marks = [] }
    control_of_blocks (block b rest) here = beside (control_of_block b here) (control_of_blocks rest here)

    pub control_of_handlers : Handlers → (inner : List Bool) → Control
    control_of_handlers no_handlers inner = record { on = false; out = false; raised = members 0 inner; marks = [] }
    control_of_handlers (handler e b rest) inner = beside (control_of_block b (get_or inner e false)) (control_of_handlers rest (set inner e false))

-- what a statement of the code raises by itself, where control leads to it or not; a `try` raises nothing
abbrev pub form_raises : TypeTable → List ℕ → TypedForm → List ℕ
form_raises types variables form = list_of (can_raise types variables) (form_of_statement (typed_form_view form))

abbrev pub raises_here : TypeTable → List ℕ → TypedForm → (here : Bool) → List ℕ
raises_here types variables form here = cond here (form_raises types variables form) []

-- the blocks of an `if`
abbrev pub two_blocks : Block → Block → Blocks
two_blocks b c = block b (block c no_blocks)
