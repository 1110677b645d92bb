-- A call at a statement: what it lends, and which replies it waits for.
use Rattle.std.specs.Prelude.{ℕ, List, Option, Some, None, option_and_then, slice_get}
use Rattle.herm_model.specs.Paths.{Path}
use Rattle.herm_model.specs.Expressions.{Atom}
use Rattle.herm_model.specs.Statements.{Form, Call}
use Rattle.herm_forms.specs.Modules.{Module}
use Rattle.herm_forms.specs.Acts.{arguments_at, is_inout}
use Rattle.herm_model.specs.Calls.{message_type, inport_at}
use Rattle.herm_journal.specs.Messages.{CellReply, types_back, types_kept, IsReplyTo}

-- a call at a node: the outport's path, and the arguments
pub record Calling : Type 0 where
  pub port : Path
  pub arguments : List Atom

abbrev pub calling_form : Form → Option Calling
calling_form (Call o arguments) = Some (record { port = o; arguments = arguments })
calling_form _ = None

-- the arguments of mode inout, whose values are gone while the call is open
abbrev pub lent_paths : Module → Calling → List Path
lent_paths c k = arguments_at c is_inout k.port k.arguments

-- the type of the callmessage of a call
abbrev pub call_type : Module → Calling → Option ℕ
call_type c k = option_and_then message_type (option_and_then (slice_get c.types) (inport_at c.types c.variables k.port))

-- the types of the parameters that come back of a call, and of those that an exception keeps
abbrev pub returned_types : Module → Calling → List ℕ
returned_types c k = types_back c.types (call_type c k)

abbrev pub kept_types : Module → Calling → (exception : ℕ) → List ℕ
kept_types c k e = types_kept c.types (call_type c k) e

-- The reply is one that the call waits for. Language reference, "Calls".
abbrev pub IsReply : {N : Type 0} → Module → Calling → CellReply N → Type 0
IsReply c k r = IsReplyTo c.types (call_type c k) r
