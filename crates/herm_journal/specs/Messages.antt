-- What travels where messages are cells, which messages a port takes, and which replies a call.
use Rattle.std.specs.Prelude.{ℕ, List, [], ◌∷◌, map, filter, flat_map, Bool, true, false, nat_eq, Option, Some, None, slice_get, option_and_then, IsTrue, ⊤}
use Rattle.herm_model.specs.Lists.{IsIn, list_of, any_pass}
use Rattle.herm_model.specs.Types.{TypeTable, Shape, inport, Parameter, Raised}
use Rattle.herm_model.specs.Facts.{declared_facts}
use Rattle.herm_model.specs.Calls.{message_type, parameters_of, raises_of, kept_for, is_returned}
use Rattle.herm_model.specs.Values.{Cell, part, no_parts}
use Rattle.herm_model.specs.FactsOfValues.{HasExactly}
use Rattle.herm_model.specs.Typed.{HasType, IsFull}
use Rattle.herm_journal.specs.Actions.{Reply, values, raised, gone, Want, Action}

-- what comes back of a call, what a process wants, and what was done, where messages are cells
abbrev pub CellReply : Type 0 → Type 0
CellReply N = Reply (List (Cell N))

abbrev pub CellWant : Type 0 → Type 0
CellWant N = Want (Cell N) (CellReply N)

abbrev pub CellAction : Type 0 → Type 0
CellAction N = Action (Cell N) (CellReply N)

-- the values of a reply
abbrev pub cells_in : {N : Type 0} → CellReply N → List (Cell N)
cells_in (values cs) = cs
cells_in (raised e cs) = cs
cells_in gone = []

abbrev pub is_inport : Option Shape → Bool
is_inport (Some (inport message declared)) = true
is_inport _ = false

-- the type of the messages of an inport type
abbrev pub message_of_port : TypeTable → ℕ → Option ℕ
message_of_port types t = option_and_then message_type (slice_get types t)

-- a value of the type, where there is one
abbrev pub OfType : {N : Type 0} → TypeTable → Option ℕ → Cell N → Type 0
OfType types None m = ⊥
OfType types (Some t) m = HasType types t m

-- The message has the type of a port's messages, and exactly the facts at which they travel.
-- Language reference, "Declared facts".
abbrev pub IsMessage : {N : Type 0} → TypeTable → (port : ℕ) → Cell N → Type 0
IsMessage types t m =
    OfType types (message_of_port types t) m × HasExactly (part m no_parts) (λ f. IsIn f (declared_facts types t (0 ∷ [])))

-- each is a full value of its type
abbrev pub AreFull : {N : Type 0} → TypeTable → List ℕ → List (Cell N) → Type 0
AreFull types [] [] = ⊤
AreFull types [] (c ∷ cs) = ⊥
AreFull types (t ∷ ts) [] = ⊥
AreFull types (t ∷ ts) (c ∷ cs) = IsFull types t c × AreFull types ts cs

-- the parameters of a call, by the type of its callmessage, and the exceptions that it may raise
abbrev pub parameters_for : TypeTable → (call : Option ℕ) → List Parameter
parameters_for types call = list_of parameters_of (option_and_then (slice_get types) call)

abbrev pub raises_for : TypeTable → (call : Option ℕ) → List Raised
raises_for types call = list_of raises_of (option_and_then (slice_get types) call)

-- the types of the parameters that come back of a call, and of those that an exception keeps
abbrev pub types_back : TypeTable → (call : Option ℕ) → List ℕ
types_back types call = map (λ (p : Parameter). p.content) (filter (λ (p : Parameter). is_returned p.mode) (parameters_for types call))

abbrev pub types_kept : TypeTable → (call : Option ℕ) → (exception : ℕ) → List ℕ
types_kept types call e =
    flat_map (λ i. list_of (λ (p : Parameter). p.content ∷ []) (slice_get (parameters_for types call) i)) (kept_for (raises_for types call) e)

abbrev pub types_of_reply : {N : Type 0} → TypeTable → (call : Option ℕ) → CellReply N → List ℕ
types_of_reply types call (values cs) = types_back types call
types_of_reply types call (raised e cs) = types_kept types call e
types_of_reply types call gone = []

-- The reply's values are full values of the types that a call with a callmessage of this type waits for, and an
-- exception is one that the type declares. Language reference, "Calls".
abbrev pub IsReplyTo : {N : Type 0} → TypeTable → (call : Option ℕ) → CellReply N → Type 0
IsReplyTo types call (values cs) = AreFull types (types_back types call) cs
IsReplyTo types call (raised e cs) = IsTrue (any_pass (λ (r : Raised). nat_eq r.exception e) (raises_for types call)) × AreFull types (types_kept types call e) cs
IsReplyTo types call gone = ⊤
