-- What is sound within one process: its values against the facts of its point and against its types.
use Rattle.std.specs.Prelude.{ℕ, List, [], ◌∷◌, filter, nat_eq, Option, Some, None, option_and_then, IsTrue, IsFalse, ◌≡◌, find}
use Rattle.herm_model.specs.Lists.{IsIn, list_of, any_pass}
use Rattle.herm_model.specs.Paths.{Path, Fact, path_of, is_at_or_below}
use Rattle.herm_model.specs.Types.{type_at}
use Rattle.herm_model.specs.Statements.{Form, For}
use Rattle.herm_model.specs.Nodes.{Node}
use Rattle.herm_model.specs.Targets.{Target, node, end, end_by}
use Rattle.herm_model.specs.Values.{Cell, cell, no_parts, gap, part}
use Rattle.herm_model.specs.FactsOfValues.{HasExactly}
use Rattle.herm_model.specs.Typed.{HaveTypes, Fits, many}
use Rattle.herm_model.specs.Finalising.{waits}
use Rattle.herm_forms.specs.Frames.{Loop}
use Rattle.herm_forms.specs.LeavingLoops.{is_inside}
use Rattle.herm_forms.specs.Modules.{Module}
use Rattle.herm_source.specs.States.{State, node_at}
use Rattle.herm_forms.specs.OpenCalls.{lent_paths, Calling, calling_form}

-- the call at a process's point
abbrev pub calling : {N : Type 0} → Module → State N → Option Calling
calling c s = option_and_then (λ (n : Node). calling_form n.form) (node_at c s.point)

abbrev pub open_loans : {N : Type 0} → Module → State N → List Path
open_loans c s = list_of (λ call. list_of (lent_paths c) (calling c s)) s.frame.call

-- the label of a point has the fact; at an end none does
abbrev pub IsLabelled : Module → Target → Fact → Type 0
IsLabelled c (node i) f = IsTrue (c.label i f)
IsLabelled c end f = ⊥
IsLabelled c (end_by e) f = ⊥

-- The facts that a process has: those of its point, but in an open call none at or below an argument of mode inout.
-- Language reference, "Sound states".
abbrev pub HasFact : {N : Type 0} → Module → State N → Fact → Type 0
HasFact c s f = IsLabelled c s.point f × IsFalse (any_pass (λ p. is_at_or_below p (path_of f)) (open_loans c s))

-- the type of the rows that the loop of a statement visits
abbrev pub row_of : Module → Form → Option ℕ
row_of c (For r t) = type_at c.types c.variables r
row_of c _ = None

abbrev pub row_type : Module → (statement : ℕ) → Option ℕ
row_type c l = option_and_then (λ (n : Node). row_of c n.form) (find (λ (n : Node). nat_eq n.number l) c.nodes)

-- the node of a point is inside the loop of a statement; at an end none is
abbrev pub IsAround : Module → Target → (loop : ℕ) → Type 0
IsAround c (node i) l = IsTrue (is_inside c i l)
IsAround c end l = ⊥
IsAround c (end_by e) l = ⊥

-- The list of a loop, among those of a process at a point: full rows of the loop's type, of a loop around the point, and the only list
-- of its loop. Language reference, "Loops".
abbrev pub IsListAt : {N : Type 0} → Module → Target → List (Loop N) → Loop N → Type 0
IsListAt c t loops l =
    (u : ℕ) × (row_type c l.statement ≡ Some u) × Fits c.types (many u) l.rows × IsAround c t l.statement × (filter (λ m. nat_eq m.statement l.statement) loops ≡ l ∷ [])

-- an inport or a callmessage without parts
abbrev pub IsItem : {N : Type 0} → Cell N → Type 0
IsItem (cell n k no_parts) = IsTrue (waits k)
IsItem (cell n k (gap ps)) = ⊥
IsItem (cell n k (part c ps)) = ⊥

-- A process has values exactly where its facts say, each of its type; the rows that a loop has yet to visit are full
-- values of the row's type, in one list for a loop around its point and in none for others; a call is open only at a call; and the work list has inports and callmessages alone.
-- Language reference, "Sound states".
pub record IsLocallySound {N : Type 0} (c : Module) (s : State N) : Type 0 where
  pub values : HasExactly s.frame.variables (HasFact c s)
  pub types : HaveTypes c.types c.variables s.frame.variables
  pub loops : (l : Loop N) → IsIn l s.frame.loops → IsListAt c s.point s.frame.loops l
  pub call : (k : ℕ) → s.frame.call ≡ Some k → (call : Calling) × (calling c s ≡ Some call)
  pub work : (item : Cell N) → IsIn item s.frame.work → IsItem item
