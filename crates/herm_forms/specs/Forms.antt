-- What each form does that is a local step: one function for each, which takes what is static as arguments.
use Rattle.std.specs.Prelude.{ℕ, List, [], true, false, cond, nat_eq, nat_lt, Option, Some, None}
use Rattle.herm_model.specs.Paths.{Path}
use Rattle.herm_model.specs.Outcomes.{ok, is_true, is_false, component, raised, depletion, case_error, polymorph_mismatch}
use Rattle.herm_model.specs.Values.{a_boolean, Kind, a_scalar, a_variant, a_polymorph, an_inport, an_outport, Cell, cell, Parts, no_parts, part, cell_at, polymorph_depth, Value}
use Rattle.herm_model.specs.FactsOfValues.{is_component}
use Rattle.herm_model.specs.Typed.{greatest_polymorph}
use Rattle.herm_forms.specs.Evaluate.{Evaluated, gives, raises, no_value}
use Rattle.herm_forms.specs.Frames.{Name, Frame, Completion, goes, stuck, if_there, finalise, finalise_name, cleared, drop, reading, taking, putting, making, copying}

-- On with the value that an expression gives. Its exception is the statement's, and leaves all as it was.
-- Language reference, "Exceptions".
abbrev pub with_value : {N : Type 0} → (Value → Frame N → Completion N) → Evaluated → Frame N → Completion N
with_value next (gives v) b = next v b
with_value next (raises e) b = goes (raised e) b
with_value next no_value b = stuck

-- On with what moves away from a path: what it holds beyond the facts at which it leaves, which is at the paths
-- `lost`, is finalised first. Language reference, "Excess".
abbrev pub moving : {N : Type 0} → (lost : List Path) → Path → (Cell N → Frame N → Completion N) → Frame N → Completion N
moving lost y next b = taking y next (drop lost b)

-- `x := v`: the cells of a copy, and no further one
abbrev pub assign : {N : Type 0} → (Name → N) → Path → Value → Frame N → Completion N
assign name x v b = copying name v (putting x ok) b

-- `move y to x`
abbrev pub move : {N : Type 0} → (lost : List Path) → (source target : Path) → Frame N → Completion N
move lost y x b = moving lost y (putting x ok) b

-- `new x`, of a record with so many fields, or of a table
abbrev pub new : {N : Type 0} → (Name → N) → Kind → Parts N → Path → Frame N → Completion N
new name k ps x b = making name k ps (putting x ok) b

-- `discard x`
abbrev pub discard : {N : Type 0} → Path → Frame N → Completion N
discard x b = taking x (λ c b. goes ok (finalise c b)) b

-- `unite v.c from y`
abbrev pub unite : {N : Type 0} → (Name → N) → (component : ℕ) → (lost : List Path) → (source target : Path) → Frame N → Completion N
unite name c lost y v b = moving lost y (λ content b. making name (a_variant c) (part content no_parts) (putting v ok) b) b

-- a cell that holds another one, taken apart
pub record Opened (N : Type 0) : Type 0 where
  pub name : N
  pub content : Cell N

-- the variant's component, where it has this one
abbrev pub component_in : {N : Type 0} → ℕ → Cell N → Option (Opened N)
component_in c (cell n (a_variant d) (part content no_parts)) = cond (nat_eq c d) (Some (record { name = n; content = content })) None
component_in c v = None

-- the polymorph's content, where it has this type
abbrev pub content_of : {N : Type 0} → ℕ → Cell N → Option (Opened N)
content_of t (cell n (a_polymorph u) (part content no_parts)) = cond (nat_eq t u) (Some (record { name = n; content = content })) None
content_of t v = None

-- the cell itself is finalised, and its content moves to the target
abbrev pub moving_content : {N : Type 0} → Path → Opened N → Frame N → Completion N
moving_content y o b = putting y ok o.content (finalise_name o.name b)

-- `dissolve v.c into y`
abbrev pub dissolve : {N : Type 0} → (component : ℕ) → (source target : Path) → Frame N → Completion N
dissolve c v y b = taking v (λ cell b. if_there (λ o. moving_content y o b) (component_in c cell)) b

-- `reveal v.c`; CaseError where v holds another component
abbrev pub reveal : {N : Type 0} → (component : ℕ) → Path → Frame N → Completion N
reveal c v b = reading v (λ cell. goes (cond (is_component (Some cell) c) ok (raised case_error)) b) b

-- the component that a variant has
abbrev pub component_of : {N : Type 0} → Cell N → Option ℕ
component_of (cell n (a_variant c) ps) = Some c
component_of v = None

-- `case v`
abbrev pub choose : {N : Type 0} → Path → Frame N → Completion N
choose v b = reading v (λ cell. if_there (λ c. goes (component c) b) (component_of cell)) b

-- `wrap y as p`, with a content of this type; Depletion where the polymorph would be too deep, measured without
-- what y holds beyond a full value
abbrev pub wrap : {N : Type 0} → (Name → N) → (type : ℕ) → (lost : List Path) → (source target : Path) → Frame N → Completion N
wrap name t lost y p b =
    if_there
    (λ c. cond (nat_lt (polymorph_depth c) greatest_polymorph)
    (moving lost y (λ content b. making name (a_polymorph t) (part content no_parts) (putting p ok) b) b)
    (goes (raised depletion) b))
    (cell_at y (drop lost b).variables)

-- `unwrap p as T into y`; PolymorphMismatch where the type differs
abbrev pub unwrap : {N : Type 0} → (type : ℕ) → (source target : Path) → Frame N → Completion N
unwrap t p y b =
    if_there
    (λ c. elim (content_of t c) [ None ↦ goes (raised polymorph_mismatch) b | Some o ↦ moving_content y o (cleared p b) ])
    (cell_at p b.variables)

-- the port of an inport
abbrev pub inport_number : {N : Type 0} → Cell N → Option ℕ
inport_number (cell n (an_inport port) ps) = Some port
inport_number c = None

-- the port that an outport leads to
abbrev pub outport_number : {N : Type 0} → Cell N → Option ℕ
outport_number (cell n (an_outport port) ps) = Some port
outport_number c = None

-- `connect o to i`
abbrev pub connect : {N : Type 0} → (Name → N) → (target port : Path) → Frame N → Completion N
connect name o i b = reading i (λ c. if_there (λ n. making name (an_outport n) no_parts (putting o ok) b) (inport_number c)) b

-- the outcome of a test
abbrev pub tested : {N : Type 0} → Value → Frame N → Completion N
tested (cell n (a_scalar (a_boolean true)) ps) b = goes is_true b
tested (cell n (a_scalar (a_boolean false)) ps) b = goes is_false b
tested v b = stuck

-- `raise E`
abbrev pub raise : {N : Type 0} → (exception : ℕ) → Frame N → Completion N
raise e b = goes (raised e) b

-- `leave`
abbrev pub leave : {N : Type 0} → Frame N → Completion N
leave b = goes ok b
