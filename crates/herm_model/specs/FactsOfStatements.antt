-- The statement table: what each form needs, and what it makes and takes away at each outcome.
use Rattle.std.specs.Prelude.{ℕ, List, [], ◌∷◌, ◌++◌, map, flat_map, cond, slice_get}
use Rattle.herm_model.specs.Lists.{list_of}
use Rattle.herm_model.specs.Paths.{Path, Fact, init, case, parent}
use Rattle.herm_model.specs.Types.{TypeTable, type_at, passes_component}
use Rattle.herm_model.specs.Facts.{facts_to, with_prefixes, without_repeats, full_facts, declared_facts}
use Rattle.herm_model.specs.Expressions.{Atom, paths_read, paths_among}
use Rattle.herm_model.specs.Statements.{Form, Assign, Move, New, Discard, Unite, Dissolve, Reveal, Case, Wrap, Unwrap, Insert, Remove, Get, For, Connect, Send, Receive, Select, Call, Return, ReturnBy, Create, If, While, Raise, Leave, Arm}
use Rattle.herm_model.specs.Outcomes.{Outcome, ok, turn, component, arm, raised}
use Rattle.herm_model.specs.Calls.{shape_at, inport_at, parameters_of, raises_of, call_parameters, call_raises, kept_for, is_given, is_returned, returned_places, arguments_by, argument_path}

-- A row of the table: the facts that a form needs, in order; at each outcome the facts that it makes, and the paths
-- whose facts it takes away. Prefixes are left to the words `needs` and `makes` below.
pub record Row : Type 0 where
  pub needed : List Fact
  pub made : Outcome → List Fact
  pub gone : Outcome → List Path

-- a list at the normal outcome of a form that goes on in one way, and nothing at an exception
abbrev pub at_ok : {X : Type 0} → List X → Outcome → List X
at_ok xs ok = xs
at_ok xs _ = []

-- a list at the turn of a loop
abbrev pub at_turn : {X : Type 0} → List X → Outcome → List X
at_turn xs turn = xs
at_turn xs _ = []

-- a list that depends on the component, the arm or the exception
abbrev pub at_component : {X : Type 0} → (ℕ → List X) → Outcome → List X
at_component f (component c) = f c
at_component f _ = []

abbrev pub at_arm : {X : Type 0} → (ℕ → List X) → Outcome → List X
at_arm f (arm n) = f n
at_arm f _ = []

abbrev pub at_exception : {X : Type 0} → (ℕ → List X) → Outcome → List X
at_exception f (raised e) = f e
at_exception f _ = []

-- nothing, whatever the outcome
abbrev pub nothing : {X : Type 0} → Outcome → List X
nothing o = []

-- one list at the normal outcome, and one that depends on the exception
abbrev pub at_ok_or_exception : {X : Type 0} → List X → (ℕ → List X) → Outcome → List X
at_ok_or_exception xs f o = at_ok xs o ++ at_exception f o

module _ (types : TypeTable) (variables : List ℕ) where
  -- There is a value at the path: `init` of it, or, of a path that passes through a component, `case` of the last one.
  -- Language reference, "Needs".
  abbrev pub present : Path → List Fact
  present p = facts_to types variables p

  -- The value at the path is full. What lies in a component is full where the component is known.
  -- Language reference, "Needs".
  abbrev pub full : Path → List Fact
  full p = present p ++ cond (passes_component types variables p) [] (list_of (λ t. full_facts types t p) (type_at types variables p))

  abbrev pub full_of_each : List Path → List Fact
  full_of_each ps = flat_map full ps

  -- A target that is not a whole variable needs a value at its parent. Language reference, "Needs".
  abbrev pub room_for : Path → List Fact
  room_for target = present (parent target)

  -- the facts at which messages travel that are received from the inport at a path, or sent to the outport there
  abbrev pub received_from : (port message : Path) → List Fact
  received_from i x = list_of (λ t. declared_facts types t x) (type_at types variables i)

  abbrev pub sent_to : (port message : Path) → List Fact
  sent_to o x = list_of (λ t. declared_facts types t x) (inport_at types variables o)

  -- the parameters at these places of the callmessage at a path
  abbrev pub parameters_at : Path → List ℕ → List Path
  parameters_at m places = map (λ i. m ++ i ∷ []) places

  -- the parameters of the callmessage at a path that come back to the caller: all at a return, and at an exception
  -- those that its type keeps for it
  abbrev pub returned : Path → List Path
  returned m = parameters_at m (returned_places 0 (list_of parameters_of (shape_at types variables m)))

  abbrev pub returned_by : Path → ℕ → List Path
  returned_by m e = parameters_at m (kept_for (list_of raises_of (shape_at types variables m)) e)

  -- the arguments of a call whose values go to the callee, those that come back, and those that an exception keeps
  abbrev pub given : Path → List Atom → List Path
  given o arguments = arguments_by is_given (call_parameters types variables o) arguments

  abbrev pub set_by_call : Path → List Atom → List Path
  set_by_call o arguments = arguments_by is_returned (call_parameters types variables o) arguments

  abbrev pub kept_by_call : Path → List Atom → ℕ → List Path
  kept_by_call o arguments e = flat_map (λ i. argument_path (slice_get arguments i)) (kept_for (call_raises types variables o) e)

  -- what is received at the arm at a place of a `select`
  abbrev pub received_at : List Arm → ℕ → List Fact
  received_at arms n = list_of (λ a. received_from a.port a.target) (slice_get arms n)

  abbrev pub set_at : List Arm → ℕ → List Path
  set_at arms n = list_of (λ a. a.target ∷ []) (slice_get arms n)

  -- The statement table, a row for each form. Language reference, "The statement table".
  abbrev pub row : Form → Row
  row (Assign x e) = record { needed = room_for x ++ full_of_each (paths_read e); made = at_ok (full x); gone = at_ok (x ∷ []) }
  row (Move y x) = record { needed = room_for x ++ full y; made = at_ok (full x); gone = at_ok (y ∷ x ∷ []) }
  row (New x) = record { needed = room_for x; made = at_ok (init x ∷ []); gone = at_ok (x ∷ []) }
  row (Discard x) = record { needed = present x; made = nothing; gone = at_ok (x ∷ []) }
  row (Unite v c y) = record { needed = room_for v ++ full y; made = at_ok (init v ∷ case v c ∷ []); gone = at_ok (y ∷ v ∷ []) }
  row (Dissolve v c y) = record { needed = room_for y ++ case v c ∷ []; made = at_ok (full y); gone = at_ok (v ∷ y ∷ []) }
  row (Reveal v c) = record { needed = present v; made = at_ok (case v c ∷ []); gone = nothing }
  row (Case v cs) = record { needed = present v; made = at_component (λ c. case v c ∷ []); gone = nothing }
  row (Wrap y p) = record { needed = room_for p ++ full y; made = at_ok (init p ∷ []); gone = at_ok (y ∷ p ∷ []) }
  row (Unwrap p t y) = record { needed = room_for y ++ present p; made = at_ok (full y); gone = at_ok (p ∷ y ∷ []) }
  row (Insert r t) = record { needed = full r ++ present t; made = nothing; gone = at_ok (r ∷ []) }
  row (Remove r t keys) = record { needed = room_for r ++ present t ++ full_of_each (paths_among keys); made = at_ok (full r); gone = at_ok (r ∷ []) }
  row (Get r t keys) = record { needed = room_for r ++ present t ++ full_of_each (paths_among keys); made = at_ok (full r); gone = at_ok (r ∷ []) }
  row (For r t) = record { needed = room_for r ++ present t; made = at_turn (full r); gone = at_turn (r ∷ []) }
  row (Connect o i) = record { needed = room_for o ++ present i; made = at_ok (init o ∷ []); gone = at_ok (o ∷ []) }
  row (Send x o) = record { needed = sent_to o x ++ present o; made = at_exception (λ e. sent_to o x); gone = at_ok_or_exception (x ∷ []) (λ e. x ∷ []) }
  row (Receive x i) = record { needed = room_for x ++ present i; made = at_ok (received_from i x); gone = at_ok (x ∷ []) }
  row (Select arms) = record { needed = flat_map (λ a. room_for a.target) arms ++ flat_map (λ a. present a.port) arms; made = at_arm (received_at arms); gone = at_arm (set_at arms) }
  row (Call o arguments) = record {
    needed = flat_map room_for (set_by_call o arguments) ++ present o ++ full_of_each (given o arguments);
    made = at_ok_or_exception (full_of_each (set_by_call o arguments)) (λ e. full_of_each (kept_by_call o arguments e));
    gone = at_ok_or_exception (set_by_call o arguments) (λ e. set_by_call o arguments);
  }
  row (Return m) = record { needed = present m ++ full_of_each (returned m); made = nothing; gone = at_ok (m ∷ []) }
  row (ReturnBy m e) = record { needed = present m ++ full_of_each (returned_by m e); made = nothing; gone = at_ok (m ∷ []) }
  row (Create o process) = record { needed = room_for o; made = at_ok (init o ∷ []); gone = at_ok (o ∷ []) }
  row (If e) = record { needed = full_of_each (paths_read e); made = nothing; gone = nothing }
  row (While e) = record { needed = full_of_each (paths_read e); made = nothing; gone = nothing }
  row (Raise e) = record { needed = []; made = nothing; gone = nothing }
  row Leave = record { needed = []; made = nothing; gone = nothing }

  -- the facts, each after those before it, without repeats
  abbrev pub closed : List Fact → List Fact
  closed fs = without_repeats (flat_map (with_prefixes types variables) fs)

  -- What a form needs, in the order written, each fact after its prefixes and without repeats.
  -- Language reference, "The statement table".
  abbrev pub needs : Form → List Fact
  needs form = closed (row form).needed

  -- What an outcome makes, with the prefixes of each fact. Language reference, "The statement table".
  abbrev pub makes : Form → Outcome → List Fact
  makes form o = closed ((row form).made o)

  -- The paths that an outcome takes away: every fact at one of them or below is lost, unless the same outcome makes
  -- it. Language reference, "The statement table".
  abbrev pub kills : Form → Outcome → List Path
  kills form o = (row form).gone o
