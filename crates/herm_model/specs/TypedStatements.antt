-- Typed statements: the rules on types and paths of each form, over numbers in place of names.
use Rattle.std.specs.Prelude.{ℕ, ◌<◌, ◌↔◌, List, [], ◌∷◌, map, length, Bool, true, false, Option, Some, slice_get, option_and_then, IsTrue, IsFalse, ⊤, ◌≡◌}
use Rattle.herm_model.specs.Lists.{IsIn}
use Rattle.herm_model.specs.Paths.{Path, Fact, are_apart}
use Rattle.herm_model.specs.Types.{Mode, by_in, by_inout, by_out, Parameter, Raised, Shape, boolean, polymorph, fields, cases, rows, inport, outport, callmessage, TypeTable, passes_component}
use Rattle.herm_model.specs.Copyable.{IsCopyable}
use Rattle.herm_model.specs.Expressions.{Atom, literal, path}
use Rattle.herm_model.specs.Statements.{Form, Assign, Move, New, Discard, Unite, Dissolve, Reveal, Case, Wrap, Unwrap, Insert, Remove, Get, For, Connect, Send, Receive, Select, Call, Return, ReturnBy, Create, If, While, Raise, Leave, Arm, Process, Differ}
use Rattle.herm_model.specs.FactsOfStatements.{set_by_call}
use Rattle.herm_model.specs.TypedExpressions.{HasShape, IsLiteralOf, IsPathOf, IsTyped}

-- what `new` makes: a record, a table or an inport
abbrev pub can_be_new : Shape → Bool
can_be_new (fields ts) = true
can_be_new (rows row key) = true
can_be_new (inport message declared) = true
can_be_new s = false

-- None of the paths is at or below another. Language reference, "Rules on paths".
abbrev pub AreApart : List Path → Type 0
AreApart [] = ⊤
AreApart (x ∷ xs) = ((y : Path) → IsIn y xs → IsTrue (are_apart x y)) × AreApart xs

-- the type of the port of a process, by its number
abbrev pub port_type : List Process → ℕ → Option ℕ
port_type processes n = option_and_then (λ (p : Process). slice_get p.variables 0) (slice_get processes n)

module _ (table : TypeTable) where
  -- the variant has this component, of the second type
  abbrev pub IsComponent : ℕ → ℕ → ℕ → Type 0
  IsComponent t c u = (ts : List ℕ) × HasShape table t (cases ts) × (slice_get ts c ≡ Some u)

  module _ (variables : List ℕ) where
    -- A path that is only looked at has a type; it may pass through components. Language reference, "Rules on paths".
    abbrev pub IsLookedAt : Path → ℕ → Type 0
    IsLookedAt p t = IsPathOf table variables p t

    -- A path that a statement sets passes through no component, nor does one whose value leaves.
    -- Language reference, "Rules on paths".
    abbrev pub IsTarget : Path → ℕ → Type 0
    IsTarget p t = IsPathOf table variables p t × IsFalse (passes_component table variables p)

    abbrev pub IsSource : Path → ℕ → Type 0
    IsSource p t = IsPathOf table variables p t × IsFalse (passes_component table variables p)

    -- A key, and an argument that is copied, is a literal or a path of a copyable type.
    -- Language reference, "Typed statements".
    abbrev pub IsTypedAtom : Atom → ℕ → Type 0
    IsTypedAtom (literal l) t = IsLiteralOf table l t
    IsTypedAtom (path p) t = IsLookedAt p t × IsCopyable table t

    -- The argument of a parameter: copied for `in`, and a path that the call sets for `inout` and `out`.
    -- Language reference, "Typed statements".
    abbrev pub IsArgument : Mode → Atom → ℕ → Type 0
    IsArgument by_in a t = IsTypedAtom a t
    IsArgument by_inout (literal l) t = ⊥
    IsArgument by_inout (path p) t = IsTarget p t
    IsArgument by_out (literal l) t = ⊥
    IsArgument by_out (path p) t = IsTarget p t

    -- one argument for each parameter
    abbrev pub AreArguments : List Parameter → List Atom → Type 0
    AreArguments [] [] = ⊤
    AreArguments [] (a ∷ atoms) = ⊥
    AreArguments (p ∷ parameters) [] = ⊥
    AreArguments (p ∷ parameters) (a ∷ atoms) = IsArgument p.mode a p.content × AreArguments parameters atoms

    -- one key for each field of a table's key, of the field's type, where the rows have fields of these types
    abbrev pub AreKeysOf : List ℕ → List ℕ → List Atom → Type 0
    AreKeysOf ts [] [] = ⊤
    AreKeysOf ts [] (a ∷ atoms) = ⊥
    AreKeysOf ts (i ∷ key) [] = ⊥
    AreKeysOf ts (i ∷ key) (a ∷ atoms) = ((t : ℕ) × (slice_get ts i ≡ Some t) × IsTypedAtom a t) × AreKeysOf ts key atoms

    -- the rows of the table at a path are of the type, with this key
    abbrev pub IsTableOf : Path → ℕ → List ℕ → Type 0
    IsTableOf t row key = (u : ℕ) × IsLookedAt t u × HasShape table u (rows row key)

    -- the keys find a row of the table at a path, which is set at a target
    abbrev pub IsFound : (target t : Path) → (keys : List Atom) → (row : ℕ) → Type 0
    IsFound r t keys row = (key ts : List ℕ) × IsTableOf t row key × IsTarget r row × HasShape table row (fields ts) × AreKeysOf ts key keys

    -- messages of the type go to the port to which the outport at a path leads, and come from the inport at a path
    abbrev pub GoesTo : Path → ℕ → Type 0
    GoesTo o message = (t port : ℕ) × (declared : List Fact) × IsLookedAt o t × HasShape table t (outport port) × HasShape table port (inport message declared)

    abbrev pub ComesFrom : Path → ℕ → Type 0
    ComesFrom i message = (port : ℕ) × (declared : List Fact) × IsLookedAt i port × HasShape table port (inport message declared)

    -- a message is received at a target of its type
    abbrev pub IsReceived : (target port : Path) → Type 0
    IsReceived x i = (message : ℕ) × ComesFrom i message × IsTarget x message

    -- the callmessage at a path leaves, of these parameters and exceptions
    abbrev pub IsReturned : Path → List Raised → Type 0
    IsReturned m raises = (t : ℕ) × (parameters : List Parameter) × IsSource m t × HasShape table t (callmessage parameters raises)

    module _ (exceptions : ℕ) (processes : List Process) where
      -- The form keeps the rules on types and paths, in a process whose variables have these types, where there are so many
      -- exceptions and these processes. Language reference, "Typed statements".
      abbrev pub IsTypedForm : Form → Type 0
      IsTypedForm (Assign x e) = (t : ℕ) × IsTarget x t × IsTyped table variables e t
      IsTypedForm (Move y x) = (t : ℕ) × IsSource y t × IsTarget x t × IsTrue (are_apart y x)
      IsTypedForm (New x) = (t : ℕ) × (s : Shape) × IsTarget x t × HasShape table t s × IsTrue (can_be_new s)
      IsTypedForm (Discard x) = (t : ℕ) × IsSource x t
      IsTypedForm (Unite v c y) = (t u : ℕ) × IsTarget v t × IsComponent t c u × IsSource y u × IsTrue (are_apart y v)
      IsTypedForm (Dissolve v c y) = (t u : ℕ) × IsSource v t × IsComponent t c u × IsTarget y u × IsTrue (are_apart v y)
      IsTypedForm (Reveal v c) = (t u : ℕ) × IsLookedAt v t × IsComponent t c u
      IsTypedForm (Case v cs) = (t : ℕ) × (ts : List ℕ) × IsLookedAt v t × HasShape table t (cases ts) × Differ cs × ((c : ℕ) → IsIn c cs ↔ (c < length ts))
      IsTypedForm (Wrap y p) = (t u : ℕ) × IsSource y t × IsTarget p u × HasShape table u polymorph × IsTrue (are_apart y p)
      IsTypedForm (Unwrap p t y) = (u : ℕ) × IsSource p u × HasShape table u polymorph × IsTarget y t × IsTrue (are_apart p y)
      IsTypedForm (Insert r t) = (row : ℕ) × (key : List ℕ) × IsTableOf t row key × IsSource r row
      IsTypedForm (Remove r t keys) = (row : ℕ) × IsFound r t keys row
      IsTypedForm (Get r t keys) = (row : ℕ) × IsFound r t keys row × IsCopyable table row
      IsTypedForm (For r t) = (row : ℕ) × (key : List ℕ) × IsTableOf t row key × IsTarget r row × IsCopyable table row
      IsTypedForm (Connect o i) = (t port : ℕ) × IsTarget o t × HasShape table t (outport port) × IsLookedAt i port
      IsTypedForm (Send x o) = (message : ℕ) × GoesTo o message × IsSource x message
      IsTypedForm (Receive x i) = IsReceived x i
      IsTypedForm (Select arms) = Differ (map (λ (a : Arm). a.port) arms) × ((a : Arm) → IsIn a arms → IsReceived a.target a.port)
      IsTypedForm (Call o arguments) = (message : ℕ) × (parameters : List Parameter) × (raises : List Raised) × GoesTo o message × HasShape table message (callmessage parameters raises)
          × AreArguments parameters arguments × AreApart (set_by_call table variables o arguments)
      IsTypedForm (Return m) = (raises : List Raised) × IsReturned m raises
      IsTypedForm (ReturnBy m e) = (raises : List Raised) × IsReturned m raises × IsIn e (map (λ (r : Raised). r.exception) raises)
      IsTypedForm (Create o n) = (t port : ℕ) × IsTarget o t × HasShape table t (outport port) × (port_type processes n ≡ Some port)
      IsTypedForm (If e) = (t : ℕ) × HasShape table t boolean × IsTyped table variables e t
      IsTypedForm (While e) = (t : ℕ) × HasShape table t boolean × IsTyped table variables e t
      IsTypedForm (Raise e) = e < exceptions
      IsTypedForm Leave = ⊤
