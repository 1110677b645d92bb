-- Outcomes: how a statement can go on, and in which order its outcomes stand.
use Rattle.std.specs.Prelude.{ℕ, suc, List, [], ◌∷◌, ◌++◌, map, Bool, true, false, cond, nat_eq, nat_lt, Option, Some}
use Rattle.herm_model.specs.Types.{TypeTable, Shape, inport}
use Rattle.herm_model.specs.Expressions.{Expression, can_overflow, can_deplete}
use Rattle.herm_model.specs.Statements.{Form, Assign, Move, New, Discard, Unite, Dissolve, Reveal, Case, Wrap, Unwrap, Insert, Remove, Get, For, Connect, Send, Receive, Select, Call, Return, ReturnBy, Create, If, While, Raise, Leave, Arm}
use Rattle.herm_model.specs.Calls.{shape_at, call_raises}

-- The normal outcomes, and an exception by its number. An arm of a `select` is its place, from 0 on.
-- Language reference, "Outcomes".
pub data Outcome : Type 0 where
  ok : Outcome
  is_true is_false : Outcome
  turn done : Outcome
  component : ℕ → Outcome
  arm : (node : ℕ) → Outcome
  raised : (exception : ℕ) → Outcome

-- the two outcomes are the same
abbrev pub same_outcome : Outcome → Outcome → Bool
same_outcome ok ok = true
same_outcome is_true is_true = true
same_outcome is_false is_false = true
same_outcome turn turn = true
same_outcome done done = true
same_outcome (component c) (component d) = nat_eq c d
same_outcome (arm m) (arm n) = nat_eq m n
same_outcome (raised e) (raised f) = nat_eq e f
same_outcome _ _ = false

-- The predefined exceptions by number. Language reference, "Exceptions".
abbrev pub overflow : ℕ
overflow = 0

abbrev pub depletion : ℕ
depletion = 1

abbrev pub case_error : ℕ
case_error = 2

abbrev pub polymorph_mismatch : ℕ
polymorph_mismatch = 3

abbrev pub duplicate_key : ℕ
duplicate_key = 4

abbrev pub not_found : ℕ
not_found = 5

abbrev pub disconnected : ℕ
disconnected = 6

-- a number's place in a rising list without repeats
abbrev pub with_number : ℕ → List ℕ → List ℕ
with_number n [] = n ∷ []
with_number n (m ∷ ms) = cond (nat_lt n m) (n ∷ m ∷ ms) (cond (nat_eq n m) (m ∷ ms) (m ∷ with_number n ms))

-- the same numbers, rising and without repeats
abbrev pub rising : List ℕ → List ℕ
rising [] = []
rising (n ∷ ns) = with_number n (rising ns)

abbrev pub listed_if : Bool → ℕ → List ℕ
listed_if b n = cond b (n ∷ []) []

-- the exceptions that an expression can raise
abbrev pub raised_by : Expression → List ℕ
raised_by e = listed_if (can_overflow e) overflow ++ listed_if (can_deplete e) depletion

-- `new` can be refused for an inport alone
abbrev pub raised_by_new : Option Shape → List ℕ
raised_by_new (Some (inport message declared)) = depletion ∷ []
raised_by_new _ = []

-- The exceptions that a form can raise, by rising number. Language reference, "The statement table".
abbrev pub exceptions : TypeTable → List ℕ → Form → List ℕ
exceptions types variables (Assign x e) = raised_by e
exceptions types variables (Move y x) = []
exceptions types variables (New x) = raised_by_new (shape_at types variables x)
exceptions types variables (Discard x) = []
exceptions types variables (Unite v c y) = []
exceptions types variables (Dissolve v c y) = []
exceptions types variables (Reveal v c) = case_error ∷ []
exceptions types variables (Case v cs) = []
exceptions types variables (Wrap y p) = depletion ∷ []
exceptions types variables (Unwrap p t y) = polymorph_mismatch ∷ []
exceptions types variables (Insert r t) = depletion ∷ duplicate_key ∷ []
exceptions types variables (Remove r t keys) = not_found ∷ []
exceptions types variables (Get r t keys) = not_found ∷ []
exceptions types variables (For r t) = []
exceptions types variables (Connect o i) = []
exceptions types variables (Send x o) = disconnected ∷ []
exceptions types variables (Receive x i) = []
exceptions types variables (Select arms) = []
exceptions types variables (Call o arguments) = rising (disconnected ∷ map (λ r. r.exception) (call_raises types variables o))
exceptions types variables (Return m) = []
exceptions types variables (ReturnBy m e) = []
exceptions types variables (Create o process) = depletion ∷ []
exceptions types variables (If e) = raised_by e
exceptions types variables (While e) = raised_by e
exceptions types variables (Raise e) = e ∷ []
exceptions types variables Leave = []

-- the arms from a place on
abbrev pub arms_from : ℕ → List Arm → List Outcome
arms_from n [] = []
arms_from n (a ∷ arms) = arm n ∷ arms_from (suc n) arms

-- The normal outcomes of a form, in order: a `case` has one for each component in the order of its arms, a
-- `select` one for each arm, a test is true or false, a `for` takes a turn or is done, a `raise` has none,
-- and each other form goes on in one way. Language reference, "Outcomes".
abbrev pub normal_outcomes : Form → List Outcome
normal_outcomes (Case v cs) = map component cs
normal_outcomes (Select arms) = arms_from 0 arms
normal_outcomes (For r t) = turn ∷ done ∷ []
normal_outcomes (If e) = is_true ∷ is_false ∷ []
normal_outcomes (While e) = is_true ∷ is_false ∷ []
normal_outcomes (Raise e) = []
normal_outcomes _ = ok ∷ []

-- All outcomes of a form: the normal ones, and then its exceptions by number.
abbrev pub outcomes : TypeTable → List ℕ → Form → List Outcome
outcomes types variables form = normal_outcomes form ++ map raised (exceptions types variables form)
