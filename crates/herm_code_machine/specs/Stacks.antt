-- The stack of values: what an instruction comes to with it, and what it takes from it.
use Rattle.std.specs.Prelude.{ℕ, zero, suc, List, [], ◌∷◌, Option, Some, None, option_map, ⊤}
use Rattle.herm_model.specs.Outcomes.{ok, raised}
use Rattle.herm_model.specs.Values.{Scalar, a_scalar, Cell, cell, Parts, no_parts, part, Value}
use Rattle.herm_forms.specs.Evaluate.{Evaluated, gives, raises, no_value}
use Rattle.herm_forms.specs.Frames.{Frame, Completion, goes, stuck}

-- What an instruction comes to: the values on the stack behind it, the last pushed one first, and what it completes.
-- Code reference, "Processes".
pub record Effect (N : Type 0) : Type 0 where
  pub stack : List Value
  pub completion : Completion N

abbrev pub leaving : {N : Type 0} → List Value → Completion N → Effect N
leaving stack completion = record { stack = stack; completion = completion }

-- an operand is not there
abbrev pub no_effect : {N : Type 0} → Effect N
no_effect = leaving [] stuck

-- The value of an evaluation is pushed; its exception is the instruction's. Code reference, "Instructions".
abbrev pub pushing : {N : Type 0} → Evaluated → List Value → Frame N → Effect N
pushing (gives v) stack b = leaving (v ∷ stack) (goes ok b)
pushing (raises e) stack b = leaving [] (goes (raised e) b)
pushing no_value stack b = no_effect

-- on with the top, and with the top two, the right operand on top
abbrev pub with_top : {N : Type 0} → (Value → List Value → Effect N) → List Value → Effect N
with_top next [] = no_effect
with_top next (v ∷ stack) = next v stack

abbrev pub with_two : {N : Type 0} → (Value → Value → List Value → Effect N) → List Value → Effect N
with_two next stack = with_top (λ right rest. with_top (λ left rest. next left right rest) rest) stack

-- values that were taken from the stack, the first pushed one first, and what is left
pub record Popped : Type 0 where
  pub values : List Value
  pub rest : List Value

-- so many values in front of those that were taken before
abbrev pub pop_onto : ℕ → (taken stack : List Value) → Option Popped
pop_onto zero taken stack = Some (record { values = taken; rest = stack })
pop_onto (suc n) taken [] = None
pop_onto (suc n) taken (v ∷ stack) = pop_onto n (v ∷ taken) stack

-- so many values are taken from the stack; none where there are fewer
abbrev pub pop : ℕ → List Value → Option Popped
pop n stack = pop_onto n [] stack

-- the scalars of a key's values; none where one is no scalar
abbrev pub scalar_before : {N : Type 0} → Cell N → Option (List Scalar) → Option (List Scalar)
scalar_before (cell n (a_scalar s) ps) more = option_map (s ∷◌) more
scalar_before v more = None

abbrev pub scalars_of : List Value → Option (List Scalar)
scalars_of [] = Some []
scalars_of (v ∷ values) = scalar_before v (scalars_of values)

-- the values as parts, in order
abbrev pub parts_from : List Value → Parts ⊤
parts_from [] = no_parts
parts_from (v ∷ values) = part v (parts_from values)

-- on with a key of so many values
abbrev pub with_key_of : {N : Type 0} → (List Scalar → Completion N) → (rest : List Value) → Option (List Scalar) → Effect N
with_key_of next rest None = no_effect
with_key_of next rest (Some key) = leaving rest (next key)

abbrev pub with_popped : {N : Type 0} → (Popped → Effect N) → Option Popped → Effect N
with_popped next None = no_effect
with_popped next (Some p) = next p

abbrev pub with_key : {N : Type 0} → (keys : ℕ) → (List Scalar → Completion N) → List Value → Effect N
with_key n next stack = with_popped (λ p. with_key_of next p.rest (scalars_of p.values)) (pop n stack)
