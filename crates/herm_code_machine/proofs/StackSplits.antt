-- What an effect comes to where operands are taken from the stack.
use Rattle.std.proofs.Common.{List, [], ◌∷◌, Option, Some, None}
use Rattle.std.specs.Prelude.{ℕ}
use Rattle.herm_model.specs.Values.{Scalar, Value}
use Rattle.herm_forms.specs.Evaluate.{Evaluated, gives, raises, no_value}
use Rattle.herm_forms.specs.Frames.{Frame, Completion}
use Rattle.herm_code_machine.specs.Stacks.{Effect, pushing, with_top, with_two, Popped, pop, scalars_of, with_popped, with_key_of, with_key}
use Rattle.herm_code_machine.proofs.RunsKeep.{AllOf}

-- the completion of an effect is so
module _ {N : Type 0} (Is : Frame N → Type 0) where
  abbrev pub Comes : Effect N → Type 0
  Comes e = AllOf Is e.completion

  pub comes-pushing : (v : Evaluated) (stack : List Value) (b : Frame N) → Is b → Comes (pushing v stack b)
  comes-pushing (gives v) stack b e = e
  comes-pushing (raises x) stack b e = e
  comes-pushing no_value stack b e = tt

  pub comes-top : (next : Value → List Value → Effect N) (stack : List Value) → ((v : Value) (rest : List Value) → Comes (next v rest)) → Comes (with_top next stack)
  comes-top next [] on = tt
  comes-top next (v ∷ rest) on = on v rest

  pub comes-two : (next : Value → Value → List Value → Effect N) (stack : List Value) → ((left right : Value) (rest : List Value) → Comes (next left right rest)) → Comes (with_two next stack)
  comes-two next stack on = comes-top (λ right rest. with_top (λ left rest. next left right rest) rest) stack (λ right rest. comes-top (λ left rest. next left right rest) rest (λ left rest. on left right rest))

  pub comes-popped : (next : Popped → Effect N) (o : Option Popped) → ((p : Popped) → Comes (next p)) → Comes (with_popped next o)
  comes-popped next None on = tt
  comes-popped next (Some p) on = on p

  key-of : (next : List Scalar → Completion N) (rest : List Value) (o : Option (List Scalar)) → ((k : List Scalar) → AllOf Is (next k)) → Comes (with_key_of next rest o)
  key-of next rest None on = tt
  key-of next rest (Some k) on = on k

  pub comes-key : (n : ℕ) (next : List Scalar → Completion N) (stack : List Value) → ((k : List Scalar) → AllOf Is (next k)) → Comes (with_key n next stack)
  comes-key n next stack on = comes-popped (λ p. with_key_of next p.rest (scalars_of p.values)) (pop n stack) (λ p. key-of next p.rest (scalars_of p.values) on)
