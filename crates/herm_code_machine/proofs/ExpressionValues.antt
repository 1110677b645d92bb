-- The code of an expression leaves what the expression gives.
use Rattle.std.proofs.Common.{◌≡◌, List, [], ◌∷◌, ◌++◌, refl, ap, ◌∙◌}
use Rattle.herm_model.specs.Expressions.{Operator, Expression, literal, copy, negation, logical_not, operation, size_of, decimal, length_of}
use Rattle.herm_model.specs.Outcomes.{ok, is_true, is_false, turn, done, component, arm, raised}
use Rattle.herm_model.specs.Values.{Scalar, a_scalar, cell, Value}
use Rattle.herm_forms.specs.Evaluate.{Evaluated, gives, raises, no_value, evaluate, scalar_then, one_then, two_then, operate}
use Rattle.herm_forms.specs.Frames.{Name, Frame, Completion, goes, stays, stuck}
use Rattle.herm_instructions.specs.Instructions.{UnaryOperator, negative, complement, as_text, text_length, Instruction, Const, Load, Size, Apply, Combine}
use Rattle.herm_code_machine.specs.ReadyCode.{ReadyCode}
use Rattle.herm_code_machine.specs.Stacks.{Effect, pushing}
use Rattle.herm_code_machine.specs.Effects.{effect, applied, constant_value}
use Rattle.herm_code_machine.specs.ExpressionCode.{IsCodeOf, IsDefined, in_row, row_effect}
use Rattle.herm_code_machine.specs.laws.ExpressionLaws.{CodeGivesValues}

module _ (name : Name → Name) (c : ReadyCode) where
  again-in_row : (f g : List Value → Frame Name → Effect Name) → ((stack : List Value) (b : Frame Name) → f stack b ≡ g stack b) → (stack : List Value) (r : Completion Name) → in_row f stack r ≡ in_row g stack r
  again-in_row f g same stack (goes ok b) = same stack b
  again-in_row f g same stack (goes is_true b) = refl
  again-in_row f g same stack (goes is_false b) = refl
  again-in_row f g same stack (goes turn b) = refl
  again-in_row f g same stack (goes done b) = refl
  again-in_row f g same stack (goes (component k) b) = refl
  again-in_row f g same stack (goes (arm n) b) = refl
  again-in_row f g same stack (goes (raised e) b) = refl
  again-in_row f g same stack (stays b) = refl
  again-in_row f g same stack stuck = refl

  both-in_row : (f g : List Value → Frame Name → Effect Name) (stack : List Value) (r : Completion Name)
      → in_row (λ stack b. in_row g (f stack b).stack (f stack b).completion) stack r ≡ in_row g (in_row f stack r).stack (in_row f stack r).completion
  both-in_row f g stack (goes ok b) = refl
  both-in_row f g stack (goes is_true b) = refl
  both-in_row f g stack (goes is_false b) = refl
  both-in_row f g stack (goes turn b) = refl
  both-in_row f g stack (goes done b) = refl
  both-in_row f g stack (goes (component k) b) = refl
  both-in_row f g stack (goes (arm n) b) = refl
  both-in_row f g stack (goes (raised e) b) = refl
  both-in_row f g stack (stays b) = refl
  both-in_row f g stack stuck = refl

  -- a row behind another one
  joined-row : (xs ys : List Instruction) (stack : List Value) (b : Frame Name) → row_effect name c (xs ++ ys) stack b ≡ in_row (row_effect name c ys) (row_effect name c xs stack b).stack (row_effect name c xs stack b).completion
  joined-row [] ys stack b = refl
  joined-row (i ∷ xs) ys stack b =
      let e = effect name c i stack b in
      again-in_row (row_effect name c (xs ++ ys)) (λ stack b. in_row (row_effect name c ys) (row_effect name c xs stack b).stack (row_effect name c xs stack b).completion) (λ stack b. joined-row xs ys stack b) e.stack e.completion
      ∙ both-in_row (row_effect name c xs) (row_effect name c ys) e.stack e.completion

  ended : (v : Evaluated) (stack : List Value) (b : Frame Name) → in_row (row_effect name c []) (pushing v stack b).stack (pushing v stack b).completion ≡ pushing v stack b
  ended (gives v) stack b = refl
  ended (raises x) stack b = refl
  ended no_value stack b = refl

  one-row : (i : Instruction) (v : Evaluated) (stack rest : List Value) (b : Frame Name) → effect name c i stack b ≡ pushing v rest b → row_effect name c (i ∷ []) stack b ≡ pushing v rest b
  one-row i v stack rest b e = ap (λ (x : Effect Name). in_row (row_effect name c []) x.stack x.completion) e ∙ ended v rest b

  -- an operator on the top
  unary-row : (u : UnaryOperator) (v : Evaluated) (stack : List Value) (b : Frame Name) → in_row (row_effect name c (Apply u ∷ [])) (pushing v stack b).stack (pushing v stack b).completion ≡ pushing (one_then (applied u) v) stack b
  unary-row u (gives v) stack b = one-row (Apply u) (scalar_then (applied u) v) (v ∷ stack) stack b refl
  unary-row u (raises x) stack b = refl
  unary-row u no_value stack b = refl

  -- an operator on two
  combined : (o : Operator) (v : Value) (w : Evaluated) (stack : List Value) (b : Frame Name) → IsDefined (two_then (operate o) (gives v) w)
      → in_row (row_effect name c (Combine o ∷ [])) (pushing w (v ∷ stack) b).stack (pushing w (v ∷ stack) b).completion ≡ pushing (two_then (operate o) (gives v) w) stack b
  combined o v (gives w) stack b h = one-row (Combine o) (two_then (operate o) (gives v) (gives w)) (w ∷ v ∷ stack) stack b refl
  combined o (cell n (a_scalar s) ps) (raises x) stack b h = refl
  combined o (cell n (a_scalar s) ps) no_value stack b h = absurd h
  combined o (cell n k ps) (raises x) stack b h = absurd h
  combined o (cell n k ps) no_value stack b h = absurd h

  one-defined : (f : Scalar → Evaluated) (v : Evaluated) → IsDefined (one_then f v) → IsDefined v
  one-defined f (gives v) h = tt
  one-defined f (raises x) h = tt
  one-defined f no_value h = absurd h

  right-defined : (f : Scalar → Scalar → Evaluated) (v : Value) (w : Evaluated) → IsDefined (two_then f (gives v) w) → IsDefined w
  right-defined f v (gives w) h = tt
  right-defined f v (raises x) h = tt
  right-defined f (cell n (a_scalar s) ps) no_value h = absurd h
  right-defined f (cell n k ps) no_value h = absurd h

  left-defined : (f : Scalar → Scalar → Evaluated) (v w : Evaluated) → IsDefined (two_then f v w) → IsDefined v
  left-defined f (gives v) w h = tt
  left-defined f (raises x) w h = tt
  left-defined f no_value w h = absurd h

  abbrev Gives : Expression → List Instruction → Type 0
  Gives e code = (stack : List Value) (b : Frame Name) → IsDefined (evaluate b.variables e) → row_effect name c code stack b ≡ pushing (evaluate b.variables e) stack b

  by-unary : (u : UnaryOperator) (e : Expression) (before code : List Instruction) → Gives e before → code ≡ before ++ Apply u ∷ [] → (stack : List Value) (b : Frame Name) → IsDefined (one_then (applied u) (evaluate b.variables e))
      → row_effect name c code stack b ≡ pushing (one_then (applied u) (evaluate b.variables e)) stack b
  by-unary u e before code gives' same stack b h =
      ap (λ code. row_effect name c code stack b) same ∙ joined-row before (Apply u ∷ []) stack b
      ∙ ap (λ (x : Effect Name). in_row (row_effect name c (Apply u ∷ [])) x.stack x.completion) (gives' stack b (one-defined (applied u) (evaluate b.variables e) h)) ∙ unary-row u (evaluate b.variables e) stack b

  by-operation : (o : Operator) (left right : Expression) (first second code : List Instruction) → Gives left first → Gives right second → code ≡ first ++ (second ++ Combine o ∷ []) → Gives (operation o left right) code
  by-operation o left right first second code first-gives second-gives same stack b h =
      ap (λ code. row_effect name c code stack b) same ∙ joined-row first (second ++ Combine o ∷ []) stack b
      ∙ ap (λ (x : Effect Name). in_row (row_effect name c (second ++ Combine o ∷ [])) x.stack x.completion) (first-gives stack b (left-defined (operate o) (evaluate b.variables left) (evaluate b.variables right) h))
      ∙ by (evaluate b.variables left) h
    where
      by : (v : Evaluated) → IsDefined (two_then (operate o) v (evaluate b.variables right)) → in_row (row_effect name c (second ++ Combine o ∷ [])) (pushing v stack b).stack (pushing v stack b).completion ≡ pushing (two_then (operate o) v (evaluate b.variables right)) stack b
      by (gives v) h =
          joined-row second (Combine o ∷ []) (v ∷ stack) b
          ∙ ap (λ (x : Effect Name). in_row (row_effect name c (Combine o ∷ [])) x.stack x.completion) (second-gives (v ∷ stack) b (right-defined (operate o) v (evaluate b.variables right) h))
          ∙ combined o v (evaluate b.variables right) stack b h
      by (raises x) h = refl
      by no_value h = absurd h

  code-gives : (e : Expression) (code : List Instruction) → IsCodeOf c e code → Gives e code
  code-gives (literal l) code of stack b h = ap (λ code. row_effect name c code stack b) of.2 ∙ one-row (Const of.0) (evaluate b.variables (literal l)) stack stack b (ap (λ o. pushing (constant_value o) stack b) of.1)
  code-gives (copy p) code of stack b h = ap (λ code. row_effect name c code stack b) of ∙ one-row (Load p) (evaluate b.variables (copy p)) stack stack b refl
  code-gives (size_of p) code of stack b h = ap (λ code. row_effect name c code stack b) of ∙ one-row (Size p) (evaluate b.variables (size_of p)) stack stack b refl
  code-gives (negation e) code of stack b h = by-unary negative e of.0 code (code-gives e of.0 of.1) of.2 stack b h
  code-gives (logical_not e) code of stack b h = by-unary complement e of.0 code (code-gives e of.0 of.1) of.2 stack b h
  code-gives (decimal e) code of stack b h = by-unary as_text e of.0 code (code-gives e of.0 of.1) of.2 stack b h
  code-gives (length_of e) code of stack b h = by-unary text_length e of.0 code (code-gives e of.0 of.1) of.2 stack b h
  code-gives (operation o left right) code of stack b h = by-operation o left right of.0 of.1 code (code-gives left of.0 of.2) (code-gives right of.1 of.3) of.4 stack b h

pub code-gives_values : CodeGivesValues
code-gives_values name c e code of stack b h = code-gives name c e code of stack b h
