-- The exceptions of the instructions of expressions are those that they list.
use Rattle.std.proofs.Common.{◌≡◌, ℕ, List, [], ◌∷◌, ◌++◌, Bool, true, false, Option, Some, None, slice_get, refl, ap, ap₂, subst, ◌∙◌}
use Rattle.std.specs.Prelude.{◌||◌}
use Rattle.herm_model.specs.Lists.{IsIn}
use Rattle.herm_model.specs.Types.{TypeTable}
use Rattle.herm_model.specs.Expressions.{Literal, boolean, integer, text, tag, Operator, literal, operation, is_arithmetic, is_joining}
use Rattle.herm_model.specs.Outcomes.{raised, overflow, depletion, listed_if}
use Rattle.herm_model.specs.Values.{Name, Scalar, a_boolean, an_integer, a_text, a_tag, a_scalar, a_table, Cell, cell, no_parts, read_at, Value}
use Rattle.herm_model.proofs.Options.{none-not_some, some-injective}
use Rattle.herm_forms.specs.Evaluate.{Evaluated, gives, raises, no_value, scalar_then, two_then, operate, scalar_of, value_there, rows_there}
use Rattle.herm_forms.specs.Frames.{Frame, Completion, goes}
use Rattle.herm_forms.proofs.evaluated.RaisedExceptions.{raises-its}
use Rattle.herm_instructions.specs.Instructions.{UnaryOperator, negative, complement, as_text, text_length, Instruction, Const, Load, Size, Apply, Combine}
use Rattle.herm_instructions.specs.Effects.{exceptions_of, is_negative}
use Rattle.herm_code_machine.specs.ExpressionCode.{unary}
use Rattle.herm_code_machine.specs.ReadyCode.{ReadyCode}
use Rattle.herm_code_machine.specs.Stacks.{pushing}
use Rattle.herm_code_machine.specs.Effects.{effect, applied, constant_value}

-- the exception of a completion
abbrev pub exception_in : Completion Name → Option ℕ
exception_in (goes (raised e) b) = Some e
exception_in r = None

abbrev raised_in : Evaluated → Option ℕ
raised_in (raises e) = Some e
raised_in v = None

pushed-raises : (v : Evaluated) (stack : List Value) (b : Frame Name) (e : ℕ) → exception_in (pushing v stack b).completion ≡ Some e → v ≡ raises e
pushed-raises (gives v) stack b e is = none-not_some is
pushed-raises (raises x) stack b e is = ap raises (some-injective is)
pushed-raises no_value stack b e is = none-not_some is

-- each scalar is that of a literal
abbrev literal_of : Scalar → Literal
literal_of (a_boolean b) = boolean b
literal_of (an_integer z) = integer z
literal_of (a_text bytes) = text bytes
literal_of (a_tag i) = tag 0 i

same-scalar : (s : Scalar) → scalar_of (literal_of s) ≡ s
same-scalar (a_boolean b) = refl
same-scalar (an_integer z) = refl
same-scalar (a_text bytes) = refl
same-scalar (a_tag i) = refl

or-none : (b : Bool) → b || (false || false) ≡ b
or-none true = refl
or-none false = refl

operator-raises : (o : Operator) (s t : Scalar) (e : ℕ) → operate o s t ≡ raises e → IsIn e (listed_if (is_arithmetic o) overflow ++ listed_if (is_joining o) depletion)
operator-raises o s t e is =
    subst (λ (b : Bool). IsIn e (listed_if b overflow ++ listed_if (is_joining o) depletion)) (or-none (is_arithmetic o))
    (subst (λ (b : Bool). IsIn e (listed_if (is_arithmetic o || (false || false)) overflow ++ listed_if b depletion)) (or-none (is_joining o))
    (raises-its no_parts (operation o (literal (literal_of s)) (literal (literal_of t))) e (ap₂ (operate o) (same-scalar s) (same-scalar t) ∙ is)))

unary-raises : (u : UnaryOperator) (s : Scalar) (e : ℕ) → applied u s ≡ raises e → IsIn e (listed_if (is_negative u) overflow)
unary-raises negative s e is = raises-its no_parts (unary negative (literal (literal_of s))) e (ap (applied negative) (same-scalar s) ∙ is)
unary-raises complement s e is = raises-its no_parts (unary complement (literal (literal_of s))) e (ap (applied complement) (same-scalar s) ∙ is)
unary-raises as_text s e is = raises-its no_parts (unary as_text (literal (literal_of s))) e (ap (applied as_text) (same-scalar s) ∙ is)
unary-raises text_length s e is = raises-its no_parts (unary text_length (literal (literal_of s))) e (ap (applied text_length) (same-scalar s) ∙ is)

nothing-raised : {A : Type 0} (e : ℕ) → no_value ≡ raises e → A
nothing-raised e is = none-not_some (ap raised_in is)

on-top : (u : UnaryOperator) (v : Value) (e : ℕ) → scalar_then (applied u) v ≡ raises e → IsIn e (listed_if (is_negative u) overflow)
on-top u (cell n (a_scalar s) ps) e is = unary-raises u s e is
on-top u (cell n k ps) e is = nothing-raised e is

on-two : (o : Operator) (v w : Value) (e : ℕ) → two_then (operate o) (gives v) (gives w) ≡ raises e → IsIn e (listed_if (is_arithmetic o) overflow ++ listed_if (is_joining o) depletion)
on-two o (cell n (a_scalar s) ps) (cell m (a_scalar t) qs) e is = operator-raises o s t e is
on-two o (cell n (a_scalar s) ps) (cell m k qs) e is = nothing-raised e is
on-two o (cell n k ps) w e is = nothing-raised e is

module _ (name : Name → Name) (c : ReadyCode) (types : TypeTable) (variables : List ℕ) where
  -- an exception that an instruction raises is among those that it lists
  abbrev pub RaisesListed : Instruction → Type 0
  RaisesListed x = (stack : List Value) (b : Frame Name) (e : ℕ) → exception_in (effect name c x stack b).completion ≡ Some e → IsIn e (exceptions_of types variables x)

  constant-raises : (o : Option Literal) (stack : List Value) (b : Frame Name) (e : ℕ) → exception_in (pushing (constant_value o) stack b).completion ≡ Some e → IsIn {X = ℕ} e []
  constant-raises None stack b e is = none-not_some is
  constant-raises (Some l) stack b e is = none-not_some is

  there-raises : (o : Option (Cell Name)) (stack : List Value) (b : Frame Name) (e : ℕ) → exception_in (pushing (value_there o) stack b).completion ≡ Some e → IsIn {X = ℕ} e []
  there-raises None stack b e is = none-not_some is
  there-raises (Some d) stack b e is = none-not_some is

  rows-raise : (o : Option (Cell Name)) (stack : List Value) (b : Frame Name) (e : ℕ) → exception_in (pushing (rows_there o) stack b).completion ≡ Some e → IsIn {X = ℕ} e []
  rows-raise None stack b e is = none-not_some is
  rows-raise (Some (cell n a_table rs)) stack b e is = none-not_some is
  rows-raise (Some (cell n k rs)) stack b e is = none-not_some is

  pub const-listed : (k : ℕ) → RaisesListed (Const k)
  const-listed k stack b e is = constant-raises (slice_get c.constants k) stack b e is

  pub load-listed : (p : List ℕ) → RaisesListed (Load p)
  load-listed p stack b e is = there-raises (read_at p b.variables) stack b e is

  pub size-listed : (p : List ℕ) → RaisesListed (Size p)
  size-listed p stack b e is = rows-raise (read_at p b.variables) stack b e is

  pub apply-listed : (u : UnaryOperator) → RaisesListed (Apply u)
  apply-listed u [] b e is = none-not_some is
  apply-listed u (v ∷ stack) b e is = on-top u v e (pushed-raises (scalar_then (applied u) v) stack b e is)

  pub combine-listed : (o : Operator) → RaisesListed (Combine o)
  combine-listed o [] b e is = none-not_some is
  combine-listed o (w ∷ []) b e is = none-not_some is
  combine-listed o (w ∷ v ∷ stack) b e is = on-two o v w e (pushed-raises (two_then (operate o) (gives v) (gives w)) stack b e is)
