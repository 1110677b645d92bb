-- Typed instructions: the rules on types and paths of each instruction, by those of typed statements.
use Rattle.std.specs.Prelude.{ℕ, ◌<◌, List, [], ◌∷◌, map, length, Bool, true, false, Option, Some, None, slice_get, IsTrue, ⊤, ◌≡◌}
use Rattle.herm_model.specs.Types.{Mode, by_in, by_inout, by_out, Parameter, Raised, callmessage, TypeTable, type_at}
use Rattle.herm_model.specs.Copyable.{IsCopyable}
use Rattle.herm_model.specs.Expressions.{Literal}
use Rattle.herm_model.specs.Statements.{Form, Process}
use Rattle.herm_model.specs.FactsOfStatements.{set_by_call}
use Rattle.herm_model.specs.TypedExpressions.{HasShape}
use Rattle.herm_model.specs.TypedStatements.{AreApart, IsLookedAt, IsTarget, IsTableOf, GoesTo, IsTypedForm}
use Rattle.herm_instructions.specs.Instructions.{Argument, of_in, of_inout, of_out, Choice, Instruction, Const, Load, Size, Store, New, Wrap, Remove, Get, LoopStart, Select, Call, EndBy}
use Rattle.herm_instructions.specs.Effects.{atom_of, form_of}

abbrev pub is_some_choice : List Choice → Bool
is_some_choice [] = false
is_some_choice (c ∷ choices) = true

module _ (table : TypeTable) (variables : List ℕ) where
  -- An argument is as its parameter's mode says: on the stack, or a target of the parameter's type.
  -- Code reference, "Typed instructions".
  abbrev pub IsArgumentOf : Mode → Argument → ℕ → Type 0
  IsArgumentOf by_in of_in t = ⊤
  IsArgumentOf by_inout (of_inout p) t = IsTarget table variables p t
  IsArgumentOf by_out (of_out p) t = IsTarget table variables p t
  IsArgumentOf mode a t = ⊥

  abbrev pub AreArgumentsOf : List Parameter → List Argument → Type 0
  AreArgumentsOf [] [] = ⊤
  AreArgumentsOf [] (a ∷ arguments) = ⊥
  AreArgumentsOf (p ∷ parameters) [] = ⊥
  AreArgumentsOf (p ∷ parameters) (a ∷ arguments) = IsArgumentOf p.mode a p.content × AreArgumentsOf parameters arguments

  module _ (exceptions : ℕ) (constants : List Literal) (processes : List Process) where
    -- the statement's form that the instruction does is typed, where it does one
    abbrev pub IsTypedByForm : Option Form → Type 0
    IsTypedByForm None = ⊤
    IsTypedByForm (Some form) = IsTypedForm table variables exceptions processes form

    -- The instruction keeps the rules on types and paths: those of its statement's form, or those that are said here, which are the
    -- same words for operands that stand on the stack. Code reference, "Typed instructions".
    abbrev pub IsTypedInstruction : Instruction → Type 0
    IsTypedInstruction (Const k) = (l : Literal) × (slice_get constants k ≡ Some l)
    IsTypedInstruction (Load p) = (t : ℕ) × IsLookedAt table variables p t × IsCopyable table t
    IsTypedInstruction (Size p) = (row : ℕ) × (key : List ℕ) × IsTableOf table variables p row key
    IsTypedInstruction (Store x) = (t : ℕ) × IsTarget table variables x t
    IsTypedInstruction (New x t) = IsTypedForm table variables exceptions processes (Form.New x) × (type_at table variables x ≡ Some t)
    IsTypedInstruction (Wrap y t p) = IsTypedForm table variables exceptions processes (Form.Wrap y p) × (type_at table variables y ≡ Some t)
    IsTypedInstruction (Remove r t n) = (row : ℕ) × (key : List ℕ) × IsTableOf table variables t row key × IsTarget table variables r row × (n ≡ length key)
    IsTypedInstruction (Get r t n) = (row : ℕ) × (key : List ℕ) × IsTableOf table variables t row key × IsTarget table variables r row × (n ≡ length key) × IsCopyable table row
    IsTypedInstruction (LoopStart t s) = (row : ℕ) × (key : List ℕ) × IsTableOf table variables t row key × IsCopyable table row
    IsTypedInstruction (Select choices) = IsTypedByForm (form_of (Select choices)) × IsTrue (is_some_choice choices)
    IsTypedInstruction (Call o arguments keeps) = (message : ℕ) × (parameters : List Parameter) × (raises : List Raised) × GoesTo table variables o message × HasShape table message (callmessage parameters raises)
        × AreArgumentsOf parameters arguments × AreApart (set_by_call table variables o (map atom_of arguments))
    IsTypedInstruction (EndBy e) = e < exceptions
    IsTypedInstruction i = IsTypedByForm (form_of i)
