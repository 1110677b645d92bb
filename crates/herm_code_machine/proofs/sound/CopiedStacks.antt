-- Stacks of copyable types: each instruction leaves one where it finds one.
use Rattle.std.proofs.Common.{◌≡◌, ◌⊎◌, inl, inr, ℕ, zero, suc, List, [], ◌∷◌, ◌++◌, drop, Option, Some, None, refl, sym, ap, subst, ◌∙◌}
use Rattle.std.specs.Prelude.{slice_get}
use Rattle.herm_model.specs.Copyable.{IsCopyable, plain}
use Rattle.herm_model.specs.Expressions.{Literal, Operator, logical_or, logical_and, equal, unequal, less, at_most, greater, at_least, plus, minus, times, divided, modulo, concatenated}
use Rattle.herm_model.specs.Lists.{IsIn, list_of}
use Rattle.herm_model.specs.Outcomes.{Outcome, ok, is_true, is_false, turn, done, component, arm, raised}
use Rattle.herm_model.specs.Types.{Shape, boolean, integer, text, names, TypeTable, type_at}
use Rattle.herm_model.specs.TypedExpressions.{HasShape, IsLiteralOf, shape_given}
use Rattle.herm_model.specs.tests.TypingTests.{number_of_shape}
use Rattle.herm_model.specs.WellFormedTables.{IsWellFormedTable}
use Rattle.herm_model.proofs.FactTests.{got-IsIn}
use Rattle.herm_model.proofs.Lists.{in-append_cases}
use Rattle.herm_instructions.specs.Effects.{label_behind}
use Rattle.herm_instructions.specs.Images.{CodeModule, Image}
use Rattle.herm_instructions.specs.Instructions.{UnaryOperator, negative, complement, as_text, text_length, Instruction, Const, Load, Size, Apply, Combine}
use Rattle.herm_instructions.specs.Labels.{Label}
use Rattle.herm_instructions.specs.Operands.{boolean_type, integer_type, text_type, type_of_literal, result_type, taken}
use Rattle.herm_instructions.specs.Operands as operands
use Rattle.herm_code_machine.proofs.sound.AtLabels.{Finds}

-- each is a copyable type
abbrev pub AreCopied : TypeTable → List ℕ → Type 0
AreCopied types ts = (t : ℕ) → IsIn t ts → IsCopyable types t

in-drop : (n : ℕ) (t : ℕ) (ts : List ℕ) → IsIn t (drop n ts) → IsIn t ts
in-drop zero t ts h = h
in-drop (suc n) t [] h = h
in-drop (suc n) t (u ∷ ts) h = inr (in-drop n t ts h)

pub copied-drop : (types : TypeTable) (n : ℕ) (ts : List ℕ) → AreCopied types ts → AreCopied types (drop n ts)
copied-drop types n ts h t i = h t (in-drop n t ts i)

module _ (exceptions' : ℕ) (image : Image) (formed : IsWellFormedTable exceptions' image.types) (literals : (l : Literal) → IsIn l image.constants → IsLiteralOf image.types l (type_of_literal l)) (m : CodeModule) (W : Outcome → Type 0) where
  boolean-copied : IsCopyable image.types boolean_type
  boolean-copied = plain boolean_type boolean (let d = formed.predefined_types in ap (λ ts. slice_get ts boolean_type) d.1) refl

  integer-copied : IsCopyable image.types integer_type
  integer-copied = plain integer_type integer (let d = formed.predefined_types in ap (λ ts. slice_get ts integer_type) d.1) refl

  text-copied : IsCopyable image.types text_type
  text-copied = plain text_type text (let d = formed.predefined_types in ap (λ ts. slice_get ts text_type) d.1) refl

  literal-copied : (l : Literal) (t : ℕ) → IsLiteralOf image.types l t → IsCopyable image.types t
  literal-copied (Literal.boolean b) t h = plain t boolean h refl
  literal-copied (Literal.integer z) t h = plain t integer h.0 refl
  literal-copied (Literal.text bytes) t h = plain t text h.0 refl
  literal-copied (Literal.tag type place) t h = plain t (names h.1) h.2 refl

  unary-copied : (u : UnaryOperator) → IsCopyable image.types (result_type u)
  unary-copied negative = integer-copied
  unary-copied complement = boolean-copied
  unary-copied as_text = text-copied
  unary-copied text_length = integer-copied

  operator-copied : (o : Operator) → IsCopyable image.types (number_of_shape (shape_given o))
  operator-copied logical_or = boolean-copied
  operator-copied logical_and = boolean-copied
  operator-copied equal = boolean-copied
  operator-copied unequal = boolean-copied
  operator-copied less = boolean-copied
  operator-copied at_most = boolean-copied
  operator-copied greater = boolean-copied
  operator-copied at_least = boolean-copied
  operator-copied plus = integer-copied
  operator-copied minus = integer-copied
  operator-copied times = integer-copied
  operator-copied divided = integer-copied
  operator-copied modulo = integer-copied
  operator-copied concatenated = text-copied

  one : (u : ℕ) → IsCopyable image.types u → AreCopied image.types (u ∷ [])
  one u h t (inl e) = subst (IsCopyable image.types) (sym e) h
  one u h t (inr i) = absurd i

  -- what an instruction pushes
  pushed-copied : (i : Instruction) (l : Label) → Finds exceptions' image m W i l → AreCopied image.types (operands.pushed image.types image.constants m.variables i)
  pushed-copied (Const k) l finds =
      let x = finds.typed in
      subst (λ o. AreCopied image.types (list_of (λ l. type_of_literal l ∷ []) o)) (sym x.1) (one (type_of_literal x.0) (literal-copied x.0 (type_of_literal x.0) (literals x.0 (got-IsIn image.constants k x.0 x.1))))
  pushed-copied (Load p) l finds = let x = finds.typed in subst (λ o. AreCopied image.types (list_of (λ t. t ∷ []) o)) (sym (x.1).0) (one x.0 x.2)
  pushed-copied (Size p) l finds = one integer_type integer-copied
  pushed-copied (Apply u) l finds = one (result_type u) (unary-copied u)
  pushed-copied (Combine o) l finds = one (number_of_shape (shape_given o)) (operator-copied o)
  pushed-copied i l finds = λ t h. absurd h

  behind-copied : (i : Instruction) (l : Label) → Finds exceptions' image m W i l → AreCopied image.types l.stack → AreCopied image.types (operands.stack_behind image.types image.constants m.variables i l.stack)
  behind-copied i l finds h t k = by (in-append_cases t (operands.pushed image.types image.constants m.variables i) (drop (taken i) l.stack) k)
    where
      by : IsIn t (operands.pushed image.types image.constants m.variables i) ⊎ IsIn t (drop (taken i) l.stack) → IsCopyable image.types t
      by (inl k) = pushed-copied i l finds t k
      by (inr k) = copied-drop image.types (taken i) l.stack h t k

  pub label-copied : (i : Instruction) (o : Outcome) (l : Label) → Finds exceptions' image m W i l → AreCopied image.types l.stack → AreCopied image.types (label_behind image.types m.variables image.constants i o l).stack
  label-copied i (raised e) l finds h = λ t k. absurd k
  label-copied i ok l finds h = behind-copied i l finds h
  label-copied i is_true l finds h = behind-copied i l finds h
  label-copied i is_false l finds h = behind-copied i l finds h
  label-copied i turn l finds h = behind-copied i l finds h
  label-copied i done l finds h = behind-copied i l finds h
  label-copied i (component k) l finds h = behind-copied i l finds h
  label-copied i (arm n) l finds h = behind-copied i l finds h
