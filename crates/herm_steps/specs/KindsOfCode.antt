-- The kind of an instruction in code.
use Rattle.std.specs.Prelude.{◌≡◌, true, false}
use Rattle.herm_model.specs.Expressions.{concatenated}
use Rattle.herm_instructions.specs.Instructions as instructions
use Rattle.herm_instructions.specs.Instructions.{Instruction, Apply, Combine, as_text}
use Rattle.herm_stack.specs.Answers.{binary_view, unary_view}
use Rattle.herm_steps.specs.Kinds.{is_pushing, is_sizing, is_storing, is_placing, is_holding, is_tabular, is_looping, is_leading, is_ending, HasNoEffect}
use Rattle.herm_steps.specs.declared.kinds.Kind.{Kind}
use Rattle.herm_steps.specs.declared.kinds.Kind.TheVariants as kinds
use Rattle.herm_steps.specs.declared.kinds.Rare.{Rare}
use Rattle.herm_steps.specs.declared.kinds.Rare.TheVariants as rares
use Rattle.herm_steps.specs.declared.running.End.{End}
use Rattle.herm_steps.specs.declared.running.End.TheVariants as ends

-- the end that an instruction makes
abbrev pub IsEndOf : End → Instruction → Type 0
IsEndOf ends.Normal i = i ≡ instructions.End
IsEndOf (ends.By e) i = i ≡ instructions.EndBy e.0

abbrev pub IsRare : Rare → Instruction → Type 0
IsRare rares.Sizing i = is_sizing i ≡ true
IsRare (rares.Applying o) i = i ≡ Apply (unary_view o)
IsRare rares.Telling i = i ≡ Apply as_text
IsRare rares.Joining i = i ≡ Combine concatenated
IsRare rares.Placing i = is_placing i ≡ true
IsRare rares.Holding i = is_holding i ≡ true
IsRare rares.Tabular i = is_tabular i ≡ true
IsRare rares.Looping i = is_looping i ≡ true
IsRare rares.Other i = HasNoEffect i × (is_ending i ≡ false)

abbrev pub IsKind : Kind → Instruction → Type 0
IsKind kinds.Pushing i = is_pushing i ≡ true
IsKind (kinds.Combining o) i = i ≡ Combine (binary_view o)
IsKind kinds.Storing i = is_storing i ≡ true
IsKind kinds.Leading i = is_leading i ≡ true
IsKind (kinds.Ending e) i = IsEndOf e i
IsKind (kinds.Rare r) i = IsRare r i
