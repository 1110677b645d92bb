-- The instructions of which programs mostly consist begin no piece, and jump nowhere but where they lead.
use Rattle.std.proofs.Common.{◌≡◌, ℕ, Bool, true, false, refl, sym, ap, ◌∙◌}
use Rattle.herm_instructions.specs.Instructions.{Instruction, Const, Load, Store, Combine, Jump, JumpFalse, Raise, End, EndBy}
use Rattle.herm_code_machine.specs.CodeStates.{begins_piece, jumped}
use Rattle.herm_code_machine.specs.ReadyCode.{ReadyCode}
use Rattle.herm_stack.specs.Answers.{binary_view}
use Rattle.herm_stack.specs.declared.operators.Binary.{Binary}
use Rattle.herm_steps.specs.Kinds.{is_pushing, is_storing, is_leading, PassesOn}
use Rattle.herm_steps.specs.KindsOfCode.{IsEndOf, IsKind}
use Rattle.herm_steps.specs.declared.kinds.Kind.{Kind}
use Rattle.herm_steps.specs.declared.kinds.Kind.TheVariants as kinds
use Rattle.herm_steps.specs.declared.running.End.{End as Ended}
use Rattle.herm_steps.specs.declared.running.End.TheVariants as ends

false_is_not_true : false ≡ true → ⊥
false_is_not_true e = let k : ⊥ = cc in k

pushing_begins : (c : ReadyCode) (i : Instruction) → is_pushing i ≡ true → false ≡ begins_piece c i
pushing_begins c (Const k) h = refl
pushing_begins c (Load p) h = refl
pushing_begins c i h = absurd (false_is_not_true h)

storing_begins : (c : ReadyCode) (i : Instruction) → is_storing i ≡ true → false ≡ begins_piece c i
storing_begins c (Store x) h = refl
storing_begins c i h = absurd (false_is_not_true h)

leading_begins : (c : ReadyCode) (i : Instruction) → is_leading i ≡ true → false ≡ begins_piece c i
leading_begins c (Jump j) h = refl
leading_begins c (JumpFalse j) h = refl
leading_begins c (Raise e) h = refl
leading_begins c i h = absurd (false_is_not_true h)

ending_begins : (c : ReadyCode) (i : Instruction) (e : Ended) → IsEndOf e i → false ≡ begins_piece c i
ending_begins c i ends.Normal h = sym (ap (begins_piece c) h)
ending_begins c i (ends.By e) h = sym (ap (begins_piece c) h)

pub pushing_begins_nothing : (c : ReadyCode) (i : Instruction) (k : Kind) → IsKind k i → k ≡ kinds.Pushing → false ≡ begins_piece c i
pushing_begins_nothing c i kinds.Pushing h is = pushing_begins c i h
pushing_begins_nothing c i k h is = absurd (cc)

pub combining_begins_nothing : (c : ReadyCode) (i : Instruction) (k : Kind) (o : Binary) → IsKind k i → k ≡ kinds.Combining o → false ≡ begins_piece c i
combining_begins_nothing c i (kinds.Combining p) o h is = sym (ap (begins_piece c) h)
combining_begins_nothing c i k o h is = absurd (cc)

pub storing_begins_nothing : (c : ReadyCode) (i : Instruction) (k : Kind) → IsKind k i → k ≡ kinds.Storing → false ≡ begins_piece c i
storing_begins_nothing c i kinds.Storing h is = storing_begins c i h
storing_begins_nothing c i k h is = absurd (cc)

pub leading_begins_nothing : (c : ReadyCode) (i : Instruction) (k : Kind) → IsKind k i → k ≡ kinds.Leading → false ≡ begins_piece c i
leading_begins_nothing c i kinds.Leading h is = leading_begins c i h
leading_begins_nothing c i k h is = absurd (cc)

pub ending_begins_nothing : (c : ReadyCode) (i : Instruction) (k : Kind) (e : Ended) → IsKind k i → k ≡ kinds.Ending e → false ≡ begins_piece c i
ending_begins_nothing c i (kinds.Ending f) e h is = ending_begins c i f h
ending_begins_nothing c i k e h is = absurd (cc)

pub ruleset common = (pushing_begins_nothing, combining_begins_nothing, storing_begins_nothing, leading_begins_nothing, ending_begins_nothing)

-- they pass on
pub pushing_passes : (i : Instruction) → is_pushing i ≡ true → PassesOn i
pushing_passes (Const k) h behind = refl
pushing_passes (Load p) h behind = refl
pushing_passes i h behind = absurd (false_is_not_true h)

pub combining_passes : (o : Binary) (i : Instruction) → i ≡ Combine (binary_view o) → PassesOn i
combining_passes o i h behind = ap (λ i. jumped i behind) h

pub storing_passes : (i : Instruction) → is_storing i ≡ true → PassesOn i
storing_passes (Store x) h behind = refl
storing_passes i h behind = absurd (false_is_not_true h)
