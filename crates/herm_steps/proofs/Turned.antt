-- A run goes on by turns.
use Rattle.std.proofs.Common.{◌≡◌, ℕ, zero, suc, length, Bool, true, false, cond, Option, Some, None, option_and_then, refl, sym, ap, ◌∙◌}
use Rattle.std.specs.Prelude.{⊤}
use Rattle.herm_journal.specs.Renaming.{forget_name}
use Rattle.herm_instructions.specs.Instructions.{Instruction}
use Rattle.herm_instructions.specs.Images.{instruction_at}
use Rattle.herm_code_machine.specs.CodeStates.{CodeState, at_index, begins_piece, done_instruction, on_by, on_from, run_on, to_next_piece}
use Rattle.herm_code_machine.specs.ReadyCode.{ReadyCode}
use Rattle.herm_steps.specs.Behind.{IsBehind}
use Rattle.herm_steps.specs.HeldStates.{HeldState}
use Rattle.herm_steps.specs.StandingAt.{StandsAt}
use Rattle.herm_steps.specs.Turns.{IsTurned}

-- the process stands for a state of the same module from which so many instructions lead to this
pub record RunsFrom (c : ReadyCode) (p : HeldState) (s : CodeState ⊤) (most : ℕ) (o : Option (CodeState ⊤)) : Type 0 where
  pub here : CodeState ⊤
  pub same : here.module_number ≡ s.module_number
  pub stands : StandsAt p here
  pub runs : run_on forget_name c most here ≡ o

pub begins_run : (c : ReadyCode) (p : HeldState) (s : CodeState ⊤) (n : ℕ) → n ≡ length c.code.code → StandsAt p s → RunsFrom c p s (suc n) (to_next_piece forget_name c s)
begins_run c p s n is h = record { here = s; same = refl; stands = h; runs = ap (λ n. run_on forget_name c (suc n) s) is }

pub ends_run : (c : ReadyCode) (p q : HeldState) (s : CodeState ⊤) (n : ℕ) (o : Option (CodeState ⊤)) (b : Bool) → RunsFrom c p s (suc n) o → ((t : CodeState ⊤) → StandsAt p t → IsTurned (Some b) q c t) → IsBehind b q s o
ends_run c p q s n o true r turned = let h = turned r.here r.stands in (r.here, sym r.runs ∙ h.1 (run_on forget_name c n), r.same, h.0)
ends_run c p q s n o false r turned = sym r.runs ∙ turned r.here r.stands (run_on forget_name c n)

pub goes_on : (c : ReadyCode) (p q : HeldState) (s : CodeState ⊤) (n : ℕ) (o : Option (CodeState ⊤)) → RunsFrom c p s (suc n) o → ((t : CodeState ⊤) → StandsAt p t → IsTurned None q c t) → RunsFrom c q s n o
goes_on c p q s n o r turned = let h = turned r.here r.stands in record { here = h.0; same = h.1 ∙ r.same; stands = h.2; runs = sym (h.3 (run_on forget_name c n)) ∙ r.runs }

pub runs_out : (c : ReadyCode) (p : HeldState) (s : CodeState ⊤) (n : ℕ) (o : Option (CodeState ⊤)) → RunsFrom c p s n o → n ≡ zero → o ≡ None
runs_out c p s n o r is = sym r.runs ∙ ap (λ n. run_on forget_name c n r.here) is

-- what is at an index
pub none_there : (c : ReadyCode) (s : CodeState ⊤) (i : ℕ) (next : CodeState ⊤ → Option (CodeState ⊤)) → s.position ≡ at_index i → None ≡ instruction_at c.code i → on_from forget_name c next s s.position ≡ None
none_there c s i next at is = ap (on_from forget_name c next s) at ∙ ap (on_by forget_name c next s i) (sym is)

pub one_there : (c : ReadyCode) (s : CodeState ⊤) (i : ℕ) (next : CodeState ⊤ → Option (CodeState ⊤)) (instruction : Instruction) (b : Bool) → s.position ≡ at_index i → Some instruction ≡ instruction_at c.code i → b ≡ begins_piece c instruction
    → on_from forget_name c next s s.position ≡ cond b (Some s) (option_and_then next (done_instruction forget_name c s i instruction))
one_there c s i next instruction b at is begins =
    ap (on_from forget_name c next s) at ∙ ap (on_by forget_name c next s i) (sym is) ∙ ap (λ b. cond b (Some s) (option_and_then next (done_instruction forget_name c s i instruction))) (sym begins)

-- what is behind the instruction at an index that begins no piece
pub turned_on : (c : ReadyCode) (p : HeldState) (s : CodeState ⊤) (i : ℕ) (instruction : Instruction) → s.position ≡ at_index i → Some instruction ≡ instruction_at c.code i → false ≡ begins_piece c instruction → IsBehind true p s (done_instruction forget_name c s i instruction) → IsTurned None p c s
turned_on c p s i instruction at is begins h = (h.0, h.2, h.3, λ next. one_there c s i next instruction false at is begins ∙ ap (option_and_then next) h.1)

pub turned_stuck : (c : ReadyCode) (p : HeldState) (s : CodeState ⊤) (i : ℕ) (instruction : Instruction) → s.position ≡ at_index i → Some instruction ≡ instruction_at c.code i → false ≡ begins_piece c instruction → done_instruction forget_name c s i instruction ≡ None → IsTurned (Some false) p c s
turned_stuck c p s i instruction at is begins h = λ next. one_there c s i next instruction false at is begins ∙ ap (option_and_then next) h
