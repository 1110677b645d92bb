-- Changing the names of cells commutes with what a process of code wants, its local step and what an answer leaves.
use Rattle.std.proofs.Common.{◌≡◌, ℕ, zero, suc, List, [], ◌∷◌, map, Bool, true, false, cond, Option, Some, None, option_map, option_and_then, refl, sym, ap, ◌∙◌, length}
use Rattle.std.specs.Prelude.{pred, drop}
use Rattle.herm_model.specs.Expressions.{Atom}
use Rattle.herm_model.specs.Outcomes.{Outcome}
use Rattle.herm_model.specs.Targets
use Rattle.herm_model.specs.Values.{Cell, Parts, part, Value}
use Rattle.herm_model.specs.CellNames.{rename, rename_in}
use Rattle.herm_model.proofs.Renaming.{gaps-rename}
use Rattle.herm_journal.specs.Messages.{CellWant, CellAction}
use Rattle.herm_journal.specs.Renaming.{rename_want, rename_action}
use Rattle.herm_forms.specs.ClosesAndAnswers
use Rattle.herm_forms.specs.Frames.{Name, Frame, Completion, goes, stays, stuck, counted_action}
use Rattle.herm_forms.specs.Renaming.{rename_body}
use Rattle.herm_forms.proofs.renamed.RenamedBodies.{rename_result}
use Rattle.herm_forms.proofs.renamed.RenamedForms.{arrive-renamed, atom_value-renamed}
use Rattle.herm_forms.proofs.renamed.RenamedActions.{work_wants-renamed, work_done-renamed}
use Rattle.herm_forms.proofs.renamed.RenamedActs.{again}
use Rattle.herm_instructions.specs.Instructions.{Instruction, Const, Load, End, EndBy}
use Rattle.herm_instructions.specs.Images.{instruction_at}
use Rattle.herm_code_machine.specs.ReadyCode.{ReadyCode}
use Rattle.herm_code_machine.specs.Stacks.{Effect}
use Rattle.herm_code_machine.specs.Effects.{effect}
use Rattle.herm_code_machine.specs.CodeActions.{code_wants, code_settles, code_hears}
use Rattle.herm_code_machine.specs.CodeStates.{Position, at_index, at_end, at_end_by, CodeState, leads, stack_after, state_behind, ended_at, done_instruction, begins_piece, on_by, on_from, run_on, to_next_piece, first_frame, code_begin}
use Rattle.herm_instructions.specs.Pieces.{is_operand}
use Rattle.herm_code_machine.specs.Pieces.{Piece, Met, operand, pushed, behind_operands, stack_before_action, piece_at, action_of}
use Rattle.herm_code_machine.specs.CodeSteps.{CodeNext, an_item, a_reply, an_action, a_local_piece, nothing, met_at, by_action, by_piece, by_met, call_or_piece, item_or, code_next, counted_if, wanted_next, code_wanted, step_next, code_local_step, settled, settled_action, worked, settle_next, code_answered}
use Rattle.herm_code_machine.specs.CodeRenaming.{rename_code}
use Rattle.herm_code_machine.proofs.renamed.EffectsRenamed.{rename_effect, effect-renamed, code_wants-renamed, code_settles-renamed, code_hears-renamed}

module _ {N M : Type 0} (f : N → M) (name : Name → N) where
  abbrev other : Name → M
  other = again f name

  -- the state behind a completion
  led-renamed : (s : CodeState N) (o : Outcome) (stack : List Value) (b : Frame N) (j : Option ℕ)
      → option_map (λ j. record { module_number = s.module_number; position = at_index j; stack = stack_after o stack; frame = rename_body f b }) j
      ≡ option_map (rename_code f) (option_map (λ j. record { module_number = s.module_number; position = at_index j; stack = stack_after o stack; frame = b }) j)
  led-renamed s o stack b None = refl
  led-renamed s o stack b (Some j) = refl

  behind-renamed : (c : ReadyCode) (s : CodeState N) (i : ℕ) (instruction : Instruction) (stack : List Value) (r : Completion N)
      → state_behind c (rename_code f s) i instruction stack (rename_result f r) ≡ option_map (rename_code f) (state_behind c s i instruction stack r)
  behind-renamed c s i instruction stack (goes o b) = led-renamed s o stack b (leads c i instruction o)
  behind-renamed c s i instruction stack (stays b) = refl
  behind-renamed c s i instruction stack stuck = refl

  ended-renamed : (c : ReadyCode) (s : CodeState N) (p : Position) (t : Targets.Target) → ended_at c (rename_code f s) p t ≡ rename_code f (ended_at c s p t)
  ended-renamed c s p t = ap (λ (b : Frame M). record { module_number = s.module_number; position = p; stack = []; frame = b }) (arrive-renamed f c.scope t s.frame)

  by-effect : (c : ReadyCode) (s : CodeState N) (i : ℕ) (instruction : Instruction) (e : Effect N) (e' : Effect M) → e' ≡ rename_effect f name e
      → state_behind c (rename_code f s) i instruction e'.stack e'.completion ≡ option_map (rename_code f) (state_behind c s i instruction e.stack e.completion)
  by-effect c s i instruction e e' same = ap (λ (e : Effect M). state_behind c (rename_code f s) i instruction e.stack e.completion) same ∙ behind-renamed c s i instruction e.stack e.completion

  through-effect : (c : ReadyCode) (s : CodeState N) (i : ℕ) (instruction : Instruction)
      → state_behind c (rename_code f s) i instruction (effect other c instruction s.stack (rename_body f s.frame)).stack (effect other c instruction s.stack (rename_body f s.frame)).completion
      ≡ option_map (rename_code f) (state_behind c s i instruction (effect name c instruction s.stack s.frame).stack (effect name c instruction s.stack s.frame).completion)
  through-effect c s i instruction = by-effect c s i instruction (effect name c instruction s.stack s.frame) (effect other c instruction s.stack (rename_body f s.frame)) (effect-renamed f name c instruction s.stack s.frame)

  done-renamed : (c : ReadyCode) (s : CodeState N) (i : ℕ) (instruction : Instruction) → done_instruction other c (rename_code f s) i instruction ≡ option_map (rename_code f) (done_instruction name c s i instruction)
  done-renamed c s i End = ap (λ s. Some s) (ended-renamed c s at_end Targets.end)
  done-renamed c s i (EndBy x) = ap (λ s. Some s) (ended-renamed c s (at_end_by x) (Targets.end_by x))
  done-renamed c s i instruction = through-effect c s i instruction

  -- runs
  abbrev Renames : (CodeState N → Option (CodeState N)) → (CodeState M → Option (CodeState M)) → Type 0
  Renames next next' = (s : CodeState N) → next' (rename_code f s) ≡ option_map (rename_code f) (next s)

  then-renamed : (next : CodeState N → Option (CodeState N)) (next' : CodeState M → Option (CodeState M)) → Renames next next' → (o : Option (CodeState N)) (o' : Option (CodeState M)) → o' ≡ option_map (rename_code f) o
      → option_and_then next' o' ≡ option_map (rename_code f) (option_and_then next o)
  then-renamed next next' e o o' same = ap (option_and_then next') same ∙ by o
    where
      by : (o : Option (CodeState N)) → option_and_then next' (option_map (rename_code f) o) ≡ option_map (rename_code f) (option_and_then next o)
      by None = refl
      by (Some s) = e s

  cond-renamed : (b : Bool) (s : CodeState N) (o : Option (CodeState N)) (o' : Option (CodeState M)) → o' ≡ option_map (rename_code f) o → cond b (Some (rename_code f s)) o' ≡ option_map (rename_code f) (cond b (Some s) o)
  cond-renamed true s o o' e = refl
  cond-renamed false s o o' e = e

  by-renamed : (c : ReadyCode) (next : CodeState N → Option (CodeState N)) (next' : CodeState M → Option (CodeState M)) → Renames next next' → (s : CodeState N) (i : ℕ) (o : Option Instruction)
      → on_by other c next' (rename_code f s) i o ≡ option_map (rename_code f) (on_by name c next s i o)
  by-renamed c next next' e s i None = refl
  by-renamed c next next' e s i (Some instruction) =
      cond-renamed (begins_piece c instruction) s (option_and_then next (done_instruction name c s i instruction)) (option_and_then next' (done_instruction other c (rename_code f s) i instruction))
      (then-renamed next next' e (done_instruction name c s i instruction) (done_instruction other c (rename_code f s) i instruction) (done-renamed c s i instruction))

  from-renamed : (c : ReadyCode) (next : CodeState N → Option (CodeState N)) (next' : CodeState M → Option (CodeState M)) → Renames next next' → (s : CodeState N) (p : Position)
      → on_from other c next' (rename_code f s) p ≡ option_map (rename_code f) (on_from name c next s p)
  from-renamed c next next' e s (at_index i) = by-renamed c next next' e s i (instruction_at c.code i)
  from-renamed c next next' e s at_end = refl
  from-renamed c next next' e s (at_end_by x) = refl

  run-renamed : (c : ReadyCode) (n : ℕ) → Renames (run_on name c n) (run_on other c n)
  run-renamed c zero s = refl
  run-renamed c (suc n) s = from-renamed c (run_on name c n) (run_on other c n) (run-renamed c n) s s.position

  pub next_piece-renamed : (c : ReadyCode) → Renames (to_next_piece name c) (to_next_piece other c)
  next_piece-renamed c s = run-renamed c (suc (length c.code.code)) s

  -- what comes next
  abbrev pub rename_next : CodeNext N → CodeNext M
  rename_next (an_item item work) = an_item (rename f item) (map (rename f) work)
  rename_next (a_reply call i instruction) = a_reply call i instruction
  rename_next (an_action p m) = an_action p m
  rename_next (a_local_piece p) = a_local_piece p
  rename_next nothing = nothing

  action-same : (p : Piece) (o : Option Met) → by_action p o ≡ rename_next (by_action p o)
  action-same p None = refl
  action-same p (Some m) = refl

  piece-same : (c : ReadyCode) (o : Option Piece) → by_piece c o ≡ rename_next (by_piece c o)
  piece-same c None = refl
  piece-same c (Some p) = action-same p (action_of c p)

  met-same : (call : ℕ) (o : Option Met) → by_met call o ≡ rename_next (by_met call o)
  met-same call None = refl
  met-same call (Some m) = refl

  call-same : (c : ReadyCode) (p : Position) (call : Option ℕ) → call_or_piece c p call ≡ rename_next (call_or_piece c p call)
  call-same c p None = piece-same c (piece_at c p)
  call-same c p (Some call) = met-same call (met_at c p)

  item-same : (list : List (Cell N)) (c : ReadyCode) (p : Position) (call : Option ℕ) → item_or (map (rename f) list) (call_or_piece c p call) ≡ rename_next (item_or list (call_or_piece c p call))
  item-same [] c p call = call-same c p call
  item-same (item ∷ list) c p call = refl

  pub code_next-renamed : (c : ReadyCode) (s : CodeState N) → code_next c (rename_code f s) ≡ rename_next (code_next c s)
  code_next-renamed c s = item-same s.frame.work c s.position s.frame.call

  -- the stack before an action has no names
  operand-renamed : (c : ReadyCode) (i : Instruction) (ps : Parts N) → operand c i (rename_in f ps) ≡ operand c i ps
  operand-renamed c (Const k) ps = refl
  operand-renamed c (Load p) ps = atom_value-renamed f ps (Atom.path p)
  operand-renamed c _ ps = refl

  stack-same : (next next' : List Value → Option (List Value)) → ((stack : List Value) → next' stack ≡ next stack) → (o : Option (List Value)) → option_and_then next' o ≡ option_and_then next o
  stack-same next next' e None = refl
  stack-same next next' e (Some stack) = e stack

  operands-renamed : (c : ReadyCode) (ps : Parts N) (code : List Instruction) (stack : List Value) → behind_operands c (rename_in f ps) code stack ≡ behind_operands c ps code stack
  operands-renamed c ps [] stack = refl
  operands-renamed c ps (i ∷ more) stack =
      ap (λ o. cond (is_operand i) o (Some stack))
      (ap (λ v. option_and_then (behind_operands c (rename_in f ps) more) (pushed v stack)) (operand-renamed c i ps)
      ∙ stack-same (behind_operands c ps more) (behind_operands c (rename_in f ps) more) (λ stack'. operands-renamed c ps more stack') (pushed (operand c i ps) stack))

  before-renamed : (c : ReadyCode) (p : Piece) (ps : Parts N) (stack : List Value) → stack_before_action c p (rename_in f ps) stack ≡ stack_before_action c p ps stack
  before-renamed c p ps stack = operands-renamed c ps (drop p.first c.code.code) stack

  -- what is wanted
  want-then : (next : List Value → Option (CellWant N)) (next' : List Value → Option (CellWant M)) → ((stack : List Value) → next' stack ≡ option_map (rename_want f) (next stack)) → (o : Option (List Value))
      → option_and_then next' o ≡ option_map (rename_want f) (option_and_then next o)
  want-then next next' e None = refl
  want-then next next' e (Some stack) = e stack

  wanted_next-renamed : (c : ReadyCode) (s : CodeState N) (next : CodeNext N) → wanted_next other c (rename_code f s) (rename_next next) ≡ option_map (rename_want f) (wanted_next name c s next)
  wanted_next-renamed c s (an_item item work) = work_wants-renamed f item
  wanted_next-renamed c s (a_reply call i instruction) = refl
  wanted_next-renamed c s (an_action p m) =
      ap (option_and_then (λ stack. code_wants other c m.instruction stack (rename_body f s.frame))) (before-renamed c p s.frame.variables s.stack)
      ∙ want-then (λ stack. code_wants name c m.instruction stack s.frame) (λ stack. code_wants other c m.instruction stack (rename_body f s.frame)) (λ stack. code_wants-renamed f name c m.instruction stack s.frame) (stack_before_action c p s.frame.variables s.stack)
  wanted_next-renamed c s (a_local_piece p) = refl
  wanted_next-renamed c s nothing = refl

  pub code_wanted-renamed : (c : ReadyCode) (s : CodeState N) → code_wanted other c (rename_code f s) ≡ option_map (rename_want f) (code_wanted name c s)
  code_wanted-renamed c s = ap (wanted_next other c (rename_code f s)) (code_next-renamed c s) ∙ wanted_next-renamed c s (code_next c s)

  -- local steps
  counted-renamed : (has_step : Bool) (b : Frame N) → counted_if has_step (rename_body f b) ≡ rename_body f (counted_if has_step b)
  counted-renamed true b = refl
  counted-renamed false b = refl

  step_next-renamed : (c : ReadyCode) (s : CodeState N) (next : CodeNext N) → step_next other c (rename_code f s) (rename_next next) ≡ option_map (rename_code f) (step_next name c s next)
  step_next-renamed c s (a_local_piece p) =
      ap (λ (b : Frame M). to_next_piece other c (record { module_number = s.module_number; position = at_index p.first; stack = s.stack; frame = b })) (counted-renamed p.has_step s.frame)
      ∙ next_piece-renamed c (record { module_number = s.module_number; position = at_index p.first; stack = s.stack; frame = counted_if p.has_step s.frame })
  step_next-renamed c s (an_item item work) = refl
  step_next-renamed c s (a_reply call i instruction) = refl
  step_next-renamed c s (an_action p m) = refl
  step_next-renamed c s nothing = refl

  pub code_step-renamed : (c : ReadyCode) (s : CodeState N) → code_local_step other c (rename_code f s) ≡ option_map (rename_code f) (code_local_step name c s)
  code_step-renamed c s = ap (step_next other c (rename_code f s)) (code_next-renamed c s) ∙ step_next-renamed c s (code_next c s)

  -- answers
  settled-renamed : (c : ReadyCode) (s : CodeState N) (i : ℕ) (instruction : Instruction) (stack : List Value) (r : Completion N)
      → settled other c (rename_code f s) i instruction stack (rename_result f r) ≡ option_map (rename_code f) (settled name c s i instruction stack r)
  settled-renamed c s i instruction stack r =
      then-renamed (to_next_piece name c) (to_next_piece other c) (next_piece-renamed c) (state_behind c s i instruction stack r) (state_behind c (rename_code f s) i instruction stack (rename_result f r)) (behind-renamed c s i instruction stack r)

  settled-effect : (c : ReadyCode) (s : CodeState N) (i : ℕ) (instruction : Instruction) (e : Effect N) (e' : Effect M) → e' ≡ rename_effect f name e
      → settled other c (rename_code f s) i instruction e'.stack e'.completion ≡ option_map (rename_code f) (settled name c s i instruction e.stack e.completion)
  settled-effect c s i instruction e e' same = ap (λ (e : Effect M). settled other c (rename_code f s) i instruction e.stack e.completion) same ∙ settled-renamed c s i instruction e.stack e.completion

  action-renamed : (c : ReadyCode) (s : CodeState N) (p : Piece) (m : Met) (at : ℕ) (action : CellAction N) (stack : List Value)
      → settled_action other c (rename_code f s) p m at (rename_action f action) stack ≡ option_map (rename_code f) (settled_action name c s p m at action stack)
  action-renamed c s p m at action stack =
      let b = counted_action (counted_if p.has_step s.frame) in
      settled-effect c s m.index m.instruction (code_settles name c m.instruction stack at action b) (code_settles other c m.instruction stack at (rename_action f action) (counted_action (counted_if p.has_step (rename_body f s.frame))))
      (ap (λ (b : Frame M). code_settles other c m.instruction stack at (rename_action f action) (counted_action b)) (counted-renamed p.has_step s.frame) ∙ code_settles-renamed f name c m.instruction stack at action b)

  worked-renamed : (s : CodeState N) (r : Completion N) → worked (rename_code f s) (rename_result f r) ≡ option_map (rename_code f) (worked s r)
  worked-renamed s (goes o b) = refl
  worked-renamed s (stays b) = refl
  worked-renamed s stuck = refl

  answer-then : (next : List Value → Option (CodeState N)) (next' : List Value → Option (CodeState M)) → ((stack : List Value) → next' stack ≡ option_map (rename_code f) (next stack)) → (o : Option (List Value))
      → option_and_then next' o ≡ option_map (rename_code f) (option_and_then next o)
  answer-then next next' e None = refl
  answer-then next next' e (Some stack) = e stack

  settle_next-renamed : (c : ReadyCode) (s : CodeState N) (at : ℕ) (action : CellAction N) (next : CodeNext N)
      → settle_next other c (rename_code f s) at (rename_action f action) (rename_next next) ≡ option_map (rename_code f) (settle_next name c s at action next)
  settle_next-renamed c s at action (an_item item work) =
      let b : Frame N = counted_action (record (s.frame) { work = work }) in
      ap (worked (rename_code f s)) (work_done-renamed f item action b) ∙ worked-renamed s (ClosesAndAnswers.work_done item action b)
  settle_next-renamed c s at action (a_reply call i instruction) =
      ap (settled other c (rename_code f s) i instruction s.stack) (code_hears-renamed f name instruction call action (counted_action s.frame))
      ∙ settled-renamed c s i instruction s.stack (code_hears instruction call action (counted_action s.frame))
  settle_next-renamed c s at action (an_action p m) =
      ap (option_and_then (settled_action other c (rename_code f s) p m at (rename_action f action))) (before-renamed c p s.frame.variables s.stack)
      ∙ answer-then (settled_action name c s p m at action) (settled_action other c (rename_code f s) p m at (rename_action f action)) (action-renamed c s p m at action) (stack_before_action c p s.frame.variables s.stack)
  settle_next-renamed c s at action (a_local_piece p) = refl
  settle_next-renamed c s at action nothing = refl

  pub code_answered-renamed : (c : ReadyCode) (s : CodeState N) (at : ℕ) (action : CellAction N) → code_answered other c (rename_code f s) at (rename_action f action) ≡ option_map (rename_code f) (code_answered name c s at action)
  code_answered-renamed c s at action = ap (settle_next other c (rename_code f s) at (rename_action f action)) (code_next-renamed c s) ∙ settle_next-renamed c s at action (code_next c s)

  pub code_begin-renamed : (c : ReadyCode) (code number : ℕ) (port : Cell N) → code_begin other c code number (rename f port) ≡ option_map (rename_code f) (code_begin name c code number port)
  code_begin-renamed c code number port =
      let first : Frame N = first_frame c.scope.variables number port in
      ap (λ ps. to_next_piece other c (record { module_number = code; position = at_index 0; stack = []; frame = record (rename_body f first) { variables = part (rename f port) ps } })) (sym (gaps-rename f (pred (length c.scope.variables))))
      ∙ next_piece-renamed c (record { module_number = code; position = at_index 0; stack = []; frame = first })
