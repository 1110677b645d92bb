-- What a process of code wants, its local step and what an answer leaves are of the kinds that its cells are of.
use Rattle.std.proofs.Common.{◌≡◌, ℕ, List, [], ◌∷◌, Bool, true, false, cond, Option, Some, None, option_and_then, subst}
use Rattle.std.specs.Prelude.{pred, length, drop}
use Rattle.herm_model.specs.Expressions.{Atom}
use Rattle.herm_model.specs.Values.{Kind, a_callmessage, Cell, Parts, Value}
use Rattle.herm_model.proofs.Options.{none-not_some, some-injective, chain-some}
use Rattle.herm_journal.specs.Messages.{CellWant, CellAction}
use Rattle.herm_journal.specs.Kinds.{HasKinds, HaveKinds, AllKinds, IfWant, ActionKinds}
use Rattle.herm_forms.specs.Evaluate.{Evaluated, gives, raises, no_value}
use Rattle.herm_forms.specs.ClosesAndAnswers
use Rattle.herm_forms.specs.Frames.{Name, Frame, Completion, goes, stays, stuck, counted_action}
use Rattle.herm_forms.proofs.known.HeldKinds.{gaps-kinds}
use Rattle.herm_forms.proofs.known.KindsKept.{AllowsPlain, GivesKinds, BodyKinds, atom-kinds, is-arrive}
use Rattle.herm_forms.proofs.known.KindsExchanged.{work-wants}
use Rattle.herm_instructions.specs.Instructions.{Instruction, Const, Load}
use Rattle.herm_code_machine.specs.ReadyCode.{ReadyCode}
use Rattle.herm_code_machine.specs.CodeActions.{code_wants, code_settles, code_hears}
use Rattle.herm_code_machine.specs.CodeStates.{Position, CodeState, at_index, first_frame, code_begin}
use Rattle.herm_instructions.specs.Pieces.{is_operand}
use Rattle.herm_code_machine.specs.Pieces.{Piece, Met, operand, pushed, behind_operands, stack_before_action, piece_at, action_of}
use Rattle.herm_code_machine.specs.CodeSteps.{CodeNext, an_item, a_reply, an_action, a_local_piece, nothing, met_at, by_action, by_piece, by_met, call_or_piece, item_or, code_next, counted_if, wanted_next, code_wanted, step_next, code_local_step, worked, settled_action, settle_next, code_answered}
use Rattle.herm_code_machine.proofs.RunsKeep.{AllOf, KeepsFrames, is-next, is-settled}
use Rattle.herm_code_machine.proofs.known.KindsOfEffects.{effect-kinds, code-wants-kinds, settles-kinds, hears-kinds, work-kinds, constant-kinds}

module _ {N : Type 0} (name : Name → N) (of : Kind → Type 0) (allows : AllowsPlain of) where
  keeps : (c : ReadyCode) → KeepsFrames name c (AllKinds of) (BodyKinds of)
  keeps c = record { empty = tt; effects = λ i stack b h e. effect-kinds name of allows c i stack b h e; ends = λ t b e. is-arrive name of allows c.scope t b e }

  -- the stack behind operands
  abbrev IfStack : Option (List Value) → Type 0
  IfStack None = Unit {0}
  IfStack (Some stack) = AllKinds of stack

  operand-kinds : (c : ReadyCode) (i : Instruction) (ps : Parts N) → HaveKinds of ps → GivesKinds of (operand c i ps)
  operand-kinds c (Const k) ps h = constant-kinds name of allows _
  operand-kinds c (Load p) ps h = atom-kinds of allows ps (Atom.path p) h
  operand-kinds c _ ps h = tt

  pushed-kinds : (v : Evaluated) (stack : List Value) → GivesKinds of v → AllKinds of stack → IfStack (pushed v stack)
  pushed-kinds (gives v) stack h k = (h, k)
  pushed-kinds (raises e) stack h k = tt
  pushed-kinds no_value stack h k = tt

  then-kinds : (next : List Value → Option (List Value)) (o : Option (List Value)) → IfStack o → ((stack : List Value) → AllKinds of stack → IfStack (next stack)) → IfStack (option_and_then next o)
  then-kinds next None h on = tt
  then-kinds next (Some stack) h on = on stack h

  cond-kinds : (b : Bool) (o p : Option (List Value)) → IfStack o → IfStack p → IfStack (cond b o p)
  cond-kinds true o p h k = h
  cond-kinds false o p h k = k

  operands-kinds : (c : ReadyCode) (ps : Parts N) (code : List Instruction) (stack : List Value) → HaveKinds of ps → AllKinds of stack → IfStack (behind_operands c ps code stack)
  operands-kinds c ps [] stack h k = k
  operands-kinds c ps (i ∷ more) stack h k =
      cond-kinds (is_operand i) (option_and_then (behind_operands c ps more) (pushed (operand c i ps) stack)) (Some stack)
      (then-kinds (behind_operands c ps more) (pushed (operand c i ps) stack) (pushed-kinds (operand c i ps) stack (operand-kinds c i ps h) k) (λ stack' k'. operands-kinds c ps more stack' h k')) k

  before-kinds : (c : ReadyCode) (p : Piece) (ps : Parts N) (stack : List Value) → HaveKinds of ps → AllKinds of stack → IfStack (stack_before_action c p ps stack)
  before-kinds c p ps stack h k = operands-kinds c ps (drop p.first c.code.code) stack h k

  -- what comes next
  abbrev NextKinds : CodeNext N → Type 0
  NextKinds (an_item item work) = HasKinds of item × AllKinds of work
  NextKinds (a_reply call i instruction) = Unit {0}
  NextKinds (an_action p m) = Unit {0}
  NextKinds (a_local_piece p) = Unit {0}
  NextKinds nothing = Unit {0}

  action-next : (p : Piece) (o : Option Met) → NextKinds (by_action p o)
  action-next p None = tt
  action-next p (Some m) = tt

  piece-next : (c : ReadyCode) (o : Option Piece) → NextKinds (by_piece c o)
  piece-next c None = tt
  piece-next c (Some p) = action-next p (action_of c p)

  met-next : (call : ℕ) (o : Option Met) → NextKinds (by_met call o)
  met-next call None = tt
  met-next call (Some m) = tt

  call-next : (c : ReadyCode) (p : Position) (call : Option ℕ) → NextKinds (call_or_piece c p call)
  call-next c p None = piece-next c (piece_at c p)
  call-next c p (Some call) = met-next call (met_at c p)

  item-next : (work : List (Cell N)) (next : CodeNext N) → AllKinds of work → NextKinds next → NextKinds (item_or work next)
  item-next [] next h k = k
  item-next (item ∷ work) next h k = h

  next-kinds : (c : ReadyCode) (s : CodeState N) → BodyKinds of s.frame → NextKinds (code_next c s)
  next-kinds c s e = item-next s.frame.work (call_or_piece c s.position s.frame.call) e.2 (call-next c s.position s.frame.call)

  -- what is wanted
  want-then : (next : List Value → Option (CellWant N)) (o : Option (List Value)) → IfStack o → ((stack : List Value) → AllKinds of stack → IfWant of (next stack)) → IfWant of (option_and_then next o)
  want-then next None h on = tt
  want-then next (Some stack) h on = on stack h

  wanted-next : (c : ReadyCode) (s : CodeState N) (next : CodeNext N) → BodyKinds of s.frame → AllKinds of s.stack → NextKinds next → IfWant of (wanted_next name c s next)
  wanted-next c s (an_item item work) e h k = work-wants name of allows item k.0
  wanted-next c s (a_reply call i instruction) e h k = tt
  wanted-next c s (an_action p m) e h k =
      want-then (λ stack. code_wants name c m.instruction stack s.frame) (stack_before_action c p s.frame.variables s.stack) (before-kinds c p s.frame.variables s.stack e.0 h) (λ stack h'. code-wants-kinds name of allows c m.instruction stack s.frame h' e)
  wanted-next c s (a_local_piece p) e h k = tt
  wanted-next c s nothing e h k = tt

  pub code-wanted-kinds : (c : ReadyCode) (s : CodeState N) → BodyKinds of s.frame → AllKinds of s.stack → IfWant of (code_wanted name c s)
  code-wanted-kinds c s e h = wanted-next c s (code_next c s) e h (next-kinds c s e)

  -- the state behind a step and an answer
  abbrev pub StateKinds : CodeState N → Type 0
  StateKinds s = BodyKinds of s.frame × AllKinds of s.stack

  counted : (has_step : Bool) (b : Frame N) → BodyKinds of b → BodyKinds of (counted_if has_step b)
  counted true b e = e
  counted false b e = e

  is-step : (c : ReadyCode) (s t : CodeState N) (next : CodeNext N) → StateKinds s → step_next name c s next ≡ Some t → StateKinds t
  is-step c s t (a_local_piece p) e is =
      let k = is-next name c (AllKinds of) (BodyKinds of) (keeps c) (record { module_number = s.module_number; position = at_index p.first; stack = s.stack; frame = counted_if p.has_step s.frame }) t (counted p.has_step s.frame e.0) e.1 is in (k.0, k.1)
  is-step c s t _ e is = none-not_some is

  is-worked : (s t : CodeState N) (r : Completion N) → AllKinds of s.stack → AllOf (BodyKinds of) r → worked s r ≡ Some t → StateKinds t
  is-worked s t (stays b) h e is = subst StateKinds (some-injective is) (e, h)
  is-worked s t (goes o b) h e is = none-not_some is
  is-worked s t stuck h e is = none-not_some is

  stack-is : (o : Option (List Value)) (stack : List Value) → IfStack o → o ≡ Some stack → AllKinds of stack
  stack-is o stack h is = subst IfStack is h

  is-answer : (c : ReadyCode) (s t : CodeState N) (at : ℕ) (a : CellAction N) (next : CodeNext N) → NextKinds next → ActionKinds of a → StateKinds s → settle_next name c s at a next ≡ Some t → StateKinds t
  is-answer c s t at a (an_item item work) n g e is =
      let b : Frame N = counted_action (record (s.frame) { work = work }) in
      is-worked s t (ClosesAndAnswers.work_done item a b) e.1 (work-kinds name of allows item a b n.0 g (e.0.0, e.0.1, n.1, e.0.3)) is
  is-answer c s t at a (a_reply call i instruction) n g e is =
      let k = is-settled name c (AllKinds of) (BodyKinds of) (keeps c) s t i instruction s.stack (code_hears instruction call a (counted_action s.frame)) e.1 (hears-kinds name of allows instruction call a (counted_action s.frame) g e.0) is in (k.0, k.1)
  is-answer c s t at a (an_action p m) n g e is =
      let r = chain-some (settled_action name c s p m at a) (stack_before_action c p s.frame.variables s.stack) t is in
      let stack = stack-is (stack_before_action c p s.frame.variables s.stack) r.0 (before-kinds c p s.frame.variables s.stack e.0.0 e.1) r.1 in
      let b = counted_action (counted_if p.has_step s.frame) in
      let f = code_settles name c m.instruction r.0 at a b in
      let h = settles-kinds name of allows c m.instruction r.0 at a b stack g (counted p.has_step s.frame e.0) in
      let k = is-settled name c (AllKinds of) (BodyKinds of) (keeps c) s t m.index m.instruction f.stack f.completion h.0 h.1 r.2 in (k.0, k.1)
  is-answer c s t at a (a_local_piece p) n g e is = none-not_some is
  is-answer c s t at a nothing n g e is = none-not_some is

  pub code-local-kinds : (c : ReadyCode) (s t : CodeState N) → StateKinds s → code_local_step name c s ≡ Some t → StateKinds t
  code-local-kinds c s t e is = is-step c s t (code_next c s) e is

  pub code-answer-kinds : (c : ReadyCode) (s t : CodeState N) (at : ℕ) (a : CellAction N) → ActionKinds of a → StateKinds s → code_answered name c s at a ≡ Some t → StateKinds t
  code-answer-kinds c s t at a g e is = is-answer c s t at a (code_next c s) (next-kinds c s e.0) g e is

  pub code-begin-kinds : (c : ReadyCode) (code number : ℕ) (port : Cell N) (x : CodeState N) → HasKinds of port → ((call : ℕ) → of (a_callmessage number call)) → code_begin name c code number port ≡ Some x → StateKinds x
  code-begin-kinds c code number port x h own is =
      let k = is-next name c (AllKinds of) (BodyKinds of) (keeps c) (record { module_number = code; position = at_index 0; stack = []; frame = first_frame c.scope.variables number port }) x
      ((h, gaps-kinds of N (pred (length c.scope.variables))), tt, tt, own) tt is in (k.0, k.1)
