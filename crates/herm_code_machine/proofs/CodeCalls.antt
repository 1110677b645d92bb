-- A process of code numbers its calls upwards: a call that it opens has the next number.
use Rattle.std.proofs.Common.{◌≡◌, ℕ, suc, ◌<◌, ◌≤◌, List, [], ◌∷◌, Bool, true, false, cond, Option, Some, None, option_and_then, option_map, refl, sym, ap, subst, ◌∙◌, arith}
use Rattle.std.specs.Prelude.{slice_get, drop, length, flat_map, map, ⊤}
use Rattle.herm_model.specs.Values.{Cell, Value}
use Rattle.herm_model.proofs.Options.{none-not_some, some-injective, chain-some}
use Rattle.herm_journal.specs.Messages.{CellAction}
use Rattle.herm_forms.specs.Frames.{Name, Frame, Completion, goes, stays, stuck, counted_action}
use Rattle.herm_forms.specs.Exchanges
use Rattle.herm_forms.specs.ClosesAndAnswers
use Rattle.herm_forms.proofs.KeptBodies.{LetsGo, IsKept}
use Rattle.herm_forms.proofs.KeptBodies
use Rattle.herm_code_machine.specs.ReadyCode.{ReadyCode}
use Rattle.herm_code_machine.specs.CodeActions.{code_settles, code_hears}
use Rattle.herm_code_machine.specs.CodeStates.{CodeState, at_index}
use Rattle.herm_code_machine.specs.Pieces.{stack_before_action}
use Rattle.herm_code_machine.specs.CodeSteps.{CodeNext, an_item, a_reply, an_action, a_local_piece, nothing, counted_if, step_next, worked, settled_action, settle_next, code_next, code_local_step, code_answered}
use Rattle.herm_code_machine.proofs.RunsKeep.{AllOf, KeepsFrames, is-next, is-settled}
use Rattle.herm_code_machine.proofs.kept.KeptEffects.{keeps-effect, keeps-settles, keeps-hears, as-all}
use Rattle.herm_model.specs.Paths.{Path}
use Rattle.herm_model.specs.Types.{Raised, TypeTable}
use Rattle.herm_model.proofs.Options.{map-some}
use Rattle.herm_journal.specs.Actions.{put}
use Rattle.herm_system.specs.Machines.{OpenCall}
use Rattle.herm_sound.specs.SoundMachines.{NumbersCalls}
use Rattle.herm_forms.specs.Callmessages as callmessages
use Rattle.herm_forms.specs.Callmessages.{Composed}
use Rattle.herm_forms.specs.Excess.{excess_over_full}
use Rattle.herm_forms.proofs.KeptBodies.{ComposedFrom, from-compose}
use Rattle.herm_instructions.specs.Actions.{is_action}
use Rattle.herm_instructions.specs.Images.{instruction_at}
use Rattle.herm_instructions.specs.Instructions.{Argument, Instruction, Send, Call}
use Rattle.herm_instructions.specs.Operands.{count_inputs}
use Rattle.herm_instructions.specs.Pieces.{is_operand}
use Rattle.herm_code_machine.specs.ReadyCode.{ReadyImage}
use Rattle.herm_code_machine.specs.Stacks.{Popped, pop, parts_from, with_popped, leaving}
use Rattle.herm_code_machine.specs.CodeActions.{mode_of, inouts, outs, composed_of}
use Rattle.herm_code_machine.specs.CodeInstance.{own_name, code_machine}
use Rattle.herm_code_machine.specs.CodeSeen.{type_of_call, code_open_call}
use Rattle.herm_code_machine.specs.CodeStates.{Position, on_by, run_on, to_next_piece}
use Rattle.herm_code_machine.specs.CodeSteps.{met_at, settled}
use Rattle.herm_code_machine.specs.Pieces.{Met, action_from}
use Rattle.herm_code_machine.proofs.instance.CodeLaws.{local-code, answer-code, code-stays}
use Rattle.herm_code_machine.proofs.kept.CodeNumbers.{code-answer-stays}
use Rattle.herm_code_machine.proofs.sound.ActionSteps.{dropped-got}
use Rattle.herm_code_machine.proofs.sound.LocalSteps.{ComesNext, by_act, comes-next}

module _ {N : Type 0} (name : Name → N) (n : ℕ) where
  abbrev Is : Frame N → Type 0
  Is b = n ≤ b.calls

  abbrev On : List Value → Type 0
  On stack = ⊤

  calls-kept : IsKept Is
  calls-kept = record { letting = record { value = λ c b e. e; parts = λ ps b e. e; name = λ m b e. e }; variables = λ ps b e. e; serial = λ s b e. e; calls = λ b e. omega (arith, e) }

  keeps : (c : ReadyCode) → KeepsFrames name c On Is
  keeps c = record {
    empty = tt;
    effects = λ i stack b h e. (tt, keeps-effect name Is calls-kept (λ ls b e. e) c i stack b e);
    ends = λ t b e. KeptBodies.is-arrive name Is Is calls-kept (λ stay b e. e) c.scope t b e;
  }

  -- so many calls at least, and the same module
  abbrev pub Same : CodeState N → CodeState N → Type 0
  Same s t = Is t.frame × (t.module_number ≡ s.module_number)

  counted : (has_step : Bool) (b : Frame N) → Is b → Is (counted_if has_step b)
  counted true b e = e
  counted false b e = e

  is-step : (c : ReadyCode) (s t : CodeState N) (next : CodeNext N) → Is s.frame → step_next name c s next ≡ Some t → Same s t
  is-step c s t (a_local_piece p) e is =
      let k = is-next name c On Is (keeps c) (record { module_number = s.module_number; position = at_index p.first; stack = s.stack; frame = counted_if p.has_step s.frame }) t (counted p.has_step s.frame e) tt is in (k.0, k.2)
  is-step c s t _ e is = none-not_some is

  is-worked : (s t : CodeState N) (r : Completion N) → AllOf Is r → worked s r ≡ Some t → Same s t
  is-worked s t (stays b) e is = subst (Same s) (some-injective is) (e, refl)
  is-worked s t (goes o b) e is = none-not_some is
  is-worked s t stuck e is = none-not_some is

  is-answer : (c : ReadyCode) (s t : CodeState N) (at : ℕ) (a : CellAction N) (next : CodeNext N) → Is s.frame → settle_next name c s at a next ≡ Some t → Same s t
  is-answer c s t at a (an_item item work) e is =
      let b = counted_action (record (s.frame) { work = work }) in
      is-worked s t (ClosesAndAnswers.work_done item a b) (as-all name Is calls-kept (λ ls b e. e) (ClosesAndAnswers.work_done item a b) (KeptBodies.all-work Is calls-kept.letting item a b e)) is
  is-answer c s t at a (a_reply call i instruction) e is =
      let k = is-settled name c On Is (keeps c) s t i instruction s.stack (code_hears instruction call a (counted_action s.frame)) tt (keeps-hears name Is calls-kept (λ ls b e. e) instruction call a (counted_action s.frame) e) is in (k.0, k.2)
  is-answer c s t at a (an_action p m) e is =
      let r = chain-some (settled_action name c s p m at a) (stack_before_action c p s.frame.variables s.stack) t is in
      let b = counted_action (counted_if p.has_step s.frame) in
      let f = code_settles name c m.instruction r.0 at a b in
      let k = is-settled name c On Is (keeps c) s t m.index m.instruction f.stack f.completion tt (keeps-settles name Is calls-kept (λ ls b e. e) (λ call b e. e) c m.instruction r.0 at a b (counted p.has_step s.frame e)) r.2 in (k.0, k.2)
  is-answer c s t at a (a_local_piece p) e is = none-not_some is
  is-answer c s t at a nothing e is = none-not_some is

pub calls-local : (c : ReadyCode) (s t : CodeState Name) → code_local_step own_name c s ≡ Some t → s.frame.calls ≤ t.frame.calls
calls-local c s t is = (is-step own_name s.frame.calls c s t (code_next c s) (omega arith) is).0

pub calls-answer : (c : ReadyCode) (s t : CodeState Name) (at : ℕ) (a : CellAction Name) → code_answered own_name c s at a ≡ Some t → s.frame.calls ≤ t.frame.calls
calls-answer c s t at a is = (is-answer own_name s.frame.calls c s t at a (code_next c s) (omega arith) is).0

-- an action that is met stands at its index
met-there : (types : TypeTable) (code xs : List Instruction) (i : ℕ) (met : Met) → drop i code ≡ xs → action_from types xs i ≡ Some met → slice_get code met.index ≡ Some met.instruction
met-there types code [] i met at is = none-not_some is
met-there types code (instruction ∷ more) i met at is =
    let d = dropped-got code i instruction more at in
    by (is_operand instruction) d.0 is (λ is. met-there types code more (suc i) met d.1 is)
  where
    acting : (t : Bool) → slice_get code i ≡ Some instruction → cond t (Some (record { index = i; instruction = instruction })) None ≡ Some met → slice_get code met.index ≡ Some met.instruction
    acting true at is = subst (λ (met : Met). slice_get code met.index ≡ Some met.instruction) (some-injective is) at
    acting false at is = none-not_some is

    by : (t : Bool) → slice_get code i ≡ Some instruction → cond t (action_from types more (suc i)) (cond (is_action types instruction) (Some (record { index = i; instruction = instruction })) None) ≡ Some met
        → (action_from types more (suc i) ≡ Some met → slice_get code met.index ≡ Some met.instruction) → slice_get code met.index ≡ Some met.instruction
    by true at is again = again is
    by false at is again = acting (is_action types instruction) at is

module _ (c : ReadyCode) (s t : CodeState Name) (number : ℕ) (m : Cell Name) (call : OpenCall) (opened : code_open_call c t ≡ Some call) where
  abbrev Numbered : Type 0
  Numbered = (s.frame.calls ≤ call.number) × (call.number < t.frame.calls)

  abbrev call_there : ℕ → Position → Option OpenCall
  call_there k p = option_and_then (λ (m : Met). option_map (λ t. record { number = k; call_type = t }) (type_of_call c m.instruction)) (met_at c p)

  closed-not : {A : Type 0} → t.frame.call ≡ None → A
  closed-not closed = none-not_some (sym (ap (option_and_then (λ k. call_there k t.position)) closed) ∙ opened)

  -- the number of the open call is the frame's
  number-of : (k : ℕ) → t.frame.call ≡ Some k → call.number ≡ k
  number-of k e =
      let o : call_there k t.position ≡ Some call = sym (ap (option_and_then (λ k. call_there k t.position)) e) ∙ opened in
      let met = chain-some (λ (m : Met). option_map (λ t. record { number = k; call_type = t }) (type_of_call c m.instruction)) (met_at c t.position) call o in
      let u = map-some (λ t. record { number = k; call_type = t }) (type_of_call c (met.0).instruction) call met.2 in
      ap (λ (x : OpenCall). x.number) (sym u.2)

  -- only a call is open behind a message that was put
  abbrev IsClosed : Frame Name → Type 0
  IsClosed b = b.call ≡ None

  closed-kept : IsKept IsClosed
  closed-kept = record { letting = record { value = λ c b e. e; parts = λ ps b e. e; name = λ m b e. e }; variables = λ ps b e. e; serial = λ s b e. e; calls = λ b e. e }

  closed-frames : KeepsFrames own_name c (λ (stack : List Value). ⊤) IsClosed
  closed-frames = record {
    empty = tt;
    effects = λ i stack b h e. (tt, keeps-effect own_name IsClosed closed-kept (λ ls b e. e) c i stack b e);
    ends = λ t b e. KeptBodies.is-arrive own_name IsClosed IsClosed closed-kept (λ stay b e. e) c.scope t b e;
  }

  abbrev below-kept : IsKept (λ (b : Frame Name). s.frame.calls ≤ b.calls)
  below-kept = calls-kept own_name s.frame.calls

  -- the state behind a call whose message was placed
  by-call : (met : Met) (o : Path) (arguments : List Argument) (keeps : List Raised) (rest : List Value) (k : Composed Name) → instruction_at c.code met.index ≡ Some (Call o arguments keeps) → ComposedFrom own_name (λ (b : Frame Name). s.frame.calls ≤ b.calls) (λ (b : Frame Name). s.frame.calls ≤ b.calls) below-kept k
      → to_next_piece own_name c (record { module_number = s.module_number; position = at_index met.index; stack = rest; frame = record (k.frame) { call = Some k.call } }) ≡ Some t → Numbered
  by-call met o arguments keeps rest k there from is =
      let u : CodeState Name = record { module_number = s.module_number; position = at_index met.index; stack = rest; frame = record (k.frame) { call = Some k.call } } in
      let same : u ≡ t = some-injective (sym (ap (on_by own_name c (run_on own_name c (length c.code.code)) u met.index) there) ∙ is) in
      let n = number-of k.call (ap (λ (x : CodeState Name). x.frame.call) (sym same)) in
      let calls : t.frame.calls ≡ suc from.taken.calls = ap (λ (x : CodeState Name). x.frame.calls) (sym same) ∙ ap (λ (b : Frame Name). b.calls) from.frame in
      let at_least : s.frame.calls ≤ from.taken.calls = from.is in
      (omega (arith, n, from.call, at_least), omega (arith, n, from.call, calls))

  composed-cases : (met : Met) (o : Path) (arguments : List Argument) (keeps : List Raised) (rest values : List Value) (b : Frame Name) → instruction_at c.code met.index ≡ Some (Call o arguments keeps) → s.frame.calls ≤ b.calls
      → (x : Option (Composed Name)) → composed_of own_name c arguments values b ≡ x → settled own_name c s met.index (Call o arguments keeps) rest (callmessages.call x (outs arguments) (put (Some number) m)) ≡ Some t → Numbered
  composed-cases met o arguments keeps rest values b there below None e is = none-not_some is
  composed-cases met o arguments keeps rest values b there below (Some k) e is =
      by-call met o arguments keeps rest k there
      (from-compose own_name (λ (b : Frame Name). s.frame.calls ≤ b.calls) (λ (b : Frame Name). s.frame.calls ≤ b.calls) below-kept (map mode_of arguments) (parts_from values) (flat_map (λ p. excess_over_full c.scope p b) (inouts arguments)) (inouts arguments) b k below e) is

  popped-cases : (met : Met) (o : Path) (arguments : List Argument) (keeps : List Raised) (b : Frame Name) → instruction_at c.code met.index ≡ Some (Call o arguments keeps) → s.frame.calls ≤ b.calls → (x : Option Popped)
      → settled own_name c s met.index (Call o arguments keeps) (with_popped (λ (p : Popped). leaving p.rest (callmessages.call (composed_of own_name c arguments p.values b) (outs arguments) (put (Some number) m))) x).stack
      (with_popped (λ (p : Popped). leaving p.rest (callmessages.call (composed_of own_name c arguments p.values b) (outs arguments) (put (Some number) m))) x).completion ≡ Some t → Numbered
  popped-cases met o arguments keeps b there below None is = none-not_some is
  popped-cases met o arguments keeps b there below (Some p) is = composed-cases met o arguments keeps p.rest p.values b there below (composed_of own_name c arguments p.values b) refl is

  placed : (index : ℕ) (i : Instruction) (stack : List Value) (b : Frame Name) → instruction_at c.code index ≡ Some i → s.frame.calls ≤ b.calls → b.call ≡ None → (at : ℕ)
      → settled own_name c s index i (code_settles own_name c i stack at (put (Some number) m) b).stack (code_settles own_name c i stack at (put (Some number) m) b).completion ≡ Some t → Numbered
  placed index (Send x o trim) stack b there below closed at is =
      closed-not (is-settled own_name c (λ (stack : List Value). ⊤) IsClosed closed-frames s t index (Send x o trim) stack (Exchanges.send trim x (put (Some number) m) b) tt
      (as-all own_name IsClosed closed-kept (λ ls b e. e) (Exchanges.send trim x (put (Some number) m) b) (KeptBodies.all-send own_name IsClosed IsClosed closed-kept trim x (put (Some number) m) b closed)) is).0
  placed index (Call o arguments keeps) stack b there below closed at is = popped-cases (record { index = index; instruction = Call o arguments keeps }) o arguments keeps b there below (pop (count_inputs arguments) stack) is
  placed index i stack b there below closed at is = none-not_some is

  counted-calls : (has_step : Bool) (b : Frame Name) → (counted_action (counted_if has_step b)).calls ≡ b.calls
  counted-calls true b = refl
  counted-calls false b = refl

  counted-call : (has_step : Bool) (b : Frame Name) → (counted_action (counted_if has_step b)).call ≡ b.call
  counted-call true b = refl
  counted-call false b = refl

  hears-none : (i : Instruction) (k : ℕ) (b : Frame Name) → code_hears i k (put (Some number) m) b ≡ stuck
  hears-none (Call o arguments keeps) k b = refl
  hears-none i k b = refl

  work-none : (item : Cell Name) (b : Frame Name) → ClosesAndAnswers.work_done item (put (Some number) m) b ≡ stuck
  work-none item b = refl

  pub opens-numbered : (at : ℕ) → code_answered own_name c s at (put (Some number) m) ≡ Some t → Numbered
  opens-numbered at is = by (code_next c s) (comes-next c s) is
    where
      by : (next : CodeNext Name) → ComesNext c s next → settle_next own_name c s at (put (Some number) m) next ≡ Some t → Numbered
      by (an_item item work) next is = none-not_some is
      by (a_reply k i instruction) next is = none-not_some (sym (ap (settled own_name c s i instruction s.stack) (hears-none instruction k (counted_action s.frame))) ∙ is)
      by (an_action p met) (by_act p' met' idle closed piece acts) is =
          let r = chain-some (settled_action own_name c s p met at (put (Some number) m)) (stack_before_action c p s.frame.variables s.stack) t is in
          let there = met-there c.scope.types c.code.code (drop p.first c.code.code) p.first met refl acts in
          let b = counted_action (counted_if p.has_step s.frame) in
          placed met.index met.instruction r.0 b there (omega (arith, counted-calls p.has_step s.frame)) (counted-call p.has_step s.frame ∙ closed) at r.2
      by (a_local_piece p) next is = none-not_some is
      by nothing next is = none-not_some is

pub code-numbers-calls : (image : ReadyImage) → NumbersCalls (code_machine image)
code-numbers-calls image = record {
  calls = λ x. x.frame.calls;
  local_steps = λ x y e. let c = local-code image x y e in calls-local c.0 x y c.2;
  answers = λ x y at a e. let c = answer-code image x y at a e in calls-answer c.0 x y at a c.2;
  opens = λ x y at number m call e opened.
      let c = answer-code image x y at (put (Some number) m) e in
      let stays = code-answer-stays own_name c.0 x y at (put (Some number) m) c.2 in
      let there = code-stays image x y c.0 c.1 stays.1 in
      opens-numbered c.0 x y number m call (sym (ap (option_and_then (λ c. code_open_call c y)) there) ∙ opened) at c.2;
}
