-- A process of code counts its steps and actions, and makes none beyond its limit.
use Rattle.std.proofs.Common.{◌≡◌, ◌≤◌, ◌<◌, ℕ, zero, suc, List, [], ◌∷◌, Bool, true, false, cond, not, Option, Some, None, slice_get, refl, sym, ap, subst, ◌∙◌, arith}
use Rattle.std.specs.Prelude.{nat_lt, IsTrue, drop, ⊤}
use Rattle.std.proofs.lemmas.Bool.Decides.{nat_tests}
use mathlib.Core.Bool.{false≢true}
use Rattle.herm_model.specs.Types.{TypeTable}
use Rattle.herm_model.specs.Values.{Name, Cell, Value}
use Rattle.herm_model.proofs.Options.{none-not_some, some-injective, chain-some}
use Rattle.herm_journal.specs.Messages.{CellAction}
use Rattle.herm_forms.specs.ClosesAndAnswers
use Rattle.herm_forms.specs.Frames.{Frame, Completion, goes, stays, stuck, counted_action}
use Rattle.herm_forms.proofs.KeptBodies.{IsKept}
use Rattle.herm_forms.proofs.KeptBodies
use Rattle.herm_system.specs.Machines.{Standing, local, to_act, greatest_actions, is_local, is_acting}
use Rattle.herm_sound.specs.SoundMachines.{KeepsLimits}
use Rattle.herm_instructions.specs.Instructions.{Instruction, Const, Load}
use Rattle.herm_instructions.specs.Images.{instruction_at}
use Rattle.herm_instructions.specs.Actions.{is_step, is_action}
use Rattle.herm_code_machine.specs.ReadyCode.{ReadyCode, ReadyImage}
use Rattle.herm_code_machine.specs.CodeActions.{code_settles, code_hears}
use Rattle.herm_code_machine.specs.CodeStates.{Position, at_index, at_end, at_end_by, CodeState, first_frame}
use Rattle.herm_instructions.specs.Pieces.{is_operand}
use Rattle.herm_code_machine.specs.Pieces.{Piece, Met, piece_by, piece_at, action_from, action_of, stack_before_action}
use Rattle.herm_code_machine.specs.CodeSteps.{CodeNext, an_item, a_reply, an_action, a_local_piece, nothing, met_at, by_action, by_piece, by_met, call_or_piece, item_or, code_next, counted_if, within_steps, ready_for, code_ready, step_next, worked, settled_action, settle_next}
use Rattle.herm_code_machine.specs.CodeInstance.{own_name, code_at, ready_if, code_machine}
use Rattle.herm_code_machine.proofs.RunsKeep.{AllOf, KeepsFrames, is-next, is-settled}
use Rattle.herm_code_machine.proofs.kept.KeptEffects.{as-all, keeps-effect, keeps-settles, keeps-hears}
use Rattle.herm_code_machine.proofs.instance.CodeLaws.{begun-code, local-code, answer-code}

-- these counts of steps and actions
abbrev pub HasCounts : ℕ → ℕ → Frame Name → Type 0
HasCounts n m b = (b.steps ≡ n) × (b.actions ≡ m)

pub counts-kept : (n m : ℕ) → IsKept (HasCounts n m)
counts-kept n m = record { letting = record { value = λ c b h. h; parts = λ ps b h. h; name = λ k b h. h }; variables = λ ps b h. h; serial = λ s b h. h; calls = λ b h. h }

abbrev pub On : List Value → Type 0
On stack = ⊤

pub keeps : (c : ReadyCode) (n m : ℕ) → KeepsFrames own_name c On (HasCounts n m)
keeps c n m = record {
  empty = tt;
  effects = λ i stack b h e. (tt, keeps-effect own_name (HasCounts n m) (counts-kept n m) (λ ls b h. h) c i stack b e);
  ends = λ t b e. KeptBodies.is-arrive own_name (HasCounts n m) (HasCounts n m) (counts-kept n m) (λ stay b h. h) c.scope t b e;
}

-- a piece without an action begins with a step
pub not-operand : (types : TypeTable) (i : Instruction) → is_action types i ≡ true → is_operand i ≡ false
not-operand types (Const k) h = absurd (false≢true h)
not-operand types (Load p) h = absurd (false≢true h)
not-operand types i h = refl

pub first-dropped : {X : Type 0} (xs : List X) (i : ℕ) (x : X) → slice_get xs i ≡ Some x → (more : List X) × (drop i xs ≡ x ∷ more)
first-dropped [] i x is = none-not_some is
first-dropped (y ∷ ys) zero x is = (ys, ap (λ z. z ∷ ys) (some-injective is))
first-dropped (y ∷ ys) (suc i) x is = first-dropped ys i x is

pub action-there : (types : TypeTable) (i : Instruction) (more : List Instruction) (n : ℕ) → is_action types i ≡ true → action_from types (i ∷ more) n ≡ Some (record { index = n; instruction = i })
action-there types i more n h =
    ap (λ (b : Bool). cond b (action_from types more (suc n)) (cond (is_action types i) (Some (record { index = n; instruction = i })) None)) (not-operand types i h)
    ∙ ap (λ (b : Bool). cond b (Some (record { index = n; instruction = i })) None) h

abbrev HasStep : CodeNext Name → Type 0
HasStep (a_local_piece p) = p.has_step ≡ true
HasStep next = ⊤

next-of : (p : Piece) (o : Option Met) → (o ≡ None → p.has_step ≡ true) → HasStep (by_action p o)
next-of p None h = h refl
next-of p (Some m) h = tt

module _ (c : ReadyCode) where
  action-piece : (i : ℕ) (instruction : Instruction) → instruction_at c.code i ≡ Some instruction → is_action c.scope.types instruction ≡ true → action_of c (record { has_step = false; first = i }) ≡ None → false ≡ true
  action-piece i instruction there acts none =
      let d = first-dropped c.code.code i instruction there in
      none-not_some (sym none ∙ ap (λ code. action_from c.scope.types code i) d.1 ∙ action-there c.scope.types instruction d.0 i acts)

  piece-acts : (i : ℕ) (instruction : Instruction) (b : Bool) → instruction_at c.code i ≡ Some instruction → is_action c.scope.types instruction ≡ b → HasStep (by_piece c (cond b (Some (record { has_step = false; first = i })) None))
  piece-acts i instruction true there acts = next-of (record { has_step = false; first = i }) (action_of c (record { has_step = false; first = i })) (action-piece i instruction there acts)
  piece-acts i instruction false there acts = tt

  piece-steps : (i : ℕ) (instruction : Instruction) (b : Bool) → instruction_at c.code i ≡ Some instruction
      → HasStep (by_piece c (cond b (Some (record { has_step = true; first = suc i })) (cond (is_action c.scope.types instruction) (Some (record { has_step = false; first = i })) None)))
  piece-steps i instruction true there = next-of (record { has_step = true; first = suc i }) (action_of c (record { has_step = true; first = suc i })) (λ none. refl)
  piece-steps i instruction false there = piece-acts i instruction (is_action c.scope.types instruction) there refl

  by-steps : (i : ℕ) (o : Option Instruction) → instruction_at c.code i ≡ o → HasStep (by_piece c (piece_by c.scope.types i o))
  by-steps i None there = tt
  by-steps i (Some instruction) there = piece-steps i instruction (is_step instruction) there

  at-steps : (p : Position) → HasStep (by_piece c (piece_at c p))
  at-steps (at_index i) = by-steps i (instruction_at c.code i) refl
  at-steps at_end = tt
  at-steps (at_end_by e) = tt

  met-steps : (call : ℕ) (o : Option Met) → HasStep (by_met call o)
  met-steps call None = tt
  met-steps call (Some m) = tt

  call-steps : (p : Position) (call : Option ℕ) → HasStep (call_or_piece c p call)
  call-steps p None = at-steps p
  call-steps p (Some call) = met-steps call (met_at c p)

  item-steps : (work : List (Cell Name)) (next : CodeNext Name) → HasStep next → HasStep (item_or work next)
  item-steps [] next h = h
  item-steps (item ∷ work) next h = tt

  next-steps : (s : CodeState Name) → HasStep (code_next c s)
  next-steps s = item-steps s.frame.work (call_or_piece c s.position s.frame.call) (call-steps s.position s.frame.call)

below : (m n : ℕ) → nat_lt m n ≡ true → m < n
below m n h = grind (arith, nat_tests)

not_true : {A : Type 0} → IsTrue false → A
not_true h = absurd (false≢true h)

act-below : (n : ℕ) (b : Bool) → nat_lt n greatest_actions ≡ b → IsTrue (is_acting (to_act b)) → n < greatest_actions
act-below n true is h = below n greatest_actions is
act-below n false is h = not_true h

-- a local step that is next
steps-below : (n limit : ℕ) (b : Bool) → nat_lt n limit ≡ b → IsTrue (is_local (within_steps true b local)) → n < limit
steps-below n limit true is h = below n limit is
steps-below n limit false is h = not_true h

module _ (image : ReadyImage) where
  ready-code : (test : Standing → Bool) (limit : ℕ) (x : CodeState Name) (c : ReadyCode) → code_at image x ≡ Some c → IsTrue (test ((code_machine image).ready limit x)) → IsTrue (test (code_ready c limit x))
  ready-code test limit x c is h = subst (λ o. IsTrue (test (ready_if limit x o))) is h

  abbrev Stepped : ℕ → CodeState Name → CodeState Name → Type 0
  Stepped limit x y = (y.frame.steps ≡ suc x.frame.steps) × (y.frame.actions ≡ x.frame.actions) × (x.frame.steps < limit)

  piece-counts : (c : ReadyCode) (limit : ℕ) (x y : CodeState Name) (p : Piece) (b : Bool) → p.has_step ≡ b → b ≡ true → IsTrue (is_local (within_steps b (nat_lt x.frame.steps limit) local))
      → step_next own_name c x (a_local_piece p) ≡ Some y → Stepped limit x y
  piece-counts c limit x y p false has not ready is = absurd (false≢true not)
  piece-counts c limit x y p true has yes' ready is =
      let counted : HasCounts (suc x.frame.steps) x.frame.actions (counted_if p.has_step x.frame) = subst (λ (b : Bool). HasCounts (suc x.frame.steps) x.frame.actions (counted_if b x.frame)) (sym has) (refl, refl) in
      let k = is-next own_name c On (HasCounts (suc x.frame.steps) x.frame.actions) (keeps c (suc x.frame.steps) x.frame.actions)
      (record { module_number = x.module_number; position = at_index p.first; stack = x.stack; frame = counted_if p.has_step x.frame }) y counted tt is in
      (k.0.0, k.0.1, steps-below x.frame.steps limit (nat_lt x.frame.steps limit) refl ready)

  next-counts : (c : ReadyCode) (limit : ℕ) (x y : CodeState Name) (next : CodeNext Name) → HasStep next → IsTrue (is_local (ready_for limit x.frame next)) → step_next own_name c x next ≡ Some y → Stepped limit x y
  next-counts c limit x y (a_local_piece p) step ready is =
      piece-counts c limit x y p true step refl (subst (λ (b : Bool). IsTrue (is_local (within_steps b (nat_lt x.frame.steps limit) local))) step ready) is
  next-counts c limit x y (an_item item work) step ready is = none-not_some is
  next-counts c limit x y (a_reply call i instruction) step ready is = none-not_some is
  next-counts c limit x y (an_action p m) step ready is = none-not_some is
  next-counts c limit x y nothing step ready is = none-not_some is

  abbrev Counted : ℕ → CodeState Name → CodeState Name → Type 0
  Counted limit x y = (y.frame.actions ≡ suc x.frame.actions) × (x.frame.actions < greatest_actions) × (x.frame.steps ≤ y.frame.steps) × (x.frame.steps ≤ limit → y.frame.steps ≤ limit)

  same-steps : (limit : ℕ) (x y : CodeState Name) → HasCounts x.frame.steps (suc x.frame.actions) y.frame → x.frame.actions < greatest_actions → Counted limit x y
  same-steps limit x y k less = (k.1, less, omega (arith, k.0), λ le. omega (arith, k.0, le))

  more-steps : (limit : ℕ) (x y : CodeState Name) → HasCounts (suc x.frame.steps) (suc x.frame.actions) y.frame → x.frame.actions < greatest_actions → x.frame.steps < limit → Counted limit x y
  more-steps limit x y k less few = (k.1, less, omega (arith, k.0), λ le. omega (arith, k.0, few))

  pub worked-counts : (n m : ℕ) (x y : CodeState Name) (r : Completion Name) → AllOf (HasCounts n m) r → worked x r ≡ Some y → HasCounts n m y.frame
  worked-counts n m x y (stays b) e is = subst (λ (t : CodeState Name). HasCounts n m t.frame) (some-injective is) e
  worked-counts n m x y (goes o b) e is = none-not_some is
  worked-counts n m x y stuck e is = none-not_some is

  pub action-counts : (c : ReadyCode) (x y : CodeState Name) (p : Piece) (met : Met) (at n m : ℕ) (a : CellAction Name) → HasCounts n m (counted_action (counted_if p.has_step x.frame)) → settle_next own_name c x at a (an_action p met) ≡ Some y → HasCounts n m y.frame
  action-counts c x y p met at n m a counted is =
      let r = chain-some (settled_action own_name c x p met at a) (stack_before_action c p x.frame.variables x.stack) y is in
      let b = counted_action (counted_if p.has_step x.frame) in
      let f = code_settles own_name c met.instruction r.0 at a b in
      (is-settled own_name c On (HasCounts n m) (keeps c n m) x y met.index met.instruction f.stack f.completion tt (keeps-settles own_name (HasCounts n m) (counts-kept n m) (λ ls b h. h) (λ k b h. h) c met.instruction r.0 at a b counted) r.2).0

  acting-counts : (c : ReadyCode) (limit : ℕ) (x y : CodeState Name) (p : Piece) (met : Met) (at : ℕ) (a : CellAction Name) (b within : Bool) → p.has_step ≡ b → nat_lt x.frame.steps limit ≡ within
      → IsTrue (is_acting (within_steps b within (to_act (nat_lt x.frame.actions greatest_actions)))) → settle_next own_name c x at a (an_action p met) ≡ Some y → Counted limit x y
  acting-counts c limit x y p met at a true true has few ready is =
      more-steps limit x y (action-counts c x y p met at (suc x.frame.steps) (suc x.frame.actions) a (subst (λ (b : Bool). HasCounts (suc x.frame.steps) (suc x.frame.actions) (counted_action (counted_if b x.frame))) (sym has) (refl, refl)) is)
      (act-below x.frame.actions (nat_lt x.frame.actions greatest_actions) refl ready) (below x.frame.steps limit few)
  acting-counts c limit x y p met at a true false has few ready is = not_true ready
  acting-counts c limit x y p met at a false within has few ready is =
      same-steps limit x y (action-counts c x y p met at x.frame.steps (suc x.frame.actions) a (subst (λ (b : Bool). HasCounts x.frame.steps (suc x.frame.actions) (counted_action (counted_if b x.frame))) (sym has) (refl, refl)) is)
      (act-below x.frame.actions (nat_lt x.frame.actions greatest_actions) refl ready)

  answer-counts : (c : ReadyCode) (limit : ℕ) (x y : CodeState Name) (at : ℕ) (a : CellAction Name) (next : CodeNext Name) → IsTrue (is_acting (ready_for limit x.frame next)) → settle_next own_name c x at a next ≡ Some y → Counted limit x y
  answer-counts c limit x y at a (an_item item work) ready is =
      let n = x.frame.steps in
      let m = suc x.frame.actions in
      let b : Frame Name = counted_action (record (x.frame) { work = work }) in
      same-steps limit x y (worked-counts n m x y (ClosesAndAnswers.work_done item a b) (as-all own_name (HasCounts n m) (counts-kept n m) (λ ls b h. h) (ClosesAndAnswers.work_done item a b) (KeptBodies.all-work (HasCounts n m) ((counts-kept n m).letting) item a b (refl, refl))) is)
      (act-below x.frame.actions (nat_lt x.frame.actions greatest_actions) refl ready)
  answer-counts c limit x y at a (a_reply call i instruction) ready is =
      let n = x.frame.steps in
      let m = suc x.frame.actions in
      same-steps limit x y (is-settled own_name c On (HasCounts n m) (keeps c n m) x y i instruction x.stack (code_hears instruction call a (counted_action x.frame)) tt
      (keeps-hears own_name (HasCounts n m) (counts-kept n m) (λ ls b h. h) instruction call a (counted_action x.frame) (refl, refl)) is).0
      (act-below x.frame.actions (nat_lt x.frame.actions greatest_actions) refl ready)
  answer-counts c limit x y at a (an_action p met) ready is = acting-counts c limit x y p met at a p.has_step (nat_lt x.frame.steps limit) refl refl ready is
  answer-counts c limit x y at a (a_local_piece p) ready is = none-not_some is
  answer-counts c limit x y at a nothing ready is = none-not_some is

  pub code-keeps-limits : KeepsLimits (code_machine image)
  code-keeps-limits = record {
    begins = λ code number port x e.
        let c = begun-code image code number port x e in
        (is-next own_name c.0 On (HasCounts 0 0) (keeps c.0 0 0) (record { module_number = code; position = at_index 0; stack = []; frame = first_frame c.0.scope.variables number port }) x (refl, refl) tt c.2).0;
    local_steps = λ limit x y ready e. let c = local-code image x y e in next-counts c.0 limit x y (code_next c.0 x) (next-steps c.0 x) (ready-code is_local limit x c.0 c.1 ready) c.2;
    answers = λ limit x y at a ready e. let c = answer-code image x y at a e in answer-counts c.0 limit x y at a (code_next c.0 x) (ready-code is_acting limit x c.0 c.1 ready) c.2;
  }
