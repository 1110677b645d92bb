-- Beginnings, local steps and answers of a process of code keep the ledger's equation.
use Rattle.std.proofs.Common.{◌≡◌, ℕ, ◌+◌, List, [], ◌∷◌, Bool, true, false, Option, Some, None, refl, sym, ap, subst, ◌∙◌, arith, length}
use Rattle.std.specs.Prelude.{pred, ⊤}
use mathlib.Core.Bool.{false≢true}
use Rattle.herm_model.specs.Values.{Kind, Cell, Value, parts_of}
use Rattle.herm_model.proofs.Loads.{SparesPlain, load, load_all, weightless}
use Rattle.herm_model.proofs.Options.{none-not_some, some-injective, chain-some}
use Rattle.herm_journal.specs.Messages.{CellWant, CellAction}
use Rattle.herm_journal.specs.Weights.{weigh, weight_received}
use Rattle.herm_forms.specs.ClosesAndAnswers
use Rattle.herm_forms.specs.Frames.{Name, Frame, Completion, goes, stays, stuck, counted_action}
use Rattle.herm_forms.specs.Weights.{weight_made, weight_accounted, weight_sent}
use Rattle.herm_forms.proofs.Balance.{Balanced, AllBalanced}
use Rattle.herm_forms.proofs.Begun.{none-ported, none-back, none-called, none-given}
use Rattle.herm_forms.proofs.Copies.{every-kind, every-kind_in}
use Rattle.herm_forms.proofs.KeptActions.{kept-work_done}
use Rattle.herm_forms.proofs.KeptForms.{balanced-arrive, item-goes}
use Rattle.herm_forms.proofs.Loads.{load_kept, load_coming, load_going, names-weigh, names-kept, names-coming, names-going}
use Rattle.herm_forms.proofs.Weights.{Spares, weigh-gaps}
use Rattle.herm_journal.specs.Kinds.{AllKinds}
use Rattle.herm_instructions.specs.Instructions.{Instruction, New, Store, Get, LoopStart, Call, Return, ReturnBy, Create}
use Rattle.herm_code_machine.specs.ReadyCode.{ReadyCode}
use Rattle.herm_code_machine.specs.CodeActions.{called, code_wants, code_settles, code_hears}
use Rattle.herm_code_machine.specs.CodeStates.{Position, CodeState, at_index, first_frame, code_begin}
use Rattle.herm_code_machine.specs.Pieces.{Piece, Met, stack_before_action, piece_at, action_of}
use Rattle.herm_code_machine.specs.CodeSteps.{CodeNext, an_item, a_reply, an_action, a_local_piece, nothing, met_at, by_action, by_piece, by_met, call_or_piece, item_or, code_next, counted_if, wanted_next, code_wanted, step_next, code_local_step, worked, settled_action, settle_next, code_answered}
use Rattle.herm_code_machine.proofs.RunsKeep.{AllOf, KeepsFrames, is-next, is-settled}
use Rattle.herm_code_machine.proofs.balanced.EffectsBalance.{CodeCopies, code_begun, code_over, kept-effect, kept-hears, kept-counted}

-- what comes next where it is an item is the front of the work list
abbrev is_item : CodeNext Name → Bool
is_item (an_item item work) = true
is_item next = false

action-not_item : (p : Piece) (o : Option Met) → is_item (by_action p o) ≡ false
action-not_item p None = refl
action-not_item p (Some m) = refl

piece-not_item : (c : ReadyCode) (o : Option Piece) → is_item (by_piece c o) ≡ false
piece-not_item c None = refl
piece-not_item c (Some p) = action-not_item p (action_of c p)

met-not_item : (call : ℕ) (o : Option Met) → is_item (by_met call o) ≡ false
met-not_item call None = refl
met-not_item call (Some m) = refl

call-not_item : (c : ReadyCode) (p : Position) (call : Option ℕ) → is_item (call_or_piece c p call) ≡ false
call-not_item c p None = piece-not_item c (piece_at c p)
call-not_item c p (Some call) = met-not_item call (met_at c p)

front-is : (list : List (Cell Name)) (next : CodeNext Name) (item : Cell Name) (work : List (Cell Name)) → is_item next ≡ false → item_or list next ≡ an_item item work → list ≡ item ∷ work
front-is [] next item work not is = absurd (false≢true (sym not ∙ ap is_item is))
front-is (d ∷ list) next item work not is = cc is

-- by names alone
module _ (w : Name → ℕ) (name : Name → Name) where
  spared : SparesPlain weightless
  spared k is = refl

  every : (k : Kind) → Spares weightless k
  every k = refl

  all-values : (stack : List Value) → AllKinds (Spares weightless) stack
  all-values [] = tt
  all-values (v ∷ stack) = (every-kind (Spares weightless) every v, all-values stack)

  all-copied : (i : Instruction) (stack : List Value) (b : Frame Name) → CodeCopies (Spares weightless) i stack b
  all-copied (Store x) stack b = all-values stack
  all-copied (Get r t n) stack b = λ table is. every-kind_in (Spares weightless) every (parts_of table)
  all-copied (LoopStart t slot) stack b = λ table is. every-kind_in (Spares weightless) every (parts_of table)
  all-copied (Call o arguments keep) stack b = all-values stack
  all-copied i stack b = tt

  none-begun : (c : ReadyCode) (i : Instruction) (stack : List Value) (b : Frame Name) (action : CellAction Name) → code_begun weightless name c i stack b action ≡ 0
  none-begun c (New x t) stack b action = none-ported w action
  none-begun c (Create o n) stack b action = none-ported w action
  none-begun c (Call o arguments keep) stack b action = none-called w (called name c arguments stack b)
  none-begun c i stack b action = refl

  none-over : (c : ReadyCode) (i : Instruction) (b : Frame Name) (action : CellAction Name) → code_over weightless c i b action ≡ 0
  none-over c (Call o arguments keep) b action = none-back w action
  none-over c (Return x) b action = none-given w x _
  none-over c (ReturnBy x e kept) b action = none-given w x _
  none-over c i b action = refl

  abbrev On : List Value → Type 0
  On stack = ⊤

  abbrev Is : (m k : ℕ) → Frame Name → Type 0
  Is m k b = Balanced w weightless name m k 0 b

  keeps : (c : ReadyCode) (m k : ℕ) → KeepsFrames name c On (Is m k)
  keeps c m k = record {
    empty = tt;
    effects = λ i stack b h e. (tt, kept-effect w weightless name spared m k c i stack b (all-copied i stack b) e);
    ends = λ t b e. balanced-arrive w weightless name spared m k 0 c.scope t b e;
  }

  counted : (m k : ℕ) (has_step : Bool) (b : Frame Name) → Is m k b → Is m k (counted_if has_step b)
  counted m k true b e = e
  counted m k false b e = e

  -- what is in hand is what was made besides
  more-made : (m k h : ℕ) (r : Completion Name) → AllOf (Balanced w weightless name m k h) r → AllOf (Is (m + h) k) r
  more-made m k h (goes o b) e = omega arith
  more-made m k h (stays b) e = omega arith
  more-made m k h stuck e = tt

  is-step : (c : ReadyCode) (m k : ℕ) (s t : CodeState Name) (next : CodeNext Name) → Is m k s.frame → step_next name c s next ≡ Some t → Is m k t.frame
  is-step c m k s t (a_local_piece p) e is =
      (is-next name c On (Is m k) (keeps c m k) (record { module_number = s.module_number; position = at_index p.first; stack = s.stack; frame = counted_if p.has_step s.frame }) t (counted m k p.has_step s.frame e) tt is).0
  is-step c m k s t _ e is = none-not_some is

  is-worked : (m k : ℕ) (s t : CodeState Name) (r : Completion Name) → AllOf (Is m k) r → worked s r ≡ Some t → Is m k t.frame
  is-worked m k s t (stays b) e is = subst (λ (t : CodeState Name). Is m k t.frame) (some-injective is) e
  is-worked m k s t (goes o b) e is = none-not_some is
  is-worked m k s t stuck e is = none-not_some is

  as-all : (m k h : ℕ) (r : Completion Name) → AllBalanced w weightless name m k h r → AllOf (Balanced w weightless name m k h) r
  as-all m k h (goes o b) e = e
  as-all m k h (stays b) e = e
  as-all m k h stuck e = tt

  -- behind an answer, with what went out in hand
  is-answer : (c : ReadyCode) (s t : CodeState Name) (want : CellWant Name) (at : ℕ) (action : CellAction Name) (next : CodeNext Name) → code_next c s ≡ next → wanted_next name c s next ≡ Some want → settle_next name c s at action next ≡ Some t
      → Is (weight_made w name s.frame + load_going w weightless name s.frame want action) (load_kept w weightless s.frame + load_coming w weightless action) t.frame
  is-answer c s t want at action (an_item item work) is wants settles =
      let m = weight_made w name s.frame in
      let k = load_kept w weightless s.frame + load_coming w weightless action in
      let b : Frame Name = counted_action (record (s.frame) { work = work }) in
      let front : s.frame.work ≡ item ∷ work = front-is s.frame.work (call_or_piece c s.position s.frame.call) item work (call-not_item c s.position s.frame.call) is in
      let whole : load_all w weightless s.frame.work ≡ load w weightless item + load_all w weightless work = ap (load_all w weightless) front in
      let done = as-all m k 0 (ClosesAndAnswers.work_done item action b) (kept-work_done w weightless name spared m k item action b (omega arith)) in
      let e = is-worked m k s t (ClosesAndAnswers.work_done item action b) done settles in
      omega (arith, item-goes w weightless name item s.frame want action wants)
  is-answer c s t want at action (a_reply call i instruction) is wants settles =
      let m = weight_made w name s.frame in
      let k = load_kept w weightless s.frame + load_coming w weightless action in
      let heard = kept-hears w weightless name spared m k instruction call action (counted_action s.frame) (omega arith) in
      let e = (is-settled name c On (Is m k) (keeps c m k) s t i instruction s.stack (code_hears instruction call action (counted_action s.frame)) tt heard settles).0 in
      subst (λ (want : CellWant Name). Is (m + load_going w weightless name s.frame want action) k t.frame) (some-injective wants) (omega arith)
  is-answer c s t want at action (an_action p met) is wants settles =
      let m = weight_made w name s.frame in
      let k = load_kept w weightless s.frame + load_coming w weightless action in
      let r = chain-some (settled_action name c s p met at action) (stack_before_action c p s.frame.variables s.stack) t settles in
      let q = chain-some (λ stack. code_wants name c met.instruction stack s.frame) (stack_before_action c p s.frame.variables s.stack) want wants in
      let same : q.0 ≡ r.0 = some-injective (sym q.1 ∙ r.1) in
      let wants' : code_wants name c met.instruction r.0 s.frame ≡ Some want = subst (λ (stack : List Value). code_wants name c met.instruction stack s.frame ≡ Some want) same q.2 in
      let b = counted_action (counted_if p.has_step s.frame) in
      let f = code_settles name c met.instruction r.0 at action b in
      let begun = none-begun c met.instruction r.0 s.frame action in
      let over = none-over c met.instruction s.frame action in
      let h = load_going w weightless name s.frame want action + code_over weightless c met.instruction s.frame action in
      let came = kept-counted w weightless name spared m k p.has_step c met.instruction r.0 want at action s.frame wants' (all-copied met.instruction r.0 s.frame) (omega (arith, begun)) in
      let e = (is-settled name c On (Is (m + h) k) (keeps c (m + h) k) s t met.index met.instruction f.stack f.completion tt (more-made m k h f.completion came) r.2).0 in
      omega (arith, over)
  is-answer c s t want at action (a_local_piece p) is wants settles = none-not_some settles
  is-answer c s t want at action nothing is wants settles = none-not_some settles

  pub code-begins-balanced : (c : ReadyCode) (code number : ℕ) (port : Cell Name) (x : CodeState Name) → code_begin name c code number port ≡ Some x → weight_made w name x.frame + weigh w port ≡ weight_accounted w x.frame
  code-begins-balanced c code number port x is =
      let k = load w weightless port in
      let e = (is-next name c On (Is 0 k) (keeps c 0 k) (record { module_number = code; position = at_index 0; stack = []; frame = first_frame c.scope.variables number port }) x (omega (arith, weigh-gaps w weightless (pred (length c.scope.variables)))) tt is).0 in
      omega (arith, names-weigh w port, names-kept w x.frame)

  pub code-steps-balanced : (c : ReadyCode) (s t : CodeState Name) → code_local_step name c s ≡ Some t → weight_made w name t.frame + weight_accounted w s.frame ≡ weight_made w name s.frame + weight_accounted w t.frame
  code-steps-balanced c s t is =
      let e = is-step c (weight_made w name s.frame) (load_kept w weightless s.frame) s t (code_next c s) (omega arith) is in
      omega (arith, names-kept w s.frame, names-kept w t.frame)

  pub code-answers-balanced : (c : ReadyCode) (s t : CodeState Name) (want : CellWant Name) (at : ℕ) (action : CellAction Name) → code_wanted name c s ≡ Some want → code_answered name c s at action ≡ Some t
      → weight_made w name t.frame + (weight_accounted w s.frame + weight_received w action) ≡ weight_made w name s.frame + weight_accounted w t.frame + weight_sent w name s.frame want action
  code-answers-balanced c s t want at action wants answers =
      let e = is-answer c s t want at action (code_next c s) refl wants answers in
      omega (arith, names-kept w s.frame, names-kept w t.frame, names-coming w action, names-going w name s.frame want action)
