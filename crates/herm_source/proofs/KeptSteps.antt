-- Beginnings, local steps and answers keep the ledger's equation.
use Rattle.std.proofs.Common.{◌≡◌, ℕ, suc, ◌+◌, List, [], ◌∷◌, Bool, true, false, cond, Option, Some, None, refl, ap, sym, arith, length}
use Rattle.std.specs.Prelude.{pred, option_map, option_and_then, ⊤}
use mathlib.Core.Bool.{false≢true}
use Rattle.herm_model.specs.Nodes.{Node}
use Rattle.herm_model.specs.Targets.{Target}
use Rattle.herm_model.specs.Values.{Kind, kind_of, a_callmessage, an_inport, Cell, cell}
use Rattle.herm_model.proofs.Options.{some-injective, none-not_some}
use Rattle.herm_forms.specs.Frames.{Name, Frame, Completion, goes, stays, stuck, counted_step, counted_action}
use Rattle.herm_forms.specs.ClosesAndAnswers
use Rattle.herm_journal.specs.Messages.{CellWant, CellAction}
use Rattle.herm_forms.specs.EdgeFinalising.{arrive}
use Rattle.herm_forms.specs.Modules.{Module}
use Rattle.herm_source.specs.States.{State, begin, Next, an_item, a_reply, a_statement, nothing, node_at, call_or_statement, item_or, next_of, state_after, wanted_next, step_next, settle_next}
use Rattle.herm_forms.specs.Acts.{is_action, act, wants, settle, settle_reply, leads_to}
use Rattle.herm_forms.specs.Weights.{weight_made}
use Rattle.herm_model.proofs.Loads.{load, load_all, weightless}
use Rattle.herm_forms.proofs.Loads.{load_coming, load_going, load_kept, names-weigh, names-kept, names-coming, names-going}
use Rattle.herm_forms.proofs.Copies.{CopiesKinds, all-copies}
use Rattle.herm_model.proofs.Loads.{SparesPlain}
use Rattle.herm_forms.proofs.Weights.{Spares}
use Rattle.herm_source.specs.laws.LedgerLaws.{BeginningsKeep, LocalStepsKeep, AnswersKeep}
use Rattle.herm_forms.proofs.Weights.{weigh-gaps}
use Rattle.herm_forms.proofs.Balance.{Balanced, AllBalanced}
use Rattle.herm_forms.proofs.KeptActions.{kept-work_done}
use Rattle.herm_forms.proofs.Counting.{recount}
use Rattle.herm_forms.proofs.KeptForms.{balanced-arrive, kept-act, kept-settle, settle-reply, item-goes}
use Rattle.herm_forms.proofs.Begun.{begun, over, none-begun, none-over}
use Rattle.herm_model.specs.examples.TableExamples.{k}
use Rattle.herm_source.proofs.OpeningFrame.{opening_frame}

-- what the next thing copies
abbrev pub CopiesNext : {N : Type 0} → (Kind → Type 0) → Module → Frame N → Next N → Type 0
CopiesNext of c b (a_statement n) = CopiesKinds of c n.form b.variables
CopiesNext of c b next = ⊤

-- what the kinds weigh of the inports and callmessages that the answer to the next thing makes, and of those that it ends
abbrev pub begun_next : {N : Type 0} → (Kind → ℕ) → (Name → N) → Module → Frame N → CellAction N → Next N → ℕ
begun_next extra name c b action (a_statement n) = begun extra name c n.form b action
begun_next extra name c b action next = 0

abbrev pub over_next : {N : Type 0} → (Kind → ℕ) → Module → Frame N → CellAction N → Next N → ℕ
over_next extra c b action (an_item item work) = extra (kind_of item)
over_next extra c b action (a_statement n) = over extra c n.form b action
over_next extra c b action next = 0

module _ {N : Type 0} (w : N → ℕ) (extra : Kind → ℕ) (name : Name → N) (spares : SparesPlain extra) (m k : ℕ) where
  -- the state behind a result
  arrived : (h : ℕ) (c : Module) (s : State N) (b : Frame N) (o : Option Target) (t : State N) → Balanced w extra name m k h b
      → option_map (λ t. record { module_number = s.module_number; point = t; frame = arrive c t b }) o ≡ Some t → Balanced w extra name m k h t.frame
  arrived h c s b None t e is = none-not_some is
  arrived h c s b (Some p) t e is =
      let same : record { module_number = s.module_number; point = p; frame = arrive c p b } ≡ t = cc is in rw (sym same) (balanced-arrive w extra name spares m k h c p b e)

  balanced-behind : (h : ℕ) (c : Module) (s : State N) (n : Option Node) (r : Completion N) (t : State N) → AllBalanced w extra name m k h r → state_after c s n r ≡ Some t → Balanced w extra name m k h t.frame
  balanced-behind h c s n (goes o b) t e is = arrived h c s b (option_and_then (λ n. leads_to c n o) n) t e is
  balanced-behind h c s n (stays b) t e is = let same : record s { frame = b } ≡ t = cc is in rw (sym same) e
  balanced-behind h c s n stuck t e is = none-not_some is

  step_or_not : (c : Module) (s t : State N) (n : Node) (b : Bool) → CopiesKinds (Spares extra) c n.form s.frame.variables → Balanced w extra name m k 0 s.frame
      → cond b None (state_after c s (Some n) (act name c n.number n.form (counted_step s.frame))) ≡ Some t → Balanced w extra name m k 0 t.frame
  step_or_not c s t n true kinds e is = none-not_some is
  step_or_not c s t n false kinds e is = balanced-behind 0 c s (Some n) (act name c n.number n.form (counted_step s.frame)) t (kept-act w extra name spares m k c n.number n.form (counted_step s.frame) kinds e) is

  pub balanced-step_next : (c : Module) (s t : State N) (next : Next N) → CopiesNext (Spares extra) c s.frame next → Balanced w extra name m k 0 s.frame → step_next name c s next ≡ Some t → Balanced w extra name m k 0 t.frame
  balanced-step_next c s t (a_statement n) kinds e is = step_or_not c s t n (is_action c n.form) kinds e is
  balanced-step_next c s t _ kinds e is = none-not_some is

module _ {N : Type 0} (w : N → ℕ) (extra : Kind → ℕ) (name : Name → N) (spares : SparesPlain extra) (m k steps actions : ℕ) where
  settle-statement : (c : Module) (s : State N) (n : Node) (want : CellWant N) (at : ℕ) (action : CellAction N) (b : Bool) → cond b (wants name c n.form s.frame) None ≡ Some want → CopiesKinds (Spares extra) c n.form s.frame.variables
      → Balanced w extra name m k (load_coming w extra action + begun extra name c n.form s.frame action) s.frame
      → AllBalanced w extra name m k (load_going w extra name s.frame want action + over extra c n.form s.frame action) (settle name c n.form at action (recount steps actions s.frame))
  settle-statement c s n want at action true is kinds e = kept-settle w extra name spares m k steps actions c n.form want at action s.frame is kinds e
  settle-statement c s n want at action false is kinds e = none-not_some is

abbrev is_item : {N : Type 0} → Next N → Bool
is_item (an_item item work) = true
is_item _ = false

-- the front of the work list is next where there is one
not_item : {N : Type 0} (call : Option ℕ) (n : Option Node) (item : Cell N) (work : List (Cell N)) → call_or_statement call n ≡ an_item item work → ⊥
not_item call None item work is = false≢true (ap is_item is)
not_item None (Some n) item work is = false≢true (ap is_item is)
not_item (Some k) (Some n) item work is = false≢true (ap is_item is)

front-is : {N : Type 0} (list : List (Cell N)) (call : Option ℕ) (n : Option Node) (item : Cell N) (work : List (Cell N)) → item_or list (call_or_statement call n) ≡ an_item item work → list ≡ item ∷ work
front-is [] call n item work is = absurd (not_item call n item work is)
front-is (c ∷ list) call n item work is = cc is

module _ {N : Type 0} (w : N → ℕ) (extra : Kind → ℕ) (name : Name → N) (spares : SparesPlain extra) where
  settle-item : (c : Module) (s t : State N) (want : CellWant N) (action : CellAction N) (item : Cell N) (work : List (Cell N)) → s.frame.work ≡ item ∷ work → ClosesAndAnswers.work_wants item ≡ Some want
      → state_after c s None (ClosesAndAnswers.work_done item action (counted_action (record (s.frame) { work = work }))) ≡ Some t
      → Balanced w extra name (weight_made w name s.frame) (load_kept w extra s.frame + load_coming w extra action) (load_going w extra name s.frame want action + extra (kind_of item)) t.frame
  settle-item c s t want action item work front is is' =
      let m = weight_made w name s.frame in
      let k = load_kept w extra s.frame + load_coming w extra action in
      let b : Frame N = counted_action (record (s.frame) { work = work }) in
      let whole : load_all w extra s.frame.work ≡ load w extra item + load_all w extra work = ap (load_all w extra) front in
      let e = balanced-behind w extra name spares m k (0 + extra (kind_of item)) c s None (ClosesAndAnswers.work_done item action b) t (kept-work_done w extra name spares m k item action b (omega arith)) is' in
      omega (arith, item-goes w extra name item s.frame want action is)

  pub balanced-settle_next : (c : Module) (s t : State N) (want : CellWant N) (at : ℕ) (action : CellAction N) (next : Next N) → next_of c s ≡ next
      → wanted_next name c s.frame next ≡ Some want → settle_next name c s at action next ≡ Some t → CopiesNext (Spares extra) c s.frame next
      → Balanced w extra name (weight_made w name s.frame) (load_kept w extra s.frame + load_coming w extra action + begun_next extra name c s.frame action next) (load_going w extra name s.frame want action + over_next extra c s.frame action next) t.frame
  balanced-settle_next c s t want at action (an_item item work) is wants' is' kinds =
      let e = settle-item c s t want action item work (front-is s.frame.work s.frame.call (node_at c s.point) item work is) wants' is' in omega arith
  balanced-settle_next c s t want at action (a_reply call n) is wants' is' kinds =
      let m = weight_made w name s.frame in
      let k = load_kept w extra s.frame + load_coming w extra action + 0 in
      rw (sym (some-injective wants')) (balanced-behind w extra name spares m k 0 c s (Some n) (settle_reply c n.form call action (counted_action s.frame)) t (settle-reply w extra name spares m k 0 0 c n.form call action (counted_action s.frame) (omega arith)) is')
  balanced-settle_next c s t want at action (a_statement n) is wants' is' kinds =
      let m = weight_made w name s.frame in
      let more = begun extra name c n.form s.frame action in
      let k = load_kept w extra s.frame + load_coming w extra action + more in
      balanced-behind w extra name spares m k (load_going w extra name s.frame want action + over extra c n.form s.frame action) c s (Some n) (settle name c n.form at action (counted_action (counted_step s.frame))) t
      (settle-statement w extra name spares m k (suc s.frame.steps) (suc s.frame.actions) c s n want at action (is_action c n.form) wants' kinds (omega arith)) is'
  balanced-settle_next c s t want at action nothing is wants' is' kinds = none-not_some is'

-- A process that begins has its port and no more.
module _ {N : Type 0} (w : N → ℕ) (extra : Kind → ℕ) (name : Name → N) (spares : SparesPlain extra) where
  pub balanced-begin : (c : Module) (code number : ℕ) (port : Cell N) → Balanced w extra name 0 (load w extra port) 0 (begin c code number port).frame
  balanced-begin c code number port =
      let first : Frame N = opening_frame c number port in
      balanced-arrive w extra name spares 0 (load w extra port) 0 c c.entry first (omega (arith, weigh-gaps w extra (pred (length c.variables))))

-- By names alone this is the ledger's equation.
module _ (w : Name → ℕ) (name : Name → Name) where
  spared : SparesPlain weightless
  spared k is = refl

  nothing-copied : (c : Module) (b : Frame Name) (next : Next Name) → CopiesNext (Spares weightless) c b next
  nothing-copied c b (a_statement n) = all-copies (Spares weightless) (λ k. refl) c n.form b.variables
  nothing-copied c b (an_item item work) = tt
  nothing-copied c b (a_reply call n) = tt
  nothing-copied c b nothing = tt

  names-begun : (c : Module) (b : Frame Name) (action : CellAction Name) (next : Next Name) → begun_next weightless name c b action next ≡ 0
  names-begun c b action (a_statement n) = none-begun w name c n.form b action
  names-begun c b action (an_item item work) = refl
  names-begun c b action (a_reply call n) = refl
  names-begun c b action nothing = refl

  names-over : (c : Module) (b : Frame Name) (action : CellAction Name) (next : Next Name) → over_next weightless c b action next ≡ 0
  names-over c b action (a_statement n) = none-over w c n.form b action
  names-over c b action (an_item item work) = refl
  names-over c b action (a_reply call n) = refl
  names-over c b action nothing = refl

pub beginnings-keep : BeginningsKeep
beginnings-keep w name c code number port =
    let e = balanced-begin w weightless name (spared w name) c code number port in omega (arith, names-weigh w port, names-kept w (begin c code number port).frame)

pub local-steps-keep : LocalStepsKeep
local-steps-keep w name c s t is =
    let e = balanced-step_next w weightless name (spared w name) (weight_made w name s.frame) (load_kept w weightless s.frame) c s t (next_of c s) (nothing-copied w name c s.frame (next_of c s)) (omega arith) is in
    omega (arith, names-kept w s.frame, names-kept w t.frame)

pub answers-keep : AnswersKeep
answers-keep w name c s t want at action is is' =
    let e = balanced-settle_next w weightless name (spared w name) c s t want at action (next_of c s) refl is is' (nothing-copied w name c s.frame (next_of c s)) in
    omega (
      arith,
      names-kept w s.frame,
      names-kept w t.frame,
      names-coming w action,
      names-going w name s.frame want action,
      names-begun w name c s.frame action (next_of c s),
      names-over w name c s.frame action (next_of c s),
    )
