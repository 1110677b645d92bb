-- Open calls of the source machine's processes: opened by a message that is placed, closed by a reply, kept by all else.
use Rattle.std.proofs.Common.{◌≡◌, ◌⊎◌, inl, inr, ℕ, List, Option, Some, None, option_map, option_and_then, refl, sym, ap, subst, ◌∙◌}
use Rattle.std.specs.Prelude.{cond, Bool, true, false, slice_get}
use Rattle.herm_model.specs.Outcomes.{raised, disconnected}
use Rattle.herm_model.specs.Statements.{Form, Call}
use Rattle.herm_model.specs.Nodes.{Node}
use Rattle.herm_model.specs.Targets.{Target}
use Rattle.herm_model.specs.Values.{Name, Cell, cell}
use Rattle.herm_model.proofs.Options.{none-not_some, some-injective, map-some}
use Rattle.herm_journal.specs.Actions.{put, close, answer, hear}
use Rattle.herm_journal.specs.Messages.{CellReply, CellAction}
use Rattle.herm_forms.specs.Acts.{is_action, act, settle, settle_reply, composed, arguments_at, is_out, leads_to}
use Rattle.herm_forms.specs.Callmessages.{Composed}
use Rattle.herm_forms.specs.EdgeFinalising.{arrive}
use Rattle.herm_forms.specs.ClosesAndAnswers
use Rattle.herm_forms.specs.Frames.{Frame, Completion, goes, stays, stuck, if_there, drop, finalise_at_once, counted_step, counted_action}
use Rattle.herm_forms.specs.Modules.{Module}
use Rattle.herm_forms.specs.OpenCalls.{Calling, call_type, calling_form}
use Rattle.herm_forms.proofs.CountedCalls.{arrive-call, drop-call}
use Rattle.herm_forms.proofs.KeptBodies.{IsKept, All, went, stayed, never, all-act, all-work, all-settle, all-settle_reply, is-composed}
use Rattle.herm_system.specs.Machines.{OpenCall}
use Rattle.herm_source.specs.Instance.{source, code_at}
use Rattle.herm_source.specs.Local.{calling}
use Rattle.herm_source.specs.Modules.{Modules}
use Rattle.herm_source.specs.SeenBySystem.{open_call}
use Rattle.herm_source.specs.States.{State, own_name, begin, Next, an_item, a_reply, a_statement, nothing, next_of, node_at, state_after, step_next, settle_next, answered}
use Rattle.herm_source.proofs.Numbers.{answer-stays}
use Rattle.herm_source.proofs.OpeningFrame.{opening_frame}
use Rattle.herm_source.proofs.counted.CountedSteps.{stands}
use Rattle.herm_source.proofs.instance.SourceLaws.{local-code, answer-code}
use Rattle.herm_sound.specs.SoundMachines.{CallMoves}

-- a body with this call open, or with none
abbrev pub HasCall : Option ℕ → Frame Name → Type 0
HasCall call b = b.call ≡ call

pub call-kept : (call : Option ℕ) → IsKept (HasCall call)
call-kept call = record {
  letting = record { value = λ c b h. h; parts = λ ps b h. h; name = λ n b h. h };
  variables = λ ps b h. h;
  serial = λ s b h. h;
  calls = λ b h. h;
}

-- the action placed a message
abbrev IsPlaced : CellAction Name → Frame Name → Type 0
IsPlaced a b = (k : ℕ) × (m : Cell Name) × (a ≡ put (Some k) m)

module _ (modules : Modules) where
  -- the call that a process has open, by its module, its point and the call's number
  abbrev opened_by : (code : ℕ) → Target → Option ℕ → Option OpenCall
  opened_by code t call =
      option_and_then (λ c. option_and_then (λ k. option_map (λ (calls : Calling). record { number = k; call_type = call_type c calls }) (option_and_then (λ (n : Node). calling_form n.form) (node_at c t))) call)
      (slice_get modules.codes code)

  pub closed : (x : State Name) → x.frame.call ≡ None → (source modules).open_call x ≡ None
  closed x e = by (code_at modules x) (x.frame.call) e refl
    where
      by : (o : Option Module) (call : Option ℕ) → call ≡ None → x.frame.call ≡ call → option_and_then (λ c. open_call c x) o ≡ None
      by None call none is = refl
      by (Some c) call none is = ap (option_and_then (λ k. option_map (λ (calls : Calling). record { number = k; call_type = call_type c calls }) (calling c x))) (is ∙ none)

  same-open : (x y : State Name) → y.module_number ≡ x.module_number → y.point ≡ x.point → y.frame.call ≡ x.frame.call → (source modules).open_call y ≡ (source modules).open_call x
  same-open x y code point call =
      ap (λ code. opened_by code y.point y.frame.call) code ∙ ap (λ t. opened_by x.module_number t y.frame.call) point ∙ ap (opened_by x.module_number x.point) call

  pub state-behind : (call : Option ℕ) (Stay : Frame Name → Type 0) (c : Module) (s t : State Name) (at : Option Node) (r : Completion Name) → All (HasCall call) Stay r → state_after c s at r ≡ Some t
      → (t.frame.call ≡ call) ⊎ ((b : Frame Name) × Stay b × (t ≡ record s { frame = b }))
  state-behind call Stay c s t at (goes o b) (went o' b' e) is =
      let m = map-some (λ (p : Target). record { module_number = s.module_number; point = p; frame = arrive c p b }) (option_and_then (λ n. leads_to c n o) at) t is in
      inl (ap (λ (t : State Name). t.frame.call) (sym m.2) ∙ arrive-call c m.0 b ∙ e)
  state-behind call Stay c s t at (stays b) (stayed b' e) is = inr (b, e, sym (some-injective is))
  state-behind call Stay c s t at stuck never is = none-not_some is

  -- a local step keeps it closed
  pub local-moves : (x y : State Name) → (source modules).local_step x ≡ Some y → (source modules).open_call y ≡ (source modules).open_call x
  local-moves x y e = let c = local-code modules x y e in by c.0 (next_of c.0 x) refl c.2
    where
      none-stays : (t : State Name) → (t.frame.call ≡ None) ⊎ ((b : Frame Name) × HasCall None b × (t ≡ record x { frame = b })) → t.frame.call ≡ None
      none-stays t (inl e) = e
      none-stays t (inr h) = ap (λ (t : State Name). t.frame.call) h.2 ∙ h.1

      step : (c : Module) (n : Node) (b : Bool) → x.frame.call ≡ None → cond b None (state_after c x (Some n) (act own_name c n.number n.form (counted_step x.frame))) ≡ Some y → y.frame.call ≡ None
      step c n true idle is = none-not_some is
      step c n false idle is =
          none-stays y (state-behind None (HasCall None) c x y (Some n) (act own_name c n.number n.form (counted_step x.frame))
          (all-act own_name (HasCall None) (HasCall None) (call-kept None) c n.number n.form (counted_step x.frame) idle (λ visit ls b h. h)) is)

      by : (c : Module) (next : Next Name) → next_of c x ≡ next → step_next own_name c x next ≡ Some y → (source modules).open_call y ≡ (source modules).open_call x
      by c (a_statement n) at is =
          let idle = (stands c x n at).closed in
          closed y (step c n (is_action c n.form) idle is) ∙ sym (closed x idle)
      by c (an_item item work) at is = none-not_some is
      by c (a_reply k n) at is = none-not_some is
      by c nothing at is = none-not_some is

  -- what a statement's answer leaves: no call open, or one that a message placed opens
  there : {X : Type 0} (Is : Frame Name → Type 0) (Stay : Frame Name → Type 0) (next : X → Completion Name) (o : Option X) → ((x : X) → o ≡ Some x → All Is Stay (next x)) → All Is Stay (if_there next o)
  there Is Stay next None on = never
  there Is Stay next (Some x) on = on x refl

  ended-call : (m : Cell Name) (b : Frame Name) → (finalise_at_once m b).call ≡ b.call
  ended-call (cell n k ps) b = refl

  all-settled : (c : Module) (form : Form) (at : ℕ) (a : CellAction Name) (b : Frame Name) → b.call ≡ None → All (HasCall None) (IsPlaced a) (settle own_name c form at a b)
  all-settled c (Call o arguments) at (put (Some i) m) b idle =
      there (HasCall None) (IsPlaced (put (Some i) m)) (λ (k : Composed Name). stays (record (k.frame) { call = Some k.call })) (composed own_name c o arguments b) (λ k is. stayed (record (k.frame) { call = Some k.call }) (i, m, refl))
  all-settled c (Call o arguments) at (put None m) b idle =
      there (HasCall None) (IsPlaced (put None m)) (λ (k : Composed Name). goes (raised disconnected) (drop (arguments_at c is_out o arguments) (finalise_at_once m k.frame))) (composed own_name c o arguments b)
      (λ k is. went (raised disconnected) (drop (arguments_at c is_out o arguments) (finalise_at_once m k.frame))
      (drop-call (arguments_at c is_out o arguments) (finalise_at_once m k.frame) ∙ ended-call m k.frame
      ∙ is-composed own_name (HasCall None) (HasCall None) (call-kept None) c o arguments b k idle is))
  all-settled c (Call o arguments) at a b idle = never
  all-settled c form at a b idle = all-settle own_name (HasCall None) (IsPlaced a) (call-kept None) c form at a b idle (λ h. absurd h)

  -- only a reply answers a call that is open
  pub hears : (c : Module) (s t : State Name) (n : Node) (form : Form) (k : ℕ) (a : CellAction Name) (b : Frame Name) → state_after c s (Some n) (settle_reply c form k a b) ≡ Some t → (i : ℕ) × (r : CellReply Name) × (a ≡ hear i r)
  hears c s t n (Call o arguments) k (hear i r) b is = (i, r, refl)
  hears c s t n (Call o arguments) k a b is = none-not_some is
  hears c s t n form k a b is = none-not_some is

  -- an answer to what is to be finalised is a close or an answer
  works : (c : Module) (x y : State Name) (item : Cell Name) (a : CellAction Name) (b : Frame Name) → state_after c x None (ClosesAndAnswers.work_done item a b) ≡ Some y → (source modules).open_call y ≡ (source modules).open_call x → CallMoves (source modules) x y a
  works c x y item (close count left) b is same = same
  works c x y item (answer k r) b is same = same
  works c x y item a b is same = none-not_some is

  -- nothing is open before and behind
  never-open : (x y : State Name) (a : CellAction Name) → (source modules).open_call x ≡ None → (source modules).open_call y ≡ None → CallMoves (source modules) x y a
  never-open x y (put (Some k) m) before after = before
  never-open x y (hear k r) before after = after
  never-open x y a before after = after ∙ sym before

  pub answer-moves : (x y : State Name) (at : ℕ) (a : CellAction Name) → (source modules).answered x at a ≡ Some y → CallMoves (source modules) x y a
  answer-moves x y at a e = let c = answer-code modules x y at a e in by c.0 (next_of c.0 x) refl (answer-stays own_name c.0 x y at a c.2).1 c.2
    where
      stayed-so : (t : State Name) (b : Frame Name) → x.frame.call ≡ b.call → t ≡ record x { frame = b } → (source modules).open_call t ≡ (source modules).open_call x
      stayed-so t b call is = same-open x t (ap (λ (t : State Name). t.module_number) is) (ap (λ (t : State Name). t.point) is) (ap (λ (t : State Name). t.frame.call) is ∙ sym call)

      item-moves : (c : Module) (item : Cell Name) (work : List (Cell Name)) → state_after c x None (ClosesAndAnswers.work_done item a (counted_action (record (x.frame) { work = work }))) ≡ Some y → CallMoves (source modules) x y a
      item-moves c item work is =
          let b = counted_action (record (x.frame) { work = work }) in
          let all = all-work (HasCall x.frame.call) ((call-kept x.frame.call).letting) item a b refl in
          works c x y item a b is (from (ClosesAndAnswers.work_done item a b) all is)
        where
          from : (r : Completion Name) → All (HasCall x.frame.call) (HasCall x.frame.call) r → state_after c x None r ≡ Some y → (source modules).open_call y ≡ (source modules).open_call x
          from (goes o b) all is = none-not_some is
          from (stays b) (stayed b' e) is = stayed-so y b (sym e) (sym (some-injective is))
          from stuck all is = none-not_some is

      reply-moves : (c : Module) (k : ℕ) (n : Node) → state_after c x (Some n) (settle_reply c n.form k a (counted_action x.frame)) ≡ Some y → CallMoves (source modules) x y a
      reply-moves c k n is =
          let h = hears c x y n n.form k a (counted_action x.frame) is in
          let shut = by (state-behind None (HasCall None) c x y (Some n) (settle_reply c n.form k a (counted_action x.frame)) (all-settle_reply own_name (HasCall None) (HasCall None) (call-kept None) c n.form k a (counted_action x.frame) refl) is) in
          subst (CallMoves (source modules) x y) (sym h.2) (closed y shut)
        where
          by : (y.frame.call ≡ None) ⊎ ((b : Frame Name) × HasCall None b × (y ≡ record x { frame = b })) → y.frame.call ≡ None
          by (inl e) = e
          by (inr h) = ap (λ (t : State Name). t.frame.call) h.2 ∙ h.1

      statement-moves : (c : Module) (n : Node) → x.frame.call ≡ None → state_after c x (Some n) (settle own_name c n.form at a (counted_action (counted_step x.frame))) ≡ Some y → CallMoves (source modules) x y a
      statement-moves c n idle is =
          by (state-behind None (IsPlaced a) c x y (Some n) (settle own_name c n.form at a (counted_action (counted_step x.frame))) (all-settled c n.form at a (counted_action (counted_step x.frame)) idle) is)
        where
          by : (y.frame.call ≡ None) ⊎ ((b : Frame Name) × IsPlaced a b × (y ≡ record x { frame = b })) → CallMoves (source modules) x y a
          by (inl e) = never-open x y a (closed x idle) (closed y e)
          by (inr h) = subst (CallMoves (source modules) x y) (sym h.1.2) (closed x idle)

      by : (c : Module) (next : Next Name) → next_of c x ≡ next → y.module_number ≡ x.module_number → answered own_name c x at a ≡ Some y → CallMoves (source modules) x y a
      by c next is same e = next-moves c next is (ap (settle_next own_name c x at a) (sym is) ∙ e)
        where
          next-moves : (c : Module) (next : Next Name) → next_of c x ≡ next → settle_next own_name c x at a next ≡ Some y → CallMoves (source modules) x y a
          next-moves c (an_item item work) is e = item-moves c item work e
          next-moves c (a_reply k n) is e = reply-moves c k n e
          next-moves c (a_statement n) is e = statement-moves c n (stands c x n is).closed e
          next-moves c nothing is e = none-not_some e

  -- a process begins with no call open
  pub begin-closed : (code number : ℕ) (port : Cell Name) (x : State Name) → (source modules).begin code number port ≡ Some x → (source modules).open_call x ≡ None
  begin-closed code number port x e =
      let m = map-some (λ c. begin c code number port) (slice_get modules.codes code) x e in
      closed x (ap (λ (x : State Name). x.frame.call) (sym m.2) ∙ arrive-call m.0 (m.0).entry (opening_frame m.0 number port))
