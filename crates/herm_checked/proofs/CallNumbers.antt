-- The source machine's processes number their calls upwards.
use Rattle.std.proofs.Common.{◌≡◌, ◌⊎◌, inl, inr, ◌≤◌, ◌<◌, ℕ, suc, List, Bool, true, false, cond, Option, Some, None, option_map, refl, sym, ap, ◌∙◌, arith}
use Rattle.herm_model.specs.Expressions.{Atom}
use Rattle.herm_model.specs.Paths.{Path}
use Rattle.herm_model.specs.Statements.{Form, Call}
use Rattle.herm_model.specs.Nodes.{Node}
use Rattle.herm_model.specs.Values.{Name, Cell}
use Rattle.herm_model.proofs.Options.{none-not_some, some-injective, chain-some, map-some}
use Rattle.herm_journal.specs.Actions.{put}
use Rattle.herm_journal.specs.Messages.{CellAction}
use Rattle.herm_forms.specs.Acts.{is_action, act, settle, settle_reply, composed}
use Rattle.herm_forms.specs.Callmessages.{Composed}
use Rattle.herm_forms.specs.ClosesAndAnswers
use Rattle.herm_forms.specs.Frames.{Frame, stays, if_there, counted_step, counted_action}
use Rattle.herm_forms.specs.Modules.{Module}
use Rattle.herm_forms.specs.OpenCalls.{Calling, call_type}
use Rattle.herm_forms.proofs.KeptBodies.{IsKept, all-act, all-work, all-settle, all-settle_reply, from-composed}
use Rattle.herm_system.specs.Machines.{OpenCall}
use Rattle.herm_source.specs.Instance.{source, code_at}
use Rattle.herm_source.specs.Local.{calling}
use Rattle.herm_source.specs.Modules.{Modules}
use Rattle.herm_source.specs.SeenBySystem.{open_call}
use Rattle.herm_source.specs.States.{State, own_name, Next, an_item, a_reply, a_statement, nothing, next_of, state_after, step_next, settle_next}
use Rattle.herm_source.proofs.counted.CountedSteps.{stands}
use Rattle.herm_source.proofs.instance.SourceLaws.{local-code, answer-code}
use Rattle.herm_sound.specs.SoundMachines.{NumbersCalls}
use Rattle.herm_checked.proofs.Behind.{behind}
use Rattle.herm_checked.proofs.CallMoves.{HasCall, call-kept, closed, hears, state-behind}

-- a body has made so many calls at least
abbrev AtLeast : ℕ → Frame Name → Type 0
AtLeast n b = n ≤ b.calls

least-kept : (n : ℕ) → IsKept (AtLeast n)
least-kept n = record {
  letting = record { value = λ c b h. h; parts = λ ps b h. h; name = λ m b h. h };
  variables = λ ps b h. h;
  serial = λ s b h. h;
  calls = λ b h. omega (arith, h);
}

module _ (modules : Modules) where
  local-calls : (x y : State Name) → (source modules).local_step x ≡ Some y → x.frame.calls ≤ y.frame.calls
  local-calls x y e = let c = local-code modules x y e in by c.0 (next_of c.0 x) c.2
    where
      step : (c : Module) (n : Node) (b : Bool) → cond b None (state_after c x (Some n) (act own_name c n.number n.form (counted_step x.frame))) ≡ Some y → x.frame.calls ≤ y.frame.calls
      step c n true is = none-not_some is
      step c n false is =
          behind (AtLeast x.frame.calls) (least-kept x.frame.calls) (λ stay b h. h) c x y (Some n) (act own_name c n.number n.form (counted_step x.frame))
          (all-act own_name (AtLeast x.frame.calls) (AtLeast x.frame.calls) (least-kept x.frame.calls) c n.number n.form (counted_step x.frame) (omega arith) (λ visit ls b h. h)) is

      by : (c : Module) (next : Next Name) → step_next own_name c x next ≡ Some y → x.frame.calls ≤ y.frame.calls
      by c (a_statement n) is = step c n (is_action c n.form) is
      by c (an_item item work) is = none-not_some is
      by c (a_reply k n) is = none-not_some is
      by c nothing is = none-not_some is

  answer-calls : (x y : State Name) (at : ℕ) (a : CellAction Name) → (source modules).answered x at a ≡ Some y → x.frame.calls ≤ y.frame.calls
  answer-calls x y at a e = let c = answer-code modules x y at a e in by c.0 (next_of c.0 x) c.2
    where
      by : (c : Module) (next : Next Name) → settle_next own_name c x at a next ≡ Some y → x.frame.calls ≤ y.frame.calls
      by c (an_item item work) is =
          let b = counted_action (record (x.frame) { work = work }) in
          behind (AtLeast x.frame.calls) (least-kept x.frame.calls) (λ stay b h. h) c x y None (ClosesAndAnswers.work_done item a b) (all-work (AtLeast x.frame.calls) ((least-kept x.frame.calls).letting) item a b (omega arith)) is
      by c (a_reply k n) is =
          behind (AtLeast x.frame.calls) (least-kept x.frame.calls) (λ stay b h. h) c x y (Some n) (settle_reply c n.form k a (counted_action x.frame)) (all-settle_reply own_name (AtLeast x.frame.calls) (AtLeast x.frame.calls) (least-kept x.frame.calls) c n.form k a (counted_action x.frame) (omega arith)) is
      by c (a_statement n) is =
          behind (AtLeast x.frame.calls) (least-kept x.frame.calls) (λ stay b h. h) c x y (Some n) (settle own_name c n.form at a (counted_action (counted_step x.frame)))
          (all-settle own_name (AtLeast x.frame.calls) (AtLeast x.frame.calls) (least-kept x.frame.calls) c n.form at a (counted_action (counted_step x.frame)) (omega arith) (λ h k b e. e)) is
      by c nothing is = none-not_some is

  -- the number of an open call is the body's
  number-of : (y : State Name) (k : ℕ) (call : OpenCall) → y.frame.call ≡ Some k → (source modules).open_call y ≡ Some call → call.number ≡ k
  number-of y k call open' e =
      let c = chain-some (λ c. open_call c y) (code_at modules y) call e in
      let n = chain-some (λ k. option_map (λ (calls : Calling). record { number = k; call_type = call_type c.0 calls }) (calling c.0 y)) y.frame.call call c.2 in
      let d = map-some (λ (calls : Calling). record { number = n.0; call_type = call_type c.0 calls }) (calling c.0 y) call n.2 in
      ap (λ (call : OpenCall). call.number) (sym d.2) ∙ some-injective (sym n.1 ∙ open')

  module _ (x y : State Name) (at i : ℕ) (m : Cell Name) (call : OpenCall) (opened : (source modules).open_call y ≡ Some call) where
    abbrev Above : Type 0
    Above = (x.frame.calls ≤ call.number) × (call.number < y.frame.calls)

    not-closed : y.frame.call ≡ None → Above
    not-closed e = none-not_some (sym (closed modules y e) ∙ opened)

    -- a callmessage that was placed
    composed-above : (c : Module) (n : Node) (o : Path) (arguments : List Atom) (k : Option (Composed Name)) → composed own_name c o arguments (counted_action (counted_step x.frame)) ≡ k
        → state_after c x (Some n) (if_there (λ (k : Composed Name). stays (record (k.frame) { call = Some k.call })) k) ≡ Some y → Above
    composed-above c n o arguments None made is = none-not_some is
    composed-above c n o arguments (Some k) made is =
        let from = from-composed own_name (AtLeast x.frame.calls) (AtLeast x.frame.calls) (least-kept x.frame.calls) c o arguments (counted_action (counted_step x.frame)) k (omega arith) made in
        let same : record x { frame = record (k.frame) { call = Some k.call } } ≡ y = some-injective is in
        let number = number-of y k.call call (ap (λ (t : State Name). t.frame.call) (sym same)) opened in
        let calls : y.frame.calls ≡ suc from.taken.calls = ap (λ (t : State Name). t.frame.calls) (sym same) ∙ ap (λ (b : Frame Name). b.calls) from.frame in
        (omega (arith, from.is, from.call, number), omega (arith, from.call, number, calls))

    form-above : (c : Module) (n : Node) (form : Form) → x.frame.call ≡ None → state_after c x (Some n) (settle own_name c form at (put (Some i) m) (counted_action (counted_step x.frame))) ≡ Some y → Above
    form-above c n (Call o arguments) idle is = composed-above c n o arguments (composed own_name c o arguments (counted_action (counted_step x.frame))) refl is
    form-above c n form idle is =
        by (state-behind modules None (λ b. ⊥) c x y (Some n) (settle own_name c form at (put (Some i) m) (counted_action (counted_step x.frame)))
        (all-settle own_name (HasCall None) (λ b. ⊥) (call-kept None) c form at (put (Some i) m) (counted_action (counted_step x.frame)) idle (λ h. absurd h)) is)
      where
        by : (y.frame.call ≡ None) ⊎ ((b : Frame Name) × ⊥ × (y ≡ record x { frame = b })) → Above
        by (inl e) = not-closed e
        by (inr h) = absurd h.1

    next-above : (c : Module) (next : Next Name) → next_of c x ≡ next → settle_next own_name c x at (put (Some i) m) next ≡ Some y → Above
    next-above c (an_item item work) at' is = none-not_some is
    next-above c (a_reply k n) at' is =
        let h = hears modules c x y n n.form k (put (Some i) m) (counted_action x.frame) is in none-not_some (ap put_of (sym h.2))
      where
        put_of : CellAction Name → Option ℕ
        put_of (put k m) = Some 0
        put_of a = None
    next-above c (a_statement n) at' is = form-above c n n.form (stands c x n at').closed is
    next-above c nothing at' is = none-not_some is

  pub source-numbers-calls : NumbersCalls (source modules)
  source-numbers-calls = record {
    calls = λ x. x.frame.calls;
    local_steps = local-calls;
    answers = answer-calls;
    opens = λ x y at i m call e opened. let c = answer-code modules x y at (put (Some i) m) e in next-above x y at i m call opened c.0 (next_of c.0 x) refl c.2;
  }
