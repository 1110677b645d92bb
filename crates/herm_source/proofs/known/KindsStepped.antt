-- What a process wants, its local step and what an answer leaves are of the kinds that its cells are of.
use Rattle.std.proofs.Common.{◌≡◌, ℕ, List, [], ◌∷◌, Bool, true, false, cond, Option, Some, None, option_map, option_and_then, subst}
use Rattle.std.specs.Prelude.{pred, length}
use Rattle.herm_model.specs.Nodes.{Node}
use Rattle.herm_model.specs.Targets.{Target}
use Rattle.herm_model.specs.Values.{Kind, a_callmessage, Cell}
use Rattle.herm_model.proofs.Options.{none-not_some, some-injective, map-some}
use Rattle.herm_forms.specs.Frames.{Name, Frame, Completion, goes, stays, stuck, counted_step, counted_action}
use Rattle.herm_forms.specs.ClosesAndAnswers
use Rattle.herm_journal.specs.Messages.{CellWant, CellAction}
use Rattle.herm_forms.specs.EdgeFinalising.{arrive}
use Rattle.herm_forms.specs.Modules.{Module}
use Rattle.herm_source.specs.States.{State, Next, an_item, a_reply, a_statement, nothing, next_of, node_at, call_or_statement, item_or, wanted, wanted_next, state_after, step_next, settle_next, begin, local_step, answered}
use Rattle.herm_forms.specs.Acts.{is_action, act, wants, settle, settle_reply, leads_to}
use Rattle.herm_journal.specs.Kinds.{HasKinds, AllKinds, IfWant, ActionKinds}
use Rattle.herm_forms.proofs.known.HeldKinds.{gaps-kinds}
use Rattle.herm_forms.proofs.known.KindsKept.{AllowsPlain, BodyKinds, All, went, stayed, never, all-act, is-arrive}
use Rattle.herm_forms.proofs.known.KindsExchanged.{all-work, all-settle, all-settle_reply, work-wants, wants-kinds}
use Rattle.herm_source.proofs.OpeningFrame.{opening_frame}

module _ {N : Type 0} (name : Name → N) (of : Kind → Type 0) (allows : AllowsPlain of) where
  -- what comes next
  abbrev NextKinds : Next N → Type 0
  NextKinds (an_item item work) = HasKinds of item × AllKinds of work
  NextKinds (a_reply call n) = Unit {0}
  NextKinds (a_statement n) = Unit {0}
  NextKinds nothing = Unit {0}

  statement-next : (call : Option ℕ) (n : Option Node) → NextKinds (call_or_statement call n)
  statement-next call None = tt
  statement-next None (Some n) = tt
  statement-next (Some k) (Some n) = tt

  item-next : (work : List (Cell N)) (next : Next N) → AllKinds of work → NextKinds next → NextKinds (item_or work next)
  item-next [] next h k = k
  item-next (item ∷ work) next h k = h

  next-kinds : (c : Module) (s : State N) → BodyKinds of s.frame → NextKinds (next_of c s)
  next-kinds c s e = item-next s.frame.work (call_or_statement s.frame.call (node_at c s.point)) e.2 (statement-next s.frame.call (node_at c s.point))

  want-cond : (t : Bool) (o : Option (CellWant N)) → IfWant of o → IfWant of (cond t o None)
  want-cond true o h = h
  want-cond false o h = tt

  wanted-next : (c : Module) (b : Frame N) (next : Next N) → BodyKinds of b → NextKinds next → IfWant of (wanted_next name c b next)
  wanted-next c b (an_item item work) e h = work-wants name of allows item h.0
  wanted-next c b (a_reply call n) e h = tt
  wanted-next c b (a_statement n) e h = want-cond (is_action c n.form) (wants name c n.form b) (wants-kinds name of allows c n.form b e)
  wanted-next c b nothing e h = tt

  pub wanted-kinds : (c : Module) (s : State N) → BodyKinds of s.frame → IfWant of (wanted name c s)
  wanted-kinds c s e = wanted-next c s.frame (next_of c s) e (next-kinds c s e)

  -- the state behind a result
  behind-target : (c : Module) (s t : State N) (b : Frame N) (o : Option Target) → BodyKinds of b → option_map (λ t. record { module_number = s.module_number; point = t; frame = arrive c t b }) o ≡ Some t → BodyKinds of t.frame
  behind-target c s t b o e is =
      let m = map-some (λ t. record { module_number = s.module_number; point = t; frame = arrive c t b }) o t is in
      subst (λ (x : State N). BodyKinds of x.frame) m.2 (is-arrive name of allows c m.0 b e)

  is-behind : (c : Module) (s t : State N) (at : Option Node) (r : Completion N) → All name of allows r → state_after c s at r ≡ Some t → BodyKinds of t.frame
  is-behind c s t at (goes o b) (went o' b' e) is = behind-target c s t b (option_and_then (λ n. leads_to c n o) at) e is
  is-behind c s t at (stays b) (stayed b' e) is = subst (λ (x : State N). BodyKinds of x.frame) (some-injective is) e
  is-behind c s t at stuck never is = none-not_some is

  not-step : (c : Module) (s t : State N) (t' : Bool) (node : Node) → BodyKinds of s.frame → cond t' None (state_after c s (Some node) (act name c node.number node.form (counted_step s.frame))) ≡ Some t → BodyKinds of t.frame
  not-step c s t true node e is = none-not_some is
  not-step c s t false node e is = is-behind c s t (Some node) (act name c node.number node.form (counted_step s.frame)) (all-act name of allows c node.number node.form (counted_step s.frame) e) is

  is-step_next : (c : Module) (s t : State N) (next : Next N) → BodyKinds of s.frame → step_next name c s next ≡ Some t → BodyKinds of t.frame
  is-step_next c s t (a_statement node) e is = not-step c s t (is_action c node.form) node e is
  is-step_next c s t _ e is = none-not_some is

  is-settle_next : (c : Module) (s t : State N) (at : ℕ) (a : CellAction N) (next : Next N) → NextKinds next → ActionKinds of a → BodyKinds of s.frame → settle_next name c s at a next ≡ Some t → BodyKinds of t.frame
  is-settle_next c s t at a (an_item item work) n h e is =
      is-behind c s t None (ClosesAndAnswers.work_done item a (counted_action (record (s.frame) { work = work }))) (all-work name of allows item a (counted_action (record (s.frame) { work = work })) n.0 h (e.0, e.1, n.1, e.3)) is
  is-settle_next c s t at a (a_reply call node) n h e is = is-behind c s t (Some node) (settle_reply c node.form call a (counted_action s.frame)) (all-settle_reply name of allows c node.form call a (counted_action s.frame) h e) is
  is-settle_next c s t at a (a_statement node) n h e is = is-behind c s t (Some node) (settle name c node.form at a (counted_action (counted_step s.frame))) (all-settle name of allows c node.form at a (counted_action (counted_step s.frame)) h e) is
  is-settle_next c s t at a nothing n h e is = none-not_some is

  pub local-kinds : (c : Module) (s t : State N) → BodyKinds of s.frame → local_step name c s ≡ Some t → BodyKinds of t.frame
  local-kinds c s t e is = is-step_next c s t (next_of c s) e is

  pub answer-kinds_kept : (c : Module) (s t : State N) (at : ℕ) (a : CellAction N) → ActionKinds of a → BodyKinds of s.frame → answered name c s at a ≡ Some t → BodyKinds of t.frame
  answer-kinds_kept c s t at a h e is = is-settle_next c s t at a (next_of c s) (next-kinds c s e) h e is

  pub begin-kinds : (c : Module) (code number : ℕ) (port : Cell N) → HasKinds of port → ((call : ℕ) → of (a_callmessage number call)) → BodyKinds of (begin c code number port).frame
  begin-kinds c code number port h own =
      is-arrive name of allows c c.entry
      (opening_frame c number port)
      ((h, gaps-kinds of N (pred (length c.variables))), tt, tt, own)
