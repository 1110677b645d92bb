-- Changing the names of cells commutes with what a process wants, its local step and what an answer leaves.
use Rattle.std.proofs.Common.{◌≡◌, ℕ, List, [], ◌∷◌, map, Bool, true, false, cond, Option, Some, None, option_map, refl, sym, ap, ◌∙◌, length}
use Rattle.std.specs.Prelude.{pred, option_and_then}
use Rattle.herm_model.specs.Nodes.{Node}
use Rattle.herm_model.specs.Targets.{Target}
use Rattle.herm_model.specs.Values.{Cell, part}
use Rattle.herm_model.specs.CellNames.{rename}
use Rattle.herm_model.proofs.Renaming.{gaps-rename}
use Rattle.herm_forms.specs.Frames.{Name, Frame, Completion, goes, stays, stuck, counted_step, counted_action}
use Rattle.herm_forms.specs.ClosesAndAnswers
use Rattle.herm_journal.specs.Messages.{CellWant, CellAction}
use Rattle.herm_forms.specs.EdgeFinalising.{arrive}
use Rattle.herm_forms.specs.Modules.{Module}
use Rattle.herm_source.specs.States.{State, begin, Next, an_item, a_reply, a_statement, nothing, node_at, call_or_statement, item_or, next_of, state_after, wanted_next, wanted, step_next, local_step, settle_next, answered}
use Rattle.herm_forms.specs.Acts.{is_action, act, wants, settle, settle_reply, leads_to}
use Rattle.herm_forms.specs.Renaming.{rename_body}
use Rattle.herm_source.specs.Renaming.{rename_state}
use Rattle.herm_journal.specs.Renaming.{rename_action, rename_want}
use Rattle.herm_forms.proofs.renamed.RenamedBodies.{rename_result}
use Rattle.herm_forms.proofs.renamed.RenamedForms.{arrive-renamed}
use Rattle.herm_forms.proofs.renamed.RenamedActions.{work_wants-renamed, work_done-renamed}
use Rattle.herm_forms.proofs.renamed.RenamedActs.{again, act-renamed, wants-renamed, settle-renamed, settle_reply-renamed}
use Rattle.herm_source.proofs.OpeningFrame.{opening_frame}

module _ {N M : Type 0} (f : N → M) (name : Name → N) where
  -- states
  arrived-renamed : (c : Module) (s : State N) (b : Frame N) (o : Option Target)
      → option_map (λ t. record { module_number = s.module_number; point = t; frame = arrive c t (rename_body f b) }) o ≡ option_map (rename_state f) (option_map (λ t. record { module_number = s.module_number; point = t; frame = arrive c t b }) o)
  arrived-renamed c s b None = refl
  arrived-renamed c s b (Some t) = ap (λ (b : Frame M). Some (record { module_number = s.module_number; point = t; frame = b })) (arrive-renamed f c t b)

  behind-renamed : (c : Module) (s : State N) (n : Option Node) (r : Completion N) → state_after c (rename_state f s) n (rename_result f r) ≡ option_map (rename_state f) (state_after c s n r)
  behind-renamed c s n (goes o b) = arrived-renamed c s b (option_and_then (λ n. leads_to c n o) n)
  behind-renamed c s n (stays b) = refl
  behind-renamed c s n stuck = refl

  abbrev pub rename_next : Next N → Next M
  rename_next (an_item item work) = an_item (rename f item) (map (rename f) work)
  rename_next (a_reply call n) = a_reply call n
  rename_next (a_statement n) = a_statement n
  rename_next nothing = nothing

  call_or_statement-renamed : (call : Option ℕ) (n : Option Node) → call_or_statement call n ≡ rename_next (call_or_statement call n)
  call_or_statement-renamed call None = refl
  call_or_statement-renamed None (Some n) = refl
  call_or_statement-renamed (Some k) (Some n) = refl

  item_or-renamed : (list : List (Cell N)) (call : Option ℕ) (n : Option Node) → item_or (map (rename f) list) (call_or_statement call n) ≡ rename_next (item_or list (call_or_statement call n))
  item_or-renamed [] call n = call_or_statement-renamed call n
  item_or-renamed (item ∷ list) call n = refl

  pub next_of-renamed : (c : Module) (s : State N) → next_of c (rename_state f s) ≡ rename_next (next_of c s)
  next_of-renamed c s = item_or-renamed s.frame.work s.frame.call (node_at c s.point)

  wanted_if : (b : Bool) (o : Option (CellWant N)) (o' : Option (CellWant M)) → o' ≡ option_map (rename_want f) o → cond b o' None ≡ option_map (rename_want f) (cond b o None)
  wanted_if true o o' e = e
  wanted_if false o o' e = refl

  wanted_next-renamed : (c : Module) (b : Frame N) (next : Next N) → wanted_next (again f name) c (rename_body f b) (rename_next next) ≡ option_map (rename_want f) (wanted_next name c b next)
  wanted_next-renamed c b (an_item item work) = work_wants-renamed f item
  wanted_next-renamed c b (a_reply call n) = refl
  wanted_next-renamed c b (a_statement n) = wanted_if (is_action c n.form) (wants name c n.form b) (wants (again f name) c n.form (rename_body f b)) (wants-renamed f name c n.form b)
  wanted_next-renamed c b nothing = refl

  pub wanted-renamed : (c : Module) (s : State N) → wanted (again f name) c (rename_state f s) ≡ option_map (rename_want f) (wanted name c s)
  wanted-renamed c s = ap (wanted_next (again f name) c (rename_body f s.frame)) (next_of-renamed c s) ∙ wanted_next-renamed c s.frame (next_of c s)

  stepped_if : (b : Bool) (o : Option (State N)) (o' : Option (State M)) → o' ≡ option_map (rename_state f) o → cond b None o' ≡ option_map (rename_state f) (cond b None o)
  stepped_if true o o' e = refl
  stepped_if false o o' e = e

  step_next-renamed : (c : Module) (s : State N) (next : Next N) → step_next (again f name) c (rename_state f s) (rename_next next) ≡ option_map (rename_state f) (step_next name c s next)
  step_next-renamed c s (a_statement n) =
      stepped_if (is_action c n.form) (state_after c s (Some n) (act name c n.number n.form (counted_step s.frame))) (state_after c (rename_state f s) (Some n) (act (again f name) c n.number n.form (counted_step (rename_body f s.frame))))
      (ap (state_after c (rename_state f s) (Some n)) (act-renamed f name c n.number n.form (counted_step s.frame)) ∙ behind-renamed c s (Some n) (act name c n.number n.form (counted_step s.frame)))
  step_next-renamed c s (an_item item work) = refl
  step_next-renamed c s (a_reply call n) = refl
  step_next-renamed c s nothing = refl

  pub local_step-renamed : (c : Module) (s : State N) → local_step (again f name) c (rename_state f s) ≡ option_map (rename_state f) (local_step name c s)
  local_step-renamed c s = ap (step_next (again f name) c (rename_state f s)) (next_of-renamed c s) ∙ step_next-renamed c s (next_of c s)

  settle_next-renamed : (c : Module) (s : State N) (at : ℕ) (action : CellAction N) (next : Next N)
      → settle_next (again f name) c (rename_state f s) at (rename_action f action) (rename_next next) ≡ option_map (rename_state f) (settle_next name c s at action next)
  settle_next-renamed c s at action (an_item item work) =
      let b : Frame N = counted_action (record (s.frame) { work = work }) in
      ap (state_after c (rename_state f s) None) (work_done-renamed f item action b) ∙ behind-renamed c s None (ClosesAndAnswers.work_done item action b)
  settle_next-renamed c s at action (a_reply call n) =
      ap (state_after c (rename_state f s) (Some n)) (settle_reply-renamed f name c n.form call action (counted_action s.frame)) ∙ behind-renamed c s (Some n) (settle_reply c n.form call action (counted_action s.frame))
  settle_next-renamed c s at action (a_statement n) =
      let b = counted_action (counted_step s.frame) in
      ap (state_after c (rename_state f s) (Some n)) (settle-renamed f name c n.form at action b) ∙ behind-renamed c s (Some n) (settle name c n.form at action b)
  settle_next-renamed c s at action nothing = refl

  pub answered-renamed : (c : Module) (s : State N) (at : ℕ) (action : CellAction N) → answered (again f name) c (rename_state f s) at (rename_action f action) ≡ option_map (rename_state f) (answered name c s at action)
  answered-renamed c s at action = ap (settle_next (again f name) c (rename_state f s) at (rename_action f action)) (next_of-renamed c s) ∙ settle_next-renamed c s at action (next_of c s)

  pub begin-renamed : (c : Module) (code number : ℕ) (port : Cell N) → begin c code number (rename f port) ≡ rename_state f (begin c code number port)
  begin-renamed c code number port =
      let first : Frame N = opening_frame c number port in
      ap (λ ps. record { module_number = code; point = c.entry; frame = arrive c c.entry (record (rename_body f first) { variables = part (rename f port) ps }) }) (sym (gaps-rename f (pred (length c.variables))))
      ∙ ap (λ (b : Frame M). record { module_number = code; point = c.entry; frame = b }) (arrive-renamed f c c.entry first)
