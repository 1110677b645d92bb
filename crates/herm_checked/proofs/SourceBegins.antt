-- A checked program begins soundly, goes on, and keeps its limits.
use Rattle.std.proofs.Common.{◌≡◌, ◌<◌, ◌≤◌, ℕ, suc, [], ◌∷◌, Bool, true, false, cond, Option, Some, None, option_and_then, slice_get, refl, sym, ap, subst, ◌∙◌, arith}
use Rattle.std.specs.Prelude.{nat_lt, IsTrue}
use Rattle.std.proofs.lemmas.Bool.Decides.{nat_tests}
use Rattle.herm_system.specs.Kinds.{typed_of}
use Rattle.herm_journal.specs.Entries.{Text}
use Rattle.herm_model.specs.Types.{TypeTable}
use Rattle.herm_model.specs.Nodes.{Node}
use Rattle.herm_model.specs.Targets.{Target}
use Rattle.herm_model.specs.TypedPrograms.{main_start}
use Rattle.herm_model.specs.Values.{Name}
use Rattle.herm_model.proofs.Lists.{not_true}
use Rattle.herm_model.proofs.Options.{none-not_some, map-some}
use Rattle.herm_journal.specs.Messages.{CellAction, is_inport, message_of_port, IsMessage}
use Rattle.herm_forms.specs.Acts.{is_action, act, settle, settle_reply}
use Rattle.herm_forms.specs.EdgeFinalising.{arrive}
use Rattle.herm_forms.specs.ClosesAndAnswers
use Rattle.herm_forms.specs.Frames.{Frame, Completion, counted_step, counted_action}
use Rattle.herm_forms.specs.Modules.{Module}
use Rattle.herm_forms.proofs.KeptBodies.{IsKept, All, all-act, all-work, all-settle, all-settle_reply, is-arrive}
use Rattle.herm_system.specs.Machines.{Standing, local, to_act, is_local, is_acting, greatest_actions, out_of_steps}
use Rattle.herm_system.specs.Systems.{main_port, first_message}
use Rattle.herm_system.specs.Sound.{console_type}
use Rattle.herm_source.specs.Checked.{IsChecked}
use Rattle.herm_source.specs.Instance.{source, code_at, ready_if}
use Rattle.herm_source.specs.Modules.{Program, Modules}
use Rattle.herm_source.specs.States.{State, own_name, begin, Next, an_item, a_reply, a_statement, nothing, next_of, state_after, step_next, settle_next}
use Rattle.herm_source.specs.StepLimit.{ready_for, ready_in}
use Rattle.herm_source.specs.laws.SoundProcesses.{IsSoundProcess}
use Rattle.herm_source.proofs.OpeningFrame.{opening_frame}
use Rattle.herm_source.proofs.instance.SourceLaws.{local-code, answer-code}
use Rattle.herm_source.proofs.placed.KeptStanding.{first-variables}
use Rattle.herm_source.proofs.sound.GoingOn.{checked-processes-go-on}
use Rattle.herm_source.proofs.sound.SoundProcesses.{steps-there}
use Rattle.herm_sound.specs.Standing.{AllStand}
use Rattle.herm_sound.specs.SoundMachines.{BeginsSound, GoesOn, KeepsLimits}
use Rattle.herm_checked.proofs.Behind.{behind}
use Rattle.herm_sound.proofs.FirstMessages.{types, first-message, first-stands}
use Rattle.herm_checked.proofs.SourceKeeps.{first, begins-there, source-keeps-sound}

module _ (exceptions : ℕ) (program : Program) (modules : Modules) (checked : IsChecked exceptions program modules) where
  -- the table begins with the predefined types
  defined : (more : TypeTable) × (modules.types ≡ types more)
  defined = let h = (checked.typed).types.predefined_types in (h.0, (checked.accepted).types ∙ h.1)

  main-type : first exceptions program modules checked modules.main ≡ Some main_start
  main-type =
      ap (λ n. option_and_then (λ (c : Module). slice_get c.variables 0) (slice_get modules.codes n)) (checked.accepted).main
      ∙ first-variables program program.processes modules.codes program.main (checked.accepted).codes
      ∙ (checked.typed).begins

  pub source-begins-sound : BeginsSound (source modules) (source-keeps-sound exceptions program modules checked).first_type
  unfolding source-keeps-sound
  source-begins-sound =
      let d = defined in
      record {
        main = begins-there exceptions program modules checked modules.main main_start main-type 1 main_port;
        port_type = main_start;
        types = main-type;
        inport = subst (λ ts. IsTrue (is_inport (slice_get ts main_start))) (sym d.1) refl;
        console = subst (λ ts. IsTrue (is_inport (slice_get ts console_type))) (sym d.1) refl;
        message = λ argument texts. subst (λ ts. IsMessage ts main_start (first_message argument)) (sym d.1) (first-message d.0 argument texts);
        stands = λ argument u is. stands d.0 d.1 argument u is;
      }
    where
      stands : (more : TypeTable) → modules.types ≡ types more → (argument : Text) (u : ℕ) → message_of_port modules.types main_start ≡ Some u
          → AllStand modules.types (console_type ∷ main_start ∷ []) (λ caller call. None) (typed_of modules.types u (first_message argument))
      stands more same argument u is =
          subst (λ ts. AllStand ts (console_type ∷ main_start ∷ []) (λ caller call. None) (typed_of ts u (first_message argument))) (sym same)
          (first-stands more argument u (ap (λ ts. message_of_port ts main_start) (sym same) ∙ is))

  pub source-goes-on : GoesOn (source modules) (IsSoundProcess program modules)
  source-goes-on =
      let on = checked-processes-go-on exceptions program modules checked in
      record {
        local_steps = λ limit x is next. steps-there exceptions program modules checked limit x is next;
        wants = λ limit x is next. on.wants limit x is next;
        answers = λ x w at a is wanted h suits. on.answers x w at a is wanted h suits;
      }

-- the counts of a body
abbrev HasCounts : ℕ → ℕ → Frame Name → Type 0
HasCounts steps actions b = (b.steps ≡ steps) × (b.actions ≡ actions)

counts-kept : (steps actions : ℕ) → IsKept (HasCounts steps actions)
counts-kept steps actions = record {
  letting = record { value = λ c b h. h; parts = λ ps b h. h; name = λ n b h. h };
  variables = λ ps b h. h;
  serial = λ s b h. h;
  calls = λ b h. h;
}

counts-arrive : (steps actions : ℕ) (c : Module) (t : Target) (b : Frame Name) → HasCounts steps actions b → HasCounts steps actions (arrive c t b)
counts-arrive steps actions c t b h = is-arrive own_name (HasCounts steps actions) (HasCounts steps actions) (counts-kept steps actions) (λ stay b h. h) c t b h

counted-behind : (steps actions : ℕ) (c : Module) (s t : State Name) (at : Option Node) (r : Completion Name) → All (HasCounts steps actions) (HasCounts steps actions) r → state_after c s at r ≡ Some t → HasCounts steps actions t.frame
counted-behind steps actions c = behind (HasCounts steps actions) (counts-kept steps actions) (λ stay b h. h) c

below : (m n : ℕ) → IsTrue (nat_lt m n) → m < n
below m n h = grind (arith, nat_tests)

act-below : (n : ℕ) → IsTrue (is_acting (to_act (nat_lt n greatest_actions))) → n < greatest_actions
act-below n h = below n greatest_actions (by (nat_lt n greatest_actions) h)
  where
    by : (b : Bool) → IsTrue (is_acting (to_act b)) → IsTrue b
    by true h = refl
    by false h = not_true h

not-local : (b : Bool) → IsTrue (is_local (to_act b)) → ⊥
not-local true h = not_true h
not-local false h = not_true h

module _ (modules : Modules) where
  -- the module of a process that stands so
  ready-code : (test : Standing → Bool) (limit : ℕ) (x : State Name) (c : Module) → code_at modules x ≡ Some c → IsTrue (test ((source modules).ready limit x)) → IsTrue (test (ready_in c limit x))
  ready-code test limit x c is h = subst (λ o. IsTrue (test (ready_if limit x o))) is h

  local-limits : (limit : ℕ) (x y : State Name) → IsTrue (is_local ((source modules).ready limit x)) → (source modules).local_step x ≡ Some y
      → (y.frame.steps ≡ suc x.frame.steps) × (y.frame.actions ≡ x.frame.actions) × (x.frame.steps < limit)
  local-limits limit x y ready e = let c = local-code modules x y e in by c.0 (next_of c.0 x) (ready-code is_local limit x c.0 c.1 ready) c.2
    where
      steps-below : (c : Module) (n : Node) (b : Bool) → nat_lt x.frame.steps limit ≡ b → IsTrue (is_local (cond b (cond (is_action c n.form) (to_act (nat_lt x.frame.actions greatest_actions)) local) out_of_steps)) → x.frame.steps < limit
      steps-below c n true is h = below x.frame.steps limit is
      steps-below c n false is h = not_true h

      counts : (c : Module) (n : Node) (b : Bool) → cond b None (state_after c x (Some n) (act own_name c n.number n.form (counted_step x.frame))) ≡ Some y → HasCounts (suc x.frame.steps) x.frame.actions y.frame
      counts c n true is = none-not_some is
      counts c n false is =
          counted-behind (suc x.frame.steps) x.frame.actions c x y (Some n) (act own_name c n.number n.form (counted_step x.frame))
          (all-act own_name (HasCounts (suc x.frame.steps) x.frame.actions) (HasCounts (suc x.frame.steps) x.frame.actions) (counts-kept (suc x.frame.steps) x.frame.actions) c n.number n.form (counted_step x.frame) (refl, refl) (λ visit ls b h. h)) is

      by : (c : Module) (next : Next Name) → IsTrue (is_local (ready_for c limit x.frame next)) → step_next own_name c x next ≡ Some y → (y.frame.steps ≡ suc x.frame.steps) × (y.frame.actions ≡ x.frame.actions) × (x.frame.steps < limit)
      by c (a_statement n) ready is = let k = counts c n (is_action c n.form) is in (k.0, k.1, steps-below c n (nat_lt x.frame.steps limit) refl ready)
      by c (an_item item work) ready is = none-not_some is
      by c (a_reply k n) ready is = none-not_some is
      by c nothing ready is = none-not_some is

  abbrev Counted : ℕ → State Name → State Name → Type 0
  Counted limit x y = (y.frame.actions ≡ suc x.frame.actions) × (x.frame.actions < greatest_actions) × (x.frame.steps ≤ y.frame.steps) × (x.frame.steps ≤ limit → y.frame.steps ≤ limit)

  answer-limits : (limit : ℕ) (x y : State Name) (at : ℕ) (a : CellAction Name) → IsTrue (is_acting ((source modules).ready limit x)) → (source modules).answered x at a ≡ Some y → Counted limit x y
  answer-limits limit x y at a ready e = let c = answer-code modules x y at a e in by c.0 (next_of c.0 x) (ready-code is_acting limit x c.0 c.1 ready) c.2
    where
      same-steps : HasCounts x.frame.steps (suc x.frame.actions) y.frame → x.frame.actions < greatest_actions → Counted limit x y
      same-steps k less = (k.1, less, omega (arith, k.0), λ le. omega (arith, k.0, le))

      more-steps : HasCounts (suc x.frame.steps) (suc x.frame.actions) y.frame → x.frame.actions < greatest_actions → x.frame.steps < limit → Counted limit x y
      more-steps k less few = (k.1, less, omega (arith, k.0), λ le. omega (arith, k.0, few))

      stands : (c : Module) (n : Node) (b t : Bool) → nat_lt x.frame.steps limit ≡ b → IsTrue (is_acting (cond b (cond t (to_act (nat_lt x.frame.actions greatest_actions)) local) out_of_steps))
          → (x.frame.steps < limit) × (x.frame.actions < greatest_actions)
      stands c n true true is h = (below x.frame.steps limit is, act-below x.frame.actions h)
      stands c n true false is h = not_true h
      stands c n false t is h = not_true h

      by : (c : Module) (next : Next Name) → IsTrue (is_acting (ready_for c limit x.frame next)) → settle_next own_name c x at a next ≡ Some y → Counted limit x y
      by c (an_item item work) ready is =
          let b = counted_action (record (x.frame) { work = work }) in
          same-steps (counted-behind x.frame.steps (suc x.frame.actions) c x y None (ClosesAndAnswers.work_done item a b)
          (all-work (HasCounts x.frame.steps (suc x.frame.actions)) ((counts-kept x.frame.steps (suc x.frame.actions)).letting) item a b (refl, refl)) is) (act-below x.frame.actions ready)
      by c (a_reply k n) ready is =
          same-steps (counted-behind x.frame.steps (suc x.frame.actions) c x y (Some n) (settle_reply c n.form k a (counted_action x.frame))
          (all-settle_reply own_name (HasCounts x.frame.steps (suc x.frame.actions)) (HasCounts x.frame.steps (suc x.frame.actions)) (counts-kept x.frame.steps (suc x.frame.actions)) c n.form k a (counted_action x.frame) (refl, refl)) is)
          (act-below x.frame.actions ready)
      by c (a_statement n) ready is =
          let few = stands c n (nat_lt x.frame.steps limit) (is_action c n.form) refl ready in
          more-steps (counted-behind (suc x.frame.steps) (suc x.frame.actions) c x y (Some n) (settle own_name c n.form at a (counted_action (counted_step x.frame)))
          (all-settle own_name (HasCounts (suc x.frame.steps) (suc x.frame.actions)) (HasCounts (suc x.frame.steps) (suc x.frame.actions)) (counts-kept (suc x.frame.steps) (suc x.frame.actions)) c n.form at a (counted_action (counted_step x.frame)) (refl, refl) (λ h k b e. e)) is)
          few.1 few.0
      by c nothing ready is = none-not_some is

  pub source-keeps-limits : KeepsLimits (source modules)
  source-keeps-limits = record {
    begins = λ code number port x e.
        let m = map-some (λ c. begin c code number port) (slice_get modules.codes code) x e in
        subst (λ (x : State Name). HasCounts 0 0 x.frame) m.2 (counts-arrive 0 0 m.0 (m.0).entry (opening_frame m.0 number port) (refl, refl));
    local_steps = local-limits;
    answers = answer-limits;
  }
