-- How a process of a checked program stands: as its work list, its call, its point and its limits say.
use Rattle.std.proofs.Common.{◌≡◌, ◌↔◌, inl, inr, ℕ, zero, suc, ◌<◌, arith, List, [], ◌∷◌, length, Bool, true, false, cond, Option, Some, None, refl, sym, ap, ◌∙◌, subst, slice_get}
use Rattle.std.specs.Prelude.{nat_lt}
use Rattle.herm_model.specs.Types.{TypeTable}
use Rattle.herm_model.specs.Statements.{Process}
use Rattle.herm_model.specs.Nodes.{Node, process_nodes}
use Rattle.herm_model.specs.Targets.{Target, node, end, end_by}
use Rattle.herm_model.specs.ControlPaths.{flow_of}
use Rattle.herm_model.specs.laws.FlowLaws.{IsThere, IsLedTo, begins, goes_on}
use Rattle.herm_model.specs.Labels.{Labels}
use Rattle.herm_model.specs.Values.{Cell}
use Rattle.herm_model.proofs.FactTests.{got-IsIn}
use Rattle.herm_model.proofs.NodePlaces.{process_count, flow_length, entry-there, edges-there}
use Rattle.herm_model.proofs.Options.{none-not_some, some-injective, chain-some}
use Rattle.herm_model.proofs.Reached.{reached-IsLedTo}
use Rattle.herm_forms.specs.Acts.{is_action}
use Rattle.herm_forms.specs.Frames.{Name}
use Rattle.herm_forms.specs.OpenCalls.{calling_form}
use Rattle.herm_forms.specs.Modules.{Module, module_of}
use Rattle.herm_system.specs.Machines.{Standing, ended, out_of_steps, out_of_actions, waiting, local, acting, to_act, greatest_actions}
use Rattle.herm_source.specs.States.{State, item_or, call_or_statement, nothing, node_at}
use Rattle.herm_source.specs.StepLimit.{ready_for, ready_in}
use Rattle.herm_source.specs.Modules.{Program, Modules}
use Rattle.herm_source.specs.Instance.{source, code_at, ready_if}
use Rattle.herm_source.specs.Checked.{IsChecked}
use Rattle.herm_source.specs.laws.SoundProcesses.{IsSoundProcess}
use Rattle.herm_source.specs.laws.Wants.{IsEnd, IsAtStatement, IsActionNext, StandsSo}
use Rattle.herm_source.proofs.sound.OneModule.{IsGoodModule, StandsWell}
use Rattle.herm_source.proofs.sound.SoundProcesses.{module-at, well-in}

-- control paths lead to nodes that are there
led-there : (types : TypeTable) (p : Process) (t : Target) → IsLedTo (flow_of types p) t → IsThere (length (flow_of types p).points) t
led-there types p _ begins = entry-there types p
led-there types p _ (goes_on i q e led at member) = edges-there types p q e (got-IsIn (flow_of types p).points i q at) member

got-there : {X : Type 0} (xs : List X) (i : ℕ) → i < length xs → slice_get xs i ≡ None → ⊥
got-there [] i h e = omega (arith, h)
got-there (x ∷ xs) zero h e = none-not_some (sym e)
got-there (x ∷ xs) (suc i) h e = got-there xs i (omega (arith, h)) e

module _ (exceptions : ℕ) (types : TypeTable) (processes : List Process) (p : Process) (labels : Labels) (good : IsGoodModule exceptions types processes p labels) (s : State Name) (stands : StandsWell exceptions types processes p labels good s) (limit : ℕ) where
  abbrev c : Module
  c = module_of types p labels

  -- a point without a node is an end
  end-there : node_at c s.point ≡ None → IsEnd s.point
  end-there none = by s.point refl none (led-there types p s.point (reached-IsLedTo (flow_of types p) s.point stands.1))
    where
      by : (t : Target) → s.point ≡ t → node_at c t ≡ None → IsThere (length (flow_of types p).points) t → IsEnd t
      by (node i) is e there =
          let counted : length (process_nodes p) ≡ length (flow_of types p).points = process_count p ∙ sym (flow_length types p) in
          got-there (process_nodes p) i (subst (λ n. i < n) (sym counted) there) e
      by end is e there = tt
      by (end_by x) is e there = tt

  end-none : (t : Target) → IsEnd t → node_at c t ≡ None
  end-none (node i) h = absurd h
  end-none end h = refl
  end-none (end_by e) h = refl

  -- an open call is at its node
  call-at : (k : ℕ) → s.frame.call ≡ Some k → (n : Node) × (node_at c s.point ≡ Some n)
  call-at k open' =
      let x = (stands.0).call k open' in
      let n = chain-some (λ (n : Node). calling_form n.form) (node_at c s.point) x.0 x.1 in (n.0, n.1)

  abbrev So : Standing → Type 0
  So = StandsSo c limit s

  acts-so : IsActionNext c limit s → So (to_act (nat_lt s.frame.actions greatest_actions))
  acts-so next = by (nat_lt s.frame.actions greatest_actions) refl
    where
      by : (b : Bool) → nat_lt s.frame.actions greatest_actions ≡ b → So (to_act b)
      by true e = (next, e)
      by false e = (next, e)

  so-by : (work : List (Cell Name)) (call : Option ℕ) (o : Option Node) → s.frame.work ≡ work → s.frame.call ≡ call → node_at c s.point ≡ o → So (ready_for c limit s.frame (item_or work (call_or_statement call o)))
  so-by (item ∷ work) call o front idle at = acts-so (inl (item, work, front))
  so-by [] call None front idle at = (front, end-there at)
  so-by [] (Some k) (Some n) front idle at = acts-so (inr (inl (k, front, idle)))
  so-by [] None (Some n) front idle at = by (nat_lt s.frame.steps limit) (is_action c n.form) refl refl
    where
      by : (within acts : Bool) → nat_lt s.frame.steps limit ≡ within → is_action c n.form ≡ acts → So (cond within (cond acts (to_act (nat_lt s.frame.actions greatest_actions)) local) out_of_steps)
      by false acts w e = (n, (front, idle, at), w)
      by true false w e = (n, (front, idle, at), e, w)
      by true true w e = acts-so (inr (inr (n, (front, idle, at), e, w)))

  pub stands-so : So (ready_in c limit s)
  stands-so = so-by s.frame.work s.frame.call (node_at c s.point) refl refl refl

  -- and back
  ready-by : (work : List (Cell Name)) (call : Option ℕ) (o : Option Node) → s.frame.work ≡ work → s.frame.call ≡ call → node_at c s.point ≡ o → ready_in c limit s ≡ ready_for c limit s.frame (item_or work (call_or_statement call o))
  ready-by work call o front idle at =
      ap (λ w. ready_for c limit s.frame (item_or w (call_or_statement s.frame.call (node_at c s.point)))) front
      ∙ ap (λ k. ready_for c limit s.frame (item_or work (call_or_statement k (node_at c s.point)))) idle ∙ ap (λ o. ready_for c limit s.frame (item_or work (call_or_statement call o))) at

  ready-statement : (n : Node) → IsAtStatement c limit s n → (within acts : Bool) → nat_lt s.frame.steps limit ≡ within → is_action c n.form ≡ acts
      → ready_in c limit s ≡ cond within (cond acts (to_act (nat_lt s.frame.actions greatest_actions)) local) out_of_steps
  ready-statement n h within acts w e =
      ready-by [] None (Some n) h.0 h.1 h.2 ∙ ap (λ b. cond b (cond (is_action c n.form) (to_act (nat_lt s.frame.actions greatest_actions)) local) out_of_steps) w
      ∙ ap (λ b. cond within (cond b (to_act (nat_lt s.frame.actions greatest_actions)) local) out_of_steps) e

  ready-acts : IsActionNext c limit s → ready_in c limit s ≡ to_act (nat_lt s.frame.actions greatest_actions)
  ready-acts (inl h) = ready-by (h.0 ∷ h.1) s.frame.call (node_at c s.point) h.2 refl refl
  ready-acts (inr (inl h)) = let n = call-at h.0 h.2 in ready-by [] (Some h.0) (Some n.0) h.1 h.2 n.1
  ready-acts (inr (inr h)) = ready-statement h.0 h.1 true true h.3 h.2

  at-end : (call : Option ℕ) → call_or_statement {N = Name} call None ≡ nothing
  at-end None = refl
  at-end (Some k) = refl

  pub so-ready : (t : Standing) → So t → ready_in c limit s ≡ t
  so-ready ended h = ready-by [] s.frame.call None h.0 refl (end-none s.point h.1) ∙ ap (λ next. ready_for c limit s.frame next) (at-end s.frame.call)
  so-ready out_of_steps h = ready-statement h.0 h.1 false (is_action c (h.0).form) h.2 refl
  so-ready out_of_actions h = ready-acts h.0 ∙ ap to_act h.1
  so-ready waiting h = absurd h
  so-ready local h = ready-statement h.0 h.1 true false h.3 h.2
  so-ready acting h = ready-acts h.0 ∙ ap to_act h.1

module _ (exceptions : ℕ) (program : Program) (modules : Modules) (checked : IsChecked exceptions program modules) where
  pub stands-as : (limit : ℕ) (x : State Name) → IsSoundProcess program modules x → (d : Module) → code_at modules x ≡ Some d → (t : Standing) → ((source modules).ready limit x ≡ t) ↔ StandsSo d limit x t
  stands-as limit x is d coded t =
      let m = module-at exceptions program modules checked x d coded in
      let same : d ≡ module_of program.types m.process m.labels = some-injective (sym coded ∙ m.coded) in
      let well = well-in exceptions program modules checked x m is in
      let here : (source modules).ready limit x ≡ ready_in (module_of program.types m.process m.labels) limit x = ap (ready_if limit x) m.coded in (
        (λ e. subst (λ d. StandsSo d limit x t) (sym same)
            (subst (StandsSo (module_of program.types m.process m.labels) limit x) (sym here ∙ e) (stands-so exceptions program.types program.processes m.process m.labels m.good x well limit))),
        (λ h. here ∙ so-ready exceptions program.types program.processes m.process m.labels m.good x well limit t (subst (λ d. StandsSo d limit x t) same h)),
      )
