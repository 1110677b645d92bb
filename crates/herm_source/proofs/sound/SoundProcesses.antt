-- Each process of a checked program begins sound within itself and stays so.
use Rattle.std.proofs.Common.{◌≡◌, ℕ, suc, List, [], ◌∷◌, Bool, true, false, cond, Option, Some, None, option_map, refl, sym, ap, ◌∙◌, subst}
use Rattle.std.specs.Prelude.{slice_get, option_and_then, nat_lt, IsTrue, ⊤}
use Rattle.herm_model.specs.Types.{TypeTable}
use Rattle.herm_model.specs.Statements.{Process}
use Rattle.herm_model.specs.Nodes.{Node}
use Rattle.herm_model.specs.ControlPaths.{flow_of, IsReached}
use Rattle.herm_model.specs.Labels.{Labels}
use Rattle.herm_model.specs.Values.{Cell, cell, an_inport, no_parts}
use Rattle.herm_model.proofs.Lists.{not_true}
use Rattle.herm_model.proofs.FactTests.{got-IsIn}
use Rattle.herm_model.proofs.Options.{none-not_some, some-injective, chain-some, map-some}
use Rattle.herm_journal.specs.Actions.{to_put, put, take, hear}
use Rattle.herm_journal.specs.Messages.{CellWant, CellAction, CellReply, IsMessage, IsReplyTo}
use Rattle.herm_forms.specs.Frames.{Name, counted_step, counted_action}
use Rattle.herm_forms.specs.Modules.{Module, module_of}
use Rattle.herm_forms.specs.Acts.{is_action, act, wants}
use Rattle.herm_forms.specs.OpenCalls.{Calling, call_type, IsReply}
use Rattle.herm_forms.specs.Incoming.{looked_at, ComesIn}
use Rattle.herm_forms.proofs.typed.EachForm.{puts-same}
use Rattle.herm_system.specs.Suiting.{Answers, Suits}
use Rattle.herm_system.specs.Machines.{OpenCall, is_local, local, to_act, out_of_steps, greatest_actions}
use Rattle.herm_runs.proofs.ActionParts.{cond-both}
use Rattle.herm_source.specs.States.{State, own_name, item_or, call_or_statement, begin, node_at, state_after, step_next, local_step, settle_next, answered, wanted_next, wanted}
use Rattle.herm_source.specs.StepLimit.{ready_for, ready_in}
use Rattle.herm_source.specs.Modules.{Program, Modules}
use Rattle.herm_source.specs.Instance.{source, code_at, ready_if}
use Rattle.herm_source.specs.Local.{calling, IsLocallySound}
use Rattle.herm_source.specs.SeenBySystem.{port_type, open_call}
use Rattle.herm_source.specs.Checked.{IsChecked}
use Rattle.herm_source.specs.laws.SoundProcesses.{IsSoundProcess, AnswersWant, CheckedProcessesStaySound, LocalStepsAreThere}
use Rattle.herm_source.proofs.Numbers.{local-stays, answer-stays}
use Rattle.herm_source.proofs.reached.FoundNeeds.{module-of}
use Rattle.herm_source.proofs.sound.OneModule.{IsGoodModule, StandsWell, steps-well, step-there, answers-well, replied-well, worked-well, begins-well}

-- what comes in suits a code's process
abbrev pub SuitsCode : TypeTable → Module → State Name → (at : ℕ) → CellAction Name → Type 0
SuitsCode types c x at (take k m) = (t : ℕ) × (port_type c x at ≡ Some t) × IsMessage types t m
SuitsCode types c x at (hear k r) = (call : OpenCall) × (open_call c x ≡ Some call) × (call.number ≡ k) × IsReplyTo types call.call_type r
SuitsCode types c x at a = ⊤

-- where an action is next no local step is
acting-not : (b : Bool) {A : Type 0} → IsTrue (is_local (to_act b)) → A
acting-not true h = not_true h
acting-not false h = not_true h

-- the message that was to be put is the one that was put
pub put-wanted : (w : CellWant Name) (k : Option ℕ) (m : Cell Name) → Answers w (put k m) → (n : ℕ) × (w ≡ to_put n m)
put-wanted (to_put n m') k m h = (n, ap (to_put n) h)
put-wanted w k m h = absurd h

module _ (exceptions : ℕ) (types : TypeTable) (processes : List Process) (p : Process) (labels : Labels) (good : IsGoodModule exceptions types processes p labels) where
  abbrev c : Module
  c = module_of types p labels

  abbrev Well : State Name → Type 0
  Well s = StandsWell exceptions types processes p labels good s

  module _ (s t : State Name) (stands : Well s) where
    step-by : (work : List (Cell Name)) (call : Option ℕ) (o : Option Node) → s.frame.call ≡ call → node_at c s.point ≡ o → step_next own_name c s (item_or work (call_or_statement call o)) ≡ Some t → Well t
    step-by (item ∷ work) call o idle at is = none-not_some is
    step-by [] call None idle at is = none-not_some is
    step-by [] (Some k) (Some n) idle at is = none-not_some is
    step-by [] None (Some n) idle at is = by (is_action c n.form) is
      where
        by : (b : Bool) → cond b None (state_after c s (Some n) (act own_name c n.number n.form (counted_step s.frame))) ≡ Some t → Well t
        by true is = none-not_some is
        by false is = steps-well exceptions types processes p labels good s t stands n at idle is

    pub step-well : local_step own_name c s ≡ Some t → Well t
    step-well is = step-by s.frame.work s.frame.call (node_at c s.point) refl refl is

    there-by : (limit : ℕ) (work : List (Cell Name)) (call : Option ℕ) (o : Option Node) → s.frame.call ≡ call → node_at c s.point ≡ o → IsTrue (is_local (ready_for c limit s.frame (item_or work (call_or_statement call o))))
        → (y : State Name) × (step_next own_name c s (item_or work (call_or_statement call o)) ≡ Some y)
    there-by limit (item ∷ work) call o idle at is = acting-not (nat_lt s.frame.actions greatest_actions) is
    there-by limit [] call None idle at is = not_true is
    there-by limit [] (Some k) (Some n) idle at is = acting-not (nat_lt s.frame.actions greatest_actions) is
    there-by limit [] None (Some n) idle at is = by (nat_lt s.frame.steps limit) (is_action c n.form) refl is
      where
        by : (within acts : Bool) → is_action c n.form ≡ acts → IsTrue (is_local (cond within (cond acts (to_act (nat_lt s.frame.actions greatest_actions)) local) out_of_steps))
            → (y : State Name) × (cond acts None (state_after c s (Some n) (act own_name c n.number n.form (counted_step s.frame))) ≡ Some y)
        by false acts e is = not_true is
        by true true e is = acting-not (nat_lt s.frame.actions greatest_actions) is
        by true false e is = step-there exceptions types processes p labels good s t stands n at idle e

    pub local-there : (limit : ℕ) → IsTrue (is_local (ready_in c limit s)) → (y : State Name) × (local_step own_name c s ≡ Some y)
    local-there limit is = there-by limit s.frame.work s.frame.call (node_at c s.point) refl refl is

    module _ (place : ℕ) (action : CellAction Name) (w : CellWant Name) (answers : Answers w action) (suits : SuitsCode types c s place action) where
      -- what comes in with the answer to a statement
      comes-in : (n : Node) → node_at c s.point ≡ Some n → wants own_name c n.form s.frame ≡ Some w → (a : CellAction Name) → Answers w a → SuitsCode types c s place a → ComesIn own_name c n.form (counted_action (counted_step s.frame)) place a
      comes-in n at want (take k m) answers suits = (suits.0, sym (ap (option_and_then (λ (node : Node). looked_at c node.form s.frame place)) at) ∙ suits.1, suits.2)
      comes-in n at want (put k m) answers suits =
          let x = put-wanted w k m answers in
          (x.0, puts-same own_name c (suc s.frame.steps) (suc s.frame.actions) s.frame x.0 m n.form (want ∙ ap (λ w. Some w) x.1))
      comes-in n at want a answers suits = tt

      -- the reply that comes in is one that the call waits for
      reply-in : (k : Calling) (call : ℕ) → s.frame.call ≡ Some call → calling c s ≡ Some k → (a : CellAction Name) → SuitsCode types c s place a → (i : ℕ) (r : CellReply Name) → a ≡ hear i r → IsReply c k r
      reply-in k call open' is a suits i r e =
          let h : SuitsCode types c s place (hear i r) = subst (SuitsCode types c s place) e suits in
          let there : open_call c s ≡ Some (record { number = call; call_type = call_type c k }) =
          ap (option_and_then (λ (n : ℕ). option_map (λ (k : Calling). record { number = n; call_type = call_type c k }) (calling c s))) open' ∙ ap (option_map (λ (k : Calling). record { number = call; call_type = call_type c k })) is in
          let same : h.0 ≡ record { number = call; call_type = call_type c k } = some-injective (sym h.1 ∙ there) in
          subst (λ (x : OpenCall). IsReplyTo types x.call_type r) same h.3

      answer-by : (work : List (Cell Name)) (call : Option ℕ) (o : Option Node) → s.frame.work ≡ work → s.frame.call ≡ call → node_at c s.point ≡ o
          → wanted_next own_name c s.frame (item_or work (call_or_statement call o)) ≡ Some w → settle_next own_name c s place action (item_or work (call_or_statement call o)) ≡ Some t → Well t
      answer-by (item ∷ work) call o front idle at want is = worked-well exceptions types processes p labels good s t stands item work front action is
      answer-by [] call None front idle at want is = none-not_some want
      answer-by [] (Some k) (Some n) front open' at want is =
          let x = (stands.0).call k open' in
          replied-well exceptions types processes p labels good s t stands n at k x.0 open' x.1 k action (reply-in x.0 k open' x.1 action suits) is
      answer-by [] None (Some n) front idle at want is =
          let acts = cond-both (is_action c n.form) (wants own_name c n.form s.frame) w want in
          answers-well exceptions types processes p labels good s t stands n at idle acts.0 place action (comes-in n at acts.1 action answers suits) is

      pub answer-well : wanted own_name c s ≡ Some w → answered own_name c s place action ≡ Some t → Well t
      answer-well want is = answer-by s.frame.work s.frame.call (node_at c s.point) refl refl refl want is

module _ (exceptions : ℕ) (program : Program) (modules : Modules) (checked : IsChecked exceptions program modules) where
  -- the process of a module, and that it is good
  pub record StandsInModule (x : State Name) : Type 0 where
    pub process : Process
    pub at : slice_get program.processes x.module_number ≡ Some process
    pub labels : Labels
    pub good : IsGoodModule exceptions program.types program.processes process labels
    pub coded : code_at modules x ≡ Some (module_of program.types process labels)

  pub module-at : (x : State Name) (c : Module) → code_at modules x ≡ Some c → StandsInModule x
  module-at x c coded =
      let m = module-of program program.processes modules.codes (checked.accepted).codes x.module_number c coded in
      record {
        process = m.0;
        at = m.1;
        labels = m.2.0;
        good = record {
          well = (checked.typed).types;
          typed = (checked.typed).modules m.0 (got-IsIn program.processes x.module_number m.0 m.1);
          exact = m.2.2;
          accepted = m.2.3;
        };
        coded = coded ∙ ap (λ c. Some c) m.2.1;
      }

  abbrev pub WellIn : (x : State Name) → StandsInModule x → State Name → Type 0
  WellIn x m s = StandsWell exceptions program.types program.processes m.process m.labels m.good s

  -- what a sound process is over its module, and back
  pub well-in : (x : State Name) (m : StandsInModule x) → IsSoundProcess program modules x → WellIn x m x
  well-in x m is = (is.sound (module_of program.types m.process m.labels) m.coded, is.reached m.process m.at)

  sound-in : (x y : State Name) (m : StandsInModule x) → y.module_number ≡ x.module_number → WellIn x m y → IsSoundProcess program modules y
  sound-in x y m same well = record {
    sound = λ c coded. subst (λ c. IsLocallySound c y) (some-injective (sym m.coded ∙ ap (slice_get modules.codes) (sym same) ∙ coded)) well.0;
    reached = λ process at. subst (λ (q : Process). IsReached (flow_of program.types q) y.point) (some-injective (sym m.at ∙ ap (slice_get program.processes) (sym same) ∙ at)) well.1;
  }

  begins : (code number port : ℕ) (n : Name) (x : State Name) → (source modules).begin code number (cell n (an_inport port) no_parts) ≡ Some x → IsSoundProcess program modules x
  begins code number port n x e =
      let b = map-some (λ c. begin c code number (cell n (an_inport port) no_parts)) (slice_get modules.codes code) x e in
      let same : x.module_number ≡ code = sym (ap (λ (x : State Name). x.module_number) b.2) in
      let m = module-at x b.0 (ap (slice_get modules.codes) same ∙ b.1) in
      let is : b.0 ≡ module_of program.types m.process m.labels = some-injective (sym b.1 ∙ ap (slice_get modules.codes) (sym same) ∙ m.coded) in
      sound-in x x m refl
      (subst (WellIn x m) (ap (λ c. begin c code number (cell n (an_inport port) no_parts)) (sym is) ∙ b.2) (begins-well exceptions program.types program.processes m.process m.labels m.good code number port n))

  steps : (x y : State Name) → (source modules).local_step x ≡ Some y → IsSoundProcess program modules x → IsSoundProcess program modules y
  steps x y e is =
      let d = chain-some (λ c. local_step own_name c x) (code_at modules x) y e in
      let m = module-at x d.0 d.1 in
      let same : d.0 ≡ module_of program.types m.process m.labels = some-injective (sym d.1 ∙ m.coded) in
      sound-in x y m (local-stays own_name d.0 x y d.2).1
      (step-well exceptions program.types program.processes m.process m.labels m.good x y (well-in x m is) (subst (λ c. local_step own_name c x ≡ Some y) same d.2))

  -- what suits the machine's process suits its code's
  pub suits-code : (x : State Name) (c : Module) → code_at modules x ≡ Some c → (at : ℕ) (a : CellAction Name) → Suits (source modules) x at a → SuitsCode program.types c x at a
  suits-code x c coded at (take k m) h = (h.0, sym (ap (option_and_then (λ c. port_type c x at)) coded) ∙ h.1, subst (λ types. IsMessage types h.0 m) (checked.accepted).types h.2)
  suits-code x c coded at (hear k r) h = (h.0, sym (ap (option_and_then (λ c. open_call c x)) coded) ∙ h.1, h.2, subst (λ types. IsReplyTo types (h.0).call_type r) (checked.accepted).types h.3)
  suits-code x c coded at a h = tt

  there : (limit : ℕ) (x : State Name) → IsSoundProcess program modules x → IsTrue (is_local ((source modules).ready limit x)) → (y : State Name) × ((source modules).local_step x ≡ Some y)
  there limit x is next = by (code_at modules x) refl next
    where
      by : (o : Option Module) → code_at modules x ≡ o → IsTrue (is_local (ready_if limit x o)) → (y : State Name) × ((source modules).local_step x ≡ Some y)
      by None e h = not_true h
      by (Some d) e h =
          let m = module-at x d e in
          let same : d ≡ module_of program.types m.process m.labels = some-injective (sym e ∙ m.coded) in
          let y = local-there exceptions program.types program.processes m.process m.labels m.good x x (well-in x m is) limit (subst (λ c. IsTrue (is_local (ready_in c limit x))) same h) in
          (y.0, ap (option_and_then (λ c. local_step own_name c x)) m.coded ∙ y.1)

  answers : (x y : State Name) (at : ℕ) (a : CellAction Name) → AnswersWant modules x a → Suits (source modules) x at a → (source modules).answered x at a ≡ Some y → IsSoundProcess program modules x → IsSoundProcess program modules y
  answers x y at a want suits e is =
      let d = chain-some (λ c. answered own_name c x at a) (code_at modules x) y e in
      let m = module-at x d.0 d.1 in
      let same : d.0 ≡ module_of program.types m.process m.labels = some-injective (sym d.1 ∙ m.coded) in
      sound-in x y m (answer-stays own_name d.0 x y at a d.2).1
      (answer-well exceptions program.types program.processes m.process m.labels m.good x y (well-in x m is) at a want.0 want.2
      (suits-code x (module_of program.types m.process m.labels) m.coded at a suits)
      (sym (ap (option_and_then (λ c. wanted own_name c x)) m.coded) ∙ want.1) (subst (λ c. answered own_name c x at a ≡ Some y) same d.2))

pub stay-sound : CheckedProcessesStaySound
stay-sound exceptions program modules checked = record {
  begins = begins exceptions program modules checked;
  local_steps = steps exceptions program modules checked;
  answers = answers exceptions program modules checked;
}

pub steps-there : LocalStepsAreThere
steps-there exceptions program modules checked limit x is next = there exceptions program modules checked limit x is next
