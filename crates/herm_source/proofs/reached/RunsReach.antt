-- In every state of a run of accepted modules each process stands where a control path of its module leads, so a sound one
-- has what its statements need.
use Rattle.std.proofs.Common.{◌≡◌, ℕ, Some, slice_get, sym, ap, ◌∙◌, subst}
use Rattle.herm_model.specs.Statements.{Process}
use Rattle.herm_model.specs.ControlPaths.{flow_of, IsReached}
use Rattle.herm_model.specs.Values.{Cell, Name}
use Rattle.herm_model.proofs.FactTests.{got-IsIn}
use Rattle.herm_model.proofs.Options.{some-injective, chain-some, map-some}
use Rattle.herm_forms.specs.Modules.{Module, module_of}
use Rattle.herm_runs.specs.Throughout.{StaysSo}
use Rattle.herm_runs.proofs.StayingSo.{so-throughout}
use Rattle.herm_source.specs.Modules.{Program, Modules}
use Rattle.herm_source.specs.States.{State, own_name, begin, local_step, answered}
use Rattle.herm_source.specs.Instance.{source}
use Rattle.herm_source.specs.AcceptedRuns.{AreAccepted}
use Rattle.herm_source.specs.laws.NeedsLaws.{HasWellFormedBodies, RunsReach, SoundStatesAlongFindNeeds}
use Rattle.herm_source.proofs.Numbers.{local-stays, answer-stays}
use Rattle.herm_source.proofs.reached.FoundNeeds.{module-of, sound-finds}
use Rattle.herm_source.proofs.reached.LeadsOn.{LeadsOn, local-leads, answer-leads, leads-reached, entry-reached}

module _ (program : Program) (modules : Modules) (accepted : AreAccepted program modules) (formed : HasWellFormedBodies program) where
  -- a state of the process of its number stands where a control path leads
  abbrev pub IsAtReached : State Name → Type 0
  IsAtReached x = (process : Process) → slice_get program.processes x.module_number ≡ Some process → IsReached (flow_of program.types process) x.point

  led-reached : (c : Module) (x y : State Name) → slice_get modules.codes x.module_number ≡ Some c → y.module_number ≡ x.module_number → LeadsOn c x.point y.point → IsAtReached x → IsAtReached y
  led-reached c x y coded same leads well process is =
      let m = module-of program program.processes modules.codes accepted.codes x.module_number c coded in
      let before : slice_get program.processes x.module_number ≡ Some process = ap (slice_get program.processes) (sym same) ∙ is in
      let one : m.0 ≡ process = some-injective (sym m.1 ∙ before) in
      let code : c ≡ module_of program.types process m.2.0 = subst (λ (q : Process). c ≡ module_of program.types q m.2.0) one m.2.1 in
      leads-reached program.types process m.2.0 (formed process (got-IsIn program.processes x.module_number process before)) x.point y.point
      (subst (λ (d : Module). LeadsOn d x.point y.point) code leads) (well process before)

  begin-reached : (c : Module) (code number : ℕ) (port : Cell Name) → slice_get modules.codes code ≡ Some c → IsAtReached (begin c code number port)
  begin-reached c code number port coded process is =
      let m = module-of program program.processes modules.codes accepted.codes code c coded in
      let one : m.0 ≡ process = some-injective (sym m.1 ∙ is) in
      let entry : c.entry ≡ (module_of program.types process m.2.0).entry = ap (λ (d : Module). d.entry) (subst (λ (q : Process). c ≡ module_of program.types q m.2.0) one m.2.1) in
      subst (IsReached (flow_of program.types process)) (sym entry) (entry-reached program.types process)

  pub stays-reached : StaysSo (source modules) IsAtReached
  stays-reached = record {
    begins = λ code number port x e.
        let m = map-some (λ c. begin c code number port) (slice_get modules.codes code) x e in subst IsAtReached m.2 (begin-reached m.0 code number port m.1);
    local_steps = λ x y e well.
        let c = chain-some (λ c. local_step own_name c x) (slice_get modules.codes x.module_number) y e in
        led-reached c.0 x y c.1 (local-stays own_name c.0 x y c.2).1 (local-leads c.0 x y c.2) well;
    answers = λ x y at a e well.
        let c = chain-some (λ c. answered own_name c x at a) (slice_get modules.codes x.module_number) y e in
        led-reached c.0 x y c.1 (answer-stays own_name c.0 x y at a c.2).1 (answer-leads c.0 x y at a c.2) well;
  }

pub runs-reach : RunsReach
runs-reach program modules limits argument events r accepted formed e p state process here is =
    so-throughout (source modules) _ (stays-reached program modules accepted formed) limits argument events r e p state here process is

pub along-finds : SoundStatesAlongFindNeeds
along-finds program modules limits argument journal s accepted formed along sound =
    sound-finds program modules s accepted
    (runs-reach program modules limits argument along.3.0 (record { system = s; journal = along.0 }) accepted formed along.3.1)
    (sound.1).processes
