use Rattle.std.proofs.Common.{◌≡◌, ℕ, List, Some, [], false, map, refl, sym, ap, ◌∙◌}
use Rattle.std.specs.Prelude.{⊤}
use Rattle.herm_base.specs.declared.numbers.PortNo.{PortNo}
use Rattle.herm_instructions.specs.Images.{Image}
use Rattle.herm_code_machine.specs.CodeStates.{CodeState}
use Rattle.herm_waking.specs.Unnamed.{ports_of_want}
use Rattle.herm_exchanges.specs.Told.{want_view}
use Rattle.herm_exchanges.specs.declared.wants.Want.{Want}
use Rattle.herm_machine.specs.Machines.{nameless}
use Rattle.herm_process.specs.Processes.{ProcessState, IsProcess}
use Rattle.herm_world.specs.Looks.{IsToldWant}
use Rattle.herm_world.specs.Waits.{is_take}
use Rattle.herm_world.proofs.Awaiting.{none-awaited}
use Rattle.herm_world.proofs.Looking.{take-told}
use Rattle.herm_world.proofs.ends.waits_on.Goals as goal

none-found : (process : ProcessState) (want view : Want) (found : List PortNo) → found ≡ [] → want ≡ view → is_take (want_view view) ≡ false → ((image : Image) (main : ℕ) (x : CodeState ⊤) → IsProcess image main process x → IsToldWant want ((nameless image main).wanted x))
    → (image : Image) (main : ℕ) (x : CodeState ⊤) → IsProcess image main process x → map (λ (p : PortNo). p.number) found ≡ ports_of_want ((nameless image main).wanted x)
none-found process want view found empty is none wants image main x stands =
    let h = wants image main x stands in
    ap (map (λ (p : PortNo). p.number)) empty ∙ sym (ap ports_of_want h.1 ∙ none-awaited h.0 (want_view view) (h.2 ∙ ap (λ v. Some (want_view v)) is) none)

pub looked_at-requires-clause-takes : goal.looked_at-requires-clause-takes
looked_at-requires-clause-takes c image main x is =
    let h = c.requires.wants image main x is in
    let t = take-told h.0 c.in-Take.ports.first.number c.in-Take.ports.count (h.2 ∙ ap (λ v. Some (want_view v)) c.in-Take.is) in
    (t.0, h.1 ∙ ap (λ w. Some w) t.1, t.2)

pub returns-in-Take : goal.returns-in-Take
returns-in-Take c = record {
  ports = λ image main x is.
      let h = c.requires.wants image main x is in
      let t = take-told h.0 c.in-Take.ports.first.number c.in-Take.ports.count (h.2 ∙ ap (λ v. Some (want_view v)) c.in-Take.is) in
      c.in_ok-found-in-Take.ensures.ports image main x t.0 is (h.1 ∙ ap (λ w. Some w) t.1) ∙ sym (ap ports_of_want (h.1 ∙ ap (λ w. Some w) t.1));
}

pub returns-in-MakePort : goal.returns-in-MakePort
returns-in-MakePort c = record { ports = none-found c.args.process.now c.args.want _ _ c.new.ensures.items c.in-MakePort.is refl c.requires.wants }

pub returns-in-MakeProcess : goal.returns-in-MakeProcess
returns-in-MakeProcess c = record { ports = none-found c.args.process.now c.args.want _ _ c.new-in-MakeProcess.ensures.items c.in-MakeProcess.is refl c.requires.wants }

pub returns-in-Put : goal.returns-in-Put
returns-in-Put c = record { ports = none-found c.args.process.now c.args.want _ _ c.new-in-Put.ensures.items c.in-Put.is refl c.requires.wants }

pub returns-in-Close : goal.returns-in-Close
returns-in-Close c = record { ports = none-found c.args.process.now c.args.want _ _ c.new-in-Close.ensures.items c.in-Close.is refl c.requires.wants }

pub returns-in-Answer : goal.returns-in-Answer
returns-in-Answer c = record { ports = none-found c.args.process.now c.args.want _ _ c.new-in-Answer.ensures.items c.in-Answer.is refl c.requires.wants }

pub returns-in-Hear : goal.returns-in-Hear
returns-in-Hear c = record { ports = none-found c.args.process.now c.args.want _ _ c.new-in-Hear.ensures.items c.in-Hear.is refl c.requires.wants }
