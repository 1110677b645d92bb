use Rattle.std.proofs.Common.{◌≡◌, ℕ, Some, false, refl, sym, ap, subst, ◌∙◌}
use Rattle.std.specs.Prelude.{⊤}
use Rattle.herm_instructions.specs.Images.{Image}
use Rattle.herm_code_machine.specs.CodeStates.{CodeState}
use Rattle.herm_waking.specs.Unnamed.{ports_of_want}
use Rattle.herm_waking.specs.Waking.{noted_at}
use Rattle.herm_exchanges.specs.Told.{want_view}
use Rattle.herm_exchanges.specs.declared.wants.Want.{Want}
use Rattle.herm_machine.specs.Machines.{nameless}
use Rattle.herm_process.specs.Processes.{ProcessState, IsProcess}
use Rattle.herm_world.specs.Looks.{IsToldWant}
use Rattle.herm_world.specs.Places.{Places, places_of, waiters_of}
use Rattle.herm_world.specs.Waits.{is_take, opened}
use Rattle.herm_world.proofs.Awaiting.{none-awaited}
use Rattle.herm_world.proofs.Looking.{told-takes}
use Rattle.herm_world.proofs.Noting.{same-self}
use Rattle.herm_world.proofs.waits.wait_for.Goals as goal

none-noted : (process : ProcessState) (s : Places) (who : ℕ) (want view : Want) → want ≡ view → is_take (want_view view) ≡ false → ((image : Image) (main : ℕ) (x : CodeState ⊤) → IsProcess image main process x → IsToldWant want ((nameless image main).wanted x))
    → (image : Image) (main : ℕ) (x : CodeState ⊤) → IsProcess image main process x → waiters_of s ≡ noted_at (opened s) who (ports_of_want ((nameless image main).wanted x)) (waiters_of s)
none-noted process s who want view is none wants image main x stands =
    let h = wants image main x stands in
    sym (ap (λ ports. noted_at (opened s) who ports (waiters_of s)) (ap ports_of_want h.1 ∙ none-awaited h.0 (want_view view) (h.2 ∙ ap (λ v. Some (want_view v)) is) none))

pub note-requires-clause-takes : goal.note-requires-clause-takes
note-requires-clause-takes c image main x is = subst (λ want. IsToldWant want ((nameless image main).wanted x)) c.in-Take.is (c.requires.wants image main x is)

pub returns-in-Take : goal.returns-in-Take
returns-in-Take c =
    record {
      same = c.in_ok-note-in-Take.ensures.same;
      noted = λ image main x is.
          let t = told-takes ((nameless image main).wanted x) c.in-Take.ports (subst (λ want. IsToldWant want ((nameless image main).wanted x)) c.in-Take.is (c.requires.wants image main x is)) in
          c.in_ok-note-in-Take.ensures.noted image main x t.0 is t.1
          ∙ ap (λ ports. noted_at (opened (places_of c.args.places.now)) c.args.who.number ports (waiters_of (places_of c.args.places.now))) (sym (ap ports_of_want t.1));
    }

pub returns-in-MakePort : goal.returns-in-MakePort
returns-in-MakePort c = record { same = same-self (places_of c.args.places.now); noted = none-noted c.args.process.now (places_of c.args.places.now) c.args.who.number c.args.want _ c.in-MakePort.is refl c.requires.wants }

pub returns-in-MakeProcess : goal.returns-in-MakeProcess
returns-in-MakeProcess c = record { same = same-self (places_of c.args.places.now); noted = none-noted c.args.process.now (places_of c.args.places.now) c.args.who.number c.args.want _ c.in-MakeProcess.is refl c.requires.wants }

pub returns-in-Put : goal.returns-in-Put
returns-in-Put c = record { same = same-self (places_of c.args.places.now); noted = none-noted c.args.process.now (places_of c.args.places.now) c.args.who.number c.args.want _ c.in-Put.is refl c.requires.wants }

pub returns-in-Close : goal.returns-in-Close
returns-in-Close c = record { same = same-self (places_of c.args.places.now); noted = none-noted c.args.process.now (places_of c.args.places.now) c.args.who.number c.args.want _ c.in-Close.is refl c.requires.wants }

pub returns-in-Answer : goal.returns-in-Answer
returns-in-Answer c = record { same = same-self (places_of c.args.places.now); noted = none-noted c.args.process.now (places_of c.args.places.now) c.args.who.number c.args.want _ c.in-Answer.is refl c.requires.wants }

pub returns-in-Hear : goal.returns-in-Hear
returns-in-Hear c = record { same = same-self (places_of c.args.places.now); noted = none-noted c.args.process.now (places_of c.args.places.now) c.args.who.number c.args.want _ c.in-Hear.is refl c.requires.wants }
