use Rattle.std.proofs.Common.{◌≡◌, ℕ, List, Some, is_some, sym, ap, subst, ◌∙◌}
use Rattle.std.specs.Prelude.{⊤}
use Rattle.herm_model.proofs.Options.{some-injective, is_some-map}
use Rattle.herm_journal.specs.Messages.{CellWant}
use Rattle.herm_instructions.specs.Images.{Image}
use Rattle.herm_code_machine.specs.CodeStates.{CodeState}
use Rattle.herm_waking.specs.Unnamed.{bare_can}
use Rattle.herm_exchanges.specs.Told.{told, want_view}
use Rattle.herm_exchanges.specs.declared.wants.Want.{Want}
use Rattle.herm_machine.specs.Machines.{nameless}
use Rattle.herm_process.specs.Processes.{ProcessState, IsProcess}
use Rattle.herm_world.specs.Looks.{IsToldWant, can_as}
use Rattle.herm_world.specs.Places.{Places, places_of, seen_of}
use Rattle.herm_world.proofs.Looking.{can-by-told, can-told}
use Rattle.herm_world.proofs.looks.can_do.Goals as goal

module _ (process : ProcessState) (s : Places) (p : ℕ) (want view : Want) (is : want ≡ view) (wants : (image : Image) (main : ℕ) (x : CodeState ⊤) → IsProcess image main process x → IsToldWant want ((nameless image main).wanted x)) where
  wants-told : (image : Image) (main : ℕ) (x : CodeState ⊤) (w : CellWant ⊤) → IsProcess image main process x → (nameless image main).wanted x ≡ Some w → told w ≡ Some (want_view view)
  wants-told image main x w stands wanted = let h = wants image main x stands in ap told (some-injective (sym wanted ∙ h.1)) ∙ h.2 ∙ ap (λ v. Some (want_view v)) is

  can-wanted : (image : Image) (main : ℕ) (x : CodeState ⊤) (w : CellWant ⊤) → IsProcess image main process x → (nameless image main).wanted x ≡ Some w → (qs : List (CodeState ⊤))
      → can_as s p (bare_can (seen_of qs s) p w) (want_view view) ≡ bare_can (seen_of qs s) p w
  can-wanted image main x w stands wanted qs = can-by-told qs s p w (want_view view) (wants-told image main x w stands wanted)

pub returns-in-MakePort : goal.returns-in-MakePort
returns-in-MakePort c = record { can = can-wanted c.args.process.now (places_of c.args.places.now) c.args.who.number c.args.want _ c.in-MakePort.is c.requires.wants }

pub returns-in-MakeProcess : goal.returns-in-MakeProcess
returns-in-MakeProcess c = record { can = can-wanted c.args.process.now (places_of c.args.places.now) c.args.who.number c.args.want _ c.in-MakeProcess.is c.requires.wants }

pub returns-in-Put : goal.returns-in-Put
returns-in-Put c = record { can = λ image main x w is wanted qs. c.has_port.ensures.there ∙ can-wanted c.args.process.now (places_of c.args.places.now) c.args.who.number c.args.want _ c.in-Put.is c.requires.wants image main x w is wanted qs }

pub returns-in-Close : goal.returns-in-Close
returns-in-Close c = record { can = λ image main x w is wanted qs. c.has_port-in-Close.ensures.there ∙ can-wanted c.args.process.now (places_of c.args.places.now) c.args.who.number c.args.want _ c.in-Close.is c.requires.wants image main x w is wanted qs }

pub returns-in-Answer : goal.returns-in-Answer
returns-in-Answer c = record { can = λ image main x w is wanted qs. c.has_replies.ensures.there ∙ can-wanted c.args.process.now (places_of c.args.places.now) c.args.who.number c.args.want _ c.in-Answer.is c.requires.wants image main x w is wanted qs }

pub returns-in-Hear : goal.returns-in-Hear
returns-in-Hear c = record { can = λ image main x w is wanted qs. c.is_answered.ensures.answered ∙ can-wanted c.args.process.now (places_of c.args.places.now) c.args.who.number c.args.want _ c.in-Hear.is c.requires.wants image main x w is wanted qs }

pub first_filled-requires-clause-takes : goal.first_filled-requires-clause-takes
first_filled-requires-clause-takes c image main x is = subst (λ want. IsToldWant want ((nameless image main).wanted x)) c.in-Take.is (c.requires.wants image main x is)

pub returns-in-Take : goal.returns-in-Take
returns-in-Take c =
    record {
      can = λ image main x w is wanted qs.
          let e = wants-told c.args.process.now (places_of c.args.places.now) c.args.who.number c.args.want _ c.in-Take.is c.requires.wants image main x w is wanted in
          can-told qs (places_of c.args.places.now) c.args.who.number w _ c.is_some.result e
          (λ ports is_take. c.is_some.ensures ∙ sym (is_some-map _ c.first_filled.result) ∙ ap is_some (c.first_filled.ensures.first image main x ports is (wanted ∙ ap (λ w. Some w) is_take)));
    }
