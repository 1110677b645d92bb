-- The laws of good images, from those of instructions and runs.
use Rattle.std.proofs.Common.{◌≡◌, ℕ, List, Option, Some, None, option_and_then, refl, sym, ap, subst, ◌∙◌}
use Rattle.std.specs.Prelude.{slice_get, IsTrue}
use Rattle.herm_model.specs.Lists.{IsIn}
use Rattle.herm_model.specs.Outcomes.{Outcome}
use Rattle.herm_model.specs.Values.{an_inport, cell, no_parts, Value}
use Rattle.herm_model.proofs.FactTests.{got-IsIn}
use Rattle.herm_model.proofs.Lists.{slice_get-map, not_true}
use Rattle.herm_model.proofs.Options.{none-not_some, some-injective, chain-some, map-some}
use Rattle.herm_forms.specs.Frames.{Name, Frame, goes}
use Rattle.herm_system.specs.Machines.{is_local}
use Rattle.herm_instructions.specs.Labels.{Label}
use Rattle.herm_instructions.specs.Images.{CodeModule, Image}
use Rattle.herm_instructions.specs.Effects.{label_behind}
use Rattle.herm_instructions.specs.Places.{Way, ways, label_at}
use Rattle.herm_code_machine.specs.ReadyCode.{ReadyCode, ready_code, labelled_image}
use Rattle.herm_code_machine.specs.CodeStates.{CodeState, code_begin, stack_after}
use Rattle.herm_code_machine.specs.Effects.{effect}
use Rattle.herm_code_machine.specs.CodeInstance.{code_machine, own_name, code_at, ready_if}
use Rattle.herm_code_machine.specs.CodeLocal.{IsSoundCodeIn, IsLocallySoundCode}
use Rattle.herm_code_machine.specs.CodeSeen.{code_open_call}
use Rattle.herm_code_machine.specs.CodeSteps.{code_next, code_local_step, code_ready, an_item, a_reply, an_action, a_local_piece, nothing, CodeNext, step_next}
use Rattle.herm_code_machine.specs.laws.GoodImageLaws.{IsGoodOver, IsAsLabelled, OutcomesLead, GoesAlong, InstructionsFindOperands, LocalStepsAreSound, labelled_code}
use Rattle.herm_code_machine.proofs.sound.AtLabels.{Holds, GoesWell}
use Rattle.herm_code_machine.proofs.sound.Between.{IsAtRest, exact-listed, listed-exact, finds-at, good-module}
use Rattle.herm_code_machine.proofs.sound.EachInstruction.{each-instruction}
use Rattle.herm_code_machine.proofs.sound.LocalSteps.{ComesNext, by_local, comes-next, local-sound, local-goes}
use Rattle.herm_code_machine.proofs.sound.RunsThere.{begins-there}
use Rattle.herm_code_machine.proofs.sound.Ways.{ways-lead_there}
use Rattle.herm_code_machine.proofs.sound.CodeThere.{sound-at}

pub outcomes-lead : OutcomesLead
outcomes-lead exceptions' image m good labels p there w h = ways-lead_there exceptions' image m good (ready_code image labels m) refl p there w h

-- what is as a label says, in two ways of saying it
pub to-holds : (c : ReadyCode) (l : Label) (stack : List Value) (b : Frame Name) → IsAsLabelled c l stack b → Holds c l stack b
to-holds c l stack b h = record { sound = record { types = h.types; facts = exact-listed b.variables l.facts h.values_exact }; stack = h.stack; slots = h.slots; differ = h.slots_differ }

pub from-holds : (c : ReadyCode) (l : Label) (stack : List Value) (b : Frame Name) → Holds c l stack b → IsAsLabelled c l stack b
from-holds c l stack b h = record { values_exact = listed-exact b.variables l.facts (h.sound).facts; types = (h.sound).types; stack = h.stack; slots = h.slots; slots_differ = h.differ }

pub operands-found : InstructionsFindOperands
operands-found exceptions' image good m in-image name p l there label no_end other stack b h =
    let W : Outcome → Type 0 = λ o. (w : Way) × IsIn w (ways p) × (w.outcome ≡ o) in
    let finds = finds-at exceptions' image good.good good.table m in-image W p l there label (λ w h. (w, h, refl)) in
    let g = each-instruction exceptions' image good.table (good.good).constants m (good-module exceptions' image good.good good.table m in-image).variables_known (label_at image.types image.constants) name W l stack b
    (to-holds (labelled_code image m) l stack b h) p.instruction no_end other finds in
    by g g.way
  where
    by : (g : GoesWell exceptions' image m (λ o. (w : Way) × IsIn w (ways p) × (w.outcome ≡ o)) (labelled_code image m) p.instruction l (effect name (labelled_code image m) p.instruction stack b))
        → (w : Way) × IsIn w (ways p) × (w.outcome ≡ g.outcome) → GoesAlong image m name p l stack b
    by g w =
        let e = effect name (labelled_code image m) p.instruction stack b in
        record {
          way = w.0;
          is_way = w.1;
          frame = g.frame;
          completes = g.completes ∙ ap (λ o. goes o g.frame) (sym w.2);
          behind = subst (λ o. IsAsLabelled (labelled_code image m) (label_behind image.types m.variables image.constants p.instruction o l) (stack_after o e.stack) g.frame) (sym w.2)
              (from-holds (labelled_code image m) (label_behind image.types m.variables image.constants p.instruction g.outcome l) (stack_after g.outcome e.stack) g.frame g.holds);
        }

module _ (exceptions' : ℕ) (image : Image) (main : ℕ) (good : IsGoodOver exceptions' image) where
  -- the code of a process is that of a module of the image
  pub module-of : (k : ℕ) (c : ReadyCode) → slice_get (labelled_image image main).codes k ≡ Some c → (m : CodeModule) × IsIn m image.modules × (labelled_code image m ≡ c)
  module-of k c e =
      let m = map-some (ready_code image (label_at image.types image.constants)) (slice_get image.modules k) c (sym (slice_get-map (ready_code image (label_at image.types image.constants)) image.modules k) ∙ e) in
      (m.0, got-IsIn image.modules k m.0 m.1, m.2)

  pub sound-in : (x : CodeState Name) (c : ReadyCode) → code_at (labelled_image image main) x ≡ Some c → IsLocallySoundCode c x → IsSoundCodeIn (labelled_image image main) x
  sound-in x c at h = (c, at, h)

  closed-call : (c : ReadyCode) (x : CodeState Name) → x.frame.call ≡ None → code_open_call c x ≡ None
  closed-call c x e = ap (option_and_then _) e

  pub no-call : (x : CodeState Name) → x.frame.call ≡ None → (code_machine (labelled_image image main)).open_call x ≡ None
  no-call x e = by (code_at (labelled_image image main) x)
    where
      by : (o : Option ReadyCode) → option_and_then (λ c. code_open_call c x) o ≡ None
      by None = refl
      by (Some c) = closed-call c x e

  pub idle-before : (c : ReadyCode) (x y : CodeState Name) → code_local_step own_name c x ≡ Some y → x.frame.call ≡ None
  idle-before c x y e = by (code_next c x) (comes-next c x) e
    where
      by : (next : CodeNext Name) → ComesNext c x next → step_next own_name c x next ≡ Some y → x.frame.call ≡ None
      by (a_local_piece p) (by_local p' idle closed at none) e = closed
      by (an_item item work) next e = none-not_some e
      by (a_reply k i instruction) next e = none-not_some e
      by (an_action p met) next e = none-not_some e
      by nothing next e = none-not_some e

  steps-well : (x y : CodeState Name) → IsSoundCodeIn (labelled_image image main) x → (c : ReadyCode) → code_at (labelled_image image main) x ≡ Some c → code_local_step own_name c x ≡ Some y
      → IsLocallySoundCode c y × IsAtRest y.frame × (y.module_number ≡ x.module_number)
  steps-well x y sound c at e =
      let m = module-of x.module_number c at in
      subst (λ c. IsLocallySoundCode c x → code_local_step own_name c x ≡ Some y → IsLocallySoundCode c y × IsAtRest y.frame × (y.module_number ≡ x.module_number)) m.2
      (λ sound e. local-sound exceptions' image good.good good.table m.0 m.1 own_name x y sound e) (sound-at (labelled_image image main) x c sound at) e

pub steps-sound : LocalStepsAreSound
steps-sound exceptions' image main good = record {
  begins = λ k number port n c e.
      let m = module-of exceptions' image main good k c e in
      let x = begins-there exceptions' image good.good good.table m.0 m.1 own_name k number port n in (
        x.0,
        ap (option_and_then (λ c. code_begin own_name c k number (cell n (an_inport port) no_parts))) (e ∙ ap Some (sym m.2)) ∙ x.1,
        sound-in exceptions' image main good x.0 (labelled_code image m.0) (ap (slice_get (labelled_image image main).codes) x.4 ∙ e ∙ ap Some (sym m.2)) x.2,
        no-call exceptions' image main good x.0 (x.3).0,
      );
  steps = λ x y sound e.
      let c = chain-some (λ c. code_local_step own_name c x) (code_at (labelled_image image main) x) y e in
      let r = steps-well exceptions' image main good x y sound c.0 c.1 c.2 in (
        sound-in exceptions' image main good y c.0 (ap (slice_get (labelled_image image main).codes) r.2 ∙ c.1) r.0,
        no-call exceptions' image main good y (r.1).0 ∙ sym (no-call exceptions' image main good x (idle-before exceptions' image main good c.0 x y c.2)),
      );
  steps_there = λ limit x sound local. by limit x sound (code_at (labelled_image image main) x) refl local;
}
  where
    by : (limit : ℕ) (x : CodeState Name) → IsSoundCodeIn (labelled_image image main) x → (o : Option ReadyCode) → code_at (labelled_image image main) x ≡ o → IsTrue (is_local (ready_if limit x o)) → (y : CodeState Name) × (option_and_then (λ c. code_local_step own_name c x) o ≡ Some y)
    by limit x sound None at local = not_true local
    by limit x sound (Some c) at local =
        let m = module-of exceptions' image main good x.module_number c at in
        subst (λ c. IsLocallySoundCode c x → IsTrue (is_local (code_ready c limit x)) → (y : CodeState Name) × (code_local_step own_name c x ≡ Some y)) m.2
        (λ sound local. local-goes exceptions' image good.good good.table m.0 m.1 own_name limit x sound local) (sound-at (labelled_image image main) x c sound at) local
