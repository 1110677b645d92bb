-- What is counted while an order is out.
use Rattle.std.proofs.Common.{◌≡◌, ℕ, List, Bool, true, false, Some, option_map, map, flat_map, sym, ap, subst, ◌∙◌}
use Rattle.std.specs.Prelude.{⊤}
use Rattle.herm_model.specs.Paths.{Path}
use Rattle.herm_model.specs.Values.{Value}
use Rattle.herm_model.proofs.Options.{some-injective}
use Rattle.herm_journal.specs.Renaming.{forget_name}
use Rattle.herm_forms.specs.Callmessages.{Composed}
use Rattle.herm_forms.specs.Frames.{Frame, Taken, cleared, counted_action, drop, take_all}
use Rattle.herm_forms.proofs.Counting.{recount, recount_composed, recount_taken, recount-compose, recount-drop, recount-take_all}
use Rattle.herm_forms.specs.Acts.{given_at, given_back}
use Rattle.herm_forms.specs.Excess.{excess_over_full}
use Rattle.herm_forms.specs.Modules.{Module}
use Rattle.herm_instructions.specs.Images.{Image}
use Rattle.herm_instructions.specs.Instructions as i
use Rattle.herm_instructions.specs.Instructions.{Argument}
use Rattle.herm_code_machine.specs.CodeActions.{composed_of, inouts, kept_parameters, mode_of}
use Rattle.herm_code_machine.specs.CodeStates.{CodeState}
use Rattle.herm_code_machine.specs.CodeSteps.{code_next, counted_if}
use Rattle.herm_code_machine.specs.ReadyCode.{ReadyCode}
use Rattle.herm_code_machine.specs.Stacks.{parts_from}
use Rattle.herm_frames.specs.HeldFrames.{HeldFrame}
use Rattle.herm_frames.specs.Standing.{Stands}
use Rattle.herm_steps.specs.Coming.{begins_with_step, coming}
use Rattle.herm_stack.specs.Answers.{on_stack}
use Rattle.herm_answers.specs.Orders.{IsGiven, IsLeft}
use Rattle.herm_machine.specs.Machines.{HasOut, IsOut, MachineState, code_of, counted_out}

-- the steps and actions of one are those of the other
pub record HasCountsOf (f : HeldFrame) (b : Frame ⊤) : Type 0 where
  pub steps : f.steps ≡ b.steps
  pub actions : f.actions ≡ b.actions

counts-of : (f : HeldFrame) (b b' : Frame ⊤) → Stands f b' → b'.steps ≡ b.steps → b'.actions ≡ b.actions → HasCountsOf f b
counts-of f b b' h steps actions = record { steps = sym h.steps ∙ steps; actions = sym h.actions ∙ actions }

dropped : (paths : List Path) (b : Frame ⊤) → drop paths b ≡ recount b.steps b.actions (drop paths b)
dropped paths b = recount-drop b.steps b.actions paths b

taken : (paths : List Path) (b b' : Frame ⊤) (t : Taken ⊤) → b' ≡ recount b.steps b.actions b' → take_all paths b' ≡ Some t → t ≡ recount_taken b.steps b.actions t
taken paths b b' t same e =
    some-injective (sym e ∙ ap (take_all paths) same ∙ recount-take_all b.steps b.actions paths b' ∙ ap (option_map (recount_taken b.steps b.actions)) e)

composed-counts : (c : ReadyCode) (arguments : List Argument) (inputs : List Value) (b : Frame ⊤) (k : Composed ⊤) (f : HeldFrame) → composed_of forget_name c arguments inputs b ≡ Some k → Stands f (record (k.frame) { call = Some k.call }) → HasCountsOf f b
composed-counts c arguments inputs b k f e h =
    let lost = flat_map (λ p. excess_over_full c.scope p b) (inouts arguments) in
    let same : k ≡ recount_composed b.steps b.actions k =
    some-injective (sym e ∙ recount-compose b.steps b.actions forget_name (map mode_of arguments) (parts_from inputs) lost (inouts arguments) b ∙ ap (option_map (recount_composed b.steps b.actions)) e) in
    counts-of f b (record (k.frame) { call = Some k.call }) h (ap (λ (k : Composed ⊤). k.frame.steps) same) (ap (λ (k : Composed ⊤). k.frame.actions) same)

given-counts : (scope : Module) (paths : List Path) (b : Frame ⊤) (m : Path) (f : HeldFrame) → IsGiven (given_back scope paths b) m f → HasCountsOf f b
given-counts scope paths b m f g =
    let lost = flat_map (λ p. excess_over_full scope p b) paths in
    let same = taken paths b (drop lost b) g.0 (dropped lost b) g.2 in
    counts-of f b (g.0).frame g.4 (ap (λ (t : Taken ⊤). t.frame.steps) same) (ap (λ (t : Taken ⊤). t.frame.actions) same)

left-counts : (c : ReadyCode) (x : i.Instruction) (before : List Value) (b : Frame ⊤) (stack : List Value) (f : HeldFrame) → IsLeft c x before b stack f → HasCountsOf f b
left-counts c (i.Send x o trim) before b stack f h =
    counts-of f b (cleared x (drop trim b)) h.3 (ap (λ (b : Frame ⊤). b.steps) (dropped trim b)) (ap (λ (b : Frame ⊤). b.actions) (dropped trim b))
left-counts c (i.Call o arguments keeps) before b stack f h = composed-counts c arguments (h.0).values b h.1 f h.4 h.5
left-counts c (i.Return m) before b stack f h = given-counts c.scope (given_at c.scope m) b m f h.1
left-counts c (i.ReturnBy m e kept) before b stack f h = given-counts c.scope (kept_parameters c m kept) b m f h.1
left-counts c x before b stack f h = absurd h

pub out-counts : (image : Image) (main : ℕ) (m : MachineState) (s : CodeState ⊤) → HasOut image main m s → HasCountsOf m.held.frame (counted_out m.is_front (coming (code_next (code_of m) s)) s.frame)
out-counts image main m s h = by m.is_front h.out
  where
    by : (front : Bool) → IsOut front (code_of m) m.held s → HasCountsOf m.held.frame (counted_out front (coming (code_next (code_of m) s)) s.frame)
    by true o = record { steps = sym o.0.frame.steps; actions = sym o.0.frame.actions }
    by false o =
        subst (λ n. HasCountsOf m.held.frame (counted_action (counted_if (begins_with_step (coming n)) s.frame))) (sym o.next)
        (left-counts (code_of m) o.met.instruction o.before (counted_action (counted_if o.piece.has_step s.frame)) (on_stack m.held.stack) m.held.frame o.left)
