-- A message that is taken out of its place is what its put wants, and leaves what the placed message leaves.
use Rattle.std.proofs.Common.{◌≡◌, ℕ, Option, Some, None, option_map, option_and_then, refl, sym, ap, ◌∙◌}
use Rattle.std.specs.Prelude.{⊤}
use Rattle.herm_model.specs.Outcomes.{ok}
use Rattle.herm_model.specs.Values as model
use Rattle.herm_journal.specs.Actions.{to_put}
use Rattle.herm_journal.specs.Messages.{CellWant}
use Rattle.herm_forms.specs.Frames.{Frame, goes, if_there}
use Rattle.herm_values.specs.View.{value_view}
use Rattle.herm_values.specs.declared.value.Value.{Value}
use Rattle.herm_frames.specs.Completed.{Completes}
use Rattle.herm_frames.specs.HeldFrames.{HeldFrame}
use Rattle.herm_frames.specs.Standing.{Stands}

abbrev pub want_to : Option model.Value → ℕ → Option (CellWant ⊤)
want_to x p = option_map (to_put p) x

abbrev pub want_for : Option Value → ℕ → Option (CellWant ⊤)
want_for r p = option_map (λ v. to_put p (value_view v)) r

by_message : (r : Option Value) (o : Option ℕ) → option_and_then (want_to (option_map value_view r)) o ≡ option_and_then (want_for r) o
by_message None None = refl
by_message None (Some p) = refl
by_message (Some v) None = refl
by_message (Some v) (Some p) = refl

pub sent_wanted : (r : Option Value) (x : Option model.Value) (o : Option ℕ) → option_map value_view r ≡ x → option_and_then (want_to x) o ≡ option_and_then (want_for r) o
sent_wanted r x o is = ap (λ y. option_and_then (want_to y) o) (sym is) ∙ by_message r o

pub sent_placed : (r : Option Value) (x : Option model.Value) (f : HeldFrame) (b : Frame ⊤) → option_map value_view r ≡ x → Stands f b → Completes (option_map (λ (v : Value). ok) r) f (if_there (λ c. goes ok b) x)
sent_placed None x f b is h = ap (λ y. if_there (λ (c : model.Value). goes ok b) y) (sym is)
sent_placed (Some v) x f b is h = (b, ap (λ y. if_there (λ (c : model.Value). goes ok b) y) (sym is), h)
