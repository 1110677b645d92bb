-- Statements that are local steps: their pieces, and where their fronts lead.
use Rattle.std.proofs.Common.{◌≡◌, inl, inr, ℕ, ◌+◌, List, [], ◌∷◌, length, false, Option, Some, None, slice_get, refl, ap, ◌∙◌}
use Rattle.std.specs.Prelude.{⊤}
use Rattle.herm_model.specs.Lists.{IsIn, map_or}
use Rattle.herm_model.specs.Paths.{Fact}
use Rattle.herm_model.specs.Types.{Shape, fields, rows, type_at}
use Rattle.herm_model.specs.Calls.{shape_at}
use Rattle.herm_model.specs.Outcomes.{Outcome, done}
use Rattle.herm_model.specs.Statements.{Form, Assign, Move, New, Discard, Unite, Dissolve, Reveal, Case, Wrap, Unwrap, Insert, Remove, Get, For, Connect, If, While, Raise, Leave}
use Rattle.herm_model.specs.Values.{Name}
use Rattle.herm_model.proofs.Options.{chain-some}
use Rattle.herm_forms.specs.Acts.{act, new_value}
use Rattle.herm_forms.specs.Frames.{Frame, goes}
use Rattle.herm_forms.specs.LoopForms.{rows_for}
use Rattle.herm_instructions.specs.Actions.{is_inport_shape, is_action as instruction_acts}
use Rattle.herm_instructions.specs.Instructions
use Rattle.herm_instructions.specs.Instructions.{Instruction}
use Rattle.herm_code_machine.specs.ReadyCode.{ReadyCode}
use Rattle.herm_translated.specs.Fronts.{front, type_of}
use Rattle.herm_simulation.specs.FrontsInPlace.{LeadsOut}
use Rattle.herm_simulation.proofs.DoneFronts.{fronts-do_forms, stuck-goes}
use Rattle.herm_simulation.proofs.PiecesBegin.{IsLocalRow, behind-local, one-local, expression-local, atoms-local}

abbrev pub IsLoop : Form → Type 0
IsLoop (For r t) = ⊤
IsLoop form = ⊥

abbrev pub IsLeave : Form → Type 0
IsLeave Leave = ⊤
IsLeave form = ⊥

module _ (name : Name → Name) (c : ReadyCode) (number : ℕ) where
  -- the rows of a `for` are still to be copied, or are there
  abbrev pub IsUnlisted : Form → Frame Name → Type 0
  IsUnlisted form b = IsLoop form → rows_for number b.loops ≡ None

  -- from the first instruction of the front
  pub front-leads : (form : Form) → LeadsOut name c number form 0 (IsUnlisted form)
  front-leads (Assign x e) facts first exit_at at k b b' o where' is among = (fronts-do_forms name c number).assign x e facts first exit_at at k b b' o tt is among
  front-leads (Move y x) facts first exit_at at k b b' o where' is among = (fronts-do_forms name c number).move y x facts first exit_at at k b b' o tt is among
  front-leads (New x) facts first exit_at at k b b' o where' is among = (fronts-do_forms name c number).new x facts first exit_at at k b b' o tt is among
  front-leads (Discard x) facts first exit_at at k b b' o where' is among = (fronts-do_forms name c number).discard x facts first exit_at at k b b' o tt is among
  front-leads (Unite v d y) facts first exit_at at k b b' o where' is among = (fronts-do_forms name c number).unite v d y facts first exit_at at k b b' o tt is among
  front-leads (Dissolve v d y) facts first exit_at at k b b' o where' is among = (fronts-do_forms name c number).dissolve v d y facts first exit_at at k b b' o tt is among
  front-leads (Reveal v d) facts first exit_at at k b b' o where' is among = (fronts-do_forms name c number).reveal v d facts first exit_at at k b b' o tt is among
  front-leads (Case v ds) facts first exit_at at k b b' o where' is among = (fronts-do_forms name c number).choose v ds facts first exit_at at k b b' o tt is among
  front-leads (Wrap y p) facts first exit_at at k b b' o where' is among = (fronts-do_forms name c number).wrap y p facts first exit_at at k b b' o tt is among
  front-leads (Unwrap p t y) facts first exit_at at k b b' o where' is among = (fronts-do_forms name c number).unwrap p t y facts first exit_at at k b b' o tt is among
  front-leads (Insert r t) facts first exit_at at k b b' o where' is among = (fronts-do_forms name c number).insert r t facts first exit_at at k b b' o tt is among
  front-leads (Remove r t keys) facts first exit_at at k b b' o where' is among = (fronts-do_forms name c number).remove r t keys facts first exit_at at k b b' o tt is among
  front-leads (Get r t keys) facts first exit_at at k b b' o where' is among = (fronts-do_forms name c number).get r t keys facts first exit_at at k b b' o tt is among
  front-leads (For r t) facts first exit_at at k b b' o where' is among = (fronts-do_forms name c number).first_visit r t facts first exit_at at k b b' o (where' tt) is among
  front-leads (Connect q i) facts first exit_at at k b b' o where' is among = (fronts-do_forms name c number).connect q i facts first exit_at at k b b' o tt is among
  front-leads (If e) facts first exit_at at k b b' o where' is among = (fronts-do_forms name c number).if_test e facts first exit_at at k b b' o tt is among
  front-leads (While e) facts first exit_at at k b b' o where' is among = (fronts-do_forms name c number).while_test e facts first exit_at at k b b' o tt is among
  front-leads (Raise e) facts first exit_at at k b b' o where' is among = (fronts-do_forms name c number).raise e facts first exit_at at k b b' o tt is among
  front-leads Leave facts first exit_at at k b b' o where' is among = (fronts-do_forms name c number).leave facts first exit_at at k b b' o tt is among
  front-leads form facts first exit_at at k b b' o where' is among = stuck-goes o b' is

  -- a front of a form that is a local step has no action, and more than operands
  pub front-local : (form : Form) → (IsLeave form → ⊥) → (facts : List Fact) (first : ℕ) (exit_at : Outcome → ℕ) (b b' : Frame Name) (o : Outcome) → act name c.scope number form b ≡ goes o b'
      → IsLocalRow c.scope.types (front c.scope.types c.scope.variables c.constants facts number first exit_at form)
  front-local (Assign x e) other facts first exit_at b b' o is = expression-local c.scope.types c.constants e (Instructions.Store x) refl refl
  front-local (Move y x) other facts first exit_at b b' o is = one-local c.scope.types (Instructions.Move y x) refl refl
  front-local (New x) other facts first exit_at b b' o is = one-local c.scope.types (Instructions.New x (type_of c.scope.types c.scope.variables x)) (by (shape_at c.scope.types c.scope.variables x) refl is) refl
    where
      plain : (s : Shape) → shape_at c.scope.types c.scope.variables x ≡ Some s → is_inport_shape s ≡ false → map_or false is_inport_shape (slice_get c.scope.types (type_of c.scope.types c.scope.variables x)) ≡ false
      plain s e none =
          let t = chain-some (slice_get c.scope.types) (type_at c.scope.types c.scope.variables x) s e in
          let same : type_of c.scope.types c.scope.variables x ≡ t.0 = ap (map_or 0 (λ t. t)) t.1 in
          ap (λ t. map_or false is_inport_shape (slice_get c.scope.types t)) same ∙ ap (map_or false is_inport_shape) t.2 ∙ none

      by : (s : Option Shape) → shape_at c.scope.types c.scope.variables x ≡ s → new_value name s x b ≡ goes o b' → map_or false is_inport_shape (slice_get c.scope.types (type_of c.scope.types c.scope.variables x)) ≡ false
      by (Some (fields ts)) e h = plain (fields ts) e refl
      by (Some (rows row key)) e h = plain (rows row key) e refl
      by s e h = stuck-goes o b' h
  front-local (Discard x) other facts first exit_at b b' o is = one-local c.scope.types (Instructions.Discard x) refl refl
  front-local (Unite v d y) other facts first exit_at b b' o is = one-local c.scope.types (Instructions.Unite v d y) refl refl
  front-local (Dissolve v d y) other facts first exit_at b b' o is = one-local c.scope.types (Instructions.Dissolve v d y) refl refl
  front-local (Reveal v d) other facts first exit_at b b' o is = one-local c.scope.types (Instructions.Reveal v d) refl refl
  front-local (Case v ds) other facts first exit_at b b' o is = one-local c.scope.types _ refl refl
  front-local (Wrap y p) other facts first exit_at b b' o is = one-local c.scope.types (Instructions.Wrap y (type_of c.scope.types c.scope.variables y) p) refl refl
  front-local (Unwrap p t y) other facts first exit_at b b' o is = one-local c.scope.types (Instructions.Unwrap p t y) refl refl
  front-local (Insert r t) other facts first exit_at b b' o is = one-local c.scope.types (Instructions.Insert r t) refl refl
  front-local (Remove r t keys) other facts first exit_at b b' o is = atoms-local c.scope.types c.constants keys (Instructions.Remove r t (length keys)) refl refl
  front-local (Get r t keys) other facts first exit_at b b' o is = atoms-local c.scope.types c.constants keys (Instructions.Get r t (length keys)) refl refl
  front-local (For r t) other facts first exit_at b b' o is =
      behind-local c.scope.types (Instructions.LoopStart t number ∷ Instructions.Jump (first + 3) ∷ Instructions.Step ∷ []) (Instructions.LoopNext r number (exit_at done)) each refl refl
    where
      each : (y : Instruction) → IsIn y (Instructions.LoopStart t number ∷ Instructions.Jump (first + 3) ∷ Instructions.Step ∷ []) → instruction_acts c.scope.types y ≡ false
      each y (inl e) = ap (instruction_acts c.scope.types) e
      each y (inr (inl e)) = ap (instruction_acts c.scope.types) e
      each y (inr (inr (inl e))) = ap (instruction_acts c.scope.types) e
      each y (inr (inr (inr m))) = absurd m
  front-local (Connect q i) other facts first exit_at b b' o is = one-local c.scope.types (Instructions.Connect q i) refl refl
  front-local (If e) other facts first exit_at b b' o is = expression-local c.scope.types c.constants e _ refl refl
  front-local (While e) other facts first exit_at b b' o is = expression-local c.scope.types c.constants e _ refl refl
  front-local (Raise e) other facts first exit_at b b' o is = one-local c.scope.types (Instructions.Raise e) refl refl
  front-local Leave other facts first exit_at b b' o is = absurd (other tt)
  front-local form other facts first exit_at b b' o is = stuck-goes o b' is
