-- The forms that set no value keep values sound.
use Rattle.std.proofs.Common.{◌≡◌, ℕ, List, ◌∷◌, Bool, true, false, cond, not, ◌&&◌, ◌||◌, Option, Some, None, refl, ap, subst}
use mathlib.Core.Path.{fun_ext}
use mathlib.Core.Bool.{false≢true}
use Rattle.herm_model.specs.Paths.{Fact, path_of, is_at_or_below}
use Rattle.herm_model.specs.Statements.{Discard}
use Rattle.herm_model.specs.Outcomes.{Outcome, ok, is_true, is_false, raised}
use Rattle.herm_model.specs.Values.{a_boolean, a_scalar, Cell, cell, Parts, cell_at, Value}
use Rattle.herm_forms.specs.Evaluate.{Evaluated, gives, raises, no_value, evaluate}
use Rattle.herm_forms.specs.Frames.{Name, Frame, Completion, goes, stuck, if_there, finalise, cleared}
use Rattle.herm_forms.specs.Forms.{with_value, tested}
use Rattle.herm_forms.specs.Modules.{Module}
use Rattle.herm_forms.specs.laws.EdgeLaws.{AreSound, without, held_after, PlainFormsAreSound}
use Rattle.herm_forms.proofs.SetValues.{clearing-sound}

abbrev is_going : Completion Name → Bool
is_going (goes o b) = true
is_going _ = false

abbrev variables_of : Frame Name → Completion Name → Frame Name
variables_of b (goes o b') = b'
variables_of b _ = b

-- the body behind a result
pub same_body : (o o' : Outcome) (b b' : Frame Name) → goes o b ≡ goes o' b' → b ≡ b'
same_body o o' b b' e = ap (variables_of b) e

pub same_outcome_of : (o o' : Outcome) (b b' : Frame Name) → goes o b ≡ goes o' b' → o ≡ o'
same_outcome_of o o' b b' e = ap (outcome_or o) e
  where
    outcome_or : Outcome → Completion Name → Outcome
    outcome_or q (goes o b) = o
    outcome_or q _ = q

pub never : {A : Type 0} (o : Outcome) (b : Frame Name) → stuck ≡ goes o b → A
never o b e = absurd (false≢true (ap is_going e))

tested-body : (v : Value) (b b' : Frame Name) (o : Outcome) → tested v b ≡ goes o b' → b ≡ b'
tested-body (cell n (a_scalar (a_boolean true)) ps) b b' o e = same_body is_true o b b' e
tested-body (cell n (a_scalar (a_boolean false)) ps) b b' o e = same_body is_false o b b' e
tested-body v b b' o e = never o b' e

test-body : (v : Evaluated) (b b' : Frame Name) (o : Outcome) → with_value tested v b ≡ goes o b' → b ≡ b'
test-body (gives v) b b' o e = tested-body v b b' o e
test-body (raises x) b b' o e = same_body (raised x) o b b' e
test-body no_value b b' o e = never o b' e

pub without-cond : (t h : Bool) → not t && h ≡ cond (t || false) false h
without-cond true h = refl
without-cond false h = refl

module _ (c : Module) where
  pub same_facts : (has other : Fact → Bool) (ps : Parts Name) → ((f : Fact) → has f ≡ other f) → AreSound c has ps → AreSound c other ps
  same_facts has other ps e sound = subst (λ h. AreSound c h ps) (fun_ext e) sound

  discarded : (i : ℕ) (q : List ℕ) (has : Fact → Bool) (b b' : Frame Name) (o : Outcome) (x : Option (Cell Name)) → AreSound c has b.variables
      → if_there (λ d. goes ok (finalise d (cleared (i ∷ q) b))) x ≡ goes o b' → AreSound c (held_after c.types c.variables (Discard (i ∷ q)) o has) b'.variables
  discarded i q has b b' o None sound e = never o b' e
  discarded i q has b b' o (Some d) sound e =
      let there : finalise d (cleared (i ∷ q) b) ≡ b' = same_body ok o (finalise d (cleared (i ∷ q) b)) b' e in
      let gone = same_facts (without (i ∷ q) has) (held_after c.types c.variables (Discard (i ∷ q)) ok has) (cleared (i ∷ q) b).variables
      (λ f. without-cond (is_at_or_below (i ∷ q) (path_of f)) (has f)) (clearing-sound c has i q b.variables sound) in
      subst (λ o. AreSound c (held_after c.types c.variables (Discard (i ∷ q)) o has) b'.variables) (same_outcome_of ok o (finalise d (cleared (i ∷ q) b)) b' e)
      (subst (λ (b : Frame Name). AreSound c (held_after c.types c.variables (Discard (i ∷ q)) ok has) b.variables) there gone)

pub plain-forms-sound : (c : Module) → PlainFormsAreSound c
plain-forms-sound c = record {
  discard = λ i q name s has b b' o sound e. discarded c i q has b b' o (cell_at (i ∷ q) b.variables) sound e;
  if_test = λ x name s has b b' o sound e. subst (λ (b : Frame Name). AreSound c has b.variables) (test-body (evaluate b.variables x) b b' o e) sound;
  while_test = λ x name s has b b' o sound e. subst (λ (b : Frame Name). AreSound c has b.variables) (test-body (evaluate b.variables x) b b' o e) sound;
  raise = λ x name s has b b' o sound e. subst (λ (b : Frame Name). AreSound c has b.variables) (same_body (raised x) o b b' e) sound;
  leave = λ name s has b b' o sound e. subst (λ (b : Frame Name). AreSound c has b.variables) (same_body ok o b b' e) sound;
}
