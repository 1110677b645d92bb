-- Moves from any path to any path keep values sound.
use Rattle.std.proofs.Common.{◌≡◌, ℕ, List, [], ◌∷◌, ◌++◌, Bool, false, Option, Some, None, refl, sym, ap, ◌∙◌}
use Rattle.std.specs.Prelude.{IsTrue}
use Rattle.herm_model.specs.Lists.{IsIn, any_pass, list_of}
use Rattle.herm_model.specs.Paths.{Fact, path_of, same_fact, is_at_or_below}
use Rattle.herm_model.specs.Types.{type_at, passes_component, is_within_depth, greatest_depth}
use Rattle.herm_model.specs.Facts.{full_facts}
use Rattle.herm_model.specs.Statements.{Move}
use Rattle.herm_model.specs.FactsOfStatements.{room_for, full, closed, needs}
use Rattle.herm_model.specs.Outcomes.{Outcome, ok}
use Rattle.herm_model.specs.Values.{Cell, cell_at, has_place}
use Rattle.herm_model.proofs.Lists.{in-append_right}
use Rattle.herm_model.proofs.Typing.{full-typed}
use Rattle.herm_forms.specs.Frames.{Name, Frame, goes, if_there, cleared, drop, putting}
use Rattle.herm_forms.specs.Excess.{excess_over_full}
use Rattle.herm_forms.specs.Modules.{Module}
use Rattle.herm_forms.specs.laws.EdgeLaws.{AreSound, without, held_after}
use Rattle.herm_forms.specs.laws.TargetLaws.{MovesKeepSound}
use Rattle.herm_forms.proofs.forms.PlainForms.{never}
use Rattle.herm_forms.proofs.forms.ToldFacts.{in-closed}
use Rattle.herm_forms.proofs.forms.SetTargets.{put-made, there-direct, in-full, full-makes}
use Rattle.herm_forms.proofs.forms.ExcessDropped.{source-taken, no-source, below-source, source-full}
use Rattle.herm_forms.proofs.forms.HeldContents.{gone-cond}

module _ (c : Module) (i : ℕ) (q : List ℕ) (j : ℕ) (r : List ℕ) (t : ℕ) (from : type_at c.types c.variables (i ∷ q) ≡ Some t) (to : type_at c.types c.variables (j ∷ r) ≡ Some t) (deep : IsTrue (is_within_depth greatest_depth c.types t))
    (has : Fact → Bool) (b : Frame Name) (sound : AreSound c has b.variables) (needed : (f : Fact) → IsIn f (needs c.types c.variables (Move (i ∷ q) (j ∷ r))) → IsTrue (has f)) where
  source-facts : passes_component c.types c.variables (i ∷ q) ≡ false → (f : Fact) → IsIn f (full_facts c.types t (i ∷ q)) → IsTrue (has f)
  source-facts direct f h =
      let room = room_for c.types c.variables (j ∷ r) in
      needed f (in-closed c.types c.variables (room ++ full c.types c.variables (i ∷ q)) f (in-append_right f room (full c.types c.variables (i ∷ q)) (in-full c i q t from direct f h)))

  moved : (o : Outcome) (b' : Frame Name) (x : Option (Cell Name)) → cell_at (i ∷ q) b.variables ≡ x
      → if_there (λ d. putting (j ∷ r) ok d (cleared (i ∷ q) (drop (excess_over_full c (i ∷ q) b) b))) (cell_at (i ∷ q) (drop (excess_over_full c (i ∷ q) b) b).variables) ≡ goes o b'
      → AreSound c (held_after c.types c.variables (Move (i ∷ q) (j ∷ r)) o has) b'.variables
  moved o b' None at is =
      let none : cell_at (i ∷ q) (drop (excess_over_full c (i ∷ q) b) b).variables ≡ None = ap (λ lost. cell_at (i ∷ q) (drop lost b).variables) (no-source c i q has b sound (type_at c.types c.variables (i ∷ q)) (list_of (λ t. full_facts c.types t (0 ∷ [])) (type_at c.types c.variables (i ∷ q))) at) ∙ at in
      never o b' (sym (ap (if_there (λ d. putting (j ∷ r) ok d (cleared (i ∷ q) (drop (excess_over_full c (i ∷ q) b) b)))) none) ∙ is)
  moved o b' (Some d) at is =
      let s = source-full c i q has b sound t from deep (source-facts (there-direct c i q b.variables d sound.types at)) d at in
      let cut = cleared (i ∷ q) (drop (excess_over_full c (i ∷ q) b) b) in
      let made = full c.types c.variables (j ∷ r) in
      put-made c j r t to s.0 (full-typed c.types t s.0 s.2) made (full-makes c j r t to deep s.0 s.2) (Move (i ∷ q) (j ∷ r)) ok has (without (i ∷ q) has)
      (λ f. gone-cond (any_pass (same_fact f) (closed c.types c.variables made)) (is_at_or_below (j ∷ r) (path_of f)) (is_at_or_below (i ∷ q) (path_of f)) (has f))
      cut b' o (source-taken c i q has b sound (excess_over_full c (i ∷ q) b) (below-source c i q has b sound t from)) (has_place cut.variables (j ∷ r)) refl
      (sym (ap (if_there (λ d. putting (j ∷ r) ok d cut)) s.1) ∙ is)

pub moves-keep : MovesKeepSound
moves-keep c i q j r t from to deep name statement has b b' o sound needed is =
    moved c i q j r t from to deep has b sound needed o b' (cell_at (i ∷ q) b.variables) refl is
