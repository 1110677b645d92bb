-- Returns keep values sound.
use Rattle.std.proofs.Common.{◌≡◌, ℕ, List, [], ◌∷◌, ◌++◌, Bool, true, Option, Some, None, refl, sym, ap, ◌∙◌, subst}
use Rattle.std.specs.Prelude.{flat_map}
use Rattle.herm_model.specs.Lists.{IsIn, list_of}
use Rattle.herm_model.specs.Paths.{Path, Fact, path_of, is_at_or_below}
use Rattle.herm_model.specs.Types.{type_at}
use Rattle.herm_model.specs.Facts.{full_facts}
use Rattle.herm_model.specs.Statements.{Form, Return, ReturnBy}
use Rattle.herm_model.specs.FactsOfStatements.{parameters_at}
use Rattle.herm_model.specs.Calls.{shape_at, parameters_of, raises_of, returned_places, kept_for}
use Rattle.herm_model.specs.Outcomes.{Outcome, ok}
use Rattle.herm_model.specs.Values.{Cell, cell, cell_at, clear_at}
use Rattle.herm_model.specs.Finalising.{clear_all}
use Rattle.herm_model.proofs.Lists.{in-map_from, in-flat_map_from}
use Rattle.herm_model.proofs.Beginnings.{above-longer, below-trans}
use Rattle.herm_model.proofs.Options.{some-injective, none-not_some}
use Rattle.herm_journal.specs.Actions.{answer}
use Rattle.herm_forms.specs.Frames.{Name, Frame, goes, if_there, cleared, drop, finalise_at_once, taking, Taken, with_taken, take_all}
use Rattle.herm_journal.specs.Messages.{CellAction}
use Rattle.herm_forms.specs.ReturnForms.{return, give_back}
use Rattle.herm_forms.specs.Excess.{excess_over_full}
use Rattle.herm_forms.specs.Modules.{Module}
use Rattle.herm_forms.specs.laws.EdgeLaws.{AreSound, without, held_after}
use Rattle.herm_forms.specs.laws.CallLaws.{ReturnsKeepSound}
use Rattle.herm_forms.proofs.Arrived.{drop-variables}
use Rattle.herm_forms.proofs.SetValues.{clearing-sound}
use Rattle.herm_forms.proofs.forms.PlainForms.{same_body, same_outcome_of, never, same_facts, without-cond}
use Rattle.herm_forms.proofs.forms.Messages.{dropped-sound}
use Rattle.herm_forms.proofs.forms.ExcessDropped.{beyond-below}

-- behind what was taken nothing is left at its paths
pub taken-variables : (paths : List Path) (b : Frame Name) (t : Taken Name) → take_all paths b ≡ Some t → t.frame.variables ≡ clear_all paths b.variables
taken-variables [] b t e = ap (λ (t : Taken Name). t.frame.variables) (sym (some-injective e))
taken-variables (p ∷ paths) b t e = by (cell_at p b.variables) (λ u at. taken-variables paths (cleared p b) u at) e
  where
    Rest : Type 0
    Rest = (t : Taken Name) → take_all paths (cleared p b) ≡ Some t → t.frame.variables ≡ clear_all paths (clear_at p b.variables)

    more : (d : Cell Name) (x : Option (Taken Name)) → ((t : Taken Name) → x ≡ Some t → t.frame.variables ≡ clear_all paths (clear_at p b.variables)) → with_taken d x ≡ Some t → t.frame.variables ≡ clear_all paths (clear_at p b.variables)
    more d None on e = none-not_some e
    more d (Some u) on e = ap (λ (t : Taken Name). t.frame.variables) (sym (some-injective e)) ∙ on u refl

    by : (x : Option (Cell Name)) → Rest → elim x [ None ↦ None | Some d ↦ with_taken d (take_all paths (cleared p b)) ] ≡ Some t → t.frame.variables ≡ clear_all paths (clear_at p b.variables)
    by None on e = none-not_some e
    by (Some d) on e = more d (take_all paths (cleared p b)) on e

pub ended-variables : (d : Cell Name) (b : Frame Name) → (finalise_at_once d b).variables ≡ b.variables
ended-variables (cell n k ps) b = refl

-- A form that gives back parameters of the callmessage at a path, and takes away what is held there.
module _ (c : Module) (i : ℕ) (q : List ℕ) (has : Fact → Bool) (form : Form) (table : (f : Fact) → without (i ∷ q) has f ≡ held_after c.types c.variables form ok has f) (places : List ℕ) (b b' : Frame Name) (o : Outcome) (sound : AreSound c has b.variables) where
  abbrev given : List Path
  given = parameters_at c.types c.variables (i ∷ q) places

  abbrev lost : List Path
  lost = flat_map (λ p. excess_over_full c p b) given

  given-below : (p : Path) → IsIn p given → is_at_or_below (i ∷ q) p ≡ true
  given-below p h = let n = in-map_from (λ n. (i ∷ q) ++ n ∷ []) p places h in subst (λ p. is_at_or_below (i ∷ q) p ≡ true) (sym n.2) (above-longer (i ∷ q) (n.0 ∷ []))

  lost-below : (p : Path) → IsIn p lost → is_at_or_below (i ∷ q) p ≡ true
  lost-below p h =
      let x = in-flat_map_from (λ p. excess_over_full c p b) p given h in
      let within = beyond-below c.types (type_at c.types c.variables x.0) (list_of (λ t. full_facts c.types t (0 ∷ [])) (type_at c.types c.variables x.0)) x.0 b p x.2 in
      below-trans (i ∷ q) x.0 p (given-below x.0 x.1) within

  left-sound : (t : Taken Name) → take_all given (drop lost b) ≡ Some t → AreSound c (held_after c.types c.variables form ok has) (clear_at (i ∷ q) t.frame.variables)
  left-sound t at =
      let first = dropped-sound c i q lost lost-below has b.variables sound in
      let second = dropped-sound c i q given given-below first.left (clear_all lost b.variables) first.sound in
      let is = taken-variables given (drop lost b) t at ∙ ap (clear_all given) (drop-variables lost b) in
      subst (λ ps. AreSound c (held_after c.types c.variables form ok has) (clear_at (i ∷ q) ps)) (sym is)
      (same_facts c (without (i ∷ q) second.left) (held_after c.types c.variables form ok has) (clear_at (i ∷ q) (clear_all given (clear_all lost b.variables)))
      (λ f. second.same f ∙ first.same f ∙ table f)
      (clearing-sound c second.left i q (clear_all given (clear_all lost b.variables)) second.sound))

  ended : (t : Taken Name) → AreSound c (held_after c.types c.variables form ok has) (clear_at (i ∷ q) t.frame.variables) → (x : Option (Cell Name)) → if_there (λ d. goes ok (finalise_at_once d (cleared (i ∷ q) t.frame))) x ≡ goes o b'
      → AreSound c (held_after c.types c.variables form o has) b'.variables
  ended t left None is = never o b' is
  ended t left (Some d) is =
      let behind = finalise_at_once d (cleared (i ∷ q) t.frame) in
      subst (λ o. AreSound c (held_after c.types c.variables form o has) b'.variables) (same_outcome_of ok o behind b' is)
      (subst (λ (b : Frame Name). AreSound c (held_after c.types c.variables form ok has) b.variables) (same_body ok o behind b' is)
      (subst (AreSound c (held_after c.types c.variables form ok has)) (sym (ended-variables d (cleared (i ∷ q) t.frame))) left))

  given-kept : (x : Option (Taken Name)) → take_all given (drop lost b) ≡ x → if_there (λ (t : Taken Name). taking (i ∷ q) (λ d b. goes ok (finalise_at_once d b)) t.frame) x ≡ goes o b' → AreSound c (held_after c.types c.variables form o has) b'.variables
  given-kept None at is = never o b' is
  given-kept (Some t) at is = ended t (left-sound t at) (cell_at (i ∷ q) t.frame.variables) is

  return-kept : (action : CellAction Name) → return (give_back lost given b) (i ∷ q) action ≡ goes o b' → AreSound c (held_after c.types c.variables form o has) b'.variables
  return-kept (answer k r) is = given-kept (take_all given (drop lost b)) refl is
  return-kept action is = never o b' is

pub returns-keep : (c : Module) → ReturnsKeepSound c
returns-keep c = record {
  plain = λ i q name place action has b b' o sound is.
      return-kept c i q has (Return (i ∷ q)) (λ f. without-cond (is_at_or_below (i ∷ q) (path_of f)) (has f)) (returned_places 0 (list_of parameters_of (shape_at c.types c.variables (i ∷ q)))) b b' o sound action is;
  by_exception = λ i q e name place action has b b' o sound is.
      return-kept c i q has (ReturnBy (i ∷ q) e) (λ f. without-cond (is_at_or_below (i ∷ q) (path_of f)) (has f)) (kept_for (list_of raises_of (shape_at c.types c.variables (i ∷ q))) e) b b' o sound action is;
}
