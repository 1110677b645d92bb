-- Messages that were placed keep values sound.
use Rattle.std.proofs.Common.{◌≡◌, inl, inr, ℕ, List, [], ◌∷◌, map, Bool, true, false, not, ◌&&◌, Option, Some, None, refl, sym, ◌∙◌, subst}
use mathlib.Core.Bool.{false≢true}
use Rattle.herm_model.specs.Lists.{IsIn, any_pass, list_of}
use Rattle.herm_model.specs.Paths.{Path, Fact, init, path_of, same_fact, is_at_or_below}
use Rattle.herm_model.specs.Types.{type_at}
use Rattle.herm_model.specs.Facts.{declared_facts}
use Rattle.herm_model.specs.Statements.{Send}
use Rattle.herm_model.specs.Outcomes.{Outcome, ok}
use Rattle.herm_model.specs.Values.{Cell, Parts, no_parts, part, has_value, cell_at, clear_at}
use Rattle.herm_model.specs.Finalising.{excess, clear_all}
use Rattle.herm_model.specs.Calls.{inport_at}
use Rattle.herm_model.proofs.Lists.{in-map_from}
use Rattle.herm_model.proofs.Beginnings.{below-self, above-longer, below-trans}
use Rattle.herm_forms.specs.Frames.{Name, Frame, goes, if_there, cleared, drop}
use Rattle.herm_forms.specs.Excess.{below, excess_over_declared}
use Rattle.herm_forms.specs.Modules.{Module}
use Rattle.herm_forms.specs.laws.EdgeLaws.{AreSound, without, held_after, SendsAreSound}
use Rattle.herm_forms.proofs.Arrived.{drop-variables}
use Rattle.herm_forms.proofs.SetValues.{clearing-sound}
use Rattle.herm_forms.proofs.forms.PlainForms.{same_body, same_outcome_of, never, same_facts, without-cond}

-- what a value holds beyond its facts is below it
pub in-list_of : {X : Type 0} (g : X → List Path) (o : Option X) (p : Path) → IsIn p (list_of g o) → (x : X) × IsIn p (g x)
in-list_of g None p h = absurd h
in-list_of g (Some x) p h = (x, h)

pub below-is : (x p : Path) → is_at_or_below x (below x p) ≡ true
below-is x [] = below-self x
below-is x (v ∷ q) = above-longer x q

pub beyond-below : (c : Module) (to x : Path) (b : Frame Name) (p : Path) → IsIn p (excess_over_declared c to x b) → is_at_or_below x p ≡ true
beyond-below c to x b p h =
    let d = in-list_of (λ (d : Cell Name). list_of (λ u. map (below x) (excess c.types (u ∷ []) (has_value (part d no_parts)) (λ p. any_pass (same_fact (init p)) (list_of (λ t. declared_facts c.types t (0 ∷ [])) (inport_at c.types c.variables to))))) (type_at c.types c.variables x)) (cell_at x b.variables) p h in
    let u = in-list_of (λ (u : ℕ). map (below x) (excess c.types (u ∷ []) (has_value (part d.0 no_parts)) (λ p. any_pass (same_fact (init p)) (list_of (λ t. declared_facts c.types t (0 ∷ [])) (inport_at c.types c.variables to))))) (type_at c.types c.variables x) p d.1 in
    let q = in-map_from (below x) p (excess c.types (u.0 ∷ []) (has_value (part d.0 no_parts)) (λ p. any_pass (same_fact (init p)) (list_of (λ t. declared_facts c.types t (0 ∷ [])) (inport_at c.types c.variables to)))) u.1 in
    subst (λ p. is_at_or_below x p ≡ true) (sym q.2) (below-is x q.0)

without-twice : (a b h : Bool) → (b ≡ true → a ≡ true) → not a && (not b && h) ≡ not a && h
without-twice true b h on = refl
without-twice false true h on = absurd (false≢true (on refl))
without-twice false false h on = refl

module _ (c : Module) (i : ℕ) (q : List ℕ) where
  -- what is dropped below a path makes no difference once the path itself is cleared
  pub record Dropped (has : Fact → Bool) (ps : Parts Name) : Type 0 where
    pub left : Fact → Bool
    pub sound : AreSound c left ps
    pub same : (f : Fact) → without (i ∷ q) left f ≡ without (i ∷ q) has f

  pub dropped-sound : (lost : List Path) → ((p : Path) → IsIn p lost → is_at_or_below (i ∷ q) p ≡ true) → (has : Fact → Bool) (ps : Parts Name) → AreSound c has ps → Dropped has (clear_all lost ps)
  dropped-sound [] below has ps sound = record { left = has; sound = sound; same = λ f. refl }
  dropped-sound ([] ∷ lost) below has ps sound = absurd (false≢true (below [] (inl refl)))
  dropped-sound ((j ∷ r) ∷ lost) below has ps sound =
      let d = dropped-sound lost (λ p h. below p (inr h)) (without (j ∷ r) has) (clear_at (j ∷ r) ps) (clearing-sound c has j r ps sound) in
      record {
        left = d.left;
        sound = d.sound;
        same = λ f. d.same f ∙ without-twice (is_at_or_below (i ∷ q) (path_of f)) (is_at_or_below (j ∷ r) (path_of f)) (has f) (λ at. below-trans (i ∷ q) (j ∷ r) (path_of f) (below (j ∷ r) (inl refl)) at);
      }

  sent-sound : (to : Path) (has : Fact → Bool) (b b' : Frame Name) (o : Outcome) (lost : List Path) → ((p : Path) → IsIn p lost → is_at_or_below (i ∷ q) p ≡ true) → AreSound c has b.variables
      → (x : Option (Cell Name)) → if_there (λ d. goes ok (cleared (i ∷ q) (drop lost b))) x ≡ goes o b' → AreSound c (held_after c.types c.variables (Send (i ∷ q) to) o has) b'.variables
  sent-sound to has b b' o lost below sound None is = never o b' is
  sent-sound to has b b' o lost below sound (Some m) is =
      let d = dropped-sound lost below has b.variables sound in
      let gone = clearing-sound c d.left i q (clear_all lost b.variables) d.sound in
      let facts = same_facts c (without (i ∷ q) d.left) (held_after c.types c.variables (Send (i ∷ q) to) ok has) (clear_at (i ∷ q) (clear_all lost b.variables))
      (λ f. d.same f ∙ without-cond (is_at_or_below (i ∷ q) (path_of f)) (has f)) gone in
      let there = subst (λ ps. AreSound c (held_after c.types c.variables (Send (i ∷ q) to) ok has) (clear_at (i ∷ q) ps)) (sym (drop-variables lost b)) facts in
      subst (λ o. AreSound c (held_after c.types c.variables (Send (i ∷ q) to) o has) b'.variables) (same_outcome_of ok o (cleared (i ∷ q) (drop lost b)) b' is)
      (subst (λ (b : Frame Name). AreSound c (held_after c.types c.variables (Send (i ∷ q) to) ok has) b.variables) (same_body ok o (cleared (i ∷ q) (drop lost b)) b' is) there)

pub sends-sound : SendsAreSound
sends-sound c i q to has b b' o k message sound is =
    let lost = excess_over_declared c to (i ∷ q) b in
    sent-sound c i q to has b b' o lost (beyond-below c to (i ∷ q) b) sound (cell_at (i ∷ q) (drop lost b).variables) is
