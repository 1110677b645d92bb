-- The contents of variants and polymorphs that move to targets at any paths keep values sound.
use Rattle.std.proofs.Common.{◌≡◌, ℕ, List, ◌∷◌, Bool, true, false, cond, not, ◌&&◌, ◌||◌, Option, Some, None, refl, sym, ap, ◌∙◌, subst, nat_eq}
use Rattle.std.specs.Prelude.{slice_get, IsTrue}
use borrow.Author.Tests.{eqb-true}
use Rattle.herm_model.specs.Lists.{any_pass}
use Rattle.herm_model.specs.Paths.{Fact, path_of, same_fact, is_at_or_below}
use Rattle.herm_model.specs.Types.{TypeTable, Shape, cases, polymorph, type_at, type_below, is_within_depth, greatest_depth}
use Rattle.herm_model.specs.Statements.{Form, Dissolve, Unwrap}
use Rattle.herm_model.specs.FactsOfStatements.{full, closed}
use Rattle.herm_model.specs.Outcomes.{Outcome, ok, raised}
use Rattle.herm_model.specs.Values.{Kind, a_variant, a_polymorph, Cell, cell, Parts, no_parts, part, cell_at, has_place}
use Rattle.herm_model.specs.Typed.{partly, unfit, layout, one_whole, Fits, HasType, IsFull}
use Rattle.herm_model.proofs.Options.{some-injective, none-not_some}
use Rattle.herm_forms.specs.Frames.{Name, Frame, goes, if_there, finalise_name, cleared}
use Rattle.herm_forms.specs.Forms.{Opened, component_in, content_of, moving_content}
use Rattle.herm_forms.specs.Modules.{Module}
use Rattle.herm_forms.specs.laws.EdgeLaws.{AreSound, without, held_after}
use Rattle.herm_forms.specs.laws.ComponentLaws.{ContentsMove}
use Rattle.herm_forms.proofs.TypedReading.{typed-read}
use Rattle.herm_forms.proofs.SetValues.{clearing-sound}
use Rattle.herm_forms.proofs.forms.PlainForms.{same_body, same_outcome_of, never, same_facts}
use Rattle.herm_forms.proofs.forms.SetTargets.{put-full}

-- a cell of a known shape
shaped : (types : TypeTable) (u : ℕ) (s : Shape) (n : Name) (k : Kind) (ps : Parts Name) → slice_get types u ≡ Some s → HasType types u (cell n k ps) → Fits types (layout partly s k) ps
shaped types u s n k ps e h = subst (λ (o : Option Shape). Fits types (elim o [ None ↦ unfit | Some s ↦ layout partly s k ]) ps) e h.0

-- the content of a variant, and of a polymorph
component-full : (types : TypeTable) (u t k : ℕ) (ts : List ℕ) (d : Cell Name) (o : Opened Name) → slice_get types u ≡ Some (cases ts) → slice_get ts k ≡ Some t → HasType types u d → component_in k d ≡ Some o → IsFull types t o.content
component-full types u t k ts (cell n (a_variant m) (part content no_parts)) o shape at h is = by (nat_eq k m) refl is
  where
    by : (b : Bool) → nat_eq k m ≡ b → cond b (Some (record { name = n; content = content })) None ≡ Some o → IsFull types t o.content
    by true e is =
        let same : record { name = n; content = content } ≡ o = cc is in
        let found : slice_get ts m ≡ Some t = ap (slice_get ts) (sym (eqb-true k m e)) ∙ at in
        let fits = subst (λ (x : Option ℕ). Fits types (one_whole x) (part content no_parts)) found (shaped types u (cases ts) n (a_variant m) (part content no_parts) shape h) in
        subst (λ (o : Opened Name). IsFull types t o.content) same fits.0
    by false e is = none-not_some is
component-full types u t k ts d o shape at h is = none-not_some is

content-full : (types : TypeTable) (u t : ℕ) (d : Cell Name) (o : Opened Name) → slice_get types u ≡ Some polymorph → HasType types u d → content_of t d ≡ Some o → IsFull types t o.content
content-full types u t (cell n (a_polymorph m) (part content no_parts)) o shape h is = by (nat_eq t m) refl is
  where
    by : (b : Bool) → nat_eq t m ≡ b → cond b (Some (record { name = n; content = content })) None ≡ Some o → IsFull types t o.content
    by true e is =
        let same : record { name = n; content = content } ≡ o = cc is in
        let fits = shaped types u polymorph n (a_polymorph m) (part content no_parts) shape h in
        subst (λ (o : Opened Name). IsFull types t o.content) same (subst (λ t. IsFull types t content) (sym (eqb-true t m e)) fits.0)
    by false e is = none-not_some is
content-full types u t d o shape h is = none-not_some is

-- what is gone from a source and a target
pub gone-both : (m x y h : Bool) → cond m true (cond (x || false) false (not y && h)) ≡ cond m true (cond (y || (x || false)) false h)
gone-both true x y h = refl
gone-both false true true h = refl
gone-both false true false h = refl
gone-both false false true h = refl
gone-both false false false h = refl

-- the type of what is read at a path
pub typed-at : (c : Module) (has : Fact → Bool) (ps : Parts Name) → AreSound c has ps → (i : ℕ) (q : List ℕ) (u : ℕ) → type_at c.types c.variables (i ∷ q) ≡ Some u → (d : Cell Name) → cell_at (i ∷ q) ps ≡ Some d → HasType c.types u d
typed-at c has ps sound i q u type d at =
    let r = typed-read Name c.types c.variables i q ps d sound.types at in
    subst (λ t. HasType c.types t d) (some-injective (sym (ap (λ o. type_below c.types o q) r.there ∙ r.below) ∙ type)) r.typed

module _ (c : Module) (i : ℕ) (q : List ℕ) (j : ℕ) (r : List ℕ) (t u : ℕ) (source : type_at c.types c.variables (i ∷ q) ≡ Some u) (type : type_at c.types c.variables (j ∷ r) ≡ Some t) (deep : IsTrue (is_within_depth greatest_depth c.types t)) (form : Form)
    (has : Fact → Bool) (b : Frame Name) (sound : AreSound c has b.variables)
    (table : (f : Fact) → cond (any_pass (same_fact f) (closed c.types c.variables (full c.types c.variables (j ∷ r)))) true (cond (is_at_or_below (i ∷ q) (path_of f) || (is_at_or_below (j ∷ r) (path_of f) || false)) false (has f)) ≡ held_after c.types c.variables form ok has f) where
  -- the content is set, and what held it is gone
  content-set : (o : Opened Name) → IsFull c.types t o.content → (x : Outcome) (b' : Frame Name) → moving_content (j ∷ r) o (cleared (i ∷ q) b) ≡ goes x b' → AreSound c (held_after c.types c.variables form x has) b'.variables
  content-set o whole' x b' is =
      let cut : Frame Name = finalise_name o.name (cleared (i ∷ q) b) in
      put-full c j r t type deep form ok has (without (i ∷ q) has) o.content cut (clearing-sound c has i q b.variables sound) whole'
      (λ f. gone-both (any_pass (same_fact f) (closed c.types c.variables (full c.types c.variables (j ∷ r)))) (is_at_or_below (j ∷ r) (path_of f)) (is_at_or_below (i ∷ q) (path_of f)) (has f) ∙ table f)
      x b' (has_place cut.variables (j ∷ r)) refl is

  dissolved : (k : ℕ) → ((d : Cell Name) (o : Opened Name) → HasType c.types u d → component_in k d ≡ Some o → IsFull c.types t o.content) → (x : Outcome) (b' : Frame Name)
      → (y : Option (Cell Name)) → cell_at (i ∷ q) b.variables ≡ y → if_there (λ d. if_there (λ o. moving_content (j ∷ r) o (cleared (i ∷ q) b)) (component_in k d)) y ≡ goes x b' → AreSound c (held_after c.types c.variables form x has) b'.variables
  dissolved k full' x b' None at is = never x b' is
  dissolved k full' x b' (Some d) at is = opened (component_in k d) refl is
    where
      opened : (o : Option (Opened Name)) → component_in k d ≡ o → if_there (λ o. moving_content (j ∷ r) o (cleared (i ∷ q) b)) o ≡ goes x b' → AreSound c (held_after c.types c.variables form x has) b'.variables
      opened None e is = never x b' is
      opened (Some o) e is = content-set o (full' d o (typed-at c has b.variables sound i q u source d at) e) x b' is

  unwrapped : (mismatch : ℕ) → ((f : Fact) → has f ≡ held_after c.types c.variables form (raised mismatch) has f) → ((d : Cell Name) (o : Opened Name) → HasType c.types u d → content_of t d ≡ Some o → IsFull c.types t o.content) → (x : Outcome) (b' : Frame Name)
      → (y : Option (Cell Name)) → cell_at (i ∷ q) b.variables ≡ y
      → if_there (λ d. elim (content_of t d) [ None ↦ goes (raised mismatch) b | Some o ↦ moving_content (j ∷ r) o (cleared (i ∷ q) b) ]) y ≡ goes x b' → AreSound c (held_after c.types c.variables form x has) b'.variables
  unwrapped mismatch same full' x b' None at is = never x b' is
  unwrapped mismatch same full' x b' (Some d) at is = opened (content_of t d) refl is
    where
      opened : (o : Option (Opened Name)) → content_of t d ≡ o → elim o [ None ↦ goes (raised mismatch) b | Some o ↦ moving_content (j ∷ r) o (cleared (i ∷ q) b) ] ≡ goes x b' → AreSound c (held_after c.types c.variables form x has) b'.variables
      opened None e is =
          subst (λ x. AreSound c (held_after c.types c.variables form x has) b'.variables) (same_outcome_of (raised mismatch) x b b' is)
          (subst (λ (b : Frame Name). AreSound c (held_after c.types c.variables form (raised mismatch) has) b.variables) (same_body (raised mismatch) x b b' is)
          (same_facts c has (held_after c.types c.variables form (raised mismatch) has) b.variables same sound))
      opened (Some o) e is = content-set o (full' d o (typed-at c has b.variables sound i q u source d at) e) x b' is

pub contents-move : (c : Module) → ContentsMove c
contents-move c = record {
  dissolve = λ i q k j r t u ts source shape at type deep name s has b b' o sound is.
      dissolved c i q j r t u source type deep (Dissolve (i ∷ q) k (j ∷ r)) has b sound (λ f. refl) k (λ d x h e. component-full c.types u t k ts d x shape at h e) o b' (cell_at (i ∷ q) b.variables) refl is;
  unwrap = λ i q j r t u source shape type deep name s has b b' o sound is.
      unwrapped c i q j r t u source type deep (Unwrap (i ∷ q) t (j ∷ r)) has b sound (λ f. refl) 3 (λ f. refl) (λ d x h e. content-full c.types u t d x shape h e) o b' (cell_at (i ∷ q) b.variables) refl is;
}
