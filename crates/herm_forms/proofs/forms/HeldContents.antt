-- Full values that become contents of variants and polymorphs keep values sound.
use Rattle.std.proofs.Common.{◌≡◌, inl, inr, ℕ, suc, List, [], ◌∷◌, ◌++◌, Bool, true, false, cond, not, ◌&&◌, ◌||◌, Option, Some, None, refl, sym, ap, ◌∙◌, subst, nat_lt}
use Rattle.std.proofs.Math.Nat.{max-zero}
use Rattle.std.proofs.lemmas.List.{append-nil}
use Rattle.std.specs.Prelude.{slice_get, IsTrue, is_some}
use mathlib.Core.Bool.{false≢true}
use borrow.Author.Tests.{eq-eqb}
use Rattle.herm_model.specs.Lists.{IsIn, any_pass}
use Rattle.herm_model.specs.Paths.{Path, Fact, init, case, path_of, same_fact, is_at_or_below}
use Rattle.herm_model.specs.Types.{cases, polymorph, type_at, is_within_depth, greatest_depth}
use Rattle.herm_model.specs.Statements.{Form, Unite, Wrap}
use Rattle.herm_model.specs.FactsOfStatements.{full, room_for, closed, needs}
use Rattle.herm_model.specs.Outcomes.{Outcome, ok, raised, depletion}
use Rattle.herm_model.specs.Values.{a_variant, a_polymorph, Cell, cell, Parts, no_parts, part, has_value, cell_at, has_place, put_at, polymorph_depth}
use Rattle.herm_model.specs.FactsOfValues.{is_component, satisfies}
use Rattle.herm_model.specs.Typed.{one_whole, greatest_polymorph, Fits, HasType, HaveTypes, IsFull}
use Rattle.herm_model.proofs.Lists.{in-append_right}
use Rattle.herm_model.proofs.Places.{cell_at-set_same}
use Rattle.herm_model.proofs.NothingThere.{nothing-there}
use Rattle.herm_model.proofs.Options.{some-injective}
use Rattle.herm_forms.specs.Frames.{Name, Frame, goes, if_there, putting, making, drop}
use Rattle.herm_forms.specs.Forms
use Rattle.herm_forms.specs.Forms.{moving}
use Rattle.herm_forms.specs.Excess.{excess_over_full}
use Rattle.herm_forms.specs.Modules.{Module}
use Rattle.herm_forms.specs.laws.EdgeLaws.{AreSound, without, held_after}
use Rattle.herm_forms.specs.laws.ComponentLaws.{ContentsAreHeld}
use Rattle.herm_forms.proofs.forms.PlainForms.{same_body, same_outcome_of, never}
use Rattle.herm_forms.proofs.forms.NewValues.{typed-by}
use Rattle.herm_forms.proofs.forms.ToldFacts.{in-closed, there-read}
use Rattle.herm_forms.proofs.forms.SetTargets.{Makes, put-made, own-makes, kept-cond}
use Rattle.herm_forms.proofs.forms.MovedContents.{gone-both}
use Rattle.herm_forms.proofs.forms.FullSources.{taken-full}

-- what a variant makes with its component
case-makes : (c : Module) (i : ℕ) (q : List ℕ) (n : Name) (k : ℕ) (ps : Parts Name) → Makes c i q (cell n (a_variant k) ps) (init (i ∷ q) ∷ case (i ∷ q) k ∷ [])
case-makes c i q n k ps = record { told = told; values = λ qs place typed r h. value r h }
  where
    d : Cell Name
    d = cell n (a_variant k) ps

    told : (qs : Parts Name) → IsTrue (has_place qs (i ∷ q)) → HaveTypes c.types c.variables (put_at (i ∷ q) d qs) → (f : Fact) → IsIn f (init (i ∷ q) ∷ case (i ∷ q) k ∷ []) → IsTrue (satisfies (put_at (i ∷ q) d qs) f)
    told qs place typed f (inl e) = subst (λ f. IsTrue (satisfies (put_at (i ∷ q) d qs) f)) (sym e) (ap is_some (cell_at-set_same (i ∷ q) (Some d) qs place))
    told qs place typed f (inr (inl e)) =
        subst (λ f. IsTrue (satisfies (put_at (i ∷ q) d qs) f)) (sym e)
        (ap (λ o. is_component o k) (there-read Name q i (put_at (i ∷ q) d qs) d (cell_at-set_same (i ∷ q) (Some d) qs place)) ∙ eq-eqb k k refl)
    told qs place typed f (inr (inr h)) = absurd h

    value : (r : List ℕ) → IsTrue (has_value (part d no_parts) (0 ∷ r)) → IsIn (init ((i ∷ q) ++ r)) (init (i ∷ q) ∷ case (i ∷ q) k ∷ [])
    value [] h = inl (ap init (append-nil (i ∷ q)))
    value (j ∷ r) h = absurd (false≢true (sym (nothing-there Name (j ∷ r)) ∙ h))

pub gone-cond : (m x y h : Bool) → cond m true (not x && (not y && h)) ≡ cond m true (cond (y || (x || false)) false h)
gone-cond m x y h = kept-cond m x (not y && h) ∙ gone-both m x y h

module _ (c : Module) (i : ℕ) (q : List ℕ) (j : ℕ) (r : List ℕ) (t u : ℕ) (target : type_at c.types c.variables (j ∷ r) ≡ Some u) (source : type_at c.types c.variables (i ∷ q) ≡ Some t) (deep : IsTrue (is_within_depth greatest_depth c.types t))
    (has : Fact → Bool) (b : Frame Name) (sound : AreSound c has b.variables) (name : Name → Name) where
  -- a variant is set, with its component
  united : (k : ℕ) (ts : List ℕ) → slice_get c.types u ≡ Some (cases ts) → slice_get ts k ≡ Some t → (content : Cell Name) → IsFull c.types t content → (cut : Frame Name) → AreSound c (without (i ∷ q) has) cut.variables
      → (o : Outcome) (b' : Frame Name) → making name (a_variant k) (part content no_parts) (putting (j ∷ r) ok) cut ≡ goes o b' → AreSound c (held_after c.types c.variables (Unite (j ∷ r) k (i ∷ q)) o has) b'.variables
  united k ts shape at content whole' cut rest o b' is =
      put-made c j r u target d typed (init (j ∷ r) ∷ case (j ∷ r) k ∷ []) (case-makes c j r (name (cut.number, cut.serial)) k (part content no_parts)) (Unite (j ∷ r) k (i ∷ q)) ok has (without (i ∷ q) has)
      (λ f. gone-cond (any_pass (same_fact f) (closed c.types c.variables (init (j ∷ r) ∷ case (j ∷ r) k ∷ []))) (is_at_or_below (j ∷ r) (path_of f)) (is_at_or_below (i ∷ q) (path_of f)) (has f))
      (record cut { serial = suc cut.serial }) b' o rest (has_place cut.variables (j ∷ r)) refl is
    where
      d : Cell Name
      d = cell (name (cut.number, cut.serial)) (a_variant k) (part content no_parts)

      typed : HasType c.types u d
      typed = typed-by c.types u (cases ts) (name (cut.number, cut.serial)) (a_variant k) (part content no_parts) shape (subst (λ (o : Option ℕ). Fits c.types (one_whole o) (part content no_parts)) (sym at) (whole', tt)) refl

  -- a polymorph that is not too deep is set
  wrapped : slice_get c.types u ≡ Some polymorph → (content : Cell Name) → IsFull c.types t content → IsTrue (nat_lt (polymorph_depth content) greatest_polymorph) → (cut : Frame Name) → AreSound c (without (i ∷ q) has) cut.variables
      → (o : Outcome) (b' : Frame Name) → making name (a_polymorph t) (part content no_parts) (putting (j ∷ r) ok) cut ≡ goes o b' → AreSound c (held_after c.types c.variables (Wrap (i ∷ q) (j ∷ r)) o has) b'.variables
  wrapped shape content whole' shallow cut rest o b' is =
      put-made c j r u target d typed (init (j ∷ r) ∷ []) (own-makes c j r d (λ k s. nothing-there Name (k ∷ s))) (Wrap (i ∷ q) (j ∷ r)) ok has (without (i ∷ q) has)
      (λ f. gone-cond (any_pass (same_fact f) (closed c.types c.variables (init (j ∷ r) ∷ []))) (is_at_or_below (j ∷ r) (path_of f)) (is_at_or_below (i ∷ q) (path_of f)) (has f))
      (record cut { serial = suc cut.serial }) b' o rest (has_place cut.variables (j ∷ r)) refl is
    where
      d : Cell Name
      d = cell (name (cut.number, cut.serial)) (a_polymorph t) (part content no_parts)

      typed : HasType c.types u d
      typed =
          typed-by c.types u polymorph (name (cut.number, cut.serial)) (a_polymorph t) (part content no_parts) shape (whole', tt)
          (subst (λ n. IsTrue (nat_lt n greatest_polymorph)) (sym (max-zero (polymorph_depth content))) shallow)

  module _ (needed : (f : Fact) → IsIn f (full c.types c.variables (i ∷ q)) → IsTrue (has f)) where
    wrapping : slice_get c.types u ≡ Some polymorph → (o : Outcome) (b' : Frame Name) (y : Option (Cell Name)) → cell_at (i ∷ q) (drop (excess_over_full c (i ∷ q) b) b).variables ≡ y
        → if_there
        (λ d. cond (nat_lt (polymorph_depth d) greatest_polymorph)
        (moving (excess_over_full c (i ∷ q) b) (i ∷ q) (λ content b. making name (a_polymorph t) (part content no_parts) (putting (j ∷ r) ok) b) b)
        (goes (raised depletion) b))
        y ≡ goes o b' → AreSound c (held_after c.types c.variables (Wrap (i ∷ q) (j ∷ r)) o has) b'.variables
    wrapping shape o b' None at is = never o b' is
    wrapping shape o b' (Some d) at is = by (nat_lt (polymorph_depth d) greatest_polymorph) refl is
      where
        by : (s : Bool) → nat_lt (polymorph_depth d) greatest_polymorph ≡ s
            → cond s (moving (excess_over_full c (i ∷ q) b) (i ∷ q) (λ content b. making name (a_polymorph t) (part content no_parts) (putting (j ∷ r) ok) b) b) (goes (raised depletion) b) ≡ goes o b'
            → AreSound c (held_after c.types c.variables (Wrap (i ∷ q) (j ∷ r)) o has) b'.variables
        by false e is =
            subst (λ o. AreSound c (held_after c.types c.variables (Wrap (i ∷ q) (j ∷ r)) o has) b'.variables) (same_outcome_of (raised depletion) o b b' is)
            (subst (λ (b : Frame Name). AreSound c has b.variables) (same_body (raised depletion) o b b' is) sound)
        by true e is =
            let x = taken-full c i q t source deep has b sound needed (λ content b. making name (a_polymorph t) (part content no_parts) (putting (j ∷ r) ok) b) o b' is in
            wrapped shape x.content x.whole (subst (λ d. IsTrue (nat_lt (polymorph_depth d) greatest_polymorph)) (some-injective (sym at ∙ x.at)) e) x.frame x.rest o b' x.on

    uniting : (k : ℕ) (ts : List ℕ) → slice_get c.types u ≡ Some (cases ts) → slice_get ts k ≡ Some t → (o : Outcome) (b' : Frame Name)
        → moving (excess_over_full c (i ∷ q) b) (i ∷ q) (λ content b. making name (a_variant k) (part content no_parts) (putting (j ∷ r) ok) b) b ≡ goes o b' → AreSound c (held_after c.types c.variables (Unite (j ∷ r) k (i ∷ q)) o has) b'.variables
    uniting k ts shape at o b' is =
        let x = taken-full c i q t source deep has b sound needed (λ content b. making name (a_variant k) (part content no_parts) (putting (j ∷ r) ok) b) o b' is in
        united k ts shape at x.content x.whole x.frame x.rest o b' x.on

-- the full facts of a source are among what a form with one target needs
pub of-source : (c : Module) (has : Fact → Bool) (form : Form) (source target : Path) → needs c.types c.variables form ≡ closed c.types c.variables (room_for c.types c.variables target ++ full c.types c.variables source)
    → ((f : Fact) → IsIn f (needs c.types c.variables form) → IsTrue (has f)) → (f : Fact) → IsIn f (full c.types c.variables source) → IsTrue (has f)
of-source c has form source target is there f h =
    there f (subst (IsIn f) (sym is) (in-closed c.types c.variables (room_for c.types c.variables target ++ full c.types c.variables source) f (in-append_right f (room_for c.types c.variables target) (full c.types c.variables source) h)))

pub contents-held : (c : Module) → ContentsAreHeld c
contents-held c = record {
  unite = λ i q k j r t u ts target shape at source deep name s has b b' o sound there is.
      uniting c i q j r t u target source deep has b sound name (of-source c has (Unite (j ∷ r) k (i ∷ q)) (i ∷ q) (j ∷ r) refl there) k ts shape at o b' is;
  wrap = λ i q j r t u target shape source deep name s has b b' o sound there is.
      wrapping c i q j r t u target source deep has b sound name (of-source c has (Wrap (i ∷ q) (j ∷ r)) (i ∷ q) (j ∷ r) refl there) shape o b' (cell_at (i ∷ q) (drop (excess_over_full c (i ∷ q) b) b).variables) refl
      (ap (λ (x : Option ℕ). if_there (λ t. Forms.wrap name t (excess_over_full c (i ∷ q) b) (i ∷ q) (j ∷ r) b) x) (sym source) ∙ is);
}
