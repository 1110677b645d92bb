-- Values that are set at any path keep values sound: assignments, new values and outports.
use Rattle.std.proofs.Common.{◌≡◌, ◌⊎◌, inl, inr, ℕ, suc, ◌+◌, List, [], ◌∷◌, ◌++◌, length, Bool, true, false, cond, not, ◌&&◌, ◌||◌, Option, Some, None, refl, sym, ap, ap₂, ◌∙◌, subst}
use Rattle.std.proofs.lemmas.List.{append-nil}
use Rattle.std.specs.Prelude.{slice_get, IsTrue, is_some, ◌↔◌, option_and_then}
use mathlib.Core.Bool.{false≢true}
use Rattle.herm_model.specs.Lists.{IsIn, any_pass, list_of}
use Rattle.herm_model.specs.Paths.{Path, Fact, init, case, path_of, same_fact, is_at_or_below}
use Rattle.herm_model.specs.Types.{TypeTable, Shape, fields, rows, outport, type_at, enters_component, passes_component, full_parts, part_paths, is_within_depth, greatest_depth}
use Rattle.herm_model.specs.Facts.{facts_to, full_facts}
use Rattle.herm_model.specs.Expressions.{Expression}
use Rattle.herm_model.specs.Statements.{Form, Assign, New, Connect}
use Rattle.herm_model.specs.FactsOfStatements.{full, closed}
use Rattle.herm_model.specs.Outcomes.{Outcome, ok, raised}
use Rattle.herm_model.specs.Values.{a_record, a_table, an_outport, Cell, cell, Parts, no_parts, gaps, part, inside, cell_at, read_at, readable_of, has_value, has_place, put_at, Value}
use Rattle.herm_model.specs.CellNames.{count, copy_from}
use Rattle.herm_model.specs.FactsOfValues.{satisfies}
use Rattle.herm_model.specs.Typed.{HasType, HaveTypes, IsFull}
use Rattle.herm_model.proofs.Lists.{in-map, in-map_from, in-append_right, in-append_cases}
use Rattle.herm_model.proofs.Beginnings.{begins-with}
use Rattle.herm_model.proofs.FactTests.{listed-IsIn, IsIn-listed}
use Rattle.herm_model.proofs.Places.{cell_at-set_same}
use Rattle.herm_model.proofs.NothingThere.{nothing-there, nothing-in_gaps}
use Rattle.herm_model.proofs.Steps.{full-named, steps-lead, steps-listed, within-known}
use Rattle.herm_model.proofs.FullFacts.{full-leads, leads-full}
use Rattle.herm_model.proofs.Typing.{full-typed, gaps-typed}
use Rattle.herm_forms.specs.Evaluate.{Evaluated, gives, raises, no_value, evaluate}
use Rattle.herm_forms.specs.Frames.{Name, Frame, goes, stuck, if_there, put}
use Rattle.herm_forms.specs.Forms.{with_value, assign, inport_number}
use Rattle.herm_forms.specs.Modules.{Module}
use Rattle.herm_forms.specs.Acts.{new_value}
use Rattle.herm_forms.specs.laws.EdgeLaws.{AreSound, held_after}
use Rattle.herm_forms.specs.laws.TargetLaws.{AssignmentsKeepSound, NewValuesKeepSound}
use Rattle.herm_forms.proofs.TypedReading.{typed-read}
use Rattle.herm_forms.proofs.Dropped.{set-has, set-reads}
use Rattle.herm_forms.proofs.Arrived.{old-variables}
use Rattle.herm_forms.proofs.SetValues.{typed-set, set-below, not-both}
use Rattle.herm_forms.proofs.forms.PlainForms.{same_body, same_outcome_of, never, same_facts, without-cond}
use Rattle.herm_forms.proofs.forms.Assignments.{copied-full}
use Rattle.herm_forms.proofs.forms.NewValues.{typed-by}
use Rattle.herm_forms.proofs.forms.ToldFacts.{there-read, read-on, closed-within, in-closed, told-to, told-closed}

-- what is read at a path that is set and below it is read in the value
pub read-set : (i : ℕ) (q : List ℕ) (d : Cell Name) (ps : Parts Name) → IsTrue (has_place ps (i ∷ q)) → (r : List ℕ) → read_at ((i ∷ q) ++ r) (put_at (i ∷ q) d ps) ≡ read_at (0 ∷ r) (part d no_parts)
read-set i q d ps place [] =
    ap (λ p. read_at (i ∷ p) (put_at (i ∷ q) d ps)) (append-nil q) ∙ there-read Name q i (put_at (i ∷ q) d ps) d (cell_at-set_same (i ∷ q) (Some d) ps place)
read-set i q d ps place (j ∷ r) =
    read-on Name q i j r (put_at (i ∷ q) d ps) ∙ ap (λ o. read_at (j ∷ r) (readable_of o)) (there-read Name q i (put_at (i ∷ q) d ps) d (cell_at-set_same (i ∷ q) (Some d) ps place))

-- Where the values behind a value that is set tell all that is made, and each value below the path is made, they are sound
-- with what is made in place of what was held there.
module _ (c : Module) (has : Fact → Bool) (i : ℕ) (q : List ℕ) (t : ℕ) (d : Cell Name) (ps : Parts Name) (sound : AreSound c has ps) (place : IsTrue (has_place ps (i ∷ q))) (type : type_at c.types c.variables (i ∷ q) ≡ Some t) (typed : HasType c.types t d)
    (made : List Fact) (told : (f : Fact) → IsIn f made → IsTrue (satisfies (put_at (i ∷ q) d ps) f)) (values : (r : List ℕ) → IsTrue (has_value (part d no_parts) (0 ∷ r)) → IsIn (init ((i ∷ q) ++ r)) made) where
  abbrev behind : Parts Name
  behind = put_at (i ∷ q) d ps

  abbrev after : Fact → Bool
  after f = cond (any_pass (same_fact f) (closed c.types c.variables made)) true (not (is_at_or_below (i ∷ q) (path_of f)) && has f)

  behind-typed : HaveTypes c.types c.variables behind
  behind-typed = typed-set Name c.types q i c.variables t d ps type typed sound.types

  all-told : (f : Fact) → IsIn f (closed c.types c.variables made) → IsTrue (satisfies behind f)
  all-told = closed-within c.types c.variables made (λ f. IsTrue (satisfies behind f)) (told-closed Name c.types c.variables behind behind-typed) told

  made-held : (f : Fact) → IsIn f (closed c.types c.variables made) → IsTrue (after f)
  made-held f h = ap (λ b. cond b true (not (is_at_or_below (i ∷ q) (path_of f)) && has f)) (IsIn-listed f (closed c.types c.variables made) h)

  kept-held : (f : Fact) → is_at_or_below (i ∷ q) (path_of f) ≡ false → IsTrue (has f) → IsTrue (after f)
  kept-held f apart h = by (any_pass (same_fact f) (closed c.types c.variables made))
    where
      by : (b : Bool) → cond b true (not (is_at_or_below (i ∷ q) (path_of f)) && has f) ≡ true
      by true = refl
      by false = ap₂ (λ k h. not k && h) apart h

  held-of : (f : Fact) → IsTrue (after f) → IsIn f (closed c.types c.variables made) ⊎ ((is_at_or_below (i ∷ q) (path_of f) ≡ false) × (has f ≡ true))
  held-of f h = by (any_pass (same_fact f) (closed c.types c.variables made)) refl h
    where
      by : (b : Bool) → any_pass (same_fact f) (closed c.types c.variables made) ≡ b → cond b true (not (is_at_or_below (i ∷ q) (path_of f)) && has f) ≡ true
          → IsIn f (closed c.types c.variables made) ⊎ ((is_at_or_below (i ∷ q) (path_of f) ≡ false) × (has f ≡ true))
      by true e h = inl (listed-IsIn f (closed c.types c.variables made) e)
      by false e h = inr (not-both (is_at_or_below (i ∷ q) (path_of f)) (has f) h)

  value-held : (p : Path) (b : Bool) → is_at_or_below (i ∷ q) p ≡ b → IsTrue (has_value behind p) → IsTrue (after (init p))
  value-held p false apart h = kept-held (init p) apart ((sound.facts.values p).0 (sym (set-has Name q i p (Some d) ps apart) ∙ h))
  value-held p true at h =
      let r = begins-with (i ∷ q) p at in
      let here : IsTrue (has_value (part d no_parts) (0 ∷ r.0)) = sym (set-below i q d ps place r.0) ∙ ap (has_value behind) (sym r.1) ∙ h in
      subst (λ p. IsTrue (after (init p))) (sym r.1) (made-held (init ((i ∷ q) ++ r.0)) (in-closed c.types c.variables made (init ((i ∷ q) ++ r.0)) (values r.0 here)))

  told-by : (f : Fact) → IsIn f (closed c.types c.variables made) ⊎ ((is_at_or_below (i ∷ q) (path_of f) ≡ false) × (has f ≡ true)) → IsTrue (satisfies behind f)
  told-by f (inl h) = all-told f h
  told-by (init p) (inr h) = set-has Name q i p (Some d) ps h.0 ∙ (sound.facts.values p).1 h.1
  told-by (case p k) (inr h) = set-reads Name q i p k (Some d) ps h.0 ∙ sound.facts.components p k h.1

  pub setting-told : AreSound c after behind
  setting-told = record {
    types = behind-typed;
    facts = record {
      values = λ p. (value-held p (is_at_or_below (i ∷ q) p) refl, (λ h. told-by (init p) (held-of (init p) h)));
      components = λ p k h. told-by (case p k) (held-of (case p k) h);
    };
  }

-- What is made of a value that is set at a path: it is told behind it, and each value below the path is among it.
pub record Makes (c : Module) (i : ℕ) (q : List ℕ) (d : Cell Name) (made : List Fact) : Type 0 where
  pub told : (ps : Parts Name) → IsTrue (has_place ps (i ∷ q)) → HaveTypes c.types c.variables (put_at (i ∷ q) d ps) → (f : Fact) → IsIn f made → IsTrue (satisfies (put_at (i ∷ q) d ps) f)
  pub values : (ps : Parts Name) → IsTrue (has_place ps (i ∷ q)) → HaveTypes c.types c.variables (put_at (i ∷ q) d ps) → (r : List ℕ) → IsTrue (has_value (part d no_parts) (0 ∷ r)) → IsIn (init ((i ∷ q) ++ r)) made

-- The end of a form that sets a value at a path, where the table makes these facts in place of those there.
module _ (c : Module) (i : ℕ) (q : List ℕ) (t : ℕ) (type : type_at c.types c.variables (i ∷ q) ≡ Some t) (d : Cell Name) (typed : HasType c.types t d) (made : List Fact) (makes : Makes c i q d made) (form : Form) (outcome : Outcome) (has left : Fact → Bool)
    (table : (f : Fact) → cond (any_pass (same_fact f) (closed c.types c.variables made)) true (not (is_at_or_below (i ∷ q) (path_of f)) && left f) ≡ held_after c.types c.variables form outcome has f) where
  target-set : (b : Frame Name) → AreSound c left b.variables → has_place b.variables (i ∷ q) ≡ true → AreSound c (held_after c.types c.variables form outcome has) (put (i ∷ q) d b).variables
  target-set b sound place =
      let ps = b.variables in
      let after-typed = typed-set Name c.types q i c.variables t d ps type typed sound.types in
      let set = setting-told c left i q t d ps sound place type typed made (makes.told ps place after-typed) (makes.values ps place after-typed) in
      let facts = same_facts c (λ f. cond (any_pass (same_fact f) (closed c.types c.variables made)) true (not (is_at_or_below (i ∷ q) (path_of f)) && left f)) (held_after c.types c.variables form outcome has) (put_at (i ∷ q) d ps) table set in
      subst (λ ps. AreSound c (held_after c.types c.variables form outcome has) ps) (sym (old-variables (cell_at (i ∷ q) ps) (record b { variables = put_at (i ∷ q) d ps }))) facts

  pub put-made : (b b' : Frame Name) (o : Outcome) → AreSound c left b.variables → (p : Bool) → has_place b.variables (i ∷ q) ≡ p → cond p (goes outcome (put (i ∷ q) d b)) stuck ≡ goes o b'
      → AreSound c (held_after c.types c.variables form o has) b'.variables
  put-made b b' o sound false place is = never o b' is
  put-made b b' o sound true place is =
      subst (λ o. AreSound c (held_after c.types c.variables form o has) b'.variables) (same_outcome_of outcome o (put (i ∷ q) d b) b' is)
      (subst (λ (b : Frame Name). AreSound c (held_after c.types c.variables form outcome has) b.variables) (same_body outcome o (put (i ∷ q) d b) b' is) (target-set b sound place))

-- a path that has a value passes through no component
pub there-direct : (c : Module) (i : ℕ) (q : List ℕ) (ps : Parts Name) (d : Cell Name) → HaveTypes c.types c.variables ps → cell_at (i ∷ q) ps ≡ Some d → passes_component c.types c.variables (i ∷ q) ≡ false
there-direct c i q ps d typed at =
    let r = typed-read Name c.types c.variables i q ps d typed at in
    ap (λ t. enters_component c.types t q) r.there ∙ r.direct

-- a full value has values at the full steps
pub full-exact : (types : TypeTable) (t : ℕ) (d : Cell Name) → IsTrue (is_within_depth greatest_depth types t) → IsFull types t d → (r : List ℕ) → IsIn r (part_paths full_parts types t) ↔ IsTrue (has_value (part d no_parts) (0 ∷ r))
full-exact types t d deep full' r = (
  (λ h. leads-full types r t d full' (steps-lead full_parts types greatest_depth t r h)),
  (λ h. steps-listed full_parts types full-named greatest_depth t deep r (full-leads types r t d full' h)),
)

pub full-root : (types : TypeTable) (t : ℕ) → IsTrue (is_within_depth greatest_depth types t) → IsIn [] (part_paths full_parts types t)
full-root types t deep = steps-listed full_parts types full-named greatest_depth t deep [] (within-known types greatest_depth t deep)

module _ (c : Module) (i : ℕ) (q : List ℕ) (t : ℕ) (type : type_at c.types c.variables (i ∷ q) ≡ Some t) where
  -- the full facts at a path are among what full asks for there
  own-full : passes_component c.types c.variables (i ∷ q) ≡ false → cond (passes_component c.types c.variables (i ∷ q)) [] (list_of (λ t. full_facts c.types t (i ∷ q)) (type_at c.types c.variables (i ∷ q))) ≡ full_facts c.types t (i ∷ q)
  own-full direct = ap₂ (λ b o. cond b [] (list_of (λ t. full_facts c.types t (i ∷ q)) o)) direct type

  pub in-full : passes_component c.types c.variables (i ∷ q) ≡ false → (f : Fact) → IsIn f (full_facts c.types t (i ∷ q)) → IsIn f (full c.types c.variables (i ∷ q))
  in-full direct f h =
      in-append_right f (facts_to c.types c.variables (i ∷ q)) (cond (passes_component c.types c.variables (i ∷ q)) [] (list_of (λ t. full_facts c.types t (i ∷ q)) (type_at c.types c.variables (i ∷ q)))) (subst (IsIn f) (sym (own-full direct)) h)

  -- what a full value makes
  pub full-makes : IsTrue (is_within_depth greatest_depth c.types t) → (d : Cell Name) → IsFull c.types t d → Makes c i q d (full c.types c.variables (i ∷ q))
  full-makes deep d full' = record { told = told; values = values }
    where
      direct : (ps : Parts Name) → IsTrue (has_place ps (i ∷ q)) → HaveTypes c.types c.variables (put_at (i ∷ q) d ps) → passes_component c.types c.variables (i ∷ q) ≡ false
      direct ps place typed = there-direct c i q (put_at (i ∷ q) d ps) d typed (cell_at-set_same (i ∷ q) (Some d) ps place)

      own-told : (ps : Parts Name) → IsTrue (has_place ps (i ∷ q)) → (f : Fact) → IsIn f (full_facts c.types t (i ∷ q)) → IsTrue (satisfies (put_at (i ∷ q) d ps) f)
      own-told ps place f h =
          let r = in-map_from (λ r. init ((i ∷ q) ++ r)) f (part_paths full_parts c.types t) h in
          subst (λ f. IsTrue (satisfies (put_at (i ∷ q) d ps) f)) (sym r.2) (set-below i q d ps place r.0 ∙ (full-exact c.types t d deep full' r.0).0 r.1)

      told : (ps : Parts Name) → IsTrue (has_place ps (i ∷ q)) → HaveTypes c.types c.variables (put_at (i ∷ q) d ps) → (f : Fact) → IsIn f (full c.types c.variables (i ∷ q)) → IsTrue (satisfies (put_at (i ∷ q) d ps) f)
      told ps place typed f h = by (in-append_cases f (facts_to c.types c.variables (i ∷ q)) (cond (passes_component c.types c.variables (i ∷ q)) [] (list_of (λ t. full_facts c.types t (i ∷ q)) (type_at c.types c.variables (i ∷ q)))) h)
        where
          by : IsIn f (facts_to c.types c.variables (i ∷ q)) ⊎ IsIn f (cond (passes_component c.types c.variables (i ∷ q)) [] (list_of (λ t. full_facts c.types t (i ∷ q)) (type_at c.types c.variables (i ∷ q)))) → IsTrue (satisfies (put_at (i ∷ q) d ps) f)
          by (inl h) = told-to Name c.types c.variables (put_at (i ∷ q) d ps) typed (i ∷ q) d f (there-read Name q i (put_at (i ∷ q) d ps) d (cell_at-set_same (i ∷ q) (Some d) ps place)) h
          by (inr h) = own-told ps place f (subst (IsIn f) (own-full (direct ps place typed)) h)

      values : (ps : Parts Name) → IsTrue (has_place ps (i ∷ q)) → HaveTypes c.types c.variables (put_at (i ∷ q) d ps) → (r : List ℕ) → IsTrue (has_value (part d no_parts) (0 ∷ r)) → IsIn (init ((i ∷ q) ++ r)) (full c.types c.variables (i ∷ q))
      values ps place typed r h = in-full (direct ps place typed) (init ((i ∷ q) ++ r)) (in-map (λ r. init ((i ∷ q) ++ r)) r (part_paths full_parts c.types t) ((full-exact c.types t d deep full' r).1 h))

-- what a value without values below it makes
pub own-makes : (c : Module) (i : ℕ) (q : List ℕ) (d : Cell Name) → ((j : ℕ) (r : List ℕ) → has_value (inside (Some d)) (j ∷ r) ≡ false) → Makes c i q d (init (i ∷ q) ∷ [])
own-makes c i q d none = record { told = told; values = λ ps place typed r h. value r h }
  where
    told : (ps : Parts Name) → IsTrue (has_place ps (i ∷ q)) → HaveTypes c.types c.variables (put_at (i ∷ q) d ps) → (f : Fact) → IsIn f (init (i ∷ q) ∷ []) → IsTrue (satisfies (put_at (i ∷ q) d ps) f)
    told ps place typed f (inl e) = subst (λ f. IsTrue (satisfies (put_at (i ∷ q) d ps) f)) (sym e) (ap is_some (cell_at-set_same (i ∷ q) (Some d) ps place))
    told ps place typed f (inr h) = absurd h

    value : (r : List ℕ) → IsTrue (has_value (part d no_parts) (0 ∷ r)) → IsIn (init ((i ∷ q) ++ r)) (init (i ∷ q) ∷ [])
    value [] h = inl (ap init (append-nil (i ∷ q)))
    value (j ∷ r) h = absurd (false≢true (sym (none j r) ∙ h))

pub kept-cond : (m k h : Bool) → cond m true (not k && h) ≡ cond m true (cond (k || false) false h)
kept-cond m k h = ap (cond m true) (without-cond k h)

-- the end of a form that sets a full value of the path's type
pub put-full : (c : Module) (i : ℕ) (q : List ℕ) (t : ℕ) → type_at c.types c.variables (i ∷ q) ≡ Some t → IsTrue (is_within_depth greatest_depth c.types t)
    → (form : Form) (x : Outcome) (before has : Fact → Bool) (d : Cell Name) (b : Frame Name) → AreSound c has b.variables → IsFull c.types t d
    → ((f : Fact) → cond (any_pass (same_fact f) (closed c.types c.variables (full c.types c.variables (i ∷ q)))) true (cond (is_at_or_below (i ∷ q) (path_of f) || false) false (has f)) ≡ held_after c.types c.variables form x before f)
    → (o : Outcome) (b' : Frame Name) (p : Bool) → has_place b.variables (i ∷ q) ≡ p → cond p (goes x (put (i ∷ q) d b)) stuck ≡ goes o b' → AreSound c (held_after c.types c.variables form o before) b'.variables
put-full c i q t type deep form x before has d b sound whole' table o b' p place is =
    put-made c i q t type d (full-typed c.types t d whole') (full c.types c.variables (i ∷ q)) (full-makes c i q t type deep d whole') form x before has
    (λ f. kept-cond (any_pass (same_fact f) (closed c.types c.variables (full c.types c.variables (i ∷ q)))) (is_at_or_below (i ∷ q) (path_of f)) (has f) ∙ table f) b b' o sound p place is

module _ (c : Module) (i : ℕ) (q : List ℕ) (t : ℕ) (type : type_at c.types c.variables (i ∷ q) ≡ Some t) (deep : IsTrue (is_within_depth greatest_depth c.types t)) (e : Expression) (has : Fact → Bool) where
  given-kept : (name : Name → Name) (x : Evaluated) (b b' : Frame Name) (o : Outcome) → ((value : Value) → x ≡ gives value → IsFull c.types t value) → AreSound c has b.variables
      → with_value (assign name (i ∷ q)) x b ≡ goes o b' → AreSound c (held_after c.types c.variables (Assign (i ∷ q) e) o has) b'.variables
  given-kept name (gives value) b b' o full' sound is =
      let d = copy_from (λ s. name (b.number, s)) b.serial value in
      let f = copied-full c.types t (λ s. name (b.number, s)) b.serial value (full' value refl) in
      put-made c i q t type d (full-typed c.types t d f) (full c.types c.variables (i ∷ q)) (full-makes c i q t type deep d f) (Assign (i ∷ q) e) ok has has
      (λ f. kept-cond (any_pass (same_fact f) (closed c.types c.variables (full c.types c.variables (i ∷ q)))) (is_at_or_below (i ∷ q) (path_of f)) (has f))
      (record b { serial = b.serial + count value }) b' o sound (has_place b.variables (i ∷ q)) refl is
  given-kept name (raises x) b b' o full' sound is =
      subst (λ o. AreSound c (held_after c.types c.variables (Assign (i ∷ q) e) o has) b'.variables) (same_outcome_of (raised x) o b b' is)
      (subst (λ (b : Frame Name). AreSound c has b.variables) (same_body (raised x) o b b' is) sound)
  given-kept name no_value b b' o full' sound is = never o b' is

pub assignments-keep : (c : Module) → AssignmentsKeepSound c
assignments-keep c = record {
  at = λ i q t e type deep name statement has b b' o full' sound is. given-kept c i q t type deep e has name (evaluate b.variables e) b b' o full' sound is;
  finding = λ i q t e type deep gives' name statement has b b' o sound needed is.
      given-kept c i q t type deep e has name (evaluate b.variables e) b b' o (λ value. gives' has b.variables value sound needed) sound is;
}

-- a new value of the path's type that has no value below it
module _ (c : Module) (i : ℕ) (q : List ℕ) (t : ℕ) (type : type_at c.types c.variables (i ∷ q) ≡ Some t) (has : Fact → Bool) (name : Name → Name) (b b' : Frame Name) (o : Outcome) (sound : AreSound c has b.variables) where
  own-kept : (f : Fact) → cond (any_pass (same_fact f) (closed c.types c.variables (init (i ∷ q) ∷ []))) true (not (is_at_or_below (i ∷ q) (path_of f)) && has f)
      ≡ cond (any_pass (same_fact f) (closed c.types c.variables (init (i ∷ q) ∷ []))) true (cond (is_at_or_below (i ∷ q) (path_of f) || false) false (has f))
  own-kept f = kept-cond (any_pass (same_fact f) (closed c.types c.variables (init (i ∷ q) ∷ []))) (is_at_or_below (i ∷ q) (path_of f)) (has f)

  put-alone : (d : Cell Name) → HasType c.types t d → ((j : ℕ) (r : List ℕ) → has_value (inside (Some d)) (j ∷ r) ≡ false) → (form : Form)
      → ((f : Fact) → cond (any_pass (same_fact f) (closed c.types c.variables (init (i ∷ q) ∷ []))) true (not (is_at_or_below (i ∷ q) (path_of f)) && has f) ≡ held_after c.types c.variables form ok has f)
      → cond (has_place b.variables (i ∷ q)) (goes ok (put (i ∷ q) d (record b { serial = suc b.serial }))) stuck ≡ goes o b' → AreSound c (held_after c.types c.variables form o has) b'.variables
  put-alone d typed none form table is =
      put-made c i q t type d typed (init (i ∷ q) ∷ []) (own-makes c i q d none) form ok has has table (record b { serial = suc b.serial }) b' o sound (has_place b.variables (i ∷ q)) refl is

  record-kept : (ts : List ℕ) → slice_get c.types t ≡ Some (fields ts) → new_value name (option_and_then (slice_get c.types) (type_at c.types c.variables (i ∷ q))) (i ∷ q) b ≡ goes o b'
      → AreSound c (held_after c.types c.variables (New (i ∷ q)) o has) b'.variables
  record-kept ts shape is =
      put-alone (cell (name (b.number, b.serial)) a_record (gaps (length ts)))
      (typed-by c.types t (fields ts) (name (b.number, b.serial)) a_record (gaps (length ts)) shape (gaps-typed Name c.types ts) refl)
      (λ j r. nothing-in_gaps Name (length ts) (j ∷ r)) (New (i ∷ q)) own-kept
      (ap (λ (x : Option Shape). new_value name x (i ∷ q) b) (sym (ap (option_and_then (slice_get c.types)) type ∙ shape)) ∙ is)

  table-kept : (row : ℕ) (key : List ℕ) → slice_get c.types t ≡ Some (rows row key) → new_value name (option_and_then (slice_get c.types) (type_at c.types c.variables (i ∷ q))) (i ∷ q) b ≡ goes o b'
      → AreSound c (held_after c.types c.variables (New (i ∷ q)) o has) b'.variables
  table-kept row key shape is =
      put-alone (cell (name (b.number, b.serial)) a_table no_parts)
      (typed-by c.types t (rows row key) (name (b.number, b.serial)) a_table no_parts shape tt refl)
      (λ j r. nothing-there Name (j ∷ r)) (New (i ∷ q)) own-kept
      (ap (λ (x : Option Shape). new_value name x (i ∷ q) b) (sym (ap (option_and_then (slice_get c.types)) type ∙ shape)) ∙ is)

  module _ (port : ℕ) (from : Path) (shape : slice_get c.types t ≡ Some (outport port)) where
    connected-by : (x : Option ℕ) → if_there (λ n. cond (has_place b.variables (i ∷ q)) (goes ok (put (i ∷ q) (cell (name (b.number, b.serial)) (an_outport n) no_parts) (record b { serial = suc b.serial }))) stuck) x ≡ goes o b'
        → AreSound c (held_after c.types c.variables (Connect (i ∷ q) from) o has) b'.variables
    connected-by None is = never o b' is
    connected-by (Some n) is =
        put-alone (cell (name (b.number, b.serial)) (an_outport n) no_parts)
        (typed-by c.types t (outport port) (name (b.number, b.serial)) (an_outport n) no_parts shape tt refl)
        (λ j r. nothing-there Name (j ∷ r)) (Connect (i ∷ q) from) own-kept is

    connected : (x : Option (Cell Name)) → if_there (λ (d : Cell Name). if_there (λ n. cond (has_place b.variables (i ∷ q)) (goes ok (put (i ∷ q) (cell (name (b.number, b.serial)) (an_outport n) no_parts) (record b { serial = suc b.serial }))) stuck) (inport_number d)) x ≡ goes o b'
        → AreSound c (held_after c.types c.variables (Connect (i ∷ q) from) o has) b'.variables
    connected None is = never o b' is
    connected (Some d) is = connected-by (inport_number d) is

pub new-values-keep : (c : Module) → NewValuesKeepSound c
new-values-keep c = record {
  new = λ i q t ts type shape name s has b b' o sound needed is. record-kept c i q t type has name b b' o sound ts shape is;
  new_table = λ i q t row key type shape name s has b b' o sound needed is. table-kept c i q t type has name b b' o sound row key shape is;
  connect = λ i q t port from type shape name s has b b' o sound needed is. connected c i q t type has name b b' o sound port from shape (read_at from b.variables) is;
}
