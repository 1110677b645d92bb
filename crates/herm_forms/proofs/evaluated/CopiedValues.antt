-- A copy of what is at a path of a copyable type is full, where the facts are held that full asks for there.
use Rattle.std.proofs.Common.{◌≡◌, ◌⊎◌, inl, inr, ℕ, zero, suc, ◌+◌, arith, List, [], ◌∷◌, ◌++◌, Bool, true, false, ◌||◌, Option, Some, None, is_some, refl, sym, ap, ap₂, ◌∙◌, subst, true≢false}
use Rattle.std.proofs.lemmas.List.{append-nil}
use Rattle.std.specs.Prelude.{slice_get, IsTrue}
use Rattle.herm_model.specs.Lists.{IsIn, all_pass, map_or, list_of}
use Rattle.herm_model.specs.Paths.{Path, Fact, init}
use Rattle.herm_model.specs.Types.{TypeTable, Shape, fields, callmessage, named_types, part_type, part_of, type_below, type_at, is_variant, enters_component, passes_component, full_parts, held_parts, IsPartPath, part_paths, is_within_depth, greatest_depth}
use Rattle.herm_model.specs.Copyable.{is_plain, is_composed, IsCopyable, plain, composed}
use Rattle.herm_model.specs.FactsOfStatements.{full}
use Rattle.herm_model.specs.Values.{Cell, Parts, no_parts, part, part_at, readable_of, cell_at, read_at, has_value}
use Rattle.herm_model.specs.Typed.{whole, partly, HasType, HaveTypes, IsFull}
use Rattle.herm_model.proofs.Lists.{in-map, not_true, every-in}
use Rattle.herm_model.proofs.FactTests.{got-IsIn}
use Rattle.herm_model.proofs.Steps.{held-named, steps-listed, full-named}
use Rattle.herm_model.proofs.Copyable.{within-more}
use Rattle.herm_model.proofs.Options.{none-not_some, some-injective}
use Rattle.herm_model.proofs.FullFacts.{exact-full}
use Rattle.herm_model.proofs.Places.{read_below, read-below}
use Rattle.herm_forms.specs.Frames.{Name}
use Rattle.herm_forms.specs.Modules.{Module}
use Rattle.herm_forms.specs.laws.EdgeLaws.{AreSound, AreDeep}
use Rattle.herm_forms.proofs.TypedReading.{typed-part, typed-read}
use Rattle.herm_forms.proofs.forms.ReadTypes.{read-nothing, ReadPart, readable-part, cell-typed, read-typed}
use Rattle.herm_forms.proofs.forms.Moves.{value-below}
use Rattle.herm_forms.proofs.forms.ToldFacts.{there-read}
use Rattle.herm_forms.proofs.forms.SetTargets.{in-full, full-root}
use Rattle.herm_model.proofs.TypesBelow.{type_below-none}
use Rattle.herm_model.proofs.BoundedPaths.{part-named}

-- the types at paths are as deep as those of the variables
module _ (table : TypeTable) where
  pub part-deep : (n t i u : ℕ) → IsTrue (is_within_depth n table t) → part_of table (Some t) i ≡ Some u → IsTrue (is_within_depth n table u)
  part-deep zero t i u w e = not_true w
  part-deep (suc n) t i u w e = by (slice_get table t) w e
    where
      by : (o : Option Shape) → IsTrue (map_or false (λ s. all_pass (is_within_depth n table) (named_types s)) o) → map_or None (λ s. part_type s i) o ≡ Some u → IsTrue (is_within_depth (suc n) table u)
      by None w e = not_true w
      by (Some s) w e = let z : n + 1 ≡ suc n = omega arith in subst (λ m. IsTrue (is_within_depth m table u)) z (within-more table n 1 u (every-in (is_within_depth n table) u (named_types s) w (part-named s i u e)))

  below-deep : (q : List ℕ) (n t u : ℕ) → IsTrue (is_within_depth n table t) → type_below table (Some t) q ≡ Some u → IsTrue (is_within_depth n table u)
  below-deep [] n t u w e = subst (λ t. IsTrue (is_within_depth n table t)) (some-injective e) w
  below-deep (i ∷ q) n t u w e = by (part_of table (Some t) i) refl e (below-deep q n)
    where
      by : (o : Option ℕ) → part_of table (Some t) i ≡ o → type_below table o q ≡ Some u → ((t u : ℕ) → IsTrue (is_within_depth n table t) → type_below table (Some t) q ≡ Some u → IsTrue (is_within_depth n table u)) → IsTrue (is_within_depth n table u)
      by None at e again = none-not_some (sym (type_below-none table q) ∙ e)
      by (Some v) at e again = again v u (part-deep n t i v w at) e

pub deep-at : (c : Module) → AreDeep c → (i : ℕ) (q : List ℕ) (t : ℕ) → type_at c.types c.variables (i ∷ q) ≡ Some t → IsTrue (is_within_depth greatest_depth c.types t)
deep-at c deep i q t e = by (slice_get c.variables i) refl e
  where
    by : (o : Option ℕ) → slice_get c.variables i ≡ o → type_below c.types o q ≡ Some t → IsTrue (is_within_depth greatest_depth c.types t)
    by None at e = none-not_some (sym (type_below-none c.types q) ∙ e)
    by (Some v) at e = below-deep c.types q greatest_depth v t (deep v (got-IsIn c.variables i v at)) e

-- what is read in a component is full
module _ (N : Type 0) (table : TypeTable) where
  abbrev ReadsWhole : Path → Type 0
  ReadsWhole r = (t u : ℕ) (c d : Cell N) → HasType table t c → read_below r (Some c) ≡ Some d → type_below table (Some t) r ≡ Some u → enters_component table (Some t) r ≡ true → IsFull table u d

  component-below : (r : Path) → ReadsWhole r
  component-below [] t u c d h at type enters = absurd (true≢false (sym enters))
  component-below (j ∷ r) t u c d h at type enters = by (part_at j (readable_of (Some c))) refl (sym (read-below j r (readable_of (Some c))) ∙ at) (component-below r)
    where
      on : (c' : Cell N) → ReadPart N table partly t j c c' → (b : Bool) → is_variant table (Some t) ≡ b → read_below r (Some c') ≡ Some d → ReadsWhole r → IsFull table u d
      on c' x true is at again = cell-typed N table whole r x.type u c' d (x.component is).1 at (ap (λ o. type_below table o r) (sym x.there) ∙ type)
      on c' x false is at again = again x.type u c' d x.typed at (ap (λ o. type_below table o r) (sym x.there) ∙ type) (sym (ap₂ (λ a o. a || enters_component table o r) is x.there) ∙ enters)

      by : (o : Option (Cell N)) → part_at j (readable_of (Some c)) ≡ o → read_below r o ≡ Some d → ReadsWhole r → IsFull table u d
      by None e at again = none-not_some (sym (read-nothing r) ∙ at)
      by (Some c') e at again = on c' (readable-part N table partly t j c c' h e) (is_variant table (Some t)) refl at again

  -- so of variables, at a path that passes through a component
  pub component-read : (variables : List ℕ) (i : ℕ) (q : Path) (u : ℕ) (ps : Parts N) (d : Cell N) → HaveTypes table variables ps → type_at table variables (i ∷ q) ≡ Some u → passes_component table variables (i ∷ q) ≡ true → read_at (i ∷ q) ps ≡ Some d → IsFull table u d
  component-read variables i q u ps d h type passes at = by (part_at i ps) refl (sym (read-below i q ps) ∙ at)
    where
      by : (o : Option (Cell N)) → part_at i ps ≡ o → read_below q o ≡ Some d → IsFull table u d
      by None e at = none-not_some (sym (read-nothing q) ∙ at)
      by (Some c) e at =
          let x = typed-part N table variables ps i c h e in
          component-below q x.type u c d x.typed at (ap (λ o. type_below table o q) (sym x.there) ∙ type) (ap (λ o. enters_component table o q) (sym x.there) ∙ passes)

-- a value of a copyable type holds nothing but what full asks for
module _ (table : TypeTable) where
  held-full : (s : Shape) (x : ℕ × ℕ) → IsTrue (is_plain s) ⊎ IsTrue (is_composed s) → IsIn x (held_parts s) → IsIn x (full_parts s)
  held-full (callmessage ps raises) x (inl h) i = not_true h
  held-full (callmessage ps raises) x (inr h) i = not_true h
  held-full (fields ts) x h i = i
  held-full s x h i = absurd i

  plain-none : {A : Type 0} (s : Shape) (x : ℕ × ℕ) → IsTrue (is_plain s) → IsIn x (held_parts s) → A
  plain-none (fields ts) x h i = not_true h
  plain-none (callmessage ps raises) x h i = not_true h
  plain-none s x h i = absurd i

  shape-held : (t : ℕ) (s : Shape) (x : ℕ × ℕ) → slice_get table t ≡ Some s → IsIn x (list_of held_parts (slice_get table t)) → IsIn x (held_parts s)
  shape-held t s x e h = subst (λ o. IsIn x (list_of held_parts o)) e h

  copyable-leads : (q : List ℕ) (t : ℕ) → IsCopyable table t → IsPartPath held_parts table t q → IsPartPath full_parts table t q
  copyable-leads [] t copyable l = l
  copyable-leads (i ∷ q) t (plain t' s e p) l = plain-none s (i, l.0) p (shape-held t s (i, l.0) e l.1)
  copyable-leads (i ∷ q) t (composed t' s e p each) l =
      let h = shape-held t s (i, l.0) e l.1 in
      (l.0, subst (λ o. IsIn (i, l.0) (list_of full_parts o)) (sym e) (held-full s (i, l.0) (inr p) h), copyable-leads q l.0 (each l.0 (held-named s i l.0 h)) l.2)

  value-leads : {N : Type 0} (t : ℕ) (d : Cell N) → IsCopyable table t → HasType table t d → (q : List ℕ) → IsTrue (has_value (part d no_parts) (0 ∷ q)) → IsPartPath full_parts table t q
  value-leads {N} t d copyable typed q h = by (cell_at (0 ∷ q) (part d no_parts)) refl h
    where
      by : (o : Option (Cell N)) → cell_at (0 ∷ q) (part d no_parts) ≡ o → IsTrue (is_some o) → IsPartPath full_parts table t q
      by None at h = not_true h
      by (Some e) at h =
          let r = typed-read N table (t ∷ []) 0 q (part d no_parts) e (typed, tt) at in
          copyable-leads q t copyable (subst (λ t. IsPartPath held_parts table t q) (sym (some-injective r.there)) r.leads)

-- What is read at a path of a copyable type is full, where the values are sound and the facts held that full asks for.
module _ (c : Module) (deep : AreDeep c) (has : Fact → Bool) (ps : Parts Name) (sound : AreSound c has ps) (i : ℕ) (q : List ℕ) (t : ℕ) (type : type_at c.types c.variables (i ∷ q) ≡ Some t)
    (needed : (f : Fact) → IsIn f (full c.types c.variables (i ∷ q)) → IsTrue (has f)) where
  module _ (direct : passes_component c.types c.variables (i ∷ q) ≡ false) where
    values-there : (r : List ℕ) → IsIn r (part_paths full_parts c.types t) → IsTrue (has_value ps ((i ∷ q) ++ r))
    values-there r h = (sound.facts.values ((i ∷ q) ++ r)).1 (needed (init ((i ∷ q) ++ r)) (in-full c i q t type direct (init ((i ∷ q) ++ r)) (in-map (λ r. init ((i ∷ q) ++ r)) r (part_paths full_parts c.types t) h)))

    root-there : IsTrue (has_value ps (i ∷ q))
    root-there = subst (λ p. IsTrue (has_value ps (i ∷ p))) (append-nil q) (values-there [] (full-root c.types t (deep-at c deep i q t type)))

    direct-there : (d : Cell Name) → read_at (i ∷ q) ps ≡ Some d → cell_at (i ∷ q) ps ≡ Some d
    direct-there d at = by (cell_at (i ∷ q) ps) refl root-there
      where
        by : (o : Option (Cell Name)) → cell_at (i ∷ q) ps ≡ o → IsTrue (is_some o) → o ≡ Some d
        by None e h = not_true h
        by (Some x) e h = sym (there-read Name q i ps x e) ∙ at

    direct-full : (d : Cell Name) → IsCopyable c.types t → read_at (i ∷ q) ps ≡ Some d → IsFull c.types t d
    direct-full d copyable at =
        let w = deep-at c deep i q t type in
        let typed = read-typed Name c.types c.variables i q t ps d sound.types type at in
        let below : (r : List ℕ) → has_value ps ((i ∷ q) ++ r) ≡ has_value (part d no_parts) (0 ∷ r) = λ r. value-below i q r ps d (direct-there d at) in
        exact-full c.types d greatest_depth t w typed (λ j r. (
          (λ h. value-leads c.types t d copyable typed (j ∷ r) h),
          (λ l. sym (below (j ∷ r)) ∙ values-there (j ∷ r) (steps-listed full_parts c.types full-named greatest_depth t w (j ∷ r) l)),
        ))

  pub copy-full : (d : Cell Name) → IsCopyable c.types t → read_at (i ∷ q) ps ≡ Some d → IsFull c.types t d
  copy-full d copyable at = by (passes_component c.types c.variables (i ∷ q)) refl
    where
      by : (b : Bool) → passes_component c.types c.variables (i ∷ q) ≡ b → IsFull c.types t d
      by true passes = component-read Name c.types c.variables i q t ps d sound.types type passes at
      by false direct = direct-full direct d copyable at
