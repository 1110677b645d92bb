-- Definitions without a fault mean a table that keeps the rules of definitions.
use Rattle.std.proofs.Common.{◌≡◌, ◌≤◌, ◌<◌, inl, inr, ℕ, zero, suc, ◌+◌, List, [], ◌∷◌, ◌++◌, map, take, length, slice_get, codes, Option, Some, None, option_map, IsTrue, refl, sym, ◌∙◌, ap, ap₂, subst, arith}
use Rattle.std.specs.Str.{bytes_eq}
use Rattle.std.proofs.lemmas.Slice.Eq.{bytes_eq-Decides}
use Rattle.herm_base.specs.declared.word.Name.{Name}
use Rattle.herm_model.specs.Lists.{IsIn, all_pass, list_of}
use Rattle.herm_model.specs.tests.TableTests.{are_different}
use Rattle.herm_model.specs.Statements.{Differ}
use Rattle.herm_model.specs.Types as types
use Rattle.herm_model.specs.Types.{TypeTable, predefined, named_types, is_within_depth, greatest_depth, all_parts, part_paths}
use Rattle.herm_model.specs.TypedExpressions.{HasShape}
use Rattle.herm_model.specs.WellFormedTables.{IsType, NamesTypes, RaisesKnown, RaisesDifferent, Reaches, at_once, further, greatest_paths, is_definable, IsWellFormedTable, HasKey, LeadsToInport, CopiesInputs, DeclaresFields, DeclaresOneCase, KeepsReturned, KeepsRising, KeepsNoneDisconnected}
use Rattle.herm_model.proofs.Lists.{slice_get-map, in-append_left, in-append_right, in-every, in-map_from, joined-Differ, length-map}
use Rattle.herm_model.proofs.Options.{some-injective, map-some}
use Rattle.herm_model.proofs.Deciding.{different-decides}
use Rattle.herm_syntax.specs.declared.definitions.ShapeForm.{ShapeForm}
use Rattle.herm_syntax.specs.declared.definitions.ShapeForm.TheVariants as forms
use Rattle.herm_syntax.specs.Trees.{Letters, Shape, Names, Fields, Cases, Rows, Inport, Outport, CallMessage}
use Rattle.herm_syntax.specs.View.{param_form_view, raise_form_view, dfact_view, shape_form_view}
use Rattle.herm_meaning.specs.Names.{NamedTable, predefined_names, predefined_parts, predefined_exception_names, part_count, IsWellNamed}
use Rattle.herm_meaning.specs.Items.{Placed, types_in, exceptions_in}
use Rattle.herm_meaning.specs.Walks.{place_of}
use Rattle.herm_meaning.specs.Meaning.{part_names, parameter_meant, raising_meant, raising_numbered, numbered_shape, meant_shape, outline, meaning}
use Rattle.herm_meaning.specs.Marks.{a_type, in_turn, param_marks, raise_marks, mark, shape_marks, places, places_from}
use Rattle.herm_meaning.specs.DefinitionFaults.{twice, cycle, deep, bad_state, IsRight, MeetsNoCycle, MeetsNoUnknown, HasBadShape, AreFaultsOf}
use Rattle.herm_meaning.proofs.FaultlessPlaces.{AllRight, no-faults, MarksRight, left-right, right-right, Stands, types-stand, exceptions-stand}
use Rattle.herm_meaning.proofs.NamePlaces.{at-in, differ-before}
use Rattle.herm_meaning.proofs.NameRules as names
use Rattle.herm_meaning.proofs.NameRules.{below, map-map}
use Rattle.herm_meaning.proofs.Forgotten.{bare, unkept, bare-named, of-bare, type-bare, reaches-bare, within-bare, steps-bare, bare-all}
use Rattle.herm_meaning.proofs.TypeRules as rules
use Rattle.herm_meaning.proofs.TypeRules.{IsSound, not-false}
use Rattle.herm_meaning.proofs.FactRules as facts
use Rattle.herm_meaning.proofs.KeptRules as kept

-- ---- what is predefined, and what is behind it

-- so many behind the predefined types
abbrev behind : ℕ → ℕ
behind k = suc (suc (suc (suc (suc (suc (suc (suc k)))))))

behind-is : (k : ℕ) → 8 + k ≡ behind k
behind-is k = omega arith

-- what is so of each shape, where it is so of the predefined ones and of those behind them
each-shape : (rest : TypeTable) (P : ℕ → types.Shape → Type 0) → P 0 types.boolean → P 1 types.integer → P 2 types.text → P 3 types.polymorph → P 4 (types.inport 2 []) → P 5 (types.outport 4) → P 6 (types.fields (2 ∷ 5 ∷ [])) → P 7 (types.inport 6 []) → ((k : ℕ) (s : types.Shape) → slice_get rest k ≡ Some s → P (behind k) s) → (t : ℕ) (s : types.Shape) → slice_get (predefined ++ rest) t ≡ Some s → P t s
each-shape rest P p0 p1 p2 p3 p4 p5 p6 p7 more zero s e = subst (P 0) (some-injective e) p0
each-shape rest P p0 p1 p2 p3 p4 p5 p6 p7 more (suc zero) s e = subst (P 1) (some-injective e) p1
each-shape rest P p0 p1 p2 p3 p4 p5 p6 p7 more (suc (suc zero)) s e = subst (P 2) (some-injective e) p2
each-shape rest P p0 p1 p2 p3 p4 p5 p6 p7 more (suc (suc (suc zero))) s e = subst (P 3) (some-injective e) p3
each-shape rest P p0 p1 p2 p3 p4 p5 p6 p7 more (suc (suc (suc (suc zero)))) s e = subst (P 4) (some-injective e) p4
each-shape rest P p0 p1 p2 p3 p4 p5 p6 p7 more (suc (suc (suc (suc (suc zero))))) s e = subst (P 5) (some-injective e) p5
each-shape rest P p0 p1 p2 p3 p4 p5 p6 p7 more (suc (suc (suc (suc (suc (suc zero)))))) s e = subst (P 6) (some-injective e) p6
each-shape rest P p0 p1 p2 p3 p4 p5 p6 p7 more (suc (suc (suc (suc (suc (suc (suc zero))))))) s e = subst (P 7) (some-injective e) p7
each-shape rest P p0 p1 p2 p3 p4 p5 p6 p7 more (suc (suc (suc (suc (suc (suc (suc (suc k)))))))) s e = more k s e

-- ---- names and shapes that are meant

meant-bare : (o : NamedTable) (s : Shape) → numbered_shape o.names o.exceptions s ≡ bare (meant_shape o s)
meant-bare o (Names values) = refl
meant-bare o (Fields fs) = refl
meant-bare o (Cases cs) = refl
meant-bare o (Rows row keys) = refl
meant-bare o (Inport message facts) = refl
meant-bare o (Outport port) = refl
meant-bare o (CallMessage params raises) = ap (types.callmessage (map (parameter_meant o.names) params)) (sym (map-map unkept (raising_meant o.names o.exceptions params) (raising_numbered o.exceptions) raises (λ r. refl)))

meant-definable : (o : NamedTable) (s : Shape) → IsTrue (is_definable (meant_shape o s))
meant-definable o (Names values) = refl
meant-definable o (Fields fs) = refl
meant-definable o (Cases cs) = refl
meant-definable o (Rows row keys) = refl
meant-definable o (Inport message facts) = refl
meant-definable o (Outport port) = refl
meant-definable o (CallMessage params raises) = refl

meant-parts : (o : NamedTable) (s : Shape) → length (part_names s) ≡ part_count (meant_shape o s)
meant-parts o (Names values) = refl
meant-parts o (Fields fs) = length-map (λ f. f.0) fs ∙ sym (length-map (λ f. place_of o.names f.1) fs)
meant-parts o (Cases cs) = length-map (λ c. c.0) cs ∙ sym (length-map (λ c. place_of o.names c.1) cs)
meant-parts o (Rows row keys) = refl
meant-parts o (Inport message facts) = refl
meant-parts o (Outport port) = refl
meant-parts o (CallMessage params raises) = length-map (λ p. p.1.0) params ∙ sym (length-map _ params)

bare-count : (s : types.Shape) → part_count (bare s) ≡ part_count s
bare-count types.boolean = refl
bare-count types.integer = refl
bare-count types.text = refl
bare-count types.polymorph = refl
bare-count (types.names n) = refl
bare-count (types.fields ts) = refl
bare-count (types.cases ts) = refl
bare-count (types.rows row key) = refl
bare-count (types.inport message declared) = refl
bare-count (types.outport port) = refl
bare-count (types.callmessage ps rs) = refl

raises-bare : (n : ℕ) (s : types.Shape) → RaisesKnown n s → RaisesKnown n (bare s)
raises-bare n types.boolean h = tt
raises-bare n types.integer h = tt
raises-bare n types.text h = tt
raises-bare n types.polymorph h = tt
raises-bare n (types.names k) h = tt
raises-bare n (types.fields ts) h = tt
raises-bare n (types.cases ts) h = tt
raises-bare n (types.rows row key) h = tt
raises-bare n (types.inport message declared) h = tt
raises-bare n (types.outport port) h = tt
raises-bare n (types.callmessage ps rs) h = λ r i. let from = in-map_from unkept r rs i in subst (λ (s : types.Raised). s.exception < n) (sym from.2) (h from.0 from.1)

map-same : {X Y : Type 0} (f g : X → Y) (xs : List X) → ((x : X) → f x ≡ g x) → map f xs ≡ map g xs
map-same f g [] e = refl
map-same f g (x ∷ xs) e = ap₂ ◌∷◌ (e x) (map-same f g xs e)

-- names behind others differ from all before them
names-behind : (xs ys : List Letters) → Differ xs → ((k : ℕ) (y : Letters) → slice_get ys k ≡ Some y → IsIn y (xs ++ take k ys) → ⊥) → Differ (xs ++ ys)
names-behind xs ys differ apart =
    joined-Differ xs ys differ
    (differ-before ys (λ k y e i. apart k y e (in-append_right y xs (take k ys) i)))
    (λ x i j. let at = at-in ys x j in apart at.0 x at.1 (in-append_left x xs (take at.0 ys) i))

different : (xs : List Letters) → IsTrue (are_different bytes_eq xs) → Differ xs
different xs h = (different-decides bytes_eq bytes_eq-Decides xs).0 h

-- ---- an outline whose places are right

module _ (items : List Placed) (faultless : AreFaultsOf items []) where
  abbrev o : NamedTable
  o = outline items

  abbrev full : TypeTable
  full = (meaning items).shapes

  abbrev defined : List (Letters × Shape)
  defined = types_in items

  abbrev meant : List types.Shape
  meant = map (λ d. meant_shape o d.1) defined

  right : AllRight o (places_from items 8 7)
  right = no-faults o (places items) faultless

  pub same : o.shapes ≡ map bare full
  same = ap (predefined ++◌) (sym (map-map bare (λ d. meant_shape o d.1) (λ d. numbered_shape o.names o.exceptions d.1) defined (λ d. sym (meant-bare o d.1))))

  -- a defined type, as it is written
  written : (k : ℕ) (d : Letters × Shape) → slice_get defined k ≡ Some d → Stands o (behind k) d
  written k d e = subst (λ t. Stands o t d) (behind-is k) (types-stand o items 8 7 k d right e)

  -- what is so of the meant shape of each written one
  each-meant : (P : ℕ → types.Shape → Type 0) → ((k : ℕ) (d : Letters × Shape) (w : Stands o (behind k) d) → P (behind k) (meant_shape o (shape_form_view w.form))) → (k : ℕ) (s : types.Shape) → slice_get meant k ≡ Some s → P (behind k) s
  each-meant P by k s e =
      let from = map-some (λ d. meant_shape o d.1) (slice_get defined k) s (sym (slice_get-map (λ d. meant_shape o d.1) defined k) ∙ e) in
      let w = written k from.0 from.1 in
      subst (P (behind k)) (ap (λ d. meant_shape o d.1) w.is ∙ from.2) (by k from.0 w)

  -- the marks of its shape
  marks : (k : ℕ) (d : Letters × Shape) (w : Stands o (behind k) d) → MarksRight o w.module' (shape_marks w.form)
  marks k d w = right-right o w.module' (mark w.name (a_type (behind k) (shape_form_view w.form))) (shape_marks w.form) w.right

  at-name : (k : ℕ) (d : Letters × Shape) (w : Stands o (behind k) d) → IsRight o (w.module', record { name = w.name; role = a_type (behind k) (shape_form_view w.form) })
  at-name k d w = w.right (record { name = w.name; role = a_type (behind k) (shape_form_view w.form) }) (inl refl)

  -- ---- types and exceptions are known

  named-in_outline : (t : ℕ) (s : types.Shape) → HasShape full t s → NamesTypes o.shapes s
  named-in_outline = each-shape meant (λ t s. NamesTypes o.shapes s) (λ u i. absurd i) (λ u i. absurd i) (λ u i. absurd i) (λ u i. absurd i) to-text to-console to-fields to-message (each-meant (λ t s. NamesTypes o.shapes s) (λ k d w. names.types-known o w.module' w.form (marks k d w)))
    where
      to-text : NamesTypes o.shapes (types.inport 2 [])
      to-text u (inl e) = subst (IsType o.shapes) (sym e) refl
      to-text u (inr i) = absurd i

      to-console : NamesTypes o.shapes (types.outport 4)
      to-console u (inl e) = subst (IsType o.shapes) (sym e) refl
      to-console u (inr i) = absurd i

      to-fields : NamesTypes o.shapes (types.fields (2 ∷ 5 ∷ []))
      to-fields u (inl e) = subst (IsType o.shapes) (sym e) refl
      to-fields u (inr (inl e)) = subst (IsType o.shapes) (sym e) refl
      to-fields u (inr (inr i)) = absurd i

      to-message : NamesTypes o.shapes (types.inport 6 [])
      to-message u (inl e) = subst (IsType o.shapes) (sym e) refl
      to-message u (inr i) = absurd i

  types-known : (t : ℕ) (s : types.Shape) → HasShape full t s → NamesTypes full s
  types-known t s e u i = type-bare full u (subst (λ ss. IsType ss u) same (named-in_outline t s e u i))

  -- the shape with its key and facts of a shape in the outline
  with-facts : (t : ℕ) (s : types.Shape) → HasShape o.shapes t s → (r : types.Shape) × HasShape full t r × (bare r ≡ s)
  with-facts t s e = of-bare full t s (ap (λ ss. slice_get ss t) (sym same) ∙ e)

  known : (t : ℕ) (s : types.Shape) → HasShape o.shapes t s → NamesTypes o.shapes s
  known t s e u i =
      let r = with-facts t s e in
      named-in_outline t r.0 r.1 u (subst (IsIn u) (ap named_types (sym r.2) ∙ bare-named r.0) i)

  exceptions-known : (t : ℕ) (s : types.Shape) → HasShape full t s → RaisesKnown (length o.exceptions) s
  exceptions-known = each-shape meant (λ t s. RaisesKnown (length o.exceptions) s) tt tt tt tt tt tt tt tt (each-meant (λ t s. RaisesKnown (length o.exceptions) s) (λ k d w. names.exceptions-known o w.module' w.form (marks k d w)))

  -- ---- no type reaches itself

  -- a predefined type names only those before it
  named-before : (t u : ℕ) → t < 8 → IsIn u (list_of named_types (slice_get o.shapes t)) → u < t
  named-before zero u l i = absurd i
  named-before (suc zero) u l i = absurd i
  named-before (suc (suc zero)) u l i = absurd i
  named-before (suc (suc (suc zero))) u l i = absurd i
  named-before (suc (suc (suc (suc zero)))) u l (inl e) = omega (arith, e)
  named-before (suc (suc (suc (suc zero)))) u l (inr i) = absurd i
  named-before (suc (suc (suc (suc (suc zero))))) u l (inl e) = omega (arith, e)
  named-before (suc (suc (suc (suc (suc zero))))) u l (inr i) = absurd i
  named-before (suc (suc (suc (suc (suc (suc zero)))))) u l (inl e) = omega (arith, e)
  named-before (suc (suc (suc (suc (suc (suc zero)))))) u l (inr (inl e)) = omega (arith, e)
  named-before (suc (suc (suc (suc (suc (suc zero)))))) u l (inr (inr i)) = absurd i
  named-before (suc (suc (suc (suc (suc (suc (suc zero))))))) u l (inl e) = omega (arith, e)
  named-before (suc (suc (suc (suc (suc (suc (suc zero))))))) u l (inr i) = absurd i
  named-before (suc (suc (suc (suc (suc (suc (suc (suc k)))))))) u l i = absurd (omega (arith, l))

  reached-before : (t u : ℕ) → t < 8 → Reaches o.shapes t u → u < t
  reached-before t u l (at_once t' u' i) = named-before t u l i
  reached-before t u l (further t' w u' i r) =
      let first = named-before t w l i in
      let rest = reached-before w u (omega (arith, first, l)) r in
      omega (arith, first, rest)

  acyclic-behind : (k : ℕ) → Reaches o.shapes (behind k) (behind k) → ⊥
  acyclic-behind k r = by (slice_get defined k) refl
    where
      reaches-none : (table : TypeTable) (t u : ℕ) → slice_get table t ≡ None → Reaches table t u → ⊥
      reaches-none table t u e (at_once t' u' i) = subst (λ x. IsIn u (list_of named_types x)) e i
      reaches-none table t u e (further t' w u' i r') = subst (λ x. IsIn w (list_of named_types x)) e i

      by : (d : Option (Letters × Shape)) → slice_get defined k ≡ d → ⊥
      by None e = reaches-none o.shapes (behind k) (behind k) (slice_get-map (λ d. numbered_shape o.names o.exceptions d.1) defined k ∙ ap (option_map (λ d. numbered_shape o.names o.exceptions d.1)) e) r
      by (Some d) e = let w = written k d e in at-name k d w cycle r

  acyclic : (t : ℕ) → Reaches o.shapes t t → ⊥
  acyclic (suc (suc (suc (suc (suc (suc (suc (suc k)))))))) r = acyclic-behind k r
  acyclic zero r = omega (arith, reached-before 0 0 (omega arith) r)
  acyclic (suc zero) r = omega (arith, reached-before 1 1 (omega arith) r)
  acyclic (suc (suc zero)) r = omega (arith, reached-before 2 2 (omega arith) r)
  acyclic (suc (suc (suc zero))) r = omega (arith, reached-before 3 3 (omega arith) r)
  acyclic (suc (suc (suc (suc zero)))) r = omega (arith, reached-before 4 4 (omega arith) r)
  acyclic (suc (suc (suc (suc (suc zero))))) r = omega (arith, reached-before 5 5 (omega arith) r)
  acyclic (suc (suc (suc (suc (suc (suc zero)))))) r = omega (arith, reached-before 6 6 (omega arith) r)
  acyclic (suc (suc (suc (suc (suc (suc (suc zero))))))) r = omega (arith, reached-before 7 7 (omega arith) r)

  -- ---- depth and paths

  meets-known : (t : ℕ) → MeetsNoUnknown o t
  meets-known t u s m e =
      let r = with-facts u s e in
      (known u s e, subst (RaisesKnown (length o.exceptions)) r.2 (raises-bare (length o.exceptions) r.0 (exceptions-known u r.0 r.1)))

  meets-ending : (t : ℕ) → MeetsNoCycle o t
  meets-ending t u m r = acyclic u r

  -- a type whose name is right is not deep
  not-deep : (t n : ℕ) (name : Name) (shape : Shape) → IsRight o (n, record { name = name; role = a_type t shape }) → IsTrue (is_within_depth greatest_depth o.shapes t) × length (part_paths all_parts o.shapes t) ≤ greatest_paths
  not-deep t n name shape fine = (
    not-false (is_within_depth greatest_depth o.shapes t) (λ e. fine deep (meets-known t, meets-ending t, inl e)),
    at-most (length (part_paths all_parts o.shapes t)) greatest_paths (λ l. fine deep (meets-known t, meets-ending t, inr l)),
  )
    where
      at-most : (a b : ℕ) → (b < a → ⊥) → a ≤ b
      at-most a b h = let l = below a (suc b) (λ m. h (omega (arith, m))) in omega (arith, l)

  each-small : (t : ℕ) (s : types.Shape) → HasShape full t s → IsTrue (is_within_depth greatest_depth o.shapes t) × length (part_paths all_parts o.shapes t) ≤ greatest_paths
  each-small = each-shape meant (λ t s. IsTrue (is_within_depth greatest_depth o.shapes t) × length (part_paths all_parts o.shapes t) ≤ greatest_paths)
      (refl, omega arith) (refl, omega arith) (refl, omega arith) (refl, omega arith) (refl, omega arith) (refl, omega arith) (refl, omega arith) (refl, omega arith)
      (each-meant (λ t s. IsTrue (is_within_depth greatest_depth o.shapes t) × length (part_paths all_parts o.shapes t) ≤ greatest_paths) (λ k d w. not-deep (behind k) w.module' w.name (shape_form_view w.form) (at-name k d w)))

  -- ---- parts

  pub part_each : map length o.parts ≡ map part_count o.shapes
  part_each = ap (map length predefined_parts ++◌) (map-map length (λ d. part_names d.1) (λ d. part_count (bare (meant_shape o d.1))) defined (λ d. meant-parts o d.1 ∙ sym (bare-count (meant_shape o d.1))) ∙ sym (map-map part_count (λ d. numbered_shape o.names o.exceptions d.1) (λ d. part_count (bare (meant_shape o d.1))) defined (λ d. ap part_count (meant-bare o d.1))))

  part_each-full : map length (meaning items).parts ≡ map part_count full
  part_each-full = ap (map length predefined_parts ++◌) (map-map length (λ d. part_names d.1) (λ d. part_count (meant_shape o d.1)) defined (λ d. meant-parts o d.1) ∙ sym (map-map part_count (λ d. meant_shape o d.1) (λ d. part_count (meant_shape o d.1)) defined (λ d. refl)))

  sound : IsSound o full
  sound = record {
    same = same;
    known = known;
    acyclic = acyclic;
    shallow = λ t h. let s = rules.shape-of o.shapes t h in let r = with-facts t s.0 s.1 in (each-small t r.0 r.1).0;
    part_each = part_each;
  }

  -- ---- each rule of definitions

  keys : (t : ℕ) (s : types.Shape) → HasShape full t s → HasKey full s
  keys = each-shape meant (λ t s. HasKey full s) tt tt tt tt tt tt tt tt (each-meant (λ t s. HasKey full s) (λ k d w. rules.keys o w.module' full sound w.form (marks k d w) (names.types-known o w.module' w.form (marks k d w))))

  outports : (t : ℕ) (s : types.Shape) → HasShape full t s → LeadsToInport full s
  outports = each-shape meant (λ t s. LeadsToInport full s) tt tt tt tt tt (2, [], refl) tt tt (each-meant (λ t s. LeadsToInport full s) (λ k d w. rules.outports o w.module' full sound w.form (marks k d w) (names.types-known o w.module' w.form (marks k d w))))

  inputs : (t : ℕ) (s : types.Shape) → HasShape full t s → CopiesInputs full s
  inputs = each-shape meant (λ t s. CopiesInputs full s) tt tt tt tt tt tt tt tt (each-meant (λ t s. CopiesInputs full s) (λ k d w. rules.inputs o w.module' full sound w.form (marks k d w) (names.types-known o w.module' w.form (marks k d w))))

  declares : (form : ShapeForm) → NamesTypes o.shapes (meant_shape o (shape_form_view form)) → (HasBadShape o (shape_form_view form) → ⊥) → DeclaresFields full (meant_shape o (shape_form_view form)) × DeclaresOneCase (meant_shape o (shape_form_view form))
  declares (forms.Names values) named fine = (tt, tt)
  declares (forms.Fields fs) named fine = (tt, tt)
  declares (forms.Cases cs) named fine = (tt, tt)
  declares (forms.Rows row ks) named fine = (tt, tt)
  declares (forms.Inport message fs) named fine =
      let number = place_of o.names message.text in
      let there = named number (inl refl) in
      let judged = rules.judged o 0 full sound number there in (
        facts.of-fields o full sound number there (map dfact_view fs.items) (λ f i b. fine (judged, inr (inl (f, i, b)))),
        facts.one-case o full sound number there (map dfact_view fs.items) (λ f i b. fine (judged, inr (inl (f, i, b)))) (λ h. fine (judged, inr (inr h))),
      )
  declares (forms.Outport port) named fine = (tt, tt)
  declares (forms.CallMessage params raises) named fine = (tt, tt)

  declared : (t : ℕ) (s : types.Shape) → HasShape full t s → DeclaresFields full s × DeclaresOneCase s
  declared = each-shape meant (λ t s. DeclaresFields full s × DeclaresOneCase s) (tt, tt) (tt, tt) (tt, tt) (tt, tt) ((λ f i. absurd i), (λ p c d i j. absurd i)) (tt, tt) (tt, tt) ((λ f i. absurd i), (λ p c d i j. absurd i)) (each-meant (λ t s. DeclaresFields full s × DeclaresOneCase s) (λ k d w. declares w.form (names.types-known o w.module' w.form (marks k d w)) (at-name k d w bad_state)))

  keeps : (n : ℕ) (form : ShapeForm) → MarksRight o n (shape_marks form) → (HasBadShape o (shape_form_view form) → ⊥) → KeepsReturned (meant_shape o (shape_form_view form)) × KeepsRising (meant_shape o (shape_form_view form)) × KeepsNoneDisconnected (meant_shape o (shape_form_view form))
  keeps n (forms.Names values) fine shape = (tt, tt, tt)
  keeps n (forms.Fields fs) fine shape = (tt, tt, tt)
  keeps n (forms.Cases cs) fine shape = (tt, tt, tt)
  keeps n (forms.Rows row ks) fine shape = (tt, tt, tt)
  keeps n (forms.Inport message fs) fine shape = (tt, tt, tt)
  keeps n (forms.Outport port) fine shape = (tt, tt, tt)
  keeps n (forms.CallMessage params raises) fine shape =
      let differ = names.params-differ o n params.items (left-right o n (in_turn (λ p. p.field.name.text) param_marks [] params.items) (in_turn (λ r. r.name.text) raise_marks [] raises.items) fine) in (
        kept.kept-returned o (map param_form_view params.items) (map raise_form_view raises.items) (λ r i b. shape (r, i, b)) differ,
        kept.kept-rising o (map param_form_view params.items) (map raise_form_view raises.items) (λ r i b. shape (r, i, b)),
        kept.kept-disconnected o (map param_form_view params.items) (map raise_form_view raises.items) (λ r i b. shape (r, i, b)),
      )

  all-kept : (t : ℕ) (s : types.Shape) → HasShape full t s → KeepsReturned s × KeepsRising s × KeepsNoneDisconnected s
  all-kept = each-shape meant (λ t s. KeepsReturned s × KeepsRising s × KeepsNoneDisconnected s) (tt, tt, tt) (tt, tt, tt) (tt, tt, tt) (tt, tt, tt) (tt, tt, tt) (tt, tt, tt) (tt, tt, tt) (tt, tt, tt) (each-meant (λ t s. KeepsReturned s × KeepsRising s × KeepsNoneDisconnected s) (λ k d w. keeps w.module' w.form (marks k d w) (at-name k d w bad_state)))

  all-definable : (ds : List (Letters × Shape)) → IsTrue (all_pass is_definable (map (λ d. meant_shape o d.1) ds))
  all-definable ds = in-every is_definable (map (λ d. meant_shape o d.1) ds) (λ s i. let from = in-map_from (λ d. meant_shape o d.1) s ds i in subst (λ r. IsTrue (is_definable r)) (sym from.2) (meant-definable o from.0.1))

  few-paths : (t : ℕ) → IsType full t → length (part_paths all_parts full t) ≤ greatest_paths
  few-paths t h =
      let s = rules.shape-of full t h in
      subst (λ ps. length ps ≤ greatest_paths) (ap (λ ss. part_paths all_parts ss t) same ∙ steps-bare full all_parts bare-all greatest_depth t) (each-small t s.0 s.1).1

  shallow : (t : ℕ) → IsType full t → IsTrue (is_within_depth greatest_depth full t)
  shallow t h =
      let s = rules.shape-of full t h in
      sym (ap (λ ss. is_within_depth greatest_depth ss t) same ∙ within-bare full greatest_depth t) ∙ (each-small t s.0 s.1).0

  well-formed : IsWellFormedTable (length (meaning items).exceptions) full
  well-formed = record {
    predefined_types = (meant, refl, all-definable defined);
    enough_exceptions = omega arith;
    types_known = types-known;
    exceptions_known = exceptions-known;
    exceptions_differ = each-shape meant (λ t s. RaisesDifferent s) tt tt tt tt tt tt tt tt (each-meant (λ t s. RaisesDifferent s) (λ k d w. names.exceptions-differ o w.module' w.form (marks k d w)));
    acyclic = λ t r. acyclic t (subst (λ ss. Reaches ss t t) (sym same) (reaches-bare full t t r));
    shallow = shallow;
    few_paths = few-paths;
    keys = keys;
    outports = outports;
    inputs_copyable = inputs;
    facts_of_fields = λ t s e. (declared t s e).0;
    one_case = λ t s e. (declared t s e).1;
    kept_returned = λ t s e. (all-kept t s e).0;
    kept_rising = λ t s e. (all-kept t s e).1;
    kept_disconnected = λ t s e. (all-kept t s e).2;
  }

  -- ---- names

  names_differ : Differ (meaning items).names
  names_differ = names-behind predefined_names (map (λ d. d.0) defined) (different predefined_names refl) apart
    where
      apart : (k : ℕ) (y : Letters) → slice_get (map (λ d. d.0) defined) k ≡ Some y → IsIn y (predefined_names ++ take k (map (λ d. d.0) defined)) → ⊥
      apart k y e i =
          let from = map-some (λ d. d.0) (slice_get defined k) y (sym (slice_get-map (λ d. d.0) defined k) ∙ e) in
          let w = written k from.0 from.1 in
          at-name k from.0 w twice (subst (λ z. IsIn z (predefined_names ++ take k (map (λ d. d.0) defined))) (sym (ap (λ d. d.0) w.is ∙ from.2)) i)

  exceptions_differ : Differ (meaning items).exceptions
  exceptions_differ = names-behind predefined_exception_names (exceptions_in items) (different predefined_exception_names refl) apart
    where
      behind-seven : (k : ℕ) → 7 + k ≡ suc (suc (suc (suc (suc (suc (suc k))))))
      behind-seven k = omega arith

      apart : (k : ℕ) (y : Letters) → slice_get (exceptions_in items) k ≡ Some y → IsIn y (predefined_exception_names ++ take k (exceptions_in items)) → ⊥
      apart k y e i = exceptions-stand o items 8 7 k y right e (subst (λ n. IsIn y (take n o.exceptions)) (sym (behind-seven k)) i)

  each-parts : (rest : List (List Letters)) → ((k : ℕ) (ps : List Letters) → slice_get rest k ≡ Some ps → Differ ps) → (t : ℕ) (ps : List Letters) → slice_get (predefined_parts ++ rest) t ≡ Some ps → Differ ps
  each-parts rest more zero ps e = subst (λ xs. Differ xs) (some-injective e) tt
  each-parts rest more (suc zero) ps e = subst (λ xs. Differ xs) (some-injective e) tt
  each-parts rest more (suc (suc zero)) ps e = subst (λ xs. Differ xs) (some-injective e) tt
  each-parts rest more (suc (suc (suc zero))) ps e = subst (λ xs. Differ xs) (some-injective e) tt
  each-parts rest more (suc (suc (suc (suc zero)))) ps e = subst (λ xs. Differ xs) (some-injective e) tt
  each-parts rest more (suc (suc (suc (suc (suc zero))))) ps e = subst (λ xs. Differ xs) (some-injective e) tt
  each-parts rest more (suc (suc (suc (suc (suc (suc zero)))))) ps e = subst (λ xs. Differ xs) (some-injective e) (different (codes "arg" ∷ codes "out" ∷ []) refl)
  each-parts rest more (suc (suc (suc (suc (suc (suc (suc zero))))))) ps e = subst (λ xs. Differ xs) (some-injective e) tt
  each-parts rest more (suc (suc (suc (suc (suc (suc (suc (suc k)))))))) ps e = more k ps e

  parts_differ : (t : ℕ) (ps : List Letters) → slice_get (meaning items).parts t ≡ Some ps → Differ ps
  parts_differ = each-parts (map (λ d. part_names d.1) defined) by
    where
      by : (k : ℕ) (ps : List Letters) → slice_get (map (λ d. part_names d.1) defined) k ≡ Some ps → Differ ps
      by k ps e =
          let from = map-some (λ d. part_names d.1) (slice_get defined k) ps (sym (slice_get-map (λ d. part_names d.1) defined k) ∙ e) in
          let w = written k from.0 from.1 in
          subst (λ xs. Differ xs) (ap (λ d. part_names d.1) w.is ∙ from.2) (names.parts-differ o w.module' w.form (marks k from.0 w))

  pub well-named : IsWellNamed (meaning items)
  well-named = record {
    begins = (
      record {
        names = map (λ d. d.0) defined;
        shapes = meant;
        parts = map (λ d. part_names d.1) defined;
        exceptions = exceptions_in items;
      },
      refl,
    );
    well_formed = well-formed;
    name_each = let a = length-map (λ d. d.0) defined in let b = length-map (λ d. meant_shape o d.1) defined in omega (arith, a, b);
    part_each = part_each-full;
    names_differ = names_differ;
    exceptions_differ = exceptions_differ;
    parts_differ = parts_differ;
  }
