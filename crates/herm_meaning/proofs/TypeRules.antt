-- Keys, outports and inputs without a fault keep their rules, where all types are known and none reaches itself.
use Rattle.std.proofs.Common.{◌≡◌, ◌<◌, inl, inr, ℕ, zero, suc, List, [], ◌∷◌, ◌++◌, map, length, slice_get, get_or, Bool, true, false, Option, Some, None, option_map, is_some, IsTrue, refl, sym, ◌∙◌, ap, subst, arith, true≢false}
use Rattle.std.proofs.lemmas.Option.{slice_get-get_or}
use Rattle.herm_base.specs.declared.word.Name.{Name}
use Rattle.herm_model.specs.Lists.{IsIn, map_or}
use Rattle.herm_model.specs.Paths.{Fact}
use Rattle.herm_model.specs.Types as types
use Rattle.herm_model.specs.Types.{TypeTable, named_types, is_within_depth, greatest_depth}
use Rattle.herm_model.specs.Copyable.{is_copyable_within, IsCopyable}
use Rattle.herm_model.specs.TypedExpressions.{HasShape, is_scalar_shape}
use Rattle.herm_model.specs.WellFormedTables.{IsType, NamesTypes, IsScalarField, HasKey, LeadsToInport, CopiesInputs, Reaches}
use Rattle.herm_model.proofs.Lists.{in-map, in-map_from, slice_get-map}
use Rattle.herm_model.proofs.Options.{some-injective, none-not_some, map-some}
use Rattle.herm_model.proofs.DecidedTables.{AreShallow, copyable-decides}
use Rattle.herm_syntax.specs.declared.definitions.ModeForm.{ModeForm}
use Rattle.herm_syntax.specs.declared.definitions.ModeForm.TheVariants.{In, Inout, Out}
use Rattle.herm_syntax.specs.declared.definitions.ParamForm.{ParamForm}
use Rattle.herm_syntax.specs.declared.definitions.ShapeForm.{ShapeForm}
use Rattle.herm_syntax.specs.declared.definitions.ShapeForm.TheVariants.{Names, Fields, Cases, Rows, Inport, Outport, CallMessage}
use Rattle.herm_syntax.specs.Trees.{Letters}
use Rattle.herm_syntax.specs.View.{name_view, mode_form_view, param_form_view, shape_form_view}
use Rattle.herm_meaning.specs.Names.{NamedTable, part_count}
use Rattle.herm_meaning.specs.Walks.{place_of, parts_of}
use Rattle.herm_meaning.specs.Meaning.{mode_meant, parameter_meant, meant_shape}
use Rattle.herm_meaning.specs.Marks.{a_row, a_key, a_port, an_input, in_turn, key_marks, param_marks, parameter_role, raise_marks, mark, shape_marks}
use Rattle.herm_meaning.specs.DefinitionFaults.{twice, bad_key, bad_state, IsRight, IsJudged, DependsOn, itself, by_part}
use Rattle.herm_meaning.proofs.FaultlessPlaces.{MarksRight, left-right, right-right, each-turn, differ-turn}
use Rattle.herm_meaning.proofs.NamePlaces.{places-differ}
use Rattle.herm_meaning.proofs.NameRules.{below}
use Rattle.herm_meaning.proofs.Forgotten.{bare, of-bare, bare-scalar, fields-bare, copyable-bare}

pub not-false : (b : Bool) → (b ≡ false → ⊥) → IsTrue b
not-false true h = refl
not-false false h = absurd (h refl)

record-of : (o : Option types.Shape) → (((ts : List ℕ) → o ≡ Some (types.fields ts) → ⊥) → ⊥) → (ts : List ℕ) × (o ≡ Some (types.fields ts))
record-of (Some (types.fields ts)) h = (ts, refl)
record-of o h = absurd (h (λ ts e. let k : ⊥ = cc e in k))

inport-of : (o : Option types.Shape) → (((m : ℕ) (d : List Fact) → o ≡ Some (types.inport m d) → ⊥) → ⊥) → (m : ℕ) × (d : List Fact) × (o ≡ Some (types.inport m d))
inport-of (Some (types.inport m d)) h = (m, d, refl)
inport-of o h = absurd (h (λ m d e. let k : ⊥ = cc e in k))

inport-bare : (s : types.Shape) (m : ℕ) (d : List Fact) → bare s ≡ types.inport m d → (c : List Fact) × (s ≡ types.inport m c)
inport-bare (types.inport k c) m d e = (c, let same : k ≡ m = cc e in ap (λ i. types.inport i c) same)
inport-bare types.boolean m d e = let k : ⊥ = cc e in absurd k
inport-bare types.integer m d e = let k : ⊥ = cc e in absurd k
inport-bare types.text m d e = let k : ⊥ = cc e in absurd k
inport-bare types.polymorph m d e = let k : ⊥ = cc e in absurd k
inport-bare (types.names n) m d e = let k : ⊥ = cc e in absurd k
inport-bare (types.fields ts) m d e = let k : ⊥ = cc e in absurd k
inport-bare (types.cases ts) m d e = let k : ⊥ = cc e in absurd k
inport-bare (types.rows row key) m d e = let k : ⊥ = cc e in absurd k
inport-bare (types.outport port) m d e = let k : ⊥ = cc e in absurd k
inport-bare (types.callmessage ps rs) m d e = let k : ⊥ = cc e in absurd k

is-there : {X : Type 0} (o : Option X) → IsTrue (is_some o) → (x : X) × (o ≡ Some x)
is-there None h = absurd (true≢false (sym h))
is-there (Some x) h = (x, refl)

pub shape-of : (table : TypeTable) (t : ℕ) → IsType table t → (s : types.Shape) × HasShape table t s
shape-of table t h = is-there (slice_get table t) h

got-in : {X : Type 0} (xs : List X) (i : ℕ) (x : X) → slice_get xs i ≡ Some x → IsIn x xs
got-in [] i x e = none-not_some e
got-in (y ∷ xs) zero x e = inl (sym (some-injective e))
got-in (y ∷ xs) (suc i) x e = inr (got-in xs i x e)

pub got-below : {X : Type 0} (xs : List X) (i : ℕ) → i < length xs → (x : X) × (slice_get xs i ≡ Some x)
got-below [] i l = absurd (omega (arith, l))
got-below (x ∷ xs) i l = (get_or (x ∷ xs) i x, slice_get-get_or (x ∷ xs) i x l)

-- the names of a type's parts are as many as its parts
pub part-names : (o : NamedTable) (t : ℕ) (s : types.Shape) → map length o.parts ≡ map part_count o.shapes → HasShape o.shapes t s → length (parts_of o t) ≡ part_count s
part-names o t s each e =
    let counted = sym (slice_get-map length o.parts t) ∙ (ap (λ xs. slice_get xs t) each ∙ (slice_get-map part_count o.shapes t ∙ ap (option_map part_count) e)) in
    let found = map-some length (slice_get o.parts t) (part_count s) counted in
    ap (λ r. length (map_or [] (λ ps. ps) r)) found.1 ∙ found.2

-- What is so of an outline by the names and the places alone, and of the table that is the same without keys and facts.
pub record IsSound (o : NamedTable) (full : TypeTable) : Type 0 where
  pub same : o.shapes ≡ map bare full
  pub known : (t : ℕ) (s : types.Shape) → HasShape o.shapes t s → NamesTypes o.shapes s
  pub acyclic : (t : ℕ) → Reaches o.shapes t t → ⊥
  pub shallow : AreShallow o.shapes
  pub part_each : map length o.parts ≡ map part_count o.shapes

module _ (o : NamedTable) (n : ℕ) (full : TypeTable) (sound : IsSound o full) where
  pub judged : (t : ℕ) → IsType o.shapes t → IsJudged o t
  judged t h = (h, λ u m r. sound.acyclic u r)

  -- the shape that a type has with its key and its facts
  full-shape : (t : ℕ) (s : types.Shape) → HasShape o.shapes t s → (r : types.Shape) × HasShape full t r × (bare r ≡ s)
  full-shape t s e = of-bare full t s (sym (ap (λ ss. slice_get ss t) sound.same) ∙ e)

  -- ---- keys

  key-place : (row : Name) (before : List Letters) (k : Name) (ts : List ℕ) → IsType o.shapes (place_of o.names row.text) → HasShape o.shapes (place_of o.names row.text) (types.fields ts) → IsRight o (n, record { name = k; role = a_key before row.text }) → place_of (parts_of o (place_of o.names row.text)) k.text < length ts
  key-place row before k ts known e right = below _ _ (λ past. right bad_key (judged _ known, ts, e, inl past))

  scalar-key : (row : Name) (before : List Letters) (k : Name) (ts : List ℕ) → IsType o.shapes (place_of o.names row.text) → HasShape o.shapes (place_of o.names row.text) (types.fields ts) → IsRight o (n, record { name = k; role = a_key before row.text }) → IsScalarField full ts (place_of (parts_of o (place_of o.names row.text)) k.text)
  scalar-key row before k ts known e right =
      let place = place_of (parts_of o (place_of o.names row.text)) k.text in
      let got = got-below ts place (key-place row before k ts known e right) in
      let there = shape-of o.shapes got.0 (sound.known _ _ e got.0 (got-in ts place got.0 got.1)) in
      let scalar = not-false (is_scalar_shape there.0) (λ no_scalar. right bad_key (judged _ known, ts, e, inr (got.0, there.0, got.1, there.1, no_scalar))) in
      let shape = full-shape got.0 there.0 there.1 in
      (got.0, shape.0, got.1, shape.1, sym (bare-scalar shape.0) ∙ (ap is_scalar_shape shape.2 ∙ scalar))

  row-key : (row : Name) (ks : List Name) → MarksRight o n (mark row a_row ++ in_turn (λ k. k.text) (key_marks row.text) [] ks) → IsType o.shapes (place_of o.names row.text) → HasKey full (types.rows (place_of o.names row.text) (map (place_of (parts_of o (place_of o.names row.text))) (map name_view ks)))
  row-key row ks right known =
      let fields = record-of (slice_get o.shapes (place_of o.names row.text)) (λ none. right (record { name = row; role = a_row }) (inl refl) bad_key (judged _ known, none)) in
      let keys = right-right o n (mark row a_row) (in_turn (λ k. k.text) (key_marks row.text) [] ks) right in
      let shape = full-shape (place_of o.names row.text) (types.fields fields.0) fields.1 in
      let count : length (parts_of o (place_of o.names row.text)) ≡ length fields.0 = part-names o _ _ sound.part_each fields.1 in (
        fields.0,
        shape.1 ∙ ap Some (fields-bare shape.0 fields.0 shape.2),
        places-differ (parts_of o (place_of o.names row.text)) (map name_view ks)
            (differ-turn o n (λ (k : Name). k.text) (key_marks row.text) (λ before k marks among. marks (record { name = k; role = a_key before row.text }) (inl refl) twice among) [] ks keys)
            (λ x i.
            let from = in-map_from name_view x ks i in
            let below_count = each-turn o n (λ (k : Name). k.text) (key_marks row.text) (λ (k : Name). place_of (parts_of o (place_of o.names row.text)) k.text < length fields.0) (λ before k marks. key-place row before k fields.0 known fields.1 (marks (record { name = k; role = a_key before row.text }) (inl refl))) [] ks keys from.0 from.1 in
            subst (λ w. place_of (parts_of o (place_of o.names row.text)) w < length (parts_of o (place_of o.names row.text))) (sym from.2) (subst (λ c. place_of (parts_of o (place_of o.names row.text)) from.0.text < c) (sym count) below_count)),
        λ i h.
            let of_letters = in-map_from (place_of (parts_of o (place_of o.names row.text))) i (map name_view ks) h in
            let from = in-map_from name_view of_letters.0 ks of_letters.1 in
            let scalar = each-turn o n (λ (k : Name). k.text) (key_marks row.text) (λ (k : Name). IsScalarField full fields.0 (place_of (parts_of o (place_of o.names row.text)) k.text)) (λ before k marks. scalar-key row before k fields.0 known fields.1 (marks (record { name = k; role = a_key before row.text }) (inl refl))) [] ks keys from.0 from.1 in
            subst (λ j. IsScalarField full fields.0 j) (sym (of_letters.2 ∙ ap (place_of (parts_of o (place_of o.names row.text))) from.2)) scalar,
      )

  pub keys : (form : ShapeForm) → MarksRight o n (shape_marks form) → NamesTypes o.shapes (meant_shape o (shape_form_view form)) → HasKey full (meant_shape o (shape_form_view form))
  keys (Names values) right known = tt
  keys (Fields fs) right known = tt
  keys (Cases cs) right known = tt
  keys (Rows row ks) right known = row-key row ks.items right (known (place_of o.names row.text) (inl refl))
  keys (Inport message facts) right known = tt
  keys (Outport port) right known = tt
  keys (CallMessage params raises) right known = tt

  -- ---- outports

  pub outports : (form : ShapeForm) → MarksRight o n (shape_marks form) → NamesTypes o.shapes (meant_shape o (shape_form_view form)) → LeadsToInport full (meant_shape o (shape_form_view form))
  outports (Names values) right known = tt
  outports (Fields fs) right known = tt
  outports (Cases cs) right known = tt
  outports (Rows row ks) right known = tt
  outports (Inport message facts) right known = tt
  outports (Outport port) right known =
      let inport = inport-of (slice_get o.shapes (place_of o.names port.text)) (λ none. right (record { name = port; role = a_port }) (inl refl) bad_state (judged _ (known (place_of o.names port.text) (inl refl)), none)) in
      let shape = full-shape (place_of o.names port.text) (types.inport inport.0 inport.1) inport.2 in
      let again = inport-bare shape.0 inport.0 inport.1 shape.2 in
      (inport.0, again.0, shape.1 ∙ ap Some again.1)
  outports (CallMessage params raises) right known = tt

  -- ---- inputs

  settled : (t u : ℕ) → IsType o.shapes t → DependsOn o t u → IsType o.shapes u
  settled t u known (itself t') = known
  settled t u known (by_part t' v u' s e composed i d) = settled v u (sound.known t s e v i) d

  input-copyable : (name : Name) (before : List Letters) (content : Letters) → IsType o.shapes (place_of o.names content) → IsRight o (n, record { name = name; role = an_input before content }) → IsCopyable full (place_of o.names content)
  input-copyable name before content known right =
      let t = place_of o.names content in
      let decided = copyable-decides o.shapes sound.shallow t in
      let tested = not-false (is_copyable_within greatest_depth o.shapes t) (λ fails. right bad_state (judged t known, (λ u d. settled t u known d), (λ c. true≢false (sym (decided.1 c) ∙ fails)))) in
      copyable-bare full t (subst (λ ss. IsCopyable ss t) sound.same (decided.0 tested))

  copies : (ps : List ParamForm) → MarksRight o n (in_turn (λ p. p.field.name.text) param_marks [] ps) → ((t : ℕ) → IsIn t (map (λ p. p.content) (map (parameter_meant o.names) (map param_form_view ps))) → IsType o.shapes t) → (p : types.Parameter) → IsIn p (map (parameter_meant o.names) (map param_form_view ps)) → p.mode ≡ types.by_in → IsCopyable full p.content
  copies ps right known p i =
      let of_param = in-map_from (parameter_meant o.names) p (map param_form_view ps) i in
      let param = in-map_from param_form_view of_param.0 ps of_param.1 in
      let content : p.content ≡ place_of o.names param.0.field.of.text = ap (λ (q : types.Parameter). q.content) of_param.2 ∙ ap (λ q. (parameter_meant o.names q).content) param.2 in
      let mode : p.mode ≡ mode_meant (mode_form_view param.0.mode) = ap (λ (q : types.Parameter). q.mode) of_param.2 ∙ ap (λ q. (parameter_meant o.names q).mode) param.2 in
      let there = subst (IsType o.shapes) content (known p.content (in-map (λ (q : types.Parameter). q.content) p _ i)) in
      let copyable = each-turn o n (λ (q : ParamForm). q.field.name.text) param_marks (λ (q : ParamForm). IsType o.shapes (place_of o.names q.field.of.text) → mode_meant (mode_form_view q.mode) ≡ types.by_in → IsCopyable full (place_of o.names q.field.of.text)) by [] ps right param.0 param.1 there in
      λ e. subst (λ t. IsCopyable full t) (sym content) (copyable (sym mode ∙ e))
    where
      by : (before : List Letters) (q : ParamForm) → MarksRight o n (param_marks before q) → IsType o.shapes (place_of o.names q.field.of.text) → mode_meant (mode_form_view q.mode) ≡ types.by_in → IsCopyable full (place_of o.names q.field.of.text)
      by before q marks there e = go q.mode (marks (record { name = q.field.name; role = parameter_role q.mode before q.field.of.text }) (inl refl)) e
        where
          go : (m : ModeForm) → IsRight o (n, record { name = q.field.name; role = parameter_role m before q.field.of.text }) → mode_meant (mode_form_view m) ≡ types.by_in → IsCopyable full (place_of o.names q.field.of.text)
          go In right' e' = input-copyable q.field.name before q.field.of.text there right'
          go Inout right' e' = let k : ⊥ = cc e' in absurd k
          go Out right' e' = let k : ⊥ = cc e' in absurd k

  pub inputs : (form : ShapeForm) → MarksRight o n (shape_marks form) → NamesTypes o.shapes (meant_shape o (shape_form_view form)) → CopiesInputs full (meant_shape o (shape_form_view form))
  inputs (Names values) right known = tt
  inputs (Fields fs) right known = tt
  inputs (Cases cs) right known = tt
  inputs (Rows row ks) right known = tt
  inputs (Inport message facts) right known = tt
  inputs (Outport port) right known = tt
  inputs (CallMessage params raises) right known = λ p i e. copies params.items (left-right o n (in_turn (λ p. p.field.name.text) param_marks [] params.items) (in_turn (λ r. r.name.text) raise_marks [] raises.items) right) known p i e
