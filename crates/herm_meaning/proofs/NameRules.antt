-- Names without a fault are known and differ, shape by shape.
use Rattle.std.proofs.Common.{◌≡◌, ◌≤◌, ◌<◌, inl, inr, ℕ, List, [], ◌∷◌, map, length, Bool, true, false, refl, sym, ◌∙◌, ap, subst}
use Rattle.std.specs.Prelude.{nat_lt}
use Rattle.std.proofs.lemmas.Bool.{ltb-true, ltb-false}
use Rattle.herm_base.specs.declared.word.Name.{Name}
use Rattle.herm_model.specs.Lists.{IsIn}
use Rattle.herm_model.specs.Statements.{Differ}
use Rattle.herm_model.specs.Types as types
use Rattle.herm_model.specs.WellFormedTables.{IsType, NamesTypes, RaisesKnown, RaisesDifferent}
use Rattle.herm_model.proofs.Lists.{in-map_from}
use Rattle.herm_syntax.specs.declared.definitions.Field.{Field}
use Rattle.herm_syntax.specs.declared.definitions.ModeForm.{ModeForm}
use Rattle.herm_syntax.specs.declared.definitions.ModeForm.TheVariants.{In, Inout, Out}
use Rattle.herm_syntax.specs.declared.definitions.ParamForm.{ParamForm}
use Rattle.herm_syntax.specs.declared.definitions.RaiseForm.{RaiseForm}
use Rattle.herm_syntax.specs.declared.definitions.ShapeForm.{ShapeForm}
use Rattle.herm_syntax.specs.declared.definitions.ShapeForm.TheVariants.{Names, Fields, Cases, Rows, Inport, Outport, CallMessage}
use Rattle.herm_syntax.specs.Trees.{Letters}
use Rattle.herm_syntax.specs.View.{field_view, param_form_view, raise_form_view, shape_form_view}
use Rattle.herm_meaning.specs.Names.{NamedTable}
use Rattle.herm_meaning.specs.Walks.{place_of}
use Rattle.herm_meaning.specs.Meaning.{part_names, parameter_meant, raising_meant, meant_shape}
use Rattle.herm_meaning.specs.Marks.{a_part, a_content, a_row, a_port, a_raised, in_turn, part_marks, field_marks, param_marks, parameter_role, raise_marks, shape_marks}
use Rattle.herm_meaning.specs.DefinitionFaults.{unknown, twice, IsRight}
use Rattle.herm_meaning.proofs.FaultlessPlaces.{MarksRight, left-right, right-right, each-turn, differ-turn}
use Rattle.herm_meaning.proofs.NamePlaces.{stable, places-differ}

pub below : (a b : ℕ) → (b ≤ a → ⊥) → a < b
below a b h = by (nat_lt a b) refl
  where
    by : (t : Bool) → nat_lt a b ≡ t → a < b
    by true e = ltb-true a b e
    by false e = absurd (h (ltb-false a b e))

pub map-map : {X Y Z : Type 0} (f : Y → Z) (g : X → Y) (h : X → Z) (xs : List X) → ((x : X) → f (g x) ≡ h x) → map f (map g xs) ≡ map h xs
map-map f g h [] e = refl
map-map f g h (x ∷ xs) e = rw (e x, map-map f g h xs e) refl

module _ (o : NamedTable) (n : ℕ) where
  -- ---- types

  content-known : (name : Name) → IsRight o (n, record { name = name; role = a_content }) → IsType o.shapes (place_of o.names name.text)
  content-known name right = stable _ (λ not_there. right unknown not_there)

  parts-known : (fs : List Field) → MarksRight o n (in_turn (λ f. f.name.text) field_marks [] fs) → (t : ℕ) → IsIn t (map (λ f. place_of o.names f.1) (map field_view fs)) → IsType o.shapes t
  parts-known fs right t i =
      let of_part = in-map_from (λ (f : Letters × Letters). place_of o.names f.1) t (map field_view fs) i in
      let field = in-map_from field_view of_part.0 fs of_part.1 in
      let there = each-turn o n (λ (f : Field). f.name.text) field_marks (λ (f : Field). IsType o.shapes (place_of o.names f.of.text)) (λ before f marks. content-known f.of (marks (record { name = f.of; role = a_content }) (inr (inl refl)))) [] fs right field.0 field.1 in
      subst (IsType o.shapes) (sym (of_part.2 ∙ ap (λ (f : Letters × Letters). place_of o.names f.1) field.2)) there

  params-known : (ps : List ParamForm) → MarksRight o n (in_turn (λ p. p.field.name.text) param_marks [] ps) → (t : ℕ) → IsIn t (map (λ p. p.content) (map (parameter_meant o.names) (map param_form_view ps))) → IsType o.shapes t
  params-known ps right t i =
      let of_parameter = in-map_from (λ (p : types.Parameter). p.content) t (map (parameter_meant o.names) (map param_form_view ps)) i in
      let of_param = in-map_from (parameter_meant o.names) of_parameter.0 (map param_form_view ps) of_parameter.1 in
      let param = in-map_from param_form_view of_param.0 ps of_param.1 in
      let there = each-turn o n (λ (p : ParamForm). p.field.name.text) param_marks (λ (p : ParamForm). IsType o.shapes (place_of o.names p.field.of.text)) (λ before p marks. content-known p.field.of (marks (record { name = p.field.of; role = a_content }) (inr (inl refl)))) [] ps right param.0 param.1 in
      subst (IsType o.shapes) (sym (of_parameter.2 ∙ (ap (λ (p : types.Parameter). p.content) of_param.2 ∙ ap (λ p. (parameter_meant o.names p).content) param.2))) there

  pub types-known : (form : ShapeForm) → MarksRight o n (shape_marks form) → NamesTypes o.shapes (meant_shape o (shape_form_view form))
  types-known (Names values) right t i = absurd i
  types-known (Fields fs) right t i = parts-known fs.items right t i
  types-known (Cases cs) right t i = parts-known cs.items right t i
  types-known (Rows row keys) right t (inl e) = subst (IsType o.shapes) (sym e) (stable _ (λ not_there. right (record { name = row; role = a_row }) (inl refl) unknown not_there))
  types-known (Rows row keys) right t (inr i) = absurd i
  types-known (Inport message facts) right t (inl e) = subst (IsType o.shapes) (sym e) (content-known message (right (record { name = message; role = a_content }) (inl refl)))
  types-known (Inport message facts) right t (inr i) = absurd i
  types-known (Outport port) right t (inl e) = subst (IsType o.shapes) (sym e) (stable _ (λ not_there. right (record { name = port; role = a_port }) (inl refl) unknown not_there))
  types-known (Outport port) right t (inr i) = absurd i
  types-known (CallMessage params raises) right t i = params-known params.items (left-right o n (in_turn (λ p. p.field.name.text) param_marks [] params.items) (in_turn (λ r. r.name.text) raise_marks [] raises.items) right) t i

  -- ---- exceptions

  raised-known : (rs : List RaiseForm) → MarksRight o n (in_turn (λ r. r.name.text) raise_marks [] rs) → (r : RaiseForm) → IsIn r rs → place_of o.exceptions r.name.text < length o.exceptions
  raised-known rs right r i = each-turn o n (λ (r : RaiseForm). r.name.text) raise_marks (λ (r : RaiseForm). place_of o.exceptions r.name.text < length o.exceptions) (λ before r marks. below _ _ (λ past. marks (record { name = r.name; role = a_raised before }) (inl refl) unknown past)) [] rs right r i

  pub exceptions-known : (form : ShapeForm) → MarksRight o n (shape_marks form) → RaisesKnown (length o.exceptions) (meant_shape o (shape_form_view form))
  exceptions-known (Names values) right = tt
  exceptions-known (Fields fs) right = tt
  exceptions-known (Cases cs) right = tt
  exceptions-known (Rows row keys) right = tt
  exceptions-known (Inport message facts) right = tt
  exceptions-known (Outport port) right = tt
  exceptions-known (CallMessage params raises) right = λ r i.
      let of_raised = in-map_from (raising_meant o.names o.exceptions (map param_form_view params.items)) r (map raise_form_view raises.items) i in
      let raise = in-map_from raise_form_view of_raised.0 raises.items of_raised.1 in
      let there = raised-known raises.items (right-right o n (in_turn (λ p. p.field.name.text) param_marks [] params.items) (in_turn (λ r. r.name.text) raise_marks [] raises.items) right) raise.0 raise.1 in
      subst (λ e. e < length o.exceptions) (sym (ap (λ (s : types.Raised). s.exception) of_raised.2 ∙ ap (λ s. place_of o.exceptions s.0) raise.2)) there

  raised-differ : (rs : List RaiseForm) → MarksRight o n (in_turn (λ r. r.name.text) raise_marks [] rs) → Differ (map (λ r. place_of o.exceptions r.name.text) rs)
  raised-differ rs right =
      let apart = differ-turn o n (λ (r : RaiseForm). r.name.text) raise_marks (λ before r marks among. marks (record { name = r.name; role = a_raised before }) (inl refl) twice among) [] rs right in
      subst (λ ns. Differ ns) (map-map (place_of o.exceptions) (λ (r : RaiseForm). r.name.text) (λ (r : RaiseForm). place_of o.exceptions r.name.text) rs (λ r. refl))
      (places-differ o.exceptions (map (λ (r : RaiseForm). r.name.text) rs) apart (λ x i. let from = in-map_from (λ (r : RaiseForm). r.name.text) x rs i in subst (λ w. place_of o.exceptions w < length o.exceptions) (sym from.2) (raised-known rs right from.0 from.1)))

  pub exceptions-differ : (form : ShapeForm) → MarksRight o n (shape_marks form) → RaisesDifferent (meant_shape o (shape_form_view form))
  exceptions-differ (Names values) right = tt
  exceptions-differ (Fields fs) right = tt
  exceptions-differ (Cases cs) right = tt
  exceptions-differ (Rows row keys) right = tt
  exceptions-differ (Inport message facts) right = tt
  exceptions-differ (Outport port) right = tt
  exceptions-differ (CallMessage params raises) right =
      subst (λ ns. Differ ns)
      (sym (map-map (λ (r : types.Raised). r.exception) (raising_meant o.names o.exceptions (map param_form_view params.items)) (λ s. place_of o.exceptions s.0) (map raise_form_view raises.items) (λ s. refl) ∙ map-map (λ s. place_of o.exceptions s.0) raise_form_view (λ (r : RaiseForm). place_of o.exceptions r.name.text) raises.items (λ r. refl)))
      (raised-differ raises.items (right-right o n (in_turn (λ p. p.field.name.text) param_marks [] params.items) (in_turn (λ r. r.name.text) raise_marks [] raises.items) right))

  -- ---- parts

  field-apart : (before : List Letters) (f : Field) → MarksRight o n (field_marks before f) → IsIn f.name.text before → ⊥
  field-apart before f marks among = marks (record { name = f.name; role = a_part before }) (inl refl) twice among

  param-apart : (before : List Letters) (p : ParamForm) → MarksRight o n (param_marks before p) → IsIn p.field.name.text before → ⊥
  param-apart before p marks among = by p.mode (marks (record { name = p.field.name; role = parameter_role p.mode before p.field.of.text }) (inl refl))
    where
      by : (m : ModeForm) → IsRight o (n, record { name = p.field.name; role = parameter_role m before p.field.of.text }) → ⊥
      by In right = right twice among
      by Inout right = right twice among
      by Out right = right twice among

  pub params-differ : (ps : List ParamForm) → MarksRight o n (in_turn (λ p. p.field.name.text) param_marks [] ps) → Differ (map (λ p. p.1.0) (map param_form_view ps))
  params-differ ps right =
      subst (λ ns. Differ ns) (sym (map-map (λ p. p.1.0) param_form_view (λ (p : ParamForm). p.field.name.text) ps (λ p. refl)))
      (differ-turn o n (λ (p : ParamForm). p.field.name.text) param_marks param-apart [] ps right)

  fields-differ : (fs : List Field) → MarksRight o n (in_turn (λ f. f.name.text) field_marks [] fs) → Differ (map (λ f. f.0) (map field_view fs))
  fields-differ fs right =
      subst (λ ns. Differ ns) (sym (map-map (λ f. f.0) field_view (λ (f : Field). f.name.text) fs (λ f. refl)))
      (differ-turn o n (λ (f : Field). f.name.text) field_marks field-apart [] fs right)

  pub parts-differ : (form : ShapeForm) → MarksRight o n (shape_marks form) → Differ (part_names (shape_form_view form))
  parts-differ (Names values) right = differ-turn o n (λ (k : Name). k.text) part_marks (λ before k marks among. marks (record { name = k; role = a_part before }) (inl refl) twice among) [] values.items right
  parts-differ (Fields fs) right = fields-differ fs.items right
  parts-differ (Cases cs) right = fields-differ cs.items right
  parts-differ (Rows row keys) right = tt
  parts-differ (Inport message facts) right = tt
  parts-differ (Outport port) right = tt
  parts-differ (CallMessage params raises) right = params-differ params.items (left-right o n (in_turn (λ p. p.field.name.text) param_marks [] params.items) (in_turn (λ r. r.name.text) raise_marks [] raises.items) right)
