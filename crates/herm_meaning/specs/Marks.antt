-- The places of a text at which a definition can be faulty, in the order of the text.
use Rattle.std.specs.Prelude.{ℕ, suc, List, [], ◌∷◌, ◌++◌}
use Rattle.herm_base.specs.declared.word.Name.{Name}
use Rattle.herm_syntax.specs.declared.definitions.DefForm.{DefForm}
use Rattle.herm_syntax.specs.declared.definitions.DefForm.TheVariants.{Shaped, Exception}
use Rattle.herm_syntax.specs.declared.definitions.Field.{Field}
use Rattle.herm_syntax.specs.declared.definitions.ModeForm.{ModeForm}
use Rattle.herm_syntax.specs.declared.definitions.ModeForm.TheVariants.{In, Inout, Out}
use Rattle.herm_syntax.specs.declared.definitions.ParamForm.{ParamForm}
use Rattle.herm_syntax.specs.declared.definitions.RaiseForm.{RaiseForm}
use Rattle.herm_syntax.specs.declared.definitions.ShapeForm.{ShapeForm}
use Rattle.herm_syntax.specs.declared.definitions.ShapeForm.TheVariants.{Names, Fields, Cases, Rows, Inport, Outport, CallMessage}
use Rattle.herm_syntax.specs.Trees.{Letters, Shape}
use Rattle.herm_syntax.specs.View.{shape_form_view}
use Rattle.herm_meaning.specs.Items.{Placed}

-- What a name stands for at its place.
pub data Role : Type 0 where
  -- the name of the type with this number, which is defined with this shape
  a_type : (number : ℕ) → Shape → Role
  -- the name of the exception with this number
  an_exception : (number : ℕ) → Role
  -- a part, behind these of the same list
  a_part : (before : List Letters) → Role
  -- a parameter of mode `in`, behind these of the same list, and its type's name
  an_input : (before : List Letters) → (content : Letters) → Role
  -- the type of a part or of a message
  a_content : Role
  -- the type of a table's rows
  a_row : Role
  -- a part of a table's key, behind these of the same key, and the row's name
  a_key : (before : List Letters) → (row : Letters) → Role
  -- the type that an outport leads to
  a_port : Role
  -- an exception in `raises`, behind these of the same list
  a_raised : (before : List Letters) → Role
  -- a kept parameter, behind these of the same list
  a_kept : (before : List Letters) → Role

pub record Mark : Type 0 where
  pub name : Name
  pub role : Role

-- the marks of each element, with the names of those before it
abbrev pub in_turn : {X : Type 0} → (X → Letters) → (List Letters → X → List Mark) → List Letters → List X → List Mark
in_turn name marks before [] = []
in_turn name marks before (x ∷ xs) = marks before x ++ in_turn name marks (before ++ name x ∷ []) xs

abbrev pub mark : Name → Role → List Mark
mark name role = record { name = name; role = role } ∷ []

abbrev pub part_marks : List Letters → Name → List Mark
part_marks before n = mark n (a_part before)

abbrev pub field_marks : List Letters → Field → List Mark
field_marks before f = mark f.name (a_part before) ++ mark f.of a_content

abbrev pub key_marks : Letters → List Letters → Name → List Mark
key_marks row before k = mark k (a_key before row)

abbrev pub parameter_role : ModeForm → List Letters → Letters → Role
parameter_role In before content = an_input before content
parameter_role Inout before content = a_part before
parameter_role Out before content = a_part before

abbrev pub param_marks : List Letters → ParamForm → List Mark
param_marks before p = mark p.field.name (parameter_role p.mode before p.field.of.text) ++ mark p.field.of a_content

abbrev pub kept_marks : List Letters → Name → List Mark
kept_marks before k = mark k (a_kept before)

abbrev pub raise_marks : List Letters → RaiseForm → List Mark
raise_marks before r = mark r.name (a_raised before) ++ in_turn (λ k. k.text) kept_marks [] r.keeps.items

-- the marks of a shape in the order of the text
abbrev pub shape_marks : ShapeForm → List Mark
shape_marks (Names values) = in_turn (λ n. n.text) part_marks [] values.items
shape_marks (Fields fs) = in_turn (λ f. f.name.text) field_marks [] fs.items
shape_marks (Cases cs) = in_turn (λ c. c.name.text) field_marks [] cs.items
shape_marks (Rows row keys) = mark row a_row ++ in_turn (λ k. k.text) (key_marks row.text) [] keys.items
shape_marks (Inport message facts) = mark message a_content
shape_marks (Outport port) = mark port a_port
shape_marks (CallMessage params raises) = in_turn (λ p. p.field.name.text) param_marks [] params.items ++ in_turn (λ r. r.name.text) raise_marks [] raises.items

-- a mark with the number of its module
abbrev pub Place : Type 0
Place = ℕ × Mark

abbrev pub places_in : ℕ → List Mark → List Place
places_in module' [] = []
places_in module' (m ∷ ms) = (module', m) ∷ places_in module' ms

-- the marks of an item, and of those behind it, where the next type and the next exception have these numbers
abbrev pub places_by : ℕ → Name → DefForm → ℕ → ℕ → (ℕ → ℕ → List Place) → List Place
places_by module' name (Shaped shape) t e behind = places_in module' (mark name (a_type t (shape_form_view shape)) ++ shape_marks shape) ++ behind (suc t) e
places_by module' name Exception t e behind = places_in module' (mark name (an_exception e)) ++ behind t (suc e)

abbrev pub places_from : List Placed → ℕ → ℕ → List Place
places_from [] t e = []
places_from (i ∷ rest) t e = places_by i.0 i.1.name i.1.form t e (places_from rest)

-- The places of a text, by items, with types numbered from 8 and exceptions from 7 on.
abbrev pub places : List Placed → List Place
places items = places_from items 8 7
