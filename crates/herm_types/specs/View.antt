-- What types and facts of the code stand for: those of the model, with the names of parts beside them.
use Rattle.std.specs.Prelude.{ℕ, List, [], ◌∷◌, map, length}
use Rattle.herm_model.specs.Paths as paths
use Rattle.herm_model.specs.Types as types
use Rattle.herm_syntax.specs.Trees.{Letters}
use Rattle.herm_meaning.specs.Names.{NamedTable}
use Rattle.herm_types.specs.declared.fact.Path.{Path}
use Rattle.herm_types.specs.declared.fact.Fact.{Fact}
use Rattle.herm_types.specs.declared.fact.Fact.TheVariants.{Init, Case}
use Rattle.herm_types.specs.declared.shape.Mode.{Mode}
use Rattle.herm_types.specs.declared.shape.Mode.TheVariants.{In, Inout, Out}
use Rattle.herm_types.specs.declared.shape.Part.{Part}
use Rattle.herm_types.specs.declared.shape.Param.{Param}
use Rattle.herm_types.specs.declared.shape.RaiseDecl.{RaiseDecl}
use Rattle.herm_types.specs.declared.shape.Shape.{Shape}
use Rattle.herm_types.specs.declared.shape.Shape.TheVariants.{Boolean, Integer, Text, Names, Fields, Cases, Rows, Poly, Inport, Outport, CallMessage}

abbrev pub path_view : Path → paths.Path
path_view p = p.var.0 ∷ p.parts.items

abbrev pub fact_view : Fact → paths.Fact
fact_view (Init p) = paths.init (path_view p)
fact_view (Case p component) = paths.case (path_view p) component

abbrev pub mode_view : Mode → types.Mode
mode_view In = types.by_in
mode_view Inout = types.by_inout
mode_view Out = types.by_out

abbrev pub param_view : Param → types.Parameter
param_view p = record { mode = mode_view p.mode; content = p.of.0 }

abbrev pub raise_decl_view : RaiseDecl → types.Raised
raise_decl_view r = record { exception = r.exc.0; kept = r.keeps.items }

abbrev pub shape_view : Shape → types.Shape
shape_view Boolean = types.boolean
shape_view Integer = types.integer
shape_view Text = types.text
shape_view (Names values) = types.names (length values.items)
shape_view (Fields fs) = types.fields (map (λ f. f.of.0) fs.items)
shape_view (Cases cs) = types.cases (map (λ c. c.of.0) cs.items)
shape_view (Rows row keys) = types.rows row.0 keys.items
shape_view Poly = types.polymorph
shape_view (Inport message facts) = types.inport message.0 (map fact_view facts.items)
shape_view (Outport port) = types.outport port.0
shape_view (CallMessage params raises) = types.callmessage (map param_view params.items) (map raise_decl_view raises.items)

-- the names of a shape's parts, by place
abbrev pub parts_view : Shape → List Letters
parts_view (Names values) = values.items
parts_view (Fields fs) = map (λ f. f.name) fs.items
parts_view (Cases cs) = map (λ c. c.name) cs.items
parts_view (CallMessage params raises) = map (λ p. p.name) params.items
parts_view s = []
