use Rattle.std.proofs.Common.{◌≡◌, ◌∙◌, ap, sym, map, slice_get, Some, subst, List, refl, arith}
use Rattle.std.proofs.lemmas.Option.{slice_get_read}
use Rattle.herm_model.specs.Paths as model
use Rattle.herm_model.specs.Types as types
use Rattle.herm_meaning.specs.Names.{NamedTable}
use Rattle.herm_types.specs.declared.shape.Shape.{Shape}
use Rattle.herm_types.specs.View.{path_view, fact_view, shape_view}
use Rattle.herm_types.specs.Table.{shapes_view}
use Rattle.herm_types.specs.Messages.{closed_list}
use Rattle.herm_types.proofs.PathFacts.{declared-full, declared-listed, declared-there, declared-at, empty-is, not-empty}
use Rattle.herm_types.proofs.table.TypeTable.declared_facts.Goals as goal

pub returns-then-is_empty : goal.returns-then-is_empty
returns-then-is_empty c =
    let none = ap (map fact_view) (sym c.as_slice.ensures.value) ∙ empty-is fact_view c.as_slice.result.now c.if-is_empty.ensures in
    declared-full c.args.self.now.shapes c.args.port.0 c.in-Inport.message.0 (path_view c.args.p.now) (map fact_view c.in-Inport.facts.items) (map fact_view c.in_ok-full-in-Inport.full.items) (c.shape.ensures.shape ∙ ap (λ s. Some (shape_view s)) c.in-Inport.is) none c.in_ok-full-in-Inport.ensures

pub index-declared-requires : goal.index-declared-requires
index-declared-requires c =
    let e : slice_get (shapes_view c.self.inside.shapes.items) c.args.port.0 ≡ Some (types.inport c.requires.0 c.requires.1) = ap (λ (t : NamedTable). slice_get t.shapes c.args.port.0) c.self.view_is ∙ c.requires.2 in
    omega (arith, declared-there c.self.inside.shapes.items c.self.inside.declared.items c.args.port.0 _ c.self.invariant.declared e, c.self.inside.declared.ok)

pub returns-in_ok-said-in-Inport : goal.returns-in_ok-said-in-Inport
returns-in_ok-said-in-Inport c =
    let table : shapes_view c.self.inside.shapes.items ≡ c.args.self.now.shapes = ap (λ (t : NamedTable). t.shapes) c.self.view_is in
    let some = not-empty fact_view c.as_slice.result.now c.if-is_empty.ensures in
    let is = c.shape.ensures.shape ∙ ap (λ s. Some (shape_view s)) c.in-Inport.is in
    let e : slice_get (shapes_view c.self.inside.shapes.items) c.args.port.0 ≡ Some (types.inport c.in-Inport.message.0 (map fact_view c.in-Inport.facts.items)) = ap (λ (t : types.TypeTable). slice_get t c.args.port.0) table ∙ is in
    let within = declared-there c.self.inside.shapes.items c.self.inside.declared.items c.args.port.0 _ c.self.invariant.declared e in
    let read : slice_get c.self.inside.declared.items c.args.port.0 ≡ Some c.index-declared.result.now = slice_get_read _ _ _ _ refl within c.index-declared.ensures in
    let listed = declared-at c.self.inside.shapes.items c.self.inside.declared.items c.args.port.0 _ _ _ c.self.invariant.declared read e in
    declared-listed c.args.self.now.shapes c.args.port.0 c.in-Inport.message.0 (path_view c.args.p.now) (map fact_view c.in-Inport.facts.items) (map fact_view c.in_ok-said-in-Inport.said.items) (map fact_view c.index-declared.result.now.items) is
    (λ n. some (ap (map fact_view) c.as_slice.ensures.value ∙ n))
    (subst (λ (t : types.TypeTable). map fact_view c.index-declared.result.now.items ≡ closed_list t c.in-Inport.message.0 (map fact_view c.in-Inport.facts.items)) table listed)
    (rw (← c.as_slice-in-Inport.ensures.value) c.in_ok-said-in-Inport.ensures)
