use Rattle.std.proofs.Common.{◌≡◌, map, subst, sym, ◌∙◌}
use Rattle.herm_meaning.specs.Names.{NamedTable, IsWellNamed}
use Rattle.herm_types.specs.Table.{table_of, defined_table, IsSized}
use Rattle.herm_types.proofs.Extended.{extended}
use Rattle.herm_types.proofs.table.TypeTable.new.Goals as goal

pub assemble-requires-clause-well_named : goal.assemble-requires-clause-well_named
assemble-requires-clause-well_named c =
    let same = extended c.args.defined.items c.args.exceptions.items _ _ _ _ _ _ c.in_ok-names.ensures c.in_ok-shapes.ensures.shapes c.in_ok-shapes.ensures.parts c.in_ok-all.ensures c.in_ok-append_types.ensures.names c.in_ok-append_types.ensures.shapes c.in_ok-append_words.ensures in
    subst (λ (t : NamedTable). IsWellNamed t) (sym same) c.requires.well_named

pub assemble-requires-clause-sized : goal.assemble-requires-clause-sized
assemble-requires-clause-sized c =
    let same = extended c.args.defined.items c.args.exceptions.items _ _ _ _ _ _ c.in_ok-names.ensures c.in_ok-shapes.ensures.shapes c.in_ok-shapes.ensures.parts c.in_ok-all.ensures c.in_ok-append_types.ensures.names c.in_ok-append_types.ensures.shapes c.in_ok-append_words.ensures in
    subst (λ (t : NamedTable). IsSized t) (sym same) c.requires.sized

pub returns : goal.returns
returns c =
    let same = extended c.args.defined.items c.args.exceptions.items _ _ _ _ _ _ c.in_ok-names.ensures c.in_ok-shapes.ensures.shapes c.in_ok-shapes.ensures.parts c.in_ok-all.ensures c.in_ok-append_types.ensures.names c.in_ok-append_types.ensures.shapes c.in_ok-append_words.ensures in
    c.in_ok-table.ensures ∙ same
