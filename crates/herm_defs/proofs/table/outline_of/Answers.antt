use Rattle.std.proofs.Common.{◌≡◌, ◌<◌, ◌^◌, ◌∙◌, sym, ap, map, length, subst, List}
use Rattle.herm_syntax.specs.Trees.{Letters}
use Rattle.herm_meaning.specs.Names.{NamedTable, IsWellNamed}
use Rattle.herm_meaning.proofs.Outlines.{outline-well_named}
use Rattle.herm_types.specs.Table.{IsSized, defined_table}
use Rattle.herm_meaning.specs.Meaning.{outline}
use Rattle.herm_defs.specs.Seen.{item_seen}
use Rattle.herm_defs.proofs.Sizes.{outline-is, outline-sized}
use Rattle.herm_defs.proofs.table.outline_of.Goals as goal

pub new-requires-clause-well_named : goal.new-requires-clause-well_named
new-requires-clause-well_named c =
    let is = outline-is (map item_seen c.args.items.now) c.in_ok-defined.defined.items c.in_ok-words.words.items c.args.types.now c.args.exceptions.now c.requires.types c.requires.exceptions c.in_ok-defined.ensures.names c.in_ok-defined.ensures.shapes c.in_ok-defined.ensures.parts c.in_ok-words.ensures in
    subst (λ (t : NamedTable). IsWellNamed t) (sym is) (outline-well_named (map item_seen c.args.items.now) c.requires.faultless)

pub new-requires-clause-sized : goal.new-requires-clause-sized
new-requires-clause-sized c =
    let is = outline-is (map item_seen c.args.items.now) c.in_ok-defined.defined.items c.in_ok-words.words.items c.args.types.now c.args.exceptions.now c.requires.types c.requires.exceptions c.in_ok-defined.ensures.names c.in_ok-defined.ensures.shapes c.in_ok-defined.ensures.parts c.in_ok-words.ensures in
    subst (λ (t : NamedTable). IsSized t) (sym is) (outline-sized (map item_seen c.args.items.now) c.requires.few (subst (λ (ns : List Letters). length ns < 2 ^ 32) c.requires.types c.requires.few_types))

pub returns : goal.returns
returns c =
    c.in_ok-table.ensures ∙ outline-is (map item_seen c.args.items.now) c.in_ok-defined.defined.items c.in_ok-words.words.items c.args.types.now c.args.exceptions.now c.requires.types c.requires.exceptions c.in_ok-defined.ensures.names c.in_ok-defined.ensures.shapes c.in_ok-defined.ensures.parts c.in_ok-words.ensures
