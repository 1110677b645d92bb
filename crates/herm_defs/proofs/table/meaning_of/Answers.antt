use Rattle.std.proofs.Common.{◌≡◌, ◌<◌, ◌^◌, ◌∙◌, sym, ap, map, length, subst, List}
use Rattle.herm_syntax.specs.Trees.{Letters}
use Rattle.herm_meaning.specs.Names.{NamedTable, IsWellNamed}
use Rattle.herm_meaning.proofs.WellNamed.{well-named}
use Rattle.herm_types.specs.Table.{IsSized, defined_table}
use Rattle.herm_meaning.specs.Meaning.{meaning}
use Rattle.herm_defs.specs.Seen.{item_seen}
use Rattle.herm_defs.proofs.Sizes.{meaning-is, meaning-sized}
use Rattle.herm_defs.proofs.table.meaning_of.Goals as goal

pub defined_of-requires-clause-types : goal.defined_of-requires-clause-types
defined_of-requires-clause-types c = c.requires.types ∙ ap (λ (t : NamedTable). t.names) (sym c.requires.outline)

pub defined_of-requires-clause-exceptions : goal.defined_of-requires-clause-exceptions
defined_of-requires-clause-exceptions c = c.requires.exceptions ∙ ap (λ (t : NamedTable). t.exceptions) (sym c.requires.outline)

pub new-requires-clause-well_named : goal.new-requires-clause-well_named
new-requires-clause-well_named c =
    let is = meaning-is (map item_seen c.args.items.now) c.in_ok-defined.defined.items c.in_ok-words.words.items c.args.table.now c.requires.outline c.in_ok-defined.ensures.names c.in_ok-defined.ensures.shapes c.in_ok-defined.ensures.parts c.in_ok-words.ensures in
    subst (λ (t : NamedTable). IsWellNamed t) (sym is) (well-named (map item_seen c.args.items.now) c.requires.faultless)

pub new-requires-clause-sized : goal.new-requires-clause-sized
new-requires-clause-sized c =
    let is = meaning-is (map item_seen c.args.items.now) c.in_ok-defined.defined.items c.in_ok-words.words.items c.args.table.now c.requires.outline c.in_ok-defined.ensures.names c.in_ok-defined.ensures.shapes c.in_ok-defined.ensures.parts c.in_ok-words.ensures in
    subst (λ (t : NamedTable). IsSized t) (sym is) (meaning-sized (map item_seen c.args.items.now) c.requires.few (subst (λ (ns : List Letters). length ns < 2 ^ 32) c.requires.types c.requires.few_types))

pub returns : goal.returns
returns c =
    c.in_ok-whole.ensures ∙ meaning-is (map item_seen c.args.items.now) c.in_ok-defined.defined.items c.in_ok-words.words.items c.args.table.now c.requires.outline c.in_ok-defined.ensures.names c.in_ok-defined.ensures.shapes c.in_ok-defined.ensures.parts c.in_ok-words.ensures
