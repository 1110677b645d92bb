-- What is known of definitions before their names are judged.
use Rattle.herm_graph.specs.Analysed.{Analyses}
use Rattle.herm_defs.specs.declared.context.Context.TheInside.{Inside}
use Rattle.herm_defs.specs.View.{context_view}

-- the tests are those of that table
abbrev pub IsKnown : Inside → Type 0
IsKnown a = Analyses (context_view a) a.tests
