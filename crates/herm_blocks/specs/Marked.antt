-- Blocks of the definition with what their edges make and take away.
use Rattle.std.specs.Prelude.{ℕ, List, map}
use Rattle.herm_model.specs.Types.{TypeTable}
use Rattle.herm_model.specs.Statements.{Form}
use Rattle.herm_model.specs.FactsOfStatements.{makes, kills}
use Rattle.herm_translated.specs.Departures.{Departure}
use Rattle.herm_translated.specs.CodeBlocks.{CodeBlock}
use Rattle.herm_fronts.specs.Blocks.{MarkedDeparture}
use Rattle.herm_blocks.specs.Scopes.{MarkedBlock}

module _ (types : TypeTable) (variables : List ℕ) where
  abbrev pub marked_departure_of : Form → Departure → MarkedDeparture
  marked_departure_of form d = record { departure = d; makes = makes types variables form d.outcome; kills = kills types variables form d.outcome }

  -- Each edge makes the facts and takes away the paths of its outcome. Language reference, "Held".
  abbrev pub marked_of : CodeBlock → MarkedBlock
  marked_of b = record {
    statement = b.statement;
    form = b.form;
    facts = b.facts;
    slots = b.slots;
    onward = b.onward;
    departures = map (marked_departure_of b.form) b.departures;
  }
