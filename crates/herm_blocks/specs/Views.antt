-- What blocks of the code stand for.
use Rattle.std.specs.Prelude.{◌≡◌, ℕ, List, [], map}
use Rattle.herm_base.specs.declared.numbers.TypeNo.{TypeNo}
use Rattle.herm_model.specs.Lists.{IsIn}
use Rattle.herm_model.specs.Types.{TypeTable}
use Rattle.herm_model.specs.FactsOfStatements.{makes, kills}
use Rattle.herm_types.specs.View.{path_view, fact_view}
use Rattle.herm_typed.specs.View.{outcome_view}
use Rattle.herm_instructions.specs.Labels.{Slot}
use Rattle.herm_translated.specs.CodeBlocks.{CodeBlock}
use Rattle.herm_fronts.specs.declared.departures.Departure.{Departure}
use Rattle.herm_fronts.specs.Forms.{form_seen}
use Rattle.herm_fronts.specs.Blocks.{departure_view}
use Rattle.herm_blocks.specs.declared.block.Block.{Block}

abbrev pub slots_view : List (ℕ × TypeNo) → List Slot
slots_view slots = map (λ s. record { number = s.0; row = (s.1).0 }) slots

abbrev pub block_view : Block → CodeBlock
block_view b = record {
  statement = b.statement;
  form = form_seen b.form.now;
  facts = map fact_view b.facts.items;
  slots = slots_view b.slots.items;
  onward = b.onward;
  departures = map departure_view b.departures.items;
}

-- Each edge makes the facts and takes away the paths of its outcome. Language reference, "Held".
pub record IsMarked (types : TypeTable) (variables : List ℕ) (b : Block) : Type 0 where
  pub made : (d : Departure) → IsIn d b.departures.items → map fact_view d.makes.now ≡ makes types variables (form_seen b.form.now) (outcome_view d.outcome)
  pub killed : (d : Departure) → IsIn d b.departures.items → map path_view d.kills.now ≡ kills types variables (form_seen b.form.now) (outcome_view d.outcome)

-- The edge to where a process begins makes no facts and takes nothing away.
pub record IsUnmarked (d : Departure) : Type 0 where
  pub made : map fact_view d.makes.now ≡ []
  pub killed : map path_view d.kills.now ≡ []
