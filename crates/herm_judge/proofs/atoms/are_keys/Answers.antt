use Rattle.std.proofs.Common.{map, slice_get, ◌∙◌}
use Rattle.herm_model.specs.Lists.{list_of}
use Rattle.herm_naming.specs.Fits.{field_types}
use Rattle.herm_typed.specs.View.{typed_atom_view}
use Rattle.herm_judge.specs.View.{table_of, variables_of}
use Rattle.herm_judge.proofs.Stops.{no_key}
use Rattle.herm_judge.proofs.atoms.are_keys.Goals as goal

pub returns-in-None : goal.returns-in-None
returns-in-None c = record {
  keys = no_key typed_atom_view (table_of c.args.frame.now) (variables_of c.args.frame.now) (list_of field_types (slice_get (table_of c.args.frame.now) c.args.row.0)) c.args.key.now c.keys.place-index c.keys.rest.now c.keys-test.true c.in-None.ensures.cases
      ∙ c.keys.invariant;
}
