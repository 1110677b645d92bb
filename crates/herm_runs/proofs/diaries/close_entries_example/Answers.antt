use Rattle.std.proofs.Common.{refl}
use Rattle.std.specs.Prelude.{codes}
use Rattle.herm_model.specs.Values.{an_inport}
use Rattle.herm_journal.specs.Actions.{to_close}
use Rattle.herm_system.specs.PutAside.{IsBehind}
use Rattle.herm_runs.specs.examples.Closes.{alone, integer, with_part}
use Rattle.herm_runs.proofs.ClosesTold.{not-told, tells-nothing}
use Rattle.herm_runs.proofs.diaries.close_entries_example.Goals as goal

pub returns : goal.returns
returns c = record {
  texts = refl;
  inport = record { text = refl; answers = (to_close 1, refl, refl, refl); suits = refl };
  not_inport = not-told (codes "@12") (with_part (an_inport 1) (integer 2)) refl;
  integer = record { text = refl; answers = (to_close 1, refl, refl, refl); suits = refl };
  not_integer = not-told (codes "55") (with_part (integer 5) (integer 5)) refl;
  aside = IsBehind.aside (tells-nothing (alone (an_inport 1)) 34 (codes "a\"") refl refl);
}
