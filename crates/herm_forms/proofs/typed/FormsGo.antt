-- Every typed form that is a local step comes to an outcome.
use Rattle.std.proofs.Common.{ℕ, List}
use Rattle.herm_model.specs.Statements.{Process}
use Rattle.herm_forms.specs.Modules.{Module}
use Rattle.herm_forms.specs.laws.FormsGoOn.{FormsGoOn}
use Rattle.herm_forms.proofs.typed.LocalGoes.{assign-comes, move-comes, new-comes, discard-comes, unite-comes, dissolve-comes, reveal-comes, choose-comes, wrap-comes, unwrap-comes, remove-comes, get-comes, visit-comes, connect-comes, if-comes, while-comes, raise-comes, leave-comes}
use Rattle.herm_forms.proofs.typed.InsertGoes.{insert-comes}

pub forms-go : (exceptions : ℕ) (processes : List Process) (c : Module) → FormsGoOn exceptions processes c
forms-go exceptions processes c = record {
  assign = assign-comes exceptions processes c;
  move = move-comes exceptions processes c;
  new = new-comes exceptions processes c;
  discard = discard-comes exceptions processes c;
  unite = unite-comes exceptions processes c;
  dissolve = dissolve-comes exceptions processes c;
  reveal = reveal-comes exceptions processes c;
  choose = choose-comes exceptions processes c;
  wrap = wrap-comes exceptions processes c;
  unwrap = unwrap-comes exceptions processes c;
  insert = insert-comes exceptions processes c;
  remove = remove-comes exceptions processes c;
  get = get-comes exceptions processes c;
  visit = visit-comes exceptions processes c;
  connect = connect-comes exceptions processes c;
  if_test = if-comes exceptions processes c;
  while_test = while-comes exceptions processes c;
  raise = λ e is. raise-comes exceptions processes c e;
  leave = λ is. leave-comes exceptions processes c;
}
