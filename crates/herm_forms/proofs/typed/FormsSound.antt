-- Every typed form keeps sound values, and what it gives away suits.
use Rattle.std.proofs.Common.{ℕ, List}
use Rattle.herm_model.specs.Statements.{Process}
use Rattle.herm_forms.specs.Modules.{Module}
use Rattle.herm_forms.specs.laws.FormsSound.{FormsKeepSound, FormsGiveWhatSuits}
use Rattle.herm_forms.proofs.forms.KnownComponents.{components-known}
use Rattle.herm_forms.proofs.typed.LocalForms.{assign-keeps, move-keeps, new-keeps, discard-keeps, unite-keeps, dissolve-keeps, wrap-keeps, unwrap-keeps, insert-keeps, remove-keeps, get-keeps, visit-keeps, connect-keeps, if-keeps, while-keeps, raise-keeps, leave-keeps}
use Rattle.herm_forms.proofs.typed.ActionForms.{inport-keeps, send-gives, send-keeps, receive-keeps, select-keeps, return-keeps, return-by-keeps, create-keeps}
use Rattle.herm_forms.proofs.typed.CallForms.{call-gives, call-keeps, return-gives, return-by-gives}

pub forms-sound : (exceptions : ℕ) (processes : List Process) (c : Module) → FormsKeepSound exceptions processes c
forms-sound exceptions processes c = record {
  assign = assign-keeps exceptions processes c;
  move = move-keeps exceptions processes c;
  new = new-keeps exceptions processes c;
  new_inport = inport-keeps exceptions processes c;
  discard = discard-keeps exceptions processes c;
  unite = unite-keeps exceptions processes c;
  dissolve = dissolve-keeps exceptions processes c;
  reveal = λ v k is. (components-known c).reveal v k;
  choose = λ v ks is. (components-known c).choose v ks;
  wrap = wrap-keeps exceptions processes c;
  unwrap = unwrap-keeps exceptions processes c;
  insert = insert-keeps exceptions processes c;
  remove = remove-keeps exceptions processes c;
  get = get-keeps exceptions processes c;
  visit = visit-keeps exceptions processes c;
  connect = connect-keeps exceptions processes c;
  send = send-keeps exceptions processes c;
  receive = receive-keeps exceptions processes c;
  select = select-keeps exceptions processes c;
  call = call-keeps exceptions processes c;
  return = return-keeps exceptions processes c;
  return_by = return-by-keeps exceptions processes c;
  create = create-keeps exceptions processes c;
  if_test = if-keeps exceptions processes c;
  while_test = while-keeps exceptions processes c;
  raise = raise-keeps exceptions processes c;
  leave = leave-keeps exceptions processes c;
}

pub forms-give : (exceptions : ℕ) (processes : List Process) (c : Module) → FormsGiveWhatSuits exceptions processes c
forms-give exceptions processes c = record {
  sent = send-gives exceptions processes c;
  called = call-gives exceptions processes c;
  returned = return-gives exceptions processes c;
  returned_by = return-by-gives exceptions processes c;
}
