use Rattle.herm_model.proofs.ThereFacts.{full-there, declared-there, listed-there, form-facts, held-facts}
use Rattle.herm_model.proofs.typed_programs.typed_facts_are_there.Goals as goal

pub returns : goal.returns
returns c = record {
  full = full-there;
  declared = declared-there;
  listed = listed-there;
  forms = form-facts;
  held = held-facts;
}
