use Rattle.herm_model.specs.Values.{Name}
use Rattle.herm_held.proofs.TypedReads.{type-read}
use Rattle.herm_held.proofs.held.what_is_read_stands_typed.Goals as goal

pub returns : goal.returns
returns c = record { typed = λ table types p variables d h e. let r = type-read Name table types p variables d h e in (r.type, r.at, r.typed) }
