use Rattle.herm_model.specs.Tables.{same_scalar, same_key}
use Rattle.herm_model.proofs.Equality.{same_scalar-is, same_scalar_self, same_key-is, same_key_self, decides}
use Rattle.herm_model.proofs.values.keys_are_compared.Goals as goal

pub returns-clause-scalars : goal.returns-clause-scalars
returns-clause-scalars c = decides same_scalar same_scalar-is same_scalar_self

pub returns-clause-keys : goal.returns-clause-keys
returns-clause-keys c = decides same_key same_key-is same_key_self
