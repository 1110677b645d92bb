use Rattle.herm_forms.proofs.forms.KnownComponents.{components-known}
use Rattle.herm_forms.proofs.components.components_are_known.Goals as goal

pub returns : goal.returns
returns c = record { components = components-known }
