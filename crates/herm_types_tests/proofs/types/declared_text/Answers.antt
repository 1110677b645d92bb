use Rattle.std.proofs.Common.{◌∙◌, ap, map, Some}
use Rattle.herm_types.specs.View.{fact_view, shape_view}
use Rattle.herm_types_tests.proofs.types.declared_text.Goals as goal

pub declared_facts-requires : goal.declared_facts-requires
declared_facts-requires c = (c.in-Inport._message.0, map fact_view c.in-Inport._facts.items, c.shape.ensures.shape ∙ ap (λ s. Some (shape_view s)) c.in-Inport.is)
