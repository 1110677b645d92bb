use Rattle.std.proofs.Common.{option_map}
use Rattle.herm_suits.specs.View.{degree_view, content_view}
use Rattle.herm_suits.proofs.Shaped.{field-at, parameter-at}
use Rattle.herm_suits.proofs.layouts.content_at.Goals as goal

pub returns-in-Fields : goal.returns-in-Fields
returns-in-Fields c = field-at (degree_view c.args.degree) c.args.shape.now c.in-Fields.fields c.as_slice.result.now c.args.place (option_map content_view c.field_content.result) c.in-Fields.is c.as_slice.ensures.value c.field_content.ensures

pub returns-in-CallMessage : goal.returns-in-CallMessage
returns-in-CallMessage c =
    parameter-at (degree_view c.args.degree) c.args.shape.now c.in-CallMessage.params c.in-CallMessage.raises c.as_slice-in-CallMessage.result.now c.args.place (option_map content_view c.content_of_parameter.result) c.in-CallMessage.is
    c.as_slice-in-CallMessage.ensures.value c.content_of_parameter.ensures
