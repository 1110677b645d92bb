use Rattle.std.proofs.Common.{◌∙◌, ap, sym, not, nat_lt, List}
use Rattle.std.specs.List.{list_any}
use Rattle.herm_types.specs.declared.shape.RaiseDecl.{RaiseDecl}
use Rattle.herm_types.specs.View.{shape_view}
use Rattle.herm_graph.specs.Links.{raises_beyond}
use Rattle.herm_graph.proofs.UnknownNames.{any-raised}
use Rattle.herm_graph.proofs.unknown.raises_unknown.Goals as goal

pub returns-in-CallMessage : goal.returns-in-CallMessage
returns-in-CallMessage c =
    c.any_unraised.ensures
    ∙ (ap (λ (rs : List RaiseDecl). list_any (λ (r : RaiseDecl). not (nat_lt r.exc.0 c.args.exceptions)) rs) c.as_slice.ensures.value
    ∙ (any-raised c.args.exceptions c.in-CallMessage.raises.items
    ∙ sym (ap (λ s. raises_beyond c.args.exceptions (shape_view s)) c.in-CallMessage.is)))
