use Rattle.std.proofs.Common.{map, sym, ap, subst}
use Rattle.herm_types.specs.View.{path_view}
use Rattle.herm_typestate.specs.Small.{AreSmall}
use Rattle.herm_typestate.specs.Topmost.{AddTopmost, is_left}
use Rattle.herm_typestate.specs.Facts.{has_fact}
use Rattle.herm_typestate.proofs.Left.{excess_of_left}
use Rattle.herm_typestate.proofs.state.State.excess.Goals as goal

pub returns : goal.returns
unfolding has_fact
returns c =
    excess_of_left c.args.self.now.vars.items c.args.low.now.vars.items c.new-at.result.items (map path_view c.new-out.result.items) (map path_view c.excess.new.out.items) c.new-at.ensures.items (ap (map path_view) c.new-out.ensures.items)
    (subst (λ ts. AddTopmost (is_left ts c.args.low.now.vars.items) c.new-at.result.items (map path_view c.new-out.result.items) (map path_view c.excess.new.out.items)) c.as_slice.ensures.value
    (subst (λ us. AddTopmost (is_left c.as_slice.result.now us) c.new-at.result.items (map path_view c.new-out.result.items) (map path_view c.excess.new.out.items)) c.as_slice-2.ensures.value (c.in_ok-excess.ensures.out (subst AreSmall (sym c.as_slice.ensures.value) c.args.self.now.small))))
