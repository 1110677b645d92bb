use Rattle.herm_forms.specs.Excess.{excess_over_full}
use Rattle.herm_types.specs.View.{path_view}
use Rattle.herm_frames.proofs.LostJoined.{lost_joined}
use Rattle.herm_frames.proofs.excess.+push_excess.Goals as goal

pub returns : goal.returns
returns t c = λ code s h k v.
    lost_joined path_view (λ p. excess_over_full code p s) c.args.out.now.items c.append.new.self.items _ c.in_ok-lost.lost.items c.args.paths.now c.in-Some.rest.now c.in-Some.first.now
    (c.in_ok-push_excess.ensures code s h k v) c.in_ok-append.ensures.items (c.in_ok-lost.ensures code s h k v) c.in-Some.ensures.cases.0
