use Rattle.std.proofs.Common.{◌&&◌, nat_eq}
use Rattle.herm_forms.specs.Modules.{Span}
use Rattle.herm_forms.specs.LeavingLoops.{is_in_loop}
use Rattle.herm_fronts.specs.Walked.{span_view}
use Rattle.herm_blocks.proofs.Rest.{test-next}
use Rattle.herm_blocks.proofs.lengths.lengths_of.Goals as goal

pub loops-preserved : goal.loops-preserved
loops-preserved c = λ k n. test-next (λ (s : Span). nat_eq s.first n && is_in_loop k s) span_view _ _ _ c.args.loops.now c.loops.of-index _ c.loops-test.true (c.in_ok-put.ensures k n) (c.loops.invariant k n)
