use Rattle.std.proofs.Common.{refl, sym, ap}
use Rattle.herm_frames.specs.Scopes.{numbers_of}
use Rattle.herm_pieces.specs.View.{ready_view}
use Rattle.herm_answers.proofs.paths.excess_of.Goals as goal

pub returns : goal.returns
returns c = record { lost = λ s h. c.in_ok-lost.ensures.lost (ready_view c.args.code.now) s (refl, ap numbers_of (sym c.as_slice.ensures.value)) h }
