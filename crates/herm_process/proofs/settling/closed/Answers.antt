use Rattle.std.proofs.Common.{refl, ◌∙◌}
use Rattle.herm_process.proofs.GotTold.{close-recorded}
use Rattle.herm_process.proofs.settling.closed.Goals as goal

pub returns : goal.returns
returns c = record {
  entry = λ p. (refl, λ a e. close-recorded c.args.left.now.parcels c.len-count.result c.from_vec-left.result a c.len-count.ensures.number (c.from_vec-left.ensures ∙ c.in_ok-texts.ensures.texts) e);
}
