use Rattle.std.proofs.Common.{take, ap}
use Rattle.herm_edge.specs.Buffered.{held_bytes}
use Rattle.herm_edge.proofs.Putting.{put-at-once}
use Rattle.herm_edge.proofs.buffered.put_first.Goals as goal

pub returns-then-bytes-len-clause-put : goal.returns-then-bytes-len-clause-put
returns-then-bytes-len-clause-put g c = put-at-once _ _ _ _ _ (held_bytes c.args.buffer.now) _ (ap (λ n. take n c.args.buffer.now.bytes.items) c.requires.empty) c.write_now.ensures.flushed
