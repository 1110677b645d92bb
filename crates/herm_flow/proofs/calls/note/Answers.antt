use Rattle.herm_flow.proofs.CallLists.{noted-in}
use Rattle.herm_flow.proofs.calls.note.Goals as goal

pub returns : goal.returns
returns c = record { heads = λ h m. noted-in c.args.heads.now.items _ _ h c.in_ok-push-2.ensures.items m }
