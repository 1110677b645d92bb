use Rattle.herm_flow.proofs.ArgumentLists.{called_more}
use Rattle.herm_flow.proofs.called.push_called.Goals as goal

pub returns-clause-called : goal.returns-clause-called
returns-clause-called c = called_more c.args.frame.now c.args.o.now c.args.edges.now.items c.push.new.self.items _ c.in_ok-push.ensures.items c.in_ok-makes.ensures.places c.kills_by-kills.ensures.number c.requires.called
