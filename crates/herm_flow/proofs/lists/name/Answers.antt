use Rattle.herm_flow.proofs.ListedEdges.{listed_grown}
use Rattle.herm_flow.proofs.lists.name.Goals as goal

pub returns-in_ok-named-in-None-clause-listed : goal.returns-in_ok-named-in-None-clause-listed
returns-in_ok-named-in-None-clause-listed c =
    let more = c.in_ok-named-in-None.ensures in
    listed_grown c.args.frame.now c.args.form.now c.args.lists.now c.push_lists.new.lists more.made more.gone more.edges more.few c.requires.listed
