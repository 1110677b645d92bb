use Rattle.herm_flow.proofs.ListedEdges.{named_alike}
use Rattle.herm_flow.proofs.lists.named_already.Goals as goal

pub returns-in_ok-makes-in-Some : goal.returns-in_ok-makes-in-Some
returns-in_ok-makes-in-Some c = record {
  named = named_alike c.args.frame.now c.args.form.now c.args.lists.now c.in-Some.edge.now c.args.outcome c.as_slice.result.now c.as_slice-in-Some.result.now c.in_ok-makes-in-Some.makes.items c.requires.listed c.in-Some.ensures.there c.as_slice.ensures.value c.in-Some.ensures.makes c.in-Some.ensures.kills
      c.in_ok-makes-in-Some.ensures.items c.as_slice-in-Some.ensures.value;
}
