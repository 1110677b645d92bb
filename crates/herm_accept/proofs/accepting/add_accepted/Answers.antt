use Rattle.herm_accept.proofs.accepting.add_accepted.Goals as goal

pub returns : goal.returns
returns c = record {
  coercions = c.in_ok-coercions.coercions;
  coerced = c.in_ok-coercions.ensures.coercions;
  flows_are = c.in_ok-push.ensures.items;
  labels_are = c.in_ok-push-2.ensures.items;
  coercions_are = c.in_ok-push-3.ensures.items;
}
