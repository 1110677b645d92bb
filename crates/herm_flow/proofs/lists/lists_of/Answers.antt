use Rattle.std.proofs.Common.{sym}
use Rattle.herm_flow.proofs.LedEdges.{led_all}
use Rattle.herm_flow.proofs.lists.lists_of.Goals as goal

pub lists_of_call-requires : goal.lists_of_call-requires
lists_of_call-requires c = record { call = record { arguments = c.in-Call.arguments; is = c.in-Call.is; items = sym c.as_slice.ensures.value } }

pub returns-in_ok-found-in-Call-clause-led : goal.returns-in_ok-found-in-Call-clause-led
returns-in_ok-found-in-Call-clause-led c = led_all c.args.frame.now c.args.form.now c.in_ok-found-in-Call.found.edges.items c.args.leads.now c.in_ok-found-in-Call.ensures.leads
