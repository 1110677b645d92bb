use Rattle.std.proofs.Common.{◌≡◌, get_or, rules}
use Rattle.herm_resolve.proofs.Placed.{codes_set, spans_set}
use Rattle.herm_resolve.proofs.statements.set_code.Goals as goal

pub returns-clause-codes : goal.returns-clause-codes
returns-clause-codes c = codes_set c.args.found.now.items c.args.place (record { span = c.index_mut.result.now.span; code = c.args.code })

pub returns-clause-spans : goal.returns-clause-spans
returns-clause-spans c = spans_set c.args.found.now.items c.args.place (record { span = c.index_mut.result.now.span; code = c.args.code }) c.index_mut.result.now (let e : c.index_mut.result.now.span ≡ (get_or c.args.found.now.items c.args.place c.index_mut.result.now).span = search rules in e)
