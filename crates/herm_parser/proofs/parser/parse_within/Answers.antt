use Rattle.std.proofs.Common.{rules, arith, ◌+◌}
use Rattle.herm_parser.proofs.Whole.{parsed}
use Rattle.herm_parser.proofs.parser.parse_within.Goals as goal

pub returns-in-Ok-clause-parsed : goal.returns-in-Ok-clause-parsed
returns-in-Ok-clause-parsed c =
    parsed c.args.tokens.now c.in-Ok.found.1.now c.in-Ok.found.0.items (c.most_brackets.result + 1) (omega arith) c.requires (search rules) (search rules)
