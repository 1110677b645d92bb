use Rattle.std.proofs.Common.{rules, ◌∙◌}
use Rattle.herm_readers.specs.Combinators.{many, preceded}
use Rattle.herm_syntax.specs.Symbols.{Sign, is}
use Rattle.herm_syntax.specs.ReadExpressions.{read_part, part_rule}
use Rattle.herm_syntax.specs.View.{name_view}
use Rattle.herm_syntax.proofs.Names.{part_reads}
use Rattle.herm_parser.specs.Along.{past_name}
use Rattle.herm_parser.specs.Along.{past_behind}
use Rattle.herm_parser.specs.Gives.{kinds}
use Rattle.herm_parser.proofs.Loops.{goes_behind, loop_next, loop_start, loop_smaller, past_next, past_start}
use Rattle.herm_parser.proofs.paths.parts_behind.Goals as goal

pub list-init : goal.list-init
list-init c =
    (loop_start (name_view) c.new-found.result.items (many (is (Sign c.args.before)) (preceded (is (Sign c.args.before)) read_part) (kinds c.args.tokens.now)) (search rules), past_start (past_behind past_name) c.new-found.result.items c.args.tokens.now (search rules))

pub list-smaller : goal.list-smaller
list-smaller c = loop_smaller (name_view) (is (Sign c.args.before)) (preceded (is (Sign c.args.before)) read_part) (goes_behind c.args.before part_rule read_part part_reads) c.in_ok-item.item c.list.rest.now c.in_ok-item.behind.now c.in_ok-item.ensures.read

pub list-preserved : goal.list-preserved
list-preserved c = (
  loop_next (name_view) (is (Sign c.args.before)) (preceded (is (Sign c.args.before)) read_part) (goes_behind c.args.before part_rule read_part part_reads)
      c.list.found.items c.push.new.self.items c.in_ok-item.item (kinds c.list.rest.now) (kinds c.in_ok-item.behind.now)
      c.in_ok-push.ensures.items (search rules) c.in_ok-item.ensures.read ∙ c.list.invariant.0,
  past_next (past_behind past_name) c.list.found.items c.push.new.self.items c.in_ok-item.item c.args.tokens.now c.list.rest.now c.in_ok-item.behind.now
      c.in_ok-push.ensures.items c.list.invariant.1 c.in_ok-item.ensures.along,
)
