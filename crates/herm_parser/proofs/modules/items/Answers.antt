use Rattle.std.proofs.Common.{rules, ◌∙◌}
use Rattle.herm_readers.specs.Combinators.{many}
use Rattle.herm_syntax.specs.ReadStatements.{inside}
use Rattle.herm_syntax.specs.ReadModules.{read_item}
use Rattle.herm_syntax.specs.View.{def_item_view}
use Rattle.herm_syntax.proofs.Files.{item_r, item_written}
use Rattle.herm_parser.specs.AlongDefinitions.{past_item}
use Rattle.herm_parser.proofs.Loops.{goes_by}
use Rattle.herm_parser.specs.Gives.{kinds}
use Rattle.herm_parser.proofs.Loops.{loop_next, loop_start, loop_smaller, past_next, past_start}
use Rattle.herm_parser.proofs.modules.items.Goals as goal

pub list-init : goal.list-init
list-init c =
    (loop_start (def_item_view) c.new-found.result.items (many (inside) (read_item) (kinds c.args.tokens.now)) (search rules), past_start (past_item) c.new-found.result.items c.args.tokens.now (search rules))

pub list-smaller : goal.list-smaller
list-smaller c = loop_smaller (def_item_view) (inside) (read_item) (goes_by inside item_r.rule read_item item_written item_r.reads) c.in_ok-item.item c.list.rest.now c.in_ok-item.behind.now c.in_ok-item.ensures.read

pub list-preserved : goal.list-preserved
list-preserved c = (
  loop_next (def_item_view) (inside) (read_item) (goes_by inside item_r.rule read_item item_written item_r.reads)
      c.list.found.items c.push.new.self.items c.in_ok-item.item (kinds c.list.rest.now) (kinds c.in_ok-item.behind.now)
      c.in_ok-push.ensures.items (search rules) c.in_ok-item.ensures.read ∙ c.list.invariant.0,
  past_next (past_item) c.list.found.items c.push.new.self.items c.in_ok-item.item c.args.tokens.now c.list.rest.now c.in_ok-item.behind.now
      c.in_ok-push.ensures.items c.list.invariant.1 c.in_ok-item.ensures.along,
)
