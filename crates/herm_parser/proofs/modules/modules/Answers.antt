use Rattle.std.proofs.Common.{rules, ◌∙◌}
use Rattle.herm_readers.specs.Combinators.{many}
use Rattle.herm_syntax.specs.ReadModules.{anything}
use Rattle.herm_syntax.specs.View.{module_view}
use Rattle.herm_parser.specs.AlongDefinitions.{past_module}
use Rattle.herm_parser.specs.Modules.{module_at}
use Rattle.herm_parser.proofs.Whole.{module_goes}
use Rattle.herm_parser.specs.Gives.{kinds}
use Rattle.herm_parser.proofs.Loops.{loop_next, loop_start, loop_smaller, past_next, past_start}
use Rattle.herm_parser.proofs.modules.modules.Goals as goal

pub list-init : goal.list-init
list-init c =
    (loop_start (module_view) c.new-found.result.items (many (anything) (module_at c.args.depth) (kinds c.args.tokens.now)) (search rules), past_start (past_module) c.new-found.result.items c.args.tokens.now (search rules))

pub list-smaller : goal.list-smaller
list-smaller c = loop_smaller (module_view) (anything) (module_at c.args.depth) (module_goes c.args.depth) c.in_ok-item.item c.list.rest.now c.in_ok-item.behind.now c.in_ok-item.ensures.read

pub list-preserved : goal.list-preserved
list-preserved c = (
  loop_next (module_view) (anything) (module_at c.args.depth) (module_goes c.args.depth)
      c.list.found.items c.push.new.self.items c.in_ok-item.item (kinds c.list.rest.now) (kinds c.in_ok-item.behind.now)
      c.in_ok-push.ensures.items (search rules) c.in_ok-item.ensures.read ∙ c.list.invariant.0,
  past_next (past_module) c.list.found.items c.push.new.self.items c.in_ok-item.item c.args.tokens.now c.list.rest.now c.in_ok-item.behind.now
      c.in_ok-push.ensures.items c.list.invariant.1 c.in_ok-item.ensures.along,
)
