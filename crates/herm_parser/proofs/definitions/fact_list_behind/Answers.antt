use Rattle.std.proofs.Common.{rules, ◌∙◌}
use Rattle.herm_readers.specs.Combinators.{many, preceded}
use Rattle.herm_alphabet.specs.declared.sign.Mark.TheVariants.{Comma}
use Rattle.herm_syntax.specs.Symbols.{is, comma}
use Rattle.herm_syntax.specs.ReadModules.{read_fact}
use Rattle.herm_syntax.specs.View.{dfact_view}
use Rattle.herm_syntax.proofs.Files.{fact_r}
use Rattle.herm_parser.specs.AlongDefinitions.{past_fact}
use Rattle.herm_parser.specs.Along.{past_behind}
use Rattle.herm_parser.specs.Gives.{kinds}
use Rattle.herm_parser.proofs.Loops.{goes_behind, loop_next, loop_start, loop_smaller, past_next, past_start}
use Rattle.herm_parser.proofs.definitions.fact_list_behind.Goals as goal

pub list-init : goal.list-init
list-init c =
    (loop_start (dfact_view) c.new-found.result.items (many (is comma) (preceded (is comma) read_fact) (kinds c.args.tokens.now)) (search rules), past_start (past_behind past_fact) c.new-found.result.items c.args.tokens.now (search rules))

pub list-smaller : goal.list-smaller
list-smaller c = loop_smaller (dfact_view) (is comma) (preceded (is comma) read_fact) (goes_behind Comma fact_r.rule read_fact fact_r.reads) c.in_ok-item.item c.list.rest.now c.in_ok-item.behind.now c.in_ok-item.ensures.read

pub list-preserved : goal.list-preserved
list-preserved c = (
  loop_next (dfact_view) (is comma) (preceded (is comma) read_fact) (goes_behind Comma fact_r.rule read_fact fact_r.reads)
      c.list.found.items c.push.new.self.items c.in_ok-item.item (kinds c.list.rest.now) (kinds c.in_ok-item.behind.now)
      c.in_ok-push.ensures.items (search rules) c.in_ok-item.ensures.read ∙ c.list.invariant.0,
  past_next (past_behind past_fact) c.list.found.items c.push.new.self.items c.in_ok-item.item c.args.tokens.now c.list.rest.now c.in_ok-item.behind.now
      c.in_ok-push.ensures.items c.list.invariant.1 c.in_ok-item.ensures.along,
)
