use Rattle.std.proofs.Common.{[], refl}
use Rattle.herm_code.specs.View.{image_view}
use Rattle.herm_code_worlds.specs.CodeWorlds.{named, nameless}
use Rattle.herm_queue.specs.BookStates.{limits_view}
use Rattle.herm_waking.specs.KeptRounds.{first_worked}
use Rattle.herm_waking.specs.UnnamedRounds.{bare_first}
use Rattle.herm_world.proofs.world.World.begin.Goals as goal

pub invariant_of-result : goal.invariant_of-result
invariant_of-result c = λ alive. (
  c.in_ok-parts.ensures.limits,
  record {
    works = c.works.ensures.works;
    limits = limits_view c.args.limits;
    few = c.args.limits.few_processes;
    short = c.args.limits.few_steps;
    argument = c.args.arg.now;
    text = c.requires.text;
    events = [];
    run = first_worked (named (image_view c.args.image.now) c.args.main) (limits_view c.args.limits) c.args.arg.now;
    bare = bare_first (nameless (image_view c.args.image.now) c.args.main) c.args.main (limits_view c.args.limits) c.args.arg.now;
    room = c.in_ok-parts.ensures.room;
    shows = c.in_ok-parts.ensures.begins;
  },
)

pub returns : goal.returns
returns c = record { image = refl; main = refl; begins = c.in_ok-parts.ensures.begins }
