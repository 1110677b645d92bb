use Rattle.std.proofs.Common.{refl}
use Rattle.clap.proofs.OnLiterals.{clap_on_literals}
use Rattle.herm_commands.proofs.laws.examples.Goals as goal

pub returns : goal.returns
unfolding clap_on_literals
returns c = record {
  examples = record {
    one_file = refl;
    summary = refl;
    steps_last = refl;
    steps_first = refl;
    nothing_to_run = refl;
    three_nodes = refl;
    ring_and_file = refl;
    nothing_to_check = refl;
    two_checked = refl;
    no_nodes = refl;
    nodes = refl;
    file_twice = refl;
    both_reports = refl;
    option_twice = refl;
    behind_dashes = refl;
    help = refl;
  };
}
