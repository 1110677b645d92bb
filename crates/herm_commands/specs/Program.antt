-- The command as which the words are read (Language reference, "The command line").
use Rattle.std.specs.Prelude.{Some, true, codes}
use Rattle.clap.specs.Words.{App, Rule, Text, new_app, new_rule, with_rule, with_subcommand}
use Rattle.clap.specs.declared.builder.action.ArgAction.TheVariants.{Append, SetTrue}

-- an option that takes one value
abbrev pub option_rule : Text → Rule
option_rule name = record (new_rule name) { long = Some name }

abbrev pub flag_rule : Text → Rule
flag_rule name = record (new_rule name) { long = Some name; action = Some SetTrue }

-- the words at the end, of which each is a file
abbrev pub files_rule : Rule
files_rule = record (new_rule (codes "file")) { action = Some Append }

abbrev pub check_app : App
check_app = with_rule (new_app (codes "check")) (record files_rule { required = true })

abbrev pub make_app : App
make_app = with_rule (new_app (codes "make")) (record (new_rule (codes "nodes")) { required = true })

-- the options of `run` that take a number
abbrev pub limited_app : App
limited_app =
    with_rule
    (with_rule (with_rule (new_app (codes "run")) (option_rule (codes "workers"))) (option_rule (codes "steps")))
    (option_rule (codes "processes"))

abbrev pub numbered_app : App
numbered_app =
    with_rule (with_rule limited_app (option_rule (codes "ports"))) (option_rule (codes "make"))

abbrev pub options_app : App
options_app =
    with_rule (with_rule (with_rule numbered_app (option_rule (codes "arg"))) (flag_rule (codes "summary")))
    (flag_rule (codes "journal"))

abbrev pub run_app : App
run_app = with_rule options_app files_rule

-- with no flag or subcommand of help, no flag of a version, and no word for the program itself
abbrev pub plain_app : App
plain_app = record (new_app (codes "hermes")) {
  top = record (new_app (codes "hermes")).top {
    no_binary_name = true;
    disable_help_flag = true;
    disable_version_flag = true;
    disable_help_subcommand = true;
  };
}

abbrev pub program : App
program = with_subcommand (with_subcommand (with_subcommand plain_app check_app.top) run_app.top) make_app.top
