-- What the words of the command line ask for, and when they are refused (Language reference, "The command line").
use Rattle.std.specs.Prelude.{◌≡◌, ℕ, Bool, true, false, ◌&&◌, ◌||◌, not, List, [], ◌∷◌, map, length, codes, nat_le, nat_eq, if◌then◌else◌, Option, Some, None, unwrap_or, option_and_then}
use Rattle.std.specs.Prelude.{Result, Ok, Err, ⊤, Vec}
use Rattle.std.specs.Borrow.{Bor}
use Rattle.std.specs.Char.{is_ascii_digit}
use Rattle.std.specs.List.{list_all, list_any}
use Rattle.std.specs.Str.{bytes_eq}
use Rattle.std.specs.Str.Parse.{digits_value}
use Rattle.clap.specs.Words.{Row, Text, all_of, first_of, fault_of, subcommand_of}
use Rattle.clap.specs.Walk.{is_empty}
use Rattle.clap.specs.declared.error.kind.ErrorKind.{ErrorKind}
use Rattle.clap.specs.declared.error.kind.ErrorKind.TheVariants.{OutOfMemory}
use Rattle.herm_commands.specs.Program.{program}
use Rattle.herm_commands.specs.declared.commands.Shows.{Shows}
use Rattle.herm_commands.specs.declared.commands.Shows.TheVariants.{Nothing, Summary, Journal}
use Rattle.herm_commands.specs.declared.commands.Source.{Source}
use Rattle.herm_commands.specs.declared.commands.Source.TheVariants.{Files, Ring}
use Rattle.herm_commands.specs.declared.commands.RunOptions.{RunOptions}
use Rattle.herm_commands.specs.declared.commands.Command.{Command}
use Rattle.herm_commands.specs.declared.commands.Command.TheVariants.{Check, Run, Make}
use Rattle.herm_commands.specs.declared.commands.WordsFault.{WordsFault}
use Rattle.herm_commands.specs.declared.commands.WordsFault.TheVariants.{Refused, Memory}

-- ---- what is asked for

pub record Options : Type 0 where
  pub workers : ℕ
  pub steps : ℕ
  pub processes : ℕ
  pub ports : ℕ
  pub arg : Text
  pub shows : Shows

-- what is run: the files, or the ring of so many nodes
pub data Subject : Type 0 where
  files : List Text → Subject
  ring : ℕ → Subject

pub data Asked : Type 0 where
  check : List Text → Asked
  run : Options → Subject → Asked
  make : ℕ → Asked

-- ---- numbers

-- 1 to 7 decimal digits
abbrev pub is_number : Text → Bool
is_number text = nat_le 1 (length text) && (nat_le (length text) 7 && list_all is_ascii_digit text)

-- a number from 1 to the greatest
abbrev pub is_number_to : ℕ → Text → Bool
is_number_to greatest text =
    is_number text && (nat_le 1 (digits_value 10 text) && nat_le (digits_value 10 text) greatest)

-- a value is given, and is no such number
abbrev pub is_bad_number : ℕ → Option Text → Bool
is_bad_number greatest None = false
is_bad_number greatest (Some text) = not (is_number_to greatest text)

-- the number given, or the default
abbrev pub number_or : ℕ → Option Text → ℕ
number_or default None = default
number_or default (Some text) = digits_value 10 text

-- ---- files

abbrev pub files_of : List Row → List Text
files_of rows = unwrap_or (all_of (codes "file") rows) []

-- some word stands twice
abbrev pub has_twin : List Text → Bool
has_twin [] = false
has_twin (word ∷ rest) = list_any (λ other. bytes_eq other word) rest || has_twin rest

-- more than 64 files, or the same word twice among them
abbrev pub are_bad_files : List Text → Bool
are_bad_files words = not (nat_le (length words) 64) || has_twin words

-- ---- the options of `run`

abbrev pub is_true : Option Text → Bool
is_true None = false
is_true (Some text) = bytes_eq text (codes "true")

-- the flag is given
abbrev pub is_set : Text → List Row → Bool
is_set flag rows = is_true (first_of flag rows)

-- a space, a sign, a digit, a letter or the newline
abbrev pub is_arg_byte : ℕ → Bool
is_arg_byte b = (nat_le 32 b && nat_le b 126) || nat_eq b 10

abbrev pub is_arg : Text → Bool
is_arg text = nat_le (length text) 4096 && list_all is_arg_byte text

abbrev pub arg_of : List Row → Text
arg_of rows = unwrap_or (first_of (codes "arg") rows) []

-- some number is not in its range
abbrev pub has_bad_limit : List Row → Bool
has_bad_limit rows =
    is_bad_number 1 (first_of (codes "workers") rows)
    || (is_bad_number 1000000 (first_of (codes "steps") rows)
    || (is_bad_number 1024 (first_of (codes "processes") rows)
    || is_bad_number 16384 (first_of (codes "ports") rows)))

abbrev pub has_both_reports : List Row → Bool
has_both_reports rows = is_set (codes "journal") rows && is_set (codes "summary") rows

-- an option is refused by itself, or together with another
abbrev pub has_bad_option : List Row → Bool
has_bad_option rows = has_bad_limit rows || (not (is_arg (arg_of rows)) || has_both_reports rows)

-- neither a file nor `--make`, or both; or what is given is refused
abbrev pub is_bad_subject : Option Text → List Text → Bool
is_bad_subject None words = is_empty words || are_bad_files words
is_bad_subject (Some nodes) words = not (is_empty words) || not (is_number_to 1000 nodes)

abbrev pub shows_of : List Row → Shows
shows_of rows =
    if is_set (codes "journal") rows then Journal else (if is_set (codes "summary") rows then Summary else Nothing)

abbrev pub options_of : List Row → Options
options_of rows = record {
  workers = number_or 1 (first_of (codes "workers") rows);
  steps = number_or 100000 (first_of (codes "steps") rows);
  processes = number_or 64 (first_of (codes "processes") rows);
  ports = number_or 1024 (first_of (codes "ports") rows);
  arg = arg_of rows;
  shows = shows_of rows;
}

abbrev pub subject_of : Option Text → List Text → Subject
subject_of None words = files words
subject_of (Some nodes) words = ring (digits_value 10 nodes)

-- ---- the three commands

abbrev pub unless : Bool → Asked → Option Asked
unless refused asked = if refused then None else Some asked

abbrev pub check_asked : List Row → Option Asked
check_asked rows = unless (are_bad_files (files_of rows)) (check (files_of rows))

abbrev pub is_bad_run : List Row → Bool
is_bad_run rows = has_bad_option rows || is_bad_subject (first_of (codes "make") rows) (files_of rows)

abbrev pub run_asked : List Row → Option Asked
run_asked rows =
    unless (is_bad_run rows) (run (options_of rows) (subject_of (first_of (codes "make") rows) (files_of rows)))

abbrev pub ring_asked : Text → Option Asked
ring_asked nodes = unless (not (is_number_to 1000 nodes)) (make (digits_value 10 nodes))

-- clap gives `make` no other than one word
abbrev pub make_asked : List Row → Option Asked
make_asked rows = option_and_then ring_asked (first_of (codes "nodes") rows)

-- by the name of the command and what was found for its arguments
abbrev pub asked_by : Text × List Row → Option Asked
asked_by (name, rows) =
    if bytes_eq name (codes "check") then check_asked rows
    else (if bytes_eq name (codes "run") then run_asked rows
    else (if bytes_eq name (codes "make") then make_asked rows else None))

-- what the words after the program's name ask for; none where they are refused
abbrev pub asked : List Text → Option Asked
asked words =
    if is_empty (fault_of program words) then option_and_then asked_by (subcommand_of program words) else None

-- ---- the command of the code

abbrev pub options_seen : RunOptions → Options
options_seen o = record {
  workers = o.limits.workers;
  steps = o.limits.steps;
  processes = o.limits.processes;
  ports = o.limits.ports;
  arg = o.arg.now;
  shows = o.shows;
}

abbrev pub subject_seen : Source → Subject
subject_seen (Files names) = files (map (λ name. name.now) names.items)
subject_seen (Ring nodes) = ring nodes

abbrev pub seen : Command → Asked
seen (Check names) = check (map (λ name. name.now) names.items)
seen (Run options subject) = run (options_seen options) (subject_seen subject)
seen (Make nodes) = make nodes

-- a parse of the words fails for want of memory, or refuses them
abbrev pub fault_by : ErrorKind → WordsFault
fault_by OutOfMemory = Memory
fault_by _ = Refused

-- the answer is what is asked for, and is refused where nothing is; memory may be wanting at any time
abbrev pub Answers : Option Asked → Result Command WordsFault → Type 0
Answers wanted (Ok command) = wanted ≡ Some (seen command)
Answers wanted (Err Refused) = wanted ≡ None
Answers wanted (Err Memory) = ⊤

-- the same of the files alone, which are kept in their order
abbrev pub AnswersFiles : {Z : Type 0} → List Text → Result (Vec (Bor Text) Z) WordsFault → Type 0
AnswersFiles words (Ok names) = (are_bad_files words ≡ false) × (map (λ name. name.now) names.items ≡ words)
AnswersFiles words (Err Refused) = are_bad_files words ≡ true
AnswersFiles words (Err Memory) = ⊤

-- and of what is run
abbrev pub AnswersSource : Option Text → List Text → Result Source WordsFault → Type 0
AnswersSource nodes words (Ok source) = (is_bad_subject nodes words ≡ false) × (subject_seen source ≡ subject_of nodes words)
AnswersSource nodes words (Err Refused) = is_bad_subject nodes words ≡ true
AnswersSource nodes words (Err Memory) = ⊤
