-- What the words ask for is within its bounds.
use Rattle.std.proofs.Common.{◌≡◌, ◌≤◌, ◌||◌, ◌&&◌, ℕ, Bool, true, false, not, List, [], ◌∷◌, Option, Some, None, refl, sym, ap, subst, arith, length, nat_le, true≢false, ◌∙◌}
use Rattle.std.specs.Prelude.{codes, if◌then◌else◌, option_and_then, unwrap_or}
use Rattle.std.specs.Str.{bytes_eq}
use Rattle.std.specs.Str.Parse.{digits_value}
use Rattle.std.proofs.lemmas.Bool.Decides.{nat_tests}
use Rattle.clap.proofs.WalkLemmas.{both}
use Rattle.clap.specs.Faults.{entered_fault, fault_of}
use Rattle.clap.specs.Kinds.{Kinds}
use Rattle.clap.specs.Simple.{argument_words, built, names_of, subcommand_of}
use Rattle.clap.specs.Walk.{Row, Text, first_of, is_empty, nothing_held, stop_after}
use Rattle.herm_commands.specs.Program.{program}
use Rattle.herm_commands.specs.Within.{AreFilesWithin, AreNodesWithin, AreOptionsWithin, IsSubjectWithin, IsWithin}
use Rattle.herm_commands.specs.Words.{Asked, are_bad_files, arg_of, asked, asked_by, check, check_asked, files_of, has_bad_limit, has_bad_option, has_both_reports, has_twin, is_arg, is_bad_number, is_bad_subject, is_number, is_number_to, make, make_asked, number_or, options_of, ring_asked, run, run_asked, subject_of, unless}
use Rattle.herm_commands.proofs.CheckedFiles.{below_passed, check_names_a_file}

-- ---- tests

is_true : (b : Bool) → not b ≡ false → b ≡ true
is_true true e = refl
is_true false e = absurd (true≢false e)

neither : (a b : Bool) → (a || b) ≡ false → (a ≡ false) × (b ≡ false)
neither true b e = absurd (true≢false e)
neither false b e = (refl, e)

not_refused : (refused : Bool) (a wanted : Asked) → unless refused a ≡ Some wanted → (refused ≡ false) × (a ≡ wanted)
not_refused true a wanted e = absurd cc
not_refused false a wanted e = (refl, ap (λ o. unwrap_or o a) e)

-- ---- numbers

number_within : (greatest : ℕ) (text : Text) → is_number_to greatest text ≡ true → (1 ≤ digits_value 10 text) × (digits_value 10 text ≤ greatest)
number_within greatest text e =
    let range = (both (is_number text) (nat_le 1 (digits_value 10 text) && nat_le (digits_value 10 text) greatest) e).1 in
    let parts = both (nat_le 1 (digits_value 10 text)) (nat_le (digits_value 10 text) greatest) range in
    (grind (arith, parts.0), grind (arith, parts.1))

given_within : (greatest default : ℕ) (o : Option Text) → 1 ≤ default → default ≤ greatest → is_bad_number greatest o ≡ false
    → (1 ≤ number_or default o) × (number_or default o ≤ greatest)
given_within greatest default None some few e = (some, few)
given_within greatest default (Some text) some few e = number_within greatest text (is_true (is_number_to greatest text) e)

nodes_within : (nodes : Text) → is_number_to 1000 nodes ≡ true → AreNodesWithin (digits_value 10 nodes)
nodes_within nodes e = record { some = (number_within 1000 nodes e).0; few = (number_within 1000 nodes e).1 }

-- ---- files

some_of : (words : List Text) → is_empty words ≡ false → 1 ≤ length words
some_of [] e = absurd (true≢false e)
some_of (word ∷ rest) e = omega arith

files_within : (words : List Text) → is_empty words ≡ false → are_bad_files words ≡ false → AreFilesWithin words
files_within words some e =
    let parts = neither (not (nat_le (length words) 64)) (has_twin words) e in
    let few = is_true (nat_le (length words) 64) parts.0 in
    record { some = some_of words some; few = grind (arith, few); distinct = parts.1 }

-- ---- the parts of a run

subject_within : (nodes : Option Text) (words : List Text) → is_bad_subject nodes words ≡ false → IsSubjectWithin (subject_of nodes words)
subject_within None words e =
    let parts = neither (is_empty words) (are_bad_files words) e in
    files_within words parts.0 parts.1
subject_within (Some nodes) words e =
    nodes_within nodes (is_true (is_number_to 1000 nodes) (neither (not (is_empty words)) (not (is_number_to 1000 nodes)) e).1)

options_within : (rows : List Row) → has_bad_option rows ≡ false → AreOptionsWithin (options_of rows)
options_within rows e =
    let bad_steps = is_bad_number 1000000 (first_of (codes "steps") rows) in
    let bad_processes = is_bad_number 1024 (first_of (codes "processes") rows) in
    let bad_ports = is_bad_number 16384 (first_of (codes "ports") rows) in
    let parts = neither (has_bad_limit rows) (not (is_arg (arg_of rows)) || has_both_reports rows) e in
    let workers = neither (is_bad_number 1 (first_of (codes "workers") rows)) (bad_steps || (bad_processes || bad_ports)) parts.0 in
    let steps = neither bad_steps (bad_processes || bad_ports) workers.1 in
    let processes = neither bad_processes bad_ports steps.1 in
    let w = given_within 1 1 (first_of (codes "workers") rows) (omega arith) (omega arith) workers.0 in
    let s = given_within 1000000 100000 (first_of (codes "steps") rows) (omega arith) (omega arith) steps.0 in
    let p = given_within 1024 64 (first_of (codes "processes") rows) (omega arith) (omega arith) processes.0 in
    let q = given_within 16384 1024 (first_of (codes "ports") rows) (omega arith) (omega arith) processes.1 in
    record {
      some_worker = w.0;
      few_workers = w.1;
      some_step = s.0;
      few_steps = s.1;
      some_process = p.0;
      few_processes = p.1;
      some_port = q.0;
      few_ports = q.1;
      arg = is_true (is_arg (arg_of rows)) (neither (not (is_arg (arg_of rows))) (has_both_reports rows) parts.1).0;
    }

-- ---- the three commands

check_within : (rows : List Row) (wanted : Asked) → is_empty (files_of rows) ≡ false → check_asked rows ≡ Some wanted → IsWithin wanted
check_within rows wanted some e =
    let met = not_refused (are_bad_files (files_of rows)) (check (files_of rows)) wanted e in
    subst IsWithin met.1 (files_within (files_of rows) some met.0)

run_within : (rows : List Row) (wanted : Asked) → run_asked rows ≡ Some wanted → IsWithin wanted
run_within rows wanted e =
    let nodes = first_of (codes "make") rows in
    let met = not_refused (has_bad_option rows || is_bad_subject nodes (files_of rows))
    (run (options_of rows) (subject_of nodes (files_of rows))) wanted e in
    let parts = neither (has_bad_option rows) (is_bad_subject nodes (files_of rows)) met.0 in
    subst IsWithin met.1 (options_within rows parts.0, subject_within nodes (files_of rows) parts.1)

ring_within : (o : Option Text) (wanted : Asked) → option_and_then ring_asked o ≡ Some wanted → IsWithin wanted
ring_within None wanted e = absurd cc
ring_within (Some nodes) wanted e =
    let met = not_refused (not (is_number_to 1000 nodes)) (make (digits_value 10 nodes)) wanted e in
    subst IsWithin met.1 (nodes_within nodes (is_true (is_number_to 1000 nodes) met.0))

by_name : (is_check is_run is_make : Bool) (rows : List Row) (wanted : Asked) → (is_check ≡ true → is_empty (files_of rows) ≡ false)
    → (if is_check then check_asked rows else (if is_run then run_asked rows else (if is_make then make_asked rows else None))) ≡ Some wanted
    → IsWithin wanted
by_name true is_run is_make rows wanted some e = check_within rows wanted (some refl) e
by_name false true is_make rows wanted some e = run_within rows wanted e
by_name false false true rows wanted some e = ring_within (first_of (codes "nodes") rows) wanted e
by_name false false false rows wanted some e = absurd cc

by_found : (found : Option (Text × List Row)) (wanted : Asked)
    → ((name : Text) (rows : List Row) → found ≡ Some (name, rows) → bytes_eq name (codes "check") ≡ true → is_empty (files_of rows) ≡ false)
    → option_and_then asked_by found ≡ Some wanted → IsWithin wanted
by_found None wanted some e = absurd cc
by_found (Some (name, rows)) wanted some e =
    by_name (bytes_eq name (codes "check")) (bytes_eq name (codes "run")) (bytes_eq name (codes "make")) rows wanted (some name rows refl) e

-- ---- words

no_fault : (faults : Kinds) (found : Option (Text × List Row)) (wanted : Asked)
    → (if is_empty faults then option_and_then asked_by found else None) ≡ Some wanted → (faults ≡ []) × (option_and_then asked_by found ≡ Some wanted)
no_fault [] found wanted e = (refl, e)
no_fault (x ∷ xs) found wanted e =
    let some : is_empty (x ∷ xs) ≡ false = grind (arith, nat_tests) in
    let none : None ≡ Some wanted = sym (ap (λ (b : Bool). if b then option_and_then asked_by found else None) some) ∙ e in
    absurd cc

pub asked_within : (words : List Text) (wanted : Asked) → asked words ≡ Some wanted → IsWithin wanted
asked_within words wanted e =
    let stop = stop_after (built program).top.rules (names_of (built program)) (argument_words program words) in
    let met = no_fault (fault_of program words) (subcommand_of program words) wanted e in
    let below : entered_fault (built program) stop ≡ [] =
    below_passed (built program).top (names_of (built program)) nothing_held (argument_words program words) _ (entered_fault (built program) stop) met.0 in
    by_found (subcommand_of program words) wanted (λ name rows is named. check_names_a_file stop name rows below is named) met.1
