-- The command as which the words are read is one of which clap says all, and what its answers mean.
use Rattle.std.proofs.Common.{◌≡◌, ◌⊎◌, inl, inr, List, [], ◌∷◌, Option, Some, None, Bool, true, false, refl, arith, sym, ap, ap₂, subst, ◌∙◌, option_map}
use Rattle.std.specs.Prelude.{Result, Ok, Err, IfOk, Box, option_and_then, unwrap_or, if◌then◌else◌}
use Rattle.std.specs.Borrow.{Bor}
use Rattle.std.specs.Box.{box_value}
use Rattle.std.proofs.lemmas.Bool.Decides.{nat_tests}
use Rattle.clap.specs.Words.{App, Row, Text, fault_of, found_of, rows_of, subcommand_of, FailsBy, HasMatchesOf, IsAmong, Kinds, kind_of}
use Rattle.clap.specs.Words.{is_simple, is_simple_and_free, subcommand_name_of, subcommand_rows, subcommand_rows_of}
use Rattle.clap.specs.Walk.{is_empty}
use Rattle.clap.specs.declared.error.Error.{Error}
use Rattle.clap.specs.declared.error.kind.ErrorKind.{ErrorKind}
use Rattle.clap.specs.declared.error.kind.ErrorKind.TheVariants.{OutOfMemory}
use Rattle.clap.specs.declared.parser.matches.ArgMatches.{ArgMatches}
use Rattle.clap.specs.declared.parser.matches.ArgMatches.TheViews.{out-ArgMatches, out-SubCommand}
use Rattle.clap.specs.declared.parser.matches.SubCommand.{SubCommand}
use Rattle.herm_commands.specs.declared.commands.WordsFault.{WordsFault}
use Rattle.herm_commands.specs.declared.commands.WordsFault.TheVariants.{Refused, Memory}
use Rattle.herm_commands.specs.Program.{program}
use Rattle.herm_commands.specs.Words.{Answers, Asked, asked, asked_by, fault_by}

pub program_is_free : is_simple_and_free program ≡ true
program_is_free = refl

pub program_is_simple : is_simple program ≡ true
program_is_simple = refl

-- what is asked for, by the faults and by the subcommand that was met
abbrev wanted : Kinds → Option (Text × List Row) → Option Asked
wanted faults found = if is_empty faults then option_and_then asked_by found else None

wanted_none : (faults : Kinds) (found : Option (Text × List Row)) (k : ErrorKind) → IsAmong k faults → wanted faults found ≡ None
wanted_none [] found k h = absurd h
wanted_none (x ∷ xs) found k h =
    let some : is_empty (x ∷ xs) ≡ false = grind (arith, nat_tests) in
    ap (λ (b : Bool). if b then option_and_then asked_by found else None) some

refused : (wanted : Option Asked) (fault : WordsFault) → wanted ≡ None → Answers wanted (Err fault)
refused wanted Refused e = e
refused wanted Memory e = tt

failed_by : (words : List Text) (k : ErrorKind) → (k ≡ OutOfMemory) ⊎ IsAmong k (fault_of program words)
    → Answers (asked words) (Err (fault_by k))
failed_by words k (inl e) = subst (λ (k : ErrorKind). Answers (asked words) (Err (fault_by k))) (sym e) tt
failed_by words k (inr h) =
    refused (asked words) (fault_by k) (wanted_none (fault_of program words) (subcommand_of program words) k h)

-- a parse that fails wants memory, or refuses the words
pub failed : (a : App) (words : List Text) (r : Result ArgMatches Error) (e : Error) (fault : WordsFault) → a ≡ program
    → (is_simple_and_free a ≡ true → FailsBy {T = ArgMatches} (fault_of a words) r) → r ≡ Err e → fault ≡ fault_by (kind_of e)
    → Answers (asked words) (Err fault)
failed a words r e fault is fails so by =
    let h : is_simple_and_free program ≡ true → FailsBy {T = ArgMatches} (fault_of program words) r =
    subst (λ (a : App). is_simple_and_free a ≡ true → FailsBy {T = ArgMatches} (fault_of a words) r) is fails in
    let at : FailsBy {T = ArgMatches} (fault_of program words) (Err e) = subst (λ (r : Result ArgMatches Error). FailsBy {T = ArgMatches} (fault_of program words) r) so (h program_is_free) in
    subst (λ (f : WordsFault). Answers (asked words) (Err f)) (sym by) (failed_by words (kind_of e) at)

-- a parse that takes the words asks for what the subcommand says
pub taken : (a : App) (words : List Text) (r : Result ArgMatches Error) (m : ArgMatches) → a ≡ program
    → (is_simple_and_free a ≡ true → FailsBy {T = ArgMatches} (fault_of a words) r) → IfOk r (HasMatchesOf a words) → r ≡ Ok m
    → option_and_then asked_by (subcommand_rows_of m) ≡ asked words
taken a words r m is fails has so =
    let h : is_simple_and_free program ≡ true → FailsBy {T = ArgMatches} (fault_of program words) r =
    subst (λ (a : App). is_simple_and_free a ≡ true → FailsBy {T = ArgMatches} (fault_of a words) r) is fails in
    let none : fault_of program words ≡ [] = subst (λ (r : Result ArgMatches Error). FailsBy {T = ArgMatches} (fault_of program words) r) so (h program_is_free) in
    let mine : IfOk r (HasMatchesOf program words) = subst (λ (a : App). IfOk r (HasMatchesOf a words)) is has in
    let met : HasMatchesOf program words m = subst (λ (r : Result ArgMatches Error). IfOk r (HasMatchesOf program words)) so mine in
    ap (option_and_then asked_by) (met program_is_simple).1
    ∙ sym (ap (λ (faults : Kinds). wanted faults (subcommand_of program words)) none)

pair_met : {Z : Type 0} (o : Option (Box SubCommand Z)) (name : Text) (rows : List Row)
    → Some name ≡ option_map (λ p. p.0) (subcommand_rows o) → Some rows ≡ option_map (λ p. p.1) (subcommand_rows o)
    → subcommand_rows o ≡ Some (name, rows)
pair_met None name rows named found = absurd cc
pair_met (Some s) name rows named found =
    sym (ap₂ (λ name rows. Some (name, rows)) (ap (λ o. unwrap_or o []) named) (ap (λ o. unwrap_or o []) found))

none_met : {Z : Type 0} (o : Option (Box SubCommand Z)) → None ≡ option_map (λ p. p.1) (subcommand_rows o)
    → option_and_then asked_by (subcommand_rows o) ≡ None
none_met None e = refl
none_met (Some s) e = absurd cc

names_met : {Z : Type 0} (o : Option (Box SubCommand Z)) (name : Text)
    → Some name ≡ option_map (λ b. (out-SubCommand (box_value b)).name.now) o → Some name ≡ option_map (λ p. p.0) (subcommand_rows o)
names_met None name e = e
names_met (Some s) name e = e

-- the subcommand of a parse, by its name and rows
pub subcommand_met : (m : ArgMatches) (r : Option (Bor Text × Bor ArgMatches)) (name : Bor Text) (found : Bor ArgMatches)
    → option_map (λ p. p.0.now) r ≡ subcommand_name_of m
    → option_map (λ p. rows_of (found_of p.1.now)) r ≡ option_map (λ p. p.1) (subcommand_rows (out-ArgMatches m).subcommand)
    → r ≡ Some (name, found)
    → asked_by (name.now, rows_of (found_of found.now)) ≡ option_and_then asked_by (subcommand_rows_of m)
subcommand_met m r name found named rows so =
    let n : Some name.now ≡ subcommand_name_of m = sym (ap (option_map (λ p. p.0.now)) so) ∙ named in
    let f : Some (rows_of (found_of found.now)) ≡ option_map (λ p. p.1) (subcommand_rows (out-ArgMatches m).subcommand) =
    sym (ap (option_map (λ p. rows_of (found_of p.1.now))) so) ∙ rows in
    sym (ap (option_and_then asked_by)
    (pair_met (out-ArgMatches m).subcommand name.now (rows_of (found_of found.now)) (names_met (out-ArgMatches m).subcommand name.now n) f))

pub no_subcommand_met : (m : ArgMatches) (r : Option (Bor Text × Bor ArgMatches))
    → option_map (λ p. rows_of (found_of p.1.now)) r ≡ option_map (λ p. p.1) (subcommand_rows (out-ArgMatches m).subcommand)
    → r ≡ None → option_and_then asked_by (subcommand_rows_of m) ≡ None
no_subcommand_met m r rows so =
    none_met (out-ArgMatches m).subcommand (sym (ap (option_map (λ p. rows_of (found_of p.1.now))) so) ∙ rows)
