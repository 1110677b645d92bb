-- What the readers of the matches give, over the rows.
use Rattle.std.proofs.Common.{◌≡◌, List, [], ◌∷◌, Option, Some, None, true, false, map, option_map, refl, sym, ap, subst, ◌∙◌, arith}
use Rattle.clap.specs.Walk.{is_empty}
use Rattle.herm_commands.specs.declared.commands.Source.{Source}
use Rattle.herm_commands.specs.declared.commands.WordsFault.{WordsFault}
use Rattle.std.specs.Prelude.{ℕ, Result, MatchOption, not, option_and_then, unwrap_or, codes}
use Rattle.std.specs.Str.Parse.{digits_value}
use Rattle.std.specs.Str.{bytes_eq}
use Rattle.std.specs.Borrow.{Bor}
use Rattle.std.proofs.lemmas.Bool.Decides.{nat_tests}
use Rattle.clap.specs.Words.{Text, first_of, first_value, rows_of, raw_values, matched_of}
use Rattle.clap.specs.declared.parser.matches.Found.{Found}
use Rattle.clap.proofs.WalkLemmas.{first_value-rows, raw_values-rows}
use Rattle.herm_commands.specs.Words.{AnswersSource, arg_of, files_of, is_bad_number, is_number_to, is_set, is_true, make_asked, number_or, ring_asked}

-- the text that an argument was given
pub text_given : (f : Found) (id : Text) (r : Option (Bor Text)) → option_map (λ s. s.now) r ≡ first_value f id
    → first_of id (rows_of f) ≡ option_map (λ s. s.now) r
text_given f id r is = sym (first_value-rows f id) ∙ sym is

-- the words that are files
pub words_given : (f : Found) (r : Option (Bor (List (Bor Text))))
    → option_map (λ s. map (λ v. v.now) s.now) r ≡ option_map raw_values (matched_of f (codes "file"))
    → files_of (rows_of f) ≡ unwrap_or (option_map (λ s. map (λ v. v.now) s.now) r) []
words_given f r is = ap (λ (o : Option (List Text)). unwrap_or o []) (sym (raw_values-rows f (codes "file")) ∙ sym is)

-- whether a flag is given, by its first value
pub flag_given : (f : Found) (id : Text) (r : Option (Bor Text)) (text : Bor Text)
    → option_map (λ s. s.now) r ≡ first_value f id → r ≡ Some text → is_set id (rows_of f) ≡ bytes_eq text.now (codes "true")
flag_given f id r text is e = ap is_true (text_given f id r is ∙ ap (option_map (λ s. s.now)) e)

pub flag_missing : (f : Found) (id : Text) (r : Option (Bor Text)) → option_map (λ s. s.now) r ≡ first_value f id
    → r ≡ None → is_set id (rows_of f) ≡ false
flag_missing f id r is e = ap is_true (text_given f id r is ∙ ap (option_map (λ s. s.now)) e)

-- the words that are files, where some are found and where none are
pub words_found : (f : Found) (r : Option (Bor (List (Bor Text)))) (found : Bor (List (Bor Text))) (words : List (Bor Text))
    → option_map (λ s. map (λ v. v.now) s.now) r ≡ option_map raw_values (matched_of f (codes "file"))
    → r ≡ Some found → words ≡ found.now → map (λ w. w.now) words ≡ files_of (rows_of f)
words_found f r found words is some e =
    ap (map (λ (w : Bor Text). w.now)) e
    ∙ sym (words_given f r is ∙ ap (λ o. unwrap_or (option_map (λ (s : Bor (List (Bor Text))). map (λ v. v.now) s.now) o) []) some)

pub words_missing : (f : Found) (r : Option (Bor (List (Bor Text)))) (words : List (Bor Text))
    → option_map (λ s. map (λ v. v.now) s.now) r ≡ option_map raw_values (matched_of f (codes "file"))
    → r ≡ None → words ≡ [] → map (λ w. w.now) words ≡ files_of (rows_of f)
words_missing f r words is none e =
    ap (map (λ (w : Bor Text). w.now)) e
    ∙ sym (words_given f r is ∙ ap (λ o. unwrap_or (option_map (λ (s : Bor (List (Bor Text))). map (λ v. v.now) s.now) o) []) none)

-- the text for the main process, where one is given and where none is
pub arg_given : (f : Found) (r : Option (Bor Text)) (text : Bor Text) → option_map (λ s. s.now) r ≡ first_value f (codes "arg")
    → r ≡ Some text → text.now ≡ arg_of (rows_of f)
arg_given f r text is e = sym (ap (λ o. unwrap_or o []) (text_given f (codes "arg") r is ∙ ap (option_map (λ s. s.now)) e))

pub arg_missing : (f : Found) (r : Option (Bor Text)) → option_map (λ s. s.now) r ≡ first_value f (codes "arg")
    → r ≡ None → [] ≡ arg_of (rows_of f)
arg_missing f r is e = sym (ap (λ o. unwrap_or o []) (text_given f (codes "arg") r is ∙ ap (option_map (λ s. s.now)) e))

number_of_text : (greatest default : ℕ) (text : Text) (n : Option ℕ)
    → MatchOption n (is_number_to greatest text ≡ false) (λ n. (is_number_to greatest text ≡ true) × (n ≡ digits_value 10 text))
    → MatchOption n (is_bad_number greatest (Some text) ≡ true)
    (λ n. (is_bad_number greatest (Some text) ≡ false) × (n ≡ number_or default (Some text)))
number_of_text greatest default text None h = ap not h
number_of_text greatest default text (Some n) h = (ap not h.0, h.1)

-- the number of an argument, where one is given and where none is
pub number_given : (f : Found) (id : Text) (greatest default : ℕ) (r : Option (Bor Text)) (text : Bor Text) (n : Option ℕ)
    → option_map (λ s. s.now) r ≡ first_value f id → r ≡ Some text
    → MatchOption n (is_number_to greatest text.now ≡ false) (λ n. (is_number_to greatest text.now ≡ true) × (n ≡ digits_value 10 text.now))
    → MatchOption n (is_bad_number greatest (first_of id (rows_of f)) ≡ true)
    (λ n. (is_bad_number greatest (first_of id (rows_of f)) ≡ false) × (n ≡ number_or default (first_of id (rows_of f))))
number_given f id greatest default r text n is e h =
    subst (λ (o : Option Text). MatchOption n (is_bad_number greatest o ≡ true)
    (λ n. (is_bad_number greatest o ≡ false) × (n ≡ number_or default o)))
    (sym (text_given f id r is ∙ ap (option_map (λ s. s.now)) e)) (number_of_text greatest default text.now n h)

pub number_missing : (f : Found) (id : Text) (greatest default : ℕ) (r : Option (Bor Text))
    → option_map (λ s. s.now) r ≡ first_value f id → r ≡ None
    → (is_bad_number greatest (first_of id (rows_of f)) ≡ false) × (default ≡ number_or default (first_of id (rows_of f)))
number_missing f id greatest default r is e =
    subst (λ (o : Option Text). (is_bad_number greatest o ≡ false) × (default ≡ number_or default o))
    (sym (text_given f id r is ∙ ap (option_map (λ s. s.now)) e)) (refl, refl)

-- what `make` is asked for, where a word is given and where none is
pub nodes_given : (f : Found) (r : Option (Bor Text)) (text : Bor Text) → option_map (λ s. s.now) r ≡ first_value f (codes "nodes")
    → r ≡ Some text → ring_asked text.now ≡ make_asked (rows_of f)
nodes_given f r text is e = sym (ap (option_and_then ring_asked) (text_given f (codes "nodes") r is ∙ ap (option_map (λ s. s.now)) e))

pub nodes_missing : (f : Found) (r : Option (Bor Text)) → option_map (λ s. s.now) r ≡ first_value f (codes "nodes")
    → r ≡ None → make_asked (rows_of f) ≡ None
nodes_missing f r is e = ap (option_and_then ring_asked) (text_given f (codes "nodes") r is ∙ ap (option_map (λ s. s.now)) e)

-- what is run, by the number of nodes that is given and the words that are files
pub source_given : (f : Found) (r : Option (Bor Text)) (nodes : Option Text) (words : List Text) (result : Result Source WordsFault)
    → option_map (λ s. s.now) r ≡ first_value f (codes "make") → option_map (λ s. s.now) r ≡ nodes → words ≡ files_of (rows_of f)
    → AnswersSource nodes words result → AnswersSource (first_of (codes "make") (rows_of f)) (files_of (rows_of f)) result
source_given f r nodes words result is given found h =
    subst (λ (words : List Text). AnswersSource (first_of (codes "make") (rows_of f)) words result) found
    (subst (λ (nodes : Option Text). AnswersSource nodes words result) (sym (text_given f (codes "make") r is ∙ given)) h)

empty_mapped : (words : List (Bor Text)) → is_empty (map (λ w. w.now) words) ≡ is_empty words
empty_mapped [] = refl
empty_mapped (w ∷ ws) =
    let mapped : is_empty (map (λ (w : Bor Text). w.now) (w ∷ ws)) ≡ false = grind (arith, nat_tests) in
    let plain : is_empty (w ∷ ws) ≡ false = grind (arith, nat_tests) in
    mapped ∙ sym plain

-- whether a file is among the words
pub files_there : (f : Found) (r : Option (Bor (List (Bor Text)))) (files : Bor (List (Bor Text)))
    → option_map (λ s. map (λ v. v.now) s.now) r ≡ option_map raw_values (matched_of f (codes "file"))
    → r ≡ Some files → is_empty files.now ≡ is_empty (files_of (rows_of f))
files_there f r files is e =
    sym (ap is_empty (words_given f r is ∙ ap (λ o. unwrap_or (option_map (λ (s : Bor (List (Bor Text))). map (λ v. v.now) s.now) o) []) e)
    ∙ empty_mapped files.now)

pub files_missing : (f : Found) (r : Option (Bor (List (Bor Text))))
    → option_map (λ s. map (λ v. v.now) s.now) r ≡ option_map raw_values (matched_of f (codes "file"))
    → r ≡ None → true ≡ is_empty (files_of (rows_of f))
files_missing f r is e =
    sym (ap is_empty (words_given f r is ∙ ap (λ o. unwrap_or (option_map (λ (s : Bor (List (Bor Text))). map (λ v. v.now) s.now) o) []) e))
