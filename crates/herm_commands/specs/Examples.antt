-- Lists of words, each with what they ask for (Language reference, "The command line").
use Rattle.std.specs.Prelude.{◌≡◌, List, [], ◌∷◌, codes, None, Some}
use Rattle.clap.specs.Words.{Text}
use Rattle.herm_commands.specs.Words.{Options, asked, check, files, make, ring, run}
use Rattle.herm_commands.specs.declared.commands.Shows.TheVariants.{Nothing, Summary}

-- `run` with no option
abbrev pub no_options : Options
no_options = record { workers = 1; steps = 100000; processes = 64; ports = 1024; arg = []; shows = Nothing }

abbrev pub a : Text
a = codes "a.hm"

abbrev pub b : Text
b = codes "b.hm"

abbrev pub run_words : List Text → List Text
run_words words = codes "run" ∷ words

pub record Examples : Type 0 where
  pub one_file : asked (run_words (a ∷ [])) ≡ Some (run no_options (files (a ∷ [])))
  pub summary : asked (run_words (codes "--summary" ∷ a ∷ []))
      ≡ Some (run (record no_options { shows = Summary }) (files (a ∷ [])))
  pub steps_last : asked (run_words (a ∷ codes "--steps" ∷ codes "3" ∷ []))
      ≡ Some (run (record no_options { steps = 3 }) (files (a ∷ [])))
  pub steps_first : asked (run_words (codes "--steps=3" ∷ a ∷ b ∷ []))
      ≡ Some (run (record no_options { steps = 3 }) (files (a ∷ b ∷ [])))
  pub nothing_to_run : asked (run_words []) ≡ None
  pub three_nodes : asked (run_words (codes "--make" ∷ codes "3" ∷ [])) ≡ Some (run no_options (ring 3))
  pub ring_and_file : asked (run_words (codes "--make" ∷ codes "3" ∷ a ∷ [])) ≡ None
  pub nothing_to_check : asked (codes "check" ∷ []) ≡ None
  pub two_checked : asked (codes "check" ∷ b ∷ a ∷ []) ≡ Some (check (b ∷ a ∷ []))
  pub no_nodes : asked (codes "make" ∷ codes "0" ∷ []) ≡ None
  pub nodes : asked (codes "make" ∷ codes "64" ∷ []) ≡ Some (make 64)
  pub file_twice : asked (run_words (a ∷ a ∷ [])) ≡ None
  pub both_reports : asked (run_words (codes "--journal" ∷ codes "--summary" ∷ a ∷ [])) ≡ None
  pub option_twice : asked (run_words (codes "--steps" ∷ codes "3" ∷ codes "--steps=3" ∷ a ∷ [])) ≡ None
  pub behind_dashes : asked (run_words (codes "--" ∷ codes "--steps" ∷ []))
      ≡ Some (run no_options (files (codes "--steps" ∷ [])))
  pub help : asked (codes "help" ∷ []) ≡ None
