-- What a call works on, by what its words ask for. (Language reference, "The command line")
use Rattle.std.specs.Prelude.{ℕ, List, [], ◌∷◌, Option, Some, None, codes}
use Rattle.herm_edge.specs.Shelf.{File}
use Rattle.herm_journal.specs.Entries.{Text}
use Rattle.herm_journal.specs.NextNumbers.{Limits}
use Rattle.herm_system.specs.RunTexts.{Asked, plainly, with_summary, the_journal}
use Rattle.herm_commands.specs.Words as words
use Rattle.herm_commands.specs.declared.commands.Shows.{Shows}
use Rattle.herm_commands.specs.declared.commands.Shows.TheVariants.{Nothing, Summary, Journal}
use Rattle.herm_ring.specs.Ring.{ring_text}
use Rattle.herm_claim.specs.Purposes as claim

-- what a run tells besides
abbrev pub asked_for : Shows → Asked
asked_for Nothing = plainly
asked_for Summary = with_summary
asked_for Journal = the_journal

abbrev pub limits_of : words.Options → Limits
limits_of o = record { steps = o.steps; processes = o.processes; ports = o.ports }

-- the options of a run, in the words of the language
abbrev pub options_of : words.Options → claim.Options
options_of o = record { limits = limits_of o; argument = o.arg; asked = asked_for o.shows }

-- the ring of so many nodes is the file `make`
abbrev pub ring_file : ℕ → File
ring_file nodes = record { name = codes "make"; bytes = ring_text nodes }

-- The work of a call: none but the usage line, where the words are refused; the text of a ring; or a purpose, with the files that are there already
-- and the names of those that are loaded, in the order of the words.
pub data Work : Type 0 where
  refused : Work
  make : ℕ → Work
  over : claim.Purpose → (ready : List File) → (names : List Text) → Work

-- what is run: files that are loaded, or a ring that is there
abbrev pub work_on : claim.Purpose → words.Subject → Work
work_on purpose (words.files names) = over purpose [] names
work_on purpose (words.ring nodes) = over purpose (ring_file nodes ∷ []) []

abbrev pub work_of : Option words.Asked → Work
work_of None = refused
work_of (Some (words.check names)) = over claim.check [] names
work_of (Some (words.run options subject)) = work_on (claim.run (options_of options)) subject
work_of (Some (words.make nodes)) = make nodes

-- the names of the files that are asked for
abbrev pub names_of : Work → List Text
names_of refused = []
names_of (make nodes) = []
names_of (over purpose ready names) = names
