-- The computed examples.
use Rattle.std.proofs.Common.{refl}
use Rattle.herm_alphabet.specs.KeywordLetters.{keyword_of}
use Rattle.herm_syntax.specs.examples.ExampleTrees.{Expressions, Plain, Compound, Files, Fitting, Words}
use Rattle.herm_syntax.specs.examples.ExampleItems.{Items}

pub expressions_hold : Expressions
unfolding keyword_of
expressions_hold = record { levels = refl; levels_read = refl; paren = refl; joined = refl; length_of = refl; stops = refl; fault = refl; fault_at_end = refl }

pub plain_hold : Plain
unfolding keyword_of
plain_hold = record { assign = refl; move = refl; new = refl; unite = refl; reveal = refl; wrap = refl; unwrap = refl; get = refl; call = refl; return = refl; return_by = refl; create = refl; raise = refl }

pub compound_hold : Compound
unfolding keyword_of
compound_hold = record { case = refl; select = refl; try = refl; for = refl; if = refl; while = refl }

pub items_hold : Items
unfolding keyword_of
items_hold = record { enum = refl; fields = refl; cases = refl; rows = refl; inport = refl; facts = refl; outport = refl; callmessage = refl; exception = refl; definitions = refl; process = refl }

pub files_hold : Files
unfolding keyword_of
files_hold = record { read = refl; fault = refl; fault_at_end = refl; empty = refl }

pub fitting_holds : Fitting
unfolding keyword_of
fitting_holds = record { fits = refl; read = refl }

pub words_hold : Words
unfolding keyword_of
words_hold = record { letters = refl; products = refl; sums = refl; comparisons = refl; conjunctions = refl; disjunctions = refl; names = refl; others = refl; signs = refl; brackets = refl }
