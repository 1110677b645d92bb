-- The text of an entry, which is a line of a journal. Language reference, "Text of a journal".
use Rattle.std.specs.Prelude.{ℕ, List, [], ◌∷◌, ◌++◌, Some, None, slice_get, codes}
use Rattle.herm_model.specs.Lists.{list_of}
use Rattle.herm_model.specs.ValueTexts.{numeral}
use Rattle.herm_journal.specs.Actions.{Reply, values, raised, gone, make_port, make_process, put, take, close, answer, hear}
use Rattle.herm_journal.specs.Entries.{Text, Place, port, reply_cell, book, Record, Entry}

-- a space and a number
abbrev pub and_number : ℕ → Text
and_number n = codes " " ++ numeral n

abbrev pub place_text : Place → Text
place_text (port n) = codes "port" ++ and_number n
place_text (reply_cell p) = codes "reply" ++ and_number p
place_text book = codes "book"

-- a space and the text, where it is not empty
abbrev pub and_text : Text → Text
and_text [] = []
and_text (b ∷ bs) = 32 ∷ b ∷ bs

-- the exceptions' names by number
abbrev pub name_in : List Text → ℕ → Text
name_in names e = list_of (λ (t : Text). t) (slice_get names e)

abbrev pub reply_text : List Text → Reply Text → Text
reply_text names (values t) = codes "ok" ++ and_text t
reply_text names (raised e t) = codes "raise " ++ name_in names e ++ and_text t
reply_text names gone = codes "gone"

-- The text of what was done. Language reference, "Text of a journal".
abbrev pub action_text : List Text → Record → Text
action_text names (make_port None) = codes "port full"
action_text names (make_port (Some n)) = codes "port" ++ and_number n
action_text names (make_process code None) = codes "process full" ++ and_number code
action_text names (make_process code (Some made)) = codes "process" ++ and_number made.0 ++ and_number made.1 ++ and_number code
action_text names (put None t) = codes "put closed " ++ t
action_text names (put (Some k) t) = codes "put" ++ and_number k ++ codes " " ++ t
action_text names (take k t) = codes "take" ++ and_number k ++ codes " " ++ t
action_text names (close count left) = codes "close" ++ and_number count
action_text names (answer call r) = codes "answer" ++ and_number call ++ codes " " ++ reply_text names r
action_text names (hear call r) = codes "hear" ++ and_number call ++ codes " " ++ reply_text names r

-- The text of an entry: stamp, process, place and action. Language reference, "Text of a journal".
abbrev pub entry_text : List Text → Entry → Text
entry_text names e = numeral e.stamp ++ and_number e.process ++ codes " " ++ place_text e.place ++ codes " " ++ action_text names e.action
