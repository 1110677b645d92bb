-- Laws of journals, as statements.
use Rattle.std.specs.Prelude.{ℕ, List, ◌≡◌}
use Rattle.herm_journal.specs.Entries.{Entry}
use Rattle.herm_journal.specs.Journals.{IsRising, part_of_process}

-- A rising list of entries is known by its parts by process.
abbrev pub JournalsAreKnown : Type 0
JournalsAreKnown = (j k : List Entry) → IsRising j → IsRising k → ((p : ℕ) → part_of_process p j ≡ part_of_process p k) → j ≡ k
