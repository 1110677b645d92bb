-- Who made a process, and in which entry.
use Rattle.std.specs.Prelude.{ℕ, suc, zero, List, [], ◌∷◌, cond}
use Rattle.herm_journal.specs.Entries.{Entry}
use Rattle.herm_journal.specs.Stamps.{is_maker_of}
use Rattle.herm_process.specs.declared.birth.Birth.{Birth}

-- the process and the stamp of the last entry that made the process of this number, or b where none did
abbrev pub last_maker : ℕ → ℕ × ℕ → List Entry → ℕ × ℕ
last_maker p b [] = b
last_maker p b (e ∷ es) = last_maker p (cond (is_maker_of p e.action) (e.process, e.stamp) b) es

-- The birth that a journal gives a process: the process and the stamp of the entry that made it. No entry made the console and
-- process 1: both are 0. Language reference, "Stamps".
abbrev pub birth_of_process : ℕ → List Entry → ℕ × ℕ
birth_of_process zero journal = (0, 0)
birth_of_process (suc zero) journal = (0, 0)
birth_of_process (suc (suc i)) journal = last_maker (suc (suc i)) (0, 0) journal

-- its process and its stamp
abbrev pub birth_view : Birth → ℕ × ℕ
birth_view birth = (birth.maker.number, birth.stamp.0)
