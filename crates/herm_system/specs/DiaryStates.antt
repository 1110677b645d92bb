-- The state of a process behind its diary. Language reference, "Diaries".
use Rattle.std.specs.Prelude.{ℕ, List, [], ◌∷◌, Some, ◌≡◌, ⊤, IsFalse}
use Rattle.herm_journal.specs.Entries.{Entry}
use Rattle.herm_system.specs.Machines.{Machine}
use Rattle.herm_system.specs.Suiting.{has_local_step, local_steps}
use Rattle.herm_system.specs.PutAside.{IsBehind}

-- The state behind these entries in order, each after all local steps that there are, and so many local steps after
-- the last. Language reference, "Diaries".
pub data IsAfter {P : Type 0} (machine : Machine ⊤ P) (limit : ℕ) : P → List Entry → ℕ → P → Type 0 where
  after_steps : (s t : P) (n : ℕ) → local_steps machine limit n s ≡ Some t → IsAfter machine limit s [] n t
  after_entry : (s u v t : P) (e : Entry) (es : List Entry) (k n : ℕ) →
      local_steps machine limit k s ≡ Some u → IsFalse (has_local_step machine limit u) → IsBehind machine u e v → IsAfter machine limit v es n t → IsAfter machine limit s (e ∷ es) n t
