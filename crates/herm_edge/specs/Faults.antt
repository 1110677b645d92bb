-- Counts of faults and of calls. (Language reference, "The outside".)
use Rattle.std.specs.Prelude.{◌≡◌, ◌⊎◌, ℕ, ◌+◌, ◌-◌, ◌^◌, ◌<◌, min, Bool, List, ◌==◌}
use Rattle.std.specs.List.{list_any}

-- a count of faults rose in a call: it is greater afterwards than before, or stands at its type's end afterwards
abbrev pub Rose : ℕ → ℕ → Type 0
Rose before after = (before < after) ⊎ (after ≡ 2 ^ 64 - 1)

-- a counter of 64 bits, one higher; at its type's end it stays there
abbrev pub next_count : ℕ → ℕ
next_count n = min (n + 1) (2 ^ 64 - 1)

-- the next call fails: its number, from 1 on, is among those that fail
abbrev pub is_next_failing : List ℕ → ℕ → Bool
is_next_failing failing calls = list_any (λ number. number == next_count calls) failing
