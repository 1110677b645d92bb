-- Numbers as bits: number n is bit n % 64 of word n / 64.
use Rattle.std.specs.Prelude.{ℕ, suc, ◌*◌, ◌/◌, ◌%◌, List, length, filter, slice_index, Bool, nat_eq, nat_lt, ◌≡◌, ◌≤◌, ◌<◌}
use Rattle.std.specs.Int.{bit_at}
use Rattle.herm_model.specs.Lists.{range}

abbrev pub is_member : List ℕ → ℕ → Bool
is_member words n = nat_eq (bit_at (slice_index words (n / 64)) (n % 64)) 1

-- the numbers whose bits are 1, rising
abbrev pub members : List ℕ → List ℕ
members words = filter (is_member words) (range 0 (64 * length words))

-- bit i of a summary is 1 where word i is not 0
abbrev pub IsSummary : ℕ → List ℕ → Type 0
IsSummary filled words = (i : ℕ) → i < 64 → nat_eq (bit_at filled i) 1 ≡ nat_lt 0 (slice_index words i)

-- there are words for all numbers up to the limit, at most 17, with their summary
pub record IsTable (limit filled : ℕ) (words : List ℕ) : Type 0 where
  pub long : length words ≡ suc (limit / 64)
  pub few : limit ≤ 1024
  pub summary : IsSummary filled words
