-- Writing by way of a buffer. (Language reference, "The outside".)
use Rattle.std.specs.Prelude.{◌≡◌, ℕ, ◌<◌, ◌≤◌, List, ◌++◌, length, take, Option, Result, MatchResult, ⊤}
use Rattle.herm_edge.specs.Faults.{Rose}
use Rattle.herm_edge.specs.Sink.{written_after}
use Rattle.herm_edge.specs.declared.buffered.WriteBuffer.{WriteBuffer}
use Rattle.herm_edge.specs.declared.buffered.Unwritten.{Unwritten}

-- the bytes that a buffer holds
abbrev pub held_bytes : WriteBuffer → List ℕ
held_bytes b = take b.used b.bytes.items

abbrev pub IsSound : WriteBuffer → Type 0
IsSound b = b.used ≤ length b.bytes.items

-- A text is under way: behind what was written before, some of the first bytes of it were written, and the others are held.
pub record IsUnderWay (before : Option (List ℕ)) (text : List ℕ) (written : Option (List ℕ)) (held : List ℕ) : Type 0 where
  pub out : List ℕ
  pub written_is : written ≡ written_after before out
  pub whole : out ++ held ≡ text

-- some of the first bytes of the text were written behind what was written before, and not all
pub record IsCut (before : Option (List ℕ)) (text : List ℕ) (written : Option (List ℕ)) : Type 0 where
  pub count : ℕ
  pub short : count < length text
  pub written_is : written ≡ written_after before (take count text)

-- a count of faults stays where all went well, and rose where not
abbrev pub IsCounted : (count after : ℕ) → Result ⊤ Unwritten → Type 0
IsCounted count after result = (count ≤ after) × MatchResult result (λ _. after ≡ count) (λ _. Rose count after)

-- Bytes were put: a text that was under way is so with these bytes behind it, or it was cut.
pub record IsPut (bytes : List ℕ) (written after : Option (List ℕ)) (count after_count : ℕ) (held after_held : List ℕ) (result : Result ⊤ Unwritten) : Type 0 where
  pub counted : IsCounted count after_count result
  pub put : (before : Option (List ℕ)) (text : List ℕ) → IsUnderWay before text written held → MatchResult result (λ _. IsUnderWay before (text ++ bytes) after after_held) (λ _. IsCut before (text ++ bytes) after)

-- bytes were written whole, or cut
pub record IsFlushed (written after : Option (List ℕ)) (count after_count : ℕ) (bytes : List ℕ) (result : Result ⊤ Unwritten) : Type 0 where
  pub counted : IsCounted count after_count result
  pub flushed : MatchResult result (λ _. after ≡ written_after written bytes) (λ _. IsCut written bytes after)
