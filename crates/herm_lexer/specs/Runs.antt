-- Runs of bytes that are read together.
use Rattle.std.specs.Prelude.{◌≡◌, ℕ, suc, ◌==◌, ◌||◌, ◌&&◌, not, Bool, false, IsTrue, IsFalse, List, [], ◌∷◌, if◌then◌else◌}
use Rattle.std.specs.Char.{is_ascii_digit}
use Rattle.herm_lexer.specs.Bytes.{is_name_byte, is_line_byte}
use Rattle.herm_lexer.specs.declared.run.Run.{Run}
use Rattle.herm_lexer.specs.declared.run.Run.TheVariants.{Name, Digits, Line, Inside}

-- Whether a run goes on over a byte. A string goes on over what isn't the end of its line, and over a `"` only where a `\` escapes it.
abbrev pub goes_on : Run → Bool → ℕ → Bool
goes_on Name escaped b = is_name_byte b
goes_on Digits escaped b = is_ascii_digit b
goes_on Line escaped b = is_line_byte b
goes_on Inside escaped b = is_line_byte b && (escaped || not (b == 34))

-- whether a byte escapes the next one: a `\` in a string that isn't itself escaped
abbrev pub escapes : Run → Bool → ℕ → Bool
escapes Name escaped b = false
escapes Digits escaped b = false
escapes Line escaped b = false
escapes Inside escaped b = b == 92 && not escaped

-- A run goes on over all of these bytes. Before them stands an escape or not, and so behind them.
abbrev pub Goes : Run → Bool → List ℕ → Bool → Type 0
Goes run escaped [] after = escaped ≡ after
Goes run escaped (b ∷ bs) after = IsTrue (goes_on run escaped b) × Goes run (escapes run escaped b) bs after

-- a run doesn't go on over what follows
abbrev pub Stops : Run → Bool → List ℕ → Type 0
Stops run escaped [] = Unit {0}
Stops run escaped (b ∷ bs) = IsFalse (goes_on run escaped b)

-- how far a run goes
abbrev pub run_length : Run → Bool → List ℕ → ℕ
run_length run escaped [] = 0
run_length run escaped (b ∷ bs) = if goes_on run escaped b then suc (run_length run (escapes run escaped b) bs) else 0
