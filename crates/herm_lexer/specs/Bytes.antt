-- Classes of the bytes of a source file (Language reference, "Tokens").
use Rattle.std.specs.Prelude.{ℕ, Bool, ◌==◌, ◌||◌, ◌&&◌, not}
use Rattle.std.specs.Char.{is_ascii_graphic}
pub use Rattle.herm_alphabet.specs.Tokens.{is_name_byte}

-- white space
abbrev pub is_blank : ℕ → Bool
is_blank b = b == 32 || b == 9 || b == 10 || b == 13

-- the bytes that a source file may have: white space, and the printable ones
abbrev pub is_allowed : ℕ → Bool
is_allowed b = is_blank b || is_ascii_graphic b

-- what goes on to the end of a line: an allowed byte that is no newline
abbrev pub is_line_byte : ℕ → Bool
is_line_byte b = is_allowed b && not (b == 10)
