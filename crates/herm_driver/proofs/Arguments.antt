-- What follows from the bounds of what words ask for: the argument is a text.
use Rattle.std.proofs.Common.{◌≡◌, ℕ, List, [], ◌∷◌, length, Bool, true, Some, ◌&&◌, nat_le, IsTrue, refl, ap, ◌∙◌}
use Rattle.std.specs.List.{list_all}
use Rattle.herm_model.specs.Lists.{all_pass}
use Rattle.herm_model.specs.Typed.{is_text, is_text_byte}
use Rattle.herm_commands.specs.Within.{IsWithin}
use Rattle.herm_commands.specs.Words.{is_arg, is_arg_byte, asked, seen}
use Rattle.herm_commands.specs.declared.commands.Command.{Command}
use Rattle.herm_commands.proofs.Within.{asked_within}

same-bytes : (bs : List ℕ) → all_pass is_text_byte bs ≡ list_all is_arg_byte bs
same-bytes [] = refl
same-bytes (b ∷ bs) = ap (λ rest. is_arg_byte b && rest) (same-bytes bs)

pub arg_text : (text : List ℕ) → is_arg text ≡ true → IsTrue (is_text text)
arg_text text e = ap (λ rest. nat_le (length text) 4096 && rest) (same-bytes text) ∙ e

-- and a command is within the bounds of the words that ask for it
pub command_within : (words : List (List ℕ)) (command : Command) → asked words ≡ Some (seen command) → IsWithin (seen command)
command_within words command e = asked_within words (seen command) e
