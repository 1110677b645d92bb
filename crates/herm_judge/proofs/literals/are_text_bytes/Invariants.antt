use Rattle.std.proofs.Common.{◌≡◌, drop}
use Rattle.herm_model.specs.Lists.{all_pass}
use Rattle.herm_model.specs.Typed.{is_text_byte}
use Rattle.herm_judge.proofs.literals.are_text_bytes.Given as goal

-- All are bytes of strings exactly where those that are left are.
abbrev pub invariant-bytes : goal.invariant-bytes
invariant-bytes l = all_pass is_text_byte (drop l.byte-index l.bytes) ≡ all_pass is_text_byte l.bytes
