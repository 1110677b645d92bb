use Rattle.std.proofs.Common.{◌≡◌, drop}
use Rattle.herm_model.specs.Lists.{all_pass}
use Rattle.herm_model.specs.Typed.{is_text_byte}
use Rattle.herm_suits.proofs.layouts.are_text_bytes.Given as goal

abbrev pub invariant-loop-byte : goal.invariant-loop-byte
invariant-loop-byte l = all_pass is_text_byte (drop l.byte-index l.bytes) ≡ all_pass is_text_byte l.bytes
