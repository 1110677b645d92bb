use Rattle.std.proofs.Common.{◌≡◌, ◌++◌, drop, false}
use Rattle.herm_text.specs.StringsReadBack.{unescaped}
use Rattle.herm_text.proofs.console.push_unescaped.Given as goal

-- what is written so far, joined with the rest, is the whole
abbrev pub invariant-loop-byte : goal.invariant-loop-byte
invariant-loop-byte l =
    l.out.items ++ unescaped l.after_backslash (drop l.byte-index l.text) ≡ l.fn.out.items ++ unescaped false l.text
