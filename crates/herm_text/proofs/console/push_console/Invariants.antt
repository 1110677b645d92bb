use Rattle.std.proofs.Common.{◌≡◌, ◌++◌, drop, flat_map}
use Rattle.herm_system.specs.TextLines.{line}
use Rattle.herm_text.specs.StringsReadBack.{unquoted}
use Rattle.herm_text.proofs.console.push_console.Given as goal

-- what is written so far, joined with the rest, is the whole
abbrev pub invariant-loop-text : goal.invariant-loop-text
invariant-loop-text l = l.out.items ++ flat_map (λ t. line (unquoted t)) (drop l.text-index l.texts) ≡ l.fn.out.items ++ flat_map (λ t. line (unquoted t)) l.texts
