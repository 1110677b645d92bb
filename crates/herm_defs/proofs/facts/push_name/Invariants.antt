use Rattle.std.proofs.Common.{◌≡◌, ◌++◌, [], drop}
use Rattle.herm_defs.specs.PlainFacts.{marked_bytes}
use Rattle.herm_defs.proofs.facts.push_name.Given as goal

abbrev pub invariant-loop-byte : goal.invariant-loop-byte
invariant-loop-byte l = l.bytes.items ++ marked_bytes (drop l.byte-index l.name.text) [] ≡ l.fn.bytes.items ++ marked_bytes l.name.text []
