use Rattle.std.proofs.Common.{◌≡◌, ◌++◌, drop, flat_map, map}
use Rattle.herm_base.specs.declared.numbers.PortNo.{PortNo}
use Rattle.herm_journal.specs.EntryTexts.{and_number}
use Rattle.herm_text.proofs.statuses.push_ports.Given as goal

-- what is written so far, joined with the rest, is the whole
abbrev pub invariant-loop-port : goal.invariant-loop-port
invariant-loop-port l = l.out.items ++ flat_map and_number (map (λ (p : PortNo). p.number) (drop l.port-index l.ports)) ≡ l.fn.out.items ++ flat_map and_number (map (λ (p : PortNo). p.number) l.ports)
