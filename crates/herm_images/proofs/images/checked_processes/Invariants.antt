use Rattle.std.proofs.Common.{◌≡◌, ◌++◌, map, drop}
use Rattle.herm_images.proofs.images.checked_processes.Given as goal

-- What was taken so far, joined with what is left, is the whole.
abbrev pub invariant-processes : goal.invariant-processes
invariant-processes l =
    (map (λ c. c.process.now) l.checked.items ++ drop l.number l.processes ≡ l.processes)
    × (map (λ c. c.flow.now) l.checked.items ++ drop l.number l.flows ≡ l.flows)
    × (map (λ c. c.labels.now) l.checked.items ++ drop l.number l.labels ≡ l.labels)
    × (map (λ c. c.coercions.now) l.checked.items ++ drop l.number l.coercions ≡ l.coercions)
