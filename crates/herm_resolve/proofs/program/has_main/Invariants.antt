use Rattle.std.proofs.Common.{◌≡◌, map, drop}
use Rattle.herm_resolve.specs.Judged.{is_main_among}
use Rattle.herm_resolve.proofs.program.has_main.Given as goal

-- What is said of the processes that are left is said of all.
abbrev pub invariant-names : goal.invariant-names
invariant-names l = is_main_among (drop l.place l.names) (map (λ t. t.0) (drop l.place l.ports)) ≡ is_main_among l.names (map (λ t. t.0) l.ports)
