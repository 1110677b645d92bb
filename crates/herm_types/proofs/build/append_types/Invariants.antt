use Rattle.std.proofs.Common.{◌≡◌, ◌++◌, map}
use Rattle.herm_types.proofs.build.append_types.Given as goal

abbrev pub invariant-loop-name : goal.invariant-loop-name
invariant-loop-name l = record {
  names : l.names.items ≡ l.fn.names.items ++ map (λ d. d.0) l.yielded;
  shapes : l.shapes.items ≡ l.fn.shapes.items ++ map (λ d. d.1) l.yielded;
}
