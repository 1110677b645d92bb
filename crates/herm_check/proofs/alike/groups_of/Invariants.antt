use Rattle.std.proofs.Common.{◌≡◌, ℕ, ◌<◌, length, Some, slice_get}
use Rattle.std.specs.declared.vec.Vec.{Vec}
use Rattle.std.specs.declared.alloc.Global.{Global}
use Rattle.herm_model.specs.Lists.{IsIn}
use Rattle.herm_check.proofs.alike.groups_of.Given as goal

abbrev pub invariant-loop-n : goal.invariant-loop-n
invariant-loop-n l = (length l.groups.items ≡ length l.firsts) × ((n m : ℕ) (g : Vec ℕ Global) → n < l.n → slice_get l.firsts n ≡ Some m → slice_get l.groups.items m ≡ Some g → IsIn n g.items)
