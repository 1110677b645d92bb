-- What follows from what a test says.
use Rattle.std.proofs.Common.{◌≡◌, ◌↔◌, Bool, true, false, not, IsTrue, refl, sym, true≢false}
use Rattle.herm_graph.specs.Tells.{Tells, Refutes}

pub told : {P : Type 0} (b : Bool) → (IsTrue b ↔ P) → Tells b P
told true e = e.0 refl
told false e = λ p. true≢false (sym (e.1 p))

pub says-so : {P : Type 0} (b : Bool) → Tells b P → IsTrue b → P
says-so true t e = t
says-so false t e = absurd (true≢false (sym e))

pub says-not : {P : Type 0} (b : Bool) → Tells b P → b ≡ false → P → ⊥
says-not true t e = absurd (true≢false e)
says-not false t e = t

pub must-say : {P : Type 0} (b : Bool) → Tells b P → P → IsTrue b
must-say true t p = refl
must-say false t p = absurd (t p)

-- the same fact in other words
pub told-as : {P Q : Type 0} (b : Bool) → (P → Q) → (Q → P) → Tells b P → Tells b Q
told-as true to from t = to t
told-as false to from t = λ q. t (from q)

-- what a test says not to be so, where another test says that
pub refuted : {P Q : Type 0} (b : Bool) → (IsTrue b → Q) → (b ≡ false → P) → (Q → P → ⊥) → Refutes b P
refuted true so other apart = apart (so refl)
refuted false so other apart = other refl

pub not-told : (P : Type 0) (b : Bool) → Refutes b P → Tells (not b) P
not-told P true r = r
not-told P false r = r

pub not-so : {P : Type 0} (b : Bool) → Refutes b P → b ≡ false → P
not-so true r e = absurd (true≢false e)
not-so false r e = r
