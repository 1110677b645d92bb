-- The two machines that count keep numbers.
use Rattle.std.proofs.Common.{◌≡◌, ℕ, zero, suc, List, [], ◌∷◌, Bool, true, false, cond, Option, Some, None, refl, sym, ap, ◌∙◌}
use Rattle.std.specs.Prelude.{nat_lt}
use Rattle.herm_model.specs.Values.{Name, a_scalar, a_record, a_variant, a_table, a_polymorph, a_callmessage, an_inport, an_outport, Cell, cell}
use Rattle.herm_model.proofs.Options.{some-injective, none-not_some}
use Rattle.herm_journal.specs.Actions.{put, close}
use Rattle.herm_journal.specs.Messages.{CellAction}
use Rattle.herm_runs.specs.laws.ProcessLaws.{KeepsNumbers}
use Rattle.herm_runs.specs.examples.Countdowns.{OwnPort, Down, begin_down, down_steps, down_behind, counting_down, Up, begin_up, up_steps, up_behind, counting_up, as_named}

-- the number of a state that is there
module _ {X : Type 0} (of : X → ℕ) (n : ℕ) where
  abbrev pub Numbers : Option X → Type 0
  Numbers None = Unit {0}
  Numbers (Some x) = of x ≡ n

  number-of : (o : Option X) (x : X) → Numbers o → o ≡ Some x → of x ≡ n
  number-of None x h e = none-not_some e
  number-of (Some z) x h e = sym (ap of (some-injective e)) ∙ h

  of-cond : (b : Bool) (o p : Option X) → Numbers o → Numbers p → Numbers (cond b o p)
  of-cond true o p h k = h
  of-cond false o p h k = k

-- the first
down-begins : (code number : ℕ) (port : Cell Name) (x : Down Name) → begin_down as_named code number port ≡ Some x → (x.number ≡ number) × (0 ≡ code)
down-begins zero number (cell n (an_inport p) ps) x e = (sym (ap (λ (v : Down Name). v.number) (some-injective e)), refl)
down-begins zero number (cell n (a_scalar s) ps) x e = none-not_some e
down-begins zero number (cell n a_record ps) x e = none-not_some e
down-begins zero number (cell n (a_variant c) ps) x e = none-not_some e
down-begins zero number (cell n a_table ps) x e = none-not_some e
down-begins zero number (cell n (a_polymorph t) ps) x e = none-not_some e
down-begins zero number (cell n (a_callmessage c k) ps) x e = none-not_some e
down-begins zero number (cell n (an_outport p) ps) x e = none-not_some e
down-begins (suc code) number port x e = none-not_some e

down-steps : (x : Down Name) (left : ℕ) (m : Option (Cell Name)) (p : Option (OwnPort Name)) → Numbers (λ (v : Down Name). v.number) x.number (down_steps as_named x left m p)
down-steps x left m None = tt
down-steps x left (Some m) (Some p) = tt
down-steps x zero None (Some p) = tt
down-steps x (suc left) None (Some p) = refl

down-behind : (x : Down Name) (a : CellAction Name) (left : ℕ) (m : Option (Cell Name)) (p : Option (OwnPort Name)) → Numbers (λ (v : Down Name). v.number) x.number (down_behind as_named x a left m p)
down-behind x (put (Some k) sent) left (Some m) (Some p) = refl
down-behind x (put None sent) left (Some m) (Some p) = refl
down-behind x (close count rest) zero None (Some p) = refl
down-behind x a left m p = tt

pub down-keeps : KeepsNumbers (counting_down as_named)
down-keeps = record {
  begins = down-begins;
  local_steps = λ x y e. (number-of (λ (v : Down Name). v.number) x.number (down_steps as_named x x.left x.message x.inport) y (down-steps x x.left x.message x.inport) e, refl);
  answers = λ x y at a e. (number-of (λ (v : Down Name). v.number) x.number (down_behind as_named x a x.left x.message x.inport) y (down-behind x a x.left x.message x.inport) e, refl);
}

-- the second
up-begins : (code number : ℕ) (port : Cell Name) (y : Up Name) → begin_up as_named code number port ≡ Some y → (y.number ≡ number) × (0 ≡ code)
up-begins zero number (cell n (an_inport p) ps) y e = (sym (ap (λ (v : Up Name). v.number) (some-injective e)), refl)
up-begins zero number (cell n (a_scalar s) ps) y e = none-not_some e
up-begins zero number (cell n a_record ps) y e = none-not_some e
up-begins zero number (cell n (a_variant c) ps) y e = none-not_some e
up-begins zero number (cell n a_table ps) y e = none-not_some e
up-begins zero number (cell n (a_polymorph t) ps) y e = none-not_some e
up-begins zero number (cell n (a_callmessage c k) ps) y e = none-not_some e
up-begins zero number (cell n (an_outport p) ps) y e = none-not_some e
up-begins (suc code) number port y e = none-not_some e

up-steps : (y : Up Name) (ms : List (Cell Name)) (ps : List (OwnPort Name)) → Numbers (λ (v : Up Name). v.number) y.number (up_steps as_named y ms ps)
up-steps y ms [] = tt
up-steps y (m ∷ ms) (p ∷ ps) = tt
up-steps y [] (p ∷ ps) = of-cond (λ (v : Up Name). v.number) y.number (nat_lt y.made 2) _ None refl tt

up-behind : (y : Up Name) (a : CellAction Name) (ms : List (Cell Name)) (ps : List (OwnPort Name)) → Numbers (λ (v : Up Name). v.number) y.number (up_behind as_named y a ms ps)
up-behind y (put (Some k) sent) (m ∷ ms) (p ∷ ps) = refl
up-behind y (put None sent) (m ∷ ms) (p ∷ ps) = refl
up-behind y (close count rest) [] (p ∷ ps) = of-cond (λ (v : Up Name). v.number) y.number (nat_lt y.made 2) None _ tt refl
up-behind y a ms ps = tt

pub up-keeps : KeepsNumbers (counting_up as_named)
up-keeps = record {
  begins = up-begins;
  local_steps = λ x y e. (number-of (λ (v : Up Name). v.number) x.number (up_steps as_named x x.outbox x.unclosed) y (up-steps x x.outbox x.unclosed) e, refl);
  answers = λ x y at a e. (number-of (λ (v : Up Name). v.number) x.number (up_behind as_named x a x.outbox x.unclosed) y (up-behind x a x.outbox x.unclosed) e, refl);
}
