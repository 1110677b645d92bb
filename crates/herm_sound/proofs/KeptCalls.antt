-- Which calls are open behind a change.
use Rattle.std.proofs.Common.{◌≡◌, ◌⊎◌, inl, inr, ℕ, ◌+◌, List, [], ◌∷◌, length, Bool, true, false, cond, Option, Some, None, refl, sym, ap, subst, ◌∙◌, arith}
use Rattle.std.proofs.lemmas.Bool.{eqb-true, eqb-false}
use Rattle.std.proofs.Math.Bool.{or-false}
use Rattle.std.specs.Prelude.{nat_eq, ◌&&◌}
use Rattle.herm_model.specs.Lists.{IsIn, list_of}
use Rattle.herm_model.specs.Values.{Name, a_callmessage, Cell}
use Rattle.herm_model.proofs.Options.{none-not_some}
use Rattle.herm_journal.proofs.Rising.{same-true}
use Rattle.herm_journal.specs.Actions.{make_port, make_process, put, hear}
use Rattle.herm_journal.specs.Messages.{CellReply, CellWant, CellAction}
use Rattle.herm_system.specs.Machines.{OpenCall, Machine}
use Rattle.herm_system.specs.Systems.{System, numbered_from_one}
use Rattle.herm_system.specs.Kinds.{has_open, is_callmessage_of, replies_of}
use Rattle.herm_system.specs.Sound.{one_if, IsSoundWith}
use Rattle.herm_system.specs.Suiting.{Suits}
use Rattle.herm_system.specs.Summary.{how_many}
use Rattle.herm_runs.specs.Counting.{kinds_made}
use Rattle.herm_runs.proofs.Stands.{IsNew}
use Rattle.herm_sound.specs.SoundMachines.{CallMoves, KeepsSound}
use Rattle.herm_sound.proofs.ReplyCells.{heard_of}
use Rattle.herm_sound.proofs.Changes.{IsChange}
use Rattle.herm_sound.proofs.OpenCalls.{counted, same-number, is_number, open-with, open-none}

-- a message was placed
abbrev pub IsPlaced : CellAction Name → Type 0
IsPlaced a = (k : ℕ) × (m : Cell Name) × (a ≡ put (Some k) m)

module _ {P : Type 0} (machine : Machine Name P) (Is : P → Type 0) (keeps : KeepsSound machine Is) (ports : List ℕ) (s : System P) (sound : IsSoundWith machine Is ports s) where
  -- where no call is open, no reply waits
  pub no-replies : (p : ℕ) (x : P) → numbered_from_one p s.processes ≡ Some x → machine.open_call x ≡ None → (r : ℕ × CellReply Name) → IsIn r (replies_of s p) → ⊥
  no-replies p x is closed r member =
      let some = counted (λ (x : ℕ × CellReply Name). nat_eq x.0 r.0) r (replies_of s p) member (same-true r.0) in
      let shut : has_open machine s p r.0 ≡ false = open-with machine s p x None r.0 is closed in
      let all = sound.calls.answers p r.0 in
      let none : one_if (has_open machine s p r.0) ≡ 0 = ap one_if shut in
      omega (arith, some.1, all, none)

  module _ (t : System P) (p : ℕ) (x y : P) (w : Option (CellWant Name)) (at : ℕ) (a : CellAction Name) (change : IsChange machine Is keeps ports s t p x y w at a) where
    -- a call that is open behind was open before, or was opened
    abbrev pub WasOpen : ℕ → P → OpenCall → Type 0
    WasOpen q z call = ((z' : P) × (numbered_from_one q s.processes ≡ Some z') × (machine.open_call z' ≡ Some call)) ⊎ ((p ≡ q) × (y ≡ z) × (machine.open_call x ≡ None) × IsPlaced a)

    own-open : (a : CellAction Name) → CallMoves machine x y a → (call : OpenCall) → machine.open_call y ≡ Some call → (machine.open_call x ≡ Some call) ⊎ ((machine.open_call x ≡ None) × IsPlaced a)
    own-open (put (Some k) m) moves call opened = inr (moves, (k, m, refl))
    own-open (hear k r) moves call opened = none-not_some (sym moves ∙ opened)
    own-open a moves call opened = inl (sym moves ∙ opened)

    pub born-closed : (q : ℕ) (z : P) → IsNew machine x a s q z → machine.open_call z ≡ None
    born-closed q z new = (keeps.processes.begins new.module_number (new.made).0 (new.made).1 (machine.number x, machine.serial x) z new.is).1

    pub calls-before : (q : ℕ) (z : P) (call : OpenCall) → numbered_from_one q t.processes ≡ Some z → machine.open_call z ≡ Some call → WasOpen q z call
    calls-before q z call is opened = by (change.found q z is)
      where
        own : (p ≡ q) × (y ≡ z) → (machine.open_call x ≡ Some call) ⊎ ((machine.open_call x ≡ None) × IsPlaced a) → WasOpen q z call
        own e (inl before) = inl (x, subst (λ q. numbered_from_one q s.processes ≡ Some x) e.0 change.was, before)
        own e (inr new) = inr (e.0, e.1, new.0, new.1)

        by : ((p ≡ q) × (y ≡ z)) ⊎ ((numbered_from_one q s.processes ≡ Some z) ⊎ IsNew machine x a s q z) → WasOpen q z call
        by (inl e) = own e (own-open a change.calls call (ap machine.open_call e.1 ∙ opened))
        by (inr (inl e)) = inl (z, e, opened)
        by (inr (inr new)) = none-not_some (sym (born-closed q z new) ∙ opened)

    -- calls that are open behind, with the one whose reply was heard, are those before, with the one whose message was placed
    abbrev OpensMove : ℕ → ℕ → Type 0
    OpensMove q k = one_if (has_open machine t q k) + heard_of p a q k ≡ one_if (has_open machine s q k) + how_many (is_callmessage_of q k) (kinds_made machine y a)

    one-length : {X : Type 0} (b : Bool) (x : X) → length (cond b (x ∷ []) []) ≡ one_if b
    one-length true x = refl
    one-length false x = refl

    -- the callmessage of a process's own call
    own-made : (number q k : ℕ) (o : Option OpenCall) → number ≡ q → how_many (is_callmessage_of q k) (list_of (λ (call : OpenCall). a_callmessage number call.number ∷ []) o) ≡ one_if (is_number machine t q k o)
    own-made number q k None same = refl
    own-made number q k (Some call) same =
        one-length (nat_eq number q && nat_eq call.number k) (a_callmessage number call.number)
        ∙ ap (λ b. one_if (b && nat_eq call.number k)) (ap (λ n. nat_eq n q) same ∙ same-true q)
        ∙ ap one_if (same-number call.number k)
        ∙ ap one_if (sym (or-false (nat_eq k call.number)))

    other-made : (number q k : ℕ) (o : Option OpenCall) → nat_eq number q ≡ false → how_many (is_callmessage_of q k) (list_of (λ (call : OpenCall). a_callmessage number call.number ∷ []) o) ≡ 0
    other-made number q k None apart = refl
    other-made number q k (Some call) apart = ap (λ b. length (cond (b && nat_eq call.number k) (a_callmessage number call.number ∷ []) [])) apart

    own-moves : (k : ℕ) → OpensMove p k
    own-moves k = by a change.calls change.suits
      where
        before : (o : Option OpenCall) → machine.open_call x ≡ o → one_if (has_open machine s p k) ≡ one_if (is_number machine s p k o)
        before o e = ap one_if (open-with machine s p x o k change.was e)

        behind : (o : Option OpenCall) → machine.open_call y ≡ o → one_if (has_open machine t p k) ≡ one_if (is_number machine t p k o)
        behind o e = ap one_if (open-with machine t p y o k change.now e)

        unmoved : machine.open_call y ≡ machine.open_call x → one_if (has_open machine t p k) + 0 ≡ one_if (has_open machine s p k) + 0
        unmoved e = omega (arith, behind (machine.open_call x) e, before (machine.open_call x) refl)

        heard-tests : (i n : ℕ) → n ≡ i → one_if (nat_eq p p && nat_eq i k) ≡ one_if (is_number machine s p k (Some (record { number = n; call_type = None })))
        heard-tests i n e =
            ap (λ b. one_if (b && nat_eq i k)) (same-true p) ∙ ap one_if (same-number i k) ∙ ap (λ i. one_if (nat_eq k i)) (sym e) ∙ ap one_if (sym (or-false (nat_eq k n)))

        by : (a : CellAction Name) → CallMoves machine x y a → Suits machine x at a → one_if (has_open machine t p k) + heard_of p a p k ≡ one_if (has_open machine s p k) + how_many (is_callmessage_of p k) (kinds_made machine y a)
        by (put (Some i) m) moves suits = omega (arith, before None moves, behind (machine.open_call y) refl, own-made (machine.number y) p k (machine.open_call y) (change.number).1)
        by (hear i r) moves suits = omega (arith, before (Some suits.0) suits.1, behind None moves, heard-tests i (suits.0).number suits.2)
        by (make_port (Some n)) moves suits = unmoved moves
        by (make_process code (Some made)) moves suits = unmoved moves
        by a moves suits = unmoved moves

    other-moves : (q k : ℕ) → nat_eq p q ≡ false → OpensMove q k
    other-moves q k apart = by a (same (numbered_from_one q s.processes) (numbered_from_one q t.processes) refl refl)
      where
        differ : p ≡ q → ⊥
        differ = eqb-false p q apart

        new-none : (z : P) → numbered_from_one q s.processes ≡ None → numbered_from_one q t.processes ≡ Some z → ((p ≡ q) × (y ≡ z)) ⊎ ((numbered_from_one q s.processes ≡ Some z) ⊎ IsNew machine x a s q z) → machine.open_call z ≡ None
        new-none z none is (inl e) = absurd (differ e.0)
        new-none z none is (inr (inl e)) = none-not_some (sym none ∙ e)
        new-none z none is (inr (inr new)) = born-closed q z new

        same : (o o' : Option P) → numbered_from_one q s.processes ≡ o → numbered_from_one q t.processes ≡ o' → has_open machine t q k ≡ has_open machine s q k
        same (Some z) o' e e' = open-with machine t q z (machine.open_call z) k (change.stays q z differ e) refl ∙ sym (open-with machine s q z (machine.open_call z) k e refl)
        same None None e e' = open-none machine t q k e' ∙ sym (open-none machine s q k e)
        same None (Some z) e e' = open-with machine t q z None k e' (new-none z e e' (change.found q z e')) ∙ sym (open-none machine s q k e)

        unmoved : has_open machine t q k ≡ has_open machine s q k → one_if (has_open machine t q k) + 0 ≡ one_if (has_open machine s q k) + 0
        unmoved e = ap (λ b. one_if b + 0) e

        by : (a : CellAction Name) → has_open machine t q k ≡ has_open machine s q k → one_if (has_open machine t q k) + heard_of p a q k ≡ one_if (has_open machine s q k) + how_many (is_callmessage_of q k) (kinds_made machine y a)
        by (put (Some i) m) e = omega (arith, unmoved e, other-made (machine.number y) q k (machine.open_call y) (ap (λ n. nat_eq n q) (change.number).1 ∙ apart))
        by (hear i r) e = omega (arith, unmoved e, ap (λ b. one_if (b && nat_eq i k)) apart)
        by (make_port (Some n)) e = unmoved e
        by (make_process code (Some made)) e = unmoved e
        by a e = unmoved e

    pub opens-move : (q k : ℕ) → OpensMove q k
    opens-move q k = by (nat_eq p q) refl
      where
        by : (b : Bool) → nat_eq p q ≡ b → OpensMove q k
        by true e = subst (λ q. OpensMove q k) (eqb-true p q e) (own-moves k)
        by false e = other-moves q k e
