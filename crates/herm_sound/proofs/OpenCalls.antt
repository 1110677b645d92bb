-- Open calls by process and number: which are open, and of which types.
use Rattle.std.proofs.Common.{◌≡◌, inl, inr, ℕ, suc, ◌+◌, List, [], ◌∷◌, length, Bool, true, false, cond, Option, Some, None, option_map, option_and_then, refl, sym, ap, subst, ◌∙◌, arith}
use Rattle.std.proofs.lemmas.Bool.{eqb-true, eqb-false}
use Rattle.std.proofs.Math.Bool.{or-false}
use Rattle.std.specs.Prelude.{nat_eq, filter}
use Rattle.herm_model.specs.Lists.{IsIn, any_pass, list_of}
use Rattle.herm_model.specs.Values.{Name}
use Rattle.herm_model.proofs.Options.{none-not_some, chain-some}
use Rattle.herm_journal.proofs.Rising.{same-true}
use Rattle.herm_system.specs.Machines.{OpenCall, Machine}
use Rattle.herm_system.specs.Systems.{System, numbered_from_one}
use Rattle.herm_system.specs.Kinds.{has_open, open_number}
use Rattle.herm_system.specs.Sound.{one_if}
use Rattle.herm_system.specs.Summary.{how_many}

-- a count of what is there is not zero
pub counted : {X : Type 0} (test : X → Bool) (x : X) (xs : List X) → IsIn x xs → test x ≡ true → (n : ℕ) × (how_many test xs ≡ suc n)
counted test x [] h e = absurd h
counted test x (y ∷ xs) (inl is) e = (how_many test xs, ap (λ b. length (cond b (y ∷ filter test xs) (filter test xs))) (subst (λ z. test z ≡ true) is e))
counted {X} test x (y ∷ xs) (inr is) e = by (test y) (counted test x xs is e)
  where
    by : (b : Bool) → (n : ℕ) × (how_many test xs ≡ suc n) → (n : ℕ) × (length (cond b (y ∷ filter test xs) (filter test xs)) ≡ suc n)
    by true h = (how_many test xs, refl)
    by false h = h

pub only-one : (m n k : ℕ) (b : Bool) → k ≡ suc n → m + k ≡ one_if b → b ≡ true
only-one m n k true is e = refl
only-one m n k false is e = let no_more : ⊥ = omega (arith, is, e) in absurd no_more

pub same-number : (m n : ℕ) → nat_eq m n ≡ nat_eq n m
same-number m n = by (nat_eq m n) (nat_eq n m) refl refl
  where
    by : (b c : Bool) → nat_eq m n ≡ b → nat_eq n m ≡ c → b ≡ c
    by true true e f = refl
    by false false e f = refl
    by true false e f = absurd (eqb-false n m f (sym (eqb-true m n e)))
    by false true e f = absurd (eqb-false m n e (sym (eqb-true n m f)))

module _ {P : Type 0} (machine : Machine Name P) (s : System P) (q : ℕ) where
  -- the number of an open call
  abbrev pub is_number : ℕ → Option OpenCall → Bool
  is_number k o = any_pass (nat_eq k) (list_of (λ n. n ∷ []) (option_map (λ (call : OpenCall). call.number) o))

  pub open-with : (z : P) (o : Option OpenCall) (k : ℕ) → numbered_from_one q s.processes ≡ Some z → machine.open_call z ≡ o → has_open machine s q k ≡ is_number k o
  open-with z o k is opened =
      ap (λ p. any_pass (λ x. any_pass (nat_eq k) (list_of (λ call. call ∷ []) (open_number machine x))) (list_of (λ x. x ∷ []) p)) is
      ∙ or-false (any_pass (nat_eq k) (list_of (λ call. call ∷ []) (open_number machine z)))
      ∙ ap (is_number k) opened

  pub open-none : (k : ℕ) → numbered_from_one q s.processes ≡ None → has_open machine s q k ≡ false
  open-none k is = ap (λ p. any_pass (λ x. any_pass (nat_eq k) (list_of (λ call. call ∷ []) (open_number machine x))) (list_of (λ x. x ∷ []) p)) is

  -- the type of a call's callmessage, where the call is open
  abbrev pub type_if : ℕ → OpenCall → Option ℕ
  type_if k call = cond (nat_eq call.number k) call.call_type None

  abbrev pub type_of_call : ℕ → Option ℕ
  type_of_call k = option_and_then (λ z. option_and_then (type_if k) (machine.open_call z)) (numbered_from_one q s.processes)

  pub record CallOf (k t : ℕ) : Type 0 where
    pub caller : P
    pub call : OpenCall
    pub is : numbered_from_one q s.processes ≡ Some caller
    pub opened : machine.open_call caller ≡ Some call
    pub number : call.number ≡ k
    pub type : call.call_type ≡ Some t

  pub call-of : (k t : ℕ) → type_of_call k ≡ Some t → CallOf k t
  call-of k t e =
      let z = chain-some (λ z. option_and_then (type_if k) (machine.open_call z)) (numbered_from_one q s.processes) t e in
      let c = chain-some (type_if k) (machine.open_call z.0) t z.2 in
      by z.0 c.0 z.1 c.1 (nat_eq c.0.number k) refl c.2
    where
      by : (z : P) (call : OpenCall) → numbered_from_one q s.processes ≡ Some z → machine.open_call z ≡ Some call → (b : Bool) → nat_eq call.number k ≡ b → cond b call.call_type None ≡ Some t → CallOf k t
      by z call is opened true same e = record { caller = z; call = call; is = is; opened = opened; number = eqb-true call.number k same; type = e }
      by z call is opened false same e = none-not_some e

  pub of-call : (z : P) (call : OpenCall) (k t : ℕ) → numbered_from_one q s.processes ≡ Some z → machine.open_call z ≡ Some call → call.number ≡ k → call.call_type ≡ Some t → type_of_call k ≡ Some t
  of-call z call k t is opened number type =
      ap (option_and_then (λ z. option_and_then (type_if k) (machine.open_call z))) is
      ∙ ap (option_and_then (type_if k)) opened
      ∙ ap (λ b. cond b call.call_type None) (ap (λ n. nat_eq n k) number ∙ same-true k)
      ∙ type

  pub of-none : (z : P) (k : ℕ) → numbered_from_one q s.processes ≡ Some z → machine.open_call z ≡ None → type_of_call k ≡ None
  of-none z k is opened = ap (option_and_then (λ z. option_and_then (type_if k) (machine.open_call z))) is ∙ ap (option_and_then (type_if k)) opened
