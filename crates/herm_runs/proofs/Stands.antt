-- How a process stands, what a changed system has of its processes, and what stays of the book.
use Rattle.std.proofs.Common.{◌≡◌, ℕ, zero, suc, List, [], ◌∷◌, ◌++◌, Bool, true, false, cond, ◌⊎◌, inl, inr, Some, None, option_map, slice_get, slice_set, length, refl, sym, ap, subst, ◌∙◌, arith, true≢false}
use Rattle.std.proofs.Math.Bool.{or-false}
use Rattle.std.specs.Prelude.{nat_lt, ◌&&◌}
use Rattle.herm_model.specs.Lists.{any_pass, list_of}
use Rattle.herm_model.specs.Values.{Name, Cell}
use Rattle.herm_model.proofs.Options.{some-injective, none-not_some, map-some}
use Rattle.herm_journal.specs.Actions.{make_port, make_process, put, take, close, answer, hear}
use Rattle.herm_journal.specs.NextNumbers.{Book}
use Rattle.herm_journal.specs.PlaceStates.{PlaceState, a_book, after}
use Rattle.herm_journal.specs.Entries.{Place, port, reply_cell, book}
use Rattle.herm_journal.specs.Messages.{CellReply, CellAction}
use Rattle.herm_system.specs.Machines.{Machine, Standing, ended, out_of_steps, out_of_actions, waiting, local, acting, is_local, is_acting, inport_of}
use Rattle.herm_system.specs.Systems.{System, can, seen_as, standing, stands, set_process, set_holding, holding_at, with_made, numbered_from_one, set_from_one}
use Rattle.herm_runs.proofs.SystemLedger.{processes-stay}
use Rattle.herm_runs.proofs.RoundsEnd.{get-past, other-within}
use Rattle.herm_runs.proofs.Numbered.{more-found_from_one}

-- a local step is next whatever can be done; and an action is done only where it is next and can be done
pub seen-local : (r : Standing) (b : Bool) → is_local (seen_as r b) ≡ is_local r
seen-local ended b = refl
seen-local out_of_steps b = refl
seen-local out_of_actions b = refl
seen-local waiting b = refl
seen-local local b = refl
seen-local acting true = refl
seen-local acting false = refl

pub seen-acting : (r : Standing) (b : Bool) → is_acting (seen_as r b) ≡ true → (r ≡ acting) × (b ≡ true)
seen-acting ended b e = absurd (true≢false (sym e))
seen-acting out_of_steps b e = absurd (true≢false (sym e))
seen-acting out_of_actions b e = absurd (true≢false (sym e))
seen-acting waiting b e = absurd (true≢false (sym e))
seen-acting local b e = absurd (true≢false (sym e))
seen-acting acting true e = (refl, refl)
seen-acting acting false e = absurd (true≢false (sym e))

-- how a process stands that is there
pub stands-as : {P : Type 0} (test : Standing → Bool) (machine : Machine Name P) (s : System P) (p : ℕ) (x : P) → numbered_from_one p s.processes ≡ Some x →
    stands test machine s p ≡ test (standing machine s.book.limits.steps (can s p) x)
stands-as test machine s p x is =
    ap (λ o. any_pass test (list_of (λ y. y ∷ []) (option_map (standing machine s.book.limits.steps (can s p)) o))) is
    ∙ or-false (test (standing machine s.book.limits.steps (can s p) x))

-- what is not found in a changed list was not there before
set-absent : {X : Type 0} (xs : List X) (i j : ℕ) (y : X) → slice_get (slice_set xs i y) j ≡ None → slice_get xs j ≡ None
set-absent [] i j y e = refl
set-absent (x ∷ xs) zero zero y e = none-not_some (sym e)
set-absent (x ∷ xs) zero (suc j) y e = e
set-absent (x ∷ xs) (suc i) zero y e = e
set-absent (x ∷ xs) (suc i) (suc j) y e = set-absent xs i j y e

pub set-absent_from_one : {X : Type 0} (xs : List X) (p q : ℕ) (y : X) → numbered_from_one q (set_from_one p y xs) ≡ None → numbered_from_one q xs ≡ None
set-absent_from_one xs zero q y e = e
set-absent_from_one xs (suc p) zero y e = refl
set-absent_from_one xs (suc p) (suc q) y e = set-absent xs p q y e

more-absent : {X : Type 0} (xs : List X) (j : ℕ) (y : X) → slice_get (xs ++ y ∷ []) j ≡ None → slice_get xs j ≡ None
more-absent [] j y e = refl
more-absent (x ∷ xs) zero y e = e
more-absent (x ∷ xs) (suc j) y e = more-absent xs j y e

more-absent_from_one : {X : Type 0} (xs : List X) (q : ℕ) (y : X) → numbered_from_one q (xs ++ y ∷ []) ≡ None → numbered_from_one q xs ≡ None
more-absent_from_one xs zero y e = refl
more-absent_from_one xs (suc q) y e = more-absent xs q y e

-- a process that an action has made
pub record IsNew {P : Type 0} (machine : Machine Name P) (maker : P) (a : CellAction Name) (u : System P) (q : ℕ) (z : P) : Type 0 where
  pub module_number : ℕ
  pub made : ℕ × ℕ
  pub does : a ≡ make_process module_number (Some made)
  pub at : numbered_from_one q u.processes ≡ None
  pub is : machine.begin module_number made.0 (inport_of machine made.1 maker) ≡ Some z

new-or-before : {P : Type 0} (machine : Machine Name P) (maker : P) (code : ℕ) (made : ℕ × ℕ) (y : P) (u : System P) (q : ℕ) (z : P) → machine.begin code made.0 (inport_of machine made.1 maker) ≡ Some y →
    ((q ≡ suc (length u.processes)) × (y ≡ z)) ⊎ (numbered_from_one q u.processes ≡ Some z) → (numbered_from_one q u.processes ≡ Some z) ⊎ IsNew machine maker (make_process code (Some made)) u q z
new-or-before machine maker code made y u q z is (inl e) =
    inr (record { module_number = code; made = made; does = refl; at = ap (λ i. numbered_from_one i u.processes) e.0 ∙ get-past u.processes (length u.processes) (omega arith); is = is ∙ ap (λ v. Some v) e.1 })
new-or-before machine maker code made y u q z is (inr e) = inl e

pub made-found : {P : Type 0} (machine : Machine Name P) (maker : P) (a : CellAction Name) (u t : System P) (q : ℕ) (z : P) → with_made machine maker a u ≡ Some t → numbered_from_one q t.processes ≡ Some z →
    (numbered_from_one q u.processes ≡ Some z) ⊎ IsNew machine maker a u q z
made-found machine maker (make_process code (Some made)) u t q z e found =
    let m = map-some _ (machine.begin code made.0 (inport_of machine made.1 maker)) t e in
    new-or-before machine maker code made m.0 u q z m.1 (more-found_from_one u.processes q m.0 z (ap (λ (x : System _). numbered_from_one q x.processes) m.2 ∙ found))
made-found machine maker (make_port (Some n)) u t q z e found = inl (ap (λ (x : System _). numbered_from_one q x.processes) (some-injective e) ∙ found)
made-found machine maker a u t q z e found = inl (ap (λ (x : System _). numbered_from_one q x.processes) (some-injective e) ∙ found)

pub made-absent : {P : Type 0} (machine : Machine Name P) (maker : P) (a : CellAction Name) (u t : System P) (q : ℕ) → with_made machine maker a u ≡ Some t → numbered_from_one q t.processes ≡ None → numbered_from_one q u.processes ≡ None
made-absent machine maker (make_process code (Some made)) u t q e none =
    let m = map-some _ (machine.begin code made.0 (inport_of machine made.1 maker)) t e in
    more-absent_from_one u.processes q m.0 (ap (λ (x : System _). numbered_from_one q x.processes) m.2 ∙ none)
made-absent machine maker (make_port (Some n)) u t q e none = ap (λ (x : System _). numbered_from_one q x.processes) (some-injective e) ∙ none
made-absent machine maker a u t q e none = ap (λ (x : System _). numbered_from_one q x.processes) (some-injective e) ∙ none

one-more : (b : Book) (t : Bool) → (cond t (record b { ports = suc b.ports }) b).limits ≡ b.limits
one-more b true = refl
one-more b false = refl

two-more : (b : Book) (t : Bool) → (cond t (record b { ports = suc b.ports; processes = suc b.processes }) b).limits ≡ b.limits
two-more b true = refl
two-more b false = refl

book-limits : {P : Type 0} (a : CellAction Name) (s : System P) → (set_holding book (after a (a_book s.book)) s).book.limits ≡ s.book.limits
book-limits (make_port made) s = one-more s.book (nat_lt s.book.ports s.book.limits.ports)
book-limits (make_process code made) s = two-more s.book (nat_lt s.book.processes s.book.limits.processes && nat_lt s.book.ports s.book.limits.ports)
book-limits (put number m) s = refl
book-limits (take number m) s = refl
book-limits (close count left) s = refl
book-limits (answer call r) s = refl
book-limits (hear call r) s = refl

pub place-limits : {P : Type 0} (place : Place) (h : PlaceState (Cell Name) (CellReply Name)) (a : CellAction Name) (s : System P) → holding_at place s ≡ Some h → (set_holding place (after a h) s).book.limits ≡ s.book.limits
place-limits (port n) h a s at = ap (λ (b : Book). b.limits) (other-within (port n) (after a h) s refl)
place-limits (reply_cell p) h a s at = ap (λ (b : Book). b.limits) (other-within (reply_cell p) (after a h) s refl)
place-limits book h a s at = subst (λ x. (set_holding book (after a x) s).book.limits ≡ s.book.limits) (some-injective at) (book-limits a s)

pub unmoved-absent : {P : Type 0} (s : System P) (place : Place) (h : PlaceState (Cell Name) (CellReply Name)) (p q : ℕ) (y : P) → numbered_from_one q (set_process p y (set_holding place h s)).processes ≡ None → numbered_from_one q s.processes ≡ None
unmoved-absent s place h p q y none = sym (ap (numbered_from_one q) (processes-stay place h s)) ∙ set-absent_from_one (set_holding place h s).processes p q y none
