-- What is in reply cells behind an action, and how many replies to a call.
use Rattle.std.proofs.Common.{◌≡◌, ◌⊎◌, inl, inr, ℕ, zero, suc, ◌+◌, List, [], ◌∷◌, ◌++◌, length, Bool, true, false, cond, Option, Some, None, slice_get, slice_set, refl, sym, ap, subst, ◌∙◌, arith}
use Rattle.std.proofs.lemmas.Bool.{eqb-true, eqb-false}
use Rattle.std.specs.Prelude.{nat_eq, ◌&&◌, filter}
use Rattle.herm_model.specs.Lists.{IsIn, list_of}
use Rattle.herm_model.specs.Values.{Name}
use Rattle.herm_model.proofs.Lists.{in-append_cases}
use Rattle.herm_model.proofs.Options.{none-not_some}
use Rattle.herm_journal.specs.Actions.{answer, hear, to_answer}
use Rattle.herm_journal.specs.PlaceStates.{Replies, after}
use Rattle.herm_journal.specs.Entries.{Place}
use Rattle.herm_journal.specs.Messages.{CellReply, CellWant, CellAction}
use Rattle.herm_system.specs.Kinds.{is_callmessage_of}
use Rattle.herm_system.specs.Sound.{one_if}
use Rattle.herm_system.specs.Summary.{how_many}
use Rattle.herm_system.specs.Systems.{System, numbered_from_one, set_from_one, holding_at, set_holding}
use Rattle.herm_runs.specs.Counting.{kinds_ended}
use Rattle.herm_runs.proofs.Numbered.{set-found_from_one, more-found_from_one}
use Rattle.herm_sound.proofs.Acted.{Holding, IsAct, port_made, port_refused, process_made, process_refused, placed, came_back, taken, closed, answered, heard}
use Rattle.herm_sound.proofs.Counted.{many-append}
use Rattle.herm_sound.proofs.Places.{Cells, cell-there, IsAnswered}

-- what is found in a list with one element set: at its place, and at the others
pub set-own : {X : Type 0} (xs : List X) (i : ℕ) (x y : X) → slice_get xs i ≡ Some x → slice_get (slice_set xs i y) i ≡ Some y
set-own [] i x y e = none-not_some e
set-own (z ∷ xs) zero x y e = refl
set-own (z ∷ xs) (suc i) x y e = set-own xs i x y e

pub own-from_one : {X : Type 0} (xs : List X) (p : ℕ) (x y : X) → numbered_from_one p xs ≡ Some x → numbered_from_one p (set_from_one p y xs) ≡ Some y
own-from_one xs zero x y e = none-not_some e
own-from_one xs (suc i) x y e = set-own xs i x y e

set-other : {X : Type 0} (xs : List X) (i j : ℕ) (y : X) → (i ≡ j → ⊥) → slice_get (slice_set xs i y) j ≡ slice_get xs j
set-other [] i j y apart = refl
set-other (z ∷ xs) zero zero y apart = absurd (apart refl)
set-other (z ∷ xs) zero (suc j) y apart = refl
set-other (z ∷ xs) (suc i) zero y apart = refl
set-other (z ∷ xs) (suc i) (suc j) y apart = set-other xs i j y (λ e. apart (ap suc e))

pub other-from_one : {X : Type 0} (xs : List X) (p q : ℕ) (y : X) → (p ≡ q → ⊥) → numbered_from_one q (set_from_one p y xs) ≡ numbered_from_one q xs
other-from_one xs zero q y apart = refl
other-from_one xs (suc i) zero y apart = refl
other-from_one xs (suc i) (suc j) y apart = set-other xs i j y (λ e. apart (ap suc e))

-- the replies in the cell of a process
abbrev pub in_cell : Cells → ℕ → Replies (CellReply Name)
in_cell cells q = list_of (λ rs. rs) (numbered_from_one q cells)

in-option : {X : Type 0} (x : X) (o : Option (List X)) → IsIn x (list_of (λ xs. xs) o) → (xs : List X) × (o ≡ Some xs) × IsIn x xs
in-option x None h = absurd h
in-option x (Some xs) h = (xs, refl, h)

-- each reply that is there behind was there before, or is as said
abbrev pub RepliedFrom : (ℕ → ℕ × CellReply Name → Type 0) → Cells → Cells → Type 0
RepliedFrom X before behind = (q : ℕ) (r : ℕ × CellReply Name) → IsIn r (in_cell behind q) → IsIn r (in_cell before q) ⊎ X q r

pub same-replied : (X : ℕ → ℕ × CellReply Name → Type 0) (cells : Cells) → RepliedFrom X cells cells
same-replied X cells q r member = inl member

pub more-replied : (X : ℕ → ℕ × CellReply Name → Type 0) (before behind : Cells) → RepliedFrom X before behind → RepliedFrom X before (behind ++ [] ∷ [])
more-replied X before behind from q r member =
    let o = in-option r (numbered_from_one q (behind ++ [] ∷ [])) member in
    by o.0 o.2 (more-found_from_one behind q [] o.0 o.1)
  where
    by : (rs : Replies (CellReply Name)) → IsIn r rs → ((q ≡ suc (length behind)) × ([] ≡ rs)) ⊎ (numbered_from_one q behind ≡ Some rs) → IsIn r (in_cell before q) ⊎ X q r
    by rs h (inl e) = absurd (subst (IsIn r) (sym e.1) h)
    by rs h (inr e) = from q r (subst (IsIn r) (sym (ap (list_of (λ rs. rs)) e)) h)

set-replied : (X : ℕ → ℕ × CellReply Name → Type 0) (cells : Cells) (i : ℕ) (old new : Replies (CellReply Name)) → numbered_from_one i cells ≡ Some old → ((r : ℕ × CellReply Name) → IsIn r new → IsIn r old ⊎ X i r)
    → RepliedFrom X cells (set_from_one i new cells)
set-replied X cells i old new was from q r member =
    let o = in-option r (numbered_from_one q (set_from_one i new cells)) member in
    by o.0 o.2 (set-found_from_one cells i q new o.0 o.1)
  where
    first : i ≡ q → IsIn r old ⊎ X i r → IsIn r (in_cell cells q) ⊎ X q r
    first e (inl h) = inl (subst (λ j. IsIn r (in_cell cells j)) e (subst (IsIn r) (sym (ap (list_of (λ rs. rs)) was)) h))
    first e (inr h) = inr (subst (λ j. X j r) e h)

    by : (rs : Replies (CellReply Name)) → IsIn r rs → ((i ≡ q) × (new ≡ rs)) ⊎ (numbered_from_one q cells ≡ Some rs) → IsIn r (in_cell cells q) ⊎ X q r
    by rs h (inl e) = first e.0 (from r (subst (IsIn r) (sym e.1) h))
    by rs h (inr e) = inl (subst (IsIn r) (sym (ap (list_of (λ rs. rs)) e)) h)

-- replies to a call
abbrev pub to_call : ℕ → ℕ × CellReply Name → Bool
to_call k r = nat_eq r.0 k

abbrev pub replied : Cells → ℕ → ℕ → ℕ
replied cells q k = how_many (to_call k) (in_cell cells q)

pub more-count : (cells : Cells) (q k : ℕ) → replied (cells ++ [] ∷ []) q k ≡ replied cells q k
more-count cells zero k = refl
more-count cells (suc i) k = at cells i
  where
    at : (cells : Cells) (i : ℕ) → how_many (to_call k) (list_of (λ rs. rs) (slice_get (cells ++ [] ∷ []) i)) ≡ how_many (to_call k) (list_of (λ rs. rs) (slice_get cells i))
    at [] zero = refl
    at [] (suc i) = refl
    at (rs ∷ cells) zero = refl
    at (rs ∷ cells) (suc i) = at cells i

set-count : (cells : Cells) (i q k : ℕ) (old new : Replies (CellReply Name)) → numbered_from_one i cells ≡ Some old
    → replied (set_from_one i new cells) q k + cond (nat_eq i q) (how_many (to_call k) old) 0 ≡ replied cells q k + cond (nat_eq i q) (how_many (to_call k) new) 0
set-count cells i q k old new was = by (nat_eq i q) refl
  where
    by : (b : Bool) → nat_eq i q ≡ b → replied (set_from_one i new cells) q k + cond b (how_many (to_call k) old) 0 ≡ replied cells q k + cond b (how_many (to_call k) new) 0
    by true e =
        let own = own-from_one cells i old new was in
        let behind : replied (set_from_one i new cells) i k ≡ how_many (to_call k) new = ap (λ o. how_many (to_call k) (list_of (λ rs. rs) o)) own in
        let before : replied cells i k ≡ how_many (to_call k) old = ap (λ o. how_many (to_call k) (list_of (λ rs. rs) o)) was in
        subst (λ q. replied (set_from_one i new cells) q k + how_many (to_call k) old ≡ replied cells q k + how_many (to_call k) new) (eqb-true i q e) (omega (arith, behind, before))
    by false e = ap (λ o. how_many (to_call k) (list_of (λ rs. rs) o) + 0) (other-from_one cells i q new (eqb-false i q e))

-- the reply that an action hears, among those of a call of a process
abbrev pub heard_of : ℕ → CellAction Name → ℕ → ℕ → ℕ
heard_of p (hear i r) q k = one_if (nat_eq p q && nat_eq i k)
heard_of p a q k = 0

both-tests : (b : Bool) (c : Bool) (n : ℕ) → cond b (n + one_if c) 0 ≡ cond b n 0 + one_if (b && c)
both-tests true c n = refl
both-tests false c n = refl

one-length : {X : Type 0} (b : Bool) (x : X) → length (cond b (x ∷ []) []) ≡ one_if b
one-length true x = refl
one-length false x = refl

module _ {P : Type 0} (s : System P) (p : ℕ) where
  pub act-replied : (w : CellWant Name) (place : Place) (h : Holding) (a : CellAction Name) → IsAct p w place h a → holding_at place s ≡ Some h
      → RepliedFrom (IsAnswered w a) s.replies (set_holding place (after a h) s).replies
  act-replied w place h a (answered caller call r rs) at = set-replied (IsAnswered w a) s.replies caller rs (rs ++ (call, r) ∷ []) (cell-there s caller rs at) (λ x member. by x (in-append_cases x rs ((call, r) ∷ []) member))
    where
      by : (x : ℕ × CellReply Name) → IsIn x rs ⊎ IsIn x ((call, r) ∷ []) → IsIn x rs ⊎ IsAnswered w a caller x
      by x (inl h) = inl h
      by x (inr (inl e)) = inr (ap (λ (x : ℕ × CellReply Name). to_answer caller x.0 x.1) (sym e), ap (λ (x : ℕ × CellReply Name). answer x.0 x.1) (sym e))
      by x (inr (inr h)) = absurd h
  act-replied w place h a (heard k r rs) at = set-replied (IsAnswered w a) s.replies p ((k, r) ∷ rs) rs (cell-there s p ((k, r) ∷ rs) at) (λ x member. inl (inr member))
  act-replied w place h a (port_made b n e) at = same-replied (IsAnswered w a) s.replies
  act-replied w place h a (port_refused b e) at = same-replied (IsAnswered w a) s.replies
  act-replied w place h a (process_made code b made e) at = same-replied (IsAnswered w a) s.replies
  act-replied w place h a (process_refused code b e) at = same-replied (IsAnswered w a) s.replies
  act-replied w place h a (placed n m q k) at = same-replied (IsAnswered w a) s.replies
  act-replied w place h a (came_back n m q k) at = same-replied (IsAnswered w a) s.replies
  act-replied w place h a (taken ports n among b i m q k) at = same-replied (IsAnswered w a) s.replies
  act-replied w place h a (closed n b q k) at = same-replied (IsAnswered w a) s.replies

  -- replies behind, with the one that is heard, are those before, with the one that answers
  abbrev RepliesMove : CellWant Name → Place → Holding → CellAction Name → (q k : ℕ) → Type 0
  RepliesMove w place h a q k = replied (set_holding place (after a h) s).replies q k + heard_of p a q k ≡ replied s.replies q k + how_many (is_callmessage_of q k) (kinds_ended w)

  pub act-replies : (w : CellWant Name) (place : Place) (h : Holding) (a : CellAction Name) → IsAct p w place h a → holding_at place s ≡ Some h → (q k : ℕ) → RepliesMove w place h a q k
  act-replies w place h a (answered caller call r rs) at q k =
      let set = set-count s.replies caller q k rs (rs ++ (call, r) ∷ []) (cell-there s caller rs at) in
      let last : how_many (to_call k) ((call, r) ∷ []) ≡ one_if (nat_eq call k) = one-length (nat_eq call k) (call, r) in
      let all : how_many (to_call k) (rs ++ (call, r) ∷ []) ≡ how_many (to_call k) rs + one_if (nat_eq call k) = omega (arith, many-append (to_call k) rs ((call, r) ∷ []), last) in
      let tests : cond (nat_eq caller q) (how_many (to_call k) (rs ++ (call, r) ∷ [])) 0 ≡ cond (nat_eq caller q) (how_many (to_call k) rs) 0 + one_if (nat_eq caller q && nat_eq call k) =
      ap (λ n. cond {A = ℕ} (nat_eq caller q) n 0) all ∙ both-tests (nat_eq caller q) (nat_eq call k) (how_many (to_call k) rs) in
      let ends : how_many (is_callmessage_of q k) (kinds_ended w) ≡ one_if (nat_eq caller q && nat_eq call k) = one-length (nat_eq caller q && nat_eq call k) _ in
      omega (arith, set, tests, ends)
  act-replies w place h a (heard i r rs) at q k =
      let set = set-count s.replies p q k ((i, r) ∷ rs) rs (cell-there s p ((i, r) ∷ rs) at) in
      let first : how_many (to_call k) ((i, r) ∷ rs) ≡ how_many (to_call k) rs + one_if (nat_eq i k) = by (nat_eq i k) in
      let tests : cond (nat_eq p q) (how_many (to_call k) ((i, r) ∷ rs)) 0 ≡ cond (nat_eq p q) (how_many (to_call k) rs) 0 + one_if (nat_eq p q && nat_eq i k) =
      ap (λ n. cond {A = ℕ} (nat_eq p q) n 0) first ∙ both-tests (nat_eq p q) (nat_eq i k) (how_many (to_call k) rs) in
      omega (arith, set, tests)
    where
      by : (b : Bool) → length (cond b ((i, r) ∷ filter (to_call k) rs) (filter (to_call k) rs)) ≡ how_many (to_call k) rs + one_if b
      by true = omega arith
      by false = omega arith
  act-replies w place h a (port_made b n e) at q k = refl
  act-replies w place h a (port_refused b e) at q k = refl
  act-replies w place h a (process_made code b made e) at q k = refl
  act-replies w place h a (process_refused code b e) at q k = refl
  act-replies w place h a (placed n m qs i) at q k = refl
  act-replies w place h a (came_back n m qs i) at q k = refl
  act-replies w place h a (taken ports n among b i m qs j) at q k = refl
  act-replies w place h a (closed n b qs i) at q k = refl
