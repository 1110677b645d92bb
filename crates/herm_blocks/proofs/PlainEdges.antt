-- Whether an edge is plain, by tests one at a time.
use Rattle.std.proofs.Common.{◌≡◌, ℕ, suc, List, [], ◌∷◌, length, false, ◌&&◌, nat_eq, refl, sym, ap, arith}
use Rattle.herm_model.specs.Outcomes.{Outcome, ok, is_true, is_false, turn, done, component, arm, raised, same_outcome}
use Rattle.herm_model.specs.Paths as model
use Rattle.herm_translated.specs.Departures.{Arrival, to_block, to_second_step, to_end, to_end_by}
use Rattle.herm_translated.specs.BlockLabels.{goes_to_first}
use Rattle.herm_translated.specs.CodeBlocks.{is_plain_edge}

cons-long : (n : ℕ) → nat_eq (suc n) 0 ≡ false
cons-long n = grind arith

pub plain_is : (next : ℕ) (o : Outcome) (drops : List model.Path) (slots : List ℕ) (a : Arrival) → is_plain_edge next o drops slots a ≡ (same_outcome o ok && (nat_eq (length drops) 0 && (nat_eq (length slots) 0 && goes_to_first next a)))
plain_is next is_true drops slots a = refl
plain_is next is_false drops slots a = refl
plain_is next turn drops slots a = refl
plain_is next done drops slots a = refl
plain_is next (component c) drops slots a = refl
plain_is next (arm n) drops slots a = refl
plain_is next (raised e) drops slots a = refl
plain_is next ok (p ∷ drops) slots a = ap (λ b. b && (nat_eq (length slots) 0 && goes_to_first next a)) (sym (cons-long (length drops)))
plain_is next ok [] (n ∷ slots) a = ap (λ b. b && goes_to_first next a) (sym (cons-long (length slots)))
plain_is next ok [] [] (to_block n) = refl
plain_is next ok [] [] (to_second_step n) = refl
plain_is next ok [] [] to_end = refl
plain_is next ok [] [] (to_end_by e) = refl
