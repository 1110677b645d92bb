-- The birth, the diary and the clock of a process that was made.
use Rattle.std.proofs.Common.{◌≡◌, ◌⊎◌, ◌≤◌, ℕ, zero, suc, List, [], ◌∷◌, ◌++◌, length, Bool, true, false, cond, ◌||◌, nat_eq, Some, None, inl, inr, refl, sym, ap, subst, ◌∙◌, arith}
use Rattle.std.proofs.lemmas.Bool.Decides.{nat_tests}
use Rattle.std.specs.Prelude.{slice_get}
use Rattle.herm_model.proofs.Options.{none-not_some}
use Rattle.herm_journal.specs.Entries.{Entry}
use Rattle.herm_journal.specs.Stamps.{clock_of_process, is_maker_of}
use Rattle.herm_system.specs.Systems.{numbered_from_one}
use Rattle.herm_waking.proofs.EntriesGrow.{journals-grow}
use Rattle.herm_process.specs.Processes.{ProcessState}
use Rattle.herm_world.specs.Births.{birth_view}
use Rattle.herm_world.specs.Places.{Places}
use Rattle.herm_world.specs.Worlds.{AreTold, IsToldOf}
use Rattle.herm_world.proofs.BirthsGrow.{birth-made}
use Rattle.herm_world.proofs.ListCases.{push-cases, joined-none}

-- by number from 1 on
pushed-cases : {X : Type 0} (xs : List X) (q : ℕ) (y z : X) → numbered_from_one q (xs ++ y ∷ []) ≡ Some z → (numbered_from_one q xs ≡ Some z) ⊎ ((q ≡ suc (length xs)) × (y ≡ z))
pushed-cases xs zero y z e = none-not_some e
pushed-cases xs (suc i) y z e = elim (push-cases xs i y z e) [ inl h ↦ inl h | inr h ↦ inr (ap suc h.1, h.2) ]

pushed-none : {X : Type 0} (xs : List X) (q : ℕ) (y : X) → numbered_from_one q (xs ++ y ∷ []) ≡ None → numbered_from_one q xs ≡ None
pushed-none xs zero y e = refl
pushed-none xs (suc i) y e = joined-none xs (y ∷ []) i e

past : {X : Type 0} (xs : List X) → slice_get xs (length xs) ≡ None
past [] = refl
past (x ∷ xs) = past xs

within-length : {X : Type 0} (xs : List X) (i : ℕ) (x : X) → slice_get xs i ≡ Some x → nat_eq (length xs) i ≡ false
within-length [] i x e = none-not_some e
within-length (y ∷ xs) zero x e = grind (arith, nat_tests)
within-length (y ∷ xs) (suc i) x e = let h = within-length xs i x e in grind (arith, nat_tests)

-- where one is there, there are some
pub anybody : {X : Type 0} (xs : List X) (p : ℕ) (x : X) → numbered_from_one p xs ≡ Some x → 1 ≤ length xs
anybody [] zero x e = none-not_some e
anybody [] (suc i) x e = none-not_some e
anybody (y ∷ xs) p x e = omega arith

-- who is there is not the next one
pub not-next : {X : Type 0} (xs : List X) (q : ℕ) (x : X) → numbered_from_one q xs ≡ Some x → nat_eq (suc (length xs)) q ≡ false
not-next xs zero x e = none-not_some e
not-next xs (suc i) x e = let h = within-length xs i x e in grind (arith, nat_tests)

pub pushed-told : (journal : List Entry) (limit : ℕ) (ps : List ProcessState) (s : Places) (begun : ProcessState) → AreTold journal limit ps s → IsToldOf journal limit (suc (length ps)) begun → AreTold journal limit (ps ++ begun ∷ []) s
pushed-told journal limit ps s begun told own = record {
  processes = λ q x found. elim (pushed-cases ps q begun x found) [ inl h ↦ told.processes q x h | inr h ↦ subst (IsToldOf journal limit q) h.1 (subst (λ q. IsToldOf journal limit q begun) (sym h.0) own) ];
  fresh = λ q nobody. told.fresh q (pushed-none ps q begun nobody);
  cells = told.cells;
}

-- it has the birth of the entry that made it, an empty diary, and its clock at the stamp of that entry
pub begun-told : (journal : List Entry) (limit : ℕ) (ps : List ProcessState) (s : Places) (begun : ProcessState) (e : Entry) → AreTold (journal ++ e ∷ []) limit ps s → is_maker_of (suc (length ps)) e.action ≡ true
    → begun.number ≡ suc (length ps) → begun.limit ≡ limit → 1 ≤ length ps → birth_view begun.birth ≡ (e.process, e.stamp) → begun.diary ≡ [] → begun.clock ≡ e.stamp → begun.ordered ≡ None → IsToldOf (journal ++ e ∷ []) limit (suc (length ps)) begun
begun-told journal limit ps s begun e told maker number its_limit some born diary clock free = record {
  number = number;
  limit_is = its_limit;
  born = born ∙ sym (birth-made (length ps) journal e some maker);
  diary = diary ∙ sym (told.fresh (suc (length ps)) (past ps));
  clock =
      clock
      ∙ sym ((journals-grow journal e).process_clocks (suc (length ps)) ∙ ap (λ m. cond (nat_eq e.process (suc (length ps)) || m) e.stamp (clock_of_process (suc (length ps)) journal)) maker ∙ by (nat_eq e.process (suc (length ps))));
  free = free;
}
  where
    by : (t : Bool) → cond (t || true) e.stamp (clock_of_process (suc (length ps)) journal) ≡ e.stamp
    by true = refl
    by false = refl
