-- The birth that a journal gives a process, behind one more entry.
use Rattle.std.proofs.Common.{◌≡◌, ◌≤◌, ℕ, zero, suc, List, [], ◌∷◌, ◌++◌, Bool, true, false, cond, refl, ap, ◌∙◌, arith}
use Rattle.herm_journal.specs.Entries.{Entry}
use Rattle.herm_journal.specs.Stamps.{is_maker_of}
use Rattle.herm_world.specs.Births.{last_maker, birth_of_process}

maker-more : (p : ℕ) (b : ℕ × ℕ) (es : List Entry) (e : Entry) → last_maker p b (es ++ e ∷ []) ≡ cond (is_maker_of p e.action) (e.process, e.stamp) (last_maker p b es)
maker-more p b [] e = refl
maker-more p b (x ∷ es) e = maker-more p (cond (is_maker_of p x.action) (x.process, x.stamp) b) es e

-- one that does not make it leaves its birth
pub birth-stays : (p : ℕ) (es : List Entry) (e : Entry) → is_maker_of p e.action ≡ false → birth_of_process p (es ++ e ∷ []) ≡ birth_of_process p es
birth-stays zero es e other = refl
birth-stays (suc zero) es e other = refl
birth-stays (suc (suc i)) es e other = maker-more (suc (suc i)) (0, 0) es e ∙ ap (λ t. cond t (e.process, e.stamp) (last_maker (suc (suc i)) (0, 0) es)) other

-- one that makes it gives it its birth
pub birth-made : (n : ℕ) (es : List Entry) (e : Entry) → 1 ≤ n → is_maker_of (suc n) e.action ≡ true → birth_of_process (suc n) (es ++ e ∷ []) ≡ (e.process, e.stamp)
birth-made zero es e some maker = absurd (omega (arith, some))
birth-made (suc i) es e some maker = maker-more (suc (suc i)) (0, 0) es e ∙ ap (λ t. cond t (e.process, e.stamp) (last_maker (suc (suc i)) (0, 0) es)) maker
