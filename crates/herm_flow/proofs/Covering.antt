-- Which exceptions cover others, while more are found.
use Rattle.std.proofs.Common.{◌≡◌, ℕ, ◌+◌, ◌<◌, ◌≤◌, nat_lt, List, [], ◌∷◌, ◌++◌, Bool, true, false, Option, Some, inl, inr, ◌⊎◌, IsTrue, refl, sym, ap, subst, ◌∙◌, true≢false, arith, ltb-true, ltb-false}
use Rattle.herm_model.specs.Lists.{IsIn, any_pass}
use Rattle.herm_model.specs.laws.FlowLaws.{Rise}
use Rattle.herm_model.proofs.Lists.{in-append_cases, in-append_left, in-append_right, or-either, or-left, or-right, not_true}
use Rattle.herm_flow.specs.declared.calls.Head.{Head}
use Rattle.herm_flow.specs.Touched.{IsOneAtMost}
use Rattle.herm_flow.specs.CoveredExceptions.{AreCovering, AreHeads, AreFor, IsWithin, IsAdded}

-- ---- tests of lists

pub any-in : {X : Type 0} (test : X → Bool) (xs : List X) (x : X) → IsIn x xs → test x ≡ true → any_pass test xs ≡ true
any-in test [] x m h = absurd m
any-in test (y ∷ xs) x (inl i) h = or-left (test y) _ (ap test (sym i) ∙ h)
any-in test (y ∷ xs) x (inr m) h = or-right (test y) _ (any-in test xs x m h)

pub any-from : {X : Type 0} (test : X → Bool) (xs : List X) → any_pass test xs ≡ true → (x : X) × IsIn x xs × (test x ≡ true)
any-from test [] h = not_true h
any-from {X} test (y ∷ xs) h = by (any-from test xs) (or-either (test y) _ h)
  where
    by : (any_pass test xs ≡ true → (x : X) × IsIn x xs × (test x ≡ true)) → IsTrue (test y) ⊎ IsTrue (any_pass test xs) → (x : X) × IsIn x (y ∷ xs) × (test x ≡ true)
    by again (inl i) = (y, inl refl, i)
    by again (inr r) = let k = again r in (k.0, inr k.1, k.2)

pub not-both : {A : Type 0} (b : Bool) → b ≡ true → b ≡ false → A
not-both b h k = absurd (true≢false (sym h ∙ k))

-- what none of more passes none of fewer passes
pub none-fewer : (test : ℕ → Bool) (xs ys : List ℕ) → ((k : ℕ) → IsIn k xs → IsIn k ys) → any_pass test ys ≡ false → any_pass test xs ≡ false
none-fewer test xs ys within none = by (any_pass test xs) refl
  where
    by : (b : Bool) → any_pass test xs ≡ b → b ≡ false
    by false h = refl
    by true h = let k = any-from test xs h in not-both (any_pass test ys) (any-in test ys k.0 (within k.0 k.1) k.2) none

-- ---- covering

module _ (lead : ℕ → Option ℕ) (kept : ℕ → List ℕ) (single : Bool) where
  pub covering-more : (ns ms : List ℕ) (p : Option ℕ) (ks : List ℕ) → ((m : ℕ) → IsIn m ns → IsIn m ms) → AreCovering lead kept single ns p ks → AreCovering lead kept single ms p ks
  covering-more ns ms p ks within c = λ among one none. let d = c among one none in (d.0, within d.0 d.1, d.2, d.3)

  pub covering-less : (ns : List ℕ) (p : Option ℕ) (ks keeps : List ℕ) → ((k : ℕ) → IsIn k ks → IsIn k keeps) → AreCovering lead kept single ns p ks → AreCovering lead kept single ns p keeps
  covering-less ns p ks keeps within c = λ among one none. c among one (none-fewer among ks keeps within none)

  pub covering-own : (ns : List ℕ) (e : ℕ) (ks : List ℕ) → IsIn e ns → ((k : ℕ) → IsIn k (kept e) → IsIn k ks) → AreCovering lead kept single ns (lead e) ks
  covering-own ns e ks m within = λ among one none. (e, m, refl, none-fewer among (kept e) ks within none)

  pub covering-common : (ns : List ℕ) (p : Option ℕ) (g keeps ks : List ℕ) → single ≡ true → AreCovering lead kept single ns p g → AreCovering lead kept single ns p keeps → ((k : ℕ) → IsIn k g → IsIn k keeps → IsIn k ks) → AreCovering lead kept single ns p ks
  covering-common ns p g keeps ks is a b within = λ among one none. by among one none (any_pass among g) (any_pass among keeps) refl refl
    where
      by : (among : ℕ → Bool) → (single ≡ true → IsOneAtMost among) → any_pass among ks ≡ false → (s t : Bool) → any_pass among g ≡ s → any_pass among keeps ≡ t → (d : ℕ) × IsIn d ns × (lead d ≡ p) × (any_pass among (kept d) ≡ false)
      by among one none false t h k = a among one h
      by among one none true false h k = b among one k
      by among one none true true h k =
          let i = any-from among g h in
          let j = any-from among keeps k in
          let same = one is i.0 j.0 i.2 j.2 in
          not-both (any_pass among ks) (any-in among ks i.0 (within i.0 i.1 (subst (λ n. IsIn n keeps) (sym same) j.1)) i.2) none

  pub heads-more : (ns ms : List ℕ) (heads : List Head) → ((m : ℕ) → IsIn m ns → IsIn m ms) → AreHeads lead kept single ns heads → AreHeads lead kept single ms heads
  heads-more ns ms heads within are = λ h m. covering-more ns ms (Some h.point) h.touched.items within (are h m)

  -- ---- an exception more

  module _ (e : ℕ) (old new : List ℕ) (heads more : List Head) where
    behind : new ≡ old ++ e ∷ [] → (m : ℕ) → IsIn m old → IsIn m new
    behind is m h = subst (IsIn m) (sym is) (in-append_left m old (e ∷ []) h)

    last : new ≡ old ++ e ∷ [] → IsIn e new
    last is = subst (IsIn e) (sym is) (in-append_right e old (e ∷ []) (inl refl))

    pub added_not : (has : Bool) → has ≡ false → new ≡ old → more ≡ heads → IsAdded lead kept single has e old new heads more
    added_not has h is same = record {
      numbers = inl is;
      heads_are = λ are. subst (AreHeads lead kept single new) (sym same) (subst (λ ns. AreHeads lead kept single ns heads) (sym is) are);
      covered = λ are k. not-both has k h;
    }

    pub added_has : (has : Bool) → has ≡ true → IsAdded lead kept single true e old new heads more → IsAdded lead kept single has e old new heads more
    added_has has h a = subst (λ b. IsAdded lead kept single b e old new heads more) (sym h) a

    pub added_alone : (has : Bool) → has ≡ true → new ≡ old ++ e ∷ [] → more ≡ heads → IsAdded lead kept single has e old new heads more
    added_alone has h is same = record {
      numbers = inr (h, is);
      heads_are = λ are. subst (AreHeads lead kept single new) (sym same) (heads-more old new heads (behind is) are);
      covered = λ are k. covering-own new e (kept e) (last is) (λ n m. m);
    }

    pub added_covered : (has : Bool) (point : ℕ) (keeps : List ℕ) → lead e ≡ Some point → ((n : ℕ) → IsIn n keeps → IsIn n (kept e)) → IsWithin heads point keeps → new ≡ old → more ≡ heads → IsAdded lead kept single has e old new heads more
    added_covered has point keeps l k within is same = record {
      numbers = inl is;
      heads_are = λ are. subst (AreHeads lead kept single new) (sym same) (subst (λ ns. AreHeads lead kept single ns heads) (sym is) are);
      covered = λ are has.
          covering-less new (lead e) keeps (kept e) k
          (subst (λ ns. AreCovering lead kept single ns (lead e) keeps) (sym is)
          (covering-less old (lead e) within.0.touched.items keeps within.3
          (subst (λ p. AreCovering lead kept single old p within.0.touched.items) (ap Some within.2 ∙ sym l) (are within.0 within.1))));
    }

    pub added_noted : (has : Bool) (point : ℕ) (keeps ks : List ℕ) → has ≡ true → lead e ≡ Some point → ((n : ℕ) → IsIn n (kept e) → IsIn n keeps) → AreFor single heads point keeps ks
        → ((h : Head) → IsIn h more → IsIn h heads ⊎ ((h.point ≡ point) × (h.touched.items ≡ ks))) → new ≡ old ++ e ∷ [] → IsAdded lead kept single has e old new heads more
    added_noted has point keeps ks h l k for noted is = record {
      numbers = inr (h, is);
      heads_are = λ are g m. by are g (noted g m);
      covered = λ are has. covering-own new e (kept e) (last is) (λ n m. m);
    }
      where
        own : AreCovering lead kept single new (lead e) keeps
        own = covering-own new e keeps (last is) k

        narrow : AreHeads lead kept single old heads → AreFor single heads point keeps ks → AreCovering lead kept single new (lead e) ks
        narrow are (inl within) = covering-less new (lead e) keeps ks within own
        narrow are (inr (s, (g, m, at, within))) =
            covering-common new (lead e) g.touched.items keeps ks s
            (covering-more old new (lead e) g.touched.items (behind is) (subst (λ p. AreCovering lead kept single old p g.touched.items) (ap Some at ∙ sym l) (are g m)))
            own within

        by : AreHeads lead kept single old heads → (g : Head) → IsIn g heads ⊎ ((g.point ≡ point) × (g.touched.items ≡ ks)) → AreCovering lead kept single new (Some g.point) g.touched.items
        by are g (inl m) = covering-more old new (Some g.point) g.touched.items (behind is) (are g m)
        by are g (inr both) =
            subst (λ p. AreCovering lead kept single new p g.touched.items) (l ∙ ap Some (sym both.0))
            (subst (AreCovering lead kept single new (lead e)) (sym both.1) (narrow are for))

-- ---- parameters noted

-- parameters for a point beside one that was found
pub for-among : (single : Bool) (heads : List Head) (h : Head) (point : ℕ) (keeps ks : List ℕ) → IsIn h heads → h.point ≡ point → AreFor single (h ∷ []) h.point keeps ks → AreFor single heads point keeps ks
for-among single heads h point keeps ks m e (inl within) = inl within
for-among single heads h point keeps ks m e (inr both) =
    inr (both.0, (both.1.0, subst (λ g. IsIn g heads) (sym (same both.1.1)) m, both.1.2 ∙ e, both.1.3))
  where
    same : {g : Head} → IsIn g (h ∷ []) → g ≡ h
    same (inl i) = i
    same (inr n) = absurd n

-- ---- all exceptions below a number

-- a number behind rising ones
pub rise-more : (ns : List ℕ) (e : ℕ) → Rise ns → ((m : ℕ) → IsIn m ns → m < e) → Rise (ns ++ e ∷ [])
rise-more [] e r below = ((λ m h. absurd h), tt)
rise-more (n ∷ ns) e r below = ((λ m h. over m (in-append_cases m ns (e ∷ []) h)), rise-more ns e r.1 (λ m h. below m (inr h)))
  where
    over : (m : ℕ) → IsIn m ns ⊎ IsIn m (e ∷ []) → n < m
    over m (inl h) = r.0 m h
    over m (inr (inl i)) = let less = below n (inl refl) in omega (arith, less, i)
    over m (inr (inr h)) = absurd h

-- The exceptions that were found cover each one below a number that the table has.
pub record IsFoundTo (lead : ℕ → Option ℕ) (kept : ℕ → List ℕ) (single : Bool) (has : ℕ → Bool) (e : ℕ) (ns : List ℕ) (heads : List Head) : Type 0 where
  pub rise : Rise ns
  pub there : (m : ℕ) → IsIn m ns → (m < e) × (has m ≡ true)
  pub heads_are : AreHeads lead kept single ns heads
  pub covered : (m : ℕ) → m < e → has m ≡ true → AreCovering lead kept single ns (lead m) (kept m)

module _ (lead : ℕ → Option ℕ) (kept : ℕ → List ℕ) (single : Bool) (has : ℕ → Bool) where
  pub found-none : (ns : List ℕ) (heads : List Head) → ns ≡ [] → heads ≡ [] → IsFoundTo lead kept single has 0 ns heads
  found-none ns heads e f = subst (λ xs. IsFoundTo lead kept single has 0 xs heads) (sym e) (subst (IsFoundTo lead kept single has 0 []) (sym f) (record {
    rise = tt;
    there = λ m i. absurd i;
    heads_are = λ h i. absurd i;
    covered = λ m l h. absurd (omega (arith, l));
  }))

  pub found-next : (e next : ℕ) (old new : List ℕ) (heads more : List Head) → next ≡ e + 1 → IsFoundTo lead kept single has e old heads → IsAdded lead kept single (has e) e old new heads more → IsFoundTo lead kept single has next new more
  found-next e next old new heads more up f a = record {
    rise = rises a.numbers;
    there = λ m i. there m a.numbers i;
    heads_are = a.heads_are f.heads_are;
    covered = λ m l h. covered m l h (nat_lt m e) refl;
  }
    where
      Numbers : Type 0
      Numbers = (new ≡ old) ⊎ ((has e ≡ true) × (new ≡ old ++ e ∷ []))

      rises : Numbers → Rise new
      rises (inl is) = subst Rise (sym is) f.rise
      rises (inr both) = subst Rise (sym both.1) (rise-more old e f.rise (λ m i. (f.there m i).0))

      up-to : (m : ℕ) → (m < e) × (has m ≡ true) → (m < next) × (has m ≡ true)
      up-to m t = let l = t.0 in (omega (arith, l, up), t.1)

      last-or : (m : ℕ) → has e ≡ true → IsIn m old ⊎ IsIn m (e ∷ []) → (m < next) × (has m ≡ true)
      last-or m h (inl i) = up-to m (f.there m i)
      last-or m h (inr (inl i)) = (omega (arith, i, up), ap has i ∙ h)
      last-or m h (inr (inr i)) = absurd i

      there : (m : ℕ) → Numbers → IsIn m new → (m < next) × (has m ≡ true)
      there m (inl is) i = up-to m (f.there m (subst (IsIn m) is i))
      there m (inr both) i = last-or m both.0 (in-append_cases m old (e ∷ []) (subst (IsIn m) both.1 i))

      still : Numbers → (m : ℕ) → IsIn m old → IsIn m new
      still (inl is) m i = subst (IsIn m) (sym is) i
      still (inr both) m i = subst (IsIn m) (sym both.1) (in-append_left m old (e ∷ []) i)

      covered : (m : ℕ) → m < next → has m ≡ true → (b : Bool) → nat_lt m e ≡ b → AreCovering lead kept single new (lead m) (kept m)
      covered m l h true less = covering-more lead kept single old new (lead m) (kept m) (still a.numbers) (f.covered m (ltb-true m e less) h)
      covered m l h false less =
          let over : e ≤ m = ltb-false m e less in
          let same : e ≡ m = omega (arith, over, l, up) in
          subst (λ n. AreCovering lead kept single new (lead n) (kept n)) same (a.covered f.heads_are (ap has same ∙ h))
