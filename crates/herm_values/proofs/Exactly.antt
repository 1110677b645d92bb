-- Facts that hold and are closed are all that a value has.
use Rattle.std.proofs.Common.{◌≡◌, ◌↔◌, ℕ, zero, suc, ◌+◌, List, [], ◌∷◌, ◌++◌, Bool, true, false, ◌&&◌, Option, Some, None, is_some, IsTrue, refl, sym, ap, subst, ◌∙◌, arith, append_assoc, append-nil}
use Rattle.herm_model.specs.Lists.{IsIn, any_pass, all_pass}
use Rattle.herm_model.specs.Paths.{Path, Fact, init, case, same_fact}
use Rattle.std.specs.Prelude.{⊤}
use Rattle.herm_model.specs.Values as model
use Rattle.herm_model.specs.Values.{Cell, Parts, no_parts, gap, part, part_at, cell_at, inside, has_value}
use Rattle.herm_model.specs.FactsOfValues.{satisfies, HasExactly}
use Rattle.herm_model.proofs.Lists.{not_true, and-both, both-and, every-in, in-every}
use Rattle.herm_model.proofs.FactTests.{listed-IsIn, IsIn-listed}
use Rattle.herm_values.proofs.Reached.{at-none}
use Rattle.herm_values.specs.Meets.{is_said, parts_pass, is_closed, are_all}

passes-there : (test : ℕ → Bool) (k : ℕ) (ps : Parts ⊤) → IsTrue (parts_pass test k ps) → (i : ℕ) → IsTrue (is_some (part_at i ps)) → IsTrue (test (i + k))
passes-there test k no_parts h i there = not_true there
passes-there test k (gap ps) h zero there = not_true there
passes-there test k (gap ps) h (suc i) there = let e : i + suc k ≡ suc i + k = omega arith in subst (λ n. IsTrue (test n)) e (passes-there test (suc k) ps h i there)
passes-there test k (part c ps) h zero there = let e : k ≡ 0 + k = omega arith in subst (λ n. IsTrue (test n)) e (and-both (test k) (parts_pass test (suc k) ps) h).0
passes-there test k (part c ps) h (suc i) there = let e : i + suc k ≡ suc i + k = omega arith in subst (λ n. IsTrue (test n)) e (passes-there test (suc k) ps (and-both (test k) (parts_pass test (suc k) ps) h).1 i there)

there-passes : (test : ℕ → Bool) (k : ℕ) (ps : Parts ⊤) → ((i : ℕ) → IsTrue (is_some (part_at i ps)) → IsTrue (test (i + k))) → IsTrue (parts_pass test k ps)
there-passes test k no_parts h = refl
there-passes test k (gap ps) h = there-passes test (suc k) ps (λ i there. let e : suc i + k ≡ i + suc k = omega arith in subst (λ n. IsTrue (test n)) e (h (suc i) there))
there-passes test k (part c ps) h = both-and (test k) (parts_pass test (suc k) ps) (let e : 0 + k ≡ k = omega arith in subst (λ n. IsTrue (test n)) e (h 0 refl)) (there-passes test (suc k) ps (λ i there. let e : suc i + k ≡ i + suc k = omega arith in subst (λ n. IsTrue (test n)) e (h (suc i) there)))

further : (j : ℕ) (p : List ℕ) (i : ℕ) (q : List ℕ) (ps : Parts ⊤) → cell_at (j ∷ (p ++ i ∷ q)) ps ≡ cell_at (i ∷ q) (inside (cell_at (j ∷ p) ps))
further j [] i q ps = refl
further j (k ∷ p) i q ps = further k p i q (inside (part_at j ps))

outer-there : (j : ℕ) (q : List ℕ) (o : Option (Cell ⊤)) → IsTrue (is_some (cell_at (j ∷ q) (inside o))) → IsTrue (is_some o)
outer-there j q None h = not_true (subst (λ o. IsTrue (is_some o)) (at-none j q no_parts refl) h)
outer-there j q (Some c) h = refl

first-there : (i : ℕ) (q : List ℕ) (ps : Parts ⊤) → IsTrue (is_some (cell_at (i ∷ q) ps)) → IsTrue (is_some (part_at i ps))
first-there i [] ps h = h
first-there i (j ∷ q) ps h = outer-there j q (part_at i ps) h

same-number : (test : ℕ → Bool) (i : ℕ) → IsTrue (test (i + 0)) → IsTrue (test i)
same-number test i h = let e : i + 0 ≡ i = omega arith in subst (λ n. IsTrue (test n)) e h

number-same : (test : ℕ → Bool) (i : ℕ) → IsTrue (test i) → IsTrue (test (i + 0))
number-same test i h = let e : i ≡ i + 0 = omega arith in subst (λ n. IsTrue (test n)) e h

reached : (facts : List Fact) (ps : Parts ⊤) → ((f : Fact) → IsIn f facts → IsTrue (is_closed ps facts f)) → (p q : List ℕ) → IsIn (init (0 ∷ p)) facts → IsTrue (has_value ps (0 ∷ (p ++ q))) → IsIn (init (0 ∷ (p ++ q))) facts
reached facts ps closed p [] said h = subst (λ r. IsIn (init (0 ∷ r)) facts) (sym (append-nil p)) said
reached facts ps closed p (i ∷ q) said h =
    let there : IsTrue (is_some (part_at i (inside (cell_at (0 ∷ p) ps)))) = first-there i q (inside (cell_at (0 ∷ p) ps)) (subst (λ o. IsTrue (is_some o)) (further 0 p i q ps) h) in
    let next : IsIn (init (0 ∷ (p ++ i ∷ []))) facts = listed-IsIn (init (0 ∷ (p ++ i ∷ []))) facts (same-number (λ n. is_said facts (0 ∷ (p ++ n ∷ []))) i (passes-there (λ n. is_said facts (0 ∷ (p ++ n ∷ []))) 0 (inside (cell_at (0 ∷ p) ps)) (closed (init (0 ∷ p)) said) i there)) in
    subst (λ r. IsIn (init (0 ∷ r)) facts) (append_assoc p (i ∷ []) q) (reached facts ps closed (p ++ i ∷ []) q next (subst (λ r. IsTrue (has_value ps (0 ∷ r))) (sym (append_assoc p (i ∷ []) q)) h))

said-from : (facts : List Fact) (c : model.Value) → IsIn (init (0 ∷ [])) facts → ((f : Fact) → IsIn f facts → IsTrue (is_closed (part c no_parts) facts f)) → (p : Path) → IsTrue (has_value (part c no_parts) p) → IsIn (init p) facts
said-from facts c root closed [] h = not_true h
said-from facts c root closed (zero ∷ p) h = reached facts (part c no_parts) closed [] p root h
said-from facts c root closed (suc i ∷ p) h = not_true (first-there (suc i) p (part c no_parts) h)

pub all-exactly : (c : model.Value) (facts : List Fact) → IsTrue (are_all (part c no_parts) facts) → HasExactly (part c no_parts) (λ f. IsIn f facts)
all-exactly c facts h =
    let test : Fact → Bool = λ f. satisfies (part c no_parts) f && is_closed (part c no_parts) facts f in
    let both = and-both (is_said facts (0 ∷ [])) (all_pass test facts) h in
    let each = λ (f : Fact) (inn : IsIn f facts). and-both (satisfies (part c no_parts) f) (is_closed (part c no_parts) facts f) (every-in test f facts both.1 inn) in
    record {
      values = λ p. (said-from facts c (listed-IsIn (init (0 ∷ [])) facts both.0) (λ f inn. (each f inn).1) p, λ inn. (each (init p) inn).0);
      components = λ p d inn. (each (case p d) inn).0;
    }

closed-from : (c : model.Value) (facts : List Fact) → HasExactly (part c no_parts) (λ f. IsIn f facts) → (f : Fact) → IsIn f facts → IsTrue (satisfies (part c no_parts) f && is_closed (part c no_parts) facts f)
closed-from c facts h (init []) inn = not_true ((h.values []).1 inn)
closed-from c facts h (init (j ∷ p)) inn =
    both-and (satisfies (part c no_parts) (init (j ∷ p))) (is_closed (part c no_parts) facts (init (j ∷ p))) ((h.values (j ∷ p)).1 inn)
    (there-passes (λ i. is_said facts (j ∷ (p ++ i ∷ []))) 0 (inside (cell_at (j ∷ p) (part c no_parts)))
    (λ i there. number-same (λ i. is_said facts (j ∷ (p ++ i ∷ []))) i (IsIn-listed (init (j ∷ (p ++ i ∷ []))) facts ((h.values (j ∷ (p ++ i ∷ []))).0 (subst (λ o. IsTrue (is_some o)) (sym (further j p i [] (part c no_parts))) there)))))
closed-from c facts h (case p d) inn = both-and (satisfies (part c no_parts) (case p d)) true (h.components p d inn) refl

pub exactly-all : (c : model.Value) (facts : List Fact) → HasExactly (part c no_parts) (λ f. IsIn f facts) → IsTrue (are_all (part c no_parts) facts)
exactly-all c facts h =
    let test : Fact → Bool = λ f. satisfies (part c no_parts) f && is_closed (part c no_parts) facts f in
    both-and (is_said facts (0 ∷ [])) (all_pass test facts) (IsIn-listed (init (0 ∷ [])) facts ((h.values (0 ∷ [])).0 refl)) (in-every test facts (closed-from c facts h))

met-exactly : (c : model.Value) (facts : List Fact) (b : Bool) → b ≡ are_all (part c no_parts) facts → IsTrue b ↔ HasExactly (part c no_parts) (λ f. IsIn f facts)
met-exactly c facts b is = (λ h. all-exactly c facts (sym is ∙ h), λ h. is ∙ exactly-all c facts h)

abbrev passes : model.Value → List Fact → Fact → Bool
passes c facts f = satisfies (part c no_parts) f && is_closed (part c no_parts) facts f

-- the variable itself is said, or it is not
pub root-said : (c : model.Value) (facts : List Fact) (root met : Bool) → root ≡ is_said facts (0 ∷ []) → root ≡ true → met ≡ all_pass (passes c facts) facts → IsTrue met ↔ HasExactly (part c no_parts) (λ f. IsIn f facts)
root-said c facts root met is said tested = met-exactly c facts met (tested ∙ ap (λ b. b && all_pass (passes c facts) facts) (sym said ∙ is))

pub root-unsaid : (c : model.Value) (facts : List Fact) (root : Bool) → root ≡ is_said facts (0 ∷ []) → root ≡ false → IsTrue root ↔ HasExactly (part c no_parts) (λ f. IsIn f facts)
root-unsaid c facts root is unsaid = met-exactly c facts root (unsaid ∙ ap (λ b. b && all_pass (passes c facts) facts) (sym unsaid ∙ is))
