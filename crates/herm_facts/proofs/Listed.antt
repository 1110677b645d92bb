-- A list of facts beside the trees that give their numbers.
use Rattle.std.proofs.Common.{◌≡◌, ◌⊎◌, inl, inr, ℕ, zero, suc, List, [], ◌∷◌, ◌++◌, length, map, Bool, true, false, not, cond, ◌&&◌, ◌||◌, nat_eq, Option, Some, None, slice_get, refl, sym, ◌∙◌, ap, subst}
use Rattle.std.specs.Prelude.{⊤}
use Rattle.std.proofs.lemmas.Bool.{eq-eqb, eqb-true, false≢true}
use Rattle.herm_model.specs.Lists.{IsIn, any_pass}
use Rattle.herm_model.specs.Statements.{Differ}
use Rattle.herm_model.specs.Paths.{Path, Fact, init, case, path_of, same_path, same_fact, is_at_or_below}
use Rattle.herm_model.proofs.Equality.{same_numbers-is, same_numbers_self, same_fact-is}
use Rattle.herm_model.proofs.Lists.{in-append_left, in-append_right, in-append_cases, in-map, in-map_from, joined-Differ}
use Rattle.herm_model.proofs.Options.{some-injective, none-not_some}
use Rattle.herm_typestate.proofs.FactSets.{same_turned}
use Rattle.herm_facts.specs.declared.numbered.Known.{Known}
use Rattle.herm_facts.specs.declared.numbered.Numbered.{Numbered}
use Rattle.herm_facts.specs.declared.fact_numbers.FactNumbers.{FactNumbers}
use Rattle.herm_facts.specs.FactNumbers.{AreFacts, AreApart}
use Rattle.herm_facts.specs.Numbers.{Numbers, component_of, number_among, number_by, here_list, all_numbers, numbers_at, with_number, given, number_in, stand_once, AreTreesOf, Appends}
use Rattle.herm_facts.proofs.Among.{among-behind, among-other, among-in}
use Rattle.herm_facts.proofs.Walk.{Below, TreesOnce, appends_same}

-- ---- one number more

with_same : (ns : Numbers) (m : Option ℕ) (n : ℕ) → number_by ns m ≡ None → number_by (with_number m n ns) m ≡ Some n
with_same ns None n e = refl
with_same ns (Some c) n e = among-behind c ns.known (record { component = c; number = n } ∷ []) e ∙ ap (λ b. cond b (Some n) None) (eq-eqb c c refl)

-- the test of lists without a number that stands twice
pub any-in : (n : ℕ) (ns : List ℕ) → any_pass (nat_eq n) ns ≡ true → IsIn n ns
any-in n [] e = absurd (false≢true e)
any-in n (m ∷ ns) e = by (nat_eq n m) refl e (any-in n ns)
  where
    by : (b : Bool) → nat_eq n m ≡ b → (b || any_pass (nat_eq n) ns) ≡ true → (any_pass (nat_eq n) ns ≡ true → IsIn n ns) → (n ≡ m) ⊎ IsIn n ns
    by true f e again = inl (eqb-true n m f)
    by false f e again = inr (again e)

pub in-any : (n : ℕ) (ns : List ℕ) → IsIn n ns → any_pass (nat_eq n) ns ≡ true
in-any n [] m = absurd m
in-any n (k ∷ ns) (inl e) = ap (λ b. b || any_pass (nat_eq n) ns) (eq-eqb n k e)
in-any n (k ∷ ns) (inr m) = by (nat_eq n k) (in-any n ns m)
  where
    by : (b : Bool) → any_pass (nat_eq n) ns ≡ true → (b || any_pass (nat_eq n) ns) ≡ true
    by true e = refl
    by false e = e

once-differ : (ns : List ℕ) → stand_once ns ≡ true → Differ ns
once-differ [] e = tt
once-differ (n ∷ ns) e = (λ m. first (any_pass (nat_eq n) ns) (in-any n ns m) e, once-differ ns (rest (any_pass (nat_eq n) ns) e))
  where
    first : (b : Bool) → b ≡ true → (not b && stand_once ns) ≡ true → ⊥
    first true t e = false≢true e
    first false t e = false≢true t

    rest : (b : Bool) → (not b && stand_once ns) ≡ true → stand_once ns ≡ true
    rest true e = absurd (false≢true e)
    rest false e = e

differ-once : (ns : List ℕ) → Differ ns → stand_once ns ≡ true
differ-once [] h = refl
differ-once (n ∷ ns) h = by (any_pass (nat_eq n) ns) refl (differ-once ns h.1)
  where
    by : (b : Bool) → any_pass (nat_eq n) ns ≡ b → stand_once ns ≡ true → (not b && stand_once ns) ≡ true
    by true e again = absurd (h.0 (any-in n ns e))
    by false e again = again

-- no component is listed twice
abbrev HasApartComponents : Numbers → Type 0
HasApartComponents ns = Differ (map (λ k. k.component) ns.known)

apart-more : (c n : ℕ) (ks : List Known) → number_among c ks ≡ None → Differ (map (λ k. k.component) ks) → Differ (map (λ k. k.component) (ks ++ record { component = c; number = n } ∷ []))
apart-more c n [] e h = (λ m. m, tt)
apart-more c n (k ∷ ks) e h = (λ m. none (in-map_from (λ (x : Known). x.component) k.component (ks ++ record { component = c; number = n } ∷ []) m), apart-more c n ks (rest (nat_eq c k.component) e) h.1)
  where
    rest : (b : Bool) → cond b (Some k.number) (number_among c ks) ≡ None → number_among c ks ≡ None
    rest true f = none-not_some (sym f)
    rest false f = f

    other : (b : Bool) → cond b (Some k.number) (number_among c ks) ≡ None → b ≡ true → ⊥
    other true f t = none-not_some (sym f)
    other false f t = false≢true t

    by : (x : Known) → k.component ≡ x.component → IsIn x ks ⊎ ((x ≡ record { component = c; number = n }) ⊎ ⊥) → ⊥
    by x same (inl old) = h.0 (subst (λ j. IsIn j (map (λ y. y.component) ks)) (sym same) (in-map (λ (y : Known). y.component) x ks old))
    by x same (inr (inl new)) = other (nat_eq c k.component) e (eq-eqb c k.component (sym (same ∙ ap (λ (y : Known). y.component) new)))
    by x same (inr (inr never)) = never

    none : (x : Known) × IsIn x (ks ++ record { component = c; number = n } ∷ []) × (k.component ≡ x.component) → ⊥
    none found = by found.0 found.2 (in-append_cases found.0 ks (record { component = c; number = n } ∷ []) found.1)

apart-with : (ns : Numbers) (m : Option ℕ) (n : ℕ) → number_by ns m ≡ None → HasApartComponents ns → HasApartComponents (with_number m n ns)
apart-with ns None n e h = h
apart-with ns (Some c) n e h = apart-more c n ns.known e h

apart-given : (b : Bool) (ns : Numbers) (m : Option ℕ) (n : ℕ) → (b ≡ true → number_by ns m ≡ None) → HasApartComponents ns → HasApartComponents (cond b (with_number m n ns) ns)
apart-given true ns m n e h = apart-with ns m n (e refl) h
apart-given false ns m n e h = h

-- each component that is listed is found
found-apart : (ks : List Known) → Differ (map (λ k. k.component) ks) → (k : Known) → IsIn k ks → number_among k.component ks ≡ Some k.number
found-apart [] h k member = absurd member
found-apart (x ∷ ks) h k (inl same) = subst (λ (y : Known). cond (nat_eq y.component x.component) (Some x.number) (number_among y.component ks) ≡ Some y.number) (sym same) (ap (λ b. cond b (Some x.number) (number_among x.component ks)) (eq-eqb x.component x.component refl))
found-apart (x ∷ ks) h k (inr member) = by (nat_eq k.component x.component) refl (found-apart ks h.1 k member)
  where
    by : (b : Bool) → nat_eq k.component x.component ≡ b → number_among k.component ks ≡ Some k.number → cond b (Some x.number) (number_among k.component ks) ≡ Some k.number
    by true e f = absurd (h.0 (subst (λ j. IsIn j (map (λ y. y.component) ks)) (eqb-true k.component x.component e) (in-map (λ (y : Known). y.component) k ks member)))
    by false e f = f

-- ---- lists

got-front : (fs more : List Fact) (k : ℕ) (f : Fact) → slice_get fs k ≡ Some f → slice_get (fs ++ more) k ≡ Some f
got-front [] more k f e = none-not_some e
got-front (g ∷ fs) more zero f e = e
got-front (g ∷ fs) more (suc k) f e = got-front fs more k f e

got-last : (fs : List Fact) (g : Fact) → slice_get (fs ++ g ∷ []) (length fs) ≡ Some g
got-last [] g = refl
got-last (f ∷ fs) g = got-last fs g

got-cases : (fs : List Fact) (g : Fact) (k : ℕ) (f : Fact) → slice_get (fs ++ g ∷ []) k ≡ Some f → (slice_get fs k ≡ Some f) ⊎ ((k ≡ length fs) × (f ≡ g))
got-cases [] g zero f e = inr (refl, sym (some-injective e))
got-cases [] g (suc k) f e = none-not_some e
got-cases (x ∷ fs) g zero f e = inl e
got-cases (x ∷ fs) g (suc k) f e = by (got-cases fs g k f e)
  where
    by : (slice_get fs k ≡ Some f) ⊎ ((k ≡ length fs) × (f ≡ g)) → (slice_get fs k ≡ Some f) ⊎ ((suc k ≡ suc (length fs)) × (f ≡ g))
    by (inl a) = inl a
    by (inr b) = inr (ap suc b.0, b.1)

-- ---- facts

-- the trees have this number more, of this fact
abbrev pub Gives : List Numbered → List Numbered → Fact → ℕ → Type 0
Gives ts us g n = (q : Path) → numbers_at us q ≡ given (path_of g) (component_of g) n q (numbers_at ts q)

abbrev pub GiveAlike : List Numbered → List Numbered → Type 0
GiveAlike ts us = (q : Path) → numbers_at us q ≡ numbers_at ts q

number-given : (f g : Fact) (n : ℕ) (ns : Numbers) → same_fact f g ≡ false → number_by (given (path_of g) (component_of g) n (path_of f) ns) (component_of f) ≡ number_by ns (component_of f)
number-given (init p) (init q) n ns e = ap (λ b. number_by (cond b (with_number None n ns) ns) None) (same_turned q p ∙ e)
number-given (init p) (case q d) n ns e = by (same_path q p)
  where
    by : (b : Bool) → number_by (cond b (with_number (Some d) n ns) ns) None ≡ ns.here
    by true = refl
    by false = refl
number-given (case p c) (init q) n ns e = by (same_path q p)
  where
    by : (b : Bool) → number_by (cond b (with_number None n ns) ns) (Some c) ≡ number_among c ns.known
    by true = refl
    by false = refl
number-given (case p c) (case q d) n ns e = by (same_path q p) (ap (λ b. b && nat_eq c d) (same_turned q p) ∙ e)
  where
    by : (b : Bool) → (b && nat_eq c d) ≡ false → number_by (cond b (with_number (Some d) n ns) ns) (Some c) ≡ number_among c ns.known
    by true h = among-other c d n ns.known h
    by false h = refl

pub number-other : (ts us : List Numbered) (g : Fact) (n : ℕ) → Gives ts us g n → (f : Fact) → same_fact f g ≡ false → number_in us f ≡ number_in ts f
number-other ts us g n h f e = ap (λ ns. number_by ns (component_of f)) (h (path_of f)) ∙ number-given f g n (numbers_at ts (path_of f)) e

pub number-own : (ts us : List Numbered) (g : Fact) (n : ℕ) → Gives ts us g n → number_in ts g ≡ None → number_in us g ≡ Some n
number-own ts us g n h none =
    ap (λ ns. number_by ns (component_of g)) (h (path_of g))
    ∙ ap (λ b. number_by (cond b (with_number (component_of g) n (numbers_at ts (path_of g))) (numbers_at ts (path_of g))) (component_of g)) (same_numbers_self (path_of g))
    ∙ with_same (numbers_at ts (path_of g)) (component_of g) n none

by_fact : {A : Type 0} (f g : Fact) (b : Bool) → same_fact f g ≡ b → (f ≡ g → A) → (same_fact f g ≡ false → A) → A
by_fact f g true e same apart = same (same_fact-is f g e)
by_fact f g false e same apart = apart e

pub number-kept : (ts us : List Numbered) (g : Fact) (n : ℕ) → Gives ts us g n → number_in ts g ≡ None → (f : Fact) (k : ℕ) → number_in ts f ≡ Some k → number_in us f ≡ Some k
number-kept ts us g n h none f k e = by_fact f g (same_fact f g) refl
    (λ same. none-not_some (sym none ∙ subst (λ x. number_in ts x ≡ Some k) same e))
    (λ apart. number-other ts us g n h f apart ∙ e)

pub number-same : (ts us : List Numbered) → GiveAlike ts us → (f : Fact) → number_in us f ≡ number_in ts f
number-same ts us h f = ap (λ ns. number_by ns (component_of f)) (h (path_of f))

-- the list with one fact more, beside trees that give it its place
pub one_more : (ts us : List Numbered) (fs : List Fact) (g : Fact) → AreTreesOf ts fs → number_in ts g ≡ None → Gives ts us g (length fs) → AreTreesOf us (fs ++ g ∷ [])
one_more ts us fs g are none h = record { listed = λ f k. (there f k, back f k); differ = differ }
  where
    there : (f : Fact) (k : ℕ) → slice_get (fs ++ g ∷ []) k ≡ Some f → number_in us f ≡ Some k
    there f k e = by (got-cases fs g k f e)
      where
        by : (slice_get fs k ≡ Some f) ⊎ ((k ≡ length fs) × (f ≡ g)) → number_in us f ≡ Some k
        by (inl old) = number-kept ts us g (length fs) h none f k ((are.listed f k).0 old)
        by (inr new) = subst (λ x. number_in us x ≡ Some k) (sym new.1) (number-own ts us g (length fs) h none ∙ ap Some (sym new.0))

    back : (f : Fact) (k : ℕ) → number_in us f ≡ Some k → slice_get (fs ++ g ∷ []) k ≡ Some f
    back f k e = by_fact f g (same_fact f g) refl same (λ apart. got-front fs (g ∷ []) k f ((are.listed f k).1 (sym (number-other ts us g (length fs) h f apart) ∙ e)))
      where
        same : f ≡ g → slice_get (fs ++ g ∷ []) k ≡ Some f
        same s =
            let last : length fs ≡ k = some-injective (sym (number-own ts us g (length fs) h none) ∙ subst (λ x. number_in us x ≡ Some k) s e) in
            subst (λ j. slice_get (fs ++ g ∷ []) j ≡ Some f) last (got-last fs g ∙ ap Some (sym s))

    apart : (q : Path) → HasApartComponents (numbers_at us q)
    apart q = subst HasApartComponents (sym (h q)) (apart-given (same_path (path_of g) q) (numbers_at ts q) (component_of g) (length fs)
        (λ e. subst (λ p. number_by (numbers_at ts p) (component_of g) ≡ None) (same_numbers-is (path_of g) q e) none) (once-differ (map (λ k. k.component) (numbers_at ts q).known) (are.differ q)))

    differ : (q : Path) → stand_once (map (λ k. k.component) (numbers_at us q).known) ≡ true
    differ q = differ-once (map (λ k. k.component) (numbers_at us q).known) (apart q)

pub as_before : (ts us : List Numbered) (fs gs : List Fact) → AreTreesOf ts fs → GiveAlike ts us → gs ≡ fs → AreTreesOf us gs
as_before ts us fs gs are h e = subst (AreTreesOf us) (sym e) (record {
  listed = λ f k. (λ a. number-same ts us h f ∙ (are.listed f k).0 a, λ b. (are.listed f k).1 (sym (number-same ts us h f) ∙ b));
  differ = λ q. subst (λ (ns : Numbers). stand_once (map (λ k. k.component) ns.known) ≡ true) (sym (h q)) (are.differ q);
})

bare_trees : (f : Fact) → number_in [] f ≡ None
bare_trees (init []) = refl
bare_trees (init (i ∷ p)) = refl
bare_trees (case [] c) = refl
bare_trees (case (i ∷ p) c) = refl

pub no_number : (ts : List Numbered) → ts ≡ [] → (f : Fact) → number_in ts f ≡ None
no_number ts e f = ap (λ us. number_in us f) e ∙ bare_trees f

pub no_facts : (ts : List Numbered) (fs : List Fact) → ts ≡ [] → fs ≡ [] → AreTreesOf ts fs
no_facts ts fs a b = subst (λ us. AreTreesOf us fs) (sym a) (subst (AreTreesOf []) (sym b) (record {
  listed = λ f k. (λ e. none-not_some e, λ e. none-not_some (sym (bare_trees f) ∙ e));
  differ = bare;
}))
  where
    bare : (q : Path) → stand_once (map (λ k. k.component) (numbers_at [] q).known) ≡ true
    bare [] = refl
    bare (i ∷ q) = refl

-- ---- no number twice

here_in : (o : Option ℕ) (n : ℕ) → IsIn n (here_list o) → o ≡ Some n
here_in None n m = absurd m
here_in (Some k) n (inl e) = ap Some (sym e)
here_in (Some k) n (inr m) = absurd m

in_here : (o : Option ℕ) (n : ℕ) → o ≡ Some n → IsIn n (here_list o)
in_here None n e = none-not_some e
in_here (Some k) n e = inl (sym (some-injective e))

here_once : (o : Option ℕ) → Differ (here_list o)
here_once None = tt
here_once (Some k) = (λ m. m, tt)

abbrev known_numbers : List Known → List ℕ
known_numbers ks = map (λ k. k.number) ks

known_apart : (ks : List Known) → Differ (map (λ k. k.component) ks) → ((j k : Known) → IsIn j ks → IsIn k ks → j.number ≡ k.number → j.component ≡ k.component) → Differ (known_numbers ks)
known_apart [] h same = tt
known_apart (k ∷ ks) h same = (λ m. none (in-map_from (λ (x : Known). x.number) k.number ks m), known_apart ks h.1 (λ i j a b. same i j (inr a) (inr b)))
  where
    none : (x : Known) × IsIn x ks × (k.number ≡ x.number) → ⊥
    none found = h.0 (subst (λ j. IsIn j (map (λ y. y.component) ks)) (sym (same k found.0 (inl refl) (inr found.1) found.2)) (in-map (λ (y : Known). y.component) found.0 ks found.1))

known_differ : (ts : List Numbered) (fs : List Fact) → AreTreesOf ts fs → (q : Path) → HasApartComponents (numbers_at ts q)
known_differ ts fs are q = once-differ (map (λ k. k.component) (numbers_at ts q).known) (are.differ q)

-- each number is that of a fact at its path
with_number_at : (ts : List Numbered) (fs : List Fact) → AreTreesOf ts fs → (q : Path) (n : ℕ) → IsIn n (all_numbers (numbers_at ts q)) → (f : Fact) × (number_in ts f ≡ Some n) × (path_of f ≡ q)
with_number_at ts fs are q n m = by (in-append_cases n (here_list (numbers_at ts q).here) (known_numbers (numbers_at ts q).known) m)
  where
    of_known : (k : Known) × IsIn k (numbers_at ts q).known × (n ≡ k.number) → (f : Fact) × (number_in ts f ≡ Some n) × (path_of f ≡ q)
    of_known e = (case q e.0.component, found-apart (numbers_at ts q).known (known_differ ts fs are q) e.0 e.1 ∙ ap Some (sym e.2), refl)

    by : IsIn n (here_list (numbers_at ts q).here) ⊎ IsIn n (known_numbers (numbers_at ts q).known) → (f : Fact) × (number_in ts f ≡ Some n) × (path_of f ≡ q)
    by (inl a) = (init q, here_in (numbers_at ts q).here n a, refl)
    by (inr b) = of_known (in-map_from (λ (k : Known). k.number) n (numbers_at ts q).known b)

one_fact : (ts : List Numbered) (fs : List Fact) → AreTreesOf ts fs → (f g : Fact) (n : ℕ) → number_in ts f ≡ Some n → number_in ts g ≡ Some n → f ≡ g
one_fact ts fs are f g n a b = some-injective (sym ((are.listed f n).1 a) ∙ (are.listed g n).1 b)

numbers_once : (ts : List Numbered) (fs : List Fact) → AreTreesOf ts fs → TreesOnce ts
numbers_once ts fs are = record { apart = λ q r n a b. apart n q r (with_number_at ts fs are q n a) (with_number_at ts fs are r n b); once = once }
  where
    apart : (n : ℕ) (q r : Path) → (f : Fact) × (number_in ts f ≡ Some n) × (path_of f ≡ q) → (f : Fact) × (number_in ts f ≡ Some n) × (path_of f ≡ r) → q ≡ r
    apart n q r f g = sym f.2 ∙ (ap path_of (one_fact ts fs are f.0 g.0 n f.1 g.1) ∙ g.2)

    of_known : (q : Path) (k : Known) → IsIn k (numbers_at ts q).known → number_in ts (case q k.component) ≡ Some k.number
    of_known q k m = found-apart (numbers_at ts q).known (known_differ ts fs are q) k m

    same : (q : Path) (j k : Known) → IsIn j (numbers_at ts q).known → IsIn k (numbers_at ts q).known → j.number ≡ k.number → j.component ≡ k.component
    same q j k a b e = some-injective (ap component_of (one_fact ts fs are (case q j.component) (case q k.component) k.number (of_known q j a ∙ ap Some e) (of_known q k b)))

    no_both : (q : Path) (n : ℕ) → IsIn n (here_list (numbers_at ts q).here) → (k : Known) × IsIn k (numbers_at ts q).known × (n ≡ k.number) → ⊥
    no_both q n a found = none-not_some (ap component_of (one_fact ts fs are (init q) (case q found.0.component) n (here_in (numbers_at ts q).here n a) (of_known q found.0 found.1 ∙ ap Some (sym found.2))))

    once : (q : Path) → Differ (all_numbers (numbers_at ts q))
    once q = joined-Differ (here_list (numbers_at ts q).here) (known_numbers (numbers_at ts q).known) (here_once (numbers_at ts q).here) (known_apart (numbers_at ts q).known (known_differ ts fs are q) (same q))
        (λ n a b. no_both q n a (in-map_from (λ (k : Known). k.number) n (numbers_at ts q).known b))

-- The numbers at a path and below are those of the facts there.
pub facts_below : (ts : List Numbered) (fs : List Fact) (p : Path) (xs ys : List ℕ) → AreTreesOf ts fs → Appends (TreesOnce ts) (Below ts p) xs ys
    → Appends ⊤ (λ n. (f : Fact) × (number_in ts f ≡ Some n) × (is_at_or_below p (path_of f) ≡ true)) xs ys
facts_below ts fs p xs ys are h = appends_same (TreesOnce ts) ⊤ (Below ts p) _ xs ys (λ u. numbers_once ts fs are) (λ n m. there n m.0 m.1 (with_number_at ts fs are m.0 n m.2)) (λ n m. back n m.0 m.1 m.2) h
  where
    there : (n : ℕ) (q : Path) → is_at_or_below p q ≡ true → (f : Fact) × (number_in ts f ≡ Some n) × (path_of f ≡ q) → (f : Fact) × (number_in ts f ≡ Some n) × (is_at_or_below p (path_of f) ≡ true)
    there n q low f = (f.0, f.1, subst (λ r. is_at_or_below p r ≡ true) (sym f.2) low)

    back : (n : ℕ) (f : Fact) → number_in ts f ≡ Some n → is_at_or_below p (path_of f) ≡ true → Below ts p n
    back n (init q) e low = (q, low, in-append_left n (here_list (numbers_at ts q).here) (known_numbers (numbers_at ts q).known) (in_here (numbers_at ts q).here n e))
    back n (case q c) e low = (q, low, in-append_right n (here_list (numbers_at ts q).here) (known_numbers (numbers_at ts q).known) (among-in c n (numbers_at ts q).known e))

-- no two facts that stand at their numbers have the same one
pub facts-apart : (s : FactNumbers) (fs : List Fact) → AreFacts s fs → AreApart s
facts-apart s fs are f g n a b = let same : Some f ≡ Some g = sym ((are f n).1 a) ∙ (are g n).1 b in some-injective same
