-- The lists of points by numbers, and what they say of facts.
use Rattle.std.proofs.Common.{◌≡◌, ◌↔◌, ◌⊎◌, inl, inr, ℕ, ◌+◌, ◌<◌, List, [], ◌∷◌, ◌++◌, length, take, get_or, flat_map, Bool, true, false, cond, not, ◌&&◌, ◌||◌, Option, Some, None, slice_get, refl, sym, ◌∙◌, ap, ap₂, subst, arith, true≢false}
use Rattle.std.proofs.lemmas.Bool.{or_cases}
use Rattle.std.proofs.lemmas.List.{take_more}
use Rattle.std.proofs.lemmas.Option.{slice_get_within}
use Rattle.herm_model.specs.Lists.{IsIn, any_pass, map_or}
use Rattle.herm_model.specs.Paths.{Path, Fact, same_fact, path_of, is_at_or_below}
use Rattle.herm_model.specs.ControlPaths.{held_after_edge}
use Rattle.herm_model.proofs.FactTests.{listed-IsIn, IsIn-listed}
use Rattle.herm_flow.specs.declared.onward.OnwardEdge.{OnwardEdge}
use Rattle.herm_flow.specs.declared.onward.OnwardPoint.{OnwardPoint}
use Rattle.herm_flow.specs.OnwardView.{facts_in, paths_in}
use Rattle.herm_facts.specs.declared.fact_numbers.FactNumbers.{FactNumbers}
use Rattle.herm_facts.specs.declared.number_set.NumberSet.{NumberSet}
use Rattle.herm_facts.specs.declared.sparse_set.SparseSet.{SparseSet}
use Rattle.herm_facts.specs.FactNumbers.{number_of, AreApart}
use Rattle.herm_facts.specs.NumberSets.{has_number}
use Rattle.herm_facts.specs.SparseSets.{has_sparse}
use Rattle.herm_check.specs.declared.lists.ListsOf.{ListsOf}
use Rattle.herm_check.specs.View.{edge_in}
use Rattle.herm_check.specs.Numberings.{in_set, HasNumber, AreOfFacts}
use Rattle.herm_check.specs.Lists.{at_has, AreListsOf, is_made_number, is_killed_number}
use Rattle.herm_check.proofs.Carried.{any-append}
use Rattle.herm_check.proofs.Searched.{some-at}

none-some : {X : Type 0} (x : X) → ◌≡◌ {A = Option X} None (Some x) → ⊥
none-some x e = cc

pub same_truth : (a b : Bool) → (a ≡ true → b ≡ true) → (b ≡ true → a ≡ true) → a ≡ b
same_truth true b there back = sym (there refl)
same_truth false true there back = back refl
same_truth false false there back = refl

-- ---- tests of lists

pub any-same : {X : Type 0} (a b : X → Bool) (xs : List X) → ((x : X) → a x ≡ b x) → any_pass a xs ≡ any_pass b xs
any-same a b [] same = refl
any-same a b (x ∷ xs) same = ap₂ ◌||◌ (same x) (any-same a b xs same)

pub any-none : {X : Type 0} (test : X → Bool) (xs : List X) → ((x : X) → test x ≡ false) → any_pass test xs ≡ false
any-none test [] none = refl
any-none test (x ∷ xs) none = ap₂ ◌||◌ (none x) (any-none test xs none)

any-joined : {X : Type 0} (test : X → Bool) (xs ys : List X) → any_pass test (xs ++ ys) ≡ (any_pass test xs || any_pass test ys)
any-joined test [] ys = refl
any-joined test (x ∷ xs) ys = ap (λ b. test x || b) (any-joined test xs ys) ∙ assoc (test x)
  where
    assoc : (a : Bool) → (a || (any_pass test xs || any_pass test ys)) ≡ ((a || any_pass test xs) || any_pass test ys)
    assoc true = refl
    assoc false = refl

-- one more is tested
pub any-next : {X : Type 0} (test : X → Bool) (xs : List X) (i : ℕ) (d : X) → i < length xs → any_pass test (take (i + 1) xs) ≡ (any_pass test (take i xs) || test (get_or xs i d))
any-next test xs i d within = ap (any_pass test) (take_more xs i d within) ∙ any-append test (take i xs) (get_or xs i d)

-- one that passes
pub any-found : {X : Type 0} (test : X → Bool) (xs : List X) → any_pass test xs ≡ true → (x : X) × IsIn x xs × (test x ≡ true)
any-found test [] e = absurd (true≢false (sym e))
any-found {X} test (x ∷ xs) e = by (any-found test xs) (or_cases (test x) (any_pass test xs) e)
  where
    by : (any_pass test xs ≡ true → (y : X) × IsIn y xs × (test y ≡ true)) → (test x ≡ true) ⊎ (any_pass test xs ≡ true) → (y : X) × IsIn y (x ∷ xs) × (test y ≡ true)
    by again (inl h) = (x, inl refl, h)
    by again (inr h) = let r = again h in (r.0, inr r.1, r.2)

-- ---- sets by their places

-- what each set has for the element at its place, each place has
pub at-each : {X : Type 0} (D : Option X → ℕ → Type 0) (xs : List X) (sets : List SparseSet) → length sets ≡ length xs → ((n : ℕ) → D None n → ⊥)
    → ((i : ℕ) (x : X) (s : SparseSet) → slice_get xs i ≡ Some x → slice_get sets i ≡ Some s → (n : ℕ) → (has_sparse s n ≡ true) ↔ D (Some x) n)
    → (i n : ℕ) → (at_has sets i n ≡ true) ↔ D (slice_get xs i) n
at-each {X} D xs sets many none each i n = by (slice_get xs i) refl (slice_get sets i) refl
  where
    by : (o : Option X) → slice_get xs i ≡ o → (s : Option SparseSet) → slice_get sets i ≡ s → (map_or false (λ (t : SparseSet). has_sparse t n) s ≡ true) ↔ D o n
    by None e None f = (λ h. absurd (true≢false (sym h)), λ d. absurd (none n d))
    by (Some x) e (Some s) f = each i x s e f n
    by None e (Some s) f = absurd (let within = slice_get_within sets i s f in let some = some-at xs i (omega (arith, within, many)) in none-some some.0 (sym e ∙ some.1))
    by (Some x) e None f = absurd (let within = slice_get_within xs i x e in let some = some-at sets i (omega (arith, within, many)) in none-some some.0 (sym f ∙ some.1))

-- ---- what lists say of a fact with a number

module _ (ns : FactNumbers) (apart : AreApart ns) (p : OnwardPoint) (l : ListsOf) (h : AreListsOf ns p l) where
  module _ (f : Fact) (n : ℕ) (number : number_of ns f ≡ Some n) where
    made-at : (i : ℕ) → at_has l.made.items i n ≡ any_pass (same_fact f) (facts_in p.made.items i)
    made-at i = same_truth (at_has l.made.items i n) (any_pass (same_fact f) (facts_in p.made.items i))
        (λ t. let g = (h.made i n).0 t in subst (λ x. any_pass (same_fact x) (facts_in p.made.items i) ≡ true) (apart g.0 f n g.1 number) (IsIn-listed g.0 (facts_in p.made.items i) g.2))
        (λ t. (h.made i n).1 (f, number, listed-IsIn f (facts_in p.made.items i) t))

    pub made-all : (ms : List ℕ) → any_pass (λ m. at_has l.made.items m n) ms ≡ any_pass (same_fact f) (flat_map (facts_in p.made.items) ms)
    made-all [] = refl
    made-all (m ∷ ms) = ap₂ ◌||◌ (made-at m) (made-all ms) ∙ sym (any-joined (same_fact f) (facts_in p.made.items m) (flat_map (facts_in p.made.items) ms))

    pub gone-at : (i : ℕ) → at_has l.gone.items i n ≡ any_pass (λ (q : Path). is_at_or_below q (path_of f)) (paths_in p.gone.items i)
    gone-at i = same_truth (at_has l.gone.items i n) (any_pass (λ (q : Path). is_at_or_below q (path_of f)) (paths_in p.gone.items i))
        (λ t. let g = (h.gone i n).0 t in subst (λ x. any_pass (λ (q : Path). is_at_or_below q (path_of x)) (paths_in p.gone.items i) ≡ true) (apart g.0 f n g.1 number) g.2)
        (λ t. (h.gone i n).1 (f, number, t))

  -- ---- the numbers behind an edge

  module _ (e : OnwardEdge) (held after : NumberSet) (is : (n : ℕ) → has_number after n ≡ ((has_number held n && not (is_killed_number l e n)) || is_made_number l e n)) where
    pub facts-behind : ((f : Fact) → IsIn f (edge_in p e).makes → HasNumber ns f) → (f : Fact) → in_set ns after f ≡ held_after_edge (edge_in p e) f (in_set ns held f)
    facts-behind numbers f = by (number_of ns f) refl
      where
        made : Bool
        made = any_pass (same_fact f) (edge_in p e).makes

        killed : Bool
        killed = any_pass (λ (q : Path). is_at_or_below q (path_of f)) (edge_in p e).kills

        behind : (b k m : Bool) → ((b && not k) || m) ≡ cond m true (cond k false b)
        behind true true true = refl
        behind true true false = refl
        behind true false true = refl
        behind true false false = refl
        behind false k true = refl
        behind false true false = refl
        behind false false false = refl

        without : (k m : Bool) → (m ≡ true → ⊥) → false ≡ cond m true (cond k false false)
        without k true none = absurd (none refl)
        without true false none = refl
        without false false none = refl

        by : (o : Option ℕ) → number_of ns f ≡ o → map_or false (has_number after) o ≡ cond made true (cond killed false (map_or false (has_number held) o))
        by None none = without killed made (λ t. let k = numbers f (listed-IsIn f (edge_in p e).makes t) in none-some k.0 (sym none ∙ k.1))
        by (Some n) number =
            is n ∙ (ap₂ (λ k m. (has_number held n && not k) || m) (gone-at f n number e.kills) (made-all f n number e.makes.items) ∙ behind (has_number held n) killed made)

    pub known-behind : AreOfFacts ns held → AreOfFacts ns after
    known-behind known n t = by (or_cases (has_number held n && not (is_killed_number l e n)) (is_made_number l e n) (sym (is n) ∙ t))
      where
        first : (a b : Bool) → (a && b) ≡ true → a ≡ true
        first true b e = refl
        first false b e = absurd (true≢false (sym e))

        by : ((has_number held n && not (is_killed_number l e n)) ≡ true) ⊎ (is_made_number l e n ≡ true) → (f : Fact) × (number_of ns f ≡ Some n)
        by (inl a) = known n (first (has_number held n) (not (is_killed_number l e n)) a)
        by (inr b) = let m = any-found (λ k. at_has l.made.items k n) e.makes.items b in let g = (h.made m.0 n).0 m.2 in (g.0, g.1)
