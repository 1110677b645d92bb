-- Facts that stand once: what is there already is left out, and what is not is appended.
use Rattle.std.proofs.Common.{◌≡◌, ◌<◌, ◌⊎◌, ℕ, ◌+◌, Bool, true, false, not, ◌||◌, cond, List, [], ◌∷◌, ◌++◌, length, map, take, get_or, filter, flat_map, Vec, Global, inl, inr, refl, sym, ◌∙◌, ap, subst, append_assoc, arith, true≢false}
use Rattle.std.specs.Prelude.{if◌then◌else◌}
use Rattle.std.specs.List.{list_any}
use Rattle.std.specs.Str.{bytes_eq}
use Rattle.std.proofs.lemmas.Slice.Eq.{bytes_eq-Decides}
use Rattle.std.proofs.lemmas.List.{append-nil, map-append, take_more}
use Rattle.std.proofs.lemmas.List.Concat.{flat_map-append}
use Rattle.herm_model.specs.Lists.{IsIn, any_pass}
use Rattle.herm_model.specs.Paths.{Fact, init, case, same_fact}
use Rattle.herm_model.specs.Types.{TypeTable, full_parts, part_paths, greatest_depth}
use Rattle.herm_model.specs.Facts.{full_facts, without_repeats}
use Rattle.herm_model.specs.Statements.{Differ}
use Rattle.herm_model.proofs.Lists.{cons-head, cons-tail, in-append_left, in-append_right, in-append_cases, in-map, in-map_from, in-flat_map, mapped-Differ}
use Rattle.herm_model.proofs.DistinctSteps.{full-rise, steps-differ}
use Rattle.herm_model.proofs.Equality.{same_fact-is, same_fact_self}
use Rattle.herm_model.proofs.ClosedFacts.{IsIn-once}
use Rattle.herm_types.proofs.Repeats.{repeats-more}
use Rattle.herm_syntax.specs.declared.definitions.DFact.{DFact}
use Rattle.herm_syntax.specs.Trees.{DeclaredFact, InitFact, FullFact, CaseFact}
use Rattle.herm_syntax.specs.View.{dfact_view}
use Rattle.herm_meaning.specs.Names.{NamedTable}
use Rattle.herm_meaning.specs.Walks.{Walked, ended, left_fields, met_unknown, at_end, place_of, parts_of, walk_fields}
use Rattle.herm_meaning.specs.Meaning.{fact_meant}
use Rattle.herm_defs.specs.PlainFacts.{written_key}
use Rattle.herm_defs.specs.Distinct.{number_key}
use Rattle.herm_defs.proofs.FactLaws.{same-path}

-- ---- keys

one-fact : (f g : Fact) → number_key f ≡ number_key g → f ≡ g
one-fact (init p) (init q) e = ap init (cons-tail e)
one-fact (init p) (case q d) e = let k : ⊥ = cc (cons-head e) in absurd k
one-fact (case p c) (init q) e = let k : ⊥ = cc (cons-head e) in absurd k
one-fact (case p c) (case q d) e = ap (λ x. case x c) (cons-tail (cons-tail e)) ∙ ap (case q) (cons-head (cons-tail e))

one-written : (d e : DeclaredFact) → written_key d ≡ written_key e → d ≡ e
one-written (InitFact p) (InitFact q) e = ap InitFact (same-path p q (cons-tail e))
one-written (InitFact p) (FullFact q) e = let k : ⊥ = cc (cons-head e) in absurd k
one-written (InitFact p) (CaseFact q d) e = let k : ⊥ = cc (cons-head e) in absurd k
one-written (FullFact p) (InitFact q) e = let k : ⊥ = cc (cons-head e) in absurd k
one-written (FullFact p) (FullFact q) e = ap FullFact (same-path p q (cons-tail e))
one-written (FullFact p) (CaseFact q d) e = let k : ⊥ = cc (cons-head e) in absurd k
one-written (CaseFact p c) (InitFact q) e = let k : ⊥ = cc (cons-head e) in absurd k
one-written (CaseFact p c) (FullFact q) e = let k : ⊥ = cc (cons-head e) in absurd k
one-written (CaseFact p c) (CaseFact q d) e =
    let same : c ∷ p ≡ d ∷ q = same-path (c ∷ p) (d ∷ q) (cons-tail e) in
    ap (λ x. CaseFact x c) (cons-tail same) ∙ ap (CaseFact q) (cons-head same)

-- a set's key that is found is there, and one that is there is found
module _ {K : Type 0} (numbers : K → List ℕ) (k : List ℕ) where
  found-key : (keys : List K) → list_any (λ y. bytes_eq k (numbers y)) keys ≡ true → (y : K) × IsIn y keys × (k ≡ numbers y)
  found-key [] e = absurd (true≢false (sym e))
  found-key (y ∷ ys) e = by (bytes_eq k (numbers y)) refl e (found-key ys)
    where
      by : (b : Bool) → bytes_eq k (numbers y) ≡ b → (b || list_any (λ z. bytes_eq k (numbers z)) ys) ≡ true → (list_any (λ z. bytes_eq k (numbers z)) ys ≡ true → (z : K) × IsIn z ys × (k ≡ numbers z)) → (z : K) × IsIn z (y ∷ ys) × (k ≡ numbers z)
      by true s h again = (y, inl refl, (bytes_eq-Decides k (numbers y)).0 s)
      by false s h again = let z = again h in (z.0, inr z.1, z.2)

  finds-key : (keys : List K) (y : K) → IsIn y keys → k ≡ numbers y → list_any (λ z. bytes_eq k (numbers z)) keys ≡ true
  finds-key [] y i e = absurd i
  finds-key (z ∷ zs) y (inl s) e = ap (λ b. b || list_any (λ z'. bytes_eq k (numbers z')) zs) ((bytes_eq-Decides k (numbers z)).1 (e ∙ ap numbers s))
  finds-key (z ∷ zs) y (inr i) e = by (bytes_eq k (numbers z)) (finds-key zs y i e)
    where
      by : (b : Bool) → list_any (λ z'. bytes_eq k (numbers z')) zs ≡ true → (b || list_any (λ z'. bytes_eq k (numbers z')) zs) ≡ true
      by true h = refl
      by false h = h

pub not-false : (b : Bool) → not b ≡ false → b ≡ true
not-false true e = refl
not-false false e = absurd (true≢false e)

pub not-true : (b : Bool) → not b ≡ true → b ≡ false
not-true true e = absurd (true≢false (sym e))
not-true false e = refl

-- ---- what is there already

in-some : (f : Fact) (fs : List Fact) → IsIn f fs → any_pass (same_fact f) fs ≡ true
in-some f [] h = absurd h
in-some f (g ∷ fs) (inl e) = subst (λ k. (same_fact f k || any_pass (same_fact f) fs) ≡ true) e (ap (λ b. b || any_pass (same_fact f) fs) (same_fact_self f))
in-some f (g ∷ fs) (inr h) = by (same_fact f g) (in-some f fs h)
  where
    by : (b : Bool) → any_pass (same_fact f) fs ≡ true → (b || any_pass (same_fact f) fs) ≡ true
    by true k = refl
    by false k = k

not-some : (f : Fact) (fs : List Fact) → (IsIn f fs → ⊥) → any_pass (same_fact f) fs ≡ false
not-some f [] n = refl
not-some f (g ∷ fs) n = by (same_fact f g) refl (not-some f fs (λ i. n (inr i)))
  where
    by : (b : Bool) → same_fact f g ≡ b → any_pass (same_fact f) fs ≡ false → (b || any_pass (same_fact f) fs) ≡ false
    by true e k = absurd (n (inl (same_fact-is f g e)))
    by false e k = k

-- a fact that is there changes nothing
once-there : (fs : List Fact) (f : Fact) → IsIn f (without_repeats fs) → without_repeats (fs ++ f ∷ []) ≡ without_repeats fs
once-there fs f i = repeats-more fs f ∙ (ap (λ b. without_repeats fs ++ cond b [] (f ∷ [])) (in-some f (without_repeats fs) i) ∙ append-nil (without_repeats fs))

-- a fact that is not there is appended
once-new : (fs : List Fact) (f : Fact) → (IsIn f (without_repeats fs) → ⊥) → without_repeats (fs ++ f ∷ []) ≡ without_repeats fs ++ f ∷ []
once-new fs f n = repeats-more fs f ∙ ap (λ b. without_repeats fs ++ cond b [] (f ∷ [])) (not-some f (without_repeats fs) n)

-- facts that are all there change nothing
once-all : (fs more : List Fact) → ((g : Fact) → IsIn g more → IsIn g fs) → without_repeats (fs ++ more) ≡ without_repeats fs
once-all fs [] all = ap without_repeats (append-nil fs)
once-all fs (f ∷ more) all =
    ap without_repeats (sym (append_assoc fs (f ∷ []) more))
    ∙ (once-all (fs ++ f ∷ []) more (λ g h. in-append_left g fs (f ∷ []) (all g (inr h)))
    ∙ once-there fs f (IsIn-once f fs (all f (inl refl))))

-- what a declared fact means that stands before is there
pub meant-there : (meant : DeclaredFact → List Fact) (ds : List DeclaredFact) (d : DeclaredFact) → IsIn d ds → without_repeats (flat_map meant (ds ++ d ∷ [])) ≡ without_repeats (flat_map meant ds)
meant-there meant ds d i =
    ap without_repeats (flat_map-append meant ds (d ∷ []) ∙ ap (flat_map meant ds ++◌) (append-nil (meant d)))
    ∙ once-all (flat_map meant ds) (meant d) (λ g h. in-flat_map meant d g ds i h)

-- ---- one fact more

module _ (fs : List Fact) (f : Fact) (keys : List (Vec ℕ Global)) (k : Vec ℕ Global) (are : map (λ (y : Vec ℕ Global). y.items) keys ≡ map number_key (without_repeats fs)) (is : k.items ≡ number_key f) where
  pub known-once : list_any (λ (y : Vec ℕ Global). bytes_eq k.items y.items) keys ≡ true → without_repeats (fs ++ f ∷ []) ≡ without_repeats fs
  known-once h =
      let y = found-key (λ (y : Vec ℕ Global). y.items) k.items keys h in
      let m = in-map_from number_key y.0.items (without_repeats fs) (subst (IsIn y.0.items) are (in-map (λ (y : Vec ℕ Global). y.items) y.0 keys y.1)) in
      once-there fs f (subst (λ g. IsIn g (without_repeats fs)) (one-fact m.0 f (sym m.2 ∙ (sym y.2 ∙ is))) m.1)

  pub unknown-once : list_any (λ (y : Vec ℕ Global). bytes_eq k.items y.items) keys ≡ false → without_repeats (fs ++ f ∷ []) ≡ without_repeats fs ++ f ∷ []
  unknown-once h = once-new fs f (λ i.
      let y = in-map_from (λ (y : Vec ℕ Global). y.items) (number_key f) keys (subst (IsIn (number_key f)) (sym are) (in-map number_key f (without_repeats fs) i)) in
      true≢false (sym (finds-key (λ (y : Vec ℕ Global). y.items) k.items keys y.0 y.1 (is ∙ y.2)) ∙ h))

-- ---- one declared fact more

abbrev AreKeysOf : List (List ℕ) → List DeclaredFact → Type 0
AreKeysOf keys ds = (k : List ℕ) → IsIn k keys → (d : DeclaredFact) × IsIn d ds × (k ≡ written_key d)

module _ (keys : List (List ℕ)) (ds : List DeclaredFact) (d : DeclaredFact) (k : List ℕ) (known : AreKeysOf keys ds) (is : k ≡ written_key d) where
  -- a declared fact whose key is found stands before
  written-before : list_any (bytes_eq k) keys ≡ true → IsIn d ds
  written-before h =
      let y = found-key (λ (y : List ℕ). y) k keys h in
      let m = known y.0 y.1 in
      subst (λ e. IsIn e ds) (one-written m.0 d (sym m.2 ∙ (sym y.2 ∙ is))) m.1

  pub written-same : (meant : DeclaredFact → List Fact) → list_any (bytes_eq k) keys ≡ true → without_repeats (flat_map meant (ds ++ d ∷ [])) ≡ without_repeats (flat_map meant ds)
  written-same meant h = meant-there meant ds d (written-before h)

  pub keys-more : (b : Bool) (new : List (List ℕ)) → new ≡ (if b then keys else (keys ++ k ∷ [])) → AreKeysOf new (ds ++ d ∷ [])
  keys-more b new e x i = by b (subst (IsIn x) e i)
    where
      old : IsIn x keys → (d' : DeclaredFact) × IsIn d' (ds ++ d ∷ []) × (x ≡ written_key d')
      old j = let m = known x j in (m.0, in-append_left m.0 ds (d ∷ []) m.1, m.2)

      added : IsIn x keys ⊎ IsIn x (k ∷ []) → (d' : DeclaredFact) × IsIn d' (ds ++ d ∷ []) × (x ≡ written_key d')
      added (inl j) = old j
      added (inr (inl s)) = (d, in-append_right d ds (d ∷ []) (inl refl), s ∙ is)
      added (inr (inr j)) = absurd j

      by : (b : Bool) → IsIn x (if b then keys else (keys ++ k ∷ [])) → (d' : DeclaredFact) × IsIn d' (ds ++ d ∷ []) × (x ≡ written_key d')
      by true j = old j
      by false j = added (in-append_cases x keys (k ∷ []) j)

pub meant-more : (meant : DeclaredFact → List Fact) (ds : List DeclaredFact) (d : DeclaredFact) (fs : List Fact) → fs ≡ meant d → flat_map meant ds ++ fs ≡ flat_map meant (ds ++ d ∷ [])
meant-more meant ds d fs e = ap (flat_map meant ds ++◌) (e ∙ sym (append-nil (meant d))) ∙ sym (flat_map-append meant ds (d ∷ []))

pub taken-more : (list : List DFact) (i : ℕ) (x : DFact) → i < length list → x ≡ get_or list i x → map dfact_view (take i list) ++ dfact_view x ∷ [] ≡ map dfact_view (take (i + 1) list)
taken-more list i x l e =
    ap (λ y. map dfact_view (take i list) ++ dfact_view y ∷ []) e
    ∙ (sym (map-append dfact_view (take i list) (get_or list i x ∷ [])) ∙ ap (map dfact_view) (sym (take_more list i x l)))

-- ---- one declared fact alone

front-cut : (p q r : List ℕ) → p ++ q ≡ p ++ r → q ≡ r
front-cut [] q r e = e
front-cut (i ∷ p) q r e = front-cut p q r (cons-tail e)

full-Differ : (types : TypeTable) (t : ℕ) (p : List ℕ) → Differ (full_facts types t p)
full-Differ types t p = mapped-Differ (λ q. init (p ++ q)) (λ q r e. front-cut p q r (cons-tail (ap number_key e))) (part_paths full_parts types t) (steps-differ full_parts full-rise greatest_depth types t)

meant-Differ : (table : NamedTable) (message : ℕ) (d : DeclaredFact) → Differ (fact_meant table message d)
meant-Differ table message (InitFact p) = by (walk_fields table message p)
  where
    by : (w : Walked) → Differ (at_end w (λ places t. init (0 ∷ places) ∷ []))
    by (ended places t) = ((λ i. i), tt)
    by left_fields = tt
    by met_unknown = tt
meant-Differ table message (FullFact p) = by (walk_fields table message p)
  where
    by : (w : Walked) → Differ (at_end w (λ places t. full_facts table.shapes t (0 ∷ places)))
    by (ended places t) = full-Differ table.shapes t (0 ∷ places)
    by left_fields = tt
    by met_unknown = tt
meant-Differ table message (CaseFact p c) = by (walk_fields table message p)
  where
    by : (w : Walked) → Differ (at_end w (λ places t. case (0 ∷ places) (place_of (parts_of table t) c) ∷ []))
    by (ended places t) = ((λ i. i), tt)
    by left_fields = tt
    by met_unknown = tt

all-kept : (f : Fact) (fs : List Fact) → (IsIn f fs → ⊥) → filter (λ g. not (same_fact f g)) fs ≡ fs
all-kept f [] n = refl
all-kept f (g ∷ fs) n = by (same_fact f g) refl (all-kept f fs (λ i. n (inr i)))
  where
    by : (b : Bool) → same_fact f g ≡ b → filter (λ h. not (same_fact f h)) fs ≡ fs → cond (not b) (g ∷ filter (λ h. not (same_fact f h)) fs) (filter (λ h. not (same_fact f h)) fs) ≡ g ∷ fs
    by true e k = absurd (n (inl (same_fact-is f g e)))
    by false e k = ap (g ∷◌) k

differ-once : (fs : List Fact) → Differ fs → without_repeats fs ≡ fs
differ-once [] d = refl
differ-once (f ∷ fs) d = ap (f ∷◌) (ap (filter (λ g. not (same_fact f g))) (differ-once fs d.1) ∙ all-kept f fs d.0)

-- one declared fact lists none twice
pub meant-alone : (table : NamedTable) (message : ℕ) (d : DeclaredFact) → fact_meant table message d ≡ without_repeats (flat_map (fact_meant table message) (d ∷ []))
meant-alone table message d = sym (ap without_repeats (append-nil (fact_meant table message d)) ∙ differ-once (fact_meant table message d) (meant-Differ table message d))

pub one-item : (list : List DFact) (x : DFact) → x ≡ get_or list 0 x → length list ≡ 1 → list ≡ x ∷ []
one-item [] x e l = absurd (omega (arith, l))
one-item (y ∷ []) x e l = ap (λ z. z ∷ []) (sym e)
one-item (y ∷ z ∷ ys) x e l = absurd (omega (arith, l))
