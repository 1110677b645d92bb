-- What tests of declared facts say.
use Rattle.std.proofs.Common.{◌≡◌, ◌<◌, ◌≤◌, ◌⊎◌, inl, inr, ℕ, zero, suc, Bool, true, false, not, ◌&&◌, ◌||◌, nat_lt, List, [], ◌∷◌, length, map, Option, Some, None, option_map, slice_get, IsTrue, is_some, refl, sym, ◌∙◌, ap, subst, arith, true≢false, ◌++◌, ◌+◌, get_or, drop, drop-cons, add-one, append_assoc}
use Rattle.std.specs.List.{list_any}
use Rattle.std.specs.Str.{bytes_eq}
use Rattle.std.proofs.lemmas.Option.{slice_get-map, slice_get_within}
use Rattle.std.proofs.lemmas.Bool.{ltb-true, ltb-false}
use Rattle.herm_model.specs.Lists.{IsIn, map_or}
use Rattle.herm_model.specs.Types.{Shape, boolean, integer, text, polymorph, names, fields, cases, rows, inport, outport, callmessage}
use Rattle.herm_model.specs.Facts.{component_count}
use Rattle.herm_model.specs.WellFormedTables.{IsType, field_type}
use Rattle.herm_base.specs.declared.word.Name.{Name}
use Rattle.herm_syntax.specs.View.{name_view}
use Rattle.herm_syntax.specs.Trees.{Letters, DeclaredFact, InitFact, FullFact, CaseFact}
use Rattle.herm_meaning.specs.Names.{NamedTable}
use Rattle.herm_meaning.specs.Walks.{Walked, ended, left_fields, met_unknown, further, place_of, parts_of, walk}
use Rattle.herm_meaning.specs.DefinitionFaults.{IsNoRecord, IsBadFact, HasTwoCases, HasBadFacts}
use Rattle.herm_graph.specs.Tells.{Tells}
use Rattle.herm_defs.specs.declared.facts.Walked.{Walked as Code}
use Rattle.herm_defs.specs.declared.facts.Walked.TheVariants.{Ended, Left, MetUnknown}
use Rattle.herm_defs.specs.Plain.{is_record, passes}
use Rattle.herm_defs.specs.PlainFacts.{walked_as, has_left, no_component, case_test, marked_bytes, path_key, fact_key, differs, bad_fact, has_bad_fact}
use Rattle.herm_defs.proofs.Finding.{same-bytes}
use Rattle.herm_defs.proofs.Places.{at-place, there-below, equal-bytes}

-- ---- a path is told by its bytes

tails : {x y : ℕ} {xs ys : List ℕ} → x ∷ xs ≡ y ∷ ys → xs ≡ ys
tails h = cc

heads : {x y : ℕ} {xs ys : List ℕ} → x ∷ xs ≡ y ∷ ys → x ≡ y
heads h = cc

cut : (a b r s : List ℕ) → marked_bytes a r ≡ marked_bytes b s → (a ≡ b) × (r ≡ s)
cut [] [] r s e = (refl, tails e)
cut [] (y ∷ ys) r s e = absurd (omega (arith, heads e))
cut (x ∷ xs) [] r s e = absurd (omega (arith, heads e))
cut (x ∷ xs) (y ∷ ys) r s e =
    let again = cut xs ys r s (tails (tails e)) in
    (ap (λ z. z ∷ xs) (heads (tails e)) ∙ ap (y ∷◌) again.0, again.1)

marks-some : (n r : List ℕ) → [] ≡ marked_bytes n r → ⊥
marks-some [] r e = absurd cc
marks-some (b ∷ bs) r e = absurd cc

pub same-path : (p q : List Letters) → path_key p ≡ path_key q → p ≡ q
same-path [] [] e = refl
same-path [] (n ∷ ns) e = absurd (marks-some n (path_key ns) e)
same-path (n ∷ ns) [] e = absurd (marks-some n (path_key ns) (sym e))
same-path (m ∷ ms) (n ∷ ns) e =
    let both = cut m n (path_key ms) (path_key ns) e in
    ap (λ z. z ∷ ms) both.0 ∙ ap (n ∷◌) (same-path ms ns both.1)

not-two : (p : List Letters) → 2 ∷ [] ≡ path_key p → ⊥
not-two [] e = absurd cc
not-two ([] ∷ ns) e = absurd (omega (arith, heads e))
not-two ((b ∷ bs) ∷ ns) e = absurd (omega (arith, heads e))

of-key : (f : DeclaredFact) (p : List Letters) → fact_key f ≡ path_key p → (d : Letters) × (f ≡ CaseFact p d)
of-key (InitFact q) p e = absurd (not-two p e)
of-key (FullFact q) p e = absurd (not-two p e)
of-key (CaseFact q d) p e = (d, ap (λ x. CaseFact x d) (same-path q p e))

-- ---- the first case of a path

some-same : {X : Type 0} {a b : X} → Some a ≡ Some b → a ≡ b
some-same h = cc

key-in : (facts : List DeclaredFact) (f : DeclaredFact) → IsIn f facts → IsIn (fact_key f) (map fact_key facts)
key-in [] f i = absurd i
key-in (g ∷ gs) f (inl e) = inl (ap fact_key e)
key-in (g ∷ gs) f (inr i) = inr (key-in gs f i)

got-in : (facts : List DeclaredFact) (i : ℕ) (f : DeclaredFact) → slice_get facts i ≡ Some f → IsIn f facts
got-in [] i f e = absurd cc
got-in (g ∷ gs) zero f e = inl (sym (some-same e))
got-in (g ∷ gs) (suc i) f e = inr (got-in gs i f e)

many-keys : (facts : List DeclaredFact) → length (map fact_key facts) ≡ length facts
many-keys [] = refl
many-keys (f ∷ fs) = ap suc (many-keys fs)

abbrev first : List DeclaredFact → List Letters → Option DeclaredFact
first facts p = slice_get facts (place_of (map fact_key facts) (path_key p))

-- what stands at the place of a path's bytes is a case of the path
first-case : (facts : List DeclaredFact) (p : List Letters) (f : DeclaredFact) → first facts p ≡ Some f → (d : Letters) × (f ≡ CaseFact p d)
first-case facts p f e =
    let i = place_of (map fact_key facts) (path_key p) in
    let there : place_of (map fact_key facts) (path_key p) < length (map fact_key facts) = omega (arith, slice_get_within facts (place_of (map fact_key facts) (path_key p)) f e, many-keys facts) in
    of-key f p (some-same (ap (option_map fact_key) (sym e) ∙ (sym (slice_get-map fact_key facts (place_of (map fact_key facts) (path_key p))) ∙ at-place (map fact_key facts) (path_key p) there)))

has-first : (facts : List DeclaredFact) (p : List Letters) (c : Letters) → IsIn (CaseFact p c) facts → (d : Letters) × (first facts p ≡ Some (CaseFact p d))
has-first facts p c i = by (first facts p) refl (sym (slice_get-map fact_key facts (place_of (map fact_key facts) (path_key p))) ∙ at-place (map fact_key facts) (path_key p) (there-below (map fact_key facts) (path_key p) (key-in facts (CaseFact p c) i)))
  where
    by : (o : Option DeclaredFact) → first facts p ≡ o → option_map fact_key o ≡ Some (path_key p) → (d : Letters) × (first facts p ≡ Some (CaseFact p d))
    by None e k = absurd cc
    by (Some f) e k = let r = of-key f p (some-same k) in (r.0, e ∙ ap Some r.1)

-- ---- one fact

true-or : (a b : Bool) → (a || b) ≡ true → (a ≡ true) ⊎ (b ≡ true)
true-or true b e = inl refl
true-or false b e = inr e

true-and : (a b : Bool) → (a && b) ≡ true → (a ≡ true) × (b ≡ true)
true-and true b e = (refl, e)
true-and false b e = absurd (true≢false (sym e))

or-true : (a b : Bool) → b ≡ true → (a || b) ≡ true
or-true true b e = refl
or-true false b e = e

no-part : (s : Shape) (i : ℕ) → no_component s i ≡ true → component_count s ≤ i
no-part boolean i e = omega arith
no-part integer i e = omega arith
no-part text i e = omega arith
no-part polymorph i e = omega arith
no-part (names count) i e = omega arith
no-part (fields ts) i e = omega arith
no-part (cases ts) i e = by (nat_lt i (length ts)) refl e
  where
    by : (b : Bool) → nat_lt i (length ts) ≡ b → not b ≡ true → length ts ≤ i
    by true l h = absurd (true≢false (sym h))
    by false l h = omega (arith, ltb-false i (length ts) l)
no-part (rows row key) i e = omega arith
no-part (inport message declared) i e = omega arith
no-part (outport port) i e = omega arith
no-part (callmessage ps raises) i e = omega arith

part-none : (s : Shape) (i : ℕ) → component_count s ≤ i → no_component s i ≡ true
part-none boolean i l = refl
part-none integer i l = refl
part-none text i l = refl
part-none polymorph i l = refl
part-none (names count) i l = refl
part-none (fields ts) i l = refl
part-none (cases ts) i l = by (nat_lt i (length ts)) refl
  where
    by : (b : Bool) → nat_lt i (length ts) ≡ b → not b ≡ true
    by true e = absurd (omega (arith, ltb-true i (length ts) e, l))
    by false e = refl
part-none (rows row key) i l = refl
part-none (inport message declared) i l = refl
part-none (outport port) i l = refl
part-none (callmessage ps raises) i l = refl

module _ (table : NamedTable) (message : ℕ) where
  left-is : (p : List Letters) → has_left (walked_as (walk table message p)) ≡ true → walk table message p ≡ left_fields
  left-is p e = by (walk table message p) refl e
    where
      by : (w : Walked) → walk table message p ≡ w → has_left (walked_as w) ≡ true → walk table message p ≡ left_fields
      by (ended ps t) h f = absurd (true≢false (sym f))
      by left_fields h f = h
      by met_unknown h f = absurd (true≢false (sym f))

  passed : (test : Shape → Bool) (t : ℕ) → passes test table.shapes t ≡ true → (s : Shape) × (slice_get table.shapes t ≡ Some s) × (test s ≡ true)
  passed test t e = by (slice_get table.shapes t) refl e
    where
      by : (o : Option Shape) → slice_get table.shapes t ≡ o → map_or false test o ≡ true → (s : Shape) × (slice_get table.shapes t ≡ Some s) × (test s ≡ true)
      by None h f = absurd (true≢false (sym f))
      by (Some s) h f = (s, h, f)

  passing : (test : Shape → Bool) (t : ℕ) (s : Shape) → slice_get table.shapes t ≡ Some s → test s ≡ true → passes test table.shapes t ≡ true
  passing test t s h e = ap (map_or false test) h ∙ e

  known-passes : (t : ℕ) → IsType table.shapes t → passes (λ s. true) table.shapes t ≡ true
  known-passes t k = by (slice_get table.shapes t) k
    where
      by : (o : Option Shape) → IsTrue (is_some o) → map_or false (λ s. true) o ≡ true
      by None i = absurd (true≢false (sym i))
      by (Some s) i = refl

  module _ (facts : List DeclaredFact) where
    other-case : (p : List Letters) (c : Letters) → differs c (first facts p) ≡ true → (d : Letters) × IsIn (CaseFact p d) facts × (c ≡ d → ⊥)
    other-case p c e = by (first facts p) refl e
      where
        apart : (d : Letters) → not (bytes_eq c d) ≡ true → c ≡ d → ⊥
        apart d n same = true≢false (sym n ∙ ap not (equal-bytes c d same))

        by : (o : Option DeclaredFact) → first facts p ≡ o → differs c o ≡ true → (d : Letters) × IsIn (CaseFact p d) facts × (c ≡ d → ⊥)
        by None h f = absurd (true≢false (sym f))
        by (Some (InitFact q)) h f = absurd (true≢false (sym f))
        by (Some (FullFact q)) h f = absurd (true≢false (sym f))
        by (Some (CaseFact q d)) h f =
            let r = first-case facts p (CaseFact q d) h in
            let same : d ≡ r.0 = components r.1 in
            (d, subst (λ x. IsIn x facts) (r.1 ∙ ap (CaseFact p) (sym same)) (got-in facts (place_of (map fact_key facts) (path_key p)) (CaseFact q d) h), apart d f)
          where
            components : {a b : List Letters} {x y : Letters} → CaseFact a x ≡ CaseFact b y → x ≡ y
            components h' = cc

    bad-case : (p : List Letters) (c : Letters) (w : Walked) → walk table message p ≡ w → IsIn (CaseFact p c) facts → case_test table c (differs c (first facts p)) (walked_as w) ≡ true → IsBadFact table message (CaseFact p c) ⊎ HasTwoCases table message facts
    bad-case p c (ended ps t) h i e = by (true-or (passes (λ s. no_component s (place_of (parts_of table t) c)) table.shapes t) (passes (λ s. true) table.shapes t && differs c (first facts p)) e)
      where
        by : (passes (λ s. no_component s (place_of (parts_of table t) c)) table.shapes t ≡ true) ⊎ ((passes (λ s. true) table.shapes t && differs c (first facts p)) ≡ true) → IsBadFact table message (CaseFact p c) ⊎ HasTwoCases table message facts
        by (inl n) =
            let r = passed (λ s. no_component s (place_of (parts_of table t) c)) t n in
            inl (inr (ps, t, r.0, h, r.1, no-part r.0 (place_of (parts_of table t) c) r.2))
        by (inr n) =
            let both = true-and (passes (λ s. true) table.shapes t) (differs c (first facts p)) n in
            let other = other-case p c both.1 in
            let known = passed (λ s. true) t both.0 in
            inr (p, c, other.0, i, other.1, other.2, ps, t, h, ap is_some known.1)
    bad-case p c left_fields h i e = inl (inl h)
    bad-case p c met_unknown h i e = absurd (true≢false (sym e))

    bad-is : (f : DeclaredFact) → IsIn f facts → bad_fact table message facts f ≡ true → IsBadFact table message f ⊎ HasTwoCases table message facts
    bad-is (InitFact p) i e = inl (left-is p e)
    bad-is (FullFact p) i e = inl (left-is p e)
    bad-is (CaseFact p c) i e = bad-case p c (walk table message p) refl i e

    is-bad : (f : DeclaredFact) → IsBadFact table message f → bad_fact table message facts f ≡ true
    is-bad (InitFact p) h = ap (λ w. has_left (walked_as w)) h
    is-bad (FullFact p) h = ap (λ w. has_left (walked_as w)) h
    is-bad (CaseFact p c) (inl h) = ap (λ w. case_test table c (differs c (first facts p)) (walked_as w)) h
    is-bad (CaseFact p c) (inr (ps, t, s, h, k, l)) =
        ap (λ w. case_test table c (differs c (first facts p)) (walked_as w)) h
        ∙ ap (λ b. b || (passes (λ x. true) table.shapes t && differs c (first facts p))) (passing (λ x. no_component x (place_of (parts_of table t) c)) t s k (part-none s (place_of (parts_of table t) c) l))

    other-bad : (p : List Letters) (c d : Letters) (ps : List ℕ) (t : ℕ) → walk table message p ≡ ended ps t → IsType table.shapes t → first facts p ≡ Some (CaseFact p d) → bytes_eq c d ≡ false → bad_fact table message facts (CaseFact p c) ≡ true
    other-bad p c d ps t h k f n =
        ap (λ w. case_test table c (differs c (first facts p)) (walked_as w)) h
        ∙ or-true (passes (λ s. no_component s (place_of (parts_of table t) c)) table.shapes t) (passes (λ s. true) table.shapes t && differs c (first facts p))
        (ap (λ b. b && differs c (first facts p)) (known-passes t k) ∙ (ap (differs c) f ∙ ap not n))

    two-bad : HasTwoCases table message facts → (f : DeclaredFact) × IsIn f facts × (bad_fact table message facts f ≡ true)
    two-bad (p, c, d, i, j, apart, ps, t, h, k) =
        let first-one = has-first facts p c i in
        by first-one.0 first-one.1 (bytes_eq c first-one.0) (bytes_eq d first-one.0) refl refl
      where
        by : (e : Letters) → first facts p ≡ Some (CaseFact p e) → (a b : Bool) → bytes_eq c e ≡ a → bytes_eq d e ≡ b → (f : DeclaredFact) × IsIn f facts × (bad_fact table message facts f ≡ true)
        by e g false b x y = (CaseFact p c, i, other-bad p c e ps t h k g x)
        by e g true false x y = (CaseFact p d, j, other-bad p d e ps t h k g y)
        by e g true true x y = absurd (apart (same-bytes c e x ∙ sym (same-bytes d e y)))

  any-in : (test : DeclaredFact → Bool) (xs : List DeclaredFact) → list_any test xs ≡ true → (f : DeclaredFact) × IsIn f xs × (test f ≡ true)
  any-in test [] e = absurd (true≢false (sym e))
  any-in test (x ∷ xs) e = by (test x) refl e (any-in test xs)
    where
      by : (b : Bool) → test x ≡ b → (b || list_any test xs) ≡ true → (list_any test xs ≡ true → (f : DeclaredFact) × IsIn f xs × (test f ≡ true)) → (f : DeclaredFact) × IsIn f (x ∷ xs) × (test f ≡ true)
      by true h g again = (x, inl refl, h)
      by false h g again = let r = again g in (r.0, inr r.1, r.2)

  in-any : (test : DeclaredFact → Bool) (xs : List DeclaredFact) (f : DeclaredFact) → IsIn f xs → test f ≡ true → list_any test xs ≡ true
  in-any test [] f i e = absurd i
  in-any test (x ∷ xs) f (inl same) e = ap (λ b. b || list_any test xs) (sym (ap test same) ∙ e)
  in-any test (x ∷ xs) f (inr i) e = or-true (test x) (list_any test xs) (in-any test xs f i e)

  pub facts-told : (facts : List DeclaredFact) → passes is_record table.shapes message ≡ true → Tells (has_bad_fact table message facts) (HasBadFacts table message facts)
  facts-told facts record' = by (has_bad_fact table message facts) refl
    where
      some : (f : DeclaredFact) → IsIn f facts → IsBadFact table message f ⊎ HasTwoCases table message facts → HasBadFacts table message facts
      some f i (inl b) = inr (inl (f, i, b))
      some f i (inr t) = inr (inr t)

      is-some-record : (s : Shape) → slice_get table.shapes message ≡ Some s → is_record s ≡ true → IsNoRecord table message → ⊥
      is-some-record (fields ts) h e none = none ts h
      is-some-record boolean h e none = true≢false (sym e)
      is-some-record integer h e none = true≢false (sym e)
      is-some-record text h e none = true≢false (sym e)
      is-some-record polymorph h e none = true≢false (sym e)
      is-some-record (names count) h e none = true≢false (sym e)
      is-some-record (cases ts) h e none = true≢false (sym e)
      is-some-record (rows row key) h e none = true≢false (sym e)
      is-some-record (inport m declared) h e none = true≢false (sym e)
      is-some-record (outport port) h e none = true≢false (sym e)
      is-some-record (callmessage ps raises) h e none = true≢false (sym e)

      not-any : has_bad_fact table message facts ≡ false → HasBadFacts table message facts → ⊥
      not-any e (inl none) = let r = passed is_record message record' in is-some-record r.0 r.1 r.2 none.1
      not-any e (inr (inl (f, i, b))) = true≢false (sym (in-any (bad_fact table message facts) facts f i (is-bad facts f b)) ∙ e)
      not-any e (inr (inr two)) = let r = two-bad facts two in true≢false (sym (in-any (bad_fact table message facts) facts r.0 r.1 r.2) ∙ e)

      by : (b : Bool) → has_bad_fact table message facts ≡ b → Tells b (HasBadFacts table message facts)
      by true e = let r = any-in (bad_fact table message facts) facts e in some r.0 r.1 (bad-is facts r.0 r.1 r.2)
      by false e = not-any e

  pub no-facts : HasBadFacts table message [] → ⊥
  no-facts (inl n) = n.0 refl
  no-facts (inr (inl (f, i, b))) = i
  no-facts (inr (inr two)) = two.3

  pub no-message : (facts : List DeclaredFact) → (facts ≡ [] → ⊥) → passes is_record table.shapes message ≡ false → HasBadFacts table message facts
  no-message facts some e = inl (some, λ ts h. true≢false (sym (ap (map_or false is_record) h) ∙ e))

-- ---- paths of names

abbrev pub on : Code → (ℕ → Code) → Code
on (Ended t) f = f t
on Left f = Left
on MetUnknown f = MetUnknown

kept-left : (o : Walked) (i : ℕ) → walked_as (further i o) ≡ walked_as o
kept-left (ended ps t) i = refl
kept-left left_fields i = refl
kept-left met_unknown i = refl

module _ (table : NamedTable) (t : ℕ) (name : Letters) where
  abbrev i : ℕ
  i = place_of (parts_of table t) name

  -- one name, and what follows it from there
  pub walk-on : (rest : List Letters) (code : Code) → code ≡ walked_as (walk table t (name ∷ [])) → walked_as (walk table t (name ∷ rest)) ≡ on code (λ u. walked_as (walk table u rest))
  walk-on rest code e = by (slice_get table.shapes t) e
    where
      field : (o : Option ℕ) → code ≡ walked_as (map_or left_fields (λ u. further i (ended [] u)) o) → walked_as (map_or left_fields (λ u. further i (walk table u rest)) o) ≡ on code (λ u. walked_as (walk table u rest))
      field None h = ap (λ c. on c (λ u. walked_as (walk table u rest))) (sym h)
      field (Some u) h = kept-left (walk table u rest) i ∙ ap (λ c. on c (λ v. walked_as (walk table v rest))) (sym h)

      by : (o : Option Shape) → code ≡ walked_as (map_or met_unknown (λ s. map_or left_fields (λ u. further i (ended [] u)) (field_type s i)) o) → walked_as (map_or met_unknown (λ s. map_or left_fields (λ u. further i (walk table u rest)) (field_type s i)) o) ≡ on code (λ u. walked_as (walk table u rest))
      by None h = ap (λ c. on c (λ u. walked_as (walk table u rest))) (sym h)
      by (Some s) h = field (field_type s i) h

pub mark-end : (n r : List ℕ) → marked_bytes n [] ++ r ≡ marked_bytes n r
mark-end [] r = refl
mark-end (b ∷ bs) r = ap (λ xs. 1 ∷ b ∷ xs) (mark-end bs r)

-- one name more of a path
pub key-more : (path : List Name) (i : ℕ) (n : Name) (bytes new whole : List ℕ) → i < length path → n ≡ get_or path i n → new ≡ bytes ++ marked_bytes n.text [] → bytes ++ path_key (map name_view (drop i path)) ≡ whole → new ++ path_key (map name_view (drop (i + 1) path)) ≡ whole
key-more path i n bytes new whole l e more before =
    rw add-one (
    ap (λ xs. xs ++ path_key (map name_view (drop (suc i) path))) more
    ∙ (append_assoc bytes (marked_bytes n.text []) (path_key (map name_view (drop (suc i) path)))
    ∙ (ap (bytes ++◌) (mark-end n.text (path_key (map name_view (drop (suc i) path)))
    ∙ ap (λ (x : Name). marked_bytes x.text (path_key (map name_view (drop (suc i) path)))) e)
    ∙ (sym (ap (λ xs. bytes ++ path_key (map name_view xs)) (drop-cons path i n l)) ∙ before))))

-- one name more on the way
pub walk-next : (table : NamedTable) (list : List Name) (i : ℕ) (n : Name) (t : ℕ) (code : Code) → i < length list → n ≡ get_or list i n → code ≡ walked_as (walk table t (n.text ∷ [])) → walked_as (walk table t (map name_view (drop i list))) ≡ on code (λ u. walked_as (walk table u (map name_view (drop (i + 1) list))))
walk-next table list i n t code l e f =
    rw add-one (
    ap (λ xs. walked_as (walk table t (map name_view xs))) (drop-cons list i n l)
    ∙ (ap (λ (x : Name). walked_as (walk table t (x.text ∷ map name_view (drop (suc i) list)))) (sym e)
    ∙ walk-on table t n.text (map name_view (drop (suc i) list)) code f))
