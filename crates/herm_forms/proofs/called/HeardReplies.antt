-- Replies that an open call waits for keep values sound.
use Rattle.std.proofs.Common.{◌≡◌, ◌⊎◌, inl, inr, ℕ, List, [], ◌∷◌, ◌++◌, Bool, true, false, cond, not, ◌&&◌, ◌||◌, nat_eq, Some, None, refl, sym, ap, ◌∙◌, subst}
use Rattle.std.proofs.lemmas.List.{append-nil}
use Rattle.std.specs.Prelude.{filter, IsTrue}
use mathlib.Core.Bool.{true≢false, false≢true}
use borrow.Author.Tests.{eqb-true, eq-eqb}
use Rattle.herm_model.specs.Lists.{IsIn, same_numbers, any_pass}
use Rattle.herm_model.specs.Paths.{Path, Fact, path_of, same_path, same_fact, is_at_or_below, are_apart}
use Rattle.herm_model.specs.Types.{type_at, is_within_depth, greatest_depth}
use Rattle.herm_model.specs.Statements.{Call}
use Rattle.herm_model.specs.FactsOfStatements.{full, full_of_each, closed, kept_by_call}
use Rattle.herm_model.specs.Outcomes.{Outcome, ok, raised}
use Rattle.herm_model.specs.Values.{Cell, cell_at, has_place, put_at}
use Rattle.herm_model.specs.Typed.{IsFull}
use Rattle.herm_model.proofs.Beginnings.{below-self}
use Rattle.herm_model.proofs.FactTests.{listed-IsIn}
use Rattle.herm_model.proofs.Lists.{and-both, both-and, or-either, in-append_left, in-append_right, in-append_cases, in-filter, in-filter_from}
use Rattle.herm_model.proofs.Options.{none-not_some}
use Rattle.herm_model.proofs.Typing.{full-typed}
use Rattle.herm_forms.specs.Frames.{Name, Frame, goes, stuck, put, drop, putting_all}
use Rattle.herm_forms.specs.Modules.{Module}
use Rattle.herm_forms.specs.OpenCalls.{Calling, returned_types, kept_types}
use Rattle.herm_journal.specs.Messages.{AreFull}
use Rattle.herm_forms.specs.laws.EdgeLaws.{AreSound, held_after}
use Rattle.herm_forms.specs.laws.CallLaws.{HasTargets, HaveTypesAt, RepliesKeepSound}
use Rattle.herm_model.specs.TypedStatements.{AreApart}
use Rattle.herm_forms.proofs.Arrived.{old-variables, drop-variables}
use Rattle.herm_forms.proofs.SetValues.{typed-set}
use Rattle.herm_forms.proofs.forms.PlainForms.{same_body, same_outcome_of, never, same_facts}
use Rattle.herm_forms.proofs.forms.SetTargets.{setting-told, full-makes}
use Rattle.herm_forms.proofs.called.LessFacts.{is_under, less, under-of, of-under, AreUnder, same-under, less-less, all-cleared}
use Rattle.herm_forms.proofs.called.OpenCalls.{moved, outs, set, out-set, inout-set, set-split, typed-path}
use Rattle.herm_forms.proofs.called.ApartPaths.{made-apart, made-joined}

pub none-under : (paths : List Path) (q : Path) → ((p : Path) → IsIn p paths → is_at_or_below p q ≡ false) → is_under paths q ≡ false
none-under paths q none = by (is_under paths q) refl
  where
    by : (b : Bool) → is_under paths q ≡ b → b ≡ false
    by false e = refl
    by true e = let x = under-of paths q e in absurd (true≢false (sym x.2 ∙ none x.0 x.1))

-- one value that is set, and then others
joined-cond : (a b x u h : Bool) → (a ≡ true → u ≡ false) → cond b true (cond u false (cond a true (not x && h))) ≡ cond (a || b) true (cond (x || u) false h)
joined-cond true true x u h apart = refl
joined-cond true false x true h apart = absurd (true≢false (apart refl))
joined-cond true false x false h apart = refl
joined-cond false true x u h apart = refl
joined-cond false false true true h apart = refl
joined-cond false false true false h apart = refl
joined-cond false false false true h apart = refl
joined-cond false false false false h apart = refl

module _ (c : Module) where
  -- the facts with full values at the paths, in place of those at the paths and below them
  abbrev with_all : List Path → (Fact → Bool) → Fact → Bool
  with_all xs has f = cond (any_pass (same_fact f) (closed c.types c.variables (full_of_each c.types c.variables xs))) true (less xs has f)

  abbrev pub with_one : Path → (Fact → Bool) → Fact → Bool
  with_one x has f = cond (any_pass (same_fact f) (closed c.types c.variables (full c.types c.variables x))) true (not (is_at_or_below x (path_of f)) && has f)

  pub put-one : (i : ℕ) (q : List ℕ) (t : ℕ) → type_at c.types c.variables (i ∷ q) ≡ Some t → IsTrue (is_within_depth greatest_depth c.types t) → (d : Cell Name) → IsFull c.types t d → (has : Fact → Bool) (b : Frame Name)
      → AreSound c has b.variables → has_place b.variables (i ∷ q) ≡ true → AreSound c (with_one (i ∷ q) has) (put (i ∷ q) d b).variables
  put-one i q t type deep d whole has b sound place =
      let ps = b.variables in
      let typed = full-typed c.types t d whole in
      let made = full c.types c.variables (i ∷ q) in
      let makes = full-makes c i q t type deep d whole in
      let after = typed-set Name c.types q i c.variables t d ps type typed sound.types in
      subst (AreSound c (with_one (i ∷ q) has)) (sym (old-variables (cell_at (i ∷ q) ps) (record b { variables = put_at (i ∷ q) d ps })))
      (setting-told c has i q t d ps sound place type typed made (makes.told ps place after) (makes.values ps place after))

  one-more : (x : Path) (xs : List Path) → ((y : Path) → IsIn y xs → IsTrue (are_apart x y)) → (has : Fact → Bool) (f : Fact) → with_all xs (with_one x has) f ≡ with_all (x ∷ xs) has f
  one-more x xs apart has f =
      let a = any_pass (same_fact f) (closed c.types c.variables (full c.types c.variables x)) in
      let b = any_pass (same_fact f) (closed c.types c.variables (full_of_each c.types c.variables xs)) in
      joined-cond a b (is_at_or_below x (path_of f)) (is_under xs (path_of f)) (has f)
      (λ e. none-under xs (path_of f) (λ y h. made-apart c.types c.variables x y (apart y h) f (listed-IsIn f (closed c.types c.variables (full c.types c.variables x)) e)))
      ∙ ap (λ j. cond j true (cond (is_at_or_below x (path_of f) || is_under xs (path_of f)) false (has f))) (sym (made-joined c.types c.variables (full c.types c.variables x) (full_of_each c.types c.variables xs) f))

  -- full values that are set at paths apart from each other
  sets-sound : (xs : List Path) (ts : List ℕ) → HaveTypesAt c xs ts → AreApart xs → (x : Outcome) (ds : List (Cell Name)) → AreFull c.types ts ds → (has : Fact → Bool) (b : Frame Name) → AreSound c has b.variables
      → (o : Outcome) (b' : Frame Name) → putting_all xs x ds b ≡ goes o b' → AreSound c (with_all xs has) b'.variables × (x ≡ o)
  sets-sound [] [] at apart x [] whole has b sound o b' is = (subst (λ (b : Frame Name). AreSound c has b.variables) (same_body x o b b' is) sound, same_outcome_of x o b b' is)
  sets-sound [] [] at apart x (d ∷ ds) whole has b sound o b' is = absurd whole
  sets-sound [] (t ∷ ts) at apart x ds whole has b sound o b' is = absurd at
  sets-sound (y ∷ xs) [] at apart x ds whole has b sound o b' is = absurd at
  sets-sound (y ∷ xs) (t ∷ ts) at apart x [] whole has b sound o b' is = absurd whole
  sets-sound ([] ∷ xs) (t ∷ ts) at apart x (d ∷ ds) whole has b sound o b' is = none-not_some at.0
  sets-sound ((i ∷ q) ∷ xs) (t ∷ ts) at apart x (d ∷ ds) whole has b sound o b' is =
      by (has_place b.variables (i ∷ q)) refl (λ sound' is'. sets-sound xs ts at.2 apart.1 x ds whole.1 (with_one (i ∷ q) has) (put (i ∷ q) d b) sound' o b' is') is
    where
      by : (p : Bool) → has_place b.variables (i ∷ q) ≡ p
          → (AreSound c (with_one (i ∷ q) has) (put (i ∷ q) d b).variables → putting_all xs x ds (put (i ∷ q) d b) ≡ goes o b' → AreSound c (with_all xs (with_one (i ∷ q) has)) b'.variables × (x ≡ o))
          → cond p (putting_all xs x ds (put (i ∷ q) d b)) stuck ≡ goes o b' → AreSound c (with_all ((i ∷ q) ∷ xs) has) b'.variables × (x ≡ o)
      by false place more is = never o b' is
      by true place more is =
          let r = more (put-one i q t at.0 at.1 d whole.0 has b sound place) is in
          (same_facts c (with_all xs (with_one (i ∷ q) has)) (with_all ((i ∷ q) ∷ xs) has) b'.variables (λ f. one-more (i ∷ q) xs apart.0 has f) r.0, r.1)

same-below : (p x : Path) → IsTrue (same_numbers p x) → is_at_or_below x p ≡ true
same-below [] [] h = refl
same-below [] (j ∷ x) h = absurd (false≢true h)
same-below (i ∷ p) [] h = absurd (false≢true h)
same-below (i ∷ p) (j ∷ x) h = let a = and-both (nat_eq i j) (same_numbers p x) h in both-and (nat_eq j i) (is_at_or_below x p) (eq-eqb j i (sym (eqb-true i j a.0))) (same-below p x a.1)

same-under_some : (p : Path) (xs : List Path) → IsTrue (any_pass (same_path p) xs) → IsTrue (is_under xs p)
same-under_some p [] h = absurd (false≢true h)
same-under_some p (x ∷ xs) h = by (or-either (same_path p x) (any_pass (same_path p) xs) h) (λ k. same-under_some p xs k)
  where
    nothing : (b : Bool) → b || true ≡ true
    nothing true = refl
    nothing false = refl

    by : IsTrue (same_path p x) ⊎ IsTrue (any_pass (same_path p) xs) → (IsTrue (any_pass (same_path p) xs) → IsTrue (is_under xs p)) → IsTrue (is_at_or_below x p || is_under xs p)
    by (inl e) again = ap (λ b. b || is_under xs p) (same-below p x e)
    by (inr k) again = ap (λ b. is_at_or_below x p || b) (again k) ∙ nothing (is_at_or_below x p)

module _ (c : Module) (k : Calling) (has : Fact → Bool) where
  abbrev lent : List Path
  lent = moved c k has

  abbrev sets : List Path
  sets = set c k has

  module _ (typed : HaveTypesAt c sets (returned_types c k)) (apart : AreApart sets) (cells : List (Cell Name)) (whole : AreFull c.types (returned_types c k) cells) (b b' : Frame Name) (o : Outcome) (sound : AreSound c (less lent has) b.variables) where
    lent-set : AreUnder sets (lent ++ sets)
    lent-set p h = by (in-append_cases p lent sets h)
      where
        by : IsIn p lent ⊎ IsIn p sets → IsTrue (is_under sets p)
        by (inl h) = of-under sets p p (inout-set c k has p h) (below-self p)
        by (inr h) = of-under sets p p h (below-self p)

    returned-table : (f : Fact) → with_all c sets (less lent has) f ≡ held_after c.types c.variables (Call k.port k.arguments) ok has f
    returned-table f =
        let made = full_of_each c.types c.variables sets in
        ap (λ h. cond (any_pass (same_fact f) (closed c.types c.variables made)) true h)
        (less-less lent sets has f ∙ ap (λ t. cond t false (has f)) (same-under (lent ++ sets) sets (path_of f) lent-set (λ p h. of-under (lent ++ sets) p p (in-append_right p lent sets h) (below-self p))))
        ∙ ap (λ fs. cond (any_pass (same_fact f) (closed c.types c.variables fs)) true (cond (is_under sets (path_of f)) false (has f))) (sym (append-nil made))
        ∙ ap (λ ps. cond (any_pass (same_fact f) (closed c.types c.variables (made ++ []))) true (cond (is_under ps (path_of f)) false (has f))) (sym (append-nil sets))

    returned-sound : (t : Bool) → cond t (putting_all sets ok cells (record b { call = None })) stuck ≡ goes o b' → AreSound c (held_after c.types c.variables (Call k.port k.arguments) o has) b'.variables
    returned-sound false is = never o b' is
    returned-sound true is =
        let r = sets-sound c sets (returned_types c k) typed apart ok cells whole (less lent has) (record b { call = None }) sound o b' is in
        subst (λ o. AreSound c (held_after c.types c.variables (Call k.port k.arguments) o has) b'.variables) r.1
        (same_facts c (with_all c sets (less lent has)) (held_after c.types c.variables (Call k.port k.arguments) ok has) b'.variables returned-table r.0)

  module _ (e : ℕ) where
    abbrev kept : List Path
    kept = kept_by_call c.types c.variables k.port k.arguments e

    abbrev left : List Path
    left = filter (λ p. not (any_pass (same_path p) kept)) (outs c k has)

    abbrev all : List Path
    all = (lent ++ left) ++ kept

    module _ (targets : HasTargets c k) (typed : HaveTypesAt c kept (kept_types c k e)) (apart : AreApart kept) (among : (p : Path) → IsIn p kept → IsIn p sets)
        (cells : List (Cell Name)) (whole : AreFull c.types (kept_types c k e) cells) (b b' : Frame Name) (o : Outcome) (sound : AreSound c (less lent has) b.variables) where
      left-set : (p : Path) → IsIn p left → IsIn p sets
      left-set p h = out-set c k has p (in-filter_from (λ p. not (any_pass (same_path p) kept)) p (outs c k has) h).0

      all-set : AreUnder sets all
      all-set p h = by (in-append_cases p (lent ++ left) kept h)
        where
          in-set : IsIn p lent ⊎ IsIn p left → IsIn p sets
          in-set (inl h) = inout-set c k has p h
          in-set (inr h) = left-set p h

          by : IsIn p (lent ++ left) ⊎ IsIn p kept → IsTrue (is_under sets p)
          by (inl h) = of-under sets p p (in-set (in-append_cases p lent left h)) (below-self p)
          by (inr h) = of-under sets p p (among p h) (below-self p)

      set-all : AreUnder all sets
      set-all p h = by (set-split c k has p h)
        where
          out : (t : Bool) → any_pass (same_path p) kept ≡ t → IsIn p (outs c k has) → IsTrue (is_under all p)
          out true e h = let x = under-of kept p (same-under_some p kept e) in of-under all p x.0 (in-append_right x.0 (lent ++ left) kept x.1) x.2
          out false e h =
              of-under all p p (in-append_left p (lent ++ left) kept (in-append_right p lent left (in-filter (λ p. not (any_pass (same_path p) kept)) p (outs c k has) h (ap not e)))) (below-self p)

          by : IsIn p lent ⊎ IsIn p (outs c k has) → IsTrue (is_under all p)
          by (inl h) = of-under all p p (in-append_left p (lent ++ left) kept (in-append_left p lent left h)) (below-self p)
          by (inr h) = out (any_pass (same_path p) kept) refl h

      kept-table : (f : Fact) → with_all c kept (less left (less lent has)) f ≡ held_after c.types c.variables (Call k.port k.arguments) (raised e) has f
      kept-table f =
          let made = full_of_each c.types c.variables kept in
          ap (λ h. cond (any_pass (same_fact f) (closed c.types c.variables made)) true (cond (is_under kept (path_of f)) false h)) (less-less lent left has f)
          ∙ ap (λ h. cond (any_pass (same_fact f) (closed c.types c.variables made)) true h)
          (less-less (lent ++ left) kept has f ∙ ap (λ t. cond t false (has f)) (same-under all sets (path_of f) all-set set-all))

      kept-sound : (t : Bool) → cond t (putting_all kept (raised e) cells (drop left (record b { call = None }))) stuck ≡ goes o b' → AreSound c (held_after c.types c.variables (Call k.port k.arguments) o has) b'.variables
      kept-sound false is = never o b' is
      kept-sound true is =
          let heard : Frame Name = record b { call = None } in
          let out = all-cleared c left (λ p h. let t = targets p (left-set p h) in typed-path c p t.0 t.1) (less lent has) b.variables sound in
          let before = subst (AreSound c (less left (less lent has))) (sym (drop-variables left heard)) out in
          let r = sets-sound c kept (kept_types c k e) typed apart (raised e) cells whole (less left (less lent has)) (drop left heard) before o b' is in
          subst (λ o. AreSound c (held_after c.types c.variables (Call k.port k.arguments) o has) b'.variables) r.1
          (same_facts c (with_all c kept (less left (less lent has))) (held_after c.types c.variables (Call k.port k.arguments) (raised e) has) b'.variables kept-table r.0)

pub replies-keep : (c : Module) (k : Calling) → RepliesKeepSound c k
replies-keep c k = record {
  returned = λ typed apart n call cells has b b' o reply sound is. returned-sound c k has typed apart cells reply b b' o sound (nat_eq n call) is;
  by_exception = λ e targets typed apart among n call cells has b b' o reply sound is. kept-sound c k has e targets typed apart among cells reply.1 b b' o sound (nat_eq n call) is;
}
