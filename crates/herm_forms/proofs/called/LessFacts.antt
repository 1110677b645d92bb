-- Where nothing is left at several paths, values are sound without the facts at or below them.
use Rattle.std.proofs.Common.{◌≡◌, ◌⊎◌, inl, inr, ℕ, List, [], ◌∷◌, ◌++◌, Bool, true, false, cond, not, ◌&&◌, ◌||◌, refl, sym, subst}
use Rattle.std.specs.Prelude.{IsTrue}
use mathlib.Core.Bool.{false≢true}
use Rattle.herm_model.specs.Lists.{IsIn, any_pass}
use Rattle.herm_model.specs.Paths.{Path, Fact, path_of, is_at_or_below}
use Rattle.herm_model.specs.Values.{Parts, clear_at}
use Rattle.herm_model.specs.Finalising.{clear_all}
use Rattle.herm_model.proofs.Beginnings.{below-trans}
use Rattle.herm_model.proofs.Lists.{or-left, or-right, or-either}
use Rattle.herm_forms.specs.Frames.{Name}
use Rattle.herm_forms.specs.Modules.{Module}
use Rattle.herm_forms.specs.laws.EdgeLaws.{AreSound, without}
use Rattle.herm_forms.proofs.SetValues.{clearing-sound}
use Rattle.herm_forms.proofs.forms.PlainForms.{same_facts}
use Rattle.herm_model.proofs.Keys.{same-tests}

-- at or below one of the paths
abbrev pub is_under : List Path → Path → Bool
is_under paths q = any_pass (λ p. is_at_or_below p q) paths

-- the facts without those at or below the paths
abbrev pub less : List Path → (Fact → Bool) → Fact → Bool
less paths has f = cond (is_under paths (path_of f)) false (has f)

-- the path is not the empty one
abbrev pub IsPath : Path → Type 0
IsPath p = (i : ℕ) × (q : List ℕ) × (p ≡ i ∷ q)

pub under-of : (paths : List Path) (q : Path) → IsTrue (is_under paths q) → (p : Path) × IsIn p paths × IsTrue (is_at_or_below p q)
under-of [] q h = absurd (false≢true h)
under-of (p ∷ paths) q h = by (or-either (is_at_or_below p q) (is_under paths q) h) (λ k. under-of paths q k)
  where
    by : IsTrue (is_at_or_below p q) ⊎ IsTrue (is_under paths q) → (IsTrue (is_under paths q) → (x : Path) × IsIn x paths × IsTrue (is_at_or_below x q)) → (x : Path) × IsIn x (p ∷ paths) × IsTrue (is_at_or_below x q)
    by (inl h) again = (p, inl refl, h)
    by (inr h) again = let r = again h in (r.0, inr r.1, r.2)

pub of-under : (paths : List Path) (q p : Path) → IsIn p paths → IsTrue (is_at_or_below p q) → IsTrue (is_under paths q)
of-under [] q p h k = absurd h
of-under (x ∷ paths) q p (inl e) k = or-left (is_at_or_below x q) (is_under paths q) (subst (λ p. IsTrue (is_at_or_below p q)) e k)
of-under (x ∷ paths) q p (inr h) k = or-right (is_at_or_below x q) (is_under paths q) (of-under paths q p h k)

-- each path is at or below one of the others
abbrev pub AreUnder : List Path → List Path → Type 0
AreUnder others paths = (p : Path) → IsIn p paths → IsTrue (is_under others p)

pub more-under : (paths others : List Path) (q : Path) → AreUnder others paths → IsTrue (is_under paths q) → IsTrue (is_under others q)
more-under paths others q under h =
    let x = under-of paths q h in
    let y = under-of others x.0 (under x.0 x.1) in
    of-under others q y.0 y.1 (below-trans y.0 x.0 q y.2 x.2)

pub same-under : (paths others : List Path) (q : Path) → AreUnder others paths → AreUnder paths others → is_under paths q ≡ is_under others q
same-under paths others q there back = same-tests (is_under paths q) (is_under others q) (more-under paths others q there) (more-under others paths q back)

less-twice : (a b h : Bool) → cond b false (not a && h) ≡ cond (a || b) false h
less-twice true true h = refl
less-twice true false h = refl
less-twice false true h = refl
less-twice false false h = refl

pub less-less : (xs ys : List Path) (has : Fact → Bool) (f : Fact) → less ys (less xs has) f ≡ less (xs ++ ys) has f
less-less [] ys has f = refl
less-less (x ∷ xs) ys has f = by (is_at_or_below x (path_of f)) (is_under ys (path_of f)) (less-less xs ys has f)
  where
    nothing : (b : Bool) → cond b false false ≡ false
    nothing true = refl
    nothing false = refl

    by : (a b : Bool) → cond b false (less xs has f) ≡ less (xs ++ ys) has f → cond b false (cond (a || is_under xs (path_of f)) false (has f)) ≡ cond (a || is_under (xs ++ ys) (path_of f)) false (has f)
    by true b same = nothing b
    by false b same = same

pub all-cleared : (c : Module) (paths : List Path) → ((p : Path) → IsIn p paths → IsPath p) → (has : Fact → Bool) (ps : Parts Name) → AreSound c has ps → AreSound c (less paths has) (clear_all paths ps)
all-cleared c [] are has ps sound = sound
all-cleared c (p ∷ paths) are has ps sound =
    let x = are p (inl refl) in
    let first = subst (λ p. AreSound c (without p has) (clear_at p ps)) (sym x.2) (clearing-sound c has x.0 x.1 ps sound) in
    same_facts c (less paths (without p has)) (less (p ∷ paths) has) (clear_all paths (clear_at p ps))
    (λ f. less-twice (is_at_or_below p (path_of f)) (is_under paths (path_of f)) (has f))
    (all-cleared c paths (λ p h. are p (inr h)) (without p has) (clear_at p ps) first)
