-- The excess of sets of facts that are the same, and of the start.
use Rattle.std.proofs.Common.{◌≡◌, ℕ, List, [], ◌∷◌, ◌++◌, Bool, true, false, cond, not, inl, inr, IsTrue, IsFalse, refl, sym, ◌∙◌, ap, subst}
use mathlib.Core.Path.{fun_ext}
use mathlib.Core.Bool.{false≢true}
use Rattle.herm_model.specs.Lists.{IsIn}
use Rattle.herm_model.specs.Paths.{Path, Fact, init}
use Rattle.herm_model.specs.ControlPaths.{held_at_start}
use Rattle.herm_model.specs.laws.ExcessLaws.{IsExcess, is_beyond}
use Rattle.herm_model.proofs.Lists.{and-both}
use Rattle.herm_model.proofs.Equality.{same_numbers-is}

pub here-same : (here other low : Fact → Bool) (xs : List Path) → ((f : Fact) → here f ≡ other f) → IsExcess here low xs → IsExcess other low xs
here-same here other low xs e h = subst (λ g. IsExcess g low xs) (fun_ext e) h

pub low-same : (here low other : Fact → Bool) (xs : List Path) → ((f : Fact) → low f ≡ other f) → IsExcess here low xs → IsExcess here other xs
low-same here low other xs e h = subst (λ g. IsExcess here g xs) (fun_ext e) h

-- The start has a value at the port and nowhere else.
at-port : (x : Path) → IsTrue (held_at_start (init x)) → x ≡ 0 ∷ []
at-port x h = same_numbers-is x (0 ∷ []) h

by-kept : (low : Fact → Bool) → low (init (0 ∷ [])) ≡ true → (x : Path) → IsTrue (is_beyond held_at_start low x) → ⊥
by-kept low kept x h =
    let both = and-both (held_at_start (init x)) (not (low (init x))) h in
    let is = at-port x both.0 in
    false≢true (sym (ap not (ap (λ p. low (init p)) is ∙ kept)) ∙ both.1)

no-more : (i : ℕ) (q : Path) (more : List ℕ) → 0 ∷ [] ≡ q ++ i ∷ more → (low : Fact → Bool) → IsFalse (is_beyond held_at_start low q)
no-more i [] more e low = refl
no-more i (j ∷ []) more e low = absurd (let k : ⊥ = cc in k)
no-more i (j ∷ l ∷ q) more e low = absurd (let k : ⊥ = cc in k)

pub entry-excess : (low : Fact → Bool) (b : Bool) → low (init (0 ∷ [])) ≡ b → IsExcess held_at_start low (cond b [] ((0 ∷ []) ∷ []))
entry-excess low true kept = record { order = tt; topmost = λ x. (λ h. absurd h, λ h. absurd (by-kept low kept x h.0)) }
entry-excess low false kept = record {
  order = (λ y h. absurd h, tt);
  topmost = λ x. (there x, λ h. inl (at-port x (and-both (held_at_start (init x)) (not (low (init x))) h.0).0));
}
  where
    there : (x : Path) → IsIn x ((0 ∷ []) ∷ []) → IsTrue (is_beyond held_at_start low x) × ((q : Path) (i : ℕ) (more : List ℕ) → x ≡ q ++ i ∷ more → IsFalse (is_beyond held_at_start low q))
    there x (inl e) = (ap (is_beyond held_at_start low) e ∙ ap not kept, λ q i more is. no-more i q more (sym e ∙ is) low)
    there x (inr h) = absurd h
