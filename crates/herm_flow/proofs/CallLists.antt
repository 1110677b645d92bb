-- Elements of a list from a place on.
use Rattle.std.proofs.Common.{◌≡◌, ℕ, suc, ◌+◌, ◌<◌, ◌≤◌, List, [], ◌∷◌, ◌++◌, map, drop, length, get_or, Bool, true, false, ◌⊎◌, inl, inr, Option, Some, None, option_map, cond, nat_eq, is_some, IsTrue, refl, sym, ap, ap₂, subst, ◌∙◌, arith, true≢false}
use Rattle.std.proofs.lemmas.Bool.{eq-eqb, eqb-true}
use Rattle.std.proofs.Math.Seq.{drop-cons, drop-length}
use Rattle.herm_base.specs.declared.numbers.VarNo.{VarNo}
use Rattle.herm_model.specs.Lists.{IsIn, any_pass, map_or}
use Rattle.herm_model.specs.Expressions.{Atom}
use Rattle.std.proofs.lemmas.Option.{slice_get_read}
use Rattle.herm_model.proofs.Lists.{in-append_cases, or-either, not_true}
use Rattle.herm_model.proofs.FactTests.{got-IsIn}
use Rattle.herm_typed.specs.declared.expressions.TypedAtom.{TypedAtom}
use Rattle.herm_typed.specs.View.{typed_atom_view}
use Rattle.herm_flow.specs.declared.calls.Head.{Head}
use Rattle.herm_flow.specs.NumberTables.{at_number}

pub next-of : {X : Type 0} (xs : List X) (i : ℕ) (x : X) → i < length xs → x ≡ get_or xs i x → drop i xs ≡ x ∷ drop (i + 1) xs
next-of xs i x within is = let step : suc i ≡ i + 1 = omega arith in drop-cons xs i x within ∙ ap₂ ◌∷◌ (sym is) (ap (λ n. drop n xs) step)

-- an element as the code has it
pub place-in : {X : Type 0} (xs : List X) (i : ℕ) (x : X) → i < length xs → x ≡ get_or xs i x → IsIn x xs
place-in xs i x within is = got-IsIn xs i x (slice_get_read xs (length xs) i x refl within is)

-- a head behind others
pub noted-in : (heads new : List Head) (x h : Head) → new ≡ heads ++ x ∷ [] → IsIn h new → IsIn h heads ⊎ ((h.point ≡ x.point) × (h.touched.items ≡ x.touched.items))
noted-in heads new x h e m = by (in-append_cases h heads (x ∷ []) (subst (IsIn h) e m))
  where
    by : IsIn h heads ⊎ IsIn h (x ∷ []) → IsIn h heads ⊎ ((h.point ≡ x.point) × (h.touched.items ≡ x.touched.items))
    by (inl a) = inl a
    by (inr (inl i)) = inr (ap (λ (y : Head). y.point) i, ap (λ (y : Head). y.touched.items) i)
    by (inr (inr b)) = absurd b

pub next-at : {X : Type 0} (xs : List X) (i : ℕ) (d k : X) → i < length xs → IsIn k (drop i xs) → (k ≡ get_or xs i d) ⊎ IsIn k (drop (i + 1) xs)
next-at xs i d k within m = let step : suc i ≡ i + 1 = omega arith in subst (IsIn k) (drop-cons xs i d within ∙ ap (λ n. get_or xs i d ∷ drop n xs) step) m
