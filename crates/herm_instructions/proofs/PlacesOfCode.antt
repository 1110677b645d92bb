-- The places of a code module are its instructions in order.
use Rattle.std.proofs.Common.{◌≡◌, ℕ, zero, suc, ◌+◌, List, [], ◌∷◌, Option, Some, slice_get, inl, inr, refl, sym, ap, subst, ◌∙◌, arith}
use Rattle.herm_model.specs.Lists.{IsIn, list_of}
use Rattle.herm_model.specs.Types.{TypeTable}
use Rattle.herm_model.specs.Expressions.{Literal}
use Rattle.herm_model.proofs.Options.{some-injective, none-not_some}
use Rattle.herm_instructions.specs.Instructions.{Instruction}
use Rattle.herm_instructions.specs.Labels.{Label, ListedLabel, listed_at}
use Rattle.herm_instructions.specs.Images.{Landing, CodeModule}
use Rattle.herm_instructions.specs.Places.{Place, first_landings, further_landings, listed_or, goes_on_with, places_from, places}

-- the places have the indices from a first one on
abbrev pub Follow : ℕ → List Place → Type 0
Follow n [] = Unit {0}
Follow n (p ∷ ps) = (p.index ≡ n) × Follow (suc n) ps

-- what is in a list that follows is at its index
pub follow-at : (n : ℕ) (ps : List Place) → Follow n ps → (p : Place) → IsIn p ps → (k : ℕ) × (p.index ≡ n + k) × (slice_get ps k ≡ Some p)
follow-at n [] f p i = absurd i
follow-at n (q ∷ ps) f p (inl e) = (0, ap (λ (r : Place). r.index) e ∙ f.0 ∙ omega arith, ap Some (sym e))
follow-at n (q ∷ ps) f p (inr i) = let r = follow-at (suc n) ps f.1 p i in (suc r.0, r.1 ∙ omega arith, r.2)

-- so two of one index are one
pub follow-one : (ps : List Place) → Follow 0 ps → (p q : Place) → IsIn p ps → IsIn q ps → p.index ≡ q.index → p ≡ q
follow-one ps f p q i j e =
    let a = follow-at 0 ps f p i in
    let b = follow-at 0 ps f q j in
    let k : a.0 ≡ b.0 = omega (arith, a.1, b.1, e) in
    some-injective (sym a.2 ∙ ap (slice_get ps) k ∙ b.2)

module _ (table : TypeTable) (constants : List Literal) (variables : List ℕ) (labels : List ListedLabel) where
  pub places-follow : (code : List Instruction) (a : Option Label) (n : ℕ) (landings : List (List Landing)) → Follow n (places_from table constants variables labels a n code landings)
  places-follow [] a n landings = tt
  places-follow (i ∷ code) a n landings = (refl, places-follow code _ (suc n) (further_landings landings))

  -- a place has the instruction at its index
  pub place-instruction : (code : List Instruction) (a : Option Label) (n : ℕ) (landings : List (List Landing)) (p : Place) → IsIn p (places_from table constants variables labels a n code landings)
      → (k : ℕ) × (p.index ≡ n + k) × (slice_get code k ≡ Some p.instruction)
  place-instruction [] a n landings p i = absurd i
  place-instruction (c ∷ code) a n landings p (inl e) = (0, ap (λ (r : Place). r.index) e ∙ omega arith, ap Some (sym (ap (λ (r : Place). r.instruction) e)))
  place-instruction (c ∷ code) a n landings p (inr i) = let r = place-instruction code _ (suc n) (further_landings landings) p i in (suc r.0, r.1 ∙ omega arith, r.2)

  -- the place of an instruction, by how far it is behind the first one
  pub instruction-place : (code : List Instruction) (a : Option Label) (n : ℕ) (landings : List (List Landing)) (k : ℕ) (i : Instruction) → slice_get code k ≡ Some i
      → (p : Place) × (slice_get (places_from table constants variables labels a n code landings) k ≡ Some p) × (p.index ≡ n + k) × (p.instruction ≡ i)
  instruction-place [] a n landings k i e = none-not_some e
  instruction-place (c ∷ code) a n landings zero i e = (_, refl, omega arith, some-injective e)
  instruction-place (c ∷ code) a n landings (suc k) i e = let r = instruction-place code _ (suc n) (further_landings landings) k i e in (r.0, r.1, r.2 ∙ omega arith, r.3)

  -- its landings
  pub place-landings : (code : List Instruction) (a : Option Label) (n : ℕ) (landings : List (List Landing)) (k : ℕ) (p : Place) → slice_get (places_from table constants variables labels a n code landings) k ≡ Some p → p.landings ≡ list_of (λ ls. ls) (slice_get landings k)
  place-landings [] a n landings k p e = none-not_some e
  place-landings (c ∷ code) a n landings zero p e = sym (ap (λ (q : Place). q.landings) (some-injective e)) ∙ first landings
    where
      first : (landings : List (List Landing)) → first_landings landings ≡ list_of (λ ls. ls) (slice_get landings 0)
      first [] = refl
      first (ls ∷ rest) = refl
  place-landings (c ∷ code) a n landings (suc k) p e = place-landings code _ (suc n) (further_landings landings) k p e ∙ further landings
    where
      further : (landings : List (List Landing)) → list_of (λ ls. ls) (slice_get (further_landings landings) k) ≡ list_of (λ ls. ls) (slice_get landings (suc k))
      further [] = refl
      further (ls ∷ rest) = refl

  -- a listed label holds
  pub listed-label : (code : List Instruction) (a : Option Label) (n : ℕ) (landings : List (List Landing)) (p : Place) → IsIn p (places_from table constants variables labels a n code landings) → (l : Label) → listed_at labels p.index ≡ Some l → p.label ≡ Some l
  listed-label [] a n landings p i l e = absurd i
  listed-label (c ∷ code) a n landings p (inl k) l e =
      ap (λ (q : Place). q.label) k ∙ ap (λ o. listed_or o a) (sym (ap (λ (q : Place). listed_at labels q.index) k) ∙ e)
  listed-label (c ∷ code) a n landings p (inr i) l e = listed-label code _ (suc n) (further_landings landings) p i l e

  -- the label at the first place, and at one behind another
  pub first-label : (code : List Instruction) (a : Option Label) (n : ℕ) (landings : List (List Landing)) (p : Place) → slice_get (places_from table constants variables labels a n code landings) 0 ≡ Some p → p.label ≡ listed_or (listed_at labels n) a
  first-label [] a n landings p e = none-not_some e
  first-label (c ∷ code) a n landings p e = sym (ap (λ (q : Place). q.label) (some-injective e))

  pub next-label : (code : List Instruction) (a : Option Label) (n : ℕ) (landings : List (List Landing)) (k : ℕ) (p q : Place) → slice_get (places_from table constants variables labels a n code landings) k ≡ Some p → slice_get (places_from table constants variables labels a n code landings) (suc k) ≡ Some q
      → q.label ≡ listed_or (listed_at labels q.index) (goes_on_with table constants variables labels p.instruction p.label)
  next-label [] a n landings k p q e f = none-not_some e
  next-label (c ∷ code) a n landings zero p q e f = by code f
    where
      by : (code : List Instruction) → slice_get (places_from table constants variables labels (goes_on_with table constants variables labels c (listed_or (listed_at labels n) a)) (suc n) code (further_landings landings)) 0 ≡ Some q
          → q.label ≡ listed_or (listed_at labels q.index) (goes_on_with table constants variables labels p.instruction p.label)
      by [] f = none-not_some f
      by (d ∷ code) f = subst (λ (r : Place). r.label ≡ listed_or (listed_at labels r.index) (goes_on_with table constants variables labels p.instruction p.label)) (some-injective f)
          (subst (λ (r : Place). listed_or (listed_at labels (suc n)) (goes_on_with table constants variables labels c (listed_or (listed_at labels n) a)) ≡ listed_or (listed_at labels (suc n)) (goes_on_with table constants variables labels r.instruction r.label)) (some-injective e) refl)
  next-label (c ∷ code) a n landings (suc k) p q e f = next-label code _ (suc n) (further_landings landings) k p q e f

module _ (table : TypeTable) (constants : List Literal) (m : CodeModule) where
  pub module-follows : Follow 0 (places table constants m)
  module-follows = places-follow table constants m.variables m.labels m.code _ 0 m.landings

  pub instruction-there : (p : Place) → IsIn p (places table constants m) → slice_get m.code p.index ≡ Some p.instruction
  instruction-there p i =
      let r = place-instruction table constants m.variables m.labels m.code _ 0 m.landings p i in
      let k : p.index ≡ r.0 = omega (arith, r.1) in
      ap (slice_get m.code) k ∙ r.2
