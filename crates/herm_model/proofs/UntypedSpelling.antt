-- Well made values are told by their texts, also where more follows that cannot go on with them.
use Rattle.std.proofs.Common.{◌≡◌, ◌≢◌, ℕ, List, [], ◌∷◌, ◌++◌, map, Bool, true, false, cond, ◌&&◌, nat_eq, pos, negsuc, IsTrue, IsFalse, refl, sym, ap, ap₂, subst, ◌∙◌, arith, append_assoc}
use Rattle.std.specs.Bool.{⊤}
use Rattle.herm_model.specs.Lists.{all_pass}
use Rattle.herm_model.specs.Values.{Scalar, a_boolean, an_integer, a_text, a_tag, Kind, a_scalar, a_record, a_variant, a_table, a_polymorph, a_callmessage, an_inport, an_outport, cell, Parts, no_parts, gap, part, Value}
use Rattle.herm_model.specs.ValueTexts.{numeral, opening, closing, text_of, parts_text, is_digit}
use Rattle.herm_model.specs.WellMade.{is_without_places, is_one_part, suits_kind, is_well_made, are_well_made, may_go_on}
use Rattle.herm_model.proofs.Lists.{not_true, and-both, cons-head, cons-tail, cons-not_nil}
use Rattle.herm_model.proofs.Numerals.{AreDigits, numeral-digits, numeral-starts}
use Rattle.herm_model.proofs.Spelling.{append-cancel, family, ends_in_digit, NoDigit, Apart, opening-split, IsStart, cell-starts, separator, behind, cell-regroup, gap-step, part-step, gap-not_part}
use Rattle.herm_model.proofs.TypedPaths.{or-falses}

abbrev Free : List ℕ → Type 0
Free bytes = IsFalse (may_go_on bytes)

free-no_digit : (X : List ℕ) → Free X → NoDigit X
free-no_digit [] h = refl
free-no_digit (b ∷ X) h = (or-falses (is_digit b) _ h).0

-- The family of kinds that a text begins with: by its first byte, and by what stands behind the digits that it begins
-- with.
abbrev behind_digits : List ℕ → List ℕ
behind_digits [] = []
behind_digits (b ∷ bytes) = cond (is_digit b) (behind_digits bytes) (b ∷ bytes)

abbrev begins_with_mark : List ℕ → Bool
begins_with_mark [] = false
begins_with_mark (b ∷ bytes) = nat_eq b 33

abbrev family_of_sign : ℕ → ℕ
family_of_sign b = cond (nat_eq b 45) 1 (cond (nat_eq b 34) 2 (cond (nat_eq b 35) 3 (cond (nat_eq b 123) 4 (cond (nat_eq b 91) 6 (cond (nat_eq b 60) 7 (cond (nat_eq b 40) 8 (cond (nat_eq b 64) 9 (cond (nat_eq b 62) 10 0))))))))

abbrev family_told : List ℕ → ℕ
family_told [] = 11
family_told (b ∷ bytes) = cond (is_digit b) (cond (begins_with_mark (behind_digits (b ∷ bytes))) 5 1) (family_of_sign b)

behind_digits-all : (xs X : List ℕ) → AreDigits xs → NoDigit X → behind_digits (xs ++ X) ≡ X
behind_digits-all [] [] d h = refl
behind_digits-all [] (x ∷ X) d h = ap (λ b. cond b (behind_digits X) (x ∷ X)) h
behind_digits-all (x ∷ xs) X d h = ap (λ b. cond b (behind_digits (xs ++ X)) (x ∷ (xs ++ X))) d.0 ∙ behind_digits-all xs X d.1 h

number-family : (n : ℕ) (X : List ℕ) → NoDigit X → family_told (numeral n ++ X) ≡ cond (begins_with_mark X) 5 1
number-family n X h =
    let t = numeral-starts n in
    ap (λ ys. family_told (ys ++ X)) t.2
    ∙ ap (λ b. cond b (cond (begins_with_mark (behind_digits (t.0 ∷ (t.1 ++ X)))) 5 1) (family_of_sign t.0)) t.3
    ∙ ap (λ ys. cond (begins_with_mark ys) 5 1) (ap (λ ys. behind_digits (ys ++ X)) (sym t.2) ∙ behind_digits-all (numeral n) X (numeral-digits n) h)

abbrev is_number : Kind → Bool
is_number (a_scalar (an_integer z)) = true
is_number k = false

free-no_mark : (X : List ℕ) → Free X → begins_with_mark X ≡ false
free-no_mark [] h = refl
free-no_mark (b ∷ X) h = (or-falses (is_digit b) _ h).1

family-told : (k : Kind) (X : List ℕ) → (IsTrue (is_number k) → Free X) → family_told (opening k ++ X) ≡ family k
family-told (a_scalar (a_boolean true)) X h = refl
family-told (a_scalar (a_boolean false)) X h = refl
family-told (a_scalar (an_integer (pos n))) X h = number-family n X (free-no_digit X (h refl)) ∙ ap (λ b. cond b 5 1) (free-no_mark X (h refl))
family-told (a_scalar (an_integer (negsuc n))) X h = refl
family-told (a_scalar (a_text s)) X h = refl
family-told (a_scalar (a_tag i)) X h = refl
family-told a_record X h = refl
family-told (a_variant c) X h = ap family_told (append_assoc (numeral c) (33 ∷ []) X) ∙ number-family c (33 ∷ X) refl
family-told a_table X h = refl
family-told (a_polymorph t) X h = refl
family-told (a_callmessage i m) X h = refl
family-told (an_inport p) X h = refl
family-told (an_outport p) X h = refl

-- what stands between a cell's opening and what follows, where it has no parts
without-places : {N : Type 0} (ps : Parts N) → IsTrue (is_without_places ps) → ps ≡ no_parts
without-places no_parts h = refl
without-places (gap ps) h = not_true h
without-places (part c ps) h = not_true h

leaf-empty : (k : Kind) (ps : Parts ⊤) → IsTrue (suits_kind k ps) → IsTrue (ends_in_digit k) → ps ≡ no_parts
leaf-empty (a_scalar s) ps h x = without-places ps h
leaf-empty (an_inport p) ps h x = without-places ps h
leaf-empty (an_outport p) ps h x = without-places ps h
leaf-empty k ps h x = not_true x

number-ends : (k : Kind) → IsTrue (is_number k) → IsTrue (ends_in_digit k)
number-ends (a_scalar (an_integer z)) h = refl
number-ends k h = not_true h

digit-closing : (k : Kind) (r : List ℕ) → IsTrue (ends_in_digit k) → closing k ++ r ≡ r
digit-closing (a_scalar s) r h = refl
digit-closing (an_inport p) r h = refl
digit-closing (an_outport p) r h = refl
digit-closing k r h = not_true h

leaf-behind : (k : Kind) (ps : Parts ⊤) (r : List ℕ) → IsTrue (suits_kind k ps) → IsTrue (ends_in_digit k) → behind k ps r ≡ r
leaf-behind k ps r h x = ap (λ qs. behind k qs r) (leaf-empty k ps h x) ∙ digit-closing k r x

free-closing : (k : Kind) (r : List ℕ) → Free r → Free (closing k ++ r)
free-closing a_record r h = refl
free-closing a_table r h = refl
free-closing (a_polymorph t) r h = refl
free-closing (a_callmessage i m) r h = refl
free-closing k r h = h

free-parts : (ps : Parts ⊤) (X : List ℕ) → Free X → Free (parts_text ps (44 ∷ []) ++ X)
free-parts no_parts X h = h
free-parts (gap ps) X h = refl
free-parts (part c ps) X h = refl

-- a byte behind the last part, which begins no part and no value
pub record IsClose (z : ℕ) : Type 0 where
  pub comma : z ≢ 44
  pub line : z ≢ 95
  pub start : (b : ℕ) → IsStart b → b ≢ z

abbrev Ends : List ℕ → Type 0
Ends X = (z : ℕ) × (Z : List ℕ) × (X ≡ z ∷ Z) × IsClose z

brace-ends : (Z : List ℕ) → Ends (125 ∷ Z)
brace-ends Z = (125, Z, refl, record { comma = λ e. omega (arith, e); line = λ e. omega (arith, e); start = λ b s. s.brace })

bracket-ends : (Z : List ℕ) → Ends (93 ∷ Z)
bracket-ends Z = (93, Z, refl, record { comma = λ e. omega (arith, e); line = λ e. omega (arith, e); start = λ b s. s.bracket })

parenthesis-ends : (Z : List ℕ) → Ends (41 ∷ Z)
parenthesis-ends Z = (41, Z, refl, record { comma = λ e. omega (arith, e); line = λ e. omega (arith, e); start = λ b s. s.parenthesis })

end-not_gap : {R : Type 0} (first : Bool) (Q X Y : List ℕ) → Ends X → X ≡ (separator first ++ (95 ∷ Q)) ++ Y → R
end-not_gap true Q X Y u e = absurd (u.3.line (cons-head (sym u.2 ∙ e)))
end-not_gap false Q X Y u e = absurd (u.3.comma (cons-head (sym u.2 ∙ e)))

end-not_part : {R : Type 0} (first : Bool) (Q X Y : List ℕ) (c : Value) → Ends X → X ≡ (separator first ++ (text_of c ++ Q)) ++ Y → R
end-not_part true Q X Y c u e = let s = cell-starts c (Q ++ Y) in absurd (u.3.start s.0 s.3 (sym (cons-head (sym u.2 ∙ e ∙ append_assoc (text_of c) Q Y ∙ s.2))))
end-not_part false Q X Y c u e = absurd (u.3.comma (cons-head (sym u.2 ∙ e)))

abbrev SplitsValue : Value → Type 0
SplitsValue c = (d : Value) (r s : List ℕ) → IsTrue (is_well_made c) → IsTrue (is_well_made d) → Free r → Free s → text_of c ++ r ≡ text_of d ++ s → (c ≡ d) × (r ≡ s)

abbrev SplitsParts : Parts ⊤ → Type 0
SplitsParts ps = (qs : Parts ⊤) (first : Bool) (X Y : List ℕ) → IsTrue (are_well_made ps) → IsTrue (are_well_made qs) → Free X → Free Y → Ends X → Ends Y → parts_text ps (separator first) ++ X ≡ parts_text qs (separator first) ++ Y → (ps ≡ qs) × (X ≡ Y)

abbrev SplitsFirst : Parts ⊤ → Type 0
SplitsFirst no_parts = Unit {0}
SplitsFirst (gap ps) = Unit {0}
SplitsFirst (part c ps) = SplitsValue c

one-split : (ps qs : Parts ⊤) (X Y : List ℕ) → IsTrue (is_one_part ps) → IsTrue (is_one_part qs) → IsTrue (are_well_made ps) → IsTrue (are_well_made qs) → SplitsFirst ps → Free X → Free Y → parts_text ps [] ++ X ≡ parts_text qs [] ++ Y → (ps ≡ qs) × (X ≡ Y)
one-split no_parts qs X Y h g v w again x y e = not_true h
one-split (gap ps) qs X Y h g v w again x y e = not_true h
one-split ps no_parts X Y h g v w again x y e = not_true g
one-split ps (gap qs) X Y h g v w again x y e = not_true g
one-split (part c (gap ps)) qs X Y h g v w again x y e = not_true h
one-split (part c (part d ps)) qs X Y h g v w again x y e = not_true h
one-split ps (part c (gap qs)) X Y h g v w again x y e = not_true g
one-split ps (part c (part d qs)) X Y h g v w again x y e = not_true g
one-split (part c no_parts) (part d no_parts) X Y h g v w again x y e =
    let t = again d X Y (and-both (is_well_made c) _ v).0 (and-both (is_well_made d) _ w).0 x y (part-step [] (text_of c) (text_of d) [] [] X Y e) in
    (ap (λ a. part a no_parts) t.0, t.1)

-- what a kind opens with has been told: the parts, and what follows
abbrev SplitsContent : Kind → Type 0
SplitsContent k = (ps qs : Parts ⊤) (r s : List ℕ) → IsTrue (suits_kind k ps) → IsTrue (suits_kind k qs) → IsTrue (are_well_made ps) → IsTrue (are_well_made qs) → SplitsFirst ps → SplitsParts ps → Free r → Free s → behind k ps r ≡ behind k qs s → (ps ≡ qs) × (r ≡ s)

leaf-split : (k : Kind) → IsTrue (ends_in_digit k) → SplitsContent k
leaf-split k z ps qs r s h g v w one again x y e = (leaf-empty k ps h z ∙ sym (leaf-empty k qs g z), sym (leaf-behind k ps r h z) ∙ e ∙ leaf-behind k qs s g z)

scalar-content : (a : Scalar) → SplitsContent (a_scalar a)
scalar-content a ps qs r s h g v w one again x y e =
    let p = without-places ps h in
    let q = without-places qs g in
    (p ∙ sym q, ap (λ j. behind (a_scalar a) j r) (sym p) ∙ e ∙ ap (λ j. behind (a_scalar a) j s) q)

open-split : (k : Kind) → ((r : List ℕ) → Ends (closing k ++ r)) → SplitsContent k
open-split k ends ps qs r s h g v w one again x y e =
    let t = again qs true (closing k ++ r) (closing k ++ s) v w (free-closing k r x) (free-closing k s y) (ends r) (ends s) e in
    (t.0, append-cancel (closing k) r s t.1)

single-split : (k : Kind) (ps qs : Parts ⊤) (r s : List ℕ) → IsTrue (is_one_part ps) → IsTrue (is_one_part qs) → IsTrue (are_well_made ps) → IsTrue (are_well_made qs) → SplitsFirst ps → Free r → Free s → behind k ps r ≡ behind k qs s → (ps ≡ qs) × (r ≡ s)
single-split k ps qs r s h g v w one x y e =
    let t = one-split ps qs (closing k ++ r) (closing k ++ s) h g v w one (free-closing k r x) (free-closing k s y) e in
    (t.0, append-cancel (closing k) r s t.1)

content-split : (k : Kind) → SplitsContent k
content-split (a_scalar a) = scalar-content a
content-split a_record = open-split a_record brace-ends
content-split (a_variant c) = λ ps qs r s h g v w one again x y e. single-split (a_variant c) ps qs r s h g v w one x y e
content-split a_table = open-split a_table bracket-ends
content-split (a_polymorph t) = λ ps qs r s h g v w one again x y e. single-split (a_polymorph t) ps qs r s h g v w one x y e
content-split (a_callmessage i m) = open-split (a_callmessage i m) parenthesis-ends
content-split (an_inport p) = leaf-split (an_inport p) refl
content-split (an_outport p) = leaf-split (an_outport p) refl

leaf-apart : (k : Kind) (ps : Parts ⊤) (r : List ℕ) → IsTrue (suits_kind k ps) → Free r → Apart k (behind k ps r)
leaf-apart k ps r h x z = subst NoDigit (sym (leaf-behind k ps r h z)) (free-no_digit r x)

leaf-free : (k : Kind) (ps : Parts ⊤) (r : List ℕ) → IsTrue (suits_kind k ps) → Free r → IsTrue (is_number k) → Free (behind k ps r)
leaf-free k ps r h x z = subst Free (sym (leaf-behind k ps r h (number-ends k z))) x

-- the kinds are alike, then the parts, and then what follows
cell-split : (n m : ⊤) (k l : Kind) (ps qs : Parts ⊤) (r s : List ℕ) → SplitsFirst ps → SplitsParts ps → IsTrue (suits_kind k ps && are_well_made ps) → IsTrue (suits_kind l qs && are_well_made qs) → Free r → Free s → opening k ++ behind k ps r ≡ opening l ++ behind l qs s → (cell n k ps ≡ cell m l qs) × (r ≡ s)
cell-split n m k l ps qs r s one again h g x y e = joined (opening-split k l alike (behind k ps r) (behind l qs s) (leaf-apart k ps r v.0 x) (leaf-apart l qs s w.0 y) e)
  where
    v : IsTrue (suits_kind k ps) × IsTrue (are_well_made ps)
    v = and-both (suits_kind k ps) _ h

    w : IsTrue (suits_kind l qs) × IsTrue (are_well_made qs)
    w = and-both (suits_kind l qs) _ g

    alike : family k ≡ family l
    alike = sym (family-told k (behind k ps r) (leaf-free k ps r v.0 x)) ∙ ap family_told e ∙ family-told l (behind l qs s) (leaf-free l qs s w.0 y)

    joined : (k ≡ l) × (behind k ps r ≡ behind l qs s) → (cell n k ps ≡ cell m l qs) × (r ≡ s)
    joined o =
        let t = content-split k ps qs r s v.0 (subst (λ j. IsTrue (suits_kind j qs)) (sym o.0) w.0) v.1 w.1 one again x y (o.1 ∙ ap (λ j. behind j qs s) (sym o.0)) in
        (ap₂ (cell n) o.0 t.0, t.1)

mutual
  pub value-split : (a : Value) → SplitsValue a
  value-split (cell n k ps) (cell m l qs) r s h g x y e = cell-split n m k l ps qs r s (first-split ps) (parts-split ps) h g x y (sym (cell-regroup n k ps r) ∙ e ∙ cell-regroup m l qs s)

  first-split : (ps : Parts ⊤) → SplitsFirst ps
  first-split no_parts = tt
  first-split (gap ps) = tt
  first-split (part c ps) = value-split c

  parts-split : (ps : Parts ⊤) → SplitsParts ps
  parts-split no_parts no_parts first X Y h g x y u v e = (refl, e)
  parts-split no_parts (gap qs) first X Y h g x y u v e = end-not_gap first (parts_text qs (44 ∷ [])) X Y u e
  parts-split no_parts (part b qs) first X Y h g x y u v e = end-not_part first (parts_text qs (44 ∷ [])) X Y b u e
  parts-split (gap ps) no_parts first X Y h g x y u v e = end-not_gap first (parts_text ps (44 ∷ [])) Y X v (sym e)
  parts-split (gap ps) (gap qs) first X Y h g x y u v e =
      let t = parts-split ps qs false X Y h g x y u v (gap-step (separator first) (parts_text ps (44 ∷ [])) (parts_text qs (44 ∷ [])) X Y e) in (ap gap t.0, t.1)
  parts-split (gap ps) (part b qs) first X Y h g x y u v e = gap-not_part (separator first) (parts_text ps (44 ∷ [])) (parts_text qs (44 ∷ [])) X Y b e
  parts-split (part a ps) no_parts first X Y h g x y u v e = end-not_part first (parts_text ps (44 ∷ [])) Y X a v (sym e)
  parts-split (part a ps) (gap qs) first X Y h g x y u v e = gap-not_part (separator first) (parts_text qs (44 ∷ [])) (parts_text ps (44 ∷ [])) Y X a (sym e)
  parts-split (part a ps) (part b qs) first X Y h g x y u v e =
      let i = and-both (is_well_made a) _ h in
      let j = and-both (is_well_made b) _ g in
      let c = value-split a b (parts_text ps (44 ∷ []) ++ X) (parts_text qs (44 ∷ []) ++ Y) i.0 j.0 (free-parts ps X x) (free-parts qs Y y) (part-step (separator first) (text_of a) (text_of b) (parts_text ps (44 ∷ [])) (parts_text qs (44 ∷ [])) X Y e) in
      let t = parts-split ps qs false X Y i.1 j.1 x y u v c.1 in (ap₂ part c.0 t.0, t.1)

pub lists-split : (xs ys : List Value) → IsTrue (all_pass is_well_made xs) → IsTrue (all_pass is_well_made ys) → map text_of xs ≡ map text_of ys → xs ≡ ys
lists-split [] [] h g e = refl
lists-split [] (y ∷ ys) h g e = cons-not_nil (text_of y) (map text_of ys) (sym e)
lists-split (x ∷ xs) [] h g e = cons-not_nil (text_of x) (map text_of xs) e
lists-split (x ∷ xs) (y ∷ ys) h g e =
    let i = and-both (is_well_made x) _ h in
    let j = and-both (is_well_made y) _ g in
    ap₂ ◌∷◌ (value-split x y [] [] i.0 j.0 refl refl (ap (◌++ []) (cons-head e))).0 (lists-split xs ys i.1 j.1 (cons-tail e))
