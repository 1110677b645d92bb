-- Values of one type are told by their texts, also where more follows that does not begin with a digit.
use Rattle.std.proofs.Common.{◌≡◌, ◌≢◌, ◌<◌, pos, negsuc, ℕ, List, [], ◌∷◌, ◌++◌, flat_map, Bool, true, false, not, ◌&&◌, Option, Some, None, slice_get, nat_eq, nat_lt, IsTrue, IsFalse, refl, sym, ap, ap₂, subst, ◌∙◌, arith, append_assoc, true≢false, codes}
use Rattle.herm_model.specs.Types.{Shape, boolean, integer, text, polymorph, names, fields, cases, rows, inport, outport, callmessage, TypeTable}
use Rattle.herm_model.specs.Values.{Scalar, a_boolean, an_integer, a_text, a_tag, Kind, a_scalar, a_record, a_variant, a_table, a_polymorph, a_callmessage, an_inport, an_outport, cell, Parts, no_parts, gap, part, Value}
use Rattle.herm_model.specs.Typed.{Degree, whole, a_value, nothing, Layout, exactly, many, unfit, leaf_if, one_whole, is_integer, is_text, IsOf, Fits}
use Rattle.herm_model.specs.ValueTexts.{numeral, scalar_text, opening, closing, text_of, parts_text, is_digit, begins_with_digit}
use Rattle.herm_model.specs.Escapes.{escaped}
use Rattle.std.specs.Bool.{⊤}
use Rattle.std.proofs.lemmas.Bool.{eq-eqb}
use Rattle.herm_model.proofs.Lists.{not_true, and-both, cons-head, cons-tail}
use Rattle.herm_model.proofs.Numerals.{numeral-split, signed-split, string-split, numeral-starts}
use Rattle.herm_model.proofs.Typing.{layout_of}

pub append-cancel : {X : Type 0} (xs ys zs : List X) → xs ++ ys ≡ xs ++ zs → ys ≡ zs
append-cancel [] ys zs e = e
append-cancel (x ∷ xs) ys zs e = append-cancel xs ys zs (cons-tail e)

-- a number for each kind of cell, by which the kinds of one shape are alike
abbrev pub family : Kind → ℕ
family (a_scalar (a_boolean b)) = 0
family (a_scalar (an_integer z)) = 1
family (a_scalar (a_text s)) = 2
family (a_scalar (a_tag i)) = 3
family a_record = 4
family (a_variant c) = 5
family a_table = 6
family (a_polymorph t) = 7
family (a_callmessage caller call) = 8
family (an_inport p) = 9
family (an_outport p) = 10

abbrev family_of : Option Shape → ℕ
family_of None = 11
family_of (Some boolean) = 0
family_of (Some integer) = 1
family_of (Some text) = 2
family_of (Some (names n)) = 3
family_of (Some (fields ts)) = 4
family_of (Some (cases ts)) = 5
family_of (Some (rows r k)) = 6
family_of (Some polymorph) = 7
family_of (Some (callmessage ps es)) = 8
family_of (Some (inport m d)) = 9
family_of (Some (outport q)) = 10

-- the opening's last byte may be a digit, and then the cell has no parts
abbrev pub ends_in_digit : Kind → Bool
ends_in_digit (a_scalar (an_integer z)) = true
ends_in_digit (a_scalar (a_tag i)) = true
ends_in_digit (an_inport p) = true
ends_in_digit (an_outport p) = true
ends_in_digit k = false

module _ {N : Type 0} (table : TypeTable) (d : Degree) where
  family-fits : (o : Option Shape) (k : Kind) (ps : Parts N) → Fits table (layout_of d o k) ps → family k ≡ family_of o
  family-fits (Some boolean) (a_scalar (a_boolean b)) ps h = refl
  family-fits (Some integer) (a_scalar (an_integer z)) ps h = refl
  family-fits (Some text) (a_scalar (a_text s)) ps h = refl
  family-fits (Some (names n)) (a_scalar (a_tag i)) ps h = refl
  family-fits (Some (fields ts)) a_record ps h = refl
  family-fits (Some (cases ts)) (a_variant c) ps h = refl
  family-fits (Some (rows r k)) a_table ps h = refl
  family-fits (Some polymorph) (a_polymorph t) ps h = refl
  family-fits (Some (callmessage qs es)) (a_callmessage caller call) ps h = refl
  family-fits (Some (inport m f)) (an_inport p) ps h = refl
  family-fits (Some (outport q)) (an_outport p) ps h = refl
  family-fits o k ps h = absurd h

  leaf-empty : (b : Bool) (ps : Parts N) → Fits table (leaf_if b) ps → ps ≡ no_parts
  leaf-empty true no_parts h = refl
  leaf-empty true (gap ps) h = absurd h
  leaf-empty true (part c ps) h = absurd h
  leaf-empty false ps h = absurd h

  no-parts : (o : Option Shape) (k : Kind) (ps : Parts N) → Fits table (layout_of d o k) ps → IsTrue (ends_in_digit k) → ps ≡ no_parts
  no-parts (Some integer) (a_scalar (an_integer z)) ps h x = leaf-empty (is_integer z) ps h
  no-parts (Some (names n)) (a_scalar (a_tag i)) ps h x = leaf-empty (nat_lt i n) ps h
  no-parts (Some (inport m f)) (an_inport p) ps h x = leaf-empty true ps h
  no-parts (Some (outport q)) (an_outport p) ps h x = leaf-empty true ps h
  no-parts o (a_scalar (an_integer z)) ps h x = absurd h
  no-parts o (a_scalar (a_tag i)) ps h x = absurd h
  no-parts o (an_inport p) ps h x = absurd h
  no-parts o (an_outport p) ps h x = absurd h
  no-parts o k ps h x = not_true x

-- how a cell's text begins and ends
abbrev pub NoDigit : List ℕ → Type 0
NoDigit bytes = IsFalse (begins_with_digit bytes)

pub boolean-split : (a b : Bool) (X Y : List ℕ) → scalar_text (a_boolean a) ++ X ≡ scalar_text (a_boolean b) ++ Y → (a ≡ b) × (X ≡ Y)
boolean-split true true X Y e = (refl, append-cancel (codes "true") X Y e)
boolean-split true false X Y e = absurd (omega (arith, cons-head e))
boolean-split false true X Y e = absurd (omega (arith, cons-head e))
boolean-split false false X Y e = (refl, append-cancel (codes "false") X Y e)

-- a number and the byte behind it
pub number-split : (m n b : ℕ) (X Y : List ℕ) → IsFalse (is_digit b) → (numeral m ++ b ∷ []) ++ X ≡ (numeral n ++ b ∷ []) ++ Y → (m ≡ n) × (X ≡ Y)
number-split m n b X Y h e = let t = numeral-split m n (b ∷ X) (b ∷ Y) h h (sym (append_assoc (numeral m) (b ∷ []) X) ∙ e ∙ append_assoc (numeral n) (b ∷ []) Y) in (t.0, cons-tail t.1)

abbrev pub Apart : Kind → List ℕ → Type 0
Apart k X = IsTrue (ends_in_digit k) → NoDigit X

pub scalar-split : (a b : Scalar) → family (a_scalar a) ≡ family (a_scalar b) → (X Y : List ℕ) → Apart (a_scalar a) X → Apart (a_scalar b) Y → scalar_text a ++ X ≡ scalar_text b ++ Y → (a ≡ b) × (X ≡ Y)
scalar-split (a_boolean a) (a_boolean b) f X Y x y e = let t = boolean-split a b X Y e in (ap a_boolean t.0, t.1)
scalar-split (an_integer a) (an_integer b) f X Y x y e = let t = signed-split a b X Y (x refl) (y refl) e in (ap an_integer t.0, t.1)
scalar-split (a_text s) (a_text u) f X Y x y e = let t = string-split s u X Y (sym (append_assoc (flat_map escaped s) (34 ∷ []) X) ∙ cons-tail e ∙ append_assoc (flat_map escaped u) (34 ∷ []) Y) in (ap a_text t.0, t.1)
scalar-split (a_tag i) (a_tag j) f X Y x y e = let t = numeral-split i j X Y (x refl) (y refl) (cons-tail e) in (ap a_tag t.0, t.1)
scalar-split a b f X Y x y e = absurd (omega (arith, f))

scalar-family : (a : Scalar) → family (a_scalar a) < 4
scalar-family (a_boolean b) = omega arith
scalar-family (an_integer z) = omega arith
scalar-family (a_text s) = omega arith
scalar-family (a_tag i) = omega arith

pub opening-split : (k l : Kind) → family k ≡ family l → (X Y : List ℕ) → Apart k X → Apart l Y → opening k ++ X ≡ opening l ++ Y → (k ≡ l) × (X ≡ Y)
opening-split (a_scalar a) (a_scalar b) f X Y x y e = let t = scalar-split a b f X Y x y e in (ap a_scalar t.0, t.1)
opening-split (a_scalar a) l f X Y x y e = absurd (omega (arith, f, scalar-family a))
opening-split k (a_scalar b) f X Y x y e = absurd (omega (arith, f, scalar-family b))
opening-split a_record a_record f X Y x y e = (refl, cons-tail e)
opening-split (a_variant c) (a_variant d) f X Y x y e = let t = number-split c d 33 X Y refl e in (ap a_variant t.0, t.1)
opening-split a_table a_table f X Y x y e = (refl, cons-tail e)
opening-split (a_polymorph t) (a_polymorph u) f X Y x y e = let r = number-split t u 58 X Y refl (cons-tail e) in (ap a_polymorph r.0, r.1)
opening-split (a_callmessage i m) (a_callmessage j n) f X Y x y e =
    let t = numeral-split i j (44 ∷ ((numeral m ++ 58 ∷ []) ++ X)) (44 ∷ ((numeral n ++ 58 ∷ []) ++ Y)) refl refl (sym (append_assoc (numeral i) (44 ∷ (numeral m ++ 58 ∷ [])) X) ∙ cons-tail e ∙ append_assoc (numeral j) (44 ∷ (numeral n ++ 58 ∷ [])) Y) in
    let r = number-split m n 58 X Y refl (cons-tail t.1) in (ap₂ a_callmessage t.0 r.0, r.1)
opening-split (an_inport p) (an_inport q) f X Y x y e = let t = numeral-split p q X Y (x refl) (y refl) (cons-tail e) in (ap an_inport t.0, t.1)
opening-split (an_outport p) (an_outport q) f X Y x y e = let t = numeral-split p q X Y (x refl) (y refl) (cons-tail e) in (ap an_outport t.0, t.1)
opening-split k l f X Y x y e = absurd (omega (arith, f))

-- a text begins with no comma, no closing bracket, brace or parenthesis and no low line
pub record IsStart (b : ℕ) : Type 0 where
  pub comma : b ≢ 44
  pub bracket : b ≢ 93
  pub line : b ≢ 95
  pub brace : b ≢ 125
  pub parenthesis : b ≢ 41

pub digit-start : (b : ℕ) → IsTrue (is_digit b) → IsStart b
digit-start b d = record { comma = λ e. true≢false (sym d ∙ ap is_digit e); bracket = λ e. true≢false (sym d ∙ ap is_digit e); line = λ e. true≢false (sym d ∙ ap is_digit e); brace = λ e. true≢false (sym d ∙ ap is_digit e); parenthesis = λ e. true≢false (sym d ∙ ap is_digit e) }

abbrev pub Starts : List ℕ → Type 0
Starts bytes = (b : ℕ) × (rest : List ℕ) × (bytes ≡ b ∷ rest) × IsStart b

not-same : (i j : ℕ) → IsTrue (not (nat_eq i j)) → i ≢ j
not-same i j h e = true≢false (sym (sym (ap not (eq-eqb i j e)) ∙ h))

pub starts-with : (b : ℕ) (rest : List ℕ) → IsTrue (not (nat_eq b 44) && (not (nat_eq b 93) && (not (nat_eq b 95) && (not (nat_eq b 125) && not (nat_eq b 41))))) → Starts (b ∷ rest)
starts-with b rest h = let p = and-both (not (nat_eq b 44)) _ h in let q = and-both (not (nat_eq b 93)) _ p.1 in let u = and-both (not (nat_eq b 95)) _ q.1 in let v = and-both (not (nat_eq b 125)) _ u.1 in (b, rest, refl, record { comma = not-same b 44 p.0; bracket = not-same b 93 q.0; line = not-same b 95 u.0; brace = not-same b 125 v.0; parenthesis = not-same b 41 v.1 })

numeral-start : (n : ℕ) (more : List ℕ) → Starts (numeral n ++ more)
numeral-start n more = let t = numeral-starts n in (t.0, t.1 ++ more, ap (◌++ more) t.2, digit-start t.0 t.3)

pub opening-starts : (k : Kind) (more : List ℕ) → Starts (opening k ++ more)
opening-starts (a_scalar (a_boolean true)) more = starts-with 116 _ refl
opening-starts (a_scalar (a_boolean false)) more = starts-with 102 _ refl
opening-starts (a_scalar (an_integer (pos n))) more = numeral-start n more
opening-starts (a_scalar (an_integer (negsuc n))) more = starts-with 45 _ refl
opening-starts (a_scalar (a_text s)) more = starts-with 34 _ refl
opening-starts (a_scalar (a_tag i)) more = starts-with 35 _ refl
opening-starts a_record more = starts-with 123 _ refl
opening-starts (a_variant c) more = subst Starts (sym (append_assoc (numeral c) (33 ∷ []) more)) (numeral-start c (33 ∷ more))
opening-starts a_table more = starts-with 91 _ refl
opening-starts (a_polymorph t) more = starts-with 60 _ refl
opening-starts (a_callmessage i m) more = starts-with 40 _ refl
opening-starts (an_inport p) more = starts-with 64 _ refl
opening-starts (an_outport p) more = starts-with 62 _ refl

pub cell-starts : (c : Value) (more : List ℕ) → Starts (text_of c ++ more)
cell-starts (cell n k ps) more = subst Starts (sym (append_assoc (opening k) (parts_text ps [] ++ closing k) more)) (opening-starts k ((parts_text ps [] ++ closing k) ++ more))

-- what stands before a part
abbrev pub separator : Bool → List ℕ
separator true = []
separator false = 44 ∷ []

-- behind the rows of a table a bracket stands
abbrev Closes : Layout → List ℕ → Type 0
Closes (exactly xs) X = Unit {0}
Closes (many u) X = (Z : List ℕ) × (X ≡ 93 ∷ Z)
Closes unfit X = Unit {0}

closes-leaf : (b : Bool) (X : List ℕ) → Closes (leaf_if b) X
closes-leaf true X = tt
closes-leaf false X = tt

closes-one : (o : Option ℕ) (X : List ℕ) → Closes (one_whole o) X
closes-one None X = tt
closes-one (Some u) X = tt

closing-closes : (d : Degree) (o : Option Shape) (k : Kind) (r : List ℕ) → Closes (layout_of d o k) (closing k ++ r)
closing-closes d (Some integer) (a_scalar (an_integer z)) r = closes-leaf (is_integer z) r
closing-closes d (Some text) (a_scalar (a_text s)) r = closes-leaf (is_text s) r
closing-closes d (Some (names n)) (a_scalar (a_tag i)) r = closes-leaf (nat_lt i n) r
closing-closes d (Some (cases ts)) (a_variant c) r = closes-one (slice_get ts c) r
closing-closes d (Some (rows row key)) a_table r = (r, refl)
closing-closes d (Some boolean) (a_scalar (a_boolean b)) r = tt
closing-closes d (Some polymorph) (a_polymorph u) r = tt
closing-closes d (Some (fields ts)) a_record r = tt
closing-closes d (Some (callmessage qs es)) (a_callmessage i m) r = tt
closing-closes d (Some (inport m f)) (an_inport p) r = tt
closing-closes d (Some (outport q)) (an_outport p) r = tt
closing-closes d o k r = tt

pub closing-no_digit : (k : Kind) (r : List ℕ) → NoDigit r → NoDigit (closing k ++ r)
closing-no_digit a_record r h = refl
closing-no_digit a_table r h = refl
closing-no_digit (a_polymorph t) r h = refl
closing-no_digit (a_callmessage i m) r h = refl
closing-no_digit k r h = h

pub parts-no_digit : (ps : Parts ⊤) (X : List ℕ) → NoDigit X → NoDigit (parts_text ps (44 ∷ []) ++ X)
parts-no_digit no_parts X h = h
parts-no_digit (gap ps) X h = refl
parts-no_digit (part c ps) X h = refl

-- one step of two texts of parts
pub gap-step : (before P Q X Y : List ℕ) → (before ++ (95 ∷ P)) ++ X ≡ (before ++ (95 ∷ Q)) ++ Y → P ++ X ≡ Q ++ Y
gap-step before P Q X Y e = cons-tail (append-cancel before (95 ∷ (P ++ X)) (95 ∷ (Q ++ Y)) (sym (append_assoc before (95 ∷ P) X) ∙ e ∙ append_assoc before (95 ∷ Q) Y))

pub regroup : (before A P X : List ℕ) → (before ++ (A ++ P)) ++ X ≡ before ++ (A ++ (P ++ X))
regroup before A P X = append_assoc before (A ++ P) X ∙ ap (before ++◌) (append_assoc A P X)

pub part-step : (before A B P Q X Y : List ℕ) → (before ++ (A ++ P)) ++ X ≡ (before ++ (B ++ Q)) ++ Y → A ++ (P ++ X) ≡ B ++ (Q ++ Y)
part-step before A B P Q X Y e = append-cancel before (A ++ (P ++ X)) (B ++ (Q ++ Y)) (sym (regroup before A P X) ∙ e ∙ regroup before B Q Y)

pub gap-not_part : {R : Type 0} (before P Q X Y : List ℕ) (c : Value) → (before ++ (95 ∷ P)) ++ X ≡ (before ++ (text_of c ++ Q)) ++ Y → R
gap-not_part before P Q X Y c e =
    let s = cell-starts c (Q ++ Y) in
    let f = append-cancel before (95 ∷ (P ++ X)) (text_of c ++ (Q ++ Y)) (sym (append_assoc before (95 ∷ P) X) ∙ e ∙ regroup before (text_of c) Q Y) in
    absurd (s.3.line (sym (cons-head (f ∙ s.2))))

end-not_part : {R : Type 0} (first : Bool) (Q X Y Z : List ℕ) (c : Value) → X ≡ 93 ∷ Z → X ≡ (separator first ++ (text_of c ++ Q)) ++ Y → R
end-not_part true Q X Y Z c z e = let s = cell-starts c (Q ++ Y) in absurd (s.3.bracket (sym (cons-head (sym z ∙ e ∙ append_assoc (text_of c) Q Y ∙ s.2))))
end-not_part false Q X Y Z c z e = absurd (omega (arith, cons-head (sym z ∙ e)))

abbrev pub behind : Kind → Parts ⊤ → List ℕ → List ℕ
behind k ps r = parts_text ps [] ++ (closing k ++ r)

pub cell-regroup : (n : ⊤) (k : Kind) (ps : Parts ⊤) (r : List ℕ) → text_of (cell n k ps) ++ r ≡ opening k ++ behind k ps r
cell-regroup n k ps r = append_assoc (opening k) (parts_text ps [] ++ closing k) r ∙ ap (opening k ++◌) (append_assoc (parts_text ps []) (closing k) r)

module _ (table : TypeTable) where
  -- a cell whose opening may end in a digit has no parts between it and what follows
  leaf-apart : (d : Degree) (o : Option Shape) (k : Kind) (ps : Parts ⊤) (r : List ℕ) → Fits table (layout_of d o k) ps → NoDigit r → Apart k (behind k ps r)
  leaf-apart d o k ps r h nd x = subst (λ qs. NoDigit (behind k qs r)) (sym (no-parts table d o k ps h x)) (closing-no_digit k r nd)

  abbrev SplitsParts : Layout → Parts ⊤ → Type 0
  SplitsParts lay ps = (qs : Parts ⊤) (first : Bool) (X Y : List ℕ) → Fits table lay ps → Fits table lay qs → NoDigit X → NoDigit Y → Closes lay X → Closes lay Y → parts_text ps (separator first) ++ X ≡ parts_text qs (separator first) ++ Y → (ps ≡ qs) × (X ≡ Y)

  -- the kinds are alike, then the parts, and then what follows
  cell-split : (d : Degree) (o : Option Shape) (n m : ⊤) (k l : Kind) (ps qs : Parts ⊤) (r s : List ℕ) → SplitsParts (layout_of d o k) ps → Fits table (layout_of d o k) ps → Fits table (layout_of d o l) qs → NoDigit r → NoDigit s → opening k ++ behind k ps r ≡ opening l ++ behind l qs s → (cell n k ps ≡ cell m l qs) × (r ≡ s)
  cell-split d o n m k l ps qs r s again h g x y e = joined (opening-split k l (family-fits table d o k ps h ∙ sym (family-fits table d o l qs g)) (behind k ps r) (behind l qs s) (leaf-apart d o k ps r h x) (leaf-apart d o l qs s g y) e)
    where
      joined : (k ≡ l) × (behind k ps r ≡ behind l qs s) → (cell n k ps ≡ cell m l qs) × (r ≡ s)
      joined w =
          let t = again qs true (closing k ++ r) (closing l ++ s) h (subst (λ j. Fits table (layout_of d o j) qs) (sym w.0) g) (closing-no_digit k r x) (closing-no_digit l s y) (closing-closes d o k r) (subst (λ j. Closes (layout_of d o j) (closing l ++ s)) (sym w.0) (closing-closes d o l s)) w.1 in
          (ap₂ (cell n) w.0 t.0, append-cancel (closing k) r s (t.1 ∙ ap (λ j. closing j ++ s) (sym w.0)))

  mutual
    pub text-split : (a : Value) (d : Degree) (t : ℕ) (b : Value) (r s : List ℕ) → IsOf d table t a → IsOf d table t b → NoDigit r → NoDigit s → text_of a ++ r ≡ text_of b ++ s → (a ≡ b) × (r ≡ s)
    text-split (cell n k ps) d t (cell m l qs) r s h g x y e = cell-split d (slice_get table t) n m k l ps qs r s (parts-split ps (layout_of d (slice_get table t) k)) h.0 g.0 x y (sym (cell-regroup n k ps r) ∙ e ∙ cell-regroup m l qs s)

    parts-split : (ps : Parts ⊤) (lay : Layout) → SplitsParts lay ps
    parts-split no_parts (exactly []) no_parts first X Y h g x y u v e = (refl, e)
    parts-split no_parts (exactly []) (gap qs) first X Y h g x y u v e = absurd g
    parts-split no_parts (exactly []) (part b qs) first X Y h g x y u v e = absurd g
    parts-split no_parts (exactly (z ∷ zs)) qs first X Y h g x y u v e = absurd h
    parts-split no_parts (many t) no_parts first X Y h g x y u v e = (refl, e)
    parts-split no_parts (many t) (gap qs) first X Y h g x y u v e = absurd g
    parts-split no_parts (many t) (part b qs) first X Y h g x y u v e = end-not_part first (parts_text qs (44 ∷ [])) X Y u.0 b u.1 e
    parts-split no_parts unfit qs first X Y h g x y u v e = absurd h
    parts-split (gap ps) (exactly []) qs first X Y h g x y u v e = absurd h
    parts-split (gap ps) (exactly (z ∷ zs)) no_parts first X Y h g x y u v e = absurd g
    parts-split (gap ps) (exactly (z ∷ zs)) (gap qs) first X Y h g x y u v e =
        let t = parts-split ps (exactly zs) qs false X Y h.1 g.1 x y tt tt (gap-step (separator first) (parts_text ps (44 ∷ [])) (parts_text qs (44 ∷ [])) X Y e) in (ap gap t.0, t.1)
    parts-split (gap ps) (exactly (z ∷ zs)) (part b qs) first X Y h g x y u v e = gap-not_part (separator first) (parts_text ps (44 ∷ [])) (parts_text qs (44 ∷ [])) X Y b e
    parts-split (gap ps) (many t) qs first X Y h g x y u v e = absurd h
    parts-split (gap ps) unfit qs first X Y h g x y u v e = absurd h
    parts-split (part a ps) (exactly []) qs first X Y h g x y u v e = absurd h
    parts-split (part a ps) (exactly (nothing ∷ zs)) qs first X Y h g x y u v e = absurd h
    parts-split (part a ps) (exactly (a_value d t ∷ zs)) no_parts first X Y h g x y u v e = absurd g
    parts-split (part a ps) (exactly (a_value d t ∷ zs)) (gap qs) first X Y h g x y u v e = gap-not_part (separator first) (parts_text qs (44 ∷ [])) (parts_text ps (44 ∷ [])) Y X a (sym e)
    parts-split (part a ps) (exactly (a_value d t ∷ zs)) (part b qs) first X Y h g x y u v e =
        let c = text-split a d t b (parts_text ps (44 ∷ []) ++ X) (parts_text qs (44 ∷ []) ++ Y) h.0 g.0 (parts-no_digit ps X x) (parts-no_digit qs Y y) (part-step (separator first) (text_of a) (text_of b) (parts_text ps (44 ∷ [])) (parts_text qs (44 ∷ [])) X Y e) in
        let w = parts-split ps (exactly zs) qs false X Y h.1 g.1 x y tt tt c.1 in (ap₂ part c.0 w.0, w.1)
    parts-split (part a ps) (many t) no_parts first X Y h g x y u v e = end-not_part first (parts_text ps (44 ∷ [])) Y X v.0 a v.1 (sym e)
    parts-split (part a ps) (many t) (gap qs) first X Y h g x y u v e = absurd g
    parts-split (part a ps) (many t) (part b qs) first X Y h g x y u v e =
        let c = text-split a whole t b (parts_text ps (44 ∷ []) ++ X) (parts_text qs (44 ∷ []) ++ Y) h.0 g.0 (parts-no_digit ps X x) (parts-no_digit qs Y y) (part-step (separator first) (text_of a) (text_of b) (parts_text ps (44 ∷ [])) (parts_text qs (44 ∷ [])) X Y e) in
        let w = parts-split ps (many t) qs false X Y h.1 g.1 x y u v c.1 in (ap₂ part c.0 w.0, w.1)
    parts-split (part a ps) unfit qs first X Y h g x y u v e = absurd h
