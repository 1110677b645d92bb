-- Slots that are kept from node to node are those of the loops around each.
use Rattle.std.proofs.Common.{◌≡◌, ℕ, suc, ◌+◌, ◌<◌, ◌≤◌, List, [], ◌∷◌, ◌++◌, map, Bool, true, false, ◌&&◌, cond, nat_eq, nat_le, nat_lt, get_or, Option, Some, None, inl, inr, ◌⊎◌, refl, sym, ap, ap₂, ◌∙◌, append_assoc, arith, true≢false}
use Rattle.std.specs.Bool.{⊤}
use Rattle.std.specs.Prelude.{filter, not}
use Rattle.herm_model.specs.Lists.{list_of, IsIn}
use Rattle.herm_model.specs.Types.{TypeTable, Shape, rows}
use Rattle.herm_model.specs.Calls.{shape_at}
use Rattle.herm_model.specs.Statements.{Form, For}
use Rattle.herm_model.specs.Nodes.{Node}
use Rattle.herm_model.specs.laws.FlowLaws.{Rise}
use Rattle.herm_forms.specs.Modules.{Module}
use Rattle.herm_forms.specs.LeavingLoops.{is_inside}
use Rattle.herm_instructions.specs.Labels.{Slot}
use Rattle.herm_instructions.specs.Effects.{row_type}
use Rattle.herm_translated.specs.CodeBlocks.{own_slot, slots_within, number_at, is_around, slots_among, slots_around}
use Rattle.herm_blocks.specs.Scopes.{is_within, open_at}

pub none-behind : {X : Type 0} (xs : List X) → xs ≡ xs ++ []
none-behind [] = refl
none-behind (x ∷ xs) = ap (x ∷◌) (none-behind xs)

-- numbers that rise from one on, and numbers below one
abbrev pub RiseFrom : ℕ → List Node → Type 0
RiseFrom low [] = ⊤
RiseFrom low (n ∷ ns) = (low ≤ n.number) × RiseFrom (suc n.number) ns

abbrev pub AreBelow : ℕ → List Node → Type 0
AreBelow high [] = ⊤
AreBelow high (n ∷ ns) = (n.number < high) × AreBelow high ns

pub rise-from : (low : ℕ) (ns : List Node) → ((m : ℕ) → IsIn m (map (λ (n : Node). n.number) ns) → low ≤ m) → Rise (map (λ (n : Node). n.number) ns) → RiseFrom low ns
rise-from low [] least h = tt
rise-from low (n ∷ ns) least h = (least n.number (inl refl), rise-from (suc n.number) ns h.0 h.1)

pub below-more : (low high : ℕ) (ns : List Node) → low ≤ high → AreBelow low ns → AreBelow high ns
below-more low high [] e h = tt
below-more low high (n ∷ ns) e h = let m = h.0 in (omega (arith, e, m), below-more low high ns e h.1)

pub below-joined : (high : ℕ) (ms : List Node) (n : Node) → AreBelow high ms → n.number < high → AreBelow high (ms ++ n ∷ [])
below-joined high [] n h e = (e, tt)
below-joined high (m ∷ ms) n h e = (h.0, below-joined high ms n h.1 e)

filter-append : {X : Type 0} (p : X → Bool) (xs ys : List X) → filter p (xs ++ ys) ≡ filter p xs ++ filter p ys
filter-append p [] ys = refl
filter-append p (x ∷ xs) ys = by (p x) (filter-append p xs ys)
  where
    by : (b : Bool) → filter p (xs ++ ys) ≡ filter p xs ++ filter p ys → cond b (x ∷ filter p (xs ++ ys)) (filter p (xs ++ ys)) ≡ cond b (x ∷ filter p xs) (filter p xs) ++ filter p ys
    by true e = ap (x ∷◌) e
    by false e = e

module _ (types : TypeTable) (variables : List ℕ) (lengths : List ℕ) where
  -- the slots of nodes, the last one's first
  abbrev pub rows_of : List Node → List Slot
  rows_of [] = []
  rows_of (n ∷ ns) = rows_of ns ++ own_slot types variables n.number n.form

  pub rows-behind : (ms : List Node) (n : Node) → rows_of (ms ++ n ∷ []) ≡ own_slot types variables n.number n.form ++ rows_of ms
  rows-behind [] n = none-behind (own_slot types variables n.number n.form)
  rows-behind (m ∷ ms) n = ap (λ xs. xs ++ own_slot types variables m.number m.form) (rows-behind ms n) ∙ append_assoc (own_slot types variables n.number n.form) (rows_of ms) _

  -- a form has one slot at most
  pub own-open : (k number : ℕ) (form : Form) (b : Bool) → is_within lengths k number ≡ b → open_at lengths k (own_slot types variables number form) ≡ cond b (own_slot types variables number form) []
  own-open k number (For r t) b e = by (list_of row_type (shape_at types variables t)) (at_most_one (shape_at types variables t))
    where
      at_most_one : (o : Option Shape) → list_of row_type o ≡ [] ⊎ ((row : ℕ) × (list_of row_type o ≡ row ∷ []))
      at_most_one None = inl refl
      at_most_one (Some (rows row key)) = inr (row, refl)
      at_most_one (Some s) = inl refl

      with_none : (b : Bool) (none : List Slot) → none ≡ [] → none ≡ cond b none []
      with_none true none e = refl
      with_none false none e = e

      by : (rs : List ℕ) → rs ≡ [] ⊎ ((row : ℕ) × (rs ≡ row ∷ [])) → open_at lengths k (map (λ row. record { number = number; row = row }) rs) ≡ cond b (map (λ row. record { number = number; row = row }) rs) []
      by rs (inl none) = rw none (with_none b [] refl)
      by rs (inr one) = rw (one.1, e) refl
  own-open k number form true e = refl
  own-open k number form false e = refl

  -- what is open later was open before
  open-before : (j k number : ℕ) → number ≤ j → j ≤ k → is_within lengths j number ≡ false → is_within lengths k number ≡ false
  open-before j k number low high e = by (nat_lt k (number + get_or lengths number 0)) refl
    where
      none-below : (a : Bool) → (a && false) ≡ false
      none-below true = refl
      none-below false = refl

      by : (b : Bool) → nat_lt k (number + get_or lengths number 0) ≡ b → (nat_le number k && nat_lt k (number + get_or lengths number 0)) ≡ false
      by false f = ap (λ b. nat_le number k && b) f ∙ none-below (nat_le number k)
      by true f = absurd (true≢false (sym (ap₂ (λ a b. a && b) (le number j low) (lt-less j k _ high f)) ∙ e))
        where
          le : (m n : ℕ) → m ≤ n → nat_le m n ≡ true
          le m n h = grind (arith, h)

          lt-less : (j k n : ℕ) → j ≤ k → nat_lt k n ≡ true → nat_lt j n ≡ true
          lt-less j k n h f = grind (arith, h, f)

  own-nested : (j k number : ℕ) (form : Form) → number ≤ j → j ≤ k → open_at lengths k (open_at lengths j (own_slot types variables number form)) ≡ open_at lengths k (own_slot types variables number form)
  own-nested j k number form low high = by (is_within lengths j number) refl
    where
      by : (b : Bool) → is_within lengths j number ≡ b → open_at lengths k (open_at lengths j (own_slot types variables number form)) ≡ open_at lengths k (own_slot types variables number form)
      by true e = ap (open_at lengths k) (own-open j number form true e)
      by false e = ap (open_at lengths k) (own-open j number form false e) ∙ sym (own-open k number form false (open-before j k number low high e))

  pub rows-nested : (j k : ℕ) (ns : List Node) → j ≤ k → AreBelow (suc j) ns → open_at lengths k (open_at lengths j (rows_of ns)) ≡ open_at lengths k (rows_of ns)
  rows-nested j k [] e h = refl
  rows-nested j k (n ∷ ns) e h =
      ap (open_at lengths k) (filter-append _ (rows_of ns) (own_slot types variables n.number n.form))
      ∙ (filter-append _ (open_at lengths j (rows_of ns)) (open_at lengths j (own_slot types variables n.number n.form))
      ∙ (ap₂ (λ xs ys. xs ++ ys) (rows-nested j k ns e h.1) (own-nested j k n.number n.form (let m = h.0 in omega (arith, m)) e)
      ∙ sym (filter-append _ (rows_of ns) (own_slot types variables n.number n.form))))

  -- These slots are, at each statement from a number on, those of the nodes.
  abbrev pub AreOpen : (low : ℕ) → List Slot → List Node → Type 0
  AreOpen low slots ns = (k : ℕ) → low ≤ k → open_at lengths k slots ≡ open_at lengths k (rows_of ns)

  pub open-next : (low : ℕ) (slots : List Slot) (ms : List Node) (n : Node) → AreBelow low ms → low ≤ n.number → AreOpen low slots ms
      → AreOpen (suc n.number) (slots_within types variables n.number n.form (open_at lengths n.number slots)) (ms ++ n ∷ [])
  open-next low slots ms n below least h k above =
      filter-append _ (own_slot types variables n.number n.form) (open_at lengths n.number slots)
      ∙ (ap (λ xs. open_at lengths k (own_slot types variables n.number n.form) ++ xs)
      (ap (open_at lengths k) (h n.number least) ∙ rows-nested n.number k ms (omega (arith, above)) (below-more low (suc n.number) ms (omega (arith, least)) below))
      ∙ (sym (filter-append _ (own_slot types variables n.number n.form) (rows_of ms))
      ∙ ap (open_at lengths k) (sym (rows-behind ms n))))

  module _ (c : Module) (i k : ℕ) (is_types : c.types ≡ types) (is_variables : c.variables ≡ variables) (inside : (l : ℕ) → is_inside c i l ≡ is_within lengths k l) (is_number : number_at c i ≡ k) where
    slots-append : (xs ys : List Node) → slots_among c (xs ++ ys) i ≡ slots_among c ys i ++ slots_among c xs i
    slots-append [] ys = none-behind (slots_among c ys i)
    slots-append (x ∷ xs) ys = ap (λ zs. zs ++ cond (is_around c x i) (own_slot c.types c.variables x.number x.form) []) (slots-append xs ys) ∙ append_assoc (slots_among c ys i) (slots_among c xs i) _

    around-is : (l : Node) → is_around c l i ≡ (is_within lengths k l.number && not (nat_eq l.number k))
    around-is l = ap₂ (λ a n. a && not (nat_eq l.number n)) (inside l.number) is_number

    own-is : (l : Node) → own_slot c.types c.variables l.number l.form ≡ own_slot types variables l.number l.form
    own-is l = ap₂ (λ t v. own_slot t v l.number l.form) is_types is_variables

    among-before : (ns : List Node) → AreBelow k ns → slots_among c ns i ≡ open_at lengths k (rows_of ns)
    among-before [] h = refl
    among-before (l ∷ ns) h =
        ap₂ (λ xs ys. xs ++ ys) (among-before ns h.1)
        (ap₂ (λ b own. cond b own []) (around-is l ∙ differs (is_within lengths k l.number) (apart l.number k h.0)) (own-is l) ∙ sym (own-open k l.number l.form (is_within lengths k l.number) refl))
        ∙ sym (filter-append _ (rows_of ns) (own_slot types variables l.number l.form))
      where
        apart : (m n : ℕ) → m < n → nat_eq m n ≡ false
        apart m n e = grind (arith, e)

        differs : {e : Bool} (a : Bool) → e ≡ false → (a && not e) ≡ a
        differs true h = ap not h
        differs false h = refl

    among-behind : (low : ℕ) (ns : List Node) → k ≤ low → RiseFrom low ns → slots_among c ns i ≡ []
    among-behind low [] e h = refl
    among-behind low (l ∷ ns) e h =
        ap₂ (λ xs b. xs ++ cond b (own_slot c.types c.variables l.number l.form) []) (among-behind (suc l.number) ns (let m = h.0 in omega (arith, e, m)) h.1)
        (around-is l ∙ not-there l.number (let m = h.0 in omega (arith, e, m)))
      where
        not-there : (number : ℕ) → k ≤ number → (is_within lengths k number && not (nat_eq number k)) ≡ false
        not-there number h = by (nat_le number k) refl
          where
            same : (m n : ℕ) → m ≤ n → nat_le n m ≡ true → nat_eq n m ≡ true
            same m n h f = grind (arith, h, f)

            never : (a : Bool) → (a && false) ≡ false
            never true = refl
            never false = refl

            by : (b : Bool) → nat_le number k ≡ b → (is_within lengths k number && not (nat_eq number k)) ≡ false
            by false f = ap (λ b. (b && nat_lt k (number + get_or lengths number 0)) && not (nat_eq number k)) f
            by true f = ap (λ b. is_within lengths k number && not b) (same k number h f) ∙ never (is_within lengths k number)

    -- the slots around the node that has the number, where the numbers rise
    pub slots-around-are : (low : ℕ) (slots : List Slot) (ms ns : List Node) → c.nodes ≡ ms ++ ns → AreBelow low ms → RiseFrom k ns → low ≤ k → AreOpen low slots ms → open_at lengths k slots ≡ slots_around c i
    slots-around-are low slots ms ns is below rise least h =
        h k least
        ∙ (sym (among-before ms (below-more low k ms least below))
        ∙ (sym (ap (λ xs. xs ++ slots_among c ms i) (among-behind k ns (omega arith) rise))
        ∙ (sym (slots-append ms ns) ∙ ap (λ xs. slots_among c xs i) (sym is))))
