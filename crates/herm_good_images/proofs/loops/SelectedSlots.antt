-- Slots of loops among nodes, chosen by a test of their nodes.
use Rattle.std.proofs.Common.{◌≡◌, ℕ, ◌<◌, List, [], ◌∷◌, ◌++◌, map, filter, Bool, true, false, not, ◌&&◌, ◌||◌, cond, nat_eq, Option, Some, None, inl, inr, ◌⊎◌, refl, sym, ap, ap₂, subst, ◌∙◌, append_assoc, true≢false, arith}
use Rattle.std.proofs.lemmas.List.{append-nil}
use Rattle.std.proofs.lemmas.List.Elements.{filter-append}
use Rattle.std.proofs.lemmas.Bool.{eq-eqb, eqb-true}
use Rattle.herm_model.specs.Lists.{IsIn, any_pass, list_of}
use Rattle.herm_model.specs.Types.{TypeTable, Shape, rows}
use Rattle.herm_model.specs.Statements.{Form, For, Differ}
use Rattle.herm_model.specs.Nodes.{Node}
use Rattle.herm_model.specs.Calls.{shape_at}
use Rattle.herm_model.specs.laws.FlowLaws.{Rise}
use Rattle.herm_model.proofs.Lists.{in-append_left, in-append_right, in-append_cases, in-map, in-map_from, in-filter, in-filter_from, joined-Differ, or-left, or-right}
use Rattle.herm_instructions.specs.Labels.{Slot}
use Rattle.herm_instructions.specs.Effects.{row_type, without_slot}
use Rattle.herm_translated.specs.CodeBlocks.{own_slot}
use Rattle.herm_translated.specs.laws.LabelsAlong.{without_slots}
use Rattle.herm_translated.proofs.NamedIndices.{any-from}

pub filter-both : {X : Type 0} (f g : X → Bool) (xs : List X) → filter g (filter f xs) ≡ filter (λ x. f x && g x) xs
filter-both f g [] = refl
filter-both f g (x ∷ xs) = by (f x) (filter-both f g xs)
  where
    by : (b : Bool) → filter g (filter f xs) ≡ filter (λ x. f x && g x) xs → filter g (cond b (x ∷ filter f xs) (filter f xs)) ≡ cond (b && g x) (x ∷ filter (λ x. f x && g x) xs) (filter (λ x. f x && g x) xs)
    by true again = ap (λ ys. cond (g x) (x ∷ ys) ys) again
    by false again = again

pub filter-same : {X : Type 0} (f g : X → Bool) (xs : List X) → ((x : X) → IsIn x xs → f x ≡ g x) → filter f xs ≡ filter g xs
filter-same f g [] h = refl
filter-same f g (x ∷ xs) h = ap₂ (λ b ys. cond b (x ∷ ys) ys) (h x (inl refl)) (filter-same f g xs (λ y i. h y (inr i)))

module _ (types : TypeTable) (variables : List ℕ) where
  abbrev pub own : Node → List Slot
  own n = own_slot types variables n.number n.form

  -- the slots of the nodes that pass the test, later ones first
  abbrev pub chosen : (Node → Bool) → List Node → List Slot
  chosen g [] = []
  chosen g (l ∷ ls) = chosen g ls ++ cond (g l) (own l) []

  no-slots : (a b : Bool) → cond a [] [] ≡ cond {A = List Slot} b [] []
  no-slots true true = refl
  no-slots true false = refl
  no-slots false true = refl
  no-slots false false = refl

  same-own : (a b : Bool) (number : ℕ) (form : Form) → ((r t : _) → form ≡ For r t → a ≡ b) → cond a (own_slot types variables number form) [] ≡ cond b (own_slot types variables number form) []
  same-own a b number (For r t) h = ap (λ x. cond x (own_slot types variables number (For r t)) []) (h r t refl)
  same-own a b number form h = no-slots a b

  pub chosen-same : (g h : Node → Bool) (ls : List Node) → ((l : Node) → IsIn l ls → (r t : _) → l.form ≡ For r t → g l ≡ h l) → chosen g ls ≡ chosen h ls
  chosen-same g h [] k = refl
  chosen-same g h (l ∷ ls) k = ap₂ ◌++◌ (chosen-same g h ls (λ n i. k n (inr i))) (same-own (g l) (h l) l.number l.form (k l (inl refl)))

  -- each slot of a node has its number
  filter-rows : (h : ℕ → Bool) (number : ℕ) (rows : List ℕ) → filter (λ (s : Slot). h s.number) (map (λ row. record { number = number; row = row }) rows) ≡ cond (h number) (map (λ row. record { number = number; row = row }) rows) []
  filter-rows h number [] = no-slots true (h number)
  filter-rows h number (r ∷ rs) = ap (λ (xs : List Slot). cond (h number) (record { number = number; row = r } ∷ xs) xs) (filter-rows h number rs) ∙ by (h number)
    where
      by : (b : Bool) → cond b (record { number = number; row = r } ∷ cond b (map (λ row. record { number = number; row = row }) rs) []) (cond b (map (λ row. record { number = number; row = row }) rs) [])
          ≡ cond {A = List Slot} b (record { number = number; row = r } ∷ map (λ row. record { number = number; row = row }) rs) []
      by true = refl
      by false = refl

  filter-own : (h : ℕ → Bool) (number : ℕ) (form : Form) → filter (λ (s : Slot). h s.number) (own_slot types variables number form) ≡ cond (h number) (own_slot types variables number form) []
  filter-own h number (For r t) = filter-rows h number (list_of row_type (shape_at types variables t))
  filter-own h number form = no-slots true (h number)

  pub filter-chosen : (h : ℕ → Bool) (g : Node → Bool) (ls : List Node) → filter (λ (s : Slot). h s.number) (chosen g ls) ≡ chosen (λ l. g l && h l.number) ls
  filter-chosen h g [] = refl
  filter-chosen h g (l ∷ ls) =
      filter-append (λ (s : Slot). h s.number) (chosen g ls) (cond (g l) (own l) []) ∙ ap₂ ◌++◌ (filter-chosen h g ls) (by (g l))
    where
      by : (b : Bool) → filter (λ (s : Slot). h s.number) (cond b (own l) []) ≡ cond (b && h l.number) (own l) []
      by true = filter-own h l.number l.form
      by false = refl

  pub own-number : (number : ℕ) (form : Form) (s : Slot) → IsIn s (own_slot types variables number form) → s.number ≡ number
  own-number number (For r t) s i = let m = in-map_from (λ row. record { number = number; row = row }) s (list_of row_type (shape_at types variables t)) i in ap (λ (s : Slot). s.number) m.2
  own-number number form s i = absurd i

  pub in-chosen : (g : Node → Bool) (ls : List Node) (s : Slot) → IsIn s (chosen g ls) → (l : Node) × IsIn l ls × (g l ≡ true) × IsIn s (own l)
  in-chosen g [] s i = absurd i
  in-chosen g (l ∷ ls) s i = by (in-append_cases s (chosen g ls) _ i) (in-chosen g ls s)
    where
      one : (b : Bool) → g l ≡ b → IsIn s (cond b (own l) []) → (g l ≡ true) × IsIn s (own l)
      one true e k = (e, k)
      one false e k = absurd k

      by : IsIn s (chosen g ls) ⊎ IsIn s (cond (g l) (own l) []) → (IsIn s (chosen g ls) → (l : Node) × IsIn l ls × (g l ≡ true) × IsIn s (own l)) → (k : Node) × IsIn k (l ∷ ls) × (g k ≡ true) × IsIn s (own k)
      by (inl a) again = let r = again a in (r.0, inr r.1, r.2, r.3)
      by (inr k) again = let r = one (g l) refl k in (l, inl refl, r.0, r.1)

  pub chosen-in : (g : Node → Bool) (ls : List Node) (s : Slot) (l : Node) → IsIn l ls → g l ≡ true → IsIn s (own l) → IsIn s (chosen g ls)
  chosen-in g [] s l i e k = absurd i
  chosen-in g (x ∷ ls) s l (inl q) e k = in-append_right s (chosen g ls) _ (subst (λ b. IsIn s (cond b (own x) [])) (sym (ap g (sym q) ∙ e)) (subst (λ (n : Node). IsIn s (own n)) q k))
  chosen-in g (x ∷ ls) s l (inr i) e k = in-append_left s (chosen g ls) _ (chosen-in g ls s l i e k)

  chosen-none : (g : Node → Bool) (ls : List Node) → ((l : Node) → IsIn l ls → g l ≡ false) → chosen g ls ≡ []
  chosen-none g [] h = refl
  chosen-none g (l ∷ ls) h = ap₂ ◌++◌ (chosen-none g ls (λ n i. h n (inr i))) (ap (λ b. cond b (own l) []) (h l (inl refl)))

  -- of nodes with rising numbers, the one at which a test ends comes first
  pub own-first : (g : Node → Bool) (n : Node) (ls : List Node) → Rise (map (λ (l : Node). l.number) ls) → IsIn n ls → ((l : Node) → IsIn l ls → n.number < l.number → g l ≡ false) → ((r t : _) → n.form ≡ For r t → g n ≡ true)
      → own n ++ chosen (λ l. g l && not (nat_eq l.number n.number)) ls ≡ chosen g ls
  own-first g n [] rise i later itself = absurd i
  own-first g n (l ∷ ls) rise (inl e) later itself =
      ap (λ xs. own n ++ (xs ++ cond (g l && not (nat_eq l.number n.number)) (own l) [])) (chosen-none (λ l. g l && not (nat_eq l.number n.number)) ls (λ k i. ap (λ b. b && not (nat_eq k.number n.number)) (after k i)))
      ∙ ap (λ b. own n ++ cond (g l && not b) (own l) []) (eq-eqb l.number n.number (ap (λ (k : Node). k.number) (sym e)))
      ∙ ap (λ b. own n ++ cond b (own l) []) (never (g l))
      ∙ append-nil (own n)
      ∙ sym (same-own (g n) true n.number n.form itself)
      ∙ ap (λ (k : Node). cond (g k) (own k) []) e
      ∙ ap (λ xs. xs ++ cond (g l) (own l) []) (sym (chosen-none g ls after))
    where
      never : (b : Bool) → (b && false) ≡ false
      never true = refl
      never false = refl

      after : (k : Node) → IsIn k ls → g k ≡ false
      after k i = later k (inr i) (subst (λ (x : Node). x.number < k.number) (sym e) (rise.0 k.number (in-map (λ (l : Node). l.number) k ls i)))
  own-first g n (l ∷ ls) rise (inr i) later itself =
      sym (append_assoc (own n) (chosen (λ l. g l && not (nat_eq l.number n.number)) ls) _)
      ∙ ap₂ (λ xs b. xs ++ cond b (own l) []) (own-first g n ls rise.1 i (λ k j. later k (inr j)) itself) (differs (nat_eq l.number n.number) refl)
    where
      whole : (b : Bool) → (b && true) ≡ b
      whole true = refl
      whole false = refl

      before : l.number < n.number
      before = rise.0 n.number (in-map (λ (l : Node). l.number) n ls i)

      differs : (b : Bool) → nat_eq l.number n.number ≡ b → (g l && not b) ≡ g l
      differs true e = let q = eqb-true l.number n.number e in let k = before in absurd (omega (arith, k, q))
      differs false e = whole (g l)

  -- slots of chosen nodes have different numbers
  row-Differ : (number : ℕ) (form : Form) → Differ (map (λ (s : Slot). s.number) (own_slot types variables number form))
  row-Differ number (For r t) = by (shape_at types variables t)
    where
      by : (o : Option Shape) → Differ (map (λ (s : Slot). s.number) (map (λ row. record { number = number; row = row }) (list_of row_type o)))
      by None = tt
      by (Some (rows row key)) = ((λ k. k), tt)
      by (Some s) = tt
  row-Differ number form = tt

  number-joined : (xs ys : List Slot) → map (λ (s : Slot). s.number) (xs ++ ys) ≡ map (λ (s : Slot). s.number) xs ++ map (λ (s : Slot). s.number) ys
  number-joined [] ys = refl
  number-joined (x ∷ xs) ys = ap (x.number ∷◌) (number-joined xs ys)

  pub chosen-Differ : (g : Node → Bool) (ls : List Node) → Rise (map (λ (l : Node). l.number) ls) → Differ (map (λ (s : Slot). s.number) (chosen g ls))
  chosen-Differ g [] rise = tt
  chosen-Differ g (l ∷ ls) rise =
      subst Differ (sym (number-joined (chosen g ls) (cond (g l) (own l) [])))
      (joined-Differ (map (λ (s : Slot). s.number) (chosen g ls)) (map (λ (s : Slot). s.number) (cond (g l) (own l) [])) (chosen-Differ g ls rise.1) (one (g l)) apart)
    where
      one : (b : Bool) → Differ (map (λ (s : Slot). s.number) (cond b (own l) []))
      one true = row-Differ l.number l.form
      one false = tt

      here : (b : Bool) (s : Slot) → IsIn s (cond b (own l) []) → s.number ≡ l.number
      here true s i = own-number l.number l.form s i
      here false s i = absurd i

      apart : (k : ℕ) → IsIn k (map (λ (s : Slot). s.number) (chosen g ls)) → IsIn k (map (λ (s : Slot). s.number) (cond (g l) (own l) [])) → ⊥
      apart k a b =
          let x = in-map_from (λ (s : Slot). s.number) k (chosen g ls) a in
          let y = in-map_from (λ (s : Slot). s.number) k (cond (g l) (own l) []) b in
          let r = in-chosen g ls x.0 x.1 in
          let low = rise.0 r.0.number (in-map (λ (l : Node). l.number) r.0 ls r.1) in
          let p = own-number r.0.number r.0.form x.0 r.3 in
          let q = here (g l) y.0 y.1 in
          let e = x.2 in let f = y.2 in
          absurd (omega (arith, low, p, q, e, f))

pub any-is : {X : Type 0} (test : X → Bool) (x : X) (xs : List X) → IsIn x xs → test x ≡ true → any_pass test xs ≡ true
any-is test x [] h e = absurd h
any-is test x (y ∷ ys) (inl k) e = or-left (test y) _ (sym (ap test k) ∙ e)
any-is test x (y ∷ ys) (inr k) e = or-right (test y) _ (any-is test x ys k e)

-- without the slots that do not pass a test those are left that do
pub without-filter : (ss : List ℕ) (slots : List Slot) → without_slots ss slots ≡ filter (λ (s : Slot). not (any_pass (λ k. nat_eq s.number k) ss)) slots
without-filter [] slots = sym (all-pass slots)
  where
    all-pass : (xs : List Slot) → filter (λ (s : Slot). true) xs ≡ xs
    all-pass [] = refl
    all-pass (x ∷ xs) = ap (x ∷◌) (all-pass xs)
without-filter (k ∷ ss) slots =
    without-filter ss (without_slot k slots)
    ∙ filter-both (λ (s : Slot). not (nat_eq s.number k)) (λ (s : Slot). not (any_pass (λ k. nat_eq s.number k) ss)) slots
    ∙ filter-same (λ (s : Slot). not (nat_eq s.number k) && not (any_pass (λ k. nat_eq s.number k) ss)) (λ (s : Slot). not (any_pass (λ k. nat_eq s.number k) (k ∷ ss))) slots (λ s i. neither (nat_eq s.number k) _)
  where
    neither : (a b : Bool) → (not a && not b) ≡ not (a || b)
    neither true b = refl
    neither false b = refl

pub without-kept : (keep : ℕ → Bool) (slots : List Slot) → without_slots (map (λ (s : Slot). s.number) (filter (λ (s : Slot). not (keep s.number)) slots)) slots ≡ filter (λ (s : Slot). keep s.number) slots
without-kept keep slots =
    without-filter (map (λ (s : Slot). s.number) (filter (λ (s : Slot). not (keep s.number)) slots)) slots
    ∙ filter-same (λ (s : Slot). not (any_pass (λ k. nat_eq s.number k) gone)) (λ (s : Slot). keep s.number) slots (λ s i. by s i (keep s.number) refl (any_pass (λ k. nat_eq s.number k) gone) refl)
  where
    gone : List ℕ
    gone = map (λ (s : Slot). s.number) (filter (λ (s : Slot). not (keep s.number)) slots)

    by : (s : Slot) → IsIn s slots → (b : Bool) → keep s.number ≡ b → (a : Bool) → any_pass (λ k. nat_eq s.number k) gone ≡ a → not a ≡ b
    by s i true e true q =
        let r = any-from (λ k. nat_eq s.number k) gone q in
        let m = in-map_from (λ (s : Slot). s.number) r.0 (filter (λ (s : Slot). not (keep s.number)) slots) r.1 in
        let f = in-filter_from (λ (s : Slot). not (keep s.number)) m.0 slots m.1 in
        let same : s.number ≡ m.0.number = eqb-true s.number r.0 r.2 ∙ m.2 in
        absurd (true≢false (sym f.1 ∙ ap not (ap keep (sym same) ∙ e)))
    by s i true e false q = refl
    by s i false e true q = refl
    by s i false e false q =
        absurd (true≢false (sym (any-is (λ k. nat_eq s.number k) s.number gone (in-map (λ (s : Slot). s.number) s (filter (λ (s : Slot). not (keep s.number)) slots) (in-filter (λ (s : Slot). not (keep s.number)) s slots i (ap not e))) (eq-eqb s.number s.number refl)) ∙ q))
