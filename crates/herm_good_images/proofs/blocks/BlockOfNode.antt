-- The block of each node, by places.
use Rattle.std.proofs.Common.{◌≡◌, ℕ, zero, suc, ◌+◌, List, [], ◌∷◌, map, true, false, cond, nat_eq, Some, option_map, slice_get, inl, inr, refl, sym, ap, ◌∙◌, arith}
use Rattle.herm_model.specs.Lists.{IsIn, any_pass, list_of}
use Rattle.herm_model.specs.Paths.{Path, Fact}
use Rattle.herm_model.specs.Nodes.{Node}
use Rattle.herm_model.specs.Exits.{Exit}
use Rattle.herm_model.specs.Targets.{node}
use Rattle.herm_model.specs.laws.FlowLaws.{Rise}
use Rattle.herm_model.proofs.Options.{some-injective, none-not_some, map-some}
use Rattle.herm_model.proofs.Lists.{in-map}
use Rattle.herm_model.proofs.FactTests.{got-IsIn}
use Rattle.herm_forms.specs.Modules.{Module}
use Rattle.herm_instructions.specs.Labels.{Slot}
use Rattle.herm_translated.specs.Departures.{to_block, to_second_step, Departure}
use Rattle.herm_translated.specs.CodeBlocks.{CodeBlock, first_list, further_lists, number_at, arrival_at, departure, departures_of, block_of, blocks_from}

-- an element has a place
pub in-got : {X : Type 0} (x : X) (xs : List X) → IsIn x xs → (i : ℕ) × (slice_get xs i ≡ Some x)
in-got x [] i = absurd i
in-got x (y ∷ ys) (inl e) = (0, ap Some (sym e))
in-got x (y ∷ ys) (inr i) = let r = in-got x ys i in (suc r.0, r.1)

-- the list at a place of lists
abbrev pub list_in : {X : Type 0} → List (List X) → ℕ → List X
list_in lists i = list_of (λ xs. xs) (slice_get lists i)

first-in : {X : Type 0} (lists : List (List X)) → first_list lists ≡ list_in lists 0
first-in [] = refl
first-in (xs ∷ rest) = refl

further-in : {X : Type 0} (lists : List (List X)) (i : ℕ) → list_in (further_lists lists) i ≡ list_in lists (suc i)
further-in [] i = refl
further-in (xs ∷ rest) i = refl

-- of nodes with rising numbers, equal numbers stand at one place
pub one-place : (xs : List Node) → Rise (map (λ (n : Node). n.number) xs) → (i j : ℕ) (a b : Node) → slice_get xs i ≡ Some a → slice_get xs j ≡ Some b → a.number ≡ b.number → i ≡ j
one-place [] r i j a b p q e = none-not_some p
one-place (x ∷ xs) r zero zero a b p q e = refl
one-place (x ∷ xs) r zero (suc j) a b p q e =
    let low = r.0 b.number (in-map (λ (n : Node). n.number) b xs (got-IsIn xs j b q)) in
    let same : x.number ≡ a.number = ap (λ (n : Node). n.number) (some-injective p) in
    absurd (omega (arith, low, same, e))
one-place (x ∷ xs) r (suc i) zero a b p q e =
    let low = r.0 a.number (in-map (λ (n : Node). n.number) a xs (got-IsIn xs i a p)) in
    let same : x.number ≡ b.number = ap (λ (n : Node). n.number) (some-injective q) in
    absurd (omega (arith, low, same, e))
one-place (x ∷ xs) r (suc i) (suc j) a b p q e = ap suc (one-place xs r.1 i j a b p q e)

module _ (c : Module) where
  blocks-get : (k : ℕ) (ns : List Node) (facts : List (List Fact)) (drops : List (List (List Path))) (i : ℕ)
      → slice_get (blocks_from c k ns facts drops) i ≡ option_map (λ (n : Node). block_of c (k + i) n (list_in facts i) (list_in drops i)) (slice_get ns i)
  blocks-get k [] facts drops i = refl
  blocks-get k (n ∷ ns) facts drops zero = ap Some (ap (λ x. block_of c x n (first_list facts) (first_list drops)) (omega arith) ∙ ap (λ fs. block_of c (k + 0) n fs (first_list drops)) (first-in facts) ∙ ap (block_of c (k + 0) n (list_in facts 0)) (first-in drops))
  blocks-get k (n ∷ ns) facts drops (suc i) =
      blocks-get (suc k) ns (further_lists facts) (further_lists drops) i
      ∙ ap (λ x. option_map (λ (n : Node). block_of c x n (list_in (further_lists facts) i) (list_in (further_lists drops) i)) (slice_get ns i)) (omega arith)
      ∙ ap (λ fs. option_map (λ (n : Node). block_of c (k + suc i) n fs (list_in (further_lists drops) i)) (slice_get ns i)) (further-in facts i)
      ∙ ap (λ ds. option_map (λ (n : Node). block_of c (k + suc i) n (list_in facts (suc i)) ds) (slice_get ns i)) (further-in drops i)

  -- the block of a node stands at its place
  pub node-block : (ns : List Node) (facts : List (List Fact)) (drops : List (List (List Path))) (i : ℕ) (n : Node) → slice_get ns i ≡ Some n → slice_get (blocks_from c 0 ns facts drops) i ≡ Some (block_of c i n (list_in facts i) (list_in drops i))
  node-block ns facts drops i n e =
      blocks-get 0 ns facts drops i ∙ ap (option_map (λ (n : Node). block_of c (0 + i) n (list_in facts i) (list_in drops i))) e ∙ ap (λ x. Some (block_of c x n (list_in facts i) (list_in drops i))) (omega arith)

  pub block-node : (ns : List Node) (facts : List (List Fact)) (drops : List (List (List Path))) (i : ℕ) (b : CodeBlock) → slice_get (blocks_from c 0 ns facts drops) i ≡ Some b
      → (n : Node) × (slice_get ns i ≡ Some n) × (b ≡ block_of c i n (list_in facts i) (list_in drops i))
  block-node ns facts drops i b e =
      let r = map-some (λ (n : Node). block_of c (0 + i) n (list_in facts i) (list_in drops i)) (slice_get ns i) b (sym (blocks-get 0 ns facts drops i) ∙ e) in
      (r.0, r.1, sym r.2 ∙ ap (λ x. block_of c x r.0 (list_in facts i) (list_in drops i)) (omega arith))

  departures-get : (slots : List Slot) (xs : List Exit) (drops : List (List Path)) (j : ℕ) → slice_get (departures_of c slots xs drops) j ≡ option_map (λ (x : Exit). departure c slots x.outcome x.target (list_in drops j)) (slice_get xs j)
  departures-get slots [] drops j = refl
  departures-get slots (x ∷ xs) drops zero = ap (λ ds. Some (departure c slots x.outcome x.target ds)) (first-in drops)
  departures-get slots (x ∷ xs) drops (suc j) =
      departures-get slots xs (further_lists drops) j ∙ ap (λ ds. option_map (λ (x : Exit). departure c slots x.outcome x.target ds) (slice_get xs j)) (further-in drops j)

  pub exit-departure : (slots : List Slot) (xs : List Exit) (drops : List (List Path)) (j : ℕ) (x : Exit) → slice_get xs j ≡ Some x → slice_get (departures_of c slots xs drops) j ≡ Some (departure c slots x.outcome x.target (list_in drops j))
  exit-departure slots xs drops j x e = departures-get slots xs drops j ∙ ap (option_map (λ (x : Exit). departure c slots x.outcome x.target (list_in drops j))) e

  pub departure-exit : (slots : List Slot) (xs : List Exit) (drops : List (List Path)) (j : ℕ) (d : Departure) → slice_get (departures_of c slots xs drops) j ≡ Some d → (x : Exit) × (slice_get xs j ≡ Some x) × (d ≡ departure c slots x.outcome x.target (list_in drops j))
  departure-exit slots xs drops j d e =
      let r = map-some (λ (x : Exit). departure c slots x.outcome x.target (list_in drops j)) (slice_get xs j) d (sym (departures-get slots xs drops j) ∙ e) in (r.0, r.1, sym r.2)

  -- where it arrives, by whether a slot is that of the target's loop
  pub arrives-first : (slots : List Slot) (k : ℕ) → any_pass (λ (s : Slot). nat_eq s.number (number_at c k)) slots ≡ false → arrival_at c slots (node k) ≡ to_block k
  arrives-first slots k e = ap (λ b. cond b (to_second_step k) (to_block k)) e

  pub arrives-second : (slots : List Slot) (k : ℕ) → any_pass (λ (s : Slot). nat_eq s.number (number_at c k)) slots ≡ true → arrival_at c slots (node k) ≡ to_second_step k
  arrives-second slots k e = ap (λ b. cond b (to_second_step k) (to_block k)) e
