-- What stands under each number of a part of the text, and that nodes have it under theirs.
use Rattle.std.proofs.Common.{◌≡◌, ℕ, zero, suc, ◌+◌, ◌⊎◌, inl, inr, List, [], ◌∷◌, ◌++◌, length, Option, Some, None, slice_get, refl, sym, ap, ◌∙◌, arith, length-append}
use Rattle.herm_model.specs.Lists.{IsIn}
use Rattle.herm_model.specs.Statements.{Form, Leave, Statement, simple, choosing, repeating, leaving, trying, Block, no_statements, statement, Blocks, no_blocks, block, Handlers, no_handlers, handler, numbers_of, numbers_of_block, numbers_of_blocks, numbers_of_handlers}
use Rattle.herm_model.specs.Nodes.{Node, Surroundings, nodes, nodes_in, nodes_of_choices, nodes_of_catches}
use Rattle.herm_model.proofs.Lists.{in-append_cases}

-- the forms in the order of numbers, none of a `try`
abbrev mutual
  pub said : Statement → List (Option Form)
  said (simple form) = Some form ∷ []
  said (choosing form blocks) = Some form ∷ said_blocks blocks
  said (repeating form body) = Some form ∷ said_block body
  said leaving = Some Leave ∷ []
  said (trying body handlers) = None ∷ (said_block body ++ said_handlers handlers)

  pub said_block : Block → List (Option Form)
  said_block no_statements = []
  said_block (statement s rest) = said s ++ said_block rest

  pub said_blocks : Blocks → List (Option Form)
  said_blocks no_blocks = []
  said_blocks (block b rest) = said_block b ++ said_blocks rest

  pub said_handlers : Handlers → List (Option Form)
  said_handlers no_handlers = []
  said_handlers (handler e b rest) = said_block b ++ said_handlers rest

both_sizes : (xs ys : List (Option Form)) (a b : ℕ) → length xs ≡ a → length ys ≡ b → length (xs ++ ys) ≡ a + b
both_sizes xs ys a b e f = let k = length-append xs ys in omega (arith, k, e, f)

mutual
  size : (s : Statement) → length (said s) ≡ numbers_of s
  size (simple form) = refl
  size (choosing form blocks) = let e = size_blocks blocks in omega (arith, e)
  size (repeating form body) = let e = size_block body in omega (arith, e)
  size leaving = refl
  size (trying body handlers) = let e = both_sizes (said_block body) (said_handlers handlers) _ _ (size_block body) (size_handlers handlers) in omega (arith, e)

  pub size_block : (b : Block) → length (said_block b) ≡ numbers_of_block b
  size_block no_statements = refl
  size_block (statement s rest) = both_sizes (said s) (said_block rest) _ _ (size s) (size_block rest)

  size_blocks : (bs : Blocks) → length (said_blocks bs) ≡ numbers_of_blocks bs
  size_blocks no_blocks = refl
  size_blocks (block b rest) = both_sizes (said_block b) (said_blocks rest) _ _ (size_block b) (size_blocks rest)

  size_handlers : (hs : Handlers) → length (said_handlers hs) ≡ numbers_of_handlers hs
  size_handlers no_handlers = refl
  size_handlers (handler e b rest) = both_sizes (said_block b) (said_handlers rest) _ _ (size_block b) (size_handlers rest)

got-left : {X : Type 0} (xs ys : List X) (k : ℕ) (x : X) → slice_get xs k ≡ Some x → slice_get (xs ++ ys) k ≡ Some x
got-left [] ys k x e = absurd (let c : ⊥ = cc in c)
got-left (y ∷ xs) ys zero x e = e
got-left (y ∷ xs) ys (suc k) x e = got-left xs ys k x e

got-right : {X : Type 0} (xs ys : List X) (k : ℕ) → slice_get (xs ++ ys) (length xs + k) ≡ slice_get ys k
got-right [] ys k = let e : 0 + k ≡ k = omega arith in ap (slice_get ys) e
got-right (x ∷ xs) ys k = let e : suc (length xs) + k ≡ suc (length xs + k) = omega arith in ap (slice_get (x ∷ (xs ++ ys))) e ∙ got-right xs ys k

-- where numbers begin with the first one, a node's form stands under its number
abbrev pub StandsAt : ℕ → List (Option Form) → Node → Type 0
StandsAt low xs n = (k : ℕ) × (n.number ≡ low + k) × (slice_get xs k ≡ Some (Some n.form))

pub record StandAt (low : ℕ) (xs : List (Option Form)) (ns : List Node) : Type 0 where
  pub each : (n : Node) → IsIn n ns → StandsAt low xs n

none : (low : ℕ) (xs : List (Option Form)) → StandAt low xs []
none low xs = record { each = λ n m. absurd m }

later : (low : ℕ) (x : Option Form) (xs : List (Option Form)) (ns : List Node) → StandAt (low + 1) xs ns → StandAt low (x ∷ xs) ns
later low x xs ns h = record { each = λ n m. let a = h.each n m in (suc a.0, (let e = a.1 in omega (arith, e)), a.2) }

first : (low : ℕ) (form : Form) (xs : List (Option Form)) (n : Node) (ns : List Node) → n.number ≡ low → n.form ≡ form → StandAt (low + 1) xs ns → StandAt low (Some form ∷ xs) (n ∷ ns)
first low form xs n ns e f h = record { each = by }
  where
    by : (k : Node) → IsIn k (n ∷ ns) → StandsAt low (Some form ∷ xs) k
    by k (inl same) = (zero, (let a = ap (λ (x : Node). x.number) same in omega (arith, a, e)), ap (λ g. Some (Some g)) (sym (ap (λ (x : Node). x.form) same ∙ f)))
    by k (inr m) = (later low (Some form) xs ns h).each k m

joined : (low mid : ℕ) (xs ys : List (Option Form)) (ms ns : List Node) → mid ≡ low + length xs → StandAt low xs ms → StandAt mid ys ns → StandAt low (xs ++ ys) (ms ++ ns)
joined low mid xs ys ms ns e h k = record { each = λ n m. by n (in-append_cases n ms ns m) }
  where
    by : (n : Node) → IsIn n ms ⊎ IsIn n ns → StandsAt low (xs ++ ys) n
    by n (inl m) = let a = h.each n m in (a.0, a.1, got-left xs ys a.0 (Some n.form) a.2)
    by n (inr m) = let a = k.each n m in (length xs + a.0, (let f = a.1 in omega (arith, e, f)), got-right xs ys a.0 ∙ a.2)

mutual
  stand : (s : Statement) (number from : ℕ) (u : Surroundings) → StandAt number (said s) (nodes s number from u)
  stand (simple form) number from u = first number form [] _ [] refl refl (none (number + 1) [])
  stand (choosing form blocks) number from u = first number form (said_blocks blocks) _ _ refl refl (stand_choices blocks (number + 1) (from + 1) u)
  stand (repeating form body) number from u = first number form (said_block body) _ _ refl refl (stand_in body (number + 1) (from + 1) _)
  stand leaving number from u = first number Leave [] _ [] refl refl (none (number + 1) [])
  stand (trying body handlers) number from u =
      let e = size_block body in
      later number None _ _
      (joined (number + 1) (number + 1 + numbers_of_block body) _ _ _ _ (omega (arith, e)) (stand_in body (number + 1) from _) (stand_catches handlers (number + 1 + numbers_of_block body) _ u))

  pub stand_in : (b : Block) (number from : ℕ) (u : Surroundings) → StandAt number (said_block b) (nodes_in b number from u)
  stand_in no_statements number from u = none number []
  stand_in (statement s rest) number from u =
      let e = size s in
      joined number (number + numbers_of s) _ _ _ _ (omega (arith, e)) (stand s number from _) (stand_in rest (number + numbers_of s) _ u)

  stand_choices : (bs : Blocks) (number from : ℕ) (u : Surroundings) → StandAt number (said_blocks bs) (nodes_of_choices bs number from u)
  stand_choices no_blocks number from u = none number []
  stand_choices (block b rest) number from u =
      let e = size_block b in
      joined number (number + numbers_of_block b) _ _ _ _ (omega (arith, e)) (stand_in b number from u) (stand_choices rest (number + numbers_of_block b) _ u)

  stand_catches : (hs : Handlers) (number from : ℕ) (u : Surroundings) → StandAt number (said_handlers hs) (nodes_of_catches hs number from u)
  stand_catches no_handlers number from u = none number []
  stand_catches (handler x b rest) number from u =
      let e = size_block b in
      joined number (number + numbers_of_block b) _ _ _ _ (omega (arith, e)) (stand_in b number from u) (stand_catches rest (number + numbers_of_block b) _ u)
