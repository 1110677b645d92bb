-- Numbers of nodes rise, and nodes are the statements other than `try`.
use Rattle.std.proofs.Common.{◌≡◌, ℕ, suc, ◌+◌, ◌<◌, ◌≤◌, List, [], ◌∷◌, ◌++◌, map, refl, ap, ap₂, ◌∙◌, arith, inl, inr}
use Rattle.herm_model.specs.Lists.{IsIn}
use Rattle.std.proofs.lemmas.List.{map-append}
use Rattle.herm_model.proofs.Lists.{in-map_from}
use Rattle.herm_model.specs.Statements.{Form, Statement, simple, choosing, repeating, leaving, trying, Block, no_statements, statement, Blocks, no_blocks, block, Handlers, no_handlers, handler, numbers_of, numbers_of_block, numbers_of_blocks, numbers_of_handlers, Process}
use Rattle.herm_model.specs.Nodes.{Node, Surroundings, nodes, nodes_in, nodes_of_choices, nodes_of_catches, process_nodes}
use Rattle.herm_model.specs.laws.FlowLaws.{Rise, forms_of, forms_of_block, forms_of_blocks, forms_of_handlers}

-- the numbers rise from low on, and stay below high
abbrev RisesWithin : ℕ → ℕ → List Node → Type 0
RisesWithin low high [] = low ≤ high
RisesWithin low high (n ∷ ns) = (low ≤ n.number) × RisesWithin (suc n.number) high ns

widened : (a' a b b' : ℕ) (ns : List Node) → a' ≤ a → b ≤ b' → RisesWithin a b ns → RisesWithin a' b' ns
widened a' a b b' [] low high h = omega arith
widened a' a b b' (n ∷ ns) low high h = (omega (arith, h.0), widened (suc n.number) (suc n.number) b b' ns (omega arith) high h.1)

joined : (a b c : ℕ) (ms ns : List Node) → RisesWithin a b ms → RisesWithin b c ns → RisesWithin a c (ms ++ ns)
joined a b c [] ns h k = widened a b c c ns h (omega arith) k
joined a b c (m ∷ ms) ns h k = (h.0, joined (suc m.number) b c ms ns h.1 k)

mutual
  rises : (s : Statement) (number from : ℕ) (u : Surroundings) → RisesWithin number (number + numbers_of s) (nodes s number from u)
  rises (simple form) number from u = (omega arith, omega arith)
  rises (choosing form blocks) number from u =
      (omega arith, widened (suc number) (number + 1) _ _ _ (omega arith) (omega arith) (rises_choices blocks (number + 1) (from + 1) u))
  rises (repeating form body) number from u =
      (omega arith, widened (suc number) (number + 1) _ _ _ (omega arith) (omega arith) (rises_in body (number + 1) (from + 1) _))
  rises leaving number from u = (omega arith, omega arith)
  rises (trying body handlers) number from u =
      widened number (number + 1) _ _ _ (omega arith) (omega arith)
      (joined (number + 1) (number + 1 + numbers_of_block body) _ _ _ (rises_in body (number + 1) from _) (rises_catches handlers (number + 1 + numbers_of_block body) _ u))

  rises_in : (b : Block) (number from : ℕ) (u : Surroundings) → RisesWithin number (number + numbers_of_block b) (nodes_in b number from u)
  rises_in no_statements number from u = omega arith
  rises_in (statement s rest) number from u =
      widened number number _ _ _ (omega arith) (omega arith)
      (joined number (number + numbers_of s) _ _ _ (rises s number from _) (rises_in rest (number + numbers_of s) _ u))

  rises_choices : (bs : Blocks) (number from : ℕ) (u : Surroundings) → RisesWithin number (number + numbers_of_blocks bs) (nodes_of_choices bs number from u)
  rises_choices no_blocks number from u = omega arith
  rises_choices (block b rest) number from u =
      widened number number _ _ _ (omega arith) (omega arith)
      (joined number (number + numbers_of_block b) _ _ _ (rises_in b number from u) (rises_choices rest (number + numbers_of_block b) _ u))

  rises_catches : (hs : Handlers) (number from : ℕ) (u : Surroundings) → RisesWithin number (number + numbers_of_handlers hs) (nodes_of_catches hs number from u)
  rises_catches no_handlers number from u = omega arith
  rises_catches (handler e b rest) number from u =
      widened number number _ _ _ (omega arith) (omega arith)
      (joined number (number + numbers_of_block b) _ _ _ (rises_in b number from u) (rises_catches rest (number + numbers_of_block b) _ u))

bounded : (a b : ℕ) (ns : List Node) → RisesWithin a b ns → a ≤ b
bounded a b [] h = h
bounded a b (n ∷ ns) h = let rest = bounded (suc n.number) b ns h.1 in omega (arith, h.0, rest)

-- what rises within bounds is within them
within : (low high : ℕ) (ns : List Node) → RisesWithin low high ns → (n : Node) → IsIn n ns → (low ≤ n.number) × (n.number < high)
within low high [] h n member = absurd member
within low high (m ∷ ns) h n (inl e) =
    let same : n.number ≡ m.number = ap (λ (k : Node). k.number) e in
    let above : suc m.number ≤ high = bounded (suc m.number) high ns h.1 in
    (omega (arith, h.0), omega arith)
within low high (m ∷ ns) h n (inr member) =
    let rest = within (suc m.number) high ns h.1 n member in
    (omega (arith, h.0, rest.0), rest.1)

rise : (low high : ℕ) (ns : List Node) → RisesWithin low high ns → Rise (map (λ (n : Node). n.number) ns)
rise low high [] h = tt
rise low high (n ∷ ns) h = ((λ m member. by m (in-map_from (λ (k : Node). k.number) m ns member)), rise (suc n.number) high ns h.1)
  where
    by : (m : ℕ) → (k : Node) × IsIn k ns × (m ≡ k.number) → n.number < m
    by m found = let w = within (suc n.number) high ns h.1 found.0 found.1 in omega (arith, w.0, found.2)

pub process_numbers-Rise : (p : Process) → Rise (map (λ (n : Node). n.number) (process_nodes p))
process_numbers-Rise p = rise 1 _ _ (rises_in p.body 1 0 _)

pub process_numbers-range : (p : Process) (n : Node) → IsIn n (process_nodes p) → (1 ≤ n.number) × (n.number ≤ numbers_of_block p.body)
process_numbers-range p n member = let w = within 1 _ _ (rises_in p.body 1 0 _) n member in (w.0, omega (arith, w.1))

-- the forms of nodes in front of more are those of both
forms_joined : (ms ns : List Node) (fs gs : List Form) → map (λ (n : Node). n.form) ms ≡ fs → map (λ (n : Node). n.form) ns ≡ gs → map (λ (n : Node). n.form) (ms ++ ns) ≡ fs ++ gs
forms_joined ms ns fs gs h k = map-append (λ (n : Node). n.form) ms ns ∙ ap₂ (λ x y. x ++ y) h k

mutual
  forms : (s : Statement) (number from : ℕ) (u : Surroundings) → map (λ (n : Node). n.form) (nodes s number from u) ≡ forms_of s
  forms (simple form) number from u = refl
  forms (choosing form blocks) number from u = ap (form ∷◌) (forms_choices blocks (number + 1) (from + 1) u)
  forms (repeating form body) number from u = ap (form ∷◌) (forms_in body (number + 1) (from + 1) _)
  forms leaving number from u = refl
  forms (trying body handlers) number from u = forms_joined _ _ _ _ (forms_in body (number + 1) from _) (forms_catches handlers _ _ u)

  forms_in : (b : Block) (number from : ℕ) (u : Surroundings) → map (λ (n : Node). n.form) (nodes_in b number from u) ≡ forms_of_block b
  forms_in no_statements number from u = refl
  forms_in (statement s rest) number from u = forms_joined _ _ _ _ (forms s number from _) (forms_in rest _ _ u)

  forms_choices : (bs : Blocks) (number from : ℕ) (u : Surroundings) → map (λ (n : Node). n.form) (nodes_of_choices bs number from u) ≡ forms_of_blocks bs
  forms_choices no_blocks number from u = refl
  forms_choices (block b rest) number from u = forms_joined _ _ _ _ (forms_in b number from u) (forms_choices rest _ _ u)

  forms_catches : (hs : Handlers) (number from : ℕ) (u : Surroundings) → map (λ (n : Node). n.form) (nodes_of_catches hs number from u) ≡ forms_of_handlers hs
  forms_catches no_handlers number from u = refl
  forms_catches (handler e b rest) number from u = forms_joined _ _ _ _ (forms_in b number from u) (forms_catches rest _ _ u)

pub process_forms : (p : Process) → map (λ (n : Node). n.form) (process_nodes p) ≡ forms_of_block p.body
process_forms p = forms_in p.body 1 0 _
