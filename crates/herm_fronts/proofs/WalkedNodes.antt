-- What a walk over a body finds are its nodes and its loops.
use Rattle.std.proofs.Common.{◌≡◌, ℕ, suc, ◌+◌, ◌-◌, List, [], ◌∷◌, ◌++◌, map, Bool, true, false, ◌||◌, refl, sym, ap, ap₂, ◌∙◌, append_assoc, arith}
use Rattle.std.proofs.lemmas.List.{map-append}
use Rattle.herm_model.specs.Lists.{any_pass}
use Rattle.herm_model.specs.Statements.{Form, Leave, Statement, simple, choosing, repeating, leaving, trying, Block, no_statements, statement, Blocks, no_blocks, block, Handlers, no_handlers, handler, numbers_of, numbers_of_block, numbers_of_blocks, numbers_of_handlers, nodes_of, nodes_of_block}
use Rattle.herm_model.specs.Nodes.{Surroundings, Node, nodes, nodes_in, nodes_of_choices, nodes_of_catches, start_of_block, catches_of}
use Rattle.herm_model.specs.Targets.{node}
use Rattle.herm_forms.specs.Modules.{Span, loops_of, loops_in, loops_in_blocks, loops_in_handlers}
use Rattle.herm_fronts.specs.Walked.{Nodes as Walk, counted, with_form, with_loop, walk_statement, walk_block, walk_blocks, walk_handlers}

none-behind : {X : Type 0} (xs : List X) → xs ≡ xs ++ []
none-behind [] = refl
none-behind (x ∷ xs) = ap (x ∷◌) (none-behind xs)

-- what is behind two parts
two-behind : {X : Type 0} (old mid new a b : List X) → new ≡ mid ++ b → mid ≡ old ++ a → new ≡ old ++ (a ++ b)
two-behind old mid new a b e f = e ∙ (ap (λ xs. xs ++ b) f ∙ append_assoc old a b)

two-forms : (old mid new : List Form) (a b : List Node) → new ≡ mid ++ map (λ n. n.form) b → mid ≡ old ++ map (λ n. n.form) a → new ≡ old ++ map (λ n. n.form) (a ++ b)
two-forms old mid new a b e f = two-behind old mid new _ _ e f ∙ ap (λ xs. old ++ xs) (sym (map-append (λ (n : Node). n.form) a b))

mutual
  pub forms-walked : (s : Statement) (w : Walk) (number from : ℕ) (around : Surroundings) → (walk_statement s w).forms ≡ w.forms ++ map (λ n. n.form) (nodes s number from around)
  forms-walked (simple form) w number from around = refl
  forms-walked (choosing form blocks) w number from around =
      choices-walked blocks (with_form form w) (number + 1) (from + 1) around ∙ append_assoc w.forms (form ∷ []) _
  forms-walked (repeating form body) w number from around =
      block-walked body (with_form form w) (number + 1) (from + 1) (record { behind = node from; catches = around.catches; exit = around.behind }) ∙ append_assoc w.forms (form ∷ []) _
  forms-walked leaving w number from around = refl
  forms-walked (trying body handlers) w number from around =
      two-forms w.forms (walk_block body (counted w)).forms _ _ _
      (handlers-walked handlers (walk_block body (counted w)) (number + 1 + numbers_of_block body) (from + nodes_of_block body) around)
      (block-walked body (counted w) (number + 1) from (record around { catches = catches_of handlers (from + nodes_of_block body) around.behind ++ around.catches }))

  pub block-walked : (b : Block) (w : Walk) (number from : ℕ) (around : Surroundings) → (walk_block b w).forms ≡ w.forms ++ map (λ n. n.form) (nodes_in b number from around)
  block-walked no_statements w number from around = none-behind w.forms
  block-walked (statement s rest) w number from around =
      two-forms w.forms (walk_statement s w).forms _ _ _
      (block-walked rest (walk_statement s w) (number + numbers_of s) (from + nodes_of s) around)
      (forms-walked s w number from (record around { behind = start_of_block rest (from + nodes_of s) around.behind }))

  choices-walked : (bs : Blocks) (w : Walk) (number from : ℕ) (around : Surroundings) → (walk_blocks bs w).forms ≡ w.forms ++ map (λ n. n.form) (nodes_of_choices bs number from around)
  choices-walked no_blocks w number from around = none-behind w.forms
  choices-walked (block b rest) w number from around =
      two-forms w.forms (walk_block b w).forms _ _ _
      (choices-walked rest (walk_block b w) (number + numbers_of_block b) (from + nodes_of_block b) around)
      (block-walked b w number from around)

  handlers-walked : (hs : Handlers) (w : Walk) (number from : ℕ) (around : Surroundings) → (walk_handlers hs w).forms ≡ w.forms ++ map (λ n. n.form) (nodes_of_catches hs number from around)
  handlers-walked no_handlers w number from around = none-behind w.forms
  handlers-walked (handler e b rest) w number from around =
      two-forms w.forms (walk_block b w).forms _ _ _
      (handlers-walked rest (walk_block b w) (number + numbers_of_block b) (from + nodes_of_block b) around)
      (block-walked b w number from around)

-- numbers

mutual
  next-walked : (s : Statement) (w : Walk) (number : ℕ) → w.next ≡ number → (walk_statement s w).next ≡ number + numbers_of s
  next-walked (simple form) w number e = ap (λ n. n + 1) e
  next-walked (choosing form blocks) w number e = blocks-next blocks (with_form form w) (number + 1) (ap (λ n. n + 1) e) ∙ omega arith
  next-walked (repeating form body) w number e = block-next body (with_form form w) (number + 1) (ap (λ n. n + 1) e) ∙ omega arith
  next-walked leaving w number e = ap (λ n. n + 1) e
  next-walked (trying body handlers) w number e =
      handlers-next handlers (walk_block body (counted w)) (number + 1 + numbers_of_block body) (block-next body (counted w) (number + 1) (ap (λ n. n + 1) e)) ∙ omega arith

  block-next : (b : Block) (w : Walk) (number : ℕ) → w.next ≡ number → (walk_block b w).next ≡ number + numbers_of_block b
  block-next no_statements w number e = e ∙ omega arith
  block-next (statement s rest) w number e = block-next rest (walk_statement s w) (number + numbers_of s) (next-walked s w number e) ∙ omega arith

  blocks-next : (bs : Blocks) (w : Walk) (number : ℕ) → w.next ≡ number → (walk_blocks bs w).next ≡ number + numbers_of_blocks bs
  blocks-next no_blocks w number e = e ∙ omega arith
  blocks-next (block b rest) w number e = blocks-next rest (walk_block b w) (number + numbers_of_block b) (block-next b w number e) ∙ omega arith

  handlers-next : (hs : Handlers) (w : Walk) (number : ℕ) → w.next ≡ number → (walk_handlers hs w).next ≡ number + numbers_of_handlers hs
  handlers-next no_handlers w number e = e ∙ omega arith
  handlers-next (handler x b rest) w number e = handlers-next rest (walk_block b w) (number + numbers_of_block b) (block-next b w number e) ∙ omega arith

-- loops

or-none : (a : Bool) → a ≡ (a || false)
or-none true = refl
or-none false = refl

or-turned : (a b c : Bool) → ((a || b) || c) ≡ (a || (c || b))
or-turned true b c = refl
or-turned false true true = refl
or-turned false true false = refl
or-turned false false true = refl
or-turned false false false = refl

or-nested : (a b c : Bool) → ((a || b) || c) ≡ (a || (b || c))
or-nested true b c = refl
or-nested false b c = refl

pub any-append : {X : Type 0} (test : X → Bool) (xs ys : List X) → any_pass test (xs ++ ys) ≡ (any_pass test xs || any_pass test ys)
any-append test [] ys = refl
any-append test (x ∷ xs) ys = ap (λ b. test x || b) (any-append test xs ys) ∙ sym (or-nested (test x) (any_pass test xs) (any_pass test ys))

module _ (test : Span → Bool) where
  two-parts : (old mid new : Bool) (xs ys : List Span) → new ≡ (mid || any_pass test ys) → mid ≡ (old || any_pass test xs) → new ≡ (old || any_pass test (xs ++ ys))
  two-parts old mid new xs ys e f = e ∙ (ap (λ b. b || any_pass test ys) f ∙ (or-nested old (any_pass test xs) (any_pass test ys) ∙ ap (λ b. old || b) (sym (any-append test xs ys))))

  abbrev a_span : (first length : ℕ) → Span
  a_span first length = record { first = first; length = length }

  mutual
    pub loops-walked : (s : Statement) (w : Walk) (number : ℕ) → w.next ≡ number → any_pass test (walk_statement s w).loops ≡ (any_pass test w.loops || any_pass test (loops_of s number))
    loops-walked (simple form) w number e = or-none (any_pass test w.loops)
    loops-walked (choosing form blocks) w number e = blocks-loops blocks (with_form form w) (suc number) (ap (λ n. n + 1) e ∙ omega arith)
    loops-walked (repeating form body) w number e =
        any-append test (walk_block body (with_form form w)).loops (_ ∷ [])
        ∙ (ap₂ (λ a b. a || b) (block-loops body (with_form form w) (suc number) (ap (λ n. n + 1) e ∙ omega arith))
        (sym (or-none (test (a_span w.next ((walk_block body (with_form form w)).next - w.next))))
        ∙ ap₂ (λ m n. test (a_span m n)) e (ap₂ (λ m n. m - n) (block-next body (with_form form w) (number + 1) (ap (λ n. n + 1) e)) e ∙ omega arith))
        ∙ or-turned (any_pass test w.loops) (any_pass test (loops_in body (suc number))) (test (a_span number (suc (numbers_of_block body)))))
    loops-walked leaving w number e = or-none (any_pass test w.loops)
    loops-walked (trying body handlers) w number e =
        two-parts (any_pass test w.loops) (any_pass test (walk_block body (counted w)).loops) _ (loops_in body (suc number)) (loops_in_handlers handlers (suc number + numbers_of_block body))
        (handlers-loops handlers (walk_block body (counted w)) (suc number + numbers_of_block body) (block-next body (counted w) (suc number) (ap (λ n. n + 1) e ∙ omega arith)))
        (block-loops body (counted w) (suc number) (ap (λ n. n + 1) e ∙ omega arith))

    pub block-loops : (b : Block) (w : Walk) (number : ℕ) → w.next ≡ number → any_pass test (walk_block b w).loops ≡ (any_pass test w.loops || any_pass test (loops_in b number))
    block-loops no_statements w number e = or-none (any_pass test w.loops)
    block-loops (statement s rest) w number e =
        two-parts (any_pass test w.loops) (any_pass test (walk_statement s w).loops) _ (loops_of s number) (loops_in rest (number + numbers_of s))
        (block-loops rest (walk_statement s w) (number + numbers_of s) (next-walked s w number e)) (loops-walked s w number e)

    blocks-loops : (bs : Blocks) (w : Walk) (number : ℕ) → w.next ≡ number → any_pass test (walk_blocks bs w).loops ≡ (any_pass test w.loops || any_pass test (loops_in_blocks bs number))
    blocks-loops no_blocks w number e = or-none (any_pass test w.loops)
    blocks-loops (block b rest) w number e =
        two-parts (any_pass test w.loops) (any_pass test (walk_block b w).loops) _ (loops_in b number) (loops_in_blocks rest (number + numbers_of_block b))
        (blocks-loops rest (walk_block b w) (number + numbers_of_block b) (block-next b w number e)) (block-loops b w number e)

    handlers-loops : (hs : Handlers) (w : Walk) (number : ℕ) → w.next ≡ number → any_pass test (walk_handlers hs w).loops ≡ (any_pass test w.loops || any_pass test (loops_in_handlers hs number))
    handlers-loops no_handlers w number e = or-none (any_pass test w.loops)
    handlers-loops (handler x b rest) w number e =
        two-parts (any_pass test w.loops) (any_pass test (walk_block b w).loops) _ (loops_in b number) (loops_in_handlers rest (number + numbers_of_block b))
        (handlers-loops rest (walk_block b w) (number + numbers_of_block b) (block-next b w number e)) (block-loops b w number e)
