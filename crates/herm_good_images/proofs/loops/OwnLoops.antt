-- Each statement that repeats has a loop of its own number.
use Rattle.std.proofs.Common.{◌≡◌, ℕ, suc, ◌+◌, ◌≤◌, List, [], ◌++◌, refl, sym, ◌∙◌, arith, inl, inr}
use Rattle.herm_model.proofs.Lists.{in-append_left, in-append_right, each-joined, each-first, each-none}
use Rattle.herm_model.specs.Lists.{IsIn}
use Rattle.herm_model.specs.Statements.{goes_on, repeats, leaves, chooses, branching_of, Statement, simple, choosing, repeating, leaving, trying, Block, no_statements, statement, Blocks, no_blocks, block, Handlers, no_handlers, handler, numbers_of, numbers_of_block, nodes_of, nodes_of_block, IsWellFormed, IsWellFormedBlock, AreWellFormed, AreWellFormedHandlers, Process}
use Rattle.herm_model.specs.Targets.{node}
use Rattle.herm_model.specs.Nodes.{Surroundings, Node, start_of_block, catches_of, nodes, nodes_in, nodes_of_choices, nodes_of_catches, process_nodes}
use Rattle.herm_forms.specs.Modules.{Span, loops_of, loops_in, loops_in_blocks, loops_in_handlers}

-- among these loops, where it repeats
abbrev pub HasLoop : List Span → Node → Type 0
HasLoop loops n = branching_of n.form ≡ repeats → (l : Span) × IsIn l loops × (l.first ≡ n.number) × (1 ≤ l.length)

goes-not_repeats : goes_on ≡ repeats → ⊥
goes-not_repeats e = cc

leaves-not_repeats : leaves ≡ repeats → ⊥
leaves-not_repeats e = cc

chooses-not_repeats : (n : ℕ) → chooses n ≡ repeats → ⊥
chooses-not_repeats n e = cc

more-loops : (few many : List Span) → ((l : Span) → IsIn l few → IsIn l many) → (n : Node) → HasLoop few n → HasLoop many n
more-loops few many h n k e = let r = k e in (r.0, h r.0 r.1, r.2, r.3)

mutual
  has-loop : (s : Statement) (number from : ℕ) (u : Surroundings) (at : ℕ) → at ≡ number → IsWellFormed s → (n : Node) → IsIn n (nodes s number from u) → HasLoop (loops_of s at) n
  has-loop (simple form) number from u at e well = each-first (HasLoop []) _ [] (λ q. let k : ⊥ = goes-not_repeats (sym well ∙ q) in absurd k) (each-none (HasLoop []))
  has-loop (choosing form blocks) number from u at e well =
      each-first (HasLoop (loops_in_blocks blocks (suc at))) _ _ (λ q. let k : ⊥ = chooses-not_repeats _ (sym well.0 ∙ q) in absurd k)
      (choices-have_loops blocks (number + 1) (from + 1) u (suc at) (omega (arith, e)) well.2)
  has-loop (repeating form body) number from u at e well =
      each-first (HasLoop (loops_of (repeating form body) at)) _ _ (λ q. (record { first = at; length = suc (numbers_of_block body) }, inl refl, e, omega arith))
      (λ n m. more-loops (loops_in body (suc at)) (loops_of (repeating form body) at) (λ l i. inr i) n (in-has_loop body (number + 1) (from + 1) (record { behind = node from; catches = u.catches; exit = u.behind }) (suc at) (omega (arith, e)) well.1 n m))
  has-loop leaving number from u at e well = each-first (HasLoop []) _ [] (λ q. let k : ⊥ = leaves-not_repeats q in absurd k) (each-none (HasLoop []))
  has-loop (trying body handlers) number from u at e well =
      each-joined (HasLoop (loops_of (trying body handlers) at)) (nodes_in body (number + 1) from (record u { catches = catches_of handlers (from + nodes_of_block body) u.behind ++ u.catches })) (nodes_of_catches handlers (number + 1 + numbers_of_block body) (from + nodes_of_block body) u)
      (λ n m. more-loops (loops_in body (suc at)) (loops_of (trying body handlers) at) (λ l i. in-append_left l (loops_in body (suc at)) _ i) n (in-has_loop body (number + 1) from (record u { catches = catches_of handlers (from + nodes_of_block body) u.behind ++ u.catches }) (suc at) (omega (arith, e)) well.0 n m))
      (λ n m. more-loops (loops_in_handlers handlers (suc at + numbers_of_block body)) (loops_of (trying body handlers) at) (λ l i. in-append_right l (loops_in body (suc at)) _ i) n (catches-have_loops handlers (number + 1 + numbers_of_block body) (from + nodes_of_block body) u (suc at + numbers_of_block body) (omega (arith, e)) well.1 n m))

  in-has_loop : (b : Block) (number from : ℕ) (u : Surroundings) (at : ℕ) → at ≡ number → IsWellFormedBlock b → (n : Node) → IsIn n (nodes_in b number from u) → HasLoop (loops_in b at) n
  in-has_loop no_statements number from u at e well = λ n m. absurd m
  in-has_loop (statement s rest) number from u at e well =
      each-joined (HasLoop (loops_in (statement s rest) at)) (nodes s number from (record u { behind = start_of_block rest (from + nodes_of s) u.behind })) (nodes_in rest (number + numbers_of s) (from + nodes_of s) u)
      (λ n m. more-loops (loops_of s at) (loops_in (statement s rest) at) (λ l i. in-append_left l (loops_of s at) _ i) n (has-loop s number from (record u { behind = start_of_block rest (from + nodes_of s) u.behind }) at e well.0 n m))
      (λ n m. more-loops (loops_in rest (at + numbers_of s)) (loops_in (statement s rest) at) (λ l i. in-append_right l (loops_of s at) _ i) n (in-has_loop rest (number + numbers_of s) (from + nodes_of s) u (at + numbers_of s) (omega (arith, e)) well.1 n m))

  choices-have_loops : (bs : Blocks) (number from : ℕ) (u : Surroundings) (at : ℕ) → at ≡ number → AreWellFormed bs → (n : Node) → IsIn n (nodes_of_choices bs number from u) → HasLoop (loops_in_blocks bs at) n
  choices-have_loops no_blocks number from u at e well = λ n m. absurd m
  choices-have_loops (block b rest) number from u at e well =
      each-joined (HasLoop (loops_in_blocks (block b rest) at)) (nodes_in b number from u) (nodes_of_choices rest (number + numbers_of_block b) (from + nodes_of_block b) u)
      (λ n m. more-loops (loops_in b at) (loops_in_blocks (block b rest) at) (λ l i. in-append_left l (loops_in b at) _ i) n (in-has_loop b number from u at e well.0 n m))
      (λ n m. more-loops (loops_in_blocks rest (at + numbers_of_block b)) (loops_in_blocks (block b rest) at) (λ l i. in-append_right l (loops_in b at) _ i) n (choices-have_loops rest (number + numbers_of_block b) (from + nodes_of_block b) u (at + numbers_of_block b) (omega (arith, e)) well.1 n m))

  catches-have_loops : (hs : Handlers) (number from : ℕ) (u : Surroundings) (at : ℕ) → at ≡ number → AreWellFormedHandlers hs → (n : Node) → IsIn n (nodes_of_catches hs number from u) → HasLoop (loops_in_handlers hs at) n
  catches-have_loops no_handlers number from u at e well = λ n m. absurd m
  catches-have_loops (handler x b rest) number from u at e well =
      each-joined (HasLoop (loops_in_handlers (handler x b rest) at)) (nodes_in b number from u) (nodes_of_catches rest (number + numbers_of_block b) (from + nodes_of_block b) u)
      (λ n m. more-loops (loops_in b at) (loops_in_handlers (handler x b rest) at) (λ l i. in-append_left l (loops_in b at) _ i) n (in-has_loop b number from u at e well.0 n m))
      (λ n m. more-loops (loops_in_handlers rest (at + numbers_of_block b)) (loops_in_handlers (handler x b rest) at) (λ l i. in-append_right l (loops_in b at) _ i) n (catches-have_loops rest (number + numbers_of_block b) (from + nodes_of_block b) u (at + numbers_of_block b) (omega (arith, e)) well.1 n m))

pub process-has_loop : (p : Process) → IsWellFormedBlock p.body → (n : Node) → IsIn n (process_nodes p) → HasLoop (loops_in p.body 1) n
process-has_loop p well = in-has_loop p.body 1 0 _ 1 refl well
