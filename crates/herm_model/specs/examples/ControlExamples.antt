-- Where control goes in small bodies. Each comment has the body with the numbers of its statements.
use Rattle.std.specs.Prelude.{◌≡◌, ℕ, true, List, [], ◌∷◌, map}
use Rattle.herm_model.specs.Types.{predefined}
use Rattle.herm_model.specs.Expressions.{literal, boolean}
use Rattle.herm_model.specs.Statements.{Discard, Case, If, While, Raise, Statement, simple, choosing, repeating, leaving, trying, no_statements, no_blocks, block, no_handlers, handler, Process}
use Rattle.herm_model.specs.Outcomes.{Outcome, ok, is_true, is_false, component, raised}
use Rattle.herm_model.specs.Nodes.{Node, process_nodes, entry_of}
use Rattle.herm_model.specs.Exits.{Exit, exits}
use Rattle.herm_model.specs.Targets.{Target, node, end, end_by}
use Rattle.herm_model.specs.examples.RefusedProcesses.{in_order}

-- each node's number, with its exits
abbrev pub Routes : Type 0
Routes = List (ℕ × List Exit)

abbrev pub routes : Process → Routes
routes p = map (λ (n : Node). (n.number, exits predefined p.variables n)) (process_nodes p)

abbrev pub process : List Statement → Process
process body = record { variables = 7 ∷ []; body = in_order body }

-- the body begins here and has these routes
abbrev pub IsRouted : List Statement → Target → Routes → Type 0
IsRouted body entry expected = (entry_of (process body) ≡ entry) × (routes (process body) ≡ expected)

abbrev pub to : Outcome → Target → Exit
to o t = record { outcome = o; target = t }

-- a statement that goes on in one way, a `raise` of exception 7 or 8, and loops and choices on `true`
abbrev pub step : Statement
step = simple (Discard (0 ∷ []))

abbrev pub raise : ℕ → Statement
raise e = simple (Raise e)

abbrev pub loop : List Statement → Statement
loop body = repeating (While (literal (boolean true))) (in_order body)

abbrev pub either_branch : List Statement → List Statement → Statement
either_branch first second = choosing (If (literal (boolean true))) (block (in_order first) (block (in_order second) no_blocks))

abbrev pub try_on : List Statement → ℕ → List Statement → Statement
try_on body e handling = trying (in_order body) (handler e (in_order handling) no_handlers)

-- an empty body leads to the end
abbrev pub EmptyBody : Type 0
EmptyBody = IsRouted [] end []

-- 1 try { } on e7 { 2 step }: an empty block leads behind the `try`
abbrev pub EmptyTry : Type 0
EmptyTry = IsRouted (try_on [] 7 (step ∷ []) ∷ []) end ((2, to ok end ∷ []) ∷ [])

-- 1 try { 2 try { 3 raise e7 } on e8 { 4 step } } on e7 { 5 step }: a handler for another exception is passed by
abbrev pub OuterHandler : Type 0
OuterHandler = IsRouted (try_on (try_on (raise 7 ∷ []) 8 (step ∷ []) ∷ []) 7 (step ∷ []) ∷ []) (node 0)
    ((3, to (raised 7) (node 2) ∷ []) ∷ (4, to ok end ∷ []) ∷ (5, to ok end ∷ []) ∷ [])

-- 1 try { 2 try { 3 raise e7 } on e7 { 4 raise e7 } } on e7 { 5 step }: the nearest handler first, and a handler is not
-- within its own reach
abbrev pub NearestHandler : Type 0
NearestHandler = IsRouted (try_on (try_on (raise 7 ∷ []) 7 (raise 7 ∷ []) ∷ []) 7 (step ∷ []) ∷ []) (node 0)
    ((3, to (raised 7) (node 1) ∷ []) ∷ (4, to (raised 7) (node 2) ∷ []) ∷ (5, to ok end ∷ []) ∷ [])

-- 1 try { 2 step } on e7 { 3 raise e7 } 4 raise e7: no handler reaches a handler's block or what is behind the `try`
abbrev pub OutOfReach : Type 0
OutOfReach = IsRouted (try_on (step ∷ []) 7 (raise 7 ∷ []) ∷ raise 7 ∷ []) (node 0)
    ((2, to ok (node 2) ∷ []) ∷ (3, to (raised 7) (end_by 7) ∷ []) ∷ (4, to (raised 7) (end_by 7) ∷ []) ∷ [])

-- 1 try { 2 raise e8 } on e7 { 3 step } on e8 { } 4 step: the handler for the exception, here an empty one
abbrev pub SecondHandler : Type 0
SecondHandler = IsRouted (trying (in_order (raise 8 ∷ [])) (handler 7 (in_order (step ∷ [])) (handler 8 no_statements no_handlers)) ∷ step ∷ []) (node 0)
    ((2, to (raised 8) (node 2) ∷ []) ∷ (3, to ok (node 2) ∷ []) ∷ (4, to ok end ∷ []) ∷ [])

-- 1 while { 2 try { 3 leave } on e7 { 4 step } 5 step } 6 step: `leave` goes behind the loop, out of the `try` too
abbrev pub LeaveInTry : Type 0
LeaveInTry = IsRouted (loop (try_on (leaving ∷ []) 7 (step ∷ []) ∷ step ∷ []) ∷ step ∷ []) (node 0)
    ((1, to is_true (node 1) ∷ to is_false (node 4) ∷ []) ∷ (3, to ok (node 4) ∷ []) ∷ (4, to ok (node 3) ∷ []) ∷ (5, to ok (node 0) ∷ []) ∷ (6, to ok end ∷ []) ∷ [])

-- 1 try { 2 raise e7 } on e7 { 3 while { 4 leave } } 5 step: a loop in a handler
abbrev pub LoopInHandler : Type 0
LoopInHandler = IsRouted (try_on (raise 7 ∷ []) 7 (loop (leaving ∷ []) ∷ []) ∷ step ∷ []) (node 0)
    ((2, to (raised 7) (node 1) ∷ []) ∷ (3, to is_true (node 2) ∷ to is_false (node 3) ∷ []) ∷ (4, to ok (node 3) ∷ []) ∷ (5, to ok end ∷ []) ∷ [])

-- 1 while { 2 while { 3 leave } 4 step }: the nearest loop
abbrev pub LeaveInner : Type 0
LeaveInner = IsRouted (loop (loop (leaving ∷ []) ∷ step ∷ []) ∷ []) (node 0)
    ((1, to is_true (node 1) ∷ to is_false end ∷ []) ∷ (2, to is_true (node 2) ∷ to is_false (node 3) ∷ []) ∷ (3, to ok (node 3) ∷ []) ∷ (4, to ok (node 0) ∷ []) ∷ [])

-- 1 while { }: an empty block leads to the loop's next test
abbrev pub EmptyLoop : Type 0
EmptyLoop = IsRouted (loop [] ∷ []) (node 0) ((1, to is_true (node 0) ∷ to is_false end ∷ []) ∷ [])

-- 1 if { 2 step } else { } 3 step: an empty branch leads behind the `if`
abbrev pub EmptyBranch : Type 0
EmptyBranch = IsRouted (either_branch (step ∷ []) [] ∷ step ∷ []) (node 0)
    ((1, to is_true (node 1) ∷ to is_false (node 2) ∷ []) ∷ (2, to ok (node 2) ∷ []) ∷ (3, to ok end ∷ []) ∷ [])

-- 1 while { 2 case { when c1 { } when c0 { 3 step } } }: arms in their order, and behind the last one the loop
abbrev pub ArmsInLoop : Type 0
ArmsInLoop = IsRouted (loop (choosing (Case (0 ∷ []) (1 ∷ 0 ∷ [])) (block no_statements (block (in_order (step ∷ [])) no_blocks)) ∷ []) ∷ []) (node 0)
    ((1, to is_true (node 1) ∷ to is_false end ∷ []) ∷ (2, to (component 1) (node 0) ∷ to (component 0) (node 2) ∷ []) ∷ (3, to ok (node 0) ∷ []) ∷ [])

-- 1 while { 2 try { 3 try { } on e7 { 4 step } } on e8 { 5 step } }: going to a `try` is going to its block, and empty
-- blocks lead on to the loop
abbrev pub EmptyTriesInLoop : Type 0
EmptyTriesInLoop = IsRouted (loop (try_on (try_on [] 7 (step ∷ []) ∷ []) 8 (step ∷ []) ∷ []) ∷ []) (node 0)
    ((1, to is_true (node 0) ∷ to is_false end ∷ []) ∷ (4, to ok (node 0) ∷ []) ∷ (5, to ok (node 0) ∷ []) ∷ [])
