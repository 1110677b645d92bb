-- The rows of loops that an edge leaves. Language reference, "Loops".
use Rattle.std.specs.Prelude.{ℕ, ◌+◌, List, [], ◌∷◌, filter, Bool, false, cond, ◌&&◌, nat_eq, nat_le, nat_lt, slice_get}
use Rattle.herm_model.specs.Lists.{any_pass, list_of}
use Rattle.herm_model.specs.Statements.{statement}
use Rattle.herm_model.specs.Targets.{Target, node, end, end_by}
use Rattle.herm_forms.specs.Frames.{Loop, Frame, finalise_parts}
use Rattle.herm_forms.specs.Modules.{Span, Module}

-- the statement of this number is in the loop, of which its own statement is one
abbrev pub is_in_loop : (number : ℕ) → Span → Bool
is_in_loop number l = nat_le l.first number && nat_lt number (l.first + l.length)

-- the statement of a node is inside the loop of another statement
abbrev pub is_inside : Module → (node loop : ℕ) → Bool
is_inside code i l = any_pass (λ n. any_pass (λ s. nat_eq s.first l && is_in_loop n.number s) code.loops) (list_of (λ n. n ∷ []) (slice_get code.nodes i))

-- An edge keeps the lists of the loops that it does not leave. Language reference, "Loops".
abbrev pub keeps_loop : Module → Target → (loop : ℕ) → Bool
keeps_loop code (node i) l = is_inside code i l
keeps_loop code end l = false
keeps_loop code (end_by e) l = false

-- the rows of loops that are not kept are finalised, innermost loop first
abbrev pub finalise_loops : {N : Type 0} → (ℕ → Bool) → List (Loop N) → Frame N → Frame N
finalise_loops kept [] b = b
finalise_loops kept (l ∷ loops) b = finalise_loops kept loops (cond (kept l.statement) b (finalise_parts l.rows b))

abbrev pub leave_loops : {N : Type 0} → (ℕ → Bool) → Frame N → Frame N
leave_loops kept b = finalise_loops kept b.loops (record b { loops = filter (λ l. kept l.statement) b.loops })
