-- A part of the text leads to what its places and its surroundings keep.
use Rattle.std.proofs.Common.{◌≡◌, ℕ, ◌+◌, ◌<◌, ◌≤◌, Bool, true, false, cond, nat_eq, List, [], ◌∷◌, ◌++◌, map, refl, subst, sym, arith, inl, inr, ◌⊎◌}
use Rattle.herm_model.proofs.Lists.{in-map_from, in-append_cases, each-joined, each-first, each-none}
use Rattle.herm_model.specs.Lists.{IsIn}
use Rattle.herm_model.specs.Types.{TypeTable}
use Rattle.herm_model.specs.Statements.{Statement, simple, choosing, repeating, leaving, trying, Block, no_statements, statement, Blocks, no_blocks, block, Handlers, no_handlers, handler, numbers_of, numbers_of_block, nodes_of, nodes_of_block, nodes_of_blocks, nodes_of_handlers}
use Rattle.herm_model.specs.Outcomes.{Outcome, raised, normal_outcomes, exceptions}
use Rattle.herm_model.specs.Nodes.{Surroundings, Node, start, start_of_block, starts, catches_of, nodes, nodes_in, nodes_of_choices, nodes_of_catches}
use Rattle.herm_model.specs.Exits.{Exit, paired, exits}
use Rattle.herm_model.specs.Handlers.{Catch, caught}
use Rattle.herm_model.specs.Targets.{Target, node, end_by}

module _ (Q : Target → Type 0) where
  -- it holds of each of so many places
  abbrev pub OfPlaces : (from many : ℕ) → Type 0
  OfPlaces from many = (k : ℕ) → from ≤ k → k < from + many → Q (node k)

  pub record AreAround (u : Surroundings) : Type 0 where
    pub behind : Q u.behind
    pub catches : (c : Catch) → IsIn c u.catches → Q c.target
    pub exit : Q u.exit

  pub record Leads (n : Node) : Type 0 where
    pub leads : (t : Target) → IsIn t n.leads → Q t
    pub catches : (c : Catch) → IsIn c n.catches → Q c.target

  fewer : (from many low less : ℕ) → from ≤ low → low + less ≤ from + many → OfPlaces from many → OfPlaces low less
  fewer from many low less a b h k x y = h k (omega (arith, a, x)) (omega (arith, b, y))

  mutual
    pub start-leads : (s : Statement) (from : ℕ) (behind : Target) → OfPlaces from (nodes_of s) → Q behind → Q (start s from behind)
    start-leads (simple form) from behind h q = h from (omega arith) (omega arith)
    start-leads (choosing form _) from behind h q = h from (omega arith) (omega arith)
    start-leads (repeating form body) from behind h q = h from (omega arith) (omega arith)
    start-leads leaving from behind h q = h from (omega arith) (omega arith)
    start-leads (trying body handlers) from behind h q = block-leads body from behind (fewer from (nodes_of (trying body handlers)) from (nodes_of_block body) (omega arith) (omega arith) h) q

    pub block-leads : (b : Block) (from : ℕ) (behind : Target) → OfPlaces from (nodes_of_block b) → Q behind → Q (start_of_block b from behind)
    block-leads no_statements from behind h q = q
    block-leads (statement s rest) from behind h q =
        start-leads s from (start_of_block rest (from + nodes_of s) behind) (fewer from (nodes_of_block (statement s rest)) from (nodes_of s) (omega arith) (omega arith) h)
        (block-leads rest (from + nodes_of s) behind (fewer from (nodes_of_block (statement s rest)) (from + nodes_of s) (nodes_of_block rest) (omega arith) (omega arith) h) q)

  pub starts-lead : (bs : Blocks) (from : ℕ) (behind : Target) → OfPlaces from (nodes_of_blocks bs) → Q behind → (t : Target) → IsIn t (starts bs from behind) → Q t
  starts-lead no_blocks from behind h q t member = absurd member
  starts-lead (block b rest) from behind h q t (inl e) = subst Q (sym e) (block-leads b from behind (fewer from (nodes_of_blocks (block b rest)) from (nodes_of_block b) (omega arith) (omega arith) h) q)
  starts-lead (block b rest) from behind h q t (inr member) = starts-lead rest (from + nodes_of_block b) behind (fewer from (nodes_of_blocks (block b rest)) (from + nodes_of_block b) (nodes_of_blocks rest) (omega arith) (omega arith) h) q t member

  pub catches-lead : (hs : Handlers) (from : ℕ) (behind : Target) → OfPlaces from (nodes_of_handlers hs) → Q behind → (c : Catch) → IsIn c (catches_of hs from behind) → Q c.target
  catches-lead no_handlers from behind h q c member = absurd member
  catches-lead (handler e b rest) from behind h q c (inl same) =
      subst (λ (d : Catch). Q d.target) (sym same) (block-leads b from behind (fewer from (nodes_of_handlers (handler e b rest)) from (nodes_of_block b) (omega arith) (omega arith) h) q)
  catches-lead (handler e b rest) from behind h q c (inr member) = catches-lead rest (from + nodes_of_block b) behind (fewer from (nodes_of_handlers (handler e b rest)) (from + nodes_of_block b) (nodes_of_handlers rest) (omega arith) (omega arith) h) q c member

  pub constant-leads : (os : List Outcome) (t : Target) → Q t → (r : Target) → IsIn r (map (λ (o : Outcome). t) os) → Q r
  constant-leads [] t h r member = absurd member
  constant-leads (o ∷ os) t h r (inl e) = subst Q (sym e) h
  constant-leads (o ∷ os) t h r (inr member) = constant-leads os t h r member

  pub one-leads : (a : Target) → Q a → (t : Target) → IsIn t (a ∷ []) → Q t
  one-leads a h = each-first Q a [] h (each-none Q)

  pub pair-leads : (a b : Target) → Q a → Q b → (t : Target) → IsIn t (a ∷ b ∷ []) → Q t
  pair-leads a b h k = each-first Q a (b ∷ []) h (one-leads b k)

  pub more-catches : (cs : List Catch) (u : Surroundings) → ((c : Catch) → IsIn c cs → Q c.target) → AreAround u → (c : Catch) → IsIn c (cs ++ u.catches) → Q c.target
  more-catches cs u h around = each-joined (λ (d : Catch). Q d.target) cs u.catches h around.catches

  mutual
    pub part-leads : (s : Statement) (number from : ℕ) (u : Surroundings) → OfPlaces from (nodes_of s) → AreAround u → (n : Node) → IsIn n (nodes s number from u) → Leads n
    part-leads (simple form) number from u h around =
        each-first Leads _ [] (record { leads = constant-leads (normal_outcomes form) u.behind around.behind; catches = around.catches }) (each-none Leads)
    part-leads (choosing form blocks) number from u h around =
        let later : OfPlaces (from + 1) (nodes_of_blocks blocks) = fewer from (nodes_of (choosing form blocks)) (from + 1) (nodes_of_blocks blocks) (omega arith) (omega arith) h in
        each-first Leads _ _ (record { leads = starts-lead blocks (from + 1) u.behind later around.behind; catches = around.catches })
        (choices-lead blocks (number + 1) (from + 1) u later around)
    part-leads (repeating form body) number from u h around =
        let here : Q (node from) = h from (omega arith) (omega arith) in
        let later : OfPlaces (from + 1) (nodes_of_block body) = fewer from (nodes_of (repeating form body)) (from + 1) (nodes_of_block body) (omega arith) (omega arith) h in
        each-first Leads _ _ (record { leads = pair-leads _ _ (block-leads body (from + 1) (node from) later here) around.behind; catches = around.catches })
        (in-leads body (number + 1) (from + 1) _ later (record { behind = here; catches = around.catches; exit = around.behind }))
    part-leads leaving number from u h around = each-first Leads _ [] (record { leads = one-leads u.exit around.exit; catches = around.catches }) (each-none Leads)
    part-leads (trying body handlers) number from u h around =
        let first : OfPlaces from (nodes_of_block body) = fewer from (nodes_of (trying body handlers)) from (nodes_of_block body) (omega arith) (omega arith) h in
        let later : OfPlaces (from + nodes_of_block body) (nodes_of_handlers handlers) = fewer from (nodes_of (trying body handlers)) (from + nodes_of_block body) (nodes_of_handlers handlers) (omega arith) (omega arith) h in
        each-joined Leads _ _
        (in-leads body (number + 1) from _ first (record { behind = around.behind; catches = more-catches (catches_of handlers (from + nodes_of_block body) u.behind) u (catches-lead handlers (from + nodes_of_block body) u.behind later around.behind) around; exit = around.exit }))
        (handlers-lead handlers (number + 1 + numbers_of_block body) (from + nodes_of_block body) u later around)

    pub in-leads : (b : Block) (number from : ℕ) (u : Surroundings) → OfPlaces from (nodes_of_block b) → AreAround u → (n : Node) → IsIn n (nodes_in b number from u) → Leads n
    in-leads no_statements number from u h around = each-none Leads
    in-leads (statement s rest) number from u h around =
        let first : OfPlaces from (nodes_of s) = fewer from (nodes_of_block (statement s rest)) from (nodes_of s) (omega arith) (omega arith) h in
        let later : OfPlaces (from + nodes_of s) (nodes_of_block rest) = fewer from (nodes_of_block (statement s rest)) (from + nodes_of s) (nodes_of_block rest) (omega arith) (omega arith) h in
        each-joined Leads _ _
        (part-leads s number from _ first (record { behind = block-leads rest (from + nodes_of s) u.behind later around.behind; catches = around.catches; exit = around.exit }))
        (in-leads rest (number + numbers_of s) (from + nodes_of s) u later around)

    pub choices-lead : (bs : Blocks) (number from : ℕ) (u : Surroundings) → OfPlaces from (nodes_of_blocks bs) → AreAround u → (n : Node) → IsIn n (nodes_of_choices bs number from u) → Leads n
    choices-lead no_blocks number from u h around = each-none Leads
    choices-lead (block b rest) number from u h around =
        each-joined Leads _ _
        (in-leads b number from u (fewer from (nodes_of_blocks (block b rest)) from (nodes_of_block b) (omega arith) (omega arith) h) around)
        (choices-lead rest (number + numbers_of_block b) (from + nodes_of_block b) u (fewer from (nodes_of_blocks (block b rest)) (from + nodes_of_block b) (nodes_of_blocks rest) (omega arith) (omega arith) h) around)

    pub handlers-lead : (hs : Handlers) (number from : ℕ) (u : Surroundings) → OfPlaces from (nodes_of_handlers hs) → AreAround u → (n : Node) → IsIn n (nodes_of_catches hs number from u) → Leads n
    handlers-lead no_handlers number from u h around = each-none Leads
    handlers-lead (handler e b rest) number from u h around =
        each-joined Leads _ _
        (in-leads b number from u (fewer from (nodes_of_handlers (handler e b rest)) from (nodes_of_block b) (omega arith) (omega arith) h) around)
        (handlers-lead rest (number + numbers_of_block b) (from + nodes_of_block b) u (fewer from (nodes_of_handlers (handler e b rest)) (from + nodes_of_block b) (nodes_of_handlers rest) (omega arith) (omega arith) h) around)

  caught-leads : (cs : List Catch) (e : ℕ) → Q (end_by e) → ((c : Catch) → IsIn c cs → Q c.target) → Q (caught cs e)
  caught-leads [] e ends h = ends
  caught-leads (c ∷ cs) e ends h = by (nat_eq c.exception e) (caught-leads cs e ends (λ d member. h d (inr member)))
    where
      by : (b : Bool) → Q (caught cs e) → Q (cond b c.target (caught cs e))
      by true later = h c (inl refl)
      by false later = later

  paired-leads : (os : List Outcome) (ts : List Target) → ((t : Target) → IsIn t ts → Q t) → (e : Exit) → IsIn e (paired os ts) → Q e.target
  paired-leads [] ts h e member = absurd member
  paired-leads (o ∷ os) [] h e member = absurd member
  paired-leads (o ∷ os) (t ∷ ts) h e (inl same) = subst (λ (d : Exit). Q d.target) (sym same) (h t (inl refl))
  paired-leads (o ∷ os) (t ∷ ts) h e (inr member) = paired-leads os ts (λ s k. h s (inr k)) e member

  pub exits-lead : (types : TypeTable) (variables : List ℕ) (n : Node) → ((x : ℕ) → IsIn x (exceptions types variables n.form) → Q (end_by x)) → Leads n → (e : Exit) → IsIn e (exits types variables n) → Q e.target
  exits-lead types variables n ends h e member = by (in-append_cases e (paired (normal_outcomes n.form) n.leads) _ member)
    where
      exit_by : ℕ → Exit
      exit_by x = record { outcome = raised x; target = caught n.catches x }

      from_map : (x : ℕ) × IsIn x (exceptions types variables n.form) × (e ≡ exit_by x) → Q e.target
      from_map found = subst (λ (d : Exit). Q d.target) (sym found.2) (caught-leads n.catches found.0 (ends found.0 found.1) h.catches)

      by : IsIn e (paired (normal_outcomes n.form) n.leads) ⊎ IsIn e (map exit_by (exceptions types variables n.form)) → Q e.target
      by (inl a) = paired-leads (normal_outcomes n.form) n.leads h.leads e a
      by (inr b) = from_map (in-map_from exit_by e (exceptions types variables n.form) b)
