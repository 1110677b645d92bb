-- Each target of a node is a place that is there, or an end.
use Rattle.std.proofs.Common.{◌≡◌, ℕ, ◌+◌, ◌<◌, ◌≤◌, Bool, true, false, cond, nat_eq, List, [], ◌∷◌, ◌++◌, map, length, refl, sym, ap₂, ◌∙◌, subst, arith, inl, inr, ◌⊎◌}
use Rattle.std.proofs.lemmas.List.{length-map, length-append}
use Rattle.herm_model.proofs.Lists.{in-map_from, in-append_cases, each-joined, each-first, each-none}
use Rattle.herm_model.specs.Lists.{IsIn}
use Rattle.herm_model.specs.Types.{TypeTable}
use Rattle.herm_model.specs.Statements.{Statement, simple, choosing, repeating, leaving, trying, Block, no_statements, statement, Blocks, no_blocks, block, Handlers, no_handlers, handler, numbers_of, numbers_of_block, nodes_of, nodes_of_block, nodes_of_blocks, nodes_of_handlers, Process}
use Rattle.herm_model.specs.Outcomes.{Outcome, raised, normal_outcomes, exceptions}
use Rattle.herm_model.specs.Nodes.{Surroundings, Node, start, start_of_block, starts, catches_of, nodes, nodes_in, nodes_of_choices, nodes_of_catches, process_nodes}
use Rattle.herm_model.specs.Exits.{Exit, paired, exits}
use Rattle.herm_model.specs.Handlers.{Catch, caught}
use Rattle.herm_model.specs.Targets.{Target, node, end, end_by}
use Rattle.herm_model.specs.ControlPaths.{Edge, edge, Point, point, flow_of}
use Rattle.herm_model.specs.laws.FlowLaws.{IsThere}

-- as many nodes as are counted
mutual
  pub count : (s : Statement) (number from : ℕ) (u : Surroundings) → length (nodes s number from u) ≡ nodes_of s
  count (simple form) number from u = refl
  count (choosing form blocks) number from u = let k = count_choices blocks (number + 1) (from + 1) u in omega (arith, k)
  count (repeating form body) number from u = let k = count_in body (number + 1) (from + 1) (record { behind = node from; catches = u.catches; exit = u.behind }) in omega (arith, k)
  count leaving number from u = refl
  count (trying body handlers) number from u = length-append _ _ ∙ ap₂ (λ a b. a + b) (count_in body (number + 1) from _) (count_catches handlers _ _ u)

  pub count_in : (b : Block) (number from : ℕ) (u : Surroundings) → length (nodes_in b number from u) ≡ nodes_of_block b
  count_in no_statements number from u = refl
  count_in (statement s rest) number from u = length-append _ _ ∙ ap₂ (λ a b. a + b) (count s number from _) (count_in rest _ _ u)

  count_choices : (bs : Blocks) (number from : ℕ) (u : Surroundings) → length (nodes_of_choices bs number from u) ≡ nodes_of_blocks bs
  count_choices no_blocks number from u = refl
  count_choices (block b rest) number from u = length-append _ _ ∙ ap₂ (λ a b. a + b) (count_in b number from u) (count_choices rest _ _ u)

  pub count_catches : (hs : Handlers) (number from : ℕ) (u : Surroundings) → length (nodes_of_catches hs number from u) ≡ nodes_of_handlers hs
  count_catches no_handlers number from u = refl
  count_catches (handler e b rest) number from u = length-append _ _ ∙ ap₂ (λ a b. a + b) (count_in b number from u) (count_catches rest _ _ u)

pub process_count : (p : Process) → length (process_nodes p) ≡ nodes_of_block p.body
process_count p = count_in p.body 1 0 _

-- a place from low on below the size, or an end
abbrev pub IsWithin : ℕ → ℕ → Target → Type 0
IsWithin low size (node i) = (low ≤ i) × (i < size)
IsWithin low size end = Unit {0}
IsWithin low size (end_by e) = Unit {0}

pub within-there : (low size : ℕ) (t : Target) → IsWithin low size t → IsThere size t
within-there low size (node i) h = h.1
within-there low size end h = tt
within-there low size (end_by e) h = tt

module _ (low size : ℕ) where
  pub record IsSurrounded (u : Surroundings) : Type 0 where
    pub behind : IsWithin low size u.behind
    pub catches : (c : Catch) → IsIn c u.catches → IsWithin low size c.target
    pub exit : IsWithin low size u.exit

  pub record LeadsThere (n : Node) : Type 0 where
    pub leads : (t : Target) → IsIn t n.leads → IsWithin low size t
    pub catches : (c : Catch) → IsIn c n.catches → IsWithin low size c.target

  mutual
    pub start-there : (s : Statement) (from : ℕ) (behind : Target) → (low ≤ from) × (from + nodes_of s ≤ size) → IsWithin low size behind → IsWithin low size (start s from behind)
    start-there (simple form) from behind room h = (omega arith, omega arith)
    start-there (choosing form _) from behind room h = (omega arith, omega arith)
    start-there (repeating form body) from behind room h = (omega arith, omega arith)
    start-there leaving from behind room h = (omega arith, omega arith)
    start-there (trying body _) from behind room h = block-there body from behind (omega arith, omega arith) h

    pub block-there : (b : Block) (from : ℕ) (behind : Target) → (low ≤ from) × (from + nodes_of_block b ≤ size) → IsWithin low size behind → IsWithin low size (start_of_block b from behind)
    block-there no_statements from behind room h = h
    block-there (statement s rest) from behind room h =
        start-there s from (start_of_block rest (from + nodes_of s) behind) (omega arith, omega arith) (block-there rest (from + nodes_of s) behind (omega arith, omega arith) h)

  starts-there : (bs : Blocks) (from : ℕ) (behind : Target) → (low ≤ from) × (from + nodes_of_blocks bs ≤ size) → IsWithin low size behind → (t : Target) → IsIn t (starts bs from behind) → IsWithin low size t
  starts-there no_blocks from behind room h t member = absurd member
  starts-there (block b rest) from behind room h t (inl e) = subst (IsWithin low size) (sym e) (block-there b from behind (omega arith, omega arith) h)
  starts-there (block b rest) from behind room h t (inr member) = starts-there rest (from + nodes_of_block b) behind (omega arith, omega arith) h t member

  catches-there : (hs : Handlers) (from : ℕ) (behind : Target) → (low ≤ from) × (from + nodes_of_handlers hs ≤ size) → IsWithin low size behind → (c : Catch) → IsIn c (catches_of hs from behind) → IsWithin low size c.target
  catches-there no_handlers from behind room h c member = absurd member
  catches-there (handler e b rest) from behind room h c (inl same) =
      subst (λ (d : Catch). IsWithin low size d.target) (sym same) (block-there b from behind (omega arith, omega arith) h)
  catches-there (handler e b rest) from behind room h c (inr member) = catches-there rest (from + nodes_of_block b) behind (omega arith, omega arith) h c member

  constant-there : (os : List Outcome) (t : Target) → IsWithin low size t → (r : Target) → IsIn r (map (λ (o : Outcome). t) os) → IsWithin low size r
  constant-there [] t h r member = absurd member
  constant-there (o ∷ os) t h r (inl e) = subst (IsWithin low size) (sym e) h
  constant-there (o ∷ os) t h r (inr member) = constant-there os t h r member

  one-there : (a : Target) → IsWithin low size a → (t : Target) → IsIn t (a ∷ []) → IsWithin low size t
  one-there a h = each-first (IsWithin low size) a [] h (each-none (IsWithin low size))

  pair-there : (a b : Target) → IsWithin low size a → IsWithin low size b → (t : Target) → IsIn t (a ∷ b ∷ []) → IsWithin low size t
  pair-there a b h k = each-first (IsWithin low size) a (b ∷ []) h (one-there b k)

  pub more-catches : (hs : Handlers) (from : ℕ) (u : Surroundings) → (low ≤ from) × (from + nodes_of_handlers hs ≤ size) → IsSurrounded u → (c : Catch) → IsIn c (catches_of hs from u.behind ++ u.catches) → IsWithin low size c.target
  more-catches hs from u room h = each-joined (λ (d : Catch). IsWithin low size d.target) (catches_of hs from u.behind) u.catches (catches-there hs from u.behind room h.behind) h.catches

  mutual
    there : (s : Statement) (number from : ℕ) (u : Surroundings) → (low ≤ from) × (from + nodes_of s ≤ size) → IsSurrounded u → (n : Node) → IsIn n (nodes s number from u) → LeadsThere n
    there (simple form) number from u room h =
        each-first LeadsThere _ [] (record { leads = constant-there (normal_outcomes form) u.behind h.behind; catches = h.catches }) (each-none LeadsThere)
    there (choosing form blocks) number from u room h =
        each-first LeadsThere _ _ (record { leads = starts-there blocks (from + 1) u.behind (omega arith, omega arith) h.behind; catches = h.catches })
        (choices-there blocks (number + 1) (from + 1) u (omega arith, omega arith) h)
    there (repeating form body) number from u room h =
        let here : (low ≤ from) × (from < size) = (omega arith, omega arith) in
        each-first LeadsThere _ _ (record { leads = pair-there _ _ (block-there body (from + 1) (node from) (omega arith, omega arith) here) h.behind; catches = h.catches })
        (in-there body (number + 1) (from + 1) _ (omega arith, omega arith) (record { behind = here; catches = h.catches; exit = h.behind }))
    there leaving number from u room h = each-first LeadsThere _ [] (record { leads = one-there u.exit h.exit; catches = h.catches }) (each-none LeadsThere)
    there (trying body handlers) number from u room h =
        each-joined LeadsThere _ _
        (in-there body (number + 1) from _ (omega arith, omega arith) (record { behind = h.behind; catches = more-catches handlers (from + nodes_of_block body) u (omega arith, omega arith) h; exit = h.exit }))
        (handlers-there handlers (number + 1 + numbers_of_block body) (from + nodes_of_block body) u (omega arith, omega arith) h)

    pub in-there : (b : Block) (number from : ℕ) (u : Surroundings) → (low ≤ from) × (from + nodes_of_block b ≤ size) → IsSurrounded u → (n : Node) → IsIn n (nodes_in b number from u) → LeadsThere n
    in-there no_statements number from u room h = each-none LeadsThere
    in-there (statement s rest) number from u room h =
        each-joined LeadsThere _ _
        (there s number from _ (omega arith, omega arith) (record { behind = block-there rest (from + nodes_of s) u.behind (omega arith, omega arith) h.behind; catches = h.catches; exit = h.exit }))
        (in-there rest (number + numbers_of s) (from + nodes_of s) u (omega arith, omega arith) h)

    choices-there : (bs : Blocks) (number from : ℕ) (u : Surroundings) → (low ≤ from) × (from + nodes_of_blocks bs ≤ size) → IsSurrounded u → (n : Node) → IsIn n (nodes_of_choices bs number from u) → LeadsThere n
    choices-there no_blocks number from u room h = each-none LeadsThere
    choices-there (block b rest) number from u room h =
        each-joined LeadsThere _ _ (in-there b number from u (omega arith, omega arith) h) (choices-there rest (number + numbers_of_block b) (from + nodes_of_block b) u (omega arith, omega arith) h)

    pub handlers-there : (hs : Handlers) (number from : ℕ) (u : Surroundings) → (low ≤ from) × (from + nodes_of_handlers hs ≤ size) → IsSurrounded u → (n : Node) → IsIn n (nodes_of_catches hs number from u) → LeadsThere n
    handlers-there no_handlers number from u room h = each-none LeadsThere
    handlers-there (handler e b rest) number from u room h =
        each-joined LeadsThere _ _ (in-there b number from u (omega arith, omega arith) h) (handlers-there rest (number + numbers_of_block b) (from + nodes_of_block b) u (omega arith, omega arith) h)

  caught-there : (cs : List Catch) (e : ℕ) → ((c : Catch) → IsIn c cs → IsWithin low size c.target) → IsWithin low size (caught cs e)
  caught-there [] e h = tt
  caught-there (c ∷ cs) e h = by (nat_eq c.exception e) (caught-there cs e (λ d member. h d (inr member)))
    where
      by : (b : Bool) → IsWithin low size (caught cs e) → IsWithin low size (cond b c.target (caught cs e))
      by true later = h c (inl refl)
      by false later = later

  paired-there : (os : List Outcome) (ts : List Target) → ((t : Target) → IsIn t ts → IsWithin low size t) → (e : Exit) → IsIn e (paired os ts) → IsWithin low size e.target
  paired-there [] ts h e member = absurd member
  paired-there (o ∷ os) [] h e member = absurd member
  paired-there (o ∷ os) (t ∷ ts) h e (inl same) = subst (λ (d : Exit). IsWithin low size d.target) (sym same) (h t (inl refl))
  paired-there (o ∷ os) (t ∷ ts) h e (inr member) = paired-there os ts (λ s k. h s (inr k)) e member

  exits-there : (types : TypeTable) (variables : List ℕ) (n : Node) → LeadsThere n → (e : Exit) → IsIn e (exits types variables n) → IsWithin low size e.target
  exits-there types variables n h e member = by (in-append_cases e (paired (normal_outcomes n.form) n.leads) _ member)
    where
      exit_by : ℕ → Exit
      exit_by x = record { outcome = raised x; target = caught n.catches x }

      from_map : (x : ℕ) × IsIn x (exceptions types variables n.form) × (e ≡ exit_by x) → IsWithin low size e.target
      from_map found = subst (λ (d : Exit). IsWithin low size d.target) (sym found.2) (caught-there n.catches found.0 h.catches)

      by : IsIn e (paired (normal_outcomes n.form) n.leads) ⊎ IsIn e (map exit_by (exceptions types variables n.form)) → IsWithin low size e.target
      by (inl a) = paired-there (normal_outcomes n.form) n.leads h.leads e a
      by (inr b) = from_map (in-map_from exit_by e (exceptions types variables n.form) b)

pub outermost : (low size : ℕ) → IsSurrounded low size (record { behind = end; catches = []; exit = end })
outermost low size = record { behind = tt; catches = λ c member. absurd member; exit = tt }

pub flow_length : (types : TypeTable) (p : Process) → length (flow_of types p).points ≡ nodes_of_block p.body
flow_length types p = length-map (process_nodes p) (point types p.variables) ∙ process_count p

pub entry-there : (types : TypeTable) (p : Process) → IsThere (length (flow_of types p).points) (flow_of types p).entry
entry-there types p =
    let size = length (flow_of types p).points in
    let same : size ≡ nodes_of_block p.body = flow_length types p in
    within-there 0 size (flow_of types p).entry (block-there 0 size p.body 0 end (omega arith, omega arith) tt)

node-there : (types : TypeTable) (p : Process) (n : Node) → IsIn n (process_nodes p) → LeadsThere 0 (length (flow_of types p).points) n
node-there types p n member =
    let size = length (flow_of types p).points in
    let same : size ≡ nodes_of_block p.body = flow_length types p in
    in-there 0 size p.body 1 0 (record { behind = end; catches = []; exit = end }) (omega arith, omega arith) (outermost 0 size) n member

-- an edge of a node's point is one of the node's exits
pub edge-within : (low size : ℕ) (types : TypeTable) (variables : List ℕ) (n : Node) (e : Edge) → LeadsThere low size n → IsIn e (point types variables n).edges → IsWithin low size e.target
edge-within low size types variables n e h member = by (in-map_from (edge types variables n.form) e (exits types variables n) member)
  where
    by : (x : Exit) × IsIn x (exits types variables n) × (e ≡ edge types variables n.form x) → IsWithin low size e.target
    by found = subst (λ (d : Edge). IsWithin low size d.target) (sym found.2) (exits-there low size types variables n h found.0 found.1)

pub edges-there : (types : TypeTable) (p : Process) (q : Point) (e : Edge) → IsIn q (flow_of types p).points → IsIn e q.edges → IsThere (length (flow_of types p).points) e.target
edges-there types p q e at member = by (in-map_from (point types p.variables) q (process_nodes p) at)
  where
    by : (n : Node) × IsIn n (process_nodes p) × (q ≡ point types p.variables n) → IsThere (length (flow_of types p).points) e.target
    by found =
        let size = length (flow_of types p).points in
        within-there 0 size e.target (edge-within 0 size types p.variables found.0 e (node-there types p found.0 found.1) (subst (λ (r : Point). IsIn e r.edges) found.2 member))
