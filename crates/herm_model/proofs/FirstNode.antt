-- Where every node is reached, control begins at the first one.
use Rattle.std.proofs.Common.{◌≡◌, ℕ, zero, suc, ◌+◌, ◌<◌, ◌≤◌, List, [], ◌∷◌, ◌++◌, map, length, Some, slice_get, refl, sym, ap, ◌∙◌, subst, arith, inl, inr, ◌⊎◌}
use Rattle.herm_model.specs.Lists.{IsIn}
use Rattle.herm_model.specs.Types.{TypeTable}
use Rattle.herm_model.specs.Statements.{Statement, simple, choosing, repeating, leaving, trying, Block, no_statements, statement, Handlers, numbers_of, numbers_of_block, nodes_of, nodes_of_block, Process}
use Rattle.herm_model.specs.Nodes.{Surroundings, Node, start, start_of_block, catches_of, nodes, nodes_in, nodes_of_catches, process_nodes, entry_of}
use Rattle.herm_model.specs.Targets.{Target, node, end, end_by}
use Rattle.herm_model.specs.ControlPaths.{Point, point, Flow, flow_of, IsReached}
use Rattle.herm_model.specs.laws.FlowLaws.{IsLedTo, begins, goes_on, first_of}
use Rattle.herm_model.proofs.FactTests.{got-IsIn}
use Rattle.herm_model.proofs.Reached.{reached-IsLedTo}
use Rattle.herm_model.proofs.NodePlaces.{IsWithin, IsSurrounded, LeadsThere, block-there, in-there, handlers-there, more-catches, outermost, edge-within, flow_length, count, count_in}

-- a part of the text begins at a node of its own, or leads to what is behind it
abbrev Begins : (from size : ℕ) → Target → Target → Type 0
Begins from size behind t = (t ≡ behind) ⊎ ((j : ℕ) × (t ≡ node j) × (from ≤ j) × (j < from + size))

later-Begins : (from size from' size' : ℕ) (behind t : Target) → from ≤ from' → from' + size' ≤ from + size → Begins from' size' behind t → Begins from size behind t
later-Begins from size from' size' behind t low high (inl e) = inl e
later-Begins from size from' size' behind t low high (inr b) = inr (b.0, b.1, omega (arith, b.2), omega (arith, b.3))

-- behind a first part comes a second one
chained : (from size from' size' from'' size'' : ℕ) (behind middle t : Target) → from ≤ from' → from' + size' ≤ from + size → from ≤ from'' → from'' + size'' ≤ from + size → Begins from' size' middle t → Begins from'' size'' behind middle → Begins from size behind t
chained from size from' size' from'' size'' behind middle t a b c d (inl e) second =
    subst (Begins from size behind) (sym e) (later-Begins from size from'' size'' behind middle c d second)
chained from size from' size' from'' size'' behind middle t a b c d (inr first) second = inr (first.0, first.1, omega (arith, first.2), omega (arith, first.3))

mutual
  statement-Begins : (s : Statement) (from : ℕ) (behind : Target) → Begins from (nodes_of s) behind (start s from behind)
  statement-Begins (simple form) from behind = inr (from, refl, omega arith, omega arith)
  statement-Begins (choosing form _) from behind = inr (from, refl, omega arith, omega arith)
  statement-Begins (repeating form body) from behind = inr (from, refl, omega arith, omega arith)
  statement-Begins leaving from behind = inr (from, refl, omega arith, omega arith)
  statement-Begins (trying body _) from behind = later-Begins from _ from (nodes_of_block body) behind _ (omega arith) (omega arith) (block-Begins body from behind)

  block-Begins : (b : Block) (from : ℕ) (behind : Target) → Begins from (nodes_of_block b) behind (start_of_block b from behind)
  block-Begins no_statements from behind = inl refl
  block-Begins (statement s rest) from behind =
      chained from _ from (nodes_of s) (from + nodes_of s) (nodes_of_block rest) behind (start_of_block rest (from + nodes_of s) behind) _
      (omega arith) (omega arith) (omega arith) (omega arith)
      (statement-Begins s from (start_of_block rest (from + nodes_of s) behind))
      (block-Begins rest (from + nodes_of s) behind)

-- an end, or a node outside some places
abbrev OutOf : ℕ → ℕ → Target → Type 0
OutOf from size (node j) = (j < from) ⊎ (from + size ≤ j)
OutOf from size end = Unit {0}
OutOf from size (end_by e) = Unit {0}

number_of : Target → ℕ
number_of (node j) = j
number_of _ = 0

same-node : (i j : ℕ) → node i ≡ node j → i ≡ j
unfolding number_of
same-node i j e = ap number_of e

-- a node of these places is not outside them
not-out : {A : Type 0} (from size j : ℕ) (t : Target) → t ≡ node j → from ≤ j → j < from + size → OutOf from size t → A
not-out from size j t e low high out = absurd (by (subst (OutOf from size) e out))
  where
    by : (j < from) ⊎ (from + size ≤ j) → ⊥
    by (inl a) = omega arith
    by (inr b) = omega arith

fewer-out : (from size from' size' : ℕ) (t : Target) → from ≤ from' → from' + size' ≤ from + size → OutOf from size t → OutOf from' size' t
fewer-out from size from' size' (node j) low high (inl a) = inl (omega arith)
fewer-out from size from' size' (node j) low high (inr b) = inr (omega arith)
fewer-out from size from' size' end low high out = tt
fewer-out from size from' size' (end_by e) low high out = tt

-- what a later part begins with is outside an earlier one
begins-out : (from size from' size' : ℕ) (behind t : Target) → from + size ≤ from' → OutOf from size behind → Begins from' size' behind t → OutOf from size t
begins-out from size from' size' behind t after out (inl e) = subst (OutOf from size) (sym e) out
begins-out from size from' size' behind t after out (inr b) =
    subst (OutOf from size) (sym b.1) (let k : from + size ≤ b.0 = omega (arith, b.2) in inr k)

-- an element of two lists is in the first or, further on, in the second
got-joined : {X : Type 0} (xs ys : List X) (i : ℕ) (x : X) → slice_get (xs ++ ys) i ≡ Some x → ((slice_get xs i ≡ Some x) × (i < length xs)) ⊎ ((j : ℕ) × (i ≡ length xs + j) × (slice_get ys j ≡ Some x))
got-joined [] ys i x h = inr (i, omega arith, h)
got-joined (z ∷ xs) ys zero x h = inl (h, omega arith)
got-joined {X} (z ∷ xs) ys (suc i) x h = by (got-joined xs ys i x h)
  where
    by : ((slice_get xs i ≡ Some x) × (i < length xs)) ⊎ ((j : ℕ) × (i ≡ length xs + j) × (slice_get ys j ≡ Some x)) → ((slice_get (z ∷ xs) (suc i) ≡ Some x) × (suc i < length (z ∷ xs))) ⊎ ((j : ℕ) × (suc i ≡ length (z ∷ xs) + j) × (slice_get ys j ≡ Some x))
    by (inl a) = inl (a.0, omega (arith, a.1))
    by (inr b) = inr (b.0, omega (arith, b.1), b.2)

-- From the node e on with which a block begins, nodes lead to e, to later nodes, or out of the block.
module _ (e size : ℕ) where
  -- the whole block stands from e on
  whole : (b : Block) (number from : ℕ) (u : Surroundings) → e ≤ from → from + nodes_of_block b ≤ size → IsSurrounded e size u → (i : ℕ) (n : Node) → slice_get (nodes_in b number from u) i ≡ Some n → LeadsThere e size n
  whole b number from u low high h i n got = in-there e size b number from u (low, high) h n (got-IsIn _ i n got)

  -- the surroundings of a `try`, and of its block
  abbrev around : Statement → Block → ℕ → Surroundings → Surroundings
  around s rest from u = record u { behind = start_of_block rest (from + nodes_of s) u.behind }

  abbrev inside : Block → Handlers → ℕ → Surroundings → Surroundings
  inside body hs from u = record u { catches = catches_of hs (from + nodes_of_block body) u.behind ++ u.catches }

  -- a block that begins with a `try`, where its block and the rest are known
  try-onward : (body : Block) (hs : Handlers) (rest : Block) (number from : ℕ) (u : Surroundings) → from ≤ e → e < from + nodes_of_block (statement (trying body hs) rest) → from + nodes_of_block (statement (trying body hs) rest) ≤ size
      → start_of_block (statement (trying body hs) rest) from u.behind ≡ node e → OutOf from (nodes_of_block (statement (trying body hs) rest)) u.behind → IsSurrounded e size u
      → (e < from + nodes_of_block body → start_of_block body from (around (trying body hs) rest from u).behind ≡ node e → OutOf from (nodes_of_block body) (around (trying body hs) rest from u).behind → IsSurrounded e size (inside body hs from (around (trying body hs) rest from u)) → (i : ℕ) (n : Node) → slice_get (nodes_in body (number + 1) from (inside body hs from (around (trying body hs) rest from u))) i ≡ Some n → e ≤ from + i → LeadsThere e size n)
      → (from + nodes_of (trying body hs) ≤ e → e < from + nodes_of (trying body hs) + nodes_of_block rest → start_of_block rest (from + nodes_of (trying body hs)) u.behind ≡ node e → OutOf (from + nodes_of (trying body hs)) (nodes_of_block rest) u.behind → (i : ℕ) (n : Node) → slice_get (nodes_in rest (number + numbers_of (trying body hs)) (from + nodes_of (trying body hs)) u) i ≡ Some n → e ≤ from + nodes_of (trying body hs) + i → LeadsThere e size n)
      → (i : ℕ) (n : Node) → slice_get (nodes_in (statement (trying body hs) rest) number from u) i ≡ Some n → e ≤ from + i → LeadsThere e size n
  try-onward body hs rest number from u low high room begin out h in_body in_rest i n got after =
      by (block-Begins body from behind') (got-joined (nodes (trying body hs) number from u₁) _ i n got)
    where
      from' : ℕ
      from' = from + nodes_of (trying body hs)

      u₁ : Surroundings
      u₁ = around (trying body hs) rest from u

      behind' : Target
      behind' = start_of_block rest (from + nodes_of (trying body hs)) u.behind

      Parts : Type 0
      Parts = ((slice_get (nodes (trying body hs) number from u₁) i ≡ Some n) × (i < length (nodes (trying body hs) number from u₁)))
          ⊎ ((j : ℕ) × (i ≡ length (nodes (trying body hs) number from u₁) + j) × (slice_get (nodes_in rest (number + numbers_of (trying body hs)) from' u) j ≡ Some n))

      u₂ : Surroundings
      u₂ = inside body hs from u₁

      counted : length (nodes (trying body hs) number from u₁) ≡ nodes_of (trying body hs)
      counted = count (trying body hs) number from u₁

      counted_body : length (nodes_in body (number + 1) from u₂) ≡ nodes_of_block body
      counted_body = count_in body (number + 1) from u₂

      -- where control begins in the block of the `try`
      within_rest : e < from + nodes_of_block body → (j : ℕ) → slice_get (nodes_in rest (number + numbers_of (trying body hs)) from' u) j ≡ Some n → LeadsThere e size n
      within_rest high' j g = in-there e size rest _ from' u (omega arith, omega arith) h n (got-IsIn _ j n g)

      behind-within : e < from + nodes_of_block body → IsWithin e size behind'
      behind-within high' = block-there e size rest from' u.behind (omega arith, omega arith) h.behind

      around-within : e < from + nodes_of_block body → IsSurrounded e size u₁
      around-within high' = record { behind = behind-within high'; catches = h.catches; exit = h.exit }

      inside-within : e < from + nodes_of_block body → IsSurrounded e size u₂
      inside-within high' = record {
        behind = behind-within high';
        catches = more-catches e size hs (from + nodes_of_block body) u₁ (omega arith, omega arith) (around-within high');
        exit = h.exit;
      }

      outside : OutOf from (nodes_of_block body) behind'
      outside = begins-out from (nodes_of_block body) from' (nodes_of_block rest) u.behind behind' (omega arith)
          (fewer-out from _ from (nodes_of_block body) u.behind (omega arith) (omega arith) out) (block-Begins rest from' u.behind)

      Inner : Type 0
      Inner = ((slice_get (nodes_in body (number + 1) from u₂) i ≡ Some n) × (i < length (nodes_in body (number + 1) from u₂)))
          ⊎ ((j : ℕ) × (i ≡ length (nodes_in body (number + 1) from u₂) + j) × (slice_get (nodes_of_catches hs (number + 1 + numbers_of_block body) (from + nodes_of_block body) u₁) j ≡ Some n))

      inner : e < from + nodes_of_block body → start_of_block body from behind' ≡ node e → Inner → LeadsThere e size n
      inner high' first (inl a) = in_body high' first outside (inside-within high') i n a.0 after
      inner high' first (inr b) = handlers-there e size hs _ (from + nodes_of_block body) u₁ (omega arith, omega arith) (around-within high') n (got-IsIn _ b.0 n b.2)

      begins_inside : e < from + nodes_of_block body → start_of_block body from behind' ≡ node e → Parts → LeadsThere e size n
      begins_inside high' first (inl a) = inner high' first (got-joined (nodes_in body (number + 1) from u₂) _ i n a.0)
      begins_inside high' first (inr b) = within_rest high' b.0 b.2

      -- where its block leads to the rest
      begins_behind : from' ≤ e → e < from' + nodes_of_block rest → behind' ≡ node e → Parts → LeadsThere e size n
      begins_behind low' high' first (inl a) = absurd (let k : ⊥ = omega (arith, a.1, counted) in k)
      begins_behind low' high' first (inr b) =
          in_rest low' high' first (fewer-out from _ from' (nodes_of_block rest) u.behind (omega arith) (omega arith) out) b.0 n b.2 (omega (arith, b.1, counted))

      rest_begins : behind' ≡ node e → Begins from' (nodes_of_block rest) u.behind behind' → Parts → LeadsThere e size n
      rest_begins first (inl same) parts = not-out from _ e u.behind (sym same ∙ first) low high out
      rest_begins first (inr b) parts =
          let here : e ≡ b.0 = same-node e b.0 (sym first ∙ b.1) in
          begins_behind (omega (arith, here, b.2)) (omega (arith, here, b.3)) first parts

      by : Begins from (nodes_of_block body) behind' (start_of_block body from behind') → Parts → LeadsThere e size n
      by (inl same) parts = rest_begins (sym same ∙ begin) (block-Begins rest from' u.behind) parts
      by (inr b) parts =
          let here : e ≡ b.0 = same-node e b.0 (sym begin ∙ b.1) in
          begins_inside (omega (arith, here, b.3)) begin parts

  onward : (b : Block) (number from : ℕ) (u : Surroundings) → from ≤ e → e < from + nodes_of_block b → from + nodes_of_block b ≤ size → start_of_block b from u.behind ≡ node e → OutOf from (nodes_of_block b) u.behind → IsSurrounded e size u → (i : ℕ) (n : Node) → slice_get (nodes_in b number from u) i ≡ Some n → e ≤ from + i → LeadsThere e size n
  onward no_statements number from u low high room begin out h i n got after = absurd (let k : ⊥ = omega arith in k)
  onward (statement (simple form) rest) number from u low high room begin out h i n got after =
      whole (statement (simple form) rest) number from u (omega (arith, same-node from e begin)) room h i n got
  onward (statement (choosing form bs) rest) number from u low high room begin out h i n got after =
      whole (statement (choosing form bs) rest) number from u (omega (arith, same-node from e begin)) room h i n got
  onward (statement (repeating form body) rest) number from u low high room begin out h i n got after =
      whole (statement (repeating form body) rest) number from u (omega (arith, same-node from e begin)) room h i n got
  onward (statement leaving rest) number from u low high room begin out h i n got after =
      whole (statement leaving rest) number from u (omega (arith, same-node from e begin)) room h i n got
  onward (statement (trying body hs) rest) number from u low high room begin out h i n got after =
      try-onward body hs rest number from u low high room begin out h
      (λ high' begin' out' h' i n got after. onward body (number + 1) from (inside body hs from (around (trying body hs) rest from u)) low high' (omega arith) begin' out' h' i n got after)
      (λ low' high' begin' out' i n got after. onward rest (number + numbers_of (trying body hs)) (from + nodes_of (trying body hs)) u low' high' (omega arith) begin' out' h i n got after)
      i n got after

-- an element of a mapped list
got-map : {X Y : Type 0} (f : X → Y) (xs : List X) (i : ℕ) (y : Y) → slice_get (map f xs) i ≡ Some y → (x : X) × (slice_get xs i ≡ Some x) × (y ≡ f x)
got-map f [] i y h = absurd (let k : ⊥ = cc in k)
got-map f (x ∷ xs) zero y h = (x, refl, let k : y ≡ f x = cc in k)
got-map f (x ∷ xs) (suc i) y h = got-map f xs i y h

abbrev outer : Surroundings
outer = record { behind = end; catches = []; exit = end }

-- edges lead from the node at which a process begins to no earlier one
led-within : (types : TypeTable) (p : Process) (e : ℕ) → (flow_of types p).entry ≡ node e → e < nodes_of_block p.body → (t : Target) → IsLedTo (flow_of types p) t → IsWithin e (nodes_of_block p.body) t
led-within types p e begin high _ begins = subst (IsWithin e (nodes_of_block p.body)) (sym begin) (omega arith, high)
led-within types p e begin high _ (goes_on i q x led at member) =
    by (led-within types p e begin high (node i) led) (got-map (point types p.variables) (process_nodes p) i q at)
  where
    by : (e ≤ i) × (i < nodes_of_block p.body) → (n : Node) × (slice_get (process_nodes p) i ≡ Some n) × (q ≡ point types p.variables n) → IsWithin e (nodes_of_block p.body) x.target
    by here found =
        edge-within e (nodes_of_block p.body) types p.variables found.0 x
        (onward e (nodes_of_block p.body) p.body 1 0 outer (omega arith) (omega arith) (omega arith) begin tt (outermost e (nodes_of_block p.body)) i found.0 found.1 (omega (arith, here.0)))
        (subst (λ (r : Point). IsIn x r.edges) found.2 member)

-- a process that begins at the end leads nowhere else
led-end : (flow : Flow) → flow.entry ≡ end → (t : Target) → IsLedTo flow t → t ≡ end
led-end flow begin _ begins = begin
led-end flow begin _ (goes_on i q x led at member) = let k : node i ≡ end = led-end flow begin (node i) led in cc

first-above : (n : ℕ) → 0 < n → first_of n ≡ node 0
first-above zero h = absurd (let k : ⊥ = omega (arith, h) in k)
first-above (suc n) h = refl

pub begins-first : (types : TypeTable) (p : Process) → ((i : ℕ) → i < length (flow_of types p).points → IsReached (flow_of types p) (node i)) → (flow_of types p).entry ≡ first_of (length (flow_of types p).points)
begins-first types p reached = by (block-Begins p.body 0 end)
  where
    counted : length (flow_of types p).points ≡ nodes_of_block p.body
    counted = flow_length types p

    at_end : (n : ℕ) → length (flow_of types p).points ≡ n → (flow_of types p).entry ≡ end → (flow_of types p).entry ≡ first_of n
    at_end zero e begin = begin
    at_end (suc n) e begin =
        let k : node 0 ≡ end = led-end (flow_of types p) begin (node 0) (reached-IsLedTo (flow_of types p) (node 0) (reached 0 (omega (arith, e)))) in cc

    at_node : (j : ℕ) → (flow_of types p).entry ≡ node j → j < nodes_of_block p.body → (flow_of types p).entry ≡ first_of (length (flow_of types p).points)
    at_node j begin high =
        let low = led-within types p j begin high (node 0) (reached-IsLedTo (flow_of types p) (node 0) (reached 0 (omega (arith, counted)))) in
        let same : j ≡ 0 = omega (arith, low.0) in
        begin ∙ ap node same ∙ sym (first-above (length (flow_of types p).points) (omega (arith, counted)))

    by : Begins 0 (nodes_of_block p.body) end (entry_of p) → (flow_of types p).entry ≡ first_of (length (flow_of types p).points)
    by (inl e) = at_end (length (flow_of types p).points) refl e
    by (inr b) = at_node b.0 b.1 (omega (arith, b.3))
