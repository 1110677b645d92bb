-- Of a typed form the exceptions are there, and a `select` has an arm.
use Rattle.std.proofs.Common.{◌≡◌, ℕ, ◌+◌, ◌<◌, List, [], ◌∷◌, ◌++◌, map, Bool, true, false, cond, nat_eq, nat_lt, IsTrue, Option, Some, None, ◌⊎◌, inl, inr, refl, sym, ap, subst, ◌∙◌, arith}
use Rattle.herm_model.specs.Lists.{IsIn}
use Rattle.herm_model.specs.Paths.{Path}
use Rattle.herm_model.specs.Types.{TypeTable, Shape, inport, Raised}
use Rattle.herm_model.specs.Expressions.{Expression, Atom, can_overflow, can_deplete}
use Rattle.herm_model.specs.Statements.{Form, Branching, goes_on, repeats, leaves, chooses, branching_of, Statement, simple, choosing, repeating, leaving, trying, Block, no_statements, statement, Blocks, no_blocks, block, Handlers, no_handlers, handler, count_blocks, numbers_of, numbers_of_block, nodes_of, nodes_of_block, IsWellFormed, IsWellFormedBlock, AreWellFormed, AreWellFormedHandlers, Process}
use Rattle.herm_model.specs.Calls.{shape_at, call_raises}
use Rattle.herm_model.specs.Outcomes.{overflow, depletion, disconnected, with_number, rising, listed_if, raised_by, raised_by_new, exceptions}
use Rattle.herm_model.specs.Targets.{node}
use Rattle.herm_model.specs.Nodes.{Surroundings, Node, start_of_block, catches_of, nodes, nodes_in, nodes_of_choices, nodes_of_catches, process_nodes}
use Rattle.herm_model.specs.TypedStatements.{IsTypedForm, port_type}
use Rattle.herm_model.specs.TypedPrograms.{Placed, placed, placed_in, placed_in_blocks, placed_in_handlers, HasArms, is_some_block, OfEachStatement}
use Rattle.herm_model.specs.WellFormedTables.{IsWellFormedTable}
use Rattle.herm_model.proofs.Lists.{in-append_left, in-append_right, in-append_cases, in-map_from, not_true, each-joined, each-first, each-none}
use Rattle.herm_model.proofs.ThereFacts.{calls-declare}
use Rattle.herm_good_images.proofs.fronts.GoodFronts.{HasArm}

-- a number of a rising list is one of the list
with-number_in : (n : ℕ) (ms : List ℕ) (e : ℕ) → IsIn e (with_number n ms) → (e ≡ n) ⊎ IsIn e ms
with-number_in n [] e (inl q) = inl q
with-number_in n [] e (inr k) = absurd k
with-number_in n (m ∷ ms) e h = by (nat_lt n m) (nat_eq n m) h (with-number_in n ms e)
  where
    by : (a b : Bool) → IsIn e (cond a (n ∷ m ∷ ms) (cond b (m ∷ ms) (m ∷ with_number n ms))) → (IsIn e (with_number n ms) → (e ≡ n) ⊎ IsIn e ms) → (e ≡ n) ⊎ IsIn e (m ∷ ms)
    by true b (inl q) again = inl q
    by true b (inr k) again = inr k
    by false true k again = inr k
    by false false (inl q) again = inr (inl q)
    by false false (inr k) again = later (again k)
      where
        later : (e ≡ n) ⊎ IsIn e ms → (e ≡ n) ⊎ IsIn e (m ∷ ms)
        later (inl q) = inl q
        later (inr j) = inr (inr j)

rising-in : (ns : List ℕ) (e : ℕ) → IsIn e (rising ns) → IsIn e ns
rising-in [] e h = h
rising-in (n ∷ ns) e h = by (with-number_in n (rising ns) e h) (rising-in ns e)
  where
    by : (e ≡ n) ⊎ IsIn e (rising ns) → (IsIn e (rising ns) → IsIn e ns) → IsIn e (n ∷ ns)
    by (inl q) again = inl q
    by (inr k) again = inr (again k)

module _ (count : ℕ) (table : TypeTable) (variables : List ℕ) (processes : List Process) (formed : IsWellFormedTable count table) where
  enough : (e : ℕ) → e < 7 → e < count
  enough e low = let h = formed.enough_exceptions in omega (arith, low, h)

  one-known : (x e : ℕ) → x < 7 → IsIn e (x ∷ []) → e < count
  one-known x e low (inl q) = enough e (omega (arith, q, low))
  one-known x e low (inr k) = absurd k

  if-known : (b : Bool) (x e : ℕ) → x < 7 → IsIn e (listed_if b x) → e < count
  if-known true x e low h = one-known x e low h
  if-known false x e low h = absurd h

  value-known : (v : Expression) (e : ℕ) → IsIn e (raised_by v) → e < count
  value-known v e h = by (in-append_cases e (listed_if (can_overflow v) overflow) _ h)
    where
      by : IsIn e (listed_if (can_overflow v) overflow) ⊎ IsIn e (listed_if (can_deplete v) depletion) → e < count
      by (inl a) = if-known (can_overflow v) overflow e (omega arith) a
      by (inr b) = if-known (can_deplete v) depletion e (omega arith) b

  new-known : (o : Option Shape) (e : ℕ) → IsIn e (raised_by_new o) → e < count
  new-known (Some (inport message declared)) e h = one-known depletion e (omega arith) h
  new-known (Some s) e h = absurd h
  new-known None e h = absurd h

  call-known : (o : Path) (atoms : List Atom) → IsTypedForm table variables count processes (Form.Call o atoms) → (e : ℕ) → IsIn e (disconnected ∷ map (λ (r : Raised). r.exception) (call_raises table variables o)) → e < count
  call-known o atoms h e (inl q) = one-known disconnected e (omega arith) (inl q)
  call-known o atoms h e (inr k) =
      let r = in-map_from (λ (r : Raised). r.exception) e (call_raises table variables o) k in
      subst (λ x. x < count) (sym r.2) ((calls-declare count table variables processes o atoms formed h).known r.0 r.1)

  -- the exceptions of a typed form are there
  pub exceptions-known : (form : Form) → IsTypedForm table variables count processes form → (e : ℕ) → IsIn e (exceptions table variables form) → e < count
  exceptions-known (Form.Assign x v) h e m = value-known v e m
  exceptions-known (Form.If v) h e m = value-known v e m
  exceptions-known (Form.While v) h e m = value-known v e m
  exceptions-known (Form.New x) h e m = new-known (shape_at table variables x) e m
  exceptions-known (Form.Reveal v c) h e m = one-known _ e (omega arith) m
  exceptions-known (Form.Wrap y p) h e m = one-known depletion e (omega arith) m
  exceptions-known (Form.Unwrap p t y) h e m = one-known _ e (omega arith) m
  exceptions-known (Form.Insert r t) h e (inl q) = one-known depletion e (omega arith) (inl q)
  exceptions-known (Form.Insert r t) h e (inr m) = one-known _ e (omega arith) m
  exceptions-known (Form.Remove r t keys) h e m = one-known _ e (omega arith) m
  exceptions-known (Form.Get r t keys) h e m = one-known _ e (omega arith) m
  exceptions-known (Form.Send x o) h e m = one-known disconnected e (omega arith) m
  exceptions-known (Form.Create o n) h e m = one-known depletion e (omega arith) m
  exceptions-known (Form.Call o atoms) h e m = call-known o atoms h e (rising-in (disconnected ∷ map (λ (r : Raised). r.exception) (call_raises table variables o)) e m)
  exceptions-known (Form.Raise x) h e (inl q) = subst (λ x. x < count) (sym q) h
  exceptions-known (Form.Raise x) h e (inr m) = absurd m
  exceptions-known form h e m = absurd m

-- a typed form is typed beside any processes with ports of the same types
pub typed-beside : (table : TypeTable) (variables : List ℕ) (count : ℕ) (processes others : List Process) → ((n : ℕ) → port_type processes n ≡ port_type others n) → (form : Form) → IsTypedForm table variables count processes form → IsTypedForm table variables count others form
typed-beside table variables count processes others same (Form.Create o n) h = (h.0, h.1, h.2, h.3, sym (same n) ∙ h.4)
typed-beside table variables count processes others same form h = h

-- a node is no `select` without arms
abbrev IsNoEmpty : Node → Type 0
IsNoEmpty n = n.form ≡ Form.Select [] → ⊥

abbrev HaveArms : List Placed → Type 0
HaveArms ss = (s : Placed) → IsIn s ss → HasArms s.statement

goes-not_chooses : goes_on ≡ chooses 0 → ⊥
goes-not_chooses e = cc

repeats-not_chooses : repeats ≡ chooses 0 → ⊥
repeats-not_chooses e = cc

leaves-not_chooses : leaves ≡ chooses 0 → ⊥
leaves-not_chooses e = cc

no-empty_choice : (form : Form) (blocks : Blocks) → branching_of form ≡ chooses (count_blocks blocks) → IsTrue (is_some_block blocks) → form ≡ Form.Select [] → ⊥
no-empty_choice form no_blocks e h q = not_true h
no-empty_choice form (block b rest) e h q = different (count_blocks rest) (sym (ap branching_of q) ∙ e)
  where
    arms : Branching → ℕ
    arms (chooses n) = n
    arms b = 0

    different : (n : ℕ) → chooses 0 ≡ chooses (1 + n) → ⊥
    different n e = let k = ap arms e in absurd (omega (arith, k))

mutual
  no-empty : (s : Statement) (number from : ℕ) (u : Surroundings) (l : Bool) → IsWellFormed s → HaveArms (placed l s) → (n : Node) → IsIn n (nodes s number from u) → IsNoEmpty n
  no-empty (simple form) number from u l well h = each-first IsNoEmpty _ [] (λ q. let k : ⊥ = goes-not_chooses (sym well ∙ ap branching_of q) in k) (each-none IsNoEmpty)
  no-empty (choosing form blocks) number from u l well h =
      each-first IsNoEmpty _ _ (no-empty_choice form blocks well.0 (h (record { in_loop = l; statement = choosing form blocks }) (inl refl))) (no-empty-choices blocks (number + 1) (from + 1) u l well.2 (λ s m. h s (inr m)))
  no-empty (repeating form body) number from u l well h =
      each-first IsNoEmpty _ _ (λ q. let k : ⊥ = repeats-not_chooses (sym well.0 ∙ ap branching_of q) in k)
      (no-empty-in body (number + 1) (from + 1) (record { behind = node from; catches = u.catches; exit = u.behind }) true well.1 (λ s m. h s (inr m)))
  no-empty leaving number from u l well h = each-first IsNoEmpty _ [] (λ q. let k : ⊥ = leaves-not_chooses (ap branching_of q) in k) (each-none IsNoEmpty)
  no-empty (trying body handlers) number from u l well h =
      each-joined IsNoEmpty (nodes_in body (number + 1) from (record u { catches = catches_of handlers (from + nodes_of_block body) u.behind ++ u.catches })) (nodes_of_catches handlers (number + 1 + numbers_of_block body) (from + nodes_of_block body) u)
      (no-empty-in body (number + 1) from (record u { catches = catches_of handlers (from + nodes_of_block body) u.behind ++ u.catches }) l well.0 (λ s m. h s (inr (in-append_left s (placed_in l body) _ m))))
      (no-empty-catches handlers (number + 1 + numbers_of_block body) (from + nodes_of_block body) u l well.1 (λ s m. h s (inr (in-append_right s (placed_in l body) _ m))))

  no-empty-in : (b : Block) (number from : ℕ) (u : Surroundings) (l : Bool) → IsWellFormedBlock b → HaveArms (placed_in l b) → (n : Node) → IsIn n (nodes_in b number from u) → IsNoEmpty n
  no-empty-in no_statements number from u l well h = each-none IsNoEmpty
  no-empty-in (statement s rest) number from u l well h =
      each-joined IsNoEmpty (nodes s number from (record u { behind = start_of_block rest (from + nodes_of s) u.behind })) (nodes_in rest (number + numbers_of s) (from + nodes_of s) u)
      (no-empty s number from (record u { behind = start_of_block rest (from + nodes_of s) u.behind }) l well.0 (λ x m. h x (in-append_left x (placed l s) _ m)))
      (no-empty-in rest (number + numbers_of s) (from + nodes_of s) u l well.1 (λ x m. h x (in-append_right x (placed l s) _ m)))

  no-empty-choices : (bs : Blocks) (number from : ℕ) (u : Surroundings) (l : Bool) → AreWellFormed bs → HaveArms (placed_in_blocks l bs) → (n : Node) → IsIn n (nodes_of_choices bs number from u) → IsNoEmpty n
  no-empty-choices no_blocks number from u l well h = each-none IsNoEmpty
  no-empty-choices (block b rest) number from u l well h =
      each-joined IsNoEmpty (nodes_in b number from u) (nodes_of_choices rest (number + numbers_of_block b) (from + nodes_of_block b) u)
      (no-empty-in b number from u l well.0 (λ x m. h x (in-append_left x (placed_in l b) _ m)))
      (no-empty-choices rest (number + numbers_of_block b) (from + nodes_of_block b) u l well.1 (λ x m. h x (in-append_right x (placed_in l b) _ m)))

  no-empty-catches : (hs : Handlers) (number from : ℕ) (u : Surroundings) (l : Bool) → AreWellFormedHandlers hs → HaveArms (placed_in_handlers l hs) → (n : Node) → IsIn n (nodes_of_catches hs number from u) → IsNoEmpty n
  no-empty-catches no_handlers number from u l well h = each-none IsNoEmpty
  no-empty-catches (handler e b rest) number from u l well h =
      each-joined IsNoEmpty (nodes_in b number from u) (nodes_of_catches rest (number + numbers_of_block b) (from + nodes_of_block b) u)
      (no-empty-in b number from u l well.0 (λ x m. h x (in-append_left x (placed_in l b) _ m)))
      (no-empty-catches rest (number + numbers_of_block b) (from + nodes_of_block b) u l well.1 (λ x m. h x (in-append_right x (placed_in l b) _ m)))

arm-of : (form : Form) → (form ≡ Form.Select [] → ⊥) → HasArm form
arm-of (Form.Select []) h = h refl
arm-of (Form.Select (a ∷ arms)) h = tt
arm-of form h = tt

pub node-arm : (p : Process) → IsWellFormedBlock p.body → OfEachStatement p (λ l s. HasArms s) → (n : Node) → IsIn n (process_nodes p) → HasArm n.form
node-arm p well arms n m = arm-of n.form (no-empty-in p.body 1 0 _ false well arms n m)
