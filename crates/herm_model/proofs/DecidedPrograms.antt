-- The tests of bodies, processes and programs decide which are typed.
use Rattle.std.proofs.Common.{◌&&◌, ◌≡◌, ◌↔◌, ℕ, suc, ◌+◌, ◌<◌, List, [], ◌∷◌, ◌++◌, map, length, Bool, true, false, not, cond, ◌||◌, ◌⊎◌, inl, inr, nat_eq, nat_lt, Some, is_some, option_map, slice_get, IsTrue, refl, sym, ap, subst, ◌∙◌, arith, true≢false, IsFalse, filter, zero, ◌≤◌}
use Rattle.herm_model.specs.Lists.{IsIn, all_pass, any_pass, numbered, range}
use Rattle.herm_model.specs.Paths.{Fact}
use Rattle.herm_model.specs.Types.{inport, TypeTable, predefined, all_parts, variable_paths}
use Rattle.herm_model.specs.Statements.{Form, Case, Statement, simple, choosing, repeating, leaving, trying, Block, no_statements, statement, Blocks, no_blocks, block, Handlers, no_handlers, handler, Process, Branching, goes_on, repeats, leaves, chooses, branching_of, count_blocks, numbers_of_block, HasDifferentArms, IsWellFormed, IsWellFormedBlock, AreWellFormed, AreWellFormedHandlers}
use Rattle.herm_model.specs.Nodes.{Node, process_nodes, entry_of}
use Rattle.herm_model.specs.Exits.{Exit, exits}
use Rattle.herm_model.specs.Targets.{Target, node, end, end_by}
use Rattle.herm_model.specs.ControlPaths.{Edge, edge, Point, point, flow_of, IsReached}
use Rattle.herm_model.specs.laws.FlowLaws.{IsLedTo, begins, goes_on}
use Rattle.herm_model.specs.laws.FlowLaws
use Rattle.herm_model.specs.TypedExpressions.{HasShape}
use Rattle.herm_model.specs.WellFormedTables.{IsType}
use Rattle.herm_model.specs.TypedStatements.{port_type, IsTypedForm}
use Rattle.herm_model.specs.TypedPrograms.{greatest_statements, greatest_variable_paths, main_start, Placed, placed_in, handled, is_some_block, is_some_handler, HasArms, HasHandlers, HasDifferentHandlers, HandlesKnown, LeavesLoop, OfEachStatement, IsTypedProcess, IsTypedProgram}
use Rattle.herm_model.specs.tests.TableTests.{on_inport, broken_table_rules}
use Rattle.herm_model.specs.tests.TypingTests.{is_typed_form}
use Rattle.herm_model.specs.tests.BodyTests.{same_branching, has_different_arms, is_well_formed, is_well_formed_block, are_well_formed, are_well_formed_handlers, has_arms, has_handlers, has_different_handlers, handles_known, leaves_loop, of_each_statement, places_of, places_behind, sweep, settle, marked_places, is_marked, are_settled, ProcessRule, port, variables_known, few_variable_paths, few_statements, blocks, arms, handlers, handlers_differ, handlers_known, leaves_in_loops, typed, reached, process_rules, keeps_process_rule, broken_process_rules, is_empty, is_typed_program}
use Rattle.herm_model.specs.laws.TypedLaws.{ProcessKeeps, TestsDecideProcesses, NoneBrokenIsTyped, TestDecidesPrograms}
use Rattle.herm_model.proofs.Lists.{in-append_left, in-append_right, numbered-in, length-map, not_true, and-both, both-and, in-every, in-append_cases, in-map, in-map_from, slice_get-map, every-in, or-either}
use Rattle.herm_model.proofs.NodePlaces.{edges-there}
use Rattle.herm_model.proofs.TypedPaths.{or-falses}
use Rattle.herm_model.proofs.Options.{map-some}
use Rattle.herm_model.proofs.FactTests.{at-numbered}
use Rattle.herm_model.proofs.Reached.{reached-led}
use Rattle.herm_model.proofs.DifferentOutcomes.{process-EdgesDiffer}
use Rattle.herm_model.proofs.Deciding.{not-decides, below-in, Decides, through, both-decide, true-decides, false-decides, numbers-decide, below-decides, at_most-decides, all-decide, chosen-decides, member-decides, different-decides, range-decides, itself}
use Rattle.herm_model.proofs.DecidedTables.{inport-decides, none-broken, all-kept, none-well_formed}
use Rattle.herm_model.proofs.DecidedForms.{IsRegular, well_formed-regular, number-is, form-decides}

branching-decides : (a b : Branching) → Decides (same_branching a b) (a ≡ b)
branching-decides goes_on goes_on = true-decides refl
branching-decides repeats repeats = true-decides refl
branching-decides leaves leaves = true-decides refl
branching-decides (chooses m) (chooses n) = through _ (λ e. ap chooses e) (λ e. cc e) (numbers-decide m n)
branching-decides a b = false-decides (λ e. cc e)

arms-differ : (form : Form) → Decides (has_different_arms form) (HasDifferentArms form)
arms-differ (Case v cs) = different-decides nat_eq numbers-decide cs
arms-differ form = true-decides tt

mutual
  statement-decides : (s : Statement) → Decides (is_well_formed s) (IsWellFormed s)
  statement-decides (simple form) = branching-decides (branching_of form) goes_on
  statement-decides (choosing form bs) =
      through _ (λ h. (h.0, h.1.0, h.1.1)) (λ h. (h.0, (h.1, h.2)))
      (both-decide (same_branching (branching_of form) (chooses (count_blocks bs))) _ (branching-decides (branching_of form) (chooses (count_blocks bs))) (both-decide (has_different_arms form) _ (arms-differ form) (blocks-decide bs)))
  statement-decides (repeating form body) = both-decide (same_branching (branching_of form) repeats) _ (branching-decides (branching_of form) repeats) (block-decides body)
  statement-decides leaving = true-decides tt
  statement-decides (trying body hs) = both-decide (is_well_formed_block body) _ (block-decides body) (handlers-decide hs)

  block-decides : (b : Block) → Decides (is_well_formed_block b) (IsWellFormedBlock b)
  block-decides no_statements = true-decides tt
  block-decides (statement s rest) = both-decide (is_well_formed s) _ (statement-decides s) (block-decides rest)

  blocks-decide : (bs : Blocks) → Decides (are_well_formed bs) (AreWellFormed bs)
  blocks-decide no_blocks = true-decides tt
  blocks-decide (block b rest) = both-decide (is_well_formed_block b) _ (block-decides b) (blocks-decide rest)

  handlers-decide : (hs : Handlers) → Decides (are_well_formed_handlers hs) (AreWellFormedHandlers hs)
  handlers-decide no_handlers = true-decides tt
  handlers-decide (handler e b rest) = both-decide (is_well_formed_block b) _ (block-decides b) (handlers-decide rest)

arms-decide : (l : Bool) (s : Statement) → Decides (has_arms l s) (HasArms s)
arms-decide l (choosing form bs) = itself (is_some_block bs)
arms-decide l s = true-decides tt

some-decide : (l : Bool) (s : Statement) → Decides (has_handlers l s) (HasHandlers s)
some-decide l (trying body hs) = itself (is_some_handler hs)
some-decide l s = true-decides tt

others-decide : (l : Bool) (s : Statement) → Decides (has_different_handlers l s) (HasDifferentHandlers s)
others-decide l (trying body hs) = different-decides nat_eq numbers-decide (handled hs)
others-decide l s = true-decides tt

known-decide : (exceptions : ℕ) (l : Bool) (s : Statement) → Decides (handles_known exceptions l s) (HandlesKnown exceptions s)
known-decide exceptions l (trying body hs) = all-decide (λ e. nat_lt e exceptions) (λ e. e < exceptions) (λ e. below-decides e exceptions) (handled hs)
known-decide exceptions l s = true-decides tt

leaves-decide : (l : Bool) (s : Statement) → Decides (leaves_loop l s) (LeavesLoop l s)
leaves-decide l leaving = itself l
leaves-decide l s = true-decides tt

each-decides : (p : Process) (test : Bool → Statement → Bool) (P : Bool → Statement → Type 0) → ((l : Bool) (s : Statement) → Decides (test l s) (P l s)) → Decides (of_each_statement p test) (OfEachStatement p P)
each-decides p test P each = all-decide (λ (s : Placed). test s.in_loop s.statement) (λ (s : Placed). P s.in_loop s.statement) (λ s. each s.in_loop s.statement) (placed_in false p.body)

-- places among targets
place-target : (j : ℕ) (ts : List Target) → IsIn j (places_of ts) → IsIn (node j) ts
place-target j [] h = absurd h
place-target j (node i ∷ ts) (inl e) = inl (ap node e)
place-target j (node i ∷ ts) (inr h) = inr (place-target j ts h)
place-target j (end ∷ ts) h = inr (place-target j ts h)
place-target j (end_by e ∷ ts) h = inr (place-target j ts h)

target-place : (j : ℕ) (ts : List Target) → IsIn (node j) ts → IsIn j (places_of ts)
target-place j [] h = absurd h
target-place j (node i ∷ ts) (inl e) = inl (cc e)
target-place j (node i ∷ ts) (inr h) = inr (target-place j ts h)
target-place j (end ∷ ts) (inl e) = let k : ⊥ = cc e in absurd k
target-place j (end ∷ ts) (inr h) = target-place j ts h
target-place j (end_by f ∷ ts) (inl e) = let k : ⊥ = cc e in absurd k
target-place j (end_by f ∷ ts) (inr h) = target-place j ts h

numbered-got : {X : Type 0} (k i : ℕ) (x : X) (xs : List X) → IsIn (i, x) (numbered k xs) → (j : ℕ) × (i ≡ k + j) × (slice_get xs j ≡ Some x)
numbered-got k i x [] h = absurd h
numbered-got {X} k i x (y ∷ ys) (inl e) = (0, ap (λ (z : ℕ × X). z.0) e ∙ omega arith, ap (λ (z : ℕ × X). Some z.1) (sym e))
numbered-got k i x (y ∷ ys) (inr h) = let r = numbered-got (suc k) i x ys h in (suc r.0, omega (arith, r.1), r.2)

got-numbered : {X : Type 0} (i : ℕ) (x : X) (xs : List X) → IsIn (i, x) (numbered 0 xs) → slice_get xs i ≡ Some x
got-numbered i x xs h = let r = numbered-got 0 i x xs h in let e : i ≡ r.0 = omega (arith, r.1) in subst (λ j. slice_get xs j ≡ Some x) (sym e) r.2

and-false : (a b : Bool) → IsFalse (a && b) → IsTrue a → IsFalse b
and-false true b f h = f
and-false false b f h = not_true h

not-false : (b : Bool) → IsFalse (not b) → IsTrue b
not-false true f = refl
not-false false f = absurd (true≢false f)

every-false : {X : Type 0} (test : X → Bool) (xs : List X) → IsFalse (all_pass test xs) → (x : X) × IsIn x xs × IsFalse (test x)
every-false test [] f = absurd (true≢false f)
every-false {X} test (x ∷ xs) f = by (test x) refl f (every-false test xs)
  where
    by : (b : Bool) → test x ≡ b → IsFalse (b && all_pass test xs) → (IsFalse (all_pass test xs) → (y : X) × IsIn y xs × IsFalse (test y)) → (y : X) × IsIn y (x ∷ xs) × IsFalse (test y)
    by false e f again = (x, inl refl, e)
    by true e f again = let r = again f in (r.0, inr r.1, r.2)

-- filters by a stronger test, and one that leaves something out
filter-shorter : (test : ℕ → Bool) (xs : List ℕ) → length (filter test xs) ≤ length xs
filter-shorter test [] = omega arith
filter-shorter test (x ∷ xs) = by (test x) (filter-shorter test xs)
  where
    by : (b : Bool) → length (filter test xs) ≤ length xs → length (cond b (x ∷ filter test xs) (filter test xs)) ≤ suc (length xs)
    by true l = omega (arith, l)
    by false l = omega (arith, l)

no-longer : (a b : ℕ → Bool) → ((i : ℕ) → IsTrue (a i) → IsTrue (b i)) → (xs : List ℕ) → length (filter a xs) ≤ length (filter b xs)
no-longer a b f [] = omega arith
no-longer a b f (x ∷ xs) = by (a x) (b x) (f x) (no-longer a b f xs)
  where
    by : (c d : Bool) → (IsTrue c → IsTrue d) → length (filter a xs) ≤ length (filter b xs) → length (cond c (x ∷ filter a xs) (filter a xs)) ≤ length (cond d (x ∷ filter b xs) (filter b xs))
    by true true g l = omega (arith, l)
    by true false g l = not_true (g refl)
    by false true g l = omega (arith, l)
    by false false g l = l

shorter : (a b : ℕ → Bool) → ((i : ℕ) → IsTrue (a i) → IsTrue (b i)) → (xs : List ℕ) (j : ℕ) → IsIn j xs → IsFalse (a j) → IsTrue (b j) → length (filter a xs) < length (filter b xs)
shorter a b f [] j i n t = absurd i
shorter a b f (x ∷ xs) j (inl e) n t = by (a x) (b x) (subst (λ y. IsFalse (a y)) e n) (subst (λ y. IsTrue (b y)) e t) (no-longer a b f xs)
  where
    by : (c d : Bool) → IsFalse c → IsTrue d → length (filter a xs) ≤ length (filter b xs) → length (cond c (x ∷ filter a xs) (filter a xs)) < length (cond d (x ∷ filter b xs) (filter b xs))
    by true d n t l = absurd (true≢false n)
    by false true n t l = omega (arith, l)
    by false false n t l = not_true t
shorter a b f (x ∷ xs) j (inr i) n t = by (a x) (b x) (f x) (shorter a b f xs j i n t)
  where
    by : (c d : Bool) → (IsTrue c → IsTrue d) → length (filter a xs) < length (filter b xs) → length (cond c (x ∷ filter a xs) (filter a xs)) < length (cond d (x ∷ filter b xs) (filter b xs))
    by true true g l = omega (arith, l)
    by true false g l = not_true (g refl)
    by false true g l = omega (arith, l)
    by false false g l = l

length-range : (k n : ℕ) → length (range k n) ≡ n
length-range k zero = refl
length-range k (suc n) = ap suc (length-range (suc k) n)

module _ (table : TypeTable) (p : Process) where
  abbrev IsAt : ℕ × Node → Type 0
  IsAt n = slice_get (process_nodes p) n.0 ≡ Some n.1

  abbrev Led : ℕ → Type 0
  Led i = IsLedTo (flow_of table p) (node i)

  behind-led : (i j : ℕ) (n : Node) → IsAt (i, n) → Led i → IsIn j (places_behind table p n) → Led j
  behind-led i j n at led h =
      let r = in-map_from (λ (e : Exit). e.target) (node j) (exits table p.variables n) (place-target j _ h) in
      let from : slice_get (flow_of table p).points i ≡ Some (point table p.variables n) = slice_get-map (point table p.variables) (process_nodes p) i ∙ ap (option_map (point table p.variables)) at in
      subst (IsLedTo (flow_of table p)) (sym r.2) (FlowLaws.IsLedTo.goes_on i (point table p.variables n) (edge table p.variables n.form r.0) led from (in-map (edge table p.variables n.form) r.0 (exits table p.variables n) r.1))

  sweep-led : (ns : List (ℕ × Node)) (marked : List ℕ) → ((n : ℕ × Node) → IsIn n ns → IsAt n) → ((i : ℕ) → IsIn i marked → Led i) → (i : ℕ) → IsIn i (sweep table p ns marked) → Led i
  sweep-led [] marked at led i h = led i h
  sweep-led (n ∷ ns) marked at led i h = by (any_pass (nat_eq n.0) marked) refl (λ next next_led k. sweep-led ns next (λ m k. at m (inr k)) next_led i k) h
    where
      by : (b : Bool) → any_pass (nat_eq n.0) marked ≡ b → ((next : List ℕ) → ((j : ℕ) → IsIn j next → Led j) → IsIn i (sweep table p ns next) → Led i) → IsIn i (sweep table p ns (cond b (places_behind table p n.1 ++ marked) marked)) → Led i
      by false e again k = again marked led k
      by true e again k = again (places_behind table p n.1 ++ marked) more k
        where
          more : (j : ℕ) → IsIn j (places_behind table p n.1 ++ marked) → Led j
          more j m = split (in-append_cases j (places_behind table p n.1) marked m)
            where
              split : IsIn j (places_behind table p n.1) ⊎ IsIn j marked → Led j
              split (inl a) = behind-led n.0 j n.1 (at n (inl refl)) (led n.0 ((member-decides nat_eq numbers-decide n.0 marked).0 e)) a
              split (inr b) = led j b

  entry-led : (i : ℕ) → IsIn i (places_of (entry_of p ∷ [])) → Led i
  entry-led i h = by (place-target i (entry_of p ∷ []) h)
    where
      by : IsIn (node i) (entry_of p ∷ []) → Led i
      by (inl e) = subst (IsLedTo (flow_of table p)) (sym e) FlowLaws.IsLedTo.begins
      by (inr h) = absurd h

  abbrev places : List (ℕ × Node)
  places = numbered 0 (process_nodes p)

  abbrev next_marks : ℕ → List ℕ → Bool → List ℕ
  next_marks n marked b = elim b [ true ↦ marked | false ↦ settle table p n (sweep table p places marked) ]

  settle-led : (n : ℕ) (marked : List ℕ) → ((i : ℕ) → IsIn i marked → Led i) → (i : ℕ) → IsIn i (settle table p n marked) → Led i
  settle-led zero marked led i h = led i h
  settle-led (suc n) marked led i h = by (are_settled table p marked) h (settle-led n (sweep table p places marked) (sweep-led places marked (λ n k. got-numbered n.0 n.1 (process_nodes p) k) led) i)
    where
      by : (b : Bool) → IsIn i (next_marks n marked b) → (IsIn i (settle table p n (sweep table p places marked)) → Led i) → Led i
      by true h again = led i h
      by false h again = again h

  marked-led : (i : ℕ) → IsTrue (is_marked table p i) → Led i
  marked-led i h = settle-led (suc (length (process_nodes p))) (places_of (entry_of p ∷ [])) entry-led i ((member-decides nat_eq numbers-decide i (marked_places table p)).0 h)

  -- a sweep keeps the marks, and marks what is behind each
  sweep-keeps : (ns : List (ℕ × Node)) (marked : List ℕ) (i : ℕ) → IsIn i marked → IsIn i (sweep table p ns marked)
  sweep-keeps [] marked i h = h
  sweep-keeps (n ∷ ns) marked i h = by (any_pass (nat_eq n.0) marked) (λ m. sweep-keeps ns m i)
    where
      by : (b : Bool) → ((m : List ℕ) → IsIn i m → IsIn i (sweep table p ns m)) → IsIn i (sweep table p ns (cond b (places_behind table p n.1 ++ marked) marked))
      by true again = again (places_behind table p n.1 ++ marked) (in-append_right i (places_behind table p n.1) marked h)
      by false again = again marked h

  sweep-marks : (ns : List (ℕ × Node)) (marked : List ℕ) (n : ℕ × Node) (j : ℕ) → IsIn n ns → IsIn n.0 marked → IsIn j (places_behind table p n.1) → IsIn j (sweep table p ns marked)
  sweep-marks [] marked n j i m h = absurd i
  sweep-marks (x ∷ ns) marked n j (inl e) m h =
      let test : any_pass (nat_eq x.0) marked ≡ true = subst (λ (y : ℕ × Node). IsTrue (any_pass (nat_eq y.0) marked)) e ((member-decides nat_eq numbers-decide n.0 marked).1 m) in
      let here : IsIn j (places_behind table p x.1) = subst (λ (y : ℕ × Node). IsIn j (places_behind table p y.1)) e h in
      subst (λ b. IsIn j (sweep table p ns (cond b (places_behind table p x.1 ++ marked) marked))) (sym test) (sweep-keeps ns (places_behind table p x.1 ++ marked) j (in-append_left j (places_behind table p x.1) marked here))
  sweep-marks (x ∷ ns) marked n j (inr i) m h = by (any_pass (nat_eq x.0) marked) (λ next k. sweep-marks ns next n j i k h)
    where
      by : (b : Bool) → ((next : List ℕ) → IsIn n.0 next → IsIn j (sweep table p ns next)) → IsIn j (sweep table p ns (cond b (places_behind table p x.1 ++ marked) marked))
      by true again = again (places_behind table p x.1 ++ marked) (in-append_right n.0 (places_behind table p x.1) marked m)
      by false again = again marked m

  -- what is behind a node is there
  behind-there : (n : ℕ × Node) (j : ℕ) → IsIn n places → IsIn j (places_behind table p n.1) → j < length (process_nodes p)
  behind-there n j i h =
      let r = in-map_from (λ (e : Exit). e.target) (node j) (exits table p.variables n.1) (place-target j _ h) in
      let there = edges-there table p (point table p.variables n.1) (edge table p.variables (n.1).form r.0) (in-map (point table p.variables) n.1 (process_nodes p) (numbered-in n.0 0 n.1 (process_nodes p) i)) (in-map (edge table p.variables (n.1).form) r.0 (exits table p.variables n.1) r.1) in
      subst (λ k. j < k) (length-map (point table p.variables) (process_nodes p)) (subst (FlowLaws.IsThere (length (flow_of table p).points)) (sym r.2) there)

  abbrev unmarked : List ℕ → ℕ → Bool
  unmarked marked i = not (any_pass (nat_eq i) marked)

  -- a sweep over marks that are not settled leaves fewer places unmarked
  fewer-unmarked : (marked : List ℕ) → ((i : ℕ) → IsIn i (places_of (entry_of p ∷ [])) → IsIn i marked) → IsFalse (are_settled table p marked)
      → length (filter (unmarked (sweep table p places marked)) (range 0 (length (process_nodes p)))) < length (filter (unmarked marked) (range 0 (length (process_nodes p))))
  fewer-unmarked marked entry f =
      let g = and-false _ _ f (in-every (λ i. any_pass (nat_eq i) marked) (places_of (entry_of p ∷ [])) (λ i k. (member-decides nat_eq numbers-decide i marked).1 (entry i k))) in
      let n = every-false (λ (n : ℕ × Node). not (any_pass (nat_eq n.0) marked) || all_pass (λ i. any_pass (nat_eq i) marked) (places_behind table p n.1)) places g in
      let o = or-falses (not (any_pass (nat_eq (n.0).0) marked)) _ n.2 in
      let j = every-false (λ i. any_pass (nat_eq i) marked) (places_behind table p (n.0).1) o.1 in
      let at : IsIn (n.0).0 marked = (member-decides nat_eq numbers-decide (n.0).0 marked).0 (not-false _ o.0) in
      let now = (member-decides nat_eq numbers-decide j.0 (sweep table p places marked)).1 (sweep-marks places marked n.0 j.0 n.1 at j.1) in
      shorter (unmarked (sweep table p places marked)) (unmarked marked) still (range 0 (length (process_nodes p))) j.0 (below-in 0 (length (process_nodes p)) j.0 (omega arith) (omega (arith, behind-there n.0 j.0 n.1 j.1)))
      (ap not now) (ap not j.2)
    where
      still : (i : ℕ) → IsTrue (unmarked (sweep table p places marked) i) → IsTrue (unmarked marked i)
      still i h = (not-decides (any_pass (nat_eq i) marked) (member-decides nat_eq numbers-decide i marked)).1 (λ k. (not-decides _ (member-decides nat_eq numbers-decide i (sweep table p places marked))).0 h (sweep-keeps places marked i k))

  settle-settles : (n : ℕ) (marked : List ℕ) → ((i : ℕ) → IsIn i (places_of (entry_of p ∷ [])) → IsIn i marked) → length (filter (unmarked marked) (range 0 (length (process_nodes p)))) < n → IsTrue (are_settled table p (settle table p n marked))
  settle-settles zero marked entry l = let z : ⊥ = omega arith in absurd z
  settle-settles (suc n) marked entry l = by (are_settled table p marked) refl (settle-settles n (sweep table p places marked) (λ i k. sweep-keeps places marked i (entry i k)))
    where
      by : (b : Bool) → are_settled table p marked ≡ b → (length (filter (unmarked (sweep table p places marked)) (range 0 (length (process_nodes p)))) < n → IsTrue (are_settled table p (settle table p n (sweep table p places marked)))) → IsTrue (are_settled table p (next_marks n marked b))
      by true e again = e
      by false e again = again (omega (arith, l, fewer-unmarked marked entry e))

  settled : IsTrue (are_settled table p (marked_places table p))
  settled = settle-settles (suc (length (process_nodes p))) (places_of (entry_of p ∷ [])) (λ i k. k) (omega (arith, filter-shorter (unmarked (places_of (entry_of p ∷ []))) (range 0 (length (process_nodes p))), length-range 0 (length (process_nodes p))))

  entry-marked : (i : ℕ) → IsIn i (places_of (entry_of p ∷ [])) → IsTrue (is_marked table p i)
  entry-marked i h = every-in (is_marked table p) i (places_of (entry_of p ∷ [])) (and-both _ _ settled).0 h

  behind-marked : (i j : ℕ) (n : Node) → IsAt (i, n) → IsTrue (is_marked table p i) → IsIn j (places_behind table p n) → IsTrue (is_marked table p j)
  behind-marked i j n at m h =
      let t = every-in (λ (n : ℕ × Node). not (is_marked table p n.0) || all_pass (is_marked table p) (places_behind table p n.1)) (i, n) (numbered 0 (process_nodes p)) (and-both _ _ settled).1 (at-numbered (process_nodes p) i n at) in
      by (is_marked table p i) m (or-either (not (is_marked table p i)) _ t)
    where
      by : (b : Bool) → IsTrue b → IsTrue (not b) ⊎ IsTrue (all_pass (is_marked table p) (places_behind table p n)) → IsTrue (is_marked table p j)
      by true m (inl z) = not_true z
      by false m x = not_true m
      by true m (inr z) = every-in (is_marked table p) j (places_behind table p n) z h

  led-marked : (t : Target) → IsLedTo (flow_of table p) t → (i : ℕ) → t ≡ node i → IsTrue (is_marked table p i)
  led-marked t FlowLaws.IsLedTo.begins i e = entry-marked i (target-place i (entry_of p ∷ []) (inl (sym e)))
  led-marked t (FlowLaws.IsLedTo.goes_on k q x led at of) i e =
      let n = map-some (point table p.variables) (slice_get (process_nodes p) k) q (sym (slice_get-map (point table p.variables) (process_nodes p) k) ∙ at) in
      let r = in-map_from (edge table p.variables (n.0).form) x (exits table p.variables n.0) (subst (λ (z : Point). IsIn x z.edges) (sym n.2) of) in
      let target : node i ≡ (r.0).target = sym e ∙ ap (λ (z : Edge). z.target) r.2 in
      behind-marked k i n.0 n.1 (led-marked (node k) led k refl) (target-place i _ (subst (λ z. IsIn z (map (λ (e : Exit). e.target) (exits table p.variables n.0))) (sym target) (in-map (λ (e : Exit). e.target) r.0 (exits table p.variables n.0) r.1)))

  reached-decides : IsWellFormedBlock p.body → (i : ℕ) → Decides (is_marked table p i) (IsReached (flow_of table p) (node i))
  reached-decides formed i =
      let k = reached-led (flow_of table p) (process-EdgesDiffer table p formed) (node i) in
      ((λ m. k.1 (marked-led i m)), λ r. led-marked (node i) (k.0 r) i refl)

module _ (exceptions : ℕ) (table : TypeTable) (processes : List Process) (p : Process) (regular : IsRegular table) where
  process-decides : IsWellFormedBlock p.body → (rule : ProcessRule) → Decides (keeps_process_rule exceptions table processes p rule) (ProcessKeeps exceptions table processes p rule)
  process-decides formed port =
      through _ (λ h. (h.0, h.2.0, h.2.1, h.1, h.2.2)) (λ h. (h.0, h.3, (h.1, h.2, h.4, tt)))
      (chosen-decides (λ t. on_inport (λ message declared. true) (slice_get table t)) (λ t. (message : ℕ) × (declared : List Fact) × HasShape table t (inport message declared) × Unit {0}) (λ t. inport-decides (λ message declared. true) (λ message declared. Unit {0}) (λ message declared. true-decides tt) (slice_get table t)) (slice_get p.variables 0))
  process-decides formed variables_known = all-decide (λ t. is_some (slice_get table t)) (IsType table) (λ t. itself (is_some (slice_get table t))) p.variables
  process-decides formed few_variable_paths = at_most-decides (length (variable_paths all_parts table p.variables)) greatest_variable_paths
  process-decides formed few_statements = at_most-decides (numbers_of_block p.body) greatest_statements
  process-decides formed blocks = block-decides p.body
  process-decides formed arms = each-decides p has_arms (λ l s. HasArms s) arms-decide
  process-decides formed handlers = each-decides p has_handlers (λ l s. HasHandlers s) some-decide
  process-decides formed handlers_differ = each-decides p has_different_handlers (λ l s. HasDifferentHandlers s) others-decide
  process-decides formed handlers_known = each-decides p (handles_known exceptions) (λ l s. HandlesKnown exceptions s) (known-decide exceptions)
  process-decides formed leaves_in_loops = each-decides p leaves_loop LeavesLoop leaves-decide
  process-decides formed typed = all-decide (λ (n : Node). is_typed_form table p.variables exceptions processes n.form) (λ (n : Node). IsTypedForm table p.variables exceptions processes n.form) (λ (n : Node). form-decides table regular p.variables exceptions processes n.form) (process_nodes p)
  process-decides formed reached = range-decides (is_marked table p) (λ i. IsReached (flow_of table p) (node i)) (reached-decides table p formed) (length (process_nodes p))

  process_rule-listed : (rule : ProcessRule) → IsIn rule process_rules
  process_rule-listed port = inl refl
  process_rule-listed variables_known = inr (inl refl)
  process_rule-listed few_variable_paths = inr (inr (inl refl))
  process_rule-listed few_statements = inr (inr (inr (inl refl)))
  process_rule-listed blocks = inr (inr (inr (inr (inl refl))))
  process_rule-listed arms = inr (inr (inr (inr (inr (inl refl)))))
  process_rule-listed handlers = inr (inr (inr (inr (inr (inr (inl refl))))))
  process_rule-listed handlers_differ = inr (inr (inr (inr (inr (inr (inr (inl refl)))))))
  process_rule-listed handlers_known = inr (inr (inr (inr (inr (inr (inr (inr (inl refl))))))))
  process_rule-listed leaves_in_loops = inr (inr (inr (inr (inr (inr (inr (inr (inr (inl refl)))))))))
  process_rule-listed typed = inr (inr (inr (inr (inr (inr (inr (inr (inr (inr (inl refl))))))))))
  process_rule-listed reached = inr (inr (inr (inr (inr (inr (inr (inr (inr (inr (inr (inl refl)))))))))))

  none-typed : (broken_process_rules exceptions table processes p ≡ []) ↔ IsTypedProcess exceptions table processes p
  none-typed = (to, from)
    where
      kept : broken_process_rules exceptions table processes p ≡ [] → (rule : ProcessRule) → IsTrue (keeps_process_rule exceptions table processes p rule)
      kept e rule = none-broken (keeps_process_rule exceptions table processes p) process_rules e rule (process_rule-listed rule)

      to : broken_process_rules exceptions table processes p ≡ [] → IsTypedProcess exceptions table processes p
      to e =
          let keeps : (rule : ProcessRule) → ProcessKeeps exceptions table processes p rule = λ rule. (process-decides ((block-decides p.body).0 (kept e blocks)) rule).0 (kept e rule) in
          record {
            port = keeps port;
            variables_known = keeps variables_known;
            few_paths = keeps few_variable_paths;
            few_statements = keeps few_statements;
            blocks = keeps blocks;
            arms = keeps arms;
            handlers = keeps handlers;
            handlers_differ = keeps handlers_differ;
            handlers_known = keeps handlers_known;
            leaves = keeps leaves_in_loops;
            typed = keeps typed;
            reached = keeps reached;
          }

      holds : IsTypedProcess exceptions table processes p → (rule : ProcessRule) → ProcessKeeps exceptions table processes p rule
      holds w port = w.port
      holds w variables_known = w.variables_known
      holds w few_variable_paths = w.few_paths
      holds w few_statements = w.few_statements
      holds w blocks = w.blocks
      holds w arms = w.arms
      holds w handlers = w.handlers
      holds w handlers_differ = w.handlers_differ
      holds w handlers_known = w.handlers_known
      holds w leaves_in_loops = w.leaves
      holds w typed = w.typed
      holds w reached = w.reached

      from : IsTypedProcess exceptions table processes p → broken_process_rules exceptions table processes p ≡ []
      from w = all-kept (keeps_process_rule exceptions table processes p) process_rules (λ rule i. (process-decides w.blocks rule).1 (holds w rule))

pub tests-processes : TestsDecideProcesses
tests-processes exceptions table processes p w formed rule = process-decides exceptions table processes p (well_formed-regular exceptions table w) ((block-decides p.body).0 formed) rule

pub none-process : NoneBrokenIsTyped
none-process exceptions table processes p w = none-typed exceptions table processes p (well_formed-regular exceptions table w)

empty-decides : {X : Type 0} (xs : List X) → Decides (is_empty xs) (xs ≡ [])
empty-decides [] = true-decides refl
empty-decides (x ∷ xs) = false-decides (λ e. absurd (true≢false (sym (ap is_empty e))))

pub test-programs : TestDecidesPrograms
test-programs exceptions defined processes main = (to, from)
  where
    to : IsTrue (is_typed_program exceptions defined processes main) → IsTypedProgram exceptions (predefined ++ defined) processes main
    to h =
        let a = and-both (is_empty (broken_table_rules exceptions defined)) _ h in
        let b = and-both (all_pass (λ p. is_empty (broken_process_rules exceptions (predefined ++ defined) processes p)) processes) _ a.1 in
        let w = (none-well_formed exceptions defined).0 ((empty-decides _).0 a.0) in
        record {
          types = w;
          modules = λ p i. (none-process exceptions (predefined ++ defined) processes p w).0 ((empty-decides _).0 (every-in (λ p. is_empty (broken_process_rules exceptions (predefined ++ defined) processes p)) p processes b.0 i));
          begins = (number-is (port_type processes main) main_start).0 b.1;
        }

    from : IsTypedProgram exceptions (predefined ++ defined) processes main → IsTrue (is_typed_program exceptions defined processes main)
    from w =
        both-and (is_empty (broken_table_rules exceptions defined)) _ ((empty-decides _).1 ((none-well_formed exceptions defined).1 w.types))
        (both-and (all_pass (λ p. is_empty (broken_process_rules exceptions (predefined ++ defined) processes p)) processes) _
        (in-every (λ p. is_empty (broken_process_rules exceptions (predefined ++ defined) processes p)) processes (λ p i. (empty-decides _).1 ((none-process exceptions (predefined ++ defined) processes p w.types).1 (w.modules p i))))
        ((number-is (port_type processes main) main_start).1 w.begins))
