-- The outcomes of a form differ.
use Rattle.std.proofs.Common.{◌≡◌, ℕ, suc, ◌<◌, ◌≤◌, List, [], ◌∷◌, ◌++◌, map, Bool, true, false, cond, nat_lt, nat_eq, Option, Some, refl, sym, ap, ◌∙◌, subst, arith, inl, inr, ◌⊎◌, true≢false, ltb-true, ltb-false}
use Rattle.std.proofs.lemmas.Bool.{eqb-false}
use Rattle.herm_model.specs.Lists.{IsIn}
use Rattle.herm_model.specs.Types.{TypeTable, Shape, inport, Raised}
use Rattle.herm_model.specs.Expressions.{Expression, can_overflow, can_deplete}
use Rattle.herm_model.specs.Statements.{Form, Assign, New, Case, Wrap, Unwrap, Insert, Remove, Get, For, Send, Select, Call, Create, If, While, Raise, Reveal, Arm, Process, Differ, HasDifferentArms, IsWellFormedBlock}
use Rattle.herm_model.specs.Calls.{shape_at, call_raises}
use Rattle.herm_model.specs.Outcomes.{Outcome, ok, is_true, is_false, turn, done, component, arm, raised, with_number, rising, listed_if, raised_by, raised_by_new, arms_from, normal_outcomes, exceptions, outcomes, overflow, depletion, case_error, polymorph_mismatch, not_found, disconnected}
use Rattle.herm_model.specs.Nodes.{Node, process_nodes}
use Rattle.herm_model.specs.Exits.{Exit, exits}
use Rattle.herm_model.specs.ControlPaths.{Edge, edge, Point, point, flow_of}
use Rattle.herm_model.specs.laws.FlowLaws.{Rise, EdgesDiffer}
use Rattle.herm_model.proofs.Lists.{in-map_from, joined-Differ, mapped-Differ}
use Rattle.herm_model.proofs.NodeExits.{exits-outcomes, node-arms}

-- a number's place keeps a list rising, and every number of it is the new one or was there
with_number-IsIn : (n m : ℕ) (ns : List ℕ) → IsIn m (with_number n ns) → (m ≡ n) ⊎ IsIn m ns
with_number-IsIn n m [] (inl e) = inl e
with_number-IsIn n m [] (inr h) = absurd h
with_number-IsIn n m (k ∷ ns) h = go (nat_lt n k) (nat_eq n k) (with_number-IsIn n m ns) h
  where
    later : (m ≡ n) ⊎ IsIn m ns → (m ≡ n) ⊎ IsIn m (k ∷ ns)
    later (inl e) = inl e
    later (inr r) = inr (inr r)

    go : (b c : Bool) → (IsIn m (with_number n ns) → (m ≡ n) ⊎ IsIn m ns) → IsIn m (cond b (n ∷ k ∷ ns) (cond c (k ∷ ns) (k ∷ with_number n ns))) → (m ≡ n) ⊎ IsIn m (k ∷ ns)
    go true c again (inl e) = inl e
    go true c again (inr r) = inr r
    go false true again r = inr r
    go false false again (inl e) = inr (inl e)
    go false false again (inr r) = later (again r)

with_number-Rise : (n : ℕ) (ns : List ℕ) → Rise ns → Rise (with_number n ns)
with_number-Rise n [] h = ((λ m k. absurd k), tt)
with_number-Rise n (k ∷ ns) h = go (nat_lt n k) (nat_eq n k) refl refl (with_number-Rise n ns h.1)
  where
    below : n < k → (m : ℕ) → IsIn m (k ∷ ns) → n < m
    below lt m (inl e) = omega arith
    below lt m (inr r) = let more = h.0 m r in omega (arith, more)

    above : k < n → (m : ℕ) → (m ≡ n) ⊎ IsIn m ns → k < m
    above lt m (inl e) = omega arith
    above lt m (inr r) = h.0 m r

    go : (b c : Bool) → nat_lt n k ≡ b → nat_eq n k ≡ c → Rise (with_number n ns) → Rise (cond b (n ∷ k ∷ ns) (cond c (k ∷ ns) (k ∷ with_number n ns)))
    go true c lt eq again = (below (ltb-true n k lt), h)
    go false true lt eq again = h
    go false false lt eq again =
        let le : k ≤ n = ltb-false n k lt in
        let apart : n ≡ k → ⊥ = eqb-false n k eq in
        let less : k < n = omega (arith, le, apart) in
        ((λ m r. above less m (with_number-IsIn n m ns r)), again)

rising-Rise : (ns : List ℕ) → Rise (rising ns)
rising-Rise [] = tt
rising-Rise (n ∷ ns) = with_number-Rise n (rising ns) (rising-Rise ns)

-- what rises differs
pub Rise-Differ : (ns : List ℕ) → Rise ns → Differ ns
Rise-Differ [] h = tt
Rise-Differ (n ∷ ns) h = ((λ member. let lt = h.0 n member in absurd (let k : ⊥ = omega (arith, lt) in k)), Rise-Differ ns h.1)

-- two numbers that differ, the first not in the list of the second
apart-from : (m n : ℕ) → (m ≡ n → ⊥) → IsIn m (n ∷ []) → ⊥
apart-from m n apart (inl e) = apart e
apart-from m n apart (inr r) = r

expression-Differ : (e : Expression) → Differ (raised_by e)
expression-Differ e = go (can_overflow e) (can_deplete e)
  where
    go : (a b : Bool) → Differ (listed_if a overflow ++ listed_if b depletion)
    go true true = (apart-from 0 1 (λ e. omega (arith, e)), ((λ k. absurd k), tt))
    go true false = ((λ k. absurd k), tt)
    go false true = ((λ k. absurd k), tt)
    go false false = tt

new-Differ : (o : Option Shape) → Differ (raised_by_new o)
new-Differ (Some (inport message declared)) = ((λ k. absurd k), tt)
new-Differ _ = tt

one-Differ : {X : Type 0} (x : X) → Differ (x ∷ [])
one-Differ x = ((λ k. absurd k), tt)

exceptions-Differ : (types : TypeTable) (variables : List ℕ) (form : Form) → Differ (exceptions types variables form)
exceptions-Differ types variables (Assign x e) = expression-Differ e
exceptions-Differ types variables (If e) = expression-Differ e
exceptions-Differ types variables (While e) = expression-Differ e
exceptions-Differ types variables (New x) = new-Differ (shape_at types variables x)
exceptions-Differ types variables (Call o arguments) = Rise-Differ _ (rising-Rise (disconnected ∷ map (λ (r : Raised). r.exception) (call_raises types variables o)))
exceptions-Differ types variables (Insert r t) = (apart-from 1 4 (λ e. omega (arith, e)), one-Differ {X = ℕ} 4)
exceptions-Differ types variables (Raise e) = one-Differ e
exceptions-Differ types variables (Reveal v c) = one-Differ case_error
exceptions-Differ types variables (Wrap y p) = one-Differ depletion
exceptions-Differ types variables (Unwrap p t y) = one-Differ polymorph_mismatch
exceptions-Differ types variables (Remove r t keys) = one-Differ not_found
exceptions-Differ types variables (Get r t keys) = one-Differ not_found
exceptions-Differ types variables (Send x o) = one-Differ disconnected
exceptions-Differ types variables (Create o q) = one-Differ depletion
exceptions-Differ types variables _ = tt

-- the numbers in outcomes
abbrev number_in : Outcome → ℕ
number_in (component c) = c
number_in (arm n) = n
number_in (raised e) = e
number_in _ = 0

arms-above : (n m : ℕ) (arms : List Arm) → m < n → IsIn (arm m) (arms_from n arms) → ⊥
arms-above n m [] lt h = h
arms-above n m (a ∷ arms) lt (inl e) = let same : m ≡ n = ap number_in e in absurd (let k : ⊥ = omega arith in k)
arms-above n m (a ∷ arms) lt (inr h) = arms-above (suc n) m arms (omega arith) h

arms-Differ : (n : ℕ) (arms : List Arm) → Differ (arms_from n arms)
arms-Differ n [] = tt
arms-Differ n (a ∷ arms) = (arms-above (suc n) n arms (omega arith), arms-Differ (suc n) arms)

two-Differ : {X : Type 0} (x y : X) → (x ≡ y → ⊥) → Differ (x ∷ y ∷ [])
two-Differ x y apart = (by, one-Differ y)
  where
    by : IsIn x (y ∷ []) → ⊥
    by (inl e) = apart e
    by (inr r) = r

normal-Differ : (form : Form) → HasDifferentArms form → Differ (normal_outcomes form)
normal-Differ (Case v components) h = mapped-Differ component (λ a b e. ap number_in e) components h
normal-Differ (Select arms) h = arms-Differ 0 arms
normal-Differ (For r t) h = two-Differ turn done (λ e. cc)
normal-Differ (If e) h = two-Differ is_true is_false (λ e. cc)
normal-Differ (While e) h = two-Differ is_true is_false (λ e. cc)
normal-Differ (Raise e) h = tt
normal-Differ _ h = one-Differ ok

-- no normal outcome is an exception
abbrev is_raised : Outcome → Bool
is_raised (raised e) = true
is_raised _ = false

arms-normal : (n : ℕ) (arms : List Arm) (o : Outcome) → IsIn o (arms_from n arms) → is_raised o ≡ false
arms-normal n [] o h = absurd h
arms-normal n (a ∷ arms) o (inl e) = ap is_raised e
arms-normal n (a ∷ arms) o (inr h) = arms-normal (suc n) arms o h

components-normal : (cs : List ℕ) (o : Outcome) → IsIn o (map component cs) → is_raised o ≡ false
components-normal cs o h = ap is_raised (in-map_from component o cs h).2

one-normal : (x o : Outcome) → is_raised x ≡ false → IsIn o (x ∷ []) → is_raised o ≡ false
one-normal x o h (inl e) = ap is_raised e ∙ h
one-normal x o h (inr r) = absurd r

two-normal : (x y o : Outcome) → is_raised x ≡ false → is_raised y ≡ false → IsIn o (x ∷ y ∷ []) → is_raised o ≡ false
two-normal x y o h k (inl e) = ap is_raised e ∙ h
two-normal x y o h k (inr r) = one-normal y o k r

normal-normal : (form : Form) (o : Outcome) → IsIn o (normal_outcomes form) → is_raised o ≡ false
normal-normal (Case v components) o h = components-normal components o h
normal-normal (Select arms) o h = arms-normal 0 arms o h
normal-normal (For r t) o h = two-normal turn done o refl refl h
normal-normal (If e) o h = two-normal is_true is_false o refl refl h
normal-normal (While e) o h = two-normal is_true is_false o refl refl h
normal-normal (Raise e) o h = absurd h
normal-normal _ o h = one-normal ok o refl h

form-Differ : (types : TypeTable) (variables : List ℕ) (form : Form) → HasDifferentArms form → Differ (outcomes types variables form)
form-Differ types variables form h =
    joined-Differ (normal_outcomes form) (map raised (exceptions types variables form)) (normal-Differ form h)
    (mapped-Differ raised (λ a b e. ap number_in e) (exceptions types variables form) (exceptions-Differ types variables form))
    (λ o a b. true≢false (sym (ap is_raised (in-map_from raised o (exceptions types variables form) b).2) ∙ normal-normal form o a))

-- the outcomes of a node's point are those of its form
edges-outcomes : (types : TypeTable) (variables : List ℕ) (form : Form) (xs : List Exit) → map (λ (e : Edge). e.outcome) (map (edge types variables form) xs) ≡ map (λ (x : Exit). x.outcome) xs
edges-outcomes types variables form [] = refl
edges-outcomes types variables form (x ∷ xs) = ap (x.outcome ∷◌) (edges-outcomes types variables form xs)

pub process-EdgesDiffer : (types : TypeTable) (p : Process) → IsWellFormedBlock p.body → EdgesDiffer (flow_of types p)
process-EdgesDiffer types p h q member = by (in-map_from (point types p.variables) q (process_nodes p) member)
  where
    by : (n : Node) × IsIn n (process_nodes p) × (q ≡ point types p.variables n) → Differ (map (λ (e : Edge). e.outcome) q.edges)
    by found =
        let same : map (λ (e : Edge). e.outcome) q.edges ≡ outcomes types p.variables (found.0).form =
        ap (λ (r : Point). map (λ (e : Edge). e.outcome) r.edges) found.2
        ∙ edges-outcomes types p.variables (found.0).form (exits types p.variables found.0)
        ∙ exits-outcomes types p found.0 h found.1 in
        subst Differ (sym same) (form-Differ types p.variables (found.0).form (node-arms p found.0 h found.1))
