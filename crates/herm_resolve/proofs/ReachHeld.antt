-- No statement that is marked is led to: from those that are not, control leads to no other.
use Rattle.std.proofs.Common.{◌≡◌, ℕ, zero, suc, ◌+◌, List, [], ◌∷◌, ◌++◌, map, length, get_or, set, Bool, true, false, not, cond, ◌||◌, nat_eq, Some, slice_get, refl, sym, ap, ◌∙◌, subst, arith, inl, inr, ◌⊎◌, true≢false}
use Rattle.std.proofs.lemmas.Bool.{eq-eqb, eqb-true}
use Rattle.herm_model.specs.Lists.{IsIn}
use Rattle.herm_model.specs.Types.{TypeTable}
use Rattle.herm_model.specs.Statements.{Form, Leave, Statement, simple, choosing, repeating, leaving, trying, Block, no_statements, statement, Blocks, no_blocks, block, Handlers, no_handlers, handler, numbers_of, numbers_of_block, nodes_of, nodes_of_block}
use Rattle.herm_model.specs.Outcomes.{Outcome, raised, exceptions, normal_outcomes}
use Rattle.herm_model.specs.Handlers.{Catch, caught}
use Rattle.herm_model.specs.Targets.{Target, node}
use Rattle.herm_model.specs.Nodes.{Surroundings, Node, start, start_of_block, starts, catches_of, nodes, nodes_in, nodes_of_choices, nodes_of_catches}
use Rattle.herm_model.specs.Exits.{Exit, paired, exits}
use Rattle.herm_model.proofs.Lists.{in-append_left, in-append_right, in-append_cases, in-map_from}
use Rattle.herm_model.proofs.NodePlaces.{count, count_in}
use Rattle.herm_resolve.specs.ControlInOnePass.{Control, is_nil, raised_at, raise_all, control, control_of_block, control_of_blocks, control_of_handlers}
use Rattle.herm_resolve.proofs.ReachParts.{Stand, stand-left, stand-right, stand-moved, EachAt, each-joined, each-moved, one-more, not-false, mark-is, or-first, or-second, all-in, unset-kept, test-apart, members-in, listed-raised, marks-count, block-count, on-here, out-here}

-- an exit's target is one of those that are paired
paired-target : (os : List Outcome) (ts : List Target) (e : Exit) → IsIn e (paired os ts) → IsIn e.target ts
paired-target [] ts e h = absurd h
paired-target (o ∷ os) [] e h = absurd h
paired-target (o ∷ os) (t ∷ ts) e (inl same) = inl (ap (λ (x : Exit). x.target) same)
paired-target (o ∷ os) (t ∷ ts) e (inr h) = inr (paired-target os ts e h)

-- where outcomes all lead to one target, there is one
constant-target : (os : List Outcome) (t : Target) (e : Exit) → IsIn e (paired os (map (λ (o : Outcome). t) os)) → (is_nil os ≡ false) × (e.target ≡ t)
constant-target [] t e h = absurd h
constant-target (o ∷ os) t e h = (refl, one (paired-target (o ∷ os) (map (λ (o : Outcome). t) (o ∷ os)) e h))
  where
    each : (os : List Outcome) → IsIn e.target (map (λ (o : Outcome). t) os) → e.target ≡ t
    each [] h = absurd h
    each (o ∷ os) (inl same) = same
    each (o ∷ os) (inr h) = each os h

    one : IsIn e.target (map (λ (o : Outcome). t) (o ∷ os)) → e.target ≡ t
    one h = each (o ∷ os) h

module _ (types : TypeTable) (variables : List ℕ) (whole : List Node) (all : List Bool) (Held : Target → Type 0) (unmarked : (i : ℕ) (n : Node) → slice_get whole i ≡ Some n → slice_get all n.number ≡ Some false → Held (node i)) where
  abbrev pub HoldsOn : ℕ → Node → Type 0
  HoldsOn i n = slice_get all n.number ≡ Some false → (e : Exit) → IsIn e (exits types variables n) → Held e.target

  -- the exits of a node, where its targets and its handlers hold
  leaves : (n : Node) → ((e : Exit) → IsIn e (paired (normal_outcomes n.form) n.leads) → Held e.target) → ((e : ℕ) → IsIn e (exceptions types variables n.form) → Held (caught n.catches e))
      → (e : Exit) → IsIn e (exits types variables n) → Held e.target
  leaves n h k e member = by (in-append_cases e (paired (normal_outcomes n.form) n.leads) (map exit_by (exceptions types variables n.form)) member)
    where
      exit_by : ℕ → Exit
      exit_by x = record { outcome = raised x; target = caught n.catches x }

      from_map : (x : ℕ) × IsIn x (exceptions types variables n.form) × (e ≡ exit_by x) → Held e.target
      from_map r = subst (λ (d : Exit). Held d.target) (sym r.2) (k r.0 r.1)

      by : IsIn e (paired (normal_outcomes n.form) n.leads) ⊎ IsIn e (map exit_by (exceptions types variables n.form)) → Held e.target
      by (inl a) = h e a
      by (inr b) = from_map (in-map_from exit_by e (exceptions types variables n.form) b)

  -- where control leads to a form, what it can raise is raised
  thrown : (form : Form) (here : Bool) (T : ℕ → Type 0) → here ≡ true → ((e : ℕ) → IsIn e (raised_at types variables form here) → T e) → (e : ℕ) → IsIn e (exceptions types variables form) → T e
  thrown form true T same h e member = h e (listed-raised types variables form e member)
  thrown form false T same h e member = absurd (true≢false (sym same))

  marked-here : (number : ℕ) (here : Bool) → slice_get all number ≡ Some (not here) → slice_get all number ≡ Some false → here ≡ true
  marked-here number here a b = not-false here (mark-is number all (not here) false a b)

  begins : (from number : ℕ) (n : Node) (here : Bool) → slice_get whole from ≡ Some n → n.number ≡ number → slice_get all number ≡ Some (not here) → here ≡ true → Held (node from)
  begins from number n here at same mark h =
      unmarked from n at (subst (λ k. slice_get all k ≡ Some false) (sym same) (mark ∙ ap (λ b. Some (not b)) h))

  passing : (b here : Bool) → b ≡ false → here ≡ true → cond b false here ≡ true
  passing true here h k = absurd (true≢false h)
  passing false here h k = k

  -- where what control does in a part is held around it
  pub record IsHeld (u : Surroundings) (c : Control) : Type 0 where
    pub on : c.on ≡ true → Held u.behind
    pub out : c.out ≡ true → Held u.exit
    pub raised : (e : ℕ) → IsIn e c.raised → Held (caught u.catches e)

  caught-first : (e f : ℕ) (t : Target) (cs : List Catch) → (nat_eq e f ≡ true → Held t) → (not (nat_eq e f) ≡ true → Held (caught cs f)) → Held (caught (record { exception = e; target = t } ∷ cs) f)
  caught-first e f t cs h k = by (nat_eq e f) h k
    where
      by : (b : Bool) → (b ≡ true → Held t) → (not b ≡ true → Held (caught cs f)) → Held (cond b t (caught cs f))
      by true h k = h refl
      by false h k = k refl

  one : (t a : Target) → Held a → IsIn t (a ∷ []) → Held t
  one t a h (inl same) = subst Held (sym same) h
  one t a h (inr i) = absurd i

  two : (t a b : Target) → Held a → Held b → IsIn t (a ∷ b ∷ []) → Held t
  two t a b h k (inl same) = subst Held (sym same) h
  two t a b h k (inr i) = one t b k i

  one-of : (t a : Target) (ts : List Target) → Held a → ((t : Target) → IsIn t ts → Held t) → IsIn t (a ∷ ts) → Held t
  one-of t a ts h k (inl same) = subst Held (sym same) h
  one-of t a ts h k (inr i) = k t i

  mutual
    held : (s : Statement) (number from : ℕ) (u : Surroundings) (here : Bool) → Stand whole from (nodes s number from u) → Stand all number (control types variables s here).marks → IsHeld u (control types variables s here)
        → EachAt HoldsOn from (nodes s number from u) × (here ≡ true → Held (start s from u.behind))
    held (simple form) number from u here st mk h =
        let n : Node = record { number = number; form = form; leads = map (λ (o : Outcome). u.behind) (normal_outcomes form); catches = u.catches } in (
          (
            (λ m. let k = marked-here number here mk.0 m in
                leaves n
                (λ e i. let x = constant-target (normal_outcomes form) u.behind e i in subst Held (sym x.1) (h.on (passing (is_nil (normal_outcomes form)) here x.0 k)))
                (thrown form here (λ e. Held (caught u.catches e)) k h.raised)),
            tt,
          ),
          begins from number n here st.0 refl mk.0,
        )
    held (choosing form blocks) number from u here st mk h =
        let n : Node = record { number = number; form = form; leads = starts blocks (from + 1) u.behind; catches = u.catches } in
        let r = held_choices blocks (number + 1) (from + 1) u here (stand-moved whole (suc from) (from + 1) _ (one-more from) st.1) (stand-moved all (suc number) (number + 1) _ (one-more number) mk.1)
        (record { on = h.on; out = h.out; raised = λ e i. h.raised e (in-append_right e (raised_at types variables form here) _ i) }) in (
          (
            (λ m. let k = marked-here number here mk.0 m in
                leaves n
                (λ e i. r.1 k e.target (paired-target (normal_outcomes form) n.leads e i))
                (thrown form here (λ e. Held (caught u.catches e)) k (λ e i. h.raised e (in-append_left e (raised_at types variables form here) _ i)))),
            each-moved HoldsOn (from + 1) (suc from) _ (sym (one-more from)) r.0,
          ),
          begins from number n here st.0 refl mk.0,
        )
    held (repeating form body) number from u here st mk h =
        let n : Node = record { number = number; form = form; leads = start_of_block body (from + 1) (node from) ∷ u.behind ∷ []; catches = u.catches } in
        let r = held_block body (number + 1) (from + 1) (record { behind = node from; catches = u.catches; exit = u.behind }) here (stand-moved whole (suc from) (from + 1) _ (one-more from) st.1) (stand-moved all (suc number) (number + 1) _ (one-more number) mk.1)
        (record {
          on = λ k. begins from number n here st.0 refl mk.0 (on-here types variables body here k);
          out = λ k. h.on (out-here types variables body here k);
          raised = λ e i. h.raised e (in-append_right e (raised_at types variables form here) _ i);
        }) in (
          (
            (λ m. let k = marked-here number here mk.0 m in
                leaves n
                (λ e i. two e.target (start_of_block body (from + 1) (node from)) u.behind (r.1 k) (h.on k) (paired-target (normal_outcomes form) n.leads e i))
                (thrown form here (λ e. Held (caught u.catches e)) k (λ e i. h.raised e (in-append_left e (raised_at types variables form here) _ i)))),
            each-moved HoldsOn (from + 1) (suc from) _ (sym (one-more from)) r.0,
          ),
          begins from number n here st.0 refl mk.0,
        )
    held leaving number from u here st mk h =
        let n : Node = record { number = number; form = Leave; leads = u.exit ∷ []; catches = u.catches } in (
          (
            (λ m. let k = marked-here number here mk.0 m in
                leaves n
                (λ e i. one e.target u.exit (h.out k) (paired-target (normal_outcomes Leave) n.leads e i))
                (λ e i. absurd i)),
            tt,
          ),
          begins from number n here st.0 refl mk.0,
        )
    held (trying body handlers) number from u here st mk h =
        let later : ℕ = from + nodes_of_block body in
        let next : ℕ = number + 1 + numbers_of_block body in
        let v : Surroundings = record { behind = u.behind; catches = catches_of handlers later u.behind ++ u.catches; exit = u.exit } in
        let c : Control = control_of_block types variables body here in
        let inner : List Bool = raise_all [] c.raised in
        let d : Control = control_of_handlers types variables handlers inner in
        let marks = stand-moved all (suc number) (number + 1) _ (one-more number) mk.1 in
        let counted : next ≡ number + 1 + length c.marks = ap (λ k. number + 1 + k) (sym (block-count types variables body here)) in
        let placed : later ≡ from + length (nodes_in body (number + 1) from v) = ap (λ k. from + k) (sym (count_in body (number + 1) from v)) in
        let q = held_catches handlers next later u inner (stand-right whole from later (nodes_in body (number + 1) from v) _ placed st) (stand-right all (number + 1) next c.marks _ counted marks)
        (record { on = λ k. h.on (or-second c.on d.on k); out = λ k. h.out (or-second c.out d.out k); raised = h.raised }) in
        let r = held_block body (number + 1) from v here (stand-left whole from (nodes_in body (number + 1) from v) _ st) (stand-left all (number + 1) c.marks _ marks)
        (record { on = λ k. h.on (or-first c.on d.on k); out = λ k. h.out (or-first c.out d.out k); raised = λ e i. q.1 e (all-in [] c.raised e i) }) in
        (each-joined HoldsOn from later _ _ placed r.0 q.0, r.1)

    pub held_block : (b : Block) (number from : ℕ) (u : Surroundings) (here : Bool) → Stand whole from (nodes_in b number from u) → Stand all number (control_of_block types variables b here).marks → IsHeld u (control_of_block types variables b here)
        → EachAt HoldsOn from (nodes_in b number from u) × (here ≡ true → Held (start_of_block b from u.behind))
    held_block no_statements number from u here st mk h = (tt, h.on)
    held_block (statement s rest) number from u here st mk h =
        let later : ℕ = from + nodes_of s in
        let next : ℕ = number + numbers_of s in
        let v : Surroundings = record { behind = start_of_block rest later u.behind; catches = u.catches; exit = u.exit } in
        let c : Control = control types variables s here in
        let d : Control = control_of_block types variables rest c.on in
        let counted : next ≡ number + length c.marks = ap (λ k. number + k) (sym (marks-count types variables s here)) in
        let placed : later ≡ from + length (nodes s number from v) = ap (λ k. from + k) (sym (count s number from v)) in
        let q = held_block rest next later u c.on (stand-right whole from later (nodes s number from v) _ placed st) (stand-right all number next c.marks _ counted mk)
        (record { on = h.on; out = λ k. h.out (or-second c.out d.out k); raised = λ e i. h.raised e (in-append_right e c.raised d.raised i) }) in
        let r = held s number from v here (stand-left whole from (nodes s number from v) _ st) (stand-left all number c.marks _ mk)
        (record { on = q.1; out = λ k. h.out (or-first c.out d.out k); raised = λ e i. h.raised e (in-append_left e c.raised d.raised i) }) in
        (each-joined HoldsOn from later _ _ placed r.0 q.0, r.1)

    held_choices : (bs : Blocks) (number from : ℕ) (u : Surroundings) (here : Bool) → Stand whole from (nodes_of_choices bs number from u) → Stand all number (control_of_blocks types variables bs here).marks → IsHeld u (control_of_blocks types variables bs here)
        → EachAt HoldsOn from (nodes_of_choices bs number from u) × (here ≡ true → (t : Target) → IsIn t (starts bs from u.behind) → Held t)
    held_choices no_blocks number from u here st mk h = (tt, λ k t i. absurd i)
    held_choices (block b rest) number from u here st mk h =
        let later : ℕ = from + nodes_of_block b in
        let next : ℕ = number + numbers_of_block b in
        let c : Control = control_of_block types variables b here in
        let d : Control = control_of_blocks types variables rest here in
        let counted : next ≡ number + length c.marks = ap (λ k. number + k) (sym (block-count types variables b here)) in
        let placed : later ≡ from + length (nodes_in b number from u) = ap (λ k. from + k) (sym (count_in b number from u)) in
        let r = held_block b number from u here (stand-left whole from (nodes_in b number from u) _ st) (stand-left all number c.marks _ mk)
        (record { on = λ k. h.on (or-first c.on d.on k); out = λ k. h.out (or-first c.out d.out k); raised = λ e i. h.raised e (in-append_left e c.raised d.raised i) }) in
        let q = held_choices rest next later u here (stand-right whole from later (nodes_in b number from u) _ placed st) (stand-right all number next c.marks _ counted mk)
        (record { on = λ k. h.on (or-second c.on d.on k); out = λ k. h.out (or-second c.out d.out k); raised = λ e i. h.raised e (in-append_right e c.raised d.raised i) }) in
        (each-joined HoldsOn from later _ _ placed r.0 q.0, λ k t i. one-of t (start_of_block b from u.behind) (starts rest later u.behind) (r.1 k) (q.1 k) i)

    held_catches : (hs : Handlers) (number from : ℕ) (u : Surroundings) (inner : List Bool) → Stand whole from (nodes_of_catches hs number from u) → Stand all number (control_of_handlers types variables hs inner).marks → IsHeld u (control_of_handlers types variables hs inner)
        → EachAt HoldsOn from (nodes_of_catches hs number from u) × ((e : ℕ) → get_or inner e false ≡ true → Held (caught (catches_of hs from u.behind ++ u.catches) e))
    held_catches no_handlers number from u inner st mk h = (tt, λ e k. h.raised e (members-in 0 inner e e (let l : e ≡ 0 + e = omega arith in l) k))
    held_catches (handler e b rest) number from u inner st mk h =
        let later : ℕ = from + nodes_of_block b in
        let next : ℕ = number + numbers_of_block b in
        let c : Control = control_of_block types variables b (get_or inner e false) in
        let d : Control = control_of_handlers types variables rest (set inner e false) in
        let counted : next ≡ number + length c.marks = ap (λ k. number + k) (sym (block-count types variables b (get_or inner e false))) in
        let placed : later ≡ from + length (nodes_in b number from u) = ap (λ k. from + k) (sym (count_in b number from u)) in
        let r = held_block b number from u (get_or inner e false) (stand-left whole from (nodes_in b number from u) _ st) (stand-left all number c.marks _ mk)
        (record { on = λ k. h.on (or-first c.on d.on k); out = λ k. h.out (or-first c.out d.out k); raised = λ e i. h.raised e (in-append_left e c.raised d.raised i) }) in
        let q = held_catches rest next later u (set inner e false) (stand-right whole from later (nodes_in b number from u) _ placed st) (stand-right all number next c.marks _ counted mk)
        (record { on = λ k. h.on (or-second c.on d.on k); out = λ k. h.out (or-second c.out d.out k); raised = λ e i. h.raised e (in-append_right e c.raised d.raised i) }) in (
          each-joined HoldsOn from later _ _ placed r.0 q.0,
          λ f i. caught-first e f (start_of_block b from u.behind) (catches_of rest later u.behind ++ u.catches)
              (λ same. r.1 (subst (λ x. get_or inner x false ≡ true) (sym (eqb-true e f same)) i))
              (λ other. q.1 f (unset-kept inner e f i (test-apart e f other))),
        )
