-- Control leads to each statement that is not marked.
use Rattle.std.proofs.Common.{◌≡◌, ℕ, zero, suc, ◌+◌, List, [], ◌∷◌, ◌++◌, map, length, get_or, set, Bool, true, false, not, cond, ◌||◌, nat_eq, Some, slice_get, refl, sym, ap, ap₂, ◌∙◌, subst, arith, inl, inr, ◌⊎◌, true≢false}
use Rattle.std.proofs.lemmas.Bool.{eq-eqb}
use Rattle.std.proofs.lemmas.List.{length-map}
use Rattle.herm_model.specs.Lists.{IsIn}
use Rattle.herm_model.specs.Types.{TypeTable}
use Rattle.herm_model.specs.Statements.{Form, Case, For, Select, If, While, Leave, Arm, Statement, simple, choosing, repeating, leaving, trying, Block, no_statements, statement, Blocks, no_blocks, block, Handlers, no_handlers, handler, numbers_of, numbers_of_block, nodes_of, nodes_of_block, Branching, goes_on, repeats, chooses, branching_of, count_blocks, IsWellFormed, IsWellFormedBlock, AreWellFormed, AreWellFormedHandlers}
use Rattle.herm_model.specs.Outcomes.{Outcome, raised, exceptions, arms_from, normal_outcomes}
use Rattle.herm_model.specs.Handlers.{Catch, caught}
use Rattle.herm_model.specs.Targets.{Target, node}
use Rattle.herm_model.specs.Nodes.{Surroundings, Node, start, start_of_block, starts, catches_of, nodes, nodes_in, nodes_of_choices, nodes_of_catches}
use Rattle.herm_model.specs.Exits.{Exit, paired, exits}
use Rattle.herm_model.proofs.Lists.{in-append_left, in-append_right, in-append_cases, in-map}
use Rattle.herm_model.proofs.NodePlaces.{count, count_in, count_catches}
use Rattle.herm_resolve.specs.ControlInOnePass.{Control, is_nil, raised_at, raise_all, control, control_of_block, control_of_blocks, control_of_handlers}
use Rattle.herm_resolve.proofs.ReachParts.{Stand, stand-left, stand-right, stand-moved, EachAt, each-joined, each-moved, one-more, not-false, mark-is, either, apart-test, in-all, unset-from, in-members, raised-listed, count_choices, marks-count, block-count, choices-count, catches-count}

-- ---- as many targets as outcomes

count_arms : (n : ℕ) (arms : List Arm) → length (arms_from n arms) ≡ length arms
count_arms n [] = refl
count_arms n (a ∷ arms) = ap suc (count_arms (suc n) arms)

count_starts : (bs : Blocks) (from : ℕ) (t : Target) → length (starts bs from t) ≡ count_blocks bs
count_starts no_blocks from t = refl
count_starts (block b rest) from t = let k = count_starts rest (from + nodes_of_block b) t in omega (arith, k)

abbrev choices : Branching → ℕ
choices (chooses n) = n
choices _ = 0

chosen : (form : Form) (n : ℕ) → branching_of form ≡ chooses n → length (normal_outcomes form) ≡ n
chosen (Case v components) n h = length-map components _ ∙ ap choices h
chosen (Select arms) n h = count_arms 0 arms ∙ ap choices h
chosen (If e) n h = ap choices h
chosen _ n h = cc

repeated : (form : Form) → branching_of form ≡ repeats → 2 ≡ length (normal_outcomes form)
repeated (For r t) h = refl
repeated (While e) h = refl
repeated _ h = cc

-- each target of as many as there are outcomes is an exit's
abbrev HasExit : List Outcome → List Target → Target → Type 0
HasExit os ts t = (e : Exit) × IsIn e (paired os ts) × (e.target ≡ t)

paired-exit : (os : List Outcome) (ts : List Target) → length ts ≡ length os → (t : Target) → IsIn t ts → HasExit os ts t
paired-exit os [] l t h = absurd h
paired-exit [] (x ∷ ts) l t h = absurd (let n : ⊥ = omega (arith, l) in n)
paired-exit (o ∷ os) (x ∷ ts) l t (inl same) = (record { outcome = o; target = x }, inl refl, sym same)
paired-exit (o ∷ os) (x ∷ ts) l t (inr h) = let r = paired-exit os ts (omega (arith, l)) t h in (r.0, inr r.1, r.2)

constant-exit : (os : List Outcome) (t : Target) (here : Bool) → cond (is_nil os) false here ≡ true → (here ≡ true) × HasExit os (map (λ (o : Outcome). t) os) t
constant-exit [] t here h = absurd (true≢false (sym h))
constant-exit (o ∷ os) t here h = (h, (record { outcome = o; target = t }, inl refl, refl))

module _ (types : TypeTable) (variables : List ℕ) (whole : List Node) (all : List Bool) (Led : Target → Type 0) (leads : (i : ℕ) (n : Node) → slice_get whole i ≡ Some n → Led (node i) → (e : Exit) → IsIn e (exits types variables n) → Led e.target) where
  exit_by : Node → ℕ → Exit
  exit_by n e = record { outcome = raised e; target = caught n.catches e }

  lead : (i : ℕ) (n : Node) → slice_get whole i ≡ Some n → Led (node i) → (t : Target) → HasExit (normal_outcomes n.form) n.leads t → Led t
  lead i n at l t x = subst Led x.2 (leads i n at l x.0 (in-append_left x.0 (paired (normal_outcomes n.form) n.leads) _ x.1))

  -- what is raised leads to its handler
  thrown : (i : ℕ) (n : Node) → slice_get whole i ≡ Some n → (here : Bool) → (here ≡ true → Led (node i)) → (e : ℕ) → IsIn e (raised_at types variables n.form here) → Led (caught n.catches e)
  thrown i n at true l e h =
      leads i n at (l refl) (record { outcome = raised e; target = caught n.catches e })
      (in-append_right _ (paired (normal_outcomes n.form) n.leads) _ (in-map (λ (e : ℕ). (record { outcome = raised e; target = caught n.catches e })) e (exceptions types variables n.form) (raised-listed types variables n.form e h)))
  thrown i n at false l e h = absurd h

  abbrev pub LedWhere : ℕ → Node → Type 0
  LedWhere i n = slice_get all n.number ≡ Some false → Led (node i)

  -- a marked statement stands in the text
  abbrev pub IsNamed : ℕ → Bool → Type 0
  IsNamed number m = m ≡ true → (i : ℕ) × (n : Node) × (slice_get whole i ≡ Some n) × (n.number ≡ number)

  pub record IsLed (exit : Target) (out : Bool) (marks : List Bool) (number from : ℕ) (ns : List Node) : Type 0 where
    pub exits : out ≡ true → Led exit
    pub each : EachAt LedWhere from ns
    pub named : EachAt IsNamed number marks

  joined : (t : Target) (a b : Bool) (ms ns : List Bool) (number next from later : ℕ) (xs ys : List Node) → next ≡ number + length ms → later ≡ from + length xs
      → IsLed t a ms number from xs → IsLed t b ns next later ys → IsLed t (a || b) (ms ++ ns) number from (xs ++ ys)
  joined t a b ms ns number next from later xs ys e f h k = record {
    exits = either a b h.exits k.exits;
    each = each-joined LedWhere from later xs ys f h.each k.each;
    named = each-joined IsNamed number next ms ns e h.named k.named;
  }

  thrown-both : (catches : List Catch) (es fs : List ℕ) → ((e : ℕ) → IsIn e es → Led (caught catches e)) → ((e : ℕ) → IsIn e fs → Led (caught catches e)) → (e : ℕ) → IsIn e (es ++ fs) → Led (caught catches e)
  thrown-both catches es fs h k e member = by (in-append_cases e es fs member)
    where
      by : IsIn e es ⊎ IsIn e fs → Led (caught catches e)
      by (inl i) = h e i
      by (inr i) = k e i

  -- the first node of a part
  first : (from number : ℕ) (n : Node) (here : Bool) → slice_get all number ≡ Some (not here) → n.number ≡ number → (here ≡ true → Led (node from)) → LedWhere from n
  first from number n here mark same l unmarked =
      l (not-false here (mark-is number all (not here) false mark (subst (λ k. slice_get all k ≡ Some false) same unmarked)))

  abbrev pub Goes : Surroundings → Control → ℕ → ℕ → List Node → Type 0
  Goes u c number from ns = (c.on ≡ true → Led u.behind) × ((e : ℕ) → IsIn e c.raised → Led (caught u.catches e)) × IsLed u.exit c.out c.marks number from ns

  -- an exception raised inside, where the handlers are within reach
  handled : (e : ℕ) (t : Target) (cs : List Catch) → Led (caught (record { exception = e; target = t } ∷ cs) e) → Led t
  handled e t cs h = by (nat_eq e e) (eq-eqb e e refl) h
    where
      by : (b : Bool) → b ≡ true → Led (cond b t (caught cs e)) → Led t
      by true same h = h
      by false same h = absurd (true≢false (sym same))

  further : (e f : ℕ) (t : Target) (cs : List Catch) → not (nat_eq e f) ≡ true → Led (caught (record { exception = e; target = t } ∷ cs) f) → Led (caught cs f)
  further e f t cs other h = by (nat_eq e f) other h
    where
      by : (b : Bool) → not b ≡ true → Led (cond b t (caught cs f)) → Led (caught cs f)
      by true other h = absurd (true≢false (sym other))
      by false other h = h

  mutual
    led : (s : Statement) (number from : ℕ) (u : Surroundings) (here : Bool) → IsWellFormed s → Stand whole from (nodes s number from u) → Stand all number (control types variables s here).marks → (here ≡ true → Led (start s from u.behind))
        → Goes u (control types variables s here) number from (nodes s number from u)
    led (simple form) number from u here w st mk l =
        let n : Node = record { number = number; form = form; leads = map (λ (o : Outcome). u.behind) (normal_outcomes form); catches = u.catches } in (
          (λ h. let x = constant-exit (normal_outcomes form) u.behind here h in lead from n st.0 (l x.0) u.behind x.1),
          thrown from n st.0 here l,
          record { exits = λ h. absurd (true≢false (sym h)); each = (first from number n here mk.0 refl l, tt); named = ((λ h. (from, n, st.0, refl)), tt) },
        )
    led (choosing form blocks) number from u here w st mk l =
        let n : Node = record { number = number; form = form; leads = starts blocks (from + 1) u.behind; catches = u.catches } in
        let room : length n.leads ≡ length (normal_outcomes form) = count_starts blocks (from + 1) u.behind ∙ sym (chosen form (count_blocks blocks) w.0) in
        let r = led_choices blocks (number + 1) (from + 1) u here w.2 (stand-moved whole (suc from) (from + 1) _ (one-more from) st.1) (stand-moved all (suc number) (number + 1) _ (one-more number) mk.1)
        (λ h t member. lead from n st.0 (l h) t (paired-exit (normal_outcomes form) n.leads room t member)) in (
          r.0,
          thrown-both u.catches (raised_at types variables form here) (control_of_blocks types variables blocks here).raised (thrown from n st.0 here l) r.1,
          record {
            exits = (r.2).exits;
            each = (first from number n here mk.0 refl l, each-moved LedWhere (from + 1) (suc from) _ (sym (one-more from)) (r.2).each);
            named = ((λ h. (from, n, st.0, refl)), each-moved IsNamed (number + 1) (suc number) _ (sym (one-more number)) (r.2).named);
          },
        )
    led (repeating form body) number from u here w st mk l =
        let n : Node = record { number = number; form = form; leads = start_of_block body (from + 1) (node from) ∷ u.behind ∷ []; catches = u.catches } in
        let room : length n.leads ≡ length (normal_outcomes form) = repeated form w.0 in
        let r = led_block body (number + 1) (from + 1) (record { behind = node from; catches = u.catches; exit = u.behind }) here w.1 (stand-moved whole (suc from) (from + 1) _ (one-more from) st.1) (stand-moved all (suc number) (number + 1) _ (one-more number) mk.1)
        (λ h. lead from n st.0 (l h) _ (paired-exit (normal_outcomes form) n.leads room _ (inl refl))) in (
          (λ h. lead from n st.0 (l h) u.behind (paired-exit (normal_outcomes form) n.leads room u.behind (inr (inl refl)))),
          thrown-both u.catches (raised_at types variables form here) (control_of_block types variables body here).raised (thrown from n st.0 here l) r.1,
          record {
            exits = λ h. absurd (true≢false (sym h));
            each = (first from number n here mk.0 refl l, each-moved LedWhere (from + 1) (suc from) _ (sym (one-more from)) (r.2).each);
            named = ((λ h. (from, n, st.0, refl)), each-moved IsNamed (number + 1) (suc number) _ (sym (one-more number)) (r.2).named);
          },
        )
    led leaving number from u here w st mk l =
        let n : Node = record { number = number; form = Leave; leads = u.exit ∷ []; catches = u.catches } in (
          (λ h. absurd (true≢false (sym h))),
          (λ e h. absurd h),
          record {
            exits = λ h. lead from n st.0 (l h) u.exit (paired-exit (normal_outcomes Leave) n.leads refl u.exit (inl refl));
            each = (first from number n here mk.0 refl l, tt);
            named = ((λ h. (from, n, st.0, refl)), tt);
          },
        )
    led (trying body handlers) number from u here w st mk l =
        let later : ℕ = from + nodes_of_block body in
        let next : ℕ = number + 1 + numbers_of_block body in
        let v : Surroundings = record { behind = u.behind; catches = catches_of handlers later u.behind ++ u.catches; exit = u.exit } in
        let c : Control = control_of_block types variables body here in
        let inner : List Bool = raise_all [] c.raised in
        let d : Control = control_of_handlers types variables handlers inner in
        let marks = stand-moved all (suc number) (number + 1) _ (one-more number) mk.1 in
        let counted : next ≡ number + 1 + length c.marks = ap (λ k. number + 1 + k) (sym (block-count types variables body here)) in
        let placed : later ≡ from + length (nodes_in body (number + 1) from v) = ap (λ k. from + k) (sym (count_in body (number + 1) from v)) in
        let r = led_block body (number + 1) from v here w.0 (stand-left whole from (nodes_in body (number + 1) from v) _ st) (stand-left all (number + 1) c.marks _ marks) l in
        let q = led_catches handlers next later u inner w.1 (stand-right whole from later (nodes_in body (number + 1) from v) _ placed st) (stand-right all (number + 1) next c.marks _ counted marks) (λ e h. r.1 e (in-all c.raised e h)) in
        let both = joined u.exit c.out d.out c.marks d.marks (number + 1) next from later _ _ counted placed r.2 q.2 in (
          either c.on d.on r.0 q.0,
          q.1,
          record {
            exits = both.exits;
            each = both.each;
            named = ((λ h. absurd (true≢false (sym h))), each-moved IsNamed (number + 1) (suc number) _ (sym (one-more number)) both.named);
          },
        )

    pub led_block : (b : Block) (number from : ℕ) (u : Surroundings) (here : Bool) → IsWellFormedBlock b → Stand whole from (nodes_in b number from u) → Stand all number (control_of_block types variables b here).marks → (here ≡ true → Led (start_of_block b from u.behind))
        → Goes u (control_of_block types variables b here) number from (nodes_in b number from u)
    led_block no_statements number from u here w st mk l = (l, (λ e h. absurd h), record { exits = λ h. absurd (true≢false (sym h)); each = tt; named = tt })
    led_block (statement s rest) number from u here w st mk l =
        let later : ℕ = from + nodes_of s in
        let next : ℕ = number + numbers_of s in
        let v : Surroundings = record { behind = start_of_block rest later u.behind; catches = u.catches; exit = u.exit } in
        let c : Control = control types variables s here in
        let d : Control = control_of_block types variables rest c.on in
        let counted : next ≡ number + length c.marks = ap (λ k. number + k) (sym (marks-count types variables s here)) in
        let placed : later ≡ from + length (nodes s number from v) = ap (λ k. from + k) (sym (count s number from v)) in
        let r = led s number from v here w.0 (stand-left whole from (nodes s number from v) _ st) (stand-left all number c.marks _ mk) l in
        let q = led_block rest next later u c.on w.1 (stand-right whole from later (nodes s number from v) _ placed st) (stand-right all number next c.marks _ counted mk) r.0 in
        (q.0, thrown-both u.catches c.raised d.raised r.1 q.1, joined u.exit c.out d.out c.marks d.marks number next from later _ _ counted placed r.2 q.2)

    led_choices : (bs : Blocks) (number from : ℕ) (u : Surroundings) (here : Bool) → AreWellFormed bs → Stand whole from (nodes_of_choices bs number from u) → Stand all number (control_of_blocks types variables bs here).marks → (here ≡ true → (t : Target) → IsIn t (starts bs from u.behind) → Led t)
        → Goes u (control_of_blocks types variables bs here) number from (nodes_of_choices bs number from u)
    led_choices no_blocks number from u here w st mk l = ((λ h. absurd (true≢false (sym h))), (λ e h. absurd h), record { exits = λ h. absurd (true≢false (sym h)); each = tt; named = tt })
    led_choices (block b rest) number from u here w st mk l =
        let later : ℕ = from + nodes_of_block b in
        let next : ℕ = number + numbers_of_block b in
        let c : Control = control_of_block types variables b here in
        let d : Control = control_of_blocks types variables rest here in
        let counted : next ≡ number + length c.marks = ap (λ k. number + k) (sym (block-count types variables b here)) in
        let placed : later ≡ from + length (nodes_in b number from u) = ap (λ k. from + k) (sym (count_in b number from u)) in
        let r = led_block b number from u here w.0 (stand-left whole from (nodes_in b number from u) _ st) (stand-left all number c.marks _ mk) (λ h. l h _ (inl refl)) in
        let q = led_choices rest next later u here w.1 (stand-right whole from later (nodes_in b number from u) _ placed st) (stand-right all number next c.marks _ counted mk) (λ h t member. l h t (inr member)) in
        (either c.on d.on r.0 q.0, thrown-both u.catches c.raised d.raised r.1 q.1, joined u.exit c.out d.out c.marks d.marks number next from later _ _ counted placed r.2 q.2)

    led_catches : (hs : Handlers) (number from : ℕ) (u : Surroundings) (inner : List Bool) → AreWellFormedHandlers hs → Stand whole from (nodes_of_catches hs number from u) → Stand all number (control_of_handlers types variables hs inner).marks
        → ((e : ℕ) → get_or inner e false ≡ true → Led (caught (catches_of hs from u.behind ++ u.catches) e))
        → Goes u (control_of_handlers types variables hs inner) number from (nodes_of_catches hs number from u)
    led_catches no_handlers number from u inner w st mk l = ((λ h. absurd (true≢false (sym h))), (λ e h. let r = in-members 0 inner e h in l e (subst (λ i. get_or inner i false ≡ true) (let k : r.0 ≡ e = omega (arith, r.1) in k) r.2)), record { exits = λ h. absurd (true≢false (sym h)); each = tt; named = tt })
    led_catches (handler e b rest) number from u inner w st mk l =
        let later : ℕ = from + nodes_of_block b in
        let next : ℕ = number + numbers_of_block b in
        let cs : List Catch = catches_of rest later u.behind ++ u.catches in
        let c : Control = control_of_block types variables b (get_or inner e false) in
        let d : Control = control_of_handlers types variables rest (set inner e false) in
        let counted : next ≡ number + length c.marks = ap (λ k. number + k) (sym (block-count types variables b (get_or inner e false))) in
        let placed : later ≡ from + length (nodes_in b number from u) = ap (λ k. from + k) (sym (count_in b number from u)) in
        let r = led_block b number from u (get_or inner e false) w.0 (stand-left whole from (nodes_in b number from u) _ st) (stand-left all number c.marks _ mk) (λ h. handled e (start_of_block b from u.behind) cs (l e h)) in
        let q = led_catches rest next later u (set inner e false) w.1 (stand-right whole from later (nodes_in b number from u) _ placed st) (stand-right all number next c.marks _ counted mk)
        (λ f h. let p = unset-from inner e f h in further e f (start_of_block b from u.behind) cs (apart-test e f p.1) (l f p.0)) in
        (either c.on d.on r.0 q.0, thrown-both u.catches c.raised d.raised r.1 q.1, joined u.exit c.out d.out c.marks d.marks number next from later _ _ counted placed r.2 q.2)
