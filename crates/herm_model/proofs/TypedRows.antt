-- What a typed form needs, makes and takes away are facts and paths that there are.
use Rattle.std.proofs.Common.{◌≡◌, ℕ, zero, suc, ◌<◌, List, [], ◌∷◌, ◌++◌, map, flat_map, length, ◌⊎◌, inl, inr, Option, Some, None, slice_get, refl, sym, ap, subst, ◌∙◌, arith}
use Rattle.herm_model.specs.Lists.{IsIn, map_or, list_of}
use Rattle.herm_model.specs.Paths.{Path, Fact, init, case}
use Rattle.herm_model.specs.Types.{Raised, inport, callmessage, TypeTable, type_at}
use Rattle.herm_model.specs.Facts.{said_at, message_facts, message_of, declared_facts, component_count, IsFactOf}
use Rattle.herm_model.specs.Expressions.{Expression, literal, copy, negation, logical_not, operation, size_of, decimal, length_of, Atom, path, paths_read, paths_among}
use Rattle.herm_model.specs.Statements.{Form, Assign, Move, New, Discard, Unite, Dissolve, Reveal, Case, Wrap, Unwrap, Insert, Remove, Get, For, Connect, Send, Receive, Select, Call, Return, ReturnBy, Create, If, While, Raise, Leave, Arm, Process}
use Rattle.herm_model.specs.Outcomes.{Outcome, ok, turn, component, arm, raised, outcomes}
use Rattle.herm_model.specs.Calls.{shape_at, parameters_of, raises_of, call_raises, kept_for, is_given, is_returned, returned_places, arguments_by, argument_path}
use Rattle.herm_model.specs.FactsOfStatements.{at_ok, at_turn, at_component, at_arm, at_exception, at_ok_or_exception, present, full, full_of_each, room_for, received_from, sent_to, returned, returned_by, given, set_by_call, kept_by_call, received_at, set_at, row}
use Rattle.herm_model.specs.TypedExpressions.{HasShape, IsTyped}
use Rattle.herm_model.specs.WellFormedTables.{IsWellFormedTable}
use Rattle.herm_model.specs.TypedStatements.{IsComponent, IsLookedAt, IsTarget, AreKeysOf, IsFound, GoesTo, IsReceived, IsReturned, IsTypedForm}
use Rattle.herm_model.proofs.Lists.{in-append_cases, in-map_from, in-flat_map_from}
use Rattle.herm_model.proofs.Options.{none-not_some}
use Rattle.herm_model.proofs.FactTests.{got-IsIn}
use Rattle.herm_model.proofs.TypedFacts.{AllAre, all-append, all-none, all-one, all-flat, path-fact, present-facts, room-facts, whole-facts, said-fact, message-facts}
use Rattle.herm_model.proofs.TypedCalls.{shape-is, inport-is, parameters-are, raises-are, kept-declared, returned-there, parameter-path, given-typed, set-typed, kept-set}

-- every element has it
abbrev Each : {X : Type 0} → (X → Type 0) → List X → Type 0
Each {X} P xs = (x : X) → IsIn x xs → P x

module _ {X : Type 0} (P : X → Type 0) where
  each-none : Each P []
  each-none x i = absurd i

  each-one : (y : X) → P y → Each P (y ∷ [])
  each-one y p x (inl e) = subst P (sym e) p
  each-one y p x (inr i) = absurd i

  each-two : (y z : X) → P y → P z → Each P (y ∷ z ∷ [])
  each-two y z p q x (inl e) = subst P (sym e) p
  each-two y z p q x (inr (inl e)) = subst P (sym e) q
  each-two y z p q x (inr (inr i)) = absurd i

  each-append : (xs ys : List X) → Each P xs → Each P ys → Each P (xs ++ ys)
  each-append xs ys f g x i = by (in-append_cases x xs ys i)
    where
      by : IsIn x xs ⊎ IsIn x ys → P x
      by (inl a) = f x a
      by (inr b) = g x b

  -- at each outcome
  ok-each : (xs : List X) → Each P xs → (o : Outcome) → Each P (at_ok xs o)
  ok-each xs h ok = h
  ok-each xs h o = each-none

  turn-each : (xs : List X) → Each P xs → (o : Outcome) → Each P (at_turn xs o)
  turn-each xs h turn = h
  turn-each xs h o = each-none

  arm-each : (f : ℕ → List X) → ((n : ℕ) → Each P (f n)) → (o : Outcome) → Each P (at_arm f o)
  arm-each f h (arm n) = h n
  arm-each f h o = each-none

  exception-each : (f : ℕ → List X) → ((e : ℕ) → Each P (f e)) → (o : Outcome) → Each P (at_exception f o)
  exception-each f h (raised e) = h e
  exception-each f h o = each-none

  both-each : (xs : List X) (f : ℕ → List X) → Each P xs → ((e : ℕ) → Each P (f e)) → (o : Outcome) → Each P (at_ok_or_exception xs f o)
  both-each xs f h k o = each-append (at_ok xs o) (at_exception f o) (ok-each xs h o) (exception-each f k o)

module _ (exceptions : ℕ) (table : TypeTable) (well : IsWellFormedTable exceptions table) (variables : List ℕ) where
  abbrev Are : List Fact → Type 0
  Are = AllAre table variables

  abbrev IsSet : Path → Type 0
  IsSet p = (t : ℕ) × IsTarget table variables p t

  -- the words of the statement table
  own-fact : (p : Path) (t : ℕ) → IsTarget table variables p t → IsFactOf table variables (init p)
  own-fact p t h = path-fact table variables p t (h.0).0 h.1

  room : (p : Path) (t : ℕ) → IsTarget table variables p t → Are (room_for table variables p)
  room p t h = room-facts table variables p t (h.0).0

  here : (p : Path) (t : ℕ) → IsLookedAt table variables p t → Are (present table variables p)
  here p t h = present-facts table variables p t h.0

  whole : (p : Path) (t : ℕ) → type_at table variables p ≡ Some t → Are (full table variables p)
  whole p t e = whole-facts table variables p t e

  whole-each : (ps : List Path) → ((p : Path) → IsIn p ps → (t : ℕ) × (type_at table variables p ≡ Some t)) → Are (full_of_each table variables ps)
  whole-each ps h = all-flat table variables (full table variables) ps (λ p i. whole p (h p i).0 (h p i).1)

  set-each : (ps : List Path) → Each IsSet ps → Are (full_of_each table variables ps)
  set-each ps h = whole-each ps (λ p i. ((h p i).0, ((h p i).1.0).0))

  pub known-case : (v : Path) (t c u : ℕ) → IsLookedAt table variables v t → IsComponent table t c u → IsFactOf table variables (case v c)
  known-case v t c u l h = subst (λ o. c < map_or 0 (λ t. map_or 0 component_count (slice_get table t)) o) (sym l.0) (subst (λ o. c < map_or 0 component_count o) (sym h.1) (below (h.0) c h.2))
    where
      below : (ts : List ℕ) (c : ℕ) → slice_get ts c ≡ Some u → c < length ts
      below [] c e = none-not_some e
      below (t ∷ ts) zero e = omega arith
      below (t ∷ ts) (suc c) e = omega (arith, below ts c e)

  -- what travels through a port
  declared-at : (port message : ℕ) (declared : List Fact) (x : Path) → HasShape table port (inport message declared) → IsTarget table variables x message → Are (declared_facts table port x)
  declared-at port message declared x h target =
      subst (λ o. Are (map_or [] (λ s. list_of (λ m. map (said_at x) (message_facts table m.0 m.1)) (message_of s)) o)) (sym h) mapped
    where
      mapped : Are (map (said_at x) (message_facts table message declared))
      mapped g i =
          let r = in-map_from (said_at x) g (message_facts table message declared) i in
          subst (IsFactOf table variables) (sym r.2) (said-fact table variables x message r.0 (target.0).0 target.1 (message-facts table message declared (well.facts_of_fields port (inport message declared) h) r.0 r.1))

  received : (x i : Path) → IsReceived table variables x i → Are (received_from table variables i x)
  received x i h = subst (λ o. Are (list_of (λ t. declared_facts table t x) o)) (sym ((h.1).2).0) (declared-at (h.1).0 h.0 (h.1).1 x (h.1).3 h.2)

  sent : (x o : Path) (message : ℕ) → GoesTo table variables o message → IsTarget table variables x message → Are (sent_to table variables o x)
  sent x o message h target = subst (λ p. Are (list_of (λ t. declared_facts table t x) p)) (sym (inport-is table variables o message h)) (declared-at h.1 message h.2 x h.5 target)

  -- the paths that a typed expression reads, and those among typed atoms
  pub read-typed : (e : Expression) (t : ℕ) → IsTyped table variables e t → (p : Path) → IsIn p (paths_read e) → (u : ℕ) × (type_at table variables p ≡ Some u)
  read-typed (literal l) t h p i = absurd i
  read-typed (copy q) t h p (inl e) = (t, ap (type_at table variables) e ∙ (h.0).0)
  read-typed (copy q) t h p (inr i) = absurd i
  read-typed (negation e) t h p i = read-typed e h.1 h.3 p i
  read-typed (logical_not e) t h p i = read-typed e h.1 h.3 p i
  read-typed (operation o left right) t h p i = by (in-append_cases p (paths_read left) (paths_read right) i) (read-typed left h.1 h.5 p) (read-typed right h.1 h.6 p)
    where
      by : IsIn p (paths_read left) ⊎ IsIn p (paths_read right) → (IsIn p (paths_read left) → (u : ℕ) × (type_at table variables p ≡ Some u)) → (IsIn p (paths_read right) → (u : ℕ) × (type_at table variables p ≡ Some u)) → (u : ℕ) × (type_at table variables p ≡ Some u)
      by (inl a) l r = l a
      by (inr b) l r = r b
  read-typed (size_of q) t h p (inl e) = (h.1, ap (type_at table variables) e ∙ (h.4).0)
  read-typed (size_of q) t h p (inr i) = absurd i
  read-typed (decimal e) t h p i = read-typed e h.1 h.3 p i
  read-typed (length_of e) t h p i = read-typed e h.1 h.3 p i

  pub keys-typed : (ts key : List ℕ) (atoms : List Atom) → AreKeysOf table variables ts key atoms → (p : Path) → IsIn p (paths_among atoms) → (u : ℕ) × (type_at table variables p ≡ Some u)
  keys-typed ts [] [] h p i = absurd i
  keys-typed ts [] (a ∷ atoms) h p i = absurd h
  keys-typed ts (k ∷ key) [] h p i = absurd i
  keys-typed ts (k ∷ key) (Atom.literal l ∷ atoms) h p i = keys-typed ts key atoms h.1 p i
  keys-typed ts (k ∷ key) (path q ∷ atoms) h p (inl e) = ((h.0).0, ap (type_at table variables) e ∙ (((h.0).2).0).0)
  keys-typed ts (k ∷ key) (path q ∷ atoms) h p (inr i) = keys-typed ts key atoms h.1 p i

  read-facts : (e : Expression) (t : ℕ) → IsTyped table variables e t → Are (full_of_each table variables (paths_read e))
  read-facts e t h = whole-each (paths_read e) (read-typed e t h)

  -- the parts of a form's row
  pub record RowIsThere (form : Form) : Type 0 where
    pub needed : Are (row table variables form).needed
    pub made : (o : Outcome) → IsIn o (outcomes table variables form) → Are ((row table variables form).made o)
    pub gone : (o : Outcome) → Each IsSet ((row table variables form).gone o)

  -- what a form is found to be
  found : (r t : Path) (keys : List Atom) (row_type : ℕ) → IsFound table variables r t keys row_type → Are (room_for table variables r ++ present table variables t ++ full_of_each table variables (paths_among keys)) × Are (full table variables r) × IsSet r
  found r t keys row_type h = (
    all-append table variables (room_for table variables r ++ present table variables t) _ (all-append table variables (room_for table variables r) _ (room r row_type h.3) (here t (h.2).0 (h.2).1)) (whole-each (paths_among keys) (keys-typed h.1 h.0 keys h.5)),
    whole r row_type ((h.3).0).0,
    (row_type, h.3),
  )

  -- a statement that sets one path and needs room for it first
  sets : (x : Path) (more : List Fact) → IsSet x → Are more → Are (room_for table variables x ++ more)
  sets x more s h = all-append table variables (room_for table variables x) more (room x s.0 s.1) h

  module _ (processes : List Process) where
    call-set : (o : Path) (arguments : List Atom) → IsTypedForm table variables exceptions processes (Call o arguments) → Each IsSet (set_by_call table variables o arguments)
    call-set o arguments h p i = set-typed table variables h.1 arguments h.5 p (subst (λ ps. IsIn p (arguments_by is_returned ps arguments)) (parameters-are table variables o h.0 h.3 h.1 h.2 h.4) i)

    pub call-kept : (o : Path) (arguments : List Atom) (e : ℕ) → IsTypedForm table variables exceptions processes (Call o arguments) → (p : Path) → IsIn p (kept_by_call table variables o arguments e) → IsIn p (set_by_call table variables o arguments)
    call-kept o arguments e h p i =
        let r = in-flat_map_from (λ i. argument_path (slice_get arguments i)) p (kept_for (call_raises table variables o) e) i in
        let d = kept-declared h.2 e r.0 (subst (λ rs. IsIn r.0 (kept_for rs e)) (raises-are table variables o h.0 h.3 h.1 h.2 h.4) r.1) in
        let k = well.kept_returned h.0 (callmessage h.1 h.2) h.4 d.0 d.1 r.0 d.2 in
        subst (λ ps. IsIn p (arguments_by is_returned ps arguments)) (sym (parameters-are table variables o h.0 h.3 h.1 h.2 h.4)) (kept-set table variables h.1 arguments r.0 k.0 p h.5 k.1 k.2 r.2)

    call-given : (o : Path) (arguments : List Atom) → IsTypedForm table variables exceptions processes (Call o arguments) → (p : Path) → IsIn p (given table variables o arguments) → (t : ℕ) × (type_at table variables p ≡ Some t)
    call-given o arguments h p i = given-typed table variables h.1 arguments h.5 p (subst (λ ps. IsIn p (arguments_by is_given ps arguments)) (parameters-are table variables o h.0 h.3 h.1 h.2 h.4) i)

    return-facts : (m : Path) (rs : List Raised) → IsReturned table variables m rs → Are (present table variables m ++ full_of_each table variables (returned table variables m))
    return-facts m rs h = all-append table variables (present table variables m) _ (here m h.0 (h.2).0) (whole-each (returned table variables m) (λ p i. by p i))
      where
        by : (p : Path) → IsIn p (returned table variables m) → (t : ℕ) × (type_at table variables p ≡ Some t)
        by p i =
            let r = in-map_from (λ i. m ++ i ∷ []) p (returned_places 0 (list_of parameters_of (shape_at table variables m))) i in
            let shape = shape-is table variables m h.0 (callmessage h.1 rs) ((h.2).0).0 h.3 in
            let k = returned-there 0 r.0 h.1 (subst (λ o. IsIn r.0 (returned_places 0 (list_of parameters_of o))) shape r.1) in
            let place : r.0 ≡ k.0 = omega (arith, k.1) in
            (k.2.0.content, ap (type_at table variables) r.2 ∙ (parameter-path table variables m h.0 r.0 h.1 rs k.2.0 h.2 h.3 (ap (slice_get h.1) place ∙ k.2.1)).0)

    return_by-facts : (m : Path) (e : ℕ) (rs : List Raised) → IsReturned table variables m rs → Are (present table variables m ++ full_of_each table variables (returned_by table variables m e))
    return_by-facts m e rs h = all-append table variables (present table variables m) _ (here m h.0 (h.2).0) (whole-each (returned_by table variables m e) (λ p i. by p i))
      where
        by : (p : Path) → IsIn p (returned_by table variables m e) → (t : ℕ) × (type_at table variables p ≡ Some t)
        by p i =
            let r = in-map_from (λ i. m ++ i ∷ []) p (kept_for (list_of raises_of (shape_at table variables m)) e) i in
            let shape = shape-is table variables m h.0 (callmessage h.1 rs) ((h.2).0).0 h.3 in
            let d = kept-declared rs e r.0 (subst (λ o. IsIn r.0 (kept_for (list_of raises_of o) e)) shape r.1) in
            let k = well.kept_returned h.0 (callmessage h.1 rs) h.3 d.0 d.1 r.0 d.2 in
            (k.0.content, ap (type_at table variables) r.2 ∙ (parameter-path table variables m h.0 r.0 h.1 rs k.0 h.2 h.3 k.1).0)

    -- an arm's component is one of the variant's
    case-made : (v : Path) (cs : List ℕ) → IsTypedForm table variables exceptions processes (Case v cs) → (o : Outcome) → IsIn o (outcomes table variables (Case v cs)) → Are (at_component (λ c. case v c ∷ []) o)
    case-made v cs h (component c) i = all-one table variables (case v c) (subst (λ o. c < map_or 0 (λ t. map_or 0 component_count (slice_get table t)) o) (sym (h.2).0) (subst (λ o. c < map_or 0 component_count o) (sym h.3) ((h.5 c).0 (arm_of (in-append_cases (component c) (map component cs) [] i)))))
      where
        arm_of : IsIn (component c) (map component cs) ⊎ IsIn (component c) [] → IsIn c cs
        arm_of (inl a) = let r = in-map_from component (component c) cs a in let same : c ≡ r.0 = cc r.2 in subst (λ d. IsIn d cs) (sym same) r.1
        arm_of (inr b) = absurd b
    case-made v cs h o i = all-none table variables

    arm-at : (arms : List Arm) (n : ℕ) (P : Arm → Type 0) → ((a : Arm) → IsIn a arms → P a) → (Q : Option Arm → Type 0) → Q None → ((a : Arm) → P a → Q (Some a)) → Q (slice_get arms n)
    arm-at arms n P each Q none some = by (slice_get arms n) refl
      where
        by : (o : Option Arm) → slice_get arms n ≡ o → Q o
        by None e = none
        by (Some a) e = some a (each a (got-IsIn arms n a e))

    pub row-there : (form : Form) → IsTypedForm table variables exceptions processes form → RowIsThere form
    row-there (Assign x e) h = record {
      needed = sets x _ (h.0, h.1) (read-facts e h.0 h.2);
      made = λ o i. ok-each (IsFactOf table variables) (full table variables x) (whole x h.0 ((h.1).0).0) o;
      gone = ok-each IsSet (x ∷ []) (each-one IsSet x (h.0, h.1));
    }
    row-there (Move y x) h = record {
      needed = sets x _ (h.0, h.2) (whole y h.0 ((h.1).0).0);
      made = λ o i. ok-each (IsFactOf table variables) (full table variables x) (whole x h.0 ((h.2).0).0) o;
      gone = ok-each IsSet (y ∷ x ∷ []) (each-two IsSet y x (h.0, h.1) (h.0, h.2));
    }
    row-there (New x) h = record {
      needed = room x h.0 h.2;
      made = λ o i. ok-each (IsFactOf table variables) (init x ∷ []) (all-one table variables (init x) (own-fact x h.0 h.2)) o;
      gone = ok-each IsSet (x ∷ []) (each-one IsSet x (h.0, h.2));
    }
    row-there (Discard x) h = record {
      needed = here x h.0 (h.1).0;
      made = λ o i. all-none table variables;
      gone = ok-each IsSet (x ∷ []) (each-one IsSet x (h.0, h.1));
    }
    row-there (Unite v c y) h = record {
      needed = sets v _ (h.0, h.2) (whole y h.1 ((h.4).0).0);
      made = λ o i. ok-each (IsFactOf table variables) (init v ∷ case v c ∷ []) (each-two (IsFactOf table variables) (init v) (case v c) (own-fact v h.0 h.2) (known-case v h.0 c h.1 (h.2).0 h.3)) o;
      gone = ok-each IsSet (y ∷ v ∷ []) (each-two IsSet y v (h.1, h.4) (h.0, h.2));
    }
    row-there (Dissolve v c y) h = record {
      needed = sets y _ (h.1, h.4) (all-one table variables (case v c) (known-case v h.0 c h.1 (h.2).0 h.3));
      made = λ o i. ok-each (IsFactOf table variables) (full table variables y) (whole y h.1 ((h.4).0).0) o;
      gone = ok-each IsSet (v ∷ y ∷ []) (each-two IsSet v y (h.0, h.2) (h.1, h.4));
    }
    row-there (Reveal v c) h = record {
      needed = here v h.0 h.2;
      made = λ o i. ok-each (IsFactOf table variables) (case v c ∷ []) (all-one table variables (case v c) (known-case v h.0 c h.1 h.2 h.3)) o;
      gone = λ o. each-none IsSet;
    }
    row-there (Case v cs) h = record {
      needed = here v h.0 h.2;
      made = case-made v cs h;
      gone = λ o. each-none IsSet;
    }
    row-there (Wrap y p) h = record {
      needed = sets p _ (h.1, h.3) (whole y h.0 ((h.2).0).0);
      made = λ o i. ok-each (IsFactOf table variables) (init p ∷ []) (all-one table variables (init p) (own-fact p h.1 h.3)) o;
      gone = ok-each IsSet (y ∷ p ∷ []) (each-two IsSet y p (h.0, h.2) (h.1, h.3));
    }
    row-there (Unwrap p t y) h = record {
      needed = sets y _ (t, h.3) (here p h.0 (h.1).0);
      made = λ o i. ok-each (IsFactOf table variables) (full table variables y) (whole y t ((h.3).0).0) o;
      gone = ok-each IsSet (p ∷ y ∷ []) (each-two IsSet p y (h.0, h.1) (t, h.3));
    }
    row-there (Insert r t) h = record {
      needed = all-append table variables (full table variables r) _ (whole r h.0 ((h.3).0).0) (here t (h.2).0 (h.2).1);
      made = λ o i. all-none table variables;
      gone = ok-each IsSet (r ∷ []) (each-one IsSet r (h.0, h.3));
    }
    row-there (Remove r t keys) h = let f = found r t keys h.0 h.1 in record {
      needed = f.0;
      made = λ o i. ok-each (IsFactOf table variables) (full table variables r) f.1 o;
      gone = ok-each IsSet (r ∷ []) (each-one IsSet r f.2);
    }
    row-there (Get r t keys) h = let f = found r t keys h.0 h.1 in record {
      needed = f.0;
      made = λ o i. ok-each (IsFactOf table variables) (full table variables r) f.1 o;
      gone = ok-each IsSet (r ∷ []) (each-one IsSet r f.2);
    }
    row-there (For r t) h = record {
      needed = sets r _ (h.0, h.3) (here t (h.2).0 (h.2).1);
      made = λ o i. turn-each (IsFactOf table variables) (full table variables r) (whole r h.0 ((h.3).0).0) o;
      gone = turn-each IsSet (r ∷ []) (each-one IsSet r (h.0, h.3));
    }
    row-there (Connect o i) h = record {
      needed = sets o _ (h.0, h.2) (here i h.1 h.4);
      made = λ q k. ok-each (IsFactOf table variables) (init o ∷ []) (all-one table variables (init o) (own-fact o h.0 h.2)) q;
      gone = ok-each IsSet (o ∷ []) (each-one IsSet o (h.0, h.2));
    }
    row-there (Send x o) h = record {
      needed = all-append table variables (sent_to table variables o x) _ (sent x o h.0 h.1 h.2) (here o (h.1).0 (h.1).3);
      made = λ q k. exception-each (IsFactOf table variables) (λ e. sent_to table variables o x) (λ e. sent x o h.0 h.1 h.2) q;
      gone = both-each IsSet (x ∷ []) (λ e. x ∷ []) (each-one IsSet x (h.0, h.2)) (λ e. each-one IsSet x (h.0, h.2));
    }
    row-there (Receive x i) h = record {
      needed = sets x _ (h.0, h.2) (here i (h.1).0 (h.1).2);
      made = λ q k. ok-each (IsFactOf table variables) (received_from table variables i x) (received x i h) q;
      gone = ok-each IsSet (x ∷ []) (each-one IsSet x (h.0, h.2));
    }
    row-there (Select arms) h = record {
      needed = all-append table variables (flat_map (λ (a : Arm). room_for table variables a.target) arms) _
          (all-flat table variables (λ (a : Arm). room_for table variables a.target) arms (λ a i. room a.target (h.1 a i).0 (h.1 a i).2))
          (all-flat table variables (λ (a : Arm). present table variables a.port) arms (λ a i. here a.port ((h.1 a i).1).0 ((h.1 a i).1).2));
      made = λ q k. arm-each (IsFactOf table variables) (received_at table variables arms)
          (λ n. arm-at arms n (λ (a : Arm). IsReceived table variables a.target a.port) h.1 (λ o. Are (list_of (λ (a : Arm). received_from table variables a.port a.target) o)) (all-none table variables) (λ a r. received a.target a.port r)) q;
      gone = arm-each IsSet (set_at table variables arms)
          (λ n. arm-at arms n (λ (a : Arm). IsReceived table variables a.target a.port) h.1 (λ o. Each IsSet (list_of (λ (a : Arm). a.target ∷ []) o)) (each-none IsSet) (λ a r. each-one IsSet a.target (r.0, r.2)));
    }
    row-there (Call o arguments) h = let s = call-set o arguments h in record {
      needed = all-append table variables (flat_map (room_for table variables) (set_by_call table variables o arguments) ++ present table variables o) _
          (all-append table variables (flat_map (room_for table variables) (set_by_call table variables o arguments)) _
          (all-flat table variables (room_for table variables) (set_by_call table variables o arguments) (λ p i. room p (s p i).0 (s p i).1)) (here o (h.3).0 (h.3).3))
          (whole-each (given table variables o arguments) (call-given o arguments h));
      made = λ q k. both-each (IsFactOf table variables) (full_of_each table variables (set_by_call table variables o arguments)) (λ e. full_of_each table variables (kept_by_call table variables o arguments e))
          (set-each (set_by_call table variables o arguments) s) (λ e. set-each (kept_by_call table variables o arguments e) (λ p i. s p (call-kept o arguments e h p i))) q;
      gone = both-each IsSet (set_by_call table variables o arguments) (λ e. set_by_call table variables o arguments) s (λ e. s);
    }
    row-there (Return m) h = record {
      needed = return-facts m h.0 h.1;
      made = λ q k. all-none table variables;
      gone = ok-each IsSet (m ∷ []) (each-one IsSet m ((h.1).0, (h.1).2));
    }
    row-there (ReturnBy m e) h = record {
      needed = return_by-facts m e h.0 h.1;
      made = λ q k. all-none table variables;
      gone = ok-each IsSet (m ∷ []) (each-one IsSet m ((h.1).0, (h.1).2));
    }
    row-there (Create o n) h = record {
      needed = room o h.0 h.2;
      made = λ q k. ok-each (IsFactOf table variables) (init o ∷ []) (all-one table variables (init o) (own-fact o h.0 h.2)) q;
      gone = ok-each IsSet (o ∷ []) (each-one IsSet o (h.0, h.2));
    }
    row-there (If e) h = record { needed = read-facts e h.0 h.2; made = λ q k. all-none table variables; gone = λ q. each-none IsSet }
    row-there (While e) h = record { needed = read-facts e h.0 h.2; made = λ q k. all-none table variables; gone = λ q. each-none IsSet }
    row-there (Raise e) h = record { needed = all-none table variables; made = λ q k. all-none table variables; gone = λ q. each-none IsSet }
    row-there Leave h = record { needed = all-none table variables; made = λ q k. all-none table variables; gone = λ q. each-none IsSet }
