-- A typed form takes each answer that suits, with an outcome of its own.
use Rattle.std.proofs.Common.{◌≡◌, ◌⊎◌, inl, inr, ℕ, zero, suc, ◌+◌, arith, List, [], ◌∷◌, ◌++◌, map, flat_map, find, Bool, true, false, cond, not, ◌&&◌, ◌||◌, nat_eq, Option, Some, None, option_map, option_and_then, refl, sym, ap, ◌∙◌, subst, slice_get}
use Rattle.std.specs.Prelude.{is_some, nat_lt, IsTrue}
use mathlib.Core.Bool.{false≢true}
use Rattle.std.proofs.lemmas.Bool.{eqb-true}
use Rattle.herm_model.specs.Lists.{IsIn, any_pass}
use Rattle.herm_model.specs.Paths.{Path, Fact, init, parent, same_fact, same_path, is_at_or_below, are_apart}
use Rattle.herm_model.specs.Types.{Shape, inport, Raised, type_at, passes_component}
use Rattle.herm_model.specs.Expressions.{Atom}
use Rattle.herm_model.specs.Calls.{call_raises, shape_at}
use Rattle.herm_model.specs.Statements.{Form, Arm, New, Send, Receive, Select, Call, Return, ReturnBy, Create, Process}
use Rattle.herm_model.specs.FactsOfStatements.{room_for, present, full, full_of_each, closed, needs, given, set_by_call, kept_by_call, parameters_at}
use Rattle.herm_model.specs.Outcomes.{Outcome, ok, arm, raised, depletion, disconnected, with_number, rising, raised_by_new, arms_from, outcomes}
use Rattle.herm_model.specs.TypedStatements.{AreApart}
use Rattle.herm_model.specs.Values.{kind_of, Cell, part_at, inside, cell_at, has_place}
use Rattle.herm_model.proofs.Beginnings.{below-trans, above-longer}
use Rattle.herm_model.proofs.Lists.{and-both, not_true, in-map, in-flat_map, in-append_left, in-filter_from}
use Rattle.herm_model.proofs.FactTests.{got-IsIn}
use Rattle.herm_model.proofs.Options.{none-not_some, some-injective, chain-some, map-some}
use Rattle.herm_journal.proofs.Rising.{same-true}
use Rattle.herm_journal.specs.Actions.{values, gone, make_port, make_process, put, take, answer, hear}
use Rattle.herm_journal.specs.Actions
use Rattle.herm_journal.specs.Messages.{CellAction, CellReply, AreFull, is_inport}
use Rattle.herm_forms.specs.Frames.{Name, Frame, Completion, goes, stays, stuck, if_there, drop, finalise_at_once, cleared, taking, putting, putting_all, Taken}
use Rattle.herm_forms.specs.Frames
use Rattle.herm_forms.specs.Exchanges
use Rattle.herm_forms.specs.Callmessages as callmessages
use Rattle.herm_forms.specs.ReturnForms
use Rattle.herm_forms.specs.HearReply
use Rattle.herm_forms.specs.Exchanges.{receive_at, place_of_port, ports_at}
use Rattle.herm_forms.specs.Callmessages.{Composed}
use Rattle.herm_forms.specs.Excess.{excess_over_declared}
use Rattle.herm_forms.specs.Modules.{Module}
use Rattle.herm_forms.specs.Acts.{is_action, is_out, arguments_at, composed, kept_at, left_at, given_back, settle, settle_reply}
use Rattle.herm_forms.specs.laws.EdgeLaws.{AreSound, without}
use Rattle.herm_forms.specs.laws.CallLaws.{HaveTypesAt, without_lent}
use Rattle.herm_forms.specs.OpenCalls.{Calling, lent_paths, returned_types, kept_types, IsReply}
use Rattle.herm_forms.specs.Incoming.{leads_from, looked_at, ComesIn}
use Rattle.herm_forms.specs.laws.TypedForms.{IsTypedIn}
use Rattle.herm_forms.specs.laws.FormsTakeAnswers.{IsTaken, IsStaying, IsTakenAt, Meets, AnswersGoOn, FormsTakeAnswers}
use Rattle.herm_forms.proofs.Arrived.{drop-variables}
use Rattle.herm_forms.proofs.CountedCalls.{source-kind}
use Rattle.herm_forms.proofs.forms.Messages.{beyond-below}
use Rattle.herm_forms.proofs.forms.ExcessDropped.{source-taken}
use Rattle.herm_forms.proofs.called.ApartPaths.{apart-not_below}
use Rattle.herm_forms.proofs.called.LostApart.{apart-back}
use Rattle.herm_forms.proofs.called.LessFacts.{less, all-cleared}
use Rattle.herm_forms.proofs.called.HeardReplies.{none-under, with_one, put-one}
use Rattle.herm_forms.proofs.called.OpenCalls.{typed-path, inout-set, out-set}
use Rattle.herm_forms.proofs.typed.ActionForms.{leads-cond}
use Rattle.herm_forms.proofs.typed.CalledForms.{returned-typed, kept-typed, set-apart, set-direct, kept-apart, call-targets}
use Rattle.herm_forms.proofs.called.SetArguments.{IsCalled, typed-called, kept-among}
use Rattle.herm_forms.proofs.forms.ToldFacts.{part-on, in-closed}
use Rattle.herm_forms.proofs.typed.Room.{HasParent, has-parent, parent-left, place-there}
use Rattle.herm_forms.proofs.typed.LocalGoes.{place-of}
use Rattle.herm_forms.proofs.typed.WantsThere.{want-there, source-there, composed-there, select-there, plain-given, plain-source, raised-given, raised-source}
use Rattle.herm_model.proofs.TypedPaths.{parent-split}

module _ (S : List Outcome) where
  taken-by : (r s : Completion Name) → r ≡ s → IsTaken S s → IsTaken S r
  taken-by r s e h = subst (IsTaken S) (sym e) h

  set-taken : (x : Path) (o : Outcome) (d : Cell Name) (b : Frame Name) → IsTrue (has_place b.variables x) → IsIn o S → IsTaken S (putting x o d b)
  set-taken x o d b place h = taken-by (putting x o d b) (goes o (Frames.put x d b)) (ap (λ t. cond t (goes o (Frames.put x d b)) stuck) place) h

  there-taken : {X : Type 0} (next : X → Completion Name) (o : Option X) (x : X) → o ≡ Some x → IsTaken S (next x) → IsTaken S (if_there next o)
  there-taken next o x e h = taken-by (if_there next o) (next x) (ap (if_there next) e) h

-- a number that is put into a rising list is in it, and so is each that was there
in-number : (n : ℕ) (ms : List ℕ) → IsIn n (with_number n ms)
in-number n [] = inl refl
in-number n (m ∷ ms) = by (nat_lt n m) (nat_eq n m) refl (in-number n ms)
  where
    by : (a b : Bool) → nat_eq n m ≡ b → IsIn n (with_number n ms) → IsIn n (cond a (n ∷ m ∷ ms) (cond b (m ∷ ms) (m ∷ with_number n ms)))
    by true b e more = inl refl
    by false true e more = inl (eqb-true n m e)
    by false false e more = inr more

still-number : (k n : ℕ) (ms : List ℕ) → IsIn k ms → IsIn k (with_number n ms)
still-number k n [] h = absurd h
still-number k n (m ∷ ms) h = by (nat_lt n m) (nat_eq n m) h (still-number k n ms)
  where
    by : (a b : Bool) → IsIn k (m ∷ ms) → (IsIn k ms → IsIn k (with_number n ms)) → IsIn k (cond a (n ∷ m ∷ ms) (cond b (m ∷ ms) (m ∷ with_number n ms)))
    by true b h more = inr h
    by false true h more = h
    by false false (inl e) more = inl e
    by false false (inr h) more = inr (more h)

in-rising : (k : ℕ) (ns : List ℕ) → IsIn k ns → IsIn k (rising ns)
in-rising k [] h = absurd h
in-rising k (n ∷ ns) (inl e) = subst (λ k. IsIn k (with_number n (rising ns))) (sym e) (in-number n (rising ns))
in-rising k (n ∷ ns) (inr h) = still-number k n (rising ns) (in-rising k ns h)

in-raises : (e : ℕ) (raises : List Raised) → IsTrue (any_pass (λ (r : Raised). nat_eq r.exception e) raises) → IsIn e (map (λ (r : Raised). r.exception) raises)
in-raises e [] h = absurd (false≢true h)
in-raises e (r ∷ raises) h = by (nat_eq r.exception e) refl h (in-raises e raises)
  where
    by : (b : Bool) → nat_eq r.exception e ≡ b → IsTrue (b || (any_pass (λ (r : Raised). nat_eq r.exception e) raises)) → (IsTrue (any_pass (λ (r : Raised). nat_eq r.exception e) raises) → IsIn e (map (λ (r : Raised). r.exception) raises))
        → IsIn e (r.exception ∷ map (λ (r : Raised). r.exception) raises)
    by true same h more = inl (sym (eqb-true r.exception e same))
    by false same h more = inr (more h)

-- `new` of an inport may be refused
new-depletes : (o : Option Shape) → IsTrue (is_inport o) → IsIn (raised depletion) (ok ∷ map raised (raised_by_new o))
new-depletes (Some (inport message declared)) h = inr (inl refl)
new-depletes o h = not_true h

-- an arm is an outcome of its `select`
arm-outcome : (k : ℕ) (arms : List Arm) (n : ℕ) (a : Arm) → slice_get arms n ≡ Some a → IsIn (arm (k + n)) (arms_from k arms)
arm-outcome k [] n a e = none-not_some e
arm-outcome k (x ∷ arms) zero a e = inl (ap arm (plus-zero k))
  where
    plus-zero : (k : ℕ) → k + 0 ≡ k
    plus-zero k = omega arith
arm-outcome k (x ∷ arms) (suc n) a e = inr (subst (λ m. IsIn (arm m) (arms_from (suc k) arms)) (plus-suc k n) (arm-outcome (suc k) arms n a e))
  where
    plus-suc : (k n : ℕ) → suc k + n ≡ k + suc n
    plus-suc k n = omega arith

-- A path is not at or above its own parent.
longer-not : (y : Path) (k : ℕ) → is_at_or_below (y ++ k ∷ []) y ≡ true → ⊥
longer-not [] k h = false≢true h
longer-not (i ∷ y) k h = longer-not y k (and-both (nat_eq i i) (is_at_or_below (y ++ k ∷ []) y) h).1

-- Where paths are apart from a target or are this target, what is taken of them leaves its parent.
module _ (has : Fact → Bool) where
  pub parent-less : (paths : List Path) (x : Path) → ((p : Path) → IsIn p paths → (p ≡ x) ⊎ IsTrue (are_apart p x)) → HasParent has x → HasParent (less paths has) x
  parent-less paths [] apart h = h
  parent-less paths (i ∷ []) apart h = tt
  parent-less paths (i ∷ j ∷ r) apart h =
      subst (λ t. IsTrue (cond t false (has (init (i ∷ parent (j ∷ r)))))) (sym (none-under paths (i ∷ parent (j ∷ r)) (λ p m. by p (apart p m) (is_at_or_below p (i ∷ parent (j ∷ r))) refl))) h
    where
      by : (p : Path) → (p ≡ i ∷ j ∷ r) ⊎ IsTrue (are_apart p (i ∷ j ∷ r)) → (t : Bool) → is_at_or_below p (i ∷ parent (j ∷ r)) ≡ t → is_at_or_below p (i ∷ parent (j ∷ r)) ≡ false
      by p how false e = e
      by p (inl same) true e =
          let k = parent-split i j r in
          absurd (longer-not (i ∷ parent (j ∷ r)) k.0 (ap (λ z. is_at_or_below z (i ∷ parent (j ∷ r))) (sym k.1 ∙ sym same) ∙ e))
      by p (inr apart) true e =
          let k = parent-split i j r in
          absurd (apart-not_below p (i ∷ j ∷ r) apart (below-trans p (i ∷ parent (j ∷ r)) (i ∷ j ∷ r) e (subst (λ z. is_at_or_below (i ∷ parent (j ∷ r)) z ≡ true) (sym k.1) (above-longer (i ∷ parent (j ∷ r)) (k.0 ∷ [])))))

-- two paths of a list that are apart
pairs-apart : (xs : List Path) → AreApart xs → (p x : Path) → IsIn p xs → IsIn x xs → (p ≡ x) ⊎ IsTrue (are_apart p x)
pairs-apart [] apart p x h k = absurd h
pairs-apart (y ∷ xs) apart p x (inl e) (inl e') = inl (e ∙ sym e')
pairs-apart (y ∷ xs) apart p x (inl e) (inr k) = inr (subst (λ p. IsTrue (are_apart p x)) (sym e) (apart.0 x k))
pairs-apart (y ∷ xs) apart p x (inr h) (inl e) = inr (subst (λ x. IsTrue (are_apart p x)) (sym e) (apart-back y p (apart.0 p h)))
pairs-apart (y ∷ xs) apart p x (inr h) (inr k) = pairs-apart xs apart.1 p x h k

module _ (c : Module) where
  -- what is set at a path leaves the parents of those that are apart from it
  parent-with : (has : Fact → Bool) (y x : Path) → IsTrue (are_apart y x) → HasParent has x → HasParent (with_one c y has) x
  parent-with has y [] apart h = h
  parent-with has y (i ∷ []) apart h = tt
  parent-with has y (i ∷ j ∷ r) apart h = by (any_pass (same_fact (init (i ∷ parent (j ∷ r)))) (closed c.types c.variables (full c.types c.variables y))) (parent-left c has y (i ∷ j ∷ r) apart h)
    where
      by : (t : Bool) → IsTrue (without y has (init (i ∷ parent (j ∷ r)))) → IsTrue (cond t true (not (is_at_or_below y (i ∷ parent (j ∷ r))) && has (init (i ∷ parent (j ∷ r)))))
      by true h = refl
      by false h = h

  -- values at paths that are apart are all set
  sets-taken : (S : List Outcome) (xs : List Path) (ts : List ℕ) → HaveTypesAt c xs ts → AreApart xs → ((x : Path) → IsIn x xs → passes_component c.types c.variables x ≡ false) → (o : Outcome) → IsIn o S → (ds : List (Cell Name)) → AreFull c.types ts ds
      → (has : Fact → Bool) (b : Frame Name) → AreSound c has b.variables → ((x : Path) → IsIn x xs → HasParent has x) → IsTaken S (putting_all xs o ds b)
  sets-taken S [] [] at apart direct o h [] whole has b sound parents = h
  sets-taken S [] [] at apart direct o h (d ∷ ds) whole has b sound parents = absurd whole
  sets-taken S [] (t ∷ ts) at apart direct o h ds whole has b sound parents = absurd at
  sets-taken S (y ∷ xs) [] at apart direct o h ds whole has b sound parents = absurd at
  sets-taken S (y ∷ xs) (t ∷ ts) at apart direct o h [] whole has b sound parents = absurd whole
  sets-taken S ([] ∷ xs) (t ∷ ts) at apart direct o h (d ∷ ds) whole has b sound parents = none-not_some at.0
  sets-taken S ((i ∷ q) ∷ xs) (t ∷ ts) at apart direct o h (d ∷ ds) whole has b sound parents =
      let place = place-there c has b.variables sound (i ∷ q) t at.0 (direct (i ∷ q) (inl refl)) (parents (i ∷ q) (inl refl)) in
      let behind = Frames.put (i ∷ q) d b in
      taken-by S (putting_all ((i ∷ q) ∷ xs) o (d ∷ ds) b) (putting_all xs o ds behind) (ap (λ p. cond p (putting_all xs o ds behind) stuck) place)
      (sets-taken S xs ts at.2 apart.1 (λ x m. direct x (inr m)) o h ds whole.1 (with_one c (i ∷ q) has) behind (put-one c i q t at.0 at.1 d whole.0 has b sound place) (λ x m. parent-with has (i ∷ q) x (apart.0 x m) (parents x (inr m))))

module _ (exceptions : ℕ) (processes : List Process) (c : Module) (name : Name → Name) (has : Fact → Bool) (b : Frame Name) (sound : AreSound c has b.variables) where
  abbrev Found : Form → Type 0
  Found form = (f : Fact) → IsIn f (needs c.types c.variables form) → IsTrue (has f)

  abbrev S : Form → List Outcome
  S form = outcomes c.types c.variables form

  new-taken : (x : Path) → IsTypedIn exceptions processes c (New x) → IsTrue (is_action c (New x)) → Found (New x) → (a : CellAction Name) → Meets a (New x) → IsTaken (S (New x)) (Exchanges.new_inport name x a b)
  new-taken x is acts needed (make_port (Some n)) meets = set-taken (S (New x)) x ok _ _ (place-of exceptions processes c (New x) is has needed b sound x is.typed.0 is.typed.2 (λ f h. h)) (inl refl)
  new-taken x is acts needed (make_port None) meets = new-depletes (shape_at c.types c.variables x) acts
  new-taken x is acts needed a meets = absurd meets

  create-taken : (o : Path) (process : ℕ) → IsTypedIn exceptions processes c (Create o process) → Found (Create o process) → (a : CellAction Name) → Meets a (Create o process) → IsTaken (S (Create o process)) (Exchanges.create name o a b)
  create-taken o process is needed (make_process code (Some made)) meets = set-taken (S (Create o process)) o ok _ _ (place-of exceptions processes c (Create o process) is has needed b sound o is.typed.0 is.typed.2 (λ f h. h)) (inl refl)
  create-taken o process is needed (make_process code None) meets = inr (inl refl)
  create-taken o process is needed a meets = absurd meets

  receive-taken : (x i : Path) → IsTypedIn exceptions processes c (Receive x i) → Found (Receive x i) → (a : CellAction Name) → Meets a (Receive x i) → IsTaken (S (Receive x i)) (Exchanges.receive x a b)
  receive-taken x i is needed (take k m) meets =
      set-taken (S (Receive x i)) x ok m b (place-of exceptions processes c (Receive x i) is has needed b sound x is.typed.0 is.typed.2 (λ f h. in-append_left f (room_for c.types c.variables x) (present c.types c.variables i) h)) (inl refl)
  receive-taken x i is needed a meets = absurd meets

  -- a message that comes back finds its old place
  parent-there : (x : Path) (d : Cell Name) → cell_at x b.variables ≡ Some d → HasParent has x
  parent-there [] d at = none-not_some at
  parent-there (i ∷ []) d at = tt
  parent-there (i ∷ j ∷ r) d at =
      let k = parent-split i j r in
      by (cell_at (i ∷ parent (j ∷ r)) b.variables) refl (sym (part-on Name i k.0 (parent (j ∷ r)) b.variables) ∙ ap (λ p. cell_at p b.variables) (sym k.1) ∙ at)
    where
      by : (o : Option (Cell Name)) → cell_at (i ∷ parent (j ∷ r)) b.variables ≡ o → part_at (parent-split i j r).0 (inside (cell_at (i ∷ parent (j ∷ r)) b.variables)) ≡ Some d → IsTrue (has (init (i ∷ parent (j ∷ r))))
      by None e h = none-not_some (sym (ap (λ o. part_at (parent-split i j r).0 (inside o)) e) ∙ h)
      by (Some u) e h = (sound.facts.values (i ∷ parent (j ∷ r))).0 (ap is_some e)

  self-apart : (x : Path) (p : Path) → IsIn p (x ∷ []) → (p ≡ x) ⊎ IsTrue (are_apart p x)
  self-apart x p (inl e) = inl e
  self-apart x p (inr h) = absurd h

  send-taken : (x o : Path) → IsTypedIn exceptions processes c (Send x o) → Found (Send x o) → (a : CellAction Name) → Meets a (Send x o) → IsTaken (S (Send x o)) (Exchanges.send (excess_over_declared c o x b) x a b)
  send-taken [] o is needed a meets = none-not_some is.typed.2.0.0
  send-taken (i ∷ q) o is needed (put (Some k) m) meets =
      let d = source-there exceptions processes c (i ∷ q) o is has needed b sound in
      there-taken (S (Send (i ∷ q) o)) (λ d. goes ok (cleared (i ∷ q) (drop (excess_over_declared c o (i ∷ q) b) b))) (cell_at (i ∷ q) (drop (excess_over_declared c o (i ∷ q) b) b).variables) d.2 d.3 (inl refl)
  send-taken (i ∷ q) o is needed (put None m) meets =
      let d = source-there exceptions processes c (i ∷ q) o is has needed b sound in
      let lost = excess_over_declared c o (i ∷ q) b in
      let behind = cleared (i ∷ q) (drop lost b) in
      let left = source-taken c i q has b sound lost (beyond-below c o (i ∷ q) b) in
      let parent' = without-parent (i ∷ q) (parent-less has ((i ∷ q) ∷ []) (i ∷ q) (self-apart (i ∷ q)) (parent-there (i ∷ q) d.0 d.1)) in
      let place = place-there c (without (i ∷ q) has) behind.variables left (i ∷ q) is.typed.0 is.typed.2.0.0 is.typed.2.1 parent' in
      there-taken (S (Send (i ∷ q) o)) (λ d. putting (i ∷ q) (raised disconnected) m behind) (cell_at (i ∷ q) (drop lost b).variables) d.2 d.3 (set-taken (S (Send (i ∷ q) o)) (i ∷ q) (raised disconnected) m behind place (inr (inl refl)))
    where
      without-parent : (x : Path) → HasParent (less (x ∷ []) has) x → HasParent (without x has) x
      without-parent [] h = h
      without-parent (i ∷ []) h = h
      without-parent (i ∷ j ∷ r) h = by (is_at_or_below (i ∷ j ∷ r) (i ∷ parent (j ∷ r))) h
        where
          by : (t : Bool) → IsTrue (cond (t || false) false (has (init (i ∷ parent (j ∷ r))))) → IsTrue (not t && has (init (i ∷ parent (j ∷ r))))
          by true h = h
          by false h = h
  send-taken (i ∷ q) o is needed a meets = absurd meets

  call-taken : (o : Path) (arguments : List Atom) → IsTypedIn exceptions processes c (Call o arguments) → Found (Call o arguments) → (a : CellAction Name) → Meets a (Call o arguments)
      → IsTakenAt (S (Call o arguments)) (Call o arguments) a (callmessages.call (composed name c o arguments b) (arguments_at c is_out o arguments) a)
  call-taken o arguments is needed (put (Some k) m) meets =
      let x = composed-there exceptions processes c name o arguments is has needed b sound in subst IsStaying (sym (ap (if_there (λ (c : Composed Name). stays (record c.frame { call = Some c.call }))) x.1)) tt
  call-taken o arguments is needed (put None m) meets =
      let x = composed-there exceptions processes c name o arguments is has needed b sound in
      there-taken (S (Call o arguments)) (λ (x : Composed Name). goes (raised disconnected) (drop (arguments_at c is_out o arguments) (finalise_at_once m x.frame))) (composed name c o arguments b) x.0 x.1
      (inr (in-map raised disconnected (rising (disconnected ∷ map (λ (r : Raised). r.exception) (call_raises c.types c.variables o))) (in-rising disconnected (disconnected ∷ map (λ (r : Raised). r.exception) (call_raises c.types c.variables o)) (inl refl))))
  call-taken o arguments is needed a meets = absurd meets

  -- what was given back leaves the callmessage where it was
  kind-some : (x y : Option (Cell Name)) (d : Cell Name) → option_map kind_of x ≡ option_map kind_of y → y ≡ Some d → (e : Cell Name) × (x ≡ Some e)
  kind-some None y d same at = none-not_some (same ∙ ap (option_map kind_of) at)
  kind-some (Some e) y d same at = (e, refl)

  return-taken : (form : Form) (i : ℕ) (q : List ℕ) (places : List ℕ) (taken : Taken Name) → given_back c (parameters_at c.types c.variables (i ∷ q) places) b ≡ Some taken → (d : Cell Name) → cell_at (i ∷ q) b.variables ≡ Some d
      → IsIn ok (S form) → (a : CellAction Name) → Meets a (Return (i ∷ q)) → IsTaken (S form) (ReturnForms.return (given_back c (parameters_at c.types c.variables (i ∷ q) places) b) (i ∷ q) a)
  return-taken form i q places taken given d at good (answer k r) meets =
      let e = kind-some (cell_at (i ∷ q) taken.frame.variables) (cell_at (i ∷ q) b.variables) d (source-kind i q (λ k. 0) c places b taken given) at in
      there-taken (S form) (λ (t : Taken Name). taking (i ∷ q) (λ c b. goes ok (finalise_at_once c b)) t.frame) (given_back c (parameters_at c.types c.variables (i ∷ q) places) b) taken given
      (there-taken (S form) (λ d. goes ok (finalise_at_once d (cleared (i ∷ q) taken.frame))) (cell_at (i ∷ q) taken.frame.variables) e.0 e.1 good)
  return-taken form i q places taken given d at good a meets = absurd meets

  -- the arm of the port from which a message came
  record Chosen (arms : List Arm) (from k : ℕ) : Type 0 where
    place : ℕ
    arm : Arm
    there : slice_get arms place ≡ Some arm
    found : option_and_then (place_of_port k from) (ports_at (map (λ (a : Arm). a.port) arms) b) ≡ Some (k + place)

  chosen : (arms : List Arm) (from k : ℕ) (j : Path) (ports : List ℕ) → find (leads_from from b) (map (λ (a : Arm). a.port) arms) ≡ Some j → ports_at (map (λ (a : Arm). a.port) arms) b ≡ Some ports → Chosen arms from k
  chosen [] from k j ports e at = none-not_some e
  chosen (x ∷ arms) from k j ports e at =
      let first = chain-some (λ port. option_map (port ∷◌) (ports_at (map (λ (a : Arm). a.port) arms) b)) (Exchanges.inport_at x.port b) ports at in
      let more = map-some (first.0 ∷◌) (ports_at (map (λ (a : Arm). a.port) arms) b) ports first.2 in
      by first.0 more.0 more.1 more.2 (nat_eq from first.0) refl (leads-cond from first.0 b x.port first.1) e (chosen arms from (suc k) j more.0)
    where
      by : (p : ℕ) (rest : List ℕ) → ports_at (map (λ (a : Arm). a.port) arms) b ≡ Some rest → p ∷ rest ≡ ports → (t : Bool) → nat_eq from p ≡ t → leads_from from b x.port ≡ nat_eq from p
          → cond (leads_from from b x.port) (Some x.port) (find (leads_from from b) (map (λ (a : Arm). a.port) arms)) ≡ Some j
          → (find (leads_from from b) (map (λ (a : Arm). a.port) arms) ≡ Some j → ports_at (map (λ (a : Arm). a.port) arms) b ≡ Some rest → Chosen arms from (suc k)) → Chosen (x ∷ arms) from k
      by p rest there same true is leads e again = record {
        place = 0;
        arm = x;
        there = refl;
        found = ap (option_and_then (place_of_port k from)) at ∙ ap (place_of_port k from) (sym same) ∙ ap (λ t. cond t (Some k) (place_of_port (suc k) from rest)) is ∙ ap (λ n. Some n) (plus-zero k);
      }
        where
          plus-zero : (k : ℕ) → k ≡ k + 0
          plus-zero k = omega arith
      by p rest there same false is leads e again =
          let r = again (sym (ap (λ t. cond t (Some x.port) (find (leads_from from b) (map (λ (a : Arm). a.port) arms))) (leads ∙ is)) ∙ e) there in
          record {
            place = suc r.place;
            arm = r.arm;
            there = r.there;
            found = ap (option_and_then (place_of_port k from)) at ∙ ap (place_of_port k from) (sym same) ∙ ap (λ t. cond t (Some k) (place_of_port (suc k) from rest)) is
                ∙ sym (ap (option_and_then (place_of_port (suc k) from)) there) ∙ r.found ∙ ap (λ n. Some n) (plus-suc k r.place);
          }
        where
          plus-suc : (k n : ℕ) → suc k + n ≡ k + suc n
          plus-suc k n = omega arith

  at-arm : (T : List Outcome) (arms : List Arm) (k n : ℕ) (a : Arm) (m : Cell Name) → slice_get arms n ≡ Some a → IsTrue (has_place b.variables a.target) → IsIn (arm (k + n)) T → IsTaken T (receive_at (map (λ (a : Arm). a.target) arms) k (k + n) m b)
  at-arm T [] k n a m e place h = none-not_some e
  at-arm T (x ∷ arms) k zero a m e place h =
      let same : x ≡ a = some-injective e in
      taken-by T _ (putting x.target (arm (k + 0)) m b) (ap (λ t. cond t (putting x.target (arm (k + 0)) m b) (receive_at (map (λ (a : Arm). a.target) arms) (suc k) (k + 0) m b)) (own k))
      (set-taken T x.target (arm (k + 0)) m b (subst (λ (a : Arm). IsTrue (has_place b.variables a.target)) (sym same) place) h)
    where
      own : (k : ℕ) → nat_eq k (k + 0) ≡ true
      own k = ap (nat_eq k) (plus-zero k) ∙ same-true k
        where
          plus-zero : (k : ℕ) → k + 0 ≡ k
          plus-zero k = omega arith
  at-arm T (x ∷ arms) k (suc n) a m e place h =
      taken-by T _ (receive_at (map (λ (a : Arm). a.target) arms) (suc k) (k + suc n) m b)
      (ap (λ t. cond t (putting x.target (arm (k + suc n)) m b) (receive_at (map (λ (a : Arm). a.target) arms) (suc k) (k + suc n) m b)) (other k n))
      (subst (λ p. IsTaken T (receive_at (map (λ (a : Arm). a.target) arms) (suc k) p m b)) (plus-suc k n) (at-arm T arms (suc k) n a m e place (subst (λ p. IsIn (arm p) T) (sym (plus-suc k n)) h)))
    where
      plus-suc : (k n : ℕ) → suc k + n ≡ k + suc n
      plus-suc k n = omega arith

      other : (k n : ℕ) → nat_eq k (k + suc n) ≡ false
      other k n = by (nat_eq k (k + suc n)) refl
        where
          by : (t : Bool) → nat_eq k (k + suc n) ≡ t → t ≡ false
          by false e = refl
          by true e = absurd (let same = eqb-true k (k + suc n) e in let z : ⊥ = omega (arith, same) in z)

  select-taken : (arms : List Arm) → IsTypedIn exceptions processes c (Select arms) → Found (Select arms) → (from : ℕ) (a : CellAction Name) → Meets a (Select arms) → ((k : ℕ) (m : Cell Name) → a ≡ take k m → (t : ℕ) × (looked_at c (Select arms) b from ≡ Some t))
      → IsTaken (S (Select arms)) (Exchanges.select (map (λ (a : Arm). a.target) arms) (map (λ (a : Arm). a.port) arms) from a b)
  select-taken arms is needed from (take k m) meets looks =
      let t = looks k m refl in
      let ports = select-there exceptions processes c name has b sound arms is needed in
      let j = chain-some (type_at c.types c.variables) (find (leads_from from b) (map (λ (a : Arm). a.port) arms)) t.0 t.1 in
      let x = chosen arms from 0 j.0 ports.0 j.1 ports.1 in
      let m' = got-IsIn arms x.place x.arm x.there in
      let typed = is.typed.1 x.arm m' in
      let rooms = flat_map (λ (a : Arm). room_for c.types c.variables a.target) arms in
      let place = place-of exceptions processes c (Select arms) is has needed b sound (x.arm).target typed.0 typed.2
      (λ f h. in-append_left f rooms (flat_map (λ (a : Arm). present c.types c.variables a.port) arms) (in-flat_map (λ (a : Arm). room_for c.types c.variables a.target) x.arm f arms m' h)) in
      there-taken (S (Select arms)) (λ place. receive_at (map (λ (a : Arm). a.target) arms) 0 place m b) (option_and_then (place_of_port 0 from) (ports_at (map (λ (a : Arm). a.port) arms) b)) (0 + x.place) x.found
      (at-arm (S (Select arms)) arms 0 x.place x.arm m x.there place (in-append_left (arm (0 + x.place)) (arms_from 0 arms) [] (arm-outcome 0 arms x.place x.arm x.there)))
  select-taken arms is needed from a meets looks = absurd meets

  -- each answer to what a form wants is taken, where what is taken comes from a port that it looks at
  pub answer-taken : (form : Form) → IsTypedIn exceptions processes c form → IsTrue (is_action c form) → Found form → (from : ℕ) (a : CellAction Name) → Meets a form → ((k : ℕ) (m : Cell Name) → a ≡ take k m → (t : ℕ) × (looked_at c form b from ≡ Some t))
      → IsTakenAt (S form) form a (settle name c form from a b)
  answer-taken (New x) is acts needed from a meets looks = new-taken x is acts needed a meets
  answer-taken (Create o process) is acts needed from a meets looks = create-taken o process is needed a meets
  answer-taken (Send x o) is acts needed from a meets looks = send-taken x o is needed a meets
  answer-taken (Receive x i) is acts needed from a meets looks = receive-taken x i is needed a meets
  answer-taken (Select arms) is acts needed from a meets looks = select-taken arms is needed from a meets looks
  answer-taken (Call o arguments) is acts needed from a meets looks = call-taken o arguments is needed a meets
  answer-taken (Return []) is acts needed from a meets looks = none-not_some is.typed.1.2.0.0
  answer-taken (Return (i ∷ q)) is acts needed from a meets looks =
      let t = plain-given exceptions processes c name has b sound i q is needed in
      let d = plain-source exceptions processes c name has b sound i q is needed in
      return-taken (Return (i ∷ q)) i q _ t.0 t.1 d.0 d.1 (inl refl) a (meets-return a meets)
    where
      meets-return : (a : CellAction Name) → Meets a (Return (i ∷ q)) → Meets a (Return (i ∷ q))
      meets-return a h = h
  answer-taken (ReturnBy [] e) is acts needed from a meets looks = none-not_some is.typed.1.2.0.0
  answer-taken (ReturnBy (i ∷ q) e) is acts needed from a meets looks =
      let t = raised-given exceptions processes c name has b sound i q e is needed in
      let d = raised-source exceptions processes c name has b sound i q e is needed in
      return-taken (ReturnBy (i ∷ q) e) i q _ t.0 t.1 d.0 d.1 (inl refl) a (meets-by a meets)
    where
      meets-by : (a : CellAction Name) → Meets a (ReturnBy (i ∷ q) e) → Meets a (Return (i ∷ q))
      meets-by (answer k r) h = tt
      meets-by a h = absurd h
  answer-taken form is acts needed from a meets looks = not_true acts

-- the reply to an open call, while the values are sound but for the arguments that it lends
module _ (exceptions : ℕ) (c : Module) (o : Path) (arguments : List Atom) (is : IsCalled exceptions c o arguments) (has : Fact → Bool) (needed : (f : Fact) → IsIn f (needs c.types c.variables (Call o arguments)) → IsTrue (has f)) where
  abbrev k : Calling
  k = record { port = o; arguments = arguments }

  abbrev sets : List Path
  sets = set_by_call c.types c.variables o arguments

  abbrev T : List Outcome
  T = outcomes c.types c.variables (Call o arguments)

  pub raised-outcome : (e : ℕ) → IsIn e (disconnected ∷ map (λ (r : Raised). r.exception) (call_raises c.types c.variables o)) → IsIn (raised e) T
  raised-outcome e h = inr (in-map raised e (rising (disconnected ∷ map (λ (r : Raised). r.exception) (call_raises c.types c.variables o))) (in-rising e (disconnected ∷ map (λ (r : Raised). r.exception) (call_raises c.types c.variables o)) h))

  set-parent : (x : Path) → IsIn x sets → HasParent has x
  set-parent x h =
      let t = call-targets exceptions c o arguments is x h in
      has-parent c has x t.0 t.1 (set-direct exceptions c o arguments is x h)
      (λ f m. let rooms = flat_map (room_for c.types c.variables) sets in
      let there = present c.types c.variables o in
      let fulls = full_of_each c.types c.variables (given c.types c.variables o arguments) in
      needed f (in-closed c.types c.variables (rooms ++ there ++ fulls) f (in-append_left f (rooms ++ there) fulls (in-append_left f rooms there (in-flat_map (room_for c.types c.variables) x f sets h m)))))

  lent-set : (x : Path) → IsIn x (lent_paths c k) → IsIn x sets
  lent-set x h = inout-set c k has x h

  left-set : (e : ℕ) (x : Path) → IsIn x (left_at c o arguments e) → IsIn x sets
  left-set e x h = out-set c k has x (in-filter_from (λ p. not (any_pass (same_path p) (kept_at c o arguments e))) x (arguments_at c is_out o arguments) h).0

  apart-of : (paths : List Path) → ((x : Path) → IsIn x paths → IsIn x sets) → (x : Path) → IsIn x sets → (p : Path) → IsIn p paths → (p ≡ x) ⊎ IsTrue (are_apart p x)
  apart-of paths among x h p m = pairs-apart sets (set-apart exceptions c o arguments is) p x (among p m) h

  pub reply-taken : (call n : ℕ) (r : CellReply Name) (b : Frame Name) → n ≡ call → IsReply c k r → AreSound c (without_lent c k has) b.variables → IsTaken T (settle_reply c (Call o arguments) call (hear n r) b)
  reply-taken call n r b same reply sound =
      taken-by T (settle_reply c (Call o arguments) call (hear n r) b) _ (ap (λ t. cond t (HearReply.hear_reply sets (arguments_at c is_out o arguments) (kept_at c o arguments) (left_at c o arguments) r (record b { call = None })) stuck) (ap (nat_eq n) (sym same) ∙ same-true n)) (by r reply)
    where
      heard : Frame Name
      heard = record b { call = None }

      by : (r : CellReply Name) → IsReply c k r → IsTaken T (HearReply.hear_reply sets (arguments_at c is_out o arguments) (kept_at c o arguments) (left_at c o arguments) r heard)
      by (values cs) reply =
          sets-taken c T sets (returned_types c k) (returned-typed exceptions c o arguments is) (set-apart exceptions c o arguments is) (set-direct exceptions c o arguments is) ok (inl refl) cs reply (without_lent c k has) heard sound
          (λ x h. parent-less has (lent_paths c k) x (apart-of (lent_paths c k) lent-set x h) (set-parent x h))
      by (Actions.raised e cs) reply =
          let left = left_at c o arguments e in
          let kept = kept_by_call c.types c.variables o arguments e in
          let out = all-cleared c left (λ p h. let t = call-targets exceptions c o arguments is p (left-set e p h) in typed-path c p t.0 t.1) (without_lent c k has) heard.variables sound in
          let sound' = subst (AreSound c (less left (without_lent c k has))) (sym (drop-variables left heard)) out in
          sets-taken c T kept (kept_types c k e) (kept-typed exceptions c o arguments is e) (kept-apart exceptions c o arguments is e) (λ x h. set-direct exceptions c o arguments is x (kept-among exceptions c o arguments is e x h)) (raised e)
          (raised-outcome e (inr (in-raises e (call_raises c.types c.variables o) reply.0))) cs reply.1 (less left (without_lent c k has)) (drop left heard) sound'
          (λ x h. let m = kept-among exceptions c o arguments is e x h in
          parent-less (without_lent c k has) left x (apart-of left (left-set e) x m) (parent-less has (lent_paths c k) x (apart-of (lent_paths c k) lent-set x m) (set-parent x m)))
      by gone reply = raised-outcome disconnected (inl refl)

-- so of each form
module _ (exceptions : ℕ) (processes : List Process) (c : Module) where
  looks : (name : Name → Name) (form : Form) (b : Frame Name) (place : ℕ) (a : CellAction Name) → ComesIn name c form b place a → (k : ℕ) (m : Cell Name) → a ≡ take k m → (t : ℕ) × (looked_at c form b place ≡ Some t)
  looks name form b place a comes k m e = let x = subst (ComesIn name c form b place) e comes in (x.0, x.1)

  each-answer : (form : Form) → AnswersGoOn exceptions processes c form
  each-answer form is acts = (
    (λ name has b sound needed. want-there exceptions processes c name has b sound form is acts needed),
    (λ name place action has b sound needed meets comes. answer-taken exceptions processes c name has b sound form is acts needed place action meets (looks name form b place action comes)),
  )

  pub forms-answer : FormsTakeAnswers exceptions processes c
  forms-answer = record {
    new_inport = λ x. each-answer (New x);
    send = λ x o. each-answer (Send x o);
    receive = λ x i. each-answer (Receive x i);
    select = λ arms. each-answer (Select arms);
    call = λ o arguments. each-answer (Call o arguments);
    return = λ m. each-answer (Return m);
    return_by = λ m e. each-answer (ReturnBy m e);
    create = λ o process. each-answer (Create o process);
    replied = λ k is call r has b needed reply sound. reply-taken exceptions c k.port k.arguments (typed-called exceptions processes c k.port k.arguments is) has needed call call r b refl reply sound;
  }
