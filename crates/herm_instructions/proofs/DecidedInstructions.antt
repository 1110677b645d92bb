-- The tests of single instructions decide what they find and keep.
use Rattle.std.proofs.Common.{◌≡◌, ◌↔◌, ℕ, List, [], ◌∷◌, ◌++◌, map, length, Bool, true, false, not, cond, ◌&&◌, nat_eq, nat_lt, Option, Some, None, slice_get, IsTrue, refl, sym, ap, ap₂, subst}
use Rattle.std.proofs.lemmas.Bool.{eq-eqb}
use Rattle.herm_model.specs.Lists.{IsIn, any_pass, map_or, list_of}
use Rattle.herm_model.specs.Paths.{Path, Fact, are_apart, same_path}
use Rattle.herm_model.specs.Types.{Mode, by_in, by_inout, by_out, Parameter, Raised, Shape, names, rows, inport, outport, callmessage, TypeTable, greatest_depth, type_at, passes_component}
use Rattle.herm_model.specs.Copyable.{IsCopyable, is_copyable_within}
use Rattle.herm_model.specs.Expressions.{Literal}
use Rattle.herm_model.specs.Statements.{Form, Process}
use Rattle.herm_model.specs.Calls.{shape_at, raises_of, call_raises, kept_for}
use Rattle.herm_model.specs.FactsOfStatements.{set_by_call, sent_to}
use Rattle.herm_model.specs.Finalising.{keeps, excess_at}
use Rattle.herm_model.specs.TypedExpressions.{takes, passes_out, HasShape, IsLiteralOf}
use Rattle.herm_model.specs.TypedStatements.{AreApart, IsLookedAt, IsTarget, IsTableOf, GoesTo, IsTypedForm}
use Rattle.herm_model.specs.tests.TableTests.{are_different, on_rows, on_inport, on_outport, on_callmessage}
use Rattle.herm_model.specs.tests.TypingTests.{is_number, on_names, are_all_apart, is_typed_form}
use Rattle.herm_model.proofs.Lists.{not_true, cons-not_nil, cons-head, cons-tail}
use Rattle.herm_model.proofs.Deciding.{Decides, through, both-decide, true-decides, false-decides, not-decides, false-is, numbers-decide, below-decides, paths-decide, there-decides, all-decide, some-decides, chosen-decides, member-decides, different-decides, itself}
use Rattle.herm_model.proofs.DecidedTables.{rows-decide, inport-decides, outport-decides, callmessage-decides, copyable-decides}
use Rattle.herm_model.proofs.DecidedForms.{IsRegular, number-is, form-decides}
use Rattle.herm_instructions.specs.Instructions.{Argument, of_in, of_inout, of_out, Instruction, Const, Load, Size, Combine, Store, New, Wrap, Remove, Get, LoopStart, LoopNext, LoopDrop, Send, Select, Call, ReturnBy, EndBy}
use Rattle.herm_instructions.specs.Labels.{Slot}
use Rattle.herm_instructions.specs.Operands.{type_of_literal, Begins, operands, FindsOnStack}
use Rattle.herm_instructions.specs.Effects.{atom_of, form_of}
use Rattle.herm_instructions.specs.TypedInstructions.{is_some_choice, IsArgumentOf, AreArgumentsOf, IsTypedByForm, IsTypedInstruction}
use Rattle.herm_instructions.specs.GoodCode.{HasLandings, FindsSlots, TrimsExcess, KeepsAsDeclared}
use Rattle.herm_instructions.specs.tests.InstructionTests.{same_list, same_raised, same_slot, are_among, begins_with, has_two, has_landings, slot_numbers, is_constant, at_seen, at_own, at_table, is_argument_of, are_arguments_of, at_callmessage, finds_on_stack, finds_slots, trims_excess, keeps_as_declared, is_typed_by_form, is_typed_instruction}

module _ {X : Type 0} (same : X → X → Bool) (equal : (x y : X) → Decides (same x y) (x ≡ y)) where
  pub lists-decide : (xs ys : List X) → Decides (same_list same xs ys) (xs ≡ ys)
  lists-decide [] [] = true-decides refl
  lists-decide [] (y ∷ ys) = false-decides (λ e. cons-not_nil y ys (sym e))
  lists-decide (x ∷ xs) [] = false-decides (λ e. cons-not_nil x xs e)
  lists-decide (x ∷ xs) (y ∷ ys) = through _ (λ h. ap₂ ◌∷◌ h.0 h.1) (λ e. (cons-head e, cons-tail e)) (both-decide (same x y) _ (equal x y) (lists-decide xs ys))

  pub among-decides : (xs ys : List X) → Decides (are_among same xs ys) ((x : X) → IsIn x xs → IsIn x ys)
  among-decides xs ys = all-decide (λ x. any_pass (same x) ys) (λ x. IsIn x ys) (λ x. member-decides same equal x ys) xs

  pub same_members-decide : (xs ys : List X) → Decides (are_among same xs ys && are_among same ys xs) ((x : X) → IsIn x xs ↔ IsIn x ys)
  same_members-decide xs ys = through _ (λ h x. (h.0 x, h.1 x)) (λ h. ((λ x. (h x).0), (λ x. (h x).1))) (both-decide (are_among same xs ys) _ (among-decides xs ys) (among-decides ys xs))

raised-decides : (r s : Raised) → Decides (same_raised r s) (r ≡ s)
raised-decides r s = through _ (λ h. to h.0 h.1) (λ e. (ap (λ (t : Raised). t.exception) e, ap (λ (t : Raised). t.kept) e)) (both-decide (nat_eq r.exception s.exception) _ (numbers-decide r.exception s.exception) (paths-decide r.kept s.kept))
  where
    to : r.exception ≡ s.exception → r.kept ≡ s.kept → r ≡ s
    to e k = ap₂ (λ (n : ℕ) (ns : List ℕ). let t : Raised = record { exception = n; kept = ns } in t) e k

pub slot-decides : (s t : Slot) → Decides (same_slot s t) (s ≡ t)
slot-decides s t = through _ (λ h. to h.0 h.1) (λ e. (ap (λ (u : Slot). u.number) e, ap (λ (u : Slot). u.row) e)) (both-decide (nat_eq s.number t.number) _ (numbers-decide s.number t.number) (numbers-decide s.row t.row))
  where
    to : s.number ≡ t.number → s.row ≡ t.row → s ≡ t
    to e k = ap₂ (λ (n r : ℕ). let u : Slot = record { number = n; row = r } in u) e k

begins-decides : (list beginning : List ℕ) → Decides (begins_with list beginning) (Begins list beginning)
begins-decides [] [] = true-decides ([], refl)
begins-decides (y ∷ list) [] = true-decides (y ∷ list, refl)
begins-decides [] (x ∷ xs) = false-decides (λ h. cons-not_nil x (xs ++ h.0) (sym h.1))
begins-decides (y ∷ list) (x ∷ xs) = through _ (λ h. ((h.1).0, ap₂ ◌∷◌ h.0 (h.1).1)) (λ h. (cons-head h.1, (h.0, cons-tail h.1))) (both-decide (nat_eq y x) _ (numbers-decide y x) (begins-decides list xs))

module _ (test : ℕ → Bool) (P : ℕ → Type 0) (each : (t : ℕ) → Decides (test t) (P t)) where
  two-decide : (stack : List ℕ) → Decides (has_two test stack) ((t : ℕ) × Begins stack (t ∷ t ∷ []) × P t)
  two-decide [] = false-decides (λ h. cons-not_nil h.0 (h.0 ∷ h.1.0) (sym h.1.1))
  two-decide (t ∷ []) = false-decides (λ h. cons-not_nil h.0 h.1.0 (sym (cons-tail h.1.1)))
  two-decide (t ∷ u ∷ stack) = through _ (λ h. to h.0 h.1) (λ h. from h.0 h.1.0 h.1.1 h.2) (both-decide (nat_eq t u) (test t) (numbers-decide t u) (each t))
    where
      to : t ≡ u → P t → (v : ℕ) × Begins (t ∷ u ∷ stack) (v ∷ v ∷ []) × P v
      to e p = (t, (stack, ap (λ w. t ∷ w ∷ stack) (sym e)), p)

      from : (v : ℕ) (rest : List ℕ) → t ∷ u ∷ stack ≡ v ∷ v ∷ rest → P v → (t ≡ u) × P t
      from v rest e p = (cc e, subst P (let k : v ≡ t = cc e in k) p)

pub landings-decide : (raised landed : List ℕ) → Decides (has_landings raised landed) (HasLandings raised landed)
landings-decide raised landed = both-decide (are_different nat_eq landed) _ (different-decides nat_eq numbers-decide landed) (same_members-decide nat_eq numbers-decide landed raised)

number-if : (b : Bool) (t : ℕ) → Decides (is_number (cond b (Some t) None) t) (IsTrue b)
number-if true t = ((λ h. refl), λ h. eq-eqb t t refl)
number-if false t = false-decides (λ h. not_true h)

names-decide : (place : ℕ) (o : Option Shape) → Decides (on_names (nat_lt place) o) ((count : ℕ) × (o ≡ Some (names count)) × IsTrue (nat_lt place count))
names-decide place (Some (names n)) = ((λ h. (n, refl, h)), λ h. subst (λ m. IsTrue (nat_lt place m)) (let e : h.0 ≡ n = cc h.1 in e) h.2)
names-decide place o = false-decides (λ h. let k : ⊥ = cc h.1 in k)

apart-decide : (xs : List Path) → Decides (are_all_apart xs) (AreApart xs)
apart-decide [] = true-decides tt
apart-decide (x ∷ xs) = both-decide _ _ (all-decide (are_apart x) (λ y. IsTrue (are_apart x y)) (λ y. itself (are_apart x y)) xs) (apart-decide xs)

module _ (table : TypeTable) (regular : IsRegular table) where
  pub constant-decides : (l : Literal) → Decides (is_constant table l) (IsLiteralOf table l (type_of_literal l))
  constant-decides (Literal.boolean b) = true-decides regular.has_boolean
  constant-decides (Literal.integer z) = through _ (λ h. (regular.has_integer, h)) (λ h. h.1) (number-if _ 1)
  constant-decides (Literal.text bytes) = through _ (λ h. (regular.has_text, h)) (λ h. h.1) (number-if _ 2)
  constant-decides (Literal.tag type place) = through _ (λ h. let r = named.0 h in (refl, r.0, r.1, r.2)) (λ h. named.1 (h.1, h.2, h.3)) (number-if _ type)
    where
      named : Decides (on_names (nat_lt place) (slice_get table type)) ((count : ℕ) × (slice_get table type ≡ Some (names count)) × IsTrue (nat_lt place count))
      named = names-decide place (slice_get table type)

  module _ (variables : List ℕ) where
    module _ (test : ℕ → Bool) (P : ℕ → Type 0) (each : (t : ℕ) → Decides (test t) (P t)) where
      seen-decides : (p : Path) → Decides (at_seen table variables p test) ((t : ℕ) × IsLookedAt table variables p t × P t)
      seen-decides p =
          through _ (λ h. (h.1.0, (h.1.1, h.0), h.1.2)) (λ h. (h.1.1, (h.0, h.1.0, h.2)))
          (both-decide (not (passes_out table variables p)) _ (false-is (passes_out table variables p)) (chosen-decides test P each (type_at table variables p)))

      own-decides : (p : Path) → Decides (at_own table variables p test) ((t : ℕ) × IsTarget table variables p t × P t)
      own-decides p =
          through _ (λ h. (h.1.0, (h.1.1, h.0), h.1.2)) (λ h. (h.1.1, (h.0, h.1.0, h.2)))
          (both-decide (not (passes_component table variables p)) _ (false-is (passes_component table variables p)) (seen-decides p))

    own_number-decides : (p : Path) (t : ℕ) → Decides (at_own table variables p (nat_eq t)) (IsTarget table variables p t)
    own_number-decides p t = through _ (λ h. subst (IsTarget table variables p) (sym h.2) h.1) (λ h. (t, h, refl)) (own-decides (nat_eq t) (λ u. t ≡ u) (numbers-decide t) p)

    copyable : (t : ℕ) → Decides (is_copyable_within greatest_depth table t) (IsCopyable table t)
    copyable = copyable-decides table regular.deep

    module _ (test : ℕ → List ℕ → Bool) (P : ℕ → List ℕ → Type 0) (each : (row : ℕ) (key : List ℕ) → Decides (test row key) (P row key)) where
      table-decides : (p : Path) → Decides (at_table table variables p test) ((row : ℕ) × (key : List ℕ) × IsTableOf table variables p row key × P row key)
      table-decides p =
          through _ (λ h. (h.2.0, h.2.1, (h.0, h.1, h.2.2), h.2.3)) (λ h. (h.2.0, h.2.1, (h.0, h.1, h.2.2, h.3)))
          (seen-decides (λ t. on_rows test (slice_get table t)) (λ t. (row : ℕ) × (key : List ℕ) × HasShape table t (rows row key) × P row key) (λ t. rows-decide test P each (slice_get table t)) p)

    module _ (test : List Parameter → List Raised → Bool) (P : List Parameter → List Raised → Type 0) (each : (ps : List Parameter) (rs : List Raised) → Decides (test ps rs) (P ps rs)) where
      message-decides : (message : ℕ) → Decides (on_callmessage test (slice_get table message)) ((ps : List Parameter) × (rs : List Raised) × HasShape table message (callmessage ps rs) × P ps rs)
      message-decides message = callmessage-decides test P each (slice_get table message)

      port-decides : (port : ℕ) → Decides (on_inport (λ message declared. on_callmessage test (slice_get table message)) (slice_get table port)) ((message : ℕ) × (declared : List Fact) × HasShape table port (inport message declared) × ((ps : List Parameter) × (rs : List Raised) × HasShape table message (callmessage ps rs) × P ps rs))
      port-decides port = inport-decides (λ message declared. on_callmessage test (slice_get table message)) (λ message declared. (ps : List Parameter) × (rs : List Raised) × HasShape table message (callmessage ps rs) × P ps rs) (λ message declared. message-decides message) (slice_get table port)

      at_callmessage-decides : (o : Path) → Decides (at_callmessage table variables o test) ((message : ℕ) × (ps : List Parameter) × (rs : List Raised) × GoesTo table variables o message × HasShape table message (callmessage ps rs) × P ps rs)
      at_callmessage-decides o =
          through _ (λ h. (h.2.2.0, h.2.2.3.0, h.2.2.3.1, (h.0, h.2.0, h.2.2.1, h.1, h.2.1, h.2.2.2), h.2.2.3.2, h.2.2.3.3))
          (λ k. (k.3.0, k.3.3, (k.3.1, k.3.4, (k.0, k.3.2, k.3.5, (k.1, k.2, k.4, k.5)))))
          (seen-decides (λ t. on_outport (λ port. on_inport (λ message declared. on_callmessage test (slice_get table message)) (slice_get table port)) (slice_get table t))
          (λ t. (port : ℕ) × HasShape table t (outport port) × ((message : ℕ) × (declared : List Fact) × HasShape table port (inport message declared) × ((ps : List Parameter) × (rs : List Raised) × HasShape table message (callmessage ps rs) × P ps rs)))
          (λ t. outport-decides (λ port. on_inport (λ message declared. on_callmessage test (slice_get table message)) (slice_get table port)) (λ port. (message : ℕ) × (declared : List Fact) × HasShape table port (inport message declared) × ((ps : List Parameter) × (rs : List Raised) × HasShape table message (callmessage ps rs) × P ps rs)) port-decides (slice_get table t)) o)

    argument-decides : (m : Mode) (a : Argument) (t : ℕ) → Decides (is_argument_of table variables m a t) (IsArgumentOf table variables m a t)
    argument-decides by_in of_in t = true-decides tt
    argument-decides by_inout (of_inout p) t = own_number-decides p t
    argument-decides by_out (of_out p) t = own_number-decides p t
    argument-decides m a t = false-decides (λ h. h)

    arguments-decide : (ps : List Parameter) (arguments : List Argument) → Decides (are_arguments_of table variables ps arguments) (AreArgumentsOf table variables ps arguments)
    arguments-decide [] [] = true-decides tt
    arguments-decide [] (a ∷ arguments) = false-decides (λ h. h)
    arguments-decide (p ∷ ps) [] = false-decides (λ h. h)
    arguments-decide (p ∷ ps) (a ∷ arguments) = both-decide (is_argument_of table variables p.mode a p.content) _ (argument-decides p.mode a p.content) (arguments-decide ps arguments)

    pub stack-decides : (constants : List Literal) (i : Instruction) (stack : List ℕ) → Decides (finds_on_stack table variables constants i stack) (FindsOnStack table constants variables i stack)
    stack-decides constants (Combine o) stack =
        through _ (λ h. (h.0, h.2.0, h.2.1, h.2.2, h.1)) (λ h. (h.0, h.4, (h.1, h.2, h.3)))
        (two-decide (λ t. map_or false (takes o) (slice_get table t)) (λ t. (s : Shape) × HasShape table t s × IsTrue (takes o s)) (λ t. chosen-decides (takes o) (λ s. IsTrue (takes o s)) (λ s. itself (takes o s)) (slice_get table t)) stack)
    stack-decides constants i stack = begins-decides stack (operands table constants variables i)

    pub slots-decide : (i : Instruction) (slots : List Slot) → Decides (finds_slots table variables i slots) (FindsSlots table variables i slots)
    slots-decide (LoopStart t s) slots = not-decides (any_pass (nat_eq s) (slot_numbers slots)) (member-decides nat_eq numbers-decide s (slot_numbers slots))
    slots-decide (LoopNext r s index) slots =
        through _ (λ h. (h.0, h.1, h.2.0, h.2.1)) (λ h. (h.0, h.1, (h.2, h.3)))
        (some-decides (λ (slot : Slot). nat_eq slot.number s && at_own table variables r (nat_eq slot.row)) (λ (slot : Slot). (slot.number ≡ s) × IsTarget table variables r slot.row)
        (λ (slot : Slot). both-decide (nat_eq slot.number s) _ (numbers-decide slot.number s) (own_number-decides r slot.row)) slots)
    slots-decide (LoopDrop s) slots = member-decides nat_eq numbers-decide s (slot_numbers slots)
    slots-decide i slots = true-decides tt

    pub trims-decides : (i : Instruction) (facts : List Fact) → Decides (trims_excess table variables i facts) (TrimsExcess table variables i facts)
    trims-decides (Send x o trim) facts = lists-decide same_path paths-decide trim (list_of (λ t. excess_at table (keeps facts) (keeps (sent_to table variables o x)) x t) (type_at table variables x))
    trims-decides i facts = true-decides tt

    pub keeps-decides : (i : Instruction) → Decides (keeps_as_declared table variables i) (KeepsAsDeclared table variables i)
    keeps-decides (Call o arguments listed) = lists-decide same_raised raised-decides listed (call_raises table variables o)
    keeps-decides (ReturnBy m e kept) = paths-decide kept (kept_for (list_of raises_of (shape_at table variables m)) e)
    keeps-decides i = true-decides tt

    module _ (exceptions : ℕ) (constants : List Literal) (processes : List Process) where
      typed : (form : Form) → Decides (is_typed_form table variables exceptions processes form) (IsTypedForm table variables exceptions processes form)
      typed form = form-decides table regular variables exceptions processes form

      by_form-decides : (o : Option Form) → Decides (is_typed_by_form table variables exceptions constants processes o) (IsTypedByForm table variables exceptions constants processes o)
      by_form-decides None = true-decides tt
      by_form-decides (Some form) = typed form

      pub instruction-decides : (i : Instruction) → Decides (is_typed_instruction table variables exceptions constants processes i) (IsTypedInstruction table variables exceptions constants processes i)
      instruction-decides (Const k) = there-decides (slice_get constants k)
      instruction-decides (Load p) = seen-decides (is_copyable_within greatest_depth table) (IsCopyable table) copyable p
      instruction-decides (Size p) = through _ (λ h. (h.0, h.1, h.2)) (λ h. (h.0, h.1, h.2, tt)) (table-decides (λ row key. true) (λ row key. Unit {0}) (λ row key. true-decides tt) p)
      instruction-decides (Store x) = through _ (λ h. (h.0, h.1)) (λ h. (h.0, h.1, tt)) (own-decides (λ t. true) (λ t. Unit {0}) (λ t. true-decides tt) x)
      instruction-decides (New x t) = both-decide _ _ (typed (Form.New x)) (number-is (type_at table variables x) t)
      instruction-decides (Wrap y t p) = both-decide _ _ (typed (Form.Wrap y p)) (number-is (type_at table variables y) t)
      instruction-decides (Remove r t n) =
          through _ (λ h. (h.0, h.1, h.2, h.3.0, h.3.1)) (λ h. (h.0, h.1, h.2, (h.3, h.4)))
          (table-decides (λ row key. at_own table variables r (nat_eq row) && nat_eq n (length key)) (λ row key. IsTarget table variables r row × (n ≡ length key)) (λ row key. both-decide (at_own table variables r (nat_eq row)) _ (own_number-decides r row) (numbers-decide n (length key))) t)
      instruction-decides (Get r t n) =
          through _ (λ h. (h.0, h.1, h.2, h.3.0, h.3.1.0, h.3.1.1)) (λ h. (h.0, h.1, h.2, (h.3, (h.4, h.5))))
          (table-decides (λ row key. at_own table variables r (nat_eq row) && (nat_eq n (length key) && is_copyable_within greatest_depth table row)) (λ row key. IsTarget table variables r row × ((n ≡ length key) × IsCopyable table row))
          (λ row key. both-decide (at_own table variables r (nat_eq row)) _ (own_number-decides r row) (both-decide (nat_eq n (length key)) _ (numbers-decide n (length key)) (copyable row))) t)
      instruction-decides (LoopStart t s) = table-decides (λ row key. is_copyable_within greatest_depth table row) (λ row key. IsCopyable table row) (λ row key. copyable row) t
      instruction-decides (Select choices) = both-decide _ _ (by_form-decides (form_of (Select choices))) (itself (is_some_choice choices))
      instruction-decides (Call o arguments listed) =
          through _ (λ h. (h.0.0, h.0.1, h.0.2, h.0.3, h.0.4, h.0.5, h.1)) (λ h. ((h.0, h.1, h.2, h.3, h.4, h.5), h.6))
          (both-decide _ (are_all_apart (set_by_call table variables o (map atom_of arguments)))
          (at_callmessage-decides (λ ps rs. are_arguments_of table variables ps arguments) (λ ps rs. AreArgumentsOf table variables ps arguments) (λ ps rs. arguments-decide ps arguments) o)
          (apart-decide (set_by_call table variables o (map atom_of arguments))))
      instruction-decides (EndBy e) = below-decides e exceptions
      instruction-decides i = by_form-decides (form_of i)
