-- A call does what the form of its statement does, where its arguments are given as the form's.
use Rattle.std.proofs.Common.{◌≡◌, inl, inr, ℕ, zero, suc, List, [], ◌∷◌, ◌++◌, map, flat_map, filter, Bool, true, false, cond, not, Some, option_and_then, nat_eq, refl, sym, ap, ap₂, subst, ◌∙◌}
use Rattle.std.specs.Prelude.{slice_get, IsTrue}
use mathlib.Core.Bool.{false≢true}
use mathlib.Core.Path.{fun_ext}
use Rattle.herm_model.specs.Calls.{call_parameters, kept_for, is_returned, arguments_by, argument_path}
use Rattle.herm_model.specs.Expressions.{Atom, literal, path}
use Rattle.herm_model.specs.Lists.{IsIn, any_pass}
use Rattle.herm_model.specs.Paths.{Path, same_path}
use Rattle.herm_model.specs.Statements.{Form}
use Rattle.herm_model.specs.Types.{Mode, by_in, by_inout, by_out, Parameter, Raised}
use Rattle.herm_model.specs.Values.{Value}
use Rattle.herm_model.proofs.Options.{none-not_some, some-injective}
use Rattle.herm_journal.specs.Messages.{CellAction}
use Rattle.herm_forms.specs.Acts.{is_inout, is_out, inputs_of, kept_at, left_at, composed, settle_reply}
use Rattle.herm_forms.specs.Callmessages as callmessages
use Rattle.herm_forms.specs.Callmessages.{Composed, compose}
use Rattle.herm_forms.specs.Excess.{excess_over_full}
use Rattle.herm_forms.specs.Frames.{Name, Frame}
use Rattle.herm_forms.specs.HearReply
use Rattle.herm_instructions.specs.Instructions.{Argument, of_in, of_inout, of_out, Call}
use Rattle.herm_instructions.specs.Operands.{count_inputs}
use Rattle.herm_code_machine.specs.CodeActions.{mode_of, inouts, outs, returned, path_in, kept_paths, left_paths, composed_of, called, code_hears}
use Rattle.herm_code_machine.specs.ReadyCode.{ReadyCode}
use Rattle.herm_code_machine.specs.Stacks.{Popped, pop, parts_from, leaving, with_popped}
use Rattle.herm_code_machine.specs.laws.InstructionLaws.{IsGivenAs, AreGivenAs, CallsAs, ActsAsCall}
use Rattle.herm_code_machine.proofs.sound.CallArguments.{with_paths, inouts-are, outs-are, returned-are}

modes-given : (ps : List Parameter) (arguments : List Argument) (atoms : List Atom) → AreGivenAs ps arguments atoms → map mode_of arguments ≡ map (λ (p : Parameter). p.mode) ps
modes-given [] [] [] h = refl
modes-given [] [] (t ∷ atoms) h = absurd h
modes-given [] (a ∷ arguments) atoms h = absurd h
modes-given (p ∷ ps) [] atoms h = absurd h
modes-given (p ∷ ps) (a ∷ arguments) [] h = absurd h
modes-given (p ∷ ps) (a ∷ arguments) (t ∷ atoms) h = ap₂ (λ m ms. m ∷ ms) (by p.mode a h.0) (modes-given ps arguments atoms h.1)
  where
    by : (m : Mode) (a : Argument) → IsGivenAs m a t → mode_of a ≡ m
    by by_in of_in h = refl
    by by_in (of_inout q) h = absurd h
    by by_in (of_out q) h = absurd h
    by by_inout of_in h = absurd h
    by by_inout (of_inout q) h = refl
    by by_inout (of_out q) h = absurd h
    by by_out of_in h = absurd h
    by by_out (of_inout q) h = absurd h
    by by_out (of_out q) h = refl

-- the path of an argument in front of others
abbrev front_of : (Mode → Bool) → (rest : List Path) → Mode → Atom → List Path
front_of test rest m (literal l) = rest
front_of test rest m (path q) = cond (test m) (q ∷ rest) rest

-- the paths of the arguments of some modes, of which `in` is none
module _ (test : Mode → Bool) (x y : Bool) (input : test by_in ≡ false) (inout : test by_inout ≡ x) (out : test by_out ≡ y) where
  paths-given : (ps : List Parameter) (arguments : List Argument) (atoms : List Atom) → AreGivenAs ps arguments atoms → with_paths x y arguments ≡ arguments_by test ps atoms
  paths-given [] [] [] h = refl
  paths-given [] [] (t ∷ atoms) h = absurd h
  paths-given [] (a ∷ arguments) atoms h = absurd h
  paths-given (p ∷ ps) [] atoms h = absurd h
  paths-given (p ∷ ps) (a ∷ arguments) [] h = absurd h
  paths-given (p ∷ ps) (a ∷ arguments) (t ∷ atoms) h = by p.mode a t h.0 (paths-given ps arguments atoms h.1) ∙ front-is t
    where
      front-is : (t : Atom) → front_of test (arguments_by test ps atoms) p.mode t ≡ arguments_by test (p ∷ ps) (t ∷ atoms)
      front-is (literal l) = refl
      front-is (path q) = refl

      by : (m : Mode) (a : Argument) (t : Atom) → IsGivenAs m a t → with_paths x y arguments ≡ arguments_by test ps atoms → with_paths x y (a ∷ arguments) ≡ front_of test (arguments_by test ps atoms) m t
      by by_in of_in (literal l) h again = again
      by by_in of_in (path q) h again = again ∙ sym (ap (λ b. cond b (q ∷ arguments_by test ps atoms) (arguments_by test ps atoms)) input)
      by by_in (of_inout q) t h again = absurd h
      by by_in (of_out q) t h again = absurd h
      by by_inout of_in t h again = absurd h
      by by_inout (of_inout q) t h again =
          ap (λ xs. cond x (q ∷ xs) xs) again ∙ ap (λ b. cond b (q ∷ arguments_by test ps atoms) (arguments_by test ps atoms)) (sym inout) ∙ ap (front_of test (arguments_by test ps atoms) by_inout) (sym h)
      by by_inout (of_out q) t h again = absurd h
      by by_out of_in t h again = absurd h
      by by_out (of_inout q) t h again = absurd h
      by by_out (of_out q) t h again =
          ap (λ xs. cond y (q ∷ xs) xs) again ∙ ap (λ b. cond b (q ∷ arguments_by test ps atoms) (arguments_by test ps atoms)) (sym out) ∙ ap (front_of test (arguments_by test ps atoms) by_out) (sym h)

-- the path of an argument whose parameter comes back
kept-path : (ps : List Parameter) (arguments : List Argument) (atoms : List Atom) → AreGivenAs ps arguments atoms → (i : ℕ) (p : Parameter) → slice_get ps i ≡ Some p → IsTrue (is_returned p.mode) → path_in (slice_get arguments i) ≡ argument_path (slice_get atoms i)
kept-path [] arguments atoms h i p at back = none-not_some at
kept-path (q ∷ ps) [] atoms h i p at back = absurd h
kept-path (q ∷ ps) (a ∷ arguments) [] h i p at back = absurd h
kept-path (q ∷ ps) (a ∷ arguments) (t ∷ atoms) h (suc i) p at back = kept-path ps arguments atoms h.1 i p at back
kept-path (q ∷ ps) (a ∷ arguments) (t ∷ atoms) h zero p at back = by q.mode a h.0 (subst (λ (p : Parameter). IsTrue (is_returned p.mode)) (sym (some-injective at)) back)
  where
    by : (m : Mode) (a : Argument) → IsGivenAs m a t → IsTrue (is_returned m) → path_in (Some a) ≡ argument_path (Some t)
    by by_in a h back = absurd (false≢true back)
    by by_inout of_in h back = absurd h
    by by_inout (of_inout r) h back = ap (λ t. argument_path (Some t)) (sym h)
    by by_inout (of_out r) h back = absurd h
    by by_out of_in h back = absurd h
    by by_out (of_inout r) h back = absurd h
    by by_out (of_out r) h back = ap (λ t. argument_path (Some t)) (sym h)

-- what is kept for an exception is kept at some exception of the list
kept-listed : (keeps : List Raised) (e i : ℕ) → IsIn i (kept_for keeps e) → (r : Raised) × IsIn r keeps × IsIn i r.kept
kept-listed [] e i h = absurd h
kept-listed (r ∷ keeps) e i h = by (nat_eq r.exception e) (λ h. kept-listed keeps e i h) h
  where
    by : (t : Bool) → (IsIn i (kept_for keeps e) → (r : Raised) × IsIn r keeps × IsIn i r.kept) → IsIn i (cond t r.kept (kept_for keeps e)) → (s : Raised) × IsIn s (r ∷ keeps) × IsIn i s.kept
    by true again h = (r, inl refl, h)
    by false again h = let x = again h in (x.0, inr x.1, x.2)

module _ (c : ReadyCode) (o : Path) (arguments : List Argument) (keeps : List Raised) (atoms : List Atom) (as_call : CallsAs c o arguments keeps atoms) where
  abbrev ps : List Parameter
  ps = call_parameters c.scope.types c.scope.variables o

  kept-each : (is : List ℕ) → ((i : ℕ) → IsIn i is → (p : Parameter) × (slice_get (ps) i ≡ Some p) × IsTrue (is_returned p.mode))
      → flat_map (λ i. path_in (slice_get arguments i)) is ≡ flat_map (λ i. argument_path (slice_get atoms i)) is
  kept-each [] back = refl
  kept-each (i ∷ is) back =
      let p = back i (inl refl) in
      ap₂ (λ xs ys. xs ++ ys) (kept-path (ps) arguments atoms as_call.given i p.0 p.1 p.2) (kept-each is (λ i h. back i (inr h)))

  kept-by : (e : ℕ) → kept_paths arguments keeps e ≡ kept_at c.scope o atoms e
  kept-by e =
      kept-each (kept_for keeps e) (λ i h. let r = kept-listed keeps e i h in as_call.returned r.0 r.1 i r.2)
      ∙ ap (λ rs. flat_map (λ i. argument_path (slice_get atoms i)) (kept_for rs e)) as_call.declared

  outs-by : outs arguments ≡ arguments_by is_out (ps) atoms
  outs-by = outs-are arguments ∙ paths-given is_out false true refl refl refl (ps) arguments atoms as_call.given

  inouts-by : inouts arguments ≡ arguments_by is_inout (ps) atoms
  inouts-by = inouts-are arguments ∙ paths-given is_inout true false refl refl refl (ps) arguments atoms as_call.given

  returned-by : returned arguments ≡ arguments_by is_returned (ps) atoms
  returned-by = returned-are arguments ∙ paths-given is_returned true true refl refl refl (ps) arguments atoms as_call.given

  left-by : (e : ℕ) → left_paths arguments keeps e ≡ left_at c.scope o atoms e
  left-by e = ap₂ (λ kept xs. filter (λ p. not (any_pass (same_path p) kept)) xs) (kept-by e) (outs-by)

  pub hears-as : (number : ℕ) (a : CellAction Name) (b : Frame Name) → code_hears (Call o arguments keeps) number a b ≡ settle_reply c.scope (Form.Call o atoms) number a b
  hears-as number a b =
      ap (λ back. HearReply.hear_call back (outs arguments) (kept_paths arguments keeps) (left_paths arguments keeps) number a b) (returned-by)
      ∙ ap (λ xs. HearReply.hear_call (arguments_by is_returned (ps) atoms) xs (kept_paths arguments keeps) (left_paths arguments keeps) number a b) (outs-by)
      ∙ ap₂ (λ kept left. HearReply.hear_call (arguments_by is_returned (ps) atoms) (arguments_by is_out (ps) atoms) kept left number a b) (fun_ext kept-by) (fun_ext left-by)

  module _ (name : Name → Name) (statement : ℕ) (b : Frame Name) (values stack rest : List Value) (popped : pop (count_inputs arguments) stack ≡ Some (record { values = values; rest = rest })) (inputs : inputs_of (ps) atoms b.variables ≡ Some (parts_from values)) where
    composed-as : composed_of name c arguments values b ≡ composed name c.scope o atoms b
    composed-as =
        ap₂ (λ modes moved. compose name modes (parts_from values) (flat_map (λ p. excess_over_full c.scope p b) moved) moved b) (modes-given (ps) arguments atoms as_call.given) (inouts-by)
        ∙ sym (ap (option_and_then (λ inputs. compose name (map (λ (p : Parameter). p.mode) (ps)) inputs (flat_map (λ p. excess_over_full c.scope p b) (arguments_by is_inout (ps) atoms)) (arguments_by is_inout (ps) atoms) b)) inputs)

    called-as : called name c arguments stack b ≡ composed name c.scope o atoms b
    called-as = ap (option_and_then (λ (p : Popped). composed_of name c arguments p.values b)) popped ∙ composed-as

    pub acts-as : ActsAsCall name c statement b o arguments keeps atoms stack rest
    acts-as = record {
      wanted = ap (λ m. callmessages.call_wants m o b) (called-as);
      answers = λ at a. ap (with_popped (λ (p : Popped). leaving p.rest (callmessages.call (composed_of name c arguments p.values b) (outs arguments) a))) popped
          ∙ ap₂ (λ m xs. leaving rest (callmessages.call m xs a)) (composed-as) (outs-by);
    }
