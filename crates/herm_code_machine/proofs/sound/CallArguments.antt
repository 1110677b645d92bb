-- The arguments of a call instruction are those of the call statement that it does, but for the values on the stack.
use Rattle.std.proofs.Common.{◌≡◌, ℕ, suc, List, [], ◌∷◌, ◌++◌, map, flat_map, filter, length, Bool, true, false, cond, not, Option, Some, None, option_map, refl, sym, ap, ap₂, ◌∙◌}
use Rattle.std.specs.Prelude.{slice_get, ⊤}
use mathlib.Core.Path.{fun_ext}
use Rattle.herm_model.specs.Lists.{any_pass}
use Rattle.herm_model.specs.Paths.{Path, same_path}
use Rattle.herm_model.specs.Types.{TypeTable, Mode, by_in, by_inout, by_out, Parameter, Raised}
use Rattle.herm_model.specs.Calls.{call_parameters, call_raises, kept_for, is_returned, arguments_by, argument_path}
use Rattle.herm_model.specs.FactsOfStatements.{set_by_call, kept_by_call}
use Rattle.herm_model.specs.Statements.{Form}
use Rattle.herm_model.specs.Values.{Value}
use Rattle.herm_model.specs.Typed.{IsFull}
use Rattle.herm_model.proofs.Lists.{slice_get-map}
use Rattle.herm_journal.specs.Messages.{CellAction, AreFull}
use Rattle.herm_forms.specs.Acts.{is_inout, is_out, settle_reply}
use Rattle.herm_forms.specs.HearReply
use Rattle.herm_forms.specs.Frames.{Name, Frame}
use Rattle.herm_forms.specs.Modules.{Module}
use Rattle.herm_forms.proofs.called.GivenInputs.{modes_of, InputIs, InputsAre}
use Rattle.herm_forms.proofs.called.SetArguments.{IsSet, AreSet}
use Rattle.herm_instructions.specs.Instructions.{Argument, of_in, of_inout, of_out, Call}
use Rattle.herm_instructions.specs.Effects.{atom_of}
use Rattle.herm_instructions.specs.Operands.{if_in, input_types, count_inputs}
use Rattle.herm_instructions.specs.TypedInstructions.{IsArgumentOf, AreArgumentsOf}
use Rattle.herm_code_machine.specs.Stacks.{parts_from}
use Rattle.herm_code_machine.specs.CodeActions.{mode_of, inouts, outs, returned, path_in, kept_paths, left_paths, code_hears}

-- the paths of arguments whose parameters have such modes
abbrev pub with_paths : (inout out : Bool) → List Argument → List Path
with_paths a b [] = []
with_paths a b (of_in ∷ arguments) = with_paths a b arguments
with_paths a b (of_inout p ∷ arguments) = cond a (p ∷ with_paths a b arguments) (with_paths a b arguments)
with_paths a b (of_out p ∷ arguments) = cond b (p ∷ with_paths a b arguments) (with_paths a b arguments)

pub inouts-are : (arguments : List Argument) → inouts arguments ≡ with_paths true false arguments
inouts-are [] = refl
inouts-are (of_in ∷ arguments) = inouts-are arguments
inouts-are (of_inout p ∷ arguments) = ap (p ∷◌) (inouts-are arguments)
inouts-are (of_out p ∷ arguments) = inouts-are arguments

pub outs-are : (arguments : List Argument) → outs arguments ≡ with_paths false true arguments
outs-are [] = refl
outs-are (of_in ∷ arguments) = outs-are arguments
outs-are (of_inout p ∷ arguments) = outs-are arguments
outs-are (of_out p ∷ arguments) = ap (p ∷◌) (outs-are arguments)

pub returned-are : (arguments : List Argument) → returned arguments ≡ with_paths true true arguments
returned-are [] = refl
returned-are (of_in ∷ arguments) = returned-are arguments
returned-are (of_inout p ∷ arguments) = ap (p ∷◌) (returned-are arguments)
returned-are (of_out p ∷ arguments) = ap (p ∷◌) (returned-are arguments)

module _ (table : TypeTable) (variables : List ℕ) where
  one-set : (m : Mode) (a : Argument) (t : ℕ) → IsArgumentOf table variables m a t → IsSet table variables m (atom_of a) t
  one-set by_in a t h = tt
  one-set by_inout of_in t h = absurd h
  one-set by_inout (of_inout p) t h = h
  one-set by_inout (of_out p) t h = absurd h
  one-set by_out of_in t h = absurd h
  one-set by_out (of_inout p) t h = absurd h
  one-set by_out (of_out p) t h = h

  pub arguments-set : (ps : List Parameter) (arguments : List Argument) → AreArgumentsOf table variables ps arguments → AreSet table variables ps (map atom_of arguments)
  arguments-set [] [] h = tt
  arguments-set [] (a ∷ arguments) h = absurd h
  arguments-set (p ∷ ps) [] h = absurd h
  arguments-set (p ∷ ps) (a ∷ arguments) h = (one-set p.mode a p.content h.0, arguments-set ps arguments h.1)

  one-mode : (m : Mode) (a : Argument) (t : ℕ) → IsArgumentOf table variables m a t → mode_of a ≡ m
  one-mode by_in of_in t h = refl
  one-mode by_in (of_inout p) t h = absurd h
  one-mode by_in (of_out p) t h = absurd h
  one-mode by_inout of_in t h = absurd h
  one-mode by_inout (of_inout p) t h = refl
  one-mode by_inout (of_out p) t h = absurd h
  one-mode by_out of_in t h = absurd h
  one-mode by_out (of_inout p) t h = absurd h
  one-mode by_out (of_out p) t h = refl

  pub modes-same : (ps : List Parameter) (arguments : List Argument) → AreArgumentsOf table variables ps arguments → map mode_of arguments ≡ modes_of ps
  modes-same [] [] h = refl
  modes-same [] (a ∷ arguments) h = absurd h
  modes-same (p ∷ ps) [] h = absurd h
  modes-same (p ∷ ps) (a ∷ arguments) h = ap₂ (λ m ms. m ∷ ms) (one-mode p.mode a p.content h.0) (modes-same ps arguments h.1)

  module _ (test : Mode → Bool) (a b : Bool) (inout : test by_inout ≡ a) (out : test by_out ≡ b) where
    paths-same : (ps : List Parameter) (arguments : List Argument) → AreArgumentsOf table variables ps arguments → with_paths a b arguments ≡ arguments_by test ps (map atom_of arguments)
    paths-same [] [] h = refl
    paths-same [] (x ∷ arguments) h = absurd h
    paths-same (p ∷ ps) [] h = absurd h
    paths-same (p ∷ ps) (of_in ∷ arguments) h = paths-same ps arguments h.1
    paths-same (p ∷ ps) (of_inout q ∷ arguments) h = by p.mode h.0 (paths-same ps arguments h.1)
      where
        rest : List Path
        rest = arguments_by test ps (map atom_of arguments)

        by : (m : Mode) → IsArgumentOf table variables m (of_inout q) p.content → with_paths a b arguments ≡ rest → cond a (q ∷ with_paths a b arguments) (with_paths a b arguments) ≡ cond (test m) (q ∷ rest) rest
        by by_in h again = absurd h
        by by_inout h again = ap (λ ps. cond a (q ∷ ps) ps) again ∙ ap (λ t. cond t (q ∷ rest) rest) (sym inout)
        by by_out h again = absurd h
    paths-same (p ∷ ps) (of_out q ∷ arguments) h = by p.mode h.0 (paths-same ps arguments h.1)
      where
        rest : List Path
        rest = arguments_by test ps (map atom_of arguments)

        by : (m : Mode) → IsArgumentOf table variables m (of_out q) p.content → with_paths a b arguments ≡ rest → cond b (q ∷ with_paths a b arguments) (with_paths a b arguments) ≡ cond (test m) (q ∷ rest) rest
        by by_in h again = absurd h
        by by_inout h again = absurd h
        by by_out h again = ap (λ ps. cond b (q ∷ ps) ps) again ∙ ap (λ t. cond t (q ∷ rest) rest) (sym out)

  pub inouts-same : (ps : List Parameter) (arguments : List Argument) → AreArgumentsOf table variables ps arguments → inouts arguments ≡ arguments_by is_inout ps (map atom_of arguments)
  inouts-same ps arguments h = inouts-are arguments ∙ paths-same is_inout true false refl refl ps arguments h

  pub outs-same : (ps : List Parameter) (arguments : List Argument) → AreArgumentsOf table variables ps arguments → outs arguments ≡ arguments_by is_out ps (map atom_of arguments)
  outs-same ps arguments h = outs-are arguments ∙ paths-same is_out false true refl refl ps arguments h

  pub returned-same : (ps : List Parameter) (arguments : List Argument) → AreArgumentsOf table variables ps arguments → returned arguments ≡ arguments_by is_returned ps (map atom_of arguments)
  returned-same ps arguments h = returned-are arguments ∙ paths-same is_returned true true refl refl ps arguments h

  -- as many values on the stack as there are parameters of mode in
  pub inputs-many : (ps : List Parameter) (arguments : List Argument) → AreArgumentsOf table variables ps arguments → count_inputs arguments ≡ length (input_types ps)
  inputs-many [] [] h = refl
  inputs-many [] (a ∷ arguments) h = absurd h
  inputs-many (p ∷ ps) [] h = absurd h
  inputs-many (p ∷ ps) (a ∷ arguments) h = by p.mode a h.0 (inputs-many ps arguments h.1)
    where
      by : (m : Mode) (a : Argument) → IsArgumentOf table variables m a p.content → count_inputs arguments ≡ length (input_types ps) → count_inputs (a ∷ arguments) ≡ length (if_in m p.content (input_types ps))
      by by_in of_in h again = ap suc again
      by by_in (of_inout q) h again = absurd h
      by by_in (of_out q) h again = absurd h
      by by_inout of_in h again = absurd h
      by by_inout (of_inout q) h again = again
      by by_inout (of_out q) h again = absurd h
      by by_out of_in h again = absurd h
      by by_out (of_inout q) h again = absurd h
      by by_out (of_out q) h again = again

-- values by a list of types are inputs
module _ (P : ℕ → Value → Type 0) where
  abbrev pub AllAt : List ℕ → List Value → Type 0
  AllAt [] [] = ⊤
  AllAt [] (v ∷ values) = ⊥
  AllAt (t ∷ ts) [] = ⊥
  AllAt (t ∷ ts) (v ∷ values) = P t v × AllAt ts values

  pub values-are : (ps : List Parameter) (values : List Value) → AllAt (input_types ps) values → InputsAre P ps (parts_from values)
  values-are [] [] h = tt
  values-are [] (v ∷ values) h = absurd h
  values-are (p ∷ ps) values h = by p.mode values h (values-are ps)
    where
      by : (m : Mode) (values : List Value) → AllAt (if_in m p.content (input_types ps)) values → ((values : List Value) → AllAt (input_types ps) values → InputsAre P ps (parts_from values)) → InputIs P m p.content (parts_from values) (InputsAre P ps)
      by by_in [] h again = absurd h
      by by_in (v ∷ values) h again = (h.0, again values h.1)
      by by_inout values h again = again values h
      by by_out values h again = again values h

pub full-at : (types : TypeTable) (ts : List ℕ) (values : List Value) → AreFull types ts values → AllAt (IsFull types) ts values
full-at types [] [] h = tt
full-at types [] (v ∷ values) h = absurd h
full-at types (t ∷ ts) [] h = absurd h
full-at types (t ∷ ts) (v ∷ values) h = (h.0, full-at types ts values h.1)

-- what is kept and what is left
path-same : (o : Option Argument) → path_in o ≡ argument_path (option_map atom_of o)
path-same None = refl
path-same (Some of_in) = refl
path-same (Some (of_inout p)) = refl
path-same (Some (of_out p)) = refl

pub kept-same : (arguments : List Argument) (is : List ℕ) → flat_map (λ i. path_in (slice_get arguments i)) is ≡ flat_map (λ i. argument_path (slice_get (map atom_of arguments) i)) is
kept-same arguments [] = refl
kept-same arguments (i ∷ is) = ap₂ (λ xs ys. xs ++ ys) (path-same (slice_get arguments i) ∙ ap argument_path (sym (slice_get-map atom_of arguments i))) (kept-same arguments is)

module _ (c : Module) (o : Path) (arguments : List Argument) (keeps : List Raised) (listed : keeps ≡ call_raises c.types c.variables o) (are : AreArgumentsOf c.types c.variables (call_parameters c.types c.variables o) arguments) where
  pub kept-by : (e : ℕ) → kept_paths arguments keeps e ≡ kept_by_call c.types c.variables o (map atom_of arguments) e
  kept-by e = kept-same arguments (kept_for keeps e) ∙ ap (λ rs. flat_map (λ i. argument_path (slice_get (map atom_of arguments) i)) (kept_for rs e)) listed

  left-by : (e : ℕ) → left_paths arguments keeps e ≡ filter (λ p. not (any_pass (same_path p) (kept_by_call c.types c.variables o (map atom_of arguments) e))) (arguments_by is_out (call_parameters c.types c.variables o) (map atom_of arguments))
  left-by e = ap₂ (λ kept xs. filter (λ p. not (any_pass (same_path p) kept)) xs) (kept-by e) (outs-same c.types c.variables (call_parameters c.types c.variables o) arguments are)

  -- the answer to the open call does what it does at the statement
  pub hears-same : (call : ℕ) (a : CellAction Name) (b : Frame Name) → code_hears (Call o arguments keeps) call a b ≡ settle_reply c (Form.Call o (map atom_of arguments)) call a b
  hears-same call a b =
      ap (λ back. HearReply.hear_call back (outs arguments) (kept_paths arguments keeps) (left_paths arguments keeps) call a b) (returned-same c.types c.variables (call_parameters c.types c.variables o) arguments are)
      ∙ ap (λ xs. HearReply.hear_call (set_by_call c.types c.variables o (map atom_of arguments)) xs (kept_paths arguments keeps) (left_paths arguments keeps) call a b) (outs-same c.types c.variables (call_parameters c.types c.variables o) arguments are)
      ∙ ap₂ (λ kept left. HearReply.hear_call (set_by_call c.types c.variables o (map atom_of arguments)) (arguments_by is_out (call_parameters c.types c.variables o) (map atom_of arguments)) kept left call a b) (fun_ext kept-by) (fun_ext left-by)
