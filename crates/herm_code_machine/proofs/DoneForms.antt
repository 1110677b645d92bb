-- Instructions do what forms do.
use Rattle.std.proofs.Common.{◌≡◌, ℕ, List, [], ◌∷◌, map, Bool, cond, eq-eqb, Option, Some, None, option_and_then, slice_get, refl, sym, ap, ap₂, ◌∙◌}
use Rattle.herm_model.specs.Paths.{Path}
use Rattle.herm_model.specs.Expressions.{Expression, Atom}
use Rattle.herm_model.specs.Outcomes.{ok}
use Rattle.herm_model.specs.Statements.{Form, Arm}
use Rattle.herm_model.specs.Values.{Scalar, Cell, Parts, parts_of, read_at, Value}
use Rattle.herm_journal.specs.Actions
use Rattle.herm_forms.specs.Acts.{act, new_value, key_at, given_back}
use Rattle.herm_forms.specs.ReturnForms
use Rattle.herm_forms.specs.Evaluate.{gives, evaluate, key_values}
use Rattle.herm_forms.specs.Excess.{excess_over_full}
use Rattle.herm_forms.specs.Exchanges
use Rattle.herm_forms.specs.Forms
use Rattle.herm_forms.specs.RemoveAndGet
use Rattle.herm_forms.specs.LoopForms.{rows_for, next_row}
use Rattle.herm_forms.specs.Frames.{Name, Frame, Completion, goes, if_there, finalise, finalise_old, cleared, reading, copying_parts}
use Rattle.herm_instructions.specs.Instructions.{Choice}
use Rattle.herm_code_machine.specs.ReadyCode.{ReadyCode}
use Rattle.herm_code_machine.specs.Stacks.{Effect, leaving, pop, scalars_of, with_popped, with_key_of, with_key}
use Rattle.herm_code_machine.specs.Effects.{next_of_loop}
use Rattle.herm_code_machine.specs.CodeActions.{kept_parameters}
use Rattle.herm_instructions.specs.Effects.{arm_of}
use Rattle.herm_code_machine.specs.laws.InstructionLaws.{after_ok, DoForms, InstructionsDoForms}
use Rattle.herm_code_machine.proofs.GivenArguments.{acts-as, hears-as}
use Rattle.herm_code_machine.specs.laws.SoundLaws.{InstructionsKeepSound}

-- the targets and ports of choices are those of the arms
pub targets-same : (choices : List Choice) → map (λ (a : Choice). a.target) choices ≡ map (λ (a : Arm). a.target) (map arm_of choices)
targets-same [] = refl
targets-same (a ∷ choices) = ap (a.target ∷◌) (targets-same choices)

pub ports-same : (choices : List Choice) → map (λ (a : Choice). a.port) choices ≡ map (λ (a : Arm). a.port) (map arm_of choices)
ports-same [] = refl
ports-same (a ∷ choices) = ap (a.port ∷◌) (ports-same choices)

module _ (name : Name → Name) (c : ReadyCode) (s : ℕ) (b : Frame Name) where
  valued : (next : Value → Frame Name → Completion Name) (e : Expression) (v : Value) (rest : List Value) → evaluate b.variables e ≡ gives v → leaving rest (next v b) ≡ leaving rest (Forms.with_value next (evaluate b.variables e) b)
  valued next e v rest is = ap (λ x. leaving rest (Forms.with_value next x b)) (sym is)

  keyed : (n : ℕ) (next : List Scalar → Completion Name) (keys : List Atom) (values stack rest : List Value) (k : List Scalar) → pop n stack ≡ Some (record { values = values; rest = rest }) → scalars_of values ≡ Some k → key_values b.variables keys ≡ Some k
      → with_key n next stack ≡ leaving rest (if_there next (key_values b.variables keys))
  keyed n next keys values stack rest k popped scalars are =
      ap (with_popped (λ p. with_key_of next p.rest (scalars_of p.values))) popped ∙ ap (with_key_of next rest) scalars ∙ ap (λ o. leaving rest (if_there next o)) (sym are)

  -- the first test of a loop: the rows that it has just copied are those of its slot
  begun : (r : Path) (rows : Parts Name) (b : Frame Name) → next_row s r rows (record b { loops = record { statement = s; rows = rows } ∷ b.loops }) ≡ next_of_loop s r (record b { loops = record { statement = s; rows = rows } ∷ b.loops })
  begun r rows b = ap (λ (t : Bool). if_there (λ rows'. next_row s r rows' (record b { loops = record { statement = s; rows = rows } ∷ b.loops })) (cond t (Some rows) (rows_for s b.loops))) (sym (eq-eqb s s refl))

  copied : (r : Path) (o : Option (Cell Name))
      → if_there (λ table. copying_parts name (parts_of table) (λ rows b. next_row s r rows (record b { loops = record { statement = s; rows = rows } ∷ b.loops })) b) o
      ≡ after_ok (next_of_loop s r) (if_there (λ table. copying_parts name (parts_of table) (λ rows b. goes ok (record b { loops = record { statement = s; rows = rows } ∷ b.loops })) b) o)
  copied r None = refl
  copied r (Some table) = begun r _ _

  visited : (r t : Path) (o : Option (Parts Name)) → rows_for s b.loops ≡ o → act name c.scope s (Form.For r t) b
      ≡ elim o [
        | None ↦ reading t (λ table. copying_parts name (parts_of table) (λ rows b. next_row s r rows (record b { loops = record { statement = s; rows = rows } ∷ b.loops })) b) b
        | Some rows ↦ next_row s r rows b
      ]
  visited r t o is =
      ap (λ (o : Option (Parts Name)). elim o [
        | None ↦ reading t (λ table. copying_parts name (parts_of table) (λ rows b. next_row s r rows (record b { loops = record { statement = s; rows = rows } ∷ b.loops })) b) b
        | Some rows ↦ next_row s r rows b
      ]) is

  do-forms : DoForms name c s b
  do-forms = record {
    store = λ x e v rest is. valued (Forms.assign name x) e v rest is;
    test = λ e i v rest is. valued Forms.tested e v rest is;
    repeated_test = λ e i v rest is. valued Forms.tested e v rest is;
    move = λ y x stack. refl;
    new = λ x t is stack. ap (λ o. leaving stack (new_value name (option_and_then (slice_get c.scope.types) o) x b)) (sym is);
    discard = λ x stack. refl;
    drop = λ x v is stack. ap (λ o. leaving stack (goes ok (finalise_old o (cleared x b)))) is ∙ ap (λ o. leaving stack (if_there (λ v. goes ok (finalise v (cleared x b))) o)) (sym is);
    unite = λ v k y stack. refl;
    dissolve = λ v k y stack. refl;
    reveal = λ v k stack. refl;
    choose = λ v indices components stack. refl;
    wrap = λ y t p is stack. ap (λ o. leaving stack (if_there (λ t. Forms.wrap name t (excess_over_full c.scope y b) y p b) o)) (sym is);
    unwrap = λ p t y stack. refl;
    insert = λ r t stack. refl;
    remove = λ r t n keys values stack rest k popped scalars are. keyed n (λ k. RemoveAndGet.remove (key_at c.scope t) k r t b) keys values stack rest k popped scalars are;
    get = λ r t n keys values stack rest k popped scalars are. keyed n (λ k. RemoveAndGet.get name (key_at c.scope t) k r t b) keys values stack rest k popped scalars are;
    first_visit = λ r t is. visited r t None is ∙ copied r (read_at t b.variables);
    visit = λ r t i rows is stack. ap (λ o. leaving stack (if_there (λ rows. next_row s r rows b) o)) is ∙ ap (leaving stack) (sym (visited r t (Some rows) is));
    connect = λ o i stack. refl;
    raise = λ e stack. refl;
    new_inport = λ x t. record { wanted = λ stack. refl; answers = λ stack at a. refl };
    send = λ x o trim is. record {
      wanted = λ stack. ap (λ lost. Exchanges.send_wants lost x o b) is;
      answers = λ stack at a. ap (λ lost. leaving stack (Exchanges.send lost x a b)) is;
    };
    receive = λ x i. record { wanted = λ stack. refl; answers = λ stack at a. refl };
    select = λ choices. record {
      wanted = λ stack. ap (λ ports. Exchanges.select_wants ports b) (ports-same choices);
      answers = λ stack at a. ap₂ (λ targets ports. leaving stack (Exchanges.select targets ports at a b)) (targets-same choices) (ports-same choices);
    };
    call = λ o arguments keeps atoms as_call values stack rest popped inputs. acts-as c o arguments keeps atoms as_call name s b values stack rest popped inputs;
    hear = λ o arguments keeps atoms as_call number a. hears-as c o arguments keeps atoms as_call number a b;
    return = λ m. record { wanted = λ stack. refl; answers = λ stack at a. refl };
    return_by = λ m e kept is. record {
      wanted = λ stack. ap (λ k. ReturnForms.return_wants (Actions.raised e) (given_back c.scope (kept_parameters c m k) b) m b) is;
      answers = λ stack at a. ap (λ k. leaving stack (ReturnForms.return (given_back c.scope (kept_parameters c m k) b) m a)) is;
    };
    create = λ o n. record { wanted = λ stack. refl; answers = λ stack at a. refl };
  }

pub instructions-do-forms : InstructionsDoForms
instructions-do-forms name c s b = do-forms name c s b

-- so they keep sound what forms keep
pub instructions-keep-sound : InstructionsKeepSound
instructions-keep-sound c i form does keeps name has stack b b' o sound needed goes' =
    keeps name 0 has b b' o sound needed (sym (ap (λ (e : Effect Name). e.completion) (does name b stack)) ∙ goes')
