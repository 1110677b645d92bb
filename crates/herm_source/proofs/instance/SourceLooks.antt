-- The port at which a sound process looks for a message is that of an inport that it has; so what comes in suits it.
use Rattle.std.proofs.Common.{◌≡◌, ℕ, zero, suc, List, [], ◌∷◌, ◌++◌, flat_map, Some, option_and_then, slice_get, sym, ap, subst, ◌∙◌}
use Rattle.herm_model.specs.Lists.{IsIn, list_of}
use Rattle.herm_model.specs.Statements.{Process}
use Rattle.herm_model.specs.Types.{TypeTable}
use Rattle.herm_model.specs.Values.{Name, Kind, an_inport}
use Rattle.std.specs.Prelude.{map}
use Rattle.herm_model.proofs.Lists.{in-append_left, in-flat_map, in-flat_map_from}
use Rattle.herm_journal.specs.Actions.{to_take}
use Rattle.herm_forms.specs.Frames.{Loop}
use Rattle.herm_source.specs.Local.{row_type}
use Rattle.herm_model.proofs.Options.{some-injective, none-not_some, chain-some}
use Rattle.herm_forms.specs.Modules.{Module}
use Rattle.herm_system.specs.Kinds.{each, typed_in, typed_held}
use Rattle.herm_runs.specs.laws.SuitsLaws.{LooksAtHeld}
use Rattle.herm_source.specs.Modules.{Program, Modules}
use Rattle.herm_source.specs.States.{State, own_name, wanted}
use Rattle.herm_source.specs.AcceptedRuns.{AreCodesOf}
use Rattle.herm_system.specs.HeldParts.{in_variables, in_rows, untyped}
use Rattle.herm_source.specs.SeenBySystem.{values_held, port_type}
use Rattle.herm_source.specs.Instance.{source, code_at, IsSoundIn}
use Rattle.herm_source.specs.Sharing.{ShareTypes, AcceptedShareTypes}
use Rattle.herm_source.proofs.incoming.SuitsPorts.{port-typed}
use Rattle.herm_source.proofs.instance.HeldValues.{typed-variables}

-- what is found of some is found of more
flat-more : {X Y : Type 0} (f : X → List Y) (y : Y) (xs ys : List X) → IsIn y (flat_map f xs) → IsIn y (flat_map f (xs ++ ys))
flat-more f y xs ys h = let k = in-flat_map_from f y xs h in in-flat_map f k.0 y (xs ++ ys) (in-append_left k.0 xs ys k.1) k.2

-- a typed cell of the variables is one of what is held
pub held-typed : (types : TypeTable) (c : Module) (x : State Name) (k : ℕ × Kind) → IsIn k (typed_in types (each c.variables) x.frame.variables) → IsIn k (flat_map (typed_held types) (values_held c x))
held-typed types c x k h =
    let variables = in_variables c.variables x.frame.variables in
    let loops = flat_map (λ (l : Loop Name). in_rows (row_type c l.statement) l.rows) x.frame.loops in
    let own : IsIn k (flat_map (typed_held types) variables) = subst (IsIn k) (sym (typed-variables types c.variables x.frame.variables)) h in
    flat-more (typed_held types) k (variables ++ loops) (map untyped x.frame.work) (flat-more (typed_held types) k variables loops own)

pub source-looks-at-held : (modules : Modules) → ShareTypes modules → LooksAtHeld (source modules) (IsSoundIn modules)
source-looks-at-held modules share x ports n sound wants member =
    let c = chain-some (λ c. wanted own_name c x) (code_at modules x) (to_take ports) wants in
    let local = sound c.0 c.1 in
    let typed = port-typed c.0 x ports n local.types c.2 member in
    let held : IsIn (typed.type, an_inport n) (flat_map (typed_held modules.types) (values_held c.0 x)) =
    held-typed modules.types c.0 x (typed.type, an_inport n) (subst (λ types. IsIn (typed.type, an_inport n) (typed_in types (each c.0.variables) x.frame.variables)) (share x.module_number c.0 c.1) typed.typed) in (
      typed.type,
      ap (option_and_then (λ c. port_type c x n)) c.1 ∙ typed.at,
      subst (λ o. IsIn (typed.type, an_inport n) (flat_map (typed_held modules.types) (list_of (λ c. values_held c x) o))) (sym c.1) held,
    )

-- the modules of an accepted program share its types
code-types : (program : Program) (ps : List Process) (cs : List Module) (n : ℕ) (c : Module) → AreCodesOf program ps cs → slice_get cs n ≡ Some c → c.types ≡ program.types
code-types program [] [] n c h e = none-not_some e
code-types program [] (d ∷ cs) n c h e = absurd h
code-types program (p ∷ ps) [] n c h e = absurd h
code-types program (p ∷ ps) (d ∷ cs) zero c h e = ap (λ (x : Module). x.types) (sym (some-injective e) ∙ h.0.1)
code-types program (p ∷ ps) (d ∷ cs) (suc n) c h e = code-types program ps cs n c h.1 e

pub accepted-share-types : AcceptedShareTypes
accepted-share-types program modules accepted n c e = code-types program program.processes modules.codes n c accepted.codes e ∙ sym accepted.types
