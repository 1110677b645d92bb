-- Local steps of typed programs keep a property of cells with the types of their places.
use Rattle.std.proofs.Common.{◌≡◌, ◌⊎◌, inl, inr, ◌<◌, ℕ, zero, suc, List, [], ◌∷◌, ◌++◌, map, flat_map, Bool, true, false, cond, nat_eq, Option, Some, None, slice_get, refl, sym, ap, subst, ◌∙◌, arith}
use Rattle.std.proofs.lemmas.Bool.{eq-eqb, eqb-true}
use Rattle.std.specs.Prelude.{find, option_and_then, IsTrue}
use Rattle.herm_model.specs.Lists.{IsIn, list_of}
use Rattle.herm_model.specs.Paths.{Path}
use Rattle.herm_model.specs.Types.{TypeTable, type_at}
use Rattle.herm_model.specs.Calls.{led_to}
use Rattle.herm_model.specs.Statements.{Process, For}
use Rattle.herm_model.specs.Nodes.{Node}
use Rattle.herm_model.specs.Targets.{Target}
use Rattle.herm_model.specs.Values.{Name, Kind, a_callmessage, an_inport, an_outport}
use Rattle.herm_model.specs.laws.FlowLaws.{Rise}
use Rattle.herm_model.specs.Typed.{Fits, many}
use Rattle.herm_model.specs.TypedStatements.{IsTypedForm}
use Rattle.herm_model.proofs.Lists.{not_true, in-map, in-append_left, in-append_right, in-append_cases}
use Rattle.herm_model.proofs.NodeNumbers.{process_numbers-Rise}
use Rattle.herm_model.proofs.Options.{some-injective, none-not_some, map-some}
use Rattle.herm_journal.specs.PartTypes.{each, all_of, is_kind_at, has_no_number}
use Rattle.herm_forms.specs.Frames.{Loop, Frame, Completion, goes, stays, stuck, counted_step}
use Rattle.herm_forms.specs.EdgeFinalising.{arrive}
use Rattle.herm_forms.specs.Modules.{Module}
use Rattle.herm_forms.specs.Acts.{is_action, act, leads_to}
use Rattle.herm_forms.proofs.placed.PlacedForms.{AllowsLocal, BodyIs, LoopsAre, RowsAre, arrive-is, act-is}
use Rattle.herm_forms.proofs.placed.PlacedForms
use Rattle.herm_system.specs.Kinds.{typed_in, typed_held}
use Rattle.herm_source.specs.Modules.{Program}
use Rattle.herm_source.specs.States.{State, own_name, Next, an_item, a_reply, a_statement, nothing, next_of, state_after, step_next}
use Rattle.herm_source.specs.Local.{IsLocallySound, row_of, row_type}
use Rattle.herm_source.specs.AcceptedRuns.{AreCodesOf}
use Rattle.herm_source.specs.SeenBySystem.{values_held}
use Rattle.herm_source.specs.Instance.{code_at}
use Rattle.herm_source.specs.laws.PlaceLaws.{IsOfNumbers, LocalStepsKeepPlaces, StandsAt, LocalStepsKeepStanding}
use Rattle.herm_source.proofs.Numbers.{local-stays}
use Rattle.herm_source.proofs.instance.SourceLaws.{local-code, code-stays}
use Rattle.herm_source.proofs.instance.SourceLooks.{accepted-share-types}
use Rattle.herm_source.proofs.instance.HeldValues.{typed-values}
use Rattle.herm_source.proofs.counted.CountedSteps.{typed-at, node-there, stands}
use Rattle.herm_held.proofs.TypedPlaces.{With, are-typed, variables-placed, rows-placed}

-- a node is found by its number
pub find-own : (n : Node) (ns : List Node) → Rise (map (λ (m : Node). m.number) ns) → IsIn n ns → find (λ (m : Node). nat_eq m.number n.number) ns ≡ Some n
find-own n [] rises h = absurd h
find-own n (m ∷ ns) rises (inl e) = ap (λ (t : Bool). cond t (Some m) (find (λ (m : Node). nat_eq m.number n.number) ns)) (eq-eqb m.number n.number (ap (λ (m : Node). m.number) (sym e))) ∙ ap Some (sym e)
find-own n (m ∷ ns) rises (inr h) = by (nat_eq m.number n.number) refl (find-own n ns rises.1 h)
  where
    by : (t : Bool) → nat_eq m.number n.number ≡ t → find (λ (m : Node). nat_eq m.number n.number) ns ≡ Some n → cond t (Some m) (find (λ (m : Node). nat_eq m.number n.number) ns) ≡ Some n
    by false e later = later
    by true e later = absurd (let below : m.number < n.number = rises.0 n.number (in-map (λ (m : Node). m.number) n ns h) in let same : m.number ≡ n.number = eqb-true m.number n.number e in omega arith)

pub code-rises : (program : Program) (ps : List Process) (cs : List Module) (i : ℕ) (c : Module) → AreCodesOf program ps cs → slice_get cs i ≡ Some c → Rise (map (λ (m : Node). m.number) c.nodes)
code-rises program [] [] i c h e = none-not_some e
code-rises program [] (d ∷ cs) i c h e = absurd h
code-rises program (p ∷ ps) [] i c h e = absurd h
code-rises program (p ∷ ps) (d ∷ cs) zero c h e = subst (λ (c : Module). Rise (map (λ (m : Node). m.number) c.nodes)) (sym h.0.1 ∙ some-injective e) (process_numbers-Rise p)
code-rises program (p ∷ ps) (d ∷ cs) (suc i) c h e = code-rises program ps cs i c h.1 e

module _ (Is : ℕ → Kind → Type 0) (c : Module) where
  abbrev pub Own : ℕ → Kind → Type 0
  Own = With c.types Is

  pub own-agrees : (t : ℕ) (k : Kind) → Own t k → IsTrue (is_kind_at (slice_get c.types t) k)
  own-agrees t k h = h.1

  abbrev pub Body' : Frame Name → Type 0
  Body' b = BodyIs own_name c Own own-agrees (row_type c) b

  abbrev pub All : List (ℕ × Kind) → Type 0
  All xs = (t : ℕ) (k : Kind) → IsIn (t, k) xs → Is t k

  abbrev rows_of : Loop Name → List (ℕ × Kind)
  rows_of l = list_of (λ t. typed_in c.types (all_of t) l.rows) (row_type c l.statement)

  -- all that the process holds at places with types
  abbrev pub listed : State Name → List (ℕ × Kind)
  listed x = typed_in c.types (each c.variables) x.frame.variables ++ flat_map rows_of x.frame.loops

  loops-placed : (loops : List (Loop Name)) → ((l : Loop Name) → IsIn l loops → (t : ℕ) × (row_type c l.statement ≡ Some t) × Fits c.types (many t) l.rows) → All (flat_map rows_of loops) → LoopsAre own_name c Own own-agrees (row_type c) loops
  loops-placed [] typed all = tt
  loops-placed (l ∷ loops) typed all =
      let x = typed l (inl refl) in
      let first : All (typed_in c.types (all_of x.0) l.rows) = subst (λ o. All (list_of (λ t. typed_in c.types (all_of t) l.rows) o)) x.1 (λ t k i. all t k (in-append_left (t, k) (rows_of l) (flat_map rows_of loops) i)) in (
        subst (λ o. RowsAre own_name c Own own-agrees (row_type c) o l.rows) (sym x.1) (rows-placed c.types Is x.0 l.rows x.2 first),
        loops-placed loops (λ m i. typed m (inr i)) (λ t k i. all t k (in-append_right (t, k) (rows_of l) (flat_map rows_of loops) i)),
      )

  one-typed : (o : Option ℕ) (l : Loop Name) → RowsAre own_name c Own own-agrees (row_type c) o l.rows → All (list_of (λ t. typed_in c.types (all_of t) l.rows) o)
  one-typed None l h t k i = absurd i
  one-typed (Some u) l h t k i = are-typed c.types Is (all_of u) l.rows h t k i

  loops-typed : (loops : List (Loop Name)) → LoopsAre own_name c Own own-agrees (row_type c) loops → All (flat_map rows_of loops)
  loops-typed [] h t k i = absurd i
  loops-typed (l ∷ loops) h t k i = by (in-append_cases (t, k) (rows_of l) (flat_map rows_of loops) i) (loops-typed loops h.1)
    where
      by : IsIn (t, k) (rows_of l) ⊎ IsIn (t, k) (flat_map rows_of loops) → All (flat_map rows_of loops) → Is t k
      by (inl m) more = one-typed (row_type c l.statement) l h.0 t k m
      by (inr m) more = more t k m

  pub to-body : (x : State Name) → IsLocallySound c x → All (listed x) → Body' x.frame
  to-body x sound all =
      let variables = typed_in c.types (each c.variables) x.frame.variables in
      let loops = flat_map rows_of x.frame.loops in (
        variables-placed c.types Is c.variables x.frame.variables sound.types (λ t k i. all t k (in-append_left (t, k) variables loops i)),
        loops-placed x.frame.loops (λ l h. let y = sound.loops l h in (y.0, y.1, y.2)) (λ t k i. all t k (in-append_right (t, k) variables loops i)),
      )

  pub from-body : (x : State Name) → Body' x.frame → All (listed x)
  from-body x h t k i = by (in-append_cases (t, k) (typed_in c.types (each c.variables) x.frame.variables) (flat_map rows_of x.frame.loops) i)
    where
      by : IsIn (t, k) (typed_in c.types (each c.variables) x.frame.variables) ⊎ IsIn (t, k) (flat_map rows_of x.frame.loops) → Is t k
      by (inl m) = are-typed c.types Is (each c.variables) x.frame.variables h.0 t k m
      by (inr m) = loops-typed x.frame.loops h.1 t k m

  pub behind-is : (s t : State Name) (n : Option Node) (r : Completion Name) → PlacedForms.AllAre own_name c Own own-agrees (row_type c) r → state_after c s n r ≡ Some t → Body' t.frame
  behind-is s t n (goes o b) h is =
      let m = map-some (λ (p : Target). record { module_number = s.module_number; point = p; frame = arrive c p b }) (option_and_then (λ n. leads_to c n o) n) t is in
      subst (λ (t : State Name). Body' t.frame) m.2 (arrive-is own_name c Own own-agrees (row_type c) m.0 b h)
  behind-is s t n (stays b) h is = subst (λ (t : State Name). Body' t.frame) (some-injective is) h
  behind-is s t n stuck h is = none-not_some is

  module _ (exceptions : ℕ) (processes : List Process) (typed : (n : Node) → IsIn n c.nodes → IsTypedForm c.types c.variables exceptions processes n.form) (rises : Rise (map (λ (m : Node). m.number) c.nodes)) (allows : AllowsLocal c.types Own) where
    row-is : (n : Node) → IsIn n c.nodes → (r table : Path) → n.form ≡ For r table → row_type c n.number ≡ type_at c.types c.variables r
    row-is n there r table form = ap (option_and_then (λ (n : Node). row_of c n.form)) (find-own n c.nodes rises there) ∙ ap (row_of c) form

    step-is : (s t : State Name) (n : Node) (b : Bool) → IsIn n c.nodes → Body' s.frame → cond b None (state_after c s (Some n) (act own_name c n.number n.form (counted_step s.frame))) ≡ Some t → Body' t.frame
    step-is s t n true there h is = none-not_some is
    step-is s t n false there h is = behind-is s t (Some n) (act own_name c n.number n.form (counted_step s.frame)) (act-is own_name c Own own-agrees (row_type c) allows exceptions processes n.number n.form (counted_step s.frame) (typed n there) (row-is n there) h) is

    next-is : (s t : State Name) (next : Next Name) → next_of c s ≡ next → Body' s.frame → step_next own_name c s next ≡ Some t → Body' t.frame
    next-is s t (a_statement n) next h is = step-is s t n (is_action c n.form) (node-there c s.point n (stands c s n next).at) h is
    next-is s t (an_item item work) next h is = none-not_some is
    next-is s t (a_reply call n) next h is = none-not_some is
    next-is s t nothing next h is = none-not_some is

pub local-steps-keep-places : (Is : ℕ → Kind → Type 0) → LocalStepsKeepPlaces Is
local-steps-keep-places Is exceptions program modules accepted typed numbers x y sound e all =
    let c = local-code modules x y e in
    let there = code-stays modules x y c.0 c.1 (local-stays own_name c.0 x y c.2).1 in
    let share : c.0.types ≡ modules.types = accepted-share-types program modules accepted x.module_number c.0 c.1 in
    let held = λ (s : State Name) (is : code_at modules s ≡ Some c.0). ap (λ o. flat_map (typed_held modules.types) (list_of (λ c. values_held c s) o)) is ∙ ap (λ types. flat_map (typed_held types) (values_held c.0 s)) (sym share) ∙ typed-values c.0.types c.0 s in
    let of = subst (λ types. IsOfNumbers types Is) (sym share) numbers in
    let allows : AllowsLocal c.0.types (With c.0.types Is) = record {
      portless = λ t k is plain. (of.others t k is plain, is);
      connects = λ t port n shape h. (of.connects t port n shape h.0, subst (λ o. IsTrue (is_kind_at o (an_outport n))) (sym shape) refl);
    } in
    let before = to-body Is c.0 x (sound c.0 c.1) (subst (All Is c.0) (held x c.1) all) in
    let behind' = next-is Is c.0 exceptions program.processes (typed-at exceptions program modules accepted typed x c.0 c.1) (code-rises program program.processes modules.codes x.module_number c.0 accepted.codes c.1) allows x y (next_of c.0 x) refl before c.2 in
    subst (All Is c.0) (sym (held y there)) (from-body Is c.0 y behind')

-- the three clauses on ports and calls are such a property
pub standing : (types : TypeTable) (ports : List ℕ) (calls : ℕ → ℕ → Option ℕ) → IsOfNumbers types (StandsAt types ports calls)
standing types ports calls = record {
  others = has;
  connects = λ t port n shape h. (port, ap (option_and_then led_to) shape, h);
}
  where
    has : (t : ℕ) (k : Kind) → IsTrue (is_kind_at (slice_get types t) k) → IsTrue (has_no_number k) → StandsAt types ports calls t k
    has t (an_inport n) is plain = not_true plain
    has t (an_outport n) is plain = not_true plain
    has t (a_callmessage caller call) is plain = not_true plain
    has t k is plain = tt

pub local-steps-keep-standing : LocalStepsKeepStanding
local-steps-keep-standing exceptions program modules ports calls accepted typed x y sound e all =
    local-steps-keep-places (StandsAt modules.types ports calls) exceptions program modules accepted typed (standing modules.types ports calls) x y sound e all
