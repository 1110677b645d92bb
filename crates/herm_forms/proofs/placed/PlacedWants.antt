-- What a process wants to send or to answer has a property of cells with the types of their places.
use Rattle.std.proofs.Common.{◌≡◌, ℕ, ◌+◌, List, [], ◌∷◌, ◌++◌, map, flat_map, cond, Option, Some, None, option_map, refl, sym, ap, subst, ◌∙◌}
use Rattle.std.specs.Prelude.{slice_get, ⊤}
use Rattle.herm_model.specs.Lists.{list_of}
use Rattle.herm_model.specs.Paths.{Path}
use Rattle.herm_model.specs.Types.{TypeTable, Raised, Mode, by_in, by_inout, by_out, Parameter, callmessage, type_at}
use Rattle.herm_model.specs.Expressions.{Atom, literal, path}
use Rattle.herm_model.specs.Calls.{call_parameters, arguments_by}
use Rattle.herm_model.specs.Statements.{Process, Send, Call}
use Rattle.herm_model.specs.Values.{Kind, a_callmessage, Cell, kind_of, Parts, no_parts, gap, part, cell_at, read_at}
use Rattle.herm_model.specs.CellNames.{count, copy_from, copy_in}
use Rattle.herm_model.specs.TypedStatements.{IsTypedForm, IsTypedAtom, IsArgument, AreArguments}
use Rattle.herm_model.proofs.Options.{none-not_some, some-injective, map-some, chain-some}
use Rattle.herm_model.proofs.TypedCalls.{parameters-are}
use Rattle.herm_journal.specs.Actions.{to_put}
use Rattle.herm_journal.specs.PartTypes.{each, part_types_at, IsPlaced, ArePlaced}
use Rattle.herm_forms.specs.Frames.{Name, Frame, drop}
use Rattle.herm_forms.specs.Evaluate.{Evaluated, gives, raises, no_value, scalar_of, atom_value}
use Rattle.herm_forms.specs.Exchanges.{outport_at}
use Rattle.herm_forms.specs.Callmessages.{assemble}
use Rattle.herm_forms.specs.Excess.{excess_over_full, excess_over_declared}
use Rattle.herm_forms.specs.Modules.{Module}
use Rattle.herm_forms.specs.Acts.{is_inout, input_of, inputs_of, arguments_at, composed, wants}
use Rattle.herm_forms.specs.laws.CallLaws.{HaveTypesAt}
use Rattle.herm_forms.proofs.called.CallMessages.{composed-of, put-composed}
use Rattle.herm_forms.proofs.called.TakenParts.{part_path}
use Rattle.herm_forms.proofs.called.GivenReplies.{parameter-type}
use Rattle.herm_forms.proofs.typed.WantKinds.{put-in}
use Rattle.herm_forms.proofs.known.KindsKept.{Gives, value-given}
use Rattle.herm_forms.proofs.placed.PlacedParts.{Agrees, copy-placed}
use Rattle.herm_forms.proofs.placed.PlacedForms.{AllowsLocal, BodyIs, LoopsAre, cell-is, drop-is, literal-is, read-copied}
use Rattle.herm_forms.proofs.placed.PlacedActions.{ArePlacedAt}
use Rattle.herm_forms.proofs.placed.PlacedAnswers.{ArePlacedFor, IfTaken, take-all}
use Rattle.herm_forms.proofs.forms.SentMessages.{message_or}

-- values by a list of types
module _ (types : TypeTable) (P : ℕ → Kind → Type 0) where
  abbrev pub AreListed : {N : Type 0} → List ℕ → List (Cell N) → Type 0
  AreListed [] cs = ⊤
  AreListed (t ∷ ts) [] = ⊤
  AreListed (t ∷ ts) (d ∷ cs) = IsPlaced types P t d × AreListed ts cs

module _ (name : Name → Name) (c : Module) (P : ℕ → Kind → Type 0) (agrees : Agrees c.types P) (row : ℕ → Option ℕ) (allows : AllowsLocal c.types P) where
  abbrev Is : ℕ → Cell Name → Type 0
  Is t d = IsPlaced c.types P t d

  abbrev For : List Path → List (Cell Name) → Type 0
  For paths cs = ArePlacedFor name c P agrees row paths cs

  -- the parameters of a callmessage, as they are assembled
  module _ (copy : ℕ → Name) (variables : Parts Name) (own : ArePlaced c.types P (each c.variables) variables) where
    abbrev modes : List Parameter → List Mode
    modes params = map (λ (p : Parameter). p.mode) params

    abbrev Placed : List Parameter → Parts Name → Type 0
    Placed params ps = ArePlaced c.types P (each (map (λ (p : Parameter). p.content) params)) ps

    abbrev PlacedAfter : ℕ → List Parameter → Parts Name → Type 0
    PlacedAfter u params ps = ArePlaced c.types P (each (u ∷ map (λ (p : Parameter). p.content) params)) ps

    abbrev Assembled : List Parameter → List Atom → Type 0
    Assembled params atoms = (inputs : Parts ⊤) (s : ℕ) (moved : List (Cell Name)) (ps : Parts Name) → inputs_of params atoms variables ≡ Some inputs → For (arguments_by is_inout params atoms) moved
        → assemble (modes params) (copy_in copy s inputs) moved ≡ Some ps → Placed params ps

    -- one parameter in front of others, whose argument has such a mode
    abbrev AssembledAfter : Mode → ℕ → Evaluated → List Path → List Parameter → List Atom → Type 0
    AssembledAfter m u v paths params atoms = (inputs : Parts ⊤) (s : ℕ) (moved : List (Cell Name)) (ps : Parts Name) → input_of m v (inputs_of params atoms variables) ≡ Some inputs → For paths moved
        → assemble (m ∷ modes params) (copy_in copy s inputs) moved ≡ Some ps → PlacedAfter u params ps

    atom-is : (a : Atom) (u : ℕ) → IsTypedAtom c.types c.variables a u → Gives (IsPlaced c.types P u) (atom_value variables a)
    atom-is (literal l) u h = literal-is name c P agrees row allows l u h (scalar_of l)
    atom-is (path p) u h = value-given (IsPlaced c.types P u) (read_at p variables) (read-copied name c P agrees row allows p u variables own h.0.0)

    copied-part : (u : ℕ) (v : Evaluated) (params : List Parameter) (atoms : List Atom) → Gives (IsPlaced c.types P u) v → Assembled params atoms → AssembledAfter by_in u v (arguments_by is_inout params atoms) params atoms
    copied-part u (raises x) params atoms placed more inputs s moved ps e moves made = none-not_some e
    copied-part u no_value params atoms placed more inputs s moved ps e moves made = none-not_some e
    copied-part u (gives v) params atoms placed more inputs s moved ps e moves made =
        let x = map-some (part v) (inputs_of params atoms variables) inputs e in
        let made' : assemble (by_in ∷ modes params) (copy_in copy s (part v x.0)) moved ≡ Some ps = ap (λ inputs. assemble (by_in ∷ modes params) (copy_in copy s inputs) moved) x.2 ∙ made in
        let y = map-some (part (copy_from copy s v)) (assemble (modes params) (copy_in copy (s + count v) x.0) moved) ps made' in
        subst (PlacedAfter u params) y.2 (copy-placed c.types P agrees copy s u v placed, more x.0 (s + count v) moved y.0 x.1 moves y.1)

    moved-part : (u : ℕ) (v : Evaluated) (q : Path) (params : List Parameter) (atoms : List Atom) → type_at c.types c.variables q ≡ Some u → Assembled params atoms → AssembledAfter by_inout u v (q ∷ arguments_by is_inout params atoms) params atoms
    moved-part u v q params atoms type more inputs s [] ps e moves made = none-not_some made
    moved-part u v q params atoms type more inputs s (d ∷ moved) ps e moves made =
        let y = map-some (part d) (assemble (modes params) (copy_in copy s inputs) moved) ps made in
        subst (PlacedAfter u params) y.2 (subst (λ t. Is t d) (some-injective (sym moves.0.1 ∙ type)) moves.0.2, more inputs s moved y.0 e moves.1 y.1)

    left-part : (u : ℕ) (v : Evaluated) (params : List Parameter) (atoms : List Atom) → Assembled params atoms → AssembledAfter by_out u v (arguments_by is_inout params atoms) params atoms
    left-part u v params atoms more inputs s moved ps e moves made =
        let y = map-some gap (assemble (modes params) (copy_in copy s inputs) moved) ps made in
        subst (PlacedAfter u params) y.2 (more inputs s moved y.0 e moves y.1)

    literal-part : (m : Mode) (u : ℕ) (a : Atom) (l : _) → a ≡ literal l → (params : List Parameter) (atoms : List Atom) → IsArgument c.types c.variables m (literal l) u → Assembled params atoms
        → AssembledAfter m u (atom_value variables (literal l)) (arguments_by is_inout params atoms) params atoms
    literal-part by_in u a l same params atoms h more = copied-part u (atom_value variables (literal l)) params atoms (atom-is (literal l) u h) more
    literal-part by_inout u a l same params atoms h more = absurd h
    literal-part by_out u a l same params atoms h more = absurd h

    path-part : (m : Mode) (u : ℕ) (q : Path) (params : List Parameter) (atoms : List Atom) → IsArgument c.types c.variables m (path q) u → Assembled params atoms
        → AssembledAfter m u (atom_value variables (path q)) (cond (is_inout m) (q ∷ arguments_by is_inout params atoms) (arguments_by is_inout params atoms)) params atoms
    path-part by_in u q params atoms h more = copied-part u (atom_value variables (path q)) params atoms (atom-is (path q) u h) more
    path-part by_inout u q params atoms h more = moved-part u (atom_value variables (path q)) q params atoms h.0.0 more
    path-part by_out u q params atoms h more = left-part u (atom_value variables (path q)) params atoms more

    no-parts : (inputs : Parts ⊤) (s : ℕ) (moved : List (Cell Name)) (ps : Parts Name) → no_parts ≡ inputs → assemble [] (copy_in copy s inputs) moved ≡ Some ps → Placed [] ps
    no-parts inputs s moved ps e made = by moved (ap (λ inputs. assemble [] (copy_in copy s inputs) moved) e ∙ made)
      where
        by : (moved : List (Cell Name)) → assemble [] (copy_in {N = ⊤} copy s no_parts) moved ≡ Some ps → Placed [] ps
        by [] made = subst (Placed []) (some-injective made) tt
        by (d ∷ moved) made = none-not_some made

    pub assembled-is : (params : List Parameter) (atoms : List Atom) → AreArguments c.types c.variables params atoms → Assembled params atoms
    assembled-is [] atoms h inputs s moved ps e moves made = no-parts inputs s moved ps (some-injective e) made
    assembled-is (p ∷ params) [] h inputs s moved ps e moves made = none-not_some e
    assembled-is (p ∷ params) (literal l ∷ atoms) h inputs s moved ps e moves made = literal-part p.mode p.content (literal l) l refl params atoms h.0 (assembled-is params atoms h.1) inputs s moved ps e moves made
    assembled-is (p ∷ params) (path q ∷ atoms) h inputs s moved ps e moves made = path-part p.mode p.content q params atoms h.0 (assembled-is params atoms h.1) inputs s moved ps e moves made

  -- what is to be sent
  pub sent-is : (x o : Path) (t n : ℕ) (m : Cell Name) (b : Frame Name) → type_at c.types c.variables x ≡ Some t → BodyIs name c P agrees row b → wants name c (Send x o) b ≡ Some (to_put n m) → Is t m
  sent-is x o t n m b type e is =
      let lost = excess_over_declared c o x b in
      let port = chain-some (λ port. option_map (put-in port) (cell_at x (drop lost b).variables)) (outport_at o b) (to_put n m) is in
      let d = map-some (put-in port.0) (cell_at x (drop lost b).variables) (to_put n m) port.2 in
      cell-is name c P agrees row x t (drop lost b).variables m (drop-is name c P agrees row lost b e).0 (d.1 ∙ ap Some (ap (message_or d.0) d.2)) type

  module _ (exceptions : ℕ) (processes : List Process) where
    -- the callmessage of a call
    pub called-is : (o : Path) (arguments : List Atom) (is : IsTypedForm c.types c.variables exceptions processes (Call o arguments)) (n : ℕ) (m : Cell Name) (b : Frame Name) → BodyIs name c P agrees row b
        → wants name c (Call o arguments) b ≡ Some (to_put n m) → P is.0 (kind_of m) → Is is.0 m
    called-is o arguments is n m b e want own =
        let params = call_parameters c.types c.variables o in
        let same : params ≡ is.1 = parameters-are c.types c.variables o is.0 is.3 is.1 is.2 is.4 in
        let moved = arguments_at c is_inout o arguments in
        let lost = flat_map (λ p. excess_over_full c p b) moved in
        let y = put-composed (outport_at o b) (composed name c o arguments b) n m want in
        let made = composed-of name (map (λ (p : Parameter). p.mode) params) lost moved b (inputs_of params arguments b.variables) y.0 y.1 in
        let cut = made.cut in
        let t = take-all name c P agrees row moved (drop lost cut) (drop-is name c P agrees row lost cut (subst (λ ps. ArePlaced c.types P (each c.variables) ps) (sym made.before) e.0, subst (LoopsAre name c P agrees row) (sym made.loops_before) e.1)) in
        let taken = subst (IfTaken name c P agrees row moved) made.at t in
        let parts = assembled-is (λ s. name (b.number, s)) b.variables e.0 params arguments (subst (λ params. AreArguments c.types c.variables params arguments) (sym same) is.5)
        made.inputs b.serial made.taken.cells made.parts made.given taken.0 made.assembled in
        subst (Is is.0) (sym made.is ∙ y.2) (
          subst (λ (m : Cell Name). P is.0 (kind_of m)) (sym y.2 ∙ made.is) own,
          subst (λ o. ArePlaced c.types P (part_types_at o (a_callmessage made.caller made.call)) made.parts) (sym is.4) (subst (λ params. ArePlaced c.types P (each (map (λ (p : Parameter). p.content) params)) made.parts) same parts),
        )

  none-listed : (ts : List ℕ) → AreListed c.types P {N = Name} ts []
  none-listed [] = tt
  none-listed (t ∷ ts) = tt

  -- the parameters that are given back of a callmessage, by their types
  module _ (i : ℕ) (q : List ℕ) (t : ℕ) (parameters : List Parameter) (raises : List Raised) (type : type_at c.types c.variables (i ∷ q) ≡ Some t) (shape : slice_get c.types t ≡ Some (callmessage parameters raises)) where
    abbrev contents : Option Parameter → List ℕ
    contents o = list_of (λ (p : Parameter). p.content ∷ []) o

    pub given-listed : (ns : List ℕ) (ds : List (Cell Name)) → For (map (part_path i q) ns) ds → AreListed c.types P (flat_map (λ n. contents (slice_get parameters n)) ns) ds
    given-listed [] ds h = tt
    given-listed (n ∷ ns) [] h = none-listed (flat_map (λ n. contents (slice_get parameters n)) (n ∷ ns))
    given-listed (n ∷ ns) (d ∷ ds) h = by (slice_get parameters n) (sym (parameter-type c i q t parameters raises type shape n) ∙ h.0.1) (given-listed ns ds h.1)
      where
        by : (x : Option Parameter) → option_map (λ (p : Parameter). p.content) x ≡ Some h.0.0 → AreListed c.types P (flat_map (λ n. contents (slice_get parameters n)) ns) ds → AreListed c.types P (contents x ++ flat_map (λ n. contents (slice_get parameters n)) ns) (d ∷ ds)
        by None e more = none-not_some e
        by (Some p) e more = (subst (λ t. Is t d) (sym (some-injective e)) h.0.2, more)

  -- the values of a reply, at the paths of these types
  pub listed-at : (paths : List Path) (ts : List ℕ) (cs : List (Cell Name)) → HaveTypesAt c paths ts → AreListed c.types P ts cs → ArePlacedAt name c P agrees row paths cs
  listed-at [] ts cs at h = tt
  listed-at (p ∷ paths) [] cs at h = absurd at
  listed-at (p ∷ paths) (t ∷ ts) [] at h = tt
  listed-at (p ∷ paths) (t ∷ ts) (d ∷ cs) at h = ((t, at.0, h.0), listed-at paths ts cs at.2 h.1)
