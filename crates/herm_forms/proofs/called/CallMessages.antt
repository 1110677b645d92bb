-- What a call wants to put is a message of the port.
use Rattle.std.proofs.Common.{◌≡◌, ◌⊎◌, inl, inr, ℕ, zero, suc, ◌+◌, List, [], ◌∷◌, ◌++◌, map, Bool, true, false, cond, Option, Some, None, option_map, refl, sym, ap, ◌∙◌, subst}
use Rattle.std.specs.Prelude.{slice_get, filter, flat_map, option_and_then, IsTrue, ⊤}
use mathlib.Core.Bool.{false≢true}
use Rattle.herm_model.specs.Lists.{IsIn, list_of, map_or}
use Rattle.herm_model.specs.Paths.{Path, Fact, init, case, path_of}
use Rattle.herm_model.specs.Types.{TypeTable, Shape, Mode, by_in, by_inout, by_out, Parameter, Raised, inport, callmessage, full_parts, part_paths, is_within_depth, greatest_depth}
use Rattle.herm_model.specs.Facts.{declared_facts}
use Rattle.herm_model.specs.Expressions.{Atom}
use Rattle.herm_model.specs.Statements.{Call}
use Rattle.herm_model.specs.TypedStatements.{AreApart}
use Rattle.herm_model.specs.Calls.{inport_at, message_type, parameters_of, call_parameters, is_given}
use Rattle.herm_model.specs.FactsOfStatements.{needs, room_for, present, full, full_of_each, given, set_by_call}
use Rattle.herm_model.specs.Values.{a_callmessage, Cell, cell, Parts, no_parts, gap, part, has_value, Value}
use Rattle.herm_model.specs.CellNames.{count, count_in, copy_from, copy_in}
use Rattle.herm_model.specs.Typed.{whole, exactly, unfit, parameter_content, layout, is_bounded, Fits, IsFull}
use Rattle.herm_model.proofs.Lists.{in-map, in-map_from, in-flat_map, in-flat_map_from, in-append_right}
use Rattle.herm_model.proofs.Options.{some-injective, none-not_some, map-some}
use Rattle.herm_model.proofs.Typing.{full-typed}
use Rattle.herm_journal.specs.Actions.{to_put}
use Rattle.herm_forms.specs.Evaluate.{Evaluated, gives, raises, no_value, atom_value}
use Rattle.herm_forms.specs.Frames.{Name, Frame, drop, Taken, take_all}
use Rattle.herm_journal.specs.Messages.{CellWant, OfType, AreFull, IsMessage}
use Rattle.herm_forms.specs.Exchanges.{outport_at}
use Rattle.herm_forms.specs.Callmessages.{Composed, with_message, compose, assemble}
use Rattle.herm_forms.specs.Excess.{excess_over_full}
use Rattle.herm_forms.specs.Modules.{Module}
use Rattle.herm_forms.specs.Acts.{is_inout, input_of, inputs_of, composed, wants}
use Rattle.herm_forms.specs.OpenCalls.{Calling, lent_paths}
use Rattle.herm_forms.specs.laws.EdgeLaws.{AreSound}
use Rattle.herm_forms.specs.laws.CallLaws.{HaveTypesAt, AreFullInputs}
use Rattle.herm_forms.proofs.forms.Assignments.{copied-full}
use Rattle.herm_forms.proofs.forms.Moves.{nothing_after}
use Rattle.herm_forms.proofs.forms.ToldFacts.{in-closed}
use Rattle.herm_forms.proofs.forms.SetTargets.{full-exact}
use Rattle.herm_forms.proofs.forms.SentMessages.{declared-is, message_or}
use Rattle.herm_forms.proofs.called.OpenCalls.{arguments-split}
use Rattle.herm_forms.proofs.called.TakenApart.{apart-full}

-- The call's port takes callmessages with these parameters, and its arguments of mode inout have their types and are apart
-- from each other.
pub record TakesArguments (c : Module) (k : Calling) : Type 0 where
  pub port : ℕ
  pub type : ℕ
  pub parameters : List Parameter
  pub raises : List Raised
  pub leads : inport_at c.types c.variables k.port ≡ Some port
  pub takes : slice_get c.types port ≡ Some (inport type [])
  pub shape : slice_get c.types type ≡ Some (callmessage parameters raises)
  pub deep : IsTrue (is_within_depth greatest_depth c.types type)
  pub lent : HaveTypesAt c (lent_paths c k) (map (λ (p : Parameter). p.content) (filter (λ (p : Parameter). is_inout p.mode) parameters))
  pub apart : AreApart (lent_paths c k)

-- What a call wants to put is then a message of the port, where its arguments of mode in come to full values.
abbrev pub MakesMessages : Type 0
MakesMessages = (c : Module) (k : Calling) (takes : TakesArguments c k) (name : Name → Name) (has : Fact → Bool) (b : Frame Name) (n : ℕ) (message : Cell Name) → AreSound c has b.variables
    → AreFullInputs c b.variables takes.parameters k.arguments → ((f : Fact) → IsIn f (needs c.types c.variables (Call k.port k.arguments)) → IsTrue (has f))
    → wants name c (Call k.port k.arguments) b ≡ Some (to_put n message) → IsMessage c.types takes.port message

abbrev contents_in : TypeTable → List Parameter → Parts Name → Type 0
contents_in types params ps = Fits types (exactly (map (λ (p : Parameter). parameter_content whole p.mode p.content) params)) ps

abbrev inout_types : List Parameter → List ℕ
inout_types params = map (λ (p : Parameter). p.content) (filter (λ (p : Parameter). is_inout p.mode) params)

-- The parameters that are assembled are full ones: copies of full values, and full values that move.
module _ (c : Module) (name : ℕ → Name) (variables : Parts Name) where
  abbrev Assembled : List Parameter → List Atom → Type 0
  Assembled params atoms = (inputs : Parts ⊤) (s : ℕ) (moved : List (Cell Name)) (ps : Parts Name) → inputs_of params atoms variables ≡ Some inputs → AreFull c.types (inout_types params) moved
      → assemble (map (λ (p : Parameter). p.mode) params) (copy_in name s inputs) moved ≡ Some ps → contents_in c.types params ps

  copied-part : (u : ℕ) (params : List Parameter) (atoms : List Atom) (v : Evaluated) → ((value : Value) → v ≡ gives value → IsFull c.types u value) → Assembled params atoms
      → (inputs : Parts ⊤) (s : ℕ) (moved : List (Cell Name)) (ps : Parts Name) → input_of by_in v (inputs_of params atoms variables) ≡ Some inputs → AreFull c.types (inout_types params) moved
      → assemble (by_in ∷ map (λ (p : Parameter). p.mode) params) (copy_in name s inputs) moved ≡ Some ps → Fits c.types (exactly (parameter_content whole by_in u ∷ map (λ (p : Parameter). parameter_content whole p.mode p.content) params)) ps
  copied-part u params atoms (raises x) whole' more inputs s moved ps e moves made = none-not_some e
  copied-part u params atoms no_value whole' more inputs s moved ps e moves made = none-not_some e
  copied-part u params atoms (gives v) whole' more inputs s moved ps e moves made =
      let x = map-some (part v) (inputs_of params atoms variables) inputs e in
      let made' : assemble (by_in ∷ map (λ (p : Parameter). p.mode) params) (copy_in name s (part v x.0)) moved ≡ Some ps =
      ap (λ inputs. assemble (by_in ∷ map (λ (p : Parameter). p.mode) params) (copy_in name s inputs) moved) x.2 ∙ made in
      let y = map-some (part (copy_from name s v)) (assemble (map (λ (p : Parameter). p.mode) params) (copy_in name (s + count v) x.0) moved) ps made' in
      subst (Fits c.types (exactly (parameter_content whole by_in u ∷ map (λ (p : Parameter). parameter_content whole p.mode p.content) params))) y.2
      (copied-full c.types u name s v (whole' v refl), more x.0 (s + count v) moved y.0 x.1 moves y.1)

  moved-part : (u : ℕ) (params : List Parameter) (atoms : List Atom) → Assembled params atoms
      → (inputs : Parts ⊤) (s : ℕ) (moved : List (Cell Name)) (ps : Parts Name) → inputs_of params atoms variables ≡ Some inputs → AreFull c.types (u ∷ inout_types params) moved
      → assemble (by_inout ∷ map (λ (p : Parameter). p.mode) params) (copy_in name s inputs) moved ≡ Some ps → Fits c.types (exactly (parameter_content whole by_inout u ∷ map (λ (p : Parameter). parameter_content whole p.mode p.content) params)) ps
  moved-part u params atoms more inputs s [] ps e moves made = absurd moves
  moved-part u params atoms more inputs s (d ∷ moved) ps e moves made =
      let y = map-some (part d) (assemble (map (λ (p : Parameter). p.mode) params) (copy_in name s inputs) moved) ps made in
      subst (Fits c.types (exactly (parameter_content whole by_inout u ∷ map (λ (p : Parameter). parameter_content whole p.mode p.content) params))) y.2 (moves.0, more inputs s moved y.0 e moves.1 y.1)

  one-part : (m : Mode) (p : Parameter) (params : List Parameter) (a : Atom) (atoms : List Atom) → (m ≡ by_in → (value : Value) → atom_value variables a ≡ gives value → IsFull c.types p.content value) → Assembled params atoms
      → (inputs : Parts ⊤) (s : ℕ) (moved : List (Cell Name)) (ps : Parts Name) → input_of m (atom_value variables a) (inputs_of params atoms variables) ≡ Some inputs
      → AreFull c.types (map (λ (p : Parameter). p.content) (cond (is_inout m) (p ∷ filter (λ (p : Parameter). is_inout p.mode) params) (filter (λ (p : Parameter). is_inout p.mode) params))) moved
      → assemble (m ∷ map (λ (p : Parameter). p.mode) params) (copy_in name s inputs) moved ≡ Some ps → Fits c.types (exactly (parameter_content whole m p.content ∷ map (λ (p : Parameter). parameter_content whole p.mode p.content) params)) ps
  one-part by_in p params a atoms whole' more inputs s moved ps e moves made = copied-part p.content params atoms (atom_value variables a) (whole' refl) more inputs s moved ps e moves made
  one-part by_inout p params a atoms whole' more inputs s moved ps e moves made = moved-part p.content params atoms more inputs s moved ps e moves made
  one-part by_out p params a atoms whole' more inputs s moved ps e moves made =
      let y = map-some gap (assemble (map (λ (p : Parameter). p.mode) params) (copy_in name s inputs) moved) ps made in
      subst (Fits c.types (exactly (parameter_content whole by_out p.content ∷ map (λ (p : Parameter). parameter_content whole p.mode p.content) params))) y.2 (tt, more inputs s moved y.0 e moves y.1)

  no-parts : (inputs : Parts ⊤) (s : ℕ) (moved : List (Cell Name)) (ps : Parts Name) → no_parts ≡ inputs → AreFull c.types [] moved → assemble [] (copy_in name s inputs) moved ≡ Some ps → Fits c.types (exactly []) ps
  no-parts inputs s (d ∷ moved) ps e moves made = absurd moves
  no-parts inputs s [] ps e moves made =
      let made' : assemble [] (copy_in {N = ⊤} name s no_parts) [] ≡ Some ps = ap (λ inputs. assemble [] (copy_in name s inputs) []) e ∙ made in
      subst (Fits c.types (exactly [])) (some-injective made') tt

  assembled-full : (params : List Parameter) (atoms : List Atom) → AreFullInputs c variables params atoms → Assembled params atoms
  assembled-full [] atoms whole' inputs s moved ps e moves made = no-parts inputs s moved ps (some-injective e) moves made
  assembled-full (p ∷ params) [] whole' inputs s moved ps e moves made = none-not_some e
  assembled-full (p ∷ params) (a ∷ atoms) whole' inputs s moved ps e moves made = one-part p.mode p params a atoms whole'.0 (assembled-full params atoms whole'.1) inputs s moved ps e moves made

-- a full value is a message of a port that lists no facts
module _ (types : TypeTable) (t port : ℕ) (shape : slice_get types port ≡ Some (inport t [])) (deep : IsTrue (is_within_depth greatest_depth types t)) (m : Cell Name) (is_full : IsFull types t m) where
  listed : declared_facts types port (0 ∷ []) ≡ map (λ r. init ((0 ∷ []) ++ r)) (part_paths full_parts types t)
  listed = declared-is types t deep port [] shape (λ f h. absurd h)

  abbrev Listed : Fact → Type 0
  Listed f = IsIn f (map (λ r. init ((0 ∷ []) ++ r)) (part_paths full_parts types t))

  abbrev is_value : Fact → Bool
  is_value (init p) = true
  is_value (case p k) = false

  value-listed : (p : Path) → IsTrue (has_value (part m no_parts) p) → Listed (init p)
  value-listed [] h = absurd (false≢true h)
  value-listed (zero ∷ r) h = in-map (λ r. init ((0 ∷ []) ++ r)) r (part_paths full_parts types t) ((full-exact types t m deep is_full r).1 h)
  value-listed (suc i ∷ r) h = absurd (false≢true (sym (nothing_after i r m) ∙ h))

  listed-value : (p : Path) → Listed (init p) → IsTrue (has_value (part m no_parts) p)
  listed-value p h =
      let r = in-map_from (λ r. init ((0 ∷ []) ++ r)) (init p) (part_paths full_parts types t) h in
      subst (λ p. IsTrue (has_value (part m no_parts) p)) (sym (ap path_of r.2)) ((full-exact types t m deep is_full r.0).0 r.1)

  pub full-message : IsMessage types port m
  full-message = (
    subst (λ o. OfType types o m) (sym (ap (option_and_then message_type) shape)) (full-typed types t m is_full),
    record {
      values = λ p. ((λ h. subst (IsIn (init p)) (sym listed) (value-listed p h)), (λ h. listed-value p (subst (IsIn (init p)) listed h)));
      components = λ p k h. absurd (false≢true (ap is_value ((in-map_from (λ r. init ((0 ∷ []) ++ r)) (case p k) (part_paths full_parts types t) (subst (IsIn (case p k)) listed h)).2)));
    },
  )

-- what a callmessage is made of
pub record Made (name : Name → Name) (modes : List Mode) (lost moved : List Path) (b : Frame Name) (y : Option (Parts ⊤)) (x : Composed Name) : Type 0 where
  pub inputs : Parts ⊤
  pub given : y ≡ Some inputs
  pub cut : Frame Name
  pub before : cut.variables ≡ b.variables
  pub loops_before : cut.loops ≡ b.loops
  pub taken : Taken Name
  pub at : take_all moved (drop lost cut) ≡ Some taken
  pub parts : Parts Name
  pub assembled : assemble modes (copy_in (λ s. name (b.number, s)) b.serial inputs) taken.cells ≡ Some parts
  pub named : Name
  pub caller : ℕ
  pub call : ℕ
  pub is : x.message ≡ cell named (a_callmessage caller call) parts

pub composed-of : (name : Name → Name) (modes : List Mode) (lost moved : List Path) (b : Frame Name) (y : Option (Parts ⊤)) (x : Composed Name) → option_and_then (λ inputs. compose name modes inputs lost moved b) y ≡ Some x → Made name modes lost moved b y x
composed-of name modes lost moved b None x e = none-not_some e
composed-of name modes lost moved b (Some inputs) x e = by (take_all moved (drop lost cut)) refl e
  where
    cut : Frame Name
    cut = record b { serial = b.serial + count_in inputs }

    copies : Parts Name
    copies = copy_in (λ s. name (b.number, s)) b.serial inputs

    made : (t : Taken Name) → take_all moved (drop lost cut) ≡ Some t → (z : Option (Parts Name)) → assemble modes copies t.cells ≡ z → option_map (with_message name t.frame) z ≡ Some x → Made name modes lost moved b (Some inputs) x
    made t at None assembled e = none-not_some e
    made t at (Some ps) assembled e = record {
      inputs = inputs;
      given = refl;
      cut = cut;
      before = refl;
      loops_before = refl;
      taken = t;
      at = at;
      parts = ps;
      assembled = assembled;
      named = name (t.frame.number, t.frame.serial);
      caller = t.frame.number;
      call = t.frame.calls;
      is = ap (λ (x : Composed Name). x.message) (sym (some-injective e));
    }

    by : (z : Option (Taken Name)) → take_all moved (drop lost cut) ≡ z → option_and_then (λ (t : Taken Name). option_map (with_message name t.frame) (assemble modes copies t.cells)) z ≡ Some x → Made name modes lost moved b (Some inputs) x
    by None at e = none-not_some e
    by (Some t) at e = made t at (assemble modes copies t.cells) refl e

pub put-composed : (port : Option ℕ) (x : Option (Composed Name)) (n : ℕ) (message : Cell Name) → ◌≡◌ {A = Option (CellWant Name)} (option_and_then (λ port. option_map (λ (c : Composed Name). to_put port c.message) x) port) (Some (to_put n message))
    → (y : Composed Name) × (x ≡ Some y) × (y.message ≡ message)
put-composed None x n message e = none-not_some e
put-composed (Some p) None n message e = none-not_some e
put-composed (Some p) (Some y) n message e = (y, refl, ap (message_or y.message) (some-injective e))

pub given-mode : (m : Mode) → is_inout m ≡ true → (is_given m ≡ true) ⊎ (is_given m ≡ true)
given-mode by_in e = inl refl
given-mode by_inout e = inl refl
given-mode by_out e = absurd (false≢true e)

pub calls-messages : MakesMessages
calls-messages c k takes name has b n message sound inputs needed wants =
    let o = k.port in
    let params = call_parameters c.types c.variables o in
    let same : params ≡ takes.parameters = ap (λ x. list_of parameters_of (option_and_then (slice_get c.types) (option_and_then message_type (option_and_then (slice_get c.types) x)))) takes.leads
    ∙ ap (λ x. list_of parameters_of (option_and_then (slice_get c.types) (option_and_then message_type x))) takes.takes ∙ ap (list_of parameters_of) takes.shape in
    let moved = lent_paths c k in
    let rooms = flat_map (room_for c.types c.variables) (set_by_call c.types c.variables o k.arguments) in
    let there = present c.types c.variables o in
    let fulls = full_of_each c.types c.variables (given c.types c.variables o k.arguments) in
    let among : (x : Path) → IsIn x moved → IsIn x (given c.types c.variables o k.arguments) = λ x h. one x (arguments-split is_inout is_given is_given given-mode params k.arguments x h) in
    let held : (f : Fact) → IsIn f (full_of_each c.types c.variables moved) → IsTrue (has f) = λ f h.
    (let x = in-flat_map_from (full c.types c.variables) f moved h in
    needed f (in-closed c.types c.variables (rooms ++ there ++ fulls) f (in-append_right f (rooms ++ there) fulls (in-flat_map (full c.types c.variables) x.0 f (given c.types c.variables o k.arguments) (among x.0 x.1) x.2)))) in
    let y = put-composed (outport_at o b) (composed name c o k.arguments b) n message wants in
    let m = composed-of name (map (λ (p : Parameter). p.mode) params) (flat_map (λ p. excess_over_full c p b) moved) moved b (inputs_of params k.arguments b.variables) y.0 y.1 in
    let moves = apart-full c has b sound moved (inout_types takes.parameters) takes.lent takes.apart held m.cut m.before m.taken m.at in
    let fits = assembled-full c (λ s. name (b.number, s)) b.variables params k.arguments (subst (λ params. AreFullInputs c b.variables params k.arguments) (sym same) inputs)
    m.inputs b.serial m.taken.cells m.parts m.given (subst (λ params. AreFull c.types (inout_types params) m.taken.cells) (sym same) moves) m.assembled in
    let fits' = subst (λ params. contents_in c.types params m.parts) same fits in
    let is_full : IsFull c.types takes.type (cell m.named (a_callmessage m.caller m.call) m.parts) =
    subst (λ (s : Option Shape). Fits c.types (map_or unfit (λ s. layout whole s (a_callmessage m.caller m.call)) s) m.parts × IsTrue (map_or false (λ s. is_bounded s m.parts) s)) (sym takes.shape) (fits', refl) in
    subst (IsMessage c.types takes.port) (sym m.is ∙ y.2) (full-message c.types takes.type takes.port takes.takes takes.deep (cell m.named (a_callmessage m.caller m.call) m.parts) is_full)
  where
    one : (x : Path) → IsIn x (given c.types c.variables k.port k.arguments) ⊎ IsIn x (given c.types c.variables k.port k.arguments) → IsIn x (given c.types c.variables k.port k.arguments)
    one x (inl h) = h
    one x (inr h) = h
