-- The port at which a process takes a message is one that it looks at, and its type there is that of an inport that it has.
use Rattle.std.proofs.Common.{◌≡◌, inl, inr, ℕ, List, [], ◌∷◌, map, find, Bool, true, false, cond, Option, Some, None, option_map, option_and_then, refl, sym, ap, ◌∙◌, subst}
use Rattle.std.proofs.Math.Bool.{or-false}
use Rattle.std.specs.Prelude.{nat_eq}
use Rattle.herm_model.specs.Lists.{IsIn, any_pass, list_of}
use Rattle.herm_model.specs.Paths.{Path}
use Rattle.herm_model.specs.Types.{type_at}
use Rattle.herm_model.specs.Statements.{Form, New, Send, Receive, Select, Call, Return, ReturnBy, Create, Arm}
use Rattle.herm_model.specs.Nodes.{Node}
use Rattle.herm_model.specs.Values.{a_callmessage, an_inport, Cell, cell, kind_of, read_at}
use Rattle.herm_model.specs.Typed.{HaveTypes}
use Rattle.herm_model.proofs.Lists.{found-in}
use Rattle.herm_model.proofs.Options.{some-injective, none-not_some, chain-some, map-some}
use Rattle.herm_journal.specs.Actions.{new_port, new_process, to_put, to_take, to_close, to_answer, to_hear}
use Rattle.herm_journal.specs.Actions
use Rattle.herm_journal.proofs.Rising.{same-true}
use Rattle.herm_forms.specs.Frames.{Name, Frame}
use Rattle.herm_forms.specs.Frames
use Rattle.herm_forms.specs.Forms.{inport_number}
use Rattle.herm_journal.specs.Messages.{CellWant, CellReply}
use Rattle.herm_forms.specs.Exchanges.{inport_at, outport_at, ports_at}
use Rattle.herm_forms.specs.ClosesAndAnswers
use Rattle.herm_forms.specs.Callmessages as callmessages
use Rattle.herm_forms.specs.ReturnForms
use Rattle.herm_forms.specs.Modules.{Module}
use Rattle.herm_source.specs.States.{State, node_at, item_or, call_or_statement, wanted, wanted_next, own_name}
use Rattle.herm_forms.specs.Acts.{is_action, wants}
use Rattle.herm_source.specs.SeenBySystem.{ports_of, looks_at, port_type}
use Rattle.herm_system.specs.Kinds.{each, typed_in}
use Rattle.herm_runs.proofs.ActionParts.{cond-both}
use Rattle.herm_held.proofs.TypedReads.{type-read}
use Rattle.herm_runs.proofs.SuitsStates.{is-some_of}

-- what is found of a list that has such an element
pub find-some : {X : Type 0} (test : X → Bool) (x : X) (xs : List X) → IsIn x xs → test x ≡ true → (y : X) × (find test xs ≡ Some y)
find-some test x [] h e = absurd h
find-some test x (z ∷ xs) (inl is) e = (z, ap (λ b. cond b (Some z) (find test xs)) (subst (λ y. test y ≡ true) is e))
find-some {X} test x (z ∷ xs) (inr is) e = by_test (test z) (find-some test x xs is e)
  where
    by_test : (b : Bool) → (y : X) × (find test xs ≡ Some y) → (y : X) × (cond b (Some z) (find test xs) ≡ Some y)
    by_test true h = (z, refl)
    by_test false h = h

some-looked : (n : ℕ) (i : Path) (s : State Name) → inport_at i s.frame ≡ Some n → looks_at n s i ≡ true
some-looked n i s e = ap (λ o. any_pass (nat_eq n) (list_of (λ k. k ∷ []) o)) e ∙ or-false (nat_eq n n) ∙ same-true n

-- a port of the list is that of an inport at one of the paths
port-looked : (paths : List Path) (b : Frame Name) (ports : List ℕ) (n : ℕ) → ports_at paths b ≡ Some ports → IsIn n ports → (i : Path) × IsIn i paths × (inport_at i b ≡ Some n)
port-looked [] b ports n e h = absurd (subst (IsIn n) (sym (some-injective e)) h)
port-looked (i ∷ paths) b ports n e h =
    let x = chain-some (λ port. option_map (port ∷◌) (ports_at paths b)) (inport_at i b) ports e in
    let y = map-some (x.0 ∷◌) (ports_at paths b) ports x.2 in
    by_place x.0 y.0 x.1 (port-looked paths b y.0 n y.1) (subst (IsIn n) (sym y.2) h)
  where
    by_place : (k : ℕ) (more : List ℕ) → inport_at i b ≡ Some k → (IsIn n more → (j : Path) × IsIn j paths × (inport_at j b ≡ Some n)) → IsIn n (k ∷ more) → (j : Path) × IsIn j (i ∷ paths) × (inport_at j b ≡ Some n)
    by_place k more at later (inl same) = (i, inl refl, at ∙ ap (λ m. Some m) (sym same))
    by_place k more at later (inr in_more) = let z = later in_more in (z.0, inr z.1, z.2)

-- the ports that are wanted are those of the form's paths
abbrev taken_from : CellWant Name → Option (List ℕ)
taken_from (to_take ports) = Some ports
taken_from w = None

not-take : {A : Type 0} (w : CellWant Name) (ports : List ℕ) → taken_from w ≡ None → w ≡ to_take ports → A
not-take w ports none e = none-not_some (sym none ∙ ap taken_from e)

same-ports : (paths : List Path) (b : Frame Name) (found ports : List ℕ) (w : CellWant Name) → ports_at paths b ≡ Some found → taken_from w ≡ Some found → w ≡ to_take ports → ports_at paths b ≡ Some ports
same-ports paths b found ports w at from e = at ∙ sym from ∙ ap taken_from e

return-takes : {A : Type 0} (ports : List ℕ) (reply : List (Cell Name) → CellReply Name) (taken : Option (Frames.Taken Name)) (m : Path) (b : Frame Name) → ReturnForms.return_wants reply taken m b ≡ Some (to_take ports) → A
return-takes ports reply taken m b e =
    let x = chain-some (λ (c : ℕ × ℕ). option_map (λ (t : Frames.Taken Name). to_answer c.0 c.1 (reply t.cells)) taken) _ (to_take ports) e in
    let y = map-some (λ (t : Frames.Taken Name). to_answer x.0.0 x.0.1 (reply t.cells)) taken (to_take ports) x.2 in
    not-take (to_answer x.0.0 x.0.1 (reply (y.0).cells)) ports refl y.2

form-takes : (c : Module) (form : Form) (b : Frame Name) (ports : List ℕ) → wants own_name c form b ≡ Some (to_take ports) → ports_at (ports_of form) b ≡ Some ports
form-takes c (New x) b ports e = not-take new_port ports refl (some-injective e)
form-takes c (Send x o) b ports e =
    let x = chain-some _ (outport_at o b) (to_take ports) e in
    let y = map-some (to_put x.0) _ (to_take ports) x.2 in
    not-take (to_put x.0 y.0) ports refl y.2
form-takes c (Receive x i) b ports e =
    let x = map-some (λ port. to_take (port ∷ [])) (inport_at i b) (to_take ports) e in
    same-ports (i ∷ []) b (x.0 ∷ []) ports (to_take (x.0 ∷ [])) (ap (option_and_then (λ port. Some (port ∷ []))) x.1) refl x.2
form-takes c (Select arms) b ports e =
    let x = map-some to_take (ports_at (map (λ (a : Arm). a.port) arms) b) (to_take ports) e in
    same-ports (map (λ (a : Arm). a.port) arms) b x.0 ports (to_take x.0) x.1 refl x.2
form-takes c (Call o arguments) b ports e =
    let x = chain-some _ (outport_at o b) (to_take ports) e in
    let y = map-some (λ (k : callmessages.Composed Name). to_put x.0 k.message) _ (to_take ports) x.2 in
    not-take (to_put x.0 (y.0).message) ports refl y.2
form-takes c (Return m) b ports e = return-takes ports _ _ m b e
form-takes c (ReturnBy m x) b ports e = return-takes ports _ _ m b e
form-takes c (Create o process) b ports e = not-take (new_process process) ports refl (some-injective e)
form-takes c form b ports e = none-not_some e

-- a take is wanted at a statement alone
record Takes (c : Module) (s : State Name) (ports : List ℕ) : Type 0 where
  node : Node
  here : node_at c s.point ≡ Some node
  looked : ports_at (ports_of node.form) s.frame ≡ Some ports

item-takes : {A : Type 0} (item : Cell Name) (ports : List ℕ) → ClosesAndAnswers.work_wants item ≡ Some (to_take ports) → A
item-takes (cell n (an_inport port) qs) ports e = not-take (to_close port) ports refl (some-injective e)
item-takes (cell n (a_callmessage caller call) qs) ports e = not-take (to_answer caller call Actions.gone) ports refl (some-injective e)
item-takes (cell n k qs) ports e = none-not_some e

takes : (c : Module) (s : State Name) (ports : List ℕ) → wanted own_name c s ≡ Some (to_take ports) → Takes c s ports
takes c s ports e = by_next s.frame.work s.frame.call (node_at c s.point) refl e
  where
    by_next : (work : List (Cell Name)) (call : Option ℕ) (at : Option Node) → node_at c s.point ≡ at → wanted_next own_name c s.frame (item_or work (call_or_statement call at)) ≡ Some (to_take ports) → Takes c s ports
    by_next (item ∷ work) call at here e = item-takes item ports e
    by_next [] call None here e = none-not_some e
    by_next [] (Some k) (Some n) here e = not-take to_hear ports refl (some-injective e)
    by_next [] None (Some n) here e =
        let x = cond-both (is_action c n.form) (wants own_name c n.form s.frame) (to_take ports) e in
        record { node = n; here = here; looked = form-takes c n.form s.frame ports x.1 }

-- the type of the port, and the inport of this type that the process has
pub record PortTyped (c : Module) (s : State Name) (n : ℕ) : Type 0 where
  pub type : ℕ
  pub at : port_type c s n ≡ Some type
  pub typed : IsIn (type, an_inport n) (typed_in c.types (each c.variables) s.frame.variables)

kind-of : (c : Cell Name) (n : ℕ) → inport_number c ≡ Some n → kind_of c ≡ an_inport n
kind-of (cell m (an_inport port) qs) n e = ap an_inport (some-injective e)
kind-of (cell m k qs) n e = none-not_some e

pub port-typed : (c : Module) (s : State Name) (ports : List ℕ) (n : ℕ) → HaveTypes c.types c.variables s.frame.variables → wanted own_name c s ≡ Some (to_take ports) → IsIn n ports → PortTyped c s n
port-typed c s ports n h e member =
    let x = takes c s ports e in
    let paths = ports_of (x.node).form in
    let i = port-looked paths s.frame ports n x.looked member in
    let first = find-some (looks_at n s) i.0 paths i.1 (some-looked n i.0 s i.2) in
    let read = chain-some inport_number (read_at first.0 s.frame.variables) n (is-some_of n (inport_at first.0 s.frame) (found-in (looks_at n s) first.0 paths first.1).1) in
    let t = type-read Name c.types c.variables first.0 s.frame.variables read.0 h read.1 in
    record {
      type = t.type;
      at = ap (option_and_then (λ (node : Node). option_and_then (type_at c.types c.variables) (find (looks_at n s) (ports_of node.form)))) x.here
          ∙ ap (option_and_then (type_at c.types c.variables)) first.1 ∙ t.at;
      typed = subst (λ k. IsIn (t.type, k) (typed_in c.types (each c.variables) s.frame.variables)) (kind-of read.0 n read.2) t.typed;
    }
