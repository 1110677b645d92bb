-- New inports, outports to new processes and messages that a `select` receives keep values sound.
use Rattle.std.proofs.Common.{◌≡◌, ℕ, suc, ◌+◌, List, [], ◌∷◌, map, Bool, true, false, cond, Option, Some, None, refl, sym, ap, ◌∙◌, subst, arith, nat_eq}
use Rattle.std.specs.Prelude.{slice_get, option_and_then}
use borrow.Author.Tests.{eqb-true}
use Rattle.herm_model.specs.Lists.{any_pass, list_of}
use Rattle.herm_model.specs.Paths.{Path, Fact, init, path_of, same_fact, is_at_or_below}
use Rattle.herm_model.specs.Types.{inport, outport, type_at}
use Rattle.herm_model.specs.Statements.{Form, Arm, New, Create, Select}
use Rattle.herm_model.specs.FactsOfStatements.{closed, received_from}
use Rattle.herm_model.specs.Outcomes.{Outcome, ok, arm, raised, depletion}
use Rattle.herm_model.specs.Values.{an_inport, an_outport, Cell, cell, no_parts, has_place}
use Rattle.herm_model.proofs.NothingThere.{nothing-there}
use Rattle.herm_model.proofs.Options.{none-not_some}
use Rattle.herm_journal.specs.Actions.{make_port, make_process}
use Rattle.herm_forms.specs.Frames.{Name, Frame, goes, if_there, putting}
use Rattle.herm_journal.specs.Messages.{CellAction}
use Rattle.herm_forms.specs.Exchanges.{new_inport, create, receive_at, ports_at, place_of_port}
use Rattle.herm_forms.specs.Modules.{Module}
use Rattle.herm_forms.specs.laws.EdgeLaws.{AreSound, held_after}
use Rattle.herm_forms.specs.laws.TargetLaws.{IsForArm, AnswersKeepSound}
use Rattle.herm_forms.proofs.forms.PlainForms.{same_body, same_outcome_of, never}
use Rattle.herm_forms.proofs.forms.NewValues.{typed-by}
use Rattle.herm_forms.proofs.forms.SetTargets.{put-made, own-makes, kept-cond}
use Rattle.herm_forms.proofs.forms.ReceivesToTargets.{message-typed, message-makes, received-is}

-- an exception that leaves all as it was
left-alone : (c : Module) (form : Form) (x : ℕ) (has : Fact → Bool) (b b' : Frame Name) (o : Outcome) → AreSound c (held_after c.types c.variables form (raised x) has) b.variables → goes (raised x) b ≡ goes o b'
    → AreSound c (held_after c.types c.variables form o has) b'.variables
left-alone c form x has b b' o sound is =
    subst (λ o. AreSound c (held_after c.types c.variables form o has) b'.variables) (same_outcome_of (raised x) o b b' is)
    (subst (λ (b : Frame Name). AreSound c (held_after c.types c.variables form (raised x) has) b.variables) (same_body (raised x) o b b' is) sound)

module _ (c : Module) (i : ℕ) (q : List ℕ) (t : ℕ) (type : type_at c.types c.variables (i ∷ q) ≡ Some t) (has : Fact → Bool) (name : Name → Name) where
  inport-kept : (message : ℕ) (declared : List Fact) → slice_get c.types t ≡ Some (inport message declared) → (action : CellAction Name) (b b' : Frame Name) (o : Outcome) → AreSound c has b.variables
      → new_inport name (i ∷ q) action b ≡ goes o b' → AreSound c (held_after c.types c.variables (New (i ∷ q)) o has) b'.variables
  inport-kept message declared shape (make_port (Some n)) b b' o sound is =
      let d = cell (name (b.number, b.serial)) (an_inport n) no_parts in
      put-made c i q t type d (typed-by c.types t (inport message declared) (name (b.number, b.serial)) (an_inport n) no_parts shape tt refl) (init (i ∷ q) ∷ []) (own-makes c i q d (λ j r. nothing-there Name (j ∷ r))) (New (i ∷ q)) ok has has
      (λ f. kept-cond (any_pass (same_fact f) (closed c.types c.variables (init (i ∷ q) ∷ []))) (is_at_or_below (i ∷ q) (path_of f)) (has f))
      (record b { serial = suc b.serial }) b' o sound (has_place b.variables (i ∷ q)) refl is
  inport-kept message declared shape (make_port None) b b' o sound is = left-alone c (New (i ∷ q)) depletion has b b' o sound is
  inport-kept message declared shape action b b' o sound is = never o b' is

  created-kept : (port process : ℕ) → slice_get c.types t ≡ Some (outport port) → (action : CellAction Name) (b b' : Frame Name) (o : Outcome) → AreSound c has b.variables
      → create name (i ∷ q) action b ≡ goes o b' → AreSound c (held_after c.types c.variables (Create (i ∷ q) process) o has) b'.variables
  created-kept port process shape (make_process code (Some made)) b b' o sound is =
      let d = cell (name (b.number, suc b.serial)) (an_outport made.1) no_parts in
      put-made c i q t type d (typed-by c.types t (outport port) (name (b.number, suc b.serial)) (an_outport made.1) no_parts shape tt refl) (init (i ∷ q) ∷ []) (own-makes c i q d (λ j r. nothing-there Name (j ∷ r))) (Create (i ∷ q) process) ok has has
      (λ f. kept-cond (any_pass (same_fact f) (closed c.types c.variables (init (i ∷ q) ∷ []))) (is_at_or_below (i ∷ q) (path_of f)) (has f))
      (record b { serial = suc (suc b.serial) }) b' o sound (has_place b.variables (i ∷ q)) refl is
  created-kept port process shape (make_process code None) b b' o sound is = left-alone c (Create (i ∷ q) process) depletion has b b' o sound is
  created-kept port process shape action b b' o sound is = never o b' is

-- the arm at which a message is received
received-arm : (arms : List Arm) (n place : ℕ) (m : Cell Name) (b b' : Frame Name) (o : Outcome) → receive_at (map (λ a. a.target) arms) n place m b ≡ goes o b'
    → (k : ℕ) × (a : Arm) × (slice_get arms k ≡ Some a) × (place ≡ n + k) × (putting a.target (arm place) m b ≡ goes o b')
received-arm [] n place m b b' o is = never o b' is
received-arm (a ∷ arms) n place m b b' o is = by (nat_eq n place) refl (received-arm arms (suc n) place m b b' o) is
  where
    Found : Type 0
    Found = (k : ℕ) × (x : Arm) × (slice_get (a ∷ arms) k ≡ Some x) × (place ≡ n + k) × (putting x.target (arm place) m b ≡ goes o b')

    by : (t : Bool) → nat_eq n place ≡ t → (receive_at (map (λ a. a.target) arms) (suc n) place m b ≡ goes o b' → (k : ℕ) × (x : Arm) × (slice_get arms k ≡ Some x) × (place ≡ suc n + k) × (putting x.target (arm place) m b ≡ goes o b'))
        → cond t (putting a.target (arm place) m b) (receive_at (map (λ a. a.target) arms) (suc n) place m b) ≡ goes o b' → Found
    by true e again is = let same = eqb-true n place e in (0, a, refl, omega (arith, same), is)
    by false e again is = let r = again is in let at = r.3 in (suc r.0, r.1, r.2, omega (arith, at), r.4)

module _ (c : Module) (arms : List Arm) (has : Fact → Bool) (m : Cell Name) (b b' : Frame Name) (o : Outcome) (sound : AreSound c has b.variables) where
  arm-kept : (n : ℕ) (a : Arm) → slice_get arms n ≡ Some a → (x : Path) → a.target ≡ x → IsForArm c a m → putting a.target (arm n) m b ≡ goes o b' → AreSound c (held_after c.types c.variables (Select arms) o has) b'.variables
  arm-kept n a at [] x for is = none-not_some (sym (ap (type_at c.types c.variables) x) ∙ for.target)
  arm-kept n a at (i ∷ q) x for is =
      let type : type_at c.types c.variables (i ∷ q) ≡ Some for.type = ap (type_at c.types c.variables) (sym x) ∙ for.target in
      let made = received_from c.types c.variables a.port (i ∷ q) in
      put-made c i q for.type type m (message-typed c i q for.port m for.is_message for.type for.takes) made (message-makes c i q for.port m for.is_message made (received-is c (i ∷ q) for.port a.port for.from)) (Select arms) (arm n) has has
      (λ f. kept-cond (any_pass (same_fact f) (closed c.types c.variables made)) (is_at_or_below (i ∷ q) (path_of f)) (has f)
      ∙ ap (λ x. cond (any_pass (same_fact f) (closed c.types c.variables (received_from c.types c.variables a.port x))) true (cond (any_pass (λ p. is_at_or_below p (path_of f)) (x ∷ [])) false (has f))) (sym x)
      ∙ ap (λ (s : Option Arm). cond (any_pass (same_fact f) (closed c.types c.variables (list_of (λ (a : Arm). received_from c.types c.variables a.port a.target) s))) true (cond (any_pass (λ p. is_at_or_below p (path_of f)) (list_of (λ (a : Arm). a.target ∷ []) s)) false (has f))) (sym at))
      b b' o sound (has_place b.variables (i ∷ q)) refl (ap (λ x. putting x (arm n) m b) (sym x) ∙ is)

  selected-at : (place : ℕ) → ((a : Arm) → slice_get arms place ≡ Some a → IsForArm c a m) → receive_at (map (λ a. a.target) arms) 0 place m b ≡ goes o b' → AreSound c (held_after c.types c.variables (Select arms) o has) b'.variables
  selected-at place for is =
      let r = received-arm arms 0 place m b b' o is in
      let same : place ≡ r.0 = let at = r.3 in omega (arith, at) in
      let there : slice_get arms place ≡ Some r.1 = ap (slice_get arms) same ∙ r.2 in
      arm-kept place r.1 there (r.1.target) refl (for r.1 there) r.4

  selected : (place : Option ℕ) → ((n : ℕ) (a : Arm) → slice_get arms n ≡ Some a → place ≡ Some n → IsForArm c a m) → if_there (λ place. receive_at (map (λ a. a.target) arms) 0 place m b) place ≡ goes o b'
      → AreSound c (held_after c.types c.variables (Select arms) o has) b'.variables
  selected None for is = never o b' is
  selected (Some n) for is = selected-at n (λ a at. for n a at refl) is

pub answers-keep : (c : Module) → AnswersKeepSound c
answers-keep c = record {
  new_inport = λ i q t message declared type shape name place action has b b' o sound is. inport-kept c i q t type has name message declared shape action b b' o sound is;
  create = λ i q t port process type shape name place action has b b' o sound is. created-kept c i q t type has name port process shape action b b' o sound is;
  select = λ arms has b b' o from k message for sound is. selected c arms has message b b' o sound (option_and_then (place_of_port 0 from) (ports_at (map (λ a. a.port) arms) b)) for is;
}
