-- The callmessage that a call makes is that of its caller and its call, and the one that a return ends is that which it answers.
use Rattle.std.proofs.Common.{◌≡◌, inl, inr, ℕ, ◌+◌, List, [], ◌∷◌, ◌++◌, map, Bool, true, false, cond, Option, Some, None, option_map, refl, sym, ap, subst, ◌∙◌, append_assoc}
use Rattle.std.specs.Prelude.{flat_map, option_and_then, filter, ⊤}
use Rattle.herm_model.specs.Lists.{IsIn, list_of}
use Rattle.herm_model.specs.Paths.{Path, is_at_or_below}
use Rattle.herm_model.specs.Types.{Mode, Parameter, type_at}
use Rattle.herm_model.specs.Facts.{full_facts}
use Rattle.herm_model.specs.Expressions.{Atom}
use Rattle.herm_model.specs.Calls.{call_parameters}
use Rattle.herm_model.specs.FactsOfStatements.{parameters_at}
use Rattle.herm_model.specs.Targets.{Target}
use Rattle.herm_model.specs.Values.{Kind, kind_of, a_callmessage, Cell, cell, Parts, cell_at, set_at, clear_at, change_inside, has_value}
use Rattle.herm_model.specs.CellNames.{count_in, copy_in}
use Rattle.herm_model.specs.Finalising.{clear_all, excess}
use Rattle.herm_model.proofs.Lists.{in-map_from, in-flat_map_from}
use Rattle.herm_model.proofs.Beginnings.{begins-with}
use Rattle.herm_model.proofs.Options.{some-injective, none-not_some, chain-some, map-some}
use Rattle.herm_model.proofs.Places.{cell_at-set_above}
use Rattle.herm_journal.specs.Actions.{to_answer}
use Rattle.herm_journal.specs.Messages.{CellReply, CellWant}
use Rattle.herm_forms.specs.Frames.{Name, Loop, Frame, finalise_parts, finalise_old, cleared, drop_at, drop, Taken, take_all}
use Rattle.herm_forms.specs.Callmessages.{Composed, compose, assemble, with_message}
use Rattle.herm_forms.specs.ReturnForms.{caller_of, return_wants}
use Rattle.herm_forms.specs.EdgeFinalising.{arrive, keeps}
use Rattle.herm_forms.specs.LeavingLoops.{keeps_loop, finalise_loops}
use Rattle.herm_forms.specs.Excess.{excess_over_full}
use Rattle.herm_forms.specs.Modules.{Module}
use Rattle.herm_forms.specs.Acts.{arguments_at, is_inout, inputs_of, composed, given_back}
use Rattle.herm_forms.proofs.Arrived.{drop-variables}
use Rattle.herm_forms.proofs.KeptNumbers.{is-compose}
use Rattle.herm_forms.proofs.Begun.{kind_load, source_load}
use Rattle.herm_forms.proofs.called.Returns.{taken-variables}
use Rattle.herm_forms.proofs.forms.ExcessDropped.{beyond-below}

-- a call's callmessage is of the caller and of its number
module _ (name : Name → Name) where
  message-kind : (b : Frame Name) (o : Option (Parts Name)) (x : Composed Name) → option_map (with_message name b) o ≡ Some x → kind_of x.message ≡ a_callmessage x.frame.number x.call
  message-kind b o x is = let m = map-some (with_message name b) o x is in subst (λ (x : Composed Name). kind_of x.message ≡ a_callmessage x.frame.number x.call) m.2 refl

  compose-kind : (modes : List Mode) (inputs : Parts ⊤) (lost moved : List Path) (b : Frame Name) (x : Composed Name) → compose name modes inputs lost moved b ≡ Some x → kind_of x.message ≡ a_callmessage x.frame.number x.call
  compose-kind modes inputs lost moved b x is =
      let copies = copy_in (λ s. name (b.number, s)) b.serial inputs in
      let t = chain-some (λ (taken : Taken Name). option_map (with_message name taken.frame) (assemble modes copies taken.cells)) (take_all moved (drop lost (record b { serial = b.serial + count_in inputs }))) x is in
      message-kind t.0.frame (assemble modes copies t.0.cells) x t.2

  -- which is the one that composes it
  pub composed-kind : (modes : List Mode) (inputs : Parts ⊤) (lost moved : List Path) (b : Frame Name) (x : Composed Name) → compose name modes inputs lost moved b ≡ Some x → kind_of x.message ≡ a_callmessage b.number x.call
  composed-kind modes inputs lost moved b x is = compose-kind modes inputs lost moved b x is ∙ ap (λ n. a_callmessage n x.call) (is-compose name b.number modes inputs lost moved b x refl is)

  pub call-kind : (c : Module) (o : Path) (arguments : List Atom) (b : Frame Name) (x : Composed Name) → composed name c o arguments b ≡ Some x → kind_of x.message ≡ a_callmessage b.number x.call
  call-kind c o arguments b x is =
      let modes = map (λ (p : Parameter). p.mode) (call_parameters c.types c.variables o) in
      let moved = arguments_at c is_inout o arguments in
      let lost = flat_map (λ (p : Path). excess_over_full c p b) moved in
      let r = chain-some (λ inputs. compose name modes inputs lost moved b) (inputs_of (call_parameters c.types c.variables o) arguments b.variables) x is in
      composed-kind modes r.0 lost moved b x r.2

-- what is cleared below a path leaves the kind of the cell there
abbrev IsBelow : Path → Path → Type 0
IsBelow m p = (j : ℕ) × (r : Path) × (p ≡ m ++ j ∷ r)

kind-inside : (f : Parts Name → Parts Name) (o : Option (Cell Name)) → option_map kind_of (option_map (change_inside f) o) ≡ option_map kind_of o
kind-inside f None = refl
kind-inside f (Some (cell n k ps)) = refl

module _ (i : ℕ) (q : Path) where
  kind-cleared : (p : Path) (ps : Parts Name) → IsBelow (i ∷ q) p → option_map kind_of (cell_at (i ∷ q) (clear_at p ps)) ≡ option_map kind_of (cell_at (i ∷ q) ps)
  kind-cleared p ps below =
      subst (λ p. option_map kind_of (cell_at (i ∷ q) (clear_at p ps)) ≡ option_map kind_of (cell_at (i ∷ q) ps)) (sym below.2)
      (ap (option_map kind_of) (cell_at-set_above i q below.0 below.1 None ps) ∙ kind-inside (set_at (below.0 ∷ below.1) None) (cell_at (i ∷ q) ps))

  kind-cleared_all : (paths : List Path) (ps : Parts Name) → ((p : Path) → IsIn p paths → IsBelow (i ∷ q) p) → option_map kind_of (cell_at (i ∷ q) (clear_all paths ps)) ≡ option_map kind_of (cell_at (i ∷ q) ps)
  kind-cleared_all [] ps below = refl
  kind-cleared_all (p ∷ paths) ps below = kind-cleared_all paths (clear_at p ps) (λ r h. below r (inr h)) ∙ kind-cleared p ps (below p (inl refl))

  given-below : (places : List ℕ) (p : Path) → IsIn p (map (λ n. (i ∷ q) ++ n ∷ []) places) → IsBelow (i ∷ q) p
  given-below places p h = let n = in-map_from (λ n. (i ∷ q) ++ n ∷ []) p places h in (n.0, [], n.2)

  under-below : (x p : Path) → IsBelow (i ∷ q) x → is_at_or_below x p ≡ true → IsBelow (i ∷ q) p
  under-below x p below at =
      let b = begins-with x p at in
      (below.0, below.1 ++ b.0, b.1 ∙ ap (◌++ b.0) below.2 ∙ append_assoc (i ∷ q) (below.0 ∷ below.1) b.0)

  lost-below : (c : Module) (b : Frame Name) (places : List ℕ) (p : Path) → IsIn p (flat_map (λ p. excess_over_full c p b) (map (λ n. (i ∷ q) ++ n ∷ []) places)) → IsBelow (i ∷ q) p
  lost-below c b places p h =
      let x = in-flat_map_from (λ p. excess_over_full c p b) p (map (λ n. (i ∷ q) ++ n ∷ []) places) h in
      under-below x.0 p (given-below places x.0 x.1) (beyond-below c.types (type_at c.types c.variables x.0) (list_of (λ t. full_facts c.types t (0 ∷ [])) (type_at c.types c.variables x.0)) x.0 b p x.2)

  -- so the callmessage that a return ends is there as it was
  module _ (extra : Kind → ℕ) (c : Module) (places : List ℕ) (b : Frame Name) where
    abbrev given : List Path
    given = map (λ n. (i ∷ q) ++ n ∷ []) places

    pub source-kind : (t : Taken Name) → given_back c given b ≡ Some t → option_map kind_of (cell_at (i ∷ q) t.frame.variables) ≡ option_map kind_of (cell_at (i ∷ q) b.variables)
    source-kind t is =
        let lost = flat_map (λ (p : Path). excess_over_full c p b) given in
        let are = taken-variables given (drop lost b) t is ∙ ap (clear_all given) (drop-variables lost b) in
        ap (λ (ps : Parts Name). option_map kind_of (cell_at (i ∷ q) ps)) are
        ∙ kind-cleared_all given (clear_all lost b.variables) (given-below places) ∙ kind-cleared_all lost b.variables (lost-below c b places)

caller-kind : (o : Option (Cell Name)) (to : ℕ × ℕ) → option_and_then caller_of o ≡ Some to → option_map kind_of o ≡ Some (a_callmessage to.0 to.1)
caller-kind None to is = none-not_some is
caller-kind (Some (cell n (a_callmessage caller call) ps)) to is = ap (λ (x : ℕ × ℕ). Some (a_callmessage x.0 x.1)) (some-injective is)
caller-kind (Some (cell n k ps)) to is = none-not_some is

load-kind : (extra : Kind → ℕ) (o : Option (Cell Name)) (k : Kind) → option_map kind_of o ≡ Some k → kind_load extra o ≡ extra k
load-kind extra None k is = none-not_some is
load-kind extra (Some d) k is = ap extra (some-injective is)

-- what a return wants to answer, and the callmessage that it ends
pub record Answered (extra : Kind → ℕ) (m : Path) (taken : Option (Taken Name)) (want : CellWant Name) : Type 0 where
  pub caller : ℕ
  pub call : ℕ
  pub reply : CellReply Name
  pub is : want ≡ to_answer caller call reply
  pub ends : source_load extra m taken ≡ extra (a_callmessage caller call)

pub return-ends : (extra : Kind → ℕ) (c : Module) (m : Path) (places : List ℕ) (reply : List (Cell Name) → CellReply Name) (b : Frame Name) (want : CellWant Name)
    → return_wants reply (given_back c (parameters_at c.types c.variables m places) b) m b ≡ Some want → Answered extra m (given_back c (parameters_at c.types c.variables m places) b) want
return-ends extra c [] places reply b want is = none-not_some is
return-ends extra c (i ∷ q) places reply b want is =
    let taken = given_back c (parameters_at c.types c.variables (i ∷ q) places) b in
    let to = chain-some (λ (to : ℕ × ℕ). option_map (λ (t : Taken Name). to_answer to.0 to.1 (reply t.cells)) taken) (option_and_then caller_of (cell_at (i ∷ q) b.variables)) want is in
    let t = map-some (λ (t : Taken Name). to_answer to.0.0 to.0.1 (reply t.cells)) taken want to.2 in
    record {
      caller = to.0.0;
      call = to.0.1;
      reply = reply t.0.cells;
      is = sym t.2;
      ends = ap (source_load extra (i ∷ q)) t.1
          ∙ load-kind extra (cell_at (i ∷ q) t.0.frame.variables) (a_callmessage to.0.0 to.0.1) (source-kind i q extra c places b t.0 t.1 ∙ caller-kind (cell_at (i ∷ q) b.variables) to.0 to.1);
    }

-- drops and edges leave the number of the open call
old-call : (o : Option (Cell Name)) (b : Frame Name) → (finalise_old o b).call ≡ b.call
old-call None b = refl
old-call (Some d) b = refl

pub drop-call : (paths : List Path) (b : Frame Name) → (drop paths b).call ≡ b.call
drop-call [] b = refl
drop-call (p ∷ paths) b = drop-call paths (drop_at p b) ∙ old-call (cell_at p b.variables) (cleared p b)

one-call : (t : Bool) (l : Loop Name) (b : Frame Name) → (cond t b (finalise_parts l.rows b)).call ≡ b.call
one-call true l b = refl
one-call false l b = refl

loops-call : (stay : ℕ → Bool) (loops : List (Loop Name)) (b : Frame Name) → (finalise_loops stay loops b).call ≡ b.call
loops-call stay [] b = refl
loops-call stay (l ∷ loops) b = loops-call stay loops (cond (stay l.statement) b (finalise_parts l.rows b)) ∙ one-call (stay l.statement) l b

pub arrive-call : (c : Module) (t : Target) (b : Frame Name) → (arrive c t b).call ≡ b.call
arrive-call c t b =
    let lost = excess c.types c.variables (has_value b.variables) (keeps c t) in
    let left = drop lost b in
    loops-call (keeps_loop c t) left.loops (record left { loops = filter (λ (l : Loop Name). keeps_loop c t l.statement) left.loops }) ∙ drop-call lost b
