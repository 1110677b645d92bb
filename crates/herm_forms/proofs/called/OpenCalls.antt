-- Calls that are placed, that come back and that are not answered keep values sound.
use Rattle.std.proofs.Common.{◌≡◌, ◌⊎◌, inl, inr, ℕ, ◌+◌, List, [], ◌∷◌, ◌++◌, map, Bool, true, false, cond, nat_eq, Option, Some, None, option_map, refl, sym, ap, ◌∙◌, subst}
use Rattle.std.specs.Prelude.{slice_get, flat_map, option_and_then, IsTrue, ⊤}
use mathlib.Core.Bool.{false≢true}
use Rattle.herm_model.specs.Lists.{IsIn, any_pass, list_of}
use Rattle.herm_model.specs.Paths.{Path, Fact, path_of, same_fact, is_at_or_below}
use Rattle.herm_model.specs.Types.{Mode, by_in, by_inout, by_out, Parameter, type_at}
use Rattle.herm_model.specs.Facts.{full_facts}
use Rattle.herm_model.specs.Expressions.{Atom, literal, path}
use Rattle.herm_model.specs.Calls.{call_parameters, call_raises, kept_for, is_returned, arguments_by, argument_path}
use Rattle.herm_model.specs.Statements.{Call}
use Rattle.herm_model.specs.FactsOfStatements.{full_of_each, closed, set_by_call}
use Rattle.herm_model.specs.Outcomes.{Outcome, raised, disconnected}
use Rattle.herm_model.specs.Values.{Cell, Parts, cell_at}
use Rattle.herm_model.specs.CellNames.{copy_in, count_in}
use Rattle.herm_model.specs.Finalising.{clear_all}
use Rattle.herm_model.proofs.Beginnings.{below-self}
use Rattle.herm_model.proofs.Lists.{in-flat_map_from, in-append_left, in-append_right, in-append_cases}
use Rattle.herm_model.proofs.Options.{some-injective, none-not_some}
use Rattle.herm_forms.specs.Frames.{Name, Frame, Completion, goes, stays, stuck, if_there, drop, finalise_at_once, Taken, take_all}
use Rattle.herm_forms.specs.Callmessages.{Composed, with_message, compose, assemble}
use Rattle.herm_forms.specs.Excess.{excess_over_full}
use Rattle.herm_forms.specs.Modules.{Module}
use Rattle.herm_forms.specs.Acts.{is_inout, is_out, inputs_of, arguments_at, composed}
use Rattle.herm_forms.specs.OpenCalls.{Calling, lent_paths}
use Rattle.herm_forms.specs.laws.EdgeLaws.{AreSound, held_after}
use Rattle.herm_forms.specs.laws.CallLaws.{without_lent, HasTargets, CallsKeepSound}
use Rattle.herm_forms.proofs.Arrived.{drop-variables}
use Rattle.herm_forms.proofs.forms.PlainForms.{same_body, same_outcome_of, never, same_facts}
use Rattle.herm_forms.proofs.forms.ExcessDropped.{beyond-below}
use Rattle.herm_forms.proofs.called.Returns.{taken-variables, ended-variables}
use Rattle.herm_forms.proofs.called.LostApart.{first-taken}
use Rattle.herm_forms.proofs.called.LessFacts.{is_under, less, IsPath, of-under, AreUnder, same-under, less-less, all-cleared}

-- arguments whose modes pass one of two tests
pub arguments-split : (test a b : Mode → Bool) → ((m : Mode) → test m ≡ true → (a m ≡ true) ⊎ (b m ≡ true)) → (ps : List Parameter) (atoms : List Atom) (p : Path) → IsIn p (arguments_by test ps atoms)
    → IsIn p (arguments_by a ps atoms) ⊎ IsIn p (arguments_by b ps atoms)
arguments-split test a b each [] atoms p h = absurd h
arguments-split test a b each (x ∷ ps) [] p h = absurd h
arguments-split test a b each (x ∷ ps) (literal l ∷ atoms) p h = arguments-split test a b each ps atoms p h
arguments-split test a b each (x ∷ ps) (path y ∷ atoms) p h = by (test x.mode) refl h (λ k. arguments-split test a b each ps atoms p k)
  where
    Of : (Mode → Bool) → Type 0
    Of t = IsIn p (cond (t x.mode) (y ∷ arguments_by t ps atoms) (arguments_by t ps atoms))

    more : (t : Bool) (paths : List Path) → IsIn p paths → IsIn p (cond t (y ∷ paths) paths)
    more true paths h = inr h
    more false paths h = h

    later : IsIn p (arguments_by a ps atoms) ⊎ IsIn p (arguments_by b ps atoms) → Of a ⊎ Of b
    later (inl h) = inl (more (a x.mode) (arguments_by a ps atoms) h)
    later (inr h) = inr (more (b x.mode) (arguments_by b ps atoms) h)

    here : p ≡ y → (a x.mode ≡ true) ⊎ (b x.mode ≡ true) → Of a ⊎ Of b
    here same (inl e) = inl (subst (λ t. IsIn p (cond t (y ∷ arguments_by a ps atoms) (arguments_by a ps atoms))) (sym e) (inl same))
    here same (inr e) = inr (subst (λ t. IsIn p (cond t (y ∷ arguments_by b ps atoms) (arguments_by b ps atoms))) (sym e) (inl same))

    by : (t : Bool) → test x.mode ≡ t → IsIn p (cond t (y ∷ arguments_by test ps atoms) (arguments_by test ps atoms)) → (IsIn p (arguments_by test ps atoms) → IsIn p (arguments_by a ps atoms) ⊎ IsIn p (arguments_by b ps atoms)) → Of a ⊎ Of b
    by true e (inl same) again = here same (each x.mode e)
    by true e (inr h) again = later (again h)
    by false e h again = later (again h)

returned-mode : (m : Mode) → is_returned m ≡ true → (is_inout m ≡ true) ⊎ (is_out m ≡ true)
returned-mode by_in e = absurd (false≢true e)
returned-mode by_inout e = inl refl
returned-mode by_out e = inr refl

inout-mode : (m : Mode) → is_inout m ≡ true → (is_returned m ≡ true) ⊎ (is_returned m ≡ true)
inout-mode by_in e = absurd (false≢true e)
inout-mode by_inout e = inl refl
inout-mode by_out e = absurd (false≢true e)

out-mode : (m : Mode) → is_out m ≡ true → (is_returned m ≡ true) ⊎ (is_returned m ≡ true)
out-mode by_in e = absurd (false≢true e)
out-mode by_inout e = absurd (false≢true e)
out-mode by_out e = inl refl

either : {A : Type 0} → A ⊎ A → A
either (inl x) = x
either (inr x) = x

-- a path that something is taken of is not the empty one
read-path : (p : Path) (ps : Parts Name) (d : Cell Name) → cell_at p ps ≡ Some d → IsPath p
read-path [] ps d e = none-not_some e
read-path (i ∷ q) ps d e = (i, q, refl)

pub typed-path : (c : Module) (p : Path) (t : ℕ) → type_at c.types c.variables p ≡ Some t → IsPath p
typed-path c [] t e = none-not_some e
typed-path c (i ∷ q) t e = (i, q, refl)

taken-paths : (paths : List Path) (b : Frame Name) (t : Taken Name) → take_all paths b ≡ Some t → (p : Path) → IsIn p paths → IsPath p
taken-paths [] b t e p h = absurd h
taken-paths (x ∷ paths) b t e p (inl same) = let f = first-taken x paths b t e in subst IsPath (sym same) (read-path x b.variables f.cell f.at)
taken-paths (x ∷ paths) b t e p (inr h) = let f = first-taken x paths b t e in taken-paths paths _ f.rest f.next p h

below-path : (x p : Path) → IsPath x → is_at_or_below x p ≡ true → IsPath p
below-path x [] is h = absurd (false≢true (sym (ap (λ x. is_at_or_below x []) is.2) ∙ h))
below-path x (j ∷ r) is h = (j, r, refl)

-- what a callmessage is composed of was taken, and its body has what is left
pub record Left (lost moved : List Path) (b : Frame Name) (x : Composed Name) : Type 0 where
  cut : Frame Name
  before : cut.variables ≡ b.variables
  taken : Taken Name
  at : take_all moved (drop lost cut) ≡ Some taken
  left : x.frame.variables ≡ taken.frame.variables

pub composed-left : (name : Name → Name) (modes : List Mode) (lost moved : List Path) (b : Frame Name) (y : Option (Parts ⊤)) (x : Composed Name) → option_and_then (λ inputs. compose name modes inputs lost moved b) y ≡ Some x → Left lost moved b x
composed-left name modes lost moved b None x e = none-not_some e
composed-left name modes lost moved b (Some inputs) x e = by (take_all moved (drop lost cut)) refl e
  where
    cut : Frame Name
    cut = record b { serial = b.serial + count_in inputs }

    made : (t : Taken Name) → take_all moved (drop lost cut) ≡ Some t → (z : Option (Parts Name)) → option_map (with_message name t.frame) z ≡ Some x → Left lost moved b x
    made t at None e = none-not_some e
    made t at (Some ps) e = record { cut = cut; before = refl; taken = t; at = at; left = ap (λ (x : Composed Name). x.frame.variables) (sym (some-injective e)) }

    by : (z : Option (Taken Name)) → take_all moved (drop lost cut) ≡ z → option_and_then (λ (t : Taken Name). option_map (with_message name t.frame) (assemble modes (copy_in (λ s. name (b.number, s)) b.serial inputs) t.cells)) z ≡ Some x → Left lost moved b x
    by None at e = none-not_some e
    by (Some t) at e = made t at (assemble modes (copy_in (λ s. name (b.number, s)) b.serial inputs) t.cells) e

abbrev stays_body : Frame Name → Completion Name → Frame Name
stays_body b (stays b') = b'
stays_body b _ = b

abbrev is_staying : Completion Name → Bool
is_staying (stays b) = true
is_staying _ = false

module _ (c : Module) (k : Calling) (has : Fact → Bool) where
  abbrev pub moved : List Path
  moved = lent_paths c k

  abbrev pub outs : List Path
  outs = arguments_at c is_out k.port k.arguments

  abbrev pub set : List Path
  set = set_by_call c.types c.variables k.port k.arguments

  module _ (b : Frame Name) (sound : AreSound c has b.variables) where
    abbrev lost : List Path
    lost = flat_map (λ p. excess_over_full c p b) moved

    lost-of : (p : Path) → IsIn p lost → (x : Path) × IsIn x moved × (is_at_or_below x p ≡ true)
    lost-of p h =
        let x = in-flat_map_from (λ p. excess_over_full c p b) p moved h in
        (x.0, x.1, beyond-below c.types (type_at c.types c.variables x.0) (list_of (λ t. full_facts c.types t (0 ∷ [])) (type_at c.types c.variables x.0)) x.0 b p x.2)

    under-moved : AreUnder moved (lost ++ moved)
    under-moved p h = by (in-append_cases p lost moved h)
      where
        by : IsIn p lost ⊎ IsIn p moved → IsTrue (is_under moved p)
        by (inl h) = let x = lost-of p h in of-under moved p x.0 x.1 x.2
        by (inr h) = of-under moved p p h (below-self p)

    pub left-sound : (x : Composed Name) → Left lost moved b x → AreSound c (less moved has) x.frame.variables
    left-sound x l =
        let paths = taken-paths moved (drop lost l.cut) l.taken l.at in
        let first = all-cleared c lost (λ p h. let x = lost-of p h in below-path x.0 p (paths x.0 x.1) x.2) has b.variables sound in
        let second = all-cleared c moved paths (less lost has) (clear_all lost b.variables) first in
        let is = l.left ∙ taken-variables moved (drop lost l.cut) l.taken l.at ∙ ap (clear_all moved) (drop-variables lost l.cut ∙ ap (clear_all lost) l.before) in
        subst (AreSound c (less moved has)) (sym is)
        (same_facts c (less moved (less lost has)) (less moved has) (clear_all moved (clear_all lost b.variables))
        (λ f. less-less lost moved has f
        ∙ ap (λ t. cond t false (has f)) (same-under (lost ++ moved) moved (path_of f) under-moved (λ p h. of-under (lost ++ moved) p p (in-append_right p lost moved h) (below-self p)))) second)

    composed-sound : (name : Name → Name) (x : Composed Name) → composed name c k.port k.arguments b ≡ Some x → AreSound c (less moved has) x.frame.variables
    composed-sound name x e =
        left-sound x (composed-left name (map (λ (p : Parameter). p.mode) (call_parameters c.types c.variables k.port)) lost moved b (inputs_of (call_parameters c.types c.variables k.port) k.arguments b.variables) x e)

    placed-sound : (b' : Frame Name) (x : Option (Composed Name)) → ((y : Composed Name) → x ≡ Some y → AreSound c (less moved has) y.frame.variables)
        → if_there (λ (x : Composed Name). stays (record x.frame { call = Some x.call })) x ≡ stays b' → AreSound c (without_lent c k has) b'.variables
    placed-sound b' None sounds is = absurd (false≢true (ap is_staying is))
    placed-sound b' (Some x) sounds is = subst (λ (b : Frame Name). AreSound c (less moved has) b.variables) (ap (stays_body b') is) (sounds x refl)

  pub out-set : (p : Path) → IsIn p outs → IsIn p set
  out-set p h = either (arguments-split is_out is_returned is_returned out-mode (call_parameters c.types c.variables k.port) k.arguments p h)

  pub inout-set : (p : Path) → IsIn p moved → IsIn p set
  inout-set p h = either (arguments-split is_inout is_returned is_returned inout-mode (call_parameters c.types c.variables k.port) k.arguments p h)

  pub set-split : (p : Path) → IsIn p set → IsIn p moved ⊎ IsIn p outs
  set-split p h = arguments-split is_returned is_inout is_out returned-mode (call_parameters c.types c.variables k.port) k.arguments p h

  module _ (targets : HasTargets c k) (none : kept_for (call_raises c.types c.variables k.port) disconnected ≡ []) where
    all-set : AreUnder set (moved ++ outs)
    all-set p h = by (in-append_cases p moved outs h)
      where
        by : IsIn p moved ⊎ IsIn p outs → IsTrue (is_under set p)
        by (inl h) = of-under set p p (inout-set p h) (below-self p)
        by (inr h) = of-under set p p (out-set p h) (below-self p)

    set-all : AreUnder (moved ++ outs) set
    set-all p h = by (set-split p h)
      where
        by : IsIn p moved ⊎ IsIn p outs → IsTrue (is_under (moved ++ outs) p)
        by (inl h) = of-under (moved ++ outs) p p (in-append_left p moved outs h) (below-self p)
        by (inr h) = of-under (moved ++ outs) p p (in-append_right p moved outs h) (below-self p)

    table : (f : Fact) → less outs (less moved has) f ≡ held_after c.types c.variables (Call k.port k.arguments) (raised disconnected) has f
    table f =
        less-less moved outs has f
        ∙ ap (λ t. cond t false (has f)) (same-under (moved ++ outs) set (path_of f) all-set set-all)
        ∙ ap (λ ns. cond (any_pass (same_fact f) (closed c.types c.variables (full_of_each c.types c.variables (flat_map (λ i. argument_path (slice_get k.arguments i)) ns)))) true (cond (is_under set (path_of f)) false (has f))) (sym none)

    -- what the arguments of mode out hold is finalised
    pub disconnected-sound : (b b' : Frame Name) (o : Outcome) → AreSound c (less moved has) b.variables → goes (raised disconnected) (drop outs b) ≡ goes o b' → AreSound c (held_after c.types c.variables (Call k.port k.arguments) o has) b'.variables
    disconnected-sound b b' o sound is =
        let out = all-cleared c outs (λ p h. let t = targets p (out-set p h) in typed-path c p t.0 t.1) (less moved has) b.variables sound in
        let facts = same_facts c (less outs (less moved has)) (held_after c.types c.variables (Call k.port k.arguments) (raised disconnected) has) (clear_all outs b.variables) table out in
        subst (λ o. AreSound c (held_after c.types c.variables (Call k.port k.arguments) o has) b'.variables) (same_outcome_of (raised disconnected) o (drop outs b) b' is)
        (subst (λ (b : Frame Name). AreSound c (held_after c.types c.variables (Call k.port k.arguments) (raised disconnected) has) b.variables) (same_body (raised disconnected) o (drop outs b) b' is)
        (subst (AreSound c (held_after c.types c.variables (Call k.port k.arguments) (raised disconnected) has)) (sym (drop-variables outs b)) facts))

    back-sound : (message : Cell Name) (b' : Frame Name) (o : Outcome) (x : Option (Composed Name)) → ((y : Composed Name) → x ≡ Some y → AreSound c (less moved has) y.frame.variables)
        → if_there (λ (x : Composed Name). goes (raised disconnected) (drop outs (finalise_at_once message x.frame))) x ≡ goes o b' → AreSound c (held_after c.types c.variables (Call k.port k.arguments) o has) b'.variables
    back-sound message b' o None sounds is = never o b' is
    back-sound message b' o (Some x) sounds is =
        disconnected-sound (finalise_at_once message x.frame) b' o (subst (AreSound c (less moved has)) (sym (ended-variables message x.frame)) (sounds x refl)) is

    unanswered-sound : (b b' : Frame Name) (o : Outcome) → AreSound c (less moved has) b.variables → (t : Bool) → cond t (goes (raised disconnected) (drop outs (record b { call = None }))) stuck ≡ goes o b'
        → AreSound c (held_after c.types c.variables (Call k.port k.arguments) o has) b'.variables
    unanswered-sound b b' o sound false is = never o b' is
    unanswered-sound b b' o sound true is = disconnected-sound (record b { call = None }) b' o sound is

pub calls-keep : (c : Module) (k : Calling) → CallsKeepSound c k
calls-keep c k = record {
  placed = λ name place n message has b b' sound is. placed-sound c k has b sound b' (composed name c k.port k.arguments b) (composed-sound c k has b sound name) is;
  came_back = λ targets none name place message has b b' o sound is. back-sound c k has targets none message b' o (composed name c k.port k.arguments b) (composed-sound c k has b sound name) is;
  unanswered = λ targets none n call has b b' o sound is. unanswered-sound c k has targets none b b' o sound (nat_eq n call) is;
}
