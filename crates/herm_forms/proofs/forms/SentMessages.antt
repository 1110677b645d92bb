-- What a send wants to put is a message of the port, and a message that comes back keeps values sound.
use Rattle.std.proofs.Common.{◌≡◌, ◌⊎◌, inl, inr, ℕ, zero, suc, ◌<◌, List, [], ◌∷◌, ◌++◌, map, Bool, true, false, cond, not, ◌&&◌, ◌||◌, Option, Some, None, option_map, refl, sym, ap, ◌∙◌, subst, arith}
use Rattle.std.proofs.lemmas.List.{append-nil}
use Rattle.std.specs.Prelude.{slice_get, IsTrue, is_some, option_and_then, flat_map}
use mathlib.Core.Bool.{false≢true}
use Rattle.herm_model.specs.Lists.{IsIn, any_pass, list_of, map_or}
use Rattle.herm_model.specs.Paths.{Path, Fact, init, case, path_of, same_fact, is_at_or_below}
use Rattle.herm_model.specs.Types.{TypeTable, inport, type_at, type_below, full_parts, part_paths, is_within_depth, greatest_depth}
use Rattle.herm_model.specs.Facts.{facts_to, prefixes, with_prefixes, IsClosed, said_at, message_facts, declared_facts, component_count, IsFactOf}
use Rattle.herm_model.specs.Calls.{message_type, inport_at}
use Rattle.herm_model.specs.Statements.{Send}
use Rattle.herm_model.specs.FactsOfStatements.{present, sent_to, closed, needs}
use Rattle.herm_model.specs.Outcomes.{Outcome, raised, disconnected}
use Rattle.herm_model.specs.Values.{Cell, no_parts, part, cell_at, has_place}
use Rattle.herm_model.specs.FactsOfValues.{is_component, satisfies}
use Rattle.herm_model.proofs.Lists.{in-map, in-map_from, in-append_left, in-append_cases, in-flat_map_from, cons-not_nil, cons-head, cons-tail}
use Rattle.herm_model.proofs.Declared.{message-closed}
use Rattle.herm_model.proofs.Prefixes.{speaks, before-path}
use Rattle.herm_model.proofs.FactTests.{listed-IsIn, IsIn-listed}
use Rattle.herm_model.proofs.ClosedFacts.{once-IsIn}
use Rattle.herm_model.proofs.Options.{some-injective, none-not_some}
use Rattle.herm_journal.specs.Actions.{to_put}
use Rattle.herm_forms.specs.Frames.{Name, Frame, goes, if_there, cleared, drop, putting}
use Rattle.herm_journal.specs.Messages.{CellWant, OfType, IsMessage, message_of_port}
use Rattle.herm_forms.specs.Exchanges.{outport_at}
use Rattle.herm_forms.specs.Excess.{excess_at, excess_over_declared}
use Rattle.herm_forms.specs.Modules.{Module}
use Rattle.herm_forms.specs.laws.EdgeLaws.{AreSound, without, held_after}
use Rattle.herm_forms.specs.laws.TargetLaws.{SentAreMessages, ReturnedSendsKeepSound}
use Rattle.herm_forms.proofs.forms.PlainForms.{never}
use Rattle.herm_forms.proofs.forms.ToldFacts.{in-closed}
use Rattle.herm_forms.proofs.forms.SetTargets.{put-made, full-root}
use Rattle.herm_forms.proofs.forms.ReceivesToTargets.{travelling_of, declared-said, message-makes, message-typed}
use Rattle.herm_forms.proofs.forms.ExcessDropped.{beyond-below, source-taken, no-source, told-alone, read-alone, source-exact}

-- the facts of a message speak of variable 0
module _ (types : TypeTable) (t : ℕ) where
  abbrev IsOfMessage : Fact → Type 0
  IsOfMessage f = (r : List ℕ) × (path_of f ≡ 0 ∷ r)

  no_type : (r : List ℕ) → type_below types None r ≡ None
  no_type [] = refl
  no_type (j ∷ r) = no_type r

  fact-of : (f : Fact) → IsFactOf types (t ∷ []) f → IsOfMessage f
  fact-of (init []) h = absurd (false≢true h.0)
  fact-of (init (zero ∷ r)) h = (r, refl)
  fact-of (init (suc v ∷ r)) h = absurd (false≢true (sym (ap is_some (no_type r)) ∙ h.0))
  fact-of (case [] k) h = let none : k < 0 = h in absurd (omega (arith, none))
  fact-of (case (zero ∷ r) k) h = (r, refl)
  fact-of (case (suc v ∷ r) k) h = let none : k < 0 = subst (λ (o : Option ℕ). k < map_or 0 (λ t. map_or 0 component_count (slice_get types t)) o) (no_type r) h in absurd (omega (arith, none))

  before-of : (f g : Fact) → IsOfMessage g → IsIn f (prefixes types (t ∷ []) g) → IsOfMessage f
  before-of f g of h =
      let on : IsIn f (facts_to types (t ∷ []) (0 ∷ of.0)) = subst (λ p. IsIn f (facts_to types (t ∷ []) p)) of.1 (before-path types (t ∷ []) g f h) in
      let s = speaks types (0 ∷ []) (Some t) false of.0 f on in (s.0, s.2)

  message-of : (declared : List Fact) → ((f : Fact) → IsIn f declared → IsFactOf types (t ∷ []) f) → (f : Fact) → IsIn f (message_facts types t declared) → IsOfMessage f
  message-of [] facts f h = let r = in-map_from (λ q. init ((0 ∷ []) ++ q)) f (part_paths full_parts types t) h in (r.0, ap path_of r.2)
  message-of (x ∷ xs) facts f h = by (once-IsIn f (init (0 ∷ []) ∷ flat_map (with_prefixes types (t ∷ [])) (x ∷ xs)) h)
    where
      of : (g : Fact) → IsIn g (x ∷ xs) → IsIn f (prefixes types (t ∷ []) g) ⊎ IsIn f (g ∷ []) → IsOfMessage f
      of g m (inl h) = before-of f g (fact-of g (facts g m)) h
      of g m (inr (inl e)) = subst IsOfMessage (sym e) (fact-of g (facts g m))
      of g m (inr (inr h)) = absurd h

      by : IsIn f (init (0 ∷ []) ∷ flat_map (with_prefixes types (t ∷ [])) (x ∷ xs)) → IsOfMessage f
      by (inl e) = ([], ap path_of e)
      by (inr h) =
          let g = in-flat_map_from (with_prefixes types (t ∷ [])) f (x ∷ xs) h in
          of g.0 g.1 (in-append_cases f (prefixes types (t ∷ []) g.0) (g.0 ∷ []) g.2)

  said-same : (f : Fact) → IsOfMessage f → said_at (0 ∷ []) f ≡ f
  said-same (init []) of = cons-not_nil 0 of.0 (sym of.1)
  said-same (init (v ∷ q)) of = ap (λ v. init (v ∷ q)) (sym (cons-head of.1))
  said-same (case [] k) of = cons-not_nil 0 of.0 (sym of.1)
  said-same (case (v ∷ q) k) of = ap (λ v. case (v ∷ q) k) (sym (cons-head of.1))

  said-all : (fs : List Fact) → ((f : Fact) → IsIn f fs → IsOfMessage f) → map (said_at (0 ∷ [])) fs ≡ fs
  said-all [] of = refl
  said-all (f ∷ fs) of = ap (λ g. g ∷ map (said_at (0 ∷ [])) fs) (said-same f (of f (inl refl))) ∙ ap (f ∷◌) (said-all fs (λ g h. of g (inr h)))

  module _ (deep : IsTrue (is_within_depth greatest_depth types t)) (port : ℕ) (declared : List Fact) (shape : slice_get types port ≡ Some (inport t declared)) (facts : (f : Fact) → IsIn f declared → IsFactOf types (t ∷ []) f) where
    pub declared-is : declared_facts types port (0 ∷ []) ≡ message_facts types t declared
    declared-is =
        declared-said types port (0 ∷ []) ∙ ap (λ o. map (said_at (0 ∷ [])) (travelling_of types o)) shape ∙ said-all (message_facts types t declared) (message-of declared facts)

    declared-closed : IsClosed types (t ∷ []) (λ f. IsIn f (declared_facts types port (0 ∷ [])))
    declared-closed = subst (λ fs. IsClosed types (t ∷ []) (λ f. IsIn f fs)) (sym declared-is) (message-closed types t declared deep)

    own-declared : IsIn (init (0 ∷ [])) (declared_facts types port (0 ∷ []))
    own-declared = subst (IsIn (init (0 ∷ []))) (sym declared-is) (own declared)
      where
        own : (fs : List Fact) → IsIn (init (0 ∷ [])) (message_facts types t fs)
        own [] = in-map (λ q. init ((0 ∷ []) ++ q)) [] (part_paths full_parts types t) (full-root types t deep)
        own (f ∷ fs) = inl refl

module _ (c : Module) (i : ℕ) (q : List ℕ) (has : Fact → Bool) (b : Frame Name) (sound : AreSound c has b.variables) where
  held-told : (f : Fact) → IsTrue (has f) → IsTrue (satisfies b.variables f)
  held-told (init p) h = (sound.facts.values p).1 h
  held-told (case p k) h = sound.facts.components p k h

  -- what is told at the source is told of the value alone
  alone-said : (d : Cell Name) → cell_at (i ∷ q) b.variables ≡ Some d → (g : Fact) → IsTrue (satisfies b.variables (said_at (i ∷ q) g)) → IsTrue (satisfies (part d no_parts) (said_at (0 ∷ []) g))
  alone-said d at (init []) h = absurd (false≢true h)
  alone-said d at (init (v ∷ r)) h = sym (told-alone c i q has b sound d at r) ∙ h
  alone-said d at (case [] k) h = absurd (false≢true h)
  alone-said d at (case (v ∷ r) k) h = ap (λ o. is_component o k) (sym (read-alone c i q has b sound d at r)) ∙ h

  module _ (t port : ℕ) (declared : List Fact) (to : Path) (type : type_at c.types c.variables (i ∷ q) ≡ Some t) (deep : IsTrue (is_within_depth greatest_depth c.types t)) (leads : inport_at c.types c.variables to ≡ Some port)
      (shape : slice_get c.types port ≡ Some (inport t declared)) (facts : (f : Fact) → IsIn f declared → IsFactOf c.types (t ∷ []) f) (needed : (f : Fact) → IsIn f (needs c.types c.variables (Send (i ∷ q) to)) → IsTrue (has f)) where
    sent-is : sent_to c.types c.variables to (i ∷ q) ≡ declared_facts c.types port (i ∷ q)
    sent-is = ap (list_of (λ t. declared_facts c.types t (i ∷ q))) leads

    alone-told : (d : Cell Name) → cell_at (i ∷ q) b.variables ≡ Some d → (f : Fact) → IsIn f (declared_facts c.types port (0 ∷ [])) → IsTrue (satisfies (part d no_parts) f)
    alone-told d at f h =
        let travelling = travelling_of c.types (slice_get c.types port) in
        let g = in-map_from (said_at (0 ∷ [])) f travelling (subst (IsIn f) (declared-said c.types port (0 ∷ [])) h) in
        let said = said_at (i ∷ q) g.0 in
        let sent : IsIn said (sent_to c.types c.variables to (i ∷ q)) = subst (IsIn said) (sym (sent-is ∙ declared-said c.types port (i ∷ q))) (in-map (said_at (i ∷ q)) g.0 travelling g.1) in
        let all = sent_to c.types c.variables to (i ∷ q) ++ present c.types c.variables to in
        let held = needed said (in-closed c.types c.variables all said (in-append_left said (sent_to c.types c.variables to (i ∷ q)) (present c.types c.variables to) sent)) in
        subst (λ f. IsTrue (satisfies (part d no_parts) f)) (sym g.2) (alone-said d at g.0 (held-told said held))

    beyond-is : excess_over_declared c to (i ∷ q) b ≡ excess_at c.types (type_at c.types c.variables (i ∷ q)) (declared_facts c.types port (0 ∷ [])) (i ∷ q) b
    beyond-is = ap (λ (o : Option ℕ). excess_at c.types (type_at c.types c.variables (i ∷ q)) (list_of (λ t. declared_facts c.types t (0 ∷ [])) o) (i ∷ q) b) leads

    -- the source is there, and what is left of it
    own-said : (g : Fact) → said_at (0 ∷ []) g ≡ init (0 ∷ []) → said_at (i ∷ q) g ≡ init (i ∷ q)
    own-said (init []) e = cons-not_nil 0 [] (sym (ap path_of e))
    own-said (init (v ∷ r)) e = ap (λ r. init ((i ∷ q) ++ r)) (cons-tail (ap path_of e)) ∙ ap init (append-nil (i ∷ q))
    own-said (case [] k) e = cons-not_nil 0 [] (sym (ap path_of e))
    own-said (case (v ∷ r) k) e = absurd (false≢true (ap is_value e))
      where
        is_value : Fact → Bool
        is_value (init p) = true
        is_value (case p k) = false

    pub source-held : IsTrue (has (init (i ∷ q)))
    source-held =
        let travelling = travelling_of c.types (slice_get c.types port) in
        let g = in-map_from (said_at (0 ∷ [])) (init (0 ∷ [])) travelling (subst (IsIn (init (0 ∷ []))) (declared-said c.types port (0 ∷ [])) (own-declared c.types t deep port declared shape facts)) in
        let said = said_at (i ∷ q) g.0 in
        let sent : IsIn said (sent_to c.types c.variables to (i ∷ q)) = subst (IsIn said) (sym (sent-is ∙ declared-said c.types port (i ∷ q))) (in-map (said_at (i ∷ q)) g.0 travelling g.1) in
        let all = sent_to c.types c.variables to (i ∷ q) ++ present c.types c.variables to in
        subst (λ f. IsTrue (has f)) (own-said g.0 (sym g.2)) (needed said (in-closed c.types c.variables all said (in-append_left said (sent_to c.types c.variables to (i ∷ q)) (present c.types c.variables to) sent)))

    pub rest-there : (d : Cell Name) → cell_at (i ∷ q) b.variables ≡ Some d → (rest : Cell Name) × (cell_at (i ∷ q) (drop (excess_over_declared c to (i ∷ q) b) b).variables ≡ Some rest)
    rest-there d at =
        let listed = declared_facts c.types port (0 ∷ []) in
        let s = source-exact c i q has b sound t type deep listed (declared-closed c.types t deep port declared shape facts) (own-declared c.types t deep port declared shape facts) d at (alone-told d at) in
        (s.rest, ap (λ lost. cell_at (i ∷ q) (drop lost b).variables) beyond-is ∙ s.there)

    -- what is left of the source is a message
    left-message : (x : Option (Cell Name)) → cell_at (i ∷ q) b.variables ≡ x → (message : Cell Name) → cell_at (i ∷ q) (drop (excess_over_declared c to (i ∷ q) b) b).variables ≡ Some message → IsMessage c.types port message
    left-message None at message left =
        let none = no-source c i q has b sound (type_at c.types c.variables (i ∷ q)) (declared_facts c.types port (0 ∷ [])) at in
        none-not_some (sym (ap (λ lost. cell_at (i ∷ q) (drop lost b).variables) (beyond-is ∙ none) ∙ at) ∙ left)
    left-message (Some d) at message left =
        let listed = declared_facts c.types port (0 ∷ []) in
        let s = source-exact c i q has b sound t type deep listed (declared-closed c.types t deep port declared shape facts) (own-declared c.types t deep port declared shape facts) d at (alone-told d at) in
        let same : s.rest ≡ message = some-injective (sym s.there ∙ ap (λ lost. cell_at (i ∷ q) (drop lost b).variables) (sym beyond-is) ∙ left) in
        let takes : message_of_port c.types port ≡ Some t = ap (option_and_then message_type) shape in
        subst (IsMessage c.types port) same (
          subst (λ o. OfType c.types o s.rest) (sym takes) s.typed,
          record {
            values = λ p. ((λ h. listed-IsIn (init p) listed ((s.exact.values p).0 h)), (λ h. (s.exact.values p).1 (IsIn-listed (init p) listed h)));
            components = λ p k h. s.exact.components p k (IsIn-listed (case p k) listed h);
          },
        )

-- the message that is to be put, or another
abbrev pub message_or : Cell Name → CellWant Name → Cell Name
message_or m (to_put n message) = message
message_or m _ = m

-- what a send wants to put is there
put-there : (port : Option ℕ) (x : Option (Cell Name)) (n : ℕ) (message : Cell Name) → ◌≡◌ {A = Option (CellWant Name)} (option_and_then (λ port. option_map (to_put port) x) port) (Some (to_put n message)) → x ≡ Some message
put-there None x n message e = none-not_some e
put-there (Some p) None n message e = none-not_some e
put-there (Some p) (Some m) n message e = ap Some (ap (message_or m) (some-injective e))

pub sent-messages : SentAreMessages
sent-messages c i q t port declared to type deep leads shape facts has b n message sound needed wants =
    left-message c i q has b sound t port declared to type deep leads shape facts needed (cell_at (i ∷ q) b.variables) refl message
    (put-there (outport_at to b) (cell_at (i ∷ q) (drop (excess_over_declared c to (i ∷ q) b) b).variables) n message wants)

-- a message that comes back
returned-cond : (m k h : Bool) → cond m true (not k && (not k && h)) ≡ cond m true (cond (k || false) false h)
returned-cond true k h = refl
returned-cond false true h = refl
returned-cond false false h = refl

module _ (c : Module) (i : ℕ) (q : List ℕ) (t port : ℕ) (to : Path) (type : type_at c.types c.variables (i ∷ q) ≡ Some t) (leads : inport_at c.types c.variables to ≡ Some port) (takes : message_of_port c.types port ≡ Some t)
    (has : Fact → Bool) (b b' : Frame Name) (o : Outcome) (message : Cell Name) (is_message : IsMessage c.types port message) (sound : AreSound c has b.variables) where
  returned : (x : Option (Cell Name)) → if_there (λ d. putting (i ∷ q) (raised disconnected) message (cleared (i ∷ q) (drop (excess_over_declared c to (i ∷ q) b) b))) x ≡ goes o b'
      → AreSound c (held_after c.types c.variables (Send (i ∷ q) to) o has) b'.variables
  returned None is = never o b' is
  returned (Some d) is =
      let lost = excess_over_declared c to (i ∷ q) b in
      let cut = cleared (i ∷ q) (drop lost b) in
      let made = sent_to c.types c.variables to (i ∷ q) in
      put-made c i q t type message (message-typed c i q port message is_message t takes) made (message-makes c i q port message is_message made (ap (list_of (λ t. declared_facts c.types t (i ∷ q))) leads))
      (Send (i ∷ q) to) (raised disconnected) has (without (i ∷ q) has)
      (λ f. returned-cond (any_pass (same_fact f) (closed c.types c.variables made)) (is_at_or_below (i ∷ q) (path_of f)) (has f))
      cut b' o
      (source-taken c i q has b sound lost (beyond-below c.types (type_at c.types c.variables (i ∷ q)) (list_of (λ t. declared_facts c.types t (0 ∷ [])) (inport_at c.types c.variables to)) (i ∷ q) b))
      (has_place cut.variables (i ∷ q)) refl is

pub returned-sends : ReturnedSendsKeepSound
returned-sends c i q t port to type leads takes has b b' o message is_message sound is =
    returned c i q t port to type leads takes has b b' o message is_message sound (cell_at (i ∷ q) (drop (excess_over_declared c to (i ∷ q) b) b).variables) is
