-- Messages that are received at any path, with the facts at which they travel, keep values sound.
use Rattle.std.proofs.Common.{◌≡◌, ℕ, List, [], ◌∷◌, ◌++◌, map, Bool, true, false, Option, Some, None, refl, sym, ap, ◌∙◌, subst}
use Rattle.std.specs.Prelude.{slice_get, IsTrue}
use mathlib.Core.Bool.{true≢false, false≢true}
use Rattle.herm_model.specs.Lists.{IsIn, any_pass, list_of}
use Rattle.herm_model.specs.Paths.{Path, Fact, init, case, path_of, same_fact, is_at_or_below}
use Rattle.herm_model.specs.Types.{TypeTable, Shape, type_at}
use Rattle.herm_model.specs.Facts.{said_at, message_facts, message_of, declared_facts}
use Rattle.herm_model.specs.Statements.{Receive}
use Rattle.herm_model.specs.FactsOfStatements.{closed, received_from}
use Rattle.herm_model.specs.Outcomes.{ok}
use Rattle.herm_model.specs.Values.{Cell, Parts, no_parts, part, has_value, has_place, put_at}
use Rattle.herm_model.specs.FactsOfValues.{is_component, satisfies}
use Rattle.herm_model.specs.Typed.{HasType}
use Rattle.herm_model.proofs.Lists.{in-map, in-map_from, cons-not_nil, cons-tail}
use Rattle.herm_forms.specs.Frames.{Name}
use Rattle.herm_forms.specs.Modules.{Module}
use Rattle.herm_journal.specs.Messages.{OfType, IsMessage, message_of_port}
use Rattle.herm_forms.specs.laws.TargetLaws.{ReceivesKeepSound}
use Rattle.herm_forms.proofs.SetValues.{set-below}
use Rattle.herm_forms.proofs.forms.SetTargets.{read-set, Makes, put-made, kept-cond}

-- the facts at which a port's messages travel, before they are said at a path
abbrev pub travelling_of : TypeTable → Option Shape → List Fact
travelling_of types None = []
travelling_of types (Some s) = list_of (λ m. message_facts types m.0 m.1) (message_of s)

said-of : (types : TypeTable) (x : Path) (o : Option (ℕ × List Fact)) → list_of (λ m. map (said_at x) (message_facts types m.0 m.1)) o ≡ map (said_at x) (list_of (λ m. message_facts types m.0 m.1) o)
said-of types x None = refl
said-of types x (Some m) = refl

pub declared-said : (types : TypeTable) (port : ℕ) (x : Path) → declared_facts types port x ≡ map (said_at x) (travelling_of types (slice_get types port))
declared-said types port x = by (slice_get types port)
  where
    by : (o : Option Shape) → elim o [ None ↦ [] | Some s ↦ list_of (λ m. map (said_at x) (message_facts types m.0 m.1)) (message_of s) ] ≡ map (said_at x) (travelling_of types o)
    by None = refl
    by (Some s) = said-of types x (message_of s)

-- a fact that a value alone tells is told where the value is set
module _ (i : ℕ) (q : List ℕ) (m : Cell Name) (ps : Parts Name) (place : IsTrue (has_place ps (i ∷ q))) where
  said-told : (g : Fact) → IsTrue (satisfies (part m no_parts) (said_at (0 ∷ []) g)) → IsTrue (satisfies (put_at (i ∷ q) m ps) (said_at (i ∷ q) g))
  said-told (init []) h = absurd (false≢true h)
  said-told (init (v ∷ r)) h = set-below i q m ps place r ∙ h
  said-told (case [] k) h = absurd (false≢true h)
  said-told (case (v ∷ r) k) h = ap (λ o. is_component o k) (read-set i q m ps place r) ∙ h

  abbrev is_init : Fact → Bool
  is_init (init p) = true
  is_init (case p k) = false

  said-value : (r : List ℕ) (g : Fact) → init (0 ∷ r) ≡ said_at (0 ∷ []) g → init ((i ∷ q) ++ r) ≡ said_at (i ∷ q) g
  said-value r (init []) e = cons-not_nil 0 r (ap path_of e)
  said-value r (init (v ∷ s)) e = ap (λ r. init ((i ∷ q) ++ r)) (cons-tail (ap path_of e))
  said-value r (case [] k) e = absurd (true≢false (ap is_init e))
  said-value r (case (v ∷ s) k) e = absurd (true≢false (ap is_init e))

-- what a message makes where it is set
module _ (c : Module) (i : ℕ) (q : List ℕ) (port : ℕ) (m : Cell Name) (message : IsMessage c.types port m) where
  abbrev travelling : List Fact
  travelling = travelling_of c.types (slice_get c.types port)

  alone-told : (f : Fact) → IsIn f (declared_facts c.types port (0 ∷ [])) → IsTrue (satisfies (part m no_parts) f)
  alone-told (init p) h = (message.1.values p).1 h
  alone-told (case p k) h = message.1.components p k h

  message-told : (ps : Parts Name) → IsTrue (has_place ps (i ∷ q)) → (f : Fact) → IsIn f (declared_facts c.types port (i ∷ q)) → IsTrue (satisfies (put_at (i ∷ q) m ps) f)
  message-told ps place f h =
      let g = in-map_from (said_at (i ∷ q)) f travelling (subst (IsIn f) (declared-said c.types port (i ∷ q)) h) in
      let alone = alone-told (said_at (0 ∷ []) g.0) (subst (IsIn (said_at (0 ∷ []) g.0)) (sym (declared-said c.types port (0 ∷ []))) (in-map (said_at (0 ∷ [])) g.0 travelling g.1)) in
      subst (λ f. IsTrue (satisfies (put_at (i ∷ q) m ps) f)) (sym g.2) (said-told i q m ps place g.0 alone)

  message-values : (ps : Parts Name) → IsTrue (has_place ps (i ∷ q)) → (r : List ℕ) → IsTrue (has_value (part m no_parts) (0 ∷ r)) → IsIn (init ((i ∷ q) ++ r)) (declared_facts c.types port (i ∷ q))
  message-values ps place r h =
      let listed = subst (IsIn (init (0 ∷ r))) (declared-said c.types port (0 ∷ [])) ((message.1.values (0 ∷ r)).0 h) in
      let g = in-map_from (said_at (0 ∷ [])) (init (0 ∷ r)) travelling listed in
      subst (IsIn (init ((i ∷ q) ++ r))) (sym (declared-said c.types port (i ∷ q)))
      (subst (λ f. IsIn f (map (said_at (i ∷ q)) travelling)) (sym (said-value i q m ps place r g.0 g.2)) (in-map (said_at (i ∷ q)) g.0 travelling g.1))

  pub message-makes : (made : List Fact) → made ≡ declared_facts c.types port (i ∷ q) → Makes c i q m made
  message-makes made is =
      subst (Makes c i q m) (sym is) (record { told = λ ps place typed. message-told ps place; values = λ ps place typed. message-values ps place })

  pub message-typed : (t : ℕ) → message_of_port c.types port ≡ Some t → HasType c.types t m
  message-typed t takes = subst (λ o. OfType c.types o m) takes message.0

pub received-is : (c : Module) (x : Path) (port : ℕ) (from : Path) → type_at c.types c.variables from ≡ Some port → received_from c.types c.variables from x ≡ declared_facts c.types port x
received-is c x port from type = ap (list_of (λ t. declared_facts c.types t x)) type

pub receives-keep : ReceivesKeepSound
receives-keep c i q t port from type port_type takes has b b' o k m message sound is =
    let made = received_from c.types c.variables from (i ∷ q) in
    put-made c i q t type m (message-typed c i q port m message t takes) made (message-makes c i q port m message made (received-is c (i ∷ q) port from port_type)) (Receive (i ∷ q) from) ok has has
    (λ f. kept-cond (any_pass (same_fact f) (closed c.types c.variables made)) (is_at_or_below (i ∷ q) (path_of f)) (has f)) b b' o sound (has_place b.variables (i ∷ q)) refl is
