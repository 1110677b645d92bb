-- The excess of a message by the facts of a label is the excess by its values.
use Rattle.std.proofs.Common.{◌≡◌, ℕ, zero, suc, List, [], ◌∷◌, ◌++◌, map, flat_map, Bool, true, false, not, cond, ◌&&◌, ◌||◌, Option, Some, None, is_some, slice_get, IsTrue, refl, sym, ap, ap₂, ◌∙◌, true≢false}
use Rattle.std.proofs.lemmas.Bool.{eq-eqb}
use Rattle.std.proofs.lemmas.List.{append_assoc, append-nil}
use Rattle.herm_model.specs.Lists.{IsIn, any_pass, map_or, list_of}
use Rattle.herm_model.specs.Paths.{Path, Fact, init, case, same_path, same_fact}
use Rattle.herm_model.specs.Types.{Shape, TypeTable, greatest_depth, held_parts, type_at}
use Rattle.herm_model.specs.Facts.{said_at, message_facts, message_of, declared_facts}
use Rattle.herm_model.specs.Calls.{inport_at}
use Rattle.herm_model.specs.FactsOfStatements.{sent_to}
use Rattle.herm_model.specs.Values.{Cell, no_parts, part, cell_at, has_value}
use Rattle.herm_model.specs.FactsOfValues.{HasExactly}
use Rattle.herm_model.specs.Finalising.{is_left, excess_from, excess, keeps}
use Rattle.herm_model.proofs.Deciding.{facts-decide, member-decides}
use Rattle.herm_forms.specs.Frames.{Name, Frame}
use Rattle.herm_forms.specs.Modules.{Module}
use Rattle.herm_forms.specs.Excess.{below, excess_over_declared}
use Rattle.herm_forms.proofs.forms.Moves.{value-below}
use Rattle.herm_code_machine.specs.laws.TrimLaws.{TrimsAreExcess}

-- two truths are one where the one is true exactly where the other is
same-truth : (a b : Bool) → (IsTrue a → IsTrue b) → (IsTrue b → IsTrue a) → a ≡ b
same-truth true true f g = refl
same-truth true false f g = sym (f refl)
same-truth false true f g = g refl
same-truth false false f g = refl

map-joined : {X Y : Type 0} (g : X → Y) (xs ys : List X) → map g (xs ++ ys) ≡ map g xs ++ map g ys
map-joined g [] ys = refl
map-joined g (x ∷ xs) ys = ap (g x ∷◌) (map-joined g xs ys)

map-each : {X Y Z : Type 0} (g : Y → Z) (f : X → List Y) (h : X → List Z) → ((x : X) → map g (f x) ≡ h x) → (xs : List X) → map g (flat_map f xs) ≡ flat_map h xs
map-each g f h same [] = refl
map-each g f h same (x ∷ xs) = map-joined g (f x) (flat_map f xs) ∙ ap₂ ◌++◌ (same x) (map-each g f h same xs)

same-behind : (x r s : Path) → same_path (x ++ r) (x ++ s) ≡ same_path r s
same-behind [] r s = refl
same-behind (i ∷ x) r s = ap (λ b. b && same_path (x ++ r) (x ++ s)) (eq-eqb i i refl) ∙ same-behind x r s

-- a fact is said at a path of what it is said of variable 0
module _ (i : ℕ) (q r : Path) where
  same-said : (f : Fact) → same_fact (init (0 ∷ r)) (said_at (0 ∷ []) f) ≡ same_fact (init ((i ∷ q) ++ r)) (said_at (i ∷ q) f)
  same-said (init []) = refl
  same-said (init (v ∷ s)) = sym (same-behind (i ∷ q) r s)
  same-said (case [] c) = refl
  same-said (case (v ∷ s) c) = refl

  said-among : (fs : List Fact) → any_pass (same_fact (init (0 ∷ r))) (map (said_at (0 ∷ [])) fs) ≡ any_pass (same_fact (init ((i ∷ q) ++ r))) (map (said_at (i ∷ q)) fs)
  said-among [] = refl
  said-among (f ∷ fs) = ap₂ (λ a b. a || b) (same-said f) (said-among fs)

  declared-among : (types : TypeTable) (o : Option ℕ)
      → any_pass (same_fact (init (0 ∷ r))) (list_of (λ t. declared_facts types t (0 ∷ [])) o) ≡ any_pass (same_fact (init ((i ∷ q) ++ r))) (list_of (λ t. declared_facts types t (i ∷ q)) o)
  declared-among types None = refl
  declared-among types (Some t) = by (slice_get types t)
    where
      by_message : (m : Option (ℕ × List Fact))
          → any_pass (same_fact (init (0 ∷ r))) (list_of (λ m. map (said_at (0 ∷ [])) (message_facts types m.0 m.1)) m) ≡ any_pass (same_fact (init ((i ∷ q) ++ r))) (list_of (λ m. map (said_at (i ∷ q)) (message_facts types m.0 m.1)) m)
      by_message None = refl
      by_message (Some m) = said-among (message_facts types m.0 m.1)

      by : (s : Option Shape)
          → any_pass (same_fact (init (0 ∷ r))) (map_or [] (λ s. list_of (λ m. map (said_at (0 ∷ [])) (message_facts types m.0 m.1)) (message_of s)) s)
          ≡ any_pass (same_fact (init ((i ∷ q) ++ r))) (map_or [] (λ s. list_of (λ m. map (said_at (i ∷ q)) (message_facts types m.0 m.1)) (message_of s)) s)
      by None = refl
      by (Some s) = by_message (message_of s)

-- what is left at a path is what is left of variable 0, said there
module _ (types : TypeTable) (x : Path) (alone there : Path → Bool) (same : (r : Path) → alone (0 ∷ r) ≡ there (x ++ r)) where
  excess-there : (n : ℕ) (u : ℕ) (r : Path) → map (below x) (excess_from alone n types (0 ∷ r) u) ≡ excess_from there n types (x ++ r) u
  excess-there zero u r = refl
  excess-there (suc n) u r =
      by (alone (0 ∷ r)) (slice_get types u) (λ p. excess-there n p.1 (r ++ p.0 ∷ []) ∙ ap (λ y. excess_from there n types y p.1) (sym (append_assoc x r (p.0 ∷ []))))
      ∙ ap (λ b. cond b ((x ++ r) ∷ []) (map_or [] (λ s. flat_map (λ (p : ℕ × ℕ). excess_from there n types ((x ++ r) ++ p.0 ∷ []) p.1) (held_parts s)) (slice_get types u))) (same r)
    where
      by : (b : Bool) (o : Option Shape) → ((p : ℕ × ℕ) → map (below x) (excess_from alone n types (0 ∷ (r ++ p.0 ∷ [])) p.1) ≡ excess_from there n types ((x ++ r) ++ p.0 ∷ []) p.1)
          → map (below x) (cond b ((0 ∷ r) ∷ []) (map_or [] (λ s. flat_map (λ (p : ℕ × ℕ). excess_from alone n types (0 ∷ (r ++ p.0 ∷ [])) p.1) (held_parts s)) o))
          ≡ cond b ((x ++ r) ∷ []) (map_or [] (λ s. flat_map (λ (p : ℕ × ℕ). excess_from there n types ((x ++ r) ++ p.0 ∷ []) p.1) (held_parts s)) o)
      by true o again = refl
      by false None again = refl
      by false (Some s) again = map-each (below x) (λ (p : ℕ × ℕ). excess_from alone n types (0 ∷ (r ++ p.0 ∷ [])) p.1) (λ (p : ℕ × ℕ). excess_from there n types ((x ++ r) ++ p.0 ∷ []) p.1) again (held_parts s)

module _ (c : Module) (i : ℕ) (q o : Path) (facts : List Fact) (b : Frame Name) (exact : HasExactly b.variables (λ f. IsIn f facts)) where
  module _ (d : Cell Name) (at : cell_at (i ∷ q) b.variables ≡ Some d) where
    abbrev alone : Path → Bool
    alone = is_left (has_value (part d no_parts)) (λ p. any_pass (same_fact (init p)) (list_of (λ t. declared_facts c.types t (0 ∷ [])) (inport_at c.types c.variables o)))

    abbrev there : Path → Bool
    there = is_left (keeps facts) (keeps (sent_to c.types c.variables o (i ∷ q)))

    here : (p : Path) → has_value b.variables p ≡ keeps facts p
    here p =
        let m = member-decides same_fact facts-decide (init p) facts in
        same-truth (has_value b.variables p) (keeps facts p) (λ h. m.1 ((exact.values p).0 h)) (λ h. (exact.values p).1 (m.0 h))

    same : (r : Path) → alone (0 ∷ r) ≡ there ((i ∷ q) ++ r)
    same r = ap₂ (λ h k. h && not k) (sym (value-below i q r b.variables d at) ∙ here ((i ∷ q) ++ r)) (declared-among i q r c.types (inport_at c.types c.variables o))

    each : (u : ℕ) → map (below (i ∷ q)) (excess c.types (u ∷ []) (has_value (part d no_parts)) (λ p. any_pass (same_fact (init p)) (list_of (λ t. declared_facts c.types t (0 ∷ [])) (inport_at c.types c.variables o))))
        ≡ excess_from there greatest_depth c.types (i ∷ q) u
    each u =
        ap (map (below (i ∷ q))) (append-nil (excess_from alone greatest_depth c.types (0 ∷ []) u))
        ∙ excess-there c.types (i ∷ q) alone there same greatest_depth u []
        ∙ ap (λ y. excess_from there greatest_depth c.types y u) (append-nil (i ∷ q))

    by_type : (t : Option ℕ)
        → list_of (λ u. excess_from there greatest_depth c.types (i ∷ q) u) t
        ≡ list_of (λ u. map (below (i ∷ q)) (excess c.types (u ∷ []) (has_value (part d no_parts)) (λ p. any_pass (same_fact (init p)) (list_of (λ t. declared_facts c.types t (0 ∷ [])) (inport_at c.types c.variables o))))) t
    by_type None = refl
    by_type (Some u) = sym (each u)

    trimmed : list_of (λ u. excess_from there greatest_depth c.types (i ∷ q) u) (type_at c.types c.variables (i ∷ q)) ≡ excess_over_declared c o (i ∷ q) b
    trimmed =
        by_type (type_at c.types c.variables (i ∷ q))
        ∙ sym (ap (list_of (λ (e : Cell Name). list_of (λ u. map (below (i ∷ q)) (excess c.types (u ∷ []) (has_value (part e no_parts)) (λ p. any_pass (same_fact (init p)) (list_of (λ t. declared_facts c.types t (0 ∷ [])) (inport_at c.types c.variables o))))) (type_at c.types c.variables (i ∷ q)))) at)

pub trims-are_excess : TrimsAreExcess
trims-are_excess c i q o trim facts b trims exact value = by (cell_at (i ∷ q) b.variables) refl value
  where
    by : (k : Option (Cell Name)) → cell_at (i ∷ q) b.variables ≡ k → IsTrue (is_some k) → trim ≡ excess_over_declared c o (i ∷ q) b
    by None at h = absurd (true≢false (sym h))
    by (Some d) at h = trims ∙ trimmed c i q o facts b exact d at
