-- A callmessage whose parameters are taken out stays where it is, with its caller.
use Rattle.std.proofs.Common.{◌≡◌, inl, inr, ℕ, List, [], ◌∷◌, ◌++◌, map, true, Option, Some, None, option_map, refl, sym, ap, subst, ◌∙◌, append_assoc}
use Rattle.std.specs.Prelude.{flat_map, option_and_then, ⊤}
use Rattle.herm_model.specs.Lists.{IsIn, any_pass, list_of}
use Rattle.herm_model.specs.Paths.{Path, init, is_at_or_below, same_fact}
use Rattle.herm_model.specs.Types.{type_at}
use Rattle.herm_model.specs.Facts.{full_facts}
use Rattle.herm_model.specs.FactsOfStatements.{parameters_at}
use Rattle.herm_model.specs.Values.{a_callmessage, Cell, cell, Parts, no_parts, part, cell_at, set_at, clear_at, change_inside, has_value}
use Rattle.herm_model.specs.Finalising.{excess}
use Rattle.herm_model.proofs.Beginnings.{begins-with}
use Rattle.herm_model.proofs.Lists.{in-map_from, in-flat_map_from}
use Rattle.herm_model.proofs.Options.{some-injective, none-not_some}
use Rattle.herm_model.proofs.Places.{cell_at-set_above}
use Rattle.herm_forms.specs.Acts.{given_back}
use Rattle.herm_forms.specs.Excess.{below, excess_over_full}
use Rattle.herm_forms.specs.Frames.{Frame, Taken, cleared, drop, drop_at, finalise_old, take_all, with_taken}
use Rattle.herm_forms.specs.ReturnForms.{caller_of}
use Rattle.herm_forms.specs.Modules.{Module}
use Rattle.herm_forms.proofs.forms.Messages.{below-is, in-list_of}

abbrev caller_in : Path → Parts ⊤ → Option (ℕ × ℕ)
caller_in m ps = option_and_then caller_of (cell_at m ps)

abbrev IsBelow : Path → Path → Type 0
IsBelow m p = (j : ℕ) × (r : Path) × (p ≡ m ++ j ∷ r)

caller_changed : (f : Parts ⊤ → Parts ⊤) (o : Option (Cell ⊤)) → option_and_then caller_of (option_map (change_inside f) o) ≡ option_and_then caller_of o
caller_changed f None = refl
caller_changed f (Some (cell n (a_callmessage caller call) ps)) = refl
caller_changed f (Some (cell n k ps)) = refl

old_variables : (o : Option (Cell ⊤)) (b : Frame ⊤) → (finalise_old o b).variables ≡ b.variables
old_variables None b = refl
old_variables (Some d) b = refl

-- what a value holds beyond a full one is below it
beyond_below : (c : Module) (x : Path) (b : Frame ⊤) (p : Path) → IsIn p (excess_over_full c x b) → is_at_or_below x p ≡ true
beyond_below c x b p h =
    let t = type_at c.types c.variables x in
    let facts = list_of (λ t. full_facts c.types t (0 ∷ [])) t in
    let kept = λ (p : Path). any_pass (same_fact (init p)) facts in
    let d = in-list_of (λ (d : Cell ⊤). list_of (λ u. map (below x) (excess c.types (u ∷ []) (has_value (part d no_parts)) kept)) t) (cell_at x b.variables) p h in
    let u = in-list_of (λ (u : ℕ). map (below x) (excess c.types (u ∷ []) (has_value (part d.0 no_parts)) kept)) t p d.1 in
    let q = in-map_from (below x) p (excess c.types (u.0 ∷ []) (has_value (part d.0 no_parts)) kept) u.1 in
    subst (λ p. is_at_or_below x p ≡ true) (sym q.2) (below-is x q.0)

module _ (i : ℕ) (q : Path) where
  caller_cleared : (p : Path) (ps : Parts ⊤) → IsBelow (i ∷ q) p → caller_in (i ∷ q) (clear_at p ps) ≡ caller_in (i ∷ q) ps
  caller_cleared p ps h =
      subst (λ p. caller_in (i ∷ q) (clear_at p ps) ≡ caller_in (i ∷ q) ps) (sym h.2)
      (ap (option_and_then caller_of) (cell_at-set_above i q h.0 h.1 None ps) ∙ caller_changed (set_at (h.0 ∷ h.1) None) (cell_at (i ∷ q) ps))

  caller_dropped : (paths : List Path) (b : Frame ⊤) → ((p : Path) → IsIn p paths → IsBelow (i ∷ q) p) → caller_in (i ∷ q) (drop paths b).variables ≡ caller_in (i ∷ q) b.variables
  caller_dropped [] b h = refl
  caller_dropped (p ∷ paths) b h =
      caller_dropped paths (drop_at p b) (λ r k. h r (inr k)) ∙ ap (caller_in (i ∷ q)) (old_variables (cell_at p b.variables) (cleared p b)) ∙ caller_cleared p b.variables (h p (inl refl))

  more : (d : Cell ⊤) (x : Option (Taken ⊤)) (o : Option (ℕ × ℕ)) (t : Taken ⊤) → ((u : Taken ⊤) → x ≡ Some u → caller_in (i ∷ q) u.frame.variables ≡ o) → with_taken d x ≡ Some t → caller_in (i ∷ q) t.frame.variables ≡ o
  more d None o t on e = none-not_some e
  more d (Some u) o t on e = ap (λ (t : Taken ⊤). caller_in (i ∷ q) t.frame.variables) (sym (some-injective e)) ∙ on u refl

  caller_taken : (paths : List Path) (b : Frame ⊤) (t : Taken ⊤) → ((p : Path) → IsIn p paths → IsBelow (i ∷ q) p) → take_all paths b ≡ Some t → caller_in (i ∷ q) t.frame.variables ≡ caller_in (i ∷ q) b.variables
  caller_taken [] b t h e = ap (λ (t : Taken ⊤). caller_in (i ∷ q) t.frame.variables) (sym (some-injective e))
  caller_taken (p ∷ paths) b t h e = by (cell_at p b.variables) (λ u at. caller_taken paths (cleared p b) u (λ r k. h r (inr k)) at ∙ caller_cleared p b.variables (h p (inl refl))) e
    where
      by : (o : Option (Cell ⊤)) → ((u : Taken ⊤) → take_all paths (cleared p b) ≡ Some u → caller_in (i ∷ q) u.frame.variables ≡ caller_in (i ∷ q) b.variables)
          → elim o [ None ↦ None | Some d ↦ with_taken d (take_all paths (cleared p b)) ] ≡ Some t → caller_in (i ∷ q) t.frame.variables ≡ caller_in (i ∷ q) b.variables
      by None on e = none-not_some e
      by (Some d) on e = more d (take_all paths (cleared p b)) (caller_in (i ∷ q) b.variables) t on e

  given_below : (places : List ℕ) (p : Path) → IsIn p (map (λ n. (i ∷ q) ++ n ∷ []) places) → IsBelow (i ∷ q) p
  given_below places p h = let n = in-map_from (λ n. (i ∷ q) ++ n ∷ []) p places h in (n.0, [], n.2)

  under_below : (x p : Path) → IsBelow (i ∷ q) x → is_at_or_below x p ≡ true → IsBelow (i ∷ q) p
  under_below x p h at =
      let b = begins-with x p at in
      (h.0, h.1 ++ b.0, b.1 ∙ ap (◌++ b.0) h.2 ∙ append_assoc (i ∷ q) (h.0 ∷ h.1) b.0)

  lost_below : (c : Module) (b : Frame ⊤) (places : List ℕ) (p : Path) → IsIn p (flat_map (λ p. excess_over_full c p b) (map (λ n. (i ∷ q) ++ n ∷ []) places)) → IsBelow (i ∷ q) p
  lost_below c b places p h =
      let x = in-flat_map_from (λ p. excess_over_full c p b) p (map (λ n. (i ∷ q) ++ n ∷ []) places) h in
      under_below x.0 p (given_below places x.0 x.1) (beyond_below c x.0 b p x.2)

  stays : (c : Module) (places : List ℕ) (b : Frame ⊤) (t : Taken ⊤) → given_back c (map (λ n. (i ∷ q) ++ n ∷ []) places) b ≡ Some t → caller_in (i ∷ q) t.frame.variables ≡ caller_in (i ∷ q) b.variables
  stays c places b t e =
      let given = map (λ n. (i ∷ q) ++ n ∷ []) places in
      let lost = flat_map (λ (p : Path). excess_over_full c p b) given in
      caller_taken given (drop lost b) t (given_below places) e ∙ caller_dropped lost b (lost_below c b places)

pub caller_stays : (c : Module) (m : Path) (places : List ℕ) (b : Frame ⊤) (t : Taken ⊤) → given_back c (parameters_at c.types c.variables m places) b ≡ Some t
    → option_and_then caller_of (cell_at m t.frame.variables) ≡ option_and_then caller_of (cell_at m b.variables)
caller_stays c [] places b t e = refl
caller_stays c (i ∷ q) places b t e = stays i q c places b t e
