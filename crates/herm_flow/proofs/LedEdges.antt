-- Edges that are left when those that repeat others are left out: they cover the others.
use Rattle.std.proofs.Common.{◌≡◌, ℕ, ◌⊎◌, inl, inr, List, [], ◌∷◌, ◌++◌, map, filter, Bool, true, false, cond, refl, sym, ap, ap₂, subst, ◌∙◌}
use Rattle.herm_model.specs.Lists.{IsIn}
use Rattle.herm_model.specs.Targets.{node}
use Rattle.herm_model.specs.Exits.{Exit}
use Rattle.herm_model.specs.ControlPaths.{Edge}
use Rattle.herm_model.proofs.Lists.{cons-head, cons-tail, cons-not_nil, in-map, in-map_from, in-filter, in-append_cases, in-append_left, in-append_right}
use Rattle.herm_types.proofs.Extended.{map-append}
use Rattle.herm_typed.specs.declared.statements.TypedForm.{TypedForm}
use Rattle.herm_judge.specs.declared.frame.Frame.{Frame}
use Rattle.herm_judge.specs.View.{table_of, variables_of}
use Rattle.herm_effects.specs.Rows.{makes_at, kills_at}
use Rattle.herm_flow.specs.declared.onward.OnwardEdge.{OnwardEdge}
use Rattle.herm_flow.specs.declared.leads.Lead.{Lead}
use Rattle.herm_flow.specs.declared.lists.Listed.{Listed}
use Rattle.herm_flow.specs.Edges.{edge_at}
use Rattle.herm_flow.specs.Onward.{is_node, leads_on, IsSameEdge, ArePicked, none, picked, passed, IsCovered, AreOnwardEdges}
use Rattle.herm_flow.specs.OnwardView.{onward_edge_view}
use Rattle.herm_flow.specs.Listed.{exits_on, lead_view, lead_of, AreNamed, AreListed, AreAsTabled, IsAlike, AreLed}
use Rattle.herm_flow.specs.Some.{AreSome}
use Rattle.herm_flow.proofs.SomeLeft.{some-split, some-none, some_more, some_without, some_self}
use Rattle.herm_flow.proofs.ListedEdges.{after}

module _ (frame : Frame) (form : TypedForm) where
  -- ---- one by one

  pub led_none : (es : List OnwardEdge) (leads : List Lead) → es ≡ [] → leads ≡ [] → AreLed frame form es leads
  led_none es leads e f = record {
    some = subst (λ ls. AreSome (map lead_of es) ls) (sym f) (subst (λ (ds : List OnwardEdge). AreSome (map lead_of ds) []) (sym e) (some_self []));
    each = λ x m. absurd (subst (IsIn x) f m);
  }

  same-lead : (e : OnwardEdge) (x : Lead) → lead_of e ≡ x → IsAlike frame form e x
  same-lead e x same = record {
    to = ap (λ (l : Lead). l.to) same;
    makes = ap (λ (l : Lead). makes_at frame form l.outcome) same;
    kills = ap (λ (l : Lead). kills_at frame form l.outcome) same;
  }

  -- all of them
  pub led_all : (es : List OnwardEdge) (leads : List Lead) → map lead_of es ≡ leads → AreLed frame form es leads
  led_all es leads same = record {
    some = subst (AreSome (map lead_of es)) same (some_self (map lead_of es));
    each = λ x m.
        let from = in-map_from lead_of x es (subst (IsIn x) (sym same) m) in
        (from.0, from.1, same-lead from.0 x (sym from.2));
  }

  one-more : (es ds : List OnwardEdge) (before : List Lead) (x : Lead) → ((e : OnwardEdge) → IsIn e es → IsIn e ds) → ((y : Lead) → IsIn y before → (e : OnwardEdge) × IsIn e es × IsAlike frame form e y) → (e : OnwardEdge) → IsIn e ds → IsAlike frame form e x
      → (y : Lead) → IsIn y (before ++ x ∷ []) → (d : OnwardEdge) × IsIn d ds × IsAlike frame form d y
  one-more es ds before x within each e m leads y i = by (in-append_cases y before (x ∷ []) i)
    where
      by : IsIn y before ⊎ IsIn y (x ∷ []) → (d : OnwardEdge) × IsIn d ds × IsAlike frame form d y
      by (inl h) = let k = each y h in (k.0, within k.0 k.1, k.2)
      by (inr (inl same)) = (e, m, subst (IsAlike frame form e) (sym same) leads)
      by (inr (inr h)) = absurd h

  -- one that repeats another is left out
  pub led_without : (es : List OnwardEdge) (before : List Lead) (x : Lead) (e : OnwardEdge) → IsIn e es → IsAlike frame form e x → AreLed frame form es before → AreLed frame form es (before ++ x ∷ [])
  led_without es before x e m leads led = record {
    some = some_without (map lead_of es) before x led.some;
    each = one-more es es before x (λ d i. i) led.each e m leads;
  }

  -- one more
  pub led_more : (es new : List OnwardEdge) (before : List Lead) (x : Lead) (e : OnwardEdge) → new ≡ es ++ e ∷ [] → lead_of e ≡ x → AreLed frame form es before → AreLed frame form new (before ++ x ∷ [])
  led_more es new before x e is same led = record {
    some = subst (λ ls. AreSome ls (before ++ x ∷ [])) (sym (ap (map lead_of) is ∙ (map-append lead_of es (e ∷ []) ∙ ap (λ l. map lead_of es ++ l ∷ []) same))) (some_more (map lead_of es) before x led.some);
    each = one-more es new before x (λ d i. subst (IsIn d) (sym is) (in-append_left d es (e ∷ []) i)) led.each e (subst (IsIn e) (sym is) (in-append_right e es (e ∷ []) (inl refl)))
        (same-lead e x same);
  }

  -- edges that name the same lists make and take away the same
  pub names_alike : (l : Listed) (es : List OnwardEdge) (e : OnwardEdge) (x : Lead) (numbers : List ℕ) (number : ℕ) → AreListed frame form l → es ≡ l.edges.items → IsIn e es → e.to ≡ x.to → e.makes.items ≡ numbers → e.kills ≡ number
      → AreNamed frame form l.made.items l.gone.items x.outcome numbers number → IsAlike frame form e x
  names_alike l es e x numbers number is same m to makes kills named =
      let own = is.edges e (subst (IsIn e) same m) in
      let other = subst (λ ns. AreNamed frame form l.made.items l.gone.items x.outcome ns e.kills) (sym makes) (subst (λ n. AreNamed frame form l.made.items l.gone.items x.outcome numbers n) (sym kills) named) in
      record { to = to; makes = sym own.makes ∙ other.makes; kills = sym own.kills ∙ other.kills }

  -- ---- the edges of a point

  module _ (l : Listed) where
    abbrev seen : OnwardEdge → Edge
    seen = onward_edge_view l.made.items l.gone.items

    abbrev tabled : Exit → Edge
    tabled = edge_at (table_of frame) (variables_of frame) form

    abbrev IsSeen : OnwardEdge → Type 0
    IsSeen e = IsSameEdge (seen e) (tabled (lead_view (lead_of e)))

    -- edges of these exits are picked from those of all, for each choice of edges and outcomes
    abbrev Picks : List Exit → Type 0
    Picks xs = (es : List OnwardEdge) (leads : List Lead) → ((e : OnwardEdge) → IsIn e es → IsSeen e) → AreSome (map lead_of es) leads → map lead_view leads ≡ filter exits_on xs → ArePicked (map seen es) (map tabled xs)

    pick-there : (x : Exit) (xs : List Exit) → Picks xs → (a : Lead) (rest : List Lead) (ds : List OnwardEdge) → ((e : OnwardEdge) → IsIn e ds → IsSeen e) → lead_view a ≡ x → map lead_view rest ≡ filter exits_on xs → ((zs : List Lead) × (map lead_of ds ≡ a ∷ zs) × AreSome zs rest) ⊎ AreSome (map lead_of ds) rest
        → ArePicked (map seen ds) (tabled x ∷ map tabled xs)
    pick-there x xs again a rest ds is at found (inr some) = passed (tabled x) (map seen ds) (map tabled xs) (again ds rest is some found)
    pick-there x xs again a rest [] is at found (inl h) = cons-not_nil _ _ (sym h.1)
    pick-there x xs again a rest (d ∷ ds) is at found (inl h) =
        let same : IsSameEdge (seen d) (tabled x) = subst (λ y. IsSameEdge (seen d) (tabled y)) (ap lead_view (cons-head h.1) ∙ at) (is d (inl refl)) in
        picked (seen d) (tabled x) (map seen ds) (map tabled xs) same (again ds rest (λ e m. is e (inr m)) (subst (λ zs. AreSome zs rest) (sym (cons-tail h.1)) h.2) found)

    pick-next : (x : Exit) (xs : List Exit) → Picks xs → (b : Bool) (ds : List OnwardEdge) (leads : List Lead) → ((e : OnwardEdge) → IsIn e ds → IsSeen e) → AreSome (map lead_of ds) leads → map lead_view leads ≡ cond b (x ∷ filter exits_on xs) (filter exits_on xs)
        → ArePicked (map seen ds) (tabled x ∷ map tabled xs)
    pick-next x xs again false ds leads is some at = passed (tabled x) (map seen ds) (map tabled xs) (again ds leads is some at)
    pick-next x xs again true ds [] is some at = cons-not_nil _ _ (sym at)
    pick-next x xs again true ds (a ∷ rest) is some at = pick-there x xs again a rest ds is (cons-head at) (cons-tail at) (some-split (map lead_of ds) a rest some)

    picked-on : (xs : List Exit) → Picks xs
    picked-on [] [] [] is some found = none
    picked-on [] (e ∷ es) [] is some found = some-none (lead_of e) (map lead_of es) some
    picked-on [] es (x ∷ leads) is some found = cons-not_nil _ _ found
    picked-on (x ∷ xs) es leads is some found = pick-next x xs (picked-on xs) (is_node x.target) es leads is some found

    -- the edge of an outcome covers that of one that does the same and leads there too
    covers-lead : AreAsTabled frame form l → (e : OnwardEdge) → IsIn e l.edges.items → (x : Lead) → IsAlike frame form e x → IsCovered (map seen l.edges.items) (tabled (lead_view x))
    covers-lead is e m x leads = record {
      leads = (seen e, in-map seen e l.edges.items m, ap node leads.to);
      lost = λ f held h. (seen e, in-map seen e l.edges.items m, ap node leads.to, (is e m).held f held ∙ (ap₂ (λ ms ks. after ms ks f held) leads.makes leads.kills ∙ h));
    }

    pub led_onward : (leads : List Lead) (xs : List Exit) → AreAsTabled frame form l → AreLed frame form l.edges.items leads → map lead_view leads ≡ filter exits_on xs → AreOnwardEdges (map seen l.edges.items) (map tabled xs)
    led_onward leads xs is led found = record {
      picked = picked-on xs l.edges.items leads is led.some found;
      on = λ e m. let from = in-map_from seen e l.edges.items m in ap leads_on from.2;
      covered = λ e m on. covered e (in-map_from tabled e xs m) on;
    }
      where
        covered : (e : Edge) → (x : Exit) × IsIn x xs × (e ≡ tabled x) → leads_on e ≡ true → IsCovered (map seen l.edges.items) e
        covered e from on =
            let x = from.0 in
            let among : IsIn x (map lead_view leads) = subst (IsIn x) (sym found) (in-filter exits_on x xs from.1 (sym (ap leads_on from.2) ∙ on)) in
            let lead = in-map_from lead_view x leads among in
            let one = led.each lead.0 lead.1 in
            subst (IsCovered (map seen l.edges.items)) (sym (from.2 ∙ ap tabled lead.2)) (covers-lead is one.0 one.1 lead.0 one.2)
