-- Labels that rounds find are exact where one more round would change nothing, which is tested.
use Rattle.std.proofs.Common.{◌≡◌, ◌⊎◌, inl, inr, ℕ, zero, suc, ◌+◌, List, [], ◌∷◌, ◌++◌, map, filter, Bool, true, false, cond, not, ◌&&◌, Option, Some, None, slice_get, IsTrue, refl, sym, ap, subst, ◌∙◌, arith, true≢false}
use Rattle.std.proofs.Math.Bool.{or-false}
use Rattle.herm_model.specs.Lists.{IsIn, all_pass, any_pass, list_of, numbered}
use Rattle.herm_model.specs.Paths.{Fact, init, same_fact, path_of, is_at_or_below}
use Rattle.herm_model.specs.Targets.{Target, node, end, end_by}
use Rattle.herm_model.specs.ControlPaths.{Edge, Point, Flow, Hop, held_after_edge, held_at_start, walk, IsReached, Holds, Lacks, edge_from}
use Rattle.herm_model.specs.Labels as labels
use Rattle.herm_model.specs.Labels.{AreInductive, AreExact}
use Rattle.herm_model.specs.laws.FlowLaws.{EdgesDiffer, IsLedTo, begins, goes_on}
use Rattle.herm_model.proofs.FactTests.{at-numbered, got-IsIn, IsIn-listed, listed-IsIn}
use Rattle.herm_model.proofs.Lists.{and-both, every-in, in-append_left, in-append_right, in-filter, not_true}
use Rattle.herm_model.proofs.Options.{some-injective, none-not_some}
use Rattle.herm_model.proofs.Reached.{hop_by, hop-taken, walk-more, reached-IsLedTo}
use Rattle.herm_model.proofs.Walks.{flows-Holds, walk-common}
use Rattle.herm_source.specs.LabelRounds.{LabelLists, facts_behind, meet, meet_at, meet_in, along_edges, from_point, label_at, from_points, rounds, first_labels, has_label}

-- facts in a list, as a test
abbrev pub listed : List Fact → Fact → Bool
listed fs f = any_pass (same_fact f) fs

not-listed : (f : Fact) (fs : List Fact) → listed fs f ≡ false → IsIn f fs → ⊥
not-listed f fs e h = true≢false (sym (IsIn-listed f fs h) ∙ e)

by-test : {A : Type 0} (b : Bool) → (b ≡ true → A) → (b ≡ false → A) → A
by-test true yes' no' = yes' refl
by-test false yes' no' = no' refl

unlisted : (f : Fact) (fs : List Fact) → (IsIn f fs → ⊥) → listed fs f ≡ false
unlisted f fs never = by-test (listed fs f) (λ e. absurd (never (listed-IsIn f fs e))) (λ e. e)

module _ (flow : Flow) (differ : EdgesDiffer flow) where
  -- Where a label is known, a path leads there, and what it has not is lacked on some path.
  pub record Known (i : ℕ) (fs : List Fact) : Type 0 where
    pub reached : IsReached flow (node i)
    pub lacks : (f : Fact) → listed fs f ≡ false → Lacks flow f i

  abbrev pub AllKnown : LabelLists → Type 0
  AllKnown ls = (i : ℕ) (fs : List Fact) → label_at ls i ≡ Some fs → Known i fs

  -- what is found behind a meeting was there, or met there
  met-found : (i : ℕ) (gs : List Fact) (ls : LabelLists) (j : ℕ) (fs : List Fact) → label_at (meet_at i gs ls) j ≡ Some fs → (label_at ls j ≡ Some fs) ⊎ ((i ≡ j) × (meet (label_at ls j) gs ≡ Some fs))
  met-found i gs [] j fs e = inl e
  met-found zero gs (l ∷ ls) zero fs e = inr (refl, e)
  met-found zero gs (l ∷ ls) (suc j) fs e = inl e
  met-found (suc i) gs (l ∷ ls) zero fs e = inl e
  met-found (suc i) gs (l ∷ ls) (suc j) fs e = by (met-found i gs ls j fs e)
    where
      by : (label_at ls j ≡ Some fs) ⊎ ((i ≡ j) × (meet (label_at ls j) gs ≡ Some fs)) → (label_at ls j ≡ Some fs) ⊎ ((suc i ≡ suc j) × (meet (label_at ls j) gs ≡ Some fs))
      by (inl h) = inl h
      by (inr h) = inr (ap suc h.0, h.1)

  module _ (i : ℕ) (p : Point) (at : slice_get flow.points i ≡ Some p) (fs : List Fact) (known : Known i fs) where
    -- one hop more
    module _ (e : Edge) (member : IsIn e p.edges) where
      taken : edge_from flow (node i) (hop_by p e) ≡ Some e
      taken = hop-taken flow differ i p e at (got-IsIn flow.points i p at) member

      hop-reached : IsReached flow e.target
      hop-reached =
          let r = known.reached in (
            r.0 ++ hop_by p e ∷ [],
            held_after_edge e (init (0 ∷ [])) r.1,
            walk-more flow (init (0 ∷ [])) r.0 (hop_by p e) flow.entry (node i) (held_at_start (init (0 ∷ []))) r.1 e r.2 taken,
          )

      hop-lacks : (f : Fact) (j : ℕ) → e.target ≡ node j → listed (facts_behind e fs) f ≡ false → Lacks flow f j
      hop-lacks f j to missing = by-test (any_pass (λ q. is_at_or_below q (path_of f)) e.kills) killed kept
        where
          not-made : any_pass (same_fact f) e.makes ≡ false
          not-made = unlisted f e.makes (λ h. not-listed f (facts_behind e fs) missing (in-append_left f e.makes (filter (λ f. not (any_pass (λ q. is_at_or_below q (path_of f)) e.kills)) fs) h))

          behind : (hops : List Hop) (value : Bool) → walk flow f hops flow.entry (held_at_start f) ≡ Some (record { here = node i; held = value }) → held_after_edge e f value ≡ false → Lacks flow f j
          behind hops value leads falls = (
            hops ++ hop_by p e ∷ [],
            walk-more flow f hops (hop_by p e) flow.entry (node i) (held_at_start f) value e leads taken
                ∙ ap (λ t. Some (record { here = t; held = held_after_edge e f value })) to ∙ ap (λ b. Some (record { here = node j; held = b })) falls,
          )

          killed : any_pass (λ q. is_at_or_below q (path_of f)) e.kills ≡ true → Lacks flow f j
          killed kill =
              let r = known.reached in
              let w = walk-common flow (init (0 ∷ [])) f r.0 flow.entry (node i) (held_at_start (init (0 ∷ []))) r.1 (held_at_start f) r.2 in
              behind r.0 w.0 w.1 (ap (λ b. cond b true (cond (any_pass (λ q. is_at_or_below q (path_of f)) e.kills) false w.0)) not-made ∙ ap (λ b. cond b false w.0) kill)

          kept : any_pass (λ q. is_at_or_below q (path_of f)) e.kills ≡ false → Lacks flow f j
          kept stay =
              let none : listed fs f ≡ false = unlisted f fs (λ h. not-listed f (facts_behind e fs) missing
              (in-append_right f e.makes (filter (λ f. not (any_pass (λ q. is_at_or_below q (path_of f)) e.kills)) fs) (in-filter (λ f. not (any_pass (λ q. is_at_or_below q (path_of f)) e.kills)) f fs h (ap not stay)))) in
              let l = known.lacks f none in
              behind l.0 false l.1 (ap (λ b. cond b true (cond (any_pass (λ q. is_at_or_below q (path_of f)) e.kills) false false)) not-made ∙ ap (λ b. cond b false false) stay)

      met-known : (ls : LabelLists) (j : ℕ) → e.target ≡ node j → AllKnown ls → AllKnown (meet_at j (facts_behind e fs) ls)
      met-known ls j to all k gs found = by (met-found j (facts_behind e fs) ls k gs found)
        where
          new-known : node j ≡ node k → (l : Option (List Fact)) → label_at ls k ≡ l → meet l (facts_behind e fs) ≡ Some gs → Known k gs
          new-known same None was is = record {
            reached = subst (IsReached flow) (to ∙ same) hop-reached;
            lacks = λ f missing. hop-lacks f k (to ∙ same) (ap (λ gs. listed gs f) (some-injective is) ∙ missing);
          }
          new-known same (Some old) was is = record {
            reached = subst (IsReached flow) (to ∙ same) hop-reached;
            lacks = λ f missing. by-test (listed old f)
                (λ there. hop-lacks f k (to ∙ same) (unlisted f (facts_behind e fs) (λ h. not-listed f gs missing
                (subst (IsIn f) (some-injective is) (in-filter (λ f. listed (facts_behind e fs) f) f old (listed-IsIn f old there) (IsIn-listed f (facts_behind e fs) h))))))
                (λ none. (all k old was).lacks f none);
          }

          by : (label_at ls k ≡ Some gs) ⊎ ((j ≡ k) × (meet (label_at ls k) (facts_behind e fs) ≡ Some gs)) → Known k gs
          by (inl e) = all k gs e
          by (inr h) = new-known (ap node h.0) (label_at ls k) refl h.1

    edge-known : (e : Edge) → IsIn e p.edges → (t : Target) → e.target ≡ t → (ls : LabelLists) → AllKnown ls → AllKnown (meet_in t (facts_behind e fs) ls)
    edge-known e member (node j) to ls all = met-known e member ls j to all
    edge-known e member end to ls all = all
    edge-known e member (end_by x) to ls all = all

    edges-known : (es : List Edge) → ((e : Edge) → IsIn e es → IsIn e p.edges) → (ls : LabelLists) → AllKnown ls → AllKnown (along_edges es fs ls)
    edges-known [] among ls all = all
    edges-known (e ∷ es) among ls all = edges-known es (λ d h. among d (inr h)) (meet_in e.target (facts_behind e fs) ls) (edge-known e (among e (inl refl)) e.target refl ls all)

  point-known : (i : ℕ) (p : Point) → slice_get flow.points i ≡ Some p → (ls : LabelLists) → AllKnown ls → AllKnown (from_point p (label_at ls i) ls)
  point-known i p at ls all = by (label_at ls i) refl
    where
      by : (l : Option (List Fact)) → label_at ls i ≡ l → AllKnown (from_point p l ls)
      by None e = all
      by (Some fs) e = edges-known i p at fs (all i fs e) p.edges (λ d h. h) ls all

  points-known : (i : ℕ) (ps : List Point) → ((j : ℕ) (p : Point) → slice_get ps j ≡ Some p → slice_get flow.points (i + j) ≡ Some p) → (ls : LabelLists) → AllKnown ls → AllKnown (from_points i ps ls)
  points-known i [] at ls all = all
  points-known i (p ∷ ps) at ls all =
      points-known (suc i) ps (λ j q e. ap (slice_get flow.points) (let same : suc i + j ≡ i + suc j = omega arith in same) ∙ at (suc j) q e) (from_point p (label_at ls i) ls)
      (point-known i p (ap (slice_get flow.points) (let same : i ≡ i + 0 = omega arith in same) ∙ at 0 p refl) ls all)

  rounds-known : (n : ℕ) (ls : LabelLists) → AllKnown ls → AllKnown (rounds n flow.points ls)
  rounds-known zero ls all = all
  rounds-known (suc n) ls all =
      rounds-known n (from_points 0 flow.points ls) (points-known 0 flow.points (λ j p e. ap (slice_get flow.points) (let same : 0 + j ≡ j = omega arith in same) ∙ e) ls all)

  none-there : (ps : List Point) (j : ℕ) → label_at (map (λ p. None) ps) j ≡ None
  none-there [] j = refl
  none-there (p ∷ ps) zero = refl
  none-there (p ∷ ps) (suc j) = none-there ps j

  -- the port at the entry, and nothing elsewhere
  first-known : AllKnown (first_labels flow)
  first-known = by flow.entry refl
    where
      entry : (i j : ℕ) (fs : List Fact) → flow.entry ≡ node j → meet (label_at (map (λ p. None) flow.points) j) (init (0 ∷ []) ∷ []) ≡ Some fs → Known j fs
      entry i j fs from is =
          let one : init (0 ∷ []) ∷ [] ≡ fs = some-injective (ap (λ l. meet l (init (0 ∷ []) ∷ [])) (sym (none-there flow.points j)) ∙ is) in
          record {
            reached = ([], held_at_start (init (0 ∷ [])), ap (λ t. Some (record { here = t; held = held_at_start (init (0 ∷ [])) })) from);
            lacks = λ f missing.
                let start : held_at_start f ≡ false = sym (or-false (same_fact f (init (0 ∷ [])))) ∙ ap (λ fs. listed fs f) one ∙ missing in
                ([], ap (λ t. Some (record { here = t; held = held_at_start f })) from ∙ ap (λ b. Some (record { here = node j; held = b })) start);
          }

      all-none : AllKnown (map (λ p. None) flow.points)
      all-none i fs e = none-not_some (sym (none-there flow.points i) ∙ e)

      at : (i j : ℕ) (fs : List Fact) → flow.entry ≡ node i → (label_at (map (λ p. None) flow.points) j ≡ Some fs) ⊎ ((i ≡ j) × (meet (label_at (map (λ p. None) flow.points) j) (init (0 ∷ []) ∷ []) ≡ Some fs)) → Known j fs
      at i j fs from (inl e) = none-not_some (sym (none-there flow.points j) ∙ e)
      at i j fs from (inr h) = entry i j fs (from ∙ ap node h.0) h.1

      by : (t : Target) → flow.entry ≡ t → AllKnown (meet_in t (init (0 ∷ []) ∷ []) (map (λ p. None) flow.points))
      by (node i) from = λ j fs found. at i j fs from (met-found i (init (0 ∷ []) ∷ []) (map (λ p. None) flow.points) j fs found)
      by end from = all-none
      by (end_by x) from = all-none

  pub found-known : (n : ℕ) → AllKnown (rounds n flow.points (first_labels flow))
  found-known n = rounds-known n (first_labels flow) first-known

-- whether a label is there, and each fact of it is held
abbrev pub holds_all : Option (List Fact) → (Fact → Bool) → Bool
holds_all None held = false
holds_all (Some gs) held = all_pass held gs

abbrev pub target_settled : LabelLists → (Fact → Bool) → Target → Bool
target_settled ls held (node j) = holds_all (label_at ls j) held
target_settled ls held end = true
target_settled ls held (end_by e) = true

-- whether one more round changes nothing: each label is there, and has what is held along each edge alone
abbrev pub point_settled : LabelLists → Option (List Fact) → Point → Bool
point_settled ls None p = false
point_settled ls (Some fs) p = all_pass (λ (e : Edge). target_settled ls (λ f. held_after_edge e f (listed fs f)) e.target) p.edges

abbrev pub settled : Flow → LabelLists → Bool
settled flow ls = target_settled ls held_at_start flow.entry && all_pass (λ (x : ℕ × Point). point_settled ls (label_at ls x.0) x.1) (numbered 0 flow.points)

module _ (flow : Flow) (ls : LabelLists) (is : settled flow ls ≡ true) where
  both : IsTrue (target_settled ls held_at_start flow.entry) × IsTrue (all_pass (λ (x : ℕ × Point). point_settled ls (label_at ls x.0) x.1) (numbered 0 flow.points))
  both = and-both (target_settled ls held_at_start flow.entry) _ is

  -- a label that is there is the test
  label-is : (i : ℕ) (fs : List Fact) (f : Fact) → label_at ls i ≡ Some fs → has_label ls i f ≡ listed fs f
  label-is i fs f e = ap (λ l. any_pass (any_pass (same_fact f)) (list_of (λ fs. fs ∷ []) l)) e ∙ or-false (listed fs f)

  target-there : (held : Fact → Bool) (t : Target) (j : ℕ) → t ≡ node j → IsTrue (target_settled ls held t) → (gs : List Fact) × (label_at ls j ≡ Some gs) × IsTrue (all_pass held gs)
  target-there held t j to h = by (label_at ls j) refl (subst (λ t. IsTrue (target_settled ls held t)) to h)
    where
      by : (l : Option (List Fact)) → label_at ls j ≡ l → IsTrue (holds_all l held) → (gs : List Fact) × (label_at ls j ≡ Some gs) × IsTrue (all_pass held gs)
      by None e h = not_true h
      by (Some gs) e h = (gs, e, h)

  point-there : (i : ℕ) (p : Point) → slice_get flow.points i ≡ Some p
      → (fs : List Fact) × (label_at ls i ≡ Some fs) × IsTrue (all_pass (λ (e : Edge). target_settled ls (λ f. held_after_edge e f (listed fs f)) e.target) p.edges)
  point-there i p at = by (label_at ls i) refl (every-in (λ (x : ℕ × Point). point_settled ls (label_at ls x.0) x.1) (i, p) (numbered 0 flow.points) both.1 (at-numbered flow.points i p at))
    where
      by : (l : Option (List Fact)) → label_at ls i ≡ l → IsTrue (point_settled ls l p) → (fs : List Fact) × (label_at ls i ≡ Some fs) × IsTrue (all_pass (λ (e : Edge). target_settled ls (λ f. held_after_edge e f (listed fs f)) e.target) p.edges)
      by None e h = not_true h
      by (Some fs) e h = (fs, e, h)

  -- a fact that a label says at a target is held there
  said-held : (held : Fact → Bool) (t : Target) (f : Fact) → IsTrue (target_settled ls held t) → labels.label_at (has_label ls) t f ≡ true → held f ≡ true
  said-held held (node j) f h said =
      let g = target-there held (node j) j refl h in
      every-in held f g.0 g.2 (listed-IsIn f g.0 (sym (label-is j g.0 f g.1) ∙ said))
  said-held held end f h said = absurd (true≢false (sym said))
  said-held held (end_by e) f h said = absurd (true≢false (sym said))

  inductive : AreInductive flow (has_label ls)
  inductive = record {
    begins = λ f said. said-held held_at_start flow.entry f both.0 said;
    goes_on = λ i p e f at member said.
        let fs = point-there i p at in
        let edge = every-in (λ (e : Edge). target_settled ls (λ f. held_after_edge e f (listed fs.0 f)) e.target) e p.edges fs.2 member in
        ap (held_after_edge e f) (label-is i fs.0 f fs.1) ∙ said-held (λ f. held_after_edge e f (listed fs.0 f)) e.target f edge said;
  }

  -- each label that is reached is there
  led-there : (t : Target) → IsLedTo flow t → (j : ℕ) → t ≡ node j → (fs : List Fact) × (label_at ls j ≡ Some fs)
  led-there t begins j to = let g = target-there held_at_start flow.entry j to both.0 in (g.0, g.1)
  led-there t (goes_on i p e led at member) j to =
      let fs = point-there i p at in
      let edge = every-in (λ (e : Edge). target_settled ls (λ f. held_after_edge e f (listed fs.0 f)) e.target) e p.edges fs.2 member in
      let g = target-there (λ f. held_after_edge e f (listed fs.0 f)) e.target j to edge in
      (g.0, g.1)

  pub settled-exact : (differ : EdgesDiffer flow) → AllKnown flow differ ls → AreExact flow (has_label ls)
  settled-exact differ known i f reached = (λ said. flows-Holds flow (has_label ls) inductive i f said, λ holds. by-test (has_label ls i f) (λ e. e) (λ e. lacking holds e))
    where
      lacking : Holds flow f i → has_label ls i f ≡ false → has_label ls i f ≡ true
      lacking holds e =
          let fs = led-there (node i) (reached-IsLedTo flow (node i) reached) i refl in
          let l = (known i fs.0 fs.1).lacks f (sym (label-is i fs.0 f fs.1) ∙ e) in
          absurd (true≢false (sym (holds l.0 false l.1)))

-- labels that rounds find are exact where they are settled
pub rounds-exact : (flow : Flow) → EdgesDiffer flow → (n : ℕ) → settled flow (rounds n flow.points (first_labels flow)) ≡ true → AreExact flow (has_label (rounds n flow.points (first_labels flow)))
rounds-exact flow differ n is = settled-exact flow (rounds n flow.points (first_labels flow)) is differ (found-known flow differ n)
