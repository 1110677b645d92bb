-- Every way of good code leads to a label, and labels have closed sets of facts.
use Rattle.std.proofs.Common.{◌≡◌, ℕ, suc, ◌<◌, length, List, [], ◌∷◌, ◌++◌, map, filter, find, Bool, true, false, not, cond, ◌||◌, ◌⊎◌, inl, inr, nat_eq, Option, Some, None, option_and_then, option_map, is_some, slice_get, IsTrue, refl, sym, ap, subst, ◌∙◌, arith, true≢false}
use Rattle.std.proofs.lemmas.Bool.{eq-eqb, eqb-true}
use Rattle.herm_model.specs.Lists.{IsIn, any_pass, list_of}
use Rattle.herm_model.specs.Paths.{Path, Fact, init, path_of, is_at_or_below}
use Rattle.herm_model.specs.Types.{TypeTable}
use Rattle.herm_model.specs.Facts.{prefixes, facts_to, IsClosed}
use Rattle.herm_model.specs.Outcomes.{Outcome, raised}
use Rattle.herm_model.specs.FactsOfStatements.{closed}
use Rattle.herm_model.proofs.Lists.{not_true, in-append_left, in-append_right, in-append_cases, in-map, in-map_from, in-flat_map, in-filter, in-filter_from, or-left, or-right}
use Rattle.herm_model.proofs.Options.{some-injective, none-not_some}
use Rattle.herm_model.proofs.Beginnings.{above-longer, below-trans}
use Rattle.herm_model.proofs.Prefixes.{speaks, before-path}
use Rattle.herm_model.proofs.ClosedFacts.{closed-IsClosed}
use Rattle.herm_model.proofs.DecidedTables.{below-type}
use Rattle.herm_model.proofs.FactTests.{got-IsIn}
use Rattle.herm_instructions.specs.Instructions.{Instruction}
use Rattle.herm_instructions.specs.Labels.{Label, ListedLabel, listed_at}
use Rattle.herm_instructions.specs.Images.{Landing, CodeModule, Image, landing_of}
use Rattle.herm_instructions.specs.Effects.{row_of, facts_behind, exceptions_of, label_behind}
use Rattle.herm_instructions.specs.Places.{Way, goes_on, jumps, landing_ways, Place, named_ways, ways, further_landings, listed_or, label_at_start, goes_on_with, places_from, places, label_at, targets}
use Rattle.herm_instructions.specs.GoodCode.{Arrives, module_places, behind, IsGoodModule}
use Rattle.herm_instructions.specs.laws.LabelLaws.{IsPlaceAt, InstructionsHavePlaces, PlacesAreInstructions, BeginsAtLabel, WaysLeadToLabels, LabelsAreClosed, ExceptionsLand}
use Rattle.herm_instructions.proofs.PlacesOfCode.{follow-at, module-follows, instruction-there, instruction-place, place-landings, first-label, next-label, listed-label}

-- a label arrives where it is listed itself
arrives-itself : (l : Label) → Arrives l l
arrives-itself l = record { stack = refl; slots = refl; values = λ p. ((λ i. i), λ i. i); components = λ p c i. i }

-- a label is listed for an index that is there
listed-there : (labels : List ListedLabel) (n : ℕ) → IsIn n (map (λ (l : ListedLabel). l.index) labels) → (l : Label) × (listed_at labels n ≡ Some l)
listed-there [] n i = absurd i
listed-there (x ∷ labels) n i = by (nat_eq x.index n) refl i (listed-there labels n)
  where
    by : (b : Bool) → nat_eq x.index n ≡ b → IsIn n (x.index ∷ map (λ (l : ListedLabel). l.index) labels) → (IsIn n (map (λ (l : ListedLabel). l.index) labels) → (l : Label) × (listed_at labels n ≡ Some l))
        → (l : Label) × (option_map (λ (l : ListedLabel). l.label) (cond b (Some x) (find (λ (l : ListedLabel). nat_eq l.index n) labels)) ≡ Some l)
    by true e i again = (x.label, refl)
    by false e (inl k) again = absurd (true≢false (sym (eq-eqb x.index n (sym k)) ∙ e))
    by false e (inr i) again = again i

listed-in : (labels : List ListedLabel) (n : ℕ) (l : Label) → listed_at labels n ≡ Some l → (x : ListedLabel) × IsIn x labels × (x.label ≡ l)
listed-in [] n l e = none-not_some e
listed-in (x ∷ labels) n l e = by (nat_eq x.index n) e (listed-in labels n l)
  where
    by : (b : Bool) → option_map (λ (l : ListedLabel). l.label) (cond b (Some x) (find (λ (l : ListedLabel). nat_eq l.index n) labels)) ≡ Some l → (listed_at labels n ≡ Some l → (y : ListedLabel) × IsIn y labels × (y.label ≡ l)) → (y : ListedLabel) × IsIn y (x ∷ labels) × (y.label ≡ l)
    by true e again = (x, inl refl, some-injective e)
    by false e again = let r = again e in (r.0, inr r.1, r.2)

-- a fact before another speaks of a beginning of its path
prefix-begins : (types : TypeTable) (variables : List ℕ) (f g : Fact) → IsIn g (prefixes types variables f) → is_at_or_below (path_of g) (path_of f) ≡ true
prefix-begins types variables f g h = by (path_of f) (before-path types variables f g h)
  where
    by : (p : Path) → IsIn g (facts_to types variables p) → is_at_or_below (path_of g) p ≡ true
    by [] k = absurd k
    by (v ∷ p) k =
        let s = speaks types (v ∷ []) (slice_get variables v) false p g k in
        let whole : v ∷ p ≡ path_of g ++ s.1.0 = ap (v ∷◌) s.1.1 ∙ sym (ap (λ (q : Path). q ++ s.1.0) s.2) in
        subst (λ (q : Path). is_at_or_below (path_of g) q ≡ true) (sym whole) (above-longer (path_of g) s.1.0)

-- so what takes it away takes the other away
gone-after : (q r : Path) → is_at_or_below q r ≡ true → (ps : List Path) → any_pass (λ p. is_at_or_below p q) ps ≡ true → any_pass (λ p. is_at_or_below p r) ps ≡ true
gone-after q r b [] h = h
gone-after q r b (p ∷ ps) h = go (is_at_or_below p q) refl (gone-after q r b ps) h
  where
    go : (t : Bool) → is_at_or_below p q ≡ t → (any_pass (λ p. is_at_or_below p q) ps ≡ true → any_pass (λ p. is_at_or_below p r) ps ≡ true) → (t || any_pass (λ p. is_at_or_below p q) ps) ≡ true → any_pass (λ p. is_at_or_below p r) (p ∷ ps) ≡ true
    go true e later h = or-left (is_at_or_below p r) _ (below-trans p q r e b)
    go false e later h = or-right (is_at_or_below p r) _ (later h)

-- the facts behind an outcome are closed where those before it are
behind-closed : (types : TypeTable) (variables : List ℕ) (i : Instruction) (o : Outcome) (facts : List Fact) → IsClosed types variables (λ f. IsIn f facts) → IsClosed types variables (λ f. IsIn f (facts_behind types variables i o facts))
behind-closed types variables i o facts c f g h prefix = by (in-append_cases f made left h)
  where
    made : List Fact
    made = closed types variables ((row_of types variables i).made o)

    gone : Fact → Bool
    gone f = any_pass (λ p. is_at_or_below p (path_of f)) ((row_of types variables i).gone o)

    left : List Fact
    left = filter (λ f. not (gone f)) facts

    stays : (b : Bool) → gone g ≡ b → IsTrue (not (gone f)) → IsTrue (not b)
    stays false e n = refl
    stays true e n = not_true (subst (λ b. IsTrue (not b)) (gone-after (path_of g) (path_of f) (prefix-begins types variables f g prefix) ((row_of types variables i).gone o) e) n)

    by : IsIn f made ⊎ IsIn f left → IsIn g (made ++ left)
    by (inl k) = in-append_left g made left (closed-IsClosed types variables ((row_of types variables i).made o) f g k prefix)
    by (inr k) =
        let r = in-filter_from (λ f. not (gone f)) f facts k in
        in-append_right g made left (in-filter (λ f. not (gone f)) g facts (c f g r.0 prefix) (stays (gone g) refl r.1))

module _ (image : Image) (m : CodeModule) where
  abbrev IsClosedLabel : Label → Type 0
  IsClosedLabel l = IsClosed image.types m.variables (λ f. IsIn f l.facts)

  abbrev AreClosedLabels : Option Label → Type 0
  AreClosedLabels o = (l : Label) → o ≡ Some l → IsClosedLabel l

  label-behind-closed : (i : Instruction) (o : Outcome) (l : Label) → IsClosedLabel l → IsClosedLabel (label_behind image.types m.variables image.constants i o l)
  label-behind-closed i (raised e) l c = behind-closed image.types m.variables i (raised e) l.facts c
  label-behind-closed i o l c = behind-closed image.types m.variables i o l.facts c

  module _ (listed : (x : ListedLabel) → IsIn x m.labels → IsClosedLabel x.label) where
    listed-closed : (n : ℕ) → AreClosedLabels (listed_at m.labels n)
    listed-closed n l e = let r = listed-in m.labels n l e in subst IsClosedLabel r.2 (listed r.0 r.1)

    either-closed : (o a : Option Label) → AreClosedLabels o → AreClosedLabels a → AreClosedLabels (listed_or o a)
    either-closed None a h k = k
    either-closed (Some x) a h k = h

    on-closed : (i : Instruction) (o : Option Outcome) (here : Option Label) → AreClosedLabels here → AreClosedLabels (option_and_then (λ o. option_map (λ l. label_behind image.types m.variables image.constants i o l) here) o)
    on-closed i None here h l e = none-not_some e
    on-closed i (Some o) None h l e = none-not_some e
    on-closed i (Some o) (Some x) h l e = subst IsClosedLabel (some-injective e) (label-behind-closed i o x (h x refl))

    places-closed : (code : List Instruction) (a : Option Label) (n : ℕ) (landings : List (List Landing)) → AreClosedLabels a → (p : Place) → IsIn p (places_from image.types image.constants m.variables m.labels a n code landings) → AreClosedLabels p.label
    places-closed [] a n landings h p i = absurd i
    places-closed (c ∷ code) a n landings h p (inl e) = subst (λ (q : Place). AreClosedLabels q.label) (sym e) (either-closed (listed_at m.labels n) a (listed-closed n) h)
    places-closed (c ∷ code) a n landings h p (inr i) =
        places-closed code _ (suc n) (further_landings landings) (on-closed c (goes_on c) (listed_or (listed_at m.labels n) a) (either-closed (listed_at m.labels n) a (listed-closed n) h)) p i

start-closed : (types : TypeTable) (variables : List ℕ) → IsClosed types variables (λ f. IsIn f label_at_start.facts)
start-closed types variables f g (inl e) prefix = let k : IsIn g (prefixes types variables (init (0 ∷ []))) = subst (λ h. IsIn g (prefixes types variables h)) e prefix in absurd k
start-closed types variables f g (inr h) prefix = absurd h

-- the outcome of an option, and the landing of an exception
goes_on-is : (g : Option Outcome) (o : Outcome) → IsIn o (list_of (λ o. o ∷ []) g) → g ≡ Some o
goes_on-is None o i = absurd i
goes_on-is (Some x) o (inl e) = ap Some (sym e)
goes_on-is (Some x) o (inr i) = absurd i

landing-found : (ls : List Landing) (e : ℕ) → IsIn e (map (λ (l : Landing). l.exception) ls) → (l : Landing) × IsIn l ls × (find (λ (l : Landing). nat_eq l.exception e) ls ≡ Some l) × (l.exception ≡ e)
landing-found [] e i = absurd i
landing-found (x ∷ ls) e i = by (nat_eq x.exception e) refl i (landing-found ls e)
  where
    by : (b : Bool) → nat_eq x.exception e ≡ b → IsIn e (x.exception ∷ map (λ (l : Landing). l.exception) ls) → (IsIn e (map (λ (l : Landing). l.exception) ls) → (l : Landing) × IsIn l ls × (find (λ (l : Landing). nat_eq l.exception e) ls ≡ Some l) × (l.exception ≡ e))
        → (l : Landing) × IsIn l (x ∷ ls) × (cond b (Some x) (find (λ (l : Landing). nat_eq l.exception e) ls) ≡ Some l) × (l.exception ≡ e)
    by true k i again = (x, inl refl, refl, eqb-true x.exception e k)
    by false k (inl j) again = absurd (true≢false (sym (eq-eqb x.exception e (sym j)) ∙ k))
    by false k (inr j) again = let r = again j in (r.0, inr r.1, r.2, r.3)

pub labels-closed : LabelsAreClosed
labels-closed exceptions image m good n l e = by (slice_get (places image.types image.constants m) n) refl e
  where
    by : (o : Option Place) → slice_get (places image.types image.constants m) n ≡ o → option_and_then (λ (p : Place). p.label) o ≡ Some l → IsClosed image.types m.variables (λ f. IsIn f l.facts)
    by None s e = none-not_some e
    by (Some p) s e =
        places-closed image m good.labels_closed m.code (Some label_at_start) 0 m.landings (λ k h. subst (λ (x : Label). IsClosed image.types m.variables (λ f. IsIn f x.facts)) (some-injective h) (start-closed image.types m.variables)) p (got-IsIn _ n p s) l e

module _ (exceptions : ℕ) (image : Image) (m : CodeModule) where
  abbrev ps : List Place
  ps = module_places exceptions image m

  -- what is at an index of the places
  at : (n : ℕ) (p : Place) → slice_get ps n ≡ Some p → label_at image.types image.constants m n ≡ p.label
  at n p e = ap (option_and_then (λ (q : Place). q.label)) e

  place-at : (p : Place) → IsIn p ps → slice_get ps p.index ≡ Some p
  place-at p i =
      let r = follow-at 0 ps (module-follows image.types image.constants m) p i in
      let k : p.index ≡ r.0 = omega (arith, r.1) in
      ap (slice_get ps) k ∙ r.2

  is-place : (p : Place) → IsIn p ps → IsPlaceAt image m p.index p.instruction p
  is-place p i = record {
    index = refl;
    instruction = refl;
    landings = place-landings image.types image.constants m.variables m.labels m.code (Some label_at_start) 0 m.landings p.index p (place-at p i);
    label = sym (at p.index p (place-at p i));
  }

  pub there : (n : ℕ) (i : Instruction) → slice_get m.code n ≡ Some i → (p : Place) × IsIn p ps × IsPlaceAt image m n i p
  there n i e =
      let r = instruction-place image.types image.constants m.variables m.labels m.code (Some label_at_start) 0 m.landings n i e in
      let same : (r.0).index ≡ n = r.2 ∙ omega arith in
      let j : IsIn r.0 ps = got-IsIn ps n r.0 r.1 in
      (r.0, j, subst (λ k. IsPlaceAt image m k i r.0) same (subst (λ k. IsPlaceAt image m (r.0).index k r.0) r.3 (is-place r.0 j)))

  -- the instruction at an index within the code
  within : (n : ℕ) → n < length m.code → (i : Instruction) × (slice_get m.code n ≡ Some i)
  within n h = by (slice_get m.code n) refl (below-type m.code n h)
    where
      by : (o : Option Instruction) → slice_get m.code n ≡ o → IsTrue (is_some o) → (i : Instruction) × (slice_get m.code n ≡ Some i)
      by None e t = not_true t
      by (Some i) e t = (i, e)

  module _ (good : IsGoodModule exceptions image m) where
    pub begins : (l : Label) × (label_at image.types image.constants m 0 ≡ Some l) × Arrives label_at_start l
    begins = by (listed_at m.labels 0) refl
      where
        first : (i : Instruction) × (slice_get m.code 0 ≡ Some i)
        first = within 0 good.code

        place : (p : Place) × (slice_get ps 0 ≡ Some p)
        place = let r = instruction-place image.types image.constants m.variables m.labels m.code (Some label_at_start) 0 m.landings 0 first.0 first.1 in (r.0, r.1)

        label : label_at image.types image.constants m 0 ≡ listed_or (listed_at m.labels 0) (Some label_at_start)
        label = at 0 place.0 place.1 ∙ first-label image.types image.constants m.variables m.labels m.code (Some label_at_start) 0 m.landings place.0 place.1

        by : (o : Option Label) → listed_at m.labels 0 ≡ o → (l : Label) × (label_at image.types image.constants m 0 ≡ Some l) × Arrives label_at_start l
        by None e = (label_at_start, label ∙ ap (λ o. listed_or o (Some label_at_start)) e, arrives-itself label_at_start)
        by (Some x) e = (x, label ∙ ap (λ o. listed_or o (Some label_at_start)) e, good.begins x e)

    module _ (p : Place) (l : Label) (i : IsIn p ps) (labelled : p.label ≡ Some l) (w : Way) (j : IsIn w (ways p)) where
      abbrev Leads : Type 0
      Leads = (next : Label) × (label_at image.types image.constants m w.index ≡ Some next) × Arrives (behind exceptions image m p w l) next

      place_there : (q : Place) × IsIn q ps × (q.index ≡ w.index) × (q.label ≡ label_at image.types image.constants m w.index)
      place_there =
          let x = within w.index (good.in_range p l i labelled w j) in
          let r = there w.index x.0 x.1 in
          (r.0, r.1, (r.2).index, (r.2).label)

      where_listed : (x : Label) → listed_at m.labels w.index ≡ Some x → Leads
      where_listed x e =
          let q = place_there in
          let here : (q.0).label ≡ Some x = listed-label image.types image.constants m.variables m.labels m.code (Some label_at_start) 0 m.landings q.0 q.1 x (ap (listed_at m.labels) q.2 ∙ e) in
          (x, sym q.3 ∙ here, good.arrives p l i labelled w x j e)

      where_named : IsIn w (named_ways p) → Leads
      where_named k =
          let named : IsIn w.index (targets ps) = in-flat_map (λ (p : Place). map (λ (w : Way). w.index) (named_ways p)) p w.index ps i (in-map (λ (w : Way). w.index) w (named_ways p) k) in
          let x = listed-there m.labels w.index ((good.labels_listed w.index).1 named) in
          where_listed x.0 x.1

      where_next : (o : Outcome) → goes_on p.instruction ≡ Some o → w ≡ record { outcome = o; index = suc p.index } → listed_at m.labels w.index ≡ None → Leads
      where_next o g e n = (label_behind image.types m.variables image.constants p.instruction o l, sym q.3 ∙ label, subst (λ (v : Way). Arrives (behind exceptions image m p v l) (label_behind image.types m.variables image.constants p.instruction o l)) (sym e) (arrives-itself _))
        where
          q : (q : Place) × IsIn q ps × (q.index ≡ w.index) × (q.label ≡ label_at image.types image.constants m w.index)
          q = place_there

          next : (q.0).index ≡ suc p.index
          next = q.2 ∙ ap (λ (v : Way). v.index) e

          handed_on : goes_on_with image.types image.constants m.variables m.labels p.instruction p.label ≡ Some (label_behind image.types m.variables image.constants p.instruction o l)
          handed_on =
              ap (option_and_then (λ o. option_map (λ l. label_behind image.types m.variables image.constants p.instruction o l) p.label)) g
              ∙ ap (option_map (λ l. label_behind image.types m.variables image.constants p.instruction o l)) labelled

          label : (q.0).label ≡ Some (label_behind image.types m.variables image.constants p.instruction o l)
          label =
              next-label image.types image.constants m.variables m.labels m.code (Some label_at_start) 0 m.landings p.index p q.0 (place-at p i) (subst (λ k. slice_get ps k ≡ Some q.0) next (place-at q.0 q.1))
              ∙ ap (λ k. listed_or (listed_at m.labels k) (goes_on_with image.types image.constants m.variables m.labels p.instruction p.label)) q.2
              ∙ ap (λ x. listed_or x (goes_on_with image.types image.constants m.variables m.labels p.instruction p.label)) n ∙ handed_on

      pub leads : Leads
      leads = by (in-append_cases w _ (named_ways p) j)
        where
          by_label : (x : Option Label) → listed_at m.labels w.index ≡ x → (o : Outcome) → goes_on p.instruction ≡ Some o → w ≡ record { outcome = o; index = suc p.index } → Leads
          by_label (Some x) e o g k = where_listed x e
          by_label None e o g k = where_next o g k e

          by : IsIn w (map (λ o. record { outcome = o; index = suc p.index }) (list_of (λ o. o ∷ []) (goes_on p.instruction))) ⊎ IsIn w (named_ways p) → Leads
          by (inl k) = let r = in-map_from (λ o. record { outcome = o; index = suc p.index }) w _ k in by_label (listed_at m.labels w.index) refl r.0 (goes_on-is (goes_on p.instruction) r.0 r.1) r.2
          by (inr k) = where_named k

    pub lands : (p : Place) → IsIn p ps → (e : ℕ) → IsIn e (exceptions_of image.types m.variables p.instruction) → (w : Way) × IsIn w (ways p) × (w.outcome ≡ raised e) × (landing_of m p.index e ≡ Some w.index)
    lands p i e r =
        let found = landing-found p.landings e (((good.landings p i).1 e).1 r) in
        let w : Way = record { outcome = raised (found.0).exception; index = (found.0).index } in
        let named : IsIn w (landing_ways p.landings) = in-map (λ (l : Landing). record { outcome = raised l.exception; index = l.index }) found.0 p.landings found.1 in
        (w, in-append_right w _ (named_ways p) (in-append_right w (jumps p.instruction) (landing_ways p.landings) named), ap raised found.3, by (slice_get m.landings p.index) refl ((is-place p i).landings) found.2)
      where
        by : {l : Landing} (o : Option (List Landing)) → slice_get m.landings p.index ≡ o → p.landings ≡ list_of (λ ls. ls) (slice_get m.landings p.index) → find (λ (l : Landing). nat_eq l.exception e) p.landings ≡ Some l
            → landing_of m p.index e ≡ Some l.index
        by None s k f = none-not_some (sym (ap (find (λ (l : Landing). nat_eq l.exception e)) (k ∙ ap (list_of (λ ls. ls)) s)) ∙ f)
        by (Some ls) s k f =
            ap (λ o. option_map (λ (l : Landing). l.index) (option_and_then (find (λ (l : Landing). nat_eq l.exception e)) o)) s
            ∙ ap (option_map (λ (l : Landing). l.index)) (sym (ap (find (λ (l : Landing). nat_eq l.exception e)) (k ∙ ap (list_of (λ ls. ls)) s)) ∙ f)

pub instructions-have_places : InstructionsHavePlaces
instructions-have_places exceptions image m n i e = there exceptions image m n i e

pub places-are_instructions : PlacesAreInstructions
places-are_instructions exceptions image m p i = (instruction-there image.types image.constants m p i, is-place exceptions image m p i)

pub begins-at_label : BeginsAtLabel
begins-at_label = begins

pub ways-lead : WaysLeadToLabels
ways-lead exceptions image m good p l i e w j = leads exceptions image m good p l i e w j

pub exceptions-land : ExceptionsLand
exceptions-land exceptions image m good p i e r = lands exceptions image m good p i e r
