-- The code of sound blocks is a good module.
use Rattle.std.proofs.Common.{◌≡◌, ℕ, zero, suc, ◌+◌, ◌<◌, ◌≤◌, length, List, [], ◌∷◌, ◌++◌, map, Bool, true, false, cond, nat_le, Option, Some, None, slice_get, ◌⊎◌, inl, inr, refl, sym, ap, subst, ◌∙◌, true≢false, arith}
use Rattle.herm_model.specs.Lists.{IsIn, list_of, total}
use Rattle.herm_model.specs.Paths.{Fact}
use Rattle.herm_model.specs.Types.{inport}
use Rattle.herm_model.specs.Facts.{IsClosed}
use Rattle.herm_model.specs.Statements.{Form}
use Rattle.herm_model.specs.Outcomes.{Outcome}
use Rattle.herm_model.specs.TypedExpressions.{HasShape}
use Rattle.herm_model.specs.WellFormedTables.{IsType, IsWellFormedTable}
use Rattle.herm_model.proofs.Options.{some-injective, none-not_some}
use Rattle.herm_model.proofs.Lists.{in-append_cases}
use Rattle.herm_model.proofs.Deciding.{at_most-decides}
use Rattle.herm_instructions.specs.Labels.{Label, ListedLabel, listed_at}
use Rattle.herm_instructions.specs.Images.{CodeModule, Image}
use Rattle.herm_instructions.specs.Places.{Way, Place, goes_on, jumps, landing_ways, named_ways, ways, label_at_start}
use Rattle.herm_instructions.specs.GoodCode.{Arrives, module_places, IsGoodModule, processes_of, behind}
use Rattle.herm_translated.specs.Departures.{Departure, edge_code, edge_length}
use Rattle.herm_translated.specs.CodeBlocks.{CodeBlock}
use Rattle.herm_translated.specs.Layout.{edges_at, block_length}
use Rattle.herm_translated.specs.BlockLabels.{listed_with, is_named, facts_after, comes_first, comes_again, edge_slots, labels_within, edge_labels, block_labels, labels_from}
use Rattle.herm_translated.specs.laws.GoodStructure.{AreComplete, HasGoodStructure}
use Rattle.herm_translated.proofs.Addresses.{laid-out}
use Rattle.herm_translated.proofs.LabelsStand.{blocks-labelled}
use Rattle.herm_translated.proofs.ListedLabels.{labels-rise, none-above}
use Rattle.herm_translated.proofs.StructureKept.{structured}
use Rattle.herm_translated.proofs.NamedIndices.{complete-listed}
use Rattle.herm_good_images.proofs.blocks.BlockOfNode.{in-got}
use Rattle.herm_good_images.proofs.blocks.ActingFronts.{acts-at_once}
use Rattle.herm_good_images.proofs.blocks.SoundBlocks.{AreGoodHere, IsSoundBlock, IsSoundPlace, place-sound}
use Rattle.herm_good_images.proofs.blocks.LocatedInstructions as places

module _ (count : ℕ) (image : Image) (variables : List ℕ) (entry : Departure) (blocks : List CodeBlock) where
  abbrev m : CodeModule
  m = places.m count image variables entry blocks

  -- the facts of a listed label are those of a block, or behind one of its outcomes
  abbrev IsOfBlock : List CodeBlock → List Fact → Type 0
  IsOfBlock bs fs = (b : CodeBlock) × IsIn b bs × ((fs ≡ b.facts) ⊎ ((d : Departure) × IsIn d b.departures × (fs ≡ facts_after image.types variables b.form d.outcome b.facts)))

  within-facts : (at : ℕ) (again : Bool) (b : CodeBlock) (form : Form) (l : ListedLabel) → IsIn l (labels_within image.types variables at again b form) → l.label.facts ≡ b.facts
  within-facts at true b (Form.For r t) l (inl e) = ap (λ (l : ListedLabel). l.label.facts) e
  within-facts at true b (Form.For r t) l (inr (inl e)) = ap (λ (l : ListedLabel). l.label.facts) e
  within-facts at true b (Form.For r t) l (inr (inr k)) = absurd k
  within-facts at false b (Form.For r t) l (inl e) = ap (λ (l : ListedLabel). l.label.facts) e
  within-facts at false b (Form.For r t) l (inr k) = absurd k
  within-facts at again b form l k = absurd k

  edge-facts : (at : ℕ) (b : CodeBlock) (ds : List Departure) (l : ListedLabel) → IsIn l (edge_labels image.types variables at b ds) → (d : Departure) × IsIn d ds × (l.label.facts ≡ facts_after image.types variables b.form d.outcome b.facts)
  edge-facts at b [] l k = absurd k
  edge-facts at b (d ∷ ds) l k = by (is_named d.outcome) (in-append_cases l _ (edge_labels image.types variables (at + edge_length d) b ds) k) (edge-facts (at + edge_length d) b ds l)
    where
      by : (named : Bool) → IsIn l (cond named (listed_with at (facts_after image.types variables b.form d.outcome b.facts) (edge_slots image.types variables b) ∷ []) []) ⊎ IsIn l (edge_labels image.types variables (at + edge_length d) b ds)
          → (IsIn l (edge_labels image.types variables (at + edge_length d) b ds) → (d : Departure) × IsIn d ds × (l.label.facts ≡ facts_after image.types variables b.form d.outcome b.facts))
          → (e : Departure) × IsIn e (d ∷ ds) × (l.label.facts ≡ facts_after image.types variables b.form e.outcome b.facts)
      by true (inl (inl e)) again = (d, inl refl, ap (λ (l : ListedLabel). l.label.facts) e)
      by true (inl (inr k)) again = absurd k
      by false (inl k) again = absurd k
      by named (inr k) again = let r = again k in (r.0, inr r.1, r.2)

  listed-facts : (first again : ℕ → Bool) (place at : ℕ) (bs : List CodeBlock) (l : ListedLabel) → IsIn l (labels_from image.types variables image.constants first again place at bs) → IsOfBlock bs l.label.facts
  listed-facts first again place at [] l k = absurd k
  listed-facts first again place at (b ∷ bs) l k =
      by (in-append_cases l (block_labels image.types variables image.constants at (first place) (again place) b) _ k) (listed-facts first again (suc place) (at + block_length image.types variables image.constants b) bs l)
    where
      rest : IsIn l (labels_within image.types variables at (again place) b b.form) ⊎ IsIn l (edge_labels image.types variables (edges_at image.types variables image.constants at b) b b.departures) → IsOfBlock (b ∷ bs) l.label.facts
      rest (inl a) = (b, inl refl, inl (within-facts at (again place) b b.form l a))
      rest (inr e) = (b, inl refl, inr (edge-facts (edges_at image.types variables image.constants at b) b b.departures l e))

      here : (t : Bool) → IsIn l (block_labels image.types variables image.constants at t (again place) b) → IsOfBlock (b ∷ bs) l.label.facts
      here true (inl e) = (b, inl refl, inl (ap (λ (l : ListedLabel). l.label.facts) e))
      here true (inr a) = rest (in-append_cases l (labels_within image.types variables at (again place) b b.form) _ a)
      here false a = rest (in-append_cases l (labels_within image.types variables at (again place) b b.form) _ a)

      by : IsIn l (block_labels image.types variables image.constants at (first place) (again place) b) ⊎ IsIn l (labels_from image.types variables image.constants first again (suc place) (at + block_length image.types variables image.constants b) bs)
          → (IsIn l (labels_from image.types variables image.constants first again (suc place) (at + block_length image.types variables image.constants b) bs) → IsOfBlock bs l.label.facts) → IsOfBlock (b ∷ bs) l.label.facts
      by (inl a) next = here (first place) a
      by (inr a) next = let r = next a in (r.0, inr r.1, r.2)

  -- labels are listed within the code
  listed-within : (n : ℕ) (l : Label) → listed_at m.labels n ≡ Some l → n < length m.code
  listed-within n l e = by (nat_le (edge_length entry + total (block_length image.types variables image.constants) blocks) n) refl
    where
      by : (b : Bool) → nat_le (edge_length entry + total (block_length image.types variables image.constants) blocks) n ≡ b → n < length m.code
      by true q =
          none-not_some
          (sym (none-above (edge_length entry) (edge_length entry + total (block_length image.types variables image.constants) blocks) m.labels (labels-rise image.types variables image.constants (comes_first entry blocks) (comes_again blocks) 0 (edge_length entry) blocks) n
          ((at_most-decides (edge_length entry + total (block_length image.types variables image.constants) blocks) n).0 q)) ∙ e)
      by false q = let many = (laid-out image.types variables image.constants entry blocks).many in let h = not-at_most (edge_length entry + total (block_length image.types variables image.constants) blocks) n q in omega (arith, many, h)
        where
          less-or : (a b : ℕ) → (a ≤ b) ⊎ (b < a)
          less-or zero b = inl (omega arith)
          less-or (suc a) zero = inr (omega arith)
          less-or (suc a) (suc b) = again (less-or a b)
            where
              again : (a ≤ b) ⊎ (b < a) → (suc a ≤ suc b) ⊎ (suc b < suc a)
              again (inl x) = inl (omega (arith, x))
              again (inr x) = inr (omega (arith, x))

          not-at_most : (a b : ℕ) → nat_le a b ≡ false → b < a
          not-at_most a b q = side (less-or a b)
            where
              side : (a ≤ b) ⊎ (b < a) → b < a
              side (inl x) = absurd (true≢false (sym ((at_most-decides a b).1 x) ∙ q))
              side (inr x) = x

  module _ (formed : IsWellFormedTable count image.types) (complete : AreComplete image.types variables entry blocks) (sound : (i : ℕ) (b : CodeBlock) → slice_get blocks i ≡ Some b → IsSoundBlock count image variables entry blocks i b)
      (entry-good : AreGoodHere count image variables entry blocks (λ o. 0) (edge_code (places.st count image variables entry blocks) entry) (Some label_at_start)) where
    at-place : (p : Place) (l : Label) → IsIn p (module_places count image m) → p.label ≡ Some l → IsSoundPlace count image variables entry blocks p l
    at-place p l member e = place-sound count image variables entry blocks formed complete.reached sound entry-good p l member e

    go-way : (o : Option Outcome) (n : ℕ) (w : Way) → IsIn w (map (λ o. record { outcome = o; index = n }) (list_of (λ o. o ∷ []) o)) → (x : Outcome) × (o ≡ Some x) × (w ≡ record { outcome = x; index = n })
    go-way None n w k = absurd k
    go-way (Some o) n w (inl e) = (o, refl, e)
    go-way (Some o) n w (inr k) = absurd k

    -- each way of an instruction with a label leads within the code, to a label at which what is behind it arrives, where one is listed
    way-sound : (p : Place) (l : Label) → IsIn p (module_places count image m) → p.label ≡ Some l → (w : Way) → IsIn w (ways p) → (w.index < length m.code) × ((listed : Label) → listed_at m.labels w.index ≡ Some listed → Arrives (behind count image m p w l) listed)
    way-sound p l member e w k = by (in-append_cases w (map (λ o. record { outcome = o; index = suc p.index }) (list_of (λ o. o ∷ []) (goes_on p.instruction))) (named_ways p) k)
      where
        here : IsSoundPlace count image variables entry blocks p l
        here = at-place p l member e

        Leads : Way → Type 0
        Leads w = (w.index < length m.code) × ((listed : Label) → listed_at m.labels w.index ≡ Some listed → Arrives (behind count image m p w l) listed)

        by : IsIn w (map (λ o. record { outcome = o; index = suc p.index }) (list_of (λ o. o ∷ []) (goes_on p.instruction))) ⊎ IsIn w (named_ways p) → Leads w
        by (inl a) = let r = go-way (goes_on p.instruction) (suc p.index) w a in subst Leads (sym r.2) (here.onward r.0 r.1)
        by (inr a) =
            let r = here.good.leads w (subst (λ ls. IsIn w (jumps p.instruction ++ landing_ways ls)) here.landings a) in
            (listed-within w.index r.0 r.1, λ listed q. subst (Arrives (behind count image m p w l)) (some-injective (sym r.1 ∙ q)) r.2)

    pub good-module : ((t message : ℕ) × (declared : List Fact) × (slice_get variables 0 ≡ Some t) × HasShape image.types t (inport message declared)) → ((t : ℕ) → IsIn t variables → IsType image.types t)
        → ((i : ℕ) (b : CodeBlock) → slice_get blocks i ≡ Some b → IsClosed image.types variables (λ f. IsIn f b.facts)) → ((i j : ℕ) (b : CodeBlock) (d : Departure) → slice_get blocks i ≡ Some b → slice_get b.departures j ≡ Some d → IsClosed image.types variables (λ f. IsIn f (facts_after image.types variables b.form d.outcome b.facts)))
        → IsGoodModule count image m
    good-module port known closed closed-after = record {
      port = port;
      variables_known = known;
      code = structure.code;
      landings_listed = structure.landings_listed;
      labels_rise = structure.labels_rise;
      labels_listed = complete-listed count image variables entry blocks complete;
      labels_closed = λ l k. closed-label l (listed-facts (comes_first entry blocks) (comes_again blocks) 0 (edge_length entry) blocks l k);
      typed = λ p l k e. (at-place p l k e).good.typed;
      stack = λ p l k e. (at-place p l k e).good.stack;
      facts = λ p l k e. (at-place p l k e).good.facts;
      slots = λ p l k e. (at-place p l k e).good.slots;
      trims = λ p l k e. (at-place p l k e).good.trims;
      in_range = λ p l k e w j. (way-sound p l k e w j).0;
      begins = λ l e. none-not_some (sym ((blocks-labelled image.types variables image.constants entry blocks).entry_none 0 (omega arith)) ∙ e);
      arrives = λ p l k e w listed j. (way-sound p l k e w j).1 listed;
      goes_back = structure.goes_back;
      acts_at_once = λ p k. acts-at_once count image variables entry blocks (processes_of image.modules) formed complete (λ i b e. (sound i b e).typed) p k;
      keeps = structure.keeps;
      landings = structure.landings;
    }
      where
        structure : HasGoodStructure count image variables entry blocks
        structure = structured count image variables entry blocks complete.linked

        closed-label : (l : ListedLabel) → IsOfBlock blocks l.label.facts → IsClosed image.types variables (λ f. IsIn f l.label.facts)
        closed-label l (b, in-b, inl e) = let i = in-got b blocks in-b in subst (λ fs. IsClosed image.types variables (λ f. IsIn f fs)) (sym e) (closed i.0 b i.1)
        closed-label l (b, in-b, inr (d, in-d, e)) =
            let i = in-got b blocks in-b in let j = in-got d b.departures in-d in subst (λ fs. IsClosed image.types variables (λ f. IsIn f fs)) (sym e) (closed-after i.0 j.0 b d i.1 j.1)
