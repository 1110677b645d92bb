-- What the code finds beyond a full value is the model's excess.
use Rattle.std.proofs.Common.{◌≡◌, ℕ, zero, suc, List, [], ◌∷◌, ◌++◌, map, Bool, true, false, not, ◌&&◌, ◌||◌, Option, Some, None, option_map, is_some, slice_get, refl, sym, ap, ap₂, subst, ◌∙◌, append_assoc, append-nil}
use Rattle.std.specs.Prelude.{⊤}
use Rattle.herm_model.specs.Lists.{any_pass, map_or, list_of}
use Rattle.herm_model.specs.Paths.{Path, Fact, init, same_fact, same_path}
use Rattle.herm_model.specs.Types.{TypeTable, Shape, boolean, integer, text, polymorph, names, fields, cases, rows, inport, outport, callmessage, Mode, by_in, by_inout, by_out, Parameter, greatest_depth, full_parts, part_paths, type_at}
use Rattle.herm_model.specs.Facts.{full_facts}
use Rattle.herm_model.specs.Values.{Cell, cell, Parts, no_parts, part, part_at, inside, cell_at, has_value}
use Rattle.herm_model.specs.Finalising.{excess, is_left}
use Rattle.herm_forms.specs.Excess.{below, excess_over_full}
use Rattle.herm_forms.specs.Frames.{Frame}
use Rattle.herm_forms.specs.Modules.{Module}
use Rattle.herm_frames.specs.Excesses.{if_here, beyond_fields, beyond_parameters, beyond_parts, beyond, is_out, may_hold_more, may_exceed}
use Rattle.herm_frames.proofs.BeyondFull.{beyond-excess}

module _ {N : Type 0} where
  nothing-inside : (j : ℕ) (r : Path) → cell_at {N = N} (j ∷ r) no_parts ≡ None
  nothing-inside j [] = refl
  nothing-inside j (k ∷ r) = nothing-inside k r

  -- what is below a path is what is below its value
  below-cell : (i : ℕ) (x r : Path) (ps : Parts N) (c : Cell N) → cell_at (i ∷ x) ps ≡ Some c → cell_at ((i ∷ x) ++ r) ps ≡ cell_at (0 ∷ r) (part c no_parts)
  below-cell i [] [] ps c at = at
  below-cell i [] (j ∷ r) ps c at = ap (λ o. cell_at (j ∷ r) (inside o)) at
  below-cell i (j ∷ x) r ps c at = below-cell j x r (inside (part_at i ps)) c at

  nothing-below : (i : ℕ) (x r : Path) (ps : Parts N) → cell_at (i ∷ x) ps ≡ None → cell_at ((i ∷ x) ++ r) ps ≡ None
  nothing-below i [] [] ps at = at
  nothing-below i [] (j ∷ r) ps at = ap (λ o. cell_at (j ∷ r) (inside o)) at ∙ nothing-inside j r
  nothing-below i (j ∷ x) r ps at = nothing-below j x r (inside (part_at i ps)) at

none-some : {X : Type 0} (o : Option X) → is_some o ≡ false → o ≡ None
none-some None h = refl
none-some (Some x) h = cc

pub here-closed : (i : ℕ) (x r : Path) (ps : Parts ⊤) → has_value ps (i ∷ x) ≡ false → has_value ps ((i ∷ x) ++ r) ≡ false
here-closed i x r ps h = ap is_some (nothing-below i x r ps (none-some (cell_at (i ∷ x) ps) h))

facts-paths : (r : Path) (qs : List Path) → any_pass (same_fact (init (0 ∷ r))) (map (λ q. init ((0 ∷ []) ++ q)) qs) ≡ any_pass (same_path r) qs
facts-paths r [] = refl
facts-paths r (q ∷ qs) = ap (λ b. same_path r q || b) (facts-paths r qs)

pub exceeds : (types : TypeTable) (ps : Parts ⊤) (i : ℕ) (x : Path) (t : ℕ) (c : Cell ⊤) → cell_at (i ∷ x) ps ≡ Some c
    → map (below (i ∷ x)) (excess types (t ∷ []) (has_value (part c no_parts)) (λ p. any_pass (same_fact (init p)) (full_facts types t (0 ∷ [])))) ≡ beyond (has_value ps) types greatest_depth (i ∷ x) t
exceeds types ps i x t c at =
    ap (map (below (i ∷ x))) (append-nil _)
    ∙ beyond-excess (has_value ps) (is_left (has_value (part c no_parts)) (λ p. any_pass (same_fact (init p)) (full_facts types t (0 ∷ [])))) (i ∷ x) types (λ q r h. here-closed i (x ++ q) r ps h) greatest_depth [] t
    (λ r. ap₂ (λ a b. a && not b) (ap is_some (sym (below-cell i x r ps c at))) (facts-paths r (part_paths full_parts types t)))
    ∙ ap (λ p. beyond (has_value ps) types greatest_depth p t) (append-nil (i ∷ x))

both-false : (a b : Bool) → (a || b) ≡ false → (a ≡ false) × (b ≡ false)
both-false true b h = cc
both-false false b h = (refl, h)

module _ (here : Path → Bool) (table : TypeTable) where
  no-field : (n : ℕ) (p : Path) (k : ℕ) (ts : List ℕ) → ((q : Path) (u : ℕ) → may_exceed table n u ≡ false → beyond here table n q u ≡ []) → any_pass (may_exceed table n) ts ≡ false → beyond_fields (beyond here table n) p k ts ≡ []
  no-field n p k [] again h = refl
  no-field n p k (t ∷ ts) again h =
      let both = both-false (may_exceed table n t) (any_pass (may_exceed table n) ts) h in
      ap₂ ◌++◌ (again (p ++ k ∷ []) t both.0) (no-field n p (suc k) ts again both.1)

  no-param-of : (m : Mode) (inner itself : List Path) (more : Bool) → (is_out m || more) ≡ false → (more ≡ false → inner ≡ []) → Rattle.herm_frames.specs.Excesses.of_mode inner itself m ≡ []
  no-param-of by_in inner itself more h again = again h
  no-param-of by_inout inner itself more h again = again h
  no-param-of by_out inner itself more h again = cc

  no-param : (n : ℕ) (p : Path) (k : ℕ) (ps : List Parameter) → ((q : Path) (u : ℕ) → may_exceed table n u ≡ false → beyond here table n q u ≡ []) → any_pass (λ (x : Parameter). is_out x.mode || may_exceed table n x.content) ps ≡ false
      → beyond_parameters here n (beyond here table n) p k ps ≡ []
  no-param n p k [] again h = refl
  no-param n p k (y ∷ ps) again h =
      let both = both-false (is_out y.mode || may_exceed table n y.content) (any_pass (λ (x : Parameter). is_out x.mode || may_exceed table n x.content) ps) h in
      ap₂ ◌++◌ (no-param-of y.mode _ _ (may_exceed table n y.content) both.0 (again (p ++ k ∷ []) y.content)) (no-param n p (suc k) ps again both.1)

  no-shape : (n : ℕ) (p : Path) (o : Option Shape) → ((q : Path) (u : ℕ) → may_exceed table n u ≡ false → beyond here table n q u ≡ []) → map_or true (may_hold_more (may_exceed table n)) o ≡ false
      → map_or (if_here here p) (beyond_parts here n (beyond here table n) p) o ≡ []
  no-shape n p None again h = cc
  no-shape n p (Some (fields ts)) again h = no-field n p 0 ts again h
  no-shape n p (Some (callmessage ps raises)) again h = no-param n p 0 ps again h
  no-shape n p (Some boolean) again h = refl
  no-shape n p (Some integer) again h = refl
  no-shape n p (Some text) again h = refl
  no-shape n p (Some polymorph) again h = refl
  no-shape n p (Some (names count)) again h = refl
  no-shape n p (Some (cases ts)) again h = refl
  no-shape n p (Some (rows row key)) again h = refl
  no-shape n p (Some (inport message declared)) again h = refl
  no-shape n p (Some (outport port)) again h = refl

  pub not-beyond : (n : ℕ) (p : Path) (t : ℕ) → may_exceed table n t ≡ false → beyond here table n p t ≡ []
  not-beyond zero p t h = refl
  not-beyond (suc n) p t h = no-shape n p (slice_get table t) (λ q u k. not-beyond n q u k) h

module _ (code : Module) (b : Frame ⊤) (i : ℕ) (x : Path) where
  abbrev in_cell : Option ℕ → Cell ⊤ → List Path
  in_cell t c = list_of (λ u. map (below (i ∷ x)) (excess code.types (u ∷ []) (has_value (part c no_parts)) (λ p. any_pass (same_fact (init p)) (list_of (λ t. full_facts code.types t (0 ∷ [])) t)))) t

  -- nothing is there
  pub nothing-there : None ≡ cell_at (i ∷ x) b.variables → [] ≡ excess_over_full code (i ∷ x) b
  nothing-there at = ap (list_of (in_cell (type_at code.types code.variables (i ∷ x)))) at

  some-there : (c : Cell ⊤) (t : Option ℕ) (xs : List Path) → Some c ≡ cell_at (i ∷ x) b.variables → t ≡ type_at code.types code.variables (i ∷ x) → xs ≡ in_cell t c → xs ≡ excess_over_full code (i ∷ x) b
  some-there c t xs at of is = is ∙ ap₂ (λ t o. list_of (in_cell t) o) of at

  -- its type is not known
  pub not-typed : (c : Cell ⊤) → Some c ≡ cell_at (i ∷ x) b.variables → None ≡ type_at code.types code.variables (i ∷ x) → [] ≡ excess_over_full code (i ∷ x) b
  not-typed c at of = some-there c None [] at of refl

  pub all-there : (c : Cell ⊤) (t : ℕ) → Some c ≡ cell_at (i ∷ x) b.variables → Some t ≡ type_at code.types code.variables (i ∷ x) → beyond (has_value b.variables) code.types greatest_depth (i ∷ x) t ≡ excess_over_full code (i ∷ x) b
  all-there c t at of = some-there c (Some t) _ at of (sym (exceeds code.types b.variables i x t c (sym at)))

-- what the code finds, where something is there of a type that is known
pub found-beyond : (code : Module) (b : Frame ⊤) (i : ℕ) (x : Path) (types : TypeTable) (of : List ℕ) (ps : Parts ⊤) (c : Cell ⊤) (t : ℕ) (lost : List Path) → code.types ≡ types → code.variables ≡ of → b.variables ≡ ps
    → Some c ≡ cell_at (i ∷ x) ps → Some t ≡ type_at types of (i ∷ x) → lost ≡ beyond (has_value ps) types greatest_depth (i ∷ x) t → lost ≡ excess_over_full code (i ∷ x) b
found-beyond code b i x types of ps c t lost h k v at typed is =
    is
    ∙ ap₂ (λ qs table. beyond (has_value qs) table greatest_depth (i ∷ x) t) (sym v) (sym h)
    ∙ all-there code b i x c t (at ∙ ap (cell_at (i ∷ x)) (sym v)) (typed ∙ ap₂ (λ table vs. type_at table vs (i ∷ x)) (sym h) (sym k))
