-- What stands at each index.
use Rattle.std.proofs.Common.{◌≡◌, ℕ, zero, suc, ◌+◌, ◌<◌, ◌≤◌, length, List, [], ◌∷◌, map, flat_map, Bool, true, false, cond, Option, Some, None, option_map, slice_get, ◌⊎◌, inl, inr, refl, sym, ap, ap₂, subst, ◌∙◌, arith}
use Rattle.std.proofs.lemmas.Bool.{eq-eqb}
use Rattle.herm_model.specs.Lists.{IsIn, total}
use Rattle.herm_model.specs.Types.{TypeTable}
use Rattle.herm_model.specs.Expressions.{Literal}
use Rattle.herm_model.specs.Statements.{Differ}
use Rattle.herm_model.specs.Outcomes.{Outcome, ok, is_true, is_false, turn, done, component, arm, raised, same_outcome}
use Rattle.herm_model.proofs.Options.{some-injective, none-not_some}
use Rattle.herm_model.proofs.Lists.{length-map, slice_get-map, in-map}
use Rattle.herm_model.proofs.FactTests.{got-IsIn}
use Rattle.herm_model.proofs.Reached.{same_outcome-is}
use Rattle.herm_instructions.specs.Instructions.{Instruction, Step}
use Rattle.herm_instructions.specs.Images.{Landing}
use Rattle.herm_translated.specs.Fronts.{front, front_length}
use Rattle.herm_translated.specs.Departures.{Departure, edge_code, edge_length}
use Rattle.herm_translated.specs.CodeBlocks.{CodeBlock}
use Rattle.herm_translated.specs.Layout.{Line, edge_at, landings_by, line_by, edges_at, exit_of, block_length, block_code, block_lines, lines_from, lines_of, start_from}
use Rattle.herm_translated.specs.laws.LayoutLaws.{module_of, start, IsInBlock, IsLaidOut, EdgesAreAtExits, CodeIsLaidOut, EdgesStandAtExits}
use Rattle.herm_translated.proofs.Joined.{get-left, get-right, length-joined, place-in, rest-behind}
use Rattle.herm_translated.proofs.Lengths.{front-long, edge-long, lines-long}

module _ (types : TypeTable) (variables : List ℕ) (constants : List Literal) where
  abbrev long : CodeBlock → ℕ
  long = block_length types variables constants

  abbrev from_on : (start : ℕ → ℕ) → ℕ → List CodeBlock → List Line
  from_on = lines_from types variables constants

  abbrev starts : ℕ → List CodeBlock → ℕ → ℕ
  starts = start_from types variables constants

  -- a block begins behind those before it
  pub starts-behind : (at : ℕ) (bs : List CodeBlock) (i : ℕ) → at ≤ starts at bs i
  starts-behind at [] i = omega arith
  starts-behind at (b ∷ bs) zero = omega arith
  starts-behind at (b ∷ bs) (suc i) = let h = starts-behind (at + long b) bs i in omega (arith, h)

  -- the lines of a block, among all lines
  pub block-there : (start : ℕ → ℕ) (at : ℕ) (bs : List CodeBlock) (i : ℕ) (b : CodeBlock) (n k : ℕ) → slice_get bs i ≡ Some b → k < long b → at + n ≡ starts at bs i + k
      → slice_get (from_on start at bs) n ≡ slice_get (block_lines types variables constants start (starts at bs i) b) k
  block-there start at [] i b n k e h m = none-not_some e
  block-there start at (c ∷ bs) zero b n k e h m =
      let n-k : n ≡ k = omega (arith, m) in
      let same : c ≡ b = some-injective e in
      let l = lines-long types variables constants start at c in
      let within : n < length (block_lines types variables constants start at c) = subst (λ x. n < x) (sym l) (subst (λ (x : CodeBlock). n < long x) (sym same) (subst (λ x. x < long b) (sym n-k) h)) in
      get-left (block_lines types variables constants start at c) _ n within
      ∙ ap₂ (λ (x : CodeBlock) j. slice_get (block_lines types variables constants start at x) j) same n-k
  block-there start at (c ∷ bs) (suc i) b n k e h m =
      let behind = starts-behind (at + long c) bs i in
      let before : long c ≤ n = omega (arith, behind, m) in
      let g = rest-behind (long c) n before in
      let q = g.1 in
      let l = lines-long types variables constants start at c in
      get-right (block_lines types variables constants start at c) _ n g.0 (q ∙ ap (λ x. x + g.0) (sym l))
      ∙ block-there start (at + long c) bs i b g.0 k e h (omega (arith, m, q))

  -- an index among the lines is in a block
  pub index-in : (start : ℕ → ℕ) (at : ℕ) (bs : List CodeBlock) (n : ℕ) → n < length (from_on start at bs) → (i k : ℕ) × (b : CodeBlock) × (slice_get bs i ≡ Some b) × (k < long b) × (at + n ≡ starts at bs i + k)
  index-in start at [] n h = absurd (omega arith)
  index-in start at (b ∷ bs) n h =
      let j = length-joined (block_lines types variables constants start at b) (from_on start (at + long b) bs) in
      let l = lines-long types variables constants start at b in
      by (place-in n (long b) (length (from_on start (at + long b) bs)) (omega (arith, h, j, l))) (index-in start (at + long b) bs)
    where
      by : (n < long b) ⊎ ((k : ℕ) × (n ≡ long b + k) × (k < length (from_on start (at + long b) bs)))
          → ((m : ℕ) → m < length (from_on start (at + long b) bs) → (i k : ℕ) × (c : CodeBlock) × (slice_get bs i ≡ Some c) × (k < long c) × (at + long b + m ≡ starts (at + long b) bs i + k))
          → (i k : ℕ) × (c : CodeBlock) × (slice_get (b ∷ bs) i ≡ Some c) × (k < long c) × (at + n ≡ starts at (b ∷ bs) i + k)
      by (inl x) again = (0, n, b, refl, x, refl)
      by (inr y) again = let r = again y.0 y.2 in let q = r.5 in let p = y.1 in (suc r.0, r.1, r.2, r.3, r.4, omega (arith, q, p))

  pub all-long : (start : ℕ → ℕ) (at : ℕ) (bs : List CodeBlock) → length (from_on start at bs) ≡ total long bs
  all-long start at [] = refl
  all-long start at (b ∷ bs) = length-joined (block_lines types variables constants start at b) _ ∙ ap₂ ◌+◌ (lines-long types variables constants start at b) (all-long start (at + long b) bs)

same_outcome_self : (o : Outcome) → same_outcome o o ≡ true
same_outcome_self ok = refl
same_outcome_self is_true = refl
same_outcome_self is_false = refl
same_outcome_self turn = refl
same_outcome_self done = refl
same_outcome_self (component c) = eq-eqb c c refl
same_outcome_self (arm n) = eq-eqb n n refl
same_outcome_self (raised e) = eq-eqb e e refl

-- the edge of an outcome is at or behind the first one
pub edge-behind : (at : ℕ) (ds : List Departure) (o : Outcome) → at ≤ edge_at at ds o
edge-behind at [] o = omega arith
edge-behind at (d ∷ ds) o = by (same_outcome d.outcome o) (edge-behind (at + edge_length d) ds o)
  where
    by : (b : Bool) → at + edge_length d ≤ edge_at (at + edge_length d) ds o → at ≤ cond b at (edge_at (at + edge_length d) ds o)
    by true h = omega arith
    by false h = omega (arith, h)

-- an outcome that differs from the first one is further on
pub further : (at : ℕ) (d : Departure) (ds : List Departure) (o : Outcome) → (d.outcome ≡ o → ⊥) → edge_at at (d ∷ ds) o ≡ edge_at (at + edge_length d) ds o
further at d ds o n = by (same_outcome d.outcome o) refl
  where
    by : (b : Bool) → same_outcome d.outcome o ≡ b → cond b at (edge_at (at + edge_length d) ds o) ≡ edge_at (at + edge_length d) ds o
    by true e = absurd (n (same_outcome-is d.outcome o e))
    by false e = refl

pub first-here : (at : ℕ) (d : Departure) (ds : List Departure) → edge_at at (d ∷ ds) d.outcome ≡ at
first-here at d ds = ap (λ b. cond b at (edge_at (at + edge_length d) ds d.outcome)) (same_outcome_self d.outcome)

abbrev pub outcome_of : Departure → Outcome
outcome_of d = d.outcome

-- an edge among the edges of a block
pub edge-there : (start : ℕ → ℕ) (at : ℕ) (ds : List Departure) (j : ℕ) (d : Departure) (n k : ℕ) → slice_get ds j ≡ Some d → Differ (map outcome_of ds) → k < edge_length d → at + n ≡ edge_at at ds d.outcome + k
    → slice_get (flat_map (edge_code start) ds) n ≡ slice_get (edge_code start d) k
edge-there start at [] j d n k e differ h m = none-not_some e
edge-there start at (c ∷ ds) zero d n k e differ h m =
    let same : c ≡ d = some-injective e in
    let at-c : edge_at at (c ∷ ds) d.outcome ≡ at = subst (λ (x : Departure). edge_at at (c ∷ ds) x.outcome ≡ at) same (first-here at c ds) in
    let n-k : n ≡ k = omega (arith, m, at-c) in
    let l = edge-long start c in
    get-left (edge_code start c) _ n (subst (λ x. n < x) (sym l) (subst (λ (x : Departure). n < edge_length x) (sym same) (subst (λ x. x < edge_length d) (sym n-k) h)))
    ∙ ap₂ (λ (x : Departure) y. slice_get (edge_code start x) y) same n-k
edge-there start at (c ∷ ds) (suc j) d n k e differ h m =
    let on = further at c ds d.outcome (λ x. differ.0 (subst (λ o. IsIn o (map outcome_of ds)) (sym x) (in-map outcome_of d ds (got-IsIn ds j d e)))) in
    let behind = edge-behind (at + edge_length c) ds d.outcome in
    let g = rest-behind (edge_length c) n (omega (arith, m, on, behind)) in
    let q = g.1 in
    get-right (edge_code start c) _ n g.0 (q ∙ ap (λ x. x + g.0) (sym (edge-long start c)))
    ∙ edge-there start (at + edge_length c) ds j d g.0 k e differ.1 h (omega (arith, m, on, q))

-- an edge of a block lies within it
pub edge-within : (at : ℕ) (ds : List Departure) (j : ℕ) (d : Departure) → slice_get ds j ≡ Some d → Differ (map outcome_of ds) → edge_at at ds d.outcome + edge_length d ≤ at + total edge_length ds
edge-within at [] j d e differ = none-not_some e
edge-within at (c ∷ ds) zero d e differ =
    let same : c ≡ d = some-injective e in
    let at-c : edge_at at (c ∷ ds) d.outcome ≡ at = subst (λ (x : Departure). edge_at at (c ∷ ds) x.outcome ≡ at) same (first-here at c ds) in
    let long : edge_length c ≡ edge_length d = ap edge_length same in
    omega (arith, at-c, long)
edge-within at (c ∷ ds) (suc j) d e differ =
    let on = further at c ds d.outcome (λ x. differ.0 (subst (λ o. IsIn o (map outcome_of ds)) (sym x) (in-map outcome_of d ds (got-IsIn ds j d e)))) in
    let h = edge-within (at + edge_length c) ds j d e differ.1 in
    omega (arith, on, h)

module _ (types : TypeTable) (variables : List ℕ) (constants : List Literal) (entry : Departure) (blocks : List CodeBlock) where
  abbrev lines : List Line
  lines = lines_of types variables constants entry blocks

  abbrev first_lines : List Line
  first_lines = map (line_by types variables (λ o. 0)) (edge_code (start types variables constants entry blocks) entry)

  abbrev further_lines : List Line
  further_lines = lines_from types variables constants (start types variables constants entry blocks) (edge_length entry) blocks

  first-long : length first_lines ≡ edge_length entry
  first-long = length-map (line_by types variables (λ o. 0)) (edge_code (start types variables constants entry blocks) entry) ∙ edge-long (start types variables constants entry blocks) entry

  entry-line : (n : ℕ) → n < edge_length entry → slice_get lines n ≡ option_map (line_by types variables (λ o. 0)) (slice_get (edge_code (start types variables constants entry blocks) entry) n)
  entry-line n h =
      get-left first_lines further_lines n (subst (λ x. n < x) (sym first-long) h) ∙ slice_get-map (line_by types variables (λ o. 0)) (edge_code (start types variables constants entry blocks) entry) n

  block-line : (n i k : ℕ) (b : CodeBlock) → IsInBlock types variables constants entry blocks n i k b
      → slice_get lines n ≡ option_map (line_by types variables (exit_of types variables constants (start types variables constants entry blocks i) b)) (slice_get (block_code types variables constants (start types variables constants entry blocks) (start types variables constants entry blocks i) b) k)
  block-line n i k b h =
      let behind = starts-behind types variables constants (edge_length entry) blocks i in
      let at = h.2 in
      let g = rest-behind (edge_length entry) n (omega (arith, behind, at)) in
      let q = g.1 in
      get-right first_lines further_lines n g.0 (q ∙ ap (λ x. x + g.0) (sym first-long))
      ∙ block-there types variables constants (start types variables constants entry blocks) (edge_length entry) blocks i b g.0 k h.0 h.1 (omega (arith, q, at))
      ∙ slice_get-map (line_by types variables (exit_of types variables constants (start types variables constants entry blocks i) b)) (block_code types variables constants (start types variables constants entry blocks) (start types variables constants entry blocks i) b) k

  instruction-line : {X : Type 0} (f : X → Line) (g : X → Instruction) → ((x : X) → (f x).instruction ≡ g x) → (n : ℕ) (o : Option X) → slice_get lines n ≡ option_map f o → slice_get (map (λ (l : Line). l.instruction) lines) n ≡ option_map g o
  instruction-line {X} f g h n o e = slice_get-map (λ (l : Line). l.instruction) lines n ∙ ap (option_map (λ (l : Line). l.instruction)) e ∙ by o
    where
      by : (o : Option X) → option_map (λ (l : Line). l.instruction) (option_map f o) ≡ option_map g o
      by None = refl
      by (Some x) = ap Some (h x)

  landing-line : {X : Type 0} (f : X → Line) (g : X → List Landing) → ((x : X) → (f x).landings ≡ g x) → (n : ℕ) (o : Option X) → slice_get lines n ≡ option_map f o → slice_get (map (λ (l : Line). l.landings) lines) n ≡ option_map g o
  landing-line {X} f g h n o e = slice_get-map (λ (l : Line). l.landings) lines n ∙ ap (option_map (λ (l : Line). l.landings)) e ∙ by o
    where
      by : (o : Option X) → option_map (λ (l : Line). l.landings) (option_map f o) ≡ option_map g o
      by None = refl
      by (Some x) = ap Some (h x)

  same-there : {X : Type 0} (o : Option X) → option_map (λ x. x) o ≡ o
  same-there None = refl
  same-there (Some x) = refl

  pub code-block : (n i k : ℕ) (b : CodeBlock) → IsInBlock types variables constants entry blocks n i k b
      → slice_get (module_of types variables constants entry blocks).code n ≡ slice_get (block_code types variables constants (start types variables constants entry blocks) (start types variables constants entry blocks i) b) k
  code-block n i k b h = instruction-line (line_by types variables (exit_of types variables constants (start types variables constants entry blocks i) b)) (λ x. x) (λ x. refl) n _ (block-line n i k b h) ∙ same-there _

  all-many : length lines ≡ edge_length entry + total (block_length types variables constants) blocks
  all-many = length-joined first_lines further_lines ∙ ap₂ ◌+◌ first-long (all-long types variables constants (start types variables constants entry blocks) (edge_length entry) blocks)

  pub laid-out : IsLaidOut types variables constants entry blocks
  laid-out = record {
    entry_first = λ n h. instruction-line (line_by types variables (λ o. 0)) (λ x. x) (λ x. refl) n _ (entry-line n h) ∙ same-there _;
    entry_lands = λ n h. landing-line (line_by types variables (λ o. 0)) (landings_by types variables (λ o. 0)) (λ x. refl) n _ (entry-line n h);
    blocks_behind = code-block;
    landings_behind = λ n i k b h. landing-line (line_by types variables (exit_of types variables constants (start types variables constants entry blocks i) b)) (landings_by types variables (exit_of types variables constants (start types variables constants entry blocks i) b)) (λ x. refl) n _ (block-line n i k b h);
    nothing_else = λ n h. else-in n (place-in n (edge_length entry) (length further_lines) (within n h));
    many = length-map (λ (l : Line). l.instruction) lines ∙ all-many;
    aligned = length-map (λ (l : Line). l.landings) lines ∙ sym (length-map (λ (l : Line). l.instruction) lines);
  }
    where
      within : (n : ℕ) → n < length (map (λ (l : Line). l.instruction) lines) → n < edge_length entry + length further_lines
      within n h = let m = length-map (λ (l : Line). l.instruction) lines in let j = length-joined first_lines further_lines in let f = first-long in omega (arith, h, m, j, f)

      else-in : (n : ℕ) → (n < edge_length entry) ⊎ ((k : ℕ) × (n ≡ edge_length entry + k) × (k < length further_lines)) → (n < edge_length entry) ⊎ ((i k : ℕ) × (b : CodeBlock) × IsInBlock types variables constants entry blocks n i k b)
      else-in n (inl a) = inl a
      else-in n (inr c) =
          let r = index-in types variables constants (start types variables constants entry blocks) (edge_length entry) blocks c.0 c.2 in
          inr (r.0, r.1, r.2, (r.3, r.4, c.1 ∙ r.5))

  pub edges-there : EdgesAreAtExits types variables constants entry blocks
  edges-there i j k b d at-i at-j differ h =
      let s = start types variables constants entry blocks i in
      let at = edges_at types variables constants s b in
      let f = front_length types variables constants b.form in
      let low = edge-behind at b.departures d.outcome in
      let high = edge-within at b.departures j d at-j differ in
      let g = rest-behind at (edge_at at b.departures d.outcome + k) (omega (arith, low)) in
      let q = g.1 in
      let here : (1 + (f + g.0)) < block_length types variables constants b = omega (arith, high, q, h) in
      code-block (edge_at at b.departures d.outcome + k) i (1 + (f + g.0)) b (at-i, here, omega (arith, q))
      ∙ behind-front s f g.0 (omega arith)
      ∙ edge-there (start types variables constants entry blocks) at b.departures j d g.0 k at-j differ h (sym q)
    where
      behind-front : (s f z : ℕ) → (f ≡ front_length types variables constants b.form) → slice_get (block_code types variables constants (start types variables constants entry blocks) s b) (1 + (f + z)) ≡ slice_get (flat_map (edge_code (start types variables constants entry blocks)) b.departures) z
      behind-front s f z e =
          get-right (Step ∷ front types variables constants b.facts b.statement (s + 1) (exit_of types variables constants s b) b.form) (flat_map (edge_code (start types variables constants entry blocks)) b.departures) (1 + (f + z)) z
          (let l = front-long types variables constants b.facts b.statement (s + 1) (exit_of types variables constants s b) b.form in omega (arith, l, e))

pub code-laid_out : CodeIsLaidOut
code-laid_out = laid-out

pub edges-at_exits : EdgesStandAtExits
edges-at_exits = edges-there
