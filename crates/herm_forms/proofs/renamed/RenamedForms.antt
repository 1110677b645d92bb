-- Changing the names of cells commutes with evaluation, with what edges drop and with each form that is a local step.
use Rattle.std.proofs.Common.{◌≡◌, ℕ, List, [], ◌∷◌, map, Bool, true, false, cond, Option, Some, None, option_map, refl, sym, ap, ap₂, ◌∙◌, length, nat_eq}
use Rattle.std.specs.Prelude.{nat_lt, filter, ⊤}
use mathlib.Core.Path.{fun_ext}
use Rattle.herm_model.specs.Lists.{list_of, any_pass}
use Rattle.herm_model.specs.Paths.{Path, Fact, init, same_fact}
use Rattle.herm_model.specs.Types.{TypeTable, Shape, fields, rows}
use Rattle.herm_model.specs.Expressions.{Expression, literal, copy, negation, logical_not, operation, decimal, length_of, Atom, path}
use Rattle.herm_model.specs.Outcomes.{Outcome, ok, turn, done, raised, depletion, polymorph_mismatch, duplicate_key, not_found, case_error}
use Rattle.herm_model.specs.Outcomes
use Rattle.herm_model.specs.Values.{Scalar, a_boolean, an_integer, a_text, Kind, a_scalar, a_record, a_variant, a_table, a_polymorph, an_inport, an_outport, Cell, cell, Parts, no_parts, gap, gaps, part, part_at, size, parts_of, cell_at, read_at, has_value, polymorph_depth, Value}
use Rattle.herm_model.specs.CellNames.{rename, rename_in}
use Rattle.herm_model.specs.FactsOfValues.{is_component}
use Rattle.herm_model.specs.Tables.{has_key, key_of, place_of_key, without_part}
use Rattle.herm_model.specs.Typed.{greatest_rows, greatest_polymorph}
use Rattle.herm_model.specs.Finalising.{excess}
use Rattle.herm_model.proofs.Renaming.{part_at-rename, cell_at-rename, read_at-rename, has_value-rename, gaps-rename, change_at-rename, joined-rename, without_part-rename, polymorph_depth-rename, key_of-rename, has_key-rename, place_of_key-rename, size-rename}
use Rattle.herm_forms.specs.Evaluate.{Evaluated, gives, raises, no_value, value_there, rows_there, evaluate, atom_value, key_values, key_of_value, one_then, two_then, operate, gives_scalar}
use Rattle.herm_forms.specs.Evaluate
use Rattle.herm_forms.specs.Frames.{Name, Loop, Frame, Completion, goes, if_there, finalise, finalise_parts, finalise_name, cleared, drop, reading, taking, putting, making, copying, copying_parts}
use Rattle.herm_forms.specs.Forms
use Rattle.herm_forms.specs.InsertForm
use Rattle.herm_forms.specs.RemoveAndGet
use Rattle.herm_forms.specs.LoopForms
use Rattle.herm_forms.specs.Forms.{Opened, component_in, content_of, moving, moving_content, component_of, inport_number, outport_number, tested, with_value}
use Rattle.herm_forms.specs.InsertForm.{change_rows, with_parts, add_row}
use Rattle.herm_forms.specs.RemoveAndGet.{finding}
use Rattle.herm_forms.specs.LoopForms.{rows_for, set_rows, next_row}
use Rattle.herm_forms.specs.EdgeFinalising.{keeps, arrive}
use Rattle.herm_forms.specs.LeavingLoops.{keeps_loop, finalise_loops, leave_loops}
use Rattle.herm_forms.specs.Excess.{excess_at, below}
use Rattle.herm_forms.specs.Modules.{Module}
use Rattle.herm_forms.specs.Acts.{new_value}
use Rattle.herm_forms.specs.Renaming.{rename_loop, rename_body}
use Rattle.herm_forms.proofs.renamed.RenamedBodies.{rename_result, finalise-renamed, finalise_parts-renamed, end_name-renamed, cleared-renamed, drop-renamed, if_there-renamed, cond-renamed, reading-renamed, taking-renamed, putting-renamed, making-renamed, copying-renamed, copying_cell-renamed, copying_parts-renamed}

module _ {N M L : Type 0} (f : N → M) (g : M → L) where
  mutual
    pub rename-twice : (c : Cell N) → rename g (rename f c) ≡ rename (λ n. g (f n)) c
    rename-twice (cell n k ps) = ap (cell (g (f n)) k) (rename_in-twice ps)

    pub rename_in-twice : (ps : Parts N) → rename_in g (rename_in f ps) ≡ rename_in (λ n. g (f n)) ps
    rename_in-twice no_parts = refl
    rename_in-twice (gap ps) = ap gap (rename_in-twice ps)
    rename_in-twice (part c ps) = ap₂ part (rename-twice c) (rename_in-twice ps)

module _ {N M : Type 0} (f : N → M) where
  -- evaluation
  value_there-renamed : (o : Option (Cell N)) → value_there (option_map (rename f) o) ≡ value_there o
  value_there-renamed None = refl
  value_there-renamed (Some c) = ap gives (rename-twice f (λ (n : M). let u : ⊤ = tt in u) c)

  rows_there-renamed : (o : Option (Cell N)) → rows_there (option_map (rename f) o) ≡ rows_there o
  rows_there-renamed None = refl
  rows_there-renamed (Some (cell n a_table ps)) = ap (λ (s : ℕ). gives_scalar (an_integer (Rattle.std.specs.Prelude.pos s))) (size-rename f ps)
  rows_there-renamed (Some (cell n k ps)) = refl

  pub evaluate-renamed : (ps : Parts N) (e : Expression) → evaluate (rename_in f ps) e ≡ evaluate ps e
  evaluate-renamed ps (literal l) = refl
  evaluate-renamed ps (copy p) = ap value_there (read_at-rename f p ps) ∙ value_there-renamed (read_at p ps)
  evaluate-renamed ps (negation e) = ap (one_then (Evaluate.integer_then (λ z. Evaluate.within_bits (Rattle.std.specs.Prelude.neg_ℤ z)))) (evaluate-renamed ps e)
  evaluate-renamed ps (logical_not e) = ap (one_then (Evaluate.boolean_then (λ b. Evaluate.gives_boolean (Rattle.std.specs.Prelude.not b)))) (evaluate-renamed ps e)
  evaluate-renamed ps (operation o left right) = ap₂ (two_then (operate o)) (evaluate-renamed ps left) (evaluate-renamed ps right)
  evaluate-renamed ps (Expression.size_of p) = ap rows_there (read_at-rename f p ps) ∙ rows_there-renamed (read_at p ps)
  evaluate-renamed ps (decimal e) = ap (one_then (Evaluate.integer_then (λ z. gives_scalar (a_text (Rattle.herm_model.specs.ValueTexts.signed_numeral z))))) (evaluate-renamed ps e)
  evaluate-renamed ps (length_of e) = ap (one_then (Evaluate.text_then (λ bytes. gives_scalar (an_integer (Rattle.std.specs.Prelude.pos (length bytes)))))) (evaluate-renamed ps e)

  pub atom_value-renamed : (ps : Parts N) (a : Atom) → atom_value (rename_in f ps) a ≡ atom_value ps a
  atom_value-renamed ps (Atom.literal l) = refl
  atom_value-renamed ps (path p) = ap value_there (read_at-rename f p ps) ∙ value_there-renamed (read_at p ps)

  pub key_values-renamed : (ps : Parts N) (atoms : List Atom) → key_values (rename_in f ps) atoms ≡ key_values ps atoms
  key_values-renamed ps [] = refl
  key_values-renamed ps (a ∷ atoms) = ap₂ key_of_value (atom_value-renamed ps a) (key_values-renamed ps atoms)

  -- edges
  let_one_go-renamed : (b : Bool) (ps : Parts N) (body : Frame N) → cond b (rename_body f body) (finalise_parts (rename_in f ps) (rename_body f body)) ≡ rename_body f (cond b body (finalise_parts ps body))
  let_one_go-renamed true ps body = refl
  let_one_go-renamed false ps body = finalise_parts-renamed f ps body

  finalise_loops-renamed : (stay : ℕ → Bool) (loops : List (Loop N)) (b : Frame N) → finalise_loops stay (map (rename_loop f) loops) (rename_body f b) ≡ rename_body f (finalise_loops stay loops b)
  finalise_loops-renamed stay [] b = refl
  finalise_loops-renamed stay (l ∷ loops) b =
      ap (finalise_loops stay (map (rename_loop f) loops)) (let_one_go-renamed (stay l.statement) l.rows b)
      ∙ finalise_loops-renamed stay loops (cond (stay l.statement) b (finalise_parts l.rows b))

  map-cond : {X Y : Type 0} (h : X → Y) (b : Bool) (xs ys : List X) → cond b (map h xs) (map h ys) ≡ map h (cond b xs ys)
  map-cond h true xs ys = refl
  map-cond h false xs ys = refl

  filter-renamed : (stay : ℕ → Bool) (loops : List (Loop N)) → filter (λ (l : Loop M). stay l.statement) (map (rename_loop f) loops) ≡ map (rename_loop f) (filter (λ (l : Loop N). stay l.statement) loops)
  filter-renamed stay [] = refl
  filter-renamed stay (l ∷ loops) =
      ap (λ ls. cond (stay l.statement) (rename_loop f l ∷ ls) ls) (filter-renamed stay loops)
      ∙ map-cond (rename_loop f) (stay l.statement) (l ∷ filter (λ (l : Loop N). stay l.statement) loops) (filter (λ (l : Loop N). stay l.statement) loops)

  pub leave_loops-renamed : (stay : ℕ → Bool) (b : Frame N) → leave_loops stay (rename_body f b) ≡ rename_body f (leave_loops stay b)
  leave_loops-renamed stay b =
      ap (λ ls. finalise_loops stay (map (rename_loop f) b.loops) (record (rename_body f b) { loops = ls })) (filter-renamed stay b.loops)
      ∙ finalise_loops-renamed stay b.loops (record b { loops = filter (λ (l : Loop N). stay l.statement) b.loops })

  pub arrive-renamed : (c : Module) (t : Rattle.herm_model.specs.Targets.Target) (b : Frame N) → arrive c t (rename_body f b) ≡ rename_body f (arrive c t b)
  arrive-renamed c t b =
      let lost = excess c.types c.variables (has_value b.variables) (keeps c t) in
      ap (λ h. leave_loops (keeps_loop c t) (drop (excess c.types c.variables h (keeps c t)) (rename_body f b))) (fun_ext (has_value-rename f b.variables))
      ∙ ap (leave_loops (keeps_loop c t)) (drop-renamed f lost b)
      ∙ leave_loops-renamed (keeps_loop c t) (drop lost b)

  -- what a value holds beyond its facts
  beyond_cell-renamed : (types : TypeTable) (t : Option ℕ) (facts : List Fact) (x : Path) (o : Option (Cell N))
      → list_of (λ (c : Cell M). list_of (λ u. map (below x) (excess types (u ∷ []) (has_value (part c no_parts)) (λ p. any_pass (same_fact (init p)) facts))) t) (option_map (rename f) o)
      ≡ list_of (λ (c : Cell N). list_of (λ u. map (below x) (excess types (u ∷ []) (has_value (part c no_parts)) (λ p. any_pass (same_fact (init p)) facts))) t) o
  beyond_cell-renamed types t facts x None = refl
  beyond_cell-renamed types t facts x (Some c) =
      ap (λ h. list_of (λ u. map (below x) (excess types (u ∷ []) h (λ p. any_pass (same_fact (init p)) facts))) t) (fun_ext (has_value-rename f (part c no_parts)))

  pub beyond-renamed : (types : TypeTable) (t : Option ℕ) (facts : List Fact) (x : Path) (b : Frame N) → excess_at types t facts x (rename_body f b) ≡ excess_at types t facts x b
  beyond-renamed types t facts x b =
      ap (list_of (λ (c : Cell M). list_of (λ u. map (below x) (excess types (u ∷ []) (has_value (part c no_parts)) (λ p. any_pass (same_fact (init p)) facts))) t)) (cell_at-rename f x b.variables)
      ∙ beyond_cell-renamed types t facts x (cell_at x b.variables)

  -- forms
  pub with_value-renamed : (next : Value → Frame N → Completion N) (next' : Value → Frame M → Completion M) → ((v : Value) (b : Frame N) → next' v (rename_body f b) ≡ rename_result f (next v b)) → (v : Evaluated) (b : Frame N)
      → with_value next' v (rename_body f b) ≡ rename_result f (with_value next v b)
  with_value-renamed next next' e (gives v) b = e v b
  with_value-renamed next next' e (raises x) b = refl
  with_value-renamed next next' e no_value b = refl

  pub moving-renamed : (lost : List Path) (y : Path) (next : Cell N → Frame N → Completion N) (next' : Cell M → Frame M → Completion M) → ((c : Cell N) (b : Frame N) → next' (rename f c) (rename_body f b) ≡ rename_result f (next c b)) → (b : Frame N)
      → moving lost y next' (rename_body f b) ≡ rename_result f (moving lost y next b)
  moving-renamed lost y next next' e b = ap (taking y next') (drop-renamed f lost b) ∙ taking-renamed f y next next' e (drop lost b)

  pub move-renamed : (lost : List Path) (y x : Path) (b : Frame N) → Forms.move lost y x (rename_body f b) ≡ rename_result f (Forms.move lost y x b)
  move-renamed lost y x b = moving-renamed lost y (putting x ok) (putting x ok) (putting-renamed f x ok) b

  pub discard-renamed : (x : Path) (b : Frame N) → Forms.discard x (rename_body f b) ≡ rename_result f (Forms.discard x b)
  discard-renamed x b = taking-renamed f x (λ c b. goes ok (finalise c b)) (λ c b. goes ok (finalise c b)) (λ c b. ap (goes ok) (finalise-renamed f c b)) b

  -- a cell that holds another one
  abbrev rename_opened : Opened N → Opened M
  rename_opened o = record { name = f o.name; content = rename f o.content }

  opened-renamed : (b : Bool) (o : Opened N) → cond b (Some (rename_opened o)) None ≡ option_map rename_opened (cond b (Some o) None)
  opened-renamed true o = refl
  opened-renamed false o = refl

  component_in-renamed : (c : ℕ) (v : Cell N) → component_in c (rename f v) ≡ option_map rename_opened (component_in c v)
  component_in-renamed c (cell n (a_variant d) (part content no_parts)) = opened-renamed (nat_eq c d) (record { name = n; content = content })
  component_in-renamed c v = refl

  content_of-renamed : (t : ℕ) (v : Cell N) → content_of t (rename f v) ≡ option_map rename_opened (content_of t v)
  content_of-renamed t (cell n (a_polymorph u) (part content no_parts)) = opened-renamed (nat_eq t u) (record { name = n; content = content })
  content_of-renamed t v = refl

  moving_content-renamed : (y : Path) (o : Opened N) (b : Frame N) → moving_content y (rename_opened o) (rename_body f b) ≡ rename_result f (moving_content y o b)
  moving_content-renamed y o b = ap (putting y ok (rename f o.content)) (end_name-renamed f o.name b) ∙ putting-renamed f y ok o.content (finalise_name o.name b)

  pub dissolve-renamed : (c : ℕ) (v y : Path) (b : Frame N) → Forms.dissolve c v y (rename_body f b) ≡ rename_result f (Forms.dissolve c v y b)
  dissolve-renamed c v y b =
      taking-renamed f v (λ d b. if_there (λ o. moving_content y o b) (component_in c d)) (λ d b. if_there (λ o. moving_content y o b) (component_in c d))
      (λ d b. ap (if_there (λ o. moving_content y o (rename_body f b))) (component_in-renamed c d)
      ∙ if_there-renamed f rename_opened (λ o. moving_content y o b) (λ o. moving_content y o (rename_body f b)) (λ o. moving_content-renamed y o b) (component_in c d)) b

  is_component-renamed : (v : Cell N) (c : ℕ) → is_component (Some (rename f v)) c ≡ is_component (Some v) c
  is_component-renamed (cell n (a_variant d) ps) c = refl
  is_component-renamed (cell n k ps) c = refl

  pub reveal-renamed : (c : ℕ) (v : Path) (b : Frame N) → Forms.reveal c v (rename_body f b) ≡ rename_result f (Forms.reveal c v b)
  reveal-renamed c v b =
      reading-renamed f v (λ d. goes (cond (is_component (Some d) c) ok (raised case_error)) b) (λ d. goes (cond (is_component (Some d) c) ok (raised case_error)) (rename_body f b))
      (λ d. ap (λ t. goes (cond t ok (raised case_error)) (rename_body f b)) (is_component-renamed d c)) b

  component_of-renamed : (v : Cell N) → component_of (rename f v) ≡ component_of v
  component_of-renamed (cell n (a_variant d) ps) = refl
  component_of-renamed (cell n k ps) = refl

  abbrev same : ℕ → ℕ
  same n = n

  option_map-same : (o : Option ℕ) → option_map same o ≡ o
  option_map-same None = refl
  option_map-same (Some n) = refl

  -- on with a number that names make no difference to
  pub number-renamed : (next : ℕ → Completion N) (next' : ℕ → Completion M) → ((n : ℕ) → next' n ≡ rename_result f (next n)) → (o o' : Option ℕ) → o' ≡ o → if_there next' o' ≡ rename_result f (if_there next o)
  number-renamed next next' e o o' is = ap (if_there next') (is ∙ sym (option_map-same o)) ∙ if_there-renamed f same next next' e o

  pub choose-renamed : (v : Path) (b : Frame N) → Forms.choose v (rename_body f b) ≡ rename_result f (Forms.choose v b)
  choose-renamed v b =
      reading-renamed f v (λ d. if_there (λ c. goes (Outcomes.component c) b) (component_of d)) (λ d. if_there (λ c. goes (Outcomes.component c) (rename_body f b)) (component_of d))
      (λ d. number-renamed (λ c. goes (Outcomes.component c) b) (λ c. goes (Outcomes.component c) (rename_body f b)) (λ c. refl) (component_of d) (component_of (rename f d)) (component_of-renamed d)) b

  unwrap_to-renamed : (y p : Path) (b : Frame N) (o : Option (Opened N))
      → elim (option_map rename_opened o) [ None ↦ goes (raised polymorph_mismatch) (rename_body f b) | Some o ↦ moving_content y o (cleared p (rename_body f b)) ]
      ≡ rename_result f (elim o [ None ↦ goes (raised polymorph_mismatch) b | Some o ↦ moving_content y o (cleared p b) ])
  unwrap_to-renamed y p b None = refl
  unwrap_to-renamed y p b (Some o) = ap (moving_content y (rename_opened o)) (cleared-renamed f p b) ∙ moving_content-renamed y o (cleared p b)

  pub unwrap-renamed : (t : ℕ) (p y : Path) (b : Frame N) → Forms.unwrap t p y (rename_body f b) ≡ rename_result f (Forms.unwrap t p y b)
  unwrap-renamed t p y b =
      let next : Cell N → Completion N = λ c. elim (content_of t c) [ None ↦ goes (raised polymorph_mismatch) b | Some o ↦ moving_content y o (cleared p b) ] in
      let next' : Cell M → Completion M = λ c. elim (content_of t c) [ None ↦ goes (raised polymorph_mismatch) (rename_body f b) | Some o ↦ moving_content y o (cleared p (rename_body f b)) ] in
      ap (if_there next') (cell_at-rename f p b.variables)
      ∙ if_there-renamed f (rename f) next next'
      (λ c. ap (λ (o : Option (Opened M)). elim o [ None ↦ goes (raised polymorph_mismatch) (rename_body f b) | Some o ↦ moving_content y o (cleared p (rename_body f b)) ]) (content_of-renamed t c)
      ∙ unwrap_to-renamed y p b (content_of t c)) (cell_at p b.variables)

  -- tables
  with_parts-renamed : (h : Parts N → Parts N) (h' : Parts M → Parts M) → ((ps : Parts N) → h' (rename_in f ps) ≡ rename_in f (h ps)) → (c : Cell N) → with_parts h' (rename f c) ≡ rename f (with_parts h c)
  with_parts-renamed h h' e (cell n k ps) = ap (cell (f n) k) (e ps)

  change_rows-renamed : (t : Path) (h : Parts N → Parts N) (h' : Parts M → Parts M) → ((ps : Parts N) → h' (rename_in f ps) ≡ rename_in f (h ps)) → (b : Frame N) → change_rows t h' (rename_body f b) ≡ rename_body f (change_rows t h b)
  change_rows-renamed t h h' e b = ap (λ ps. record (rename_body f b) { variables = ps }) (sym (change_at-rename f t (with_parts h) (with_parts h') (λ c. sym (with_parts-renamed h h' e c)) b.variables))

  pub parts_of-renamed : (c : Cell N) → parts_of (rename f c) ≡ rename_in f (parts_of c)
  parts_of-renamed (cell n k ps) = refl

  cond-both : (t t' : Bool) (r s : Completion N) (r' s' : Completion M) → t' ≡ t → r' ≡ rename_result f r → s' ≡ rename_result f s → cond t' r' s' ≡ rename_result f (cond t r s)
  cond-both t t' r s r' s' e x y = ap (λ q. cond q r' s') e ∙ ap₂ (cond t) x y ∙ cond-renamed f t r s

  pub insert-renamed : (key : List ℕ) (lost : List Path) (r t : Path) (b : Frame N) → InsertForm.insert key lost r t (rename_body f b) ≡ rename_result f (InsertForm.insert key lost r t b)
  insert-renamed key lost r t b =
      let added : Frame N → Completion N = λ b. moving lost r (λ row b. reading t (λ table. goes ok (change_rows t (add_row row) b)) b) b in
      let added' : Frame M → Completion M = λ b. moving lost r (λ row b. reading t (λ table. goes ok (change_rows t (add_row row) b)) b) b in
      ap (if_there (λ row. reading t (λ table.
      cond (has_key key (key_of key row) (parts_of table)) (goes (raised duplicate_key) (rename_body f b))
      (cond (nat_lt (size (parts_of table)) greatest_rows) (added' (rename_body f b)) (goes (raised depletion) (rename_body f b)))) (rename_body f b))) (cell_at-rename f r b.variables)
      ∙ if_there-renamed f (rename f)
      (λ row. reading t (λ table.
      cond (has_key key (key_of key row) (parts_of table)) (goes (raised duplicate_key) b)
      (cond (nat_lt (size (parts_of table)) greatest_rows) (added b) (goes (raised depletion) b))) b)
      (λ row. reading t (λ table.
      cond (has_key key (key_of key row) (parts_of table)) (goes (raised duplicate_key) (rename_body f b))
      (cond (nat_lt (size (parts_of table)) greatest_rows) (added' (rename_body f b)) (goes (raised depletion) (rename_body f b)))) (rename_body f b))
      (λ row. reading-renamed f t
      (λ table. cond (has_key key (key_of key row) (parts_of table)) (goes (raised duplicate_key) b)
      (cond (nat_lt (size (parts_of table)) greatest_rows) (added b) (goes (raised depletion) b)))
      (λ table. cond (has_key key (key_of key (rename f row)) (parts_of table)) (goes (raised duplicate_key) (rename_body f b))
      (cond (nat_lt (size (parts_of table)) greatest_rows) (added' (rename_body f b)) (goes (raised depletion) (rename_body f b))))
      (λ table. cond-both (has_key key (key_of key row) (parts_of table)) (has_key key (key_of key (rename f row)) (parts_of (rename f table)))
      (goes (raised duplicate_key) b) (cond (nat_lt (size (parts_of table)) greatest_rows) (added b) (goes (raised depletion) b))
      (goes (raised duplicate_key) (rename_body f b)) (cond (nat_lt (size (parts_of (rename f table))) greatest_rows) (added' (rename_body f b)) (goes (raised depletion) (rename_body f b)))
      (ap₂ (has_key key) (key_of-rename f key row) (parts_of-renamed table) ∙ has_key-rename f key (key_of key row) (parts_of table))
      refl
      (cond-both (nat_lt (size (parts_of table)) greatest_rows) (nat_lt (size (parts_of (rename f table))) greatest_rows) (added b) (goes (raised depletion) b) (added' (rename_body f b)) (goes (raised depletion) (rename_body f b))
      (ap (λ ps. nat_lt (size ps) greatest_rows) (parts_of-renamed table) ∙ ap (λ n. nat_lt n greatest_rows) (size-rename f (parts_of table)))
      (moving-renamed lost r (λ row b. reading t (λ table. goes ok (change_rows t (add_row row) b)) b) (λ row b. reading t (λ table. goes ok (change_rows t (add_row row) b)) b)
      (λ row b. reading-renamed f t (λ table. goes ok (change_rows t (add_row row) b)) (λ table. goes ok (change_rows t (add_row (rename f row)) (rename_body f b)))
      (λ table. ap (goes ok) (change_rows-renamed t (add_row row) (add_row (rename f row)) (λ rows. sym (joined-rename f rows (part row no_parts))) b)) b) b)
      refl)) b)
      (cell_at r b.variables)

  -- rows by key
  found-renamed : (next : ℕ → Cell N → Completion N) (next' : ℕ → Cell M → Completion M) → ((i : ℕ) (row : Cell N) → next' i (rename f row) ≡ rename_result f (next i row)) → (b : Frame N) (rows : Parts N) (o : Option ℕ)
      → elim o [ None ↦ goes (raised not_found) (rename_body f b) | Some i ↦ if_there (next' i) (part_at i (rename_in f rows)) ] ≡ rename_result f (elim o [ None ↦ goes (raised not_found) b | Some i ↦ if_there (next i) (part_at i rows) ])
  found-renamed next next' e b rows' None = refl
  found-renamed next next' e b rows' (Some i) = ap (if_there (next' i)) (part_at-rename f i rows') ∙ if_there-renamed f (rename f) (next i) (next' i) (e i) (part_at i rows')

  finding-renamed : (key : List ℕ) (v : List Scalar) (t : Path) (next : ℕ → Cell N → Completion N) (next' : ℕ → Cell M → Completion M) → ((i : ℕ) (row : Cell N) → next' i (rename f row) ≡ rename_result f (next i row)) → (b : Frame N)
      → finding key v t next' (rename_body f b) ≡ rename_result f (finding key v t next b)
  finding-renamed key v t next next' e b =
      reading-renamed f t
      (λ table. elim (place_of_key key v (parts_of table)) [ None ↦ goes (raised not_found) b | Some i ↦ if_there (next i) (part_at i (parts_of table)) ])
      (λ table. elim (place_of_key key v (parts_of table)) [ None ↦ goes (raised not_found) (rename_body f b) | Some i ↦ if_there (next' i) (part_at i (parts_of table)) ])
      (λ table.
      ap (λ ps. elim (place_of_key key v ps) [ None ↦ goes (raised not_found) (rename_body f b) | Some i ↦ if_there (next' i) (part_at i ps) ]) (parts_of-renamed table)
      ∙ ap (λ (o : Option ℕ). elim o [ None ↦ goes (raised not_found) (rename_body f b) | Some i ↦ if_there (next' i) (part_at i (rename_in f (parts_of table))) ]) (place_of_key-rename f key v (parts_of table))
      ∙ found-renamed next next' e b (parts_of table) (place_of_key key v (parts_of table))) b

  pub remove-renamed : (key : List ℕ) (v : List Scalar) (r t : Path) (b : Frame N) → RemoveAndGet.remove key v r t (rename_body f b) ≡ rename_result f (RemoveAndGet.remove key v r t b)
  remove-renamed key v r t b =
      finding-renamed key v t (λ i row. putting r ok row (change_rows t (without_part i) b)) (λ i row. putting r ok row (change_rows t (without_part i) (rename_body f b)))
      (λ i row. ap (putting r ok (rename f row)) (change_rows-renamed t (without_part i) (without_part i) (λ rows. sym (without_part-rename f i rows)) b)
      ∙ putting-renamed f r ok row (change_rows t (without_part i) b)) b

  pub tested-renamed : (v : Value) (b : Frame N) → tested v (rename_body f b) ≡ rename_result f (tested v b)
  tested-renamed (cell n (a_scalar (a_boolean true)) ps) b = refl
  tested-renamed (cell n (a_scalar (a_boolean false)) ps) b = refl
  tested-renamed v b = refl

  pub inport_number-renamed : (c : Cell N) → inport_number (rename f c) ≡ inport_number c
  inport_number-renamed (cell n (an_inport port) ps) = refl
  inport_number-renamed (cell n k ps) = refl

  pub outport_number-renamed : (c : Cell N) → outport_number (rename f c) ≡ outport_number c
  outport_number-renamed (cell n (an_outport port) ps) = refl
  outport_number-renamed (cell n k ps) = refl

  -- the rows of a loop
  rows_if-renamed : (t : Bool) (rows' : Parts N) (o : Option (Parts N)) → cond t (Some (rename_in f rows')) (option_map (rename_in f) o) ≡ option_map (rename_in f) (cond t (Some rows') o)
  rows_if-renamed true rows' o = refl
  rows_if-renamed false rows' o = refl

  pub rows_for-renamed : (s : ℕ) (loops : List (Loop N)) → rows_for s (map (rename_loop f) loops) ≡ option_map (rename_in f) (rows_for s loops)
  rows_for-renamed s [] = refl
  rows_for-renamed s (l ∷ loops) = ap (cond (nat_eq l.statement s) (Some (rename_in f l.rows))) (rows_for-renamed s loops) ∙ rows_if-renamed (nat_eq l.statement s) l.rows (rows_for s loops)

  set_rows-renamed : (s : ℕ) (left : Parts N) (loops : List (Loop N)) → set_rows s (rename_in f left) (map (rename_loop f) loops) ≡ map (rename_loop f) (set_rows s left loops)
  set_rows-renamed s left [] = refl
  set_rows-renamed s left (l ∷ loops) =
      ap (λ ls. cond (nat_eq l.statement s) (record { statement = s; rows = rename_in f left } ∷ map (rename_loop f) loops) (rename_loop f l ∷ ls)) (set_rows-renamed s left loops)
      ∙ map-cond (rename_loop f) (nat_eq l.statement s) (record { statement = s; rows = left } ∷ loops) (l ∷ set_rows s left loops)

  pub next_row-renamed : (s : ℕ) (r : Path) (left : Parts N) (b : Frame N) → next_row s r (rename_in f left) (rename_body f b) ≡ rename_result f (next_row s r left b)
  next_row-renamed s r no_parts b = refl
  next_row-renamed s r (gap left) b = refl
  next_row-renamed s r (part row left) b =
      ap (λ ls. putting r turn (rename f row) (record (rename_body f b) { loops = ls })) (set_rows-renamed s left b.loops)
      ∙ putting-renamed f r turn row (record b { loops = set_rows s left b.loops })

  module _ (name : Name → N) where
    abbrev again : Name → M
    again n = f (name n)

    pub assign-renamed : (x : Path) (v : Value) (b : Frame N) → Forms.assign again x v (rename_body f b) ≡ rename_result f (Forms.assign name x v b)
    assign-renamed x v b = copying-renamed f name v (putting x ok) (putting x ok) (putting-renamed f x ok) b

    new-renamed : (k : Kind) (ps : Parts N) (x : Path) (b : Frame N) → Forms.new again k (rename_in f ps) x (rename_body f b) ≡ rename_result f (Forms.new name k ps x b)
    new-renamed k ps x b = making-renamed f name k ps (putting x ok) (putting x ok) (putting-renamed f x ok) b

    pub new_value-renamed : (s : Option Shape) (x : Path) (b : Frame N) → new_value again s x (rename_body f b) ≡ rename_result f (new_value name s x b)
    new_value-renamed (Some (fields ts)) x b = ap (λ ps. Forms.new again a_record ps x (rename_body f b)) (sym (gaps-rename f (length ts))) ∙ new-renamed a_record (gaps (length ts)) x b
    new_value-renamed (Some (rows row key)) x b = new-renamed a_table no_parts x b
    new_value-renamed (Some s) x b = refl
    new_value-renamed None x b = refl

    -- a cell that holds what moved
    holding-renamed : (k : Kind) (x : Path) (content : Cell N) (b : Frame N)
        → making again k (part (rename f content) no_parts) (putting x ok) (rename_body f b) ≡ rename_result f (making name k (part content no_parts) (putting x ok) b)
    holding-renamed k x content b = making-renamed f name k (part content no_parts) (putting x ok) (putting x ok) (putting-renamed f x ok) b

    pub unite-renamed : (c : ℕ) (lost : List Path) (y v : Path) (b : Frame N) → Forms.unite again c lost y v (rename_body f b) ≡ rename_result f (Forms.unite name c lost y v b)
    unite-renamed c lost y v b =
        moving-renamed lost y (λ content b. making name (a_variant c) (part content no_parts) (putting v ok) b) (λ content b. making again (a_variant c) (part content no_parts) (putting v ok) b)
        (holding-renamed (a_variant c) v) b

    pub wrap-renamed : (t : ℕ) (lost : List Path) (y p : Path) (b : Frame N) → Forms.wrap again t lost y p (rename_body f b) ≡ rename_result f (Forms.wrap name t lost y p b)
    wrap-renamed t lost y p b =
        let held = λ (content : Cell N) (b : Frame N). making name (a_polymorph t) (part content no_parts) (putting p ok) b in
        let held' = λ (content : Cell M) (b : Frame M). making again (a_polymorph t) (part content no_parts) (putting p ok) b in
        let next : Cell N → Completion N = λ c. cond (nat_lt (polymorph_depth c) greatest_polymorph) (moving lost y held b) (goes (raised depletion) b) in
        let next' : Cell M → Completion M = λ c. cond (nat_lt (polymorph_depth c) greatest_polymorph) (moving lost y held' (rename_body f b)) (goes (raised depletion) (rename_body f b)) in
        ap (if_there next') (ap (λ (b : Frame M). cell_at y b.variables) (drop-renamed f lost b) ∙ cell_at-rename f y (drop lost b).variables)
        ∙ if_there-renamed f (rename f) next next'
        (λ c. cond-both (nat_lt (polymorph_depth c) greatest_polymorph) (nat_lt (polymorph_depth (rename f c)) greatest_polymorph) (moving lost y held b) (goes (raised depletion) b)
        (moving lost y held' (rename_body f b)) (goes (raised depletion) (rename_body f b))
        (ap (λ d. nat_lt d greatest_polymorph) (polymorph_depth-rename f c)) (moving-renamed lost y held held' (holding-renamed (a_polymorph t) p) b) refl)
        (cell_at y (drop lost b).variables)

    pub get-renamed : (key : List ℕ) (v : List Scalar) (r t : Path) (b : Frame N) → RemoveAndGet.get again key v r t (rename_body f b) ≡ rename_result f (RemoveAndGet.get name key v r t b)
    get-renamed key v r t b =
        finding-renamed key v t (λ i row. copying name row (putting r ok) b) (λ i row. copying again row (putting r ok) (rename_body f b))
        (λ i row. copying_cell-renamed f name row (putting r ok) (putting r ok) (putting-renamed f r ok) b) b

    visit_from-renamed : (s : ℕ) (r t : Path) (b : Frame N) (o : Option (Parts N))
        → elim (option_map (rename_in f) o) [
          | None ↦ reading t (λ table. copying_parts again (parts_of table) (λ rows b. next_row s r rows (record b { loops = record { statement = s; rows = rows } ∷ b.loops })) (rename_body f b)) (rename_body f b)
          | Some left ↦ next_row s r left (rename_body f b)
        ]
        ≡ rename_result f (elim o [
          | None ↦ reading t (λ table. copying_parts name (parts_of table) (λ rows b. next_row s r rows (record b { loops = record { statement = s; rows = rows } ∷ b.loops })) b) b
          | Some left ↦ next_row s r left b
        ])
    visit_from-renamed s r t b (Some left) = next_row-renamed s r left b
    visit_from-renamed s r t b None =
        let next = λ (left : Parts N) (b : Frame N). next_row s r left (record b { loops = record { statement = s; rows = left } ∷ b.loops }) in
        let next' = λ (left : Parts M) (b : Frame M). next_row s r left (record b { loops = record { statement = s; rows = left } ∷ b.loops }) in
        reading-renamed f t (λ table. copying_parts name (parts_of table) next b) (λ table. copying_parts again (parts_of table) next' (rename_body f b))
        (λ table. ap (λ ps. copying_parts again ps next' (rename_body f b)) (parts_of-renamed table)
        ∙ copying_parts-renamed f name (parts_of table) next next' (λ left b. next_row-renamed s r left (record b { loops = record { statement = s; rows = left } ∷ b.loops })) b) b

    pub visit-renamed : (s : ℕ) (r t : Path) (b : Frame N) → LoopForms.visit again s r t (rename_body f b) ≡ rename_result f (LoopForms.visit name s r t b)
    visit-renamed s r t b =
        ap (λ (o : Option (Parts M)). elim o [
          | None ↦ reading t (λ table. copying_parts again (parts_of table) (λ rows b. next_row s r rows (record b { loops = record { statement = s; rows = rows } ∷ b.loops })) (rename_body f b)) (rename_body f b)
          | Some left ↦ next_row s r left (rename_body f b)
        ]) (rows_for-renamed s b.loops)
        ∙ visit_from-renamed s r t b (rows_for s b.loops)

    pub connect-renamed : (o i : Path) (b : Frame N) → Forms.connect again o i (rename_body f b) ≡ rename_result f (Forms.connect name o i b)
    connect-renamed o i b =
        reading-renamed f i (λ c. if_there (λ n. making name (an_outport n) no_parts (putting o ok) b) (inport_number c)) (λ c. if_there (λ n. making again (an_outport n) no_parts (putting o ok) (rename_body f b)) (inport_number c))
        (λ c. number-renamed (λ n. making name (an_outport n) no_parts (putting o ok) b) (λ n. making again (an_outport n) no_parts (putting o ok) (rename_body f b))
        (λ n. making-renamed f name (an_outport n) no_parts (putting o ok) (putting o ok) (putting-renamed f o ok) b) (inport_number c) (inport_number (rename f c)) (inport_number-renamed c)) b
