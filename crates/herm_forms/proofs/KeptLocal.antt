-- Each form that is a local step keeps the ledger's equation.
use Rattle.std.proofs.Common.{◌≡◌, ℕ, ◌+◌, List, ◌∷◌, Bool, true, false, cond, Option, Some, None, refl, ap, sym, subst, arith}
use borrow.Author.Tests.{eq-eqb}
use Rattle.std.specs.Prelude.{nat_eq, nat_lt, length}
use Rattle.herm_model.specs.Paths.{Path}
use Rattle.herm_model.specs.Types.{Shape, fields, rows}
use Rattle.herm_model.specs.Outcomes.{ok, turn, raised, depletion, polymorph_mismatch, duplicate_key, not_found, case_error}
use Rattle.herm_model.specs.Values.{Scalar, a_boolean, Kind, a_scalar, a_record, a_variant, a_table, a_polymorph, an_outport, Cell, cell, Parts, no_parts, gap, gaps, part, part_at, size, parts_of, cell_at, read_at, polymorph_depth, Value}
use Rattle.herm_model.specs.FactsOfValues.{is_component}
use Rattle.herm_model.specs.Tables.{has_key, key_of, place_of_key, without_part}
use Rattle.herm_model.specs.Typed.{greatest_rows, greatest_polymorph}
use Rattle.herm_model.proofs.Options.{none-not_some}
use Rattle.herm_forms.specs.Evaluate.{Evaluated, gives, raises, no_value}
use Rattle.herm_forms.specs.Frames.{Name, Frame, Completion, goes, if_there, finalise, finalise_name, cleared, drop, reading, putting, making, copying, copying_parts}
use Rattle.herm_forms.specs.Forms
use Rattle.herm_forms.specs.InsertForm
use Rattle.herm_forms.specs.RemoveAndGet
use Rattle.herm_forms.specs.LoopForms
use Rattle.herm_forms.specs.Forms.{Opened, component_in, content_of, moving, moving_content, component_of, inport_number, tested, with_value}
use Rattle.herm_forms.specs.InsertForm.{change_rows, with_parts, add_row}
use Rattle.herm_forms.specs.RemoveAndGet.{finding}
use Rattle.herm_forms.specs.LoopForms.{rows_for, set_rows, next_row}
use Rattle.herm_forms.specs.Acts.{new_value}
use Rattle.herm_journal.specs.Kinds.{HasKinds, HaveKinds}
use Rattle.herm_model.proofs.Loads.{load, load_in}
use Rattle.herm_model.proofs.Loads.{SparesPlain}
use Rattle.herm_forms.proofs.Weights.{Spares, weigh-change_at, weigh-joined, weigh-without_part, weigh-gaps, weigh-set_rows}
use Rattle.herm_forms.proofs.known.HeldKinds.{IfKinds, part-kinds}
use Rattle.herm_forms.proofs.Balance.{Balanced, AllBalanced, balanced-finalise, balanced-end_name, balanced-cleared, balanced-drop, balanced-if_there, balanced-cond, balanced-putting, balanced-taking, balanced-making, balanced-copying, balanced-copying_parts}

module _ {N : Type 0} (w : N → ℕ) (extra : Kind → ℕ) (name : Name → N) (spares : SparesPlain extra) (m k : ℕ) where
  pub balanced-with_value : (h : ℕ) (next : Value → Frame N → Completion N) (e : Evaluated) (b : Frame N) → Balanced w extra name m k h b
      → ((v : Value) → e ≡ gives v → AllBalanced w extra name m k h (next v b)) → AllBalanced w extra name m k h (with_value next e b)
  balanced-with_value h next (gives v) b e on = on v refl
  balanced-with_value h next (raises x) b e on = e
  balanced-with_value h next no_value b e on = tt

  pub balanced-moving : (h g : ℕ) (lost : List Path) (y : Path) (next : Cell N → Frame N → Completion N) (b : Frame N) → Balanced w extra name m k h b
      → ((c : Cell N) (b' : Frame N) → Balanced w extra name m k (h + load w extra c) b' → AllBalanced w extra name m k g (next c b'))
      → AllBalanced w extra name m k g (moving lost y next b)
  balanced-moving h g lost y next b e on =
      balanced-taking w extra name spares m k h g y next (drop lost b) (balanced-drop w extra name spares m k h lost b e) (λ c there cut. on c (cleared y (drop lost b)) cut)

  pub kept-assign : (x : Path) (v : Value) (b : Frame N) → HasKinds (Spares extra) v → Balanced w extra name m k 0 b → AllBalanced w extra name m k 0 (Forms.assign name x v b)
  kept-assign x v b kinds e = balanced-copying w extra name spares m k 0 0 v (putting x ok) b kinds e (λ d b' e'. balanced-putting w extra name spares m k 0 x ok d b' e')

  pub kept-move : (lost : List Path) (y x : Path) (b : Frame N) → Balanced w extra name m k 0 b → AllBalanced w extra name m k 0 (Forms.move lost y x b)
  kept-move lost y x b e = balanced-moving 0 0 lost y (putting x ok) b e (λ c b' e'. balanced-putting w extra name spares m k 0 x ok c b' e')

  kept-new : (kind : Kind) (ps : Parts N) (x : Path) (b : Frame N) → load_in w extra ps ≡ 0 → extra kind ≡ 0 → Balanced w extra name m k 0 b → AllBalanced w extra name m k 0 (Forms.new name kind ps x b)
  kept-new kind ps x b none plain e = balanced-making w extra name spares m k 0 0 kind ps (putting x ok) b (omega arith) (λ d b' e'. balanced-putting w extra name spares m k 0 x ok d b' e')

  pub kept-new_value : (s : Option Shape) (x : Path) (b : Frame N) → Balanced w extra name m k 0 b → AllBalanced w extra name m k 0 (new_value name s x b)
  kept-new_value (Some (fields ts)) x b e = kept-new a_record (gaps (length ts)) x b (weigh-gaps w extra (length ts)) (spares a_record refl) e
  kept-new_value (Some (rows row key)) x b e = kept-new a_table no_parts x b refl (spares a_table refl) e
  kept-new_value (Some s) x b e = tt
  kept-new_value None x b e = tt

  pub kept-discard : (x : Path) (b : Frame N) → Balanced w extra name m k 0 b → AllBalanced w extra name m k 0 (Forms.discard x b)
  kept-discard x b e = balanced-taking w extra name spares m k 0 0 x (λ c b. goes ok (finalise c b)) b e (λ c there cut. balanced-finalise w extra name spares m k 0 c (cleared x b) cut)

  pub kept-unite : (c : ℕ) (lost : List Path) (y v : Path) (b : Frame N) → Balanced w extra name m k 0 b → AllBalanced w extra name m k 0 (Forms.unite name c lost y v b)
  kept-unite c lost y v b e =
      balanced-moving 0 0 lost y (λ content b. making name (a_variant c) (part content no_parts) (putting v ok) b) b e
      (λ content b' e'. balanced-making w extra name spares m k 0 0 (a_variant c) (part content no_parts) (putting v ok) b' (omega (arith, spares (a_variant c) refl))
      (λ d b'' e''. balanced-putting w extra name spares m k 0 v ok d b'' e''))

  -- what a cell that holds another one weighs
  weigh-opened : (b : Bool) (n : N) (content : Cell N) (o : Opened N) → cond b (Some (record { name = n; content = content })) None ≡ Some o
      → (x : ℕ) → x ≡ 0 → w n + x + (load w extra content + 0) ≡ w o.name + load w extra o.content
  weigh-opened true n content o h x plain = let same : record { name = n; content = content } ≡ o = cc h in rw (sym same) (omega arith)
  weigh-opened false n content o h x plain = none-not_some h

  weigh-component : (c : ℕ) (v : Cell N) (o : Opened N) → component_in c v ≡ Some o → load w extra v ≡ w o.name + load w extra o.content
  weigh-component c (cell n (a_variant d) (part content no_parts)) o h = weigh-opened (nat_eq c d) n content o h (extra (a_variant d)) (spares (a_variant d) refl)
  weigh-component c v o h = none-not_some h

  weigh-content : (t : ℕ) (v : Cell N) (o : Opened N) → content_of t v ≡ Some o → load w extra v ≡ w o.name + load w extra o.content
  weigh-content t (cell n (a_polymorph u) (part content no_parts)) o h = weigh-opened (nat_eq t u) n content o h (extra (a_polymorph u)) (spares (a_polymorph u) refl)
  weigh-content t v o h = none-not_some h

  balanced-moving_content : (y : Path) (o : Opened N) (b : Frame N) → Balanced w extra name m k (w o.name + load w extra o.content) b → AllBalanced w extra name m k 0 (moving_content y o b)
  balanced-moving_content y o b e =
      balanced-putting w extra name spares m k 0 y ok o.content (finalise_name o.name b) (balanced-end_name w extra name spares m k (0 + load w extra o.content) o.name b (omega arith))

  pub kept-dissolve : (c : ℕ) (v y : Path) (b : Frame N) → Balanced w extra name m k 0 b → AllBalanced w extra name m k 0 (Forms.dissolve c v y b)
  kept-dissolve c v y b e =
      balanced-taking w extra name spares m k 0 0 v (λ cell b. if_there (λ o. moving_content y o b) (component_in c cell)) b e
      (λ d there cut. balanced-if_there w extra name spares m k 0 (λ o. moving_content y o (cleared v b)) (component_in c d)
      (λ o is. balanced-moving_content y o (cleared v b) (omega (arith, weigh-component c d o is))))

  pub kept-reveal : (c : ℕ) (v : Path) (b : Frame N) → Balanced w extra name m k 0 b → AllBalanced w extra name m k 0 (Forms.reveal c v b)
  kept-reveal c v b e = balanced-if_there w extra name spares m k 0 (λ (d : Cell N). goes (cond (is_component (Some d) c) ok (raised case_error)) b) (read_at v b.variables) (λ d there. e)

  pub kept-choose : (v : Path) (b : Frame N) → Balanced w extra name m k 0 b → AllBalanced w extra name m k 0 (Forms.choose v b)
  kept-choose v b e =
      balanced-if_there w extra name spares m k 0 (λ (d : Cell N). if_there (λ c. goes (Rattle.herm_model.specs.Outcomes.component c) b) (component_of d)) (read_at v b.variables)
      (λ d there. balanced-if_there w extra name spares m k 0 (λ c. goes (Rattle.herm_model.specs.Outcomes.component c) b) (component_of d) (λ c is. e))

  pub kept-wrap : (t : ℕ) (lost : List Path) (y p : Path) (b : Frame N) → Balanced w extra name m k 0 b → AllBalanced w extra name m k 0 (Forms.wrap name t lost y p b)
  kept-wrap t lost y p b e =
      balanced-if_there w extra name spares m k 0
      (λ (c : Cell N). cond (nat_lt (polymorph_depth c) greatest_polymorph) (moving lost y (λ content b. making name (a_polymorph t) (part content no_parts) (putting p ok) b) b) (goes (raised depletion) b))
      (cell_at y (drop lost b).variables)
      (λ c there. balanced-cond w extra name spares m k 0 (nat_lt (polymorph_depth c) greatest_polymorph) (moving lost y (λ content b. making name (a_polymorph t) (part content no_parts) (putting p ok) b) b) (goes (raised depletion) b)
      (λ fits. balanced-moving 0 0 lost y (λ content b. making name (a_polymorph t) (part content no_parts) (putting p ok) b) b e
      (λ content b' e'. balanced-making w extra name spares m k 0 0 (a_polymorph t) (part content no_parts) (putting p ok) b' (omega (arith, spares (a_polymorph t) refl))
      (λ d b'' e''. balanced-putting w extra name spares m k 0 p ok d b'' e'')))
      (λ full. e))

  unwrap_to : (y p : Path) (b : Frame N) (c : Cell N) (t : ℕ) (o : Option (Opened N)) → content_of t c ≡ o → cell_at p b.variables ≡ Some c → Balanced w extra name m k 0 b
      → AllBalanced w extra name m k 0 (elim o [ None ↦ goes (raised polymorph_mismatch) b | Some o ↦ moving_content y o (cleared p b) ])
  unwrap_to y p b c t None is there e = e
  unwrap_to y p b c t (Some o) is there e =
      balanced-moving_content y o (cleared p b)
      (let cut = balanced-cleared w extra name spares m k 0 p b e in let cut' = rw there at cut in omega (arith, weigh-content t c o is))

  pub kept-unwrap : (t : ℕ) (p y : Path) (b : Frame N) → Balanced w extra name m k 0 b → AllBalanced w extra name m k 0 (Forms.unwrap t p y b)
  kept-unwrap t p y b e =
      balanced-if_there w extra name spares m k 0
      (λ (c : Cell N). elim (content_of t c) [ None ↦ goes (raised polymorph_mismatch) b | Some o ↦ moving_content y o (cleared p b) ])
      (cell_at p b.variables)
      (λ c there. unwrap_to y p b c t (content_of t c) refl there e)

  weigh-with_parts : (f : Parts N → Parts N) (c : Cell N) → load w extra (with_parts f c) + load_in w extra (parts_of c) ≡ load w extra c + load_in w extra (f (parts_of c))
  weigh-with_parts f (cell n kind ps) = omega arith

  -- a change of the rows of a table that is there
  balanced-change_rows : (h g : ℕ) (t : Path) (f : Parts N → Parts N) (table : Cell N) (b : Frame N) → read_at t b.variables ≡ Some table
      → h + load_in w extra (parts_of table) ≡ g + load_in w extra (f (parts_of table)) → Balanced w extra name m k h b → Balanced w extra name m k g (change_rows t f b)
  balanced-change_rows h g t f table b there more e = omega (arith, weigh-change_at w extra t (with_parts f) table b.variables there, weigh-with_parts f table)

  pub kept-insert : (key : List ℕ) (lost : List Path) (r t : Path) (b : Frame N) → Balanced w extra name m k 0 b → AllBalanced w extra name m k 0 (InsertForm.insert key lost r t b)
  kept-insert key lost r t b e =
      balanced-if_there w extra name spares m k 0
      (λ row. reading t (λ table.
      cond (has_key key (key_of key row) (parts_of table)) (goes (raised duplicate_key) b)
      (cond (nat_lt (size (parts_of table)) greatest_rows)
      (moving lost r (λ row b. reading t (λ table. goes ok (change_rows t (add_row row) b)) b) b)
      (goes (raised depletion) b))) b)
      (cell_at r b.variables)
      (λ row there. balanced-if_there w extra name spares m k 0
      (λ table. cond (has_key key (key_of key row) (parts_of table)) (goes (raised duplicate_key) b)
      (cond (nat_lt (size (parts_of table)) greatest_rows)
      (moving lost r (λ row b. reading t (λ table. goes ok (change_rows t (add_row row) b)) b) b)
      (goes (raised depletion) b)))
      (read_at t b.variables)
      (λ table is. balanced-cond w extra name spares m k 0 (has_key key (key_of key row) (parts_of table)) (goes (raised duplicate_key) b)
      (cond (nat_lt (size (parts_of table)) greatest_rows)
      (moving lost r (λ row b. reading t (λ table. goes ok (change_rows t (add_row row) b)) b) b)
      (goes (raised depletion) b))
      (λ known. e)
      (λ new. balanced-cond w extra name spares m k 0 (nat_lt (size (parts_of table)) greatest_rows)
      (moving lost r (λ row b. reading t (λ table. goes ok (change_rows t (add_row row) b)) b) b) (goes (raised depletion) b)
      (λ fits. balanced-moving 0 0 lost r (λ row b. reading t (λ table. goes ok (change_rows t (add_row row) b)) b) b e
      (λ row' b' e'. balanced-if_there w extra name spares m k 0 (λ (table : Cell N). goes ok (change_rows t (add_row row') b')) (read_at t b'.variables)
      (λ table' there'. balanced-change_rows (0 + load w extra row') 0 t (add_row row') table' b' there' (omega (arith, weigh-joined w extra (parts_of table') (part row' no_parts))) e')))
      (λ full. e))))

  found : (h : ℕ) (next : ℕ → Cell N → Completion N) (b : Frame N) (table : Cell N) (o : Option ℕ) → Balanced w extra name m k h b
      → ((i : ℕ) (row : Cell N) → part_at i (parts_of table) ≡ Some row → AllBalanced w extra name m k h (next i row))
      → AllBalanced w extra name m k h (elim o [ None ↦ goes (raised not_found) b | Some i ↦ if_there (next i) (part_at i (parts_of table)) ])
  found h next b table None e on = e
  found h next b table (Some i) e on = balanced-if_there w extra name spares m k h (next i) (part_at i (parts_of table)) (on i)

  balanced-finding : (h : ℕ) (key : List ℕ) (v : List Scalar) (t : Path) (next : ℕ → Cell N → Completion N) (b : Frame N) → Balanced w extra name m k h b
      → ((table : Cell N) (i : ℕ) (row : Cell N) → read_at t b.variables ≡ Some table → part_at i (parts_of table) ≡ Some row → AllBalanced w extra name m k h (next i row))
      → AllBalanced w extra name m k h (finding key v t next b)
  balanced-finding h key v t next b e on =
      balanced-if_there w extra name spares m k h
      (λ (table : Cell N). elim (place_of_key key v (parts_of table)) [ None ↦ goes (raised not_found) b | Some i ↦ if_there (next i) (part_at i (parts_of table)) ])
      (read_at t b.variables)
      (λ table there. found h next b table (place_of_key key v (parts_of table)) e (λ i row is. on table i row there is))

  pub kept-remove : (key : List ℕ) (v : List Scalar) (r t : Path) (b : Frame N) → Balanced w extra name m k 0 b → AllBalanced w extra name m k 0 (RemoveAndGet.remove key v r t b)
  kept-remove key v r t b e =
      balanced-finding 0 key v t (λ i row. putting r ok row (change_rows t (without_part i) b)) b e
      (λ table i row there is. balanced-putting w extra name spares m k 0 r ok row (change_rows t (without_part i) b)
      (balanced-change_rows 0 (0 + load w extra row) t (without_part i) table b there (omega (arith, weigh-without_part w extra i row (parts_of table) is)) e))

  -- the row at a place is as spared as all rows
  part-spared : (i : ℕ) (ps : Parts N) (c : Cell N) → part_at i ps ≡ Some c → HaveKinds (Spares extra) ps → HasKinds (Spares extra) c
  part-spared i ps c is h = subst (IfKinds (Spares extra)) is (part-kinds (Spares extra) i ps h)

  pub kept-get : (key : List ℕ) (v : List Scalar) (r t : Path) (b : Frame N) → ((table : Cell N) → read_at t b.variables ≡ Some table → HaveKinds (Spares extra) (parts_of table)) → Balanced w extra name m k 0 b → AllBalanced w extra name m k 0 (RemoveAndGet.get name key v r t b)
  kept-get key v r t b kinds e =
      balanced-finding 0 key v t (λ i row. copying name row (putting r ok) b) b e
      (λ table i row there is. balanced-copying w extra name spares m k 0 0 row (putting r ok) b (part-spared i (parts_of table) row is (kinds table there)) e (λ d b' e'. balanced-putting w extra name spares m k 0 r ok d b' e'))

  pub balanced-next_row : (s : ℕ) (r : Path) (rows : Parts N) (b : Frame N) → rows_for s b.loops ≡ Some rows → Balanced w extra name m k 0 b → AllBalanced w extra name m k 0 (next_row s r rows b)
  balanced-next_row s r no_parts b there e = e
  balanced-next_row s r (gap left) b there e = tt
  balanced-next_row s r (part row left) b there e =
      balanced-putting w extra name spares m k 0 r turn row (record b { loops = set_rows s left b.loops })
      (omega (arith, weigh-set_rows w extra s left (part row left) b.loops there))

  visit_from : (s : ℕ) (r t : Path) (b : Frame N) (o : Option (Parts N)) → rows_for s b.loops ≡ o → ((table : Cell N) → read_at t b.variables ≡ Some table → HaveKinds (Spares extra) (parts_of table)) → Balanced w extra name m k 0 b
      → AllBalanced w extra name m k 0 (elim o [
        | None ↦ reading t (λ table. copying_parts name (parts_of table) (λ rows b. next_row s r rows (record b { loops = record { statement = s; rows = rows } ∷ b.loops })) b) b
        | Some left ↦ next_row s r left b
      ])
  visit_from s r t b (Some left) there kinds e = balanced-next_row s r left b there e
  visit_from s r t b None there kinds e =
      balanced-if_there w extra name spares m k 0
      (λ (table : Cell N). copying_parts name (parts_of table) (λ rows b. next_row s r rows (record b { loops = record { statement = s; rows = rows } ∷ b.loops })) b)
      (read_at t b.variables)
      (λ table is. balanced-copying_parts w extra name spares m k 0 0 (parts_of table) (λ rows b. next_row s r rows (record b { loops = record { statement = s; rows = rows } ∷ b.loops })) b (kinds table is) e
      (λ qs b' e'. balanced-next_row s r qs (record b' { loops = record { statement = s; rows = qs } ∷ b'.loops })
      (ap (λ (t : Bool). cond t (Some qs) (rows_for s b'.loops)) (eq-eqb s s refl)) (omega arith)))

  pub kept-visit : (s : ℕ) (r t : Path) (b : Frame N) → ((table : Cell N) → read_at t b.variables ≡ Some table → HaveKinds (Spares extra) (parts_of table)) → Balanced w extra name m k 0 b → AllBalanced w extra name m k 0 (LoopForms.visit name s r t b)
  kept-visit s r t b kinds e = visit_from s r t b (rows_for s b.loops) refl kinds e

  pub kept-connect : (o i : Path) (b : Frame N) → Balanced w extra name m k 0 b → AllBalanced w extra name m k 0 (Forms.connect name o i b)
  kept-connect o i b e =
      balanced-if_there w extra name spares m k 0 (λ (c : Cell N). if_there (λ n. making name (an_outport n) no_parts (putting o ok) b) (inport_number c)) (read_at i b.variables)
      (λ c there. balanced-if_there w extra name spares m k 0 (λ n. making name (an_outport n) no_parts (putting o ok) b) (inport_number c)
      (λ n is. balanced-making w extra name spares m k 0 0 (an_outport n) no_parts (putting o ok) b (omega (arith, spares (an_outport n) refl)) (λ d b' e'. balanced-putting w extra name spares m k 0 o ok d b' e')))

  pub kept-tested : (v : Value) (b : Frame N) → Balanced w extra name m k 0 b → AllBalanced w extra name m k 0 (tested v b)
  kept-tested (cell n (a_scalar (a_boolean true)) ps) b e = e
  kept-tested (cell n (a_scalar (a_boolean false)) ps) b e = e
  kept-tested v b e = tt
