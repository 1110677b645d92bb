-- Changing the names of cells commutes with each operation on values.
use Rattle.std.proofs.Common.{◌≡◌, ℕ, zero, suc, ◌+◌, max, List, [], ◌∷◌, ◌++◌, map, Bool, true, false, cond, not, ◌&&◌, ◌||◌, Option, Some, None, option_map, is_some, refl, sym, ap, ap₂, ◌∙◌}
use Rattle.herm_model.specs.Lists.{list_of}
use Rattle.herm_model.specs.Paths.{Path, Fact, init, case}
use Rattle.herm_model.specs.Values.{Scalar, a_callmessage, a_record, Kind, a_scalar, a_variant, Cell, cell, Parts, no_parts, gap, gaps, part, part_at, place, set_part, size, joined, opens, inside, cell_at, has_value, change_inside, change_part, set_at, behind_gaps, readable_of, read_at, change_readable, change_behind, change_from, change_at, deeper, polymorph_depth, depth_in}
use Rattle.herm_model.specs.CellNames.{names_of, names_in, count, count_in, copy_from, copy_in, rename, rename_in}
use Rattle.herm_model.specs.FactsOfValues.{is_component, satisfies}
use Rattle.herm_model.specs.Tables.{scalars_of, key_of, same_key, has_key, place_of_key, has_distinct_keys, without_part}
use Rattle.herm_model.specs.Finalising.{waits, finalised, finalised_in, pending, pending_in, cells_at, clear_all}
use Rattle.herm_model.specs.ValueTexts.{opening, closing, text_of, parts_text}
use Rattle.herm_model.proofs.Options.{is_some-map}

pub map-append : {X Y : Type 0} (f : X → Y) (xs ys : List X) → map f (xs ++ ys) ≡ map f xs ++ map f ys
map-append f [] ys = refl
map-append f (x ∷ xs) ys = ap (f x ∷◌) (map-append f xs ys)

module _ {N M : Type 0} (f : N → M) where
  rename-cond : (b : Bool) (ps qs : Parts N) → rename_in f (cond b ps qs) ≡ cond b (rename_in f ps) (rename_in f qs)
  rename-cond true ps qs = refl
  rename-cond false ps qs = refl

  pub part_at-rename : (i : ℕ) (ps : Parts N) → part_at i (rename_in f ps) ≡ option_map (rename f) (part_at i ps)
  part_at-rename i no_parts = refl
  part_at-rename zero (gap ps) = refl
  part_at-rename zero (part c ps) = refl
  part_at-rename (suc i) (gap ps) = part_at-rename i ps
  part_at-rename (suc i) (part c ps) = part_at-rename i ps

  pub inside-rename : (o : Option (Cell N)) → inside (option_map (rename f) o) ≡ rename_in f (inside o)
  inside-rename None = refl
  inside-rename (Some (cell n k ps)) = sym (rename-cond (opens k) ps no_parts)

  pub cell_at-rename : (p : Path) (ps : Parts N) → cell_at p (rename_in f ps) ≡ option_map (rename f) (cell_at p ps)
  cell_at-rename [] ps = refl
  cell_at-rename (i ∷ []) ps = part_at-rename i ps
  cell_at-rename (i ∷ j ∷ p) ps = ap (λ o. cell_at (j ∷ p) (inside o)) (part_at-rename i ps) ∙ ap (cell_at (j ∷ p)) (inside-rename (part_at i ps)) ∙ cell_at-rename (j ∷ p) (inside (part_at i ps))

  pub has_value-rename : (ps : Parts N) (p : Path) → has_value (rename_in f ps) p ≡ has_value ps p
  has_value-rename ps p = ap is_some (cell_at-rename p ps) ∙ is_some-map (rename f) (cell_at p ps)

  pub gaps-rename : (n : ℕ) → rename_in f (gaps n) ≡ gaps n
  gaps-rename zero = refl
  gaps-rename (suc n) = ap gap (gaps-rename n)

  behind_gaps-rename : (i : ℕ) (ps : Parts N) → behind_gaps i (rename_in f ps) ≡ rename_in f (behind_gaps i ps)
  behind_gaps-rename zero ps = refl
  behind_gaps-rename (suc i) ps = ap gap (behind_gaps-rename i ps)

  readable-rename : (o : Option (Cell N)) → readable_of (option_map (rename f) o) ≡ rename_in f (readable_of o)
  readable-rename None = refl
  readable-rename (Some (cell n (a_variant c) ps)) = behind_gaps-rename c ps
  readable-rename (Some (cell n k ps)) = refl

  pub read_at-rename : (p : Path) (ps : Parts N) → read_at p (rename_in f ps) ≡ option_map (rename f) (read_at p ps)
  read_at-rename [] ps = refl
  read_at-rename (i ∷ []) ps = part_at-rename i ps
  read_at-rename (i ∷ j ∷ p) ps = ap (λ o. read_at (j ∷ p) (readable_of o)) (part_at-rename i ps) ∙ ap (read_at (j ∷ p)) (readable-rename (part_at i ps)) ∙ read_at-rename (j ∷ p) (readable_of (part_at i ps))

  is_component-rename : (o : Option (Cell N)) (c : ℕ) → is_component (option_map (rename f) o) c ≡ is_component o c
  is_component-rename None c = refl
  is_component-rename (Some (cell n (a_variant d) ps)) c = refl
  is_component-rename (Some (cell n k ps)) c = refl

  pub tells-rename : (ps : Parts N) (g : Fact) → satisfies (rename_in f ps) g ≡ satisfies ps g
  tells-rename ps (init p) = has_value-rename ps p
  tells-rename ps (case p c) = ap (λ o. is_component o c) (read_at-rename p ps) ∙ is_component-rename (read_at p ps) c

  place-rename : (o : Option (Cell N)) (ps : Parts N) → rename_in f (place o ps) ≡ place (option_map (rename f) o) (rename_in f ps)
  place-rename None ps = refl
  place-rename (Some c) ps = refl

  pub set_part-rename : (i : ℕ) (o : Option (Cell N)) (ps : Parts N) → rename_in f (set_part i o ps) ≡ set_part i (option_map (rename f) o) (rename_in f ps)
  set_part-rename i o no_parts = refl
  set_part-rename zero o (gap ps) = place-rename o ps
  set_part-rename zero o (part c ps) = place-rename o ps
  set_part-rename (suc i) o (gap ps) = ap gap (set_part-rename i o ps)
  set_part-rename (suc i) o (part c ps) = ap (part (rename f c)) (set_part-rename i o ps)

  change_part-rename : (i : ℕ) (g : Cell N → Cell N) (h : Cell M → Cell M) → ((c : Cell N) → rename f (g c) ≡ h (rename f c)) → (ps : Parts N) → rename_in f (change_part i g ps) ≡ change_part i h (rename_in f ps)
  change_part-rename i g h e no_parts = refl
  change_part-rename zero g h e (gap ps) = refl
  change_part-rename zero g h e (part c ps) = ap (λ d. part d (rename_in f ps)) (e c)
  change_part-rename (suc i) g h e (gap ps) = ap gap (change_part-rename i g h e ps)
  change_part-rename (suc i) g h e (part c ps) = ap (part (rename f c)) (change_part-rename i g h e ps)

  change_inside-rename : (g : Parts N → Parts N) (h : Parts M → Parts M) → ((ps : Parts N) → rename_in f (g ps) ≡ h (rename_in f ps)) → (c : Cell N) → rename f (change_inside g c) ≡ change_inside h (rename f c)
  change_inside-rename g h e (cell n k ps) = ap (cell (f n) k) (rename-cond (opens k) (g ps) ps ∙ ap (λ qs. cond (opens k) qs (rename_in f ps)) (e ps))

  pub set_at-rename : (p : Path) (o : Option (Cell N)) (ps : Parts N) → rename_in f (set_at p o ps) ≡ set_at p (option_map (rename f) o) (rename_in f ps)
  set_at-rename [] o ps = refl
  set_at-rename (i ∷ []) o ps = set_part-rename i o ps
  set_at-rename (i ∷ j ∷ p) o ps = change_part-rename i (change_inside (set_at (j ∷ p) o)) (change_inside (set_at (j ∷ p) (option_map (rename f) o))) (change_inside-rename (set_at (j ∷ p) o) (set_at (j ∷ p) (option_map (rename f) o)) (set_at-rename (j ∷ p) o)) ps

  change_behind-rename : (i j : ℕ) (g : Cell N → Cell N) (h : Cell M → Cell M) → ((c : Cell N) → rename f (g c) ≡ h (rename f c)) → (ps : Parts N) → rename_in f (change_behind i j g ps) ≡ change_behind i j h (rename_in f ps)
  change_behind-rename zero j g h e ps = change_part-rename j g h e ps
  change_behind-rename (suc i) zero g h e ps = refl
  change_behind-rename (suc i) (suc j) g h e ps = change_behind-rename i j g h e ps

  change_readable-rename : (g : ℕ → Parts N → Parts N) (h : ℕ → Parts M → Parts M) → ((i : ℕ) (ps : Parts N) → rename_in f (g i ps) ≡ h i (rename_in f ps)) → (c : Cell N) → rename f (change_readable g c) ≡ change_readable h (rename f c)
  change_readable-rename g h e (cell n (a_variant c) ps) = ap (cell (f n) (a_variant c)) (e c ps)
  change_readable-rename g h e (cell n a_record ps) = ap (cell (f n) a_record) (e 0 ps)
  change_readable-rename g h e (cell n (a_callmessage caller call) ps) = ap (cell (f n) (a_callmessage caller call)) (e 0 ps)
  change_readable-rename g h e (cell n k ps) = refl

  change_from-rename : (p : Path) (g : Cell N → Cell N) (h : Cell M → Cell M) → ((c : Cell N) → rename f (g c) ≡ h (rename f c)) → (i : ℕ) (ps : Parts N) → rename_in f (change_from p g i ps) ≡ change_from p h i (rename_in f ps)
  change_from-rename [] g h e i ps = refl
  change_from-rename (j ∷ []) g h e i ps = change_behind-rename i j g h e ps
  change_from-rename (j ∷ k ∷ p) g h e i ps = change_behind-rename i j (change_readable (change_from (k ∷ p) g)) (change_readable (change_from (k ∷ p) h)) (change_readable-rename (change_from (k ∷ p) g) (change_from (k ∷ p) h) (change_from-rename (k ∷ p) g h e)) ps

  pub change_at-rename : (p : Path) (g : Cell N → Cell N) (h : Cell M → Cell M) → ((c : Cell N) → rename f (g c) ≡ h (rename f c)) → (ps : Parts N) → rename_in f (change_at p g ps) ≡ change_at p h (rename_in f ps)
  change_at-rename p g h e ps = change_from-rename p g h e 0 ps

  pub joined-rename : (ps qs : Parts N) → rename_in f (joined ps qs) ≡ joined (rename_in f ps) (rename_in f qs)
  joined-rename no_parts qs = refl
  joined-rename (gap ps) qs = ap gap (joined-rename ps qs)
  joined-rename (part c ps) qs = ap (part (rename f c)) (joined-rename ps qs)

  pub without_part-rename : (i : ℕ) (ps : Parts N) → rename_in f (without_part i ps) ≡ without_part i (rename_in f ps)
  without_part-rename i no_parts = refl
  without_part-rename zero (gap ps) = refl
  without_part-rename zero (part c ps) = refl
  without_part-rename (suc i) (gap ps) = ap gap (without_part-rename i ps)
  without_part-rename (suc i) (part c ps) = ap (part (rename f c)) (without_part-rename i ps)

  mutual
    pub names_of-rename : (c : Cell N) → names_of (rename f c) ≡ map f (names_of c)
    names_of-rename (cell n k ps) = ap (f n ∷◌) (names_in-rename ps)

    pub names_in-rename : (ps : Parts N) → names_in (rename_in f ps) ≡ map f (names_in ps)
    names_in-rename no_parts = refl
    names_in-rename (gap ps) = names_in-rename ps
    names_in-rename (part c ps) = ap₂ ◌++◌ (names_of-rename c) (names_in-rename ps) ∙ sym (map-append f (names_of c) (names_in ps))

  mutual
    pub count-rename : (c : Cell N) → count (rename f c) ≡ count c
    count-rename (cell n k ps) = ap suc (count_in-rename ps)

    pub count_in-rename : (ps : Parts N) → count_in (rename_in f ps) ≡ count_in ps
    count_in-rename no_parts = refl
    count_in-rename (gap ps) = count_in-rename ps
    count_in-rename (part c ps) = ap₂ ◌+◌ (count-rename c) (count_in-rename ps)

  own-rename : (b : Bool) (n : N) (rest : List M) (old : List N) → rest ≡ map f old → cond b [] (f n ∷ []) ++ rest ≡ map f (cond b [] (n ∷ []) ++ old)
  own-rename true n rest old e = e
  own-rename false n rest old e = ap (f n ∷◌) e

  mutual
    pub finalised-rename : (c : Cell N) → finalised (rename f c) ≡ map f (finalised c)
    finalised-rename (cell n k ps) = own-rename (waits k) n (finalised_in (rename_in f ps)) (finalised_in ps) (finalised_in-rename ps)

    pub finalised_in-rename : (ps : Parts N) → finalised_in (rename_in f ps) ≡ map f (finalised_in ps)
    finalised_in-rename no_parts = refl
    finalised_in-rename (gap ps) = finalised_in-rename ps
    finalised_in-rename (part c ps) = ap₂ ◌++◌ (finalised-rename c) (finalised_in-rename ps) ∙ sym (map-append f (finalised c) (finalised_in ps))

  item-rename : (b : Bool) (n : N) (k : Kind) (rest : List (Cell M)) (old : List (Cell N)) → rest ≡ map (rename f) old → cond b (cell (f n) k no_parts ∷ []) [] ++ rest ≡ map (rename f) (cond b (cell n k no_parts ∷ []) [] ++ old)
  item-rename true n k rest old e = ap (cell (f n) k no_parts ∷◌) e
  item-rename false n k rest old e = e

  mutual
    pub pending-rename : (c : Cell N) → pending (rename f c) ≡ map (rename f) (pending c)
    pending-rename (cell n k ps) = item-rename (waits k) n k (pending_in (rename_in f ps)) (pending_in ps) (pending_in-rename ps)

    pub pending_in-rename : (ps : Parts N) → pending_in (rename_in f ps) ≡ map (rename f) (pending_in ps)
    pending_in-rename no_parts = refl
    pending_in-rename (gap ps) = pending_in-rename ps
    pending_in-rename (part c ps) = ap₂ ◌++◌ (pending-rename c) (pending_in-rename ps) ∙ sym (map-append (rename f) (pending c) (pending_in ps))

  mutual
    pub polymorph_depth-rename : (c : Cell N) → polymorph_depth (rename f c) ≡ polymorph_depth c
    polymorph_depth-rename (cell n k ps) = ap (deeper k) (depth_in-rename ps)

    pub depth_in-rename : (ps : Parts N) → depth_in (rename_in f ps) ≡ depth_in ps
    depth_in-rename no_parts = refl
    depth_in-rename (gap ps) = depth_in-rename ps
    depth_in-rename (part c ps) = ap₂ max (polymorph_depth-rename c) (depth_in-rename ps)

  mutual
    pub text_of-rename : (c : Cell N) → text_of (rename f c) ≡ text_of c
    text_of-rename (cell n k ps) = ap (λ t. opening k ++ (t ++ closing k)) (parts_text-rename ps [])

    parts_text-rename : (ps : Parts N) (before : List ℕ) → parts_text (rename_in f ps) before ≡ parts_text ps before
    parts_text-rename no_parts before = refl
    parts_text-rename (gap ps) before = ap (λ t. before ++ (95 ∷ t)) (parts_text-rename ps (44 ∷ []))
    parts_text-rename (part c ps) before = ap₂ (λ t u. before ++ (t ++ u)) (text_of-rename c) (parts_text-rename ps (44 ∷ []))

  scalars_of-rename : (o : Option (Cell N)) → list_of scalars_of (option_map (rename f) o) ≡ list_of scalars_of o
  scalars_of-rename None = refl
  scalars_of-rename (Some (cell n (a_scalar s) ps)) = refl
  scalars_of-rename (Some (cell n k ps)) = refl

  pub key_of-rename : (key : List ℕ) (row : Cell N) → key_of key (rename f row) ≡ key_of key row
  key_of-rename [] row = refl
  key_of-rename (i ∷ key) row = ap₂ ◌++◌ (ap (λ ps. list_of scalars_of (part_at i ps)) (inside-rename (Some row)) ∙ ap (list_of scalars_of) (part_at-rename i (inside (Some row))) ∙ scalars_of-rename (part_at i (inside (Some row)))) (key_of-rename key row)

  pub has_key-rename : (key : List ℕ) (k : List Scalar) (ps : Parts N) → has_key key k (rename_in f ps) ≡ has_key key k ps
  has_key-rename key k no_parts = refl
  has_key-rename key k (gap ps) = has_key-rename key k ps
  has_key-rename key k (part c ps) = ap₂ ◌||◌ (ap (λ j. same_key j k) (key_of-rename key c)) (has_key-rename key k ps)

  pub place_of_key-rename : (key : List ℕ) (k : List Scalar) (ps : Parts N) → place_of_key key k (rename_in f ps) ≡ place_of_key key k ps
  place_of_key-rename key k no_parts = refl
  place_of_key-rename key k (gap ps) = ap (option_map suc) (place_of_key-rename key k ps)
  place_of_key-rename key k (part c ps) = ap₂ (λ j o. cond (same_key j k) (Some 0) (option_map suc o)) (key_of-rename key c) (place_of_key-rename key k ps)

  pub has_distinct_keys-rename : (key : List ℕ) (ps : Parts N) → has_distinct_keys key (rename_in f ps) ≡ has_distinct_keys key ps
  has_distinct_keys-rename key no_parts = refl
  has_distinct_keys-rename key (gap ps) = has_distinct_keys-rename key ps
  has_distinct_keys-rename key (part c ps) = ap₂ (λ a b. not a && b) (ap (λ j. has_key key j (rename_in f ps)) (key_of-rename key c) ∙ has_key-rename key (key_of key c) ps) (has_distinct_keys-rename key ps)

  pub size-rename : (ps : Parts N) → size (rename_in f ps) ≡ size ps
  size-rename no_parts = refl
  size-rename (gap ps) = ap suc (size-rename ps)
  size-rename (part c ps) = ap suc (size-rename ps)

  list_of_cell-rename : (o : Option (Cell N)) → list_of (λ c. c ∷ []) (option_map (rename f) o) ≡ map (rename f) (list_of (λ c. c ∷ []) o)
  list_of_cell-rename None = refl
  list_of_cell-rename (Some c) = refl

  pub cells_at-rename : (paths : List Path) (ps : Parts N) → cells_at paths (rename_in f ps) ≡ map (rename f) (cells_at paths ps)
  cells_at-rename [] ps = refl
  cells_at-rename (p ∷ paths) ps = ap₂ ◌++◌ (ap (list_of (λ c. c ∷ [])) (cell_at-rename p ps) ∙ list_of_cell-rename (cell_at p ps)) (cells_at-rename paths ps) ∙ sym (map-append (rename f) (list_of (λ c. c ∷ []) (cell_at p ps)) (cells_at paths ps))

  pub clear_all-rename : (paths : List Path) (ps : Parts N) → rename_in f (clear_all paths ps) ≡ clear_all paths (rename_in f ps)
  clear_all-rename [] ps = refl
  clear_all-rename (p ∷ paths) ps = clear_all-rename paths (set_at p None ps) ∙ ap (clear_all paths) (set_at-rename p None ps)

-- a copy does not depend on the names of what is copied
module _ {N M L : Type 0} (f : N → M) (name : ℕ → L) where
  mutual
    pub copy_from-rename : (s : ℕ) (c : Cell N) → copy_from name s (rename f c) ≡ copy_from name s c
    copy_from-rename s (cell n k ps) = ap (cell (name s) k) (copy_in-rename (suc s) ps)

    pub copy_in-rename : (s : ℕ) (ps : Parts N) → copy_in name s (rename_in f ps) ≡ copy_in name s ps
    copy_in-rename s no_parts = refl
    copy_in-rename s (gap ps) = ap gap (copy_in-rename s ps)
    copy_in-rename s (part c ps) = ap₂ part (copy_from-rename s c) (ap (λ m. copy_in name (s + m) (rename_in f ps)) (count-rename f c) ∙ copy_in-rename (s + count c) ps)

-- a copy renamed is a copy under the other names
module _ {N M L : Type 0} (name : ℕ → M) (f : M → L) where
  mutual
    pub rename-copy_from : (s : ℕ) (c : Cell N) → rename f (copy_from name s c) ≡ copy_from (λ i. f (name i)) s c
    rename-copy_from s (cell n k ps) = ap (cell (f (name s)) k) (rename-copy_in (suc s) ps)

    pub rename-copy_in : (s : ℕ) (ps : Parts N) → rename_in f (copy_in name s ps) ≡ copy_in (λ i. f (name i)) s ps
    rename-copy_in s no_parts = refl
    rename-copy_in s (gap ps) = ap gap (rename-copy_in s ps)
    rename-copy_in s (part c ps) = ap₂ part (rename-copy_from s c) (rename-copy_in (s + count c) ps)

-- a copy whose names say nothing is the value without names
module _ {N M : Type 0} (m : M) where
  mutual
    pub copy_from-constant : (s : ℕ) (c : Cell N) → copy_from (λ i. m) s c ≡ rename (λ n. m) c
    copy_from-constant s (cell n k ps) = ap (cell m k) (copy_in-constant (suc s) ps)

    pub copy_in-constant : (s : ℕ) (ps : Parts N) → copy_in (λ i. m) s ps ≡ rename_in (λ n. m) ps
    copy_in-constant s no_parts = refl
    copy_in-constant s (gap ps) = ap gap (copy_in-constant s ps)
    copy_in-constant s (part c ps) = ap₂ part (copy_from-constant s c) (copy_in-constant (s + count c) ps)
