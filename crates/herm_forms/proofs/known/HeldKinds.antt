-- Values whose cells are all of certain kinds, and that the primitives on parts keep this.
use Rattle.std.proofs.Common.{ℕ, zero, suc, ◌+◌, List, [], ◌∷◌, ◌++◌, Bool, true, false, cond, Option, Some, None}
use Rattle.herm_model.specs.Paths.{Path}
use Rattle.herm_model.specs.Values.{a_variant, Kind, Cell, cell, Parts, no_parts, gap, part, part_at, place, set_part, gaps, joined, opens, inside, cell_at, change_inside, change_part, set_at, behind_gaps, readable, readable_of, read_at, change_readable, change_behind, change_from, change_at, parts_of}
use Rattle.herm_model.specs.CellNames.{count, copy_from, copy_in, rename, rename_in}
use Rattle.herm_model.specs.Tables.{without_part}
use Rattle.herm_model.specs.Finalising.{waits, pending, pending_in}
use Rattle.herm_forms.specs.InsertForm.{with_parts}
use Rattle.herm_journal.specs.Kinds.{HasKinds, HaveKinds, AllKinds}

-- the same of a value that may be there
abbrev pub IfKinds : {N : Type 0} → (Kind → Type 0) → Option (Cell N) → Type 0
IfKinds of None = Unit {0}
IfKinds of (Some c) = HasKinds of c

module _ (of : Kind → Type 0) where
  pub all-append : {N : Type 0} (xs ys : List (Cell N)) → AllKinds of xs → AllKinds of ys → AllKinds of (xs ++ ys)
  all-append [] ys h k = k
  all-append (x ∷ xs) ys h k = (h.0, all-append xs ys h.1 k)

  -- what is at a path
  pub part-kinds : {N : Type 0} (i : ℕ) (ps : Parts N) → HaveKinds of ps → IfKinds of (part_at i ps)
  part-kinds i no_parts h = tt
  part-kinds zero (gap ps) h = tt
  part-kinds zero (part c ps) h = h.0
  part-kinds (suc i) (gap ps) h = part-kinds i ps h
  part-kinds (suc i) (part c ps) h = part-kinds i ps h.1

  if-parts : {N : Type 0} (b : Bool) (ps : Parts N) → HaveKinds of ps → HaveKinds of (cond b ps no_parts)
  if-parts true ps h = h
  if-parts false ps h = tt

  inside-kinds : {N : Type 0} (o : Option (Cell N)) → IfKinds of o → HaveKinds of (inside o)
  inside-kinds None h = tt
  inside-kinds (Some (cell n k ps)) h = if-parts (opens k) ps h.1

  pub cell-kinds : {N : Type 0} (p : Path) (ps : Parts N) → HaveKinds of ps → IfKinds of (cell_at p ps)
  cell-kinds [] ps h = tt
  cell-kinds (i ∷ []) ps h = part-kinds i ps h
  cell-kinds (i ∷ j ∷ p) ps h = cell-kinds (j ∷ p) (inside (part_at i ps)) (inside-kinds (part_at i ps) (part-kinds i ps h))

  gaps-before : {N : Type 0} (i : ℕ) (ps : Parts N) → HaveKinds of ps → HaveKinds of (behind_gaps i ps)
  gaps-before zero ps h = h
  gaps-before (suc i) ps h = gaps-before i ps h

  readable-kinds : {N : Type 0} (k : Kind) (ps : Parts N) → HaveKinds of ps → HaveKinds of (readable k ps)
  readable-kinds (a_variant c) ps h = gaps-before c ps h
  readable-kinds k ps h = if-parts (opens k) ps h

  readable-kinds_of : {N : Type 0} (o : Option (Cell N)) → IfKinds of o → HaveKinds of (readable_of o)
  readable-kinds_of None h = tt
  readable-kinds_of (Some (cell n k ps)) h = readable-kinds k ps h.1

  pub read-kinds : {N : Type 0} (p : Path) (ps : Parts N) → HaveKinds of ps → IfKinds of (read_at p ps)
  read-kinds [] ps h = tt
  read-kinds (i ∷ []) ps h = part-kinds i ps h
  read-kinds (i ∷ j ∷ p) ps h = read-kinds (j ∷ p) (readable_of (part_at i ps)) (readable-kinds_of (part_at i ps) (part-kinds i ps h))

  pub parts-kinds : {N : Type 0} (c : Cell N) → HasKinds of c → HaveKinds of (parts_of c)
  parts-kinds (cell n k ps) h = h.1

  -- parts that are changed
  place-kinds : {N : Type 0} (o : Option (Cell N)) (ps : Parts N) → IfKinds of o → HaveKinds of ps → HaveKinds of (place o ps)
  place-kinds None ps h k = k
  place-kinds (Some c) ps h k = (h, k)

  set-kinds : {N : Type 0} (i : ℕ) (o : Option (Cell N)) (ps : Parts N) → IfKinds of o → HaveKinds of ps → HaveKinds of (set_part i o ps)
  set-kinds i o no_parts h k = tt
  set-kinds zero o (gap ps) h k = place-kinds o ps h k
  set-kinds zero o (part c ps) h k = place-kinds o ps h k.1
  set-kinds (suc i) o (gap ps) h k = set-kinds i o ps h k
  set-kinds (suc i) o (part c ps) h k = (k.0, set-kinds i o ps h k.1)

  change-kinds : {N : Type 0} (i : ℕ) (f : Cell N → Cell N) (ps : Parts N) → ((c : Cell N) → HasKinds of c → HasKinds of (f c)) → HaveKinds of ps → HaveKinds of (change_part i f ps)
  change-kinds i f no_parts on k = tt
  change-kinds zero f (gap ps) on k = k
  change-kinds zero f (part c ps) on k = (on c k.0, k.1)
  change-kinds (suc i) f (gap ps) on k = change-kinds i f ps on k
  change-kinds (suc i) f (part c ps) on k = (k.0, change-kinds i f ps on k.1)

  either-parts : {N : Type 0} (b : Bool) (ps qs : Parts N) → HaveKinds of ps → HaveKinds of qs → HaveKinds of (cond b ps qs)
  either-parts true ps qs h k = h
  either-parts false ps qs h k = k

  inside-changed : {N : Type 0} (f : Parts N → Parts N) (c : Cell N) → ((ps : Parts N) → HaveKinds of ps → HaveKinds of (f ps)) → HasKinds of c → HasKinds of (change_inside f c)
  inside-changed f (cell n k ps) on h = (h.0, either-parts (opens k) (f ps) ps (on ps h.1) h.1)

  pub set-kinds_at : {N : Type 0} (p : Path) (o : Option (Cell N)) (ps : Parts N) → IfKinds of o → HaveKinds of ps → HaveKinds of (set_at p o ps)
  set-kinds_at [] o ps h k = k
  set-kinds_at (i ∷ []) o ps h k = set-kinds i o ps h k
  set-kinds_at (i ∷ j ∷ p) o ps h k = change-kinds i (change_inside (set_at (j ∷ p) o)) ps (λ c. inside-changed (set_at (j ∷ p) o) c (λ qs. set-kinds_at (j ∷ p) o qs h)) k

  readable-changed : {N : Type 0} (f : ℕ → Parts N → Parts N) (c : Cell N) → ((i : ℕ) (ps : Parts N) → HaveKinds of ps → HaveKinds of (f i ps)) → HasKinds of c → HasKinds of (change_readable f c)
  readable-changed f (cell n (a_variant c) ps) on h = (h.0, on c ps h.1)
  readable-changed f (cell n k ps) on h = (h.0, either-parts (opens k) (f 0 ps) ps (on 0 ps h.1) h.1)

  behind-changed : {N : Type 0} (i j : ℕ) (f : Cell N → Cell N) (ps : Parts N) → ((c : Cell N) → HasKinds of c → HasKinds of (f c)) → HaveKinds of ps → HaveKinds of (change_behind i j f ps)
  behind-changed zero j f ps on k = change-kinds j f ps on k
  behind-changed (suc i) zero f ps on k = k
  behind-changed (suc i) (suc j) f ps on k = behind-changed i j f ps on k

  from-changed : {N : Type 0} (p : Path) (f : Cell N → Cell N) (i : ℕ) (ps : Parts N) → ((c : Cell N) → HasKinds of c → HasKinds of (f c)) → HaveKinds of ps → HaveKinds of (change_from p f i ps)
  from-changed [] f i ps on k = k
  from-changed (j ∷ []) f i ps on k = behind-changed i j f ps on k
  from-changed (j ∷ l ∷ p) f i ps on k = behind-changed i j (change_readable (change_from (l ∷ p) f)) ps (λ c. readable-changed (change_from (l ∷ p) f) c (λ m qs. from-changed (l ∷ p) f m qs on)) k

  pub change-kinds_at : {N : Type 0} (p : Path) (f : Cell N → Cell N) (ps : Parts N) → ((c : Cell N) → HasKinds of c → HasKinds of (f c)) → HaveKinds of ps → HaveKinds of (change_at p f ps)
  change-kinds_at p f ps on k = from-changed p f 0 ps on k

  pub with-kinds : {N : Type 0} (f : Parts N → Parts N) (c : Cell N) → ((ps : Parts N) → HaveKinds of ps → HaveKinds of (f ps)) → HasKinds of c → HasKinds of (with_parts f c)
  with-kinds f (cell n k ps) on h = (h.0, on ps h.1)

  pub joined-kinds : {N : Type 0} (ps qs : Parts N) → HaveKinds of ps → HaveKinds of qs → HaveKinds of (joined ps qs)
  joined-kinds no_parts qs h k = k
  joined-kinds (gap ps) qs h k = joined-kinds ps qs h k
  joined-kinds (part c ps) qs h k = (h.0, joined-kinds ps qs h.1 k)

  pub without-kinds : {N : Type 0} (i : ℕ) (ps : Parts N) → HaveKinds of ps → HaveKinds of (without_part i ps)
  without-kinds i no_parts h = tt
  without-kinds zero (gap ps) h = h
  without-kinds zero (part c ps) h = h.1
  without-kinds (suc i) (gap ps) h = without-kinds i ps h
  without-kinds (suc i) (part c ps) h = (h.0, without-kinds i ps h.1)

  pub gaps-kinds : (N : Type 0) (n : ℕ) → HaveKinds of (gaps {N = N} n)
  gaps-kinds N zero = tt
  gaps-kinds N (suc n) = gaps-kinds N n

  -- copies, values without names, and what waits to be finalised
  mutual
    pub copy-kinds : {N M : Type 0} (name : ℕ → M) (s : ℕ) (c : Cell N) → HasKinds of c → HasKinds of (copy_from name s c)
    copy-kinds name s (cell n k ps) h = (h.0, copy-kinds_in name (suc s) ps h.1)

    pub copy-kinds_in : {N M : Type 0} (name : ℕ → M) (s : ℕ) (ps : Parts N) → HaveKinds of ps → HaveKinds of (copy_in name s ps)
    copy-kinds_in name s no_parts h = tt
    copy-kinds_in name s (gap ps) h = copy-kinds_in name s ps h
    copy-kinds_in name s (part c ps) h = (copy-kinds name s c h.0, copy-kinds_in name (s + count c) ps h.1)

  mutual
    pub renamed-kinds : {N M : Type 0} (f : N → M) (c : Cell N) → HasKinds of c → HasKinds of (rename f c)
    renamed-kinds f (cell n k ps) h = (h.0, renamed-kinds_in f ps h.1)

    pub renamed-kinds_in : {N M : Type 0} (f : N → M) (ps : Parts N) → HaveKinds of ps → HaveKinds of (rename_in f ps)
    renamed-kinds_in f no_parts h = tt
    renamed-kinds_in f (gap ps) h = renamed-kinds_in f ps h
    renamed-kinds_in f (part c ps) h = (renamed-kinds f c h.0, renamed-kinds_in f ps h.1)

  if-cell : {N : Type 0} (b : Bool) (n : N) (k : Kind) → of k → AllKinds of (cond b (cell n k no_parts ∷ []) [])
  if-cell true n k h = ((h, tt), tt)
  if-cell false n k h = tt

  mutual
    pub pending-kinds : {N : Type 0} (c : Cell N) → HasKinds of c → AllKinds of (pending c)
    pending-kinds (cell n k ps) h = all-append (cond (waits k) (cell n k no_parts ∷ []) []) (pending_in ps) (if-cell (waits k) n k h.0) (pending-kinds_in ps h.1)

    pub pending-kinds_in : {N : Type 0} (ps : Parts N) → HaveKinds of ps → AllKinds of (pending_in ps)
    pending-kinds_in no_parts h = tt
    pending-kinds_in (gap ps) h = pending-kinds_in ps h
    pending-kinds_in (part c ps) h = all-append (pending c) (pending_in ps) (pending-kinds c h.0) (pending-kinds_in ps h.1)
