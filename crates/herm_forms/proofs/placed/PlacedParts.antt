-- Parts whose cells have a property with the types of their places, and that the primitives on parts keep this.
use Rattle.std.proofs.Common.{◌≡◌, ℕ, zero, suc, ◌+◌, List, [], ◌∷◌, map, Bool, true, false, cond, Option, Some, None, refl, sym, ap, subst, ◌∙◌, true≢false}
use Rattle.std.specs.Prelude.{slice_get, IsTrue, ⊤}
use Rattle.herm_model.specs.Lists.{list_of}
use Rattle.herm_model.specs.Paths.{Path}
use Rattle.herm_model.specs.Types.{TypeTable, Shape, fields, cases, callmessage, Parameter, part_type, part_of, type_below}
use Rattle.herm_model.specs.Values.{Kind, a_record, a_variant, a_callmessage, Cell, cell, Parts, no_parts, gap, part, part_at, set_part, opens, inside, cell_at, change_inside, change_part, set_at, gaps, joined, behind_gaps, readable_of, read_at, change_behind, change_at}
use Rattle.herm_model.specs.CellNames.{count, copy_from, copy_in, rename, rename_in}
use Rattle.herm_model.specs.Tables.{without_part}
use Rattle.herm_model.proofs.Lists.{not_true, slice_get-map}
use Rattle.herm_model.proofs.Options.{none-not_some, some-injective}
use Rattle.herm_model.proofs.NothingThere.{none-there}
use Rattle.herm_model.proofs.Places.{read_below, read-below}
use Rattle.herm_model.proofs.ChangesThrough.{changed, from-behind}
use Rattle.herm_forms.proofs.forms.ReadTypes.{read-nothing}
use Rattle.herm_journal.specs.PartTypes.{PartTypes, each, all_of, part_types_at, is_kind_at, IsPlaced, ArePlaced}
use Rattle.herm_model.proofs.TypesBelow.{type_below-none}

-- the property says that the kind is one of the type
abbrev pub Agrees : TypeTable → (ℕ → Kind → Type 0) → Type 0
Agrees types P = (t : ℕ) (k : Kind) → P t k → IsTrue (is_kind_at (slice_get types t) k)

module _ (types : TypeTable) (P : ℕ → Kind → Type 0) (agrees : Agrees types P) where
  abbrev Is : {N : Type 0} → ℕ → Cell N → Type 0
  Is t c = IsPlaced types P t c

  abbrev Are : {N : Type 0} → PartTypes → Parts N → Type 0
  Are ts ps = ArePlaced types P ts ps

  -- the types of the parts of a record or callmessage
  record Opened (t : ℕ) (k : Kind) : Type 0 where
    types' : List ℕ
    parts : part_types_at (slice_get types t) k ≡ each types'
    steps : (i : ℕ) → part_of types (Some t) i ≡ slice_get types' i

  opened-shape : (t : ℕ) (k : Kind) → opens k ≡ true → (o : Option Shape) → slice_get types t ≡ o → IsTrue (is_kind_at o k) → Opened t k
  opened-shape t k is None e h = not_true h
  opened-shape t a_record is (Some (fields ts)) e h =
      record { types' = ts; parts = ap (λ o. part_types_at o a_record) e; steps = λ i. ap (λ (o : Option Shape). elim o [ None ↦ None | Some s ↦ part_type s i ]) e }
  opened-shape t (a_callmessage x y) is (Some (callmessage ps raises)) e h =
      record {
        types' = map (λ (p : Parameter). p.content) ps;
        parts = ap (λ o. part_types_at o (a_callmessage x y)) e;
        steps = λ i. ap (λ (o : Option Shape). elim o [ None ↦ None | Some s ↦ part_type s i ]) e ∙ sym (slice_get-map (λ (p : Parameter). p.content) ps i);
      }
  opened-shape t a_record is (Some s) e h = not_true h
  opened-shape t (a_callmessage x y) is (Some s) e h = not_true h
  opened-shape t k is (Some s) e h = absurd (true≢false (sym is))

  opened : (t : ℕ) (k : Kind) → opens k ≡ true → P t k → Opened t k
  opened t k is h = opened-shape t k is (slice_get types t) refl (agrees t k h)

  pub row-placed : {N : Type 0} (t i : ℕ) (ps : Parts N) (c : Cell N) → Are (all_of t) ps → part_at i ps ≡ Some c → Is t c
  row-placed t i no_parts c h at = none-not_some at
  row-placed t zero (gap ps) c h at = none-not_some at
  row-placed t zero (part d ps) c h at = subst (Is t) (some-injective at) h.0
  row-placed t (suc i) (gap ps) c h at = row-placed t i ps c h at
  row-placed t (suc i) (part d ps) c h at = row-placed t i ps c h.1 at

  -- a cell at a place of a list has a type there
  typed-there : {N : Type 0} (ts : List ℕ) (i : ℕ) (ps : Parts N) (c : Cell N) → Are (each ts) ps → part_at i ps ≡ Some c → (t : ℕ) × (slice_get ts i ≡ Some t) × Is t c
  typed-there ts i no_parts c h at = none-not_some at
  typed-there [] zero (gap ps) c h at = none-not_some at
  typed-there [] (suc i) (gap ps) c h at = typed-there [] i ps c h at
  typed-there [] i (part d ps) c h at = absurd h
  typed-there (u ∷ ts) zero (gap ps) c h at = none-not_some at
  typed-there (u ∷ ts) zero (part d ps) c h at = (u, refl, subst (Is u) (some-injective at) h.0)
  typed-there (u ∷ ts) (suc i) (gap ps) c h at = typed-there ts i ps c h at
  typed-there (u ∷ ts) (suc i) (part d ps) c h at = typed-there ts i ps c h.1 at

  pub part-placed : {N : Type 0} (ts : List ℕ) (i : ℕ) (ps : Parts N) (c : Cell N) (t : ℕ) → Are (each ts) ps → part_at i ps ≡ Some c → slice_get ts i ≡ Some t → Is t c
  part-placed ts i ps c t h at type = let x = typed-there ts i ps c h at in subst (λ t. Is t c) (some-injective (sym x.1 ∙ type)) x.2

  -- so of a cell at a path
  pub cell-typed : {N : Type 0} (ts : List ℕ) (i : ℕ) (q : Path) (ps : Parts N) (c : Cell N) → Are (each ts) ps → cell_at (i ∷ q) ps ≡ Some c → (t : ℕ) × (type_below types (slice_get ts i) q ≡ Some t) × Is t c
  cell-typed ts i [] ps c h at = typed-there ts i ps c h at
  cell-typed {N} ts i (j ∷ r) ps c h at = by (part_at i ps) refl at (λ us qs. cell-typed us j r qs c)
    where
      Found : Type 0
      Found = (t : ℕ) × (type_below types (part_of types (slice_get ts i) j) r ≡ Some t) × Is t c

      Again : Type 0
      Again = (us : List ℕ) (qs : Parts N) → Are (each us) qs → cell_at (j ∷ r) qs ≡ Some c → (t : ℕ) × (type_below types (slice_get us j) r ≡ Some t) × Is t c

      open' : (u : ℕ) (k : Kind) (qs : Parts N) → slice_get ts i ≡ Some u → P u k → Are (part_types_at (slice_get types u) k) qs → (b : Bool) → opens k ≡ b → cell_at (j ∷ r) (cond b qs no_parts) ≡ Some c → Again → Found
      open' u k qs there p h false is at again = none-not_some (sym (none-there (j ∷ r)) ∙ at)
      open' u k qs there p h true is at again =
          let o = opened u k is p in
          let x = again o.types' qs (subst (λ l. Are l qs) o.parts h) at in
          (x.0, ap (λ o. type_below types (part_of types o j) r) there ∙ ap (λ o. type_below types o r) (o.steps j) ∙ x.1, x.2)

      by : (d : Option (Cell N)) → part_at i ps ≡ d → cell_at (j ∷ r) (inside d) ≡ Some c → Again → Found
      by None e at again = none-not_some (sym (none-there (j ∷ r)) ∙ at)
      by (Some (cell n k qs)) e at again = let x = typed-there ts i ps (cell n k qs) h e in open' x.0 k qs x.1 x.2.0 x.2.1 (opens k) refl at again

  pub cell-placed : {N : Type 0} (ts : List ℕ) (i : ℕ) (q : Path) (ps : Parts N) (c : Cell N) (t : ℕ) → Are (each ts) ps → cell_at (i ∷ q) ps ≡ Some c → type_below types (slice_get ts i) q ≡ Some t → Is t c
  cell-placed ts i q ps c t h at type = let x = cell-typed ts i q ps c h at in subst (λ t. Is t c) (some-injective (sym x.1 ∙ type)) x.2

  -- What is set where a type is known is a cell with its property there.
  abbrev pub WhereSet : {N : Type 0} → Option ℕ → Option (Cell N) → Type 0
  WhereSet t None = ⊤
  WhereSet None (Some c) = ⊥
  WhereSet (Some t) (Some c) = Is t c

  set-placed_part : {N : Type 0} (ts : List ℕ) (i : ℕ) (o : Option (Cell N)) (ps : Parts N) → Are (each ts) ps → WhereSet (slice_get ts i) o → Are (each ts) (set_part i o ps)
  set-placed_part ts i o no_parts h w = h
  set-placed_part [] zero None (gap ps) h w = h
  set-placed_part [] zero (Some c) (gap ps) h w = absurd w
  set-placed_part [] (suc i) o (gap ps) h w = set-placed_part [] i o ps h w
  set-placed_part [] i o (part d ps) h w = absurd h
  set-placed_part (t ∷ ts) zero None (gap ps) h w = h
  set-placed_part (t ∷ ts) zero (Some c) (gap ps) h w = (w, h)
  set-placed_part (t ∷ ts) zero None (part d ps) h w = h.1
  set-placed_part (t ∷ ts) zero (Some c) (part d ps) h w = (w, h.1)
  set-placed_part (t ∷ ts) (suc i) o (gap ps) h w = set-placed_part ts i o ps h w
  set-placed_part (t ∷ ts) (suc i) o (part d ps) h w = (h.0, set-placed_part ts i o ps h.1 w)

  change-placed_part : {N : Type 0} (ts : List ℕ) (i : ℕ) (f : Cell N → Cell N) (ps : Parts N) → Are (each ts) ps → ((t : ℕ) (c : Cell N) → slice_get ts i ≡ Some t → Is t c → Is t (f c)) → Are (each ts) (change_part i f ps)
  change-placed_part ts i f no_parts h on = h
  change-placed_part [] zero f (gap ps) h on = h
  change-placed_part [] (suc i) f (gap ps) h on = change-placed_part [] i f ps h on
  change-placed_part [] i f (part d ps) h on = absurd h
  change-placed_part (t ∷ ts) zero f (gap ps) h on = h
  change-placed_part (t ∷ ts) zero f (part d ps) h on = (on t d refl h.0, h.1)
  change-placed_part (t ∷ ts) (suc i) f (gap ps) h on = change-placed_part ts i f ps h on
  change-placed_part (t ∷ ts) (suc i) f (part d ps) h on = (h.0, change-placed_part ts i f ps h.1 on)

  inside-placed : {N : Type 0} (f : Parts N → Parts N) (t : ℕ) (c : Cell N) → Is t c → ((us : List ℕ) (qs : Parts N) → ((i : ℕ) → part_of types (Some t) i ≡ slice_get us i) → Are (each us) qs → Are (each us) (f qs)) → Is t (change_inside f c)
  inside-placed {N} f t (cell n k qs) h on = (h.0, by (opens k) refl)
    where
      by : (b : Bool) → opens k ≡ b → Are (part_types_at (slice_get types t) k) (cond b (f qs) qs)
      by false is = h.1
      by true is =
          let o = opened t k is h.0 in
          subst (λ l. Are l (f qs)) (sym o.parts) (on o.types' qs o.steps (subst (λ l. Are l qs) o.parts h.1))

  pub set-placed : {N : Type 0} (ts : List ℕ) (i : ℕ) (q : Path) (o : Option (Cell N)) (ps : Parts N) → Are (each ts) ps → WhereSet (type_below types (slice_get ts i) q) o → Are (each ts) (set_at (i ∷ q) o ps)
  set-placed ts i [] o ps h w = set-placed_part ts i o ps h w
  set-placed {N} ts i (j ∷ r) o ps h w =
      change-placed_part ts i (change_inside (set_at (j ∷ r) o)) ps h
      (λ t c there placed. inside-placed (set_at (j ∷ r) o) t c placed
      (λ us qs steps are. set-placed us j r o qs are (subst (λ x. WhereSet x o) (ap (λ x. type_below types (part_of types x j) r) there ∙ ap (λ x. type_below types x r) (steps j)) w)))

  pub clear-placed : {N : Type 0} (ts : List ℕ) (p : Path) (ps : Parts N) → Are (each ts) ps → Are (each ts) (set_at p None ps)
  clear-placed ts [] ps h = h
  clear-placed {N} ts (i ∷ q) ps h = set-placed ts i q None ps h (by (type_below types (slice_get ts i) q))
    where
      by : (o : Option ℕ) → WhereSet {N = N} o None
      by None = tt
      by (Some t) = tt

  -- the component of a variant stands alone
  one-there : (j w : ℕ) (o : Option ℕ) → slice_get (list_of (λ t. t ∷ []) o) j ≡ Some w → (j ≡ 0) × (o ≡ Some w)
  one-there j w None e = none-not_some e
  one-there zero w (Some u) e = (refl, e)
  one-there (suc j) w (Some u) e = none-not_some e

  component-alone : {N : Type 0} (m j t : ℕ) (us : List ℕ) (qs : Parts N) (d : Cell N) → Are (each (list_of (λ t. t ∷ []) (slice_get us m))) qs → part_at j (behind_gaps m qs) ≡ Some d → slice_get us j ≡ Some t → Is t d
  component-alone zero j t us qs d h at type =
      let x = typed-there (list_of (λ t. t ∷ []) (slice_get us 0)) j qs d h at in
      let y = one-there j x.0 (slice_get us 0) x.1 in
      subst (λ t. Is t d) (some-injective (sym y.1 ∙ ap (slice_get us) (sym y.0) ∙ type)) x.2
  component-alone (suc m) zero t us qs d h at type = none-not_some at
  component-alone (suc m) (suc j) t [] qs d h at type = none-not_some type
  component-alone (suc m) (suc j) t (u ∷ us) qs d h at type = component-alone m j t us qs d h at type

  -- what is read may stand in a component
  variant-placed : {N : Type 0} (t m j u : ℕ) (qs : Parts N) (d : Cell N) (o : Option Shape) → IsTrue (is_kind_at o (a_variant m)) → Are (part_types_at o (a_variant m)) qs → part_at j (behind_gaps m qs) ≡ Some d
      → elim o [ None ↦ None | Some s ↦ part_type s j ] ≡ Some u → Is u d
  variant-placed t m j u qs d None h are at type = not_true h
  variant-placed t m j u qs d (Some (cases us)) h are at type = component-alone m j u us qs d are at type
  variant-placed t m j u qs d (Some s) h are at type = not_true h

  -- a part that is read has the type of its place, where this is known
  readable-placed : {N : Type 0} (t : ℕ) (c : Cell N) (j u : ℕ) (d : Cell N) → Is t c → part_at j (readable_of (Some c)) ≡ Some d → part_of types (Some t) j ≡ Some u → Is u d
  readable-placed t (cell n (a_variant m) qs) j u d h at type = variant-placed t m j u qs d (slice_get types t) (agrees t (a_variant m) h.0) h.1 at type
  readable-placed t (cell n a_record qs) j u d h at type =
      let o = opened t a_record refl h.0 in part-placed o.types' j qs d u (subst (λ l. Are l qs) o.parts h.1) at (sym (o.steps j) ∙ type)
  readable-placed t (cell n (a_callmessage x y) qs) j u d h at type =
      let o = opened t (a_callmessage x y) refl h.0 in part-placed o.types' j qs d u (subst (λ l. Are l qs) o.parts h.1) at (sym (o.steps j) ∙ type)
  readable-placed t (cell n k qs) j u d h at type = none-not_some at

  below-placed : {N : Type 0} (r : Path) (t u : ℕ) (c d : Cell N) → Is t c → read_below r (Some c) ≡ Some d → type_below types (Some t) r ≡ Some u → Is u d
  below-placed [] t u c d h at type = subst (λ t. Is t d) (some-injective type) (subst (Is t) (some-injective at) h)
  below-placed {N} (j ∷ r) t u c d h at type = by (part_at j (readable_of (Some c))) refl (sym (read-below j r (readable_of (Some c))) ∙ at) (part_of types (Some t) j) refl type (below-placed r)
    where
      by : (o : Option (Cell N)) → part_at j (readable_of (Some c)) ≡ o → read_below r o ≡ Some d → (v : Option ℕ) → part_of types (Some t) j ≡ v → type_below types v r ≡ Some u
          → ((t u : ℕ) (c d : Cell N) → Is t c → read_below r (Some c) ≡ Some d → type_below types (Some t) r ≡ Some u → Is u d) → Is u d
      by None e at v step type again = none-not_some (sym (read-nothing r) ∙ at)
      by (Some c') e at None step type again = none-not_some (sym (type_below-none types r) ∙ type)
      by (Some c') e at (Some v) step type again = again v u c' d (readable-placed t c j v c' h e step) at type

  pub read-placed : {N : Type 0} (ts : List ℕ) (i : ℕ) (q : Path) (ps : Parts N) (d : Cell N) (t : ℕ) → Are (each ts) ps → read_at (i ∷ q) ps ≡ Some d → type_below types (slice_get ts i) q ≡ Some t → Is t d
  read-placed {N} ts i q ps d t h at type = by (part_at i ps) refl (sym (read-below i q ps) ∙ at)
    where
      by : (o : Option (Cell N)) → part_at i ps ≡ o → read_below q o ≡ Some d → Is t d
      by None e at = none-not_some (sym (read-nothing q) ∙ at)
      by (Some c) e at = let x = typed-there ts i ps c h e in below-placed q x.0 t c d x.2 at (ap (λ o. type_below types o q) (sym x.1) ∙ type)

  -- rows
  pub joined-placed : {N : Type 0} (t : ℕ) (ps qs : Parts N) → Are (all_of t) ps → Are (all_of t) qs → Are (all_of t) (joined ps qs)
  joined-placed t no_parts qs h k = k
  joined-placed t (gap ps) qs h k = joined-placed t ps qs h k
  joined-placed t (part c ps) qs h k = (h.0, joined-placed t ps qs h.1 k)

  pub without-placed : {N : Type 0} (t i : ℕ) (ps : Parts N) → Are (all_of t) ps → Are (all_of t) (without_part i ps)
  without-placed t i no_parts h = h
  without-placed t zero (gap ps) h = h
  without-placed t zero (part c ps) h = h.1
  without-placed t (suc i) (gap ps) h = without-placed t i ps h
  without-placed t (suc i) (part c ps) h = (h.0, without-placed t i ps h.1)

  pub gaps-placed : (N : Type 0) (ts : List ℕ) (n : ℕ) → Are (each ts) (gaps {N = N} n)
  gaps-placed N [] zero = tt
  gaps-placed N (t ∷ ts) zero = tt
  gaps-placed N [] (suc n) = gaps-placed N [] n
  gaps-placed N (t ∷ ts) (suc n) = gaps-placed N ts n

  -- copies, and values without names
  mutual
    pub copy-placed : {N M : Type 0} (name : ℕ → M) (s t : ℕ) (c : Cell N) → Is t c → Is t (copy_from name s c)
    copy-placed name s t (cell n k ps) h = (h.0, copy-placed_in name (suc s) (part_types_at (slice_get types t) k) ps h.1)

    pub copy-placed_in : {N M : Type 0} (name : ℕ → M) (s : ℕ) (l : PartTypes) (ps : Parts N) → Are l ps → Are l (copy_in name s ps)
    copy-placed_in name s (each []) no_parts h = h
    copy-placed_in name s (each []) (gap ps) h = copy-placed_in name s (each []) ps h
    copy-placed_in name s (each []) (part c ps) h = absurd h
    copy-placed_in name s (each (t ∷ ts)) no_parts h = h
    copy-placed_in name s (each (t ∷ ts)) (gap ps) h = copy-placed_in name s (each ts) ps h
    copy-placed_in name s (each (t ∷ ts)) (part c ps) h = (copy-placed name s t c h.0, copy-placed_in name (s + count c) (each ts) ps h.1)
    copy-placed_in name s (all_of t) no_parts h = h
    copy-placed_in name s (all_of t) (gap ps) h = copy-placed_in name s (all_of t) ps h
    copy-placed_in name s (all_of t) (part c ps) h = (copy-placed name s t c h.0, copy-placed_in name (s + count c) (all_of t) ps h.1)

  mutual
    pub renamed-placed : {N M : Type 0} (f : N → M) (t : ℕ) (c : Cell N) → Is t c → Is t (rename f c)
    renamed-placed f t (cell n k ps) h = (h.0, renamed-placed_in f (part_types_at (slice_get types t) k) ps h.1)

    renamed-placed_in : {N M : Type 0} (f : N → M) (l : PartTypes) (ps : Parts N) → Are l ps → Are l (rename_in f ps)
    renamed-placed_in f (each []) no_parts h = h
    renamed-placed_in f (each []) (gap ps) h = renamed-placed_in f (each []) ps h
    renamed-placed_in f (each []) (part c ps) h = absurd h
    renamed-placed_in f (each (t ∷ ts)) no_parts h = h
    renamed-placed_in f (each (t ∷ ts)) (gap ps) h = renamed-placed_in f (each ts) ps h
    renamed-placed_in f (each (t ∷ ts)) (part c ps) h = (renamed-placed f t c h.0, renamed-placed_in f (each ts) ps h.1)
    renamed-placed_in f (all_of t) no_parts h = h
    renamed-placed_in f (all_of t) (gap ps) h = renamed-placed_in f (all_of t) ps h
    renamed-placed_in f (all_of t) (part c ps) h = (renamed-placed f t c h.0, renamed-placed_in f (all_of t) ps h.1)

  -- a change of what is read at a path, which keeps its place
  behind-placed : {N : Type 0} (m j : ℕ) (us : List ℕ) (g : Cell N → Cell N) (qs : Parts N) → Are (each (list_of (λ t. t ∷ []) (slice_get us m))) qs → ((w : ℕ) (c : Cell N) → slice_get us j ≡ Some w → Is w c → Is w (g c))
      → Are (each (list_of (λ t. t ∷ []) (slice_get us m))) (change_behind m j g qs)
  behind-placed zero j us g qs h on =
      change-placed_part (list_of (λ t. t ∷ []) (slice_get us 0)) j g qs h (λ w c there placed. let x = one-there j w (slice_get us 0) there in on w c (ap (slice_get us) x.0 ∙ x.1) placed)
  behind-placed (suc m) zero us g qs h on = h
  behind-placed (suc m) (suc j) [] g qs h on = behind-placed m j [] g qs h on
  behind-placed (suc m) (suc j) (u ∷ us) g qs h on = behind-placed m j us g qs h on

  module _ {N : Type 0} (f : Cell N → Cell N) (t : ℕ) (on : (c : Cell N) → Is t c → Is t (f c)) where
    abbrev Changes : Path → Type 0
    Changes r = (u : ℕ) (c : Cell N) → Is u c → type_below types (Some u) r ≡ Some t → Is u (changed r f c)

    variant-changed : (j : ℕ) (r : Path) → Changes r → (u : ℕ) (m : ℕ) (qs : Parts N) → (o : Option Shape) → slice_get types u ≡ o → IsTrue (is_kind_at o (a_variant m)) → Are (part_types_at o (a_variant m)) qs → type_below types (Some u) (j ∷ r) ≡ Some t
        → Are (part_types_at o (a_variant m)) (change_behind m j (changed r f) qs)
    variant-changed j r go u m qs None e h are type = not_true h
    variant-changed j r go u m qs (Some (cases us)) e h are type =
        behind-placed m j us (changed r f) qs are
        (λ w c there placed. go w c placed (ap (λ o. type_below types o r) (sym (ap (λ (o : Option Shape). elim o [ None ↦ None | Some s ↦ part_type s j ]) e ∙ there)) ∙ type))
    variant-changed j r go u m qs (Some s) e h are type = not_true h

    open-changed : (j : ℕ) (r : Path) → Changes r → (u : ℕ) (n : N) (k : Kind) (qs : Parts N) → Is u (cell n k qs) → type_below types (Some u) (j ∷ r) ≡ Some t → (b : Bool) → opens k ≡ b
        → Are (part_types_at (slice_get types u) k) (cond b (change_behind 0 j (changed r f) qs) qs)
    open-changed j r go u n k qs h type false is = h.1
    open-changed j r go u n k qs h type true is =
        let o = opened u k is h.0 in
        subst (λ l. Are l (change_behind 0 j (changed r f) qs)) (sym o.parts)
        (change-placed_part o.types' j (changed r f) qs (subst (λ l. Are l qs) o.parts h.1) (λ w c there placed. go w c placed (ap (λ o. type_below types o r) (sym (o.steps j ∙ there)) ∙ type)))

    changed-placed : (r : Path) → Changes r
    changed-placed [] u c h type = let same : t ≡ u = sym (some-injective type) in subst (λ u. Is u (f c)) same (on c (subst (λ u. Is u c) (sym same) h))
    changed-placed (j ∷ r) u (cell n (a_variant m) qs) h type =
        (h.0, subst (Are (part_types_at (slice_get types u) (a_variant m))) (sym (from-behind j r f m qs)) (variant-changed j r (changed-placed r) u m qs (slice_get types u) refl (agrees u (a_variant m) h.0) h.1 type))
    changed-placed (j ∷ r) u (cell n a_record qs) h type =
        (h.0, subst (Are (part_types_at (slice_get types u) a_record)) (sym (from-behind j r f 0 qs)) (open-changed j r (changed-placed r) u n a_record qs h type true refl))
    changed-placed (j ∷ r) u (cell n (a_callmessage x y) qs) h type =
        (h.0, subst (Are (part_types_at (slice_get types u) (a_callmessage x y))) (sym (from-behind j r f 0 qs)) (open-changed j r (changed-placed r) u n (a_callmessage x y) qs h type true refl))
    changed-placed (j ∷ r) u (cell n k qs) h type = h

    pub change-placed : (ts : List ℕ) (i : ℕ) (q : Path) (ps : Parts N) → Are (each ts) ps → type_below types (slice_get ts i) q ≡ Some t → Are (each ts) (change_at (i ∷ q) f ps)
    change-placed ts i q ps h type =
        subst (Are (each ts)) (sym (from-behind i q f 0 ps)) (change-placed_part ts i (changed q f) ps h (λ u c there placed. changed-placed q u c placed (ap (λ o. type_below types o q) (sym there) ∙ type)))
