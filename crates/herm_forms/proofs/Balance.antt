-- The equation of the ledger and of counts along the primitives of a body: what a body has made, and what it keeps and has in
-- hand. A cell that is made or ended takes what its kind weighs from what is in hand, or leaves it there.
use Rattle.std.proofs.Common.{◌≡◌, ℕ, zero, suc, ◌+◌, List, [], ◌∷◌, Bool, true, false, cond, Option, Some, None, refl, sym, arith}
use Rattle.herm_model.specs.Paths.{Path}
use Rattle.herm_model.specs.Outcomes.{Outcome}
use Rattle.herm_model.specs.Values.{has_place, Kind, kind_of, Cell, cell, Parts, cell_at, put_at}
use Rattle.herm_model.specs.CellNames.{count, count_in, copy_from, copy_in}
use Rattle.herm_model.specs.Finalising.{finalised, finalised_in, pending, pending_in}
use Rattle.herm_forms.specs.Frames.{Name, Frame, Completion, goes, stays, stuck, if_there, finalise, finalise_parts, finalise_old, finalise_all, finalise_name, finalise_at_once, cleared, drop_at, drop, taking, put, putting, putting_all, Taken, with_taken, take_all, making, copying, copying_parts}
use Rattle.herm_journal.specs.Weights.{weigh_serials}
use Rattle.herm_journal.specs.Kinds.{HasKinds, HaveKinds}
use Rattle.herm_forms.specs.Weights.{weight_made}
use Rattle.herm_model.proofs.Loads.{load, load_in, load_all, load_option}
use Rattle.herm_forms.proofs.Loads.{load_kept}
use Rattle.herm_model.proofs.Lists.{total-append}
use Rattle.herm_model.proofs.Options.{none-not_some}
use Rattle.herm_model.proofs.Loads.{SparesPlain, weigh-set_at, weigh-clear_at, weigh-finalised, weigh-finalised_in}
use Rattle.herm_forms.proofs.Weights.{Spares, weigh-copy, weigh-copy_in, weigh_serials-add}

module _ {N : Type 0} (w : N → ℕ) (extra : Kind → ℕ) (name : Name → N) where
  -- A body in balance with what was made and kept before: what it has made since is what it keeps more, with what it
  -- has in hand.
  abbrev pub Balanced : (made_before kept_before in_hand : ℕ) → Frame N → Type 0
  Balanced m k h b = weight_made w name b + k ≡ m + load_kept w extra b + h

  abbrev pub AllBalanced : (made_before kept_before in_hand : ℕ) → Completion N → Type 0
  AllBalanced m k h (goes o b) = Balanced m k h b
  AllBalanced m k h (stays b) = Balanced m k h b
  AllBalanced m k h stuck = Unit {0}

  weigh_serials-last : (serials : ℕ → N) (s n : ℕ) → weigh_serials w serials s (suc n) ≡ weigh_serials w serials s n + w (serials (s + n))
  weigh_serials-last serials s zero = let e : s + 0 ≡ s = omega arith in rw e (omega arith)
  weigh_serials-last serials s (suc n) = let e : s + suc n ≡ suc s + n = omega arith in rw e (omega (arith, weigh_serials-last serials (suc s) n))

  module _ (spares : SparesPlain extra) (m k : ℕ) where
    pub balanced-finalise : (h : ℕ) (c : Cell N) (b : Frame N) → Balanced m k (h + load w extra c) b → Balanced m k h (finalise c b)
    balanced-finalise h c b e = omega (arith, total-append (load w extra) b.work (pending c), total-append w b.finalised (finalised c), weigh-finalised w extra spares c)

    pub balanced-finalise_parts : (h : ℕ) (ps : Parts N) (b : Frame N) → Balanced m k (h + load_in w extra ps) b → Balanced m k h (finalise_parts ps b)
    balanced-finalise_parts h ps b e = omega (arith, total-append (load w extra) b.work (pending_in ps), total-append w b.finalised (finalised_in ps), weigh-finalised_in w extra spares ps)

    pub balanced-finalise_old : (h : ℕ) (o : Option (Cell N)) (b : Frame N) → Balanced m k (h + load_option w extra o) b → Balanced m k h (finalise_old o b)
    balanced-finalise_old h None b e = omega arith
    balanced-finalise_old h (Some c) b e = balanced-finalise h c b e

    pub balanced-finalise_all : (h : ℕ) (cs : List (Cell N)) (b : Frame N) → Balanced m k (h + load_all w extra cs) b → Balanced m k h (finalise_all cs b)
    balanced-finalise_all h [] b e = omega arith
    balanced-finalise_all h (c ∷ cs) b e = balanced-finalise_all h cs (finalise c b) (balanced-finalise (h + load_all w extra cs) c b (omega arith))

    pub balanced-end_name : (h : ℕ) (n : N) (b : Frame N) → Balanced m k (h + w n) b → Balanced m k h (finalise_name n b)
    balanced-end_name h n b e = omega (arith, total-append w b.finalised (n ∷ []))

    pub balanced-end_cell : (h : ℕ) (c : Cell N) (b : Frame N) → Balanced m k (h + load w extra c) b → Balanced m k (h + extra (kind_of c)) (finalise_at_once c b)
    balanced-end_cell h (cell n kind ps) b e = balanced-finalise_parts (h + extra kind) ps (finalise_name n b) (balanced-end_name (h + extra kind + load_in w extra ps) n b (omega arith))

    pub balanced-cleared : (h : ℕ) (p : Path) (b : Frame N) → Balanced m k h b → Balanced m k (h + load_option w extra (cell_at p b.variables)) (cleared p b)
    balanced-cleared h p b e = omega (arith, weigh-clear_at w extra p b.variables)

    pub balanced-drop_at : (h : ℕ) (p : Path) (b : Frame N) → Balanced m k h b → Balanced m k h (drop_at p b)
    balanced-drop_at h p b e = balanced-finalise_old h (cell_at p b.variables) (cleared p b) (balanced-cleared h p b e)

    pub balanced-drop : (h : ℕ) (paths : List Path) (b : Frame N) → Balanced m k h b → Balanced m k h (drop paths b)
    balanced-drop h [] b e = e
    balanced-drop h (p ∷ paths) b e = balanced-drop h paths (drop_at p b) (balanced-drop_at h p b e)

    pub balanced-put : (h : ℕ) (p : Path) (c : Cell N) (b : Frame N) → has_place b.variables p ≡ true → Balanced m k (h + load w extra c) b → Balanced m k h (put p c b)
    balanced-put h p c b there e =
        balanced-finalise_old h (cell_at p b.variables) (record b { variables = put_at p c b.variables }) (omega (arith, weigh-set_at w extra p (Some c) b.variables there))

    -- each combinator keeps the balance where what follows it does
    pub balanced-if_there : {X : Type 0} (h : ℕ) (next : X → Completion N) (o : Option X) → ((x : X) → o ≡ Some x → AllBalanced m k h (next x)) → AllBalanced m k h (if_there next o)
    balanced-if_there h next None on = tt
    balanced-if_there h next (Some x) on = on x refl

    pub balanced-cond : (h : ℕ) (t : Bool) (r s : Completion N) → (t ≡ true → AllBalanced m k h r) → (t ≡ false → AllBalanced m k h s) → AllBalanced m k h (cond t r s)
    balanced-cond h true r s yes' no' = yes' refl
    balanced-cond h false r s yes' no' = no' refl

    pub balanced-putting : (h : ℕ) (p : Path) (o : Outcome) (c : Cell N) (b : Frame N) → Balanced m k (h + load w extra c) b → AllBalanced m k h (putting p o c b)
    balanced-putting h p o c b e = balanced-cond h (has_place b.variables p) (goes o (put p c b)) stuck (λ there. balanced-put h p c b there e) (λ gone. tt)

    pub balanced-putting_all : (h : ℕ) (paths : List Path) (o : Outcome) (cs : List (Cell N)) (b : Frame N) → Balanced m k (h + load_all w extra cs) b → AllBalanced m k h (putting_all paths o cs b)
    balanced-putting_all h [] o [] b e = omega arith
    balanced-putting_all h [] o (c ∷ cs) b e = tt
    balanced-putting_all h (p ∷ paths) o [] b e = tt
    balanced-putting_all h (p ∷ paths) o (c ∷ cs) b e =
        balanced-cond h (has_place b.variables p) (putting_all paths o cs (put p c b)) stuck
        (λ there. balanced-putting_all h paths o cs (put p c b) (balanced-put (h + load_all w extra cs) p c b there (omega arith)))
        (λ gone. tt)

    pub balanced-taking : (h g : ℕ) (p : Path) (next : Cell N → Frame N → Completion N) (b : Frame N) → Balanced m k h b
        → ((c : Cell N) → cell_at p b.variables ≡ Some c → Balanced m k (h + load w extra c) (cleared p b) → AllBalanced m k g (next c (cleared p b)))
        → AllBalanced m k g (taking p next b)
    balanced-taking h g p next b e on =
        balanced-if_there g (λ c. next c (cleared p b)) (cell_at p b.variables)
        (λ c there. on c there (let cut = balanced-cleared h p b e in rw there at cut))

    pub balanced-made : (h : ℕ) (kind : Kind) (ps : Parts N) (b : Frame N) → Balanced m k (h + load_in w extra ps + extra kind) b
        → Balanced m k (h + load w extra (cell (name (b.number, b.serial)) kind ps)) (record b { serial = suc b.serial })
    balanced-made h kind ps b e =
        let more = weigh_serials-last (λ s. name (b.number, s)) 0 b.serial in
        let start : 0 + b.serial ≡ b.serial = omega arith in omega (arith, rw start at more)

    pub balanced-making : (h g : ℕ) (kind : Kind) (ps : Parts N) (next : Cell N → Frame N → Completion N) (b : Frame N) → Balanced m k (h + load_in w extra ps + extra kind) b
        → ((c : Cell N) (b' : Frame N) → Balanced m k (h + load w extra c) b' → AllBalanced m k g (next c b'))
        → AllBalanced m k g (making name kind ps next b)
    balanced-making h g kind ps next b e on =
        on (cell (name (b.number, b.serial)) kind ps) (record b { serial = suc b.serial }) (balanced-made h kind ps b e)

    took_more : (h : ℕ) (c : Cell N) (o : Option (Taken N)) (t : Taken N)
        → ((t : Taken N) → o ≡ Some t → Balanced m k (h + load w extra c + load_all w extra t.cells) t.frame)
        → with_taken c o ≡ Some t → Balanced m k (h + load_all w extra t.cells) t.frame
    took_more h c None t step is = none-not_some is
    took_more h c (Some t') t step is =
        let same : record { cells = c ∷ t'.cells; frame = t'.frame } ≡ t = cc is in
        let e = step t' refl in rw (sym same) (omega arith)

    took : (h : ℕ) (p : Path) (paths : List Path) (b : Frame N) (o : Option (Cell N)) (t : Taken N) → cell_at p b.variables ≡ o
        → ((t : Taken N) → take_all paths (cleared p b) ≡ Some t → Balanced m k (h + load_option w extra o + load_all w extra t.cells) t.frame)
        → elim o [ None ↦ None | Some c ↦ with_taken c (take_all paths (cleared p b)) ] ≡ Some t → Balanced m k (h + load_all w extra t.cells) t.frame
    took h p paths b None t there step is = none-not_some is
    took h p paths b (Some c) t there step is = took_more h c (take_all paths (cleared p b)) t step is

    pub balanced-take_all : (h : ℕ) (paths : List Path) (b : Frame N) (t : Taken N) → take_all paths b ≡ Some t → Balanced m k h b → Balanced m k (h + load_all w extra t.cells) t.frame
    balanced-take_all h [] b t is e = let same : record { cells = []; frame = b } ≡ t = cc is in rw (sym same) (omega arith)
    balanced-take_all h (p ∷ paths) b t is e =
        took h p paths b (cell_at p b.variables) t refl
        (λ t' is'. balanced-take_all (h + load_option w extra (cell_at p b.variables)) paths (cleared p b) t' is' (balanced-cleared h p b e)) is

    pub balanced-copying : {X : Type 0} (h g : ℕ) (c : Cell X) (next : Cell N → Frame N → Completion N) (b : Frame N) → HasKinds (Spares extra) c → Balanced m k h b
        → ((d : Cell N) (b' : Frame N) → Balanced m k (h + load w extra d) b' → AllBalanced m k g (next d b'))
        → AllBalanced m k g (copying name c next b)
    balanced-copying h g c next b kinds e on =
        on (copy_from (λ s. name (b.number, s)) b.serial c) (record b { serial = b.serial + count c })
        (let more = weigh_serials-add w (λ s. name (b.number, s)) 0 b.serial (count c) in
        let copied = weigh-copy w extra (λ s. name (b.number, s)) b.serial c kinds in
        let start : 0 + b.serial ≡ b.serial = omega arith in omega (arith, rw start at more))

    pub balanced-copied_parts : {X : Type 0} (h : ℕ) (ps : Parts X) (b : Frame N) → HaveKinds (Spares extra) ps → Balanced m k h b
        → Balanced m k (h + load_in w extra (copy_in (λ s. name (b.number, s)) b.serial ps)) (record b { serial = b.serial + count_in ps })
    balanced-copied_parts h ps b kinds e =
        let more = weigh_serials-add w (λ s. name (b.number, s)) 0 b.serial (count_in ps) in
        let copied = weigh-copy_in w extra (λ s. name (b.number, s)) b.serial ps kinds in
        let start : 0 + b.serial ≡ b.serial = omega arith in omega (arith, rw start at more)

    pub balanced-copying_parts : {X : Type 0} (h g : ℕ) (ps : Parts X) (next : Parts N → Frame N → Completion N) (b : Frame N) → HaveKinds (Spares extra) ps → Balanced m k h b
        → ((qs : Parts N) (b' : Frame N) → Balanced m k (h + load_in w extra qs) b' → AllBalanced m k g (next qs b'))
        → AllBalanced m k g (copying_parts name ps next b)
    balanced-copying_parts h g ps next b kinds e on =
        on (copy_in (λ s. name (b.number, s)) b.serial ps) (record b { serial = b.serial + count_in ps }) (balanced-copied_parts h ps b kinds e)
