-- Two moves of different processes at different places can be done in the other order, with the same stamps.
use Rattle.std.proofs.Common.{◌≡◌, ℕ, suc, max, ◌<◌, List, [], ◌∷◌, ◌++◌, Bool, true, false, cond, ◌||◌, ◌⊎◌, inl, inr, Some, None, length, refl, sym, ap, ap₂, ◌∙◌, arith, true≢false}
use Rattle.std.proofs.lemmas.Bool.{eqb-true}
use Rattle.std.specs.Prelude.{nat_eq, nat_lt, ◌&&◌}
use Rattle.herm_model.specs.Values.{Cell, Name}
use Rattle.herm_model.proofs.Options.{some-injective, none-not_some, map-some}
use Rattle.herm_journal.specs.Actions.{make_port, make_process, put, take, close, answer, hear}
use Rattle.herm_journal.specs.NextNumbers.{Book}
use Rattle.herm_journal.specs.PlaceStates.{PlaceState, after}
use Rattle.herm_journal.specs.Entries.{Place, book, same_place, Entry, recorded}
use Rattle.herm_journal.specs.Journals.{is_before}
use Rattle.herm_journal.specs.Stamps.{IsStampedFrom, clock_of_process, clock_of_place, is_maker_of, next_stamp}
use Rattle.herm_journal.proofs.Rising.{same-true}
use Rattle.herm_journal.specs.Messages.{CellReply, CellAction}
use Rattle.herm_system.specs.Sound.{IsNumbered}
use Rattle.herm_system.specs.Systems.{System, with_made, set_process, set_holding, holding_at, numbered_from_one}
use Rattle.herm_runs.proofs.SystemLedger.{processes-stay}
use Rattle.herm_runs.proofs.Numbered.{other-number, BookMoves, book-moves, process-counts, more-found_from_one, set-length_from_one}
use Rattle.herm_runs.proofs.Histories.{place-same, place-itself, get-other_from_one}
use Rattle.herm_runs.proofs.RunsOrdered.{maker-absent}
use Rattle.herm_runs.proofs.Ordered.{before-later, last-more}
use Rattle.herm_runs.proofs.order.Commuting.{no_growth, grown, changed, changes-commute, process-still, holding-still, unequal-numbers, unequal-places}
use Rattle.herm_runs.proofs.order.EntryMoves.{makes_more, IsMove, move-elsewhere}
use Rattle.herm_system.specs.Machines.{Machine, inport_of}

-- the tests by which an entry counts for a clock
abbrev pub counts_for : ℕ → Entry → Bool
counts_for p e = nat_eq e.process p || is_maker_of p e.action

-- two journals with the same clocks
abbrev SameClocks : List Entry → List Entry → Type 0
SameClocks a b = ((p : ℕ) → clock_of_process p a ≡ clock_of_process p b) × ((q : Place) → clock_of_place q a ≡ clock_of_place q b)

process-clock : (p : ℕ) (a : List Entry) (e : Entry) → clock_of_process p (a ++ e ∷ []) ≡ cond (counts_for p e) e.stamp (clock_of_process p a)
process-clock p a e = last-more (λ x. nat_eq x.process p || is_maker_of p x.action) 0 a e

place-clock : (q : Place) (a : List Entry) (e : Entry) → clock_of_place q (a ++ e ∷ []) ≡ cond (same_place e.place q) e.stamp (clock_of_place q a)
place-clock q a e = last-more (λ x. same_place x.place q) 0 a e

same-more : (a b : List Entry) (e : Entry) → SameClocks a b → SameClocks (a ++ e ∷ []) (b ++ e ∷ [])
same-more a b e k = (
  (λ p. process-clock p a e ∙ ap (cond (counts_for p e) e.stamp) (k.0 p) ∙ sym (process-clock p b e)),
  (λ q. place-clock q a e ∙ ap (cond (same_place e.place q) e.stamp) (k.1 q) ∙ sym (place-clock q b e)),
)

same-stamp : (a b : List Entry) (p : ℕ) (q : Place) → SameClocks a b → next_stamp a p q ≡ next_stamp b p q
same-stamp a b p q k = ap₂ (λ c d. suc (max c d)) (k.0 p) (k.1 q)

stamped-same : (es a b : List Entry) → SameClocks a b → IsStampedFrom a es → IsStampedFrom b es
stamped-same [] a b k s = tt
stamped-same (e ∷ es) a b k s = (s.0 ∙ same-stamp a b e.process e.place k, stamped-same es (a ++ e ∷ []) (b ++ e ∷ []) (same-more a b e k) s.1)

-- an entry that counts for neither clock leaves the next stamp as it is
stamp-elsewhere : (a : List Entry) (e : Entry) (p : ℕ) (q : Place) → counts_for p e ≡ false → same_place e.place q ≡ false → next_stamp (a ++ e ∷ []) p q ≡ next_stamp a p q
stamp-elsewhere a e p q no_process no_place =
    ap₂ (λ c d. suc (max c d)) (process-clock p a e ∙ ap (λ t. cond t e.stamp (clock_of_process p a)) no_process) (place-clock q a e ∙ ap (λ t. cond t e.stamp (clock_of_place q a)) no_place)

-- two entries of which not both count for a clock
swap-cond : (a b : Bool) (m n k : ℕ) → (a ≡ true → b ≡ true → ⊥) → cond b n (cond a m k) ≡ cond a m (cond b n k)
swap-cond true true m n k d = absurd (d refl refl)
swap-cond true false m n k d = refl
swap-cond false true m n k d = refl
swap-cond false false m n k d = refl

-- the second entry's clocks are those before the first, where it comes in the wrong order
module _ (a : List Entry) (e f : Entry) (stamped : f.stamp ≡ next_stamp (a ++ e ∷ []) f.process f.place) (wrong : is_before e f ≡ false) where
  not-later : e.stamp < f.stamp → ⊥
  not-later lt = true≢false (sym (before-later e f lt) ∙ wrong)

  pub other-process : counts_for f.process e ≡ false
  other-process = by_test (counts_for f.process e) refl
    where
      by_test : (t : Bool) → counts_for f.process e ≡ t → t ≡ false
      by_test true is =
          let clock = process-clock f.process a e ∙ ap (λ t. cond t e.stamp (clock_of_process f.process a)) is in
          absurd (not-later (omega (arith, stamped, clock)))
      by_test false is = refl

  pub other-place : same_place e.place f.place ≡ false
  other-place = by_test (same_place e.place f.place) refl
    where
      by_test : (t : Bool) → same_place e.place f.place ≡ t → t ≡ false
      by_test true is =
          let clock = place-clock f.place a e ∙ ap (λ t. cond t e.stamp (clock_of_place f.place a)) is in
          absurd (not-later (omega (arith, stamped, clock)))
      by_test false is = refl

either-true : (a b : Bool) → (a || b) ≡ true → (a ≡ true) ⊎ (b ≡ true)
either-true true b e = inl refl
either-true false b e = inr e

left-false : (a b : Bool) → (a || b) ≡ false → a ≡ false
left-false true b e = absurd (true≢false e)
left-false false b e = refl

right-false : (a b : Bool) → (a || b) ≡ false → b ≡ false
right-false true b e = absurd (true≢false e)
right-false false b e = e

pub processes-differ : (e f : Entry) → counts_for f.process e ≡ false → e.process ≡ f.process → ⊥
processes-differ e f e_not = other-number e.process f.process (left-false (nat_eq e.process f.process) (is_maker_of f.process e.action) e_not)

pub places-differ : (p q : Place) → same_place p q ≡ false → p ≡ q → ⊥
places-differ p q e same = true≢false (sym (ap (same_place p) (sym same) ∙ place-itself p) ∙ e)

maker-makes : (p : ℕ) (a : CellAction Name) → is_maker_of p (recorded a) ≡ true → makes_more a ≡ true
maker-makes p (make_process code (Some made)) e = refl
maker-makes p (make_process code None) e = refl
maker-makes p (make_port made) e = refl
maker-makes p (put number m) e = e
maker-makes p (take number m) e = e
maker-makes p (close count left) e = e
maker-makes p (answer call r) e = e
maker-makes p (hear call r) e = e

-- a process that is there behind an action was there, or the action made it
made-there : {P : Type 0} (machine : Machine Name P) (maker : P) (a : CellAction Name) (b c : Book) (s t : System P) (q : ℕ) (x : P) → BookMoves a b c → length s.processes ≡ b.processes → with_made machine maker a s ≡ Some t →
    numbered_from_one q t.processes ≡ Some x → (numbered_from_one q s.processes ≡ Some x) ⊎ (is_maker_of q (recorded a) ≡ true)
made-there machine maker (make_process code (Some made)) b c s t q x moves count e is =
    let counts = process-counts b (nat_lt b.processes b.limits.processes && nat_lt b.ports b.limits.ports) made moves.0 in
    let m = map-some _ (machine.begin code made.0 (inport_of machine made.1 maker)) t e in
    by_place counts.0 (more-found_from_one s.processes q _ x (ap (λ (u : System _). numbered_from_one q u.processes) m.2 ∙ is))
  where
    by_place : {Y : Type 0} → made.0 ≡ suc b.processes → ((q ≡ suc (length s.processes)) × Y) ⊎ (numbered_from_one q s.processes ≡ Some x) → (numbered_from_one q s.processes ≡ Some x) ⊎ (nat_eq made.0 q ≡ true)
    by_place next (inl k) = inr (ap (nat_eq made.0) (k.0 ∙ ap suc count ∙ sym next) ∙ same-true made.0)
    by_place next (inr k) = inl k
made-there machine maker (make_process code None) b c s t q x moves count e is = inl (ap (λ (u : System _). numbered_from_one q u.processes) (some-injective e) ∙ is)
made-there machine maker (make_port None) b c s t q x moves count e is = inl (ap (λ (u : System _). numbered_from_one q u.processes) (some-injective e) ∙ is)
made-there machine maker (make_port (Some n)) b c s t q x moves count e is = inl (ap (λ (u : System _). numbered_from_one q u.processes) (some-injective e) ∙ is)
made-there machine maker a b c s t q x moves count e is = inl (ap (λ (u : System _). numbered_from_one q u.processes) (some-injective e) ∙ is)

module _ {P : Type 0} (machine : Machine Name P) (limit : ℕ) where
  -- the process of another move was there before, where this one's action did not make it
  pub process-before : (e : Entry) (q : ℕ) (x : P) (s u : System P) → IsNumbered machine s → IsMove machine limit e s u → counts_for q e ≡ false → numbered_from_one q u.processes ≡ Some x → numbered_from_one q s.processes ≡ Some x
  process-before e q x s u k m unmade is =
      let h = after m.done m.held in
      let v = set_process e.process m.behind (set_holding e.place h s) in
      let stay = processes-stay e.place h s in
      let count = set-length_from_one e.process m.behind (set_holding e.place h s).processes ∙ ap length stay ∙ k.book.0 in
      let at_v : numbered_from_one q v.processes ≡ numbered_from_one q s.processes =
      get-other_from_one (set_holding e.place h s).processes e.process q m.behind (left-false (nat_eq e.process q) (is_maker_of q e.action) unmade) ∙ ap (numbered_from_one q) stay in
      by_place v at_v (made-there machine m.ready m.done s.book (set_holding e.place h s).book v (grown m.growth v) q x (book-moves m.want e.place s m.held m.done m.there m.does) count (m.grows v)
      (ap (λ (y : System _). numbered_from_one q y.processes) (sym m.leads) ∙ is))
    where
      by_place : (v : System P) → numbered_from_one q v.processes ≡ numbered_from_one q s.processes → (numbered_from_one q v.processes ≡ Some x) ⊎ (is_maker_of q (recorded m.done) ≡ true) → numbered_from_one q s.processes ≡ Some x
      by_place v at (inl there) = sym at ∙ there
      by_place v at (inr made) = absurd (true≢false (sym made ∙ ap (is_maker_of q) m.records ∙ right-false (nat_eq e.process q) (is_maker_of q e.action) unmade))

  -- a move does not make a process that is there
  not-maker : (e : Entry) (q : ℕ) (x : P) (s u : System P) → IsNumbered machine s → IsMove machine limit e s u → numbered_from_one q s.processes ≡ Some x → is_maker_of q e.action ≡ false
  not-maker e q x s u k m is = by_test (is_maker_of q e.action) refl
    where
      by_test : (t : Bool) → is_maker_of q e.action ≡ t → t ≡ false
      by_test true makes =
          let absent = maker-absent machine s m.done (set_holding e.place (after m.done m.held) s).book q k (book-moves m.want e.place s m.held m.done m.there m.does) (ap (is_maker_of q) m.records ∙ makes) in
          none-not_some (sym absent ∙ is)
      by_test false makes = refl

  one-grows : (e f : Entry) (s t u v : System P) (m : IsMove machine limit e s t) (n : IsMove machine limit f u v) → (e.place ≡ f.place → ⊥) → (m.growth ≡ no_growth) ⊎ (n.growth ≡ no_growth)
  one-grows e f s t u v m n d = by_places m.only n.only
    where
      by_places : (e.place ≡ book) ⊎ (m.growth ≡ no_growth) → (f.place ≡ book) ⊎ (n.growth ≡ no_growth) → (m.growth ≡ no_growth) ⊎ (n.growth ≡ no_growth)
      by_places (inl p) (inl q) = absurd (d (p ∙ sym q))
      by_places (inr p) o = inl p
      by_places o (inr q) = inr q

  -- not both make one process
  not-both : (e f : Entry) (s t u v : System P) → IsMove machine limit e s t → IsMove machine limit f u v → (e.place ≡ f.place → ⊥) → (p : ℕ) → is_maker_of p e.action ≡ true → is_maker_of p f.action ≡ true → ⊥
  not-both e f s t u v m n d p makes too = by_places m.makes n.makes
    where
      by_places : (e.place ≡ book) ⊎ (makes_more m.done ≡ false) → (f.place ≡ book) ⊎ (makes_more n.done ≡ false) → ⊥
      by_places (inl a) (inl b) = d (a ∙ sym b)
      by_places (inr a) o = true≢false (sym (maker-makes p m.done (ap (is_maker_of p) m.records ∙ makes)) ∙ a)
      by_places o (inr b) = true≢false (sym (maker-makes p n.done (ap (is_maker_of p) n.records ∙ too)) ∙ b)

  -- the two moves in the other order
  pub swap-moves : (e f : Entry) (s u v : System P) (x : P) (j : PlaceState (Cell Name) (CellReply Name)) → (e.process ≡ f.process → ⊥) → (e.place ≡ f.place → ⊥) → IsMove machine limit e s u → IsMove machine limit f u v →
      numbered_from_one f.process s.processes ≡ Some x → holding_at f.place s ≡ Some j → (w : System P) × IsMove machine limit f s w × IsMove machine limit e w v
  swap-moves e f s u v x j d g m n is at =
      let h = after m.done m.held in
      let k = after n.done n.held in
      let w = changed f.process n.behind f.place k n.growth s in
      let same_x : x ≡ n.before = some-injective (sym (ap (λ (y : System _). numbered_from_one f.process y.processes) m.leads ∙ process-still e.process f.process m.behind x e.place h m.growth s d is) ∙ n.is) in
      let same_j : j ≡ n.held = some-injective (sym (ap (holding_at f.place) m.leads ∙ holding-still e.process m.behind e.place f.place h j m.growth s g at) ∙ n.there) in (
        w,
        move-elsewhere machine limit f u v s w n n.count n.before (is ∙ ap (λ y. Some y) same_x) n.walks (at ∙ ap (λ y. Some y) same_j) refl,
        move-elsewhere machine limit e s u w v m m.count m.before (process-still f.process e.process n.behind m.before f.place k n.growth s (λ q. d (sym q)) m.is) m.walks
            (holding-still f.process n.behind f.place e.place k m.held n.growth s (λ q. g (sym q)) m.there)
            (n.leads ∙ ap (changed f.process n.behind f.place k n.growth) m.leads
            ∙ changes-commute e.process f.process m.behind n.behind m.before x e.place f.place h k m.held j m.growth n.growth s d g (one-grows e f s u u v m n g) m.is is m.there at),
      )

  -- the stamps of the two in the other order, and those behind them
  pub swap-stamps : (e f : Entry) (s u v w : System P) (a es : List Entry) → IsNumbered machine s → IsMove machine limit e s u → IsMove machine limit f u v → IsMove machine limit f s w → is_before e f ≡ false →
      IsStampedFrom a (e ∷ f ∷ es) → IsStampedFrom a (f ∷ e ∷ es)
  swap-stamps e f s u v w a es k m n n' wrong stamps =
      let process = other-process a e f stamps.1.0 wrong in
      let place = other-place a e f stamps.1.0 wrong in
      let apart = places-differ e.place f.place place in
      let process_apart = other-number e.process f.process (left-false (nat_eq e.process f.process) (is_maker_of f.process e.action) process) in
      let not_made = right-false (nat_eq e.process f.process) (is_maker_of f.process e.action) process in
      let not_maker = not-maker f e.process m.before s w k n' m.is in
      let back_process : counts_for e.process f ≡ false = ap₂ (λ s t. s || t) (unequal-numbers f.process e.process (λ q. process_apart (sym q))) not_maker in
      let back_place : same_place f.place e.place ≡ false = unequal-places f.place e.place (λ q. apart (sym q)) in (
        stamps.1.0 ∙ stamp-elsewhere a e f.process f.place process place,
        (
          stamps.0 ∙ sym (stamp-elsewhere a f e.process e.place back_process back_place),
          stamped-same es ((a ++ e ∷ []) ++ f ∷ []) ((a ++ f ∷ []) ++ e ∷ []) (
            (λ p. process-clock p (a ++ e ∷ []) f ∙ ap (cond (counts_for p f) f.stamp) (process-clock p a e)
                ∙ swap-cond (counts_for p e) (counts_for p f) e.stamp f.stamp (clock_of_process p a) (never process_apart apart not_made not_maker p)
                ∙ sym (process-clock p (a ++ f ∷ []) e ∙ ap (cond (counts_for p e) e.stamp) (process-clock p a f))),
            (λ q. place-clock q (a ++ e ∷ []) f ∙ ap (cond (same_place f.place q) f.stamp) (place-clock q a e)
                ∙ swap-cond (same_place e.place q) (same_place f.place q) e.stamp f.stamp (clock_of_place q a) (λ b c. apart (place-same e.place q b ∙ sym (place-same f.place q c)))
                ∙ sym (place-clock q (a ++ f ∷ []) e ∙ ap (cond (same_place e.place q) e.stamp) (place-clock q a f))),
          ) stamps.1.1,
        ),
      )
    where
      never : (e.process ≡ f.process → ⊥) → (e.place ≡ f.place → ⊥) → is_maker_of f.process e.action ≡ false → is_maker_of e.process f.action ≡ false → (p : ℕ) → counts_for p e ≡ true → counts_for p f ≡ true → ⊥
      never apart places not_made not_maker p b c = by_tests (either-true (nat_eq e.process p) (is_maker_of p e.action) b) (either-true (nat_eq f.process p) (is_maker_of p f.action) c)
        where
          by_tests : (nat_eq e.process p ≡ true) ⊎ (is_maker_of p e.action ≡ true) → (nat_eq f.process p ≡ true) ⊎ (is_maker_of p f.action ≡ true) → ⊥
          by_tests (inl x) (inl y) = apart (eqb-true e.process p x ∙ sym (eqb-true f.process p y))
          by_tests (inl x) (inr y) = true≢false (sym (ap (λ i. is_maker_of i f.action) (eqb-true e.process p x) ∙ y) ∙ not_maker)
          by_tests (inr x) (inl y) = true≢false (sym (ap (λ i. is_maker_of i e.action) (eqb-true f.process p y) ∙ x) ∙ not_made)
          by_tests (inr x) (inr y) = not-both e f s u u v m n places p x y
