-- The numbers that are reported, and the queues, are those of the system that a world holds.
use Rattle.std.proofs.Common.{◌≡◌, ℕ, zero, suc, ◌+◌, List, [], ◌∷◌, map, length, filter, Bool, true, false, cond, Some, refl, sym, ap, ap₂, ◌∙◌, arith}
use Rattle.std.specs.Prelude.{slice_get, ⊤}
use Rattle.herm_model.specs.Lists.{numbered, total}
use Rattle.herm_model.specs.Values.{Cell}
use Rattle.herm_model.specs.ValueTexts.{text_of}
use Rattle.herm_journal.specs.Entries.{Text}
use Rattle.herm_journal.specs.Messages.{CellReply}
use Rattle.herm_journal.specs.PlaceStates.{Replies}
use Rattle.herm_journal.specs.Ports.{Port, left_in}
use Rattle.herm_journal.specs.Weights.{weigh_all, weigh_reply}
use Rattle.herm_instructions.specs.Images.{Image}
use Rattle.herm_system.specs.Ledger.{held_by}
use Rattle.herm_system.specs.ProcessFates.{Fate, has_ended, is_waiting, is_stopped}
use Rattle.herm_system.specs.Summary.{Counts, cut, how_many}
use Rattle.herm_code_machine.specs.CodeStates.{CodeState}
use Rattle.herm_code_worlds.specs.CodeWorlds.{nameless}
use Rattle.herm_waking.specs.AddedCounts.{added}
use Rattle.herm_waking.specs.Unnamed.{Unnamed}
use Rattle.herm_waking.specs.UnnamedReport.{bare_counts, bare_fates, bare_queues, each_one}
use Rattle.herm_values.specs.View.{value_view}
use Rattle.herm_values.specs.declared.value.Value.{Value}
use Rattle.herm_letters.specs.View.{reply_view}
use Rattle.herm_letters.specs.declared.reply.Reply.{Reply}
use Rattle.herm_queue.specs.CellStates.{value_text}
use Rattle.herm_queue.specs.PortStates.{PortState}
use Rattle.herm_queue.specs.ReplyStates.{ReplyState}
use Rattle.herm_process.specs.Processes.{ProcessState, IsProcess}
use Rattle.herm_gather.specs.Gathered.{gathered}
use Rattle.herm_gather.specs.declared.counting.PortCounts.{PortCounts}
use Rattle.herm_gather.specs.declared.counting.ProcCounts.{ProcCounts}
use Rattle.herm_world.specs.Places.{Places, port_seen, replies_seen}
use Rattle.herm_world.specs.Reported.{AreCountsOf, CountsAs, left_queue, port_counts, reply_cells}
use Rattle.herm_world.specs.Worlds.{AreAlike}

-- sums of what a list makes of another
total-map : {X Y : Type 0} (f : Y → ℕ) (g : X → Y) (xs : List X) → total f (map g xs) ≡ total (λ x. f (g x)) xs
total-map f g [] = refl
total-map f g (x ∷ xs) = ap (λ n. f (g x) + n) (total-map f g xs)

added-map : {X Y : Type 0} (f : Y → ℕ) (g : X → Y) (xs : List X) → added f (map g xs) ≡ added (λ x. f (g x)) xs
added-map f g [] = refl
added-map f g (x ∷ xs) = ap (λ n. cut (f (g x) + n)) (added-map f g xs)

added-same : {X : Type 0} (f g : X → ℕ) → ((x : X) → f x ≡ g x) → (xs : List X) → added f xs ≡ added g xs
added-same f g same [] = refl
added-same f g same (x ∷ xs) = ap₂ (λ a n. cut (a + n)) (same x) (added-same f g same xs)

how-many-next : {X : Type 0} (test : X → Bool) (x : X) (xs : List X) → how_many test (x ∷ xs) ≡ cond (test x) 1 0 + how_many test xs
how-many-next {X} test x xs = by (test x)
  where
    by : (b : Bool) → length (cond b (x ∷ filter test xs) (filter test xs)) ≡ cond b 1 0 + length (filter test xs)
    by true = omega arith
    by false = omega arith

how-many-map : {X Y : Type 0} (test : Y → Bool) (g : X → Y) (xs : List X) → how_many test (map g xs) ≡ how_many (λ x. test (g x)) xs
how-many-map test g [] = refl
how-many-map test g (x ∷ xs) = how-many-next test (g x) (map g xs) ∙ ap (λ n. cond (test (g x)) 1 0 + n) (how-many-map test g xs) ∙ sym (how-many-next (λ x. test (g x)) x xs)

long-map : {X Y : Type 0} (g : X → Y) (xs : List X) → length (map g xs) ≡ length xs
long-map g [] = refl
long-map g (x ∷ xs) = ap suc (long-map g xs)

-- the messages of a port between values of the language
left-seen : (queue : List (ℕ × Value)) → map (λ (m : ℕ × Value). value_view m.1) queue ≡ map (λ (m : ℕ × Cell ⊤). m.1) (map (λ (m : ℕ × Value). (m.0, value_view m.1)) queue)
left-seen [] = refl
left-seen (m ∷ queue) = ap (value_view m.1 ∷◌) (left-seen queue)

texts-seen : (queue : List (ℕ × Value)) → map (λ (m : ℕ × Value). value_text m.1) queue ≡ map text_of (map (λ (m : ℕ × Cell ⊤). m.1) (map (λ (m : ℕ × Value). (m.0, value_view m.1)) queue))
texts-seen [] = refl
texts-seen (m ∷ queue) = ap (value_text m.1 ∷◌) (texts-seen queue)

module _ (image : Image) (main : ℕ) where
  abbrev CountAlike : List ProcCounts → List (CodeState ⊤) → Type 0
  CountAlike ts xs = AreAlike (λ t x. CountsAs (nameless image main) x t) ts xs

  counted : (ps : List ProcessState) (xs : List (CodeState ⊤)) (ts : List ProcCounts) → AreAlike (IsProcess image main) ps xs → AreAlike AreCountsOf ps ts → CountAlike ts xs
  counted [] [] [] stand are = tt
  counted [] [] (t ∷ ts) stand are = absurd are
  counted [] (x ∷ xs) ts stand are = absurd stand
  counted (p ∷ ps) [] ts stand are = absurd stand
  counted (p ∷ ps) (x ∷ xs) [] stand are = absurd are
  counted (p ∷ ps) (x ∷ xs) (t ∷ ts) stand are = (are.0 image main x stand.0, counted ps xs ts stand.1 are.1)

  total-alike : (f : ProcCounts → ℕ) (g : CodeState ⊤ → ℕ) → ((t : ProcCounts) (x : CodeState ⊤) → CountsAs (nameless image main) x t → f t ≡ g x) → (ts : List ProcCounts) (xs : List (CodeState ⊤)) → CountAlike ts xs → total f ts ≡ total g xs
  total-alike f g same [] [] are = refl
  total-alike f g same [] (x ∷ xs) are = absurd are
  total-alike f g same (t ∷ ts) [] are = absurd are
  total-alike f g same (t ∷ ts) (x ∷ xs) are = ap₂ ◌+◌ (same t x are.0) (total-alike f g same ts xs are.1)

  added-alike : (f : ProcCounts → ℕ) (g : CodeState ⊤ → ℕ) → ((t : ProcCounts) (x : CodeState ⊤) → CountsAs (nameless image main) x t → f t ≡ g x) → (ts : List ProcCounts) (xs : List (CodeState ⊤)) → CountAlike ts xs → added f ts ≡ added g xs
  added-alike f g same [] [] are = refl
  added-alike f g same [] (x ∷ xs) are = absurd are
  added-alike f g same (t ∷ ts) [] are = absurd are
  added-alike f g same (t ∷ ts) (x ∷ xs) are = ap₂ (λ a n. cut (a + n)) (same t x are.0) (added-alike f g same ts xs are.1)

  long-alike : (ts : List ProcCounts) (xs : List (CodeState ⊤)) → CountAlike ts xs → length ts ≡ length xs
  long-alike [] [] are = refl
  long-alike [] (x ∷ xs) are = absurd are
  long-alike (t ∷ ts) [] are = absurd are
  long-alike (t ∷ ts) (x ∷ xs) are = ap suc (long-alike ts xs are.1)

  -- each number on its own
  module _ (ps : List ProcessState) (ports : List PortState) (replies : List ReplyState) (v : Unnamed (CodeState ⊤)) (ts : List ProcCounts) (ends : List Fate)
      (stand : AreAlike (IsProcess image main) ps v.processes) (are : AreAlike AreCountsOf ps ts) (its_ports : map port_seen ports ≡ v.ports) (its_replies : map replies_seen replies ≡ v.replies) (its_ends : ends ≡ bare_fates (nameless image main) v) where
    as-counted : CountAlike ts v.processes
    as-counted = counted ps v.processes ts stand are

    at-ports : added (λ (p : PortCounts). p.cells) (map port_counts ports) ≡ added (λ (p : Port (Cell ⊤)). cut (weigh_all each_one (left_in p))) v.ports
    at-ports =
        added-map (λ (p : PortCounts). p.cells) port_counts ports
        ∙ added-same (λ p. (port_counts p).cells) (λ p. cut (weigh_all each_one (left_in (port_seen p)))) (λ p. ap (λ cs. cut (weigh_all each_one cs)) (left-seen p.held.queue)) ports
        ∙ sym (added-map (λ (p : Port (Cell ⊤)). cut (weigh_all each_one (left_in p))) port_seen ports) ∙ ap (added (λ (p : Port (Cell ⊤)). cut (weigh_all each_one (left_in p)))) its_ports

    abbrev waiting_cells : Replies (CellReply ⊤) → ℕ
    waiting_cells rs = cut (total (λ (r : ℕ × CellReply ⊤). weigh_reply each_one r.1) rs)

    as-replies : added (λ (n : ℕ). n) (map reply_cells replies) ≡ added waiting_cells v.replies
    as-replies =
        added-map (λ (n : ℕ). n) reply_cells replies
        ∙ added-same reply_cells (λ r. waiting_cells (replies_seen r)) (λ r. ap cut (sym (total-map (λ (r : ℕ × CellReply ⊤). weigh_reply each_one r.1) (λ (r : ℕ × Reply). (r.0, reply_view r.1)) r.waiting))) replies
        ∙ sym (added-map waiting_cells replies_seen replies) ∙ ap (added waiting_cells) its_replies

    open-ports : how_many (λ (p : PortCounts). p.is_open) (map port_counts ports) ≡ how_many (λ (p : Port (Cell ⊤)). p.is_open) v.ports
    open-ports =
        how-many-map (λ (p : PortCounts). p.is_open) port_counts ports ∙ sym (how-many-map (λ (p : Port (Cell ⊤)). p.is_open) port_seen ports) ∙ ap (how_many (λ (p : Port (Cell ⊤)). p.is_open)) its_ports

    many-ports : length (map port_counts ports) ≡ length v.ports
    many-ports = long-map port_counts ports ∙ sym (long-map port_seen ports) ∙ ap length its_ports

    all-same : (a a' b b' c c' d d' e e' f f' g g' h h' i i' j j' k k' l l' : ℕ) → a ≡ a' → b ≡ b' → c ≡ c' → d ≡ d' → e ≡ e' → f ≡ f' → g ≡ g' → h ≡ h' → i ≡ i' → j ≡ j' → k ≡ k' → l ≡ l'
        → (Rattle.std.proofs.Common.◌≡◌ {A = Counts} (record { processes = a; ended = b; waiting = c; stopped = d; ports = e; unclosed = f; steps = g; actions = h; made = i; held = j; queued = k; finalised = l })
        (record { processes = a'; ended = b'; waiting = c'; stopped = d'; ports = e'; unclosed = f'; steps = g'; actions = h'; made = i'; held = j'; queued = k'; finalised = l' }))
    all-same a a' b b' c c' d d' e e' f f' g g' h h' i i' j j' k k' l l' pa pb pc pd pe pf pg ph pi pj pk pl =
        λ z. record { processes = pa z; ended = pb z; waiting = pc z; stopped = pd z; ports = pe z; unclosed = pf z; steps = pg z; actions = ph z; made = pi z; held = pj z; queued = pk z; finalised = pl z }

    pub numbers-are : gathered ends ts (map port_counts ports) (map reply_cells replies) ≡ bare_counts (nameless image main) v
    numbers-are =
        all-same _ _ _ _ _ _ _ _ _ _ _ _ _ _ _ _ _ _ _ _ _ _ _ _
        (long-alike ts v.processes as-counted)
        (ap (how_many has_ended) its_ends)
        (ap (how_many is_waiting) its_ends)
        (ap (how_many is_stopped) its_ends)
        many-ports
        open-ports
        (total-alike (λ t. t.steps) (nameless image main).steps (λ t x c. c.steps) ts v.processes as-counted)
        (total-alike (λ t. t.actions) (nameless image main).actions (λ t x c. c.actions) ts v.processes as-counted)
        (ap (λ n. cut (5 + n)) (added-alike (λ t. t.made) (λ x. cut ((nameless image main).serial x)) (λ t x c. c.made) ts v.processes as-counted))
        (ap (λ n. cut (1 + n)) (added-alike (λ t. t.held) (λ x. cut (held_by each_one (nameless image main) x)) (λ t x c. c.held) ts v.processes as-counted))
        (ap₂ (λ a b. cut (a + b)) at-ports as-replies)
        (added-alike (λ t. t.finalised) (λ x. cut (length ((nameless image main).finalised x))) (λ t x c. c.finalised) ts v.processes as-counted)

-- each port has its number
abbrev pub HaveNumbers : ℕ → List PortState → Type 0
HaveNumbers n [] = ⊤
HaveNumbers n (p ∷ ps) = (p.number ≡ n) × HaveNumbers (suc n) ps

pub numbers-from : (n : ℕ) (ps : List PortState) → ((i : ℕ) (p : PortState) → slice_get ps i ≡ Some p → p.number ≡ n + i) → HaveNumbers n ps
numbers-from n [] h = tt
numbers-from n (p ∷ ps) h = (h 0 p refl ∙ (let e : n + 0 ≡ n = omega arith in e), numbers-from (suc n) ps (λ i q e. h (suc i) q e ∙ (let e : n + suc i ≡ suc n + i = omega arith in e)))

abbrev texts_left : Port (Cell ⊤) → List Text
texts_left p = map text_of (left_in p)

pub queues-are : (n : ℕ) (ps : List PortState) → HaveNumbers n ps → map left_queue ps ≡ numbered n (map texts_left (map port_seen ps))
queues-are n [] have = refl
queues-are n (p ∷ ps) have = ap₂ (λ q qs. q ∷ qs) (ap₂ (λ k ts. (k, ts)) have.0 (texts-seen p.held.queue)) (queues-are (suc n) ps have.1)
