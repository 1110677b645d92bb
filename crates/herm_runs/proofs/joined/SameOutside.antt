-- Systems that correspond are the same from outside.
use Rattle.std.proofs.Common.{◌≡◌, ℕ, zero, suc, ◌+◌, List, [], ◌∷◌, ◌++◌, map, flat_map, Bool, false, ◌||◌, Option, Some, None, option_map, option_and_then, slice_get, length, refl, sym, ap, ap₂, ◌∙◌, arith}
use Rattle.std.specs.Prelude.{is_some}
use Rattle.herm_model.specs.Lists.{any_pass, list_of, numbered, total}
use Rattle.herm_model.specs.Values.{Name, Cell}
use Rattle.herm_model.specs.ValueTexts.{text_of}
use Rattle.herm_journal.specs.Ports.{Port, left_in, first_of}
use Rattle.herm_journal.specs.NextNumbers.{Book}
use Rattle.herm_journal.specs.PlaceStates.{a_port, replies, a_book}
use Rattle.herm_journal.specs.Entries.{Text, Place, port, reply_cell, book, Entry}
use Rattle.herm_journal.specs.Messages.{CellWant}
use Rattle.herm_journal.specs.Weights.{weigh_serials}
use Rattle.herm_system.specs.Machines.{Machine, Standing, is_local, is_acting}
use Rattle.herm_system.specs.Systems.{opening_name, System, can, can_be_done, seen_as, standing, stands, done_in, done_at, places_for, holding_at, numbered_from_one, can_step}
use Rattle.herm_system.specs.Ledger.{queued_at, queued_for, made_by, held_by, finalised_by, made_in, held_in, finalised_in, queued_in}
use Rattle.herm_system.specs.Statuses.{status_by, status_of, status_line_by, status_line}
use Rattle.herm_system.specs.RunTexts.{bytes_of, console_text, Asked, plainly, with_summary, the_journal, text_of_run}
use Rattle.herm_system.specs.Summary.{Counts, counts, how_many, cut, one, summary}
use Rattle.herm_system.specs.TextLines.{line}
use Rattle.herm_system.specs.ProcessFates.{Fate, fate_as, fate_of, fates, has_ended, is_waiting, is_stopped}
use Rattle.herm_runs.specs.Joining.{BothOrNone, AreJoined, EachOf, Correspond, LookAlike}

-- what is found among processes that correspond
module _ {P Q : Type 0} (R : P → Q → Type 0) where
  pub each-get : (xs : List P) (ys : List Q) (i : ℕ) → EachOf R xs ys → BothOrNone R (slice_get xs i) (slice_get ys i)
  each-get [] [] i h = tt
  each-get [] (y ∷ ys) i h = absurd h
  each-get (x ∷ xs) [] i h = absurd h
  each-get (x ∷ xs) (y ∷ ys) zero h = h.0
  each-get (x ∷ xs) (y ∷ ys) (suc i) h = each-get xs ys i h.1

  pub each-found : (xs : List P) (ys : List Q) (p : ℕ) → EachOf R xs ys → BothOrNone R (numbered_from_one p xs) (numbered_from_one p ys)
  each-found xs ys zero h = tt
  each-found xs ys (suc i) h = each-get xs ys i h

  each-length : (xs : List P) (ys : List Q) → EachOf R xs ys → length xs ≡ length ys
  each-length [] [] h = refl
  each-length [] (y ∷ ys) h = absurd h
  each-length (x ∷ xs) [] h = absurd h
  each-length (x ∷ xs) (y ∷ ys) h = omega (arith, each-length xs ys h.1)

  each-total : (f : P → ℕ) (g : Q → ℕ) → ((x : P) (y : Q) → R x y → f x ≡ g y) → (xs : List P) (ys : List Q) → EachOf R xs ys → total f xs ≡ total g ys
  each-total f g same [] [] h = refl
  each-total f g same [] (y ∷ ys) h = absurd h
  each-total f g same (x ∷ xs) [] h = absurd h
  each-total f g same (x ∷ xs) (y ∷ ys) h = ap₂ (λ (m n : ℕ). m + n) (same x y h.0) (each-total f g same xs ys h.1)

  each-fate : (f : ℕ × P → Fate) (g : ℕ × Q → Fate) → ((p : ℕ) (x : P) (y : Q) → R x y → f (p, x) ≡ g (p, y)) → (i : ℕ) (xs : List P) (ys : List Q) → EachOf R xs ys → map f (numbered i xs) ≡ map g (numbered i ys)
  each-fate f g same i [] [] h = refl
  each-fate f g same i [] (y ∷ ys) h = absurd h
  each-fate f g same i (x ∷ xs) [] h = absurd h
  each-fate f g same i (x ∷ xs) (y ∷ ys) h = ap₂ (λ (z : Fate) (zs : List Fate). z ∷ zs) (same i x y h.0) (each-fate f g same (suc i) xs ys h.1)

-- equal ports, replies and books hold the same
pub holding-same : {P Q : Type 0} (R : P → Q → Type 0) (s : System P) (t : System Q) → Correspond R s t → (place : Place) → holding_at place s ≡ holding_at place t
holding-same R s t c (port n) = ap (λ (ps : List (Port (Cell Name))). option_map a_port (slice_get ps n)) c.ports
holding-same R s t c (reply_cell p) = ap (λ rs. option_map replies (numbered_from_one p rs)) c.replies
holding-same R s t c book = ap (λ (b : Book). Some (a_book b)) c.book

module _ {P Q : Type 0} (a : Machine Name P) (b : Machine Name Q) (R : P → Q → Type 0) (j : AreJoined a b R) (s : System P) (t : System Q) (c : Correspond R s t) where
  can-along : (w : CellWant Name) (places : List Place) → any_pass (λ place. is_some (done_in w s place)) places ≡ any_pass (λ place. is_some (done_in w t place)) places
  can-along w [] = refl
  can-along w (place ∷ places) = ap₂ (λ (m n : Bool). m || n) (ap (λ o. is_some (option_and_then (done_at w) o)) (holding-same R s t c place)) (can-along w places)

  pub can-same : (p : ℕ) (o : Option (CellWant Name)) → can_be_done (can s p) o ≡ can_be_done (can t p) o
  can-same p None = refl
  can-same p (Some w) = can-along w (places_for p w)

  -- how a process stands
  pub standing-same : (p : ℕ) (x : P) (y : Q) → R x y → standing a s.book.limits.steps (can s p) x ≡ standing b t.book.limits.steps (can t p) y
  standing-same p x y r =
      let shows = j.shows x y r in
      let limits : s.book.limits.steps ≡ t.book.limits.steps = ap (λ (b : Book). b.limits.steps) c.book in
      ap₂ seen_as (ap (λ limit. a.ready limit x) limits ∙ shows.ready t.book.limits.steps) (ap (can_be_done (can s p)) shows.wanted ∙ can-same p (b.wanted y))

  stands-option : (test : Standing → Bool) (p : ℕ) (o : Option P) (q : Option Q) → BothOrNone R o q
      → any_pass test (list_of (λ x. x ∷ []) (option_map (standing a s.book.limits.steps (can s p)) o)) ≡ any_pass test (list_of (λ x. x ∷ []) (option_map (standing b t.book.limits.steps (can t p)) q))
  stands-option test p None None h = refl
  stands-option test p None (Some y) h = absurd h
  stands-option test p (Some x) None h = absurd h
  stands-option test p (Some x) (Some y) h = ap (λ z. test z || false) (standing-same p x y h)

  pub stands-same : (test : Standing → Bool) (p : ℕ) → stands test a s p ≡ stands test b t p
  stands-same test p = stands-option test p (numbered_from_one p s.processes) (numbered_from_one p t.processes) (each-found R s.processes t.processes p c.processes)

  can_step-same : (p : ℕ) → can_step a s p ≡ can_step b t p
  can_step-same p = ap₂ (λ (m n : Bool). m || n) (stands-same is_local p) (stands-same is_acting p)

  -- what became of the processes
  fate-same : (p : ℕ) (x : P) (y : Q) → R x y → fate_of a s (p, x) ≡ fate_of b t (p, y)
  fate-same p x y r =
      let shows = j.shows x y r in
      let limits : s.book.limits.steps ≡ t.book.limits.steps = ap (λ (b : Book). b.limits.steps) c.book in
      ap (λ z. fate_as z s.book.limits.steps (a.exception x) (a.wanted x)) (standing-same p x y r)
      ∙ ap (λ l. fate_as (standing b t.book.limits.steps (can t p) y) l (a.exception x) (a.wanted x)) limits
      ∙ ap₂ (fate_as (standing b t.book.limits.steps (can t p) y) t.book.limits.steps) shows.exception shows.wanted

  fates-same : fates a s ≡ fates b t
  fates-same = each-fate R (fate_of a s) (fate_of b t) fate-same 1 s.processes t.processes c.processes

  -- the numbers
  made-same : (w : Name → ℕ) (x : P) (y : Q) → R x y → made_by w a x ≡ made_by w b y
  made-same w x y r = ap₂ (λ (number serial : ℕ). weigh_serials w (λ s. (number, s)) 0 serial) (j.shows x y r).number (j.shows x y r).serial

  counts-same : counts a s ≡ counts b t
  counts-same =
      let processes = each-length R s.processes t.processes c.processes in
      let ends = fates-same in
      let ports = c.ports in
      let stepped = each-total R a.steps b.steps (λ x y r. (j.shows x y r).steps) s.processes t.processes c.processes in
      let acted = each-total R a.actions b.actions (λ x y r. (j.shows x y r).actions) s.processes t.processes c.processes in
      let made : made_in one a s ≡ made_in one b t = ap (λ n. weigh_serials one opening_name 0 5 + n) (each-total R (made_by one a) (made_by one b) (made-same one) s.processes t.processes c.processes) in
      let kept : held_in one a s ≡ held_in one b t = ap (λ n. 1 + 0 + n) (each-total R (held_by one a) (held_by one b) (λ x y r. (j.shows x y r).held one) s.processes t.processes c.processes) in
      let gone : finalised_in one a s ≡ finalised_in one b t = each-total R (finalised_by one a) (finalised_by one b) (λ x y r. (j.shows x y r).finalised one) s.processes t.processes c.processes in
      let waiting : queued_in one s ≡ queued_in one t = ap₂ (λ ps rs. total (queued_at one) ps + total (queued_for one) rs) c.ports c.replies in
      same-counts processes (ap (how_many has_ended) ends) (ap (how_many is_waiting) ends) (ap (how_many is_stopped) ends) (ap length ports) (ap (how_many (λ (p : Port (Cell Name)). p.is_open)) ports)
      stepped acted (ap cut made) (ap cut kept) (ap cut waiting) (ap cut gone)
    where
      same-counts : {p p' e e' w w' s s' o o' u u' st st' ac ac' m m' h h' q q' f f' : ℕ} → p ≡ p' → e ≡ e' → w ≡ w' → s ≡ s' → o ≡ o' → u ≡ u' → st ≡ st' → ac ≡ ac' → m ≡ m' → h ≡ h' → q ≡ q' → f ≡ f'
          → ◌≡◌ {A = Counts} (record { processes = p; ended = e; waiting = w; stopped = s; ports = o; unclosed = u; steps = st; actions = ac; made = m; held = h; queued = q; finalised = f })
          (record { processes = p'; ended = e'; waiting = w'; stopped = s'; ports = o'; unclosed = u'; steps = st'; actions = ac'; made = m'; held = h'; queued = q'; finalised = f' })
      same-counts e1 e2 e3 e4 e5 e6 e7 e8 e9 e10 e11 e12 = cc

  status-same : status_of a s ≡ status_of b t
  status-same = ap (λ fs. status_by (first_of fs) fs) fates-same

  line-same : (names : List Text) → status_line names a s ≡ status_line names b t
  line-same names = ap (λ fs. status_line_by names (first_of fs) fs) fates-same

  console-same : console_text s ≡ console_text t
  console-same = ap (λ (ps : List (Port (Cell Name))). list_of (λ p. flat_map (λ c. line (bytes_of c)) (left_in p)) (first_of ps)) c.ports

  pub text-same : (names : List Text) (asked : Asked) (journal : List Entry) → text_of_run names asked a (record { system = s; journal = journal }) ≡ text_of_run names asked b (record { system = t; journal = journal })
  text-same names plainly journal = ap₂ (λ (u v : Text). u ++ v) console-same (line-same names)
  text-same names with_summary journal = ap₂ (λ (u v : Text). u ++ v) (ap₂ (λ (u v : Text). u ++ v) console-same (line-same names)) (ap summary counts-same)
  text-same names the_journal journal = refl

  pub alike : (journal : List Entry) → LookAlike a b R (record { system = s; journal = journal }) (record { system = t; journal = journal })
  alike journal = record {
    journal = refl;
    systems = c;
    ends = fates-same;
    queued = ap (λ (ps : List (Port (Cell Name))). numbered 0 (map (λ (p : Port (Cell Name)). map text_of (left_in p)) ps)) c.ports;
    counts = counts-same;
    status = status-same;
    text = λ names asked. text-same names asked journal;
    final = ((λ f p. sym (can_step-same p) ∙ f p), (λ f p. can_step-same p ∙ f p));
  }
