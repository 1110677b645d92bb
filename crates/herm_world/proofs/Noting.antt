-- Noting at ports, one after another.
use Rattle.std.proofs.Common.{◌≡◌, ℕ, zero, suc, ◌+◌, ◌<◌, List, [], ◌∷◌, length, drop, map, Bool, true, false, cond, ◌||◌, Option, Some, None, option_map, refl, sym, ap, ◌∙◌, arith}
use Rattle.std.specs.Prelude.{slice_get, slice_set}
use Rattle.herm_model.proofs.Options.{none-not_some, some-injective}
use Rattle.herm_model.specs.Lists.{any_pass, list_of}
use Rattle.herm_waking.specs.Waking.{noted_at}
use Rattle.herm_queue.specs.PortStates.{PortState}
use Rattle.herm_world.specs.Places.{Places, waiters_of}
use Rattle.herm_world.specs.Waits.{IsSameBut, without_waiter, opened}
use Rattle.herm_world.proofs.ListCases.{set-itself}
use Rattle.herm_world.proofs.PlacesSeen.{get-map, set-map}

or-false : (b : Bool) → (b || false) ≡ b
or-false true = refl
or-false false = refl

-- a port of this number is noted, if it is open
module _ (s : Places) (n q : ℕ) (p noted : PortState) (there : slice_get s.ports n ≡ Some p) (is : noted ≡ record p { waiter = cond p.held.is_open (Some q) p.waiter; spare = noted.spare }) where
  its-opened : opened s n ≡ p.held.is_open
  its-opened = ap (λ o. any_pass (λ (p : PortState). p.held.is_open) (list_of (λ p. p ∷ []) o)) there ∙ or-false p.held.is_open

  pub noted-there : waiters_of (record s { ports = slice_set s.ports n noted }) ≡ noted_at (opened s) q (n ∷ []) (waiters_of s)
  noted-there =
      set-map (λ (p : PortState). p.waiter) s.ports n noted
      ∙ ap (slice_set (waiters_of s) n) (ap (λ (p : PortState). p.waiter) is)
      ∙ by p.held.is_open
      ∙ ap (λ b. cond b (slice_set (waiters_of s) n (Some q)) (waiters_of s)) (sym its-opened)
    where
      by : (b : Bool) → slice_set (waiters_of s) n (cond b (Some q) p.waiter) ≡ cond b (slice_set (waiters_of s) n (Some q)) (waiters_of s)
      by true = refl
      by false = set-itself (waiters_of s) n p.waiter (get-map (λ (p : PortState). p.waiter) s.ports n ∙ ap (option_map (λ (p : PortState). p.waiter)) there)

  pub same-there : IsSameBut s (record s { ports = slice_set s.ports n noted })
  same-there = record {
    ports = set-map without_waiter s.ports n noted ∙ ap (slice_set (map without_waiter s.ports) n) (ap without_waiter is) ∙ set-itself (map without_waiter s.ports) n (without_waiter p) (get-map without_waiter s.ports n ∙ ap (option_map without_waiter) there);
    replies = refl;
    book = refl;
  }

-- no port is there
pub noted-nowhere : (s : Places) (n q : ℕ) → slice_get s.ports n ≡ None → waiters_of s ≡ noted_at (opened s) q (n ∷ []) (waiters_of s)
noted-nowhere s n q none = sym (ap (λ o. cond (any_pass (λ (p : PortState). p.held.is_open) (list_of (λ p. p ∷ []) o)) (slice_set (waiters_of s) n (Some q)) (waiters_of s)) none)

pub same-self : (s : Places) → IsSameBut s s
same-self s = record { ports = refl; replies = refl; book = refl }

pub same-twice : (s t u : Places) → IsSameBut s t → IsSameBut t u → IsSameBut s u
same-twice s t u a b = record { ports = b.ports ∙ a.ports; replies = b.replies ∙ a.replies; book = b.book ∙ a.book }

-- the same ports are open
pub opened-same : (s t : Places) → IsSameBut s t → (n : ℕ) → opened t n ≡ opened s n
opened-same s t a n =
    open-bare t.ports n ∙ ap (λ ps. any_pass (λ (p : PortState). p.held.is_open) (list_of (λ p. p ∷ []) (slice_get ps n))) a.ports ∙ sym (open-bare s.ports n)
  where
    open-bare : (ps : List PortState) (n : ℕ) → any_pass (λ (p : PortState). p.held.is_open) (list_of (λ p. p ∷ []) (slice_get ps n)) ≡ any_pass (λ (p : PortState). p.held.is_open) (list_of (λ p. p ∷ []) (slice_get (map without_waiter ps) n))
    open-bare [] n = refl
    open-bare (p ∷ ps) zero = refl
    open-bare (p ∷ ps) (suc n) = open-bare ps n

-- what is noted is the same where the same ports are open
pub noted-same : (f g : ℕ → Bool) (q : ℕ) (ports : List ℕ) (ws : List (Option ℕ)) → ((n : ℕ) → f n ≡ g n) → noted_at f q ports ws ≡ noted_at g q ports ws
noted-same f g q [] ws same = refl
noted-same f g q (n ∷ ports) ws same = noted-same f g q ports (cond (f n) (slice_set ws n (Some q)) ws) same ∙ ap (λ b. noted_at g q ports (cond b (slice_set ws n (Some q)) ws)) (same n)

-- the ports that are left, of which the next is noted
drop-further : (ports : List ℕ) (i n : ℕ) → slice_get ports i ≡ Some n → drop i ports ≡ n ∷ drop (suc i) ports
drop-further [] i n e = none-not_some e
drop-further (m ∷ ports) zero n e = ap (λ m. m ∷ ports) (some-injective e)
drop-further (m ∷ ports) (suc i) n e = drop-further ports i n e

pub drop-next : (ports : List ℕ) (i n : ℕ) → slice_get ports i ≡ Some n → drop i ports ≡ n ∷ drop (i + 1) ports
drop-next ports i n e = let next : suc i ≡ i + 1 = omega arith in drop-further ports i n e ∙ ap (λ j. n ∷ drop j ports) next

pub drop-all : (ports : List ℕ) (i : ℕ) → length ports ≡ i → drop i ports ≡ []
drop-all [] zero e = refl
drop-all [] (suc i) e = refl
drop-all (m ∷ ports) zero e = absurd (omega (arith, e))
drop-all (m ∷ ports) (suc i) e = drop-all ports i (omega (arith, e))

pub none-past : {X : Type 0} (xs : List X) (i : ℕ) → (i < length xs → ⊥) → slice_get xs i ≡ None
none-past [] i past = refl
none-past (x ∷ xs) zero past = absurd (past (omega arith))
none-past (x ∷ xs) (suc i) past = none-past xs i (λ lt. past (omega (arith, lt)))
