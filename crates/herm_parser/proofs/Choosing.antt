-- A choice of forms, form by form.
use Rattle.std.proofs.Common.{◌≡◌, Bool, true, false, ◌⊎◌, inl, inr, List, refl, ap, ◌∙◌}
use Rattle.herm_readers.specs.Reader.{Answer, Read, Fault, Reader, ahead}
use Rattle.herm_readers.specs.Combinators.{onward, passes, mapped, chosen, choice}
use Rattle.herm_syntax.specs.Symbols.{Symbol, is}
use Rattle.herm_syntax.specs.KeywordSymbols.{kw_unwrap, kw_call, kw_return, kw_create, kw_raise, kw_leave}
use Rattle.herm_syntax.specs.Trees.{Statement}
use Rattle.herm_syntax.specs.Words.{is_transfer, is_touch, is_find}
use Rattle.herm_syntax.specs.ReadStatements.{plain_of, read_plain, is_plain, read_two_paths, read_one_path, read_keyed, read_unwrap, read_call, read_return, read_create, read_raise, read_leave}
use Rattle.std.specs.Prelude.{None, Some, Option, if◌then◌else◌}
use Rattle.herm_parser.specs.Forms.{either, transfer_at, touch_at, find_at, unwrap_at, call_at, return_at, create_at, raise_at, leave_at, other_at, plain_at}

module _ {A B : Type 0} (h : A ⊎ B → Statement) (f : Reader Symbol A) (g : Reader Symbol B) (first second : Reader Symbol Statement)
    (firsts : (s : List Symbol) → mapped (λ a. h (inl a)) f s ≡ first s) (seconds : (s : List Symbol) → mapped (λ b. h (inr b)) g s ≡ second s) where
  left : (answer : Answer Symbol A) → onward (onward answer (λ a rest. Read (inl a) rest)) (λ x rest. Read (h x) rest) ≡ onward (onward (onward answer (λ a rest. Read (h (inl a)) rest)) (λ s rest. Read (inl s) rest)) (λ x rest. Read (either x) rest)
  left (Read a rest) = refl
  left (Fault n) = refl

  right : (answer : Answer Symbol B) → onward (onward answer (λ b rest. Read (inr b) rest)) (λ x rest. Read (h x) rest) ≡ onward (onward (onward answer (λ b rest. Read (h (inr b)) rest)) (λ s rest. Read (inr s) rest)) (λ x rest. Read (either x) rest)
  right (Read b rest) = refl
  right (Fault n) = refl

  split_by : (passed : Bool) (s : List Symbol) → onward (chosen passed f g s) (λ x rest. Read (h x) rest) ≡ onward (chosen passed first second s) (λ x rest. Read (either x) rest)
  split_by true s = left (f s) ∙ ap (λ answer. onward (onward answer (λ t rest. Read (inl t) rest)) (λ x rest. Read (either x) rest)) (firsts s)
  split_by false s = right (g s) ∙ ap (λ answer. onward (onward answer (λ t rest. Read (inr t) rest)) (λ x rest. Read (either x) rest)) (seconds s)

  pub split : (test : Symbol → Bool) (s : List Symbol) → mapped h (choice test f g) s ≡ mapped either (choice test first second) s
  split test s = split_by (passes test (ahead s None)) s

from_raise : (s : List Symbol) → mapped (λ x. plain_of (inr (inr (inr (inr (inr (inr (inr x)))))))) (choice (is kw_raise) read_raise read_leave) s ≡ (mapped either (choice (is kw_raise) raise_at leave_at)) s
unfolding raise_at leave_at
from_raise s = split (λ x. plain_of (inr (inr (inr (inr (inr (inr (inr x)))))))) read_raise read_leave raise_at leave_at (λ s. refl) (λ s. refl) (is kw_raise) s

from_create : (s : List Symbol) → mapped (λ x. plain_of (inr (inr (inr (inr (inr (inr x))))))) (choice (is kw_create) read_create (choice (is kw_raise) read_raise read_leave)) s ≡ (mapped either (choice (is kw_create) create_at (mapped either (choice (is kw_raise) raise_at leave_at)))) s
unfolding create_at
from_create s = split (λ x. plain_of (inr (inr (inr (inr (inr (inr x))))))) read_create (choice (is kw_raise) read_raise read_leave) create_at (mapped either (choice (is kw_raise) raise_at leave_at)) (λ s. refl) from_raise (is kw_create) s

from_return : (s : List Symbol) → mapped (λ x. plain_of (inr (inr (inr (inr (inr x)))))) (choice (is kw_return) read_return (choice (is kw_create) read_create (choice (is kw_raise) read_raise read_leave))) s ≡ (mapped either (choice (is kw_return) return_at (mapped either (choice (is kw_create) create_at (mapped either (choice (is kw_raise) raise_at leave_at)))))) s
unfolding return_at
from_return s = split (λ x. plain_of (inr (inr (inr (inr (inr x)))))) read_return (choice (is kw_create) read_create (choice (is kw_raise) read_raise read_leave)) return_at (mapped either (choice (is kw_create) create_at (mapped either (choice (is kw_raise) raise_at leave_at)))) (λ s. refl) from_create (is kw_return) s

from_call : (s : List Symbol) → mapped (λ x. plain_of (inr (inr (inr (inr x))))) (choice (is kw_call) read_call (choice (is kw_return) read_return (choice (is kw_create) read_create (choice (is kw_raise) read_raise read_leave)))) s ≡ (mapped either (choice (is kw_call) call_at (mapped either (choice (is kw_return) return_at (mapped either (choice (is kw_create) create_at (mapped either (choice (is kw_raise) raise_at leave_at)))))))) s
unfolding call_at
from_call s = split (λ x. plain_of (inr (inr (inr (inr x))))) read_call (choice (is kw_return) read_return (choice (is kw_create) read_create (choice (is kw_raise) read_raise read_leave))) call_at (mapped either (choice (is kw_return) return_at (mapped either (choice (is kw_create) create_at (mapped either (choice (is kw_raise) raise_at leave_at)))))) (λ s. refl) from_return (is kw_call) s

from_unwrap : (s : List Symbol) → mapped (λ x. plain_of (inr (inr (inr x)))) (choice (is kw_unwrap) read_unwrap (choice (is kw_call) read_call (choice (is kw_return) read_return (choice (is kw_create) read_create (choice (is kw_raise) read_raise read_leave))))) s ≡ other_at s
unfolding unwrap_at other_at
from_unwrap s = split (λ x. plain_of (inr (inr (inr x)))) read_unwrap (choice (is kw_call) read_call (choice (is kw_return) read_return (choice (is kw_create) read_create (choice (is kw_raise) read_raise read_leave)))) unwrap_at (mapped either (choice (is kw_call) call_at (mapped either (choice (is kw_return) return_at (mapped either (choice (is kw_create) create_at (mapped either (choice (is kw_raise) raise_at leave_at)))))))) (λ s. refl) from_call (is kw_unwrap) s

from_find : (s : List Symbol) → mapped (λ x. plain_of (inr (inr x))) (choice (is_find) read_keyed (choice (is kw_unwrap) read_unwrap (choice (is kw_call) read_call (choice (is kw_return) read_return (choice (is kw_create) read_create (choice (is kw_raise) read_raise read_leave)))))) s ≡ (mapped either (choice (is_find) find_at other_at)) s
unfolding find_at
from_find s = split (λ x. plain_of (inr (inr x))) read_keyed (choice (is kw_unwrap) read_unwrap (choice (is kw_call) read_call (choice (is kw_return) read_return (choice (is kw_create) read_create (choice (is kw_raise) read_raise read_leave))))) find_at other_at (λ s. refl) from_unwrap (is_find) s

from_touch : (s : List Symbol) → mapped (λ x. plain_of (inr x)) (choice (is_touch) read_one_path (choice (is_find) read_keyed (choice (is kw_unwrap) read_unwrap (choice (is kw_call) read_call (choice (is kw_return) read_return (choice (is kw_create) read_create (choice (is kw_raise) read_raise read_leave))))))) s ≡ (mapped either (choice (is_touch) touch_at (mapped either (choice (is_find) find_at other_at)))) s
unfolding touch_at
from_touch s = split (λ x. plain_of (inr x)) read_one_path (choice (is_find) read_keyed (choice (is kw_unwrap) read_unwrap (choice (is kw_call) read_call (choice (is kw_return) read_return (choice (is kw_create) read_create (choice (is kw_raise) read_raise read_leave)))))) touch_at (mapped either (choice (is_find) find_at other_at)) (λ s. refl) from_find (is_touch) s

pub plain_is : (s : List Symbol) → mapped plain_of read_plain s ≡ plain_at s
unfolding transfer_at plain_at
plain_is s = split plain_of read_two_paths (choice (is_touch) read_one_path (choice (is_find) read_keyed (choice (is kw_unwrap) read_unwrap (choice (is kw_call) read_call (choice (is kw_return) read_return (choice (is kw_create) read_create (choice (is kw_raise) read_raise read_leave))))))) transfer_at (mapped either (choice (is_touch) touch_at (mapped either (choice (is_find) find_at other_at)))) (λ s. refl) from_touch (is_transfer) s

-- Whether a plain statement is ahead, form by form.
pub plain_passes : (o : Option Symbol) → passes is_plain o ≡ (if passes is_transfer o then true else if passes is_touch o then true else if passes is_find o then true else
    if passes (is kw_unwrap) o then true else if passes (is kw_call) o then true else if passes (is kw_return) o then true else if passes (is kw_create) o then true else
    if passes (is kw_raise) o then true else passes (is kw_leave) o)
plain_passes None = refl
plain_passes (Some x) = refl
