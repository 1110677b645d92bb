-- Files that have modules are short.
use Rattle.std.proofs.Common.{inl, inr, ℕ, zero, suc, ◌≤◌, List, [], ◌∷◌, length, refl, subst, sym, arith}
use Rattle.herm_syntax.specs.declared.modules.Module.{Module}
use Rattle.herm_compile.specs.FirstPhase.{HaveModules}
use Rattle.herm_compile.specs.Spots.{AreShort, bytes_of}

pub there_short : (files : List (List ℕ)) (number : ℕ) → AreShort files → length (bytes_of files number) ≤ 1048576
there_short [] number short = omega arith
there_short (bytes ∷ files) zero short = short bytes (inl refl)
there_short (bytes ∷ files) (suc number) short = there_short files number (λ b member. short b (inr member))

pub modules_short : (number : ℕ) (files : List (List ℕ)) (modules : List Module) (owners : List ℕ) → HaveModules number files modules owners → AreShort files
modules_short number [] modules owners have b member = absurd member
modules_short number (bytes ∷ files) modules owners have b (inl same) = subst (λ (x : List ℕ). length x ≤ 1048576) (sym same) have.1.read.short
modules_short number (bytes ∷ files) modules owners have b (inr member) = modules_short (suc number) files have.2 have.3 have.6 b member
