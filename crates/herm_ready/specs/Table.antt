-- What contracts see of a set of numbers.
use Rattle.std.specs.Prelude.{ℕ, List, refl}
use Rattle.std.specs.Coded.{Coded, code_by, coded×, coded_ℕ, coded_list}

-- the greatest number that can be a member, and the members, rising
pub record ReadySet : Type 0 where
  pub limit : ℕ
  pub members : List ℕ

abbrev pub ready_code : Coded ReadySet
ready_code = code_by (ℕ × List ℕ) (coded× coded_ℕ (coded_list coded_ℕ)) (λ s. (s.limit, s.members)) (λ p. record { limit = p.0; members = p.1 }) (λ _. refl)
