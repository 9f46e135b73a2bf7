-- What instructions and host calls cost. The plain schedule is that of the Gray Paper 0.7.0 (appendices A and B); others are this project's own.
use Rattle.std.specs.Prelude.{◌≡◌, ℕ, ◌-◌, ◌^◌, ◌<◌, nat_lt, nat_le, Bool, true, ◌&&◌, List, All, length, replicate, get_or, if◌then◌else◌, refl}
use Rattle.std.specs.List.{list_all}
use Rattle.std.specs.Coded.{Coded, code_by, coded×, coded_ℕ, coded_list}

-- the cost of each of the thirteen forms of instructions, form 1 first, and of each host call: those numbered 0 to 26, then that of any other
pub record Schedule : Type 0 where
  pub forms : List ℕ
  pub calls : List ℕ

-- each form costs at least 1, and each call at least 10
abbrev pub are_costs : List ℕ → List ℕ → Bool
are_costs forms calls = list_all (nat_le 1) forms && list_all (nat_le 10) calls

-- thirteen forms, each with a cost of one byte, and 28 calls, each with one of two bytes
pub record IsSchedule (s : Schedule) : Type 0 where
  pub costs : are_costs s.forms s.calls ≡ true
  pub form_count : length s.forms ≡ 13
  pub form_bytes : All (λ cost. cost < 2 ^ 8) s.forms
  pub call_count : length s.calls ≡ 28
  pub call_bytes : All (λ cost. cost < 2 ^ 16) s.calls

-- each instruction costs 1, and each call 10
abbrev pub plain : Schedule
plain = record { forms = replicate 13 1; calls = replicate 28 10 }

-- forms are numbered from 1 on
abbrev pub form_cost : Schedule → ℕ → ℕ
form_cost s form = get_or s.forms (form - 1) 0

abbrev pub call_cost : Schedule → ℕ → ℕ
call_cost s number = get_or s.calls (if nat_lt number 27 then number else 27) 0

abbrev pub coded_schedule : Coded Schedule
coded_schedule = code_by (List ℕ × List ℕ) (coded× (coded_list coded_ℕ) (coded_list coded_ℕ)) (λ s. (s.forms, s.calls)) (λ p. record { forms = p.0; calls = p.1 }) (λ _. refl)
