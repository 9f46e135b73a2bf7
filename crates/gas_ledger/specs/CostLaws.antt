-- What is kept of each cost holds of the cost of a form and of a call.
use Rattle.std.proofs.Common.{◌≡◌, ℕ, ◌-◌, ◌<◌, ◌≤◌, nat_le, nat_lt, true, List, length, get_or, if◌then◌else◌, arith}
use Rattle.std.proofs.lemmas.Bool.{leb-true, ltb-true, and_parts, cond_both}
use Rattle.std.proofs.lemmas.List.Elements.{All-get_or}
use Rattle.std.proofs.lemmas.List.Sums.{AllPass-from_list_all}
use Rattle.std.specs.List.{list_all}
use Rattle.gas_ledger.specs.Schedule.{Schedule, IsSchedule, form_cost, call_cost}

least : (n : ℕ) (costs : List ℕ) (k : ℕ) → list_all (nat_le n) costs ≡ true → k < length costs → n ≤ get_or costs k 0
least n costs k each within = leb-true n (get_or costs k 0) (All-get_or (λ cost. nat_le n cost ≡ true) costs k 0 within (AllPass-from_list_all (nat_le n) costs each))

pub form_cost-paid : (s : Schedule) (form : ℕ) → IsSchedule s → 1 ≤ form → form ≤ 13 → 1 ≤ form_cost s form
form_cost-paid s form is low high =
    least 1 s.forms (form - 1) (and_parts (list_all (nat_le 1) s.forms) (list_all (nat_le 10) s.calls) is.costs).0 (omega (arith, is.form_count, low, high))

place_within : (number : ℕ) → (if nat_lt number 27 then number else 27) < 28
place_within number = cond_both (nat_lt number 27) number 27 (λ place. place < 28) (λ below. omega (arith, ltb-true number 27 below)) (λ _. omega arith)

pub call_cost-paid : (s : Schedule) (number : ℕ) → IsSchedule s → 10 ≤ call_cost s number
call_cost-paid s number is =
    least 10 s.calls (if nat_lt number 27 then number else 27) (and_parts (list_all (nat_le 1) s.forms) (list_all (nat_le 10) s.calls) is.costs).1
    (omega (arith, is.call_count, place_within number))
