-- Turns along the unit list.
use Rattle.std.proofs.Common.{◌≡◌, ℕ, zero, suc, ◌+◌, ◌<◌, ◌≤◌, List, [], ◌∷◌, ◌++◌, length, take, drop, arith, ap, sym, ◌∙◌, refl, subst, true, false, Option, Some, None}
use Rattle.std.specs.Prelude.{◌↔◌}
use Rattle.gas_ledger.specs.Schedule.{IsSchedule}
use Rattle.pvm_step.specs.declared.exit.Exit.{Exit}
use Rattle.pvm_invoke.specs.declared.stage.Stage.TheVariants.{Ended}
use Rattle.pvm_invoke.specs.HostCall.{HostEffect, IsHostEffect}
use Rattle.pvm_invoke.specs.Turns.{Standing, unit_after, IsUnitList, stopped, has_ended, advanced, units, unit_list, left_by, last_standing}
use Rattle.pvm_invoke.proofs.Following.{ended_as, none-ended, stopped-has, advanced-none, units-none, advanced-ended, units-ended, advanced-stop, units-stop, advanced-more, units-more}
use Rattle.pvm_invoke.proofs.Paid.{turn_costs, list_paid, whole}

-- ---- Pieces

resumed_by : (n k : ℕ) (effect : HostEffect) (s : Standing) (o : Option Standing) → unit_after effect s ≡ o
    → ((u : Standing) → advanced k effect (advanced n effect u) ≡ advanced (n + k) effect u) → advanced k effect (advanced (suc n) effect s) ≡ advanced (suc n + k) effect s
resumed_by n k effect s None is rest =
    let end : (e : Exit) × ((stopped s).stage ≡ Ended e) = stopped-has s in
    let next : suc (n + k) ≡ suc n + k = omega arith in
    ap (advanced k effect) (advanced-stop n effect s is) ∙ advanced-ended k effect (stopped s) end.0 end.1 ∙ sym (advanced-stop (n + k) effect s is) ∙ ap (λ j. advanced j effect s) next
resumed_by n k effect s (Some u) is rest =
    let next : suc (n + k) ≡ suc n + k = omega arith in
    ap (advanced k effect) (advanced-more n effect s u is) ∙ rest u ∙ sym (advanced-more (n + k) effect s u is) ∙ ap (λ j. advanced j effect s) next

pub resumed : (n k : ℕ) (effect : HostEffect) (s : Standing) → advanced k effect (advanced n effect s) ≡ advanced (n + k) effect s
resumed zero k effect s = let same : k ≡ zero + k = omega arith in ap (advanced k effect) (advanced-none effect s) ∙ ap (λ j. advanced j effect s) same
resumed (suc n) k effect s = resumed_by n k effect s (unit_after effect s) refl (resumed n k effect)

pieces_by : (n k : ℕ) (effect : HostEffect) (s : Standing) (o : Option Standing) → unit_after effect s ≡ o
    → ((u : Standing) → units n effect u ++ units k effect (advanced n effect u) ≡ units (n + k) effect u)
    → units (suc n) effect s ++ units k effect (advanced (suc n) effect s) ≡ units (suc n + k) effect s
pieces_by n k effect s None is rest =
    let end : (e : Exit) × ((stopped s).stage ≡ Ended e) = stopped-has s in
    let next : suc (n + k) ≡ suc n + k = omega arith in
    let after : units k effect (advanced (suc n) effect s) ≡ [] = ap (units k effect) (advanced-stop n effect s is) ∙ units-ended k effect (stopped s) end.0 end.1 in
    ap (λ us. us ++ units k effect (advanced (suc n) effect s)) (units-stop n effect s is) ∙ after ∙ sym (units-stop (n + k) effect s is) ∙ ap (λ j. units j effect s) next
pieces_by n k effect s (Some u) is rest =
    let next : suc (n + k) ≡ suc n + k = omega arith in
    ap (λ us. us ++ units k effect (advanced (suc n) effect s)) (units-more n effect s u is)
    ∙ ap (λ t. u ∷ (units n effect u ++ units k effect t)) (advanced-more n effect s u is)
    ∙ ap (λ us. u ∷ us) (rest u)
    ∙ sym (units-more (n + k) effect s u is)
    ∙ ap (λ j. units j effect s) next

pub in_pieces : (n k : ℕ) (effect : HostEffect) (s : Standing) → units n effect s ++ units k effect (advanced n effect s) ≡ units (n + k) effect s
in_pieces zero k effect s =
    let same : k ≡ zero + k = omega arith in
    ap (λ us. us ++ units k effect (advanced 0 effect s)) (units-none effect s) ∙ ap (units k effect) (advanced-none effect s) ∙ ap (λ j. units j effect s) same
in_pieces (suc n) k effect s = pieces_by n k effect s (unit_after effect s) refl (in_pieces n k effect)

-- ---- The unit list

none_some : (o : Option Standing) (u : Standing) → o ≡ None → o ≡ Some u → ⊥
none_some o u none some = cc

pub one_list : (effect : HostEffect) (s : Standing) (us vs : List Standing) → IsUnitList effect s us → IsUnitList effect s vs → us ≡ vs
one_list effect s [] [] h k = refl
one_list effect s [] (v ∷ vs) h k = absurd (none_some (unit_after effect s) v h k.0)
one_list effect s (u ∷ us) [] h k = absurd (none_some (unit_after effect s) u k h.0)
one_list effect s (u ∷ us) (v ∷ vs) h k =
    let both : Some u ≡ Some v = sym h.0 ∙ k.0 in
    let same : u ≡ v = cc both in
    let rest : us ≡ vs = one_list effect v us vs (subst (λ t. IsUnitList effect t us) same h.1) k.1 in
    cc (same, rest)

pub first_units : (n : ℕ) (effect : HostEffect) (s : Standing) (us : List Standing) → IsUnitList effect s us → units n effect s ≡ take n us
first_units zero effect s us list = units-none effect s
first_units (suc n) effect s [] list = units-stop n effect s list
first_units (suc n) effect s (u ∷ us) list = units-more n effect s u list.0 ∙ ap (λ vs. u ∷ vs) (first_units n effect u us list.1)

pub rest_of_list : (n : ℕ) (effect : HostEffect) (s : Standing) (us : List Standing) → IsUnitList effect s us → IsUnitList effect (advanced n effect s) (drop n us)
rest_of_list zero effect s us list = subst (λ t. IsUnitList effect t us) (sym (advanced-none effect s)) list
rest_of_list (suc n) effect s [] list =
    let end : (e : Exit) × ((stopped s).stage ≡ Ended e) = stopped-has s in
    ap (unit_after effect) (advanced-stop n effect s list) ∙ none-ended effect (stopped s) end.0 end.1
rest_of_list (suc n) effect s (u ∷ us) list = subst (λ t. IsUnitList effect t (drop n us)) (sym (advanced-more n effect s u list.0)) (rest_of_list n effect u us list.1)

pub after_some : (n : ℕ) (effect : HostEffect) (s : Standing) (us : List Standing) → IsUnitList effect s us → n ≤ length us → advanced n effect s ≡ last_standing s (take n us)
after_some zero effect s us list within = advanced-none effect s
after_some (suc n) effect s [] list within = absurd (omega (arith, within))
after_some (suc n) effect s (u ∷ us) list within = advanced-more n effect s u list.0 ∙ after_some n effect u us list.1 (omega (arith, within))

pub after_all : (n : ℕ) (effect : HostEffect) (s : Standing) (us : List Standing) → IsUnitList effect s us → length us < n → advanced n effect s ≡ stopped (last_standing s us)
after_all zero effect s us list past = absurd (omega (arith, past))
after_all (suc n) effect s [] list past = advanced-stop n effect s list
after_all (suc n) effect s (u ∷ us) list past = advanced-more n effect s u list.0 ∙ after_all n effect u us list.1 (omega (arith, past))

pub ends_after_all : (n : ℕ) (effect : HostEffect) (s : Standing) (us : List Standing) → IsUnitList effect s us → length us < n → has_ended (advanced n effect s).stage ≡ true
ends_after_all n effect s us list past =
    let end : (e : Exit) × ((stopped (last_standing s us)).stage ≡ Ended e) = stopped-has (last_standing s us) in
    ap (λ (t : Standing). has_ended t.stage) (after_all n effect s us list past) ∙ ap has_ended end.1

-- ---- Pauses

abbrev Pauses : ℕ → HostEffect → Standing → Type 0
Pauses n effect s = (has_ended (advanced n effect s).stage ≡ false) ↔ ((length (units n effect s) ≡ n) × (has_ended (last_standing s (units n effect s)).stage ≡ false))

pauses_by : (n : ℕ) (effect : HostEffect) (s : Standing) (o : Option Standing) → unit_after effect s ≡ o → ((u : Standing) → Pauses n effect u) → Pauses (suc n) effect s
pauses_by n effect s None is rest =
    let end : (e : Exit) × ((stopped s).stage ≡ Ended e) = stopped-has s in
    let ended : has_ended (advanced (suc n) effect s).stage ≡ true = ap (λ (t : Standing). has_ended t.stage) (advanced-stop n effect s is) ∙ ap has_ended end.1 in
    let none : length (units (suc n) effect s) ≡ 0 = ap length (units-stop n effect s is) in
    ((λ going. absurd (cc (going, ended))), (λ made. absurd (omega (arith, made.0, none))))
pauses_by n effect s (Some u) is rest =
    let on : advanced (suc n) effect s ≡ advanced n effect u = advanced-more n effect s u is in
    let more : units (suc n) effect s ≡ u ∷ units n effect u = units-more n effect s u is in
    let size : length (units (suc n) effect s) ≡ length (u ∷ units n effect u) = ap length more in
    let last : last_standing s (units (suc n) effect s) ≡ last_standing u (units n effect u) = ap (last_standing s) more in (
      (λ going.
          let made = (rest u).0 (ap (λ (t : Standing). has_ended t.stage) (sym on) ∙ going) in
          (omega (arith, size, made.0), ap (λ (t : Standing). has_ended t.stage) last ∙ made.1)),
      (λ made.
          let fewer : length (units n effect u) ≡ n = omega (arith, size, made.0) in
          ap (λ (t : Standing). has_ended t.stage) on ∙ (rest u).1 (fewer, ap (λ (t : Standing). has_ended t.stage) (sym last) ∙ made.1)),
    )

pub pauses : (n : ℕ) (effect : HostEffect) (s : Standing) → Pauses n effect s
pauses zero effect s =
    let here : advanced 0 effect s ≡ s = advanced-none effect s in
    let last : last_standing s (units 0 effect s) ≡ s = ap (last_standing s) (units-none effect s) in
    let size : length (units 0 effect s) ≡ 0 = ap length (units-none effect s) in (
      (λ going. (size, ap (λ (t : Standing). has_ended t.stage) (last ∙ sym here) ∙ going)),
      (λ made. ap (λ (t : Standing). has_ended t.stage) (here ∙ sym last) ∙ made.1),
    )
pauses (suc n) effect s = pauses_by n effect s (unit_after effect s) refl (pauses n effect)

-- ---- What a run leaves

-- it has ended, and stays so
same_end : (n k : ℕ) (effect : HostEffect) (s : Standing) → has_ended (advanced n effect s).stage ≡ true → advanced (n + k) effect s ≡ advanced n effect s
same_end n k effect s ended =
    let end : (e : Exit) × ((advanced n effect s).stage ≡ Ended e) = ended_as (advanced n effect s).stage ended in
    sym (resumed n k effect s) ∙ advanced-ended k effect (advanced n effect s) end.0 end.1

pub has_left : (effect : HostEffect) (s : Standing) → IsHostEffect effect → IsSchedule s.machine.costs → has_ended (left_by effect s).stage ≡ true
has_left effect s lawful costs =
    let list : IsUnitList effect s (unit_list effect s) = whole s.machine.gas effect s lawful costs (omega arith) in
    ends_after_all (s.machine.gas + 1) effect s (unit_list effect s) list (omega (arith, list_paid effect s (unit_list effect s) lawful costs list))

pub leaves : (n : ℕ) (effect : HostEffect) (s : Standing) → IsHostEffect effect → IsSchedule s.machine.costs → left_by effect (advanced n effect s) ≡ left_by effect s
leaves n effect s lawful costs =
    let there : Standing = advanced n effect s in
    let k : ℕ = there.machine.gas + 1 in
    let all : ℕ = s.machine.gas + 1 in
    let still : IsSchedule there.machine.costs = subst IsSchedule (sym (turn_costs n effect s lawful costs)) costs in
    let first : advanced k effect there ≡ advanced (n + k) effect s = resumed n k effect s in
    let one : has_ended (advanced (n + k) effect s).stage ≡ true = ap (λ (t : Standing). has_ended t.stage) (sym first) ∙ has_left effect there lawful still in
    let turn : n + k + all ≡ all + (n + k) = omega arith in
    first
    ∙ sym (same_end (n + k) all effect s one)
    ∙ ap (λ j. advanced j effect s) turn
    ∙ same_end all (n + k) effect s (has_left effect s lawful costs)

-- the unit list is one, whatever the turns
pub list_left : (n : ℕ) (effect : HostEffect) (s : Standing) → IsHostEffect effect → IsSchedule s.machine.costs → unit_list effect (advanced n effect s) ≡ drop n (unit_list effect s)
list_left n effect s lawful costs =
    let there : Standing = advanced n effect s in
    let still : IsSchedule there.machine.costs = subst IsSchedule (sym (turn_costs n effect s lawful costs)) costs in
    one_list effect there (unit_list effect there) (drop n (unit_list effect s)) (whole there.machine.gas effect there lawful still (omega arith))
    (rest_of_list n effect s (unit_list effect s) (whole s.machine.gas effect s lawful costs (omega arith)))
