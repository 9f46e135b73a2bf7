-- What is left of a turn, after some of its units.
use Rattle.std.proofs.Common.{◌≡◌, ℕ, zero, suc, ◌+◌, ◌-◌, ◌<◌, ◌≤◌, List, [], ◌∷◌, length, arith, ap, sym, ◌∙◌, refl, subst, inl, inr, Option, Some, None, true}
use Rattle.pvm_step.specs.declared.exit.Exit.{Exit}
use Rattle.pvm_step.specs.declared.exit.Exit.TheVariants.{OutOfGas}
use Rattle.pvm_invoke.specs.declared.stage.Stage.{Stage}
use Rattle.pvm_invoke.specs.declared.stage.Stage.TheVariants.{Runs, Awaits, Ended}
use Rattle.pvm_invoke.specs.HostCall.{HostEffect}
use Rattle.pvm_invoke.specs.Turns.{Standing, unit_at, unit_after, stopped_at, stopped, has_ended, moved_on, advanced, unit_and, units, IsTurn, Follows}
use Rattle.pvm_invoke.specs.Invocation.{HasMoved}

-- ---- Ends

pub ended_as : (stage : Stage) → has_ended stage ≡ true → (e : Exit) × (stage ≡ Ended e)
ended_as Runs is = absurd (cc is)
ended_as (Awaits number) is = absurd (cc is)
ended_as (Ended e) is = (e, refl)

pub none-ended : (effect : HostEffect) (s : Standing) (e : Exit) → s.stage ≡ Ended e → unit_after effect s ≡ None
unfolding unit_after
none-ended effect s e is = ap (unit_at effect s) is

pub stopped-ended : (s : Standing) (e : Exit) → s.stage ≡ Ended e → stopped s ≡ s
stopped-ended s e is = ap (stopped_at s) is

stopped-has_by : (s : Standing) (stage : Stage) → s.stage ≡ stage → (e : Exit) × ((stopped_at s stage).stage ≡ Ended e)
stopped-has_by s Runs is = (OutOfGas, refl)
stopped-has_by s (Awaits number) is = (OutOfGas, refl)
stopped-has_by s (Ended e) is = (e, is)

pub stopped-has : (s : Standing) → (e : Exit) × ((stopped s).stage ≡ Ended e)
stopped-has s = stopped-has_by s s.stage refl

pub advanced-none : (effect : HostEffect) (s : Standing) → advanced 0 effect s ≡ s
unfolding advanced
advanced-none effect s = refl

pub units-none : (effect : HostEffect) (s : Standing) → units 0 effect s ≡ []
unfolding units
units-none effect s = refl

pub advanced-ended : (n : ℕ) (effect : HostEffect) (s : Standing) (e : Exit) → s.stage ≡ Ended e → advanced n effect s ≡ s
unfolding advanced
advanced-ended zero effect s e is = refl
advanced-ended (suc n) effect s e is =
    ap (λ o. advanced n effect (moved_on s o)) (none-ended effect s e is) ∙ ap (advanced n effect) (stopped-ended s e is) ∙ advanced-ended n effect s e is

pub units-ended : (n : ℕ) (effect : HostEffect) (s : Standing) (e : Exit) → s.stage ≡ Ended e → units n effect s ≡ []
unfolding units
units-ended zero effect s e is = refl
units-ended (suc n) effect s e is = ap (λ o. unit_and o (units n effect (moved_on s o))) (none-ended effect s e is)

-- ---- One unit more

pub advanced-stop : (n : ℕ) (effect : HostEffect) (s : Standing) → unit_after effect s ≡ None → advanced (suc n) effect s ≡ stopped s
unfolding advanced
advanced-stop n effect s none =
    let end : (e : Exit) × ((stopped s).stage ≡ Ended e) = stopped-has s in
    ap (λ o. advanced n effect (moved_on s o)) none ∙ advanced-ended n effect (stopped s) end.0 end.1

pub units-stop : (n : ℕ) (effect : HostEffect) (s : Standing) → unit_after effect s ≡ None → units (suc n) effect s ≡ []
unfolding units
units-stop n effect s none = ap (λ o. unit_and o (units n effect (moved_on s o))) none

pub advanced-more : (n : ℕ) (effect : HostEffect) (s u : Standing) → unit_after effect s ≡ Some u → advanced (suc n) effect s ≡ advanced n effect u
unfolding advanced
advanced-more n effect s u some = ap (λ o. advanced n effect (moved_on s o)) some

pub units-more : (n : ℕ) (effect : HostEffect) (s u : Standing) → unit_after effect s ≡ Some u → units (suc n) effect s ≡ u ∷ units n effect u
unfolding units
units-more n effect s u some = ap (λ o. unit_and o (units n effect (moved_on s o))) some

-- ---- What follows

pub follows-none : (effect : HostEffect) (fuel : ℕ) (s : Standing) → Follows effect fuel 0 s s
follows-none effect fuel s =
    let all : fuel - 0 ≡ fuel = omega arith in
    let same : length (units (fuel - 0) effect s) ≡ length (units fuel effect s) = ap (λ k. length (units k effect s)) all in
    record { within = omega arith; here = ap (λ k. advanced k effect s) all; count = omega (arith, same) }

pub follows-more : (effect : HostEffect) (n k : ℕ) (s u t : Standing) → unit_after effect s ≡ Some u → Follows effect n k u t → Follows effect (suc n) (suc k) s t
follows-more effect n k s u t some on =
    let less : suc n - suc k ≡ n - k = omega arith in
    let same : length (units (suc n - suc k) effect t) ≡ length (units (n - k) effect t) = ap (λ j. length (units j effect t)) less in
    let all : length (units (suc n) effect s) ≡ length (u ∷ units n effect u) = ap length (units-more n effect s u some) in
    record {
      within = omega (arith, on.within);
      here = ap (λ j. advanced j effect t) less ∙ on.here ∙ sym (advanced-more n effect s u some);
      count = omega (arith, same, all, on.count);
    }

pub follows-stop : (effect : HostEffect) (n : ℕ) (s : Standing) → unit_after effect s ≡ None → Follows effect (suc n) 0 s (stopped s)
follows-stop effect n s none =
    let end : (e : Exit) × ((stopped s).stage ≡ Ended e) = stopped-has s in
    let left : length (units (suc n - 0) effect (stopped s)) ≡ 0 = ap length (units-ended (suc n - 0) effect (stopped s) end.0 end.1) in
    let all : length (units (suc n) effect s) ≡ 0 = ap length (units-stop n effect s none) in
    record {
      within = omega arith;
      here = advanced-ended (suc n - 0) effect (stopped s) end.0 end.1 ∙ sym (advanced-stop n effect s none);
      count = omega (arith, left, all);
    }

pub follows-then : (effect : HostEffect) (fuel a b : ℕ) (s t u : Standing) → Follows effect fuel a s t → Follows effect (fuel - a) b t u → Follows effect fuel (a + b) s u
follows-then effect fuel a b s t u first second =
    let less : fuel - (a + b) ≡ fuel - a - b = omega arith in
    let same : length (units (fuel - (a + b)) effect u) ≡ length (units (fuel - a - b) effect u) = ap (λ j. length (units j effect u)) less in
    record {
      within = omega (arith, first.within, second.within);
      here = ap (λ j. advanced j effect u) less ∙ second.here ∙ first.here;
      count = omega (arith, same, first.count, second.count);
    }

-- one attempt
once_by : (effect : HostEffect) (n k : ℕ) (s t : Standing) (o : Option Standing) → unit_after effect s ≡ o → t ≡ advanced 1 effect s → k ≡ length (units 1 effect s)
    → Follows effect (suc n) k s t
once_by effect n k s t None is here count =
    let there : t ≡ stopped s = here ∙ advanced-stop 0 effect s is in
    let none : k ≡ 0 = count ∙ ap length (units-stop 0 effect s is) in
    subst (λ j. Follows effect (suc n) j s t) (sym none) (subst (Follows effect (suc n) 0 s) (sym there) (follows-stop effect n s is))
once_by effect n k s t (Some u) is here count =
    let there : t ≡ u = here ∙ advanced-more 0 effect s u is ∙ advanced-none effect u in
    let one : k ≡ 1 = count ∙ ap length (units-more 0 effect s u is) ∙ ap (λ (us : List Standing). length (u ∷ us)) (units-none effect u) in
    subst (λ j. Follows effect (suc n) j s t) (sym one) (subst (Follows effect (suc n) 1 s) (sym there) (follows-more effect n 0 s u u is (follows-none effect n u)))

pub follows-once : (effect : HostEffect) (fuel k : ℕ) (s t : Standing) → 0 < fuel → t ≡ advanced 1 effect s → k ≡ length (units 1 effect s) → Follows effect fuel k s t
follows-once effect zero k s t some here count = absurd (omega (arith, some))
follows-once effect (suc n) k s t some here count = once_by effect n k s t (unit_after effect s) refl here count

once_moves_by : (effect : HostEffect) (k : ℕ) (s t : Standing) (o : Option Standing) → unit_after effect s ≡ o → t ≡ advanced 1 effect s → k ≡ length (units 1 effect s) → HasMoved k t.stage
once_moves_by effect k s t None is here count =
    let end : (e : Exit) × ((stopped s).stage ≡ Ended e) = stopped-has s in
    inr (ap (λ (x : Standing). has_ended x.stage) (here ∙ advanced-stop 0 effect s is) ∙ ap has_ended end.1)
once_moves_by effect k s t (Some u) is here count =
    let one : length (units 1 effect s) ≡ length (u ∷ units 0 effect u) = ap length (units-more 0 effect s u is) in
    inl (omega (arith, one, count))

pub once_moves : (effect : HostEffect) (k : ℕ) (s t : Standing) → t ≡ advanced 1 effect s → k ≡ length (units 1 effect s) → HasMoved k t.stage
once_moves effect k s t here count = once_moves_by effect k s t (unit_after effect s) refl here count

-- ---- The end of a turn

pub all_made : (effect : HostEffect) (fuel k : ℕ) (s t : Standing) → Follows effect fuel k s t → fuel ≤ k → IsTurn effect fuel k s t
all_made effect fuel k s t follows all =
    let none : fuel - k ≡ 0 = omega arith in
    let left : length (units (fuel - k) effect t) ≡ 0 = ap (λ j. length (units j effect t)) none ∙ ap length (units-none effect t) in
    record {
      here = sym (ap (λ j. advanced j effect t) none ∙ advanced-none effect t) ∙ follows.here;
      count = omega (arith, left, follows.count);
    }

pub ended_before : (effect : HostEffect) (fuel k : ℕ) (s t : Standing) → Follows effect fuel k s t → has_ended t.stage ≡ true → IsTurn effect fuel k s t
ended_before effect fuel k s t follows ended =
    let end : (e : Exit) × (t.stage ≡ Ended e) = ended_as t.stage ended in
    let left : length (units (fuel - k) effect t) ≡ 0 = ap length (units-ended (fuel - k) effect t end.0 end.1) in
    record {
      here = sym (advanced-ended (fuel - k) effect t end.0 end.1) ∙ follows.here;
      count = omega (arith, left, follows.count);
    }
