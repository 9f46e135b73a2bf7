-- Accounts of a version, one after another.
use Rattle.std.proofs.Common.{◌≡◌, ℕ, zero, suc, ◌<◌, ◌^◌, ◌⊎◌, inl, inr, Bool, true, false, cond, Some, refl, sym, ap, ◌∙◌, subst, arith}
use Rattle.std.specs.Ordering.{nat_cmp, eq_by_cmp}
use Rattle.std.specs.Cmp.{nat_cmp_total}
use Rattle.std.proofs.lemmas.Bool.Decides.{nat_tests}
use Rattle.std.specs.FinMap as fin
use Rattle.jam_accounts.specs.Accounts.{Account, Accounts, is_version, IsOfVersion, AreOfVersion}

pub none_of_version : (version : ℕ) (m : Accounts) → m ≡ fin.empty → AreOfVersion version m
none_of_version version m none id account there = absurd (cc (sym (fin.get-empty nat_cmp id) ∙ ap (λ (n : Accounts). fin.get n id) (sym none) ∙ there))

either_of_version : (version : ℕ) (m : Accounts) (account : Account) → AreOfVersion version m → IsOfVersion version account
    → (id : ℕ) (found : Account) (b : Bool) → cond b (Some account) (fin.get m id) ≡ Some found → IsOfVersion version found
either_of_version version m account all one id found true there =
    let same : account ≡ found = cc in
    subst (IsOfVersion version) same one
either_of_version version m account all one id found false there = all id found there

pub one_of_version : (version : ℕ) (m n : Accounts) (id : ℕ) (account : Account) → AreOfVersion version m → IsOfVersion version account → n ≡ fin.insert m id account → AreOfVersion version n
one_of_version version m n id account all one put other found there =
    either_of_version version m account all one other found (eq_by_cmp nat_cmp other id)
    (sym (fin.get-insert nat_cmp_total m id account other) ∙ ap (λ (x : Accounts). fin.get x other) (sym put) ∙ there)

-- the versions
no_other : (n : ℕ) → is_version (suc (suc (suc n))) ≡ true → ⊥
no_other n e = grind (arith, nat_tests)

pub one_or_two : (version : ℕ) → is_version version ≡ true → (version ≡ 1) ⊎ (version ≡ 2)
one_or_two zero e = absurd (cc e)
one_or_two (suc zero) e = inl refl
one_or_two (suc (suc zero)) e = inr refl
one_or_two (suc (suc (suc n))) e = absurd (no_other n e)

pub second : (version : ℕ) → is_version version ≡ true → (version ≡ 1 → ⊥) → version ≡ 2
second version e other = elim (one_or_two version e) [
  | inl first ↦ absurd (other first)
  | inr found ↦ found
]

pub version_small : (version : ℕ) → is_version version ≡ true → version < 2 ^ 64
version_small version e = elim (one_or_two version e) [
  | inl first ↦ omega (arith, first)
  | inr found ↦ omega (arith, found)
]
