-- A memory in which a page was put.
use Rattle.std.proofs.Common.{◌≡◌, ◌≢◌, ℕ, Bool, true, false, cond, Some, refl, sym, ap, subst, ◌∙◌, Ordering}
use Rattle.std.specs.Prelude.{T}
use Rattle.std.specs.declared.cmp.Ordering.TheVariants.{Less, Equal, Greater}
use Rattle.std.specs.Ordering.{nat_cmp, eq_by_cmp, is_eq}
use Rattle.std.specs.Cmp.{nat_cmp_total, eq_by_cmp_equiv}
use Rattle.std.specs.FinMap as fin
use Rattle.std.specs.FinMap.{nat_cmp-IsAntisymmetric}
use Rattle.paged_memory.specs.PageMap.{Page, Memory}

equal : (r : Ordering) → is_eq r ≡ true → r ≡ Equal
equal Less h = absurd (subst T (sym h) tt)
equal Equal h = refl
equal Greater h = absurd (subst T (sym h) tt)

apart : (q k : ℕ) → q ≢ k → eq_by_cmp nat_cmp q k ≡ false
apart q k far = elim (eq_by_cmp nat_cmp q k) as (λ b. eq_by_cmp nat_cmp q k ≡ b → b ≡ false) [
  | true ↦ λ e. absurd (far (nat_cmp-IsAntisymmetric q k (equal (nat_cmp q k) e)))
  | false ↦ λ e. refl
] refl

pub inserted_there : (m : Memory) (k : ℕ) (page : Page) → fin.get (fin.insert m k page) k ≡ Some page
inserted_there m k page = fin.get-insert nat_cmp_total m k page k ∙ ap (λ (b : Bool). cond b (Some page) (fin.get m k)) ((eq_by_cmp_equiv nat_cmp_total).refl k)

pub inserted_other : (m : Memory) (k : ℕ) (page : Page) (q : ℕ) → q ≢ k → fin.get (fin.insert m k page) q ≡ fin.get m q
inserted_other m k page q far = fin.get-insert nat_cmp_total m k page q ∙ ap (λ (b : Bool). cond b (Some page) (fin.get m q)) (apart q k far)
