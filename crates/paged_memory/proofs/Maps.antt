-- Look-ups in finite maps by numbers.
use Rattle.std.proofs.Common.{◌≡◌, ◌≢◌, ◌⊎◌, inl, inr, ℕ, Bool, true, false, cond, Some, None, Option, refl, sym, ap, subst, ◌∙◌, Ordering}
use Rattle.std.specs.Prelude.{T}
use Rattle.std.specs.declared.cmp.Ordering.TheVariants.{Less, Equal, Greater}
use Rattle.std.specs.Ordering.{nat_cmp, eq_by_cmp, is_eq}
use Rattle.std.specs.Cmp.{nat_cmp_total, eq_by_cmp_equiv}
use Rattle.std.specs.FinMap as fin
use Rattle.std.specs.FinMap.{nat_cmp-IsAntisymmetric}
use Rattle.paged_memory.specs.PageMap.{Page, Memory}
use Rattle.paged_memory.specs.Seen.{placed}

equal : (r : Ordering) → is_eq r ≡ true → r ≡ Equal
equal Less h = absurd (subst T (sym h) tt)
equal Equal h = refl
equal Greater h = absurd (subst T (sym h) tt)

-- two keys are equal, or the order tells them apart
pub same_or : (q k : ℕ) → (q ≡ k) ⊎ (eq_by_cmp nat_cmp q k ≡ false)
same_or q k = elim (eq_by_cmp nat_cmp q k) as (λ b. eq_by_cmp nat_cmp q k ≡ b → (q ≡ k) ⊎ (eq_by_cmp nat_cmp q k ≡ false)) [
  | true ↦ λ e. inl (nat_cmp-IsAntisymmetric q k (equal (nat_cmp q k) e))
  | false ↦ λ e. inr e
] refl

pub itself : (k : ℕ) → eq_by_cmp nat_cmp k k ≡ true
itself k = (eq_by_cmp_equiv nat_cmp_total).refl k

apart : (q k : ℕ) → q ≢ k → eq_by_cmp nat_cmp q k ≡ false
apart q k h = elim (same_or q k) [ inl e ↦ absurd (h e) | inr e ↦ e ]

-- maps that answer alike
pub alike : (m n : Memory) → ((q : ℕ) → fin.get m q ≡ fin.get n q) → m ≡ n
alike m n h = fin.same_map nat_cmp_total nat_cmp-IsAntisymmetric m n h

pub get-placed : (m : Memory) (k : ℕ) (o : Option Page) (q : ℕ) → fin.get (placed m k o) q ≡ cond (eq_by_cmp nat_cmp q k) o (fin.get m q)
get-placed m k None q = fin.get-remove nat_cmp_total m k q
get-placed m k (Some page) q = fin.get-insert nat_cmp_total m k page q

pub placed_there : (m : Memory) (k : ℕ) (o : Option Page) → fin.get (placed m k o) k ≡ o
placed_there m k o = get-placed m k o k ∙ ap (λ b. cond b o (fin.get m k)) (itself k)

pub placed_other : (m : Memory) (k : ℕ) (o : Option Page) (q : ℕ) → q ≢ k → fin.get (placed m k o) q ≡ fin.get m q
placed_other m k o q h = get-placed m k o q ∙ ap (λ b. cond b o (fin.get m q)) (apart q k h)

pub inserted_there : (m : Memory) (k : ℕ) (page : Page) → fin.get (fin.insert m k page) k ≡ Some page
inserted_there m k page = placed_there m k (Some page)

pub inserted_other : (m : Memory) (k : ℕ) (page : Page) (q : ℕ) → q ≢ k → fin.get (fin.insert m k page) q ≡ fin.get m q
inserted_other m k page q h = placed_other m k (Some page) q h

-- a page in its own place
pub placed_same : (m : Memory) (k : ℕ) (o : Option Page) → fin.get m k ≡ o → placed m k o ≡ m
placed_same m k o h = alike (placed m k o) m (λ q. elim (same_or q k) [
  | inl e ↦ subst (λ (x : ℕ). fin.get (placed m k o) x ≡ fin.get m x) (sym e) (placed_there m k o ∙ sym h)
  | inr e ↦ get-placed m k o q ∙ ap (λ b. cond b o (fin.get m q)) e
])

twice : {A : Type 0} (b : Bool) (x y z : A) → cond b x (cond b y z) ≡ cond b x z
twice true x y z = refl
twice false x y z = refl

pub placed_twice : (m : Memory) (k : ℕ) (a b : Option Page) → placed (placed m k a) k b ≡ placed m k b
placed_twice m k a b = alike (placed (placed m k a) k b) (placed m k b) (λ q.
    get-placed (placed m k a) k b q ∙ ap (cond (eq_by_cmp nat_cmp q k) b) (get-placed m k a q)
    ∙ twice (eq_by_cmp nat_cmp q k) b a (fin.get m q) ∙ sym (get-placed m k b q))
